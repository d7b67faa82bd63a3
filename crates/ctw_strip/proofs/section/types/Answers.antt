use Rattle.std.proofs.Common.{◌≡◌, ◌≤◌, Some, length, arith}
use Rattle.std.specs.Prelude.{slice_get}
use Rattle.ctw_ops.specs.Tree.{TypeEntry}
use Rattle.ctw_ops.specs.declared.types.Label.{Label}
use Rattle.ctw_module.specs.Trees.{tree}
use Rattle.ctw_write.specs.Canon.{type_entry_text}
use Rattle.ctw_write.proofs.Listed.{listed_next}
use Rattle.ctw_write.proofs.Shorter.{item_short, section_short}
use Rattle.ctw_write.proofs.Shown.{entry_is, entry_short}
use Rattle.ctw_strip.specs.Stripped.{kept_text}
use Rattle.ctw_strip.proofs.Mapped.{kept_end}
use Rattle.ctw_strip.proofs.section.types.Goals as goal

pub put_kept-requires : goal.put_kept-requires
put_kept-requires c =
    let m = tree c.args.m.now in
    let entry : TypeEntry Label = record { base = c.variant_of-base.result; type = c.func_type-ty.result } in
    let there : slice_get m.types c.loop-i.i ≡ Some entry = entry_is m c.loop-i.i c.variant_of-base.result c.func_type-ty.result c.variant_of-base.ensures c.func_type-ty.ensures in
    entry_short entry (item_short 1 type_entry_text m.types c.loop-i.i entry (section_short m 1 c.requires.own) there)

pub loop-i-preserved : goal.loop-i-preserved
loop-i-preserved c =
    let m = tree c.args.m.now in
    let entry : TypeEntry Label = record { base = c.variant_of-base.result; type = c.func_type-ty.result } in
    let there : slice_get m.types c.loop-i.i ≡ Some entry = entry_is m c.loop-i.i c.variant_of-base.result c.func_type-ty.result c.variant_of-base.ensures c.func_type-ty.ensures in
    listed_next kept_text m.types c.loop-i.i entry c.put_u32.new.out.items c.loop-i.out.items c.put_kept.new.out.items there c.in_ok-put_kept.ensures c.loop-i.invariant

pub returns : goal.returns
returns c =
    let types = (tree c.args.m.now).types in
    let past : length types ≤ c.loop-i.i = omega (arith, c.type_count-i-end.ensures, c.loop-i-test.false) in
    kept_end types c.loop-i.i c.kept_count.result c.args.out.now.items c.put_u32.new.out.items c.loop-i.out.items c.kept_count.ensures past c.in_ok-put_u32.ensures.put c.loop-i.invariant
