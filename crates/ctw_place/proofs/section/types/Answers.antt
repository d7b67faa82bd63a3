use Rattle.std.proofs.Common.{◌≡◌, ◌∙◌, ◌<◌, ◌≤◌, ◌+◌, ◌++◌, None, length, arith}
use Rattle.ctw_ops.specs.Tree.{TypeEntry}
use Rattle.ctw_ops.specs.declared.types.Label.{Label}
use Rattle.ctw_module.specs.Trees.{tree}
use Rattle.ctw_write.specs.Canon.{type_entry_text, vector_text}
use Rattle.ctw_write.proofs.Listed.{listed_next}
use Rattle.ctw_write.proofs.Shorter.{item_short, section_short}
use Rattle.ctw_write.proofs.Shown.{entry_short}
use Rattle.ctw_write.proofs.Walked.{extended}
use Rattle.ctw_place.specs.Bodies.{placed_of, variants_of}
use Rattle.ctw_place.specs.Settings.{module_of}
use Rattle.ctw_place.proofs.SectionLaws.{entry_there, entry_untrusted, entries_end}
use Rattle.ctw_place.proofs.section.types.Goals as goal

pub overflow_add-count : goal.overflow_add-count
overflow_add-count c = omega (arith, c.type_count-count.ensures, c.requires.made.variants.count, c.requires.short.few)

pub put_entry-requires : goal.put_entry-requires
put_entry-requires c =
    let lt : c.loop-i.i < length (module_of c.args.setting.now).types = omega (arith, c.type_count-count.ensures, c.loop-i-test.true) in
    let entry : TypeEntry Label = record { base = None; type = c.func_type-ty.result } in
    let there = entry_there (module_of c.args.setting.now) c.requires.plain c.loop-i.i lt c.func_type-ty.result c.func_type-ty.ensures in
    record {
      trust = entry_untrusted (module_of c.args.setting.now) c.requires.plain c.loop-i.i lt c.func_type-ty.result c.func_type-ty.ensures;
      few = entry_short entry (item_short 1 type_entry_text (module_of c.args.setting.now).types c.loop-i.i entry (section_short (tree c.args.setting.now.whole.now) 1 c.requires.short.own) there);
    }

pub loop-i-preserved : goal.loop-i-preserved
loop-i-preserved c =
    let lt : c.loop-i.i < length (module_of c.args.setting.now).types = omega (arith, c.type_count-count.ensures, c.loop-i-test.true) in
    let entry : TypeEntry Label = record { base = None; type = c.func_type-ty.result } in
    let there = entry_there (module_of c.args.setting.now) c.requires.plain c.loop-i.i lt c.func_type-ty.result c.func_type-ty.ensures in
    listed_next type_entry_text (module_of c.args.setting.now).types c.loop-i.i entry c.put_u32.new.out.items c.loop-i.out.items c.put_entry.new.out.items there c.in_ok-put_entry.ensures c.loop-i.invariant

pub returns : goal.returns
returns c =
    let le : length (module_of c.args.setting.now).types ≤ c.loop-i.i = omega (arith, c.type_count-count.ensures, c.loop-i-test.false) in
    let n : c.type_count-count.result + c.args.made.now.variants.count ≡ length (module_of c.args.setting.now).types + length (variants_of c.args.setting.now) = omega (arith, c.type_count-count.ensures, c.requires.made.variants.count) in
    let whole = entries_end (module_of c.args.setting.now).types (variants_of c.args.setting.now) c.loop-i.i (c.type_count-count.result + c.args.made.now.variants.count) c.args.out.now.items c.put_u32.new.out.items c.loop-i.out.items c.deref.result.now le n c.in_ok-put_u32.ensures.put c.loop-i.invariant
    (c.deref.ensures.value ∙ c.requires.made.variants.texts) in
    extended c.extend_from_slice.result c.extend_from_slice.new.self.items c.loop-i.out.items c.deref.result.now (c.args.out.now.items ++ vector_text type_entry_text (placed_of c.args.setting.now).types) c.extend_from_slice.ensures.items whole
