use Rattle.std.proofs.Common.{◌≡◌, ◌<◌, ◌≤◌, ◌-◌, length, arith}
use Rattle.ctw_ops.specs.Tree.{Function}
use Rattle.ctw_ops.specs.declared.types.Label.{Label}
use Rattle.ctw_ops.specs.Erasure.{erase_function, erase_module}
use Rattle.ctw_module.specs.Trees.{tree}
use Rattle.ctw_write.specs.Canon.{code_text}
use Rattle.ctw_write.proofs.Listed.{listed_next, item_there}
use Rattle.ctw_write.proofs.Shorter.{section_short, item_short}
use Rattle.ctw_write.proofs.Shown.{defined_count}
use Rattle.ctw_write.proofs.Running.{named_at}
use Rattle.ctw_strip.proofs.Mapped.{mapped_at, mapped_end}
use Rattle.ctw_strip.proofs.entry.codes.Goals as goal

pub put_entry-requires-clause-named : goal.put_entry-requires-clause-named
put_entry-requires-clause-named c =
    let m = tree c.args.m.now in
    let lt : c.loop-i.i < length m.functions = omega (arith, c.loop-i-test.true, c.func_count.ensures, defined_count m c.imported_count-imported.result c.imported_count-imported.ensures) in
    let a = item_there m.functions c.loop-i.i lt in
    let there = mapped_at (erase_function m.types) m.functions c.loop-i.i a.0 a.1 in
    (a.0, named_at m c.imported_count-imported.result c.loop-i.i a.0 c.imported_count-imported.ensures a.1, item_short 10 code_text (erase_module m).functions c.loop-i.i (erase_function m.types a.0) (section_short (erase_module m) 10 c.requires.erased) there)

pub loop-i-preserved : goal.loop-i-preserved
loop-i-preserved c =
    let m = tree c.args.m.now in
    let lt : c.loop-i.i < length m.functions = omega (arith, c.loop-i-test.true, c.func_count.ensures, defined_count m c.imported_count-imported.result c.imported_count-imported.ensures) in
    let a = item_there m.functions c.loop-i.i lt in
    let put = c.in_ok-put_entry.ensures a.0 (named_at m c.imported_count-imported.result c.loop-i.i a.0 c.imported_count-imported.ensures a.1) in
    listed_next (λ (f : Function Label). code_text (erase_function m.types f)) m.functions c.loop-i.i a.0 c.put_u32.new.out.items c.loop-i.out.items c.put_entry.new.out.items a.1 put c.loop-i.invariant

pub returns : goal.returns
returns c =
    let m = tree c.args.m.now in
    let n = c.func_count.result - c.imported_count-imported.result in
    let size : n ≡ length m.functions = omega (arith, c.func_count.ensures, defined_count m c.imported_count-imported.result c.imported_count-imported.ensures) in
    let past : n ≤ c.loop-i.i = omega (arith, c.loop-i-test.false) in
    mapped_end code_text (erase_function m.types) m.functions c.loop-i.i n c.args.out.now.items c.put_u32.new.out.items c.loop-i.out.items size past c.in_ok-put_u32.ensures.put c.loop-i.invariant
