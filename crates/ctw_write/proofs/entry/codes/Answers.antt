use Rattle.std.proofs.Common.{◌<◌, length, arith}
use Rattle.ctw_module.specs.Trees.{tree}
use Rattle.ctw_write.specs.Canon.{code_text}
use Rattle.ctw_write.proofs.Listed.{listed_next, item_there}
use Rattle.ctw_write.proofs.Shorter.{section_short, item_short}
use Rattle.ctw_write.proofs.Shown.{defined_count}
use Rattle.ctw_write.proofs.Running.{named_at}
use Rattle.ctw_write.proofs.entry.codes.Goals as goal

pub put_entry-requires-clause-named : goal.put_entry-requires-clause-named
put_entry-requires-clause-named c =
    let m = tree c.args.m.now in
    let lt : c.loop-i.i < length m.functions = omega (arith, c.loop-i-test.true, c.func_count.ensures, defined_count m c.imported_count-imported.result c.imported_count-imported.ensures) in
    let a = item_there m.functions c.loop-i.i lt in
    (a.0, named_at m c.imported_count-imported.result c.loop-i.i a.0 c.imported_count-imported.ensures a.1, item_short 10 code_text m.functions c.loop-i.i a.0 (section_short m 10 c.requires) a.1)

pub loop-i-preserved : goal.loop-i-preserved
loop-i-preserved c =
    let m = tree c.args.m.now in
    let lt : c.loop-i.i < length m.functions = omega (arith, c.loop-i-test.true, c.func_count.ensures, defined_count m c.imported_count-imported.result c.imported_count-imported.ensures) in
    let a = item_there m.functions c.loop-i.i lt in
    let put = c.in_ok-put_entry.ensures a.0 (named_at m c.imported_count-imported.result c.loop-i.i a.0 c.imported_count-imported.ensures a.1) in
    listed_next code_text m.functions c.loop-i.i a.0 c.put_u32.new.out.items c.loop-i.out.items c.put_entry.new.out.items a.1 put c.loop-i.invariant
