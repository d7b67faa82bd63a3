use Rattle.std.proofs.Common.{sym}
use Rattle.ctw_module.specs.Trees.{tree}
use Rattle.ctw_modcheck.specs.Faults.{is_variant}
use Rattle.ctw_modcheck.proofs.Loops.{tested_more, tested_fails}
use Rattle.ctw_modcheck.proofs.Variants.{entry_at, variant_at}
use Rattle.ctw_modcheck.proofs.types.are_variants_from.Goals as goal

pub returns-then-is_none : goal.returns-then-is_none
returns-then-is_none c =
    let types = (tree c.args.m.now).types in
    let h = entry_at types c.entries.i c.variant_of.result c.variant_of.ensures in
    sym (tested_fails is_variant types c.args.first c.entries.i h.entry h.is (variant_at types c.entries.i c.variant_of.result _ h c.if-is_none.ensures) c.entries.invariant)

pub entries-preserved : goal.entries-preserved
entries-preserved c =
    let types = (tree c.args.m.now).types in
    let h = entry_at types c.entries.i c.variant_of.result c.variant_of.ensures in
    tested_more is_variant types c.args.first c.entries.i h.entry h.is (variant_at types c.entries.i c.variant_of.result _ h c.if-is_none.ensures) c.entries.invariant
