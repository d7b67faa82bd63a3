use Rattle.std.proofs.Common.{arith, sym}
use Rattle.ctw_module.specs.Trees.{tree}
use Rattle.ctw_modcheck.proofs.Variants.{entry_at, plain_more, first_is, none_first}
use Rattle.ctw_modcheck.proofs.types.first_variant.Goals as goal

pub returns-then-is_some : goal.returns-then-is_some
returns-then-is_some c =
    let types = (tree c.args.m.now).types in
    first_is types c.entries.i c.variant_of.result (entry_at types c.entries.i c.variant_of.result c.variant_of.ensures) (sym c.if-is_some.ensures) c.entries.invariant

pub entries-preserved : goal.entries-preserved
entries-preserved c =
    let types = (tree c.args.m.now).types in
    plain_more types c.entries.i c.variant_of.result (entry_at types c.entries.i c.variant_of.result c.variant_of.ensures) (sym c.if-is_some.ensures) c.entries.invariant

pub returns : goal.returns
returns c = none_first (tree c.args.m.now).types c.entries.i (omega arith) c.entries.invariant
