use Rattle.std.proofs.Common.{sym, ◌∙◌, arith}
use Rattle.ctw_module.specs.Trees.{tree}
use Rattle.ctw_strip.proofs.Bases.{base_is, base_past}
use Rattle.ctw_strip.proofs.item.base_index.Goals as goal

pub returns-then-index-type_count : goal.returns-then-index-type_count
returns-then-index-type_count c = sym (base_past (tree c.args.m.now).types c.args.index (omega (arith, c.if-index-type_count.true, c.type_count.ensures)))

pub returns : goal.returns
returns c = c.unwrap_or.ensures ∙ sym (base_is (tree c.args.m.now).types c.args.index c.variant_of.result c.variant_of.ensures)
