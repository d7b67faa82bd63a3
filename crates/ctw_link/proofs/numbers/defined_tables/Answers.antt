use Rattle.std.proofs.Common.{◌∙◌, is_some, ap}
use mir.Val.{bool_byte}
use Rattle.ctw_module.specs.Trees.{tree}
use Rattle.ctw_link.proofs.Totals.{one_where_some}
use Rattle.ctw_link.proofs.numbers.defined_tables.Goals as goal

pub returns : goal.returns
returns c = c.from.ensures ∙ ap bool_byte (c.is_some.ensures ∙ ap is_some c.defined_table.ensures) ∙ one_where_some (tree c.args.m.now).table
