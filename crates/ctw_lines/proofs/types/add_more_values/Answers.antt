use Rattle.std.proofs.Common.{◌∙◌, ap}
use Rattle.ctw_lines.specs.Types.{value_word}
use Rattle.ctw_lines.proofs.TypesText.{type_more, types_all}
use Rattle.ctw_lines.proofs.types.add_more_values.Goals as goal

pub types-preserved : goal.types-preserved
types-preserved c =
    type_more c.types.line.items c.add_word.new.line.items c.args.line.now.items c.value_word.result.now c.args.types.now c.types.ty-index c.ty-item.result c.types-test.true (c.value_word.ensures ∙ ap value_word c.ty-item.is) c.types.invariant
    c.in_ok-add_word.ensures

pub returns : goal.returns
returns c = types_all c.types.line.items c.args.line.now.items c.args.types.now c.types.ty-index c.types-test.false c.types.auto.ty-index-end c.types.invariant
