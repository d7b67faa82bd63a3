use Rattle.ctw_lines.proofs.TypesText.{values_added}
use Rattle.ctw_lines.proofs.types.add_values.Goals as goal

pub returns : goal.returns
returns c =
    values_added c.add_more_values.result c.args.line.now.items c.extend_from_slice.new.self.items c.add_more_values.new.line.items c.value_word.result.now c.args.types.now c.first-item.result c.in-len1-up.len_at_least c.first-item.is c.value_word.ensures
    c.in_ok-extend_from_slice.ensures.items c.add_more_values.ensures
