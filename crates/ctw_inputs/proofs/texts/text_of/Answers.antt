use Rattle.std.proofs.Common.{sym, ap, ◌∙◌, subst}
use Rattle.ctw_inputs.specs.Settling.{IsStop}
use Rattle.ctw_inputs.proofs.TextsRead.{is_text, not_text}
use Rattle.ctw_inputs.proofs.texts.text_of.Goals as goal

pub returns-in-Ok-clause-told : goal.returns-in-Ok-clause-told
returns-in-Ok-clause-told c = λ go. is_text c.args.name.now c.args.bytes.now go c.in-Ok.ensures.cases.1 ∙ ap go (sym c.in-Ok.ensures.cases.0)

pub returns-in-Err-clause-told : goal.returns-in-Err-clause-told
returns-in-Err-clause-told c = λ go.
    subst (IsStop c.refuse.result) (sym (not_text c.args.name.now c.args.bytes.now c.valid_up_to.result go c.in-Err.ensures.cases.0 (c.valid_up_to.ensures ∙ c.in-Err.ensures.valid_len)))
    (c.refuse.ensures.told _ c.not_text_line.ensures)
