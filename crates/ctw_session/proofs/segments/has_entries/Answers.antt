use Rattle.std.proofs.Common.{◌+◌, ◌-◌, is_some, ap, ◌∙◌, arith}
use Rattle.ctw_session.proofs.Checking.{has_last}
use Rattle.ctw_session.proofs.segments.has_entries.Goals as goal

pub returns : goal.returns
returns c = λ t e.
    let end = c.saturating_add-end.result in
    c.is_some.ensures ∙ ap is_some (c.entry.ensures t e) ∙ has_last t.entries (end - 1) (c.args.at + c.args.count) (λ h. grind (arith, h)) (λ h. grind (arith, h))
