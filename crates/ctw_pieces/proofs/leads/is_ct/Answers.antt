use Rattle.std.proofs.Common.{◌∙◌}
use Rattle.ctw_text.specs.Toks.{toks_of}
use Rattle.ctw_pieces.proofs.LeadKinds.{told_by}
use Rattle.ctw_pieces.proofs.leads.is_ct.Goals as goal

pub returns : goal.returns
returns c =
    c.by_leads.ensures
    ∙ told_by (toks_of c.args.tokens.now) _ _ _ _ c.in_ok-first.ensures c.in_ok-second.ensures c.in_ok-third.ensures c.in_ok-fourth.ensures
