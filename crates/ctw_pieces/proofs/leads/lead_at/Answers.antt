use Rattle.std.proofs.Common.{ap, ◌∙◌}
use Rattle.ctw_pieces.specs.Leads.{lead_of_tok}
use Rattle.ctw_pieces.proofs.LeadKinds.{there}
use Rattle.ctw_pieces.proofs.leads.lead_at.Goals as goal

pub returns : goal.returns
returns c =
    c.lead_of_tok.ensures
    ∙ (ap lead_of_tok c.in_ok-tok.ensures ∙ there c.args.tokens.now c.args.at _ c.at-token.ensures.token)
