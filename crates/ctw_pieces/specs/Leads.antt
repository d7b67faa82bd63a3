-- What tells a CT module: its first tokens.
use Rattle.std.specs.Prelude.{Bool, true, false, List, [], ◌∷◌}
use Rattle.ctw_text.specs.declared.keys.Key.TheVariants.{Module as KModule, Ct as KCt}
use Rattle.ctw_text.specs.declared.toks.Tok.{Tok}
use Rattle.ctw_text.specs.declared.toks.Tok.TheVariants.{Open, Id, Word}
use Rattle.ctw_pieces.specs.declared.leads.Lead.{Lead}
use Rattle.ctw_pieces.specs.declared.leads.Lead.TheVariants as lead

abbrev pub lead_of_tok : Tok → Lead
lead_of_tok (Open at) = lead.Open
lead_of_tok (Word KModule) = lead.Module
lead_of_tok (Word KCt) = lead.Ct
lead_of_tok (Id w) = lead.Id
lead_of_tok _ = lead.Other

abbrev pub lead_of : List Tok → Lead
lead_of [] = lead.Other
lead_of (t ∷ ts) = lead_of_tok t

abbrev pub by_leads : Lead → Lead → Lead → Lead → Bool
by_leads lead.Open lead.Module lead.Ct fourth = true
by_leads lead.Open lead.Module lead.Id lead.Ct = true
by_leads first second third fourth = false
