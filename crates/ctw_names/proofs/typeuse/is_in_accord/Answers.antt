use Rattle.std.proofs.Common.{ap, sym, ◌∙◌}
use Rattle.std.specs.Option.{option_copied}
use Rattle.ctw_names.proofs.UseLaws.{no_accord}
use Rattle.ctw_names.proofs.typeuse.is_in_accord.Goals as goal

pub returns-in_default : goal.returns-in_default
returns-in_default c =
    no_accord c.args.u.now c.args.entries.now c.args.n (sym c.is_bare.ensures ∙ c.if-is_bare.false) (sym c.at.ensures ∙ ap (λ o. option_copied o) c.in_default.is)
