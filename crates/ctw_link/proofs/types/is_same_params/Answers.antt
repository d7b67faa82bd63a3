use Rattle.std.proofs.Common.{◌∙◌}
use Rattle.ctw_link.proofs.TypeBytes.{same_params}
use Rattle.ctw_link.proofs.types.is_same_params.Goals as goal

pub returns : goal.returns
returns c = c.eq.ensures ∙ same_params c.args.a.now c.args.b.now c.requires.first c.requires.second
