use Rattle.std.proofs.Common.{◌∙◌, ap}
use Rattle.ctw_labels.specs.Points.{has_number}
use Rattle.ctw_sites.proofs.PointLaws.{any_number}
use Rattle.ctw_sites.proofs.points.Points.trusted.Goals as goal

pub returns : goal.returns
returns c = c.contains.ensures ∙ any_number c.args.f c.self.inside.trusted.keys ∙ ap (λ v. has_number c.args.f v.trusted) c.self.view_is
