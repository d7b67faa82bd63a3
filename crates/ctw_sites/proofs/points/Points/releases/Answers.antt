use Rattle.std.proofs.Common.{◌∙◌, ap}
use Rattle.ctw_labels.specs.Points.{is_released}
use Rattle.ctw_sites.proofs.PointLaws.{any_release}
use Rattle.ctw_sites.proofs.points.Points.releases.Goals as goal

pub returns : goal.returns
returns c =
    c.contains.ensures ∙ any_release c.args.f c.args.at c.self.inside.releases.keys
    ∙ ap (λ v. is_released v c.args.f c.args.at) c.self.view_is
