use Rattle.std.proofs.Common.{◌∙◌, ap}
use Rattle.std.specs.Prelude.{◌==◌, ◌&&◌, ◌||◌}
use Rattle.ctw_labels.specs.Points.{is_released}
use Rattle.ctw_sites.proofs.PointLaws.{release_added}
use Rattle.ctw_sites.proofs.points.Points.add_release.Goals as goal

pub returns-clause-releases : goal.returns-clause-releases
returns-clause-releases c = λ g k.
    release_added c.args.f c.args.at g k c.self.inside.releases.keys c.insert.new.self.keys
    (c.in_ok-insert.ensures.updates.0 (g, k))
    ∙ ap (λ v. (c.args.f == g && c.args.at == k) || is_released v g k) c.self.view_is
