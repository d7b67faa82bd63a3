use Rattle.std.proofs.Common.{◌∙◌, ap}
use Rattle.std.specs.Prelude.{◌==◌, ◌||◌}
use Rattle.ctw_labels.specs.Points.{has_number}
use Rattle.ctw_sites.proofs.PointLaws.{number_added}
use Rattle.ctw_sites.proofs.points.Points.add_trust.Goals as goal

pub returns-clause-trusted : goal.returns-clause-trusted
returns-clause-trusted c = λ g.
    number_added c.args.f g c.self.inside.trusted.keys c.insert.new.self.keys (c.in_ok-insert.ensures.updates.0 g)
    ∙ ap (λ v. c.args.f == g || has_number g v.trusted) c.self.view_is
