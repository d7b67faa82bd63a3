use Rattle.std.proofs.Common.{◌∙◌, ap, arith}
use Rattle.ctw_module.specs.Trees.{view_module}
use Rattle.ctw_labels.specs.Points.{no_points}
use Rattle.ctw_labels.specs.SitedModule.{bodies, body_sites, head_sites}
use Rattle.ctw_sites.specs.Packed.{after}
use Rattle.ctw_sites.proofs.Answered.{ok_then}
use Rattle.ctw_sites.proofs.PackedLaws.{after_both}
use Rattle.ctw_sites.proofs.gather.gather.Goals as goal

pub returns-clause-sites : goal.returns-clause-sites
returns-clause-sites c =
    let m = view_module c.args.m.now in
    ok_then c.add_bodies.result c.add_bodies.ensures.sites (λ e.
    e ∙ ap (λ z. after z (body_sites (bodies m no_points))) c.in_ok-globals.ensures.sites ∙ after_both c.args.packer.now (head_sites m) (body_sites (bodies m no_points)))
