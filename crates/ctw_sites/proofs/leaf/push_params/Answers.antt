use Rattle.std.proofs.Common.{◌∙◌, sym, ap, arith}
use Rattle.ctw_labels.specs.declared.name.SiteName.TheVariants.{IParam}
use Rattle.ctw_labels.specs.Names.{site}
use Rattle.std.specs.Prelude.{[], ◌∷◌}
use Rattle.ctw_sites.specs.Packed.{after}
use Rattle.ctw_sites.proofs.PackedLaws.{named_more, named_length, after_none}
use Rattle.ctw_sites.proofs.leaf.push_params.Goals as goal

pub params-init : goal.params-init
params-init c = sym (after_none c.args.packer.now)

pub push-requires : goal.push-requires
push-requires c =
    let e = ap (λ z. z.count) c.params.invariant in
    let l = named_length (IParam c.args.f c.args.at) 0 c.params.i in
    omega (arith, e, l, c.requires, c.params-test.true)

pub params-preserved : goal.params-preserved
params-preserved c =
    c.in_ok-push.ensures ∙ ap (λ z. after z (site (IParam c.args.f c.args.at c.params.i) ∷ [])) c.params.invariant
    ∙ named_more c.args.packer.now (IParam c.args.f c.args.at) c.params.i
