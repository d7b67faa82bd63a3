use Rattle.std.proofs.Common.{◌≡◌, ◌∙◌, [], ◌∷◌, length, ap, subst, arith}
use Rattle.ctw_labels.specs.declared.name.SiteName.TheVariants.{IParam, IResult}
use Rattle.ctw_labels.specs.Names.{site}
use Rattle.ctw_labels.specs.Numbering.{site_if}
use Rattle.std.specs.Prelude.{OnOk}
use Rattle.ctw_sites.specs.Packed.{after}
use Rattle.ctw_sites.proofs.LeafLaws.{user_length, user_none, user_some}
use Rattle.ctw_sites.proofs.PackedLaws.{named_length}
use Rattle.ctw_sites.proofs.leaf.push_user.Goals as goal

pub push_params-requires : goal.push_params-requires
push_params-requires c = let l = user_length c.args.f c.args.at c.args.params c.args.width in omega (arith, l, c.requires)

pub push-requires : goal.push-requires
push-requires c =
    let e = ap (λ z. z.count) c.in_ok-push_params.ensures in
    let n = named_length (IParam c.args.f c.args.at) 0 c.args.params in
    let l = user_length c.args.f c.args.at c.args.params c.args.width in
    let w = ap (λ z. length (site_if (IResult c.args.f c.args.at) z)) c.in-Some.is in
    omega (arith, e, n, l, w, c.requires)

pub returns-in-Some : goal.returns-in-Some
returns-in-Some c =
    let a = ap (λ z. after z (site (IResult c.args.f c.args.at) ∷ [])) c.in_ok-push_params.ensures in
    let u = user_some c.args.packer.now c.args.f c.args.at c.args.params c.args.width c.in-Some.field-0 c.in-Some.is in
    subst (λ z. OnOk c.push.result (c.push.new.self ≡ z)) (a ∙ u) c.push.ensures

pub returns-in-None : goal.returns-in-None
returns-in-None c = c.in_ok-push_params.ensures ∙ user_none c.args.packer.now c.args.f c.args.at c.args.params c.args.width c.in-None.is
