use Rattle.std.proofs.Common.{◌≡◌, ◌∙◌, [], ◌∷◌, length, ap, subst, arith}
use Rattle.ctw_labels.specs.declared.name.SiteName.TheVariants.{Param, Result}
use Rattle.ctw_labels.specs.Names.{site}
use Rattle.ctw_labels.specs.Numbering.{site_if}
use Rattle.std.specs.Prelude.{OnOk}
use Rattle.ctw_sites.specs.Packed.{after}
use Rattle.ctw_sites.proofs.HeadLaws.{type_of_length, type_none, type_some}
use Rattle.ctw_sites.proofs.PackedLaws.{named_length}
use Rattle.ctw_sites.proofs.head.push_type.Goals as goal

pub push_params-requires : goal.push_params-requires
push_params-requires c = let l = type_of_length c.args.f c.args.count c.args.width in omega (arith, l, c.requires)

pub push-requires : goal.push-requires
push-requires c =
    let e = ap (λ z. z.count) c.in_ok-push_params.ensures in
    let n = named_length (Param c.args.f) 0 c.args.count in
    let l = type_of_length c.args.f c.args.count c.args.width in
    let w = ap (λ z. length (site_if (Result c.args.f) z)) c.in-Some.is in
    omega (arith, e, n, l, w, c.requires)

pub returns-in-Some : goal.returns-in-Some
returns-in-Some c =
    let a = ap (λ z. after z (site (Result c.args.f) ∷ [])) c.in_ok-push_params.ensures in
    let u = type_some c.args.packer.now c.args.f c.args.count c.args.width c.in-Some.field-0 c.in-Some.is in
    subst (λ z. OnOk c.push.result (c.push.new.self ≡ z)) (a ∙ u) c.push.ensures

pub returns-in-None : goal.returns-in-None
returns-in-None c = c.in_ok-push_params.ensures ∙ type_none c.args.packer.now c.args.f c.args.count c.args.width c.in-None.is
