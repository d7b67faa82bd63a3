use Rattle.std.proofs.Common.{◌∙◌, ◌+◌, [], ◌∷◌, sym, ap, arith}
use Rattle.ctw_labels.specs.declared.name.SiteName.TheVariants.{Local}
use Rattle.ctw_labels.specs.Names.{site}
use Rattle.ctw_sites.specs.Packed.{after}
use Rattle.ctw_sites.proofs.PackedLaws.{named_more_from, named_length, after_none}
use Rattle.ctw_sites.proofs.head.add_locals.Goals as goal

pub locals-init : goal.locals-init
locals-init c = sym (after_none c.args.packer.now)

pub push-requires : goal.push-requires
push-requires c =
    let e = ap (λ z. z.count) c.locals.invariant in
    let l = named_length (Local c.args.f) c.args.first c.locals.i in
    omega (arith, e, l, c.requires.room, c.locals-test.true)

pub locals-preserved : goal.locals-preserved
locals-preserved c =
    c.in_ok-push.ensures ∙ ap (λ z. after z (site (Local c.args.f (c.args.first + c.locals.i)) ∷ [])) c.locals.invariant
    ∙ named_more_from c.args.packer.now (Local c.args.f) c.args.first c.locals.i
