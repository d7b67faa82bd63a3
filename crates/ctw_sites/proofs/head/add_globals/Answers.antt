use Rattle.std.proofs.Common.{◌∙◌, [], ◌∷◌, sym, ap, arith}
use Rattle.ctw_labels.specs.declared.name.SiteName.TheVariants.{GlobalOf}
use Rattle.ctw_labels.specs.Names.{site}
use Rattle.ctw_sites.specs.Packed.{after}
use Rattle.ctw_sites.proofs.PackedLaws.{named_more, named_length, after_none}
use Rattle.ctw_sites.proofs.head.add_globals.Goals as goal

pub globals-init : goal.globals-init
globals-init c = sym (after_none c.args.packer.now)

pub push-requires : goal.push-requires
push-requires c =
    let e = ap (λ z. z.count) c.globals.invariant in
    let l = named_length GlobalOf 0 c.globals.g in
    omega (arith, e, l, c.requires, c.globals-test.true)

pub globals-preserved : goal.globals-preserved
globals-preserved c = c.in_ok-push.ensures ∙ ap (λ z. after z (site (GlobalOf c.globals.g) ∷ [])) c.globals.invariant ∙ named_more c.args.packer.now GlobalOf c.globals.g
