use Rattle.std.proofs.Common.{◌≡◌, ℕ, List, Some, length, sym, ◌∙◌, ap, subst, arith}
use Rattle.std.specs.Prelude.{slice_get, IfSome}
use Rattle.std.proofs.lemmas.Option.{slice_get-get_or}
use Rattle.ctw_labels.specs.declared.name.SiteName.TheVariants.{Push}
use Rattle.ctw_labels.specs.Names.{Site}
use Rattle.ctw_labels.specs.Order.{name_at}
use Rattle.ctw_sites.specs.Held.{table}
use Rattle.ctw_sites.specs.Unpacked.{yields_at}
use Rattle.ctw_sites.proofs.UnpackedLaws.{unpacked_length, yields_there, yields_push}
use Rattle.ctw_sites.proofs.sites.Sites.yield_of.Goals as goal

pub index-requires : goal.index-requires
index-requires c = omega (arith, c.requires, unpacked_length (table c.self.inside) 0 c.self.inside.words.items, ap length c.self.view_is)

pub returns-clause-yields : goal.returns-clause-yields
returns-clause-yields c =
    let w : slice_get c.self.inside.words.items c.args.site ≡ Some c.index.result.now =
    slice_get-get_or c.self.inside.words.items c.args.site c.index.result.now (omega (arith, c.requires, unpacked_length (table c.self.inside) 0 c.self.inside.words.items, ap length c.self.view_is)) ∙ ap Some (sym c.index.ensures) in
    ap (λ z. yields_at z c.args.site) (sym c.self.view_is) ∙ yields_there (table c.self.inside) c.self.inside.words.items c.args.site c.index.result.now w ∙ ap Some (sym c.yield_of.ensures)

pub returns-clause-push : goal.returns-clause-push
returns-clause-push c =
    let w : slice_get c.self.inside.words.items c.args.site ≡ Some c.index.result.now =
    slice_get-get_or c.self.inside.words.items c.args.site c.index.result.now (omega (arith, c.requires, unpacked_length (table c.self.inside) 0 c.self.inside.words.items, ap length c.self.view_is)) ∙ ap Some (sym c.index.ensures) in
    subst (λ (z : List Site). IfSome c.yield_of.result (λ _. (f : ℕ) × (at : ℕ) × (name_at z c.args.site ≡ Some (Push f at)))) c.self.view_is
    (yields_push (table c.self.inside) c.self.inside.words.items c.args.site c.index.result.now c.yield_of.result w c.yield_of.ensures)
