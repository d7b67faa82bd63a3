use Rattle.std.proofs.Common.{◌≡◌, Some, length, sym, ◌∙◌, ap, arith}
use Rattle.std.specs.Prelude.{slice_get}
use Rattle.std.proofs.lemmas.Option.{slice_get-get_or}
use Rattle.ctw_sites.specs.Held.{table}
use Rattle.ctw_labels.specs.Order.{name_at}
use Rattle.ctw_sites.specs.Unpacked.{site_at}
use Rattle.ctw_sites.proofs.UnpackedLaws.{unpacked_length, name_there}
use Rattle.ctw_sites.proofs.sites.Sites.name.Goals as goal

pub index-word-requires : goal.index-word-requires
index-word-requires c = omega (arith, c.requires, unpacked_length (table c.self.inside) 0 c.self.inside.words.items, ap length c.self.view_is)

pub returns : goal.returns
returns c =
    let w : slice_get c.self.inside.words.items c.args.site ≡ Some c.index-word.result.now =
    slice_get-get_or c.self.inside.words.items c.args.site c.index-word.result.now (omega (arith, c.requires, unpacked_length (table c.self.inside) 0 c.self.inside.words.items, ap length c.self.view_is)) ∙ ap Some (sym c.index-word.ensures) in
    ap (λ z. name_at z c.args.site) (sym c.self.view_is) ∙ name_there (table c.self.inside) c.self.inside.words.items c.args.site c.index-word.result.now w
    ∙ (λ j. Some (site_at (record { heads = sym c.deref.ensures.value j; starts = sym c.deref-2.ensures.value j; imported = c.self.inside.imported }) c.args.site c.index-word.result.now).name) ∙ ap Some (sym c.name_of.ensures)
