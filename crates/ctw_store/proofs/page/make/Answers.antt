use Rattle.std.proofs.Common.{slice_set, refl, sym, ap, ◌∙◌}
use Rattle.std.proofs.lemmas.List.{length-map}
use Rattle.ctw_store.specs.declared.page.Page.TheVariants.{Made}
use Rattle.ctw_store.specs.Pages.{bytes_in, made_in}
use Rattle.ctw_store.proofs.Pages.{page_read, made_made, bytes_same, kept_by_set, made_by_set}
use Rattle.ctw_store.proofs.page.make.Goals as goal

pub returns-in_ok-blank-in-Absent-clause-bytes : goal.returns-in_ok-blank-in-Absent-clause-bytes
returns-in_ok-blank-in-Absent-clause-bytes c =
    bytes_same c.args.pages.now c.args.index c.index-pages-index.result (Made c.in_ok-blank-in-Absent.field-0) (page_read c.args.pages.now c.args.index c.index-pages-index.result c.requires.there c.index-pages-index.is)
    (c.in_ok-blank-in-Absent.ensures ∙ sym (ap bytes_in (c.index-pages-index.is ∙ c.in-Absent.is)))

pub returns-in_ok-blank-in-Absent-clause-kept : goal.returns-in_ok-blank-in-Absent-clause-kept
returns-in_ok-blank-in-Absent-clause-kept c =
    kept_by_set (made_in c.args.pages.now) (made_in (slice_set c.args.pages.now c.args.index (Made c.in_ok-blank-in-Absent.field-0))) c.args.index
    (made_made c.args.pages.now c.args.index (Made c.in_ok-blank-in-Absent.field-0) refl)

pub returns-in_ok-blank-in-Absent-clause-made : goal.returns-in_ok-blank-in-Absent-clause-made
returns-in_ok-blank-in-Absent-clause-made c =
    made_by_set (made_in c.args.pages.now) (made_in (slice_set c.args.pages.now c.args.index (Made c.in_ok-blank-in-Absent.field-0))) c.args.index
    (simp length-map c.requires.there) (made_made c.args.pages.now c.args.index (Made c.in_ok-blank-in-Absent.field-0) refl)
