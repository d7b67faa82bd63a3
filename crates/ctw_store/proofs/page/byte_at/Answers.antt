use Rattle.std.proofs.Common.{◌≡◌, ◌/◌, ◌%◌, length, get_or, sym, ap, ◌∙◌, subst, arith}
use Rattle.std.proofs.lemmas.Grind.{get_or_default_zero}
use Rattle.ctw_store.specs.declared.page.Page.{Page}
use Rattle.ctw_store.specs.declared.page.Page.TheVariants.{Made}
use Rattle.ctw_store.specs.Pages.{bytes_in, IsPage}
use Rattle.ctw_ops.proofs.Lists.{all_get}
use Rattle.ctw_store.proofs.Pages.{page_within, page_read, byte_in, zeros_zero}
use Rattle.ctw_store.proofs.page.byte_at.Goals as goal

pub bounds-pages-at : goal.bounds-pages-at
bounds-pages-at c = page_within c.args.pages.now c.args.at c.requires.whole c.requires.inside

pub index-requires : goal.index-requires
index-requires c =
    let i = page_within c.args.pages.now c.args.at c.requires.whole c.requires.inside in
    let g = page_read c.args.pages.now (c.args.at / 65536) c.index-pages-at.result i c.index-pages-at.is in
    let p : IsPage (Made c.in-Made.bytes) = subst IsPage c.in-Made.is (all_get IsPage c.args.pages.now (c.args.at / 65536) c.index-pages-at.result c.requires.whole g) in
    let s : length c.in-Made.bytes.items ≡ 65536 = p.size in omega (arith, c.in-Made.bytes.ok.0)

pub returns-in-Absent : goal.returns-in-Absent
returns-in-Absent c =
    let i = page_within c.args.pages.now c.args.at c.requires.whole c.requires.inside in
    let g = page_read c.args.pages.now (c.args.at / 65536) c.index-pages-at.result i c.index-pages-at.is in
    sym (byte_in c.args.pages.now c.args.at c.index-pages-at.result c.requires.whole g ∙ ap (λ (p : Page). get_or (bytes_in p) (c.args.at % 65536) 0) c.in-Absent.is ∙ zeros_zero (c.args.at % 65536) (omega arith))

pub returns-in-Made : goal.returns-in-Made
returns-in-Made c =
    let i = page_within c.args.pages.now c.args.at c.requires.whole c.requires.inside in
    let g = page_read c.args.pages.now (c.args.at / 65536) c.index-pages-at.result i c.index-pages-at.is in
    let p : IsPage (Made c.in-Made.bytes) = subst IsPage c.in-Made.is (all_get IsPage c.args.pages.now (c.args.at / 65536) c.index-pages-at.result c.requires.whole g) in
    let s : length c.in-Made.bytes.items ≡ 65536 = p.size in
    sym (byte_in c.args.pages.now c.args.at c.index-pages-at.result c.requires.whole g ∙ ap (λ (p : Page). get_or (bytes_in p) (c.args.at % 65536) 0) c.in-Made.is
    ∙ sym (get_or_default_zero c.in-Made.bytes.items (c.args.at % 65536) c.index.result.now (omega arith)) ∙ sym c.index.ensures)
