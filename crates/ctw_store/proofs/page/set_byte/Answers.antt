use Rattle.std.proofs.Common.{◌/◌, ◌%◌, slice_set, sym, ap, ◌∙◌}
use Rattle.std.specs.Vec.{with_item}
use Rattle.ctw_store.specs.declared.page.Page.{Page}
use Rattle.ctw_store.specs.declared.page.Page.TheVariants.{Made}
use Rattle.ctw_store.specs.Pages.{bytes_in, is_made}
use Rattle.ctw_store.proofs.Pages.{page_within, page_read, byte_set, made_same}
use Rattle.ctw_store.proofs.page.set_byte.Goals as goal

pub returns-in-Made-clause-bytes : goal.returns-in-Made-clause-bytes
returns-in-Made-clause-bytes c =
    let i = page_within c.args.pages.now c.args.at c.requires.whole c.requires.inside in
    let g = page_read c.args.pages.now (c.args.at / 65536) c.index-pages-at.result i c.index-pages-at.is in
    byte_set c.args.pages.now c.args.at c.index-pages-at.result (Made (with_item c.in-Made.bytes (c.args.at % 65536) c.args.byte)) c.args.byte c.requires.whole g
    (ap (λ (p : Page). slice_set (bytes_in p) (c.args.at % 65536) c.args.byte) (sym (c.index-pages-at.is ∙ c.in-Made.is)))

pub returns-in-Made-clause-made : goal.returns-in-Made-clause-made
returns-in-Made-clause-made c =
    let i = page_within c.args.pages.now c.args.at c.requires.whole c.requires.inside in
    let g = page_read c.args.pages.now (c.args.at / 65536) c.index-pages-at.result i c.index-pages-at.is in
    made_same c.args.pages.now (c.args.at / 65536) c.index-pages-at.result (Made (with_item c.in-Made.bytes (c.args.at % 65536) c.args.byte)) g (sym (ap is_made (c.index-pages-at.is ∙ c.in-Made.is)))
