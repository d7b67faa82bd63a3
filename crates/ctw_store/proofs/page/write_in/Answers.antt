use Rattle.std.proofs.Common.{◌≡◌, ℕ, ◌/◌, ◌%◌, length, List, sym, ap, ◌∙◌, arith}
use Rattle.std.specs.Vec.{with_items}
use Rattle.std.proofs.lemmas.List.{with_items_is}
use Rattle.ctw_semantics.specs.Stores.{bytes_of_number, written_at}
use Rattle.ctw_semantics.proofs.Memories.{length-bytes_of_number}
use Rattle.ctw_store.specs.declared.page.Page.TheVariants.{Made}
use Rattle.ctw_store.specs.Pages.{bytes_in, is_made}
use Rattle.ctw_store.proofs.Numbers.{access_some}
use Rattle.ctw_store.proofs.Pages.{page_within, page_read, bytes_written, made_same}
use Rattle.ctw_store.proofs.page.write_in.Goals as goal

pub returns-in-Made-clause-bytes : goal.returns-in-Made-clause-bytes
returns-in-Made-clause-bytes c =
    let s = access_some c.args.count c.requires.access in
    let i = page_within c.args.pages.now c.args.at c.requires.whole (omega arith) in
    let g = page_read c.args.pages.now (c.args.at / 65536) c.index-pages-at.result i c.index-pages-at.is in
    let new : List ℕ = bytes_of_number c.args.count c.args.value in
    let n : length new ≡ c.args.count = length-bytes_of_number c.args.count c.args.value in
    let k : (with_items c.in-Made.bytes c.put.new.bytes).items ≡ c.put.new.bytes = with_items_is c.in-Made.bytes c.put.new.bytes (c.put.auto.bytes ∙ c.deref_mut.ensures.len) in
    let p : bytes_in c.index-pages-at.result ≡ c.in-Made.bytes.items = ap bytes_in (c.index-pages-at.is ∙ c.in-Made.is) in
    let w : (with_items c.in-Made.bytes c.put.new.bytes).items ≡ written_at (c.args.at % 65536) new (bytes_in c.index-pages-at.result) =
    k ∙ c.put.ensures ∙ ap (written_at (c.args.at % 65536) new) (c.deref_mut.ensures.value ∙ sym p) in
    bytes_written c.args.pages.now c.args.at c.index-pages-at.result (Made (with_items c.in-Made.bytes c.put.new.bytes)) new c.requires.whole g (omega arith) w

pub returns-in-Made-clause-made : goal.returns-in-Made-clause-made
returns-in-Made-clause-made c =
    let s = access_some c.args.count c.requires.access in
    let i = page_within c.args.pages.now c.args.at c.requires.whole (omega arith) in
    let g = page_read c.args.pages.now (c.args.at / 65536) c.index-pages-at.result i c.index-pages-at.is in
    made_same c.args.pages.now (c.args.at / 65536) c.index-pages-at.result (Made (with_items c.in-Made.bytes c.put.new.bytes)) g (sym (ap is_made (c.index-pages-at.is ∙ c.in-Made.is)))
