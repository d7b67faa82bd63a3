use Rattle.std.proofs.Common.{◌≡◌, ◌+◌, ◌≤◌, ◌/◌, ◌%◌, take, drop, length, sym, ap, ◌∙◌, subst, arith}
use Rattle.ctw_semantics.specs.Stores.{number_of_bytes}
use Rattle.ctw_ops.proofs.Lists.{all_get}
use Rattle.ctw_store.specs.declared.page.Page.{Page}
use Rattle.ctw_store.specs.declared.page.Page.TheVariants.{Made}
use Rattle.ctw_store.specs.Pages.{bytes_in, IsPage}
use Rattle.ctw_store.proofs.Numbers.{access_some, number_of_zeros}
use Rattle.ctw_store.proofs.Pages.{page_within, page_read, bytes_inside, zeros_part}
use Rattle.ctw_store.proofs.page.read.Goals as goal

pub bounds-pages-at : goal.bounds-pages-at
bounds-pages-at c = let s = access_some c.args.count c.requires.access in page_within c.args.pages.now c.args.at c.requires.whole (omega arith)

pub read_in-requires-clause-inside : goal.read_in-requires-clause-inside
read_in-requires-clause-inside c =
    let s = access_some c.args.count c.requires.access in
    let i = page_within c.args.pages.now c.args.at c.requires.whole (omega arith) in
    let g = page_read c.args.pages.now (c.args.at / 65536) c.index-pages-at.result i c.index-pages-at.is in
    let p : IsPage (Made c.in-Made.bytes) = subst IsPage c.in-Made.is (all_get IsPage c.args.pages.now (c.args.at / 65536) c.index-pages-at.result c.requires.whole g) in
    let l : length c.in-Made.bytes.items ≡ 65536 = p.size in
    let e : length c.deref.result.now ≡ 65536 = ap length c.deref.ensures.value ∙ l in
    omega arith

pub returns-in-Absent : goal.returns-in-Absent
returns-in-Absent c =
    let s = access_some c.args.count c.requires.access in
    let i = page_within c.args.pages.now c.args.at c.requires.whole (omega arith) in
    let g = page_read c.args.pages.now (c.args.at / 65536) c.index-pages-at.result i c.index-pages-at.is in
    let l : c.args.at % 65536 + c.args.count ≤ 65536 = omega arith in
    let b = bytes_inside c.args.pages.now c.args.at c.args.count c.index-pages-at.result c.requires.whole g l in
    let z = ap (λ (p : Page). take c.args.count (drop (c.args.at % 65536) (bytes_in p))) c.in-Absent.is ∙ zeros_part (c.args.at % 65536) c.args.count l in
    sym (ap number_of_bytes (b ∙ z) ∙ number_of_zeros c.args.count)

pub returns-in-Made : goal.returns-in-Made
returns-in-Made c =
    let s = access_some c.args.count c.requires.access in
    let i = page_within c.args.pages.now c.args.at c.requires.whole (omega arith) in
    let g = page_read c.args.pages.now (c.args.at / 65536) c.index-pages-at.result i c.index-pages-at.is in
    let l : c.args.at % 65536 + c.args.count ≤ 65536 = omega arith in
    let b = bytes_inside c.args.pages.now c.args.at c.args.count c.index-pages-at.result c.requires.whole g l in
    let z = ap (λ (p : Page). take c.args.count (drop (c.args.at % 65536) (bytes_in p))) c.in-Made.is in
    c.read_in.ensures ∙ ap (λ l. number_of_bytes (take c.args.count (drop (c.args.at % 65536) l))) c.deref.ensures.value ∙ sym (ap number_of_bytes (b ∙ z))
