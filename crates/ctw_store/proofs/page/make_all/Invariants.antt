use Rattle.std.proofs.Common.{◌≡◌, ℕ, ◌<◌, ◌≤◌, All}
use Rattle.ctw_store.specs.Pages.{IsPage, all_bytes, made_in, KeepsMadeIn, IsMadeIn}
use Rattle.ctw_store.proofs.page.make_all.Given as goal

abbrev pub invariant-pages : goal.invariant-pages
invariant-pages l = record {
  whole : All IsPage l.pages;
  bytes : all_bytes l.pages ≡ all_bytes l.fn.pages;
  kept : KeepsMadeIn (made_in l.fn.pages) (made_in l.pages);
  made : (page : ℕ) → l.first ≤ page → page < l.index → IsMadeIn (made_in l.pages) page;
}
