use Rattle.std.proofs.Common.{◌≡◌, ◌+◌, ◌-◌, All}
use Rattle.ctw_semantics.specs.Stores.{bytes_of_number, written_at}
use Rattle.ctw_store.specs.Pages.{IsPage, all_bytes, made_in}
use Rattle.ctw_store.proofs.page.write_over.Given as goal

abbrev pub invariant-bytes : goal.invariant-bytes
invariant-bytes l = record {
  whole : All IsPage l.pages;
  made : made_in l.pages ≡ made_in l.fn.pages;
  bytes : written_at (l.at + l.i) (bytes_of_number (l.count - l.i) l.rest) (all_bytes l.pages) ≡ written_at l.at (bytes_of_number l.count l.value) (all_bytes l.fn.pages);
}
