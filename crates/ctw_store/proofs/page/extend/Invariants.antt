use Rattle.std.proofs.Common.{◌≡◌, ◌+◌, ◌-◌, ◌≤◌, ◌++◌, replicate, vec_len, vec_capacity}
use Rattle.ctw_store.specs.declared.page.Page.TheVariants.{Absent}
use Rattle.ctw_store.proofs.page.extend.Given as goal

abbrev pub invariant-pages : goal.invariant-pages
invariant-pages l = record {
  items : l.pages.items ≡ l.fn.pages.items ++ replicate l.counter Absent;
  room : vec_len l.pages + (l.count - l.counter) ≤ vec_capacity l.pages;
}
