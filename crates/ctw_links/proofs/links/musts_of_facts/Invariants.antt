use Rattle.std.specs.Prelude.{◌≡◌, drop, length, replicate}
use Rattle.ctw_labels.specs.Links.{musts_of}
use Rattle.ctw_links.specs.Collected.{with_musts}
use Rattle.ctw_links.proofs.links.musts_of_facts.Given as goal

-- the facts that are left make all of what is there
abbrev pub invariant-facts : goal.invariant-facts
invariant-facts l = record {
  long : length l.musts.items ≡ l.count;
  made : with_musts l.musts.items (musts_of (drop l.fact-index l.facts)) ≡ with_musts (replicate l.count 0) (musts_of l.facts);
}
