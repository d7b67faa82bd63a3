use Rattle.std.specs.Prelude.{◌≡◌, ◌++◌, drop}
use Rattle.ctw_labels.specs.Links.{links_of}
use Rattle.ctw_links.specs.Collected.{triples}
use Rattle.ctw_links.proofs.links.link_facts.Given as goal

-- the links so far, with those of the facts that are left, are all
abbrev pub invariant-facts : goal.invariant-facts
invariant-facts l = l.links.items ++ triples (links_of (drop l.fact-index l.facts)) ≡ l.initial.links.items ++ triples (links_of l.facts)
