use Rattle.std.specs.Prelude.{◌≡◌, ◌++◌, drop}
use Rattle.ctw_labels.specs.ModuleLinks.{yield_links}
use Rattle.ctw_links.specs.Collected.{triples}
use Rattle.ctw_links.proofs.links.link_yields.Given as goal

-- the links so far, with those of the sites that are left, are all
abbrev pub invariant-sites : goal.invariant-sites
invariant-sites l = l.links.items ++ triples (yield_links l.p l.n (drop l.n l.s)) ≡ l.initial.links.items ++ triples (yield_links l.p 0 l.s)
