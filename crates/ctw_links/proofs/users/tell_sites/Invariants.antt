use Rattle.std.specs.Prelude.{◌≡◌, ◌+◌, ◌-◌, ◌++◌}
use Rattle.ctw_links.specs.Firsts.{site_facts}
use Rattle.ctw_links.proofs.users.tell_sites.Given as goal

-- what is told, with the sites that are left, is all
abbrev pub invariant-sites : goal.invariant-sites
invariant-sites l = l.told.items ++ site_facts (l.a + l.i) (l.b + l.i) (l.count - l.i) ≡ l.initial.told.items ++ site_facts l.a l.b l.count
