-- The sites that a numbering holds.
use Rattle.std.specs.Prelude.{List}
use Rattle.ctw_labels.specs.Names.{Site}
use Rattle.ctw_sites.specs.declared.sites.Sites.TheInside.{Inside}
use Rattle.ctw_sites.specs.Unpacked.{Firsts, IsTable, AreSites, unpacked}

abbrev pub table : Inside → Firsts
table s = record { heads = s.heads.items; starts = s.starts.items; imported = s.imported }

abbrev pub sites_in : Inside → List Site
sites_in s = unpacked (table s) 0 s.words.items

-- the table serves, and the sites may be a module's
pub record IsHeld (s : Inside) : Type 0 where
  pub table : IsTable (table s)
  pub sites : AreSites (sites_in s)
