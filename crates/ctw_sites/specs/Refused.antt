-- Why a module's sites aren't numbered.
use Rattle.std.specs.Prelude.{◌≡◌, ℕ, ◌<◌}
use Rattle.ctw_sites.specs.declared.fault.SitesFault.{SitesFault}
use Rattle.ctw_sites.specs.declared.fault.SitesFault.TheVariants.{TooManySites, NoMemory}
use Rattle.ctw_sites.specs.Packed.{most_sites}

-- what may be answered of a module with so many sites: their count where it passes the limit, or that memory ran out
abbrev pub IsRefusal : ℕ → SitesFault → Type 0
IsRefusal n (TooManySites count) = (count ≡ n) × (most_sites < n)
IsRefusal n NoMemory = Unit {0}
