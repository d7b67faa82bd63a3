-- Marks by the numbers of their sites.
use Rattle.std.specs.Prelude.{ℕ, Bool, true, false, List, Option, option_map, filter_map}
use Rattle.std.specs.List.{position}
use Rattle.std.specs.declared.cmp.Ordering.{Ordering}
use Rattle.std.specs.declared.cmp.Ordering.TheVariants.{Less, Equal, Greater}
use Rattle.ctw_ops.specs.declared.types.Label.{Label}
use Rattle.ctw_labels.specs.declared.name.SiteName.{SiteName}
use Rattle.ctw_labels.specs.Names.{Site}
use Rattle.ctw_labels.specs.Order.{order}
use Rattle.ctw_labels.specs.Fits.{Mark}

abbrev pub is_equal : Ordering → Bool
is_equal Less = false
is_equal Equal = true
is_equal Greater = false

-- the number of the site of a name
unfoldable pub site_named : List Site → SiteName → Option ℕ
site_named sites name = position (λ s. is_equal (order s.name name)) sites

abbrev pub mark_on : List Site → SiteName × Label → Option Mark
mark_on sites k = option_map (λ n. record { site = n; label = k.1 }) (site_named sites k.0)

-- the marks whose names are those of sites
abbrev pub marks_on : List Site → List (SiteName × Label) → List Mark
marks_on sites marks = filter_map (mark_on sites) marks
