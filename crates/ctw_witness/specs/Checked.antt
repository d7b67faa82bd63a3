-- Flows with their least rules.
use Rattle.std.specs.Prelude.{◌≡◌, ℕ, ◌-◌, Bool, true, false, List, [], ◌∷◌, length, Option, Some, None, option_map, filter_map, slice_index, unwrap_or}
use Rattle.std.specs.List.{position}
use Rattle.std.specs.declared.cmp.Ordering.{Ordering}
use Rattle.std.specs.declared.cmp.Ordering.TheVariants.{Less, Equal, Greater}
use Rattle.ctw_ops.specs.declared.types.Label.{Label}
use Rattle.ctw_ops.specs.declared.types.Label.TheVariants.{Public}
use Rattle.ctw_labels.specs.declared.name.SiteName.{SiteName}
use Rattle.ctw_labels.specs.Names.{Site}
use Rattle.ctw_labels.specs.Order.{order}
use Rattle.ctw_labels.specs.Links.{Link, Must}
use Rattle.ctw_labels.specs.Fits.{Mark, rule_between, must_of}
use Rattle.ctw_least.specs.Flows.{IsMarked, IsFlow, AreLeastRules, last_of, marked, reason}
use Rattle.ctw_sites.specs.Flow.{Flow}

-- the sites are a flow, each rule is the least one of the links to its site, and the last site is public for the least
-- reason
pub record IsChecked (links : List Link) (musts : List Must) (marks : List Mark) (w : Flow) : Type 0 where
  pub flow : IsFlow links musts marks w.sites
  pub rules : AreLeastRules links w.sites w.rules
  pub last : w.last ≡ reason musts (last_of w.sites)

-- ---- by what is collected

-- a site is public for this reason
abbrev pub IsReasonBy : Option ℕ → List Mark → ℕ → ℕ → Type 0
IsReasonBy None marks n why = (why ≡ marked) × IsMarked marks n Public
IsReasonBy (Some r) marks n why = r ≡ why
