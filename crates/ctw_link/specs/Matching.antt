-- Which sets match, so that they can be linked.
use Rattle.std.specs.Prelude.{◌≡◌, ◌≢◌, ◌<◌, ◌≤◌, ℕ, ◌∷◌, ◌++◌, All, AllPairs, sum_by, Option, Some, None}
use Rattle.ctw_ops.specs.declared.types.Label.{Label}
use Rattle.ctw_ops.specs.declared.types.Limits.{Limits}
use Rattle.ctw_ops.specs.declared.types.ExternTag.TheVariants.{Table}
use Rattle.ctw_ops.specs.Limits.{most_set_pages, most_set_entries}
use Rattle.ctw_ops.specs.Types.{MemoryType}
use Rattle.ctw_link.specs.Sets.{NamedModule, ModuleSet, defined}
use Rattle.ctw_link.specs.Externals.{IsMet}
use Rattle.ctw_link.specs.Numbers.{linked}
use Rattle.ctw_link.specs.Users.{users_of, AreUnmixed}

abbrev pub pages_of : Option (MemoryType Label) → ℕ
pages_of None = 0
pages_of (Some type) = type.limits.min

abbrev pub entries_of : Option Limits → ℕ
entries_of None = 0
entries_of (Some limits) = limits.min

-- the pages that the defined memories begin with, and the entries that the defined tables do
abbrev pub pages : ModuleSet → ℕ
pages set = sum_by (λ p. pages_of p.tree.memory) set

abbrev pub entries : ModuleSet → ℕ
entries set = sum_by (λ p. entries_of p.tree.table) set

-- names differ, each import is met by a part before, the users of each table are unmixed, and sizes are within limits
pub record AreMatching (set : ModuleSet) : Type 0 where
  pub names : AllPairs (λ p q. p.name ≢ q.name) set
  pub imports : (before behind : ModuleSet) (p : NamedModule) → set ≡ before ++ p ∷ behind
      → All (IsMet before p.tree) p.tree.imports
  pub tables : (table : ℕ) → table < defined Table set → AreUnmixed (users_of (linked set) table)
  pub pages : pages set ≤ most_set_pages
  pub entries : entries set ≤ most_set_entries
