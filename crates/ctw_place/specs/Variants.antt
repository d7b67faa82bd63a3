-- Variants by how their entries are spelled, and the index of a type under labels.
use Rattle.std.specs.Prelude.{◌≡◌, ℕ, suc, ◌+◌, List, [], ◌∷◌, length, Option, Some, None, option_map, if◌then◌else◌}
use Rattle.std.specs.List.{AllByRecursion}
use Rattle.std.specs.Str.{bytes_eq}
use Rattle.std.specs.Ordering.{nat_cmp}
use Rattle.std.specs.Cmp.Lexicographic.{slice_cmp}
use Rattle.std.specs.BTreeMap.{get_by}
use Rattle.ctw_ops.specs.declared.types.Label.{Label}
use Rattle.ctw_ops.specs.Types.{FunctionType}
use Rattle.ctw_labels.specs.Placed.{TypeUse, use_of, is_all_public, place_of_use, variant_entry}
use Rattle.ctw_write.specs.Canon.{all_texts, type_entry_text}
use Rattle.ctw_write.specs.KeepsLimits.{IsLimitedEntry}
use Rattle.ctw_place.specs.declared.variants.Variants.{Variants}

-- the index of a labelled type of the plain one `y`, where `count` entries stand before these variants
abbrev pub name_in : ℕ → List (TypeUse Label) → ℕ → FunctionType Label → ℕ
name_in count vs y g = if is_all_public g then y else count + place_of_use vs (use_of y g)

-- a use as its variant's entry is spelled
abbrev pub use_text : TypeUse Label → List ℕ
use_text u = type_entry_text (variant_entry u)

abbrev pub IsSmallUse : TypeUse Label → Type 0
IsSmallUse u = IsLimitedEntry (variant_entry u)

-- the place of the first variant that is spelled so
abbrev pub place_of_text : List ℕ → List (TypeUse Label) → Option ℕ
place_of_text key [] = None
place_of_text key (v ∷ vs) = if bytes_eq key (use_text v) then Some 0 else option_map suc (place_of_text key vs)

-- what is kept are these variants
pub record Holds (v : Variants) (vs : List (TypeUse Label)) : Type 0 where
  pub texts : v.texts.items ≡ all_texts use_text vs
  pub count : v.count ≡ length vs
  pub small : AllByRecursion IsSmallUse vs
  pub told : (key : List ℕ) → get_by (λ k. slice_cmp nat_cmp key k.items) v.numbers ≡ place_of_text key vs
