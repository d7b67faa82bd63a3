-- The index of a type under labels doesn't change where more uses come.
use Rattle.std.proofs.Common.{◌≡◌, ◌<◌, ◌≤◌, ◌^◌, ℕ, zero, suc, ◌+◌, true, false, List, [], ◌∷◌, ◌++◌, length, map, slice_get, arith, if◌then◌else◌, sym, ◌∙◌, ap}
use Rattle.std.specs.Prelude.{◌||◌, unwrap_or}
use Rattle.std.specs.List.{AllByRecursion}
use Rattle.std.proofs.lemmas.List.{length-map}
use Rattle.std.proofs.lemmas.List.Elements.{recursion_from_All}
use Rattle.ctw_ops.specs.declared.types.Trust.{Trust}
use Rattle.ctw_ops.specs.Limits.{most_params}
use Rattle.ctw_ops.specs.TagMaps.{type_to}
use Rattle.ctw_ops.specs.Tree.{TypeEntry, no_function_type, type_named}
use Rattle.ctw_ops.specs.WithinLimits.{IsWithinLimits}
use Rattle.ctw_labels.specs.Numbering.{params_from}
use Rattle.ctw_sites.proofs.ScopeLaws.{params_length}
use Rattle.ctw_place.specs.declared.setting.Setting.{Setting}
use Rattle.ctw_place.specs.Settings.{module_of, labels_of, use_at}
use Rattle.ctw_ops.specs.declared.types.Label.{Label}
use Rattle.ctw_labels.specs.Placed.{TypeUse, is_all_public, has_use, place_of_use, with_use, with_uses}
use Rattle.ctw_place.specs.Variants.{name_in, IsSmallUse}
use Rattle.ctw_place.proofs.UseLaws.{has_with, place_kept}

abbrev Uses : Type 0
Uses = List (TypeUse Label)

-- a type that keeps its index adds no variant
pub kept_use : (vs : Uses) (u : TypeUse Label) → is_all_public u.type ≡ true → with_use vs u ≡ vs
kept_use vs u e = ap (λ z. if z || has_use vs u then vs else vs ++ u ∷ []) e

pub public_name : (t : ℕ) (vs : Uses) (u : TypeUse Label) → is_all_public u.type ≡ true → u.base ≡ name_in t vs u.base u.type
public_name t vs u e = sym (ap (λ z. if z then u.base else t + place_of_use vs u) e)

pub secret_name : (t n : ℕ) (vs later : Uses) (u : TypeUse Label) → is_all_public u.type ≡ false → n ≡ place_of_use (with_use vs u) u → t + n ≡ name_in t (with_uses (with_use vs u) later) u.base u.type
secret_name t n vs later u e q =
    ap (λ z. t + z) (q ∙ sym (place_kept (with_use vs u) later u (has_with vs u e)))
    ∙ sym (ap (λ z. if z then u.base else t + place_of_use (with_uses (with_use vs u) later) u) e)

-- ---- uses are small

named_within : (es : List (TypeEntry Label)) → AllByRecursion (λ e. length e.type.params ≤ most_params) es → (y : ℕ) → length (unwrap_or (slice_get (map (λ e. e.type) es) y) no_function_type).params ≤ most_params
named_within [] h y = omega arith
named_within (e ∷ es) h zero = h.0
named_within (e ∷ es) h (suc y) = named_within es h.1 y

pub small_use : (s : Setting) (y first : ℕ) (t : Trust) → IsWithinLimits (module_of s) → y < 2 ^ 32 → IsSmallUse (use_at s y first t)
small_use s y first t w lt =
    let a = length-map (params_from first (type_named (module_of s) y).params) (type_to (labels_of s)) in
    let b = params_length first (type_named (module_of s) y).params in
    let c = named_within (module_of s).types (recursion_from_All (λ entry. length entry.type.params ≤ most_params) (module_of s).types w.params) y in
    (lt, omega (arith, a, b, c))
