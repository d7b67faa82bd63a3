-- The entry of a variant's base is the erased entry.
use Rattle.std.proofs.Common.{◌≡◌, ℕ, zero, suc, ◌<◌, List, [], ◌∷◌, Option, Some, None, slice_get, option_and_then, unwrap_or, refl, sym, ap, ◌∙◌, arith}
use Rattle.std.specs.List.{cons_option}
use Rattle.ctw_ops.specs.declared.types.Label.{Label}
use Rattle.ctw_ops.specs.Types.{FunctionType, erase_function_type}
use Rattle.ctw_ops.specs.Tree.{TypeEntry}
use Rattle.ctw_ops.proofs.Variants.{VariantsFit}
use Rattle.ctw_ops.specs.Erasure.{kept_entry, erase_entries, base_of}

abbrev pub entry_of : FunctionType Label → TypeEntry Label
entry_of type = record { base = None; type = type }

-- entries before one without a base have none either
kept_front : (entries : List (TypeEntry Label)) (y : ℕ) (e : TypeEntry Label) → slice_get entries y ≡ Some e → e.base ≡ None → ((x : ℕ) (d : TypeEntry Label) → x < y → slice_get entries x ≡ Some d → d.base ≡ None) → slice_get (erase_entries entries) y ≡ Some (entry_of (erase_function_type e.type))
kept_front [] y e at none before = cc
kept_front (d ∷ ds) zero e at none before =
    let q : d ≡ e = cc in
    ap (λ b. slice_get (cons_option (kept_entry b d.type) (erase_entries ds)) 0) (ap (λ (d : TypeEntry Label). d.base) q ∙ none) ∙ ap (λ (d : TypeEntry Label). Some (entry_of (erase_function_type d.type))) q
kept_front (d ∷ ds) (suc y) e at none before =
    ap (λ b. slice_get (cons_option (kept_entry b d.type) (erase_entries ds)) (suc y)) (before 0 d (omega arith) refl)
    ∙ kept_front ds y e at none (λ x c less q. before (suc x) c (omega (arith, less)) q)

pub base_erased : (entries : List (TypeEntry Label)) → VariantsFit entries → (y : ℕ) (e : TypeEntry Label) → slice_get entries y ≡ Some e → slice_get (erase_entries entries) (base_of entries y) ≡ Some (entry_of (erase_function_type e.type))
base_erased entries fit y e at = by_base e.base refl
  where
    own : (x : ℕ) (d : TypeEntry Label) → slice_get entries x ≡ Some d → d.base ≡ None → slice_get (erase_entries entries) x ≡ Some (entry_of (erase_function_type d.type))
    own x d q none = kept_front entries x d q none (λ z c less r. no_base z c less r c.base refl)
      where
        no_base : (z : ℕ) (c : TypeEntry Label) → z < x → slice_get entries z ≡ Some c → (b : Option ℕ) → c.base ≡ b → c.base ≡ None
        no_base z c less r None p = p
        no_base z c less r (Some base) p = let later = fit.order x z d c base q none r p in absurd (omega (arith, less, later))

    named : (b : Option ℕ) → e.base ≡ b → base_of entries y ≡ unwrap_or b y
    named b p = ap (λ o. unwrap_or (option_and_then (λ (entry : TypeEntry Label). entry.base) o) y) at ∙ ap (λ b. unwrap_or b y) p

    by_base : (b : Option ℕ) → e.base ≡ b → slice_get (erase_entries entries) (base_of entries y) ≡ Some (entry_of (erase_function_type e.type))
    by_base None p = ap (slice_get (erase_entries entries)) (named None p) ∙ own y e at p
    by_base (Some base) p =
        let f = fit.bases y e base at p in
        ap (slice_get (erase_entries entries)) (named (Some base) p) ∙ own base f.0 f.1 f.2 ∙ ap (λ t. Some (entry_of t)) (sym f.3)
