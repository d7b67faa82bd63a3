-- The type entries of a valid module by their indexes: variants stand last, and each names what erases alike.
use Rattle.std.proofs.Common.{◌≡◌, ◌<◌, ◌≤◌, ◌⊎◌, ℕ, zero, suc, List, [], ◌∷◌, ◌++◌, length, slice_get, Option, Some, None, All, inl, inr, sym, ap, subst, ◌∙◌, arith}
use Rattle.std.proofs.lemmas.List.Elements.{All-head, All-tail}
use Rattle.std.proofs.lemmas.Option.{same_Some}
use Rattle.ctw_ops.specs.declared.types.Label.{Label}
use Rattle.ctw_ops.specs.Types.{EraseAlike}
use Rattle.ctw_ops.specs.Tree.{TypeEntry}
use Rattle.ctw_ops.specs.Valid.{IsEntry, IsVariant, AreTypes}
use Rattle.ctw_ops.proofs.Lists.{all_get}

-- variants stand after all other entries, and each names one of these that erases alike
pub record VariantsFit (entries : List (TypeEntry Label)) : Type 0 where
  pub order : (x y : ℕ) (entry variant : TypeEntry Label) (base : ℕ) → slice_get entries x ≡ Some entry → entry.base ≡ None → slice_get entries y ≡ Some variant → variant.base ≡ Some base → x < y
  pub bases : (y : ℕ) (variant : TypeEntry Label) (base : ℕ) → slice_get entries y ≡ Some variant → variant.base ≡ Some base
      → (entry : TypeEntry Label) × (slice_get entries base ≡ Some entry) × (entry.base ≡ None) × EraseAlike variant.type entry.type

-- an element of joined lists, of which all in front are of one kind and all behind of another
pub sides : {A : Type 0} (P Q : A → Type 0) (front back : List A) (i : ℕ) (x : A) → All P front → All Q back → slice_get (front ++ back) i ≡ Some x → ((i < length front) × P x) ⊎ ((length front ≤ i) × Q x)
sides P Q [] back i x h k e = inr (omega arith, all_get Q back i x k e)
sides P Q (a ∷ front) back zero x h k e = inl (omega arith, subst P (same_Some a x e) (All-head P a front h))
sides P Q (a ∷ front) back (suc i) x h k e = next (sides P Q front back i x (All-tail P a front h) k e)
  where
    next : ((i < length front) × P x) ⊎ ((length front ≤ i) × Q x) → ((suc i < suc (length front)) × P x) ⊎ ((suc (length front) ≤ suc i) × Q x)
    next (inl p) = inl (omega (arith, p.0), p.1)
    next (inr p) = inr (omega (arith, p.0), p.1)

pub variants_fit : (types : List (TypeEntry Label)) → AreTypes types → VariantsFit types
variants_fit types a = record {
  order = λ x y entry variant base ex bx ey by. in_order x y entry variant base bx by (at x entry ex) (at y variant ey);
  bases = λ y variant base ey by. base_there y variant base by (at y variant ey);
}
  where
    at : (i : ℕ) (x : TypeEntry Label) → slice_get types i ≡ Some x → ((i < length a.entries) × IsEntry x) ⊎ ((length a.entries ≤ i) × IsVariant types x)
    at i x e = sides IsEntry (IsVariant types) a.entries a.variants i x a.plain a.based (ap (λ (l : List (TypeEntry Label)). slice_get l i) (sym a.all) ∙ e)

    two : {B : Type 0} (o : Option ℕ) (n : ℕ) → o ≡ None → o ≡ Some n → B
    two o n e f = absurd cc

    in_order : (x y : ℕ) (entry variant : TypeEntry Label) (base : ℕ) → entry.base ≡ None → variant.base ≡ Some base → ((x < length a.entries) × IsEntry entry) ⊎ ((length a.entries ≤ x) × IsVariant types entry)
        → ((y < length a.entries) × IsEntry variant) ⊎ ((length a.entries ≤ y) × IsVariant types variant) → x < y
    in_order x y entry variant base bx by (inr p) q = two entry.base p.1.0 bx p.1.2
    in_order x y entry variant base bx by (inl p) (inl q) = two variant.base base q.1 by
    in_order x y entry variant base bx by (inl p) (inr q) = omega (arith, p.0, q.0)

    base_there : (y : ℕ) (variant : TypeEntry Label) (base : ℕ) → variant.base ≡ Some base → ((y < length a.entries) × IsEntry variant) ⊎ ((length a.entries ≤ y) × IsVariant types variant)
        → (entry : TypeEntry Label) × (slice_get types base ≡ Some entry) × (entry.base ≡ None) × EraseAlike variant.type entry.type
    base_there y variant base by (inl q) = two variant.base base q.1 by
    base_there y variant base by (inr q) =
        let same : q.1.0 ≡ base = same_Some q.1.0 base (sym q.1.2 ∙ by) in
        (q.1.1, ap (slice_get types) (sym same) ∙ q.1.3, q.1.4, q.1.5)
