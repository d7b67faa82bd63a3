-- First positions among a function's variables.
use Rattle.std.proofs.Common.{◌≡◌, ℕ, suc, zero, ◌+◌, ◌<◌, ◌≤◌, Bool, true, false, cond, List, [], ◌∷◌, ◌++◌, length, refl, ap, sym, ◌∙◌, arith}
use Rattle.std.specs.Prelude.{Option, Some, None, is_some, option_map, position}
use Rattle.std.specs.List.{position_from}
use Rattle.std.specs.Option.{option_or}
use Rattle.std.proofs.lemmas.Bool.{le-ltb, lt-ltb}
use Rattle.std.proofs.lemmas.Iterator.Adapters.{position_from-zero}
use Rattle.ctw_text.specs.Written.{Name}
use Rattle.ctw_text.specs.Names.{is_named, padded}
use Rattle.ctw_names.specs.Known.{below}
use Rattle.ctw_names.proofs.Positions.{kept, none_from}

module _ {X : Type 0} (p : X → Bool) where
  shifted : (i j : ℕ) (xs : List X) → position_from p (i + j) xs ≡ option_map (λ n. i + n) (position_from p j xs)
  shifted i j [] = refl
  shifted i j (x ∷ xs) = go (p x) (shifted i (j + 1) xs)
    where
      go : (b : Bool) → position_from p (i + (j + 1)) xs ≡ option_map (λ n. i + n) (position_from p (j + 1) xs)
          → cond b (Some (i + j)) (position_from p (i + j + 1) xs) ≡ option_map (λ n. i + n) (cond b (Some j) (position_from p (j + 1) xs))
      go true h = refl
      go false h = let e : i + j + 1 ≡ i + (j + 1) = omega arith in ap (λ (k : ℕ). position_from p k xs) e ∙ h

  joined : (i : ℕ) (xs ys : List X) → position_from p i (xs ++ ys) ≡ option_or (position_from p i xs) (position_from p (i + length xs) ys)
  joined i [] ys = let e : i ≡ i + 0 = omega arith in ap (λ (k : ℕ). position_from p k ys) e
  joined i (x ∷ xs) ys = go (p x) (joined (i + 1) xs ys)
    where
      go : (b : Bool) → position_from p (i + 1) (xs ++ ys) ≡ option_or (position_from p (i + 1) xs) (position_from p (i + 1 + length xs) ys)
          → cond b (Some i) (position_from p (i + 1) (xs ++ ys)) ≡ option_or (cond b (Some i) (position_from p (i + 1) xs)) (position_from p (i + length (x ∷ xs)) ys)
      go true h = refl
      go false h =
          let e : i + 1 + length xs ≡ i + length (x ∷ xs) = omega arith in
          h ∙ ap (λ (k : ℕ). option_or (position_from p (i + 1) xs) (position_from p k ys)) e

  early : (j i : ℕ) (xs : List X) → j ≤ i → below j (position_from p i xs) ≡ None
  early j i [] h = refl
  early j i (x ∷ xs) h = go (p x) (early j (i + 1) xs (omega (arith, h)))
    where
      go : (b : Bool) → below j (position_from p (i + 1) xs) ≡ None → below j (cond b (Some i) (position_from p (i + 1) xs)) ≡ None
      go true rest = ap (λ (b : Bool). cond b (Some i) None) (le-ltb i j h)
      go false rest = rest

module _ (p : Option Name → Bool) (unnamed : p None ≡ false) where
  padded_from : (k i : ℕ) (names : List (Option Name)) → position_from p i (padded k names) ≡ below (i + k) (position_from p i names)
  padded_from zero i names = sym (early p (i + 0) i names (omega arith))
  padded_from (suc k) i [] = ap (λ (b : Bool). cond b (Some i) (position_from p (i + 1) (padded k []))) unnamed ∙ padded_from k (i + 1) []
  padded_from (suc k) i (n ∷ names) = go (p n) (padded_from k (i + 1) names)
    where
      inside : i < i + suc k
      inside = omega arith

      go : (b : Bool) → position_from p (i + 1) (padded k names) ≡ below (i + 1 + k) (position_from p (i + 1) names)
          → cond b (Some i) (position_from p (i + 1) (padded k names)) ≡ below (i + suc k) (cond b (Some i) (position_from p (i + 1) names))
      go true h = sym (ap (λ (b : Bool). cond b (Some i) None) (lt-ltb i (i + suc k) inside))
      go false h = let e : i + 1 + k ≡ i + suc k = omega arith in h ∙ ap (λ (m : ℕ). below m (position_from p (i + 1) names)) e

length_padded : (k : ℕ) (names : List (Option Name)) → length (padded k names) ≡ k
length_padded zero names = refl
length_padded (suc k) [] = ap (λ (n : ℕ). suc n) (length_padded k [])
length_padded (suc k) (m ∷ names) = ap (λ (n : ℕ). suc n) (length_padded k names)

-- a name among parameters and declared locals
pub found_among : (w : Name) (k : ℕ) (params declared : List (Option Name)) → position (is_named w) (padded k params ++ declared) ≡ option_or (below k (position (is_named w) params)) (option_map (λ n. k + n) (position (is_named w) declared))
found_among w k params declared =
    let p = is_named w in
    let size : 0 + length (padded k params) ≡ k + 0 = omega (arith, length_padded k params) in
    let sum : 0 + k ≡ k = omega arith in
    position_from-zero p (padded k params ++ declared) ∙ joined p 0 (padded k params) declared
    ∙ ap (λ (m : ℕ). option_or (position_from p 0 (padded k params)) (position_from p m declared)) size
    ∙ ap (λ (o : Option ℕ). option_or o (position_from p (k + 0) declared)) (padded_from p refl k 0 params ∙ ap (λ (m : ℕ). below m (position_from p 0 params)) sum)
    ∙ ap (λ (o : Option ℕ). option_or (below k (position_from p 0 params)) o) (shifted p k 0 declared)
    ∙ ap (λ (o : Option ℕ). option_or (below k o) (option_map (λ n. k + n) (position_from p 0 declared))) (sym (position_from-zero p params))
    ∙ ap (λ (o : Option ℕ). option_or (below k (position p params)) (option_map (λ n. k + n) o)) (sym (position_from-zero p declared))

module _ (w : Name) (k : ℕ) (params declared : List (Option Name)) (found : Option ℕ) (is : found ≡ below k (position (is_named w) params)) where
  abbrev later : Option ℕ → Option ℕ
  later o = option_map (λ n. k + n) o

  -- a parameter has the name
  pub parameter_found : is_some found ≡ true → found ≡ position (is_named w) (padded k params ++ declared)
  parameter_found some =
      kept found (later (position (is_named w) declared)) some ∙ ap (λ (o : Option ℕ). option_or o (later (position (is_named w) declared))) is ∙ sym (found_among w k params declared)

  -- no parameter has it
  pub declared_found : is_some found ≡ false → (o : Option ℕ) → o ≡ position (is_named w) declared → option_map (λ n. k + n) o ≡ position (is_named w) (padded k params ++ declared)
  declared_found none o there =
      ap later there ∙ ap (λ (f : Option ℕ). option_or f (later (position (is_named w) declared))) (sym (none_from found none) ∙ is) ∙ sym (found_among w k params declared)
