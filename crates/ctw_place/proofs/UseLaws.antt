-- Variants in the order of their first use: what is there stays where it is.
use Rattle.std.proofs.Common.{◌≡◌, ◌≤◌, suc, ◌+◌, Bool, true, false, List, [], ◌∷◌, ◌++◌, length, if◌then◌else◌, refl, sym, ◌∙◌, ap, arith, length-append}
use Rattle.std.specs.Prelude.{◌||◌}
use Rattle.std.specs.List.{AllByRecursion}
use Rattle.ctw_ops.specs.declared.types.Label.{Label}
use Rattle.ctw_labels.specs.Placed.{TypeUse, is_all_public, same_use, has_use, place_of_use, with_use, with_uses}
use Rattle.ctw_labels.proofs.NumberLaws.{all_append_to}
use Rattle.ctw_labels.proofs.UseLaws.{use_refl}

abbrev Uses : Type 0
Uses = List (TypeUse Label)

pub uses_append : (vs us ws : Uses) → with_uses vs (us ++ ws) ≡ with_uses (with_uses vs us) ws
uses_append vs [] ws = refl
uses_append vs (u ∷ us) ws = uses_append (with_use vs u) us ws

pub one_grows : (vs : Uses) (u : TypeUse Label) → length vs ≤ length (with_use vs u)
one_grows vs u = by (is_all_public u.type || has_use vs u)
  where
    by : (b : Bool) → length vs ≤ length (if b then vs else vs ++ u ∷ [])
    by true = omega arith
    by false = let l = length-append vs (u ∷ []) in omega (arith, l)

pub one_most : (vs : Uses) (u : TypeUse Label) → length (with_use vs u) ≤ length vs + 1
one_most vs u = by (is_all_public u.type || has_use vs u)
  where
    by : (b : Bool) → length (if b then vs else vs ++ u ∷ []) ≤ length vs + 1
    by true = omega arith
    by false = let l = length-append vs (u ∷ []) in omega (arith, l)

pub all_grow : (vs us : Uses) → length vs ≤ length (with_uses vs us)
all_grow vs [] = omega arith
all_grow vs (u ∷ us) = let h = all_grow (with_use vs u) us in omega (arith, h, one_grows vs u)

-- ---- places

here : {A : Type 0} (b c : Bool) (x y z : A) → b ≡ c → (c ≡ false → x ≡ y) → (if b then z else x) ≡ (if b then z else y)
here b true x y z e h = ap (λ q. if q then z else x) e ∙ sym (ap (λ q. if q then z else y) e)
here b false x y z e h = ap (λ q. if q then z else x) e ∙ h refl ∙ sym (ap (λ q. if q then z else y) e)

or_rest : (a c b : Bool) → a ≡ c → c ≡ false → (a || b) ≡ true → b ≡ true
or_rest a c true e f k = refl
or_rest true c false e f k = cc
or_rest false c false e f k = k

place_grow : (vs ws : Uses) (u : TypeUse Label) → has_use vs u ≡ true → place_of_use (vs ++ ws) u ≡ place_of_use vs u
place_grow [] ws u e = cc
place_grow (v ∷ vs) ws u e = here (same_use v u) (same_use v u) (suc (place_of_use (vs ++ ws) u)) (suc (place_of_use vs u)) 0 refl (λ k. ap suc (place_grow vs ws u (or_rest (same_use v u) (same_use v u) (has_use vs u) refl k e)))

or_left : (a b c : Bool) → (b ≡ true → c ≡ true) → (a || b) ≡ true → (a || c) ≡ true
or_left true b c h e = refl
or_left false b c h e = h e

has_grow : (vs ws : Uses) (u : TypeUse Label) → has_use vs u ≡ true → has_use (vs ++ ws) u ≡ true
has_grow [] ws u e = cc
has_grow (v ∷ vs) ws u e = or_left (same_use v u) (has_use vs u) (has_use (vs ++ ws) u) (λ k. has_grow vs ws u k) e

or_true : (a b : Bool) → b ≡ true → (a || b) ≡ true
or_true true b e = refl
or_true false b e = e

has_end : (vs : Uses) (u : TypeUse Label) → has_use (vs ++ u ∷ []) u ≡ true
has_end [] u = ap (λ z. z || false) (use_refl u)
has_end (v ∷ vs) u = or_true (same_use v u) (has_use (vs ++ u ∷ []) u) (has_end vs u)

pub has_with : (vs : Uses) (u : TypeUse Label) → is_all_public u.type ≡ false → has_use (with_use vs u) u ≡ true
has_with vs u e = by (has_use vs u) refl
  where
    by : (b : Bool) → has_use vs u ≡ b → has_use (with_use vs u) u ≡ true
    by true k = ap (λ z. has_use (if z || has_use vs u then vs else vs ++ u ∷ []) u) e ∙ ap (λ z. has_use (if z then vs else vs ++ u ∷ []) u) k ∙ k
    by false k = ap (λ z. has_use (if z || has_use vs u then vs else vs ++ u ∷ []) u) e ∙ ap (λ z. has_use (if z then vs else vs ++ u ∷ []) u) k ∙ has_end vs u

has_one : (vs : Uses) (u w : TypeUse Label) → has_use vs u ≡ true → has_use (with_use vs w) u ≡ true
has_one vs u w e = by (is_all_public w.type || has_use vs w)
  where
    by : (b : Bool) → has_use (if b then vs else vs ++ w ∷ []) u ≡ true
    by true = e
    by false = has_grow vs (w ∷ []) u e

place_one : (vs : Uses) (u w : TypeUse Label) → has_use vs u ≡ true → place_of_use (with_use vs w) u ≡ place_of_use vs u
place_one vs u w e = by (is_all_public w.type || has_use vs w)
  where
    by : (b : Bool) → place_of_use (if b then vs else vs ++ w ∷ []) u ≡ place_of_use vs u
    by true = refl
    by false = place_grow vs (w ∷ []) u e

pub place_kept : (vs us : Uses) (u : TypeUse Label) → has_use vs u ≡ true → place_of_use (with_uses vs us) u ≡ place_of_use vs u
place_kept vs [] u e = refl
place_kept vs (w ∷ us) u e = place_kept (with_use vs w) us u (has_one vs u w e) ∙ place_one vs u w e

pub place_end : (vs : Uses) (u : TypeUse Label) → has_use vs u ≡ false → place_of_use (vs ++ u ∷ []) u ≡ length vs
place_end [] u e = ap (λ z. if z then 0 else 1) (use_refl u)
place_end (v ∷ vs) u e = by (same_use v u) refl (λ k. place_end vs u k)
  where
    neither : (a b : Bool) → (a || b) ≡ false → (a ≡ false) × (b ≡ false)
    neither false b e = (refl, e)
    neither true b e = cc

    by : (b : Bool) → same_use v u ≡ b → (has_use vs u ≡ false → place_of_use (vs ++ u ∷ []) u ≡ length vs) → (if same_use v u then 0 else suc (place_of_use (vs ++ u ∷ []) u)) ≡ suc (length vs)
    by true k h = let n = (neither (same_use v u) (has_use vs u) e).0 in cc
    by false k h = ap (λ z. if z then 0 else suc (place_of_use (vs ++ u ∷ []) u)) k ∙ ap suc (h (neither (same_use v u) (has_use vs u) e).1)

-- ---- what holds of all

pub all_one : (P : TypeUse Label → Type 0) (vs : Uses) (u : TypeUse Label) → AllByRecursion P vs → P u → AllByRecursion P (with_use vs u)
all_one P vs u h k = by (is_all_public u.type || has_use vs u)
  where
    by : (b : Bool) → AllByRecursion P (if b then vs else vs ++ u ∷ [])
    by true = h
    by false = all_append_to P vs (u ∷ []) h (k, tt)

pub place_most : (vs : Uses) (u : TypeUse Label) → place_of_use vs u ≤ length vs
place_most [] u = omega arith
place_most (v ∷ vs) u = by (same_use v u) (place_most vs u)
  where
    by : (b : Bool) → place_of_use vs u ≤ length vs → (if b then 0 else suc (place_of_use vs u)) ≤ suc (length vs)
    by true h = omega arith
    by false h = omega (arith, h)
