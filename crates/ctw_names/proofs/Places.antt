-- The places of custom sections.
use Rattle.std.proofs.Common.{◌≡◌, ℕ, suc, zero, ◌+◌, ◌-◌, ◌<◌, ◌≤◌, Bool, cond, List, [], ◌∷◌, drop, length, add-one, refl, ap, sym, ◌∙◌, arith}
use Rattle.std.proofs.lemmas.List.{drop_all}
use Rattle.ctw_text.specs.Names.{last_with}

-- one section more
pub last_then : (n at last : ℕ) (has : List Bool) (h : Bool) → at < n → drop at has ≡ h ∷ drop (at + 1) has
    → last_with (n - (at + 1)) (at + 1 + 1) (cond h (at + 1) last) (drop (at + 1) has) ≡ last_with (n - at) (at + 1) last (drop at has)
last_then n at last has h below split =
    let left : n - at ≡ suc (n - (at + 1)) = omega (arith, below) in
    let rest = drop (at + 1) has in
    ap (λ (k : ℕ). last_with (n - (at + 1)) k (cond h (at + 1) last) rest) (add-one (at + 1))
    ∙ ap (λ (l : List Bool). last_with (suc (n - (at + 1))) (at + 1) last l) (sym split)
    ∙ ap (λ (k : ℕ). last_with k (at + 1) last (drop at has)) (sym left)

nothing_more : (k at last : ℕ) → last_with k at last [] ≡ last
nothing_more zero at last = refl
nothing_more (suc k) at last = refl

-- no section is left
pub last_out : (k at i last : ℕ) (has : List Bool) → length has ≤ i → last_with k at last (drop i has) ≡ last
last_out k at i last has past = ap (last_with k at last) (drop_all i has past) ∙ nothing_more k at last
