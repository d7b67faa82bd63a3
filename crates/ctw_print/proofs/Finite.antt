-- What holds of each number below another one.
use Rattle.std.proofs.Common.{◌≡◌, ◌<◌, ℕ, zero, suc, Bool, true, false, ◌&&◌, nat_lt, refl, subst, arith}
use Rattle.std.proofs.lemmas.Bool.{false≢true, ltb-true, ltb-false}

unfoldable pub below : (ℕ → Bool) → ℕ → Bool
below p zero = true
below p (suc n) = p n && below p n

front : (a b : Bool) → (a && b) ≡ true → a ≡ true
front true b e = refl
front false b e = absurd (false≢true e)

back : (a b : Bool) → (a && b) ≡ true → b ≡ true
back true b e = e
back false b e = absurd (false≢true e)

pub below_is : (p : ℕ → Bool) (n : ℕ) → below p n ≡ true → (k : ℕ) → k < n → p k ≡ true
unfolding below
below_is p zero e k lt = absurd (omega (arith, lt))
below_is p (suc n) e k lt = go (λ l. below_is p n (back (p n) (below p n) e) k l) (nat_lt k n) refl
  where
    go : (k < n → p k ≡ true) → (test : Bool) → nat_lt k n ≡ test → p k ≡ true
    go h true q = h (ltb-true k n q)
    go h false q =
        let same : n ≡ k = omega (arith, lt, ltb-false k n q) in
        subst (λ (j : ℕ). p j ≡ true) same (front (p n) (below p n) e)
