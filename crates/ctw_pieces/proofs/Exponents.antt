-- Exponents of powers of two, from the largest on.
use Rattle.std.proofs.Common.{◌≡◌, ℕ, zero, suc, ◌-◌, ◌*◌, ◌/◌, ◌^◌, ◌<◌, ◌≤◌, true, false, Some, nat_eq, refl, ap, sym, ◌∙◌, arith, eq-eqb}
use Rattle.std.proofs.Math.Nat.{pow-suc}
use Rattle.std.proofs.lemmas.Bool.{false_from_ne_true, eqb-true}
use Rattle.ctw_text.specs.Grammar.{exponent_below, exponent}

-- `power` is 2 ^ k, and n is no power of two above it
abbrev pub IsAt : (k n power : ℕ) → Type 0
IsAt k n power = (exponent_below k n ≡ exponent n) × ((k ≤ 31) × (power ≡ 2 ^ k))

halved : (k : ℕ) → 2 ^ suc k / 2 ≡ 2 ^ k
halved k = let d : 2 ^ suc k ≡ 2 ^ k * 2 = pow-suc 2 k in rw d (half (2 ^ k))
  where
    half : (p : ℕ) → p * 2 / 2 ≡ p
    half p = omega arith

pub kept : (k n power : ℕ) → IsAt k n power → 0 < k → (n ≡ power → ⊥) → IsAt (k - 1) n (power / 2)
kept zero n power i h d = absurd (omega arith)
kept (suc k) n power (below, (small, is)) h d =
    let e : suc k - 1 ≡ k = omega arith in
    let f : nat_eq n (2 ^ suc k) ≡ false =
    false_from_ne_true (nat_eq n (2 ^ suc k)) (λ q. d (eqb-true n (2 ^ suc k) q ∙ sym is)) in
    let b : exponent_below k n ≡ exponent n = sym (passed k n f) ∙ below in
    rw e (b, (omega arith, ap (λ p. p / 2) is ∙ halved k))
  where
    passed : (k n : ℕ) → nat_eq n (2 ^ suc k) ≡ false → exponent_below (suc k) n ≡ exponent_below k n
    passed k n f = rw f refl

pub found : (k n power : ℕ) → IsAt k n power → 0 < k → n ≡ power → Some k ≡ exponent n
found zero n power i h e = absurd (omega arith)
found (suc k) n power (below, (small, is)) h e =
    let f : nat_eq n (2 ^ suc k) ≡ true = eq-eqb n (2 ^ suc k) (e ∙ is) in
    here k n f ∙ below
  where
    here : (k n : ℕ) → nat_eq n (2 ^ suc k) ≡ true → Some (suc k) ≡ exponent_below (suc k) n
    here k n f = rw f refl
