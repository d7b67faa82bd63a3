-- Numbers of bytes, one byte after another.
use Rattle.std.proofs.Common.{◌≡◌, ℕ, zero, suc, ◌+◌, ◌*◌, ◌<◌, ◌≤◌, ◌^◌, List, ◌∷◌, length, take, drop, get_or, refl, ap, ◌∙◌, arith, add-one, drop-cons, replicate, ◌≢◌}
use Rattle.std.proofs.Math.Nat.{pow-suc}
use Rattle.ctw_semantics.specs.Stores.{number_of_bytes}
use Rattle.ctw_store.specs.Answers.{IsAccess}

pub number_next : (bytes : List ℕ) (p k x : ℕ) → p < length bytes → get_or bytes p x ≡ x → number_of_bytes (take (k + 1) (drop p bytes)) ≡ number_of_bytes (take k (drop (p + 1) bytes)) * 256 + x
number_next bytes p k x h e =
    let d = drop-cons bytes p x h in
    let a : take (k + 1) (drop p bytes) ≡ x ∷ take k (drop (p + 1) bytes) = rw (add-one k, add-one p, d) (ap (λ y. y ∷ take k (drop (suc p) bytes)) e) in
    ap number_of_bytes a ∙ omega arith

-- one byte more still fits
pub below_next : (k n x : ℕ) → k < 8 → n < 256 ^ k → x < 256 → n * 256 + x < 2 ^ 64
below_next zero n x h l b = omega arith
below_next (suc zero) n x h l b = omega arith
below_next (suc (suc zero)) n x h l b = omega arith
below_next (suc (suc (suc zero))) n x h l b = omega arith
below_next (suc (suc (suc (suc zero)))) n x h l b = omega arith
below_next (suc (suc (suc (suc (suc zero))))) n x h l b = omega arith
below_next (suc (suc (suc (suc (suc (suc zero)))))) n x h l b = omega arith
below_next (suc (suc (suc (suc (suc (suc (suc zero))))))) n x h l b = omega arith
below_next (suc (suc (suc (suc (suc (suc (suc (suc k)))))))) n x h l b = absurd (omega arith)

pub small_next : (k n x : ℕ) → n < 256 ^ k → x < 256 → n * 256 + x < 256 ^ (k + 1)
small_next k n x l b = let p : 256 ^ (k + 1) ≡ 256 ^ k * 256 = rw (add-one k, pow-suc 256 k) refl in omega (arith, p)

pub number_of_zeros : (count : ℕ) → number_of_bytes (replicate count 0) ≡ 0
number_of_zeros zero = refl
number_of_zeros (suc count) = let e = number_of_zeros count in omega arith

-- ---- how many bytes are loaded and stored at once

pub access_some : (n : ℕ) → IsAccess n → (0 < n) × (n ≤ 8)
access_some n h = (omega (arith, h), omega (arith, h))

pub access_eight : (n : ℕ) → IsAccess n → n ≢ 1 → n ≢ 2 → n ≢ 4 → n ≡ 8
access_eight n h a b c = omega (arith, h)
