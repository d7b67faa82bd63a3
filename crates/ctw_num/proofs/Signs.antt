-- The standard's signed interpretation and its divisions, against the machine's words for them.
use Rattle.std.proofs.Common.{◌≡◌, ℕ, suc, ◌-◌, ◌^◌, ◌<◌, Bool, true, false, ltb, cond, ℤ, ◌-ℤ◌, pos, negsuc, refl, sym, ap, ◌∙◌, subst, arith, w8, w16, w32, w64, SFits, pos_of_ne-zero}
use mir.Val.{sel}
use Rattle.std.specs.Int.{cast_signed, cast_unsigned}
use Rattle.std.proofs.lemmas.Int.{ints, of_z-to_z, to_z-of_z}
use Rattle.ctw_num.specs.Integers.{signed, unsigned}

cond_of : (b : Bool) (x y z : ℤ) → y ≡ z → sel b x y ≡ cond b x z
cond_of true x y z e = refl
cond_of false x y z e = e

pub signed32 : (n : ℕ) → n < 2 ^ 32 → cast_signed w32 n ≡ signed 32 n
unfolding signed
signed32 n h = cond_of (ltb n (2 ^ 31)) (pos n) (negsuc (2 ^ 32 - suc n)) (pos n -ℤ pos (2 ^ 32)) (omega (arith, ints))

pub signed8 : (n : ℕ) → n < 2 ^ 8 → cast_signed w8 n ≡ signed 8 n
unfolding signed
signed8 n h = cond_of (ltb n (2 ^ 7)) (pos n) (negsuc (2 ^ 8 - suc n)) (pos n -ℤ pos (2 ^ 8)) (omega (arith, ints))

pub signed16 : (n : ℕ) → n < 2 ^ 16 → cast_signed w16 n ≡ signed 16 n
unfolding signed
signed16 n h = cond_of (ltb n (2 ^ 15)) (pos n) (negsuc (2 ^ 16 - suc n)) (pos n -ℤ pos (2 ^ 16)) (omega (arith, ints))

pub signed64 : (n : ℕ) → n < 2 ^ 64 → cast_signed w64 n ≡ signed 64 n
unfolding signed
signed64 n h = cond_of (ltb n (2 ^ 63)) (pos n) (negsuc (2 ^ 64 - suc n)) (pos n -ℤ pos (2 ^ 64)) (omega (arith, ints))

pub unsigned32 : (z : ℤ) → cast_unsigned w32 z ≡ unsigned 32 z
unfolding unsigned
unsigned32 (pos n) = refl
unsigned32 (negsuc n) = refl

pub unsigned64 : (z : ℤ) → cast_unsigned w64 z ≡ unsigned 64 z
unfolding unsigned
unsigned64 (pos n) = refl
unsigned64 (negsuc n) = refl

-- a signed view that the code made and reads again
pub seen32 : (a : ℕ) (j : ℤ) → a < 2 ^ 32 → j ≡ cast_signed w32 a → cast_signed w32 (cast_unsigned w32 j) ≡ signed 32 a
seen32 a j h e = ap (λ z. cast_signed w32 (cast_unsigned w32 z)) e ∙ ap (cast_signed w32) (of_z-to_z w32 a h) ∙ signed32 a h

pub seen8 : (a : ℕ) (j : ℤ) → a < 2 ^ 8 → j ≡ cast_signed w8 a → cast_signed w8 (cast_unsigned w8 j) ≡ signed 8 a
seen8 a j h e = ap (λ z. cast_signed w8 (cast_unsigned w8 z)) e ∙ ap (cast_signed w8) (of_z-to_z w8 a h) ∙ signed8 a h

pub seen16 : (a : ℕ) (j : ℤ) → a < 2 ^ 16 → j ≡ cast_signed w16 a → cast_signed w16 (cast_unsigned w16 j) ≡ signed 16 a
seen16 a j h e = ap (λ z. cast_signed w16 (cast_unsigned w16 z)) e ∙ ap (cast_signed w16) (of_z-to_z w16 a h) ∙ signed16 a h

pub seen64 : (a : ℕ) (j : ℤ) → a < 2 ^ 64 → j ≡ cast_signed w64 a → cast_signed w64 (cast_unsigned w64 j) ≡ signed 64 a
seen64 a j h e = ap (λ z. cast_signed w64 (cast_unsigned w64 z)) e ∙ ap (cast_signed w64) (of_z-to_z w64 a h) ∙ signed64 a h

-- a signed result that the code makes unsigned
pub bits32 : (z : ℤ) → SFits w32 z → cast_unsigned w32 (cast_signed w32 (cast_unsigned w32 z)) ≡ unsigned 32 z
bits32 z fits = ap (cast_unsigned w32) (to_z-of_z w32 z fits) ∙ unsigned32 z

pub bits64 : (z : ℤ) → SFits w64 z → cast_unsigned w64 (cast_signed w64 (cast_unsigned w64 z)) ≡ unsigned 64 z
bits64 z fits = ap (cast_unsigned w64) (to_z-of_z w64 z fits) ∙ unsigned64 z

pub nonzero32 : (b : ℕ) (k : ℤ) → b < 2 ^ 32 → (b ≡ 0 → ⊥) → k ≡ cast_signed w32 b → 0 < cast_unsigned w32 (cast_signed w32 (cast_unsigned w32 k))
nonzero32 b k h nonzero e =
    let same : cast_unsigned w32 (cast_signed w32 (cast_unsigned w32 k)) ≡ b =
    ap (λ z. cast_unsigned w32 (cast_signed w32 (cast_unsigned w32 z))) e
    ∙ ap (λ n. cast_unsigned w32 (cast_signed w32 n)) (of_z-to_z w32 b h) ∙ of_z-to_z w32 b h in
    subst (λ n. 0 < n) (sym same) (pos_of_ne-zero nonzero)

pub nonzero64 : (b : ℕ) (k : ℤ) → b < 2 ^ 64 → (b ≡ 0 → ⊥) → k ≡ cast_signed w64 b → 0 < cast_unsigned w64 (cast_signed w64 (cast_unsigned w64 k))
nonzero64 b k h nonzero e =
    let same : cast_unsigned w64 (cast_signed w64 (cast_unsigned w64 k)) ≡ b =
    ap (λ z. cast_unsigned w64 (cast_signed w64 (cast_unsigned w64 z))) e
    ∙ ap (λ n. cast_unsigned w64 (cast_signed w64 n)) (of_z-to_z w64 b h) ∙ of_z-to_z w64 b h in
    subst (λ n. 0 < n) (sym same) (pos_of_ne-zero nonzero)

-- the two interpretations undo each other
pub unsigned-signed32 : (n : ℕ) → n < 2 ^ 32 → unsigned 32 (signed 32 n) ≡ n
unsigned-signed32 n h = ap (unsigned 32) (sym (signed32 n h)) ∙ sym (unsigned32 (cast_signed w32 n)) ∙ of_z-to_z w32 n h

pub unsigned-signed64 : (n : ℕ) → n < 2 ^ 64 → unsigned 64 (signed 64 n) ≡ n
unsigned-signed64 n h = ap (unsigned 64) (sym (signed64 n h)) ∙ sym (unsigned64 (cast_signed w64 n)) ∙ of_z-to_z w64 n h
