-- The three kinds of numbers.
use Rattle.std.proofs.Common.{◌≡◌, ℕ, ◌+◌, ◌^◌, ◌<◌, List, ◌∷◌, ◌++◌, length, Result, Ok, Err, refl, sym, ap, subst, ◌∙◌, arith}
use Rattle.std.specs.Prelude.{ℤ, pos, negsuc, FitsSigned}
use Rattle.std.specs.Int.{w32, w64, cast_unsigned, cast_signed}
use Rattle.std.proofs.lemmas.Int.{to_z-of_z, of_z-to_z}
use Rattle.ctw_leb.specs.declared.fault.LebFault.{LebFault}
use Rattle.ctw_leb.specs.declared.fault.LebFault.TheVariants.{Truncated}
use Rattle.ctw_leb.specs.Input.{Input, behind}
use Rattle.ctw_leb.specs.Grammar.{Grammar, EndsInside}
use Rattle.ctw_leb.specs.Reading.{Reader, chain, seen_as}
use Rattle.ctw_leb.specs.Calls.{Reads, ReadsAs}
use mir.Syntax.{Width}
use Rattle.ctw_leb.specs.Numbers.{IsSigned, IsU32, IsS32, IsS64}
use Rattle.ctw_leb.specs.Readers.{unsigned_end, signed_end, u32_at, s32_at, s64_at}
use Rattle.ctw_leb.proofs.Exact.{ok_is, err_is, ok_err, chain_ok, exact_same}
use Rattle.ctw_leb.proofs.Numbers.{IsNumber, placed_number, exact_number, number_truncated, number_only, unsigned_zero, signed_zero}
use Rattle.ctw_leb.proofs.Standard.{number_from_unsigned, unsigned_from_number, number_from_signed, signed_from_number}
use Rattle.ctw_leb.proofs.Fronts.{ExactNumber}

-- the same bytes end inside spellings
inside_same : {A B : Type 0} (G : Grammar A) (H : Grammar B) → ((text : List ℕ) (a : A) → G text a → (b : B) × H text b) → (bytes : List ℕ) → EndsInside G bytes → EndsInside H bytes
inside_same G H to bytes h =
    let m = to (bytes ++ h.0 ∷ h.1) h.2 h.3 in
    (h.0, h.1, m.0, m.1)

-- a reader's laws hold for each grammar with the same spellings
number_same : (G H : Grammar ℕ) (r : Reader ℕ LebFault) → ((text : List ℕ) (n : ℕ) → G text n → H text n) → ((text : List ℕ) (n : ℕ) → H text n → G text n) → ExactNumber G r → ExactNumber H r
number_same G H r to from laws = record {
  exact = exact_same G H r to from laws.exact;
  truncated = λ i. (
    λ e. inside_same G H (λ text n m. (n, to text n m)) i.rest ((laws.truncated i).0 e),
    λ h. (laws.truncated i).1 (inside_same H G (λ text n m. (n, from text n m)) i.rest h),
  );
  only = laws.only;
}

unsigned_numbers : (half : ℕ) → 0 < half → ExactNumber (IsNumber unsigned_end half) (placed_number unsigned_end half)
unsigned_numbers half some = record {
  exact = exact_number unsigned_end half;
  truncated = λ i. number_truncated unsigned_end half i unsigned_zero some;
  only = λ i e q. number_only unsigned_end half i e q;
}

signed_numbers : (half : ℕ) → 0 < half → ExactNumber (IsNumber signed_end half) (placed_number signed_end half)
signed_numbers half some = record {
  exact = exact_number signed_end half;
  truncated = λ i. number_truncated signed_end half i signed_zero some;
  only = λ i e q. number_only signed_end half i e q;
}

pub u32_numbers : ExactNumber IsU32 u32_at
u32_numbers = number_same (IsNumber unsigned_end (2 ^ 31)) IsU32 u32_at (λ text n m. unsigned_from_number 31 (2 ^ 31) text n refl m) (λ text n m. number_from_unsigned 31 (2 ^ 31) text n refl m) (unsigned_numbers (2 ^ 31) (omega arith))

-- a signed number's bits
s32_bits : (text : List ℕ) (n : ℕ) → IsNumber signed_end (2 ^ 31) text n → IsS32 text n
s32_bits text n m =
    let s = signed_from_number 31 (2 ^ 31) text n refl m in
    (cast_signed w32 n, s.0, of_z-to_z w32 n s.1)

s32_number : (text : List ℕ) (z : ℤ) → IsSigned 32 text z → IsNumber signed_end (2 ^ 31) text (cast_unsigned w32 z)
s32_number text (pos k) m = (number_from_signed 31 (2 ^ 31) text (pos k) refl m).0
s32_number text (negsuc k) m = (number_from_signed 31 (2 ^ 31) text (negsuc k) refl m).0

pub s32_numbers : ExactNumber IsS32 s32_at
s32_numbers = number_same (IsNumber signed_end (2 ^ 31)) IsS32 s32_at s32_bits (λ text n m. subst (λ (k : ℕ). IsNumber signed_end (2 ^ 31) text k) m.2 (s32_number text m.0 m.1)) (signed_numbers (2 ^ 31) (omega arith))

s64_bits : (text : List ℕ) (n : ℕ) → IsNumber signed_end (2 ^ 63) text n → IsS64 text n
s64_bits text n m =
    let s = signed_from_number 63 (2 ^ 63) text n refl m in
    (cast_signed w64 n, s.0, of_z-to_z w64 n s.1)

s64_number : (text : List ℕ) (z : ℤ) → IsSigned 64 text z → IsNumber signed_end (2 ^ 63) text (cast_unsigned w64 z)
s64_number text (pos k) m = (number_from_signed 63 (2 ^ 63) text (pos k) refl m).0
s64_number text (negsuc k) m = (number_from_signed 63 (2 ^ 63) text (negsuc k) refl m).0

pub s64_numbers : ExactNumber IsS64 s64_at
s64_numbers = number_same (IsNumber signed_end (2 ^ 63)) IsS64 s64_at s64_bits (λ text n m. subst (λ (k : ℕ). IsNumber signed_end (2 ^ 63) text k) m.2 (s64_number text m.0 m.1)) (signed_numbers (2 ^ 63) (omega arith))

-- ---- signed numbers by themselves

-- a number in the grammar fits
s32_fits : (text : List ℕ) (z : ℤ) → IsSigned 32 text z → FitsSigned w32 z
s32_fits text (pos k) m = record { sfits = (number_from_signed 31 (2 ^ 31) text (pos k) refl m).1 }
s32_fits text (negsuc k) m = record { sfits = (number_from_signed 31 (2 ^ 31) text (negsuc k) refl m).1 }

s64_fits : (text : List ℕ) (z : ℤ) → IsSigned 64 text z → FitsSigned w64 z
s64_fits text (pos k) m = record { sfits = (number_from_signed 63 (2 ^ 63) text (pos k) refl m).1 }
s64_fits text (negsuc k) m = record { sfits = (number_from_signed 63 (2 ^ 63) text (negsuc k) refl m).1 }

-- laws of a reader seen in another way, which loses nothing of what the grammar spells
number_seen : {A B : Type 0} (f : A → B) (back : B → A) (G : Grammar A) (H : Grammar B) (r : Reader A LebFault) → ((text : List ℕ) (a : A) → G text a → H text (f a)) → ((text : List ℕ) (b : B) → H text b → G text (back b) × (f (back b) ≡ b)) → ExactNumber G r → ExactNumber H (seen_as f r)
number_seen {A} {B} f back G H r to from laws = record {
  exact = record { sound = sound; complete = complete };
  truncated = λ i. (
    λ e. inside_same G H (λ text a m. (f a, to text a m)) i.rest ((laws.truncated i).0 (seen_err i (r i) Truncated e)),
    λ h. rw ((laws.truncated i).1 (inside_same H G (λ text b m. (back b, (from text b m).0)) i.rest h)) refl,
  );
  only = λ i e q. laws.only i e (seen_err i (r i) e q);
}
  where
    seen_err : (i : Input) (read : Result (A × Input) LebFault) (e : LebFault) → chain {Y = B × Input} read (λ x. Ok (f x.0, x.1)) ≡ Err e → read ≡ Err e
    seen_err i (Ok x) e q = absurd (ok_err (f x.0, x.1) e q)
    seen_err i (Err d) e q = ap (λ (z : LebFault). Err z) (err_is {A = B × Input} d e q)

    sound : (i : Input) (b : B) (o : Input) → seen_as f r i ≡ Ok (b, o) → (text : List ℕ) × H text b × (i.rest ≡ text ++ o.rest) × (o.at ≡ i.at + length text)
    sound i b o e =
        let c = chain_ok (r i) (λ x. Ok (f x.0, x.1)) (b, o) e in
        let p : (f c.0.0, c.0.1) ≡ (b, o) = ok_is {F = LebFault} (f c.0.0, c.0.1) (b, o) c.2 in
        let s = laws.exact.sound i c.0.0 c.0.1 c.1 in
        (s.0, subst (λ (y : B). H s.0 y) (ap (λ (z : B × Input). z.0) p) (to s.0 c.0.0 s.1), s.2 ∙ ap (λ (z : B × Input). s.0 ++ z.1.rest) p, ap (λ (z : B × Input). z.1.at) (sym p) ∙ s.3)

    complete : (text rest : List ℕ) (at : ℕ) (b : B) → H text b → seen_as f r (record { at = at; rest = text ++ rest }) ≡ Ok (b, behind at text rest)
    complete text rest at b m =
        let h = from text b m in
        rw (laws.exact.complete text rest at (back b) h.0) (ap (λ (y : B). Ok (y, behind at text rest)) h.1)

-- the readers of signed numbers
abbrev pub signed32_at : Reader ℤ LebFault
signed32_at = seen_as (cast_signed w32) s32_at

abbrev pub signed64_at : Reader ℤ LebFault
signed64_at = seen_as (cast_signed w64) s64_at

pub signed32_numbers : ExactNumber (IsSigned 32) signed32_at
signed32_numbers = number_seen (cast_signed w32) (cast_unsigned w32) IsS32 (IsSigned 32) s32_at
    (λ text n m. subst (λ (k : ℕ). IsSigned 32 text (cast_signed w32 k)) m.2 (subst (λ (z : ℤ). IsSigned 32 text z) (sym (to_z-of_z w32 m.0 (s32_fits text m.0 m.1))) m.1))
    (λ text z m. ((z, m, refl), to_z-of_z w32 z (s32_fits text z m))) s32_numbers

pub signed64_numbers : ExactNumber (IsSigned 64) signed64_at
signed64_numbers = number_seen (cast_signed w64) (cast_unsigned w64) IsS64 (IsSigned 64) s64_at
    (λ text n m. subst (λ (k : ℕ). IsSigned 64 text (cast_signed w64 k)) m.2 (subst (λ (z : ℤ). IsSigned 64 text z) (sym (to_z-of_z w64 m.0 (s64_fits text m.0 m.1))) m.1))
    (λ text z m. ((z, m, refl), to_z-of_z w64 z (s64_fits text z m))) s64_numbers

-- an answer seen by its bits, seen by itself
pub by_number : {F : Type 0} (w : Width) (r : Reader ℕ F) (result : Result ℤ F) (old new : Input) → ((z : ℤ) → result ≡ Ok z → FitsSigned w z) → ReadsAs (cast_unsigned w) result old new (r old) → Reads result old new (seen_as (cast_signed w) r old)
by_number w r (Ok z) old new fits h = rw h (ap (λ (y : ℤ). Ok (y, new)) (to_z-of_z w z (fits z refl)))
by_number w r (Err e) old new fits h = (rw h.0 refl, h.1)
