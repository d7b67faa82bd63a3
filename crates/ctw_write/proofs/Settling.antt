-- Grammars that a writer settles: what it writes for a value that is spelled is a spelling too, and the shortest.
use Rattle.std.proofs.Common.{◌≡◌, ℕ, zero, suc, ◌+◌, ◌-◌, ◌/◌, ◌<◌, ◌≤◌, ◌^◌, Bool, false, List, [], ◌∷◌, ◌++◌, length, Result, Ok, refl, sym, ap, ◌∙◌, append_assoc, append-nil, arith, inl, inr}
use Rattle.std.specs.Prelude.{ℤ, pos, negsuc, FitsSigned, nat_le}
use Rattle.std.specs.Str.{is_utf8}
use Rattle.std.specs.Int.{w32, w64, cast_signed}
use Rattle.std.proofs.lemmas.Bool.{cases_lt}
use Rattle.std.proofs.lemmas.List.{length-append}
use Rattle.std.proofs.lemmas.Int.{to_z-of_z}
use Rattle.ctw_ops.specs.declared.types.Width.{Width}
use Rattle.ctw_ops.specs.declared.types.Width.TheVariants.{W32, W64}
use Rattle.ctw_leb.specs.Grammar.{Grammar, Just, Bytes, OneOf, Items, Times, TimesFrom, Passing, Mapped, ◌>>=◌}
use Rattle.ctw_leb.specs.Numbers.{IsUnsigned, IsU32, IsSigned}
use Rattle.ctw_leb.specs.Vectors.{Vector, Sized, IsByteVector, IsName}
use Rattle.ctw_leb.specs.Spelling.{IsMinimal, shortest, u32_text, s64_text}
use Rattle.ctw_leb.proofs.Standard.{seven_more, number_from_signed}
use Rattle.ctw_leb.proofs.Spelling.{one_more, last_one, u32_minimal, s32_minimal, s64_minimal}
use Rattle.ctw_flat.specs.Spelled.{IsBits}
use Rattle.ctw_form.specs.Spelled.{VectorUpto}
use Rattle.ctw_form.proofs.SpelledParts.{times_count}
use Rattle.ctw_write.specs.Canon.{all_texts, vector_text, sized_text, bits_text}

-- what is written for a spelled value is a text and then a spelling that isn't longer
pub record Settles {A : Type 0} (before : List ℕ) (G : Grammar A) (write : A → List ℕ) : Type 0 where
  pub settled : (text : List ℕ) (a : A) → G text a → (short : List ℕ) × G short a × (length short ≤ length text) × (write a ≡ before ++ short)

-- ---- combinators

pub settles_just : {A : Type 0} (before : List ℕ) (a : A) (w : A → List ℕ) → w a ≡ before → Settles before (Just a) w
settles_just before a w e = record {
  settled = λ text b m. ([], (refl, m.1), omega arith, ap w (sym m.1) ∙ e ∙ sym (append-nil before));
}

-- one thing and then another, where something is known of the first
pub settles_where : {A B : Type 0} (P : A → Type 0) (before : List ℕ) (G : Grammar A) (H : A → Grammar B) (u : A → List ℕ) (w : B → List ℕ)
    → ((text : List ℕ) (a : A) → G text a → P a) → Settles [] G u → ((a : A) → P a → Settles (before ++ u a) (H a) w) → Settles before (G >>= H) w
settles_where P before G H u w known g h = record {
  settled = λ text b m.
      let f = g.settled m.1 m.0 m.3 in
      let s = (h m.0 (known m.1 m.0 m.3)).settled m.2 b m.4 in
      let whole : w b ≡ before ++ (f.0 ++ s.0) = s.3 ∙ append_assoc before (u m.0) s.0 ∙ ap (λ (l : List ℕ). before ++ (l ++ s.0)) f.3 in
      (f.0 ++ s.0, (m.0, f.0, s.0, f.1, s.1, refl), omega (arith, length-append f.0 s.0, ap length m.5, length-append m.1 m.2, f.2, s.2), whole);
}

pub settles_then : {A B : Type 0} (before : List ℕ) (G : Grammar A) (H : A → Grammar B) (u : A → List ℕ) (w : B → List ℕ) → Settles [] G u → ((a : A) → Settles (before ++ u a) (H a) w) → Settles before (G >>= H) w
settles_then before G H u w g h = settles_where (λ a. Unit {0}) before G H u w (λ text a m. tt) g (λ a k. h a)

-- something seen in another way
pub settles_seen : {A B : Type 0} (before : List ℕ) (f : A → B) (G : Grammar A) (u : A → List ℕ) (w : B → List ℕ) → Settles [] G u → ((text : List ℕ) (a : A) → G text a → w (f a) ≡ before ++ u a) → Settles before (Mapped f G) w
settles_seen before f G u w g e = record {
  settled = λ text b m.
      let s = g.settled text m.0 m.1 in
      (s.0, (m.0, s.1, m.2), s.2, ap w (sym m.2) ∙ e text m.0 m.1 ∙ ap (λ (l : List ℕ). before ++ l) s.3);
}

pub settles_mapped : {A B : Type 0} (before : List ℕ) (f : A → B) (G : Grammar A) (u : A → List ℕ) (w : B → List ℕ) → Settles [] G u → ((a : A) → w (f a) ≡ before ++ u a) → Settles before (Mapped f G) w
settles_mapped before f G u w g e = settles_seen before f G u w g (λ text a m. e a)

-- the same of what is written behind a text
pub settles_same : {A B : Type 0} (before : List ℕ) (f : A → B) (G : Grammar A) (u : A → List ℕ) (w : B → List ℕ) → Settles before G u → ((a : A) → w (f a) ≡ u a) → Settles before (Mapped f G) w
settles_same before f G u w g e = record {
  settled = λ text b m.
      let s = g.settled text m.0 m.1 in
      (s.0, (m.0, s.1, m.2), s.2, ap w (sym m.2) ∙ e m.0 ∙ s.3);
}

-- what is written otherwise for what is spelled
pub settles_as : {A : Type 0} (before : List ℕ) (G : Grammar A) (u w : A → List ℕ) → Settles [] G u → ((text : List ℕ) (a : A) → G text a → w a ≡ before ++ u a) → Settles before G w
settles_as before G u w g e = record {
  settled = λ text a m.
      let s = g.settled text a m in
      (s.0, s.1, s.2, e text a m ∙ ap (λ (l : List ℕ). before ++ l) s.3);
}

pub settles_passing : {A : Type 0} (before : List ℕ) (test : A → Bool) (G : Grammar A) (w : A → List ℕ) → Settles before G w → Settles before (Passing test G) w
settles_passing before test G w g = record {
  settled = λ text a m.
      let s = g.settled text a m.0 in
      (s.0, (s.1, m.1), s.2, s.3);
}

-- one byte that stands for something, of which no other byte stands
pub settles_byte : {A K : Type 0} (table : ℕ → Result A K) (byte : A → ℕ) → ((b : ℕ) (a : A) → table b ≡ Ok a → byte a ≡ b) → Settles [] (OneOf table) (λ a. byte a ∷ [])
settles_byte table byte h = record {
  settled = λ text a m. (text, m, omega arith, ap (λ (b : ℕ). b ∷ []) (h m.0 a m.2) ∙ sym m.1);
}

pub settles_times : {S A : Type 0} (G : S → Grammar A) (next : S → A → S) (w : A → List ℕ) → ((s : S) → Settles [] (G s) w) → (n : ℕ) (s : S) → Settles [] (TimesFrom G next n s) (all_texts w)
settles_times G next w g zero s = settles_just [] [] (all_texts w) refl
settles_times G next w g (suc n) s =
    settles_then [] (G s) (λ a. TimesFrom G next n (next s a) >>= λ others. Just (a ∷ others)) w (all_texts w) (g s) (λ a.
    settles_then (w a) (TimesFrom G next n (next s a)) (λ others. Just (a ∷ others)) (all_texts w) (all_texts w) (settles_times G next w g n (next s a)) (λ others.
    settles_just (w a ++ all_texts w others) (a ∷ others) (all_texts w) refl))

pub settles_items : {S A : Type 0} (G : S → Grammar A) (next : S → A → S) (w : A → List ℕ) → ((s : S) → Settles [] (G s) w) → (s : S) → Settles [] (Items G next s) (all_texts w)
settles_items {S} {A} G next w g s = record { settled = λ text l m. go s text l m }
  where
    go : (s : S) (text : List ℕ) (l : List A) → Items G next s text l → (short : List ℕ) × Items G next s short l × (length short ≤ length text) × (all_texts w l ≡ short)
    go s text [] m = ([], refl, omega arith, refl)
    go s text (a ∷ others) m =
        let f = (g s).settled m.0 a m.2 in
        let r = go (next s a) m.1 others m.3 in
        (f.0 ++ r.0, (f.0, r.0, f.1, r.1, refl), omega (arith, length-append f.0 r.0, ap length m.4, length-append m.0 m.1, f.2, r.2), ap (λ (l : List ℕ). l ++ all_texts w others) f.3 ∙ ap (λ (l : List ℕ). f.0 ++ l) r.3)

pub settles_bytes : Settles [] Bytes (λ bytes. bytes)
settles_bytes = record { settled = λ text a m. (text, m, omega arith, sym m) }

-- ---- numbers

-- a number that is larger has no shorter spelling
pub short_rises : (k a b : ℕ) → a ≤ b → length (shortest 128 false k a) ≤ length (shortest 128 false k b)
unfolding shortest
short_rises zero a b le = omega arith
short_rises (suc k) a b le =
    elim (cases_lt b 128) [
      | inl lt ↦ rw (last_one 128 false k b lt, last_one 128 false k a (omega arith)) (omega arith)
      | inr large ↦ rw (one_more 128 false k b large) (elim (cases_lt a 128) [
        | inl lt ↦ rw (last_one 128 false k a lt) (omega arith)
        | inr more ↦ rw (one_more 128 false k a more) (omega (arith, short_rises k (a / 128) (b / 128) (omega arith)))
      ])
    ]

-- a number of one byte
short_one : (k : ℕ) → length (shortest 128 false k 1) ≤ 1
unfolding shortest
short_one zero = omega arith
short_one (suc k) = omega arith

-- a sum has no longer spelling than its parts together
pub short_sum : (k a b : ℕ) → length (shortest 128 false k (a + b)) ≤ length (shortest 128 false k a) + length (shortest 128 false k b)
unfolding shortest
short_sum zero a b = omega arith
short_sum (suc k) a b =
    elim (cases_lt (a + b) 128) [
      | inl lt ↦ rw (last_one 128 false k (a + b) lt, last_one 128 false k a (omega arith), last_one 128 false k b (omega arith)) (omega arith)
      | inr large ↦ rw (one_more 128 false k (a + b) large) (elim (cases_lt a 128) [
        | inl lt ↦ rw (last_one 128 false k a lt) (elim (cases_lt b 128) [
          | inl less ↦ rw (last_one 128 false k b less) (omega (arith, short_rises k ((a + b) / 128) 1 (omega arith), short_one k))
          | inr more ↦ rw (one_more 128 false k b more) (omega (arith, short_rises k ((a + b) / 128) (b / 128 + 1) (omega arith), short_sum k (b / 128) 1, short_one k))
        ])
        | inr most ↦ rw (one_more 128 false k a most) (elim (cases_lt b 128) [
          | inl less ↦ rw (last_one 128 false k b less) (omega (arith, short_rises k ((a + b) / 128) (a / 128 + 1) (omega arith), short_sum k (a / 128) 1, short_one k))
          | inr more ↦ rw (one_more 128 false k b more) (omega (arith, short_rises k ((a + b) / 128) (a / 128 + b / 128 + 1) (omega arith), short_sum k (a / 128 + b / 128) 1, short_sum k (a / 128) (b / 128), short_one k))
        ])
      ])
    ]

unsigned_fits : (bits : ℕ) (text : List ℕ) (n : ℕ) → IsUnsigned bits text n → n < 2 ^ bits
unsigned_fits bits [] n h = absurd h
unsigned_fits bits (b ∷ []) n h = omega (arith, h.1, h.2)
unsigned_fits bits (b ∷ c ∷ bs) n h =
    let le : 7 ≤ bits = omega (arith, h.2) in
    omega (arith, seven_more bits le, unsigned_fits (bits - 7) (c ∷ bs) h.3 h.4, h.1, h.5)

pub u32_fits : (text : List ℕ) (n : ℕ) → IsU32 text n → n < 2 ^ 32
u32_fits text n m = unsigned_fits 32 text n m

-- the minimal spelling isn't longer
minimal_short : {A : Type 0} (G : Grammar A) (short text : List ℕ) (a : A) → IsMinimal G short a → G text a → length short ≤ length text
minimal_short G short text a h m =
    elim (h.others text m) [
      | inl e ↦ omega (arith, ap length e)
      | inr lt ↦ omega arith
    ]

pub settles_minimal : {A : Type 0} (G : Grammar A) (w : A → List ℕ) → ((text : List ℕ) (a : A) → G text a → IsMinimal G (w a) a) → Settles [] G w
settles_minimal G w h = record {
  settled = λ text a m.
      let s = h text a m in
      (w a, s.spelled, minimal_short G (w a) text a s m, refl);
}

pub settles_number : Settles [] IsU32 u32_text
settles_number = settles_minimal IsU32 u32_text (λ text n m. u32_minimal n (u32_fits text n m))

-- a number up to one that is spelled
pub short_number : (text : List ℕ) (n k : ℕ) → IsU32 text n → k ≤ n → IsU32 (u32_text k) k × (length (u32_text k) ≤ length text)
unfolding u32_text
short_number text n k m le =
    let s = settles_number.settled text n m in
    ((u32_minimal k (omega (arith, u32_fits text n m))).spelled, omega (arith, short_rises 10 k n le, ap length s.3, s.2))

-- a sum isn't longer than its parts together
pub short_total : (a b : ℕ) → length (u32_text (a + b)) ≤ length (u32_text a) + length (u32_text b)
unfolding u32_text
short_total a b = short_sum 10 a b

s32_fits : (text : List ℕ) (z : ℤ) → IsSigned 32 text z → FitsSigned w32 z
s32_fits text (pos k) m = record { sfits = (number_from_signed 31 (2 ^ 31) text (pos k) refl m).1 }
s32_fits text (negsuc k) m = record { sfits = (number_from_signed 31 (2 ^ 31) text (negsuc k) refl m).1 }

s64_fits : (text : List ℕ) (z : ℤ) → IsSigned 64 text z → FitsSigned w64 z
s64_fits text (pos k) m = record { sfits = (number_from_signed 63 (2 ^ 63) text (pos k) refl m).1 }
s64_fits text (negsuc k) m = record { sfits = (number_from_signed 63 (2 ^ 63) text (negsuc k) refl m).1 }

settles_signed : (z : ℤ) (G : Grammar ℤ) → IsMinimal G (s64_text z) z → (text : List ℕ) → G text z → (short : List ℕ) × G short z × (length short ≤ length text) × (s64_text z ≡ short)
settles_signed z G h text m = (s64_text z, h.spelled, minimal_short G (s64_text z) text z h m, refl)

-- the bits of a signed number
pub settles_bits : (width : Width) → Settles [] (IsBits width) (bits_text width)
settles_bits W32 = record {
  settled = λ text bits m.
      let fits = s32_fits text m.0 m.1 in
      let same : cast_signed w32 bits ≡ m.0 = ap (cast_signed w32) (sym m.2) ∙ to_z-of_z w32 m.0 fits in
      let least = s32_minimal m.0 fits in
      (s64_text m.0, (m.0, least.spelled, m.2), minimal_short (IsSigned 32) (s64_text m.0) text m.0 least m.1, ap s64_text same);
}
settles_bits W64 = record {
  settled = λ text bits m.
      let fits = s64_fits text m.0 m.1 in
      let same : cast_signed w64 bits ≡ m.0 = ap (cast_signed w64) (sym m.2) ∙ to_z-of_z w64 m.0 fits in
      let least = s64_minimal m.0 fits in
      (s64_text m.0, (m.0, least.spelled, m.2), minimal_short (IsSigned 64) (s64_text m.0) text m.0 least m.1, ap s64_text same);
}

-- ---- things behind their count or size

pub settles_vector : {A : Type 0} (G : Grammar A) (w : A → List ℕ) → Settles [] G w → Settles [] (Vector G) (vector_text w)
settles_vector G w g =
    settles_then [] IsU32 (λ n. Times G n) u32_text (vector_text w) settles_number
    (λ n. settles_as (u32_text n) (Times G n) (all_texts w) (vector_text w) (settles_times (λ u. G) _ w (λ u. g) n tt)
    (λ text l m. ap (λ (k : ℕ). u32_text k ++ all_texts w l) (times_count (λ u. G) _ n tt text l m)))

pub settles_upto : {A : Type 0} (limit : ℕ) (G : Grammar A) (w : A → List ℕ) → Settles [] G w → Settles [] (VectorUpto limit G) (vector_text w)
settles_upto limit G w g =
    settles_then [] (Passing (λ n. nat_le n limit) IsU32) (λ n. Times G n) u32_text (vector_text w) (settles_passing [] (λ n. nat_le n limit) IsU32 u32_text settles_number)
    (λ n. settles_as (u32_text n) (Times G n) (all_texts w) (vector_text w) (settles_times (λ u. G) _ w (λ u. g) n tt)
    (λ text l m. ap (λ (k : ℕ). u32_text k ++ all_texts w l) (times_count (λ u. G) _ n tt text l m)))

-- something of another value in its size
pub sized_short : {A B : Type 0} (G : Grammar A) (H : Grammar B) (text short : List ℕ) (a : A) (b : B) → (m : Sized G text a) → H short b → length short ≤ length m.2 → Sized H (sized_text short) b × (length (sized_text short) ≤ length text)
sized_short G H text short a b m h le =
    let size = short_number m.1 m.0 (length short) m.3 (omega (arith, m.4.0, le)) in
    ((length short, u32_text (length short), short, size.0, (refl, h), refl), omega (arith, length-append (u32_text (length short)) short, ap length m.5, length-append m.1 m.2, size.1, le))

pub settles_sized : {A : Type 0} (G : Grammar A) (w : A → List ℕ) → Settles [] G w → Settles [] (Sized G) (λ a. sized_text (w a))
settles_sized G w g = record {
  settled = λ text a m.
      let f = g.settled m.2 a m.4.1 in
      let s = sized_short G G text f.0 a a m f.1 f.2 in
      (sized_text f.0, s.0, s.1, ap (λ (l : List ℕ). sized_text l) f.3);
}

pub settles_byte_vector : Settles [] IsByteVector sized_text
settles_byte_vector = settles_sized Bytes (λ bytes. bytes) settles_bytes

pub settles_name : Settles [] IsName sized_text
settles_name = settles_passing [] is_utf8 IsByteVector sized_text settles_byte_vector
