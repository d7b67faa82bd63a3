-- Numbers, names and lists that keep the limits are spelled by their canonical texts.
use Rattle.std.proofs.Common.{ℕ, zero, suc, ◌/◌, ◌<◌, ◌≤◌, false, List, [], ◌∷◌, length, refl, sym, append-nil, le-leb, arith, inl, inr}
use Rattle.std.specs.Prelude.{FitsSigned}
use Rattle.std.specs.List.{All}
use Rattle.std.specs.Int.{w32, w64, cast_signed}
use Rattle.std.proofs.Math.Facts.{sfits_to_z}
use Rattle.std.proofs.lemmas.Int.{of_z-to_z}
use Rattle.std.proofs.lemmas.Bool.{cases_lt}
use Rattle.std.proofs.lemmas.List.{length-append}
use Rattle.std.proofs.lemmas.List.Elements.{All-nil, All-cons, All-head, All-tail}
use Rattle.ctw_ops.specs.declared.types.Width.{Width}
use Rattle.ctw_ops.specs.declared.types.Width.TheVariants.{W32, W64}
use Rattle.ctw_ops.specs.Types.{FitsWidth}
use Rattle.ctw_leb.specs.Grammar.{Grammar, Bytes, Times}
use Rattle.ctw_leb.specs.Numbers.{IsU32}
use Rattle.ctw_leb.specs.Vectors.{Vector, Sized, IsByteVector, IsName}
use Rattle.ctw_leb.specs.Spelling.{u32_text, shortest}
use Rattle.ctw_leb.proofs.Spelling.{one_more, last_one, u32_minimal, s32_minimal, s64_minimal}
use Rattle.ctw_flat.specs.Spelled.{IsBits}
use Rattle.ctw_form.specs.Spelled.{VectorUpto}
use Rattle.ctw_write.specs.Canon.{all_texts, vector_text, sized_text, bits_text}
use Rattle.ctw_write.specs.KeepsLimits.{Is32, IsText}

-- ---- numbers

pub number_spelled : (n : ℕ) → Is32 n → IsU32 (u32_text n) n
number_spelled n lt = (u32_minimal n lt).spelled

pub number_some : (n : ℕ) → 1 ≤ length (u32_text n)
unfolding u32_text
number_some n =
    elim (cases_lt n 128) [
      | inl lt ↦ rw (last_one 128 false 9 n lt) (omega arith)
      | inr le ↦ rw (one_more 128 false 9 n le) (omega arith)
    ]

shortest_short : (k n : ℕ) → length (shortest 128 false k n) ≤ k
unfolding shortest
shortest_short zero n = omega arith
shortest_short (suc k) n =
    elim (cases_lt n 128) [
      | inl lt ↦ rw (last_one 128 false k n lt) (omega arith)
      | inr le ↦ rw (one_more 128 false k n le) (omega (arith, shortest_short k (n / 128)))
    ]

pub number_short : (n : ℕ) → Is32 (length (u32_text n))
unfolding u32_text
number_short n = omega (arith, shortest_short 10 n)

pub bits_spelled : (width : Width) (bits : ℕ) → FitsWidth width bits → IsBits width (bits_text width bits) bits
bits_spelled W32 bits lt =
    let signed : FitsSigned w32 (cast_signed w32 bits) = sfits_to_z (record { fits = lt }) in
    (cast_signed w32 bits, (s32_minimal (cast_signed w32 bits) signed).spelled, of_z-to_z w32 bits lt)
bits_spelled W64 bits lt =
    let signed : FitsSigned w64 (cast_signed w64 bits) = sfits_to_z (record { fits = lt }) in
    (cast_signed w64 bits, (s64_minimal (cast_signed w64 bits) signed).spelled, of_z-to_z w64 bits lt)

-- ---- texts of lists

-- each item has a text of at least one byte
pub count_short : {A : Type 0} (w : A → List ℕ) → ((a : A) → 1 ≤ length (w a)) → (l : List A) → length l ≤ length (all_texts w l)
count_short w some [] = omega arith
count_short w some (a ∷ l) = omega (arith, some a, count_short w some l, length-append (w a) (all_texts w l))

-- the text of each item is within that of all
pub items_short : {A : Type 0} (w : A → List ℕ) (n : ℕ) (l : List A) → length (all_texts w l) < n → All (λ a. length (w a) < n) l
items_short w n [] lt = All-nil (λ a. length (w a) < n)
items_short w n (a ∷ l) lt =
    let e = length-append (w a) (all_texts w l) in
    All-cons (λ b. length (w b) < n) a l (omega (arith, e)) (items_short w n l (omega (arith, e)))

-- what holds of each item, by two things that hold
pub all_both : {A : Type 0} (P Q R : A → Type 0) → ((a : A) → P a → Q a → R a) → (l : List A) → All P l → All Q l → All R l
all_both P Q R f [] h k = All-nil R
all_both P Q R f (a ∷ l) h k = All-cons R a l (f a (All-head P a l h) (All-head Q a l k)) (all_both P Q R f l (All-tail P a l h) (All-tail Q a l k))

pub all_then : {A : Type 0} (P R : A → Type 0) → ((a : A) → P a → R a) → (l : List A) → All P l → All R l
all_then P R f l h = all_both P P R (λ a p q. f a p) l h h

-- ---- things behind their count or size

pub times_spelled : {A : Type 0} (G : Grammar A) (w : A → List ℕ) (l : List A) → All (λ a. G (w a) a) l → Times G (length l) (all_texts w l) l
times_spelled G w [] h = (refl, refl)
times_spelled G w (a ∷ l) h =
    let others = times_spelled G w l (All-tail (λ b. G (w b) b) a l h) in
    (a, w a, all_texts w l, All-head (λ b. G (w b) b) a l h, (l, all_texts w l, [], others, (refl, refl), sym (append-nil (all_texts w l))), refl)

pub vector_spelled : {A : Type 0} (G : Grammar A) (w : A → List ℕ) (l : List A) → Is32 (length l) → All (λ a. G (w a) a) l → Vector G (vector_text w l) l
vector_spelled G w l lt h = (length l, u32_text (length l), all_texts w l, number_spelled (length l) lt, times_spelled G w l h, refl)

pub upto_spelled : {A : Type 0} (limit : ℕ) (G : Grammar A) (w : A → List ℕ) (l : List A) → length l ≤ limit → Is32 (length l) → All (λ a. G (w a) a) l → VectorUpto limit G (vector_text w l) l
upto_spelled limit G w l le lt h = (length l, u32_text (length l), all_texts w l, (number_spelled (length l) lt, le-leb (length l) limit le), times_spelled G w l h, refl)

pub sized_spelled : {A : Type 0} (G : Grammar A) (text : List ℕ) (a : A) → Is32 (length text) → G text a → Sized G (sized_text text) a
sized_spelled G text a lt m = (length text, u32_text (length text), text, number_spelled (length text) lt, (refl, m), refl)

pub bytes_spelled : (bytes : List ℕ) → Is32 (length bytes) → IsByteVector (sized_text bytes) bytes
bytes_spelled bytes lt = sized_spelled Bytes bytes bytes lt refl

pub name_spelled : (name : List ℕ) → Is32 (length name) → IsText name → IsName (sized_text name) name
name_spelled name lt text = (bytes_spelled name lt, text)

-- what a size stands before is within
pub size_short : (text : List ℕ) → length text < length (sized_text text)
size_short text = omega (arith, length-append (u32_text (length text)) text, number_some (length text))

pub vector_short : {A : Type 0} (w : A → List ℕ) (l : List A) → length (all_texts w l) < length (vector_text w l)
vector_short w l = omega (arith, length-append (u32_text (length l)) (all_texts w l), number_some (length l))
