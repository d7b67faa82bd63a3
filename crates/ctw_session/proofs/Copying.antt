-- Bytes that are read and written one after another.
use Rattle.std.proofs.Common.{◌≡◌, ◌<◌, ◌≤◌, ℕ, zero, suc, ◌+◌, ◌%◌, ◌/◌, List, [], ◌∷◌, ◌++◌, length, take, drop, get_or, slice_get, slice_set, Some, Bool, Err, All, refl, sym, ap, ap₂, ◌∙◌, append-nil, append_assoc, arith}
use Rattle.std.proofs.lemmas.List.{set-set, length-set, drop_all}
use Rattle.std.proofs.lemmas.List.Elements.{All-get_or}
use Rattle.std.proofs.lemmas.Option.{same_Some, slice_get-get_or, slice_get_within}
use Rattle.ctw_ops.specs.Limits.{page_size}
use Rattle.ctw_semantics.specs.Stores.{Memory, Storage, number_of_bytes, bytes_of_number, with_bytes, written_at}
use Rattle.ctw_store.specs.declared.fault.StoreFault.{StoreFault}
use Rattle.ctw_store.specs.declared.fault.StoreFault.TheVariants as Faults
use Rattle.ctw_store.specs.Answers.{Stores}
use Rattle.ctw_store.specs.Made.{AreMade, KeepsMade}
use Rattle.ctw_store.proofs.Made.{set_read}
use Rattle.ctw_store.proofs.Writes.{written_none, written_next, byte_put}
use Rattle.ctw_moves.specs.States.{bytes_at}
use Rattle.ctw_link.proofs.Lists.{take_next, drop_next}

pub at_number : {A : Type 0} (xs : List A) (i : ℕ) → i < length xs → (x : A) × (slice_get xs i ≡ Some x)
at_number [] i lt = absurd (omega (arith, lt))
at_number (x ∷ xs) zero lt = (x, refl)
at_number (x ∷ xs) (suc i) lt = at_number xs i (omega (arith, lt))

-- ---- reading

-- the first so many bytes have been read
abbrev pub Reading : Storage → ℕ → ℕ → ℕ → List ℕ → List ℕ → Type 0
Reading s mem at i before now = (m : Memory) → slice_get s.memories mem ≡ Some m → now ≡ before ++ bytes_at m at i

pub reading_none : (s : Storage) (mem at : ℕ) (before now : List ℕ) → now ≡ before → Reading s mem at 0 before now
reading_none s mem at before now e m is = e ∙ sym (append-nil before)

dropped_at : {A : Type 0} (xs : List A) (at i : ℕ) → slice_get (drop at xs) i ≡ slice_get xs (at + i)
dropped_at xs zero i = let z : 0 + i ≡ i = omega arith in sym (ap (slice_get xs) z)
dropped_at [] (suc at) i = refl
dropped_at (x ∷ xs) (suc at) i = let z : suc at + i ≡ suc (at + i) = omega arith in dropped_at xs at i ∙ ap (slice_get (x ∷ xs)) (sym z)

-- one byte of a list
one_at : (xs : List ℕ) (k x : ℕ) → slice_get xs k ≡ Some x → number_of_bytes (take 1 (drop k xs)) ≡ x
one_at [] k x e = absurd cc
one_at (y ∷ xs) zero x e = let q : y ≡ x = cc in omega (arith, q)
one_at (y ∷ xs) (suc k) x e = one_at xs k x e

pub read_small : (xs : List ℕ) (k n : ℕ) → All (λ byte. byte < 256) xs → k + 1 ≤ length xs → n ≡ number_of_bytes (take 1 (drop k xs)) → n < 256
read_small xs k n h le e =
    let there = at_number xs k (omega (arith, le)) in
    let small : get_or xs k 0 < 256 = All-get_or (λ byte. byte < 256) xs k 0 (omega (arith, le)) h in
    let same : get_or xs k 0 ≡ there.0 = same_Some (get_or xs k 0) there.0 (sym (slice_get-get_or xs k 0 (omega (arith, le))) ∙ there.1) in
    omega (arith, small, same, e, one_at xs k there.0 there.1)

pub reading_more : (s : Storage) (mem at i n : ℕ) (before now after : List ℕ) → ((m : Memory) → slice_get s.memories mem ≡ Some m → (at + i + 1 ≤ length m.bytes) × (n ≡ number_of_bytes (take 1 (drop (at + i) m.bytes)))) → after ≡ now ++ n ∷ []
    → Reading s mem at i before now → Reading s mem at (i + 1) before after
reading_more s mem at i n before now after load e h m is =
    let l = load m is in
    let there = at_number m.bytes (at + i) (omega (arith, l.0)) in
    let same : n ≡ there.0 = l.1 ∙ one_at m.bytes (at + i) there.0 there.1 in
    let next : take (i + 1) (drop at m.bytes) ≡ take i (drop at m.bytes) ++ n ∷ [] =
    take_next (drop at m.bytes) i there.0 (dropped_at m.bytes at i ∙ there.1) ∙ ap (λ (x : ℕ). take i (drop at m.bytes) ++ x ∷ []) (sym same) in
    e ∙ ap (λ (l : List ℕ). l ++ n ∷ []) (h m is) ∙ append_assoc before (bytes_at m at i) (n ∷ []) ∙ ap (λ (l : List ℕ). before ++ l) (sym next)

-- ---- writing

-- the first so many bytes have been written, and the others still are to be
pub record Writing (old : Storage) (mem : ℕ) (m : Memory) (at : ℕ) (bytes : List ℕ) (i : ℕ) (s : Storage) : Type 0 where
  pub now : List ℕ
  pub is : s ≡ with_bytes old mem m now
  pub size : length now ≡ length m.bytes
  pub goes : written_at (at + i) (drop i bytes) now ≡ written_at at bytes m.bytes

pub same_set : {A : Type 0} (xs : List A) (i : ℕ) (x : A) → slice_get xs i ≡ Some x → slice_set xs i x ≡ xs
same_set [] i x e = refl
same_set {A = A} (y ∷ xs) zero x e = let q : x ≡ y = cc in ap (λ (z : A). z ∷ xs) q
same_set {A = A} (y ∷ xs) (suc i) x e = ap (λ (l : List A). y ∷ l) (same_set xs i x e)

pub writing_none : (old : Storage) (mem : ℕ) (m : Memory) (at : ℕ) (bytes : List ℕ) → slice_get old.memories mem ≡ Some m → Writing old mem m at bytes 0 old
writing_none old mem m at bytes e = record {
  now = m.bytes;
  is = ap (λ (l : List Memory). record old { memories = l }) (sym (same_set old.memories mem m e));
  size = refl;
  goes = let z : at + 0 ≡ at = omega arith in ap (λ (k : ℕ). written_at k bytes m.bytes) z;
}

module _ (old : Storage) (mem : ℕ) (m : Memory) (at : ℕ) (bytes : List ℕ) (i : ℕ) (s : Storage) (e : slice_get old.memories mem ≡ Some m) (w : Writing old mem m at bytes i s) where
  abbrev pub memory_now : Memory
  memory_now = record m { bytes = w.now }

  pub memory_there : slice_get s.memories mem ≡ Some memory_now
  memory_there = ap (λ (t : Storage). slice_get t.memories mem) w.is ∙ set_read old.memories mem m memory_now e

  pub memories_same : length s.memories ≡ length old.memories
  memories_same = ap (λ (t : Storage). length t.memories) w.is ∙ length-set old.memories mem memory_now

  pub writing_more : (x : ℕ) (t : Storage) → at + length bytes ≤ length m.bytes → slice_get bytes i ≡ Some x → x < 256 → t ≡ with_bytes s mem memory_now (written_at (at + i) (bytes_of_number 1 x) w.now) → Writing old mem m at bytes (i + 1) t
  writing_more x t le b small h =
      let lt : i < length bytes = slice_get_within bytes i x b in
      let there : at + i < length w.now = omega (arith, le, lt, w.size) in
      let whole : x % 256 ≡ x = omega (arith, small) in
      let put : written_at (at + i) (bytes_of_number 1 x) w.now ≡ slice_set w.now (at + i) x = sym (byte_put (at + i) x w.now there) ∙ ap (slice_set w.now (at + i)) whole in
      let next : at + (i + 1) ≡ at + i + 1 = omega arith in
      record {
        now = slice_set w.now (at + i) x;
        is = h ∙ ap₂ (λ (u : Storage) (b : List ℕ). with_bytes u mem m b) w.is put ∙ ap (λ (l : List Memory). record old { memories = l }) (set-set old.memories mem memory_now (record m { bytes = slice_set w.now (at + i) x }));
        size = length-set w.now (at + i) x ∙ w.size;
        goes = ap (λ (k : ℕ). written_at k (drop (i + 1) bytes) (slice_set w.now (at + i) x)) next
            ∙ written_next (at + i) x (drop (i + 1) bytes) w.now there
            ∙ ap (λ (l : List ℕ). written_at (at + i) l w.now) (sym (drop_next bytes i x b)) ∙ w.goes;
      }

  pub writing_all : length bytes ≤ i → s ≡ with_bytes old mem m (written_at at bytes m.bytes)
  writing_all le =
      let none : written_at (at + i) (drop i bytes) w.now ≡ w.now = ap (λ (l : List ℕ). written_at (at + i) l w.now) (drop_all i bytes le) ∙ written_none (at + i) w.now in
      w.is ∙ ap (with_bytes old mem m) (sym none ∙ w.goes)

-- one of the bytes whose pages are made
pub one_made : (made : List (List Bool)) (mem at count i : ℕ) → i < count → AreMade made mem at count → AreMade made mem (at + i) 1
one_made made mem at count i lt h j low high = h j (omega (arith, low)) (omega (arith, lt, high))

pub still_made : (made more : List (List Bool)) (mem at count : ℕ) → KeepsMade made more → AreMade made mem at count → AreMade more mem at count
still_made made more mem at count k h i low high = k mem (i / page_size) (h i low high)

-- a store that is refused for its place reaches past the end
pub outside_past : (fault : StoreFault) (old : Storage) (i : ℕ) (m : Memory) (at count n : ℕ) (new : Storage) → fault ≡ Faults.OutOfBounds → Stores old i m at count n (Err fault) new → length m.bytes < at + count
outside_past Faults.OutOfBounds old i m at count n new e h = h.0
outside_past Faults.NoMemory old i m at count n new e h = absurd cc
