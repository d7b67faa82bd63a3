-- Sound stores stay sound.
use Rattle.std.proofs.Common.{◌≡◌, ℕ, zero, suc, ◌+◌, ◌*◌, ◌/◌, ◌^◌, ◌≤◌, ◌<◌, Bool, true, false, ◌&&◌, List, [], ◌∷◌, ◌++◌, map, length, take, drop, All, replicate, Some, slice_get, slice_set, refl, sym, ap, ◌∙◌, subst, arith, nat_le, leb-true, mod-lt, pow_mono, lt_of_lt_of_le, cond, length-append, length-take}
use Rattle.std.proofs.lemmas.List.{length-replicate}
use Rattle.std.proofs.lemmas.List.Elements.{All-head, All-tail, All-set, All-append, All-take, All-drop, All-replicate}
use Rattle.ctw_ops.specs.declared.types.Label.{Label}
use Rattle.ctw_ops.specs.declared.types.Width.{Width}
use Rattle.ctw_ops.specs.Types.{VariableType, MemoryType, FitsWidth}
use Rattle.ctw_ops.specs.Limits.{page_size, most_memory_pages, most_set_pages}
use Rattle.ctw_num.specs.Integers.{bit_width, extend_u, extend_s}
use Rattle.ctw_num.proofs.Sizes.{extend_s_below}
use Rattle.ctw_ops.specs.Forms.{is_load}
use Rattle.ctw_ops.specs.declared.types.Width.TheVariants.{W32, W64}
use Rattle.std.proofs.lemmas.Bool.Decides.{nat_tests}
use Rattle.std.proofs.lemmas.Nat.{pow-add}
use Rattle.ctw_semantics.specs.Values.{value}
use Rattle.ctw_semantics.specs.Stores.{Memory, Global, Storage, number_of_bytes, bytes_of_number, number_at, written_at, with_bytes, with_number, pages, all_pages, most_pages_of, may_grow, grown}
use Rattle.ctw_semantics.specs.Sound.{Shape, global_type, ValueFits, MemoryFits, SoundStorage}
use Rattle.ctw_ops.proofs.EqualLaws.{both}
use Rattle.ctw_semantics.proofs.Memories.{length-bytes_of_number, length-written_at}
use Rattle.ctw_ops.proofs.Lists.{all_get, map_get, map_set_same}

abbrev pub IsByte : ℕ → Type 0
IsByte byte = byte < 256

-- ---- loads

number_below : (bytes : List ℕ) → All IsByte bytes → number_of_bytes bytes < 2 ^ (8 * length bytes)
number_below [] b = omega arith
number_below (byte ∷ bytes) b =
    let rest : number_of_bytes bytes < 2 ^ (8 * length bytes) = number_below bytes (All-tail IsByte byte bytes b) in
    let first : byte < 256 = All-head IsByte byte bytes b in
    let longer : 8 * suc (length bytes) ≡ 8 * length bytes + 8 = omega arith in
    let power : 2 ^ (8 * suc (length bytes)) ≡ 2 ^ (8 * length bytes) * 256 = ap (λ k. 2 ^ k) longer ∙ pow-add 2 (8 * length bytes) 8 in
    omega (arith, rest, first, power)

load_fits : (w : Width) (count : ℕ) (signed : Bool) → is_load w count signed ≡ true → 8 * count ≤ bit_width w
load_fits W32 count signed e = grind (arith, nat_tests)
load_fits W64 count signed e = grind (arith, nat_tests)

-- a number that so many bytes stand for
pub read_below : (count at : ℕ) (bytes : List ℕ) → All IsByte bytes → number_of_bytes (take count (drop at bytes)) < 2 ^ (8 * count)
read_below count at bytes b =
    let short : length (take count (drop at bytes)) ≤ count = omega (arith, length-take count (drop at bytes)) in
    lt_of_lt_of_le (number_below (take count (drop at bytes)) (All-take IsByte count (drop at bytes) (All-drop IsByte at bytes b))) (pow_mono (omega (arith, short)))

pub number_at_fits : (w : Width) (signed : Bool) (count at : ℕ) (bytes : List ℕ) → is_load w count signed ≡ true → All IsByte bytes → FitsWidth w (number_at w signed count at bytes)
unfolding number_at
number_at_fits w signed count at bytes load b = either signed
  where
    n : ℕ
    n = number_of_bytes (take count (drop at bytes))

    small : n < 2 ^ (8 * count)
    small = read_below count at bytes b

    room : 8 * count ≤ bit_width w
    room = load_fits w count signed load

    either : (carried : Bool) → cond carried (extend_s (8 * count) (bit_width w) n) (extend_u n) < 2 ^ bit_width w
    either true = extend_s_below (8 * count) (bit_width w) n room small
    either false = lt_of_lt_of_le small (pow_mono room)

-- ---- sizes

pub pages_below : (n : ℕ) → n ≤ most_memory_pages → n < 2 ^ 32
unfolding most_memory_pages
pages_below n le = omega (arith, le)

-- whether a memory fits goes by its length, where its bytes are bytes
pub same_size_fits : (m : Memory) (bytes : List ℕ) → length bytes ≡ length m.bytes → All IsByte bytes → MemoryFits m → MemoryFits (record m { bytes = bytes })
same_size_fits m bytes e b f =
    let sizes = subst (λ k. (k ≡ page_size * (k / page_size)) × (m.type.limits.min ≤ k / page_size) × (k / page_size ≤ most_pages_of m.type) × (k / page_size ≤ most_memory_pages)) (sym e) (f.whole, f.least, f.greatest, f.most) in
    record { whole = sizes.0; least = sizes.1; greatest = sizes.2; most = sizes.3; bytes = b }

same_size : (m : Memory) (at n x : ℕ) → at + n ≤ length m.bytes → length (written_at at (bytes_of_number n x) m.bytes) ≡ length m.bytes
same_size m at n x le = omega (arith, length-written_at at (bytes_of_number n x) m.bytes, length-bytes_of_number n x)

bytes_of_number_fit : (n x : ℕ) → All IsByte (bytes_of_number n x)
bytes_of_number_fit zero x k d less = absurd (omega (arith, less))
bytes_of_number_fit (suc n) x zero d less = mod-lt x (omega arith)
bytes_of_number_fit (suc n) x (suc k) d less = bytes_of_number_fit n (x / 256) k d (omega (arith, less))

pub written_bytes_fit : (at : ℕ) (new old : List ℕ) → All IsByte new → All IsByte old → All IsByte (written_at at new old)
unfolding written_at
written_bytes_fit at new old n o =
    All-append IsByte (take at old) (new ++ drop (at + length new) old) (All-take IsByte at old o) (All-append IsByte new (drop (at + length new) old) n (All-drop IsByte (at + length new) old o))

written_fits : (m : Memory) (at n x : ℕ) → at + n ≤ length m.bytes → MemoryFits m → MemoryFits (record m { bytes = written_at at (bytes_of_number n x) m.bytes })
written_fits m at n x le f =
    same_size_fits m (written_at at (bytes_of_number n x) m.bytes) (same_size m at n x le) (written_bytes_fit at (bytes_of_number n x) m.bytes (bytes_of_number_fit n x) f.bytes) f

sum_of_pages : (k n p : ℕ) → k ≡ page_size * p → (k + page_size * n) / page_size ≡ p + n
sum_of_pages k n p e = omega (arith, e)

grown_length : (m : Memory) (n : ℕ) → length (grown m n) ≡ length m.bytes + page_size * n
grown_length m n = length-append m.bytes (replicate (page_size * n) 0) ∙ ap (λ k. length m.bytes + k) (length-replicate {A = ℕ} (page_size * n) 0)

grown_size : (m : Memory) (n : ℕ) → MemoryFits m → length (grown m n) / page_size ≡ pages m + n
grown_size m n f = ap (λ k. k / page_size) (grown_length m n) ∙ sum_of_pages (length m.bytes) n (pages m) f.whole

-- what the three bounds say
abbrev Room : Storage → Memory → ℕ → Type 0
Room s m n = (pages m + n ≤ most_pages_of m.type) × (pages m + n ≤ most_memory_pages) × (all_pages s.memories + n ≤ most_set_pages)

room : (s : Storage) (m : Memory) (n : ℕ) → may_grow s m n ≡ true → Room s m n
unfolding may_grow
room s m n e =
    let q = both (nat_le (pages m + n) (most_pages_of m.type)) (nat_le (pages m + n) most_memory_pages && nat_le (all_pages s.memories + n) most_set_pages) e in
    let r = both (nat_le (pages m + n) most_memory_pages) (nat_le (all_pages s.memories + n) most_set_pages) q.1 in
    (leb-true (pages m + n) (most_pages_of m.type) q.0, leb-true (pages m + n) most_memory_pages r.0, leb-true (all_pages s.memories + n) most_set_pages r.1)

grown_fits : (s : Storage) (m : Memory) (n : ℕ) → may_grow s m n ≡ true → MemoryFits m → MemoryFits (record m { bytes = grown m n })
grown_fits s m n e f =
    let within = room s m n e in
    let size = grown_size m n f in
    let long = grown_length m n in
    let least = f.least in
    let before : length m.bytes ≡ page_size * pages m = f.whole in
    let whole : length (grown m n) ≡ page_size * (pages m + n) = omega (arith, long, before) in
    record {
      whole = whole ∙ ap (λ k. page_size * k) (sym size);
      least = subst (λ k. m.type.limits.min ≤ k) (sym size) (omega (arith, least));
      greatest = subst (λ k. k ≤ most_pages_of m.type) (sym size) within.0;
      most = subst (λ k. k ≤ most_memory_pages) (sym size) within.1;
      bytes = All-append IsByte m.bytes (replicate (page_size * n) 0) f.bytes (All-replicate IsByte (page_size * n) 0 (omega arith));
    }

grown_pages : (s : Storage) (m : Memory) (n : ℕ) → may_grow s m n ≡ true → all_pages s.memories + n ≤ most_set_pages
grown_pages s m n e = (room s m n e).2

pages_set : (ms : List Memory) (i : ℕ) (m new : Memory) → slice_get ms i ≡ Some m → all_pages (slice_set ms i new) + pages m ≡ all_pages ms + pages new
pages_set [] i m new e = cc
pages_set (x ∷ xs) zero m new e =
    let q : x ≡ m = cc in
    let p : pages x ≡ pages m = ap pages q in
    omega (arith, p)
pages_set (x ∷ xs) (suc i) m new e = let h = pages_set xs i m new e in omega (arith, h)

-- ---- what a sound store has at a number, and keeps

module _ (shape : Shape) (s : Storage) (ss : SoundStorage shape s) where
  pub memory_at : (i : ℕ) (t : MemoryType Label) → slice_get shape.memories i ≡ Some t → (m : Memory) × (slice_get s.memories i ≡ Some m) × (m.type ≡ t) × MemoryFits m
  memory_at i t e =
      let q : slice_get (map (λ (m : Memory). m.type) s.memories) i ≡ Some t = ap (λ (x : Shape). slice_get x.memories i) ss.shaped ∙ e in
      let g = map_get (λ (m : Memory). m.type) s.memories i t q in
      (g.0, g.1, g.2, all_get MemoryFits s.memories i g.0 ss.memories g.1)

  pub global_at : (i : ℕ) (t : VariableType Label) → slice_get shape.globals i ≡ Some t → (g : Global) × (slice_get s.globals i ≡ Some g) × (global_type g ≡ t) × ValueFits g.value
  global_at i t e =
      let q : slice_get (map global_type s.globals) i ≡ Some t = ap (λ (x : Shape). slice_get x.globals i) ss.shaped ∙ e in
      let g = map_get global_type s.globals i t q in
      (g.0, g.1, g.2, all_get (λ g. ValueFits g.value) s.globals i g.0 ss.globals g.1)

  pub number_kept : (i : ℕ) (g : Global) (n : ℕ) → slice_get s.globals i ≡ Some g → FitsWidth g.value.type.width n → SoundStorage shape (with_number s i g n)
  number_kept i g n e f =
      let new : Global = record g { value = value g.value.type n } in
      record {
        shaped = ap (λ gs. record { memories = map (λ (m : Memory). m.type) s.memories; globals = gs; tables = s.tables }) (map_set_same global_type s.globals i g new e refl) ∙ ss.shaped;
        memories = ss.memories;
        total = ss.total;
        globals = All-set (λ g. ValueFits g.value) s.globals i new f ss.globals;
        tables = ss.tables;
      }

  -- bytes that are no more pages, or more by as many as the store has room for
  bytes_set : (i : ℕ) (m : Memory) (bytes : List ℕ) → slice_get s.memories i ≡ Some m → MemoryFits (record m { bytes = bytes }) → all_pages s.memories + pages (record m { bytes = bytes }) ≤ most_set_pages + pages m → SoundStorage shape (with_bytes s i m bytes)
  bytes_set i m bytes e f room =
      let new : Memory = record m { bytes = bytes } in
      let set = pages_set s.memories i m new e in
      record {
        shaped = ap (λ ms. record { memories = ms; globals = map global_type s.globals; tables = s.tables }) (map_set_same (λ (m : Memory). m.type) s.memories i m new e refl) ∙ ss.shaped;
        memories = All-set MemoryFits s.memories i new f ss.memories;
        total = omega (arith, set, room);
        globals = ss.globals;
        tables = ss.tables;
      }

  pub written_kept : (i : ℕ) (m : Memory) (at n x : ℕ) → slice_get s.memories i ≡ Some m → MemoryFits m → at + n ≤ length m.bytes → SoundStorage shape (with_bytes s i m (written_at at (bytes_of_number n x) m.bytes))
  written_kept i m at n x e f le =
      let bytes = written_at at (bytes_of_number n x) m.bytes in
      let size : pages (record m { bytes = bytes }) ≡ pages m = ap (λ k. k / page_size) (same_size m at n x le) in
      let total = ss.total in
      bytes_set i m bytes e (written_fits m at n x le f) (omega (arith, size, total))

  pub grown_kept : (i : ℕ) (m : Memory) (n : ℕ) → slice_get s.memories i ≡ Some m → MemoryFits m → may_grow s m n ≡ true → SoundStorage shape (with_bytes s i m (grown m n))
  grown_kept i m n e f g =
      let size = grown_size m n f in
      let room = grown_pages s m n g in
      bytes_set i m (grown m n) e (grown_fits s m n g f) (omega (arith, size, room))
