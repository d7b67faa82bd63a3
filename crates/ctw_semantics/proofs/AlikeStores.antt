-- Stores of two runs that look the same.
use Rattle.std.proofs.Common.{◌≡◌, ℕ, ◌+◌, ◌/◌, Bool, ◌&&◌, List, [], ◌∷◌, ◌++◌, map, length, replicate, slice_set, refl, sym, ap, ap₂, ◌∙◌, subst, nat_le, length-append}
use Rattle.std.proofs.lemmas.List.{map-set, length-replicate}
use Rattle.ctw_ops.specs.declared.types.Label.{Label}
use Rattle.ctw_ops.specs.declared.types.Label.TheVariants.{Public, Secret}
use Rattle.ctw_ops.specs.Types.{MemoryType}
use Rattle.ctw_ops.specs.Limits.{page_size, most_memory_pages, most_set_pages}
use Rattle.ctw_semantics.specs.Values.{value}
use Rattle.ctw_semantics.specs.Stores.{Memory, Global, Storage, bytes_of_number, written_at, with_bytes, with_number, pages, all_pages, most_pages_of, may_grow}
use Rattle.ctw_semantics.specs.Seen.{seen_number, seen_bytes, seen_value, seen_memory, seen_global, seen_storage}
use Rattle.ctw_semantics.proofs.Memories.{length-bytes_of_number, length-written_at}
use Rattle.ctw_semantics.proofs.Alike.{value_alike}

length-seen_bytes : (l : Label) (bytes : List ℕ) → length (seen_bytes l bytes) ≡ length bytes
length-seen_bytes Public bytes = refl
length-seen_bytes Secret bytes = length-replicate (length bytes) 0

pub same_length : (m q : Memory) → seen_memory m ≡ seen_memory q → length m.bytes ≡ length q.bytes
same_length m q e = sym (length-seen_bytes m.type.tag m.bytes) ∙ ap (λ (x : Memory). length x.bytes) e ∙ length-seen_bytes q.type.tag q.bytes

-- the bytes of a public memory are seen
pub same_bytes : (l : Label) (m q : Memory) → l ≡ m.type.tag → seen_memory m ≡ seen_memory q → seen_bytes l m.bytes ≡ seen_bytes l q.bytes
same_bytes l m q p e =
    let a : seen_bytes m.type.tag m.bytes ≡ seen_bytes q.type.tag q.bytes = ap (λ (x : Memory). x.bytes) e in
    let b : q.type.tag ≡ m.type.tag = ap (λ (x : Memory). x.type.tag) (sym e) in
    subst (λ (u : Label). seen_bytes u m.bytes ≡ seen_bytes u q.bytes) (sym p) (a ∙ ap (λ (u : Label). seen_bytes u q.bytes) b)

-- a number that is read from bytes that look the same
pub read_alike : (l : Label) (f : List ℕ → ℕ) (xs ys : List ℕ) → seen_bytes l xs ≡ seen_bytes l ys → seen_number l (f xs) ≡ seen_number l (f ys)
read_alike Public f xs ys e = ap f e
read_alike Secret f xs ys e = refl

pub written_alike : (l : Label) (at n x y : ℕ) (xs ys : List ℕ) → length xs ≡ length ys → seen_bytes l xs ≡ seen_bytes l ys → seen_number l x ≡ seen_number l y → seen_bytes l (written_at at (bytes_of_number n x) xs) ≡ seen_bytes l (written_at at (bytes_of_number n y) ys)
written_alike Public at n x y xs ys el e ex = ap₂ (λ (x : ℕ) (xs : List ℕ). written_at at (bytes_of_number n x) xs) ex e
written_alike Secret at n x y xs ys el e ex =
    let a = length-written_at at (bytes_of_number n x) xs in
    let b = length-written_at at (bytes_of_number n y) ys in
    let c = length-bytes_of_number n x in
    let d = length-bytes_of_number n y in
    let q : length (written_at at (bytes_of_number n x) xs) ≡ length (written_at at (bytes_of_number n y) ys) = cc in
    ap (λ k. replicate k 0) q

pub grown_alike : (l : Label) (k : ℕ) (xs ys : List ℕ) → length xs ≡ length ys → seen_bytes l xs ≡ seen_bytes l ys → seen_bytes l (xs ++ replicate k 0) ≡ seen_bytes l (ys ++ replicate k 0)
grown_alike Public k xs ys el e = ap (λ (xs : List ℕ). xs ++ replicate k 0) e
grown_alike Secret k xs ys el e =
    let q : length (xs ++ replicate k 0) ≡ length (ys ++ replicate k 0) = length-append xs (replicate k 0) ∙ ap (λ n. n + length (replicate {A = ℕ} k 0)) el ∙ sym (length-append ys (replicate k 0)) in
    ap (λ k. replicate k 0) q

all_pages_alike : (ms qs : List Memory) → map seen_memory ms ≡ map seen_memory qs → all_pages ms ≡ all_pages qs
all_pages_alike [] [] e = refl
all_pages_alike (m ∷ ms) (q ∷ qs) e =
    let em : seen_memory m ≡ seen_memory q = cc in
    ap₂ (λ (n k : ℕ). n / page_size + k) (same_length m q em) (all_pages_alike ms qs (cc))
all_pages_alike [] (q ∷ qs) e = cc
all_pages_alike (m ∷ ms) [] e = cc

pub may_grow_alike : (s t : Storage) (m q : Memory) (n : ℕ) → map seen_memory s.memories ≡ map seen_memory t.memories → seen_memory m ≡ seen_memory q → may_grow s m n ≡ may_grow t q n
unfolding may_grow
may_grow_alike s t m q n es e =
    let a = all_pages_alike s.memories t.memories es in
    let b = same_length m q e in
    let c : m.type ≡ q.type = ap (λ (x : Memory). x.type) e in
    ap₂ (λ (k : ℕ) (rest : Bool). nat_le (k / page_size + n) (most_pages_of m.type) && rest) b (ap₂ (λ (k j : ℕ). nat_le (k / page_size + n) most_memory_pages && nat_le (j + n) most_set_pages) b a)
    ∙ ap (λ (u : MemoryType Label). nat_le (pages q + n) (most_pages_of u) && (nat_le (pages q + n) most_memory_pages && nat_le (all_pages t.memories + n) most_set_pages)) c

module _ (s t : Storage) (es : seen_storage s ≡ seen_storage t) where
  pub with_number_alike : (i : ℕ) (g j : Global) (n m : ℕ) → seen_global g ≡ seen_global j → seen_number g.value.type.tag n ≡ seen_number g.value.type.tag m → seen_storage (with_number s i g n) ≡ seen_storage (with_number t i j m)
  with_number_alike i g j n m eg en =
      let new : Global = record g { value = value g.value.type n } in
      let other : Global = record j { value = value j.value.type m } in
      let ms : map seen_memory s.memories ≡ map seen_memory t.memories = ap (λ (x : Storage). x.memories) es in
      let ta : s.tables ≡ t.tables = ap (λ (x : Storage). x.tables) es in
      let mu : g.mutable ≡ j.mutable = ap (λ (x : Global). x.mutable) eg in
      let ev : seen_value (value g.value.type n) ≡ seen_value (value j.value.type m) = value_alike g.value.type j.value.type n m (ap (λ (x : Global). x.value.type) eg) en in
      let e : seen_global new ≡ seen_global other = cc in
      let ge : map seen_global s.globals ≡ map seen_global t.globals = ap (λ (x : Storage). x.globals) es in
      let gs : map seen_global (slice_set s.globals i new) ≡ map seen_global (slice_set t.globals i other) = map-set seen_global s.globals i new ∙ ap₂ (λ (l : List Global) (v : Global). slice_set l i v) ge e ∙ sym (map-set seen_global t.globals i other) in
      cc

  pub with_bytes_alike : (i : ℕ) (m q : Memory) (xs ys : List ℕ) → seen_memory m ≡ seen_memory q → seen_bytes m.type.tag xs ≡ seen_bytes m.type.tag ys → seen_storage (with_bytes s i m xs) ≡ seen_storage (with_bytes t i q ys)
  with_bytes_alike i m q xs ys e eb =
      let ty : m.type ≡ q.type = ap (λ (x : Memory). x.type) e in
      let ta : s.tables ≡ t.tables = ap (λ (x : Storage). x.tables) es in
      let ge : map seen_global s.globals ≡ map seen_global t.globals = ap (λ (x : Storage). x.globals) es in
      let me : map seen_memory s.memories ≡ map seen_memory t.memories = ap (λ (x : Storage). x.memories) es in
      let by : seen_bytes m.type.tag xs ≡ seen_bytes q.type.tag ys = eb ∙ ap (λ (t : MemoryType Label). seen_bytes t.tag ys) ty in
      let new : seen_memory (record m { bytes = xs }) ≡ seen_memory (record q { bytes = ys }) = cc in
      let ms = map-set seen_memory s.memories i (record m { bytes = xs }) ∙ ap₂ (λ (l : List Memory) (v : Memory). slice_set l i v) me new ∙ sym (map-set seen_memory t.memories i (record q { bytes = ys })) in
      cc
