-- Bytes of pages by their places.
use Rattle.std.proofs.Common.{◌≡◌, ℕ, zero, suc, ◌+◌, ◌-◌, ◌*◌, ◌/◌, ◌%◌, ◌<◌, ◌≤◌, Bool, true, false, nat_lt, List, [], ◌∷◌, ◌++◌, Option, option_map, flat_map, length, get_or, All, Some, slice_get, slice_set, refl, sym, ap, ap₂, ◌∙◌, subst, arith, replicate, take, drop, length-append, length-drop, append_assoc}
use Rattle.std.proofs.Math.Nat.{mul-suc}
use Rattle.std.proofs.Math.Seq.{take-append-add, drop-append-add}
use Rattle.std.proofs.lemmas.Bool.{ltb-true, ltb-false}
use Rattle.std.proofs.lemmas.Grind.{flat_map-append}
use Rattle.std.proofs.lemmas.List.{replicate-append-replicate, get_or_append_left, get_or-append_right, set-append_left, set-append_right, take-append-le, drop-append-le, length-replicate, drop-replicate, take-replicate, get_or-replicate, map-set}
use Rattle.std.proofs.lemmas.List.Elements.{All-head, All-tail, All-set, All-append}
use Rattle.std.proofs.lemmas.Option.{slice_get-get_or, slice_get-map}
use Rattle.ctw_semantics.specs.Stores.{written_at}
use Rattle.ctw_ops.proofs.Lists.{map_set_same}
use Rattle.ctw_store.specs.declared.page.Page.{Page}
use Rattle.ctw_store.specs.declared.page.Page.TheVariants.{Absent}
use Rattle.ctw_store.specs.Pages.{zeros, bytes_in, is_made, IsPage, all_bytes, made_in, IsMadeIn, KeepsMadeIn, AreMadeIn}

-- ---- what is written into one of two lists

pub written_left : (at : ℕ) (new xs ys : List ℕ) → at + length new ≤ length xs → written_at at new (xs ++ ys) ≡ written_at at new xs ++ ys
unfolding written_at
written_left at new xs ys h =
    let t = take-append-le at xs ys (omega arith) in
    let d = drop-append-le (at + length new) xs ys h in
    ap₂ (λ (a b : List ℕ). a ++ (new ++ b)) t d ∙ ap (λ l. take at xs ++ l) (sym (append_assoc new (drop (at + length new) xs) ys))
    ∙ sym (append_assoc (take at xs) (new ++ drop (at + length new) xs) ys)

pub written_right : (at : ℕ) (new xs ys : List ℕ) → written_at (length xs + at) new (xs ++ ys) ≡ xs ++ written_at at new ys
unfolding written_at
written_right at new xs ys =
    let t = take-append-add xs ys at in
    let e : length xs + at + length new ≡ length xs + (at + length new) = omega arith in
    let d = ap (λ n. drop n (xs ++ ys)) e ∙ drop-append-add xs ys (at + length new) in
    ap₂ (λ (a b : List ℕ). a ++ (new ++ b)) t d ∙ append_assoc xs (take at ys) (new ++ drop (at + length new) ys)

-- ---- pieces of one length

module _ {X : Type 0} (P : X → Type 0) (f : X → List ℕ) (n : ℕ) (even : (x : X) → P x → length (f x) ≡ n) where
  pub length_even : (xs : List X) → All P xs → length (flat_map f xs) ≡ n * length xs
  length_even [] h = omega arith
  length_even (x ∷ xs) h =
      let e = even x (All-head P x xs h) in
      let r = length_even xs (All-tail P x xs h) in
      length-append (f x) (flat_map f xs) ∙ omega (arith, mul-suc n (length xs), e, r)

  pub get_even : (xs : List X) (i j k : ℕ) (x : X) (d : ℕ) → All P xs → slice_get xs i ≡ Some x → j < n → k ≡ n * i + j → get_or (flat_map f xs) k d ≡ get_or (f x) j d
  get_even [] i j k x d h g l q = absurd cc
  get_even (y ∷ xs) zero j k x d h g l q =
      let e = even y (All-head P y xs h) in
      let s : y ≡ x = cc in
      let w : k ≡ j = omega (arith, q) in
      get_or_append_left (f y) (flat_map f xs) d k (omega (arith, e, w, l)) ∙ ap (λ y. get_or (f y) k d) s ∙ ap (λ k. get_or (f x) k d) w
  get_even (y ∷ xs) (suc i) j k x d h g l q =
      let e = even y (All-head P y xs h) in
      let m = mul-suc n i in
      get_or-append_right (f y) (flat_map f xs) n k d e (omega (arith, q, m)) ∙ get_even xs i j (k - n) x d (All-tail P y xs h) g l (omega (arith, q, m))

  pub set_even : (xs : List X) (i j k : ℕ) (x y : X) (b : ℕ) → All P xs → slice_get xs i ≡ Some x → j < n → k ≡ n * i + j → f y ≡ slice_set (f x) j b → flat_map f (slice_set xs i y) ≡ slice_set (flat_map f xs) k b
  set_even [] i j k x y b h g l q w = absurd cc
  set_even (z ∷ xs) zero j k x y b h g l q w =
      let e = even z (All-head P z xs h) in
      let s : z ≡ x = cc in
      let kj : k ≡ j = omega (arith, q) in
      let a : f y ≡ slice_set (f z) k b = w ∙ ap (λ x. slice_set (f x) j b) (sym s) ∙ ap (λ j. slice_set (f z) j b) (sym kj) in
      ap (λ l. l ++ flat_map f xs) a ∙ sym (set-append_left (f z) (flat_map f xs) k b (omega (arith, e, kj, l)))
  set_even (z ∷ xs) (suc i) j k x y b h g l q w =
      let e = even z (All-head P z xs h) in
      let m = mul-suc n i in
      ap (λ l. f z ++ l) (set_even xs i j (k - n) x y b (All-tail P z xs h) g l (omega (arith, q, m)) w) ∙ sym (set-append_right (f z) (flat_map f xs) n k b e (omega (arith, q, m)))

  pub part_even : (xs : List X) (i j k c : ℕ) (x : X) → All P xs → slice_get xs i ≡ Some x → j + c ≤ n → k ≡ n * i + j → take c (drop k (flat_map f xs)) ≡ take c (drop j (f x))
  part_even [] i j k c x h g l q = absurd cc
  part_even (y ∷ xs) zero j k c x h g l q =
      let e = even y (All-head P y xs h) in
      let s : y ≡ x = cc in
      let w : k ≡ j = omega (arith, q) in
      ap (take c) (drop-append-le k (f y) (flat_map f xs) (omega (arith, e, w, l))) ∙ take-append-le c (drop k (f y)) (flat_map f xs) (omega (arith, length-drop k (f y), e, w, l))
      ∙ ap (λ y. take c (drop k (f y))) s ∙ ap (λ k. take c (drop k (f x))) w
  part_even (y ∷ xs) (suc i) j k c x h g l q =
      let e = even y (All-head P y xs h) in
      let m = mul-suc n i in
      let w : k ≡ length (f y) + (k - n) = omega (arith, q, m, e) in
      ap (λ k. take c (drop k (f y ++ flat_map f xs))) w ∙ ap (take c) (drop-append-add (f y) (flat_map f xs) (k - n))
      ∙ part_even xs i j (k - n) c x (All-tail P y xs h) g l (omega (arith, q, m))

  pub write_even : (xs : List X) (i j k : ℕ) (x y : X) (new : List ℕ) → All P xs → slice_get xs i ≡ Some x → j + length new ≤ n → k ≡ n * i + j → f y ≡ written_at j new (f x)
      → flat_map f (slice_set xs i y) ≡ written_at k new (flat_map f xs)
  write_even [] i j k x y new h g l q w = absurd cc
  write_even (z ∷ xs) zero j k x y new h g l q w =
      let e = even z (All-head P z xs h) in
      let s : z ≡ x = cc in
      let kj : k ≡ j = omega (arith, q) in
      let a : f y ≡ written_at k new (f z) = w ∙ ap (λ x. written_at j new (f x)) (sym s) ∙ ap (λ j. written_at j new (f z)) (sym kj) in
      ap (λ l. l ++ flat_map f xs) a ∙ sym (written_left k new (f z) (flat_map f xs) (omega (arith, e, kj, l)))
  write_even (z ∷ xs) (suc i) j k x y new h g l q w =
      let e = even z (All-head P z xs h) in
      let m = mul-suc n i in
      let r : k ≡ length (f z) + (k - n) = omega (arith, q, m, e) in
      ap (λ l. f z ++ l) (write_even xs i j (k - n) x y new (All-tail P z xs h) g l (omega (arith, q, m)) w)
      ∙ sym (ap (λ k. written_at k new (f z ++ flat_map f xs)) r ∙ written_right (k - n) new (f z) (flat_map f xs))

-- ---- pages

size_of : (p : Page) → IsPage p → length (bytes_in p) ≡ 65536
size_of p h = h.size

pub zeros_long : length zeros ≡ 65536
unfolding zeros
zeros_long = length-replicate {A = ℕ} 65536 0

pub zeros_zero : (j : ℕ) → j < 65536 → get_or zeros j 0 ≡ 0
unfolding zeros
zeros_zero j h = get_or-replicate 65536 j 0 0 h

pub bytes_long : (pages : List Page) → All IsPage pages → length (all_bytes pages) ≡ 65536 * length pages
bytes_long pages h = length_even IsPage bytes_in 65536 size_of pages h

pub page_within : (pages : List Page) (at : ℕ) → All IsPage pages → at < length (all_bytes pages) → at / 65536 < length pages
page_within pages at h l = let e = bytes_long pages h in omega arith

pub byte_in : (pages : List Page) (at : ℕ) (p : Page) → All IsPage pages → slice_get pages (at / 65536) ≡ Some p → get_or (all_bytes pages) at 0 ≡ get_or (bytes_in p) (at % 65536) 0
byte_in pages at p h g = get_even IsPage bytes_in 65536 size_of pages (at / 65536) (at % 65536) at p 0 h g (omega arith) (omega arith)

pub byte_set : (pages : List Page) (at : ℕ) (p q : Page) (b : ℕ) → All IsPage pages → slice_get pages (at / 65536) ≡ Some p → bytes_in q ≡ slice_set (bytes_in p) (at % 65536) b → all_bytes (slice_set pages (at / 65536) q) ≡ slice_set (all_bytes pages) at b
byte_set pages at p q b h g w = set_even IsPage bytes_in 65536 size_of pages (at / 65536) (at % 65536) at p q b h g (omega arith) (omega arith) w

pub bytes_inside : (pages : List Page) (at c : ℕ) (p : Page) → All IsPage pages → slice_get pages (at / 65536) ≡ Some p → at % 65536 + c ≤ 65536 → take c (drop at (all_bytes pages)) ≡ take c (drop (at % 65536) (bytes_in p))
bytes_inside pages at c p h g l = part_even IsPage bytes_in 65536 size_of pages (at / 65536) (at % 65536) at c p h g l (omega arith)

pub bytes_written : (pages : List Page) (at : ℕ) (p q : Page) (new : List ℕ) → All IsPage pages → slice_get pages (at / 65536) ≡ Some p → at % 65536 + length new ≤ 65536
    → bytes_in q ≡ written_at (at % 65536) new (bytes_in p) → all_bytes (slice_set pages (at / 65536) q) ≡ written_at at new (all_bytes pages)
bytes_written pages at p q new h g l w = write_even IsPage bytes_in 65536 size_of pages (at / 65536) (at % 65536) at p q new h g l (omega arith) w

-- the page that was read at an index
pub page_read : (pages : List Page) (i : ℕ) (p : Page) → i < length pages → p ≡ get_or pages i p → slice_get pages i ≡ Some p
page_read pages i p l e = slice_get-get_or pages i p l ∙ ap (λ p. Some p) (sym e)

pub made_known : (pages : List Page) (i : ℕ) (p : Page) → slice_get pages i ≡ Some p → IsMadeIn (made_in pages) i → is_made p ≡ true
made_known pages i p g h =
    let e = slice_get-map is_made pages i in
    same (sym h ∙ e ∙ ap (λ o. option_map is_made o) g)
  where
    same : ◌≡◌ {A = Option Bool} (Some true) (Some (is_made p)) → is_made p ≡ true
    same e = cc

-- a page is replaced
pub pages_set : (pages : List Page) (i : ℕ) (q : Page) → All IsPage pages → IsPage q → All IsPage (slice_set pages i q)
pages_set pages i q h s = All-set IsPage pages i q s h

pub made_same : (pages : List Page) (i : ℕ) (p q : Page) → slice_get pages i ≡ Some p → is_made q ≡ is_made p → made_in (slice_set pages i q) ≡ made_in pages
made_same pages i p q g e = map_set_same is_made pages i p q g e

-- a page is replaced by one with the same bytes
pub bytes_same : (pages : List Page) (i : ℕ) (p q : Page) → slice_get pages i ≡ Some p → bytes_in q ≡ bytes_in p → all_bytes (slice_set pages i q) ≡ all_bytes pages
bytes_same [] i p q g e = cc
bytes_same (r ∷ pages) zero p q g e = let s : r ≡ p = cc in ap (λ l. l ++ all_bytes pages) (e ∙ ap bytes_in (sym s))
bytes_same (r ∷ pages) (suc i) p q g e = ap (λ l. bytes_in r ++ l) (bytes_same pages i p q g e)

pub made_made : (pages : List Page) (i : ℕ) (q : Page) → is_made q ≡ true → made_in (slice_set pages i q) ≡ slice_set (made_in pages) i true
made_made pages i q e = map-set is_made pages i q ∙ ap (λ b. slice_set (made_in pages) i b) e

-- a page that is made already
pub made_before : (pages : List Page) (i : ℕ) (p : Page) → slice_get pages i ≡ Some p → is_made p ≡ true → made_in pages ≡ slice_set (made_in pages) i true
made_before [] i p g e = cc
made_before (r ∷ pages) zero p g e = let s : r ≡ p = cc in ap (λ b. b ∷ made_in pages) (ap is_made s ∙ e)
made_before (r ∷ pages) (suc i) p g e = ap (λ l. is_made r ∷ l) (made_before pages i p g e)

-- ---- pages at the end

abbrev pub absents : ℕ → List Page
absents n = replicate n Absent

pub absent_pages : (n : ℕ) → All IsPage (absents n)
absent_pages n = λ k d l. subst IsPage (sym (get_or-replicate {A = Page} n k Absent d (subst (λ m. k < m) (length-replicate {A = Page} n Absent) l))) (record { size = zeros_long })

pub absent_bytes : (n : ℕ) → all_bytes (absents n) ≡ replicate (65536 * n) 0
unfolding zeros
absent_bytes zero = refl
absent_bytes (suc n) =
    ap (λ l. zeros ++ l) (absent_bytes n) ∙ replicate-append-replicate {A = ℕ} 65536 (65536 * n) 0 ∙ ap (λ k. replicate {A = ℕ} k 0) (omega arith)

pub bytes_extended : (pages : List Page) (n : ℕ) → all_bytes (pages ++ absents n) ≡ all_bytes pages ++ replicate (65536 * n) 0
bytes_extended pages n = flat_map-append bytes_in pages (absents n) ∙ ap (λ l. all_bytes pages ++ l) (absent_bytes n)

pub whole_extended : (pages : List Page) (n : ℕ) → All IsPage pages → All IsPage (pages ++ absents n)
whole_extended pages n h = All-append IsPage pages (absents n) h (absent_pages n)

pub one_more : (pages : List Page) (n : ℕ) → (pages ++ absents n) ++ Absent ∷ [] ≡ pages ++ absents (n + 1)
one_more pages n = append_assoc pages (absents n) (Absent ∷ []) ∙ ap (λ l. pages ++ l) (replicate-append-replicate {A = Page} n 1 Absent)

-- ---- what stays made

pub made_in_set : (made : List Bool) (i j : ℕ) → slice_get made j ≡ Some true → slice_get (slice_set made i true) j ≡ Some true
made_in_set [] i j e = e
made_in_set (b ∷ made) zero zero e = refl
made_in_set (b ∷ made) zero (suc j) e = e
made_in_set (b ∷ made) (suc i) zero e = e
made_in_set (b ∷ made) (suc i) (suc j) e = made_in_set made i j e

pub made_at_set : (made : List Bool) (i : ℕ) → i < length made → slice_get (slice_set made i true) i ≡ Some true
made_at_set [] i h = absurd (omega arith)
made_at_set (b ∷ made) zero h = refl
made_at_set (b ∷ made) (suc i) h = made_at_set made i (omega arith)

pub made_there : (pages : List Page) (i : ℕ) (p : Page) → slice_get pages i ≡ Some p → is_made p ≡ true → IsMadeIn (made_in pages) i
made_there pages i p g e = slice_get-map is_made pages i ∙ ap (λ o. option_map is_made o) g ∙ ap (λ b. Some b) e

pub kept_by_set : (made new : List Bool) (i : ℕ) → new ≡ slice_set made i true → KeepsMadeIn made new
kept_by_set made new i e = λ page h. subst (λ l. IsMadeIn l page) (sym e) (made_in_set made i page h)

pub made_by_set : (made new : List Bool) (i : ℕ) → i < length made → new ≡ slice_set made i true → IsMadeIn new i
made_by_set made new i l e = subst (λ m. IsMadeIn m i) (sym e) (made_at_set made i l)

-- ---- parts of zeros

zeros_after : (n j c : ℕ) → j + c ≤ n → take c (drop j (replicate {A = ℕ} n 0)) ≡ replicate c 0
zeros_after n j c h = ap (take c) (drop-replicate {X = ℕ} j n 0) ∙ take-replicate {X = ℕ} c (n - j) 0 (omega arith)

pub zeros_part : (j c : ℕ) → j + c ≤ 65536 → take c (drop j zeros) ≡ replicate c 0
unfolding zeros
zeros_part j c h = zeros_after 65536 j c h

-- a page that some of the bytes lie in
pub one_of_them : (made : List Bool) (at count index : ℕ) → AreMadeIn made at count → 0 < count → at / 65536 ≤ index → index < (at + count - 1) / 65536 + 1 → IsMadeIn made index
one_of_them made at count index a some low high = from (nat_lt at (65536 * index)) refl
  where
    at_place : (i : ℕ) → at ≤ i → i < at + count → i / 65536 ≡ index → IsMadeIn made index
    at_place i l h e = subst (IsMadeIn made) e (a i l h)

    from : (b : Bool) → nat_lt at (65536 * index) ≡ b → IsMadeIn made index
    from true t =
        let l = ltb-true at (65536 * index) t in
        at_place (65536 * index) (omega (arith, l)) (omega (arith, some, high)) (omega arith)
    from false f =
        let l = ltb-false at (65536 * index) f in
        at_place at (omega arith) (omega (arith, some)) (omega (arith, l, low))
