-- Bits of words by their places.
use Rattle.std.proofs.Common.{◌≡◌, ℕ, zero, suc, ◌+◌, ◌-◌, ◌*◌, ◌/◌, ◌%◌, ◌^◌, ◌<◌, ◌≤◌, Bool, true, false, List, [], ◌∷◌, ◌++◌, length, map, get_or, Some, slice_get, refl, sym, ◌∙◌, ap, ap₂, subst, arith, ◌⊎◌, inl, inr, eqb, length-append}
use Rattle.std.specs.Prelude.{◌↔◌}
use Rattle.std.specs.List.{range_with_len}
use Rattle.std.proofs.lemmas.Nat.{pow_pos, pow-add, div-mul-add}
use Rattle.std.proofs.Math.Nat.{add-mul-div_right}
use Rattle.std.proofs.Math.Seq.{get_or-append_seam}
use Rattle.std.proofs.lemmas.Bool.{cases_lt}
use Rattle.std.proofs.lemmas.List.{get_or_append_left, get_or_default}
use Rattle.std.proofs.lemmas.Option.{slice_get-get_or}
use Rattle.std.proofs.lemmas.List.FromFn.{length-map-range_with_len, get_or-map-range_with_len}
use Rattle.ctw_flow.specs.Bits.{is_set, bits_of}

-- the bit at a place of a word
abbrev bit : ℕ → ℕ → Bool
bit word k = eqb (word / 2 ^ k % 2) 1

bit_none : (word k : ℕ) → word < 2 ^ k → bit word k ≡ false
bit_none word k h = go (word / 2 ^ k) (below word (2 ^ k) h)
  where
    below : (a b : ℕ) → a < b → a / b ≡ 0
    below a b l = let z : 0 * b + a ≡ a = omega arith in ap (λ n. n / b) (sym z) ∙ div-mul-add 0 b a l

    go : (q : ℕ) → q ≡ 0 → eqb (q % 2) 1 ≡ false
    go q e = ap (λ q. eqb (q % 2) 1) e

-- a power of two in a word that is below it
bit_there : (word k : ℕ) → word < 2 ^ k → bit (word + 2 ^ k) k ≡ true
bit_there word k h =
    let e : word + 2 ^ k ≡ word + 1 * 2 ^ k = omega arith in
    let q : (word + 1 * 2 ^ k) / 2 ^ k ≡ word / 2 ^ k + 1 = add-mul-div_right word 1 (pow_pos k) in
    let z : word / 2 ^ k ≡ 0 = below word (2 ^ k) h in
    ap (λ n. eqb (n % 2) 1) (ap (λ n. n / 2 ^ k) e ∙ q ∙ ap (λ n. n + 1) z)
  where
    below : (a b : ℕ) → a < b → a / b ≡ 0
    below a b l = let z : 0 * b + a ≡ a = omega arith in ap (λ n. n / b) (sym z) ∙ div-mul-add 0 b a l

-- and in the places below it
bit_kept : (word j k : ℕ) → j < k → bit (word + 2 ^ k) j ≡ bit word j
bit_kept word j k h =
    let m : k ≡ suc (k - j - 1) + j = omega arith in
    let p : 2 ^ k ≡ 2 ^ suc (k - j - 1) * 2 ^ j = ap (λ n. 2 ^ n) m ∙ pow-add 2 (suc (k - j - 1)) j in
    let q : (word + 2 ^ suc (k - j - 1) * 2 ^ j) / 2 ^ j ≡ word / 2 ^ j + 2 ^ suc (k - j - 1) = add-mul-div_right word (2 ^ suc (k - j - 1)) (pow_pos j) in
    ap (λ n. eqb (n / 2 ^ j % 2) 1) (ap (λ n. word + n) p) ∙ ap (λ n. eqb (n % 2) 1) q ∙ ap (λ n. eqb n 1) (even (word / 2 ^ j) (k - j - 1))
  where
    even : (a d : ℕ) → (a + 2 ^ suc d) % 2 ≡ a % 2
    even a d = let e : 2 ^ suc d ≡ 2 ^ d * 2 ^ 1 = ap (λ n. 2 ^ n) (next d) ∙ pow-add 2 d 1 in omega (arith, e)
      where
        next : (d : ℕ) → suc d ≡ d + 1
        next d = omega arith

-- ---- words

set_before : (words : List ℕ) (a b n : ℕ) → n / 64 < length words → is_set (words ++ a ∷ []) n ≡ is_set (words ++ b ∷ []) n
set_before words a b n h = ap (λ w. bit w (n % 64)) (get_or_append_left words (a ∷ []) 0 (n / 64) h ∙ sym (get_or_append_left words (b ∷ []) 0 (n / 64) h))

set_here : (words : List ℕ) (a n : ℕ) → n / 64 ≡ length words → is_set (words ++ a ∷ []) n ≡ bit a (n % 64)
set_here words a n e = ap (λ i. bit (get_or (words ++ a ∷ []) i 0) (n % 64)) e ∙ ap (λ w. bit w (n % 64)) (get_or-append_seam words a [] 0)

pub set_appended : (words : List ℕ) (a n : ℕ) → n / 64 < length words → is_set (words ++ a ∷ []) n ≡ is_set words n
set_appended words a n h = ap (λ w. bit w (n % 64)) (get_or_append_left words (a ∷ []) 0 (n / 64) h)

-- the next mark in the last word, and the word with it
abbrev pub with_mark : Bool → ℕ → ℕ → ℕ
with_mark true word i = word + 2 ^ (i % 64)
with_mark false word i = word

pub mark_kept : (m : Bool) (words : List ℕ) (word i k : ℕ) → length words ≡ i / 64 → k < i → is_set (words ++ with_mark m word i ∷ []) k ≡ is_set (words ++ word ∷ []) k
mark_kept false words word i k e h = refl
mark_kept true words word i k e h = go (cases_lt (k / 64) (length words))
  where
    go : (k / 64 < length words) ⊎ (length words ≤ k / 64) → is_set (words ++ (word + 2 ^ (i % 64)) ∷ []) k ≡ is_set (words ++ word ∷ []) k
    go (inl l) = set_before words (word + 2 ^ (i % 64)) word k l
    go (inr l) =
        let s : k / 64 ≡ length words = omega (arith, e, l, h) in
        set_here words (word + 2 ^ (i % 64)) k s ∙ bit_kept word (k % 64) (i % 64) (omega (arith, e, s, h)) ∙ sym (set_here words word k s)

pub mark_there : (m : Bool) (words : List ℕ) (word i : ℕ) → length words ≡ i / 64 → word < 2 ^ (i % 64) → is_set (words ++ with_mark m word i ∷ []) i ≡ m
mark_there true words word i e l = set_here words (word + 2 ^ (i % 64)) i (sym e) ∙ bit_there word (i % 64) l
mark_there false words word i e l = set_here words word i (sym e) ∙ bit_none word (i % 64) l

pub mark_low : (m : Bool) (word i : ℕ) → word < 2 ^ (i % 64) → with_mark m word i < 2 ^ (i % 64 + 1)
mark_low m word i l = let e : 2 ^ (i % 64 + 1) ≡ 2 ^ (i % 64) * 2 ^ 1 = pow-add 2 (i % 64) 1 in go m e
  where
    go : (m : Bool) → 2 ^ (i % 64 + 1) ≡ 2 ^ (i % 64) * 2 ^ 1 → with_mark m word i < 2 ^ (i % 64 + 1)
    go true e = omega (arith, e, l)
    go false e = omega (arith, e, l)

pub power_fits : (word i : ℕ) → word < 2 ^ (i % 64) → word + 2 ^ (i % 64) < 2 ^ 64
power_fits word i l =
    let e : 2 ^ (i % 64 + 1) ≡ 2 ^ (i % 64) * 2 ^ 1 = pow-add 2 (i % 64) 1 in
    let d : 64 ≡ (63 - i % 64) + (i % 64 + 1) = omega arith in
    let f : 2 ^ 64 ≡ 2 ^ (63 - i % 64) * 2 ^ (i % 64 + 1) = ap (λ n. 2 ^ n) d ∙ pow-add 2 (63 - i % 64) (i % 64 + 1) in
    go (2 ^ (63 - i % 64)) (2 ^ (i % 64 + 1)) (2 ^ 64) (pow_pos (63 - i % 64)) f (omega (arith, e, l))
  where
    go : (a b c : ℕ) → 0 < a → c ≡ a * b → word + 2 ^ (i % 64) < b → word + 2 ^ (i % 64) < c
    go (suc a) b c p q r = let m : suc a * b ≡ b + a * b = suc_times a b in omega (arith, q, m, r)
      where
        suc_times : (a b : ℕ) → suc a * b ≡ b + a * b
        suc_times a b = omega arith
    go zero b c p q r = absurd (omega arith)

-- ---- the marks that words stand for

marks_from : (f : ℕ → Bool) (marks : List Bool) (a : ℕ) → ((k : ℕ) → k < length marks → f (a + k) ≡ get_or marks k false) → map f (range_with_len a (length marks)) ≡ marks
marks_from f [] a h = refl
marks_from f (m ∷ marks) a h =
    let z : a + 0 ≡ a = omega arith in
    ap₂ (λ (x : Bool) (xs : List Bool). x ∷ xs) (ap f (sym z) ∙ h 0 (omega arith)) (marks_from f marks (a + 1) (λ k l. let e : a + 1 + k ≡ a + suc k = omega arith in ap f e ∙ h (suc k) (omega arith)))

pub marks_are : (words : List ℕ) (marks : List Bool) → ((k : ℕ) → k < length marks → is_set words k ≡ get_or marks k false) → bits_of words (length marks) ≡ marks
marks_are words marks h = marks_from (is_set words) marks 0 (λ k l. let e : 0 + k ≡ k = omega arith in ap (is_set words) e ∙ h k l)

-- a mark of the set that words stand for
pub mark_of : (words : List ℕ) (count n : ℕ) → n < count → slice_get (bits_of words count) n ≡ Some (is_set words n)
mark_of words count n h =
    let l = length-map-range_with_len (is_set words) 0 count in
    slice_get-get_or (bits_of words count) n false (omega (arith, l, h)) ∙ ap Some (get_or-map-range_with_len (is_set words) 0 count n n false h (omega arith))

pub set_exactly : (words : List ℕ) (count n w : ℕ) (marks : List Bool) → bits_of words count ≡ marks → n < length marks → w ≡ get_or words (n / 64) w → n / 64 < length words
    → (eqb (w / 2 ^ (n % 64) % 2) 1 ≡ true) ↔ (slice_get marks n ≡ Some true)
set_exactly words count n w marks v h e i =
    let l = length-map-range_with_len (is_set words) 0 count in
    let s : slice_get marks n ≡ Some (is_set words n) = ap (λ (m : List Bool). slice_get m n) (sym v) ∙ mark_of words count n (omega (arith, l, ap (λ (m : List Bool). length m) v, h)) in
    let t : eqb (w / 2 ^ (n % 64) % 2) 1 ≡ is_set words n = ap (λ w. bit w (n % 64)) (e ∙ get_or_default words (n / 64) w 0 i) in
    ((λ a. s ∙ ap Some (sym t ∙ a)), (λ a. t ∙ same_Some (is_set words n) true (sym s ∙ a)))
  where
    same_Some : (a b : Bool) → Some a ≡ Some b → a ≡ b
    same_Some a b e = cc

-- ---- one mark more

pub record Holds (words : List ℕ) (word i : ℕ) (marks : List Bool) : Type 0 where
  pub full : length words ≡ i / 64
  pub low : word < 2 ^ (i % 64)
  pub same : (k : ℕ) → k < i → is_set (words ++ word ∷ []) k ≡ get_or marks k false

one_more : (m : Bool) (words : List ℕ) (word i : ℕ) (marks : List Bool) → Holds words word i marks → m ≡ get_or marks i false → (k : ℕ) → k < i + 1 → is_set (words ++ with_mark m word i ∷ []) k ≡ get_or marks k false
one_more m words word i marks h e k l = go (cases_lt k i)
  where
    go : (k < i) ⊎ (i ≤ k) → is_set (words ++ with_mark m word i ∷ []) k ≡ get_or marks k false
    go (inl s) = mark_kept m words word i k h.full s ∙ h.same k s
    go (inr s) = let q : k ≡ i = omega arith in ap (is_set (words ++ with_mark m word i ∷ [])) q ∙ mark_there m words word i h.full h.low ∙ e ∙ ap (λ n. get_or marks n false) (sym q)

-- inside a word
pub goes_on : (m : Bool) (words : List ℕ) (word i : ℕ) (marks : List Bool) → Holds words word i marks → m ≡ get_or marks i false → (i % 64 ≡ 63 → ⊥) → Holds words (with_mark m word i) (i + 1) marks
goes_on m words word i marks h e n =
    let s : (i + 1) % 64 ≡ i % 64 + 1 = next i n in record {
      full = let f = h.full in rest i n (length words) f;
      low = subst (λ k. with_mark m word i < 2 ^ k) (sym s) (mark_low m word i h.low);
      same = one_more m words word i marks h e;
    }
  where
    next : (i : ℕ) → (i % 64 ≡ 63 → ⊥) → (i + 1) % 64 ≡ i % 64 + 1
    next i n = by (cases_lt (i % 64) 63)
      where
        by : (i % 64 < 63) ⊎ (63 ≤ i % 64) → (i + 1) % 64 ≡ i % 64 + 1
        by (inl l) = omega (arith, l)
        by (inr l) = absurd (n (omega (arith, l)))

    rest : (i : ℕ) → (i % 64 ≡ 63 → ⊥) → (c : ℕ) → c ≡ i / 64 → c ≡ (i + 1) / 64
    rest i n c f = let s = next i n in omega (arith, s, f)

-- at its end
pub begins_anew : (m : Bool) (words : List ℕ) (word i : ℕ) (marks : List Bool) → Holds words word i marks → m ≡ get_or marks i false → i % 64 ≡ 63 → Holds (words ++ with_mark m word i ∷ []) 0 (i + 1) marks
begins_anew m words word i marks h e s = record {
  full = length-append words (with_mark m word i ∷ []) ∙ omega (arith, s, h.full);
  low = pow_pos ((i + 1) % 64);
  same = λ k l. set_appended (words ++ with_mark m word i ∷ []) 0 k (omega (arith, length-append words (with_mark m word i ∷ []), h.full, l, s)) ∙ one_more m words word i marks h e k l;
}

-- a power of a place in a word
pub power_is : (i : ℕ) → 1 * 2 ^ (i % 64) % 18446744073709551616 ≡ 2 ^ (i % 64)
power_is i = let f : 0 + 2 ^ (i % 64) < 2 ^ 64 = power_fits 0 i (pow_pos (i % 64)) in omega (arith, f)
