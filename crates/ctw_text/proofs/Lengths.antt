-- The table of words by the length of the words.
use Rattle.std.proofs.Common.{◌≡◌, ℕ, Bool, true, false, List, [], ◌∷◌, Option, None, length, map, take, nat_eq, nat_lt, ◌<◌, arith, refl, ap, sym, ◌∙◌, eq-eqb}
use Rattle.std.specs.Prelude.{bytes_eq, cond, filter, ◌&&◌}
use Rattle.std.specs.List.{list_all}
use Rattle.std.proofs.lemmas.Bool.{false_from_ne_true, ltb-true, and_parts}
use Rattle.std.proofs.lemmas.Slice.Eq.{bytes_eq-Decides}
use Rattle.ctw_text.specs.Keys.{Key}
use Rattle.ctw_text.specs.Words.{Entry, words, look_up, key_of}
use Rattle.ctw_text.specs.Buckets.{told}
use Rattle.ctw_text.specs.declared.words.Entry.{Entry as StoredEntry}

abbrev pub has_length : ℕ → Entry → Bool
has_length n e = nat_eq (length e.word) n

differs : (n : ℕ) (u w : List ℕ) → length w ≡ n → nat_eq (length u) n ≡ false → bytes_eq u w ≡ false
differs n u w size e =
    false_from_ne_true (bytes_eq u w)
    (λ q.
    let same : u ≡ w = (bytes_eq-Decides u w).0 q in
    let t : nat_eq (length u) n ≡ true = eq-eqb (length u) n (ap length same ∙ size) in
    let w : false ≡ true = sym e ∙ t in
    absurd cc)

with_one : (n : ℕ) (w : List ℕ) (e : Entry) (es : List Entry) → length w ≡ n
    → look_up (filter (has_length n) es) w ≡ look_up es w → (t : Bool) → nat_eq (length e.word) n ≡ t
    → look_up (filter (has_length n) (e ∷ es)) w ≡ look_up (e ∷ es) w
with_one n w e es size rest true q = rw (q, rest) refl
with_one n w e es size rest false q = rw (q, differs n e.word w size q) rest

pub of_length : (n : ℕ) (w : List ℕ) → length w ≡ n → (es : List Entry) → look_up (filter (has_length n) es) w ≡ look_up es w
of_length n w size [] = refl
of_length n w size (e ∷ es) = with_one n w e es size (of_length n w size es) (nat_eq (length e.word) n) refl

pub tabled : (n : ℕ) (table : List StoredEntry) (w : List ℕ) (r : Option Key) → length w ≡ n
    → map (told n) table ≡ filter (has_length n) words → r ≡ look_up (map (told (length w)) table) w → r ≡ key_of w
unfolding key_of
tabled n table w r size same found =
    let l : look_up (map (told (length w)) table) w ≡ look_up (map (told n) table) w = ap (λ k. look_up (map (told k) table) w) size in
    let m : look_up (map (told n) table) w ≡ look_up (filter (has_length n) words) w = ap (λ es. look_up es w) same in
    found ∙ (l ∙ (m ∙ of_length n w size words))

pub by_length : (n : ℕ) (w : List ℕ) → length w ≡ n → look_up (filter (has_length n) words) w ≡ key_of w
unfolding key_of
by_length n w size = of_length n w size words

abbrev pub is_between : ℕ → Bool
is_between n = nat_lt 1 n && nat_lt n 17

unlike : (u w : List ℕ) → is_between (length u) ≡ true → is_between (length w) ≡ false → bytes_eq u w ≡ false
unlike u w e f =
    false_from_ne_true (bytes_eq u w)
    (λ q.
    let same : u ≡ w = (bytes_eq-Decides u w).0 q in
    let t : is_between (length w) ≡ true = sym (ap (λ v. is_between (length v)) same) ∙ e in
    let w : false ≡ true = sym f ∙ t in
    absurd cc)

none_like : (w : List ℕ) → is_between (length w) ≡ false → (es : List Entry)
    → list_all (λ (e : Entry). is_between (length e.word)) es ≡ true → None ≡ look_up es w
none_like w f [] e = refl
none_like w f (x ∷ es) e =
    let t = and_parts (is_between (length x.word)) (list_all (λ (e : Entry). is_between (length e.word)) es) e in
    rw (unlike x.word w t.0 f) (none_like w f es t.1)

all_between : list_all (λ (e : Entry). is_between (length e.word)) words ≡ true
unfolding words
all_between = refl

pub short : (w : List ℕ) → length w < 2 → None ≡ key_of w
unfolding key_of
short w h =
    none_like w
    (false_from_ne_true (is_between (length w))
    (λ q. let a : 1 < length w = ltb-true 1 (length w) (and_parts _ _ q).0 in absurd (omega arith)))
    words all_between

pub long : (w : List ℕ) → 16 < length w → None ≡ key_of w
unfolding key_of
long w h =
    none_like w
    (false_from_ne_true (is_between (length w))
    (λ q. let a : length w < 17 = ltb-true (length w) 17 (and_parts _ _ q).1 in absurd (omega arith)))
    words all_between
