-- Where a string's closing quote stands.
use Rattle.std.proofs.Common.{◌≡◌, ℕ, suc, ◌<◌, Bool, true, false, List, [], ◌∷◌, ◌++◌, Some, length, take, get_or, append_assoc, refl, ap, subst, arith}
use Rattle.std.specs.Prelude.{option_map, ◌&&◌, ◌==◌, not, if◌then◌else◌}
use Rattle.std.specs.List.{list_all}
use Rattle.std.proofs.lemmas.Bool.{false≢true, eqb-true}
use Rattle.ctw_lex.specs.Chars.{is_string_byte, is_hex}
use Rattle.ctw_lex.specs.Strings.{string_len}
use Rattle.ctw_lex.specs.Grammar.{IsEscape, simple, byte, scalar, Spells, nothing, itself, escape}
use Rattle.ctw_lex.specs.Faults.{IsUnclosed, no_more, plain, pair}
use Rattle.ctw_lex.proofs.Facts.{both_true, some_same, none_some, mapped_some, differs}

-- a byte that is neither a quote nor a backslash
abbrev is_other : ℕ → Bool
is_other b = not (b == 34) && not (b == 92)

not_true : (b : Bool) → not b ≡ true → b ≡ false
not_true true e = absurd (false≢true e)
not_true false e = refl

other_unclosed : (b : ℕ) (bs : List ℕ) → is_other b ≡ true → IsUnclosed bs → IsUnclosed (b ∷ bs)
other_unclosed b bs e u = let h = both_true (not (b == 34)) (not (b == 92)) e in plain (not_true (b == 34) h.0) (not_true (b == 92) h.1) u

other_from : (p : ℕ → Bool) (b : ℕ) → p b ≡ true → p 34 ≡ false → p 92 ≡ false → is_other b ≡ true
other_from p b e q r = rw (differs p b 34 e q, differs p b 92 e r) refl

all_unclosed : (p : ℕ → Bool) (w bs : List ℕ) → list_all p w ≡ true → p 34 ≡ false → p 92 ≡ false → IsUnclosed bs → IsUnclosed (w ++ bs)
all_unclosed p [] bs a q r u = u
all_unclosed p (b ∷ w) bs a q r u =
    let h = both_true (p b) (list_all p w) a in
    other_unclosed b (w ++ bs) (other_from p b h.0 q r) (all_unclosed p w bs h.1 q r u)

escape_unclosed : {word bytes : List ℕ} → IsEscape word bytes → (bs : List ℕ) → IsUnclosed bs → IsUnclosed (92 ∷ (word ++ bs))
escape_unclosed (simple e) bs u = pair u
escape_unclosed (byte {high} {low} e f) bs u = pair (other_unclosed low bs (other_from is_hex low f refl refl) u)
escape_unclosed (scalar first digits a e) bs u =
    let r : first ∷ ((digits ++ 125 ∷ []) ++ bs) ≡ (first ∷ digits) ++ 125 ∷ bs = ap (λ x. first ∷ x) (append_assoc digits (125 ∷ []) bs) in
    rw r (pair (other_unclosed 123 ((first ∷ digits) ++ 125 ∷ bs) refl (all_unclosed is_hex (first ∷ digits) (125 ∷ bs) a refl refl (other_unclosed 125 bs refl u))))

spelled_unclosed : {inside value : List ℕ} → Spells inside value → IsUnclosed inside
spelled_unclosed nothing = no_more
spelled_unclosed (itself {b} {more} e h) = other_unclosed b more (other_from is_string_byte b e refl refl) (spelled_unclosed h)
spelled_unclosed (escape {more = more} e h) = escape_unclosed e more (spelled_unclosed h)

-- behind what is unclosed stands the quote that closes the string
pub unclosed_len : {inside : List ℕ} → IsUnclosed inside → (rest : List ℕ) → string_len false (inside ++ 34 ∷ rest) ≡ Some (length inside)
unclosed_len no_more rest = refl
unclosed_len (plain e f u) rest = rw (e, f) (ap (option_map suc) (unclosed_len u rest))
unclosed_len (pair u) rest = ap (λ o. option_map suc (option_map suc o)) (unclosed_len u rest)

pub spelled_len : {inside value : List ℕ} → Spells inside value → (rest : List ℕ) → string_len false (inside ++ 34 ∷ rest) ≡ Some (length inside)
spelled_len s rest = unclosed_len (spelled_unclosed s) rest

-- the quote that closes a string
pub quote_at : (escaped : Bool) (bs : List ℕ) (n : ℕ) → string_len escaped bs ≡ Some n → (get_or bs n 0 ≡ 34) × (n < length bs)
quote_at escaped [] n e = absurd (none_some e)
quote_at escaped (b ∷ bs) n e = go (λ x m q. quote_at x bs m q) (not escaped && b == 34) refl e
  where
    go : ((x : Bool) (m : ℕ) → string_len x bs ≡ Some m → (get_or bs m 0 ≡ 34) × (m < length bs)) → (t : Bool) → (not escaped && b == 34) ≡ t →
        (if t then Some 0 else option_map suc (string_len (not escaped && b == 92) bs)) ≡ Some n → (get_or (b ∷ bs) n 0 ≡ 34) × (n < length (b ∷ bs))
    go ih true p e =
        let h : get_or (b ∷ bs) 0 0 ≡ 34 = eqb-true b 34 (both_true (not escaped) (b == 34) p).1 in
        let i : 0 < length (b ∷ bs) = omega arith in
        subst (λ n. (get_or (b ∷ bs) n 0 ≡ 34) × (n < length (b ∷ bs))) (some_same e) (h, i)
    go ih false p e =
        let m = mapped_some (string_len (not escaped && b == 92) bs) e in
        let h = ih (not escaped && b == 92) m.0 m.1 in
        let i : suc m.0 < length (b ∷ bs) = omega arith in
        subst (λ n. (get_or (b ∷ bs) n 0 ≡ 34) × (n < length (b ∷ bs))) m.2 (h.0, i)

-- what stands before the quote that was found is unclosed, where the first byte isn't one that a backslash escapes
record IsUnclosedBefore (bs : List ℕ) : Type 0 where
  plainly : (n : ℕ) → string_len false bs ≡ Some n → IsUnclosed (take n bs)
  escaped : (n : ℕ) → string_len true bs ≡ Some n → IsUnclosed (92 ∷ take n bs)

before_byte : (b : ℕ) (bs : List ℕ) (n : ℕ) (s t : Bool) → (b == 34) ≡ s → (b == 92) ≡ t → IsUnclosedBefore bs →
    (if s then Some 0 else option_map suc (string_len t bs)) ≡ Some n → IsUnclosed (take n (b ∷ bs))
before_byte b bs n true t e f u g = let z : 0 ≡ n = some_same g in rw (← z) no_more
before_byte b bs n false t e f u g =
    let m = mapped_some (string_len t bs) g in
    subst (λ n. IsUnclosed (take n (b ∷ bs))) m.2 (go t f m.0 m.1)
  where
    go : (t : Bool) → (b == 92) ≡ t → (n : ℕ) → string_len t bs ≡ Some n → IsUnclosed (b ∷ take n bs)
    go true f n h = let x : b ≡ 92 = eqb-true b 92 f in rw x (u.escaped n h)
    go false f n h = plain e f (u.plainly n h)

unclosed_before : (bs : List ℕ) → IsUnclosedBefore bs
unclosed_before [] = record { plainly = λ n e. absurd (none_some e); escaped = λ n e. absurd (none_some e) }
unclosed_before (b ∷ bs) =
    let u = unclosed_before bs in
    record {
      plainly = λ n e. before_byte b bs n (b == 34) (b == 92) refl refl u e;
      escaped = λ n e.
          let m = mapped_some (string_len false bs) e in
          subst (λ n. IsUnclosed (92 ∷ take n (b ∷ bs))) m.2 (pair (u.plainly m.0 m.1));
    }

pub len_unclosed : (bs : List ℕ) (n : ℕ) → string_len false bs ≡ Some n → IsUnclosed (take n bs)
len_unclosed bs n e = (unclosed_before bs).plainly n e
