-- Tokens are slices of their text, one behind another.
use Rattle.std.proofs.Common.{◌≡◌, ℕ, suc, ◌+◌, ◌-◌, ◌<◌, ◌≤◌, Bool, true, false, List, [], ◌∷◌, ◌++◌, length, take, drop, length-append, append_assoc, refl, ap, sym, ◌∙◌, subst, arith}
use Rattle.std.specs.Prelude.{◌==◌, if◌then◌else◌}
use Rattle.std.specs.List.{AllByRecursion, AllPairs}
use Rattle.std.proofs.lemmas.List.Elements.{All-from_recursion}
use Rattle.std.proofs.lemmas.List.Kept.{AllPairs-cons}
use Rattle.ctw_lex.specs.declared.TokenKind.{TokenKind}
use Rattle.ctw_lex.specs.Lexeme.{Lexeme}
use Rattle.std.specs.List.{list_all}
use Rattle.std.specs.Prelude.{is_some}
use Rattle.std.proofs.Common.{Some}
use Rattle.ctw_lex.specs.declared.LexKind.{LexKind}
use Rattle.ctw_lex.specs.declared.LexPlace.{LexPlace}
use Rattle.ctw_lex.specs.Chars.{is_hex, is_string_byte, simple_of}
use Rattle.ctw_lex.specs.Grammar.{IsEscape, simple, byte, scalar, Spells, nothing, itself, escape, IsToken, IsTokens, done, gap, token, line_feeds}
use Rattle.ctw_lex.specs.Faults.{IsOffender, character, backslash, IsFaulty, comment, unclosed, offended, stray, IsFirstFault, here}
use Rattle.ctw_lex.specs.Faults as faults
use Rattle.ctw_lex.proofs.Facts.{both_true, differs}
use Rattle.ctw_lex.specs.Answers.{IsSlice, AreSlices, IsPlaced}
use Rattle.ctw_lex.proofs.Heads.{token_item}
use Rattle.ctw_lex.proofs.Spelling.{take_length, drop_length}

line_feeds-append : (xs ys : List ℕ) → line_feeds (xs ++ ys) ≡ line_feeds xs + line_feeds ys
line_feeds-append [] ys = omega arith
line_feeds-append (x ∷ xs) ys = go (x == 10) (line_feeds-append xs ys)
  where
    go : (t : Bool) → line_feeds (xs ++ ys) ≡ line_feeds xs + line_feeds ys → (if t then 1 + line_feeds (xs ++ ys) else line_feeds (xs ++ ys)) ≡ (if t then 1 + line_feeds xs else line_feeds xs) + line_feeds ys
    go true e = omega arith
    go false e = e

token_slice : (front word rest : List ℕ) (kind : TokenKind) (line : ℕ) → line ≡ 1 + line_feeds front → IsToken kind word rest →
    IsSlice (front ++ (word ++ rest)) (record { kind = kind; text = word; start = length front; end = length front + length word; line = line })
token_slice front word rest kind line e t =
    let h = token_item t in
    let n : length word ≡ suc (length h.more) = ap length h.whole in
    let d : drop (length front) (front ++ (word ++ rest)) ≡ word ++ rest = drop_length front (word ++ rest) in
    let l : length front + length word - length front ≡ length word = omega arith in
    record {
      nonempty = omega arith;
      within = omega (arith, length-append front (word ++ rest), length-append word rest);
      slice = rw (l, d) (sym (take_length word rest));
      line = rw take_length e;
    }

sliced : {at line : ℕ} {text : List ℕ} {ts : List Lexeme} → IsTokens at line text ts → (front : List ℕ) → at ≡ length front → line ≡ 1 + line_feeds front →
    AllByRecursion (IsSlice (front ++ text)) ts
sliced done front a l = tt
sliced (gap {at} {line} {ts} word rest g h) front a l =
    let i : at + length word ≡ length (front ++ word) = omega (arith, length-append front word) in
    let j : line + line_feeds word ≡ 1 + line_feeds (front ++ word) = omega (arith, line_feeds-append front word) in
    subst (λ x. AllByRecursion (IsSlice x) ts) (append_assoc front word rest) (sliced h (front ++ word) i j)
sliced (token {at} {line} {ts} kind word rest t h) front a l =
    let i : at + length word ≡ length (front ++ word) = omega (arith, length-append front word) in
    let j : line + line_feeds word ≡ 1 + line_feeds (front ++ word) = omega (arith, line_feeds-append front word) in
    let k = subst (λ x. AllByRecursion (IsSlice x) ts) (append_assoc front word rest) (sliced h (front ++ word) i j) in
    let s = token_slice front word rest kind line l t in
    (rw a s, k)

-- no token begins before the place that the reading has come to
begins_after : {at line : ℕ} {text : List ℕ} {ts : List Lexeme} → IsTokens at line text ts → (floor : ℕ) → floor ≤ at → AllByRecursion (λ t. floor ≤ t.start) ts
begins_after done floor h = tt
begins_after (gap {at} word rest g k) floor h = begins_after k floor (omega arith)
begins_after (token {at} kind word rest t k) floor h = (h, begins_after k floor (omega arith))

rising : {at line : ℕ} {text : List ℕ} {ts : List Lexeme} → IsTokens at line text ts → AllPairs (λ t u. t.end ≤ u.start) ts
rising done = λ i j d h k. absurd (omega arith)
rising (gap word rest g h) = rising h
rising (token {at} {line} {ts} kind word rest t h) =
    AllPairs-cons (λ t u. t.end ≤ u.start) _ ts (All-from_recursion (λ u. at + length word ≤ u.start) ts (begins_after h (at + length word) (omega arith))) (rising h)

pub are_slices : (text : List ℕ) (ts : List Lexeme) → IsTokens 0 1 text ts → AreSlices text ts
are_slices text ts h = record {
  each = All-from_recursion (IsSlice text) ts (sliced h [] refl (omega arith));
  rising = rising h;
}

-- what may stand in a string has no line feeds

hex_feeds : (w : List ℕ) → list_all is_hex w ≡ true → line_feeds w ≡ 0
hex_feeds [] e = refl
hex_feeds (b ∷ w) e = let h = both_true (is_hex b) (list_all is_hex w) e in rw (differs is_hex b 10 h.0 refl) (hex_feeds w h.1)

simple_isnt_feed : (c v : ℕ) → simple_of c ≡ Some v → (c == 10) ≡ false
simple_isnt_feed c v e = differs (λ c. is_some (simple_of c)) c 10 (ap is_some e) refl

escape_feeds : {word bytes : List ℕ} → IsEscape word bytes → line_feeds word ≡ 0
escape_feeds (simple {c} {v} e) = rw (simple_isnt_feed c v e) refl
escape_feeds (byte {high} {low} e f) = rw (differs is_hex high 10 e refl, differs is_hex low 10 f refl) refl
escape_feeds (scalar first digits a e) = let f : line_feeds ((first ∷ digits) ++ 125 ∷ []) ≡ 0 = line_feeds-append (first ∷ digits) (125 ∷ []) ∙ ap (λ n. n + 0) (hex_feeds (first ∷ digits) a) in f

spelled_feeds : {inside value : List ℕ} → Spells inside value → line_feeds inside ≡ 0
spelled_feeds nothing = refl
spelled_feeds (itself {b} e h) = rw (differs is_string_byte b 10 e refl) (spelled_feeds h)
spelled_feeds (escape {word} {more = more} e h) = omega (arith, line_feeds-append word more, escape_feeds e, spelled_feeds h)

offender_there : {kind : LexKind} {bs : List ℕ} → IsOffender kind bs → 0 < length bs
offender_there (character e f) = omega arith
offender_there (backslash n) = omega arith

-- a fault's place behind the head that it was found at
record IsNear (k : ℕ) (bs : List ℕ) : Type 0 where
  within : k < length bs
  feeds : line_feeds (take k bs) ≡ 0

faulty_near : {kind : LexKind} {k : ℕ} {bs : List ℕ} → IsFaulty kind k bs → IsNear k bs
faulty_near (comment n) = record { within = omega arith; feeds = refl }
faulty_near (unclosed n) = record { within = omega arith; feeds = refl }
faulty_near (offended {front = front} {back = back} rest u s o) =
    let a : (front ++ back) ++ 34 ∷ rest ≡ front ++ (back ++ 34 ∷ rest) = append_assoc front back (34 ∷ rest) in
    let t : take (length front) ((front ++ back) ++ 34 ∷ rest) ≡ front = rw a (take_length front (back ++ 34 ∷ rest)) in
    record {
      within = omega (arith, length-append (front ++ back) (34 ∷ rest), length-append front back, offender_there o);
      feeds = rw t (spelled_feeds s);
    }
faulty_near (stray e) = record { within = omega arith; feeds = refl }

here_placed : (front bs : List ℕ) (k line : ℕ) (kind : LexKind) → line ≡ 1 + line_feeds front → IsNear k bs → IsPlaced (front ++ bs) (record { kind = kind; start = length front + k; line = line })
here_placed front bs k line kind e n =
    let t : take (length front + k) (front ++ bs) ≡ front ++ take k bs = take_more front bs k in
    record {
      within = omega (arith, length-append front bs, n.within);
      line = rw t (omega (arith, line_feeds-append front (take k bs), n.feeds));
    }
  where
    take_more : (xs ys : List ℕ) (k : ℕ) → take (length xs + k) (xs ++ ys) ≡ xs ++ take k ys
    take_more [] ys k = let e : 0 + k ≡ k = omega arith in ap (λ n. take n ys) e
    take_more (x ∷ xs) ys k = let e : suc (length xs) + k ≡ suc (length xs + k) = omega arith in rw e (ap (λ z. x ∷ z) (take_more xs ys k))

placed : {at line : ℕ} {text : List ℕ} {place : LexPlace} → IsFirstFault at line text place → (front : List ℕ) → at ≡ length front → line ≡ 1 + line_feeds front → IsPlaced (front ++ text) place
placed (here {at} {line} {k} {kind} {bs} f) front a l = rw a (here_placed front bs k line kind l (faulty_near f))
placed (faults.gap {at} {line} {place} word rest g h) front a l =
    let i : at + length word ≡ length (front ++ word) = omega (arith, length-append front word) in
    let j : line + line_feeds word ≡ 1 + line_feeds (front ++ word) = omega (arith, line_feeds-append front word) in
    subst (λ x. IsPlaced x place) (append_assoc front word rest) (placed h (front ++ word) i j)
placed (faults.token {at} {line} {place} kind word rest t h) front a l =
    let i : at + length word ≡ length (front ++ word) = omega (arith, length-append front word) in
    let j : line + line_feeds word ≡ 1 + line_feeds (front ++ word) = omega (arith, line_feeds-append front word) in
    subst (λ x. IsPlaced x place) (append_assoc front word rest) (placed h (front ++ word) i j)

pub is_placed : (text : List ℕ) (place : LexPlace) → IsFirstFault 0 1 text place → IsPlaced text place
is_placed text place h = placed h [] refl (omega arith)
