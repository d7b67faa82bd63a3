-- The tokens of a text are those of its grammar.
use Rattle.std.proofs.Common.{◌≡◌, ℕ, zero, suc, ◌+◌, ◌<◌, ◌≤◌, Bool, true, false, List, [], ◌∷◌, ◌++◌, Result, Ok, Err, length, take, drop, refl, ap, ◌∙◌, subst, arith}
use Rattle.std.specs.Prelude.{◌==◌, if◌then◌else◌, ◌↔◌}
use Rattle.std.proofs.Math.Seq.{drop-nil}
use Rattle.std.proofs.lemmas.List.{length-take, take-append-drop}
use Rattle.ctw_lex.specs.declared.LexKind.{LexKind}
use Rattle.ctw_lex.specs.declared.LexPlace.{LexPlace}
use Rattle.ctw_lex.specs.declared.TokenKind.{TokenKind}
use Rattle.ctw_lex.specs.declared.items.Item.{Item}
use Rattle.ctw_lex.specs.declared.items.Item.TheVariants.{Gap, Spelled, Faulty}
use Rattle.ctw_lex.specs.Lexeme.{Lexeme}
use Rattle.ctw_lex.specs.Strings.{with_front}
use Rattle.ctw_lex.specs.Items.{item}
use Rattle.ctw_lex.specs.Tokens.{tokens_from, tokens_of, onto}
use Rattle.ctw_lex.specs.Grammar.{IsGap, IsToken, IsTokens, done, gap, token, line_feeds}
use Rattle.ctw_lex.specs.Faults.{IsFirstFault, here}
use Rattle.ctw_lex.specs.Faults as faults
use Rattle.ctw_lex.proofs.Heads.{IsHead, token_item, gap_item, faulty_item, item_form}

abbrev next_line : ℕ → ℕ → ℕ
next_line line b = if b == 10 then line + 1 else line

feeds_on : (line b : ℕ) (bs : List ℕ) → next_line line b + line_feeds bs ≡ line + line_feeds (b ∷ bs)
feeds_on line b bs = go (b == 10)
  where
    go : (t : Bool) → (if t then line + 1 else line) + line_feeds bs ≡ line + (if t then 1 + line_feeds bs else line_feeds bs)
    go true = omega arith
    go false = refl

reading_on : (w rest : List ℕ) (at line : ℕ) → tokens_from (length w) at line (w ++ rest) ≡ tokens_from 0 (at + length w) (line + line_feeds w) rest
reading_on [] rest at line =
    let a : at ≡ at + 0 = omega arith in
    let l : line ≡ line + 0 = omega arith in
    ap (λ i. tokens_from 0 i line rest) a ∙ ap (λ i. tokens_from 0 (at + 0) i rest) l
reading_on (b ∷ w) rest at line =
    let a : at + 1 + length w ≡ at + suc (length w) = omega arith in
    reading_on w rest (at + 1) (next_line line b) ∙ (ap (λ i. tokens_from 0 i (next_line line b + line_feeds w) rest) a ∙ ap (λ i. tokens_from 0 (at + suc (length w)) i rest) (feeds_on line b w))

-- reading on behind the first byte of a word
behind_first : (b : ℕ) (w rest : List ℕ) (at line : ℕ) → tokens_from (length w) (at + 1) (next_line line b) (w ++ rest) ≡ tokens_from 0 (at + length (b ∷ w)) (line + line_feeds (b ∷ w)) rest
behind_first b w rest at line = reading_on (b ∷ w) rest at line

gap_read : (at line : ℕ) {ts : List Lexeme} (word rest : List ℕ) → IsHead word rest Gap → tokens_from 0 (at + length word) (line + line_feeds word) rest ≡ Ok ts → tokens_from 0 at line (word ++ rest) ≡ Ok ts
gap_read at line word rest h e =
    let b = h.first in
    let w = h.more in
    let f = ap (λ i. onto i (b ∷ (w ++ rest)) at line (λ k. tokens_from k (at + 1) (next_line line b) (w ++ rest))) h.found in
    let g = rw h.whole at e in
    rw h.whole (f ∙ (behind_first b w rest at line ∙ g))

take_length : (xs ys : List ℕ) → take (length xs) (xs ++ ys) ≡ xs
take_length [] ys = refl
take_length (x ∷ xs) ys = ap (λ z. x ∷ z) (take_length xs ys)

token_read : (at line : ℕ) {ts : List Lexeme} (kind : TokenKind) (word rest : List ℕ) → IsHead word rest (Spelled kind) → tokens_from 0 (at + length word) (line + line_feeds word) rest ≡ Ok ts →
    tokens_from 0 at line (word ++ rest) ≡ Ok (record { kind = kind; text = word; start = at; end = at + length word; line = line } ∷ ts)
token_read at line {ts} kind word rest h e =
    let b = h.first in
    let w = h.more in
    let f = ap (λ i. onto i (b ∷ (w ++ rest)) at line (λ k. tokens_from k (at + 1) (next_line line b) (w ++ rest))) h.found in
    let g = behind_first b w rest at line ∙ (rw h.whole at e) in
    let n : at + 1 + length w ≡ at + suc (length w) = omega arith in
    rw h.whole (f ∙ rw (g, take_length w rest, n) refl)

-- an item of this form passes a fault on
record IsPassed (make : ℕ → Item) : Type 0 where
  passes : (n : ℕ) (bs : List ℕ) (at line : ℕ) (rest : ℕ → Result (List Lexeme) LexPlace) (place : LexPlace) → rest n ≡ Err place → onto (make n) bs at line rest ≡ Err place

gap_passed : IsPassed Gap
gap_passed = record { passes = λ n bs at line rest place e. e }

token_passed : (kind : TokenKind) → IsPassed (Spelled kind)
token_passed kind = record { passes = λ n bs at line rest place e. rw e refl }

-- what the grammar gives is read
pub listed_read : {at line : ℕ} {text : List ℕ} {ts : List Lexeme} → IsTokens at line text ts → tokens_from 0 at line text ≡ Ok ts
listed_read done = refl
listed_read (gap {at} {line} word rest g h) = gap_read at line word rest (gap_item g) (listed_read h)
listed_read (token {at} {line} kind word rest t h) = token_read at line kind word rest (token_item t) (listed_read h)

broken_read : (at line : ℕ) {place : LexPlace} (word rest : List ℕ) (make : ℕ → Item) → IsHead word rest make → IsPassed make → tokens_from 0 (at + length word) (line + line_feeds word) rest ≡ Err place → tokens_from 0 at line (word ++ rest) ≡ Err place
broken_read at line {place} word rest make h p e =
    let b = h.first in
    let w = h.more in
    let f = ap (λ i. onto i (b ∷ (w ++ rest)) at line (λ k. tokens_from k (at + 1) (next_line line b) (w ++ rest))) h.found in
    let g = behind_first b w rest at line ∙ (rw h.whole at e) in
    rw h.whole (f ∙ p.passes (length w) (b ∷ (w ++ rest)) at line (λ k. tokens_from k (at + 1) (next_line line b) (w ++ rest)) place g)

faulty_read : (at line k : ℕ) (kind : LexKind) (bs : List ℕ) → item bs ≡ Faulty kind k → tokens_from 0 at line bs ≡ Err (record { kind = kind; start = at + k; line = line })
faulty_read at line k kind [] e = absurd (cc)
faulty_read at line k kind (b ∷ bs) e = ap (λ i. onto i (b ∷ bs) at line (λ k. tokens_from k (at + 1) (next_line line b) bs)) e

-- the first fault by the grammar is read
pub broken_first : {at line : ℕ} {text : List ℕ} {place : LexPlace} → IsFirstFault at line text place → tokens_from 0 at line text ≡ Err place
broken_first (here {at} {line} {k} {kind} {bs} f) = faulty_read at line k kind bs (faulty_item f)
broken_first (faults.gap {at} {line} word rest g h) = broken_read at line word rest Gap (gap_item g) gap_passed (broken_first h)
broken_first (faults.token {at} {line} kind word rest t h) = broken_read at line word rest (Spelled kind) (token_item t) (token_passed kind) (broken_first h)

-- what a reading says of a text
abbrev pub IsListed : Result (List Lexeme) LexPlace → (at line : ℕ) → List ℕ → Type 0
IsListed (Ok ts) at line text = IsTokens at line text ts
IsListed (Err place) at line text = IsFirstFault at line text place

record IsSound (bs : List ℕ) : Type 0 where
  lists : (skip at line : ℕ) → skip ≤ length bs → IsListed (tokens_from skip at line bs) (at + skip) (line + line_feeds (take skip bs)) (drop skip bs)

rejoin : (b n : ℕ) (bs : List ℕ) → (b ∷ take n bs) ++ drop n bs ≡ b ∷ bs
rejoin b n bs = ap (λ z. b ∷ z) (take-append-drop n bs)

-- what stands behind the word that ends `n` bytes behind its first one
behind : (at line b n : ℕ) (bs : List ℕ) → n < length (b ∷ bs) → IsSound bs →
    IsListed (tokens_from n (at + 1) (next_line line b) bs) (at + length (b ∷ take n bs)) (line + line_feeds (b ∷ take n bs)) (drop n bs)
behind at line b n bs w s =
    let h = s.lists n (at + 1) (next_line line b) (omega arith) in
    let a : at + 1 + n ≡ at + length (b ∷ take n bs) = omega (arith, length-take n bs) in
    rw (← a, ← feeds_on line b (take n bs)) h

gap_on : (at line : ℕ) (word rest : List ℕ) (r : Result (List Lexeme) LexPlace) → IsGap word rest → IsListed r (at + length word) (line + line_feeds word) rest → IsListed r at line (word ++ rest)
gap_on at line word rest (Ok ts) g h = gap word rest g h
gap_on at line word rest (Err place) g h = faults.gap word rest g h

token_on : (at line end : ℕ) (kind : TokenKind) (word rest : List ℕ) (r : Result (List Lexeme) LexPlace) → end ≡ at + length word → IsToken kind word rest → IsListed r (at + length word) (line + line_feeds word) rest →
    IsListed (with_front (record { kind = kind; text = word; start = at; end = end; line = line } ∷ []) r) at line (word ++ rest)
token_on at line end kind word rest (Ok ts) e t h = rw e (token kind word rest t h)
token_on at line end kind word rest (Err place) e t h = faults.token kind word rest t h

sound_item : (at line b : ℕ) (bs : List ℕ) (i : Item) → item (b ∷ bs) ≡ i → IsSound bs → IsListed (onto i (b ∷ bs) at line (λ k. tokens_from k (at + 1) (next_line line b) bs)) at line (b ∷ bs)
sound_item at line b bs (Gap n) f s =
    let h = item_form b bs (Gap n) f in
    let r = tokens_from n (at + 1) (next_line line b) bs in
    subst (λ z. IsListed r at line z) (rejoin b n bs) (gap_on at line (b ∷ take n bs) (drop n bs) r h.1 (behind at line b n bs h.0 s))
sound_item at line b bs (Spelled kind n) f s =
    let h = item_form b bs (Spelled kind n) f in
    let r = tokens_from n (at + 1) (next_line line b) bs in
    let l : at + 1 + n ≡ at + length (b ∷ take n bs) = omega (arith, length-take n bs) in
    let front : List Lexeme = record { kind = kind; text = b ∷ take n bs; start = at; end = at + 1 + n; line = line } ∷ [] in
    subst (λ z. IsListed (with_front front r) at line z) (rejoin b n bs) (token_on at line (at + 1 + n) kind (b ∷ take n bs) (drop n bs) r l h.1 (behind at line b n bs h.0 s))
sound_item at line b bs (Faulty kind n) f s = here (item_form b bs (Faulty kind n) f)

sound : (bs : List ℕ) → IsSound bs
sound [] = record { lists = λ skip at line h. rw drop-nil done }
sound (b ∷ bs) = let s = sound bs in record { lists = λ skip at line h. go skip at line s h }
  where
    go : (skip at line : ℕ) → IsSound bs → skip ≤ length (b ∷ bs) → IsListed (tokens_from skip at line (b ∷ bs)) (at + skip) (line + line_feeds (take skip (b ∷ bs))) (drop skip (b ∷ bs))
    go zero at line s h =
        let a : at ≡ at + 0 = omega arith in
        let l : line ≡ line + 0 = omega arith in
        rw (← a, ← l) (sound_item at line b bs (item (b ∷ bs)) refl s)
    go (suc k) at line s h =
        let i = s.lists k (at + 1) (next_line line b) (omega arith) in
        let a : at + 1 + k ≡ at + suc k = omega arith in
        rw (← a, ← feeds_on line b (take k bs)) i

-- what is read is what the grammar gives
pub read_listed : (text : List ℕ) → IsListed (tokens_of text) 0 1 text
read_listed text = (sound text).lists 0 0 1 (omega arith)

-- a text has the tokens that are read, and no others
pub tokens_exact : (text : List ℕ) (ts : List Lexeme) → IsTokens 0 1 text ts ↔ (tokens_of text ≡ Ok ts)
tokens_exact text ts = (λ h. listed_read h, λ e. rw e at (read_listed text))

-- a text has the first fault that is read, and no other
pub fault_exact : (text : List ℕ) (place : LexPlace) → IsFirstFault 0 1 text place ↔ (tokens_of text ≡ Err place)
fault_exact text place = (λ h. broken_first h, λ e. rw e at (read_listed text))
