-- What stands at the head of a text, and its grammar.
use Rattle.std.proofs.Common.{◌≡◌, ℕ, suc, ◌+◌, ◌<◌, Bool, true, false, cond, List, [], ◌∷◌, ◌++◌, Option, Some, None, Result, Ok, Err, length, take, drop, length-append, append_assoc, one-add, refl, ap, sym, ◌∙◌, subst, arith}
use Rattle.std.specs.Prelude.{◌&&◌, ◌==◌, not, slice_index, if◌then◌else◌}
use Rattle.std.specs.List.{prefix_len, list_all}
use Rattle.std.proofs.lemmas.List.{take-append-drop}
use Rattle.std.proofs.lemmas.Bool.{eqb-true}
use Rattle.ctw_lex.specs.declared.LexKind.{LexKind}
use Rattle.ctw_lex.specs.declared.LexKind.TheVariants.{BadChar, OpenComment, OpenString}
use Rattle.ctw_lex.specs.declared.TokenKind.{TokenKind}
use Rattle.ctw_lex.specs.declared.TokenKind.TheVariants.{Left, Right, Atom, Text}
use Rattle.ctw_lex.specs.declared.items.Item.{Item}
use Rattle.ctw_lex.specs.declared.items.Item.TheVariants.{Gap, Spelled, Faulty}
use Rattle.ctw_lex.specs.Chars.{is_blank, is_atom_byte}
use Rattle.ctw_lex.specs.Strings.{string_len, contents, with_front, Fault}
use Rattle.ctw_lex.specs.Items.{item, comment_len, comment_at, string_at, content_at}
use Rattle.ctw_lex.specs.Faults.{IsUnclosed, IsOffender, IsFaulty, comment, unclosed, offended, stray, may_begin}
use Rattle.ctw_lex.specs.Grammar.{IsInside, IsRun, begins, IsGap, blank, line, block, Spells, quoted, IsToken, left, right, atom, string}
use Rattle.ctw_lex.proofs.Facts.{both_true, differs, none_some, any_false, all_false}
use Rattle.ctw_lex.proofs.Runs.{prefix_len-append, has_run}
use Rattle.ctw_lex.proofs.Comments.{comment_len-inside, inside-comment_len, comment_fits}
use Rattle.ctw_lex.proofs.Quotes.{spelled_len, unclosed_len, len_unclosed, quote_at}
use Rattle.ctw_lex.proofs.Spelling.{spelled_contents, spelled_whole, offender_contents, contents_offended, take_length, cut_at, string_cut}

-- the word's item, by the word's first byte and how many stand behind it
pub record IsHead (word rest : List ℕ) (make : ℕ → Item) : Type 0 where
  pub first : ℕ
  pub more : List ℕ
  pub whole : word ≡ first ∷ more
  pub found : item (first ∷ (more ++ rest)) ≡ make (length more)

no_semicolon : (rest : List ℕ) → begins (λ b. b == 59) rest ≡ false → (slice_index rest 0 == 59) ≡ false
no_semicolon [] e = refl
no_semicolon (b ∷ bs) e = e

atom_item : (first : ℕ) (run rest : List ℕ) → IsRun is_atom_byte (first ∷ run) rest → item (first ∷ (run ++ rest)) ≡ Spelled Atom (length run)
atom_item first run rest r =
    let h = both_true (is_atom_byte first) (list_all is_atom_byte run) r.passes in
    let p = prefix_len-append is_atom_byte run rest h.1 r.ends in
    let d : (k : ℕ) → is_atom_byte k ≡ false → (first == k) ≡ false = λ k e. differs is_atom_byte first k h.0 e in
    rw (h.0, p, d 32 refl, d 9 refl, d 13 refl, d 10 refl, d 40 refl, d 41 refl, d 34 refl, d 59 refl) refl

string_item : {inside value : List ℕ} → Spells inside value → (rest : List ℕ) → item (34 ∷ ((inside ++ 34 ∷ []) ++ rest)) ≡ Spelled Text (length (inside ++ 34 ∷ []))
string_item {inside} {value} s rest =
    let l : suc (length inside) ≡ length (inside ++ 34 ∷ []) = omega (arith, length-append inside (34 ∷ [])) in
    let a : (inside ++ 34 ∷ []) ++ rest ≡ inside ++ 34 ∷ rest = append_assoc inside (34 ∷ []) rest in
    rw (a, spelled_len s rest, take_length inside (34 ∷ rest), spelled_whole s 1) (ap (Spelled Text) l)

pub token_item : {kind : TokenKind} {word rest : List ℕ} → IsToken kind word rest → IsHead word rest (Spelled kind)
token_item (left {rest} e) = record { first = 40; more = []; whole = refl; found = rw (no_semicolon rest e) refl }
token_item (right) = record { first = 41; more = []; whole = refl; found = refl }
token_item (atom {first} {run} {rest} r) = record { first = first; more = run; whole = refl; found = atom_item first run rest r }
token_item (string {rest = rest} (quoted {inside} s)) = record { first = 34; more = inside ++ 34 ∷ []; whole = refl; found = string_item s rest }

pub gap_item : {word rest : List ℕ} → IsGap word rest → IsHead word rest Gap
gap_item (blank {b} e) = record { first = b; more = []; whole = refl; found = rw e refl }
gap_item (line {run} {rest} r) =
    let p = prefix_len-append (λ b. not (b == 10)) run rest r.passes r.ends in
    record { first = 59; more = 59 ∷ run; whole = refl; found = rw (p, one-add) refl }
gap_item (block {inside} {rest} i) = record { first = 40; more = 59 ∷ inside; whole = refl; found = rw (comment_len-inside inside rest i) refl }

-- what an item says of the bytes that it was found at
abbrev pub FormOf : List ℕ → Item → Type 0
FormOf bs (Gap n) = (n < length bs) × IsGap (take (suc n) bs) (drop (suc n) bs)
FormOf bs (Spelled kind n) = (n < length bs) × IsToken kind (take (suc n) bs) (drop (suc n) bs)
FormOf bs (Faulty kind n) = IsFaulty kind n bs

-- `FormOf` as a record, so that its item is found from it
record HasForm (bs : List ℕ) (i : Item) : Type 0 where
  form : FormOf bs i

pick : {bs : List ℕ} {t : Bool} {x y : Item} → (t ≡ true → HasForm bs x) → (t ≡ false → HasForm bs y) → HasForm bs (cond t x y)
pick {t = true} f g = f refl
pick {t = false} f g = g refl

atom_form : (b : ℕ) (bs : List ℕ) → is_atom_byte b ≡ true → HasForm (b ∷ bs) (Spelled Atom (prefix_len is_atom_byte bs))
atom_form b bs e =
    let r = has_run is_atom_byte bs in
    let p : list_all is_atom_byte (b ∷ take (prefix_len is_atom_byte bs) bs) ≡ true = rw e r.passes in
    let i : IsRun is_atom_byte (b ∷ take (prefix_len is_atom_byte bs) bs) (drop (prefix_len is_atom_byte bs) bs) = record { passes = p; ends = r.ends } in
    let w : prefix_len is_atom_byte bs < length (b ∷ bs) = omega (arith, r.within) in
    record { form = (w, atom i) }

line_form : (b : ℕ) (bs : List ℕ) → b ≡ 59 → slice_index bs 0 ≡ 59 → HasForm (b ∷ bs) (Gap (prefix_len (λ c. not (c == 10)) bs))
line_form b [] e f = absurd (omega arith)
line_form b (c ∷ cs) e f =
    let r = has_run (λ c. not (c == 10)) cs in
    let i : IsRun (λ c. not (c == 10)) (take (prefix_len (λ c. not (c == 10)) cs) cs) (drop (prefix_len (λ c. not (c == 10)) cs) cs) = record { passes = r.passes; ends = r.ends } in
    let w : suc (prefix_len (λ c. not (c == 10)) cs) < length (b ∷ c ∷ cs) = omega (arith, r.within) in
    let g : c ≡ 59 = f in
    rw (e, g, one-add) (record { form = (w, line i) })

block_form : (b : ℕ) (bs : List ℕ) (o : Option ℕ) → b ≡ 40 → slice_index bs 0 ≡ 59 → comment_len 0 0 (drop 1 bs) ≡ o → HasForm (b ∷ bs) (comment_at o)
block_form b [] o e f h = absurd (omega arith)
block_form b (c ∷ cs) None e f h =
    let g : c ≡ 59 = f in
    rw (e, g) (record { form = comment (λ inside rest i w. none_some (sym h ∙ (ap (comment_len 0 0) w ∙ comment_len-inside inside rest i))) })
block_form b (c ∷ cs) (Some n) e f h =
    let fits = comment_fits cs 0 0 n h in
    let w : suc n < length (b ∷ c ∷ cs) = omega arith in
    let g : c ≡ 59 = f in
    rw (e, g) (record { form = (w, block (inside-comment_len cs n h)) })

content_form : (bs : List ℕ) (n : ℕ) (r : Result (List ℕ) Fault) → string_len false bs ≡ Some n → contents 0 1 (take n bs) ≡ r → HasForm (34 ∷ bs) (content_at n r)
content_form bs n (Ok value) e f =
    let q = quote_at false bs n e in
    let w : suc n < length (34 ∷ bs) = omega arith in
    record { form = (w, string (string_cut bs value n e f)) }
content_form bs n (Err x) e f =
    let q = quote_at false bs n e in
    let o = contents_offended (take n bs) x 1 f in
    let w : bs ≡ (o.front ++ o.back) ++ 34 ∷ drop (suc n) bs = cut_at bs n 34 q.1 q.0 ∙ ap (λ z. z ++ 34 ∷ drop (suc n) bs) o.whole in
    let u : IsUnclosed (o.front ++ o.back) = subst IsUnclosed o.whole (len_unclosed bs n e) in
    let p : x.start ≡ suc (length o.front) = rw one-add at o.place in
    let i : IsFaulty x.kind (suc (length o.front)) (34 ∷ ((o.front ++ o.back) ++ 34 ∷ drop (suc n) bs)) = offended (drop (suc n) bs) u o.spelled o.offends in
    record { form = subst (λ k. IsFaulty x.kind k (34 ∷ bs)) (sym p) (subst (λ z. IsFaulty x.kind (suc (length o.front)) (34 ∷ z)) (sym w) i) }

string_form : (b : ℕ) (bs : List ℕ) (o : Option ℕ) → b ≡ 34 → string_len false bs ≡ o → HasForm (b ∷ bs) (string_at bs o)
string_form b bs None e f = rw e (record { form = unclosed (λ inside rest u w. none_some (sym f ∙ (ap (string_len false) w ∙ unclosed_len u rest))) })
string_form b bs (Some n) e f = rw e (content_form bs n (contents 0 1 (take n bs)) f refl)

left_form : (b : ℕ) (bs : List ℕ) → b ≡ 40 → (slice_index bs 0 == 59) ≡ false → HasForm (b ∷ bs) (Spelled Left 0)
left_form b [] e f = rw e (let w : 0 < length {A = ℕ} (40 ∷ []) = omega arith in record { form = (w, left refl) })
left_form b (c ∷ cs) e f = rw e (let w : 0 < length (40 ∷ c ∷ cs) = omega arith in record { form = (w, left f) })

right_form : (b : ℕ) (bs : List ℕ) → b ≡ 41 → HasForm (b ∷ bs) (Spelled Right 0)
right_form b bs e = rw e (let w : 0 < length (41 ∷ bs) = omega arith in record { form = (w, right) })

blank_form : (b : ℕ) (bs : List ℕ) → is_blank b ≡ true → HasForm (b ∷ bs) (Gap 0)
blank_form b bs e = let w : 0 < length (b ∷ bs) = omega arith in record { form = (w, blank e) }

stray_form : (b : ℕ) (bs : List ℕ) → is_blank b ≡ false → (b == 40) ≡ false → (b == 41) ≡ false → (b == 34) ≡ false → (b == 59 && slice_index bs 0 == 59) ≡ false → is_atom_byte b ≡ false → HasForm (b ∷ bs) (Faulty BadChar 0)
stray_form b bs e f g h i j = record { form = stray (any_false (is_blank b) (is_atom_byte b) (b == 40) (b == 41) (b == 34) (b == 59 && slice_index bs 0 == 59) e j f g h i) }

atoms_form : (b : ℕ) (bs : List ℕ) → is_blank b ≡ false → (b == 40) ≡ false → (b == 41) ≡ false → (b == 34) ≡ false → (b == 59 && slice_index bs 0 == 59) ≡ false →
    HasForm (b ∷ bs) (if is_atom_byte b then Spelled Atom (prefix_len is_atom_byte bs) else Faulty BadChar 0)
atoms_form b bs e f g h i =
    pick {t = is_atom_byte b} {x = Spelled Atom (prefix_len is_atom_byte bs)} {y = Faulty BadChar 0} (λ j. atom_form b bs j) (λ j. stray_form b bs e f g h i j)

lines_form : (b : ℕ) (bs : List ℕ) (other : Item) → ((b == 59 && slice_index bs 0 == 59) ≡ false → HasForm (b ∷ bs) other) →
    HasForm (b ∷ bs) (if b == 59 && slice_index bs 0 == 59 then Gap (prefix_len (λ c. not (c == 10)) bs) else other)
lines_form b bs other f =
    pick {t = b == 59 && slice_index bs 0 == 59} {x = Gap (prefix_len (λ c. not (c == 10)) bs)} {y = other}
    (λ e. let h = both_true (b == 59) (slice_index bs 0 == 59) e in line_form b bs (eqb-true b 59 h.0) (eqb-true (slice_index bs 0) 59 h.1)) f

opens_form : (b : ℕ) (bs : List ℕ) → b ≡ 40 → HasForm (b ∷ bs) (if slice_index bs 0 == 59 then comment_at (comment_len 0 0 (drop 1 bs)) else Spelled Left 0)
opens_form b bs e =
    pick {t = slice_index bs 0 == 59} {x = comment_at (comment_len 0 0 (drop 1 bs))} {y = Spelled Left 0}
    (λ m. block_form b bs (comment_len 0 0 (drop 1 bs)) e (eqb-true (slice_index bs 0) 59 m) refl) (λ m. left_form b bs e m)

has_form : (b : ℕ) (bs : List ℕ) → HasForm (b ∷ bs) (item (b ∷ bs))
has_form b bs =
    let atoms : Item = if is_atom_byte b then Spelled Atom (prefix_len is_atom_byte bs) else Faulty BadChar 0 in
    let lines : Item = if b == 59 && slice_index bs 0 == 59 then Gap (prefix_len (λ c. not (c == 10)) bs) else atoms in
    let strings : Item = if b == 34 then string_at bs (string_len false bs) else lines in
    let rights : Item = if b == 41 then Spelled Right 0 else strings in
    let lefts : Item = if slice_index bs 0 == 59 then comment_at (comment_len 0 0 (drop 1 bs)) else Spelled Left 0 in
    let opens : Item = if b == 40 then lefts else rights in
    pick {t = is_blank b} {x = Gap 0} {y = opens} (λ e. blank_form b bs e) (λ e.
    pick {t = b == 40} {x = lefts} {y = rights} (λ f. opens_form b bs (eqb-true b 40 f)) (λ f.
    pick {t = b == 41} {x = Spelled Right 0} {y = strings} (λ g. right_form b bs (eqb-true b 41 g)) (λ g.
    pick {t = b == 34} {x = string_at bs (string_len false bs)} {y = lines} (λ h. string_form b bs (string_len false bs) (eqb-true b 34 h) refl) (λ h.
    lines_form b bs atoms (λ i. atoms_form b bs e f g h i)))))

pub item_form : (b : ℕ) (bs : List ℕ) (i : Item) → item (b ∷ bs) ≡ i → FormOf (b ∷ bs) i
item_form b bs i e = (subst (λ (i : Item). HasForm (b ∷ bs) i) e (has_form b bs)).form

-- what is faulty is a fault

open_comment : (bs : List ℕ) → ((inside rest : List ℕ) → IsInside inside → ¬ (bs ≡ inside ++ rest)) → (o : Option ℕ) → comment_len 0 0 bs ≡ o → comment_at o ≡ Faulty OpenComment 0
open_comment bs none None e = refl
open_comment bs none (Some n) e = absurd (none (take n bs) (drop n bs) (inside-comment_len bs n e) (sym (take-append-drop n bs)))

open_string : (bs : List ℕ) → ((inside rest : List ℕ) → IsUnclosed inside → ¬ (bs ≡ inside ++ 34 ∷ rest)) → (o : Option ℕ) → string_len false bs ≡ o → string_at bs o ≡ Faulty OpenString 0
open_string bs none None e = refl
open_string bs none (Some n) e = let q = quote_at false bs n e in absurd (none (take n bs) (drop (suc n) bs) (len_unclosed bs n e) (cut_at bs n 34 q.1 q.0))

offended_item : (kind : LexKind) (front value back rest : List ℕ) → IsUnclosed (front ++ back) → Spells front value → IsOffender kind back → item (34 ∷ ((front ++ back) ++ 34 ∷ rest)) ≡ Faulty kind (suc (length front))
offended_item kind front value back rest u s o =
    let c : contents 0 1 (front ++ back) ≡ Err (record { kind = kind; start = 1 + length front }) = spelled_contents s back 1 ∙ ap (with_front value) (offender_contents o (1 + length front)) in
    rw (unclosed_len u rest, take_length (front ++ back) (34 ∷ rest), c) (ap (Faulty kind) (one-add (length front)))

stray_item : (b : ℕ) (bs : List ℕ) → may_begin b bs ≡ false → item (b ∷ bs) ≡ Faulty BadChar 0
stray_item b bs e =
    let h = all_false (is_blank b) (is_atom_byte b) (b == 40) (b == 41) (b == 34) (b == 59 && slice_index bs 0 == 59) e in
    rw (h.1, h.0, h.2, h.3, h.4, h.5) refl

pub faulty_item : {kind : LexKind} {k : ℕ} {bs : List ℕ} → IsFaulty kind k bs → item bs ≡ Faulty kind k
faulty_item (comment {bs} none) = open_comment bs none (comment_len 0 0 bs) refl
faulty_item (unclosed {bs} none) = open_string bs none (string_len false bs) refl
faulty_item (offended {kind} {front} {value} {back} rest u s o) = offended_item kind front value back rest u s o
faulty_item (stray {b} {bs} e) = stray_item b bs e
