-- What a string stands for, and its grammar.
use Rattle.std.proofs.Common.{◌≡◌, ℕ, zero, suc, ◌+◌, ◌*◌, ◌-◌, ◌<◌, ◌≤◌, ◌⊎◌, inl, inr, Bool, true, false, List, [], ◌∷◌, ◌++◌, Option, Some, None, Result, Ok, Err, length, take, drop, get_or, length-append, append_assoc, append-nil, add-one, refl, ap, sym, ◌∙◌, subst, arith}
use Rattle.std.specs.Prelude.{option_map, ◌&&◌, ◌==◌, nat_lt, slice_index, encode_utf8, if◌then◌else◌}
use Rattle.std.specs.List.{prefix_len, list_all}
use Rattle.std.specs.Option.{option_or}
use Rattle.std.specs.Result.{result_ok}
use Rattle.std.proofs.Math.Seq.{drop-nil}
use Rattle.std.proofs.lemmas.List.{take_all, length-take-le}
use Rattle.std.proofs.lemmas.Bool.{false≢true, eqb-true, ltb-true}
use Rattle.std.proofs.lemmas.Bool.Decides.{nat_tests}
use Rattle.ctw_lex.specs.declared.LexKind.{LexKind}
use Rattle.ctw_lex.specs.declared.LexKind.TheVariants.{BadChar, BadEscape}
use Rattle.ctw_lex.specs.Chars.{is_string_byte, is_hex, hex_value, is_scalar, simple_of, number_of}
use Rattle.ctw_lex.specs.Strings.{string_len, contents, escape_of, byte_of, scalar_of, string_value, value_up_to, Meaning, Fault, with_front, escaped}
use Rattle.ctw_lex.specs.Grammar.{IsEscape, simple, byte, scalar, Spells, nothing, itself, escape, IsString, quoted}
use Rattle.ctw_lex.specs.Faults.{IsOffender, character, backslash}
use Rattle.ctw_lex.proofs.Runs.{prefix_len-append, has_run}
use Rattle.ctw_lex.proofs.Quotes.{spelled_len, quote_at}
use Rattle.ctw_lex.proofs.Steps.{front_front}
use Rattle.ctw_lex.proofs.Facts.{both_true, differs, some_same, none_some, mapped_some}

hex_isnt_simple : (b : ℕ) → is_hex b ≡ true → simple_of b ≡ None
hex_isnt_simple b e =
    rw (differs is_hex b 116 e refl, differs is_hex b 110 e refl, differs is_hex b 114 e refl, differs is_hex b 34 e refl, differs is_hex b 39 e refl, differs is_hex b 92 e refl) refl

pub take_length : (xs ys : List ℕ) → take (length xs) (xs ++ ys) ≡ xs
take_length [] ys = refl
take_length (x ∷ xs) ys = ap (λ z. x ∷ z) (take_length xs ys)

pub get_length : (xs ys : List ℕ) (y : ℕ) → get_or (xs ++ y ∷ ys) (length xs) 0 ≡ y
get_length [] ys y = refl
get_length (x ∷ xs) ys y = get_length xs ys y

positive : (n : ℕ) → nat_lt 0 (suc n) ≡ true
positive n = grind (arith, nat_tests)

scalar_found : (first : ℕ) (digits more : List ℕ) → list_all is_hex (first ∷ digits) ≡ true → is_scalar (number_of (first ∷ digits)) ≡ true →
    escape_of (117 ∷ 123 ∷ first ∷ (digits ++ 125 ∷ more)) ≡ Some (record { len = length (first ∷ digits) + 3; bytes = encode_utf8 (number_of (first ∷ digits)) })
scalar_found first digits more a e =
    let p : prefix_len is_hex (first ∷ (digits ++ 125 ∷ more)) ≡ suc (length digits) = prefix_len-append is_hex (first ∷ digits) (125 ∷ more) a refl in
    let t : take (suc (length digits)) (first ∷ (digits ++ 125 ∷ more)) ≡ first ∷ digits = take_length (first ∷ digits) (125 ∷ more) in
    let g : get_or (123 ∷ first ∷ (digits ++ 125 ∷ more)) (suc (length digits) + 1) 0 ≡ 125 = rw add-one (get_length (first ∷ digits) more 125) in
    rw (p, t, g, e, positive (length digits)) refl

-- an escape that is spelled is found
pub escape_found : {word bytes : List ℕ} → IsEscape word bytes → (rest : List ℕ) → escape_of (word ++ rest) ≡ Some (record { len = length word; bytes = bytes })
escape_found (simple e) rest = rw e refl
escape_found (byte {high} {low} e f) rest = rw (hex_isnt_simple high e, e, f) refl
escape_found (scalar first digits a e) rest =
    let r : first ∷ ((digits ++ 125 ∷ []) ++ rest) ≡ first ∷ (digits ++ 125 ∷ rest) = ap (λ x. first ∷ x) (append_assoc digits (125 ∷ []) rest) in
    let l : length (first ∷ digits) + 3 ≡ length (117 ∷ 123 ∷ first ∷ (digits ++ 125 ∷ [])) = omega (arith, length-append digits (125 ∷ [])) in
    let m = ap (λ (n : ℕ). let m : Meaning = record { len = n; bytes = encode_utf8 (number_of (first ∷ digits)) } in Some m) l in
    ap (λ x. escape_of (117 ∷ 123 ∷ x)) r ∙ (scalar_found first digits rest a e ∙ m)

-- reading on behind an escape
contents_skip : (w rest : List ℕ) (at : ℕ) → contents (length w) at (w ++ rest) ≡ contents 0 (at + length w) rest
contents_skip [] rest at = let e : at ≡ at + 0 = omega arith in ap (λ i. contents 0 i rest) e
contents_skip (b ∷ w) rest at = let e : at + 1 + length w ≡ at + suc (length w) = omega arith in contents_skip w rest (at + 1) ∙ ap (λ i. contents 0 i rest) e

no_front : (r : Result (List ℕ) Fault) → r ≡ with_front [] r
no_front (Ok xs) = refl
no_front (Err e) = refl

-- what is spelled is read
pub spelled_contents : {front value : List ℕ} → Spells front value → (rest : List ℕ) (at : ℕ) → contents 0 at (front ++ rest) ≡ with_front value (contents 0 (at + length front) rest)
spelled_contents nothing rest at = let e : at ≡ at + 0 = omega arith in ap (λ i. contents 0 i rest) e ∙ no_front (contents 0 (at + 0) rest)
spelled_contents (itself {b} {more} {value} e h) rest at =
    let a : at + 1 + length more ≡ at + suc (length more) = omega arith in
    let i = ap (with_front (b ∷ [])) (spelled_contents h rest (at + 1) ∙ ap (λ i. with_front value (contents 0 i rest)) a) in
    rw (e, differs is_string_byte b 92 e refl) (i ∙ sym (front_front (b ∷ []) value (contents 0 (at + suc (length more)) rest)))
spelled_contents (escape {word} {bytes} {more} {value} e h) rest at =
    let a : at + 1 + length word + length more ≡ at + suc (length (word ++ more)) = omega (arith, length-append word more) in
    let r : (word ++ more) ++ rest ≡ word ++ (more ++ rest) = append_assoc word more rest in
    let k = contents_skip word (more ++ rest) (at + 1) ∙ (spelled_contents h rest (at + 1 + length word) ∙ ap (λ i. with_front value (contents 0 i rest)) a) in
    let i = ap (with_front bytes) k ∙ sym (front_front bytes value (contents 0 (at + suc (length (word ++ more))) rest)) in
    rw (r, escape_found e (more ++ rest)) i

pub spelled_whole : {inside value : List ℕ} → Spells inside value → (at : ℕ) → contents 0 at inside ≡ Ok value
spelled_whole {inside} {value} s at = ap (contents 0 at) (sym (append-nil inside)) ∙ (spelled_contents s [] at ∙ ap Ok (append-nil value))

-- an escape that was found is spelled
record IsEscapeAt (bs : List ℕ) (m : Meaning) : Type 0 where
  word : List ℕ
  rest : List ℕ
  whole : bs ≡ word ++ rest
  len : m.len ≡ length word
  is : IsEscape word m.bytes

if_some : {X : Type 0} {x y : X} (t : Bool) → (if t then Some x else None) ≡ Some y → (t ≡ true) × (x ≡ y)
if_some true e = (refl, some_same e)
if_some false e = absurd (none_some e)

either : {X : Type 0} {y : X} (p q : Option X) → option_or p q ≡ Some y → (p ≡ Some y) ⊎ ((p ≡ None) × (q ≡ Some y))
either (Some x) q e = inl e
either None q e = inr (refl, e)

is_simple : (c : ℕ) (more : List ℕ) (m : Meaning) → option_map (λ v. record { len = 1; bytes = v ∷ [] }) (simple_of c) ≡ Some m → IsEscapeAt (c ∷ more) m
is_simple c more m e =
    let h = mapped_some {f = λ v. record { len = 1; bytes = v ∷ [] }} (simple_of c) e in
    subst (λ m. IsEscapeAt (c ∷ more) m) h.2 (record { word = c ∷ []; rest = more; whole = refl; len = refl; is = simple h.1 })

is_byte : (c : ℕ) (bs : List ℕ) (m : Meaning) → option_map (λ v. record { len = 2; bytes = v ∷ [] }) (byte_of c bs) ≡ Some m → IsEscapeAt (c ∷ bs) m
is_byte c [] m e = absurd (none_some e)
is_byte c (d ∷ more) m e =
    let h = mapped_some {f = λ v. record { len = 2; bytes = v ∷ [] }} (byte_of c (d ∷ more)) e in
    let i = if_some (is_hex c && is_hex d) h.1 in
    let j = both_true (is_hex c) (is_hex d) i.0 in
    let k : IsEscapeAt (c ∷ d ∷ more) (record { len = 2; bytes = (16 * hex_value c + hex_value d) ∷ [] }) =
    record { word = c ∷ d ∷ []; rest = more; whole = refl; len = refl; is = byte j.0 j.1 } in
    subst (λ m. IsEscapeAt (c ∷ d ∷ more) m) (ap (λ v. record { len = 2; bytes = v ∷ [] }) i.1 ∙ h.2) k

-- a list with an element at a place
pub cut_at : (xs : List ℕ) (n y : ℕ) → n < length xs → get_or xs n 0 ≡ y → xs ≡ take n xs ++ y ∷ drop (suc n) xs
cut_at [] n y h e = absurd (omega arith)
cut_at (x ∷ xs) zero y h e = ap (λ z. z ∷ xs) e
cut_at (x ∷ xs) (suc n) y h e = ap (λ z. x ∷ z) (cut_at xs n y (omega arith) e)

get_past : (xs : List ℕ) (n y : ℕ) → 0 < y → get_or xs n 0 ≡ y → n < length xs
get_past [] n y p e = absurd (omega arith)
get_past (x ∷ xs) zero y p e = omega arith
get_past (x ∷ xs) (suc n) y p e = let h = get_past xs n y p e in omega arith

-- `u{`, digits and `}` by where they stand
scalar_cut : (n : ℕ) (xs : List ℕ) → 0 < n → list_all is_hex (take n xs) ≡ true → get_or xs n 0 ≡ 125 → is_scalar (number_of (take n xs)) ≡ true →
    IsEscapeAt (117 ∷ 123 ∷ xs) (record { len = n + 3; bytes = encode_utf8 (number_of (take n xs)) })
scalar_cut zero xs p a g e = absurd (omega arith)
scalar_cut (suc n) [] p a g e = absurd (omega arith)
scalar_cut (suc n) (x ∷ xs) p a g e =
    let within = get_past xs n 125 (omega arith) g in
    let h = cut_at xs n 125 within g in
    let r = ap (λ z. 117 ∷ 123 ∷ x ∷ z) (h ∙ sym (append_assoc (take n xs) (125 ∷ []) (drop (suc n) xs))) in
    let l : suc n + 3 ≡ length (117 ∷ 123 ∷ x ∷ (take n xs ++ 125 ∷ [])) = omega (arith, length-append (take n xs) (125 ∷ []), length-take-le n xs (omega arith)) in
    record { word = 117 ∷ 123 ∷ x ∷ (take n xs ++ 125 ∷ []); rest = drop (suc n) xs; whole = r; len = l; is = scalar x (take n xs) a e }

is_scalar_escape : (c : ℕ) (bs : List ℕ) (m : Meaning) → scalar_of c bs ≡ Some m → IsEscapeAt (c ∷ bs) m
is_scalar_escape c [] m e =
    let i = if_some (c == 117 && 0 == 123 && nat_lt 0 0 && 0 == 125 && is_scalar 0) e in
    let j = both_true (c == 117 && 0 == 123 && nat_lt 0 0 && 0 == 125) (is_scalar 0) i.0 in
    absurd (false≢true (both_true (c == 117 && 0 == 123 && nat_lt 0 0) (0 == 125) j.0).1)
is_scalar_escape c (b ∷ xs) m e =
    let n = prefix_len is_hex xs in
    let i = if_some (c == 117 && b == 123 && nat_lt 0 n && slice_index (b ∷ xs) (n + 1) == 125 && is_scalar (number_of (take n xs))) e in
    let j = both_true (c == 117 && b == 123 && nat_lt 0 n && slice_index (b ∷ xs) (n + 1) == 125) (is_scalar (number_of (take n xs))) i.0 in
    let k = both_true (c == 117 && b == 123 && nat_lt 0 n) (slice_index (b ∷ xs) (n + 1) == 125) j.0 in
    let l = both_true (c == 117 && b == 123) (nat_lt 0 n) k.0 in
    let o = both_true (c == 117) (b == 123) l.0 in
    let u : c ≡ 117 = eqb-true c 117 o.0 in
    let v : b ≡ 123 = eqb-true b 123 o.1 in
    let some : 0 < n = ltb-true 0 n l.1 in
    let g : get_or xs n 0 ≡ 125 = rw add-one at (eqb-true (slice_index (b ∷ xs) (n + 1)) 125 k.1) in
    subst (λ m. IsEscapeAt (c ∷ b ∷ xs) m) i.1 (rw (u, v) (scalar_cut n xs some (has_run is_hex xs).passes g j.1))

is_escape : (bs : List ℕ) (m : Meaning) → escape_of bs ≡ Some m → IsEscapeAt bs m
is_escape [] m e = absurd (none_some e)
is_escape (c ∷ more) m e =
    let scalars : Option Meaning = scalar_of c more in
    let bytes : Option Meaning = option_map (λ v. record { len = 2; bytes = v ∷ [] }) (byte_of c more) in
    let simples : Option Meaning = option_map (λ v. record { len = 1; bytes = v ∷ [] }) (simple_of c) in
    elim (either simples (option_or bytes scalars) e) [
      | inl p ↦ is_simple c more m p
      | inr p ↦ elim (either bytes scalars p.1) [ inl q ↦ is_byte c more m q | inr q ↦ is_scalar_escape c more m q.1 ]
    ]

pub drop_length : (xs ys : List ℕ) → drop (length xs) (xs ++ ys) ≡ ys
drop_length [] ys = refl
drop_length (x ∷ xs) ys = drop_length xs ys

-- an offender behind what is spelled is the first fault
pub offender_contents : {kind : LexKind} {bs : List ℕ} → IsOffender kind bs → (at : ℕ) → contents 0 at bs ≡ Err (record { kind = kind; start = at })
offender_contents (character e f) at = rw (e, f) refl
offender_contents (backslash {bs} none) at = go (escape_of bs) refl
  where
    go : (o : Option Meaning) → escape_of bs ≡ o → escaped o (record { kind = BadEscape; start = at }) (λ k. contents k (at + 1) bs) ≡ Err (record { kind = BadEscape; start = at })
    go None e = refl
    go (Some m) e = let i = is_escape bs m e in absurd (none i.word m.bytes i.rest i.is i.whole)

-- the first offender of a string's inside, which stands at `at`
pub record HasOffender (inside : List ℕ) (at : ℕ) (fault : Fault) : Type 0 where
  pub front : List ℕ
  pub value : List ℕ
  pub back : List ℕ
  pub whole : inside ≡ front ++ back
  pub spelled : Spells front value
  pub offends : IsOffender fault.kind back
  pub place : fault.start ≡ at + length front

-- what a reading says of the bytes that it went over
abbrev pub IsRead : Result (List ℕ) Fault → ℕ → List ℕ → Type 0
IsRead (Ok value) at inside = Spells inside value
IsRead (Err fault) at inside = HasOffender inside at fault

record ReadsOn (bs : List ℕ) : Type 0 where
  read : (skip at : ℕ) → skip ≤ length bs → IsRead (contents skip at bs) (at + skip) (drop skip bs)

-- one more byte, or an escape, before what was read
record Extends (front value bs : List ℕ) : Type 0 where
  spells : (more v : List ℕ) → Spells more v → Spells (front ++ more) (value ++ v)

extend : (front value bs : List ℕ) (at : ℕ) (r : Result (List ℕ) Fault) → Extends front value bs → IsRead r (at + length front) bs → IsRead (with_front value r) at (front ++ bs)
extend front value bs at (Ok v) x i = x.spells bs v i
extend front value bs at (Err fault) x i = record {
  front = front ++ i.front;
  value = value ++ i.value;
  back = i.back;
  whole = ap (λ z. front ++ z) i.whole ∙ sym (append_assoc front i.front i.back);
  spelled = x.spells i.front i.value i.spelled;
  offends = i.offends;
  place = omega (arith, i.place, length-append front i.front);
}

read_escape : (at : ℕ) (bs : List ℕ) (o : Option Meaning) → escape_of bs ≡ o → ReadsOn bs → IsRead (escaped o (record { kind = BadEscape; start = at }) (λ k. contents k (at + 1) bs)) at (92 ∷ bs)
read_escape at bs None e r =
    let z : at ≡ at + 0 = omega arith in
    let b : IsOffender BadEscape (92 ∷ bs) = backslash (λ word bytes more i w. none_some (sym e ∙ (ap escape_of w ∙ escape_found i more))) in
    record { front = []; value = []; back = 92 ∷ bs; whole = refl; spelled = nothing; offends = b; place = z }
read_escape at bs (Some m) e r =
    let i = is_escape bs m e in
    let fits : m.len ≤ length bs = omega (arith, i.len, ap length i.whole, length-append i.word i.rest) in
    let h = r.read m.len (at + 1) fits in
    let d : drop m.len bs ≡ i.rest = ap (λ n. drop n bs) i.len ∙ (ap (λ z. drop (length i.word) z) i.whole ∙ drop_length i.word i.rest) in
    let a : at + 1 + m.len ≡ at + length (92 ∷ i.word) = omega (arith, i.len) in
    let k : IsRead (contents m.len (at + 1) bs) (at + length (92 ∷ i.word)) i.rest = rw (d, a) at h in
    let x : Extends (92 ∷ i.word) m.bytes i.rest = record { spells = λ more v s. escape i.is s } in
    subst (λ z. IsRead (with_front m.bytes (contents m.len (at + 1) bs)) at (92 ∷ z)) (sym i.whole) (extend (92 ∷ i.word) m.bytes i.rest at (contents m.len (at + 1) bs) x k)

read_plain : (at b : ℕ) (bs : List ℕ) (t : Bool) → (b == 92) ≡ false → is_string_byte b ≡ t → ReadsOn bs →
    IsRead (if t then with_front (b ∷ []) (contents 0 (at + 1) bs) else Err (record { kind = BadChar; start = at })) at (b ∷ bs)
read_plain at b bs false f e r =
    let z : at ≡ at + 0 = omega arith in
    record { front = []; value = []; back = b ∷ bs; whole = refl; spelled = nothing; offends = character e f; place = z }
read_plain at b bs true f e r =
    let h = r.read 0 (at + 1) (omega arith) in
    let a : at + 1 + 0 ≡ at + length {A = ℕ} (b ∷ []) = omega arith in
    let x : Extends (b ∷ []) (b ∷ []) bs = record { spells = λ more v s. itself e s } in
    extend (b ∷ []) (b ∷ []) bs at (contents 0 (at + 1) bs) x (rw a at h)

read_byte : (at b : ℕ) (bs : List ℕ) (t : Bool) → (b == 92) ≡ t → ReadsOn bs →
    IsRead (if t then escaped (escape_of bs) (record { kind = BadEscape; start = at }) (λ k. contents k (at + 1) bs)
    else (if is_string_byte b then with_front (b ∷ []) (contents 0 (at + 1) bs) else Err (record { kind = BadChar; start = at }))) at (b ∷ bs)
read_byte at b bs true e r = let h : b ≡ 92 = eqb-true b 92 e in rw h (read_escape at bs (escape_of bs) refl r)
read_byte at b bs false e r = read_plain at b bs (is_string_byte b) e refl r

reads_on : (bs : List ℕ) → ReadsOn bs
reads_on [] = record { read = λ skip at h. rw drop-nil nothing }
reads_on (b ∷ bs) = let r = reads_on bs in record { read = λ skip at h. go skip at r h }
  where
    go : (skip at : ℕ) → ReadsOn bs → skip ≤ length (b ∷ bs) → IsRead (contents skip at (b ∷ bs)) (at + skip) (drop skip (b ∷ bs))
    go zero at r h = let z : at ≡ at + 0 = omega arith in rw (← z) (read_byte at b bs (b == 92) refl r)
    go (suc k) at r h = let z : at + 1 + k ≡ at + suc k = omega arith in rw (← z) (r.read k (at + 1) (omega arith))

pub contents_read : (bs : List ℕ) (at : ℕ) → IsRead (contents 0 at bs) at bs
contents_read bs at = let z : at + 0 ≡ at = omega arith in rw z at ((reads_on bs).read 0 at (omega arith))

contents_spelled : (bs value : List ℕ) (at : ℕ) → contents 0 at bs ≡ Ok value → Spells bs value
contents_spelled bs value at e = rw e at (contents_read bs at)

pub contents_offended : (bs : List ℕ) (fault : Fault) (at : ℕ) → contents 0 at bs ≡ Err fault → HasOffender bs at fault
contents_offended bs fault at e = rw e at (contents_read bs at)

take_last : (xs : List ℕ) (n y : ℕ) → n < length xs → get_or xs n 0 ≡ y → take (suc n) xs ≡ take n xs ++ y ∷ []
take_last [] n y h e = absurd (omega arith)
take_last (x ∷ xs) zero y h e = ap (λ z. z ∷ []) e
take_last (x ∷ xs) (suc n) y h e = ap (λ z. x ∷ z) (take_last xs n y (omega arith) e)

-- a string by where its quotes stand
pub string_cut : (bs value : List ℕ) (n : ℕ) → string_len false bs ≡ Some n → contents 0 1 (take n bs) ≡ Ok value → IsString (34 ∷ take (suc n) bs) value
string_cut bs value n e f =
    let q = quote_at false bs n e in
    let k : IsString (34 ∷ (take n bs ++ 34 ∷ [])) value = quoted (contents_spelled (take n bs) value 1 f) in
    subst (λ z. IsString (34 ∷ z) value) (sym (take_last bs n 34 q.1 q.0)) k

same_number : (n : ℕ) → (n == n) ≡ true
same_number n = grind (arith, nat_tests)

pub string_value-string : (word value : List ℕ) → IsString word value → string_value word ≡ Some value
string_value-string word value (quoted {inside} s) =
    let l : length (inside ++ 34 ∷ []) ≡ length inside + 1 = length-append inside (34 ∷ []) in
    rw (spelled_len s [], l, same_number (length inside + 1), take_length inside (34 ∷ []), spelled_whole s 1) refl

ok_of : (r : Result (List ℕ) Fault) (value : List ℕ) → result_ok r ≡ Some value → r ≡ Ok value
ok_of (Ok x) value e = cc
ok_of (Err f) value e = absurd (none_some e)

value_cut : (bs value : List ℕ) (o : Option ℕ) → string_len false bs ≡ o → value_up_to bs o ≡ Some value → IsString (34 ∷ bs) value
value_cut bs value None e f = absurd (none_some f)
value_cut bs value (Some n) e f = go (n + 1 == length bs) refl f
  where
    go : (t : Bool) → (n + 1 == length bs) ≡ t → (if t then result_ok (contents 0 1 (take n bs)) else None) ≡ Some value → IsString (34 ∷ bs) value
    go false g f = absurd (none_some f)
    go true g f =
        let l : n + 1 ≡ length bs = eqb-true (n + 1) (length bs) g in
        let k : length bs ≤ suc n = omega arith in
        subst (λ z. IsString (34 ∷ z) value) (take_all (suc n) bs k) (string_cut bs value n e (ok_of (contents 0 1 (take n bs)) value f))

pub string-string_value : (word value : List ℕ) → string_value word ≡ Some value → IsString word value
string-string_value [] value e = absurd (none_some e)
string-string_value (b ∷ bs) value e = go (b == 34) refl e
  where
    go : (t : Bool) → (b == 34) ≡ t → (if t then value_up_to bs (string_len false bs) else None) ≡ Some value → IsString (b ∷ bs) value
    go false g e = absurd (none_some e)
    go true g e = let h : b ≡ 34 = eqb-true b 34 g in rw h (value_cut bs value (string_len false bs) refl e)

-- the inside of a whole string
pub inside_string : (word value bytes : List ℕ) → IsString word value → contents 0 1 (take (length word - 1 - 1) (drop 1 word)) ≡ Ok bytes → IsString word bytes
inside_string word value bytes (quoted {inside} s) e =
    let l : length (inside ++ 34 ∷ []) - 1 ≡ length inside = omega (arith, length-append inside (34 ∷ [])) in
    let m : suc (length (inside ++ 34 ∷ [])) - 1 - 1 ≡ length inside = omega arith in
    let t : take (suc (length (inside ++ 34 ∷ [])) - 1 - 1) (inside ++ 34 ∷ []) ≡ inside = rw m (take_length inside (34 ∷ [])) in
    let f : contents 0 1 inside ≡ Ok bytes = sym (ap (contents 0 1) t) ∙ e in
    quoted (contents_spelled inside bytes 1 f)
