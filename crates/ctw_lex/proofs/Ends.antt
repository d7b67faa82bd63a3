-- A token begins and ends with an ASCII byte, and stands where its span says.
use Rattle.std.proofs.Common.{◌≡◌, ℕ, zero, suc, ◌+◌, ◌-◌, ◌<◌, true, List, [], ◌∷◌, ◌++◌, inl, inr, length, take, drop, get_or, leb-true, length-append, length-drop, get_or-drop, refl, sym, arith}
use Rattle.std.specs.Prelude.{IsSome, ◌||◌, nat_eq, nat_lt, nat_le, codes}
use Rattle.std.specs.List.{list_any, list_all}
use Rattle.std.proofs.lemmas.List.{length-take-le, get_or-take}
use Rattle.std.proofs.lemmas.Bool.{false≢true, eqb-true, ltb-true}
use Rattle.ctw_lex.specs.declared.TokenKind.{TokenKind}
use Rattle.ctw_lex.specs.declared.TokenKind.TheVariants.{Text}
use Rattle.ctw_lex.specs.declared.items.Item.TheVariants.{Spelled}
use Rattle.ctw_lex.specs.Chars.{is_within, is_atom_byte}
use Rattle.ctw_lex.specs.Strings.{string_value}
use Rattle.ctw_lex.specs.Items.{item}
use Rattle.ctw_lex.specs.Spans.{IsSpanOf}
use Rattle.ctw_lex.specs.Grammar.{IsToken, left, right, atom, string, quoted}
use Rattle.ctw_lex.proofs.Facts.{either_true, both_true}
use Rattle.ctw_lex.proofs.Spelling.{get_length, string_value-string}
use Rattle.ctw_lex.proofs.Heads.{item_form}
use Rattle.ctw_lex.proofs.Steps.{drop_first}

any_below : (b : ℕ) (xs : List ℕ) → list_all (λ c. nat_lt c 128) xs ≡ true → list_any (nat_eq b) xs ≡ true → b < 128
any_below b [] a e = absurd (false≢true e)
any_below b (x ∷ xs) a e =
    let h = both_true (nat_lt x 128) (list_all (λ c. nat_lt c 128) xs) a in
    let small : x < 128 = ltb-true x 128 h.0 in
    elim (either_true (nat_eq b x) (list_any (nat_eq b) xs) e) [ inl p ↦ let q : b ≡ x = eqb-true b x p in omega arith | inr q ↦ any_below b xs h.1 q ]

within_below : (low high b : ℕ) → high < 128 → is_within low high b ≡ true → b < 128
within_below low high b h e = let q = leb-true b high (both_true (nat_le low b) (nat_le b high) e).1 in omega arith

atom_ascii : (b : ℕ) → is_atom_byte b ≡ true → b < 128
atom_ascii b e =
    elim (either_true (is_within 97 122 b || is_within 65 90 b || is_within 48 57 b) (list_any (nat_eq b) (codes "!#$%&'*+-./:<=>?@\\^_`|~")) e) [
      | inr q ↦ any_below b (codes "!#$%&'*+-./:<=>?@\\^_`|~") refl q
      | inl p ↦ elim (either_true (is_within 97 122 b || is_within 65 90 b) (is_within 48 57 b) p) [
        | inr q ↦ within_below 48 57 b (omega arith) q
        | inl r ↦ elim (either_true (is_within 97 122 b) (is_within 65 90 b) r) [ inl s ↦ within_below 97 122 b (omega arith) s | inr s ↦ within_below 65 90 b (omega arith) s ]
      ]
    ]

atoms_ascii : (w : List ℕ) (i : ℕ) → list_all is_atom_byte w ≡ true → get_or w i 0 < 128
atoms_ascii [] i e = omega arith
atoms_ascii (b ∷ w) zero e = atom_ascii b (both_true (is_atom_byte b) (list_all is_atom_byte w) e).0
atoms_ascii (b ∷ w) (suc i) e = atoms_ascii w i (both_true (is_atom_byte b) (list_all is_atom_byte w) e).1

-- what the ends of a word are, the last of which stands `n` bytes behind the first
record HasEnds (kind : TokenKind) (word : List ℕ) (n : ℕ) : Type 0 where
  first : get_or word 0 0 < 128
  last : get_or word n 0 < 128
  whole : kind ≡ Text → IsSome (string_value word)

token_ends : {kind : TokenKind} {word rest : List ℕ} → IsToken kind word rest → (n : ℕ) → length word ≡ suc n → HasEnds kind word n
token_ends (left e) n l = let z : n ≡ 0 = omega arith in rw z (record { first = omega arith; last = omega arith; whole = λ e. absurd (cc) })
token_ends (right) n l = let z : n ≡ 0 = omega arith in rw z (record { first = omega arith; last = omega arith; whole = λ e. absurd (cc) })
token_ends (atom {first} {run} r) n l = record { first = atoms_ascii (first ∷ run) 0 r.passes; last = atoms_ascii (first ∷ run) n r.passes; whole = λ e. absurd (cc) }
token_ends (string {word} {value} (quoted {inside} s)) n l =
    let z : n ≡ suc (length inside) = omega (arith, length-append inside (34 ∷ [])) in
    let g : get_or (inside ++ 34 ∷ []) (length inside) 0 ≡ 34 = get_length inside [] 34 in
    record { first = omega arith; last = rw (z, g) (omega arith); whole = λ e. rw (string_value-string (34 ∷ (inside ++ 34 ∷ [])) value (quoted s)) refl }

pub spelled_span : (text : List ℕ) (at n line : ℕ) (kind : TokenKind) → at < length text → n < length (drop at text) → Spelled kind n ≡ item (drop at text) →
    IsSpanOf text (record { kind = kind; start = at; end = at + 1 + n; line = line })
spelled_span text at n line kind inside fits e =
    let b = get_or text at 0 in
    let bs = drop (at + 1) text in
    let f : item (b ∷ bs) ≡ Spelled kind n = rw (drop_first at text inside) at (sym e) in
    let h = item_form b bs (Spelled kind n) f in
    let t : IsToken kind (take (suc n) (drop at text)) (drop (suc n) (drop at text)) = rw (drop_first at text inside) h.1 in
    let l : length (take (suc n) (drop at text)) ≡ suc n = length-take-le (suc n) (drop at text) (omega arith) in
    let k = token_ends t n l in
    let x : at + 0 ≡ at = omega arith in
    let y : at + 1 + n - 1 ≡ at + n = omega arith in
    let z : at + 1 + n - at ≡ suc n = omega arith in
    record {
      nonempty = omega arith;
      within = omega (arith, length-drop at text);
      first = rw (get_or-take (suc n) (drop at text) 0 0 (omega arith), get_or-drop, x) at k.first;
      last = rw y (rw (get_or-take (suc n) (drop at text) n 0 (omega arith), get_or-drop) at k.last);
      whole = λ kind. rw z (k.whole kind);
    }
