-- A step of a loop over one byte.
use Rattle.std.proofs.Common.{◌≡◌, ℕ, zero, suc, ◌+◌, ◌-◌, ◌<◌, Bool, true, false, List, [], ◌∷◌, ◌++◌, Option, Some, None, Result, Ok, Err, length, drop, get_or, refl, ap, sym, ◌∙◌, append_assoc, arith, add-one, drop-cons}
use Rattle.std.specs.Prelude.{IsOk, option_map, ◌==◌, nat_eq, if◌then◌else◌}
use Rattle.std.proofs.Common.{take, ◌≤◌, length-drop}
use Rattle.std.proofs.lemmas.List.{take_all}
use Rattle.std.proofs.lemmas.Bool.{false≢true}
use Rattle.ctw_lex.specs.declared.items.Item.TheVariants.{Gap, Spelled, Faulty}
use Rattle.ctw_lex.specs.declared.TokenKind.{TokenKind}
use Rattle.ctw_lex.specs.declared.LexKind.{LexKind}
use Rattle.ctw_lex.specs.declared.LexKind.TheVariants.{BadChar, BadEscape}
use Rattle.ctw_lex.specs.Chars.{is_string_byte}
use Rattle.ctw_lex.specs.Strings.{string_len, with_front, fault_of, contents, escape_of, Meaning}
use Rattle.ctw_lex.specs.declared.escapes.Escape.{Escape}
use Rattle.ctw_lex.specs.declared.escapes.Escape.TheVariants.{Byte, Scalar}
use Rattle.ctw_lex.specs.Escapes.{meaning, escape_len}
use Rattle.ctw_lex.specs.Items.{item}
use Rattle.ctw_lex.specs.Lexeme.{Lexeme}
use Rattle.ctw_lex.specs.Tokens.{tokens_from, tokens_of, onto}
use Rattle.std.proofs.lemmas.List.{drop_all}
use Rattle.std.proofs.Common.{append-nil}

pub drop_first : (i : ℕ) (bs : List ℕ) → i < length bs → drop i bs ≡ get_or bs i 0 ∷ drop (i + 1) bs
drop_first i bs h = drop-cons bs i 0 h ∙ ap (λ n. get_or bs i 0 ∷ drop n bs) (sym (add-one i))

moved : (i : ℕ) (o : Option ℕ) → option_map (λ n. n + (i + 1)) o ≡ option_map (λ n. n + i) (option_map suc o)
moved i None = refl
moved i (Some n) = let e : n + (i + 1) ≡ suc n + i = omega arith in ap Some e

pub string_after_escape : (i : ℕ) (bs : List ℕ) → i < length bs → option_map (λ n. n + (i + 1)) (string_len false (drop (i + 1) bs)) ≡ option_map (λ n. n + i) (string_len true (drop i bs))
string_after_escape i bs h = rw (drop_first i bs) (moved i (string_len false (drop (i + 1) bs)))

pub string_after_backslash : (i : ℕ) (bs : List ℕ) → i < length bs → get_or bs i 0 ≡ 92 → option_map (λ n. n + (i + 1)) (string_len true (drop (i + 1) bs)) ≡ option_map (λ n. n + i) (string_len false (drop i bs))
string_after_backslash i bs h e = rw (drop_first i bs, e) (moved i (string_len true (drop (i + 1) bs)))

pub string_after_other : (i : ℕ) (bs : List ℕ) → i < length bs → nat_eq (get_or bs i 0) 34 ≡ false → nat_eq (get_or bs i 0) 92 ≡ false → option_map (λ n. n + (i + 1)) (string_len false (drop (i + 1) bs)) ≡ option_map (λ n. n + i) (string_len false (drop i bs))
string_after_other i bs h p q = rw (drop_first i bs, p, q) (moved i (string_len false (drop (i + 1) bs)))

pub front_front : {A E : Type 0} (xs ys : List A) (r : Result (List A) E) → with_front (xs ++ ys) r ≡ with_front xs (with_front ys r)
front_front xs ys (Ok zs) = ap Ok (append_assoc xs ys zs)
front_front xs ys (Err e) = refl

pub fault_front : {A E : Type 0} (xs : List A) (r : Result (List A) E) → fault_of (with_front xs r) ≡ fault_of r
fault_front xs (Ok zs) = refl
fault_front xs (Err e) = refl

abbrev pub next_line : ℕ → ℕ → ℕ
next_line line b = if b == 10 then line + 1 else line

module _ (at line : ℕ) (bs : List ℕ) (inside : at < length bs) where
  pub tokens_skip : (k : ℕ) → tokens_from (suc k) at line (drop at bs) ≡ tokens_from k (at + 1) (next_line line (get_or bs at 0)) (drop (at + 1) bs)
  tokens_skip k = rw (drop_first at bs) refl

  tokens_step : tokens_from 0 at line (drop at bs) ≡ onto (item (drop at bs)) (drop at bs) at line (λ k. tokens_from k (at + 1) (next_line line (get_or bs at 0)) (drop (at + 1) bs))
  tokens_step = rw (drop_first at bs) refl

  pub tokens_gap : (n : ℕ) → Gap n ≡ item (drop at bs) → tokens_from 0 at line (drop at bs) ≡ tokens_from n (at + 1) (next_line line (get_or bs at 0)) (drop (at + 1) bs)
  tokens_gap n e = tokens_step ∙ ap (λ x. onto x (drop at bs) at line (λ k. tokens_from k (at + 1) (next_line line (get_or bs at 0)) (drop (at + 1) bs))) (sym e)

  pub tokens_spelled : (kind : TokenKind) (n : ℕ) → Spelled kind n ≡ item (drop at bs) → tokens_from 0 at line (drop at bs) ≡ with_front (record { kind = kind; text = take (suc n) (drop at bs); start = at; end = at + 1 + n; line = line } ∷ []) (tokens_from n (at + 1) (next_line line (get_or bs at 0)) (drop (at + 1) bs))
  tokens_spelled kind n e = tokens_step ∙ ap (λ x. onto x (drop at bs) at line (λ k. tokens_from k (at + 1) (next_line line (get_or bs at 0)) (drop (at + 1) bs))) (sym e)

  pub tokens_faulty : (kind : LexKind) (n : ℕ) → Faulty kind n ≡ item (drop at bs) → tokens_from 0 at line (drop at bs) ≡ Err (record { kind = kind; start = at + n; line = line })
  tokens_faulty kind n e = tokens_step ∙ ap (λ x. onto x (drop at bs) at line (λ k. tokens_from k (at + 1) (next_line line (get_or bs at 0)) (drop (at + 1) bs))) (sym e)

module _ (i : ℕ) (bs : List ℕ) (inside : i < length bs) where
  pub content_skip : (k : ℕ) → contents (suc k) (i + 1) (drop i bs) ≡ contents k (i + 1 + 1) (drop (i + 1) bs)
  content_skip k = rw (drop_first i bs) refl

  pub content_escape : (e : Meaning) → get_or bs i 0 ≡ 92 → Some e ≡ escape_of (drop (i + 1) bs) → contents 0 (i + 1) (drop i bs) ≡ with_front e.bytes (contents e.len (i + 1 + 1) (drop (i + 1) bs))
  content_escape e is h = rw (drop_first i bs, is, sym h) refl

  pub content_bad_escape : get_or bs i 0 ≡ 92 → None ≡ escape_of (drop (i + 1) bs) → contents 0 (i + 1) (drop i bs) ≡ Err (record { kind = BadEscape; start = i + 1 })
  content_bad_escape is h = rw (drop_first i bs, is, sym h) refl

  pub content_plain : nat_eq (get_or bs i 0) 92 ≡ false → is_string_byte (get_or bs i 0) ≡ true → contents 0 (i + 1) (drop i bs) ≡ with_front (get_or bs i 0 ∷ []) (contents 0 (i + 1 + 1) (drop (i + 1) bs))
  content_plain p q = rw (drop_first i bs, q, p) refl

  content_bad : nat_eq (get_or bs i 0) 92 ≡ false → is_string_byte (get_or bs i 0) ≡ false → contents 0 (i + 1) (drop i bs) ≡ Err (record { kind = BadChar; start = i + 1 })
  content_bad p q = rw (drop_first i bs, q, p) refl

  pub content_plain_ok : (front : List ℕ) → nat_eq (get_or bs i 0) 92 ≡ false → IsOk (with_front front (contents 0 (i + 1) (drop i bs))) → contents 0 (i + 1) (drop i bs) ≡ with_front (get_or bs i 0 ∷ []) (contents 0 (i + 1 + 1) (drop (i + 1) bs))
  content_plain_ok front p ok = go (is_string_byte (get_or bs i 0)) refl
    where
      go : (t : Bool) → is_string_byte (get_or bs i 0) ≡ t → contents 0 (i + 1) (drop i bs) ≡ with_front (get_or bs i 0 ∷ []) (contents 0 (i + 1 + 1) (drop (i + 1) bs))
      go true q = content_plain p q
      go false q = absurd (false≢true (rw (content_bad p q) at ok))

pub slice_rest : (i : ℕ) (bs : List ℕ) → take (length bs - i) (drop i bs) ≡ drop i bs
slice_rest i bs = let e : length (drop i bs) ≤ length bs - i = omega (arith, length-drop i bs) in take_all (length bs - i) (drop i bs) e

pub meaning_len : (e : Escape) → (meaning e).len ≡ escape_len e
meaning_len (Byte n b) = refl
meaning_len (Scalar n c) = refl

pub tokens_end : (xs : List Lexeme) (skip at line : ℕ) (bs : List ℕ) → length bs ≤ at → with_front xs (tokens_from skip at line (drop at bs)) ≡ tokens_of bs → tokens_of bs ≡ Ok xs
tokens_end xs skip at line bs h e = sym e ∙ (ap (λ (z : List ℕ). with_front xs (tokens_from skip at line z)) (drop_all at bs h) ∙ go skip)
  where
    go : (skip : ℕ) → with_front xs (tokens_from skip at line []) ≡ Ok xs
    go zero = ap Ok (append-nil xs)
    go (suc k) = ap Ok (append-nil xs)
