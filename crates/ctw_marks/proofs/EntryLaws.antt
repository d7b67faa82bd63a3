-- The tokens of a line, at the front of others.
use Rattle.std.proofs.Common.{◌≡◌, ℕ, zero, suc, ◌+◌, ◌<◌, ◌≤◌, ◌==◌, Bool, true, false, List, [], ◌∷◌, ◌++◌, Some, length, take, drop, map, slice_get, get_or, ◌⊎◌, inl, inr, refl, sym, ap, subst, ◌∙◌, arith, append_assoc}
use Rattle.std.proofs.lemmas.Bool.Decides.{nat_tests, eqb_tells}
use Rattle.std.proofs.lemmas.List.{length-map}
use Rattle.ctw_lex.specs.declared.list.Token.{Token}
use Rattle.ctw_lex.specs.Told.{lexeme_of}
use Rattle.ctw_lex.specs.Lexeme.{Lexeme}
use Rattle.ctw_script.specs.Scripts.{before_lines, lines_of}
use Rattle.ctw_marks.specs.declared.entry.Entry.{Entry}
use Rattle.ctw_marks.specs.Entries.{line_entry}

-- so many tokens stand on this line
abbrev pub SameUpto : ℕ → ℕ → List Lexeme → Type 0
SameUpto l zero ts = Unit {0}
SameUpto l (suc n) [] = ⊥
SameUpto l (suc n) (t ∷ ts) = (t.line ≡ l) × SameUpto l n ts

-- the first one doesn't
abbrev pub Elsewhere : ℕ → List Lexeme → Type 0
Elsewhere l [] = Unit {0}
Elsewhere l (t ∷ ts) = (l == t.line) ≡ false

pub same_more : (l n : ℕ) (ts : List Lexeme) (t : Lexeme) → SameUpto l n ts → slice_get ts n ≡ Some t → t.line ≡ l → SameUpto l (suc n) ts
same_more l zero [] t h e k = cc
same_more l zero (u ∷ ts) t h e k = let q : u ≡ t = cc in (ap (λ (z : Lexeme). z.line) q ∙ k, tt)
same_more l (suc n) [] t h e k = absurd h
same_more l (suc n) (u ∷ ts) t h e k = (h.0, same_more l n ts t h.1 e k)

pub other_there : (l n : ℕ) (ts : List Lexeme) (t : Lexeme) → slice_get ts n ≡ Some t → (l == t.line) ≡ false → Elsewhere l (drop n ts)
other_there l zero [] t e k = tt
other_there l zero (u ∷ ts) t e k = let q : u ≡ t = cc in ap (λ (z : Lexeme). l == z.line) q ∙ k
other_there l (suc n) [] t e k = tt
other_there l (suc n) (u ∷ ts) t e k = other_there l n ts t e k

pub none_there : (l n : ℕ) (ts : List Lexeme) → length ts ≤ n → Elsewhere l (drop n ts)
none_there l zero [] h = tt
none_there l zero (u ∷ ts) h = absurd (omega (arith, h))
none_there l (suc n) [] h = tt
none_there l (suc n) (u ∷ ts) h = none_there l n ts (omega (arith, h))

record HasHead (t : Lexeme) (ls : List (List Lexeme)) : Type 0 where
  more : List Lexeme
  later : List (List Lexeme)
  is : ls ≡ (t ∷ more) ∷ later

joined_head : (t u : Lexeme) (us : List Lexeme) (lines : List (List Lexeme)) (b : Bool) → (t.line == u.line) ≡ b → HasHead t (before_lines t ((u ∷ us) ∷ lines))
joined_head t u us lines true e = record { more = u ∷ us; later = lines; is = rw e refl }
joined_head t u us lines false e = record { more = []; later = (u ∷ us) ∷ lines; is = rw e refl }

has_head : (t : Lexeme) (ls : List (List Lexeme)) → HasHead t (before_lines t ls)
has_head t [] = record { more = []; later = []; is = refl }
has_head t ([] ∷ lines) = record { more = []; later = lines; is = refl }
has_head t ((u ∷ us) ∷ lines) = joined_head t u us lines (t.line == u.line) refl

eqb_self : (n : ℕ) → (n == n) ≡ true
eqb_self n = grind (arith, nat_tests)

same_lines : (t u : Lexeme) → u.line ≡ t.line → (t.line == u.line) ≡ true
same_lines t u e = rw e (eqb_self t.line)

alone_first : (t : Lexeme) (ts : List Lexeme) → Elsewhere t.line ts → lines_of (t ∷ ts) ≡ (t ∷ []) ∷ lines_of ts
alone_first t [] h = refl
alone_first t (u ∷ us) h =
    let k = has_head u (lines_of us) in
    let e : before_lines t ((u ∷ k.more) ∷ k.later) ≡ (t ∷ []) ∷ (u ∷ k.more) ∷ k.later = rw h refl in
    ap (before_lines t) k.is ∙ e ∙ ap (λ z. (t ∷ []) ∷ z) (sym k.is)

-- the tokens of the first line, and the lines of the others
pub first_line_is : (n : ℕ) (t : Lexeme) (ts : List Lexeme) → SameUpto t.line n ts → Elsewhere t.line (drop n ts) → lines_of (t ∷ ts) ≡ (t ∷ take n ts) ∷ lines_of (drop n ts)
first_line_is zero t ts h k = alone_first t ts k
first_line_is (suc n) t [] h k = absurd h
first_line_is (suc n) t (u ∷ us) h k =
    let r = first_line_is n u us (subst (λ z. SameUpto z n us) (sym h.0) h.1) (subst (λ z. Elsewhere z (drop n us)) (sym h.0) k) in
    let e : before_lines t ((u ∷ take n us) ∷ lines_of (drop n us)) ≡ (t ∷ u ∷ take n us) ∷ lines_of (drop n us) = rw (same_lines t u h.0) refl in
    ap (before_lines t) r ∙ e

pub lines_at : (l i : ℕ) (ts : List Lexeme) → 0 < i → i ≤ length ts → SameUpto l i ts → Elsewhere l (drop i ts) → lines_of ts ≡ take i ts ∷ lines_of (drop i ts)
lines_at l zero ts some within h k = absurd (omega (arith, some))
lines_at l (suc n) [] some within h k = absurd h
lines_at l (suc n) (t ∷ ts) some within h k =
    first_line_is n t ts (subst (λ z. SameUpto z n ts) (sym h.0) h.1) (subst (λ z. Elsewhere z (drop n ts)) (sym h.0) k)

pub take_more : {A : Type 0} (n : ℕ) (xs : List A) (x : A) → slice_get xs n ≡ Some x → take (suc n) xs ≡ take n xs ++ x ∷ []
take_more zero [] x e = cc
take_more zero (y ∷ xs) x e = let q : y ≡ x = cc in ap (λ z. z ∷ []) q
take_more (suc n) [] x e = cc
take_more (suc n) (y ∷ xs) x e = ap (λ z. y ∷ z) (take_more n xs x e)

joined_few : (t u : Lexeme) (us : List Lexeme) (lines : List (List Lexeme)) (b : Bool) → (t.line == u.line) ≡ b → length (before_lines t ((u ∷ us) ∷ lines)) ≤ suc (suc (length lines))
joined_few t u us lines true e = let k : length (before_lines t ((u ∷ us) ∷ lines)) ≡ suc (length lines) = rw e refl in omega (arith, k)
joined_few t u us lines false e = let k : length (before_lines t ((u ∷ us) ∷ lines)) ≡ suc (suc (length lines)) = rw e refl in omega (arith, k)

before_few : (t : Lexeme) (ls : List (List Lexeme)) → length (before_lines t ls) ≤ suc (length ls)
before_few t [] = omega arith
before_few t ([] ∷ lines) = omega arith
before_few t ((u ∷ us) ∷ lines) = joined_few t u us lines (t.line == u.line) refl

pub lines_few : (ts : List Lexeme) → length (lines_of ts) ≤ length ts
lines_few [] = omega arith
lines_few (t ∷ ts) = let r = lines_few ts in let h = before_few t (lines_of ts) in omega (arith, r, h)

-- ---- the same on the code's tokens

same_short : (l i : ℕ) (ts : List Lexeme) → SameUpto l i ts → i ≤ length ts
same_short l zero ts h = omega arith
same_short l (suc n) [] h = absurd h
same_short l (suc n) (t ∷ ts) h = let r = same_short l n ts h.1 in omega (arith, r)

token_at : (ts : List Token) (d : Token) (i : ℕ) → i < length ts → slice_get (map lexeme_of ts) i ≡ Some (lexeme_of (get_or ts i d))
token_at [] d i lt = absurd (omega (arith, lt))
token_at (t ∷ ts) d zero lt = refl
token_at (t ∷ ts) d (suc i) lt = token_at ts d i (omega (arith, lt))

unequal : (a l : ℕ) → (a ≡ l → ⊥) → (l == a) ≡ false
unequal a l f = go (eqb_tells l a)
  where
    go : (((l == a) ≡ true) × (l ≡ a)) ⊎ (((l == a) ≡ false) × (l ≡ a → ⊥)) → (l == a) ≡ false
    go (inl e) = absurd (f (sym e.1))
    go (inr e) = e.0

module _ (ts : List Token) (l i : ℕ) (from : 0 < i) (h : SameUpto l i (map lexeme_of ts)) where
  pub line_ends : (d : Token) → i < length ts → ((get_or ts i d).line ≡ l → ⊥) → lines_of (map lexeme_of ts) ≡ take i (map lexeme_of ts) ∷ lines_of (drop i (map lexeme_of ts))
  line_ends d lt f =
      lines_at l i (map lexeme_of ts) from (same_short l i (map lexeme_of ts) h) h
      (other_there l i (map lexeme_of ts) (lexeme_of (get_or ts i d)) (token_at ts d i lt) (unequal (get_or ts i d).line l f))

  pub line_grows : (d : Token) → i < length ts → (get_or ts i d).line ≡ l → SameUpto l (i + 1) (map lexeme_of ts)
  line_grows d lt e =
      let n : suc i ≡ i + 1 = omega arith in
      subst (λ k. SameUpto l k (map lexeme_of ts)) n (same_more l i (map lexeme_of ts) (lexeme_of (get_or ts i d)) h (token_at ts d i lt) e)

  pub line_is_all : length ts ≤ i → lines_of (map lexeme_of ts) ≡ take (length ts) (map lexeme_of ts) ∷ lines_of (drop (length ts) (map lexeme_of ts))
  line_is_all le =
      let s = same_short l i (map lexeme_of ts) h in
      let m = length-map ts lexeme_of in
      let e : i ≡ length ts = omega (arith, s, m, le) in
      subst (λ k. lines_of (map lexeme_of ts) ≡ take k (map lexeme_of ts) ∷ lines_of (drop k (map lexeme_of ts))) e
      (lines_at l i (map lexeme_of ts) from s h (none_there l i (map lexeme_of ts) (omega (arith, m, le))))

-- a line is read
pub line_read : (es : List Entry) (e : Entry) (new : List Entry) (n : ℕ) (rest others tokens : List Token) → lines_of (map lexeme_of rest) ≡ take n (map lexeme_of rest) ∷ lines_of (drop n (map lexeme_of rest))
    → e ≡ line_entry (map lexeme_of (take n rest)) → new ≡ es ++ e ∷ [] → others ≡ drop n rest
    → es ++ map line_entry (lines_of (map lexeme_of rest)) ≡ map line_entry (lines_of (map lexeme_of tokens))
    → new ++ map line_entry (lines_of (map lexeme_of others)) ≡ map line_entry (lines_of (map lexeme_of tokens))
line_read es e new n rest others tokens l r p o h =
    (λ i. p i ++ map line_entry (lines_of (map lexeme_of (o i))))
    ∙ append_assoc es (e ∷ []) (map line_entry (lines_of (map lexeme_of (drop n rest))))
    ∙ (λ i. es ++ (r ∙ ap line_entry (map_take n rest)) i ∷ map line_entry (lines_of (map_drop n rest i)))
    ∙ ap (λ z. es ++ map line_entry z) (sym l)
    ∙ h
  where
    map_take : (n : ℕ) (ts : List Token) → map lexeme_of (take n ts) ≡ take n (map lexeme_of ts)
    map_take zero ts = refl
    map_take (suc n) [] = refl
    map_take (suc n) (t ∷ ts) = ap (λ z. lexeme_of t ∷ z) (map_take n ts)

    map_drop : (n : ℕ) (ts : List Token) → map lexeme_of (drop n ts) ≡ drop n (map lexeme_of ts)
    map_drop zero ts = refl
    map_drop (suc n) [] = refl
    map_drop (suc n) (t ∷ ts) = map_drop n ts

pub entries_few : (es : List Entry) (ts : List Lexeme) → es ≡ map line_entry (lines_of ts) → length es ≤ length ts
entries_few es ts e =
    let a = ap length e in
    let b = length-map (lines_of ts) line_entry in
    let c = lines_few ts in
    omega (arith, a, b, c)
