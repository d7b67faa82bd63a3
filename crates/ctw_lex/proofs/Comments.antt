-- A comment's length and its grammar.
use Rattle.std.proofs.Common.{◌≡◌, ℕ, zero, suc, ◌+◌, Bool, true, false, cond, List, [], ◌∷◌, ◌++◌, Option, Some, None, length, take, length-append, append_assoc, refl, ap, sym, ◌∙◌, subst, arith, ◌≤◌}
use Rattle.std.specs.Prelude.{option_map, ◌&&◌, ◌||◌, ◌==◌, slice_index}
use Rattle.std.proofs.lemmas.Bool.{false≢true, eqb-true}
use Rattle.ctw_lex.specs.Items.{Mark, Opens, Closes, Neither, mark_of, inside, comment_len}
use Rattle.ctw_lex.specs.Grammar.{is_mark, IsInside, closed, nested, passed}
use Rattle.ctw_lex.proofs.Facts.{both_true, mapped_some, some_same, none_some}

-- what is left where a comment at this depth has been closed
abbrev level : ℕ → List ℕ → Option ℕ
level zero rest = Some 0
level (suc d) rest = comment_len d 0 rest

abbrev plus : ℕ → Option ℕ → Option ℕ
plus n o = option_map (λ k. n + k) o

no_mark : (p q : Bool) → (p || q) ≡ false → cond p Opens (cond q Closes Neither) ≡ Neither
no_mark true q e = absurd (false≢true (sym e))
no_mark false q e = rw e refl

two_more : (n : ℕ) (o : Option ℕ) → option_map suc (option_map suc (plus n o)) ≡ plus (suc (suc n)) o
two_more n None = refl
two_more n (Some k) = let e : suc (suc (n + k)) ≡ suc (suc n) + k = omega arith in ap Some e

one_more : (n : ℕ) (o : Option ℕ) → option_map suc (plus n o) ≡ plus (suc n) o
one_more n None = refl
one_more n (Some k) = let e : suc (n + k) ≡ suc n + k = omega arith in ap Some e

plus_plus : (m n k : ℕ) (o : Option ℕ) → k ≡ m + n → plus m (plus n o) ≡ plus k o
plus_plus m n k None e = refl
plus_plus m n k (Some i) e = let h : m + (n + i) ≡ k + i = omega arith in ap Some h

two_levels : (d : ℕ) (rest : List ℕ) → option_map suc (option_map suc (inside Closes d 41 (λ d l. comment_len d l rest))) ≡ plus 2 (level d rest)
two_levels zero rest = refl
two_levels (suc d) rest = go (comment_len d 0 rest)
  where
    go : (o : Option ℕ) → option_map suc (option_map suc o) ≡ plus 2 o
    go None = refl
    go (Some k) = let e : suc (suc k) ≡ 2 + k = omega arith in ap Some e

-- a comment is left where its grammar says
pub inside_len : {w : List ℕ} → IsInside w → (d last : ℕ) (rest : List ℕ) → mark_of last (slice_index w 0) ≡ Neither →
    comment_len d last (w ++ rest) ≡ plus (length w) (level d rest)
inside_len closed d last rest e = rw e (two_levels d rest)
inside_len (nested {inner} {more} h k) d last rest e =
    let a = inside_len h (suc d) 0 (more ++ rest) refl in
    let b = inside_len k d 0 rest refl in
    let c : length (inner ++ more) ≡ length inner + length more = length-append inner more in
    let f : comment_len (suc d) 0 ((inner ++ more) ++ rest) ≡ plus (length (inner ++ more)) (level d rest) =
    ap (comment_len (suc d) 0) (append_assoc inner more rest) ∙ (a ∙ (ap (plus (length inner)) b ∙ plus_plus (length inner) (length more) (length (inner ++ more)) (level d rest) c)) in
    rw (e, f) (two_more (length (inner ++ more)) (level d rest))
inside_len (passed {b} {more} m h) d last rest e =
    let a = inside_len h d b rest (no_mark (b == 40 && slice_index more 0 == 59) (b == 59 && slice_index more 0 == 41) m) in
    rw (e, a) (one_more (length more) (level d rest))

pub comment_len-inside : (w rest : List ℕ) → IsInside w → comment_len 0 0 (w ++ rest) ≡ Some (length w)
comment_len-inside w rest h = let e : length w + 0 ≡ length w = omega arith in inside_len h 0 0 rest refl ∙ ap Some e

-- a list of one closed inside more than the depth, one behind another
abbrev Levels : ℕ → List ℕ → Type 0
Levels zero w = IsInside w
Levels (suc d) w = (u : List ℕ) × (v : List ℕ) × IsInside u × Levels d v × (w ≡ u ++ v)

first_of : {u : List ℕ} → IsInside u → (v : List ℕ) → slice_index (u ++ v) 0 ≡ slice_index u 0
first_of closed v = refl
first_of (nested h k) v = refl
first_of (passed m h) v = refl

behind : (front : List ℕ) (d : ℕ) (w : List ℕ) → ((u : List ℕ) → slice_index u 0 ≡ slice_index w 0 → IsInside u → IsInside (front ++ u)) → Levels d w → Levels d (front ++ w)
behind front zero w f l = f w refl l
behind front (suc d) w f l =
    (front ++ l.0, l.1, f l.0 (sym (first_of l.2 l.1) ∙ ap (λ x. slice_index x 0) (sym l.4)) l.2, l.3, ap (λ x. front ++ x) l.4 ∙ sym (append_assoc front l.0 l.1))

nest : (d : ℕ) (w : List ℕ) → Levels (suc d) w → Levels d (40 ∷ 59 ∷ w)
nest zero w l = rw l.4 (nested l.2 l.3)
nest (suc d) w l =
    let m = l.3 in
    (40 ∷ 59 ∷ (l.0 ++ m.0), m.1, nested l.2 m.2, m.3, ap (λ x. 40 ∷ 59 ∷ x) (l.4 ∙ (ap (λ x. l.0 ++ x) m.4 ∙ sym (append_assoc l.0 m.0 m.1))))

-- what a mark says of its bytes
abbrev Says : Mark → ℕ → ℕ → Type 0
Says Opens x b = (x ≡ 40) × (b ≡ 59)
Says Closes x b = (x ≡ 59) × (b ≡ 41)
Says Neither x b = (us : List ℕ) → is_mark (x ∷ b ∷ us) ≡ false

says_if : (x b : ℕ) (p q : Bool) → (x == 40 && b == 59) ≡ p → (x == 59 && b == 41) ≡ q → Says (cond p Opens (cond q Closes Neither)) x b
says_if x b true q e f = let h = both_true (x == 40) (b == 59) e in (eqb-true x 40 h.0, eqb-true b 59 h.1)
says_if x b false true e f = let h = both_true (x == 59) (b == 41) f in (eqb-true x 59 h.0, eqb-true b 41 h.1)
says_if x b false false e f = λ us. rw (e, f) refl

says : (x b : ℕ) (m : Mark) → mark_of x b ≡ m → Says m x b
says x b m e = subst (λ m. Says m x b) e (says_if x b (x == 40 && b == 59) (x == 59 && b == 41) refl refl)

-- the inside that a length was found for, behind a byte that may begin a mark and behind none
record IsFound (bs : List ℕ) : Type 0 where
  pending : (d last n : ℕ) → comment_len d last bs ≡ Some n → Levels d (last ∷ take n bs)
  fresh : (d n : ℕ) → comment_len d 0 bs ≡ Some n → Levels d (take n bs)

pending_step : (b : ℕ) (bs : List ℕ) → IsFound bs → (d last n : ℕ) (m : Mark) → mark_of last b ≡ m → inside m d b (λ d l. comment_len d l bs) ≡ Some n → Levels d (last ∷ b ∷ take n bs)
pending_step b bs f d last n Opens e h =
    let s : (last ≡ 40) × (b ≡ 59) = says last b Opens e in
    rw (s.0, s.1) (nest d (take n bs) (f.fresh (suc d) n h))
pending_step b bs f zero last n Closes e h =
    let s : (last ≡ 59) × (b ≡ 41) = says last b Closes e in
    let z : 0 ≡ n = some_same h in
    rw (s.0, s.1, ← z) closed
pending_step b bs f (suc d) last n Closes e h =
    let s : (last ≡ 59) × (b ≡ 41) = says last b Closes e in
    rw (s.0, s.1) (59 ∷ 41 ∷ [], take n bs, closed, f.fresh d n h, refl)
pending_step b bs f d last n Neither e h =
    let s : (us : List ℕ) → is_mark (last ∷ b ∷ us) ≡ false = says last b Neither e in
    behind (last ∷ []) d (b ∷ take n bs) (λ u q i. passed (ap (λ x. last == 40 && x == 59 || last == 59 && x == 41) q ∙ s []) i) (f.pending d b n h)

found : (bs : List ℕ) → IsFound bs
found [] = record { pending = λ d last n e. absurd (none_some e); fresh = λ d n e. absurd (none_some e) }
found (b ∷ bs) =
    let f = found bs in
    record {
      pending = λ d last n e.
          let m = mapped_some (inside (mark_of last b) d b (λ d l. comment_len d l bs)) e in
          subst (λ n. Levels d (last ∷ take n (b ∷ bs))) m.2 (pending_step b bs f d last m.0 (mark_of last b) refl m.1);
      fresh = λ d n e.
          let m = mapped_some (comment_len d b bs) e in
          subst (λ n. Levels d (take n (b ∷ bs))) m.2 (f.pending d b m.0 m.1);
    }

pub inside-comment_len : (bs : List ℕ) (n : ℕ) → comment_len 0 0 bs ≡ Some n → IsInside (take n bs)
inside-comment_len bs n e = (found bs).fresh 0 n e

fits_step : (m : Mark) (d b n : ℕ) (bs : List ℕ) → ((d last n : ℕ) → comment_len d last bs ≡ Some n → n ≤ length bs) → inside m d b (λ d l. comment_len d l bs) ≡ Some n → n ≤ length bs
fits_step Opens d b n bs ih e = ih (suc d) 0 n e
fits_step Closes zero b n bs ih e = let z : 0 ≡ n = some_same e in omega arith
fits_step Closes (suc d) b n bs ih e = ih d 0 n e
fits_step Neither d b n bs ih e = ih d b n e

pub comment_fits : (bs : List ℕ) (d last n : ℕ) → comment_len d last bs ≡ Some n → n ≤ length bs
comment_fits [] d last n e = absurd (none_some e)
comment_fits (b ∷ bs) d last n e =
    let m = mapped_some (inside (mark_of last b) d b (λ d l. comment_len d l bs)) e in
    let h = fits_step (mark_of last b) d b m.0 bs (comment_fits bs) m.1 in
    let i : suc m.0 ≡ n = m.2 in
    omega arith
