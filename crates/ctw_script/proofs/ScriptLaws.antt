-- Scripts: their lines, what is read of them token by token, and that they have one reading.
use Rattle.std.proofs.Common.{◌≡◌, ℕ, suc, ◌+◌, ◌<◌, ◌≤◌, ◌==◌, Bool, true, false, List, [], ◌∷◌, ◌++◌, Some, All, length, drop, slice_get, refl, sym, ap, subst, ◌∙◌, arith, append_assoc, drop-cons, add-one, ◌⊎◌, inl, inr, map}
use Rattle.std.specs.List.{AllZip}
use Rattle.std.proofs.lemmas.List.{append-nil, drop_all, length_push, map-append}
use Rattle.std.proofs.lemmas.List.Elements.{All-push, All-nil, All-cons, All-head, All-tail}
use Rattle.std.proofs.lemmas.Option.{slice_get_within, get_or_from_slice_get}
use Rattle.std.proofs.lemmas.Bool.{eqb-true}
use Rattle.std.proofs.lemmas.Bool.Decides.{nat_tests}
use Rattle.ctw_lex.specs.declared.LexPlace.{LexPlace}
use Rattle.ctw_lex.specs.declared.list.Token.{Token}
use Rattle.ctw_lex.specs.Told.{lexeme_of}
use Rattle.ctw_lex.specs.Lexeme.{Lexeme}
use Rattle.ctw_lex.specs.Answers.{HasTokens}
use Rattle.ctw_lex.specs.Answers as lex
use Rattle.ctw_lex.proofs.Facts.{some_same, none_some}
use Rattle.ctw_script.specs.declared.moves.Move.{Move}
use Rattle.ctw_script.specs.declared.script.ScriptFault.{ScriptFault}
use Rattle.ctw_script.specs.declared.script.ScriptFault.TheVariants.{Lex, Line, NoMemory}
use Rattle.ctw_script.specs.Grammar.{IsMove}
use Rattle.ctw_script.specs.LineValues.{first_line, IsUnreadLine}
use Rattle.ctw_script.specs.Scripts.{lines_of, IsReading, HasReading, HasFault}
use Rattle.ctw_script.specs.Progress.{IsOneLine, ReadSoFar, IsLineCause, EndsLine, goes_on, KeepsReading, StopsReading}
use Rattle.ctw_script.proofs.LineLaws.{move_told, move_spelled}

-- ---- one reading

move_once : (ts : List Lexeme) (a b : Move) → IsMove ts a → IsMove ts b → a ≡ b
move_once ts a b h k = some_same (sym (move_told h) ∙ move_told k)

lines_once : (ls : List (List Lexeme)) (a b : List Move) → AllZip IsMove ls a → AllZip IsMove ls b → b ≡ a
lines_once [] [] [] h k = refl
lines_once [] [] (y ∷ ys) h k = absurd k
lines_once [] (x ∷ xs) b h k = absurd h
lines_once (l ∷ ls) [] b h k = absurd h
lines_once (l ∷ ls) (x ∷ xs) [] h k = absurd k
lines_once (l ∷ ls) (x ∷ xs) (y ∷ ys) h k =
    let e = move_once l y x k.0 h.0 in let f = lines_once ls xs ys h.1 k.1 in cc

zip_middle : (earlier : List (List Lexeme)) (line : List Lexeme) (later : List (List Lexeme)) (moves : List Move) →
    AllZip IsMove (earlier ++ line ∷ later) moves → (mv : Move) × IsMove line mv
zip_middle [] line later [] h = absurd h
zip_middle [] line later (mv ∷ moves) h = (mv, h.0)
zip_middle (l ∷ ls) line later [] h = absurd h
zip_middle (l ∷ ls) line later (mv ∷ moves) h = zip_middle ls line later moves h.1

zip_push : (ls : List (List Lexeme)) (moves : List Move) (l : List Lexeme) (mv : Move) → AllZip IsMove ls moves → IsMove l mv →
    AllZip IsMove (ls ++ l ∷ []) (moves ++ mv ∷ [])
zip_push [] [] l mv h k = (k, tt)
zip_push [] (x ∷ xs) l mv h k = absurd h
zip_push (y ∷ ys) [] l mv h k = absurd h
zip_push (y ∷ ys) (x ∷ xs) l mv h k = (h.0, zip_push ys xs l mv h.1 k)

zip_all : (ls : List (List Lexeme)) (moves : List Move) → AllZip IsMove ls moves → All (λ ts. (mv : Move) × IsMove ts mv) ls
zip_all [] moves h = All-nil (λ ts. (mv : Move) × IsMove ts mv)
zip_all (l ∷ ls) [] h = absurd h
zip_all (l ∷ ls) (mv ∷ moves) h = All-cons (λ ts. (mv : Move) × IsMove ts mv) l ls (mv, h.0) (zip_all ls moves h.1)

pub script_read : (text : List ℕ) (tokens : List Lexeme) (moves : List Move) → HasTokens text tokens → AllZip IsMove (lines_of tokens) moves → HasReading text moves
script_read text tokens moves h k = record {
  reading = record { tokens = tokens; lexed = h.lists; read = k };
  only = λ other r.
      let same = h.only r.tokens r.lexed in
      lines_once (lines_of tokens) moves other k (subst (λ ts. AllZip IsMove (lines_of ts) other) same r.read);
}

pub readings_are_one : (text : List ℕ) (tokens : List Lexeme) (a b : List Move) → HasTokens text tokens → IsReading text a → IsReading text b → a ≡ b
readings_are_one text tokens a b h r s =
    let k = subst (λ ts. AllZip IsMove (lines_of ts) a) (h.only r.tokens r.lexed) r.read in
    let l = subst (λ ts. AllZip IsMove (lines_of ts) b) (h.only s.tokens s.lexed) s.read in
    lines_once (lines_of tokens) b a l k

pub lex_fault : (text : List ℕ) (place : LexPlace) → lex.HasFault text place → HasFault text (Lex place.line)
lex_fault text place h = record {
  cause = record { place = place; faulty = h.faulty; same = refl };
  unread = λ some moves r. h.listless r.tokens r.lexed;
}

pub line_fault : (text : List ℕ) (tokens : List Lexeme) (fault : ScriptFault) → HasTokens text tokens → IsLineCause tokens fault → HasFault text fault
line_fault text tokens (Lex line) h k = absurd k
line_fault text tokens NoMemory h k = record { cause = tt; unread = λ some moves r. some refl }
line_fault text tokens (Line line) h k = record {
  cause = record {
    tokens = tokens;
    lexed = h.lists;
    earlier = k.earlier;
    first = k.first;
    more = k.more;
    later = k.later;
    lines = k.lines;
    number = k.same;
    read = k.read;
    unread = k.unread;
  };
  unread = λ some moves r.
      let same = h.only r.tokens r.lexed in
      let zip = subst (λ ls. AllZip IsMove ls moves) (ap lines_of same ∙ k.lines) r.read in
      let found = zip_middle k.earlier (k.first ∷ k.more) k.later moves zip in
      k.unread found.0 found.1;
}

-- ---- lines

-- the first token isn't on this line
abbrev pub Elsewhere : ℕ → List Lexeme → Type 0
Elsewhere n [] = Unit {0}
Elsewhere n (t ∷ ts) = (n == t.line) ≡ false

record HasHead (t : Lexeme) (ts : List Lexeme) : Type 0 where
  more : List Lexeme
  later : List (List Lexeme)
  lines : lines_of (t ∷ ts) ≡ (t ∷ more) ∷ later

head_by : (t u : Lexeme) (us : List Lexeme) (later : List (List Lexeme)) (ts : List Lexeme) → lines_of ts ≡ (u ∷ us) ∷ later →
    (b : Bool) → (t.line == u.line) ≡ b → HasHead t ts
head_by t u us later ts e true f = record { more = u ∷ us; later = later; lines = rw (e, f) refl }
head_by t u us later ts e false f = record { more = []; later = (u ∷ us) ∷ later; lines = rw (e, f) refl }

head_of : (t : Lexeme) (ts : List Lexeme) → HasHead t ts
head_of t [] = record { more = []; later = []; lines = refl }
head_of t (u ∷ us) = let h = head_of u us in head_by t u h.more h.later (u ∷ us) h.lines (t.line == u.line) refl

single : (u : Lexeme) (rest : List Lexeme) → Elsewhere u.line rest → lines_of (u ∷ rest) ≡ (u ∷ []) ∷ lines_of rest
single u [] away = refl
single u (t ∷ ts) away = let h = head_of t ts in rw (h.lines, away) refl

same_line : (m n : ℕ) → m ≡ n → (n == m) ≡ true
same_line m n e = grind (arith, nat_tests)

all_same : (us : List Lexeme) (m n : ℕ) → m ≡ n → All (λ u. u.line ≡ n) us → All (λ u. u.line ≡ m) us
all_same us m n e h = subst (λ k. All (λ u. u.line ≡ k) us) (sym e) h

cut : (u : Lexeme) (us rest : List Lexeme) → All (λ x. x.line ≡ u.line) us → Elsewhere u.line rest →
    lines_of ((u ∷ us) ++ rest) ≡ (u ∷ us) ∷ lines_of rest
cut u [] rest same away = single u rest away
cut u (v ∷ vs) rest same away =
    let e : v.line ≡ u.line = All-head (λ x. x.line ≡ u.line) v vs same in
    let others = All-tail (λ x. x.line ≡ u.line) v vs same in
    let h = cut v vs rest (all_same vs v.line u.line e others) (subst (λ n. Elsewhere n rest) (sym e) away) in
    rw (h, same_line v.line u.line e) refl

-- ---- what is read token by token

pub nothing_read : (tokens : List Lexeme) → ReadSoFar tokens 0 [] []
nothing_read tokens = record { earlier = []; read = tt; lines = refl; one = tt; few = omega arith }

dropped : (tokens : List Lexeme) (i : ℕ) (t : Lexeme) → slice_get tokens i ≡ Some t → drop i tokens ≡ t ∷ drop (i + 1) tokens
dropped tokens i t h =
    let e = drop-cons tokens i t (slice_get_within tokens i t h) in
    e ∙ ap (λ x. x ∷ drop (suc i) tokens) (get_or_from_slice_get tokens i t t h) ∙ ap (λ n. t ∷ drop n tokens) (sym (add-one i))

pub token_read : (tokens : List Lexeme) (i : ℕ) (line : List Lexeme) (moves : List Move) (t : Lexeme) → ReadSoFar tokens i line moves →
    slice_get tokens i ≡ Some t → IsOneLine (line ++ t ∷ []) → ReadSoFar tokens (i + 1) (line ++ t ∷ []) moves
token_read tokens i line moves t h k one = record {
  earlier = h.earlier;
  read = h.read;
  lines =
      let e = ap (λ rest. lines_of (line ++ rest)) (dropped tokens i t k) in
      let f : line ++ t ∷ drop (i + 1) tokens ≡ (line ++ t ∷ []) ++ drop (i + 1) tokens = sym (append_assoc line (t ∷ []) (drop (i + 1) tokens)) in
      h.lines ∙ ap (λ ls. h.earlier ++ ls) (e ∙ ap lines_of f);
  one = one;
  few = let n = h.few in simp length_push (omega arith);
}

pub line_ended : (tokens : List Lexeme) (i : ℕ) (u : Lexeme) (us : List Lexeme) (moves moves' : List Move) → ReadSoFar tokens i (u ∷ us) moves →
    Elsewhere u.line (drop i tokens) → EndsLine (u ∷ us) moves moves' → ReadSoFar tokens i [] moves'
line_ended tokens i u us moves moves' h away k = record {
  earlier = h.earlier ++ (u ∷ us) ∷ [];
  read = subst (AllZip IsMove (h.earlier ++ (u ∷ us) ∷ [])) (sym k.added) (zip_push h.earlier moves (u ∷ us) k.last h.read (move_spelled (u ∷ us) k.last k.read));
  lines =
      h.lines ∙ ap (λ ls. h.earlier ++ ls) (cut u us (drop i tokens) h.one away)
      ∙ sym (append_assoc h.earlier ((u ∷ us) ∷ []) (lines_of (drop i tokens)));
  one = tt;
  few = let n = h.few in rw k.added (simp length_push (omega arith));
}

pub line_unread : (tokens : List Lexeme) (i : ℕ) (u : Lexeme) (us : List Lexeme) (moves : List Move) (fault : ScriptFault) → ReadSoFar tokens i (u ∷ us) moves →
    Elsewhere u.line (drop i tokens) → IsUnreadLine (u ∷ us) fault → IsLineCause tokens fault
line_unread tokens i u us moves (Lex n) h away k = k
line_unread tokens i u us moves NoMemory h away k = tt
line_unread tokens i u us moves (Line n) h away k = record {
  earlier = h.earlier;
  first = u;
  more = us;
  later = lines_of (drop i tokens);
  lines = h.lines ∙ ap (λ ls. h.earlier ++ ls) (cut u us (drop i tokens) h.one away);
  same = k.1;
  read = zip_all h.earlier moves h.read;
  unread = λ mv r. none_some (sym k.0 ∙ move_told r);
}

pub all_read : (tokens : List Lexeme) (i : ℕ) (moves : List Move) → ReadSoFar tokens i [] moves → length tokens ≤ i → AllZip IsMove (lines_of tokens) moves
all_read tokens i moves h end =
    let e : lines_of (drop i tokens) ≡ [] = ap lines_of (drop_all i tokens end) in
    let f : lines_of tokens ≡ h.earlier = h.lines ∙ ap (λ ls. h.earlier ++ ls) e ∙ append-nil h.earlier in
    subst (λ ls. AllZip IsMove ls moves) (sym f) h.read

-- ---- as the code goes on

elsewhere : (tokens : List Lexeme) (i n : ℕ) (t : Lexeme) → slice_get tokens i ≡ Some t → (n == t.line) ≡ false → Elsewhere n (drop i tokens)
elsewhere tokens i n t h e = rw (dropped tokens i t h) e

pub may_go_on : (u t : Lexeme) (us : List Lexeme) → All (λ x. x.line ≡ u.line) us → u.line ≡ t.line → IsOneLine ((u ∷ us) ++ t ∷ [])
may_go_on u t us h e = All-push (λ x. x.line ≡ u.line) us t h (sym e)

-- the token is the first of its line, or stands on the line
pub goes_on_from : (line : List Lexeme) (moves : List Move) (t : Lexeme) → (line ≡ []) ⊎ (first_line line ≡ t.line) →
    KeepsReading line moves t (line ++ t ∷ []) moves
goes_on_from [] moves t h tokens i k read = token_read tokens i [] moves t read k (All-nil (λ x. x.line ≡ t.line))
goes_on_from (u ∷ us) moves t (inl h) tokens i k read = absurd (cc)
goes_on_from (u ∷ us) moves t (inr h) tokens i k read = token_read tokens i (u ∷ us) moves t read k (may_go_on u t us read.one h)

pub begins_line : (line : List Lexeme) (moves moves' : List Move) (t : Lexeme) → 0 < length line → (first_line line == t.line) ≡ false →
    EndsLine line moves moves' → KeepsReading line moves t (t ∷ []) moves'
begins_line [] moves moves' t some e ended tokens i k read = absurd (omega (arith, some))
begins_line (u ∷ us) moves moves' t some e ended tokens i k read =
    let done = line_ended tokens i u us moves moves' read (elsewhere tokens i u.line t k e) ended in
    token_read tokens i [] moves' t done k (All-nil (λ x. x.line ≡ t.line))

pub stops : (line : List Lexeme) (moves : List Move) (t : Lexeme) (fault : ScriptFault) → 0 < length line → (first_line line == t.line) ≡ false →
    IsUnreadLine line fault → StopsReading line moves t fault
stops [] moves t fault some e bad tokens i k read = absurd (omega (arith, some))
stops (u ∷ us) moves t fault some e bad tokens i k read =
    line_unread tokens i u us moves fault read (elsewhere tokens i u.line t k e) bad

pub last_line : (tokens : List Lexeme) (i : ℕ) (line : List Lexeme) (moves moves' : List Move) → 0 < length line → length tokens ≤ i →
    ReadSoFar tokens i line moves → EndsLine line moves moves' → AllZip IsMove (lines_of tokens) moves' × (length moves' ≤ i)
last_line tokens i [] moves moves' some end read ended = absurd (omega (arith, some))
last_line tokens i (u ∷ us) moves moves' some end read ended =
    let away : Elsewhere u.line (drop i tokens) = rw (drop_all i tokens end) tt in
    let done = line_ended tokens i u us moves moves' read away ended in
    let n = done.few in
    (all_read tokens i moves' done end, omega arith)

pub last_unread : (tokens : List Lexeme) (i : ℕ) (line : List Lexeme) (moves : List Move) (fault : ScriptFault) → 0 < length line → length tokens ≤ i →
    ReadSoFar tokens i line moves → IsUnreadLine line fault → IsLineCause tokens fault
last_unread tokens i [] moves fault some end read bad = absurd (omega (arith, some))
last_unread tokens i (u ∷ us) moves fault some end read bad =
    let away : Elsewhere u.line (drop i tokens) = rw (drop_all i tokens end) tt in
    line_unread tokens i u us moves fault read away bad

-- ---- the same on the code's tokens

pub line_goes_on : (line line' : List Token) (moves : List Move) (t : Token) → goes_on (map lexeme_of line) (lexeme_of t) ≡ true →
    line' ≡ line ++ t ∷ [] → KeepsReading (map lexeme_of line) moves (lexeme_of t) (map lexeme_of line') moves
line_goes_on [] line' moves t h e = rw e (goes_on_from [] moves (lexeme_of t) (inl refl))
line_goes_on (u ∷ us) line' moves t h e =
    let same : u.line ≡ t.line = eqb-true u.line t.line h in
    rw (e, map-append) (goes_on_from (map lexeme_of (u ∷ us)) moves (lexeme_of t) (inr same))

pub line_is_some : (line : List Token) (t : Token) → goes_on (map lexeme_of line) (lexeme_of t) ≡ false → 0 < length line
line_is_some [] t h = absurd (cc)
line_is_some (u ∷ us) t h = omega arith

pub next_line_begins : (line line' : List Token) (moves moves' : List Move) (t : Token) → goes_on (map lexeme_of line) (lexeme_of t) ≡ false →
    EndsLine (map lexeme_of line) moves moves' → line' ≡ t ∷ [] → KeepsReading (map lexeme_of line) moves (lexeme_of t) (map lexeme_of line') moves'
next_line_begins [] line' moves moves' t h ended e = absurd (cc)
next_line_begins (u ∷ us) line' moves moves' t h ended e =
    rw e (begins_line (map lexeme_of (u ∷ us)) moves moves' (lexeme_of t) (omega arith) h ended)

pub line_stops : (line : List Token) (moves : List Move) (t : Token) (fault : ScriptFault) → goes_on (map lexeme_of line) (lexeme_of t) ≡ false →
    IsUnreadLine (map lexeme_of line) fault → StopsReading (map lexeme_of line) moves (lexeme_of t) fault
line_stops [] moves t fault h bad = absurd (cc)
line_stops (u ∷ us) moves t fault h bad = stops (map lexeme_of (u ∷ us)) moves (lexeme_of t) fault (omega arith) h bad
