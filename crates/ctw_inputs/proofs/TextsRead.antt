-- Texts, and what scripts stand for.
use Rattle.std.proofs.Common.{◌≡◌, ◌≢◌, ℕ, Bool, true, false, List, [], ◌∷◌, ◌++◌, All, Result, Ok, Err, refl, sym, ap, ◌∙◌, cond, subst}
use Rattle.std.specs.Str.{IsUtf8, is_utf8}
use Rattle.std.specs.Str.Lossy.{utf8_valid_len}
use Rattle.std.proofs.lemmas.Str.{IsUtf8-from_is_utf8, is_utf8-from_IsUtf8}
use Rattle.std.proofs.lemmas.List.Elements.{All-head, All-tail}
use Rattle.ctw_lex.specs.declared.LexPlace.{LexPlace}
use Rattle.ctw_lex.specs.Lexeme.{Lexeme}
use Rattle.ctw_lex.proofs.Reading.{listed_read, broken_first}
use Rattle.ctw_script.specs.declared.moves.Move.{Move}
use Rattle.ctw_script.specs.declared.script.ScriptFault.{ScriptFault}
use Rattle.ctw_script.specs.declared.script.ScriptFault.TheVariants.{Lex, Line, NoMemory}
use Rattle.ctw_script.specs.Grammar.{IsMove}
use Rattle.ctw_script.specs.Scripts.{lines_of, HasReading, HasFault, HasLexFault, HasLineFault}
use Rattle.ctw_lines.specs.Lines.{not_text_line, script_line}
use Rattle.ctw_inputs.specs.declared.said.Status.TheVariants.{Refused}
use Rattle.ctw_inputs.specs.Outcome.{Outcome, ends}
use Rattle.ctw_inputs.specs.Inputs.{on_text, on_moves}
use Rattle.ctw_inputs.specs.declared.said.Stop.{Stop}
use Rattle.ctw_inputs.specs.declared.said.Stop.TheVariants as stop
use Rattle.ctw_inputs.specs.Settling.{Reads, FollowsReading}

-- ---- texts

decided : (name bytes : List ℕ) (go : List ℕ → Outcome) (t : Bool) → is_utf8 bytes ≡ t → on_text name bytes go ≡ cond t (go bytes) (ends Refused (not_text_line name (utf8_valid_len bytes)))
decided name bytes go t e = ap (λ (t : Bool). cond t (go bytes) (ends Refused (not_text_line name (utf8_valid_len bytes)))) e

pub is_text : (name bytes : List ℕ) (go : List ℕ → Outcome) → IsUtf8 bytes → on_text name bytes go ≡ go bytes
is_text name bytes go h = decided name bytes go true (is_utf8-from_IsUtf8 bytes h)

pub not_text : (name bytes : List ℕ) (place : ℕ) (go : List ℕ → Outcome) → ¬ (IsUtf8 bytes) → place ≡ utf8_valid_len bytes → on_text name bytes go ≡ ends Refused (not_text_line name place)
not_text name bytes place go h e = by (is_utf8 bytes) refl ∙ ap (λ (n : ℕ). ends Refused (not_text_line name n)) (sym e)
  where
    by : (t : Bool) → is_utf8 bytes ≡ t → on_text name bytes go ≡ ends Refused (not_text_line name (utf8_valid_len bytes))
    by true q = absurd (h (IsUtf8-from_is_utf8 bytes q))
    by false q = decided name bytes go false q

-- ---- a script has one fault at most

-- the first item of a list that has no such property
first_without : {X : Type 0} (P : X → Type 0) (before others : List X) (x y : X) (after later : List X) → before ++ x ∷ after ≡ others ++ y ∷ later → All P before → All P others → ¬ (P x) → ¬ (P y) → x ≡ y
first_without P [] [] x y after later e h k p q = cc
first_without P [] (o ∷ others) x y after later e h k p q = let s : o ≡ x = cc in absurd (p (subst P s (All-head P o others k)))
first_without P (b ∷ before) [] x y after later e h k p q = let s : b ≡ y = cc in absurd (q (subst P s (All-head P b before h)))
first_without P (b ∷ before) (o ∷ others) x y after later e h k p q =
    let s : before ++ x ∷ after ≡ others ++ y ∷ later = cc in
    first_without P before others x y after later s (All-tail P b before h) (All-tail P o others k) p q

abbrev StandsForMove : List Lexeme → Type 0
StandsForMove ts = (mv : Move) × IsMove ts mv

one_lex : (text : List ℕ) (a b : ℕ) → HasLexFault text a → HasLexFault text b → a ≡ b
one_lex text a b h k =
    let p = broken_first h.faulty in
    let q = broken_first k.faulty in
    let same : h.place ≡ k.place = cc in
    sym h.same ∙ ap (λ (p : LexPlace). p.line) same ∙ k.same

one_line : (text : List ℕ) (a b : ℕ) → HasLineFault text a → HasLineFault text b → a ≡ b
one_line text a b h k =
    let p = listed_read h.lexed in
    let q = listed_read k.lexed in
    let same : h.tokens ≡ k.tokens = cc in
    let lines : h.earlier ++ (h.first ∷ h.more) ∷ h.later ≡ k.earlier ++ (k.first ∷ k.more) ∷ k.later = sym h.lines ∙ ap lines_of same ∙ k.lines in
    let found = first_without StandsForMove h.earlier k.earlier (h.first ∷ h.more) (k.first ∷ k.more) h.later k.later lines h.read k.read (λ m. h.unread m.0 m.1) (λ m. k.unread m.0 m.1) in
    let first : h.first ≡ k.first = cc in
    sym h.number ∙ ap (λ (t : Lexeme). t.line) first ∙ k.number

not_both : (text : List ℕ) (a b : ℕ) → HasLexFault text a → HasLineFault text b → ⊥
not_both text a b h k =
    let p = broken_first h.faulty in
    let q = listed_read k.lexed in
    cc

one_fault : (text : List ℕ) (a b : ScriptFault) → HasFault text a → HasFault text b → a ≢ NoMemory → b ≢ NoMemory → a ≡ b
one_fault text (Lex a) (Lex b) h k p q = ap (λ (n : ℕ). Lex n) (one_lex text a b h.cause k.cause)
one_fault text (Lex a) (Line b) h k p q = absurd (not_both text a b h.cause k.cause)
one_fault text (Line a) (Lex b) h k p q = absurd (not_both text b a k.cause h.cause)
one_fault text (Line a) (Line b) h k p q = ap (λ (n : ℕ). Line n) (one_line text a b h.cause k.cause)
one_fault text NoMemory b h k p q = absurd (p refl)
one_fault text (Lex a) NoMemory h k p q = absurd (q refl)
one_fault text (Line a) NoMemory h k p q = absurd (q refl)

-- ---- what is told of a script that is read, or isn't

pub moves_told : (text : List ℕ) (moves : List Move) (reading : Result (List Move) ScriptFault) (go : List Move → Outcome) → HasReading text moves → Reads text reading → on_moves reading go ≡ go moves
moves_told text moves (Ok other) go h k = ap go (h.only other k.reading)
moves_told text moves (Err fault) go h k = absurd (k.0.unread k.1 moves h.reading)

pub fault_told : (text : List ℕ) (fault : ScriptFault) (reading : Result (List Move) ScriptFault) (go : List Move → Outcome) → HasFault text fault → fault ≢ NoMemory → Reads text reading → on_moves reading go ≡ ends Refused (script_line fault)
fault_told text fault (Ok moves) go h some k = absurd (h.unread some moves k.reading)
fault_told text fault (Err other) go h some k = ap (λ (f : ScriptFault). ends Refused (script_line f)) (one_fault text other fault k.0 h k.1 some)

pub follows : (text : List ℕ) (why : Stop) (fault : ScriptFault) → why ≢ stop.ReadFault → HasFault text fault → fault ≢ NoMemory → FollowsReading text (Err why)
follows text (stop.Says said) fault quiet h some = (fault, (h, some))
follows text stop.ReadFault fault quiet h some = absurd (quiet refl)
follows text stop.NoMemory fault quiet h some = tt
