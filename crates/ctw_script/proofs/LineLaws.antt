-- Lines, by the grammar and by a function.
use Rattle.std.proofs.Common.{◌≡◌, ℕ, ◌^◌, Bool, true, false, List, [], ◌∷◌, Option, Some, option_map, nat_lt, refl, sym, ap, subst, ◌∙◌, codes, if◌then◌else◌}
use Rattle.std.specs.List.{AllZip}
use Rattle.std.specs.Str.{is_utf8, bytes_eq}
use Rattle.std.proofs.lemmas.Str.{IsUtf8-from_is_utf8, is_utf8-from_IsUtf8}
use Rattle.ctw_ops.specs.Segments.{and_then}
use Rattle.ctw_lex.specs.declared.TokenKind.{TokenKind}
use Rattle.ctw_lex.specs.declared.TokenKind.TheVariants.{Left, Right, Atom, Text}
use Rattle.ctw_lex.specs.Lexeme.{Lexeme}
use Rattle.ctw_lex.specs.Strings.{string_value}
use Rattle.ctw_lex.specs.NumberForms.{IsNumber}
use Rattle.ctw_lex.specs.NumberValues.{number_value}
use Rattle.ctw_lex.proofs.NumberLaws.{number_told, number_spelled}
use Rattle.ctw_lex.proofs.Spelling.{string_value-string, string-string_value}
use Rattle.ctw_lex.proofs.Facts.{some_same, none_some, mapped_some}
use Rattle.ctw_script.specs.declared.line.Verb.{Verb}
use Rattle.ctw_script.specs.declared.line.Verb.TheVariants as verb
use Rattle.ctw_script.specs.declared.line.Place.{Place}
use Rattle.ctw_script.specs.declared.moves.Arg.{Arg}
use Rattle.ctw_script.specs.declared.moves.Move.{Move}
use Rattle.ctw_script.specs.Grammar.{IsArgument, IsWord, IsNumberBelow, IsBytes, IsName, IsArgumentToken, IsPlace, place, IsMove, begin, turn, drop, poke, peek, seal, reveal}
use Rattle.ctw_script.specs.MoveValues.{atom_of_kind, atom_text, number_below, bytes_of_kind, bytes_value, name_value, argument_value, argument_of, arguments_of, begin_of, turn_of, leave_of, poke_of, place_of, verb_of, of_verb, move_of}
use Rattle.ctw_script.proofs.Facts.{and_then_found, tested_found, lt_true, true_lt, eq_bytes}
use Rattle.ctw_script.proofs.ArgumentLaws.{argument_told, argument_spelled}

-- ---- tokens

atom_found : (k : TokenKind) (text word : List ℕ) → atom_of_kind k text ≡ Some word → (k ≡ Atom) × (text ≡ word)
atom_found Left text word h = absurd (none_some h)
atom_found Right text word h = absurd (none_some h)
atom_found Text text word h = absurd (none_some h)
atom_found Atom text word h = (refl, some_same h)

atom_told : (t : Lexeme) → t.kind ≡ Atom → atom_text t ≡ Some t.text
atom_told t e = rw e refl

number_below_told : {limit n : ℕ} {t : Lexeme} → IsNumberBelow limit t n → number_below limit t ≡ Some n
number_below_told {limit} {n} {t} h = rw (atom_told t h.kind, number_told h.spelled, lt_true n limit h.below) refl

number_below_spelled : (limit n : ℕ) (t : Lexeme) → number_below limit t ≡ Some n → IsNumberBelow limit t n
number_below_spelled limit n t h =
    let passed = tested_found (λ k. nat_lt k limit) (and_then (atom_text t) number_value) n h in
    let found = and_then_found (atom_text t) number_value n passed.0 in
    let atom = atom_found t.kind t.text found.0 found.1 in
    record {
      kind = atom.0;
      spelled = subst (λ w. IsNumber w n) (sym atom.1) (number_spelled found.0 n found.2);
      below = true_lt n limit passed.1;
    }

text_found : (k : TokenKind) (text bytes : List ℕ) → bytes_of_kind k text ≡ Some bytes → (k ≡ Text) × (string_value text ≡ Some bytes)
text_found Left text bytes h = absurd (none_some h)
text_found Right text bytes h = absurd (none_some h)
text_found Atom text bytes h = absurd (none_some h)
text_found Text text bytes h = (refl, h)

bytes_told : {t : Lexeme} {bytes : List ℕ} → IsBytes t bytes → bytes_value t ≡ Some bytes
bytes_told {t} {bytes} h = rw h.kind (string_value-string t.text bytes h.spelled)

bytes_spelled : (t : Lexeme) (bytes : List ℕ) → bytes_value t ≡ Some bytes → IsBytes t bytes
bytes_spelled t bytes h =
    let found = text_found t.kind t.text bytes h in
    record { kind = found.0; spelled = string-string_value t.text bytes found.1 }

name_told : {t : Lexeme} {name : List ℕ} → IsName t name → name_value t ≡ Some name
name_told {t} {name} h = rw (bytes_told h.bytes, is_utf8-from_IsUtf8 name h.utf8) refl

name_spelled : (t : Lexeme) (name : List ℕ) → name_value t ≡ Some name → IsName t name
name_spelled t name h =
    let passed = tested_found is_utf8 (bytes_value t) name h in
    record { bytes = bytes_spelled t name passed.0; utf8 = IsUtf8-from_is_utf8 name passed.1 }

argument_of_told : {t : Lexeme} {arg : Arg} → IsArgumentToken t arg → argument_of t ≡ Some arg
argument_of_told {t} {arg} h = rw (atom_told t h.kind) (argument_told h.spelled)

argument_of_spelled : (t : Lexeme) (arg : Arg) → argument_of t ≡ Some arg → IsArgumentToken t arg
argument_of_spelled t arg h =
    let found = and_then_found (atom_text t) argument_value arg h in
    let atom = atom_found t.kind t.text found.0 found.1 in
    record { kind = atom.0; spelled = subst (λ w. IsArgument w arg) (sym atom.1) (argument_spelled found.0 arg found.2) }

arguments_told : (ts : List Lexeme) (args : List Arg) → AllZip IsArgumentToken ts args → arguments_of ts ≡ Some args
arguments_told [] [] h = refl
arguments_told [] (arg ∷ args) h = absurd h
arguments_told (t ∷ ts) [] h = absurd h
arguments_told (t ∷ ts) (arg ∷ args) h = rw (argument_of_told h.0, arguments_told ts args h.1) refl

arguments_spelled : (ts : List Lexeme) (args : List Arg) → arguments_of ts ≡ Some args → AllZip IsArgumentToken ts args
arguments_spelled [] args h = subst (AllZip IsArgumentToken []) (some_same h) tt
arguments_spelled (t ∷ ts) args h =
    let found = and_then_found (argument_of t) (λ arg. option_map (λ more. arg ∷ more) (arguments_of ts)) args h in
    let rest = mapped_some {f = λ more. found.0 ∷ more} (arguments_of ts) found.2 in
    subst (AllZip IsArgumentToken (t ∷ ts)) rest.2 (argument_of_spelled t found.0 found.1, arguments_spelled ts rest.0 rest.1)

-- ---- what stands behind the first word

place_told : {ts : List Lexeme} {part memory : List ℕ} {at count : ℕ} → IsPlace ts part memory at count →
    place_of ts ≡ Some (record { part = part; memory = memory; at = at; count = count })
place_told (place a b c d) = rw (name_told a, name_told b, number_below_told c, number_below_told d) refl

place_spelled : (ts : List Lexeme) (p : Place) → place_of ts ≡ Some p → IsPlace ts p.part p.memory p.at p.count
place_spelled [] p h = absurd (none_some h)
place_spelled (t1 ∷ []) p h = absurd (none_some h)
place_spelled (t1 ∷ t2 ∷ []) p h = absurd (none_some h)
place_spelled (t1 ∷ t2 ∷ t3 ∷ []) p h = absurd (none_some h)
place_spelled (t1 ∷ t2 ∷ t3 ∷ t4 ∷ t5 ∷ ts) p h = absurd (none_some h)
place_spelled (t1 ∷ t2 ∷ t3 ∷ t4 ∷ []) p h =
    let a = and_then_found (name_value t1) _ p h in
    let b = and_then_found (name_value t2) _ p a.2 in
    let c = and_then_found (number_below (2 ^ 32) t3) _ p b.2 in
    let d = and_then_found (number_below 0x10_0001 t4) _ p c.2 in
    let same = some_same d.2 in
    subst (λ (q : Place). IsPlace (t1 ∷ t2 ∷ t3 ∷ t4 ∷ []) q.part q.memory q.at q.count) same
    (place (name_spelled t1 a.0 a.1) (name_spelled t2 b.0 b.1) (number_below_spelled (2 ^ 32) c.0 t3 c.1) (number_below_spelled 0x10_0001 d.0 t4 d.1))

begin_spelled : (w : Lexeme) → IsWord (codes "begin") w → (ts : List Lexeme) (mv : Move) → begin_of ts ≡ Some mv → IsMove (w ∷ ts) mv
begin_spelled w first [] mv h = absurd (none_some h)
begin_spelled w first (s ∷ []) mv h = absurd (none_some h)
begin_spelled w first (s ∷ p ∷ []) mv h = absurd (none_some h)
begin_spelled w first (s ∷ p ∷ e ∷ ts) mv h =
    let a = and_then_found (number_below 64 s) _ mv h in
    let b = and_then_found (name_value p) _ mv a.2 in
    let c = and_then_found (name_value e) _ mv b.2 in
    let d = and_then_found (arguments_of ts) _ mv c.2 in
    subst (IsMove (w ∷ s ∷ p ∷ e ∷ ts)) (some_same d.2)
    (begin first (number_below_spelled 64 a.0 s a.1) (name_spelled p b.0 b.1) (name_spelled e c.0 c.1) (arguments_spelled ts d.0 d.1))

turn_spelled : (w : Lexeme) → IsWord (codes "turn") w → (ts : List Lexeme) (mv : Move) → turn_of ts ≡ Some mv → IsMove (w ∷ ts) mv
turn_spelled w first [] mv h = absurd (none_some h)
turn_spelled w first (s ∷ []) mv h = absurd (none_some h)
turn_spelled w first (s ∷ n ∷ t ∷ ts) mv h = absurd (none_some h)
turn_spelled w first (s ∷ n ∷ []) mv h =
    let a = and_then_found (number_below 64 s) _ mv h in
    let b = and_then_found (number_below (2 ^ 32) n) _ mv a.2 in
    subst (IsMove (w ∷ s ∷ n ∷ [])) (some_same b.2)
    (turn first (number_below_spelled 64 a.0 s a.1) (number_below_spelled (2 ^ 32) b.0 n b.1))

leave_spelled : (w : Lexeme) → IsWord (codes "drop") w → (ts : List Lexeme) (mv : Move) → leave_of ts ≡ Some mv → IsMove (w ∷ ts) mv
leave_spelled w first [] mv h = absurd (none_some h)
leave_spelled w first (s ∷ t ∷ ts) mv h = absurd (none_some h)
leave_spelled w first (s ∷ []) mv h =
    let a = and_then_found (number_below 64 s) _ mv h in
    subst (IsMove (w ∷ s ∷ [])) (some_same a.2) (drop first (number_below_spelled 64 a.0 s a.1))

poke_spelled : (w : Lexeme) → IsWord (codes "poke") w → (ts : List Lexeme) (mv : Move) → poke_of ts ≡ Some mv → IsMove (w ∷ ts) mv
poke_spelled w first [] mv h = absurd (none_some h)
poke_spelled w first (t1 ∷ []) mv h = absurd (none_some h)
poke_spelled w first (t1 ∷ t2 ∷ []) mv h = absurd (none_some h)
poke_spelled w first (t1 ∷ t2 ∷ t3 ∷ []) mv h = absurd (none_some h)
poke_spelled w first (t1 ∷ t2 ∷ t3 ∷ t4 ∷ t5 ∷ ts) mv h = absurd (none_some h)
poke_spelled w first (t1 ∷ t2 ∷ t3 ∷ t4 ∷ []) mv h =
    let a = and_then_found (name_value t1) _ mv h in
    let b = and_then_found (name_value t2) _ mv a.2 in
    let c = and_then_found (number_below (2 ^ 32) t3) _ mv b.2 in
    let d = and_then_found (bytes_value t4) _ mv c.2 in
    subst (IsMove (w ∷ t1 ∷ t2 ∷ t3 ∷ t4 ∷ [])) (some_same d.2)
    (poke first (name_spelled t1 a.0 a.1) (name_spelled t2 b.0 b.1) (number_below_spelled (2 ^ 32) c.0 t3 c.1) (bytes_spelled t4 d.0 d.1))

peek_spelled : (w : Lexeme) → IsWord (codes "peek") w → (ts : List Lexeme) (mv : Move) → of_verb verb.Peek ts ≡ Some mv → IsMove (w ∷ ts) mv
peek_spelled w first ts mv h =
    let a = mapped_some (place_of ts) h in
    subst (IsMove (w ∷ ts)) a.2 (peek first (place_spelled ts a.0 a.1))

seal_spelled : (w : Lexeme) → IsWord (codes "seal") w → (ts : List Lexeme) (mv : Move) → of_verb verb.Seal ts ≡ Some mv → IsMove (w ∷ ts) mv
seal_spelled w first ts mv h =
    let a = mapped_some (place_of ts) h in
    subst (IsMove (w ∷ ts)) a.2 (seal first (place_spelled ts a.0 a.1))

reveal_spelled : (w : Lexeme) → IsWord (codes "reveal") w → (ts : List Lexeme) (mv : Move) → of_verb verb.Reveal ts ≡ Some mv → IsMove (w ∷ ts) mv
reveal_spelled w first ts mv h =
    let a = mapped_some (place_of ts) h in
    subst (IsMove (w ∷ ts)) a.2 (reveal first (place_spelled ts a.0 a.1))

-- ---- first words

abbrev verb_word : Verb → List ℕ
verb_word verb.Begin = codes "begin"
verb_word verb.Turn = codes "turn"
verb_word verb.Drop = codes "drop"
verb_word verb.Poke = codes "poke"
verb_word verb.Peek = codes "peek"
verb_word verb.Seal = codes "seal"
verb_word verb.Reveal = codes "reveal"

pick_by : (text : List ℕ) (x v : Verb) (rest : Option Verb) (t : Bool) → bytes_eq text (verb_word x) ≡ t →
    (rest ≡ Some v → text ≡ verb_word v) → (if bytes_eq text (verb_word x) then Some x else rest) ≡ Some v → text ≡ verb_word v
pick_by text x v rest true e more h =
    let f : Some x ≡ Some v = rw e at h in
    eq_bytes text (verb_word x) e ∙ ap verb_word (some_same f)
pick_by text x v rest false e more h = more (rw e at h)

pick : (text : List ℕ) (x v : Verb) (rest : Option Verb) → (rest ≡ Some v → text ≡ verb_word v) →
    (if bytes_eq text (verb_word x) then Some x else rest) ≡ Some v → text ≡ verb_word v
pick text x v rest more h = pick_by text x v rest (bytes_eq text (verb_word x)) refl more h

verb_spelled : (text : List ℕ) (v : Verb) → verb_of text ≡ Some v → text ≡ verb_word v
verb_spelled text v h =
    pick text verb.Begin v _ (λ h1.
    pick text verb.Turn v _ (λ h2.
    pick text verb.Drop v _ (λ h3.
    pick text verb.Poke v _ (λ h4.
    pick text verb.Peek v _ (λ h5.
    pick text verb.Seal v _ (λ h6.
    pick text verb.Reveal v _ (λ h7. absurd (none_some h7)) h6) h5) h4) h3) h2) h1) h

verb_told : (v : Verb) → verb_of (verb_word v) ≡ Some v
verb_told verb.Begin = refl
verb_told verb.Turn = refl
verb_told verb.Drop = refl
verb_told verb.Poke = refl
verb_told verb.Peek = refl
verb_told verb.Seal = refl
verb_told verb.Reveal = refl

first_told : (v : Verb) {w : Lexeme} → IsWord (verb_word v) w → and_then (atom_text w) verb_of ≡ Some v
first_told v {w} h = rw (atom_told w h.kind, h.text) (verb_told v)

-- ---- lines

pub move_told : {ts : List Lexeme} {mv : Move} → IsMove ts mv → move_of ts ≡ Some mv
move_told (begin {ts = ts} {args = args} w s p e a) = rw (first_told verb.Begin w, number_below_told s, name_told p, name_told e, arguments_told ts args a) refl
move_told (turn w s n) = rw (first_told verb.Turn w, number_below_told s, number_below_told n) refl
move_told (drop w s) = rw (first_told verb.Drop w, number_below_told s) refl
move_told (poke w p m a b) = rw (first_told verb.Poke w, name_told p, name_told m, number_below_told a, bytes_told b) refl
move_told (peek w p) = rw (first_told verb.Peek w, place_told p) refl
move_told (seal w p) = rw (first_told verb.Seal w, place_told p) refl
move_told (reveal w p) = rw (first_told verb.Reveal w, place_told p) refl

behind_spelled : (v : Verb) (w : Lexeme) → IsWord (verb_word v) w → (ts : List Lexeme) (mv : Move) → of_verb v ts ≡ Some mv → IsMove (w ∷ ts) mv
behind_spelled verb.Begin w first ts mv h = begin_spelled w first ts mv h
behind_spelled verb.Turn w first ts mv h = turn_spelled w first ts mv h
behind_spelled verb.Drop w first ts mv h = leave_spelled w first ts mv h
behind_spelled verb.Poke w first ts mv h = poke_spelled w first ts mv h
behind_spelled verb.Peek w first ts mv h = peek_spelled w first ts mv h
behind_spelled verb.Seal w first ts mv h = seal_spelled w first ts mv h
behind_spelled verb.Reveal w first ts mv h = reveal_spelled w first ts mv h

pub move_spelled : (ts : List Lexeme) (mv : Move) → move_of ts ≡ Some mv → IsMove ts mv
move_spelled [] mv h = absurd (none_some h)
move_spelled (w ∷ ts) mv h =
    let a = and_then_found (and_then (atom_text w) verb_of) (λ v. of_verb v ts) mv h in
    let b = and_then_found (atom_text w) verb_of a.0 a.1 in
    let atom = atom_found w.kind w.text b.0 b.1 in
    let word : IsWord (verb_word a.0) w = record { kind = atom.0; text = atom.1 ∙ verb_spelled b.0 a.0 b.2 } in
    behind_spelled a.0 w word ts mv a.2
