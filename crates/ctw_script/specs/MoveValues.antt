-- What a line stands for, by functions, which compute.
use Rattle.std.specs.Prelude.{◌≡◌, ℕ, ◌^◌, ◌==◌, Bool, true, false, List, [], ◌∷◌, Option, Some, None, Result, Ok, Err, option_map, nat_lt, nat_le, codes, IsSome, All, Vec, if◌then◌else◌}
use Rattle.std.specs.Str.{is_utf8, bytes_eq}
use Rattle.ctw_ops.specs.Segments.{and_then}
use Rattle.ctw_lex.specs.declared.TokenKind.{TokenKind}
use Rattle.ctw_lex.specs.declared.TokenKind.TheVariants.{Left, Right, Atom, Text}
use Rattle.ctw_lex.specs.declared.numbers.Magnitude.{Magnitude}
use Rattle.ctw_lex.specs.declared.numbers.Magnitude.TheVariants.{Small, Large}
use Rattle.ctw_lex.specs.declared.list.Token.{Token}
use Rattle.ctw_lex.specs.Lexeme.{Lexeme}
use Rattle.ctw_lex.specs.Strings.{string_value}
use Rattle.ctw_lex.specs.NumberValues.{number_value, signed_number_value, signed_of_value}
use Rattle.ctw_script.specs.declared.line.LineFault.{LineFault}
use Rattle.ctw_script.specs.declared.line.LineFault.TheVariants.{NoReading, NoMemory}
use Rattle.ctw_script.specs.declared.line.Verb.{Verb}
use Rattle.ctw_script.specs.declared.line.Verb.TheVariants as verb
use Rattle.ctw_script.specs.declared.line.Place.{Place}
use Rattle.ctw_script.specs.declared.moves.Arg.{Arg}
use Rattle.ctw_script.specs.declared.moves.Arg.TheVariants.{Number, Vault}
use Rattle.ctw_script.specs.declared.moves.Move.{Move}
use Rattle.ctw_script.specs.declared.moves.Move.TheVariants.{Begin, Turn, Leave, Poke, Peek, Seal, Reveal}

-- a value that passes a test
abbrev pub tested : {A : Type 0} → (A → Bool) → Option A → Option A
tested test o = and_then o (λ a. if test a then Some a else None)

-- the answer is the value, or that there is none; want of memory tells nothing
abbrev pub Reads : {A : Type 0} → Result A LineFault → Option A → Type 0
Reads (Ok a) o = o ≡ Some a
Reads (Err NoReading) o = o ≡ None
Reads (Err NoMemory) o = Unit {0}

-- what a vector holds
abbrev pub items_of : {A Z : Type 0} → Result (Vec A Z) LineFault → Result (List A) LineFault
items_of (Ok v) = Ok v.items
items_of (Err fault) = Err fault

-- each string is whole, as those of a text's tokens are
abbrev pub IsWhole : Token → Type 0
IsWhole t = t.kind ≡ Text → IsSome (string_value t.text.now)

abbrev pub AreWhole : List Token → Type 0
AreWhole ts = All IsWhole ts

-- ---- tokens

abbrev pub atom_of_kind : TokenKind → List ℕ → Option (List ℕ)
atom_of_kind Atom text = Some text
atom_of_kind Left text = None
atom_of_kind Right text = None
atom_of_kind Text text = None

-- an atom's text
abbrev pub atom_text : Lexeme → Option (List ℕ)
atom_text t = atom_of_kind t.kind t.text

abbrev pub number_below : ℕ → Lexeme → Option ℕ
number_below limit t = tested (λ n. nat_lt n limit) (and_then (atom_text t) number_value)

abbrev pub bytes_of_kind : TokenKind → List ℕ → Option (List ℕ)
bytes_of_kind Text text = string_value text
bytes_of_kind Left text = None
bytes_of_kind Right text = None
bytes_of_kind Atom text = None

abbrev pub bytes_value : Lexeme → Option (List ℕ)
bytes_value t = bytes_of_kind t.kind t.text

abbrev pub name_value : Lexeme → Option (List ℕ)
name_value t = tested is_utf8 (bytes_value t)

-- ---- arguments

abbrev pub ranged : Bool → Magnitude → Option Arg
ranged false (Small n) = Some (Number false n)
ranged true (Small n) = if nat_le n (2 ^ 63) then Some (Number true n) else None
ranged negative Large = None

abbrev pub is_star : List ℕ → Bool
is_star [] = false
is_star (b ∷ []) = b == 42
is_star (b ∷ c ∷ bs) = false

-- the argument that a word is
abbrev pub argument_value : List ℕ → Option Arg
argument_value word =
    if is_star word then Some Vault
    else and_then (option_map signed_of_value (signed_number_value word)) (λ s. ranged s.negative s.size)

abbrev pub argument_of : Lexeme → Option Arg
argument_of t = and_then (atom_text t) argument_value

abbrev pub arguments_of : List Lexeme → Option (List Arg)
arguments_of [] = Some []
arguments_of (t ∷ ts) = and_then (argument_of t) (λ arg. option_map (λ args. arg ∷ args) (arguments_of ts))

-- ---- moves, by what stands behind their first word

abbrev pub begin_of : List Lexeme → Option Move
begin_of (s ∷ p ∷ e ∷ ts) =
    and_then (number_below 64 s) (λ slot. and_then (name_value p) (λ part. and_then (name_value e) (λ export.
    and_then (arguments_of ts) (λ args. Some (Begin slot part export args)))))
begin_of _ = None

abbrev pub turn_of : List Lexeme → Option Move
turn_of (s ∷ n ∷ []) =
    and_then (number_below 64 s) (λ slot. and_then (number_below (2 ^ 32) n) (λ steps. Some (Turn slot steps)))
turn_of _ = None

abbrev pub leave_of : List Lexeme → Option Move
leave_of (s ∷ []) = and_then (number_below 64 s) (λ slot. Some (Leave slot))
leave_of _ = None

abbrev pub poke_of : List Lexeme → Option Move
poke_of (p ∷ m ∷ a ∷ b ∷ []) =
    and_then (name_value p) (λ part. and_then (name_value m) (λ memory. and_then (number_below (2 ^ 32) a) (λ at.
    and_then (bytes_value b) (λ bytes. Some (Poke part memory at bytes)))))
poke_of _ = None

abbrev pub place_of : List Lexeme → Option Place
place_of (p ∷ m ∷ a ∷ c ∷ []) =
    and_then (name_value p) (λ part. and_then (name_value m) (λ memory. and_then (number_below (2 ^ 32) a) (λ at.
    and_then (number_below 0x10_0001 c) (λ count.
    Some (record { part = part; memory = memory; at = at; count = count })))))
place_of _ = None

-- ---- lines

-- the first words
abbrev pub verb_of : List ℕ → Option Verb
verb_of text =
    if bytes_eq text (codes "begin") then Some verb.Begin
    else (if bytes_eq text (codes "turn") then Some verb.Turn
    else (if bytes_eq text (codes "drop") then Some verb.Drop
    else (if bytes_eq text (codes "poke") then Some verb.Poke
    else (if bytes_eq text (codes "peek") then Some verb.Peek
    else (if bytes_eq text (codes "seal") then Some verb.Seal
    else (if bytes_eq text (codes "reveal") then Some verb.Reveal
    else None))))))

abbrev pub of_verb : Verb → List Lexeme → Option Move
of_verb verb.Begin ts = begin_of ts
of_verb verb.Turn ts = turn_of ts
of_verb verb.Drop ts = leave_of ts
of_verb verb.Poke ts = poke_of ts
of_verb verb.Peek ts = option_map (λ p. Peek p.part p.memory p.at p.count) (place_of ts)
of_verb verb.Seal ts = option_map (λ p. Seal p.part p.memory p.at p.count) (place_of ts)
of_verb verb.Reveal ts = option_map (λ p. Reveal p.part p.memory p.at p.count) (place_of ts)

-- the move that a line stands for
abbrev pub move_of : List Lexeme → Option Move
move_of [] = None
move_of (w ∷ ts) = and_then (and_then (atom_text w) verb_of) (λ v. of_verb v ts)
