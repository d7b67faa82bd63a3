-- What a line stands for, by functions, which compute.
use Rattle.std.specs.Prelude.{◌≡◌, ℕ, List, [], ◌∷◌, Option, Some, None, Result, Ok, Err, option_map, codes, Vec, if◌then◌else◌}
use Rattle.std.specs.Str.{bytes_eq}
use Rattle.ctw_ops.specs.declared.types.Label.TheVariants.{Public, Secret}
use Rattle.ctw_ops.specs.Segments.{and_then}
use Rattle.ctw_lex.specs.declared.TokenKind.{TokenKind}
use Rattle.ctw_lex.specs.declared.TokenKind.TheVariants.{Left, Right, Atom, Text}
use Rattle.ctw_lex.specs.Lexeme.{Lexeme}
use Rattle.ctw_lex.specs.NumberValues.{number_value}
use Rattle.ctw_script.specs.MoveValues.{atom_text, name_value}
use Rattle.ctw_marks.specs.Grammar.{index_of}
use Rattle.ctw_marks.specs.declared.line.LineFault.{LineFault}
use Rattle.ctw_marks.specs.declared.line.LineFault.TheVariants.{NoReading, NoMemory}
use Rattle.ctw_marks.specs.declared.line.Verb.{Verb}
use Rattle.ctw_marks.specs.declared.line.Verb.TheVariants as verb
use Rattle.ctw_marks.specs.declared.line.Kind.{Kind}
use Rattle.ctw_marks.specs.declared.line.Kind.TheVariants as kind
use Rattle.ctw_marks.specs.declared.order.Subject.{Subject}
use Rattle.ctw_marks.specs.declared.order.Subject.TheVariants.{Number, Export}
use Rattle.ctw_marks.specs.declared.order.Spot.{Spot}
use Rattle.ctw_marks.specs.declared.order.Spot.TheVariants as spot
use Rattle.ctw_marks.specs.declared.order.Order.{Order}
use Rattle.ctw_marks.specs.declared.order.Order.TheVariants as order

-- the answer is the value, or that there is none; want of memory tells nothing
abbrev pub Reads : {A : Type 0} → Result A LineFault → Option A → Type 0
Reads (Ok a) o = o ≡ Some a
Reads (Err NoReading) o = o ≡ None
Reads (Err NoMemory) o = Unit {0}

-- what a vector holds
abbrev pub items_of : {A Z : Type 0} → Result (Vec A Z) LineFault → Result (List A) LineFault
items_of (Ok v) = Ok v.items
items_of (Err fault) = Err fault

abbrev pub index_value : Lexeme → Option (Option ℕ)
index_value t = option_map index_of (and_then (atom_text t) number_value)

abbrev pub subject_of_kind : TokenKind → Lexeme → Option Subject
subject_of_kind Text t = option_map (λ name. Export name) (name_value t)
subject_of_kind Atom t = option_map (λ i. Number i) (index_value t)
subject_of_kind Left t = None
subject_of_kind Right t = None

abbrev pub subject_value : Lexeme → Option Subject
subject_value t = subject_of_kind t.kind t

-- ---- places, by what stands behind their first word

abbrev pub numbered_of : List Lexeme → Option (Subject × Option ℕ)
numbered_of (f ∷ k ∷ []) = and_then (subject_value f) (λ func. option_map (λ i. (func, i)) (index_value k))
numbered_of _ = None

abbrev pub named_of : List Lexeme → Option Subject
named_of (f ∷ []) = subject_value f
named_of _ = None

abbrev pub alone : {A : Type 0} → A → List Lexeme → Option A
alone a [] = Some a
alone a _ = None

abbrev pub kind_of : List ℕ → Option Kind
kind_of text =
    if bytes_eq text (codes "param") then Some kind.Param
    else (if bytes_eq text (codes "result") then Some kind.Result
    else (if bytes_eq text (codes "local") then Some kind.Local
    else (if bytes_eq text (codes "global") then Some kind.Global
    else (if bytes_eq text (codes "memory") then Some kind.Memory
    else None))))

abbrev pub of_kind : Kind → List Lexeme → Option Spot
of_kind kind.Param ts = option_map (λ p. spot.Param p.0 p.1) (numbered_of ts)
of_kind kind.Result ts = option_map (λ f. spot.Result f) (named_of ts)
of_kind kind.Local ts = option_map (λ p. spot.Local p.0 p.1) (numbered_of ts)
of_kind kind.Global ts = option_map (λ g. spot.Global g) (named_of ts)
of_kind kind.Memory ts = alone spot.Memory ts

abbrev pub spot_of : List Lexeme → Option Spot
spot_of [] = None
spot_of (w ∷ ts) = and_then (and_then (atom_text w) kind_of) (λ k. of_kind k ts)

-- ---- lines

abbrev pub verb_of : List ℕ → Option Verb
verb_of text =
    if bytes_eq text (codes "secret") then Some verb.Secret
    else (if bytes_eq text (codes "public") then Some verb.Public
    else (if bytes_eq text (codes "trust") then Some verb.Trust
    else (if bytes_eq text (codes "release") then Some verb.Release
    else None)))

abbrev pub of_verb : Verb → List Lexeme → Option Order
of_verb verb.Secret ts = option_map (λ s. order.Label Secret s) (spot_of ts)
of_verb verb.Public ts = option_map (λ s. order.Label Public s) (spot_of ts)
of_verb verb.Trust ts = option_map (λ f. order.Trust f) (named_of ts)
of_verb verb.Release ts = option_map (λ p. order.Release p.0 p.1) (numbered_of ts)

-- what a line asks for
abbrev pub order_of : List Lexeme → Option Order
order_of [] = None
order_of (w ∷ ts) = and_then (and_then (atom_text w) verb_of) (λ v. of_verb v ts)
