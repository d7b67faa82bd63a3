-- The pieces of a list of tokens, or where the first token stands that has no place.
use Rattle.std.specs.Prelude.{ℕ, List, Option, Some, None, Result, Ok, Err}
use Rattle.ctw_lex.specs.Lexeme.{Lexeme}
use Rattle.ctw_text.specs.Toks.{toks_of}
use Rattle.ctw_text.specs.declared.pieces.Piece.{Piece}
use Rattle.ctw_text.specs.Machine.{Stop, spelled}
use Rattle.ctw_text.specs.Denotes.{Fault, AtUnexpected, AtNumberRange, AtFloats, stop_fault}
use Rattle.ctw_pieces.specs.declared.PiecesKind.{PiecesKind}
use Rattle.ctw_pieces.specs.declared.PiecesKind.TheVariants as kind
use Rattle.ctw_pieces.specs.declared.PiecesPlace.{PiecesPlace}
use Rattle.ctw_pieces.specs.declared.PiecesFault.{PiecesFault}
use Rattle.ctw_pieces.specs.declared.PiecesFault.TheVariants.{Bad, NoMemory}

abbrev pub with_places : (size : ℕ) → List Lexeme → Result (List Piece) Stop → Result (List Piece) Fault
with_places size ts (Ok ps) = Ok ps
with_places size ts (Err e) = Err (stop_fault size ts e)

-- the pieces of the tokens of a text of this size, or the first token that has no place
abbrev pub second_pass : (size : ℕ) → List Lexeme → Result (List Piece) Fault
second_pass size ts = with_places size ts (spelled (toks_of ts))

abbrev pub told : PiecesPlace → Fault
told place = at place.kind place.start place.end
  where
    at : PiecesKind → (start end : ℕ) → Fault
    at kind.Unexpected start end = AtUnexpected start end
    at kind.NumberRange start end = AtNumberRange start end
    at kind.Floats start end = AtFloats start end

-- the fault that is told; none where memory ran out
abbrev pub fault_of : PiecesFault → Option Fault
fault_of (Bad place) = Some (told place)
fault_of NoMemory = None
