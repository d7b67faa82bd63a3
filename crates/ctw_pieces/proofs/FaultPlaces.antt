-- The fault at a token, and at the text's end.
use Rattle.std.proofs.Common.{◌≡◌, ℕ, ◌≤◌, List, Some, length, slice_get, refl}
use Rattle.std.proofs.lemmas.Option.{slice_get_past}
use Rattle.ctw_lex.specs.Lexeme.{Lexeme}
use Rattle.ctw_text.specs.Machine.{stop}
use Rattle.ctw_text.specs.Denotes.{stop_fault}
use Rattle.ctw_pieces.specs.declared.PiecesKind.{PiecesKind}
use Rattle.ctw_pieces.specs.declared.PiecesKind.TheVariants as kind
use Rattle.ctw_pieces.specs.declared.PiecesFault.TheVariants.{Bad}
use Rattle.ctw_pieces.specs.Reasons.{why_of}
use Rattle.ctw_pieces.specs.Second.{fault_of}

pub at_end : (size : ℕ) (ls : List Lexeme) (at : ℕ) (k : PiecesKind) → length ls ≤ at
    → fault_of (Bad (record { kind = kind.Unexpected; start = size; end = size })) ≡ Some (stop_fault size ls (stop at (why_of k)))
at_end size ls at k h = rw (slice_get_past ls at h) refl

pub at_token : (size : ℕ) (ls : List Lexeme) (at : ℕ) (k : PiecesKind) (l : Lexeme) → slice_get ls at ≡ Some l
    → fault_of (Bad (record { kind = k; start = l.start; end = l.end })) ≡ Some (stop_fault size ls (stop at (why_of k)))
at_token size ls at kind.Unexpected l e = rw e refl
at_token size ls at kind.NumberRange l e = rw e refl
at_token size ls at kind.Floats l e = rw e refl
