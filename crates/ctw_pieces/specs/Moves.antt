-- Productions of the grammar of the text form (W3C WebAssembly Core 1.0, chapter 6) as they are stored.
use Rattle.std.specs.Prelude.{List, [], ◌∷◌, ◌++◌, Option, Some, None}
use Rattle.ctw_text.specs.declared.pieces.Piece.{Piece}
use Rattle.ctw_text.specs.declared.sorts.Sort.{Sort}
use Rattle.ctw_pieces.specs.declared.moves.Out.{Out}
use Rattle.ctw_pieces.specs.declared.moves.Out.TheVariants as out
use Rattle.ctw_pieces.specs.declared.moves.Next.{Next}
use Rattle.ctw_pieces.specs.declared.moves.Next.TheVariants as next

abbrev pub pieces_in : Out → List Piece
pieces_in out.Nothing = []
pieces_in (out.One p) = p ∷ []
pieces_in (out.Two p q) = p ∷ q ∷ []

abbrev pub sorts_in : Next → List Sort
sorts_in next.Done = []
sorts_in (next.One a) = a ∷ []
sorts_in (next.Two a b) = a ∷ b ∷ []
sorts_in (next.Three a b c) = a ∷ b ∷ c ∷ []
sorts_in (next.Four a b c d) = a ∷ b ∷ c ∷ d ∷ []
sorts_in (next.Five a b c d e) = a ∷ b ∷ c ∷ d ∷ e ∷ []

abbrev pub with_last : List Sort → Option Sort → List Sort
with_last sorts None = sorts
with_last sorts (Some s) = sorts ++ s ∷ []
