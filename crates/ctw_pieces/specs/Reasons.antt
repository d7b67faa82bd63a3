-- Why a token has no place, as it is told.
use Rattle.ctw_text.specs.Machine.{Why, Unexpected, NumberRange, FloatWord}
use Rattle.ctw_pieces.specs.declared.PiecesKind.{PiecesKind}
use Rattle.ctw_pieces.specs.declared.PiecesKind.TheVariants as kind

abbrev pub why_of : PiecesKind → Why
why_of kind.Unexpected = Unexpected
why_of kind.NumberRange = NumberRange
why_of kind.Floats = FloatWord
