-- The fault of a text that is told.
use Rattle.std.specs.Prelude.{Option, Some, None}
use Rattle.ctw_lex.specs.declared.LexFault.{LexFault}
use Rattle.ctw_lex.specs.declared.LexFault.TheVariants as lex
use Rattle.ctw_text.specs.Denotes.{Fault, InLex, AtUnexpected, AtUnknownName, AtDoubleName, AtNumberRange, AtFloats, InExcess}
use Rattle.ctw_pieces.specs.declared.PiecesFault.{PiecesFault}
use Rattle.ctw_pieces.specs.Second as second
use Rattle.ctw_parse.specs.declared.fault.TextFault.{TextFault}
use Rattle.ctw_parse.specs.declared.fault.TextFault.TheVariants as fault

-- none where memory was wanting
abbrev pub fault_of : TextFault → Option Fault
fault_of (fault.Lex place) = Some (InLex place)
fault_of (fault.Unexpected start end) = Some (AtUnexpected start end)
fault_of (fault.UnknownName start end) = Some (AtUnknownName start end)
fault_of (fault.DoubleName start end) = Some (AtDoubleName start end)
fault_of (fault.NumberRange start end) = Some (AtNumberRange start end)
fault_of (fault.Floats start end) = Some (AtFloats start end)
fault_of (fault.TooMany what limit) = Some (InExcess (record { what = what; limit = limit }))
fault_of fault.NoMemory = None

abbrev pub lex_fault : LexFault → Option Fault
lex_fault (lex.Bad place) = Some (InLex place)
lex_fault lex.NoMemory = None

abbrev pub pieces_fault : PiecesFault → Option Fault
pieces_fault f = second.fault_of f
