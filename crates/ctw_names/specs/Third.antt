-- The fault that the third pass tells.
use Rattle.std.specs.Prelude.{Option, Some, None}
use Rattle.ctw_text.specs.Names.{NameFault}
use Rattle.ctw_names.specs.declared.naming.NamesFault as told
use Rattle.ctw_names.specs.declared.naming.NamesFault.TheVariants.{Bad, NoMemory}

-- none where memory ran out
abbrev pub fault_of : told.NamesFault → Option NameFault
fault_of (Bad fault) = Some fault
fault_of NoMemory = None
