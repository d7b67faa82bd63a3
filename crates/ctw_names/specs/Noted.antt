-- The first of the faults that are noted one after another.
use Rattle.std.specs.Prelude.{nat_le, cond, List, [], ◌∷◌, Option, Some, None}
use Rattle.ctw_text.specs.Names.{Kind, NameFault}
use Rattle.ctw_text.specs.Names as n
use Rattle.ctw_names.specs.declared.fault.FaultKind.{FaultKind}
use Rattle.ctw_names.specs.declared.fault.FaultKind.TheVariants as kinds

abbrev pub kind_of : FaultKind → Kind
kind_of kinds.UnknownName = n.UnknownName
kind_of kinds.DoubleName = n.DoubleName
kind_of kinds.Mismatch = n.Mismatch

-- the one that stands first, the older one where both stand at one place
abbrev pub earlier : Option NameFault → NameFault → NameFault
earlier None f = f
earlier (Some g) f = cond (nat_le g.place f.place) g f

-- the least of those that were noted before and of these
abbrev pub noted : Option NameFault → List NameFault → Option NameFault
noted least [] = least
noted least (f ∷ fs) = noted (Some (earlier least f)) fs
