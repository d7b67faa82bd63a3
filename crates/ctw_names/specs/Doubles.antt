-- Faults of names that stand twice, name by name.
use Rattle.std.specs.Prelude.{not, List, [], ◌∷◌, ◌++◌, Option, Some, None}
use Rattle.std.specs.List.{list_any}
use Rattle.ctw_text.specs.Written.{Name}
use Rattle.ctw_text.specs.Names.{NameFault, fault_at, is_named, unless}
use Rattle.ctw_text.specs.Names as n

-- the fault of one more name behind these
abbrev pub double_fault : Option Name → (before : List (Option Name)) → List NameFault
double_fault None before = []
double_fault (Some w) before = unless (not (list_any (is_named w) before)) (fault_at n.DoubleName w)

-- the faults of these names, put behind those one after another
abbrev pub doubles_onto : (before names : List (Option Name)) → List NameFault
doubles_onto before [] = []
doubles_onto before (n ∷ ns) = double_fault n before ++ doubles_onto (before ++ n ∷ []) ns
