-- The numbers of statuses.
use Rattle.std.specs.Prelude.{List, [], ◌∷◌}
use Rattle.ctwasm_top.specs.declared.Status.{Status}
use Rattle.ctwasm_top.specs.declared.Status.TheVariants.{Done, Refused, Usage, NoLabelling, ReadFault, WriteFault, NoMemory, SaveFault}

-- the statuses in the order of their numbers, from 0
abbrev pub statuses : List Status
statuses = Done ∷ Refused ∷ Usage ∷ NoLabelling ∷ ReadFault ∷ WriteFault ∷ NoMemory ∷ SaveFault ∷ []
