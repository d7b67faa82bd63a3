-- The order of looking: the checks that found nothing are behind, and the fault is among the others.
use Rattle.std.proofs.Common.{◌≡◌, ◌⊎◌, [], Option, Some, None, Result, Ok, Err, refl, ◌∙◌, inl, inr}
use Rattle.ctw_ops.specs.declared.types.Label.{Label}
use Rattle.ctw_ops.specs.declared.fault.Space.TheVariants as space
use Rattle.ctw_ops.specs.Tree.{Module}
use Rattle.ctw_modcheck.specs.declared.fault.Invalid.{Invalid}
use Rattle.ctw_modcheck.specs.declared.fault.Invalid.TheVariants.{NoMemory}
use Rattle.ctw_modcheck.specs.Answers.{Answers}
use Rattle.ctw_ops.specs.FirstFault.{FindsFault}
use Rattle.ctw_modcheck.specs.Faults.{or_else, first_in, of_some, types_fault, import_fault, function_fault, table_fault, memory_fault, global_fault, exports_fault, start_fault, element_fault, segment_fault, around_fault}
use Rattle.ctw_modcheck.proofs.Loops.{skip, stop}

-- the fault where nothing was found before

abbrev pub from_segments : Module Label → Option Invalid
from_segments m = first_in (segment_fault m) 0 m.segments

abbrev pub from_elements : Module Label → Option Invalid
from_elements m = or_else (first_in (element_fault m) 0 m.elements) (from_segments m)

abbrev pub from_start : Module Label → Option Invalid
from_start m = or_else (of_some (start_fault m) m.start) (from_elements m)

abbrev pub from_exports : Module Label → Option Invalid
from_exports m = or_else (exports_fault m [] 0 m.exports) (from_start m)

abbrev pub from_globals : Module Label → Option Invalid
from_globals m = or_else (first_in (global_fault m) 0 m.globals) (from_exports m)

abbrev pub from_memory : Module Label → Option Invalid
from_memory m = or_else (of_some (memory_fault space.Memories) m.memory) (from_globals m)

abbrev pub from_table : Module Label → Option Invalid
from_table m = or_else (of_some (table_fault space.Tables) m.table) (from_memory m)

abbrev pub from_functions : Module Label → Option Invalid
from_functions m = or_else (first_in (function_fault m) 0 m.functions) (from_table m)

abbrev pub from_imports : Module Label → Option Invalid
from_imports m = or_else (first_in (import_fault m) 0 m.imports) (from_functions m)

abbrev pub from_types : Module Label → Option Invalid
from_types m = or_else (types_fault m.types 0 m.types) (from_imports m)

pub all_around : (m : Module Label) → around_fault m ≡ from_types m
unfolding around_fault
all_around m = refl

pub past_types : (m : Module Label) → around_fault m ≡ from_types m → types_fault m.types 0 m.types ≡ None → around_fault m ≡ from_imports m
past_types m e h = e ∙ skip (types_fault m.types 0 m.types) (from_imports m) h

pub past_imports : (m : Module Label) → around_fault m ≡ from_imports m → first_in (import_fault m) 0 m.imports ≡ None → around_fault m ≡ from_functions m
past_imports m e h = e ∙ skip (first_in (import_fault m) 0 m.imports) (from_functions m) h

pub past_functions : (m : Module Label) → around_fault m ≡ from_functions m → first_in (function_fault m) 0 m.functions ≡ None → around_fault m ≡ from_table m
past_functions m e h = e ∙ skip (first_in (function_fault m) 0 m.functions) (from_table m) h

pub past_table : (m : Module Label) → around_fault m ≡ from_table m → of_some (table_fault space.Tables) m.table ≡ None → around_fault m ≡ from_memory m
past_table m e h = e ∙ skip (of_some (table_fault space.Tables) m.table) (from_memory m) h

pub past_memory : (m : Module Label) → around_fault m ≡ from_memory m → of_some (memory_fault space.Memories) m.memory ≡ None → around_fault m ≡ from_globals m
past_memory m e h = e ∙ skip (of_some (memory_fault space.Memories) m.memory) (from_globals m) h

pub past_globals : (m : Module Label) → around_fault m ≡ from_globals m → first_in (global_fault m) 0 m.globals ≡ None → around_fault m ≡ from_exports m
past_globals m e h = e ∙ skip (first_in (global_fault m) 0 m.globals) (from_exports m) h

pub past_exports : (m : Module Label) → around_fault m ≡ from_exports m → exports_fault m [] 0 m.exports ≡ None → around_fault m ≡ from_start m
past_exports m e h = e ∙ skip (exports_fault m [] 0 m.exports) (from_start m) h

pub past_start : (m : Module Label) → around_fault m ≡ from_start m → of_some (start_fault m) m.start ≡ None → around_fault m ≡ from_elements m
past_start m e h = e ∙ skip (of_some (start_fault m) m.start) (from_elements m) h

pub past_elements : (m : Module Label) → around_fault m ≡ from_elements m → first_in (element_fault m) 0 m.elements ≡ None → around_fault m ≡ from_segments m
past_elements m e h = e ∙ skip (first_in (element_fault m) 0 m.elements) (from_segments m) h

-- ---- a fault that was found

pub found : (m : Module Label) (a b : Option Invalid) (f : Invalid) → around_fault m ≡ or_else a b → a ≡ Some f → (f ≡ NoMemory) ⊎ (around_fault m ≡ Some f)
found m a b f e h = inr (e ∙ stop a b f h)

pub found_or_short : (m : Module Label) (a b : Option Invalid) (f : Invalid) → around_fault m ≡ or_else a b → (f ≡ NoMemory) ⊎ (a ≡ Some f) → (f ≡ NoMemory) ⊎ (around_fault m ≡ Some f)
found_or_short m a b f e (inl short) = inl short
found_or_short m a b f e (inr h) = found m a b f e h

pub last : (m : Module Label) (r : Result (Unit {0}) Invalid) → around_fault m ≡ from_segments m → Answers r (from_segments m) → FindsFault NoMemory r (around_fault m)
last m (Ok u) e h = e ∙ h
last m (Err f) e h = inr (e ∙ h)
