-- What a call that builds answered.
use Rattle.std.specs.Prelude.{◌≡◌, Bool, List, ◌++◌, Option, Some, None, Result, Ok, Err}
use Rattle.ctw_ops.specs.declared.types.Label.{Label}
use Rattle.ctw_ops.specs.Code.{Op}
use Rattle.ctw_leb.specs.Input.{Input}
use Rattle.ctw_leb.specs.Calls.{FailsBy}
use Rattle.ctw_flat.specs.declared.fault.CodeFault.{CodeFault}
use Rattle.ctw_flat.specs.declared.fault.BuildFault.{BuildFault}
use Rattle.ctw_flat.specs.declared.fault.BuildFault.TheVariants.{Bad, NoMemory}
use Rattle.ctw_flat.specs.declared.blocks.Mark.{Mark}
use Rattle.ctw_flat.specs.Bodies.{opened_by}
use Rattle.ctw_flat.specs.Marks.{role_of, marked}

abbrev pub code_fault : BuildFault → Option CodeFault
code_fault NoMemory = None
code_fault (Bad f) = Some f

-- the fault is that of a reader, or memory ran out
abbrev pub FailsWith : {Y : Type 0} → BuildFault → Result Y CodeFault → Type 0
FailsWith = FailsBy code_fault

-- the reader has a value where the call answered Ok, else the same fault or memory ran out
abbrev pub Checks : {X Y : Type 0} → Result X BuildFault → Result Y CodeFault → Type 0
Checks {X} {Y} (Ok x) read = (y : Y) × (read ≡ Ok y)
Checks (Err e) read = FailsWith e read

-- memory may have run out, and nothing else went wrong
abbrev pub IsOkButMemory : {X : Type 0} → Result X BuildFault → Type 0
IsOkButMemory (Ok x) = Unit {0}
IsOkButMemory (Err e) = e ≡ NoMemory

-- one instruction was read: its opcode, and what is open behind it
abbrev pub Nests : {X : Type 0} → (X → Op Label) → Result X BuildFault → List Bool → List Bool → Input
    → Result (Op Label × Input) CodeFault → Type 0
Nests op (Ok x) old_around new_around o read = (read ≡ Ok (op x, o)) × (new_around ≡ opened_by old_around (op x))
Nests op (Err e) old_around new_around o read = FailsWith e read

-- one instruction was read: what is open and what was marked behind it
abbrev pub Steps : {X : Type 0} → Result X BuildFault → List Bool → List Bool → List Mark → List Mark → Input → Input
    → Result (Op Label × Input) CodeFault → Type 0
Steps (Ok x) old_around new_around old_marks new_marks i o read =
    (op : Op Label) × (read ≡ Ok (op, o)) × (new_around ≡ opened_by old_around op)
    × (new_marks ≡ old_marks ++ marked i.at (role_of op))
Steps (Err e) old_around new_around old_marks new_marks i o read = FailsWith e read
