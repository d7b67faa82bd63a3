-- What a call that reads answered.
use Rattle.std.specs.Prelude.{◌≡◌, Bool, List, Option, Some, None, Result, Ok, Err}
use Rattle.ctw_ops.specs.declared.types.Label.{Label}
use Rattle.ctw_ops.specs.Code.{Op}
use Rattle.ctw_leb.specs.Input.{Input}
use Rattle.ctw_leb.specs.Calls.{FailsBy, HoldsBy, HoldsFrontBy}
use Rattle.ctw_leb.specs.Reading.{ends}
use Rattle.ctw_flat.specs.Bodies.{opened_by}
use Rattle.ctw_form.specs.declared.fault.FormKind.TheVariants.{SizeMismatch}
use Rattle.ctw_form.specs.declared.fault.FormFault.{FormFault}
use Rattle.ctw_form.specs.declared.sections.Seen.{Seen}
use Rattle.ctw_form.specs.Sections.{Section, seen_after}
use Rattle.ctw_form.specs.Read.{fault, inside_kind}
use Rattle.ctw_read.specs.declared.fault.ReadFault.{ReadFault}
use Rattle.ctw_read.specs.declared.fault.ReadFault.TheVariants.{Bad, NoMemory}

abbrev pub form_fault : ReadFault → Option FormFault
form_fault NoMemory = None
form_fault (Bad kind place) = Some (fault kind place)

-- the fault is that of a reader, or memory ran out
abbrev pub FailsWith : {Y : Type 0} → ReadFault → Result Y FormFault → Type 0
FailsWith = FailsBy form_fault

-- the fault of something of a known size
abbrev pub in_sized : ReadFault → ReadFault
in_sized NoMemory = NoMemory
in_sized (Bad kind place) = Bad (inside_kind kind) place

-- a reader of all the bytes has a value of which this holds, or the same fault, or memory ran out
abbrev pub Reads : {X Y : Type 0} → (X → Y → Type 0) → Result X ReadFault → Result Y FormFault → Type 0
Reads = HoldsBy form_fault

-- the same of a reader of the front, which ends at `new`
abbrev pub ReadsFront : {X Y : Type 0} → (X → Y → Type 0) → Result X ReadFault → Input → Result (Y × Input) FormFault
    → Type 0
ReadsFront = HoldsFrontBy form_fault

-- the same without memory
abbrev pub Tells : {X Y : Type 0} → (X → Y → Type 0) → Result X FormFault → Input → Result (Y × Input) FormFault
    → Type 0
Tells {X} {Y} holds (Ok x) new read = (y : Y) × (read ≡ Ok (y, new)) × holds x y
Tells holds (Err f) new read = read ≡ Err f

-- one opcode of a body was read, and so much is open behind it
abbrev pub Steps : {X : Type 0} → Result X ReadFault → List Bool → List Bool → Input
    → Result (Op Label × Input) FormFault → Type 0
Steps (Ok x) old_around new_around new read =
    (op : Op Label) × (read ≡ Ok (op, new)) × (new_around ≡ opened_by old_around op)
Steps (Err e) old_around new_around new read = FailsWith e read

-- the items of a section were read up to `new`: they are all of it where no byte is left there
abbrev pub Fills : Seen → Result Seen ReadFault → Input → Result Section FormFault → Type 0
Fills seen (Ok behind) new read =
    (section : Section) × (read ≡ ends (fault SizeMismatch) (section, new)) × (behind ≡ seen_after seen section)
Fills seen (Err e) new read = FailsWith e read
