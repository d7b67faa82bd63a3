-- What an instruction in place stands for.
use Rattle.std.specs.Prelude.{◌≡◌, ◌≤◌, ◌*◌, ◌⊎◌, ℕ, true, false, List, [], Result, Ok, Err}
use Rattle.ctw_ops.specs.declared.types.Label.{Label}
use Rattle.ctw_ops.specs.declared.types.Width.{Width}
use Rattle.ctw_ops.specs.Types.{FitsWidth, bit_width}
use Rattle.ctw_ops.specs.Forms.{is_load, is_store}
use Rattle.ctw_ops.specs.Numeric.{is_numeric}
use Rattle.ctw_ops.specs.Code as ops
use Rattle.ctw_ops.specs.Code.{Op, Plain}
use Rattle.ctw_leb.specs.Grammar.{Times}
use Rattle.ctw_leb.specs.Numbers.{IsU32}
use Rattle.ctw_leb.specs.Input.{Input}
use Rattle.ctw_flat.specs.declared.fault.CodeKind.{CodeKind}
use Rattle.ctw_flat.specs.declared.fault.CodeKind.TheVariants.{Unbalanced, TooDeep}
use Rattle.ctw_flat.specs.declared.fault.CodeFault.{CodeFault}
use Rattle.ctw_flat.specs.declared.opcode.Access.TheVariants as access
use Rattle.ctw_flat.specs.declared.opcode.Form.{Form}
use Rattle.ctw_flat.specs.declared.opcode.Form.TheVariants as form
use Rattle.ctw_flat.specs.declared.opcode.First.{First}
use Rattle.ctw_flat.specs.declared.opcode.First.TheVariants.{Direct, Prefix}
use Rattle.ctw_flat.specs.declared.instr.Instr.{Instr}
use Rattle.ctw_flat.specs.declared.instr.Instr.TheVariants as instr
use Rattle.ctw_flat.specs.Read.{indexes_at}

abbrev pub values : Result (List ℕ × Input) CodeFault → List ℕ
values (Ok x) = x.0
values (Err f) = []

-- the numbers that lent bytes spell
abbrev pub targets_in : ℕ → List ℕ → List ℕ
targets_in count bytes = values (indexes_at count (record { at = 0; rest = bytes }))

-- the opcode of an instruction
abbrev pub op_of : Instr → Op Label
op_of instr.Unreachable = Plain ops.Unreachable
op_of instr.Nop = Plain ops.Nop
op_of (instr.Block t) = ops.Opens ops.OfBlock t
op_of (instr.Loop t) = ops.Opens ops.OfLoop t
op_of (instr.If t) = ops.Opens ops.OfIf t
op_of instr.Else = ops.Closes ops.ByElse
op_of instr.End = ops.Closes ops.ByEnd
op_of (instr.Br depth) = Plain (ops.Br depth)
op_of (instr.BrIf depth) = Plain (ops.BrIf depth)
op_of (instr.BrTable targets count otherwise) = Plain (ops.BrTable (targets_in count targets.now) otherwise)
op_of instr.Return = Plain ops.Return
op_of (instr.Call index) = Plain (ops.Call index)
op_of (instr.CallIndirect index) = Plain (ops.CallIndirect index)
op_of instr.Drop = Plain ops.Drop
op_of (instr.Select label) = Plain (ops.Select label)
op_of (instr.LocalGet index) = Plain (ops.LocalGet index)
op_of (instr.LocalSet index) = Plain (ops.LocalSet index)
op_of (instr.LocalTee index) = Plain (ops.LocalTee index)
op_of (instr.GlobalGet index) = Plain (ops.GlobalGet index)
op_of (instr.GlobalSet index) = Plain (ops.GlobalSet index)
op_of (instr.Load width label bytes signed align offset) = Plain (ops.Load width label bytes signed align offset)
op_of (instr.Store width label bytes signed align offset) = Plain (ops.Store width label bytes align offset)
op_of instr.MemorySize = Plain ops.MemorySize
op_of instr.MemoryGrow = Plain ops.MemoryGrow
op_of (instr.Const width label bits) = Plain (ops.Const width label bits)
op_of (instr.Numeric op label) = Plain (ops.Numeric op label)
op_of (instr.Classify width) = Plain (ops.Classify width)
op_of (instr.Declassify width) = Plain (ops.Declassify width)

-- the lent bytes of a branch table spell its targets and nothing else, loads and stores have a form that is listed, a
-- store isn't signed, and a constant's bits fit its width
abbrev pub IsExactly : Instr → Type 0
IsExactly (instr.BrTable targets count otherwise) = Times IsU32 count targets.now (targets_in count targets.now)
IsExactly (instr.Load width label bytes signed align offset) = is_load width bytes signed ≡ true
IsExactly (instr.Store width label bytes signed align offset) = (signed ≡ false) × (is_store width bytes ≡ true)
IsExactly (instr.Const width label bits) = FitsWidth width bits
IsExactly _ = Unit {0}

-- 1, 2, 4 or 8 bytes that are no more than a width has
abbrev pub IsSize : Width → ℕ → Type 0
IsSize width bytes = ((bytes ≡ 1) ⊎ ((bytes ≡ 2) ⊎ ((bytes ≡ 4) ⊎ (bytes ≡ 8)))) × (8 * bytes ≤ bit_width width)

-- the same of what an opcode's byte stands for
abbrev pub IsListed : Form → Type 0
IsListed (form.Access (access.Load width bytes signed)) = is_load width bytes signed ≡ true
IsListed (form.Access (access.Store width bytes)) = is_store width bytes ≡ true
IsListed _ = Unit {0}

-- the forms that have an opcode: numeric operations, loads and stores that are listed, and all others
abbrev pub IsOpcode : Form → Type 0
IsOpcode (form.Numeric op) = is_numeric op ≡ true
IsOpcode f = IsListed f

abbrev pub IsListedFirst : First → Type 0
IsListedFirst Prefix = Unit {0}
IsListedFirst (Direct f) = IsListed f

-- the kinds of faults that one instruction has by itself
abbrev pub IsInstrKind : CodeKind → Type 0
IsInstrKind Unbalanced = ⊥
IsInstrKind TooDeep = ⊥
IsInstrKind _ = Unit {0}
