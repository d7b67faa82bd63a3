-- The reader of opcodes on lists: the opcode at the front, or the first fault.
use Rattle.std.specs.Prelude.{ℕ, ◌+◌, length, List, Option, Result, Ok, Err}
use Rattle.ctw_ops.specs.ValueType.{ValueType}
use Rattle.ctw_ops.specs.declared.types.Label.{Label}
use Rattle.ctw_ops.specs.declared.types.Label.TheVariants.{Public, Secret}
use Rattle.ctw_ops.specs.declared.types.Width.{Width}
use Rattle.ctw_ops.specs.declared.types.Width.TheVariants.{W32, W64}
use Rattle.ctw_ops.specs.Code as ops
use Rattle.ctw_ops.specs.Code.{Op, Plain}
use Rattle.ctw_leb.specs.declared.fault.LebFault.{LebFault}
use Rattle.ctw_leb.specs.declared.fault.LebFault.TheVariants as leb
use Rattle.ctw_leb.specs.Input.{Input}
use Rattle.ctw_leb.specs.Reading.{Reader, give, faulted, one_of, times, ◌>>=◌}
use Rattle.ctw_leb.specs.Readers.{u32_at, s32_at, s64_at}
use Rattle.ctw_flat.specs.declared.fault.CodeKind.{CodeKind}
use Rattle.ctw_flat.specs.declared.fault.CodeKind.TheVariants.{Truncated, BadLeb}
use Rattle.ctw_flat.specs.declared.fault.CodeFault.{CodeFault}
use Rattle.ctw_flat.specs.declared.opcode.Access.{Access}
use Rattle.ctw_flat.specs.declared.opcode.Form.{Form}
use Rattle.ctw_flat.specs.declared.opcode.Form.TheVariants as form
use Rattle.ctw_flat.specs.declared.opcode.First.{First}
use Rattle.ctw_flat.specs.declared.opcode.First.TheVariants.{Direct, Prefix}
use Rattle.ctw_flat.specs.Opcodes.{opcode, secret_form, block_type, reserved}
use Rattle.ctw_flat.specs.Spelled.{bare_op, shape_of, indexed_leaf, access_leaf}

abbrev pub fault : CodeKind → ℕ → CodeFault
fault kind place = record { kind = kind; place = place }

-- the fault of a number where the reader stands; a number has no text
abbrev pub of_leb : Input → LebFault → CodeFault
of_leb i leb.Truncated = fault Truncated (i.at + length i.rest)
of_leb i (leb.BadLeb place) = fault BadLeb place
of_leb i (leb.BadUtf8 place) = fault BadLeb place

-- one byte by a table that says what is wrong with it
abbrev pub by_table : {A : Type 0} → (ℕ → Result A CodeKind) → Reader A CodeFault
by_table table = one_of (fault Truncated) fault table

unfoldable pub block_type_at : Reader (Option (ValueType Label)) CodeFault
block_type_at = by_table block_type

unfoldable pub reserved_at : Reader (Unit {0}) CodeFault
reserved_at = by_table reserved

unfoldable pub index_at : Reader ℕ CodeFault
index_at = faulted of_leb u32_at

unfoldable pub bits32_at : Reader ℕ CodeFault
bits32_at = faulted of_leb s32_at

unfoldable pub bits64_at : Reader ℕ CodeFault
bits64_at = faulted of_leb s64_at

-- so many indexes one after another
unfoldable pub indexes_at : ℕ → Reader (List ℕ) CodeFault
indexes_at count = times index_at count

unfoldable pub branch_table_at : Reader (Op Label) CodeFault
branch_table_at = (index_at >>= indexes_at) >>= λ targets. index_at >>= λ n. give (Plain (ops.BrTable targets n))

unfoldable pub access_at : Label → Access → Reader (Op Label) CodeFault
access_at label a = index_at >>= λ align. index_at >>= λ offset. give (Plain (access_leaf label a align offset))

-- a constant's bits
abbrev pub bits_at : Width → Reader ℕ CodeFault
bits_at W32 = bits32_at
bits_at W64 = bits64_at

unfoldable pub constant_at : Label → Width → Reader (Op Label) CodeFault
constant_at label width = bits_at width >>= λ bits. give (Plain (ops.Const width label bits))

-- what stands behind an opcode's byte
unfoldable pub immediate_at : Label → Form → Reader (Op Label) CodeFault
immediate_at label (form.Bare b) = give (bare_op b)
immediate_at label (form.Opens o) = block_type_at >>= λ t. give (ops.Opens (shape_of o) t)
immediate_at label (form.Indexed x) = index_at >>= λ n. give (Plain (indexed_leaf x n))
immediate_at label form.BrTable = branch_table_at
immediate_at label form.CallIndirect = index_at >>= λ n. reserved_at >>= λ zero_byte. give (Plain (ops.CallIndirect n))
immediate_at label form.MemorySize = reserved_at >>= λ zero_byte. give (Plain ops.MemorySize)
immediate_at label form.MemoryGrow = reserved_at >>= λ zero_byte. give (Plain ops.MemoryGrow)
immediate_at label form.Select = give (Plain (ops.Select label))
immediate_at label (form.Access a) = access_at label a
immediate_at label (form.Const width) = constant_at label width
immediate_at label (form.Numeric op) = give (Plain (ops.Numeric op label))

-- what stands behind the prefix
unfoldable pub secret_at : Reader (Op Label) CodeFault
secret_at = by_table secret_form >>= immediate_at Secret

-- what stands behind the first byte
abbrev pub behind_at : First → Reader (Op Label) CodeFault
behind_at Prefix = secret_at
behind_at (Direct form) = immediate_at Public form

-- the same of a byte at a place, which may stand for nothing
abbrev pub behind_byte_at : Result First CodeKind → ℕ → Reader (Op Label) CodeFault
behind_byte_at (Ok first) place i = behind_at first i
behind_byte_at (Err kind) place i = Err (fault kind place)

-- the opcode at the front with what stands behind it
unfoldable pub op_at : Reader (Op Label) CodeFault
op_at = by_table opcode >>= behind_at
