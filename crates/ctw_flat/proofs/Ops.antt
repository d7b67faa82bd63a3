-- The reader of opcodes is exact.
use Rattle.std.proofs.Common.{◌≡◌, ℕ, List, [], ◌∷◌, ◌++◌, Result, ap, ◌∙◌}
use Rattle.ctw_ops.specs.declared.types.Label.{Label}
use Rattle.ctw_ops.specs.declared.types.Label.TheVariants.{Public, Secret}
use Rattle.ctw_ops.specs.declared.types.Width.{Width}
use Rattle.ctw_ops.specs.declared.types.Width.TheVariants.{W32, W64}
use Rattle.ctw_ops.specs.Code as ops
use Rattle.ctw_ops.specs.Code.{Op, Plain}
use Rattle.ctw_leb.specs.Reading.{Exact, give}
use Rattle.ctw_leb.specs.Reading as reader
use Rattle.ctw_leb.specs.Grammar.{Grammar, Just, OneOf, Times}
use Rattle.ctw_leb.specs.Grammar as grammar
use Rattle.ctw_leb.specs.Numbers.{IsU32, IsS32, IsS64}
use Rattle.ctw_leb.specs.Vectors.{Vector}
use Rattle.ctw_leb.specs.Readers.{u32_at, s32_at, s64_at}
use Rattle.ctw_leb.proofs.Widths.{u32_numbers, s32_numbers, s64_numbers}
use Rattle.ctw_leb.proofs.Combinators.{exact_then, exact_give, exact_faulted, exact_one_of, exact_times, IsFilled}
use Rattle.ctw_flat.specs.declared.fault.CodeKind.{CodeKind}
use Rattle.ctw_flat.specs.declared.fault.CodeKind.TheVariants.{Truncated}
use Rattle.ctw_flat.specs.declared.fault.CodeFault.{CodeFault}
use Rattle.ctw_flat.specs.declared.opcode.Access.{Access}
use Rattle.ctw_flat.specs.declared.opcode.Form.{Form}
use Rattle.ctw_flat.specs.declared.opcode.Form.TheVariants as form
use Rattle.ctw_flat.specs.declared.opcode.First.{First}
use Rattle.ctw_flat.specs.declared.opcode.First.TheVariants.{Direct, Prefix}
use Rattle.ctw_flat.specs.Opcodes.{opcode, secret_form, block_type, reserved}
use Rattle.ctw_flat.specs.Spelled.{bare_op, shape_of, indexed_leaf, access_leaf, IsBits, Immediate, Behind, IsOp}
use Rattle.ctw_flat.specs.Read.{fault, of_leb, by_table, block_type_at, reserved_at, index_at, bits32_at, bits64_at, indexes_at, branch_table_at, access_at, bits_at, constant_at, immediate_at, secret_at, behind_at, op_at}

exact_table : {A : Type 0} (table : ℕ → Result A CodeKind) → Exact (OneOf table) (by_table table)
exact_table table = exact_one_of (fault Truncated) fault table

exact_block_type : Exact (OneOf block_type) block_type_at
unfolding block_type_at
exact_block_type = exact_table block_type

exact_reserved : Exact (OneOf reserved) reserved_at
unfolding reserved_at
exact_reserved = exact_table reserved

pub exact_index : Exact IsU32 index_at
unfolding index_at
exact_index = exact_faulted of_leb IsU32 u32_at u32_numbers.exact

exact_bits32 : Exact IsS32 bits32_at
unfolding bits32_at
exact_bits32 = exact_faulted of_leb IsS32 s32_at s32_numbers.exact

exact_bits64 : Exact IsS64 bits64_at
unfolding bits64_at
exact_bits64 = exact_faulted of_leb IsS64 s64_at s64_numbers.exact

pub exact_indexes : (count : ℕ) → Exact (Times IsU32 count) (indexes_at count)
unfolding indexes_at
exact_indexes count = exact_times IsU32 index_at count exact_index

-- a value made of what is read
exact_made : {A B : Type 0} (f : A → B) (G : Grammar A) (r : reader.Reader A CodeFault) → Exact G r → Exact (grammar.◌>>=◌ G (λ a. Just (f a))) (reader.◌>>=◌ r (λ a. give (f a)))
exact_made f G r g = exact_then G (λ a. Just (f a)) r (λ a. give (f a)) g (λ a. exact_give (f a))

exact_branch_table : Exact (grammar.◌>>=◌ (Vector IsU32) (λ targets. grammar.◌>>=◌ IsU32 (λ n. Just (Plain (ops.BrTable targets n))))) branch_table_at
unfolding branch_table_at
exact_branch_table =
    exact_then (Vector IsU32) (λ targets. grammar.◌>>=◌ IsU32 (λ n. Just (Plain (ops.BrTable targets n)))) (reader.◌>>=◌ index_at indexes_at) (λ targets. reader.◌>>=◌ index_at (λ n. give (Plain (ops.BrTable targets n))))
    (exact_then IsU32 (λ n. Times IsU32 n) index_at indexes_at exact_index exact_indexes)
    (λ targets. exact_made (λ n. Plain (ops.BrTable targets n)) IsU32 index_at exact_index)

exact_access : (label : Label) (a : Access) → Exact (grammar.◌>>=◌ IsU32 (λ align. grammar.◌>>=◌ IsU32 (λ offset. Just (Plain (access_leaf label a align offset))))) (access_at label a)
unfolding access_at
exact_access label a =
    exact_then IsU32 (λ align. grammar.◌>>=◌ IsU32 (λ offset. Just (Plain (access_leaf label a align offset)))) index_at (λ align. reader.◌>>=◌ index_at (λ offset. give (Plain (access_leaf label a align offset)))) exact_index
    (λ align. exact_made (λ offset. Plain (access_leaf label a align offset)) IsU32 index_at exact_index)

exact_bits : (width : Width) → Exact (IsBits width) (bits_at width)
exact_bits W32 = exact_bits32
exact_bits W64 = exact_bits64

exact_constant : (label : Label) (width : Width) → Exact (grammar.◌>>=◌ (IsBits width) (λ bits. Just (Plain (ops.Const width label bits)))) (constant_at label width)
unfolding constant_at
exact_constant label width = exact_made (λ bits. Plain (ops.Const width label bits)) (IsBits width) (bits_at width) (exact_bits width)

exact_call_indirect : Exact {A = Op Label} (grammar.◌>>=◌ IsU32 (λ n. grammar.◌>>=◌ (OneOf reserved) (λ zero_byte. Just (Plain (ops.CallIndirect n))))) (reader.◌>>=◌ index_at (λ n. reader.◌>>=◌ reserved_at (λ zero_byte. give (Plain (ops.CallIndirect n)))))
exact_call_indirect =
    exact_then IsU32 (λ n. grammar.◌>>=◌ (OneOf reserved) (λ zero_byte. Just (Plain (ops.CallIndirect n)))) index_at (λ n. reader.◌>>=◌ reserved_at (λ zero_byte. give (Plain (ops.CallIndirect n)))) exact_index
    (λ n. exact_made (λ zero_byte. Plain (ops.CallIndirect n)) (OneOf reserved) reserved_at exact_reserved)

exact_immediate : (label : Label) (f : Form) → Exact (Immediate label f) (immediate_at label f)
unfolding immediate_at
exact_immediate label (form.Bare b) = exact_give (bare_op b)
exact_immediate label (form.Opens o) = exact_made (λ t. ops.Opens (shape_of o) t) (OneOf block_type) block_type_at exact_block_type
exact_immediate label (form.Indexed x) = exact_made (λ n. Plain (indexed_leaf x n)) IsU32 index_at exact_index
exact_immediate label form.BrTable = exact_branch_table
exact_immediate label form.CallIndirect = exact_call_indirect
exact_immediate label form.MemorySize = exact_made (λ zero_byte. Plain (ops.MemorySize)) (OneOf reserved) reserved_at exact_reserved
exact_immediate label form.MemoryGrow = exact_made (λ zero_byte. Plain (ops.MemoryGrow)) (OneOf reserved) reserved_at exact_reserved
exact_immediate label form.Select = exact_give (Plain (ops.Select label))
exact_immediate label (form.Access a) = exact_access label a
exact_immediate label (form.Const width) = exact_constant label width
exact_immediate label (form.Numeric op) = exact_give (Plain (ops.Numeric op label))

exact_behind : (f : First) → Exact (Behind f) (behind_at f)
unfolding secret_at
exact_behind Prefix = exact_then (OneOf secret_form) (Immediate Secret) (by_table secret_form) (immediate_at Secret) (exact_table secret_form) (exact_immediate Secret)
exact_behind (Direct f) = exact_immediate Public f

pub exact_op : Exact IsOp op_at
unfolding op_at
exact_op = exact_then (OneOf opcode) Behind (by_table opcode) behind_at (exact_table opcode) exact_behind

pub op_filled : IsFilled IsOp
op_filled op m =
    let e : [] ≡ m.3.0 ∷ m.2 = m.5 ∙ ap (λ (l : List ℕ). l ++ m.2) m.3.1 in
    absurd cc
