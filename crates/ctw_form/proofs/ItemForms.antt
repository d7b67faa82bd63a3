-- The readers of imports, exports, constants and of what begins by them are exact.
use Rattle.std.proofs.Common.{Bool}
use Rattle.ctw_ops.specs.Types.{value_type as typed}
use Rattle.ctw_ops.specs.declared.types.Label.{Label}
use Rattle.ctw_ops.specs.declared.types.Label.TheVariants.{Public, Secret}
use Rattle.ctw_ops.specs.declared.types.Width.{Width}
use Rattle.ctw_ops.specs.declared.types.Width.TheVariants.{W32, W64}
use Rattle.ctw_ops.specs.declared.types.ExternTag.{ExternTag}
use Rattle.ctw_ops.specs.declared.types.ExternTag.TheVariants as tag
use Rattle.ctw_ops.specs.Tree.{ImportedFunction, ImportedTable, ImportedMemory, ImportedGlobal, Number, ValueOf}
use Rattle.ctw_leb.specs.Grammar.{OneOf, Mapped}
use Rattle.ctw_leb.specs.Grammar as grammar
use Rattle.ctw_leb.specs.Numbers.{IsU32}
use Rattle.ctw_leb.specs.Vectors.{Vector, IsByteVector, IsName}
use Rattle.ctw_leb.specs.Reading.{Exact}
use Rattle.ctw_leb.specs.Reading as reader
use Rattle.ctw_leb.proofs.Combinators.{exact_then, exact_give, exact_seen_as}
use Rattle.ctw_flat.specs.Spelled.{IsBits}
use Rattle.ctw_form.specs.declared.table.ConstantForm.{ConstantForm}
use Rattle.ctw_form.specs.declared.table.ConstantForm.TheVariants as constant
use Rattle.ctw_form.specs.declared.table.Held.{Held}
use Rattle.ctw_form.specs.Tables.{extern_kind, import_kind, constant_form, secret_constant, constant_end}
use Rattle.ctw_form.specs.Spelled.{IsTable, IsMemory, IsVariable, IsExtern, import_of, IsImport, export_of, IsExport, IsNumber, ConstantBehind, IsConstant, global_of, IsGlobal, element_of, IsElement, segment_of, IsSegment}
use Rattle.ctw_form.specs.Read.{by_table, number_at, name_at, vector_at, byte_vector_at, table_at, memory_at, variable_at, extern_at, import_at, export_at, bits_at, constant_number_at, constant_behind, constant_at, global_at, element_at, segment_at}
use Rattle.ctw_form.proofs.TypeForms.{exact_by_table, exact_number, exact_bits32, exact_bits64, exact_name, exact_vector_at, exact_byte_vector, exact_table, exact_memory, exact_variable}

-- ---- imports and exports

pub exact_extern : (ct : Bool) (kind : ExternTag) → Exact (IsExtern ct kind) (extern_at ct kind)
unfolding extern_at
exact_extern ct tag.Func = exact_seen_as ImportedFunction IsU32 number_at exact_number
exact_extern ct tag.Table = exact_seen_as ImportedTable IsTable table_at exact_table
exact_extern ct tag.Memory = exact_seen_as ImportedMemory (IsMemory ct) (memory_at ct) (exact_memory ct)
exact_extern ct tag.Global = exact_seen_as ImportedGlobal (IsVariable ct) (variable_at ct) (exact_variable ct)

pub exact_import : (ct : Bool) (held : Held) → Exact (IsImport ct held) (import_at ct held)
unfolding import_at
exact_import ct held =
    exact_then IsName _ name_at _ exact_name (λ from.
    exact_then IsName _ name_at _ exact_name (λ name.
    exact_seen_as (import_of from name) (grammar.◌>>=◌ (OneOf (import_kind held)) (IsExtern ct)) (reader.◌>>=◌ (by_table (import_kind held)) (extern_at ct))
    (exact_then (OneOf (import_kind held)) (IsExtern ct) (by_table (import_kind held)) (extern_at ct) (exact_by_table (import_kind held)) (exact_extern ct))))

pub exact_export : Exact IsExport export_at
unfolding export_at
exact_export =
    exact_then IsName _ name_at _ exact_name (λ name.
    exact_then (OneOf extern_kind) _ (by_table extern_kind) _ (exact_by_table extern_kind) (λ kind.
    exact_seen_as (export_of name kind) IsU32 number_at exact_number))

-- ---- constant expressions and what begins by them

pub exact_bits : (width : Width) → Exact (IsBits width) (bits_at width)
exact_bits W32 = exact_bits32
exact_bits W64 = exact_bits64

pub exact_constant_number : (label : Label) (width : Width) → Exact (IsNumber label width) (constant_number_at label width)
unfolding constant_number_at
exact_constant_number label width = exact_seen_as (Number (typed width label)) (IsBits width) (bits_at width) (exact_bits width)

pub exact_constant_behind : (form : ConstantForm) → Exact (ConstantBehind form) (constant_behind form)
unfolding constant_behind
exact_constant_behind (constant.Number width) = exact_constant_number Public width
exact_constant_behind constant.Global = exact_seen_as ValueOf IsU32 number_at exact_number
exact_constant_behind constant.Prefix = exact_then (OneOf secret_constant) (IsNumber Secret) (by_table secret_constant) (constant_number_at Secret) (exact_by_table secret_constant) (exact_constant_number Secret)

pub exact_constant : (ct : Bool) → Exact (IsConstant ct) (constant_at ct)
unfolding constant_at
exact_constant ct =
    exact_then (OneOf (constant_form ct)) _ (by_table (constant_form ct)) _ (exact_by_table (constant_form ct)) (λ form.
    exact_then (ConstantBehind form) _ (constant_behind form) _ (exact_constant_behind form) (λ value.
    exact_then (OneOf (constant_end ct)) _ (by_table (constant_end ct)) _ (exact_by_table (constant_end ct)) (λ u.
    exact_give value)))

pub exact_global : (ct : Bool) → Exact (IsGlobal ct) (global_at ct)
unfolding global_at
exact_global ct = exact_then (IsVariable ct) _ (variable_at ct) _ (exact_variable ct) (λ type. exact_seen_as (global_of type) _ (constant_at ct) (exact_constant ct))

pub exact_element : (ct : Bool) → Exact (IsElement ct) (element_at ct)
unfolding element_at
exact_element ct =
    exact_then IsU32 _ number_at _ exact_number (λ table.
    exact_then (IsConstant ct) _ (constant_at ct) _ (exact_constant ct) (λ offset.
    exact_seen_as (element_of table offset) (Vector IsU32) (vector_at number_at) (exact_vector_at IsU32 number_at exact_number)))

pub exact_segment : (ct : Bool) → Exact (IsSegment ct) (segment_at ct)
unfolding segment_at
exact_segment ct =
    exact_then IsU32 _ number_at _ exact_number (λ memory.
    exact_then (IsConstant ct) _ (constant_at ct) _ (exact_constant ct) (λ offset.
    exact_seen_as (segment_of memory offset) IsByteVector byte_vector_at exact_byte_vector))
