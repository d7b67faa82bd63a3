-- The readers of numbers, names, vectors and types are exact.
use Rattle.std.proofs.Common.{ℕ, Bool, true, false}
use Rattle.std.specs.Prelude.{nat_le}
use Rattle.ctw_ops.specs.declared.types.Trust.{Trust}
use Rattle.ctw_ops.specs.declared.fault.What.{What}
use Rattle.ctw_ops.specs.declared.fault.What.TheVariants as what
use Rattle.ctw_leb.specs.Grammar.{Grammar, Bytes, OneOf, Times, Passing}
use Rattle.ctw_leb.specs.Numbers.{IsU32, IsS32, IsS64}
use Rattle.ctw_leb.specs.Vectors.{Vector, Sized, IsByteVector, IsName}
use Rattle.ctw_leb.specs.Reading.{Reader, WholeReader, Exact, Whole, refused, times, all_bytes}
use Rattle.ctw_leb.specs.Readers.{u32_at, s32_at, s64_at, name_at as leb_name_at}
use Rattle.ctw_leb.proofs.Widths.{u32_numbers, s32_numbers, s64_numbers}
use Rattle.ctw_leb.proofs.Names.{exact_name as exact_leb_name}
use Rattle.ctw_leb.proofs.Combinators.{exact_then, exact_give, exact_faulted, exact_one_of, exact_times, exact_vector, exact_sized, exact_tested, exact_seen_as, whole_bytes, whole_refused}
use Rattle.ctw_form.specs.declared.fault.FormKind.{FormKind}
use Rattle.ctw_form.specs.declared.fault.FormKind.TheVariants.{Truncated, TooMany}
use Rattle.ctw_form.specs.declared.fault.FormFault.{FormFault}
use Rattle.ctw_form.specs.declared.table.EntryForm.{EntryForm}
use Rattle.ctw_form.specs.declared.table.EntryForm.TheVariants.{Direct, Variant}
use Rattle.ctw_ops.specs.Limits.{most_params, most_results}
use Rattle.ctw_form.specs.Tables.{value_type, entry_form, trust_byte, table_byte, limits_form, memory_form, mutability}
use Rattle.ctw_form.specs.Spelled.{VectorUpto, IsValueType, IsSignature, entry_of, EntryBehind, IsTypeEntry, unbounded, bounded, Sizes, IsTable, memory_type, IsMemory, variable_type, IsVariable}
use Rattle.ctw_form.specs.Read.{fault, of_leb, inside, by_table, number_at, bits32_at, bits64_at, name_at, limited, upto_at, vector_at, vector_upto_at, sized_at, byte_vector_at, value_type_at, params_at, results_at, signature_at, variant_at, entry_behind, type_entry_at, sizes_at, table_at, memory_at, variable_at}
use Rattle.std.specs.Prelude.{Some, None, Result}

-- ---- numbers, names and bytes

pub exact_by_table : {A : Type 0} (table : ℕ → Result A FormKind) → Exact (OneOf table) (by_table table)
exact_by_table table = exact_one_of (fault Truncated) fault table

pub exact_number : Exact IsU32 number_at
unfolding number_at
exact_number = exact_faulted of_leb IsU32 u32_at u32_numbers.exact

pub exact_bits32 : Exact IsS32 bits32_at
unfolding bits32_at
exact_bits32 = exact_faulted of_leb IsS32 s32_at s32_numbers.exact

pub exact_bits64 : Exact IsS64 bits64_at
unfolding bits64_at
exact_bits64 = exact_faulted of_leb IsS64 s64_at s64_numbers.exact

pub exact_name : Exact IsName name_at
unfolding name_at
exact_name = exact_faulted of_leb IsName leb_name_at exact_leb_name

pub exact_limited : (test : ℕ → Bool) (what : What) (limit : ℕ) (G : Grammar ℕ) (r : Reader ℕ FormFault) → Exact G r → Exact (Passing test G) (limited test what limit r)
exact_limited test what limit G r g = exact_tested test (fault (TooMany what limit)) G r g

pub exact_vector_at : {A : Type 0} (G : Grammar A) (r : Reader A FormFault) → Exact G r → Exact (Vector G) (vector_at r)
exact_vector_at G r g = exact_vector G number_at r exact_number g

pub exact_upto : (room : ℕ) (what : What) (limit : ℕ) → Exact (Passing (λ n. nat_le n room) IsU32) (upto_at room what limit)
exact_upto room what limit = exact_limited (λ n. nat_le n room) what limit IsU32 number_at exact_number

pub exact_vector_upto : {A : Type 0} (room : ℕ) (what : What) (limit : ℕ) (G : Grammar A) (r : Reader A FormFault) → Exact G r → Exact (VectorUpto room G) (vector_upto_at room what limit r)
exact_vector_upto room what limit G r g =
    exact_then (Passing (λ n. nat_le n room) IsU32) (λ n. Times G n) (upto_at room what limit) (λ n. times r n) (exact_upto room what limit) (λ n. exact_times G r n g)

pub exact_sized_at : {A : Type 0} (G : Grammar A) (r : WholeReader A FormFault) → Whole G r → Exact (Sized G) (sized_at r)
exact_sized_at G r g = exact_sized G (fault Truncated) number_at (λ i. refused inside (r i)) exact_number (whole_refused inside G r g)

pub exact_byte_vector : Exact IsByteVector byte_vector_at
unfolding byte_vector_at
exact_byte_vector = exact_sized Bytes (fault Truncated) number_at all_bytes exact_number whole_bytes

-- ---- types

pub exact_value_type : (ct : Bool) → Exact (IsValueType ct) (value_type_at ct)
unfolding value_type_at
exact_value_type ct = exact_by_table (value_type ct)

pub exact_params : (ct : Bool) → Exact (VectorUpto most_params (IsValueType ct)) (params_at ct)
unfolding params_at
exact_params ct = exact_vector_upto most_params what.Params most_params (IsValueType ct) (value_type_at ct) (exact_value_type ct)

pub exact_results : (ct : Bool) → Exact (VectorUpto most_results (IsValueType ct)) (results_at ct)
unfolding results_at
exact_results ct = exact_vector_upto most_results what.Results most_results (IsValueType ct) (value_type_at ct) (exact_value_type ct)

pub exact_signature : (ct : Bool) (trust : Trust) → Exact (IsSignature ct trust) (signature_at ct trust)
unfolding signature_at
exact_signature ct trust =
    exact_then (VectorUpto most_params (IsValueType ct)) _ (params_at ct) _ (exact_params ct) (λ params.
    exact_then (VectorUpto most_results (IsValueType ct)) _ (results_at ct) _ (exact_results ct) (λ results.
    exact_give _))

pub exact_variant : (ct : Bool) → Exact (EntryBehind ct Variant) (variant_at ct)
unfolding variant_at
exact_variant ct =
    exact_then IsU32 _ number_at _ exact_number (λ base.
    exact_then (OneOf trust_byte) _ (by_table trust_byte) _ (exact_by_table trust_byte) (λ trust.
    exact_seen_as (entry_of (Some base)) (IsSignature ct trust) (signature_at ct trust) (exact_signature ct trust)))

pub exact_entry_behind : (ct : Bool) (form : EntryForm) → Exact (EntryBehind ct form) (entry_behind ct form)
exact_entry_behind ct (Direct trust) = exact_seen_as (entry_of None) (IsSignature ct trust) (signature_at ct trust) (exact_signature ct trust)
exact_entry_behind ct Variant = exact_variant ct

pub exact_type_entry : (ct : Bool) → Exact (IsTypeEntry ct) (type_entry_at ct)
unfolding type_entry_at
exact_type_entry ct = exact_then (OneOf (entry_form ct)) (EntryBehind ct) (by_table (entry_form ct)) (entry_behind ct) (exact_by_table (entry_form ct)) (exact_entry_behind ct)

pub exact_sizes : (both : Bool) → Exact (Sizes both) (sizes_at both)
unfolding sizes_at
exact_sizes false = exact_seen_as unbounded IsU32 number_at exact_number
exact_sizes true = exact_then IsU32 _ number_at _ exact_number (λ min. exact_seen_as (bounded min) IsU32 number_at exact_number)

pub exact_table : Exact IsTable table_at
unfolding table_at
exact_table =
    exact_then (OneOf table_byte) _ (by_table table_byte) _ (exact_by_table table_byte) (λ u.
    exact_then (OneOf limits_form) Sizes (by_table limits_form) sizes_at (exact_by_table limits_form) exact_sizes)

pub exact_memory : (ct : Bool) → Exact (IsMemory ct) (memory_at ct)
unfolding memory_at
exact_memory ct =
    exact_then (OneOf (memory_form ct)) _ (by_table (memory_form ct)) _ (exact_by_table (memory_form ct))
    (λ form. exact_seen_as (memory_type form.label) (Sizes form.bounded) (sizes_at form.bounded) (exact_sizes form.bounded))

pub exact_variable : (ct : Bool) → Exact (IsVariable ct) (variable_at ct)
unfolding variable_at
exact_variable ct =
    exact_then (IsValueType ct) _ (value_type_at ct) _ (exact_value_type ct)
    (λ type. exact_seen_as (variable_type type) (OneOf mutability) (by_table mutability) (exact_by_table mutability))
