-- The canonical texts of types, items and opcodes are spellings, and no longer than any other.
use Rattle.std.proofs.Common.{◌≡◌, ℕ, Bool, true, false, List, [], ◌∷◌, ◌++◌, length, Some, None, refl, sym, ap, ◌∙◌, append_assoc, append-nil, length-append, arith, leb-true}
use Rattle.std.specs.Prelude.{◌≤◌}
use Rattle.ctw_ops.specs.ValueType.{ValueType}
use Rattle.ctw_ops.specs.Types.{FunctionType, type_byte, value_type as typed}
use Rattle.ctw_ops.specs.declared.types.Label.{Label}
use Rattle.ctw_ops.specs.declared.types.Label.TheVariants.{Public, Secret}
use Rattle.ctw_ops.specs.declared.types.Trust.{Trust}
use Rattle.ctw_ops.specs.declared.types.ExternTag.{ExternTag}
use Rattle.ctw_ops.specs.declared.types.ExternTag.TheVariants as tag
use Rattle.ctw_ops.specs.Code as ops
use Rattle.ctw_ops.specs.Code.{Op}
use Rattle.ctw_ops.specs.Tree.{Number, ImportedFunction, ImportedTable, ImportedMemory, ImportedGlobal, Constant, ValueOf}
use Rattle.ctw_ops.specs.Typing.{optional}
use Rattle.ctw_leb.specs.Grammar.{Grammar, ◌>>=◌, Just, OneOf, Mapped}
use Rattle.ctw_leb.specs.Numbers.{IsU32}
use Rattle.ctw_leb.specs.Vectors.{Vector, IsByteVector, IsName}
use Rattle.ctw_leb.specs.Spelling.{u32_text}
use Rattle.ctw_flat.specs.Spelled.{IsBits}
use Rattle.ctw_form.specs.declared.table.EntryForm.{EntryForm}
use Rattle.ctw_form.specs.declared.table.EntryForm.TheVariants as entry
use Rattle.ctw_form.specs.declared.table.ConstantForm.{ConstantForm}
use Rattle.ctw_form.specs.declared.table.ConstantForm.TheVariants as constant
use Rattle.ctw_form.specs.declared.table.Held.{Held}
use Rattle.ctw_ops.specs.Limits.{most_params, most_results}
use Rattle.ctw_form.specs.Tables.{value_type, entry_form, trust_byte, table_byte, limits_form, memory_form, mutability, extern_kind, import_kind, constant_form, secret_constant, constant_end}
use Rattle.ctw_form.specs.Sections.{first}
use Rattle.ctw_form.specs.Spelled.{VectorUpto, IsValueType, IsSignature, entry_of, EntryBehind, IsTypeEntry, unbounded, bounded, Sizes, IsTable, memory_type, IsMemory, variable_type, IsVariable, IsExtern, import_of, IsImport, export_of, IsExport, IsNumber, ConstantBehind, IsConstant, global_of, IsGlobal, element_of, IsElement, segment_of, IsSegment}
use Rattle.ctw_form.proofs.SpelledParts.{times_count}
use Rattle.ctw_write.specs.Canon as write
use Rattle.ctw_flat.specs.Opcodes.{const_opcode}
use Rattle.ctw_write.specs.Canon.{all_texts, vector_text, sized_text, type_text, signature_text, type_entry_text, limits_text, table_text, memory_text, mutable_byte, variable_text, extern_text, import_text, kind_byte, export_text, in_form, bits_text, block_type_byte, leaf_text, op_text, constant_text, global_text, element_text, segment_text}
use Rattle.ctw_write.proofs.Settling.{Settles, settles_just, settles_then, settles_where, settles_seen, settles_mapped, settles_same, settles_as, settles_byte, settles_number, settles_bits, settles_vector, settles_upto, settles_byte_vector, settles_name}
use Rattle.ctw_write.proofs.BytesOf.{value_type_byte, entry_form_byte, entry_form_is, trust_is, table_is, bound_byte, limits_is, memory_byte, memory_is, mutability_is, kind_is, import_is, constant_byte, constant_is, secret_constant_is, constant_end_is}

-- ---- types

pub settles_type : (ct : Bool) → Settles [] (IsValueType ct) type_text
settles_type ct = settles_byte (value_type ct) type_byte (value_type_byte ct)

-- at most one result is the optional one
pub optional_first : {A : Type 0} (l : List A) → length l ≤ 1 → optional (first l) ≡ l
optional_first [] le = refl
optional_first (a ∷ []) le = refl
optional_first (a ∷ b ∷ others) le = absurd (omega arith)

pub upto_count : {A : Type 0} (limit : ℕ) (G : Grammar A) (text : List ℕ) (l : List A) → VectorUpto limit G text l → length l ≤ limit
upto_count limit G text l m = omega (arith, times_count (λ u. G) _ m.0 tt m.2 l m.4, leb-true m.0 limit m.3.1)

abbrev results_are : Trust → List (ValueType Label) → List (ValueType Label) → FunctionType Label
results_are trust params results = record { trust = trust; params = params; result = first results }

settles_signature : (ct : Bool) (trust : Trust) → Settles [] (IsSignature ct trust) signature_text
settles_signature ct trust =
    settles_then [] (VectorUpto most_params (IsValueType ct)) _ (vector_text type_text) signature_text (settles_upto most_params (IsValueType ct) type_text (settles_type ct)) (λ params.
    settles_where (λ l. length l ≤ 1) (vector_text type_text params) (VectorUpto most_results (IsValueType ct)) (λ results. Just (results_are trust params results)) (vector_text type_text) signature_text
    (upto_count most_results (IsValueType ct)) (settles_upto most_results (IsValueType ct) type_text (settles_type ct)) (λ results few.
    settles_just (vector_text type_text params ++ vector_text type_text results) (results_are trust params results) signature_text
    (ap (λ (l : List (ValueType Label)). vector_text type_text params ++ vector_text type_text l) (optional_first results few))))

signature_trust : (ct : Bool) (trust : Trust) (text : List ℕ) (f : FunctionType Label) → IsSignature ct trust text f → f.trust ≡ trust
signature_trust ct trust text f m = ap (λ (g : FunctionType Label). g.trust) (sym m.4.4.1)

settles_behind : (ct : Bool) (f : EntryForm) → Settles (entry_form_byte f ∷ []) (EntryBehind ct f) type_entry_text
settles_behind ct (entry.Direct trust) =
    settles_seen (write.entry_byte trust ∷ []) (entry_of None) (IsSignature ct trust) signature_text type_entry_text (settles_signature ct trust)
    (λ text f m. ap (λ (t : Trust). write.entry_byte t ∷ signature_text f) (signature_trust ct trust text f m))
settles_behind ct entry.Variant =
    settles_then (0x62 ∷ []) IsU32 _ u32_text type_entry_text settles_number (λ base.
    settles_then (0x62 ∷ u32_text base) (OneOf trust_byte) _ (λ trust. write.trust_byte trust ∷ []) type_entry_text (settles_byte trust_byte write.trust_byte trust_is) (λ trust.
    settles_seen (0x62 ∷ (u32_text base ++ write.trust_byte trust ∷ [])) (entry_of (Some base)) (IsSignature ct trust) signature_text type_entry_text (settles_signature ct trust)
    (λ text f m. ap (λ (t : Trust). 0x62 ∷ (u32_text base ++ write.trust_byte t ∷ signature_text f)) (signature_trust ct trust text f m) ∙ ap (λ (l : List ℕ). 0x62 ∷ l) (sym (append_assoc (u32_text base) (write.trust_byte trust ∷ []) (signature_text f))))))

pub settles_type_entry : (ct : Bool) → Settles [] (IsTypeEntry ct) type_entry_text
settles_type_entry ct = settles_then [] (OneOf (entry_form ct)) (EntryBehind ct) (λ f. entry_form_byte f ∷ []) type_entry_text (settles_byte (entry_form ct) entry_form_byte (entry_form_is ct)) (settles_behind ct)

-- sizes behind the byte that says which there are
settles_sizes : (alone both : ℕ) (bounded : Bool) → Settles (bound_byte alone both bounded ∷ []) (Sizes bounded) (limits_text alone both)
settles_sizes alone both false = settles_mapped (alone ∷ []) unbounded IsU32 u32_text (limits_text alone both) settles_number (λ min. refl)
settles_sizes alone both true =
    settles_then (both ∷ []) IsU32 _ u32_text (limits_text alone both) settles_number (λ min.
    settles_mapped (both ∷ u32_text min) (bounded min) IsU32 u32_text (limits_text alone both) settles_number (λ max. refl))

-- the same behind a text, as a part of something else
settles_limits : Settles [] (OneOf limits_form >>= Sizes) (limits_text 0x00 0x01)
settles_limits = settles_then [] (OneOf limits_form) Sizes (λ bounded. bound_byte 0x00 0x01 bounded ∷ []) (limits_text 0x00 0x01) (settles_byte limits_form (bound_byte 0x00 0x01) limits_is) (settles_sizes 0x00 0x01)

pub settles_table : Settles [] IsTable table_text
settles_table =
    settles_then [] (OneOf table_byte) _ (λ u. 0x70 ∷ []) table_text (settles_byte table_byte (λ u. 0x70) table_is) (λ u.
    settles_as (0x70 ∷ []) (OneOf limits_form >>= Sizes) (limits_text 0x00 0x01) table_text settles_limits (λ text limits m. refl))

settles_memory_sizes : (label : Label) (both : Bool) → Settles (memory_byte (record { label = label; bounded = both }) ∷ []) (Mapped (memory_type label) (Sizes both)) memory_text
settles_memory_sizes Public both = settles_same (bound_byte 0x00 0x01 both ∷ []) (memory_type Public) (Sizes both) (limits_text 0x00 0x01) memory_text (settles_sizes 0x00 0x01 both) (λ limits. refl)
settles_memory_sizes Secret both = settles_same (bound_byte 0x10 0x11 both ∷ []) (memory_type Secret) (Sizes both) (limits_text 0x10 0x11) memory_text (settles_sizes 0x10 0x11 both) (λ limits. refl)

pub settles_memory : (ct : Bool) → Settles [] (IsMemory ct) memory_text
settles_memory ct =
    settles_then [] (OneOf (memory_form ct)) _ (λ f. memory_byte f ∷ []) memory_text (settles_byte (memory_form ct) memory_byte (memory_is ct)) (λ f.
    settles_memory_sizes f.label f.bounded)

pub settles_variable : (ct : Bool) → Settles [] (IsVariable ct) variable_text
settles_variable ct =
    settles_then [] (IsValueType ct) _ type_text variable_text (settles_type ct) (λ type.
    settles_mapped (type_text type) (variable_type type) (OneOf mutability) (λ mutable. mutable_byte mutable ∷ []) variable_text (settles_byte mutability mutable_byte mutability_is) (λ mutable. refl))

-- ---- imports and exports

settles_extern : (ct : Bool) (kind : ExternTag) → Settles (kind_byte kind ∷ []) (IsExtern ct kind) extern_text
settles_extern ct tag.Func = settles_mapped (0x00 ∷ []) ImportedFunction IsU32 u32_text extern_text settles_number (λ type. refl)
settles_extern ct tag.Table = settles_mapped (0x01 ∷ []) ImportedTable IsTable table_text extern_text settles_table (λ limits. refl)
settles_extern ct tag.Memory = settles_mapped (0x02 ∷ []) ImportedMemory (IsMemory ct) memory_text extern_text (settles_memory ct) (λ type. refl)
settles_extern ct tag.Global = settles_mapped (0x03 ∷ []) ImportedGlobal (IsVariable ct) variable_text extern_text (settles_variable ct) (λ type. refl)

pub settles_import : (ct : Bool) (held : Held) → Settles [] (IsImport ct held) import_text
settles_import ct held =
    settles_then [] IsName _ sized_text import_text settles_name (λ from.
    settles_then (sized_text from) IsName _ sized_text import_text settles_name (λ name.
    settles_mapped (sized_text from ++ sized_text name) (import_of from name) (OneOf (import_kind held) >>= IsExtern ct) extern_text import_text
    (settles_then [] (OneOf (import_kind held)) (IsExtern ct) (λ kind. kind_byte kind ∷ []) extern_text (settles_byte (import_kind held) kind_byte (import_is held)) (settles_extern ct))
    (λ kind. refl)))

pub settles_export : Settles [] IsExport export_text
settles_export =
    settles_then [] IsName _ sized_text export_text settles_name (λ name.
    settles_then (sized_text name) (OneOf extern_kind) _ (λ kind. kind_byte kind ∷ []) export_text (settles_byte extern_kind kind_byte kind_is) (λ kind.
    settles_mapped (sized_text name ++ kind_byte kind ∷ []) (export_of name kind) IsU32 u32_text export_text settles_number
    (λ index. sym (append_assoc (sized_text name) (kind_byte kind ∷ []) (u32_text index)))))

-- ---- constant expressions and what begins by them

-- a constant expression without its end
abbrev open_constant : Constant Label → List ℕ
open_constant (Number t bits) = leaf_text (ops.Const t.width t.tag bits)
open_constant (ValueOf global) = leaf_text (ops.GlobalGet global)

settles_open : (f : ConstantForm) → Settles (constant_byte f ∷ []) (ConstantBehind f) open_constant
settles_open (constant.Number width) = settles_mapped (const_opcode width ∷ []) (Number (typed width Public)) (IsBits width) (bits_text width) open_constant (settles_bits width) (λ bits. refl)
settles_open constant.Global = settles_mapped (0x23 ∷ []) ValueOf IsU32 u32_text open_constant settles_number (λ global. refl)
settles_open constant.Prefix =
    settles_then (0xE0 ∷ []) (OneOf secret_constant) (IsNumber Secret) (λ width. const_opcode width ∷ []) open_constant (settles_byte secret_constant const_opcode secret_constant_is) (λ width.
    settles_mapped (0xE0 ∷ const_opcode width ∷ []) (Number (typed width Secret)) (IsBits width) (bits_text width) open_constant (settles_bits width) (λ bits. refl))

settles_ended : {A : Type 0} (ct : Bool) (before : List ℕ) (G : Grammar A) (w : A → List ℕ) → Settles before G w → Settles before (G >>= λ value. OneOf (constant_end ct) >>= λ u. Just value) (λ a. w a ++ 0x0B ∷ [])
settles_ended {A} ct before G w g = record {
  settled = λ text a m.
      let last = m.4 in
      let s = g.settled m.1 m.0 m.3 in
      let e = (settles_byte (constant_end ct) (λ u. 0x0B) (constant_end_is ct)).settled last.1 last.0 last.3 in
      let whole : w a ++ 0x0B ∷ [] ≡ before ++ (s.0 ++ (e.0 ++ [])) =
      ap (λ (c : A). w c ++ 0x0B ∷ []) (sym last.4.1) ∙ ap (λ (l : List ℕ). l ++ 0x0B ∷ []) s.3 ∙ append_assoc before s.0 (0x0B ∷ [])
      ∙ ap (λ (l : List ℕ). before ++ (s.0 ++ l)) (e.3 ∙ sym (append-nil e.0)) in
      let size : length (s.0 ++ (e.0 ++ [])) ≤ length text = omega (arith, length-append s.0 (e.0 ++ []), ap length (append-nil e.0), ap length m.5, length-append m.1 m.2, ap length last.5, length-append last.1 last.2, s.2, e.2) in
      (s.0 ++ (e.0 ++ []), (m.0, s.0, e.0 ++ [], s.1, (last.0, e.0, [], e.1, (refl, last.4.1), refl), refl), size, whole);
}

constant_is_open : (c : Constant Label) → constant_text c ≡ open_constant c ++ 0x0B ∷ []
constant_is_open (Number t bits) = refl
constant_is_open (ValueOf global) = refl

pub settles_constant : (ct : Bool) → Settles [] (IsConstant ct) constant_text
settles_constant ct =
    settles_as [] (IsConstant ct) (λ c. open_constant c ++ 0x0B ∷ []) constant_text
    (settles_then [] (OneOf (constant_form ct)) _ (λ f. constant_byte f ∷ []) (λ c. open_constant c ++ 0x0B ∷ []) (settles_byte (constant_form ct) constant_byte (constant_is ct)) (λ f.
    settles_ended ct (constant_byte f ∷ []) (ConstantBehind f) open_constant (settles_open f)))
    (λ text c m. constant_is_open c)

pub settles_global : (ct : Bool) → Settles [] (IsGlobal ct) global_text
settles_global ct =
    settles_then [] (IsVariable ct) _ variable_text global_text (settles_variable ct) (λ type.
    settles_mapped (variable_text type) (global_of type) (IsConstant ct) constant_text global_text (settles_constant ct) (λ init. refl))

pub settles_element : (ct : Bool) → Settles [] (IsElement ct) element_text
settles_element ct =
    settles_then [] IsU32 _ u32_text element_text settles_number (λ table.
    settles_then (u32_text table) (IsConstant ct) _ constant_text element_text (settles_constant ct) (λ offset.
    settles_mapped (u32_text table ++ constant_text offset) (element_of table offset) (Vector IsU32) (vector_text u32_text) element_text (settles_vector IsU32 u32_text settles_number)
    (λ functions. refl)))

pub settles_segment : (ct : Bool) → Settles [] (IsSegment ct) segment_text
settles_segment ct =
    settles_then [] IsU32 _ u32_text segment_text settles_number (λ memory.
    settles_then (u32_text memory) (IsConstant ct) _ constant_text segment_text (settles_constant ct) (λ offset.
    settles_mapped (u32_text memory ++ constant_text offset) (segment_of memory offset) IsByteVector sized_text segment_text settles_byte_vector
    (λ bytes. refl)))
