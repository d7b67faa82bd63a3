-- Small files, read by computation: the module that they spell, or the first fault.
use Rattle.std.proofs.Common.{◌≡◌, ℕ, ◌+◌, length, true, false, List, [], ◌∷◌, ◌++◌, Some, None, Ok, Err, refl}
use Rattle.ctw_ops.specs.declared.types.Label.{Label}
use Rattle.ctw_ops.specs.declared.types.Label.TheVariants.{Public, Secret}
use Rattle.ctw_ops.specs.declared.types.Width.TheVariants.{W32}
use Rattle.ctw_ops.specs.declared.types.Trust.TheVariants.{Trusted}
use Rattle.ctw_ops.specs.Types.{value_type as typed}
use Rattle.ctw_ops.specs.Numeric.{is_numeric}
use Rattle.ctw_ops.specs.Code.{Const, Numeric, Declassify, straight}
use Rattle.ctw_ops.specs.Tree.{Module}
use Rattle.ctw_leb.specs.Reading.{items_in}
use Rattle.ctw_leb.specs.Readers as leb
use Rattle.ctw_flat.specs.Opcodes as codes
use Rattle.ctw_flat.specs.Read as flat
use Rattle.ctw_form.specs.declared.fault.FormKind.TheVariants.{Truncated, BadLeb, SizeMismatch, CountMismatch, Unbalanced, LabelsInPlain}
use Rattle.ctw_form.specs.Sections.{no_parts, module_of}
use Rattle.ctw_form.specs.Spelled.{magic, version}
use Rattle.ctw_ops.specs.Limits.{most_params, most_plain_bytes, most_locals, most_locals_of_all}
use Rattle.ctw_form.specs.Tables.{entry_form, section_kind, value_type}
use Rattle.ctw_form.specs.Read.{fault, number_at, params_at, results_at, signature_at, type_entry_at, value_type_at, form_step_at, form_body_at, groups_at, group_at, group_count_at, entry_insides_at, code_entry_at, owed_at, codes_at, insides_at, contents_at, section_at, header_at, sections_at, file_at, module_at}

-- the header of a plain module
abbrev plain : List ℕ
plain = magic ++ version false

abbrev empty : Module Label
empty = module_of false no_parts

bare_header : module_at plain ≡ Ok empty
unfolding module_at file_at sections_at header_at items_in most_plain_bytes
bare_header = refl

seven_bytes : module_at (0x00 ∷ 0x61 ∷ 0x73 ∷ 0x6D ∷ 0x01 ∷ 0x00 ∷ 0x00 ∷ []) ≡ Err (fault Truncated 7)
unfolding module_at file_at header_at
seven_bytes = refl

section_past_the_end : module_at (plain ++ 0x01 ∷ 0x7F ∷ 0x01 ∷ 0x7D ∷ []) ≡ Err (fault Truncated 12)
unfolding module_at file_at sections_at header_at items_in most_plain_bytes section_at contents_at section_kind number_at leb.number_at
section_past_the_end = refl

-- no type entries, with their count in five bytes
long_count : module_at (plain ++ 0x01 ∷ 0x05 ∷ 0x80 ∷ 0x80 ∷ 0x80 ∷ 0x80 ∷ 0x00 ∷ []) ≡ Ok empty
unfolding module_at file_at sections_at header_at items_in most_plain_bytes section_at contents_at insides_at section_kind number_at leb.number_at
long_count = refl

longer_count : module_at (plain ++ 0x01 ∷ 0x06 ∷ 0x80 ∷ 0x80 ∷ 0x80 ∷ 0x80 ∷ 0x80 ∷ 0x00 ∷ []) ≡ Err (fault BadLeb 10)
unfolding module_at file_at sections_at header_at items_in most_plain_bytes section_at contents_at insides_at section_kind number_at leb.number_at
longer_count = refl

trusted_type_in_plain : module_at (plain ++ 0x01 ∷ 0x04 ∷ 0x01 ∷ 0x61 ∷ 0x00 ∷ 0x00 ∷ []) ≡ Err (fault LabelsInPlain 11)
unfolding module_at file_at sections_at header_at items_in most_plain_bytes section_at contents_at insides_at section_kind number_at leb.number_at type_entry_at entry_form
trusted_type_in_plain = refl

function_without_code : module_at (plain ++ 0x03 ∷ 0x02 ∷ 0x01 ∷ 0x00 ∷ []) ≡ Err (fault CountMismatch 12)
unfolding module_at file_at sections_at header_at items_in most_plain_bytes section_at contents_at insides_at section_kind number_at leb.number_at
function_without_code = refl

-- a code entry that is longer than its section
abbrev long_entry : List ℕ
long_entry = 0x01 ∷ 0x04 ∷ 0x01 ∷ 0x60 ∷ 0x00 ∷ 0x00 ∷ 0x03 ∷ 0x02 ∷ 0x01 ∷ 0x00 ∷ 0x0A ∷ 0x05 ∷ 0x01 ∷ 0x7F ∷ 0x00 ∷ 0xD0 ∷ 0x0B ∷ []

entry_past_its_section : module_at (plain ++ long_entry) ≡ Err (fault SizeMismatch 25)
unfolding module_at file_at sections_at header_at items_in most_plain_bytes section_at contents_at insides_at section_kind number_at leb.number_at
    type_entry_at entry_form signature_at params_at results_at most_params codes_at owed_at code_entry_at
entry_past_its_section = refl

-- a trusted function that declassifies s32.const 5 + 5, with a secret local
abbrev small : List ℕ
small =
    0x01 ∷ 0x05 ∷ 0x01 ∷ 0x61 ∷ 0x00 ∷ 0x01 ∷ 0x7F ∷ 0x03 ∷ 0x02 ∷ 0x01 ∷ 0x00
    ∷ 0x0A ∷ 0x0F ∷ 0x01 ∷ 0x0D ∷ 0x01 ∷ 0x01 ∷ 0x7A ∷ 0xE0 ∷ 0x41 ∷ 0x05 ∷ 0xE0 ∷ 0x41 ∷ 0x05 ∷ 0xE0 ∷ 0x6A ∷ 0xE3 ∷ 0x0B ∷ []

small_module : module_at (magic ++ version true ++ small) ≡ Ok (record empty {
  ct = true;
  types = record { base = None; type = record { trust = Trusted; params = []; result = Some (typed W32 Public) } } ∷ [];
  functions = record { type = 0; locals = typed W32 Secret ∷ []; body = straight (Const W32 Secret 5 ∷ Const W32 Secret 5 ∷ Numeric 0x6A Secret ∷ Declassify W32 ∷ []) } ∷ [];
})
unfolding module_at file_at sections_at header_at items_in most_plain_bytes section_at contents_at insides_at section_kind number_at leb.number_at
    type_entry_at entry_form signature_at params_at results_at most_params value_type_at value_type codes_at owed_at code_entry_at entry_insides_at groups_at group_at group_count_at most_locals most_locals_of_all
    form_body_at form_step_at codes.opcode codes.form codes.is_float is_numeric codes.control_form codes.variable_form codes.memory_form codes.labelling_form codes.secret_form
    flat.op_at flat.secret_at flat.immediate_at flat.constant_at flat.bits32_at
small_module = refl

-- ---- bodies of one function in a plain module; the first byte of a body stands at 23

abbrev with_body : List ℕ → List ℕ
with_body body =
    plain ++ 0x01 ∷ 0x04 ∷ 0x01 ∷ 0x60 ∷ 0x00 ∷ 0x00 ∷ 0x03 ∷ 0x02 ∷ 0x01 ∷ 0x00 ∷ 0x0A ∷ (length body + 3) ∷ 0x01 ∷ (length body + 1) ∷ 0x00 ∷ body

secret_constant_in_plain : module_at (with_body (0xE0 ∷ 0x41 ∷ 0x05 ∷ 0x1A ∷ 0x0B ∷ [])) ≡ Err (fault LabelsInPlain 23)
unfolding module_at file_at sections_at header_at items_in most_plain_bytes section_at contents_at insides_at section_kind number_at leb.number_at
    type_entry_at entry_form signature_at params_at results_at most_params value_type_at value_type codes_at owed_at code_entry_at entry_insides_at groups_at group_at group_count_at most_locals most_locals_of_all
    form_body_at form_step_at codes.opcode codes.form codes.is_float is_numeric codes.control_form codes.variable_form codes.memory_form codes.labelling_form codes.secret_form
    flat.op_at flat.secret_at flat.immediate_at flat.constant_at flat.bits32_at flat.block_type_at codes.block_type
secret_constant_in_plain = refl

secret_block_in_plain : module_at (with_body (0x02 ∷ 0x7A ∷ 0x00 ∷ 0x0B ∷ 0x0B ∷ [])) ≡ Err (fault LabelsInPlain 24)
unfolding module_at file_at sections_at header_at items_in most_plain_bytes section_at contents_at insides_at section_kind number_at leb.number_at
    type_entry_at entry_form signature_at params_at results_at most_params value_type_at value_type codes_at owed_at code_entry_at entry_insides_at groups_at group_at group_count_at most_locals most_locals_of_all
    form_body_at form_step_at codes.opcode codes.form codes.is_float is_numeric codes.control_form codes.variable_form codes.memory_form codes.labelling_form codes.secret_form
    flat.op_at flat.secret_at flat.immediate_at flat.constant_at flat.bits32_at flat.block_type_at codes.block_type
secret_block_in_plain = refl

else_without_if : module_at (with_body (0x05 ∷ 0x0B ∷ [])) ≡ Err (fault Unbalanced 23)
unfolding module_at file_at sections_at header_at items_in most_plain_bytes section_at contents_at insides_at section_kind number_at leb.number_at
    type_entry_at entry_form signature_at params_at results_at most_params value_type_at value_type codes_at owed_at code_entry_at entry_insides_at groups_at group_at group_count_at most_locals most_locals_of_all
    form_body_at form_step_at codes.opcode codes.form codes.is_float is_numeric codes.control_form codes.variable_form codes.memory_form codes.labelling_form codes.secret_form
    flat.op_at flat.secret_at flat.immediate_at flat.constant_at flat.bits32_at flat.block_type_at codes.block_type
else_without_if = refl

code_behind_the_end : module_at (with_body (0x0B ∷ 0xE0 ∷ [])) ≡ Err (fault Unbalanced 24)
unfolding module_at file_at sections_at header_at items_in most_plain_bytes section_at contents_at insides_at section_kind number_at leb.number_at
    type_entry_at entry_form signature_at params_at results_at most_params value_type_at value_type codes_at owed_at code_entry_at entry_insides_at groups_at group_at group_count_at most_locals most_locals_of_all
    form_body_at form_step_at codes.opcode codes.form codes.is_float is_numeric codes.control_form codes.variable_form codes.memory_form codes.labelling_form codes.secret_form
    flat.op_at flat.secret_at flat.immediate_at flat.constant_at flat.bits32_at flat.block_type_at codes.block_type
code_behind_the_end = refl

no_code : module_at (with_body []) ≡ Err (fault Unbalanced 23)
unfolding module_at file_at sections_at header_at items_in most_plain_bytes section_at contents_at insides_at section_kind number_at leb.number_at
    type_entry_at entry_form signature_at params_at results_at most_params value_type_at value_type codes_at owed_at code_entry_at entry_insides_at groups_at group_at group_count_at most_locals most_locals_of_all
    form_body_at form_step_at codes.opcode codes.form codes.is_float is_numeric codes.control_form codes.variable_form codes.memory_form codes.labelling_form codes.secret_form
    flat.op_at flat.secret_at flat.immediate_at flat.constant_at flat.bits32_at flat.block_type_at codes.block_type
no_code = refl

instruction_past_its_entry : module_at (with_body (0x41 ∷ [])) ≡ Err (fault SizeMismatch 24)
unfolding module_at file_at sections_at header_at items_in most_plain_bytes section_at contents_at insides_at section_kind number_at leb.number_at
    type_entry_at entry_form signature_at params_at results_at most_params value_type_at value_type codes_at owed_at code_entry_at entry_insides_at groups_at group_at group_count_at most_locals most_locals_of_all
    form_body_at form_step_at codes.opcode codes.form codes.is_float is_numeric codes.control_form codes.variable_form codes.memory_form codes.labelling_form codes.secret_form
    flat.op_at flat.secret_at flat.immediate_at flat.constant_at flat.bits32_at flat.block_type_at codes.block_type
instruction_past_its_entry = refl
