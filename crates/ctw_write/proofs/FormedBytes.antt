-- The byte that is written for something stands for it in its table.
use Rattle.std.proofs.Common.{◌≡◌, Bool, true, false, Option, Some, None, Ok, refl}
use Rattle.ctw_ops.specs.ValueType.{ValueType}
use Rattle.ctw_ops.specs.Types.{type_byte, value_type as typed}
use Rattle.ctw_ops.specs.Plain.{IsPublicType}
use Rattle.ctw_ops.specs.declared.types.Label.{Label}
use Rattle.ctw_ops.specs.declared.types.Label.TheVariants.{Public, Secret}
use Rattle.ctw_ops.specs.declared.types.Width.{Width}
use Rattle.ctw_ops.specs.declared.types.Width.TheVariants.{W32, W64}
use Rattle.ctw_ops.specs.declared.types.Trust.{Trust}
use Rattle.ctw_ops.specs.declared.types.Trust.TheVariants.{Untrusted, Trusted}
use Rattle.ctw_ops.specs.declared.types.ExternTag.{ExternTag}
use Rattle.ctw_ops.specs.declared.types.ExternTag.TheVariants as tag
use Rattle.ctw_flat.specs.Opcodes.{block_type}
use Rattle.ctw_form.specs.declared.table.EntryForm.TheVariants.{Direct, Variant}
use Rattle.ctw_form.specs.declared.table.ConstantForm.TheVariants as constant
use Rattle.ctw_form.specs.Tables.{value_type, entry_form, trust_byte, table_byte, limits_form, memory_form, mutability, extern_kind, constant_form, secret_constant, constant_end}
use Rattle.ctw_write.specs.Canon as write
use Rattle.ctw_flat.specs.Opcodes.{const_opcode}
use Rattle.ctw_write.specs.Canon.{entry_byte, mutable_byte, kind_byte, block_type_byte}
use Rattle.ctw_write.proofs.BytesOf.{bound_byte, memory_byte}

not_public : {A : Type 0} → Secret ≡ Public → A
not_public e = absurd cc

-- ---- types

type_there : (ct : Bool) (width : Width) (label : Label) → (ct ≡ false → label ≡ Public) → value_type ct (type_byte (typed width label)) ≡ Ok (typed width label)
unfolding value_type
type_there ct W32 Public h = refl
type_there ct W64 Public h = refl
type_there true W32 Secret h = refl
type_there true W64 Secret h = refl
type_there false W32 Secret h = not_public (h refl)
type_there false W64 Secret h = not_public (h refl)

pub value_type_there : (ct : Bool) (t : ValueType Label) → (ct ≡ false → IsPublicType t) → value_type ct (type_byte t) ≡ Ok t
value_type_there ct t h = type_there ct t.width t.tag h

pub direct_there : (ct : Bool) (trust : Trust) → (ct ≡ false → trust ≡ Untrusted) → entry_form ct (entry_byte trust) ≡ Ok (Direct trust)
unfolding entry_form
direct_there ct Untrusted h = refl
direct_there true Trusted h = refl
direct_there false Trusted h = let e : Trusted ≡ Untrusted = h refl in absurd cc

pub variant_there : entry_form true 0x62 ≡ Ok Variant
unfolding entry_form
variant_there = refl

pub trust_there : (trust : Trust) → trust_byte (write.trust_byte trust) ≡ Ok trust
unfolding trust_byte
trust_there Untrusted = refl
trust_there Trusted = refl

pub limits_there : (both : Bool) → limits_form (bound_byte 0x00 0x01 both) ≡ Ok both
unfolding limits_form
limits_there false = refl
limits_there true = refl

pub memory_there : (ct : Bool) (label : Label) (both : Bool) → (ct ≡ false → label ≡ Public)
    → memory_form ct (memory_byte (record { label = label; bounded = both })) ≡ Ok (record { label = label; bounded = both })
unfolding memory_form
memory_there ct Public false h = refl
memory_there ct Public true h = refl
memory_there true Secret false h = refl
memory_there true Secret true h = refl
memory_there false Secret both h = not_public (h refl)

pub mutability_there : (mutable : Bool) → mutability (mutable_byte mutable) ≡ Ok mutable
unfolding mutability
mutability_there false = refl
mutability_there true = refl

pub kind_there : (kind : ExternTag) → extern_kind (kind_byte kind) ≡ Ok kind
unfolding extern_kind
kind_there tag.Func = refl
kind_there tag.Table = refl
kind_there tag.Memory = refl
kind_there tag.Global = refl

pub table_there : table_byte 0x70 ≡ Ok tt
unfolding table_byte
table_there = refl

-- ---- constants

pub number_there : (ct : Bool) (width : Width) → constant_form ct (const_opcode width) ≡ Ok (constant.Number width)
unfolding constant_form
number_there ct W32 = refl
number_there ct W64 = refl

pub global_there : (ct : Bool) → constant_form ct 0x23 ≡ Ok constant.Global
unfolding constant_form
global_there ct = refl

pub prefix_there : constant_form true 0xE0 ≡ Ok constant.Prefix
unfolding constant_form
prefix_there = refl

pub secret_there : (width : Width) → secret_constant (const_opcode width) ≡ Ok width
unfolding secret_constant
secret_there W32 = refl
secret_there W64 = refl

pub end_there : (ct : Bool) → constant_end ct 0x0B ≡ Ok tt
unfolding constant_end
end_there ct = refl

-- ---- blocks

pub block_there : (t : Option (ValueType Label)) → block_type (block_type_byte t) ≡ Ok t
unfolding block_type
block_there None = refl
block_there (Some t) = go t.width t.tag
  where
    go : (width : Width) (label : Label) → block_type (block_type_byte (Some (typed width label))) ≡ Ok (Some (typed width label))
    go W32 Public = refl
    go W64 Public = refl
    go W32 Secret = refl
    go W64 Secret = refl
