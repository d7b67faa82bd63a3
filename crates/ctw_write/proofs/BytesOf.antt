-- In each table one byte stands for a value: the one that is written for it.
use Rattle.std.proofs.Common.{◌≡◌, ℕ, Bool, true, false, cond, ◌&&◌, Option, Result, Ok, Err, refl, sym, ap, subst, ◌∙◌, rules}
use Rattle.std.specs.Prelude.{◌==◌}
use Rattle.std.proofs.lemmas.Bool.{eqb-true}
use Rattle.ctw_ops.specs.ValueType.{ValueType}
use Rattle.ctw_ops.specs.Types.{type_byte}
use Rattle.ctw_ops.specs.declared.types.Label.{Label}
use Rattle.ctw_ops.specs.declared.types.Label.TheVariants.{Public, Secret}
use Rattle.ctw_ops.specs.declared.types.Width.{Width}
use Rattle.ctw_ops.specs.declared.types.Trust.{Trust}
use Rattle.ctw_ops.specs.declared.types.ExternTag.{ExternTag}
use Rattle.ctw_flat.specs.declared.opcode.Indexed.TheVariants as indexed
use Rattle.ctw_flat.specs.declared.opcode.Form.TheVariants as form
use Rattle.ctw_flat.specs.declared.opcode.First.{First}
use Rattle.ctw_flat.specs.declared.opcode.First.TheVariants.{Direct, Prefix}
use Rattle.ctw_flat.specs.Opcodes.{opcode, const_opcode, opcode_byte, prefix_byte, block_type, reserved}
use Rattle.ctw_flat.proofs.OpcodeBytes as table
use Rattle.ctw_flat.proofs.OpcodeBytes.{prefix_is}
use Rattle.ctw_leb.proofs.Exact.{ok_is, err_ok}
use Rattle.ctw_form.specs.declared.fault.FormKind.{FormKind}
use Rattle.ctw_form.specs.declared.table.EntryForm.{EntryForm}
use Rattle.ctw_form.specs.declared.table.EntryForm.TheVariants as entry
use Rattle.ctw_form.specs.declared.table.MemoryForm.{MemoryForm}
use Rattle.ctw_form.specs.declared.table.ConstantForm.{ConstantForm}
use Rattle.ctw_form.specs.declared.table.ConstantForm.TheVariants as constant
use Rattle.ctw_form.specs.declared.table.Held.{Held}
use Rattle.ctw_form.specs.Tables.{labelled, value_type, entry_form, trust_byte, table_byte, limits_form, memory_form, mutability, extern_kind, import_kind, constant_form, secret_constant, constant_end}
use Rattle.ctw_write.specs.Canon as write
use Rattle.ctw_write.specs.Canon.{entry_byte, mutable_byte, kind_byte, block_type_byte}

-- ---- tables

-- the byte of what a byte stands for is that byte
record Byte {A K : Type 0} (byte : A → ℕ) (b : ℕ) (r : Result A K) : Type 0 where
  is : (a : A) → r ≡ Ok a → byte a ≡ b

good : {A K : Type 0} (byte : A → ℕ) (b : ℕ) (a : A) → byte a ≡ b → Byte {K = K} byte b (Ok a)
good {A} {K} byte b a h = record { is = λ c e. ap byte (sym (ok_is {F = K} a c e)) ∙ h }

bad : {A K : Type 0} (byte : A → ℕ) (b : ℕ) (kind : K) → Byte {A = A} byte b (Err kind)
bad byte b kind = record { is = λ a e. absurd (err_ok kind a e) }

-- a row of a table
at : {A K : Type 0} (byte : A → ℕ) (b number : ℕ) (x y : Result A K) → Byte byte number x → Byte byte b y → Byte byte b (cond (b == number) x y)
at {A} {K} byte b number x y p q = go (b == number) refl
  where
    go : (test : Bool) → (b == number) ≡ test → Byte byte b (cond test x y)
    go true e = subst (λ (n : ℕ). Byte byte n x) (sym (eqb-true b number e)) p
    go false e = q

either : {A K : Type 0} (byte : A → ℕ) (b : ℕ) (test : Bool) (x y : Result A K) → Byte byte b x → Byte byte b y → Byte byte b (cond test x y)
either byte b true x y p q = p
either byte b false x y p q = q

at_both : {A K : Type 0} (byte : A → ℕ) (b number : ℕ) (test : Bool) (x y : Result A K) → Byte byte number x → Byte byte b y → Byte byte b (cond (test && (b == number)) x y)
at_both byte b number true x y p q = at byte b number x y p q
at_both byte b number false x y p q = q

with_label : {A : Type 0} (byte : A → ℕ) (b : ℕ) (ct : Bool) (r : Result A FormKind) → Byte byte b r → Byte byte b (labelled ct r)
with_label byte b true r h = h
with_label byte b false r h = bad byte b _

-- ---- types

value_type_row : (ct : Bool) (b : ℕ) → Byte type_byte b (value_type ct b)
unfolding value_type
value_type_row ct b = search (rules, at, either, good, bad, with_label) depth 60 fits 600

pub value_type_byte : (ct : Bool) (b : ℕ) (t : ValueType Label) → value_type ct b ≡ Ok t → type_byte t ≡ b
value_type_byte ct b t e = (value_type_row ct b).is t e

abbrev pub entry_form_byte : EntryForm → ℕ
entry_form_byte (entry.Direct trust) = entry_byte trust
entry_form_byte entry.Variant = 0x62

entry_form_row : (ct : Bool) (b : ℕ) → Byte entry_form_byte b (entry_form ct b)
unfolding entry_form
entry_form_row ct b = search (rules, at, either, good, bad, with_label) depth 60 fits 600

pub entry_form_is : (ct : Bool) (b : ℕ) (f : EntryForm) → entry_form ct b ≡ Ok f → entry_form_byte f ≡ b
entry_form_is ct b f e = (entry_form_row ct b).is f e

trust_row : (b : ℕ) → Byte write.trust_byte b (trust_byte b)
unfolding trust_byte
trust_row b = search (rules, at, either, good, bad) depth 60 fits 600

pub trust_is : (b : ℕ) (t : Trust) → trust_byte b ≡ Ok t → write.trust_byte t ≡ b
trust_is b t e = (trust_row b).is t e

table_row : (b : ℕ) → Byte (λ (u : Unit {0}). 0x70) b (table_byte b)
unfolding table_byte
table_row b = search (rules, at, either, good, bad) depth 60 fits 600

pub table_is : (b : ℕ) (u : Unit {0}) → table_byte b ≡ Ok u → 0x70 ≡ b
table_is b u e = (table_row b).is u e

abbrev pub bound_byte : ℕ → ℕ → Bool → ℕ
bound_byte alone both false = alone
bound_byte alone both true = both

limits_row : (b : ℕ) → Byte (bound_byte 0x00 0x01) b (limits_form b)
unfolding limits_form
limits_row b = search (rules, at, either, good, bad) depth 60 fits 600

pub limits_is : (b : ℕ) (both : Bool) → limits_form b ≡ Ok both → bound_byte 0x00 0x01 both ≡ b
limits_is b both e = (limits_row b).is both e

abbrev pub memory_byte : MemoryForm → ℕ
memory_byte form = of form.label form.bounded
  where
    of : Label → Bool → ℕ
    of Public bounded = bound_byte 0x00 0x01 bounded
    of Secret bounded = bound_byte 0x10 0x11 bounded

memory_row : (ct : Bool) (b : ℕ) → Byte memory_byte b (memory_form ct b)
unfolding memory_form
memory_row ct b = search (rules, at, either, good, bad, with_label) depth 60 fits 600

pub memory_is : (ct : Bool) (b : ℕ) (f : MemoryForm) → memory_form ct b ≡ Ok f → memory_byte f ≡ b
memory_is ct b f e = (memory_row ct b).is f e

mutability_row : (b : ℕ) → Byte mutable_byte b (mutability b)
unfolding mutability
mutability_row b = search (rules, at, either, good, bad) depth 60 fits 600

pub mutability_is : (b : ℕ) (mutable : Bool) → mutability b ≡ Ok mutable → mutable_byte mutable ≡ b
mutability_is b mutable e = (mutability_row b).is mutable e

-- ---- items

kind_row : (b : ℕ) → Byte kind_byte b (extern_kind b)
unfolding extern_kind
kind_row b = search (rules, at, either, good, bad) depth 60 fits 600

pub kind_is : (b : ℕ) (kind : ExternTag) → extern_kind b ≡ Ok kind → kind_byte kind ≡ b
kind_is b kind e = (kind_row b).is kind e

import_row : (held : Held) (b : ℕ) → Byte kind_byte b (import_kind held b)
unfolding import_kind
import_row held b = search (rules, either, bad, kind_row) depth 60 fits 600

pub import_is : (held : Held) (b : ℕ) (kind : ExternTag) → import_kind held b ≡ Ok kind → kind_byte kind ≡ b
import_is held b kind e = (import_row held b).is kind e

abbrev pub constant_byte : ConstantForm → ℕ
constant_byte (constant.Number width) = opcode_byte (form.Const width)
constant_byte constant.Global = opcode_byte (form.Indexed indexed.GlobalGet)
constant_byte constant.Prefix = prefix_byte

constant_row : (ct : Bool) (b : ℕ) → Byte constant_byte b (constant_form ct b)
unfolding constant_form
constant_row ct b = search (rules, at, at_both, good, bad) depth 60 fits 600

pub constant_is : (ct : Bool) (b : ℕ) (f : ConstantForm) → constant_form ct b ≡ Ok f → constant_byte f ≡ b
constant_is ct b f e = (constant_row ct b).is f e

secret_constant_row : (b : ℕ) → Byte const_opcode b (secret_constant b)
unfolding secret_constant
secret_constant_row b = search (rules, at, good, bad) depth 60 fits 600

pub secret_constant_is : (b : ℕ) (width : Width) → secret_constant b ≡ Ok width → const_opcode width ≡ b
secret_constant_is b width e = (secret_constant_row b).is width e

constant_end_row : (ct : Bool) (b : ℕ) → Byte (λ (u : Unit {0}). 0x0B) b (constant_end ct b)
unfolding constant_end
constant_end_row ct b = search (rules, at, good, bad) depth 60 fits 600

pub constant_end_is : (ct : Bool) (b : ℕ) (u : Unit {0}) → constant_end ct b ≡ Ok u → 0x0B ≡ b
constant_end_is ct b u e = (constant_end_row ct b).is u e

-- ---- opcodes

abbrev pub first_byte : First → ℕ
first_byte Prefix = prefix_byte
first_byte (Direct f) = opcode_byte f

pub opcode_is : (b : ℕ) (f : First) → opcode b ≡ Ok f → first_byte f ≡ b
opcode_is b Prefix e = prefix_is b e
opcode_is b (Direct f) e = (table.opcode_is b f e).1

block_row : (b : ℕ) → Byte block_type_byte b (block_type b)
unfolding block_type
block_row b = search (rules, at, good, bad) depth 80 fits 900

pub block_is : (b : ℕ) (t : Option (ValueType Label)) → block_type b ≡ Ok t → block_type_byte t ≡ b
block_is b t e = (block_row b).is t e

reserved_row : (b : ℕ) → Byte (λ (u : Unit {0}). 0x00) b (reserved b)
reserved_row b = search (rules, at, good, bad) depth 80 fits 900

pub reserved_is : (b : ℕ) (u : Unit {0}) → reserved b ≡ Ok u → 0x00 ≡ b
reserved_is b u e = (reserved_row b).is u e
