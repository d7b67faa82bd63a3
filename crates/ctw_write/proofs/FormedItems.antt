-- Types, imports, exports, constants and segments that keep the limits are spelled by their canonical texts.
use Rattle.std.proofs.Common.{◌≡◌, ℕ, ◌+◌, ◌≤◌, Bool, true, false, [], ◌∷◌, ◌++◌, length, Option, Some, None, refl, sym, ap, append_assoc, append-nil, arith}
use Rattle.std.specs.Prelude.{IfSome}
use Rattle.std.specs.List.{All}
use Rattle.std.proofs.lemmas.List.{length-append}
use Rattle.std.proofs.lemmas.List.Elements.{All-nil, All-cons}
use Rattle.ctw_ops.specs.ValueType.{ValueType}
use Rattle.ctw_ops.specs.Types.{FunctionType, VariableType, MemoryType, FitsWidth, type_byte, value_type as typed}
use Rattle.ctw_ops.specs.declared.types.Label.{Label}
use Rattle.ctw_ops.specs.declared.types.Label.TheVariants.{Public, Secret}
use Rattle.ctw_ops.specs.declared.types.Width.{Width}
use Rattle.ctw_ops.specs.declared.types.Limits.{Limits}
use Rattle.ctw_ops.specs.declared.types.ExternTag.TheVariants as tag
use Rattle.ctw_ops.specs.Limits.{most_params, most_results}
use Rattle.ctw_ops.specs.Plain.{IsPublicType, IsPlainEntry, IsPlainExtern, IsPlainConstant, IsPlainGlobal}
use Rattle.ctw_ops.specs.Tree.{TypeEntry, Extern, ImportedFunction, ImportedTable, ImportedMemory, ImportedGlobal, Import, Constant, Number, ValueOf, Global, Export, Element, Segment}
use Rattle.ctw_ops.specs.Typing.{optional}
use Rattle.ctw_ops.specs.Valid.{IsFitting}
use Rattle.ctw_leb.specs.Grammar.{◌>>=◌, OneOf}
use Rattle.ctw_leb.specs.Numbers.{IsU32}
use Rattle.ctw_leb.specs.Spelling.{u32_text}
use Rattle.ctw_form.specs.declared.table.EntryForm.TheVariants.{Direct, Variant}
use Rattle.ctw_form.specs.declared.table.ConstantForm.TheVariants as constant
use Rattle.ctw_form.specs.declared.table.Held.{Held}
use Rattle.ctw_form.specs.Tables.{import_kind, extern_kind}
use Rattle.ctw_form.specs.Sections.{first}
use Rattle.ctw_form.specs.Spelled.{IsValueType, IsSignature, IsTypeEntry, unbounded, bounded, Sizes, IsTable, IsMemory, IsVariable, IsExtern, IsImport, IsExport, IsConstant, IsGlobal, IsElement, IsSegment}
use Rattle.ctw_write.specs.Canon as write
use Rattle.ctw_flat.specs.Opcodes.{const_opcode}
use Rattle.ctw_write.specs.Canon.{all_texts, vector_text, sized_text, type_text, signature_text, entry_byte, type_entry_text, table_text, memory_text, mutable_byte, variable_text, extern_text, import_text, kind_byte, export_text, bits_text, constant_text, global_text, element_text, segment_text}
use Rattle.ctw_write.specs.KeepsLimits.{Is32, IsShort, AreSizes, IsLimitedEntry, IsLimitedExtern, IsLimitedImport, IsLimitedExport, IsLimitedConstant, IsLimitedElement, IsLimitedSegment}
use Rattle.ctw_write.proofs.FormedNumbers.{number_spelled, number_some, bits_spelled, count_short, vector_spelled, upto_spelled, bytes_spelled, name_spelled, size_short, vector_short}
use Rattle.ctw_write.proofs.FormedBytes.{value_type_there, direct_there, variant_there, trust_there, table_there, limits_there, memory_there, mutability_there, kind_there, number_there, global_there, prefix_there, secret_there, end_there}

-- ---- types

pub type_spelled : (ct : Bool) (t : ValueType Label) → (ct ≡ false → IsPublicType t) → IsValueType ct (type_text t) t
type_spelled ct t h = (type_byte t, refl, value_type_there ct t h)

few_params : (n : ℕ) → n ≤ most_params → Is32 n
unfolding most_params
few_params n le = omega arith

pub first_optional : {A : Type 0} (o : Option A) → first (optional o) ≡ o
first_optional None = refl
first_optional (Some a) = refl

one_optional : {A : Type 0} (o : Option A) → length (optional o) ≤ 1
one_optional None = omega arith
one_optional (Some a) = omega arith

result_spelled : (ct : Bool) (o : Option (ValueType Label)) → (ct ≡ false → IfSome o IsPublicType) → All (λ t. IsValueType ct (type_text t) t) (optional o)
result_spelled ct None h = All-nil (λ u. IsValueType ct (type_text u) u)
result_spelled ct (Some t) h = All-cons (λ u. IsValueType ct (type_text u) u) t [] (type_spelled ct t h) (All-nil (λ u. IsValueType ct (type_text u) u))

signature_spelled : (ct : Bool) (f : FunctionType Label) → length f.params ≤ most_params → (ct ≡ false → All IsPublicType f.params) → (ct ≡ false → IfSome f.result IsPublicType)
    → IsSignature ct f.trust (signature_text f) f
signature_spelled ct f le params result =
    let results = optional f.result in
    let one : length results ≤ 1 = one_optional f.result in
    let all = upto_spelled most_params (IsValueType ct) type_text f.params le (few_params (length f.params) le) (λ i d within. type_spelled ct _ (λ e. params e i d within)) in
    let same : record { trust = f.trust; params = f.params; result = first results } ≡ f = ap (λ (o : Option (ValueType Label)). record { trust = f.trust; params = f.params; result = o }) (first_optional f.result) in (
      f.params,
      vector_text type_text f.params,
      vector_text type_text results,
      all,
      (results, vector_text type_text results, [], upto_spelled most_results (IsValueType ct) type_text results one (omega arith) (result_spelled ct f.result result), (refl, same), sym (append-nil (vector_text type_text results))),
      refl,
    )

none_is : (base : ℕ) → Some base ≡ None → ⊥
none_is base e = cc

entry_of_base : (ct : Bool) (base : Option ℕ) (f : FunctionType Label) → IfSome base Is32 → length f.params ≤ most_params → (ct ≡ false → IsPlainEntry (record { base = base; type = f }))
    → IsTypeEntry ct (type_entry_text (record { base = base; type = f })) (record { base = base; type = f })
entry_of_base ct None f h le plain =
    let signature = signature_spelled ct f le (λ e. (plain e).params) (λ e. (plain e).result) in
    (Direct f.trust, entry_byte f.trust ∷ [], signature_text f, (entry_byte f.trust, refl, direct_there ct f.trust (λ e. (plain e).trust)), (f, signature, refl), refl)
entry_of_base false (Some base) f h le plain = absurd (none_is base (plain refl).base)
entry_of_base true (Some base) f h le plain =
    let signature = signature_spelled true f le (λ e. (plain e).params) (λ e. (plain e).result) in
    let trust = write.trust_byte f.trust in (
      Variant,
      0x62 ∷ [],
      u32_text base ++ trust ∷ signature_text f,
      (0x62, refl, variant_there),
      (base, u32_text base, trust ∷ signature_text f, number_spelled base h, (f.trust, trust ∷ [], signature_text f, (trust, refl, trust_there f.trust), (f, signature, refl), refl), refl),
      refl,
    )

pub entry_spelled : (ct : Bool) (e : TypeEntry Label) → IsLimitedEntry e → (ct ≡ false → IsPlainEntry e) → IsTypeEntry ct (type_entry_text e) e
entry_spelled ct e h plain = entry_of_base ct e.base e.type h.0 h.1 plain

-- ---- sizes

unbounded_spelled : (min : ℕ) → Is32 min → Sizes false (u32_text min) (unbounded min)
unbounded_spelled min h = (min, number_spelled min h, refl)

bounded_spelled : (min max : ℕ) → Is32 min → Is32 max → Sizes true (u32_text min ++ u32_text max) (bounded min max)
bounded_spelled min max h k = (min, u32_text min, u32_text max, number_spelled min h, (max, number_spelled max k, refl), refl)

pub table_spelled : (limits : Limits) → AreSizes limits → IsTable (table_text limits) limits
table_spelled limits h = go limits.min limits.max h
  where
    go : (min : ℕ) (max : Option ℕ) → AreSizes (record { min = min; max = max }) → IsTable (table_text (record { min = min; max = max })) (record { min = min; max = max })
    go min None h = (tt, 0x70 ∷ [], 0x00 ∷ u32_text min, (0x70, refl, table_there), (false, 0x00 ∷ [], u32_text min, (0x00, refl, limits_there false), unbounded_spelled min h.0, refl), refl)
    go min (Some max) h = (tt, 0x70 ∷ [], 0x01 ∷ (u32_text min ++ u32_text max), (0x70, refl, table_there), (true, 0x01 ∷ [], u32_text min ++ u32_text max, (0x01, refl, limits_there true), bounded_spelled min max h.0 h.1, refl), refl)

pub memory_spelled : (ct : Bool) (t : MemoryType Label) → AreSizes t.limits → (ct ≡ false → t.tag ≡ Public) → IsMemory ct (memory_text t) t
memory_spelled ct t h plain = go t.tag t.limits.min t.limits.max h plain
  where
    go : (label : Label) (min : ℕ) (max : Option ℕ) → AreSizes (record { min = min; max = max }) → (ct ≡ false → label ≡ Public)
        → IsMemory ct (memory_text (record { tag = label; limits = record { min = min; max = max } })) (record { tag = label; limits = record { min = min; max = max } })
    go Public min None h plain = (record { label = Public; bounded = false }, 0x00 ∷ [], u32_text min, (0x00, refl, memory_there ct Public false plain), (unbounded min, unbounded_spelled min h.0, refl), refl)
    go Public min (Some max) h plain = (record { label = Public; bounded = true }, 0x01 ∷ [], u32_text min ++ u32_text max, (0x01, refl, memory_there ct Public true plain), (bounded min max, bounded_spelled min max h.0 h.1, refl), refl)
    go Secret min None h plain = (record { label = Secret; bounded = false }, 0x10 ∷ [], u32_text min, (0x10, refl, memory_there ct Secret false plain), (unbounded min, unbounded_spelled min h.0, refl), refl)
    go Secret min (Some max) h plain = (record { label = Secret; bounded = true }, 0x11 ∷ [], u32_text min ++ u32_text max, (0x11, refl, memory_there ct Secret true plain), (bounded min max, bounded_spelled min max h.0 h.1, refl), refl)

pub variable_spelled : (ct : Bool) (t : VariableType Label) → (ct ≡ false → IsPublicType t.value) → IsVariable ct (variable_text t) t
variable_spelled ct t plain = (t.value, type_text t.value, mutable_byte t.mutable ∷ [], type_spelled ct t.value plain, (t.mutable, (mutable_byte t.mutable, refl, mutability_there t.mutable), refl), refl)

-- ---- imports and exports

-- no other table or memory is imported before
abbrev pub IsFirst : Held → Extern Label → Type 0
IsFirst held (ImportedTable limits) = held.table ≡ false
IsFirst held (ImportedMemory type) = held.memory ≡ false
IsFirst held _ = Unit {0}

extern_spelled : (ct : Bool) (held : Held) (kind : Extern Label) → IsFirst held kind → IsLimitedExtern kind → (ct ≡ false → IsPlainExtern kind) → (OneOf (import_kind held) >>= IsExtern ct) (extern_text kind) kind
unfolding import_kind extern_kind
extern_spelled ct held (ImportedFunction type) f h plain = (tag.Func, 0x00 ∷ [], u32_text type, (0x00, refl, refl), (type, number_spelled type h, refl), refl)
extern_spelled ct held (ImportedTable limits) f h plain = (tag.Table, 0x01 ∷ [], table_text limits, (0x01, refl, rw f refl), (limits, table_spelled limits h, refl), refl)
extern_spelled ct held (ImportedMemory type) f h plain = (tag.Memory, 0x02 ∷ [], memory_text type, (0x02, refl, rw f refl), (type, memory_spelled ct type h plain, refl), refl)
extern_spelled ct held (ImportedGlobal type) f h plain = (tag.Global, 0x03 ∷ [], variable_text type, (0x03, refl, refl), (type, variable_spelled ct type plain, refl), refl)

pub import_spelled : (ct : Bool) (held : Held) (i : Import Label) → IsFirst held i.kind → IsLimitedImport i → (ct ≡ false → IsPlainExtern i.kind) → IsShort (import_text i) → IsImport ct held (import_text i) i
import_spelled ct held i f h plain lt =
    let from = sized_text i.module_name in
    let name = sized_text i.name in
    let kind = extern_text i.kind in
    let size : length (import_text i) ≡ length from + length name + length kind = omega (arith, length-append (from ++ name) kind, length-append from name) in (
      i.module_name,
      from,
      name ++ kind,
      name_spelled i.module_name (omega (arith, size_short i.module_name)) h.0,
      (i.name, name, kind, name_spelled i.name (omega (arith, size_short i.name)) h.1, (i.kind, extern_spelled ct held i.kind f h.2 plain, refl), refl),
      append_assoc from name kind,
    )

pub export_spelled : (e : Export) → IsLimitedExport e → IsShort (export_text e) → IsExport (export_text e) e
export_spelled e h lt =
    let name = sized_text e.name in
    let rest = kind_byte e.kind ∷ u32_text e.index in (
      e.name,
      name,
      rest,
      name_spelled e.name (omega (arith, size_short e.name, length-append name rest)) h.0,
      (e.kind, kind_byte e.kind ∷ [], u32_text e.index, (kind_byte e.kind, refl, kind_there e.kind), (e.index, number_spelled e.index h.1, refl), refl),
      refl,
    )

-- ---- constant expressions and what begins by them

number_of : (ct : Bool) (width : Width) (label : Label) (bits : ℕ) → FitsWidth width bits → (ct ≡ false → label ≡ Public) → IsConstant ct (constant_text (Number (typed width label) bits)) (Number (typed width label) bits)
number_of ct width Public bits fits plain = (
  constant.Number width,
  const_opcode width ∷ [],
  bits_text width bits ++ 0x0B ∷ [],
  (const_opcode width, refl, number_there ct width),
  (Number (typed width Public) bits, bits_text width bits, 0x0B ∷ [], (bits, bits_spelled width bits fits, refl), (tt, 0x0B ∷ [], [], (0x0B, refl, end_there ct), (refl, refl), refl), refl),
  refl,
)
number_of true width Secret bits fits plain = (
  constant.Prefix,
  0xE0 ∷ [],
  const_opcode width ∷ (bits_text width bits ++ 0x0B ∷ []),
  (0xE0, refl, prefix_there),
  (
    Number (typed width Secret) bits,
    const_opcode width ∷ bits_text width bits,
    0x0B ∷ [],
    (width, const_opcode width ∷ [], bits_text width bits, (const_opcode width, refl, secret_there width), (bits, bits_spelled width bits fits, refl), refl),
    (tt, 0x0B ∷ [], [], (0x0B, refl, end_there true), (refl, refl), refl),
    refl,
  ),
  refl,
)
number_of false width Secret bits fits plain = let e : Secret ≡ Public = plain refl in absurd cc

pub constant_spelled : (ct : Bool) (c : Constant Label) → IsFitting c → IsLimitedConstant c → (ct ≡ false → IsPlainConstant c) → IsConstant ct (constant_text c) c
constant_spelled ct (Number t bits) fits h plain = number_of ct t.width t.tag bits fits plain
constant_spelled ct (ValueOf global) fits h plain = (
  constant.Global,
  0x23 ∷ [],
  u32_text global ++ 0x0B ∷ [],
  (0x23, refl, global_there ct),
  (ValueOf global, u32_text global, 0x0B ∷ [], (global, number_spelled global h, refl), (tt, 0x0B ∷ [], [], (0x0B, refl, end_there ct), (refl, refl), refl), refl),
  refl,
)

pub global_spelled : (ct : Bool) (g : Global Label) → IsFitting g.init → IsLimitedConstant g.init → (ct ≡ false → IsPlainGlobal g) → IsGlobal ct (global_text g) g
global_spelled ct g fits h plain =
    (g.type, variable_text g.type, constant_text g.init, variable_spelled ct g.type (λ e. (plain e).0), (g.init, constant_spelled ct g.init fits h (λ e. (plain e).1), refl), refl)

pub element_spelled : (ct : Bool) (e : Element Label) → IsFitting e.offset → IsLimitedElement e → (ct ≡ false → IsPlainConstant e.offset) → IsShort (element_text e) → IsElement ct (element_text e) e
element_spelled ct e fits h plain lt =
    let table = u32_text e.table in
    let offset = constant_text e.offset in
    let functions = vector_text u32_text e.functions in
    let count : Is32 (length e.functions) = omega (arith, length-append (table ++ offset) functions, vector_short u32_text e.functions, count_short u32_text number_some e.functions) in (
      e.table,
      table,
      offset ++ functions,
      number_spelled e.table h.0,
      (e.offset, offset, functions, constant_spelled ct e.offset fits h.1 plain, (e.functions, vector_spelled IsU32 u32_text e.functions count (λ i d within. number_spelled _ (h.2 i d within)), refl), refl),
      append_assoc table offset functions,
    )

pub segment_spelled : (ct : Bool) (s : Segment Label) → IsFitting s.offset → IsLimitedSegment s → (ct ≡ false → IsPlainConstant s.offset) → IsShort (segment_text s) → IsSegment ct (segment_text s) s
segment_spelled ct s fits h plain lt =
    let memory = u32_text s.memory in
    let offset = constant_text s.offset in
    let bytes = sized_text s.bytes in (
      s.memory,
      memory,
      offset ++ bytes,
      number_spelled s.memory h.0,
      (s.offset, offset, bytes, constant_spelled ct s.offset fits h.1 plain, (s.bytes, bytes_spelled s.bytes (omega (arith, length-append (memory ++ offset) bytes, size_short s.bytes)), refl), refl),
      append_assoc memory offset bytes,
    )
