-- Plain files spell plain modules.
use Rattle.std.proofs.Common.{◌≡◌, ℕ, Bool, true, false, cond, List, [], ◌∷◌, Option, None, Result, Ok, Err, refl, sym, ap, subst, ◌∙◌, rules}
use Rattle.std.specs.Prelude.{IfSome}
use Rattle.std.specs.List.{All, list_all}
use Rattle.std.proofs.lemmas.List.Elements.{All-nil, All-cons, All-head, All-tail, All-append, All-replicate}
use Rattle.ctw_ops.specs.ValueType.{ValueType}
use Rattle.ctw_ops.specs.Types.{FunctionType, VariableType, MemoryType}
use Rattle.ctw_ops.specs.declared.types.Label.{Label}
use Rattle.ctw_ops.specs.declared.types.Label.TheVariants.{Public}
use Rattle.ctw_ops.specs.declared.types.Trust.{Trust}
use Rattle.ctw_ops.specs.declared.types.Trust.TheVariants.{Untrusted}
use Rattle.ctw_ops.specs.declared.types.ExternTag.{ExternTag}
use Rattle.ctw_ops.specs.declared.types.ExternTag.TheVariants as tag
use Rattle.ctw_ops.specs.Code.{opcodes}
use Rattle.ctw_ops.specs.Tree.{Module, TypeEntry, Import, Extern, Constant, Global, Element, Segment}
use Rattle.ctw_leb.specs.Grammar.{Items, state_after}
use Rattle.ctw_form.specs.declared.fault.FormKind.{FormKind}
use Rattle.ctw_form.specs.declared.table.EntryForm.{EntryForm}
use Rattle.ctw_form.specs.declared.table.EntryForm.TheVariants.{Direct, Variant}
use Rattle.ctw_form.specs.declared.table.MemoryForm.{MemoryForm}
use Rattle.ctw_form.specs.declared.table.ConstantForm.{ConstantForm}
use Rattle.ctw_form.specs.declared.table.ConstantForm.TheVariants as constant
use Rattle.ctw_form.specs.declared.table.SectionKind.{SectionKind}
use Rattle.ctw_form.specs.declared.table.SectionKind.TheVariants as kind
use Rattle.ctw_form.specs.declared.table.Held.{Held}
use Rattle.ctw_form.specs.declared.sections.Seen.{Seen}
use Rattle.ctw_ops.specs.Limits.{most_params, most_results}
use Rattle.ctw_form.specs.Tables.{value_type, entry_form, memory_form, constant_form}
use Rattle.ctw_form.specs.Sections.{Group, Entry, Section, Parts, nothing_seen, seen_after, no_parts, with_section, locals_of, first, functions_of, held_after}
use Rattle.ctw_form.specs.Spelled.{IsValueType, IsSignature, EntryBehind, IsTypeEntry, IsMemory, IsVariable, IsExtern, IsImport, ConstantBehind, IsConstant, IsGlobal, IsElement, IsSegment, Count, count_after, IsGroup, IsEntry, all_after, room, Insides, IsSection, File, IsFile, Spells}
use Rattle.ctw_ops.specs.Plain.{is_plain_op, IsPublicType, IsPlainEntry, IsPlainExtern, IsPlainConstant, IsPlainGlobal, IsPlainFunction, IsPlainModule}
use Rattle.ctw_form.proofs.SpelledParts.{all_times, all_vector, all_vector_upto, parts_kept}

-- ---- tables of plain modules

abbrev KeptBy : {A : Type 0} → (A → Type 0) → Result A FormKind → Type 0
KeptBy P (Ok a) = P a
KeptBy P (Err kind) = Unit {0}

record Row {A : Type 0} (P : A → Type 0) (r : Result A FormKind) : Type 0 where
  kept : KeptBy P r

fine : {A : Type 0} (P : A → Type 0) (a : A) → P a → Row P (Ok a)
fine P a h = record { kept = h }

bad : {A : Type 0} (P : A → Type 0) (kind : FormKind) → Row P (Err kind)
bad P kind = record { kept = tt }

row : {A : Type 0} (P : A → Type 0) (test : Bool) (a b : Result A FormKind) → Row P a → Row P b → Row P (cond test a b)
row P true a b p q = p
row P false a b p q = q

row_kept : {A : Type 0} (P : A → Type 0) (r : Result A FormKind) (a : A) → Row P r → r ≡ Ok a → P a
row_kept P r a h e = (subst (Row P) e h).kept

value_type_row : (b : ℕ) → Row IsPublicType (value_type false b)
unfolding value_type
value_type_row b = search (rules, row, fine, bad) depth 60 fits 600

-- an entry that is no variant and not trusted
abbrev PlainForm : EntryForm → Type 0
PlainForm (Direct trust) = trust ≡ Untrusted
PlainForm Variant = ⊥

entry_form_row : (b : ℕ) → Row PlainForm (entry_form false b)
unfolding entry_form
entry_form_row b = search (rules, row, fine, bad) depth 60 fits 600

memory_form_row : (b : ℕ) → Row (λ (form : MemoryForm). form.label ≡ Public) (memory_form false b)
unfolding memory_form
memory_form_row b = search (rules, row, fine, bad) depth 60 fits 600

abbrev PublicForm : ConstantForm → Type 0
PublicForm (constant.Number width) = Unit {0}
PublicForm constant.Global = Unit {0}
PublicForm constant.Prefix = ⊥

constant_form_row : (b : ℕ) → Row PublicForm (constant_form false b)
unfolding constant_form
constant_form_row b = search (rules, row, fine, bad) depth 60 fits 600

-- ---- types

value_plain : (text : List ℕ) (t : ValueType Label) → IsValueType false text t → IsPublicType t
value_plain text t m = row_kept IsPublicType (value_type false m.0) t (value_type_row m.0) m.2

first_plain : (l : List (ValueType Label)) → All IsPublicType l → IfSome (first l) IsPublicType
first_plain [] h = tt
first_plain (t ∷ ts) h = All-head IsPublicType t ts h

signature_plain : (base : Option ℕ) (text : List ℕ) (f : FunctionType Label) → base ≡ None → IsSignature false Untrusted text f → IsPlainEntry (record { base = base; type = f })
signature_plain base text f e m =
    let results = m.4 in
    let params_plain : All IsPublicType m.0 = all_vector_upto most_params (IsValueType false) IsPublicType value_plain m.1 m.0 m.3 in
    let results_plain : All IsPublicType results.0 = all_vector_upto most_results (IsValueType false) IsPublicType value_plain results.1 results.0 results.3 in
    subst (λ (g : FunctionType Label). IsPlainEntry (record { base = base; type = g })) results.4.1
    (record { base = e; trust = refl; params = params_plain; result = first_plain results.0 results_plain })

behind_plain : (form : EntryForm) (text : List ℕ) (e : TypeEntry Label) → PlainForm form → EntryBehind false form text e → IsPlainEntry e
behind_plain (Direct trust) text e h m =
    let s = subst (λ (t : Trust). IsSignature false t text m.0) h m.1 in
    subst IsPlainEntry m.2 (signature_plain None text m.0 refl s)
behind_plain Variant text e h m = absurd h

entry_plain : (text : List ℕ) (e : TypeEntry Label) → IsTypeEntry false text e → IsPlainEntry e
entry_plain text e m = behind_plain m.0 m.2 e (row_kept PlainForm (entry_form false m.3.0) m.0 (entry_form_row m.3.0) m.3.2) m.4

memory_plain : (text : List ℕ) (t : MemoryType Label) → IsMemory false text t → t.tag ≡ Public
memory_plain text t m =
    let label : m.0.label ≡ Public = row_kept (λ (form : MemoryForm). form.label ≡ Public) (memory_form false m.3.0) m.0 (memory_form_row m.3.0) m.3.2 in
    ap (λ (u : MemoryType Label). u.tag) (sym m.4.2) ∙ label

variable_plain : (text : List ℕ) (v : VariableType Label) → IsVariable false text v → IsPublicType v.value
variable_plain text v m = ap (λ (u : VariableType Label). u.value.tag) (sym m.4.2) ∙ value_plain m.1 m.0 m.3

-- ---- items

extern_plain : (kind : ExternTag) (text : List ℕ) (e : Extern Label) → IsExtern false kind text e → IsPlainExtern e
extern_plain tag.Func text e m = subst IsPlainExtern m.2 tt
extern_plain tag.Table text e m = subst IsPlainExtern m.2 tt
extern_plain tag.Memory text e m = subst IsPlainExtern m.2 (memory_plain text m.0 m.1)
extern_plain tag.Global text e m = subst IsPlainExtern m.2 (variable_plain text m.0 m.1)

abbrev IsPlainImport : Import Label → Type 0
IsPlainImport i = IsPlainExtern i.kind

import_plain : (held : Held) (text : List ℕ) (i : Import Label) → IsImport false held text i → IsPlainImport i
import_plain held text i m =
    let inner = m.4.4 in
    let kind = inner.1 in
    subst IsPlainImport inner.2 (extern_plain kind.0 kind.2 inner.0 kind.4)

constant_behind_plain : (form : ConstantForm) (text : List ℕ) (c : Constant Label) → PublicForm form → ConstantBehind form text c → IsPlainConstant c
constant_behind_plain (constant.Number width) text c h m = subst IsPlainConstant m.2 refl
constant_behind_plain constant.Global text c h m = subst IsPlainConstant m.2 tt
constant_behind_plain constant.Prefix text c h m = absurd h

constant_plain : (text : List ℕ) (c : Constant Label) → IsConstant false text c → IsPlainConstant c
constant_plain text c m =
    let value = m.4 in
    let form : PublicForm m.0 = row_kept PublicForm (constant_form false m.3.0) m.0 (constant_form_row m.3.0) m.3.2 in
    subst IsPlainConstant value.4.4.1 (constant_behind_plain m.0 value.1 value.0 form value.3)

global_plain : (text : List ℕ) (g : Global Label) → IsGlobal false text g → IsPlainGlobal g
global_plain text g m = subst IsPlainGlobal m.4.2 (variable_plain m.1 m.0 m.3, constant_plain m.2 m.4.0 m.4.1)

abbrev IsPlainElement : Element Label → Type 0
IsPlainElement e = IsPlainConstant e.offset

element_plain : (text : List ℕ) (e : Element Label) → IsElement false text e → IsPlainElement e
element_plain text e m =
    let offset = m.4 in
    subst IsPlainElement offset.4.2 (constant_plain offset.1 offset.0 offset.3)

abbrev IsPlainSegment : Segment Label → Type 0
IsPlainSegment s = IsPlainConstant s.offset

segment_plain : (text : List ℕ) (s : Segment Label) → IsSegment false text s → IsPlainSegment s
segment_plain text s m =
    let offset = m.4 in
    subst IsPlainSegment offset.4.2 (constant_plain offset.1 offset.0 offset.3)

-- ---- code

abbrev IsPlainGroup : Group → Type 0
IsPlainGroup g = IsPublicType g.type

group_plain : (c : Count) (text : List ℕ) (g : Group) → IsGroup false c text g → IsPlainGroup g
group_plain c text g m = subst IsPlainGroup m.4.2 (value_plain m.2 m.4.0 m.4.1)

locals_plain : (groups : List Group) → All IsPlainGroup groups → All IsPublicType (locals_of groups)
locals_plain [] h = All-nil IsPublicType
locals_plain (g ∷ groups) h =
    All-append IsPublicType _ (locals_of groups) (All-replicate IsPublicType g.count g.type (All-head IsPlainGroup g groups h)) (locals_plain groups (All-tail IsPlainGroup g groups h))

abbrev IsPlainCode : Entry → Type 0
IsPlainCode e = All IsPublicType (locals_of e.groups) × (list_all is_plain_op (opcodes e.body) ≡ true)

code_plain : (all : ℕ) (text : List ℕ) (e : Entry) → IsEntry false all text e → IsPlainCode e
code_plain all text e m =
    let insides = m.4.1 in
    let groups = insides.3 in
    let code = insides.4 in
    let each : All IsPlainGroup insides.0 = all_times (IsGroup false) count_after IsPlainGroup group_plain groups.0 (record { own = 0; all = all }) groups.2 insides.0 groups.4 in
    subst IsPlainCode code.2 (locals_plain insides.0 each, code.1.1.1)

-- ---- sections

record PlainParts (p : Parts) : Type 0 where
  types : All IsPlainEntry p.types
  imports : All IsPlainImport p.imports
  entries : All IsPlainCode p.entries
  memory : IfSome p.memory (λ type. type.tag ≡ Public)
  globals : All IsPlainGlobal p.globals
  elements : All IsPlainElement p.elements
  segments : All IsPlainSegment p.segments

abbrev IsPlainMemory : MemoryType Label → Type 0
IsPlainMemory t = t.tag ≡ Public

first_memory : (l : List (MemoryType Label)) → All IsPlainMemory l → IfSome (first l) (λ type. type.tag ≡ Public)
first_memory [] h = tt
first_memory (t ∷ ts) h = All-head IsPlainMemory t ts h

abbrev PlainBehind : Parts → Section → Type 0
PlainBehind p section = PlainParts (with_section p section)

insides_plain : (seen : Seen) (p : Parts) (k : SectionKind) (text : List ℕ) (section : Section) → Insides false seen k text section → PlainParts p → PlainBehind p section
insides_plain seen p kind.Custom text section m h =
    subst (PlainBehind p) m.4.2 (record { types = h.types; imports = h.imports; entries = h.entries; memory = h.memory; globals = h.globals; elements = h.elements; segments = h.segments })
insides_plain seen p kind.Types text section m h =
    subst (PlainBehind p) m.2 (record { types = all_vector (IsTypeEntry false) IsPlainEntry entry_plain text m.0 m.1; imports = h.imports; entries = h.entries; memory = h.memory; globals = h.globals; elements = h.elements; segments = h.segments })
insides_plain seen p kind.Imports text section m h =
    subst (PlainBehind p) m.2 (record { types = h.types; imports = all_times (IsImport false) held_after IsPlainImport import_plain m.1.0 _ m.1.2 m.0 m.1.4; entries = h.entries; memory = h.memory; globals = h.globals; elements = h.elements; segments = h.segments })
insides_plain seen p kind.Functions text section m h =
    subst (PlainBehind p) m.2 (record { types = h.types; imports = h.imports; entries = h.entries; memory = h.memory; globals = h.globals; elements = h.elements; segments = h.segments })
insides_plain seen p kind.Tables text section m h =
    subst (PlainBehind p) m.2 (record { types = h.types; imports = h.imports; entries = h.entries; memory = h.memory; globals = h.globals; elements = h.elements; segments = h.segments })
insides_plain seen p kind.Memories text section m h =
    let each : All IsPlainMemory m.0 = all_vector_upto (room seen.held.memory) (IsMemory false) IsPlainMemory memory_plain text m.0 m.1 in
    subst (PlainBehind p) m.2 (record { types = h.types; imports = h.imports; entries = h.entries; memory = first_memory m.0 each; globals = h.globals; elements = h.elements; segments = h.segments })
insides_plain seen p kind.Globals text section m h =
    subst (PlainBehind p) m.2 (record { types = h.types; imports = h.imports; entries = h.entries; memory = h.memory; globals = all_vector (IsGlobal false) IsPlainGlobal global_plain text m.0 m.1; elements = h.elements; segments = h.segments })
insides_plain seen p kind.Exports text section m h =
    subst (PlainBehind p) m.2 (record { types = h.types; imports = h.imports; entries = h.entries; memory = h.memory; globals = h.globals; elements = h.elements; segments = h.segments })
insides_plain seen p kind.Start text section m h =
    subst (PlainBehind p) m.2 (record { types = h.types; imports = h.imports; entries = h.entries; memory = h.memory; globals = h.globals; elements = h.elements; segments = h.segments })
insides_plain seen p kind.Elements text section m h =
    subst (PlainBehind p) m.2 (record { types = h.types; imports = h.imports; entries = h.entries; memory = h.memory; globals = h.globals; elements = all_vector (IsElement false) IsPlainElement element_plain text m.0 m.1; segments = h.segments })
insides_plain seen p kind.Codes text section m h =
    subst (PlainBehind p) m.2 (record { types = h.types; imports = h.imports; entries = all_times (IsEntry false) all_after IsPlainCode code_plain m.1.0 0 m.1.2 m.0 m.1.4; memory = h.memory; globals = h.globals; elements = h.elements; segments = h.segments })
insides_plain seen p kind.Segments text section m h =
    subst (PlainBehind p) m.2 (record { types = h.types; imports = h.imports; entries = h.entries; memory = h.memory; globals = h.globals; elements = h.elements; segments = all_vector (IsSegment false) IsPlainSegment segment_plain text m.0 m.1 })

section_plain : (seen : Seen) (p : Parts) (text : List ℕ) (section : Section) → IsSection false seen text section → PlainParts p → PlainBehind p section
section_plain seen p text section m h = insides_plain seen p m.0 m.4.2 section m.4.4.1 h

no_parts_plain : PlainParts no_parts
no_parts_plain = record {
  types = All-nil IsPlainEntry;
  imports = All-nil IsPlainImport;
  entries = All-nil IsPlainCode;
  memory = tt;
  globals = All-nil IsPlainGlobal;
  elements = All-nil IsPlainElement;
  segments = All-nil IsPlainSegment;
}

file_plain : (bytes : List ℕ) (file : File) → IsFile bytes file → file.ct ≡ false → PlainParts (state_after with_section no_parts file.sections)
file_plain bytes file m plain =
    let inner = m.4.4 in
    let version : m.4.0 ≡ false = ap (λ (f : File). f.ct) inner.2 ∙ plain in
    let items = subst (λ (ct : Bool). Items (IsSection ct) seen_after nothing_seen m.4.2 inner.0) version inner.1 in
    let all = parts_kept false (λ seen p. PlainParts p) section_plain nothing_seen no_parts m.4.2 inner.0 items no_parts_plain in
    subst (λ (f : File). PlainParts (state_after with_section no_parts f.sections)) inner.2 all

-- ---- modules

functions_plain : (uses : List ℕ) (entries : List Entry) → All IsPlainCode entries → All IsPlainFunction (functions_of uses entries)
functions_plain [] entries h = All-nil IsPlainFunction
functions_plain (type ∷ types) [] h = All-nil IsPlainFunction
functions_plain (type ∷ types) (e ∷ entries) h =
    All-cons IsPlainFunction (record { type = type; locals = locals_of e.groups; body = e.body }) (functions_of types entries) (All-head IsPlainCode e entries h) (functions_plain types entries (All-tail IsPlainCode e entries h))

-- what bytes of the plain version spell is a plain module
pub module_plain : (bytes : List ℕ) (m : Module Label) → Spells bytes m → m.ct ≡ false → IsPlainModule m
module_plain bytes m s plain =
    let version : s.file.ct ≡ false = ap (λ (n : Module Label). n.ct) s.made ∙ plain in
    let p = state_after with_section no_parts s.file.sections in
    let h = file_plain bytes s.file s.spelled version in
    subst IsPlainModule s.made
    (record { types = h.types; imports = h.imports; functions = functions_plain p.uses p.entries h.entries; memory = h.memory; globals = h.globals; elements = h.elements; segments = h.segments })
