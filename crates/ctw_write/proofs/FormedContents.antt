-- The sections of a module that is formed and keeps the limits are spelled by their canonical texts.
use Rattle.std.proofs.Common.{◌≡◌, ℕ, ◌+◌, ◌≤◌, ◌^◌, Bool, false, List, [], ◌∷◌, ◌++◌, length, map, Option, Some, None, refl, sym, subst, append-nil, arith}
use Rattle.std.specs.Prelude.{IfSome}
use Rattle.std.specs.List.{All}
use Rattle.std.proofs.lemmas.List.{length-append}
use Rattle.std.proofs.lemmas.List.Elements.{All-nil, All-cons, All-head, All-tail}
use Rattle.std.proofs.lemmas.Option.{IfSome_then}
use Rattle.ctw_form.specs.declared.table.Held.{Held}
use Rattle.ctw_ops.specs.declared.types.Label.{Label}
use Rattle.ctw_ops.specs.declared.types.Label.TheVariants.{Public, Secret}
use Rattle.ctw_ops.specs.Types.{MemoryType}
use Rattle.ctw_ops.specs.declared.types.Limits.{Limits}
use Rattle.ctw_ops.specs.Tree.{Module, TypeEntry, Import, Function, Global, Export, Element, Segment}
use Rattle.ctw_ops.specs.Typing.{optional}
use Rattle.ctw_ops.specs.Once.{imported_tables, imported_memories}
use Rattle.ctw_ops.specs.Valid.{IsFormed}
use Rattle.ctw_leb.specs.Grammar.{Grammar, Mapped, Times}
use Rattle.ctw_leb.specs.Numbers.{IsU32}
use Rattle.ctw_leb.specs.Vectors.{Vector, Sized}
use Rattle.ctw_leb.specs.Spelling.{u32_text}
use Rattle.ctw_form.specs.declared.table.SectionKind.TheVariants as kind
use Rattle.ctw_form.specs.declared.sections.Seen.{Seen}
use Rattle.ctw_form.specs.Sections.{Section, TypeSection, ImportSection, FunctionSection, TableSection, MemorySection, GlobalSection, ExportSection, StartSection, ElementSection, CodeSection, DataSection, none_held, held_by}
use Rattle.ctw_form.specs.Spelled.{VectorUpto, IsTypeEntry, IsTable, IsMemory, IsGlobal, IsExport, IsElement, IsSegment, IsImports, IsCodes, room, Insides}
use Rattle.ctw_write.specs.Canon.{all_texts, vector_text, sized_text, type_entry_text, import_text, extern_text, table_text, memory_text, global_text, export_text, kind_byte, constant_text, element_text, groups_of, group_text, body_text, code_text, segment_text}
use Rattle.ctw_write.specs.KeepsLimits.{Is32, IsShort, AreSizes, KeepsLimits}
use Rattle.ctw_write.proofs.FormedNumbers.{number_spelled, number_some, number_short, count_short, items_short, vector_short, vector_spelled, upto_spelled, sized_spelled, size_short}
use Rattle.ctw_write.proofs.FormedItems.{entry_spelled, table_spelled, memory_spelled, export_spelled, global_spelled, element_spelled, segment_spelled}
use Rattle.ctw_write.proofs.FormedImports.{Room, room_after, imports_spelled}
use Rattle.ctw_write.proofs.FormedCode.{entry_of, codes_spelled}

-- ---- each item has a byte

sized_some : (text rest : List ℕ) → 1 ≤ length (sized_text text ++ rest)
sized_some text rest = omega (arith, length-append (sized_text text) rest, size_short text)

entry_some : (e : TypeEntry Label) → 1 ≤ length (type_entry_text e)
entry_some e = go e.base
  where
    go : (base : Option ℕ) → 1 ≤ length (type_entry_text (record { base = base; type = e.type }))
    go None = omega arith
    go (Some base) = omega arith

import_some : (i : Import Label) → 1 ≤ length (import_text i)
import_some i = omega (arith, sized_some i.module_name (sized_text i.name), length-append (sized_text i.module_name ++ sized_text i.name) (extern_text i.kind))

memory_some : (t : MemoryType Label) → 1 ≤ length (memory_text t)
memory_some t = go t.tag t.limits.min t.limits.max
  where
    go : (label : Label) (min : ℕ) (max : Option ℕ) → 1 ≤ length (memory_text (record { tag = label; limits = record { min = min; max = max } }))
    go Public min None = omega arith
    go Public min (Some max) = omega arith
    go Secret min None = omega arith
    go Secret min (Some max) = omega arith

table_some : (limits : Limits) → 1 ≤ length (table_text limits)
table_some limits = omega arith

global_some : (g : Global Label) → 1 ≤ length (global_text g)
global_some g = omega arith

export_some : (e : Export) → 1 ≤ length (export_text e)
export_some e = sized_some e.name (kind_byte e.kind ∷ u32_text e.index)

element_some : (e : Element Label) → 1 ≤ length (element_text e)
element_some e = omega (
  arith,
  number_some e.table,
  length-append (u32_text e.table) (constant_text e.offset),
  length-append (u32_text e.table ++ constant_text e.offset) (vector_text u32_text e.functions),
)

segment_some : (s : Segment Label) → 1 ≤ length (segment_text s)
segment_some s = omega (
  arith,
  number_some s.memory,
  length-append (u32_text s.memory) (constant_text s.offset),
  length-append (u32_text s.memory ++ constant_text s.offset) (sized_text s.bytes),
)

use_some : (f : Function Label) → 1 ≤ length (u32_text f.type)
use_some f = number_some f.type

code_some : (f : Function Label) → 1 ≤ length (code_text f)
code_some f = omega (arith, size_short (vector_text group_text (groups_of f.locals) ++ body_text f.body))

-- ---- a section's contents

-- the counts and sizes inside a short text
record Inside {A : Type 0} (w : A → List ℕ) (l : List A) : Type 0 where
  counted : Is32 (length l)
  short : All (λ a. IsShort (w a)) l

inside : {A : Type 0} (w : A → List ℕ) → ((a : A) → 1 ≤ length (w a)) → (l : List A) → IsShort (vector_text w l) → Inside w l
inside w some l lt = record {
  counted = omega (arith, vector_short w l, count_short w some l);
  short = items_short w (2 ^ 32) l (omega (arith, vector_short w l));
}

contents_spelled : {A : Type 0} (G : Grammar A) (mk : A → Section) (text : List ℕ) (a : A) → IsShort text → G text a → Sized (Mapped mk G) (sized_text text) (mk a)
contents_spelled G mk text a lt m = sized_spelled (Mapped mk G) text (mk a) lt (a, m, refl)

-- numbers that are taken from things
times_taken : {A : Type 0} (f : A → ℕ) (l : List A) → All (λ a. Is32 (f a)) l → Times IsU32 (length l) (all_texts (λ a. u32_text (f a)) l) (map f l)
times_taken f [] h = (refl, refl)
times_taken f (a ∷ l) h =
    let texts = all_texts (λ b. u32_text (f b)) l in
    let others = times_taken f l (All-tail (λ b. Is32 (f b)) a l h) in
    (f a, u32_text (f a), texts, number_spelled (f a) (All-head (λ b. Is32 (f b)) a l h), (map f l, texts, [], others, (refl, refl), sym (append-nil texts)), refl)

optional_all : {A : Type 0} (P : A → Type 0) (o : Option A) → IfSome o P → All P (optional o)
optional_all P None h = All-nil P
optional_all P (Some a) h = All-cons P a [] h (All-nil P)

pub types_contents : (seen : Seen) (m : Module Label) → IsFormed m → KeepsLimits m → Sized (Insides m.ct seen kind.Types) (sized_text (vector_text type_entry_text m.types)) (TypeSection m.types)
types_contents seen m f h =
    let lt : IsShort (vector_text type_entry_text m.types) = h.sections 0 [] (omega arith) in
    let i = inside type_entry_text entry_some m.types lt in
    let all = vector_spelled (IsTypeEntry m.ct) type_entry_text m.types i.counted (λ j d within. entry_spelled m.ct _ (h.types j d within) (λ e. (f.plain e).types j d within)) in
    contents_spelled (Vector (IsTypeEntry m.ct)) TypeSection (vector_text type_entry_text m.types) m.types lt all

module_room : (m : Module Label) → IsFormed m → Room none_held (length (imported_tables m.imports) + length (optional m.table)) (length (imported_memories m.imports) + length (optional m.memory))
module_room m f = record {
  tables = omega (arith, f.tables, length-append (imported_tables m.imports) (optional m.table));
  memories = omega (arith, f.memories, length-append (imported_memories m.imports) (optional m.memory));
}

pub imports_contents : (seen : Seen) (m : Module Label) → IsFormed m → KeepsLimits m → Sized (Insides m.ct seen kind.Imports) (sized_text (vector_text import_text m.imports)) (ImportSection m.imports)
imports_contents seen m f h =
    let lt : IsShort (vector_text import_text m.imports) = h.sections 1 [] (omega arith) in
    let i = inside import_text import_some m.imports lt in
    let all = imports_spelled m.ct m.imports (length (optional m.table)) (length (optional m.memory)) (module_room m f) h.imports (λ e. (f.plain e).imports) i.short i.counted in
    contents_spelled (IsImports m.ct) ImportSection (vector_text import_text m.imports) m.imports lt all

pub uses_contents : (seen : Seen) (m : Module Label) → KeepsLimits m → Sized (Insides m.ct seen kind.Functions) (sized_text (vector_text (λ f. u32_text f.type) m.functions)) (FunctionSection (map (λ f. f.type) m.functions))
uses_contents seen m h =
    let text = vector_text (λ (g : Function Label). u32_text g.type) m.functions in
    let lt : IsShort text = h.sections 2 [] (omega arith) in
    let i = inside (λ (g : Function Label). u32_text g.type) use_some m.functions lt in
    let n = length m.functions in
    let all : Vector IsU32 text (map (λ g. g.type) m.functions) = (n, u32_text n, all_texts (λ g. u32_text g.type) m.functions, number_spelled n i.counted, times_taken (λ g. g.type) m.functions (λ j d within. (h.functions j d within).type), refl) in
    contents_spelled (Vector IsU32) FunctionSection text (map (λ g. g.type) m.functions) lt all

pub table_contents : (seen : Seen) (m : Module Label) → IsFormed m → KeepsLimits m → seen.held ≡ held_by none_held m.imports
    → Sized (Insides m.ct seen kind.Tables) (sized_text (vector_text table_text (optional m.table))) (TableSection (optional m.table))
table_contents seen m f h e =
    let l = optional m.table in
    let lt : IsShort (vector_text table_text l) = h.sections 3 [] (omega arith) in
    let i = inside table_text table_some l lt in
    let left = room_after none_held m.imports (length l) (length (optional m.memory)) (module_room m f) in
    let fits : length l ≤ room seen.held.table = subst (λ (held : Held). length l ≤ room held.table) (sym e) left.tables in
    let all = upto_spelled (room seen.held.table) IsTable table_text l fits i.counted (optional_all (λ t. IsTable (table_text t) t) m.table (IfSome_then m.table h.table table_spelled)) in
    contents_spelled (VectorUpto (room seen.held.table) IsTable) TableSection (vector_text table_text l) l lt all

memory_optional : (ct : Bool) (o : Option (MemoryType Label)) → IfSome o (λ t. AreSizes t.limits) → (ct ≡ false → IfSome o (λ t. t.tag ≡ Public)) → All (λ t. IsMemory ct (memory_text t) t) (optional o)
memory_optional ct None h plain = All-nil (λ t. IsMemory ct (memory_text t) t)
memory_optional ct (Some t) h plain = All-cons (λ u. IsMemory ct (memory_text u) u) t [] (memory_spelled ct t h plain) (All-nil (λ u. IsMemory ct (memory_text u) u))

pub memory_contents : (seen : Seen) (m : Module Label) → IsFormed m → KeepsLimits m → seen.held ≡ held_by none_held m.imports
    → Sized (Insides m.ct seen kind.Memories) (sized_text (vector_text memory_text (optional m.memory))) (MemorySection (optional m.memory))
memory_contents seen m f h e =
    let l = optional m.memory in
    let lt : IsShort (vector_text memory_text l) = h.sections 4 [] (omega arith) in
    let i = inside memory_text memory_some l lt in
    let left = room_after none_held m.imports (length (optional m.table)) (length l) (module_room m f) in
    let fits : length l ≤ room seen.held.memory = subst (λ (held : Held). length l ≤ room held.memory) (sym e) left.memories in
    let all = upto_spelled (room seen.held.memory) (IsMemory m.ct) memory_text l fits i.counted (memory_optional m.ct m.memory h.memory (λ p. (f.plain p).memory)) in
    contents_spelled (VectorUpto (room seen.held.memory) (IsMemory m.ct)) MemorySection (vector_text memory_text l) l lt all

pub globals_contents : (seen : Seen) (m : Module Label) → IsFormed m → KeepsLimits m → Sized (Insides m.ct seen kind.Globals) (sized_text (vector_text global_text m.globals)) (GlobalSection m.globals)
globals_contents seen m f h =
    let lt : IsShort (vector_text global_text m.globals) = h.sections 5 [] (omega arith) in
    let i = inside global_text global_some m.globals lt in
    let all = vector_spelled (IsGlobal m.ct) global_text m.globals i.counted (λ j d within. global_spelled m.ct _ (f.globals j d within) (h.globals j d within) (λ e. (f.plain e).globals j d within)) in
    contents_spelled (Vector (IsGlobal m.ct)) GlobalSection (vector_text global_text m.globals) m.globals lt all

pub exports_contents : (seen : Seen) (m : Module Label) → KeepsLimits m → Sized (Insides m.ct seen kind.Exports) (sized_text (vector_text export_text m.exports)) (ExportSection m.exports)
exports_contents seen m h =
    let lt : IsShort (vector_text export_text m.exports) = h.sections 6 [] (omega arith) in
    let i = inside export_text export_some m.exports lt in
    let all = vector_spelled IsExport export_text m.exports i.counted (λ j d within. export_spelled _ (h.exports j d within) (i.short j d within)) in
    contents_spelled (Vector IsExport) ExportSection (vector_text export_text m.exports) m.exports lt all

pub start_contents : (ct : Bool) (seen : Seen) (function : ℕ) → Is32 function → Sized (Insides ct seen kind.Start) (sized_text (u32_text function)) (StartSection function)
start_contents ct seen function lt = contents_spelled IsU32 StartSection (u32_text function) function (number_short function) (number_spelled function lt)

pub elements_contents : (seen : Seen) (m : Module Label) → IsFormed m → KeepsLimits m → Sized (Insides m.ct seen kind.Elements) (sized_text (vector_text element_text m.elements)) (ElementSection m.elements)
elements_contents seen m f h =
    let lt : IsShort (vector_text element_text m.elements) = h.sections 7 [] (omega arith) in
    let i = inside element_text element_some m.elements lt in
    let all = vector_spelled (IsElement m.ct) element_text m.elements i.counted (λ j d within. element_spelled m.ct _ (f.elements j d within) (h.elements j d within) (λ e. (f.plain e).elements j d within) (i.short j d within)) in
    contents_spelled (Vector (IsElement m.ct)) ElementSection (vector_text element_text m.elements) m.elements lt all

pub codes_contents : (seen : Seen) (m : Module Label) → IsFormed m → KeepsLimits m → seen.owed ≡ length m.functions
    → Sized (Insides m.ct seen kind.Codes) (sized_text (vector_text code_text m.functions)) (CodeSection (map entry_of m.functions))
codes_contents seen m f h e =
    let lt : IsShort (vector_text code_text m.functions) = h.sections 8 [] (omega arith) in
    let i = inside code_text code_some m.functions lt in
    let all = codes_spelled m.ct m.functions h.functions (λ p. (f.plain p).functions) h.locals i.short i.counted in
    contents_spelled (IsCodes m.ct seen.owed) CodeSection (vector_text code_text m.functions) (map entry_of m.functions) lt
    (subst (λ (owed : ℕ). IsCodes m.ct owed (vector_text code_text m.functions) (map entry_of m.functions)) (sym e) all)

pub segments_contents : (seen : Seen) (m : Module Label) → IsFormed m → KeepsLimits m → Sized (Insides m.ct seen kind.Segments) (sized_text (vector_text segment_text m.segments)) (DataSection m.segments)
segments_contents seen m f h =
    let lt : IsShort (vector_text segment_text m.segments) = h.sections 9 [] (omega arith) in
    let i = inside segment_text segment_some m.segments lt in
    let all = vector_spelled (IsSegment m.ct) segment_text m.segments i.counted (λ j d within. segment_spelled m.ct _ (f.segments j d within) (h.segments j d within) (λ e. (f.plain e).segments j d within) (i.short j d within)) in
    contents_spelled (Vector (IsSegment m.ct)) DataSection (vector_text segment_text m.segments) m.segments lt all
