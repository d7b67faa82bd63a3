-- The readers of sections are exact, and no section is empty.
use Rattle.std.proofs.Common.{◌≡◌, ℕ, ◌+◌, ◌<◌, Bool, List, [], ◌∷◌, ◌++◌, length, Ok, ap, ◌∙◌}
use Rattle.ctw_ops.specs.declared.types.Label.{Label}
use Rattle.ctw_ops.specs.declared.fault.What.TheVariants as what
use Rattle.ctw_ops.specs.Code.{Op}
use Rattle.ctw_leb.specs.Input.{Input}
use Rattle.ctw_leb.specs.Grammar.{Grammar, Bytes, OneOf, TimesFrom, Mapped}
use Rattle.ctw_leb.specs.Numbers.{IsU32}
use Rattle.ctw_leb.specs.Vectors.{Vector, Sized, IsName}
use Rattle.ctw_leb.specs.Reading.{Reader, Exact, Whole, times_from, alone, mapped, all_bytes}
use Rattle.ctw_leb.proofs.Combinators.{IsFilled, exact_then, exact_times_from, whole_alone, whole_mapped, whole_then, whole_bytes}
use Rattle.ctw_leb.proofs.Loops.{read_shorter, read_sum}
use Rattle.ctw_form.specs.declared.fault.FormKind.TheVariants.{SizeMismatch}
use Rattle.ctw_form.specs.declared.fault.FormFault.{FormFault}
use Rattle.ctw_form.specs.declared.table.SectionKind.{SectionKind}
use Rattle.ctw_form.specs.declared.table.SectionKind.TheVariants as kind
use Rattle.ctw_form.specs.declared.sections.Seen.{Seen}
use Rattle.ctw_form.specs.Tables.{section_kind}
use Rattle.ctw_form.specs.Sections.{Section, CustomSection, TypeSection, ImportSection, FunctionSection, TableSection, MemorySection, GlobalSection, ExportSection, StartSection, ElementSection, CodeSection, DataSection, none_held, held_after}
use Rattle.ctw_form.specs.Spelled.{VectorUpto, IsTypeEntry, IsTable, IsMemory, IsImport, IsExport, IsGlobal, IsElement, IsSegment, IsCodes, IsImports, room, Insides, IsSection}
use Rattle.ctw_form.specs.Read.{fault, by_table, number_at, name_at, vector_at, vector_upto_at, type_entry_at, table_at, memory_at, import_at, export_at, global_at, element_at, segment_at, codes_at, imports_at, only_at, insides_at, contents_at, section_at, form_step_at}
use Rattle.ctw_form.proofs.TypeForms.{exact_by_table, exact_number, exact_name, exact_vector_at, exact_vector_upto, exact_sized_at, exact_type_entry, exact_table, exact_memory}
use Rattle.ctw_form.proofs.ItemForms.{exact_import, exact_export, exact_global, exact_element, exact_segment}
use Rattle.ctw_form.proofs.CodeForms.{IsFormStep, exact_form_step, form_step_filled, exact_codes}

pub exact_imports : (ct : Bool) → Exact (IsImports ct) (imports_at ct)
unfolding imports_at
exact_imports ct =
    exact_then IsU32 (λ n. TimesFrom (IsImport ct) held_after n none_held) number_at (λ n. times_from (import_at ct) held_after n none_held) exact_number
    (λ n. exact_times_from (IsImport ct) (import_at ct) held_after n none_held (exact_import ct))

pub whole_only : {A : Type 0} (section : A → Section) (G : Grammar A) (r : Reader A FormFault) → Exact G r → Whole (Mapped section G) (only_at section r)
whole_only section G r g = whole_mapped section G (alone (fault SizeMismatch) r) (whole_alone (fault SizeMismatch) G r g)

pub whole_insides : (ct : Bool) (seen : Seen) (k : SectionKind) → Whole (Insides ct seen k) (insides_at ct seen k)
unfolding insides_at
whole_insides ct seen kind.Custom =
    whole_then IsName (λ name. Mapped (CustomSection name) Bytes) name_at (λ name. mapped (CustomSection name) all_bytes) exact_name (λ name. whole_mapped (CustomSection name) Bytes all_bytes whole_bytes)
whole_insides ct seen kind.Types = whole_only TypeSection (Vector (IsTypeEntry ct)) (vector_at (type_entry_at ct)) (exact_vector_at (IsTypeEntry ct) (type_entry_at ct) (exact_type_entry ct))
whole_insides ct seen kind.Imports = whole_only ImportSection (IsImports ct) (imports_at ct) (exact_imports ct)
whole_insides ct seen kind.Functions = whole_only FunctionSection (Vector IsU32) (vector_at number_at) (exact_vector_at IsU32 number_at exact_number)
whole_insides ct seen kind.Tables =
    whole_only TableSection (VectorUpto (room seen.held.table) IsTable) (vector_upto_at (room seen.held.table) what.Tables 1 table_at)
    (exact_vector_upto (room seen.held.table) what.Tables 1 IsTable table_at exact_table)
whole_insides ct seen kind.Memories =
    whole_only MemorySection (VectorUpto (room seen.held.memory) (IsMemory ct)) (vector_upto_at (room seen.held.memory) what.Memories 1 (memory_at ct))
    (exact_vector_upto (room seen.held.memory) what.Memories 1 (IsMemory ct) (memory_at ct) (exact_memory ct))
whole_insides ct seen kind.Globals = whole_only GlobalSection (Vector (IsGlobal ct)) (vector_at (global_at ct)) (exact_vector_at (IsGlobal ct) (global_at ct) (exact_global ct))
whole_insides ct seen kind.Exports = whole_only ExportSection (Vector IsExport) (vector_at export_at) (exact_vector_at IsExport export_at exact_export)
whole_insides ct seen kind.Start = whole_only StartSection IsU32 number_at exact_number
whole_insides ct seen kind.Elements = whole_only ElementSection (Vector (IsElement ct)) (vector_at (element_at ct)) (exact_vector_at (IsElement ct) (element_at ct) (exact_element ct))
whole_insides ct seen kind.Codes = whole_only CodeSection (IsCodes ct seen.owed) (codes_at ct seen.owed) (exact_codes ct seen.owed)
whole_insides ct seen kind.Segments = whole_only DataSection (Vector (IsSegment ct)) (vector_at (segment_at ct)) (exact_vector_at (IsSegment ct) (segment_at ct) (exact_segment ct))

pub exact_contents : (ct : Bool) (seen : Seen) (k : SectionKind) → Exact (Sized (Insides ct seen k)) (contents_at ct seen k)
unfolding contents_at
exact_contents ct seen k = exact_sized_at (Insides ct seen k) (insides_at ct seen k) (whole_insides ct seen k)

pub exact_section : (ct : Bool) (seen : Seen) → Exact (IsSection ct seen) (section_at ct seen)
unfolding section_at
exact_section ct seen =
    exact_then (OneOf (section_kind seen.last)) (λ k. Sized (Insides ct seen k)) (by_table (section_kind seen.last)) (contents_at ct seen) (exact_by_table (section_kind seen.last)) (exact_contents ct seen)

-- ---- for loops over sections and over the opcodes of a body

-- a section is never empty
pub section_filled : (ct : Bool) (seen : Seen) → IsFilled (IsSection ct seen)
section_filled ct seen section m =
    let e : [] ≡ m.3.0 ∷ m.2 = m.5 ∙ ap (λ (l : List ℕ). l ++ m.2) m.3.1 in
    absurd cc

pub section_shorter : (ct : Bool) (seen : Seen) (i o : Input) (section : Section) → section_at ct seen i ≡ Ok (section, o) → length o.rest < length i.rest
section_shorter ct seen i o section e = read_shorter (IsSection ct seen) (section_at ct seen) (exact_section ct seen) (section_filled ct seen) i section o e

pub section_sum : (ct : Bool) (seen : Seen) (i o : Input) (section : Section) → section_at ct seen i ≡ Ok (section, o) → o.at + length o.rest ≡ i.at + length i.rest
section_sum ct seen i o section e = read_sum (IsSection ct seen) (section_at ct seen) (exact_section ct seen) i section o e

pub form_step_shorter : (ct : Bool) (around : List Bool) (i o : Input) (op : Op Label) → form_step_at ct around i ≡ Ok (op, o) → length o.rest < length i.rest
form_step_shorter ct around i o op e = read_shorter (IsFormStep ct around) (form_step_at ct around) (exact_form_step ct around) (form_step_filled ct around) i op o e

pub form_step_sum : (ct : Bool) (around : List Bool) (i o : Input) (op : Op Label) → form_step_at ct around i ≡ Ok (op, o) → o.at + length o.rest ≡ i.at + length i.rest
form_step_sum ct around i o op e = read_sum (IsFormStep ct around) (form_step_at ct around) (exact_form_step ct around) i op o e
