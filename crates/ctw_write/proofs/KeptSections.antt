-- What bytes spell keeps the limits.
use Rattle.std.proofs.Common.{ℕ, ◌≤◌, Bool, List, [], ◌∷◌, ◌++◌, length, sym, ap, subst, arith}
use Rattle.std.specs.Prelude.{IfSome}
use Rattle.std.specs.List.{All}
use Rattle.std.proofs.lemmas.List.{length-append}
use Rattle.std.proofs.lemmas.List.Elements.{All-nil, All-cons, All-append}
use Rattle.ctw_ops.specs.declared.types.Label.{Label}
use Rattle.ctw_ops.specs.Types.{MemoryType}
use Rattle.ctw_ops.specs.Limits.{most_locals_of_all}
use Rattle.ctw_ops.specs.Tree.{Global, Custom}
use Rattle.ctw_ops.specs.Typing.{optional}
use Rattle.ctw_leb.specs.Grammar.{Grammar, state_after}
use Rattle.ctw_leb.specs.Numbers.{IsU32}
use Rattle.ctw_leb.specs.Vectors.{Vector}
use Rattle.ctw_leb.specs.Spelling.{u32_text, shortest}
use Rattle.ctw_form.specs.declared.table.SectionKind.{SectionKind}
use Rattle.ctw_form.specs.declared.table.SectionKind.TheVariants as kind
use Rattle.ctw_form.specs.declared.sections.Seen.{Seen}
use Rattle.ctw_form.specs.Sections.{Section, Parts, none_held, held_after, nothing_seen, no_parts, with_section, first}
use Rattle.ctw_form.specs.Spelled.{VectorUpto, IsTypeEntry, IsImport, IsTable, IsMemory, IsGlobal, IsExport, IsElement, IsSegment, IsEntry, IsImports, all_after, room, Insides, IsSection, File, IsFile}
use Rattle.ctw_form.proofs.SpelledParts.{all_times, all_vector, all_vector_upto, parts_kept}
use Rattle.ctw_write.specs.Canon.{vector_text, sized_text, type_entry_text, import_text, table_text, memory_text, global_text, export_text, element_text, segment_text}
use Rattle.ctw_write.specs.KeepsLimits.{Is32, IsText, IsShort, AreSizes, IsLimitedEntry, IsLimitedImport, IsLimitedConstant, IsLimitedExport, IsLimitedElement, IsLimitedSegment}
use Rattle.ctw_write.proofs.Settling.{Settles, settles_number, settles_vector, settles_upto, settles_name, u32_fits}
use Rattle.ctw_write.proofs.ItemTexts.{optional_first, upto_count, settles_type_entry, settles_table, settles_memory, settles_export, settles_global, settles_element, settles_segment}
use Rattle.ctw_write.proofs.GroupTexts.{entry_text, codes_settled}
use Rattle.ctw_write.proofs.SectionTexts.{settles_imports, few_defined}
use Rattle.ctw_write.proofs.KeptItems.{entry_limited, table_limited, memory_limited, import_limited, export_limited, global_limited, element_limited, segment_limited, IsLimitedCode, locals_in, code_limited, codes_room}

-- ---- what sections bring

-- items that keep the limits, in a section whose size has 32 bits
pub record Kept {A : Type 0} (P : A → Type 0) (w : A → List ℕ) (l : List A) : Type 0 where
  pub each : All P l
  pub short : IsShort (vector_text w l)

abbrev pub IsNamed : Custom → Type 0
IsNamed c = IsText c.name × IsShort (sized_text c.name ++ c.bytes)

pub record LimitedParts (p : Parts) : Type 0 where
  pub types : Kept IsLimitedEntry type_entry_text p.types
  pub imports : Kept IsLimitedImport import_text p.imports
  pub uses : Kept Is32 u32_text p.uses
  pub table : Kept AreSizes table_text (optional p.table)
  pub memory : Kept (λ (t : MemoryType Label). AreSizes t.limits) memory_text (optional p.memory)
  pub globals : Kept (λ (g : Global Label). IsLimitedConstant g.init) global_text p.globals
  pub exports : Kept IsLimitedExport export_text p.exports
  pub start : IfSome p.start Is32
  pub elements : Kept IsLimitedElement element_text p.elements
  pub entries : Kept IsLimitedCode entry_text p.entries
  pub locals : locals_in p.entries ≤ most_locals_of_all
  pub segments : Kept IsLimitedSegment segment_text p.segments
  pub customs : All IsNamed p.customs

-- what is written for what is spelled isn't longer
short_text : {A : Type 0} (G : Grammar A) (w : A → List ℕ) → Settles [] G w → (text : List ℕ) (a : A) → IsShort text → G text a → IsShort (w a)
short_text G w g text a lt m =
    let s = g.settled text a m in
    omega (arith, s.2, ap length s.3)

kept_vector : {A : Type 0} (G : Grammar A) (P : A → Type 0) (w : A → List ℕ) → ((text : List ℕ) (a : A) → G text a → P a) → Settles [] G w → (text : List ℕ) (l : List A) → IsShort text → Vector G text l → Kept P w l
kept_vector G P w each g text l lt m = record { each = all_vector G P each text l m; short = short_text (Vector G) (vector_text w) (settles_vector G w g) text l lt m }

-- what stands at most once
kept_once : {A : Type 0} (held : Bool) (G : Grammar A) (P : A → Type 0) (w : A → List ℕ) → ((text : List ℕ) (a : A) → G text a → P a) → Settles [] G w → (text : List ℕ) (l : List A) → IsShort text → VectorUpto (room held) G text l → Kept P w (optional (first l))
kept_once {A} held G P w each g text l lt m =
    let few : length l ≤ 1 = omega (arith, few_defined held, upto_count (room held) G text l m) in
    subst (λ (k : List A). Kept P w k) (sym (optional_first l few))
    (record { each = all_vector_upto (room held) G P each text l m; short = short_text (VectorUpto (room held) G) (vector_text w) (settles_upto (room held) G w g) text l lt m })

abbrev LimitedBehind : Parts → Section → Type 0
LimitedBehind p section = LimitedParts (with_section p section)

insides_limited : (ct : Bool) (seen : Seen) (p : Parts) (k : SectionKind) (text : List ℕ) (section : Section) → IsShort text → Insides ct seen k text section → LimitedParts p → LimitedBehind p section
insides_limited ct seen p kind.Custom text section lt m h =
    let c : Custom = record { place = p.place; name = m.0; bytes = m.4.0 } in
    let name = settles_name.settled m.1 m.0 m.3 in
    let size : IsShort (sized_text m.0 ++ m.4.0) = omega (arith, length-append (sized_text m.0) m.4.0, name.2, ap length name.3, ap length m.5, length-append m.1 m.2, ap length m.4.1) in
    let customs : All IsNamed (p.customs ++ c ∷ []) = All-append IsNamed p.customs (c ∷ []) h.customs (All-cons IsNamed c [] (m.3.1, size) (All-nil IsNamed)) in
    subst (LimitedBehind p) m.4.2 (record { types = h.types; imports = h.imports; uses = h.uses; table = h.table; memory = h.memory; globals = h.globals; exports = h.exports; start = h.start; elements = h.elements; entries = h.entries; locals = h.locals; segments = h.segments; customs = customs })
insides_limited ct seen p kind.Types text section lt m h =
    subst (LimitedBehind p) m.2 (record { types = kept_vector (IsTypeEntry ct) IsLimitedEntry type_entry_text (entry_limited ct) (settles_type_entry ct) text m.0 lt m.1; imports = h.imports; uses = h.uses; table = h.table; memory = h.memory; globals = h.globals; exports = h.exports; start = h.start; elements = h.elements; entries = h.entries; locals = h.locals; segments = h.segments; customs = h.customs })
insides_limited ct seen p kind.Imports text section lt m h =
    let imports : Kept IsLimitedImport import_text m.0 = record {
      each = all_times (IsImport ct) held_after IsLimitedImport (import_limited ct) m.1.0 none_held m.1.2 m.0 m.1.4;
      short = short_text (IsImports ct) (vector_text import_text) (settles_imports ct) text m.0 lt m.1;
    } in
    subst (LimitedBehind p) m.2 (record { types = h.types; imports = imports; uses = h.uses; table = h.table; memory = h.memory; globals = h.globals; exports = h.exports; start = h.start; elements = h.elements; entries = h.entries; locals = h.locals; segments = h.segments; customs = h.customs })
insides_limited ct seen p kind.Functions text section lt m h =
    subst (LimitedBehind p) m.2 (record { types = h.types; imports = h.imports; uses = kept_vector IsU32 Is32 u32_text u32_fits settles_number text m.0 lt m.1; table = h.table; memory = h.memory; globals = h.globals; exports = h.exports; start = h.start; elements = h.elements; entries = h.entries; locals = h.locals; segments = h.segments; customs = h.customs })
insides_limited ct seen p kind.Tables text section lt m h =
    subst (LimitedBehind p) m.2 (record { types = h.types; imports = h.imports; uses = h.uses; table = kept_once seen.held.table IsTable AreSizes table_text table_limited settles_table text m.0 lt m.1; memory = h.memory; globals = h.globals; exports = h.exports; start = h.start; elements = h.elements; entries = h.entries; locals = h.locals; segments = h.segments; customs = h.customs })
insides_limited ct seen p kind.Memories text section lt m h =
    subst (LimitedBehind p) m.2 (record { types = h.types; imports = h.imports; uses = h.uses; table = h.table; memory = kept_once seen.held.memory (IsMemory ct) (λ t. AreSizes t.limits) memory_text (memory_limited ct) (settles_memory ct) text m.0 lt m.1; globals = h.globals; exports = h.exports; start = h.start; elements = h.elements; entries = h.entries; locals = h.locals; segments = h.segments; customs = h.customs })
insides_limited ct seen p kind.Globals text section lt m h =
    subst (LimitedBehind p) m.2 (record { types = h.types; imports = h.imports; uses = h.uses; table = h.table; memory = h.memory; globals = kept_vector (IsGlobal ct) (λ g. IsLimitedConstant g.init) global_text (global_limited ct) (settles_global ct) text m.0 lt m.1; exports = h.exports; start = h.start; elements = h.elements; entries = h.entries; locals = h.locals; segments = h.segments; customs = h.customs })
insides_limited ct seen p kind.Exports text section lt m h =
    subst (LimitedBehind p) m.2 (record { types = h.types; imports = h.imports; uses = h.uses; table = h.table; memory = h.memory; globals = h.globals; exports = kept_vector IsExport IsLimitedExport export_text export_limited settles_export text m.0 lt m.1; start = h.start; elements = h.elements; entries = h.entries; locals = h.locals; segments = h.segments; customs = h.customs })
insides_limited ct seen p kind.Start text section lt m h =
    subst (LimitedBehind p) m.2 (record { types = h.types; imports = h.imports; uses = h.uses; table = h.table; memory = h.memory; globals = h.globals; exports = h.exports; start = u32_fits text m.0 m.1; elements = h.elements; entries = h.entries; locals = h.locals; segments = h.segments; customs = h.customs })
insides_limited ct seen p kind.Elements text section lt m h =
    subst (LimitedBehind p) m.2 (record { types = h.types; imports = h.imports; uses = h.uses; table = h.table; memory = h.memory; globals = h.globals; exports = h.exports; start = h.start; elements = kept_vector (IsElement ct) IsLimitedElement element_text (element_limited ct) (settles_element ct) text m.0 lt m.1; entries = h.entries; locals = h.locals; segments = h.segments; customs = h.customs })
insides_limited ct seen p kind.Codes text section lt m h =
    let entries : Kept IsLimitedCode entry_text m.0 = record {
      each = all_times (IsEntry ct) all_after IsLimitedCode (code_limited ct) m.1.0 0 m.1.2 m.0 m.1.4;
      short = omega (arith, (codes_settled ct seen.owed text m.0 m.1).1);
    } in
    let locals : locals_in m.0 ≤ most_locals_of_all = omega (arith, codes_room ct m.1.0 0 m.1.2 m.0 m.1.4 (omega arith)) in
    subst (LimitedBehind p) m.2 (record { types = h.types; imports = h.imports; uses = h.uses; table = h.table; memory = h.memory; globals = h.globals; exports = h.exports; start = h.start; elements = h.elements; entries = entries; locals = locals; segments = h.segments; customs = h.customs })
insides_limited ct seen p kind.Segments text section lt m h =
    subst (LimitedBehind p) m.2 (record { types = h.types; imports = h.imports; uses = h.uses; table = h.table; memory = h.memory; globals = h.globals; exports = h.exports; start = h.start; elements = h.elements; entries = h.entries; locals = h.locals; segments = kept_vector (IsSegment ct) IsLimitedSegment segment_text (segment_limited ct) (settles_segment ct) text m.0 lt m.1; customs = h.customs })

section_limited : (ct : Bool) (seen : Seen) (p : Parts) (text : List ℕ) (section : Section) → IsSection ct seen text section → LimitedParts p → LimitedBehind p section
section_limited ct seen p text section m h =
    let sized = m.4 in
    let short : IsShort sized.2 = omega (arith, sized.4.0, u32_fits sized.1 sized.0 sized.3) in
    insides_limited ct seen p m.0 sized.2 section short sized.4.1 h

nothing_kept : {A : Type 0} (P : A → Type 0) (w : A → List ℕ) → Kept P w []
unfolding u32_text shortest
nothing_kept P w = record { each = All-nil P; short = omega arith }

no_parts_limited : LimitedParts no_parts
no_parts_limited = record {
  types = nothing_kept IsLimitedEntry type_entry_text;
  imports = nothing_kept IsLimitedImport import_text;
  uses = nothing_kept Is32 u32_text;
  table = nothing_kept AreSizes table_text;
  memory = nothing_kept (λ t. AreSizes t.limits) memory_text;
  globals = nothing_kept (λ g. IsLimitedConstant g.init) global_text;
  exports = nothing_kept IsLimitedExport export_text;
  start = tt;
  elements = nothing_kept IsLimitedElement element_text;
  entries = nothing_kept IsLimitedCode entry_text;
  locals = omega arith;
  segments = nothing_kept IsLimitedSegment segment_text;
  customs = All-nil IsNamed;
}

pub file_limited : (bytes : List ℕ) (file : File) → IsFile bytes file → LimitedParts (state_after with_section no_parts file.sections)
file_limited bytes file m =
    let inner = m.4.4 in
    let all = parts_kept m.4.0 (λ seen p. LimitedParts p) (section_limited m.4.0) nothing_seen no_parts m.4.2 inner.0 inner.1 no_parts_limited in
    subst (λ (f : File). LimitedParts (state_after with_section no_parts f.sections)) inner.2 all
