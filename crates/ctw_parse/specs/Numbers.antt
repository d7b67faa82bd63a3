-- Indexes, sizes and counts have 32 bits (W3C WebAssembly Core 1.0, section 5.2.2), the sizes of sections too (section
-- 5.5.2): of a module without limits, where it is written.
use Rattle.std.specs.Prelude.{ℕ, ◌≤◌, List, ◌++◌, All, IfSome}
use Rattle.ctw_ops.specs.Tree.{Custom}
use Rattle.ctw_leb.specs.Spelling.{u32_text}
use Rattle.ctw_text.specs.Names.{WideEntry, Wide}
use Rattle.ctw_text.specs.Limits.{first}
use Rattle.ctw_write.specs.Canon.{vector_text, sized_text, import_text, table_text, memory_text, global_text, export_text, element_text, segment_text}
use Rattle.ctw_write.specs.KeepsLimits.{Is32, IsShort, AreSizes, IsLimitedExtern, IsLimitedConstant, IsLimitedElement, IsLimitedSegment, IsLimitedOp}
use Rattle.ctw_parse.specs.WideCanon.{wide_entry_text, wide_code_text}

abbrev pub IsNumberedEntry : WideEntry → Type 0
IsNumberedEntry e = IfSome e.base Is32

-- items with such numbers, whose section has such a size
pub record AreNumbered {A : Type 0} (P : A → Type 0) (text : A → List ℕ) (items : List A) : Type 0 where
  pub numbers : All P items
  pub size : IsShort (vector_text text items)

-- the custom sections of these places have such sizes
abbrev pub AreShortFrom : (from to : ℕ) → List Custom → Type 0
AreShortFrom from to customs = All (λ c. from ≤ c.place → c.place ≤ to → IsShort (sized_text c.name ++ c.bytes)) customs

pub record HasNumbers (m : Wide) : Type 0 where
  pub types : AreNumbered IsNumberedEntry wide_entry_text m.types
  pub imports : AreNumbered (λ i. IsLimitedExtern i.kind) import_text m.imports
  pub uses : AreNumbered (λ f. Is32 f.type) (λ f. u32_text f.type) m.functions
  pub tables : AreNumbered AreSizes table_text m.tables
  pub memories : AreNumbered (λ t. AreSizes t.limits) memory_text m.memories
  pub globals : AreNumbered (λ g. IsLimitedConstant g.init) global_text m.globals
  pub exports : AreNumbered (λ e. Is32 e.index) export_text m.exports
  pub start : IfSome (first m.start) Is32
  pub elements : AreNumbered IsLimitedElement element_text m.elements
  pub codes : AreNumbered (λ f. All IsLimitedOp f.code) wide_code_text m.functions
  pub segments : AreNumbered IsLimitedSegment segment_text m.segments
  pub customs : AreShortFrom 0 11 m.customs
