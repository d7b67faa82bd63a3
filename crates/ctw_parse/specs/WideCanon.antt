-- The canonical bytes of a module without limits: types with all their results, and all tables and memories
-- (W3C WebAssembly Core 1.0, sections 5.3 to 5.5). Where nothing is too much they are those of the module
-- (`narrow_text` of `proofs/NarrowTexts.antt`).
use Rattle.std.specs.Prelude.{ℕ, List, ◌∷◌, ◌++◌, Option, Some, None}
use Rattle.ctw_leb.specs.Spelling.{u32_text}
use Rattle.ctw_form.specs.Spelled.{magic, version}
use Rattle.ctw_text.specs.Names.{Spelled, WideEntry, WideFunction, Wide}
use Rattle.ctw_text.specs.Limits.{first}
use Rattle.ctw_write.specs.Canon.{all_texts, vector_text, sized_text, type_text, trust_byte, entry_byte, table_text, memory_text, import_text, export_text, op_text, global_text, element_text, segment_text, groups_of, group_text, items_text, start_text, customs_text, placed_text}

abbrev pub wide_signature_text : Spelled → List ℕ
wide_signature_text t = vector_text type_text t.params ++ vector_text type_text t.results

abbrev pub wide_entry_text : WideEntry → List ℕ
wide_entry_text e = of e.base
  where
    of : Option ℕ → List ℕ
    of None = entry_byte e.type.trust ∷ wide_signature_text e.type
    of (Some base) = 0x62 ∷ (u32_text base ++ trust_byte e.type.trust ∷ wide_signature_text e.type)

abbrev pub wide_code_text : WideFunction → List ℕ
wide_code_text f = sized_text (vector_text group_text (groups_of f.locals) ++ all_texts op_text f.code)

unfoldable pub wide_sections_text : Wide → List ℕ
wide_sections_text m = customs_text 0 m.customs
    ++ placed_text 1 (items_text 1 wide_entry_text m.types) m.customs
    ++ placed_text 2 (items_text 2 import_text m.imports) m.customs
    ++ placed_text 3 (items_text 3 (λ f. u32_text f.type) m.functions) m.customs
    ++ placed_text 4 (items_text 4 table_text m.tables) m.customs
    ++ placed_text 5 (items_text 5 memory_text m.memories) m.customs
    ++ placed_text 6 (items_text 6 global_text m.globals) m.customs
    ++ placed_text 7 (items_text 7 export_text m.exports) m.customs
    ++ placed_text 8 (start_text (first m.start)) m.customs
    ++ placed_text 9 (items_text 9 element_text m.elements) m.customs
    ++ placed_text 10 (items_text 10 wide_code_text m.functions) m.customs
    ++ placed_text 11 (items_text 11 segment_text m.segments) m.customs

unfoldable pub wide_canon : Wide → List ℕ
wide_canon m = magic ++ version m.ct ++ wide_sections_text m
