-- A module that is formed and keeps the limits is spelled by its canonical bytes.
use Rattle.std.proofs.Common.{◌≡◌, ℕ, zero, suc, ◌≤◌, List, [], ◌∷◌, ◌++◌, length, map, get_or, Option, Some, refl, sym, ap, subst, ◌∙◌, append_assoc, inl, inr, arith}
use Rattle.std.specs.Prelude.{IfSome}
use Rattle.std.proofs.lemmas.Bool.{cases_lt}
use Rattle.std.proofs.lemmas.List.{length-map}
use Rattle.ctw_ops.specs.declared.numeric.Profile.{Profile}
use Rattle.ctw_ops.specs.declared.types.Label.{Label}
use Rattle.ctw_ops.specs.declared.types.Limits.{Limits}
use Rattle.ctw_ops.specs.Types.{MemoryType}
use Rattle.ctw_ops.specs.Tree.{Module, Function, Custom}
use Rattle.ctw_ops.specs.Typing.{optional}
use Rattle.ctw_ops.specs.Valid.{IsFormed}
use Rattle.ctw_leb.specs.Spelling.{u32_text}
use Rattle.ctw_form.specs.declared.table.SectionKind.TheVariants as kind
use Rattle.ctw_form.specs.declared.sections.Seen.{Seen}
use Rattle.ctw_form.specs.Sections.{TypeSection, ImportSection, FunctionSection, TableSection, MemorySection, GlobalSection, ExportSection, ElementSection, CodeSection, DataSection, none_held, held_by, nothing_seen, Parts, no_parts, place_after, module_of, first}
use Rattle.ctw_form.specs.Spelled.{magic, version, file_of, Spells}
use Rattle.ctw_form.proofs.FileForms.{one_module}
use Rattle.ctw_write.specs.Canon.{type_entry_text, import_text, table_text, memory_text, global_text, export_text, element_text, code_text, segment_text, items_text, start_text, customs_text, placed_text, sections_text, canon}
use Rattle.ctw_write.specs.KeepsLimits.{Is32, item_counts, IsPlace, KeepsLimits}
use Rattle.ctw_write.proofs.FormedItems.{first_optional}
use Rattle.ctw_write.proofs.FormedCode.{entry_of, functions_again}
use Rattle.ctw_write.proofs.FormedCustoms.{at_place, upto_place, one_place_more, first_place, all_upto}
use Rattle.ctw_write.proofs.FormedContents.{types_contents, imports_contents, uses_contents, table_contents, memory_contents, globals_contents, exports_contents, start_contents, elements_contents, codes_contents, segments_contents}
use Rattle.ctw_write.proofs.FormedSections.{Reached, nothing_reached, with_customs, customs_reached, start_reached, placed_reached, all_good, stand_behind, step_reached}

-- ---- the id of the last section, behind the section of each id

abbrev last_1 : Module Label → ℕ
last_1 m = place_after 1 m.types 0

abbrev last_2 : Module Label → ℕ
last_2 m = place_after 2 m.imports (last_1 m)

abbrev last_3 : Module Label → ℕ
last_3 m = place_after 3 m.functions (last_2 m)

abbrev last_4 : Module Label → ℕ
last_4 m = place_after 4 (optional m.table) (last_3 m)

abbrev last_5 : Module Label → ℕ
last_5 m = place_after 5 (optional m.memory) (last_4 m)

abbrev last_6 : Module Label → ℕ
last_6 m = place_after 6 m.globals (last_5 m)

abbrev last_7 : Module Label → ℕ
last_7 m = place_after 7 m.exports (last_6 m)

abbrev last_8 : Module Label → ℕ
last_8 m = place_after 8 (optional m.start) (last_7 m)

abbrev last_9 : Module Label → ℕ
last_9 m = place_after 9 m.elements (last_8 m)

abbrev last_10 : Module Label → ℕ
last_10 m = place_after 10 m.functions (last_9 m)

abbrev last_11 : Module Label → ℕ
last_11 m = place_after 11 m.segments (last_10 m)

place_few : {A : Type 0} (id : ℕ) (l : List A) (place : ℕ) → place ≤ id → place_after id l place ≤ id
place_few id [] place le = le
place_few id (a ∷ l) place le = omega arith

few_1 : (m : Module Label) → last_1 m ≤ 1
few_1 m = place_few 1 m.types 0 (omega arith)

few_2 : (m : Module Label) → last_2 m ≤ 2
few_2 m = place_few 2 m.imports (last_1 m) (omega (arith, few_1 m))

few_3 : (m : Module Label) → last_3 m ≤ 3
few_3 m = place_few 3 m.functions (last_2 m) (omega (arith, few_2 m))

few_4 : (m : Module Label) → last_4 m ≤ 4
few_4 m = place_few 4 (optional m.table) (last_3 m) (omega (arith, few_3 m))

few_5 : (m : Module Label) → last_5 m ≤ 5
few_5 m = place_few 5 (optional m.memory) (last_4 m) (omega (arith, few_4 m))

few_6 : (m : Module Label) → last_6 m ≤ 6
few_6 m = place_few 6 m.globals (last_5 m) (omega (arith, few_5 m))

few_7 : (m : Module Label) → last_7 m ≤ 7
few_7 m = place_few 7 m.exports (last_6 m) (omega (arith, few_6 m))

few_8 : (m : Module Label) → last_8 m ≤ 8
few_8 m = place_few 8 (optional m.start) (last_7 m) (omega (arith, few_7 m))

few_9 : (m : Module Label) → last_9 m ≤ 9
few_9 m = place_few 9 m.elements (last_8 m) (omega (arith, few_8 m))

few_10 : (m : Module Label) → last_10 m ≤ 10
few_10 m = place_few 10 m.functions (last_9 m) (omega (arith, few_9 m))

-- ---- what has been seen, what it brings and its text, behind the section of each id

abbrev uses_of : List (Function Label) → List ℕ
uses_of functions = map (λ f. f.type) functions

abbrev seen_1 : Module Label → Seen
seen_1 m = record { last = last_1 m; owed = 0; held = none_held }

abbrev seen_2 : Module Label → Seen
seen_2 m = record { last = last_2 m; owed = 0; held = held_by none_held m.imports }

abbrev seen_to : Module Label → ℕ → Seen
seen_to m last = record { last = last; owed = length (uses_of m.functions); held = held_by none_held m.imports }

abbrev seen_from : Module Label → ℕ → Seen
seen_from m last = record { last = last; owed = 0; held = held_by none_held m.imports }

abbrev parts_0 : Module Label → Parts
parts_0 m = with_customs no_parts (at_place 0 m.customs)

abbrev parts_1 : Module Label → Parts
parts_1 m = with_customs (record (parts_0 m) { place = last_1 m; types = m.types }) (at_place 1 m.customs)

abbrev parts_2 : Module Label → Parts
parts_2 m = with_customs (record (parts_1 m) { place = last_2 m; imports = m.imports }) (at_place 2 m.customs)

abbrev parts_3 : Module Label → Parts
parts_3 m = with_customs (record (parts_2 m) { place = last_3 m; uses = uses_of m.functions }) (at_place 3 m.customs)

abbrev parts_4 : Module Label → Parts
parts_4 m = with_customs (record (parts_3 m) { place = last_4 m; table = first (optional m.table) }) (at_place 4 m.customs)

abbrev parts_5 : Module Label → Parts
parts_5 m = with_customs (record (parts_4 m) { place = last_5 m; memory = first (optional m.memory) }) (at_place 5 m.customs)

abbrev parts_6 : Module Label → Parts
parts_6 m = with_customs (record (parts_5 m) { place = last_6 m; globals = m.globals }) (at_place 6 m.customs)

abbrev parts_7 : Module Label → Parts
parts_7 m = with_customs (record (parts_6 m) { place = last_7 m; exports = m.exports }) (at_place 7 m.customs)

abbrev parts_8 : Module Label → Parts
parts_8 m = with_customs (record (parts_7 m) { place = last_8 m; start = m.start }) (at_place 8 m.customs)

abbrev parts_9 : Module Label → Parts
parts_9 m = with_customs (record (parts_8 m) { place = last_9 m; elements = m.elements }) (at_place 9 m.customs)

abbrev parts_10 : Module Label → Parts
parts_10 m = with_customs (record (parts_9 m) { place = last_10 m; entries = map entry_of m.functions }) (at_place 10 m.customs)

abbrev parts_11 : Module Label → Parts
parts_11 m = with_customs (record (parts_10 m) { place = last_11 m; segments = m.segments }) (at_place 11 m.customs)

abbrev text_0 : Module Label → List ℕ
text_0 m = customs_text 0 m.customs

abbrev text_1 : Module Label → List ℕ
text_1 m = text_0 m ++ placed_text 1 (items_text 1 type_entry_text m.types) m.customs

abbrev text_2 : Module Label → List ℕ
text_2 m = text_1 m ++ placed_text 2 (items_text 2 import_text m.imports) m.customs

abbrev text_3 : Module Label → List ℕ
text_3 m = text_2 m ++ placed_text 3 (items_text 3 (λ f. u32_text f.type) m.functions) m.customs

abbrev text_4 : Module Label → List ℕ
text_4 m = text_3 m ++ placed_text 4 (items_text 4 table_text (optional m.table)) m.customs

abbrev text_5 : Module Label → List ℕ
text_5 m = text_4 m ++ placed_text 5 (items_text 5 memory_text (optional m.memory)) m.customs

abbrev text_6 : Module Label → List ℕ
text_6 m = text_5 m ++ placed_text 6 (items_text 6 global_text m.globals) m.customs

abbrev text_7 : Module Label → List ℕ
text_7 m = text_6 m ++ placed_text 7 (items_text 7 export_text m.exports) m.customs

abbrev text_8 : Module Label → List ℕ
text_8 m = text_7 m ++ placed_text 8 (start_text m.start) m.customs

abbrev text_9 : Module Label → List ℕ
text_9 m = text_8 m ++ placed_text 9 (items_text 9 element_text m.elements) m.customs

abbrev text_10 : Module Label → List ℕ
text_10 m = text_9 m ++ placed_text 10 (items_text 10 code_text m.functions) m.customs

abbrev text_11 : Module Label → List ℕ
text_11 m = text_10 m ++ placed_text 11 (items_text 11 segment_text m.segments) m.customs

-- ---- section by section

reached_0 : (m : Module Label) → KeepsLimits m → Reached m.ct nothing_seen (parts_0 m) (text_0 m)
reached_0 m h = customs_reached m.ct nothing_seen no_parts [] (at_place 0 m.customs) (nothing_reached m.ct) (all_good m 0 h.customs)

reached_1 : (m : Module Label) → IsFormed m → KeepsLimits m → Reached m.ct (seen_1 m) (parts_1 m) (text_1 m)
reached_1 m f h =
    step_reached m nothing_seen (parts_0 m) (text_0 m) kind.Types TypeSection type_entry_text m.types
    (λ l. record { last = place_after 1 l 0; owed = 0; held = none_held }) (λ l. record (parts_0 m) { place = place_after 1 l 0; types = l })
    h.customs (omega arith) refl refl (reached_0 m h) (omega arith) (types_contents nothing_seen m f h) (λ e. refl) refl (λ a others. refl) (λ a others. refl)

reached_2 : (m : Module Label) → IsFormed m → KeepsLimits m → Reached m.ct (seen_2 m) (parts_2 m) (text_2 m)
reached_2 m f h =
    step_reached m (seen_1 m) (parts_1 m) (text_1 m) kind.Imports ImportSection import_text m.imports
    (λ l. record { last = place_after 2 l (last_1 m); owed = 0; held = held_by none_held l }) (λ l. record (parts_1 m) { place = place_after 2 l (last_1 m); imports = l })
    h.customs (omega arith) refl refl (reached_1 m f h) (omega (arith, few_1 m)) (imports_contents (seen_1 m) m f h) (λ e. refl) refl (λ a others. refl) (λ a others. refl)

reached_3 : (m : Module Label) → IsFormed m → KeepsLimits m → Reached m.ct (seen_to m (last_3 m)) (parts_3 m) (text_3 m)
reached_3 m f h =
    step_reached m (seen_2 m) (parts_2 m) (text_2 m) kind.Functions (λ l. FunctionSection (uses_of l)) (λ g. u32_text g.type) m.functions
    (λ l. record { last = place_after 3 l (last_2 m); owed = length (uses_of l); held = held_by none_held m.imports }) (λ l. record (parts_2 m) { place = place_after 3 l (last_2 m); uses = uses_of l })
    h.customs (omega arith) refl refl (reached_2 m f h) (omega (arith, few_2 m)) (uses_contents (seen_2 m) m h) (λ e. refl) refl (λ a others. refl) (λ a others. refl)

reached_4 : (m : Module Label) → IsFormed m → KeepsLimits m → Reached m.ct (seen_to m (last_4 m)) (parts_4 m) (text_4 m)
reached_4 m f h =
    step_reached m (seen_to m (last_3 m)) (parts_3 m) (text_3 m) kind.Tables TableSection table_text (optional m.table)
    (λ l. seen_to m (place_after 4 l (last_3 m))) (λ l. record (parts_3 m) { place = place_after 4 l (last_3 m); table = first l })
    h.customs (omega arith) refl refl (reached_3 m f h) (omega (arith, few_3 m)) (table_contents (seen_to m (last_3 m)) m f h refl) (λ e. refl) refl (λ a others. refl) (λ a others. refl)

reached_5 : (m : Module Label) → IsFormed m → KeepsLimits m → Reached m.ct (seen_to m (last_5 m)) (parts_5 m) (text_5 m)
reached_5 m f h =
    step_reached m (seen_to m (last_4 m)) (parts_4 m) (text_4 m) kind.Memories MemorySection memory_text (optional m.memory)
    (λ l. seen_to m (place_after 5 l (last_4 m))) (λ l. record (parts_4 m) { place = place_after 5 l (last_4 m); memory = first l })
    h.customs (omega arith) refl refl (reached_4 m f h) (omega (arith, few_4 m)) (memory_contents (seen_to m (last_4 m)) m f h refl) (λ e. refl) refl (λ a others. refl) (λ a others. refl)

reached_6 : (m : Module Label) → IsFormed m → KeepsLimits m → Reached m.ct (seen_to m (last_6 m)) (parts_6 m) (text_6 m)
reached_6 m f h =
    step_reached m (seen_to m (last_5 m)) (parts_5 m) (text_5 m) kind.Globals GlobalSection global_text m.globals
    (λ l. seen_to m (place_after 6 l (last_5 m))) (λ l. record (parts_5 m) { place = place_after 6 l (last_5 m); globals = l })
    h.customs (omega arith) refl refl (reached_5 m f h) (omega (arith, few_5 m)) (globals_contents (seen_to m (last_5 m)) m f h) (λ e. refl) refl (λ a others. refl) (λ a others. refl)

reached_7 : (m : Module Label) → IsFormed m → KeepsLimits m → Reached m.ct (seen_to m (last_7 m)) (parts_7 m) (text_7 m)
reached_7 m f h =
    step_reached m (seen_to m (last_6 m)) (parts_6 m) (text_6 m) kind.Exports ExportSection export_text m.exports
    (λ l. seen_to m (place_after 7 l (last_6 m))) (λ l. record (parts_6 m) { place = place_after 7 l (last_6 m); exports = l })
    h.customs (omega arith) refl refl (reached_6 m f h) (omega (arith, few_6 m)) (exports_contents (seen_to m (last_6 m)) m h) (λ e. refl) refl (λ a others. refl) (λ a others. refl)

start_limited : (o : Option ℕ) (function : ℕ) → IfSome o Is32 → o ≡ Some function → Is32 function
start_limited o function h e = subst (λ (x : Option ℕ). IfSome x Is32) e h

reached_8 : (m : Module Label) → IsFormed m → KeepsLimits m → Reached m.ct (seen_to m (last_8 m)) (parts_8 m) (text_8 m)
reached_8 m f h =
    let made = start_reached m.ct (seen_to m (last_7 m)) (parts_7 m) (text_7 m) m.start
    (λ o. seen_to m (place_after 8 (optional o) (last_7 m))) (λ o. record (parts_7 m) { place = place_after 8 (optional o) (last_7 m); start = o })
    (reached_7 m f h) (omega (arith, few_7 m)) (λ function e. start_contents m.ct (seen_to m (last_7 m)) function (start_limited m.start function h.start e)) refl refl (λ function. refl) (λ function. refl) in
    placed_reached m.ct (seen_to m (last_8 m)) (record (parts_7 m) { place = last_8 m; start = m.start }) (text_7 m) (start_text m.start) 8 m.customs made (stand_behind m 8 (optional m.start) (last_7 m) (omega arith) refl h.customs) (all_good m 8 h.customs)

reached_9 : (m : Module Label) → IsFormed m → KeepsLimits m → Reached m.ct (seen_to m (last_9 m)) (parts_9 m) (text_9 m)
reached_9 m f h =
    step_reached m (seen_to m (last_8 m)) (parts_8 m) (text_8 m) kind.Elements ElementSection element_text m.elements
    (λ l. seen_to m (place_after 9 l (last_8 m))) (λ l. record (parts_8 m) { place = place_after 9 l (last_8 m); elements = l })
    h.customs (omega arith) refl refl (reached_8 m f h) (omega (arith, few_8 m)) (elements_contents (seen_to m (last_8 m)) m f h) (λ e. refl) refl (λ a others. refl) (λ a others. refl)

reached_10 : (m : Module Label) → IsFormed m → KeepsLimits m → Reached m.ct (seen_from m (last_10 m)) (parts_10 m) (text_10 m)
reached_10 m f h =
    step_reached m (seen_to m (last_9 m)) (parts_9 m) (text_9 m) kind.Codes (λ l. CodeSection (map entry_of l)) code_text m.functions
    (λ l. seen_from m (place_after 10 l (last_9 m))) (λ l. record (parts_9 m) { place = place_after 10 l (last_9 m); entries = map entry_of l })
    h.customs (omega arith) refl refl (reached_9 m f h) (omega (arith, few_9 m)) (codes_contents (seen_to m (last_9 m)) m f h (length-map m.functions (λ g. g.type)))
    (λ e. ap (λ (l : List (Function Label)). record { last = last_9 m; owed = length (uses_of l); held = held_by none_held m.imports }) e) refl (λ a others. refl) (λ a others. refl)

reached_11 : (m : Module Label) → IsFormed m → KeepsLimits m → Reached m.ct (seen_from m (last_11 m)) (parts_11 m) (text_11 m)
reached_11 m f h =
    step_reached m (seen_from m (last_10 m)) (parts_10 m) (text_10 m) kind.Segments DataSection segment_text m.segments
    (λ l. seen_from m (place_after 11 l (last_10 m))) (λ l. record (parts_10 m) { place = place_after 11 l (last_10 m); segments = l })
    h.customs (omega arith) refl refl (reached_10 m f h) (omega (arith, few_10 m)) (segments_contents (seen_from m (last_10 m)) m f h) (λ e. refl) refl (λ a others. refl) (λ a others. refl)

-- ---- the module that the sections make

-- the custom sections of the places up to one, place by place
abbrev so_far : ℕ → List Custom → List Custom
so_far zero customs = at_place 0 customs
so_far (suc k) customs = so_far k customs ++ at_place (suc k) customs

places_are : (k : ℕ) (m : Module Label) → KeepsLimits m → so_far k m.customs ≡ upto_place k m.customs
places_are zero m h = first_place m.customs
places_are (suc k) m h = ap (λ (l : List Custom). l ++ at_place (suc k) m.customs) (places_are k m h) ∙ one_place_more k m.customs h.rising

none_behind : (counts : List ℕ) (i : ℕ) → length counts ≤ i → get_or counts i 0 ≡ 0
none_behind [] i le = refl
none_behind (n ∷ counts) zero le = absurd (omega arith)
none_behind (n ∷ counts) (suc i) le = none_behind counts i (omega arith)

few_places : (m : Module Label) (place : ℕ) → IsPlace m place → place ≤ 11
few_places m place h =
    elim h [
      | inl e ↦ omega arith
      | inr some ↦ elim (cases_lt 11 place) [
        | inl lt ↦ absurd (omega (arith, some, none_behind (item_counts m) place lt))
        | inr le ↦ le
      ]
    ]

customs_are : (m : Module Label) → KeepsLimits m → so_far 11 m.customs ≡ m.customs
customs_are m h = places_are 11 m h ∙ all_upto 11 m.customs (λ i d within. few_places m _ (h.customs i d within).place)

made_is : (m : Module Label) → KeepsLimits m → module_of m.ct (parts_11 m) ≡ m
made_is m h =
    ap (λ (p : Profile). record (module_of m.ct (parts_11 m)) { profile = p }) (sym h.profile)
    ∙ ap (λ (l : List (Function Label)). record (module_of m.ct (parts_11 m)) { profile = m.profile; functions = l }) (functions_again m.functions)
    ∙ ap (λ (o : Option Limits). record (module_of m.ct (parts_11 m)) { profile = m.profile; functions = m.functions; table = o }) (first_optional m.table)
    ∙ ap (λ (o : Option (MemoryType Label)). record (module_of m.ct (parts_11 m)) { profile = m.profile; functions = m.functions; table = m.table; memory = o }) (first_optional m.memory)
    ∙ ap (λ (l : List Custom). record m { customs = l }) (customs_are m h)

-- ---- the law

pub formed_spelled : (m : Module Label) → IsFormed m → KeepsLimits m → Spells (canon m) m
unfolding canon sections_text
formed_spelled m f h =
    let r = reached_11 m f h in
    record {
      file = file_of m.ct r.added;
      spelled = (tt, magic, version m.ct ++ text_11 m, refl, (m.ct, version m.ct, text_11 m, refl, (r.added, r.items, refl), refl), append_assoc magic (version m.ct) (text_11 m));
      finished = ap (λ (s : Seen). s.owed) r.state;
      small = h.plain_bytes;
      made = ap (module_of m.ct) r.made ∙ made_is m h;
    }

pub only_formed : (m n : Module Label) → IsFormed m → KeepsLimits m → Spells (canon m) n → n ≡ m
only_formed m n f h s = one_module (canon m) n m s (formed_spelled m f h)
