-- The canonical texts of the sections of a file are spellings of the same sections but empty ones, and no longer.
use Rattle.std.proofs.Common.{◌≡◌, ℕ, zero, suc, ◌+◌, ◌<◌, ◌≤◌, Bool, true, false, cond, List, [], ◌∷◌, ◌++◌, length, get_or, set, map, replicate, Option, Some, None, Result, Ok, Err, refl, sym, ap, subst, ◌∙◌, append_assoc, append-nil, arith, lt-ltb, ltb-true, eqb-true, inl, inr}
use Rattle.std.specs.Prelude.{◌==◌, nat_lt}
use Rattle.std.specs.List.{All}
use Rattle.std.proofs.lemmas.List.{length-append}
use Rattle.std.proofs.lemmas.List.Elements.{All-nil, All-cons, All-append}
use Rattle.ctw_ops.specs.Tree.{Custom}
use Rattle.ctw_ops.specs.Typing.{optional}
use Rattle.ctw_leb.specs.Grammar.{Grammar, Items, Mapped, TimesFrom, state_after}
use Rattle.ctw_leb.specs.Numbers.{IsU32}
use Rattle.ctw_leb.specs.Vectors.{Vector, Sized, IsName}
use Rattle.ctw_leb.specs.Spelling.{u32_text}
use Rattle.ctw_leb.proofs.Exact.{ok_is, err_ok, chosen}
use Rattle.ctw_form.specs.declared.fault.FormKind.{FormKind}
use Rattle.ctw_form.specs.declared.fault.FormKind.TheVariants.{BadSection}
use Rattle.ctw_form.specs.declared.table.SectionKind.{SectionKind}
use Rattle.ctw_form.specs.declared.table.SectionKind.TheVariants as kind
use Rattle.ctw_form.specs.declared.sections.Seen.{Seen}
use Rattle.ctw_form.specs.Tables.{rising, section_kind}
use Rattle.ctw_form.specs.Sections.{Entry, Section, CustomSection, TypeSection, ImportSection, FunctionSection, TableSection, MemorySection, GlobalSection, ExportSection, StartSection, ElementSection, CodeSection, DataSection, none_held, held_after, nothing_seen, seen_after, Parts, no_parts, with_section, place_after}
use Rattle.ctw_form.specs.Spelled.{VectorUpto, IsTypeEntry, IsTable, IsMemory, IsImport, IsExport, IsGlobal, IsElement, IsSegment, IsEntry, all_after, IsImports, room, Insides, IsSection}
use Rattle.ctw_form.proofs.SpelledParts.{times_count}
use Rattle.ctw_write.specs.Canon.{all_texts, vector_text, sized_text, type_entry_text, import_text, table_text, memory_text, global_text, export_text, element_text, segment_text, section_text, items_text, start_text}
use Rattle.ctw_write.proofs.Settling.{Settles, settles_then, settles_as, settles_times, settles_number, settles_vector, settles_upto, settles_name, sized_short}
use Rattle.ctw_write.proofs.ItemTexts.{optional_first, upto_count, settles_type_entry, settles_table, settles_memory, settles_import, settles_export, settles_global, settles_element, settles_segment}
use Rattle.ctw_write.proofs.GroupTexts.{settled_entry, entry_text, codes_settled}
use Rattle.ctw_write.proofs.Pieces.{pieces, laid, Before, EmptyFrom, wider, section_laid, custom_laid, nil_cons, no_items, set_empty, set_nothing}

-- ---- ids

abbrev pub id_of : SectionKind → ℕ
id_of kind.Custom = 0
id_of kind.Types = 1
id_of kind.Imports = 2
id_of kind.Functions = 3
id_of kind.Tables = 4
id_of kind.Memories = 5
id_of kind.Globals = 6
id_of kind.Exports = 7
id_of kind.Start = 8
id_of kind.Elements = 9
id_of kind.Codes = 10
id_of kind.Segments = 11

pub few_ids : (k : SectionKind) → id_of k < 12
few_ids kind.Custom = omega arith
few_ids kind.Types = omega arith
few_ids kind.Imports = omega arith
few_ids kind.Functions = omega arith
few_ids kind.Tables = omega arith
few_ids kind.Memories = omega arith
few_ids kind.Globals = omega arith
few_ids kind.Exports = omega arith
few_ids kind.Start = omega arith
few_ids kind.Elements = omega arith
few_ids kind.Codes = omega arith
few_ids kind.Segments = omega arith

-- the kind of a byte has that byte for its id, which rises but for custom sections
pub record Risen (last id : ℕ) (r : Result SectionKind FormKind) : Type 0 where
  pub is : (k : SectionKind) → r ≡ Ok k → (id_of k ≡ id) × (0 < id → last < id)

risen_row : (last id number : ℕ) (x y : Result SectionKind FormKind) → Risen last number x → Risen last id y → Risen last id (cond (id == number) x y)
risen_row last id number x y p q = go (id == number) refl
  where
    go : (test : Bool) → (id == number) ≡ test → Risen last id (cond test x y)
    go true e = subst (λ (n : ℕ). Risen last n x) (sym (eqb-true id number e)) p
    go false e = q

risen_bad : (last id : ℕ) (kind : FormKind) → Risen last id (Err kind)
risen_bad last id kind = record { is = λ k e. absurd (err_ok kind k e) }

risen_custom : (last : ℕ) → Risen last 0 (Ok kind.Custom)
risen_custom last = record { is = λ k e. (ap id_of (sym (ok_is {F = FormKind} kind.Custom k e)), λ lt. absurd (omega (arith, lt))) }

risen_kind : (last number : ℕ) (k : SectionKind) → id_of k ≡ number → Risen last number (rising last number k)
risen_kind last number k h = record {
  is = λ j e. elim (chosen (nat_lt last number) (Ok k) (Err BadSection) (Ok j) e) [
    | inl p ↦ (ap id_of (sym (ok_is {F = FormKind} k j p.1)) ∙ h, λ some. ltb-true last number p.0)
    | inr p ↦ absurd (err_ok BadSection j p.1)
  ];
}

pub section_risen : (last id : ℕ) → Risen last id (section_kind last id)
unfolding section_kind
section_risen last id =
    risen_row last id 0 _ _ (risen_custom last)
    (risen_row last id 1 _ _ (risen_kind last 1 kind.Types refl)
    (risen_row last id 2 _ _ (risen_kind last 2 kind.Imports refl)
    (risen_row last id 3 _ _ (risen_kind last 3 kind.Functions refl)
    (risen_row last id 4 _ _ (risen_kind last 4 kind.Tables refl)
    (risen_row last id 5 _ _ (risen_kind last 5 kind.Memories refl)
    (risen_row last id 6 _ _ (risen_kind last 6 kind.Globals refl)
    (risen_row last id 7 _ _ (risen_kind last 7 kind.Exports refl)
    (risen_row last id 8 _ _ (risen_kind last 8 kind.Start refl)
    (risen_row last id 9 _ _ (risen_kind last 9 kind.Elements refl)
    (risen_row last id 10 _ _ (risen_kind last 10 kind.Codes refl)
    (risen_row last id 11 _ _ (risen_kind last 11 kind.Segments refl) (risen_bad last id BadSection))))))))))))

kind_there : (last : ℕ) (k : SectionKind) → (0 < id_of k → last < id_of k) → section_kind last (id_of k) ≡ Ok k
unfolding section_kind
kind_there last kind.Custom h = refl
kind_there last kind.Types h = rw (lt-ltb last 1 (h (omega arith))) refl
kind_there last kind.Imports h = rw (lt-ltb last 2 (h (omega arith))) refl
kind_there last kind.Functions h = rw (lt-ltb last 3 (h (omega arith))) refl
kind_there last kind.Tables h = rw (lt-ltb last 4 (h (omega arith))) refl
kind_there last kind.Memories h = rw (lt-ltb last 5 (h (omega arith))) refl
kind_there last kind.Globals h = rw (lt-ltb last 6 (h (omega arith))) refl
kind_there last kind.Exports h = rw (lt-ltb last 7 (h (omega arith))) refl
kind_there last kind.Start h = rw (lt-ltb last 8 (h (omega arith))) refl
kind_there last kind.Elements h = rw (lt-ltb last 9 (h (omega arith))) refl
kind_there last kind.Codes h = rw (lt-ltb last 10 (h (omega arith))) refl
kind_there last kind.Segments h = rw (lt-ltb last 11 (h (omega arith))) refl

-- ---- sections behind others

-- the same behind sections of which the last had this id
abbrev pub behind : ℕ → Seen → Seen
behind last seen = record seen { last = last }

-- parts with their code entries in canonical spelling
abbrev pub settled_parts : Parts → Parts
settled_parts p = record p { entries = map settled_entry p.entries }

abbrev pub text_of : Parts → List ℕ
text_of p = laid 0 (pieces p) p.customs

-- what holds behind any sections, of which the last that is written had the id `last`
pub record Kept (seen : Seen) (p : Parts) (last : ℕ) : Type 0 where
  pub earlier : last ≤ seen.last
  pub few : seen.last ≤ 11
  pub unowed : seen.last < 3 → seen.owed ≡ 0
  pub unheld : seen.last < 2 → seen.held ≡ none_held
  pub placed : p.place ≤ seen.last
  pub empty : EmptyFrom (suc p.place) (pieces p)
  pub customs : All (Before (suc p.place)) p.customs

-- what is written for a section, or nothing
pub record Written (ct : Bool) (seen : Seen) (p : Parts) (last : ℕ) (text : List ℕ) (sections : List Section) : Type 0 where
  pub later : ℕ
  pub added : List Section
  pub short : List ℕ
  pub items : Items (IsSection ct) seen_after (behind last seen) short added
  pub state : state_after seen_after (behind last seen) added ≡ behind later (state_after seen_after seen sections)
  pub made : state_after with_section (settled_parts p) added ≡ settled_parts (state_after with_section p sections)
  pub whole : text_of (state_after with_section p sections) ≡ text_of p ++ short
  pub size : length short ≤ length text
  pub next : Kept (state_after seen_after seen sections) (state_after with_section p sections) later

-- one section with the canonical contents
pub one_item : (ct : Bool) (seen : Seen) (k : SectionKind) (c : List ℕ) (made : Section) → (0 < id_of k → seen.last < id_of k) → Sized (Insides ct seen k) (sized_text c) made
    → Items (IsSection ct) seen_after seen (section_text (id_of k) c) (made ∷ [])
one_item ct seen k c made rise m =
    let text = section_text (id_of k) c in
    (text, [], (k, id_of k ∷ [], sized_text c, (id_of k, refl, kind_there seen.last k rise), m, refl), refl, sym (append-nil text))

-- the state is the same for owed functions and held imports
pub record Quiet (seen : Seen) : Type 0 where
  pub unowed : seen.last < 3 → seen.owed ≡ 0
  pub unheld : seen.last < 2 → seen.held ≡ none_held

-- a section that is written
full : (ct : Bool) (seen : Seen) (p : Parts) (last : ℕ) (text : List ℕ) (k : SectionKind) (section made : Section) (c : List ℕ) → Kept seen p last → seen.last < id_of k
    → Sized (Insides ct (behind last seen) k) (sized_text c) made → suc (length (sized_text c)) ≤ length text
    → pieces (with_section p section) ≡ set (pieces p) (id_of k) (section_text (id_of k) c) → (with_section p section).customs ≡ p.customs → (with_section p section).place ≡ id_of k
    → (seen_after seen section).last ≡ id_of k → seen_after (behind last seen) made ≡ behind (id_of k) (seen_after seen section) → with_section (settled_parts p) made ≡ settled_parts (with_section p section)
    → Quiet (seen_after seen section) → Written ct seen p last text (section ∷ [])
full ct seen p last text k section made c h rise m size e customs place id state parts quiet =
    let q = with_section p section in
    let x = section_text (id_of k) c in
    let few = few_ids k in
    let earlier = h.earlier in
    let placed = h.placed in
    let before : All (Before (0 + id_of k)) p.customs = wider (suc p.place) (0 + id_of k) p.customs (omega arith) h.customs in
    let behind_it : EmptyFrom (id_of k) (pieces p) = λ i le. h.empty i (omega arith) in
    record {
      later = id_of k;
      added = made ∷ [];
      short = x;
      items = one_item ct (behind last seen) k c made (λ some. omega arith) m;
      state = state;
      made = parts;
      whole = ap (λ (l : List (List ℕ)). laid 0 l q.customs) e ∙ ap (λ (l : List Custom). laid 0 (set (pieces p) (id_of k) x) l) customs ∙ section_laid 0 (id_of k) (pieces p) x p.customs few behind_it before;
      size = size;
      next = record {
        earlier = omega arith;
        few = omega arith;
        unowed = quiet.unowed;
        unheld = quiet.unheld;
        placed = omega arith;
        empty = λ i le. ap (λ (l : List (List ℕ)). get_or l i []) e ∙ set_empty (id_of k) (pieces p) x p.place h.empty (omega arith) i (omega arith);
        customs = subst (λ (l : List Custom). All (Before (suc q.place)) l) (sym customs) (wider (suc p.place) (suc q.place) p.customs (omega arith) h.customs);
      };
    }

-- a section without items, which isn't written
left_out : (ct : Bool) (seen : Seen) (p : Parts) (last : ℕ) (text : List ℕ) (k : SectionKind) (section : Section) → Kept seen p last → seen.last < id_of k
    → pieces (with_section p section) ≡ set (pieces p) (id_of k) [] → (with_section p section).customs ≡ p.customs → (with_section p section).place ≡ p.place
    → (seen_after seen section).last ≡ id_of k → behind last seen ≡ behind last (seen_after seen section) → settled_parts p ≡ settled_parts (with_section p section)
    → Quiet (seen_after seen section) → Written ct seen p last text (section ∷ [])
left_out ct seen p last text k section h rise e customs place id state parts quiet =
    let q = with_section p section in
    let few = few_ids k in
    let earlier = h.earlier in
    let placed = h.placed in
    let before : All (Before (0 + id_of k)) p.customs = wider (suc p.place) (0 + id_of k) p.customs (omega arith) h.customs in
    let behind_it : EmptyFrom (id_of k) (pieces p) = λ i le. h.empty i (omega arith) in
    record {
      later = last;
      added = [];
      short = [];
      items = refl;
      state = state;
      made = parts;
      whole = ap (λ (l : List (List ℕ)). laid 0 l q.customs) e ∙ ap (λ (l : List Custom). laid 0 (set (pieces p) (id_of k) []) l) customs ∙ section_laid 0 (id_of k) (pieces p) [] p.customs few behind_it before;
      size = omega arith;
      next = record {
        earlier = omega arith;
        few = omega arith;
        unowed = quiet.unowed;
        unheld = quiet.unheld;
        placed = omega arith;
        empty = λ i le. ap (λ (l : List (List ℕ)). get_or l i []) e ∙ set_nothing (id_of k) (pieces p) p.place few h.empty i (omega arith);
        customs = subst (λ (l : List Custom). All (Before (suc q.place)) l) (sym customs) (wider (suc p.place) (suc q.place) p.customs (omega arith) h.customs);
      };
    }

-- a section of items
with_items : {A : Type 0} (ct : Bool) (seen : Seen) (p : Parts) (last : ℕ) (text rest : List ℕ) (k : SectionKind) (section made : List A → Section) (w : A → List ℕ) (items : List A) → Kept seen p last → seen.last < id_of k
    → suc (length rest) ≤ length text → Sized (Insides ct (behind last seen) k) (sized_text (vector_text w items)) (made items) × (length (sized_text (vector_text w items)) ≤ length rest)
    → pieces (with_section p (section items)) ≡ set (pieces p) (id_of k) (items_text (id_of k) w items) → (with_section p (section items)).customs ≡ p.customs
    → (with_section p (section items)).place ≡ place_after (id_of k) items p.place → (seen_after seen (section items)).last ≡ id_of k
    → seen_after (behind last seen) (made items) ≡ behind (id_of k) (seen_after seen (section items)) → with_section (settled_parts p) (made items) ≡ settled_parts (with_section p (section items))
    → (items ≡ [] → behind last seen ≡ behind last (seen_after seen (section []))) → settled_parts p ≡ settled_parts (with_section p (section [])) → Quiet (seen_after seen (section items)) → Written ct seen p last text (section items ∷ [])
with_items ct seen p last text rest k section made w [] h rise le c e customs place id state parts no_state no_parts quiet =
    left_out ct seen p last text k (section []) h rise e customs place id (no_state refl) no_parts quiet
with_items ct seen p last text rest k section made w (a ∷ others) h rise le c e customs place id state parts no_state no_parts quiet =
    full ct seen p last text k (section (a ∷ others)) (made (a ∷ others)) (vector_text w (a ∷ others)) h rise c.0 (omega (arith, c.1)) e customs place id state parts quiet

-- ---- contents

contents : {A : Type 0} (mk : A → Section) (G : Grammar A) (w : A → List ℕ) → Settles [] G w → (text : List ℕ) (section : Section) (m : Sized (Mapped mk G) text section)
    → Sized (Mapped mk G) (sized_text (w m.4.1.0)) (mk m.4.1.0) × (length (sized_text (w m.4.1.0)) ≤ length text)
contents mk G w g text section m =
    let v = m.4.1 in
    let s = g.settled m.2 v.0 v.1 in
    let spelled : G (w v.0) v.0 = subst (λ (l : List ℕ). G l v.0) (sym s.3) s.1 in
    sized_short (Mapped mk G) (Mapped mk G) text (w v.0) section (mk v.0) m (v.0, spelled, refl) (omega (arith, ap length s.3, s.2))

pub settles_imports : (ct : Bool) → Settles [] (IsImports ct) (vector_text import_text)
settles_imports ct =
    settles_then [] IsU32 (λ n. TimesFrom (IsImport ct) held_after n none_held) u32_text (vector_text import_text) settles_number (λ n.
    settles_as (u32_text n) (TimesFrom (IsImport ct) held_after n none_held) (all_texts import_text) (vector_text import_text) (settles_times (IsImport ct) held_after import_text (settles_import ct) n none_held)
    (λ text l m. ap (λ (k : ℕ). u32_text k ++ all_texts import_text l) (times_count (IsImport ct) held_after n none_held text l m)))

pub few_defined : (b : Bool) → room b ≤ 1
few_defined true = omega arith
few_defined false = omega arith

optional_none : {A : Type 0} (o : Option A) → optional o ≡ [] → o ≡ None
optional_none None e = refl
optional_none (Some a) e = absurd (nil_cons a [] e)

start_none : (o : Option ℕ) → start_text o ≡ [] → o ≡ None
start_none None e = refl
start_none (Some f) e = absurd (nil_cons 8 _ e)

place_of_map : {A B : Type 0} (id : ℕ) (f : A → B) (l : List A) (place : ℕ) → place_after id (map f l) place ≡ place_after id l place
place_of_map id f [] place = refl
place_of_map id f (a ∷ l) place = refl

-- ---- each kind of sections

vacuous : (seen : Seen) → 3 ≤ seen.last → Quiet seen
vacuous seen le = record { unowed = λ lt. absurd (omega arith); unheld = λ lt. absurd (omega arith) }

insides_written : (ct : Bool) (seen : Seen) (p : Parts) (last : ℕ) (text rest : List ℕ) (k : SectionKind) (section : Section) → Kept seen p last → (0 < id_of k → seen.last < id_of k) → suc (length rest) ≤ length text
    → Sized (Insides ct seen k) rest section → Written ct seen p last text (section ∷ [])
insides_written ct seen p last text rest kind.Custom section h rise le m =
    let v = m.4.1 in
    let custom : Custom = record { place = p.place; name = v.0; bytes = v.4.0 } in
    let made : Section = CustomSection v.0 v.4.0 in
    let c = sized_text v.0 ++ v.4.0 in
    let n = settles_name.settled v.1 v.0 v.3 in
    let name : IsName (sized_text v.0) v.0 = subst (λ (l : List ℕ). IsName l v.0) (sym n.3) n.1 in
    let size : length c ≤ length m.2 = omega (arith, length-append (sized_text v.0) v.4.0, ap length n.3, n.2, ap length v.5, length-append v.1 v.2, ap length v.4.1) in
    let s = sized_short (Insides ct seen kind.Custom) (Insides ct (behind last seen) kind.Custom) rest c section made m (v.0, sized_text v.0, v.4.0, name, (v.4.0, refl, refl), refl) size in
    let there : All (Before (suc p.place)) (p.customs ++ custom ∷ []) = All-append (Before (suc p.place)) p.customs (custom ∷ []) h.customs (All-cons (Before (suc p.place)) custom [] (omega arith) (All-nil (Before (suc p.place)))) in
    subst (λ (s : Section). Written ct seen p last text (s ∷ [])) v.4.2
    (record {
      later = last;
      added = made ∷ [];
      short = section_text 0 c;
      items = one_item ct (behind last seen) kind.Custom c made (λ some. absurd (omega (arith, some))) s.0;
      state = refl;
      made = refl;
      whole = custom_laid 0 p.place (pieces p) p.customs custom (omega arith) (omega (arith, h.placed, h.few)) h.empty (wider (suc p.place) (suc (0 + p.place)) p.customs (omega arith) h.customs);
      size = omega (arith, s.1);
      next = record { earlier = h.earlier; few = h.few; unowed = h.unowed; unheld = h.unheld; placed = h.placed; empty = h.empty; customs = there };
    })
insides_written ct seen p last text rest kind.Types section h rise le m =
    let up : seen.last < 1 = rise (omega arith) in
    let v = m.4.1 in
    let none : p.types ≡ [] = no_items 1 type_entry_text p.types (h.empty 1 (omega (arith, h.placed))) in
    let c = contents TypeSection (Vector (IsTypeEntry ct)) (vector_text type_entry_text) (settles_vector (IsTypeEntry ct) type_entry_text (settles_type_entry ct)) rest section m in
    let quiet : Quiet (seen_after seen (TypeSection v.0)) = record { unowed = λ lt. h.unowed (omega arith); unheld = λ lt. h.unheld (omega arith) } in
    subst (λ (s : Section). Written ct seen p last text (s ∷ [])) v.2
    (with_items ct seen p last text rest kind.Types TypeSection TypeSection type_entry_text v.0 h up le c refl refl refl refl refl refl (λ e. refl) (ap (λ l. settled_parts (record p { types = l })) none) quiet)
insides_written ct seen p last text rest kind.Imports section h rise le m =
    let up : seen.last < 2 = rise (omega arith) in
    let v = m.4.1 in
    let none : p.imports ≡ [] = no_items 2 import_text p.imports (h.empty 2 (omega (arith, h.placed))) in
    let c = contents ImportSection (IsImports ct) (vector_text import_text) (settles_imports ct) rest section m in
    let quiet : Quiet (seen_after seen (ImportSection v.0)) = record { unowed = λ lt. h.unowed (omega arith); unheld = λ lt. absurd (omega (arith, lt)) } in
    subst (λ (s : Section). Written ct seen p last text (s ∷ [])) v.2
    (with_items ct seen p last text rest kind.Imports ImportSection ImportSection import_text v.0 h up le c refl refl refl refl refl refl (λ e. ap (λ l. behind last (record seen { held = l })) (h.unheld up)) (ap (λ l. settled_parts (record p { imports = l })) none) quiet)
insides_written ct seen p last text rest kind.Functions section h rise le m =
    let up : seen.last < 3 = rise (omega arith) in
    let v = m.4.1 in
    let none : p.uses ≡ [] = no_items 3 u32_text p.uses (h.empty 3 (omega (arith, h.placed))) in
    let c = contents FunctionSection (Vector IsU32) (vector_text u32_text) (settles_vector IsU32 u32_text settles_number) rest section m in
    let quiet : Quiet (seen_after seen (FunctionSection v.0)) = vacuous (seen_after seen (FunctionSection v.0)) (omega arith) in
    subst (λ (s : Section). Written ct seen p last text (s ∷ [])) v.2
    (with_items ct seen p last text rest kind.Functions FunctionSection FunctionSection u32_text v.0 h up le c refl refl refl refl refl refl (λ e. ap (λ l. behind last (record seen { owed = l })) (h.unowed up)) (ap (λ l. settled_parts (record p { uses = l })) none) quiet)
insides_written ct seen p last text rest kind.Tables section h rise le m =
    let up : seen.last < 4 = rise (omega arith) in
    let v = m.4.1 in
    let none : p.table ≡ None = optional_none p.table (no_items 4 table_text (optional p.table) (h.empty 4 (omega (arith, h.placed)))) in
    let few : length v.0 ≤ 1 = omega (arith, few_defined seen.held.table, upto_count (room seen.held.table) IsTable m.2 v.0 v.1) in
    let c = contents TableSection (VectorUpto (room seen.held.table) IsTable) (vector_text table_text) (settles_upto (room seen.held.table) IsTable table_text settles_table) rest section m in
    let placed : pieces (with_section p (TableSection v.0)) ≡ set (pieces p) 4 (items_text 4 table_text v.0) = ap (λ l. set (pieces p) 4 (items_text 4 table_text l)) (optional_first v.0 few) in
    let quiet : Quiet (seen_after seen (TableSection v.0)) = vacuous (seen_after seen (TableSection v.0)) (omega arith) in
    subst (λ (s : Section). Written ct seen p last text (s ∷ [])) v.2
    (with_items ct seen p last text rest kind.Tables TableSection TableSection table_text v.0 h up le c placed refl refl refl refl refl (λ e. refl) (ap (λ l. settled_parts (record p { table = l })) none) quiet)
insides_written ct seen p last text rest kind.Memories section h rise le m =
    let up : seen.last < 5 = rise (omega arith) in
    let v = m.4.1 in
    let none : p.memory ≡ None = optional_none p.memory (no_items 5 memory_text (optional p.memory) (h.empty 5 (omega (arith, h.placed)))) in
    let few : length v.0 ≤ 1 = omega (arith, few_defined seen.held.memory, upto_count (room seen.held.memory) (IsMemory ct) m.2 v.0 v.1) in
    let c = contents MemorySection (VectorUpto (room seen.held.memory) (IsMemory ct)) (vector_text memory_text) (settles_upto (room seen.held.memory) (IsMemory ct) memory_text (settles_memory ct)) rest section m in
    let placed : pieces (with_section p (MemorySection v.0)) ≡ set (pieces p) 5 (items_text 5 memory_text v.0) = ap (λ l. set (pieces p) 5 (items_text 5 memory_text l)) (optional_first v.0 few) in
    let quiet : Quiet (seen_after seen (MemorySection v.0)) = vacuous (seen_after seen (MemorySection v.0)) (omega arith) in
    subst (λ (s : Section). Written ct seen p last text (s ∷ [])) v.2
    (with_items ct seen p last text rest kind.Memories MemorySection MemorySection memory_text v.0 h up le c placed refl refl refl refl refl (λ e. refl) (ap (λ l. settled_parts (record p { memory = l })) none) quiet)
insides_written ct seen p last text rest kind.Globals section h rise le m =
    let up : seen.last < 6 = rise (omega arith) in
    let v = m.4.1 in
    let none : p.globals ≡ [] = no_items 6 global_text p.globals (h.empty 6 (omega (arith, h.placed))) in
    let c = contents GlobalSection (Vector (IsGlobal ct)) (vector_text global_text) (settles_vector (IsGlobal ct) global_text (settles_global ct)) rest section m in
    let quiet : Quiet (seen_after seen (GlobalSection v.0)) = vacuous (seen_after seen (GlobalSection v.0)) (omega arith) in
    subst (λ (s : Section). Written ct seen p last text (s ∷ [])) v.2
    (with_items ct seen p last text rest kind.Globals GlobalSection GlobalSection global_text v.0 h up le c refl refl refl refl refl refl (λ e. refl) (ap (λ l. settled_parts (record p { globals = l })) none) quiet)
insides_written ct seen p last text rest kind.Exports section h rise le m =
    let up : seen.last < 7 = rise (omega arith) in
    let v = m.4.1 in
    let none : p.exports ≡ [] = no_items 7 export_text p.exports (h.empty 7 (omega (arith, h.placed))) in
    let c = contents ExportSection (Vector IsExport) (vector_text export_text) (settles_vector IsExport export_text settles_export) rest section m in
    let quiet : Quiet (seen_after seen (ExportSection v.0)) = vacuous (seen_after seen (ExportSection v.0)) (omega arith) in
    subst (λ (s : Section). Written ct seen p last text (s ∷ [])) v.2
    (with_items ct seen p last text rest kind.Exports ExportSection ExportSection export_text v.0 h up le c refl refl refl refl refl refl (λ e. refl) (ap (λ l. settled_parts (record p { exports = l })) none) quiet)
insides_written ct seen p last text rest kind.Start section h rise le m =
    let up : seen.last < 8 = rise (omega arith) in
    let v = m.4.1 in
    let c = contents StartSection IsU32 u32_text settles_number rest section m in
    let quiet : Quiet (seen_after seen (StartSection v.0)) = vacuous (seen_after seen (StartSection v.0)) (omega arith) in
    subst (λ (s : Section). Written ct seen p last text (s ∷ [])) v.2
    (full ct seen p last text kind.Start (StartSection v.0) (StartSection v.0) (u32_text v.0) h up c.0 (omega (arith, c.1)) refl refl refl refl refl refl quiet)
insides_written ct seen p last text rest kind.Elements section h rise le m =
    let up : seen.last < 9 = rise (omega arith) in
    let v = m.4.1 in
    let none : p.elements ≡ [] = no_items 9 element_text p.elements (h.empty 9 (omega (arith, h.placed))) in
    let c = contents ElementSection (Vector (IsElement ct)) (vector_text element_text) (settles_vector (IsElement ct) element_text (settles_element ct)) rest section m in
    let quiet : Quiet (seen_after seen (ElementSection v.0)) = vacuous (seen_after seen (ElementSection v.0)) (omega arith) in
    subst (λ (s : Section). Written ct seen p last text (s ∷ [])) v.2
    (with_items ct seen p last text rest kind.Elements ElementSection ElementSection element_text v.0 h up le c refl refl refl refl refl refl (λ e. refl) (ap (λ l. settled_parts (record p { elements = l })) none) quiet)
insides_written ct seen p last text rest kind.Codes section h rise le m =
    let up : seen.last < 10 = rise (omega arith) in
    let v = m.4.1 in
    let made : List Entry → Section = λ entries. CodeSection (map settled_entry entries) in
    let none : p.entries ≡ [] = no_items 10 entry_text p.entries (h.empty 10 (omega (arith, h.placed))) in
    let s = codes_settled ct seen.owed m.2 v.0 v.1 in
    let c = sized_short (Insides ct seen kind.Codes) (Insides ct (behind last seen) kind.Codes) rest (vector_text entry_text v.0) section (made v.0) m (map settled_entry v.0, s.0, refl) s.1 in
    let counted : length v.0 ≡ seen.owed = times_count (IsEntry ct) all_after v.1.0 0 v.1.2 v.0 v.1.4 ∙ eqb-true v.1.0 seen.owed v.1.3.1 in
    let quiet : Quiet (seen_after seen (CodeSection v.0)) = vacuous (seen_after seen (CodeSection v.0)) (omega arith) in
    let parts : with_section (settled_parts p) (made v.0) ≡ settled_parts (with_section p (CodeSection v.0)) = ap (λ l. record p { place = l; entries = map settled_entry v.0 }) (place_of_map 10 settled_entry v.0 p.place) in
    subst (λ (s : Section). Written ct seen p last text (s ∷ [])) v.2
    (with_items ct seen p last text rest kind.Codes CodeSection made entry_text v.0 h up le c refl refl refl refl refl parts
    (λ e. ap (λ l. behind last (record seen { owed = l })) (sym counted ∙ ap length e)) (ap (λ l. settled_parts (record p { entries = l })) none) quiet)
insides_written ct seen p last text rest kind.Segments section h rise le m =
    let up : seen.last < 11 = rise (omega arith) in
    let v = m.4.1 in
    let none : p.segments ≡ [] = no_items 11 segment_text p.segments (h.empty 11 (omega (arith, h.placed))) in
    let c = contents DataSection (Vector (IsSegment ct)) (vector_text segment_text) (settles_vector (IsSegment ct) segment_text (settles_segment ct)) rest section m in
    let quiet : Quiet (seen_after seen (DataSection v.0)) = vacuous (seen_after seen (DataSection v.0)) (omega arith) in
    subst (λ (s : Section). Written ct seen p last text (s ∷ [])) v.2
    (with_items ct seen p last text rest kind.Segments DataSection DataSection segment_text v.0 h up le c refl refl refl refl refl refl (λ e. refl) (ap (λ l. settled_parts (record p { segments = l })) none) quiet)

section_written : (ct : Bool) (seen : Seen) (p : Parts) (last : ℕ) (text : List ℕ) (section : Section) → Kept seen p last → IsSection ct seen text section → Written ct seen p last text (section ∷ [])
section_written ct seen p last text section h m =
    let id = m.3.0 in
    let risen = (section_risen seen.last id).is m.0 m.3.2 in
    let same : id_of m.0 ≡ id = risen.0 in
    let size : suc (length m.2) ≤ length text = omega (arith, ap length m.5, length-append m.1 m.2, ap length m.3.1) in
    insides_written ct seen p last text m.2 m.0 section h (λ some. omega (arith, risen.1 (omega arith))) size m.4

-- ---- all sections

pub items-append : {S A : Type 0} (G : S → Grammar A) (next : S → A → S) (s : S) (x y : List ℕ) (l r : List A) → Items G next s x l → Items G next (state_after next s l) y r → Items G next s (x ++ y) (l ++ r)
items-append G next s x y [] r m n = subst (λ (t : List ℕ). Items G next s (t ++ y) r) (sym m) n
items-append G next s x y (a ∷ l) r m n =
    (m.0, m.1 ++ y, m.2, items-append G next (next s a) m.1 y l r m.3 n, ap (λ (t : List ℕ). t ++ y) m.4 ∙ append_assoc m.0 m.1 y)

pub state_after-append : {S A : Type 0} (next : S → A → S) (s : S) (l r : List A) → state_after next s (l ++ r) ≡ state_after next (state_after next s l) r
state_after-append next s [] r = refl
state_after-append next s (a ∷ l) r = state_after-append next (next s a) l r

nothing_written : (ct : Bool) (seen : Seen) (p : Parts) (last : ℕ) → Kept seen p last → Written ct seen p last [] []
nothing_written ct seen p last h = record { later = last; added = []; short = []; items = refl; state = refl; made = refl; whole = sym (append-nil (text_of p)); size = omega arith; next = h }

-- one section and then others
both_written : (ct : Bool) (seen : Seen) (p : Parts) (last : ℕ) (text x y : List ℕ) (section : Section) (sections : List Section) → text ≡ x ++ y → (a : Written ct seen p last x (section ∷ [])) → Written ct (seen_after seen section) (with_section p section) a.later y sections
    → Written ct seen p last text (section ∷ sections)
both_written ct seen p last text x y section sections e a b =
    let start = behind last seen in
    let moved : Items (IsSection ct) seen_after (state_after seen_after start a.added) b.short b.added = subst (λ (s : Seen). Items (IsSection ct) seen_after s b.short b.added) (sym a.state) b.items in
    record {
      later = b.later;
      added = a.added ++ b.added;
      short = a.short ++ b.short;
      items = items-append (IsSection ct) seen_after start a.short b.short a.added b.added a.items moved;
      state = state_after-append seen_after start a.added b.added ∙ ap (λ (s : Seen). state_after seen_after s b.added) a.state ∙ b.state;
      made = state_after-append with_section (settled_parts p) a.added b.added ∙ ap (λ (q : Parts). state_after with_section q b.added) a.made ∙ b.made;
      whole = b.whole ∙ ap (λ (l : List ℕ). l ++ b.short) a.whole ∙ append_assoc (text_of p) a.short b.short;
      size = omega (arith, ap length e, length-append x y, length-append a.short b.short, a.size, b.size);
      next = b.next;
    }

pub sections_written : (ct : Bool) (seen : Seen) (p : Parts) (last : ℕ) (text : List ℕ) (sections : List Section) → Kept seen p last → Items (IsSection ct) seen_after seen text sections → Written ct seen p last text sections
sections_written ct seen p last text [] h m = subst (λ (l : List ℕ). Written ct seen p last l []) (sym m) (nothing_written ct seen p last h)
sections_written ct seen p last text (section ∷ sections) h m =
    let a = section_written ct seen p last m.0 section h m.2 in
    both_written ct seen p last text m.0 m.1 section sections m.4 a (sections_written ct (seen_after seen section) (with_section p section) a.later m.1 sections a.next m.3)

all_empty : (n i : ℕ) → get_or {A = List ℕ} (replicate n []) i [] ≡ []
all_empty zero i = refl
all_empty (suc n) zero = refl
all_empty (suc n) (suc i) = all_empty n i

nothing_kept : Kept nothing_seen no_parts 0
nothing_kept = record { earlier = omega arith; few = omega arith; unowed = λ lt. refl; unheld = λ lt. refl; placed = omega arith; empty = λ i le. all_empty 12 i; customs = All-nil (Before 1) }

-- the sections of a file
pub file_written : (ct : Bool) (text : List ℕ) (sections : List Section) → Items (IsSection ct) seen_after nothing_seen text sections → Written ct nothing_seen no_parts 0 text sections
file_written ct text sections m = sections_written ct nothing_seen no_parts 0 text sections nothing_kept m
