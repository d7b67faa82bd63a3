-- A file holds at most one table and one memory, imported ones among them.
use Rattle.std.proofs.Common.{◌≡◌, ℕ, zero, suc, ◌+◌, ◌<◌, ◌≤◌, Bool, true, false, cond, ◌&&◌, List, [], ◌∷◌, length, None, Result, Ok, Err, refl, sym, ap, subst, ◌∙◌, inl, inr, arith, leb-true, eqb-true}
use Rattle.std.specs.Prelude.{◌==◌}
use Rattle.std.proofs.lemmas.List.{length-append}
use Rattle.ctw_ops.specs.declared.types.Label.{Label}
use Rattle.ctw_ops.specs.declared.types.ExternTag.{ExternTag}
use Rattle.ctw_ops.specs.declared.types.ExternTag.TheVariants as tag
use Rattle.ctw_ops.specs.declared.fault.What.TheVariants as what
use Rattle.ctw_ops.specs.Tree.{Module, Import, Extern}
use Rattle.ctw_ops.specs.Typing.{optional}
use Rattle.ctw_leb.specs.Grammar.{Grammar, TimesFrom, state_after}
use Rattle.ctw_leb.proofs.Exact.{ok_is, err_ok, chosen}
use Rattle.ctw_form.specs.declared.fault.FormKind.{FormKind}
use Rattle.ctw_form.specs.declared.fault.FormKind.TheVariants.{BadType, TooMany}
use Rattle.ctw_form.specs.declared.table.SectionKind.{SectionKind}
use Rattle.ctw_form.specs.declared.table.SectionKind.TheVariants as kind
use Rattle.ctw_form.specs.declared.table.Held.{Held}
use Rattle.ctw_form.specs.declared.sections.Seen.{Seen}
use Rattle.ctw_form.specs.Tables.{extern_kind, import_kind}
use Rattle.ctw_ops.specs.Once.{with_table, with_memory, imported_tables, imported_memories, all_tables, all_memories}
use Rattle.ctw_form.specs.Sections.{Section, Parts, none_held, held_after, held_with, held_by, nothing_seen, seen_after, no_parts, with_section, module_of, first}
use Rattle.ctw_form.specs.Spelled.{VectorUpto, IsTable, IsMemory, IsExtern, IsImport, room, Insides, IsSection, File, IsFile, Spells}
use Rattle.ctw_form.proofs.Brought.{Rises, rises}
use Rattle.ctw_form.proofs.SpelledParts.{times_count, parts_kept}

-- ---- the kinds of imports

-- what was read where a test failed: the rest of a table
rest_of : {A F : Type 0} (test : Bool) (f : F) (r : Result A F) (a : A) → cond test (Err f) r ≡ Ok a → (test ≡ false) × (r ≡ Ok a)
rest_of true f r a e = absurd (err_ok f a e)
rest_of false f r a e = (refl, e)

abbrev KindHeld : Held → ExternTag → Type 0
KindHeld held tag.Func = Unit {0}
KindHeld held tag.Table = held.table ≡ false
KindHeld held tag.Memory = held.memory ≡ false
KindHeld held tag.Global = Unit {0}

abbrev kind_number : ExternTag → ℕ
kind_number tag.Func = 0
kind_number tag.Table = 1
kind_number tag.Memory = 2
kind_number tag.Global = 3

abbrev answered : ExternTag → Result ExternTag FormKind
answered k = Ok k

numbered : (k j : ExternTag) (b n : ℕ) → kind_number k ≡ n → (b == n) ≡ true → answered k ≡ answered j → kind_number j ≡ b
numbered k j b n e t q = ap kind_number (sym (ok_is {F = FormKind} k j q)) ∙ e ∙ sym (eqb-true b n t)

extern_number : (b : ℕ) (k : ExternTag) → extern_kind b ≡ Ok k → kind_number k ≡ b
unfolding extern_kind
extern_number b k e =
    elim (chosen (b == 0) (Ok tag.Func) _ (Ok k) e) [
      | inl p ↦ numbered tag.Func k b 0 refl p.0 p.1
      | inr p ↦ elim (chosen (b == 1) (Ok tag.Table) _ (Ok k) p.1) [
        | inl q ↦ numbered tag.Table k b 1 refl q.0 q.1
        | inr q ↦ elim (chosen (b == 2) (Ok tag.Memory) _ (Ok k) q.1) [
          | inl r ↦ numbered tag.Memory k b 2 refl r.0 r.1
          | inr r ↦ elim (chosen (b == 3) (Ok tag.Global) (Err BadType) (Ok k) r.1) [
            | inl s ↦ numbered tag.Global k b 3 refl s.0 s.1
            | inr s ↦ absurd (err_ok BadType k s.1)
          ]
        ]
      ]
    ]

-- a second table or memory isn't read
kind_held : (held : Held) (b : ℕ) (k : ExternTag) → import_kind held b ≡ Ok k → KindHeld held k
unfolding import_kind
kind_held held b k e =
    let first = rest_of ((b == 0x01) && held.table) (TooMany what.Tables 1) (cond ((b == 0x02) && held.memory) (Err (TooMany what.Memories 1)) (extern_kind b)) k e in
    let second = rest_of ((b == 0x02) && held.memory) (TooMany what.Memories 1) (extern_kind b) k first.1 in
    go k first.0 second.0 (extern_number b k second.1)
  where
    go : (j : ExternTag) → ((b == 0x01) && held.table) ≡ false → ((b == 0x02) && held.memory) ≡ false → kind_number j ≡ b → KindHeld held j
    go tag.Func x y n = tt
    go tag.Table x y n = subst (λ (c : ℕ). ((c == 0x01) && held.table) ≡ false) (sym n) x
    go tag.Memory x y n = subst (λ (c : ℕ). ((c == 0x02) && held.memory) ≡ false) (sym n) y
    go tag.Global x y n = tt

-- ---- imports

abbrev mark : Bool → ℕ
mark false = 0
mark true = 1

-- as many tables and memories as what is held says
record Counted (imports : List (Import Label)) (held after : Held) : Type 0 where
  tables : length (imported_tables imports) + mark held.table ≡ mark after.table
  memories : length (imported_memories imports) + mark held.memory ≡ mark after.memory

-- the same with one more in front
record CountedWith (e : Extern Label) (imports : List (Import Label)) (held after : Held) : Type 0 where
  tables : length (with_table e (imported_tables imports)) + mark held.table ≡ mark after.table
  memories : length (with_memory e (imported_memories imports)) + mark held.memory ≡ mark after.memory

counted_with : (ct : Bool) (held after : Held) (k : ExternTag) (text : List ℕ) (e : Extern Label) (others : List (Import Label)) → KindHeld held k → IsExtern ct k text e → Counted others (held_with e held) after → CountedWith e others held after
counted_with ct held after tag.Func text e others h m =
    subst (λ (x : Extern Label). Counted others (held_with x held) after → CountedWith x others held after) m.2 (λ c. record { tables = c.tables; memories = c.memories })
counted_with ct held after tag.Table text e others h m =
    subst (λ (x : Extern Label). Counted others (held_with x held) after → CountedWith x others held after) m.2 (λ c. record { tables = omega (arith, c.tables, ap mark h); memories = c.memories })
counted_with ct held after tag.Memory text e others h m =
    subst (λ (x : Extern Label). Counted others (held_with x held) after → CountedWith x others held after) m.2 (λ c. record { tables = c.tables; memories = omega (arith, c.memories, ap mark h) })
counted_with ct held after tag.Global text e others h m =
    subst (λ (x : Extern Label). Counted others (held_with x held) after → CountedWith x others held after) m.2 (λ c. record { tables = c.tables; memories = c.memories })

import_counted : (ct : Bool) (held after : Held) (text : List ℕ) (i : Import Label) (others : List (Import Label)) → IsImport ct held text i → Counted others (held_after held i) after → Counted (i ∷ others) held after
import_counted ct held after text i others m c =
    let named = m.4.4 in
    let extern = named.1 in
    let h = kind_held held extern.3.0 extern.0 extern.3.2 in
    let same : named.0 ≡ i.kind = ap (λ (j : Import Label). j.kind) named.2 in
    let there = subst (λ (x : Extern Label). Counted others (held_with x held) after) (sym same) c in
    let w = counted_with ct held after extern.0 extern.2 named.0 others h extern.4 there in
    let v = subst (λ (x : Extern Label). CountedWith x others held after) same w in
    record { tables = v.tables; memories = v.memories }

imports_counted : (ct : Bool) (n : ℕ) (held : Held) (text : List ℕ) (imports : List (Import Label)) → TimesFrom (IsImport ct) held_after n held text imports → Counted imports held (held_by held imports)
imports_counted ct zero held text imports m = subst (λ (l : List (Import Label)). Counted l held (held_by held l)) m.1 (record { tables = omega arith; memories = omega arith })
imports_counted ct (suc n) held text imports m =
    let others = m.4 in
    let c = imports_counted ct n (held_after held m.0) others.1 others.0 others.3 in
    subst (λ (l : List (Import Label)). Counted l held (held_by held l)) others.4.1 (import_counted ct held (held_by (held_after held m.0) others.0) m.1 m.0 others.0 m.3 c)

-- ---- sections

-- what sections of which the last had the id `last` have brought
record Once (seen : Seen) (p : Parts) : Type 0 where
  tables : length (imported_tables p.imports) ≡ mark seen.held.table
  memories : length (imported_memories p.imports) ≡ mark seen.held.memory
  table : mark seen.held.table + length (optional p.table) ≤ 1
  memory : mark seen.held.memory + length (optional p.memory) ≤ 1
  no_table : seen.last < 4 → p.table ≡ None
  no_memory : seen.last < 5 → p.memory ≡ None

mark_one : (b : Bool) → mark b ≤ 1
mark_one false = omega arith
mark_one true = omega arith

mark_room : (b : Bool) → mark b + room b ≡ 1
mark_room false = omega arith
mark_room true = omega arith

first_few : {A : Type 0} (l : List A) → length (optional (first l)) ≤ length l
first_few [] = omega arith
first_few (a ∷ others) = omega arith

upto_few : {A : Type 0} (limit : ℕ) (G : Grammar A) (text : List ℕ) (l : List A) → VectorUpto limit G text l → length l ≤ limit
upto_few limit G text l m = omega (arith, times_count (λ u. G) _ m.0 tt m.2 l m.4, leb-true m.0 limit m.3.1)

-- a section that brings neither
once_other : (seen next : Seen) (p q : Parts) → seen.last < next.last → next.held ≡ seen.held → q.imports ≡ p.imports → q.table ≡ p.table → q.memory ≡ p.memory → Once seen p → Once next q
once_other seen next p q rise held imports table memory h = record {
  tables = ap (λ l. length (imported_tables l)) imports ∙ h.tables ∙ ap (λ (x : Held). mark x.table) (sym held);
  memories = ap (λ l. length (imported_memories l)) imports ∙ h.memories ∙ ap (λ (x : Held). mark x.memory) (sym held);
  table = omega (arith, h.table, ap (λ (x : Held). mark x.table) held, ap (λ o. length (optional o)) table);
  memory = omega (arith, h.memory, ap (λ (x : Held). mark x.memory) held, ap (λ o. length (optional o)) memory);
  no_table = λ lt. table ∙ h.no_table (omega arith);
  no_memory = λ lt. memory ∙ h.no_memory (omega arith);
}

abbrev OnceBehind : Seen → Parts → Section → Type 0
OnceBehind seen p section = Once (seen_after seen section) (with_section p section)

once_insides : (ct : Bool) (seen : Seen) (p : Parts) (k : SectionKind) (text : List ℕ) (section : Section) → Rises seen.last k → Insides ct seen k text section → Once seen p → OnceBehind seen p section
once_insides ct seen p kind.Custom text section rise m h =
    subst (OnceBehind seen p) m.4.2 (record { tables = h.tables; memories = h.memories; table = h.table; memory = h.memory; no_table = h.no_table; no_memory = h.no_memory })
once_insides ct seen p kind.Types text section rise m h = subst (OnceBehind seen p) m.2 (once_other seen _ p _ rise refl refl refl refl h)
once_insides ct seen p kind.Imports text section rise m h =
    let c = imports_counted ct m.1.0 none_held m.1.2 m.0 m.1.4 in
    let held = held_by none_held m.0 in
    let table : p.table ≡ None = h.no_table (omega (arith, rise)) in
    let memory : p.memory ≡ None = h.no_memory (omega (arith, rise)) in
    subst (OnceBehind seen p) m.2
    (record {
      tables = omega (arith, c.tables);
      memories = omega (arith, c.memories);
      table = omega (arith, mark_one held.table, ap (λ o. length (optional o)) table);
      memory = omega (arith, mark_one held.memory, ap (λ o. length (optional o)) memory);
      no_table = λ lt. table;
      no_memory = λ lt. memory;
    })
once_insides ct seen p kind.Functions text section rise m h = subst (OnceBehind seen p) m.2 (once_other seen _ p _ rise refl refl refl refl h)
once_insides ct seen p kind.Tables text section rise m h =
    let few = upto_few (room seen.held.table) IsTable text m.0 m.1 in
    subst (OnceBehind seen p) m.2
    (record {
      tables = h.tables;
      memories = h.memories;
      table = omega (arith, few, first_few m.0, mark_room seen.held.table);
      memory = h.memory;
      no_table = λ lt. absurd (omega (arith, lt));
      no_memory = λ lt. h.no_memory (omega (arith, rise));
    })
once_insides ct seen p kind.Memories text section rise m h =
    let few = upto_few (room seen.held.memory) (IsMemory ct) text m.0 m.1 in
    subst (OnceBehind seen p) m.2
    (record {
      tables = h.tables;
      memories = h.memories;
      table = h.table;
      memory = omega (arith, few, first_few m.0, mark_room seen.held.memory);
      no_table = λ lt. absurd (omega (arith, lt));
      no_memory = λ lt. absurd (omega (arith, lt));
    })
once_insides ct seen p kind.Globals text section rise m h = subst (OnceBehind seen p) m.2 (once_other seen _ p _ rise refl refl refl refl h)
once_insides ct seen p kind.Exports text section rise m h = subst (OnceBehind seen p) m.2 (once_other seen _ p _ rise refl refl refl refl h)
once_insides ct seen p kind.Start text section rise m h = subst (OnceBehind seen p) m.2 (once_other seen _ p _ rise refl refl refl refl h)
once_insides ct seen p kind.Elements text section rise m h = subst (OnceBehind seen p) m.2 (once_other seen _ p _ rise refl refl refl refl h)
once_insides ct seen p kind.Codes text section rise m h = subst (OnceBehind seen p) m.2 (once_other seen _ p _ rise refl refl refl refl h)
once_insides ct seen p kind.Segments text section rise m h = subst (OnceBehind seen p) m.2 (once_other seen _ p _ rise refl refl refl refl h)

once_section : (ct : Bool) (seen : Seen) (p : Parts) (text : List ℕ) (section : Section) → IsSection ct seen text section → Once seen p → OnceBehind seen p section
once_section ct seen p text section m h = once_insides ct seen p m.0 m.4.2 section (rises seen.last m.3.0 m.0 m.3.2) m.4.4.1 h

record OneOfEach (m : Module Label) : Type 0 where
  tables : length (all_tables m) ≤ 1
  memories : length (all_memories m) ≤ 1

one_of_each : (bytes : List ℕ) (file : File) (ct : Bool) → IsFile bytes file → OneOfEach (module_of ct (state_after with_section no_parts file.sections))
one_of_each bytes file ct m =
    let inner = m.4.4 in
    let begun : Once nothing_seen no_parts = record { tables = refl; memories = refl; table = omega arith; memory = omega arith; no_table = λ lt. refl; no_memory = λ lt. refl } in
    let all = parts_kept m.4.0 Once (once_section m.4.0) nothing_seen no_parts m.4.2 inner.0 inner.1 begun in
    subst (λ (f : File). OneOfEach (module_of ct (state_after with_section no_parts f.sections))) inner.2
    (record {
      tables = omega (arith, all.tables, all.table, length-append (imported_tables (state_after with_section no_parts inner.0).imports) (optional (state_after with_section no_parts inner.0).table));
      memories = omega (arith, all.memories, all.memory, length-append (imported_memories (state_after with_section no_parts inner.0).imports) (optional (state_after with_section no_parts inner.0).memory));
    })

pub at_most_one : (bytes : List ℕ) (m : Module Label) → Spells bytes m → (length (all_tables m) ≤ 1) × (length (all_memories m) ≤ 1)
at_most_one bytes m s =
    let o = subst OneOfEach s.made (one_of_each bytes s.file s.file.ct s.spelled) in
    (o.tables, o.memories)
