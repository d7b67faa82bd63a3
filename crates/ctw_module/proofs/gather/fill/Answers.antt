use Rattle.std.proofs.Common.{◌≡◌, List, Ok, sym, ap, subst, ◌∙◌}
use Rattle.ctw_ops.specs.declared.fault.What.TheVariants as what
use Rattle.ctw_ops.specs.declared.types.Label.{Label}
use Rattle.ctw_ops.specs.declared.types.Limits.{Limits}
use Rattle.ctw_ops.specs.Types.{MemoryType}
use Rattle.ctw_leb.specs.Input.{Input}
use Rattle.ctw_leb.proofs.Exact.{ok_is}
use Rattle.ctw_form.specs.declared.fault.FormFault.{FormFault}
use Rattle.ctw_form.specs.declared.table.SectionKind.{SectionKind}
use Rattle.ctw_form.specs.declared.table.SectionKind.TheVariants as kind
use Rattle.ctw_form.specs.Sections.{Section, TableSection, MemorySection, CodeSection, with_section}
use Rattle.ctw_form.specs.Spelled.{room}
use Rattle.ctw_form.specs.Read.{insides_at, vector_upto_at, table_at, memory_at, codes_at}
use Rattle.ctw_module.specs.Gathers.{Gathers}
use Rattle.ctw_module.proofs.Filling.{only_found, upto_one}
use Rattle.ctw_module.proofs.gather.fill.Goals as goal

pub returns-in_ok-tables-in-Tables : goal.returns-in_ok-tables-in-Tables
unfolding insides_at
returns-in_ok-tables-in-Tables c = λ seen section p e h.
    let i = c.args.cursor.now in
    let read : insides_at c.args.ct seen kind.Tables i ≡ Ok section = ap (λ (k : SectionKind). insides_at c.args.ct seen k i) (sym c.in-Tables.is) ∙ e in
    let o = only_found TableSection (vector_upto_at (room seen.held.table) what.Tables 1 table_at) i section read in
    let one = upto_one seen.held.table what.Tables table_at i (o.items, o.end) o.read in
    let same = ok_is {F = FormFault} _ (o.items, o.end) (sym c.in_ok-tables-in-Tables.ensures ∙ one) in
    let made = ap (λ (x : List Limits × Input). TableSection x.0) same ∙ o.made in
    subst (λ (s : Section). Gathers c.take_table.new.self (with_section p s)) made (c.take_table.ensures p h)

pub returns-in_ok-memories-in-Memories : goal.returns-in_ok-memories-in-Memories
unfolding insides_at
returns-in_ok-memories-in-Memories c = λ seen section p e h.
    let i = c.args.cursor.now in
    let read : insides_at c.args.ct seen kind.Memories i ≡ Ok section = ap (λ (k : SectionKind). insides_at c.args.ct seen k i) (sym c.in-Memories.is) ∙ e in
    let o = only_found MemorySection (vector_upto_at (room seen.held.memory) what.Memories 1 (memory_at c.args.ct)) i section read in
    let one = upto_one seen.held.memory what.Memories (memory_at c.args.ct) i (o.items, o.end) o.read in
    let same = ok_is {F = FormFault} _ (o.items, o.end) (sym c.in_ok-memories-in-Memories.ensures ∙ one) in
    let made = ap (λ (x : List (MemoryType Label) × Input). MemorySection x.0) same ∙ o.made in
    subst (λ (s : Section). Gathers c.take_memory.new.self (with_section p s)) made (c.take_memory.ensures p h)

pub returns-in_ok-slots-in-Codes : goal.returns-in_ok-slots-in-Codes
unfolding insides_at
returns-in_ok-slots-in-Codes c = λ seen section p e h.
    let i = c.args.cursor.now in
    let read : insides_at c.args.ct seen kind.Codes i ≡ Ok section = ap (λ (k : SectionKind). insides_at c.args.ct seen k i) (sym c.in-Codes.is) ∙ e in
    let o = only_found CodeSection (codes_at c.args.ct seen.owed) i section read in
    let found = c.in_ok-slots-in-Codes.ensures seen.owed o.items o.end o.read in
    subst (λ (s : Section). Gathers c.take_codes.new.self (with_section p s)) o.made (c.take_codes.ensures p o.items found.1.0 found.1.1 h)
