use Rattle.std.proofs.Common.{ℕ, refl, ap, sym}
use Rattle.ctw_ops.specs.declared.fault.What.TheVariants as what
use Rattle.ctw_form.specs.declared.table.Held.{Held}
use Rattle.ctw_form.specs.Sections.{TypeSection, ImportSection, FunctionSection, TableSection, MemorySection, GlobalSection, ExportSection, StartSection, ElementSection, CodeSection, DataSection, CustomSection}
use Rattle.ctw_form.specs.Spelled.{room}
use Rattle.ctw_form.specs.Read.{number_at, vector_at, vector_upto_at, type_entry_at, imports_at, table_at, memory_at, global_at, export_at, element_at, codes_at, segment_at, insides_at}
use Rattle.ctw_read.proofs.FileLoops.{only_read, custom_read}
use Rattle.ctw_read.proofs.sections.items.Goals as goal

pub returns-in_ok-name-in-Custom : goal.returns-in_ok-name-in-Custom
returns-in_ok-name-in-Custom c =
    let name = c.in_ok-name-in-Custom.field-0.now in
    (CustomSection name c.name.new.cursor.rest, rw c.in-Custom.is (custom_read c.args.ct c.args.seen c.args.cursor.now c.name.new.cursor c.pass.new.cursor name c.in_ok-name-in-Custom.ensures c.pass.ensures), refl)

pub returns-in_ok-types-in-Types : goal.returns-in_ok-types-in-Types
unfolding insides_at
returns-in_ok-types-in-Types c =
    let e = c.in_ok-types-in-Types.ensures in
    (TypeSection e.0, rw c.in-Types.is (only_read TypeSection (vector_at (type_entry_at c.args.ct)) c.args.cursor.now c.types.new.cursor e.0 e.1), c.behind.ensures)

pub returns-in_ok-held-in-Imports : goal.returns-in_ok-held-in-Imports
unfolding insides_at
returns-in_ok-held-in-Imports c =
    let e = c.in_ok-held-in-Imports.ensures in
    (ImportSection e.0, rw c.in-Imports.is (only_read ImportSection (imports_at c.args.ct) c.args.cursor.now c.imports.new.cursor e.0 e.1), ap (λ (h : Held). record { last = 2; owed = c.args.seen.owed; held = h }) e.2)

pub returns-in_ok-owed-in-Functions : goal.returns-in_ok-owed-in-Functions
unfolding insides_at
returns-in_ok-owed-in-Functions c =
    let e = c.in_ok-owed-in-Functions.ensures in
    (FunctionSection e.0, rw c.in-Functions.is (only_read FunctionSection (vector_at number_at) c.args.cursor.now c.indexes.new.cursor e.0 e.1), ap (λ (n : ℕ). record { last = 3; owed = n; held = c.args.seen.held }) (sym e.2))

pub returns-in_ok-tables-in-Tables : goal.returns-in_ok-tables-in-Tables
unfolding insides_at
returns-in_ok-tables-in-Tables c =
    let e = c.in_ok-tables-in-Tables.ensures in
    (TableSection e.0, rw c.in-Tables.is (only_read TableSection (vector_upto_at (room c.args.seen.held.table) what.Tables 1 table_at) c.args.cursor.now c.tables.new.cursor e.0 e.1), c.behind-in-Tables.ensures)

pub returns-in_ok-memories-in-Memories : goal.returns-in_ok-memories-in-Memories
unfolding insides_at
returns-in_ok-memories-in-Memories c =
    let e = c.in_ok-memories-in-Memories.ensures in
    (MemorySection e.0, rw c.in-Memories.is (only_read MemorySection (vector_upto_at (room c.args.seen.held.memory) what.Memories 1 (memory_at c.args.ct)) c.args.cursor.now c.memories.new.cursor e.0 e.1), c.behind-in-Memories.ensures)

pub returns-in_ok-globals-in-Globals : goal.returns-in_ok-globals-in-Globals
unfolding insides_at
returns-in_ok-globals-in-Globals c =
    let e = c.in_ok-globals-in-Globals.ensures in
    (GlobalSection e.0, rw c.in-Globals.is (only_read GlobalSection (vector_at (global_at c.args.ct)) c.args.cursor.now c.globals.new.cursor e.0 e.1), c.behind-in-Globals.ensures)

pub returns-in_ok-exports-in-Exports : goal.returns-in_ok-exports-in-Exports
unfolding insides_at
returns-in_ok-exports-in-Exports c =
    let e = c.in_ok-exports-in-Exports.ensures in
    (ExportSection e.0, rw c.in-Exports.is (only_read ExportSection (vector_at export_at) c.args.cursor.now c.exports.new.cursor e.0 e.1), c.behind-in-Exports.ensures)

pub returns-in_ok-number-in-Start : goal.returns-in_ok-number-in-Start
unfolding insides_at
returns-in_ok-number-in-Start c =
    (StartSection c.in_ok-number-in-Start.field-0, rw c.in-Start.is (only_read StartSection (number_at) c.args.cursor.now c.number.new.cursor c.in_ok-number-in-Start.field-0 c.in_ok-number-in-Start.ensures), c.behind-in-Start.ensures)

pub returns-in_ok-elements-in-Elements : goal.returns-in_ok-elements-in-Elements
unfolding insides_at
returns-in_ok-elements-in-Elements c =
    let e = c.in_ok-elements-in-Elements.ensures in
    (ElementSection e.0, rw c.in-Elements.is (only_read ElementSection (vector_at (element_at c.args.ct)) c.args.cursor.now c.elements.new.cursor e.0 e.1), c.behind-in-Elements.ensures)

pub returns-in_ok-codes-in-Codes : goal.returns-in_ok-codes-in-Codes
unfolding insides_at
returns-in_ok-codes-in-Codes c =
    let e = c.in_ok-codes-in-Codes.ensures in
    (CodeSection e.0, rw c.in-Codes.is (only_read CodeSection (codes_at c.args.ct c.args.seen.owed) c.args.cursor.now c.codes.new.cursor e.0 e.1), refl)

pub returns-in_ok-segments-in-Segments : goal.returns-in_ok-segments-in-Segments
unfolding insides_at
returns-in_ok-segments-in-Segments c =
    let e = c.in_ok-segments-in-Segments.ensures in
    (DataSection e.0, rw c.in-Segments.is (only_read DataSection (vector_at (segment_at c.args.ct)) c.args.cursor.now c.segments.new.cursor e.0 e.1), c.behind-in-Segments.ensures)
