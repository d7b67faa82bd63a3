use Rattle.std.proofs.Common.{arith}
use Rattle.ctw_form.proofs.OneOfEach.{at_most_one}
use Rattle.ctw_module.specs.Trees.{tree}
use Rattle.ctw_module.proofs.Functions.{view_at}
use Rattle.ctw_module.proofs.Imported.{tables_imported, memories_imported, few_imported}
use Rattle.ctw_module.proofs.module.Module.imported_count.Goals as goal

pub overflow_cast-result : goal.overflow_cast-result
overflow_cast-result c =
    let h = view_at c.self.inside c.args.self.now c.self.invariant c.self.view_is in
    record { fits = omega (arith, h.imported, (few_imported c.args.self.now h.short h.spelled).0) }

pub overflow_cast-result-in-Global : goal.overflow_cast-result-in-Global
overflow_cast-result-in-Global c =
    let h = view_at c.self.inside c.args.self.now c.self.invariant c.self.view_is in
    record { fits = omega (arith, h.imported_globals, (few_imported c.args.self.now h.short h.spelled).1) }

pub returns-in-Table : goal.returns-in-Table
returns-in-Table c =
    let h = view_at c.self.inside c.args.self.now c.self.invariant c.self.view_is in
    let m = tree c.args.self.now in
    let e = tables_imported m.imports m.table (at_most_one c.args.self.now.bytes m h.spelled).0 in
    rw (c.in-Table.is, c.only_imported.ensures, c.is_some.ensures, c.is_some-in-Table.ensures, h.table, h.defined_table) e

pub returns-in-Memory : goal.returns-in-Memory
returns-in-Memory c =
    let h = view_at c.self.inside c.args.self.now c.self.invariant c.self.view_is in
    let m = tree c.args.self.now in
    let e = memories_imported m.imports m.memory (at_most_one c.args.self.now.bytes m h.spelled).1 in
    rw (c.in-Memory.is, c.only_imported-in-Memory.ensures, c.is_some-in-Memory.ensures, c.is_some-in-Memory-2.ensures, h.memory, h.defined_memory) e
