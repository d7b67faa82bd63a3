use Rattle.std.proofs.Common.{◌∙◌, get_or, length, ap, take, arith}
use Rattle.ctw_ops.specs.declared.types.ExternTag.TheVariants.{Func, Table, Memory, Global}
use Rattle.ctw_link.specs.Sets.{part_in, set_of, defined, defined_in}
use Rattle.ctw_link.proofs.Totals.{part_at, imports_count, room, numbered, numbers_more, adds_same, total_more}
use Rattle.ctw_link.proofs.numbers.Numbering.add.Goals as goal

pub defined_functions-functions-requires : goal.defined_functions-functions-requires
defined_functions-functions-requires c =
    let at = part_at c.args.parts.now c.args.part c.index-parts-part.result c.requires.there in
    ap length c.of.ensures ∙ imports_count (set_of c.args.parts.now) c.args.part _ c.args.numbers Func c.requires.imports at

pub defined_globals-globals-requires : goal.defined_globals-globals-requires
defined_globals-globals-requires c =
    let at = part_at c.args.parts.now c.args.part c.index-parts-part.result c.requires.there in
    ap length c.of-2.ensures ∙ imports_count (set_of c.args.parts.now) c.args.part _ c.args.numbers Global c.requires.imports at

pub push_from-requires : goal.push_from-requires
push_from-requires c =
    let r = room c.args.parts.now c.args.part _ c.requires.parts (part_at c.args.parts.now c.args.part c.index-parts-part.result c.requires.there) in
    omega (arith, r.functions, c.requires.before.functions, c.defined_functions-functions.ensures)

pub push_from-requires-2 : goal.push_from-requires-2
push_from-requires-2 c =
    let r = room c.args.parts.now c.args.part _ c.requires.parts (part_at c.args.parts.now c.args.part c.index-parts-part.result c.requires.there) in
    omega (arith, r.tables, c.requires.before.tables, c.defined_tables-tables.ensures)

pub push_from-requires-3 : goal.push_from-requires-3
push_from-requires-3 c =
    let r = room c.args.parts.now c.args.part _ c.requires.parts (part_at c.args.parts.now c.args.part c.index-parts-part.result c.requires.there) in
    omega (arith, r.memories, c.requires.before.memories, c.defined_memories-memories.ensures)

pub push_from-requires-4 : goal.push_from-requires-4
push_from-requires-4 c =
    let r = room c.args.parts.now c.args.part _ c.requires.parts (part_at c.args.parts.now c.args.part c.index-parts-part.result c.requires.there) in
    omega (arith, r.globals, c.requires.before.globals, c.defined_globals-globals.ensures)

pub overflow_add-self : goal.overflow_add-self
overflow_add-self c =
    let r = room c.args.parts.now c.args.part _ c.requires.parts (part_at c.args.parts.now c.args.part c.index-parts-part.result c.requires.there) in
    omega (arith, r.functions, c.requires.before.functions, c.defined_functions-functions.ensures)

pub overflow_add-self-2 : goal.overflow_add-self-2
overflow_add-self-2 c =
    let r = room c.args.parts.now c.args.part _ c.requires.parts (part_at c.args.parts.now c.args.part c.index-parts-part.result c.requires.there) in
    omega (arith, r.tables, c.requires.before.tables, c.defined_tables-tables.ensures)

pub overflow_add-self-3 : goal.overflow_add-self-3
overflow_add-self-3 c =
    let r = room c.args.parts.now c.args.part _ c.requires.parts (part_at c.args.parts.now c.args.part c.index-parts-part.result c.requires.there) in
    omega (arith, r.memories, c.requires.before.memories, c.defined_memories-memories.ensures)

pub overflow_add-self-4 : goal.overflow_add-self-4
overflow_add-self-4 c =
    let r = room c.args.parts.now c.args.part _ c.requires.parts (part_at c.args.parts.now c.args.part c.index-parts-part.result c.requires.there) in
    omega (arith, r.globals, c.requires.before.globals, c.defined_globals-globals.ensures)

pub returns : goal.returns
returns c =
    let set = set_of c.args.parts.now in
    let part = c.args.part in
    let p = part_in (get_or c.args.parts.now part c.index-parts-part.result) in
    let at = part_at c.args.parts.now part c.index-parts-part.result c.requires.there in
    let before = c.requires.before in
    let functions = adds_same c.args.numbers c.push_from.new.self Func _ _ (defined Func (take part set)) (defined_in Func p.tree) before.functions c.defined_functions-functions.ensures c.in_ok-push_from.ensures in
    let tables = adds_same c.push_from.new.self c.push_from-2.new.self Table _ _ (defined Table (take part set)) (defined_in Table p.tree) before.tables c.defined_tables-tables.ensures c.in_ok-push_from-2.ensures in
    let memories = adds_same c.push_from-2.new.self c.push_from-3.new.self Memory _ _ (defined Memory (take part set)) (defined_in Memory p.tree) before.memories c.defined_memories-memories.ensures c.in_ok-push_from-3.ensures in
    let globals = adds_same c.push_from-3.new.self c.push_from-4.new.self Global _ _ (defined Global (take part set)) (defined_in Global p.tree) before.globals c.defined_globals-globals.ensures c.in_ok-push_from-4.ensures in
    let n = numbered set part p c.args.numbers c.push_from.new.self c.push_from-2.new.self c.push_from-3.new.self c.push_from-4.new.self at c.requires.imports functions tables memories globals in
    record {
      parts = numbers_more set part p c.args.self.now.parts.items c.push.new.self.items c.push_from-4.new.self at n before.parts c.in_ok-push.ensures.items;
      functions = total_more Func set part p c.args.self.now.functions c.defined_functions-functions.result at before.functions c.defined_functions-functions.ensures;
      tables = total_more Table set part p c.args.self.now.tables c.defined_tables-tables.result at before.tables c.defined_tables-tables.ensures;
      memories = total_more Memory set part p c.args.self.now.memories c.defined_memories-memories.result at before.memories c.defined_memories-memories.ensures;
      globals = total_more Global set part p c.args.self.now.globals c.defined_globals-globals.result at before.globals c.defined_globals-globals.ensures;
    }
