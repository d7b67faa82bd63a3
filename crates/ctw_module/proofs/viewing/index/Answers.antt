use Rattle.std.proofs.Common.{◌≡◌, ◌-◌, List, length, map, ap, ◌∙◌, arith}
use Rattle.ctw_ops.specs.declared.types.Label.{Label}
use Rattle.ctw_ops.specs.Tree.{Import, memory_among, table_among}
use Rattle.ctw_module.specs.Trees.{Lent, tree, parts, view_of}
use Rattle.ctw_module.specs.Lookup.{export_in}
use Rattle.ctw_module.proofs.Indexing.{functions_made, imported_made, imported_globals_made, types_made, inits_made}
use Rattle.ctw_module.proofs.viewing.index.Goals as goal

pub invariant_of-result : goal.invariant_of-result
unfolding tree parts
invariant_of-result c =
    let lent : Lent = view_of c.args.bytes.now in
    let g = c.requires.gathers in
    let imports = c.deref.ensures.value ∙ g.imports in
    let uses = c.deref-2.ensures.value ∙ g.uses in
    let size : c.len.result - c.len-2.result ≡ length c.in_ok-functions.functions.items - length c.deref-2.result.now = omega (arith, c.len.ensures, c.len-2.ensures, c.deref-2.ensures.len) in
    let globals : c.len-3.result - c.len-4.result ≡ length c.in_ok-globals.globals.items - length c.deref-4.result.now = omega (arith, c.len-3.ensures, c.len-4.ensures, c.deref-4.ensures.len) in
    record {
      octets = c.requires.octets;
      short = c.requires.short;
      spelled = c.requires.spelled;
      ct = c.requires.ct;
      types = g.types;
      imports = g.imports;
      functions = functions_made lent c.deref.result.now c.deref-2.result.now c.in_ok-functions.functions.items c.requires.spelled imports uses c.in_ok-functions.ensures;
      imported = size ∙ imported_made lent c.deref.result.now c.deref-2.result.now c.in_ok-functions.functions.items imports c.in_ok-functions.ensures;
      imported_globals = globals ∙ imported_globals_made lent c.deref-3.result.now c.deref-4.result.now _ (c.deref-3.ensures.value ∙ g.imports) c.in_ok-globals.ensures.types;
      codes = g.codes;
      runs = g.runs;
      globals = types_made lent c.deref-3.result.now c.deref-4.result.now _ (c.deref-3.ensures.value ∙ g.imports) (ap (map _) c.deref-4.ensures.value ∙ g.globals) c.in_ok-globals.ensures.types;
      inits = inits_made lent c.deref-3.result.now c.deref-4.result.now _ (c.deref-3.ensures.value ∙ g.imports) (ap (map _) c.deref-4.ensures.value ∙ g.globals) c.in_ok-globals.ensures.inits;
      memory = c.memory_among.ensures ∙ ap (λ (l : List (Import Label)). memory_among l c.args.found.memory) (c.deref-6.ensures.value ∙ g.imports) ∙ ap (memory_among (parts lent).imports) g.memory;
      table = c.table_among.ensures ∙ ap (λ (l : List (Import Label)). table_among l c.args.found.table) (c.deref-7.ensures.value ∙ g.imports) ∙ ap (table_among (parts lent).imports) g.table;
      defined_memory = g.memory;
      defined_table = g.table;
      exports = g.exports;
      names = λ name. c.in_ok-names.ensures name ∙ ap (export_in name) (c.deref-5.ensures.value ∙ g.exports);
      start = g.start;
      elements = g.elements;
      element_functions = g.element_functions;
      segments = g.segments;
      customs = g.customs;
    }
