use Rattle.ctw_module.specs.Trees.{tree, parts}
use Rattle.ctw_module.proofs.module.Module.with_profile.Goals as goal

pub invariant_of-result : goal.invariant_of-result
unfolding tree parts
invariant_of-result c =
    let h = c.self.invariant in
    record {
      octets = h.octets;
      short = h.short;
      spelled = h.spelled;
      ct = h.ct;
      types = h.types;
      imports = h.imports;
      functions = h.functions;
      imported = h.imported;
      imported_globals = h.imported_globals;
      codes = h.codes;
      runs = h.runs;
      globals = h.globals;
      inits = h.inits;
      memory = h.memory;
      table = h.table;
      defined_memory = h.defined_memory;
      defined_table = h.defined_table;
      exports = h.exports;
      names = h.names;
      start = h.start;
      elements = h.elements;
      element_functions = h.element_functions;
      segments = h.segments;
      customs = h.customs;
    }
