-- What a module gives a machine: for linking, whose sets are made of such functions.
use Rattle.std.specs.Prelude.{map, option_map}
use Rattle.ctw_ops.specs.declared.types.Label.{Label}
use Rattle.ctw_ops.specs.Tree.{Module, Function, function_entries, global_types, memory_among, type_named}
use Rattle.ctw_semantics.specs.Instances.{ModuleInstance, FunctionInstance}
use Rattle.ctw_semantics.specs.Sound.{IndexTypes}

-- the instance of a function that a module defines, in an instance of the module, with its type entries and its profile
abbrev pub instance_of : ModuleInstance → Module Label → Function Label → FunctionInstance
instance_of part m f = record {
  part = record part { types = m.types; profile = m.profile };
  type = type_named m f.type;
  locals = f.locals;
  body = f.body;
}

-- the types of what a module's indexes lead to
abbrev pub index_types : Module Label → IndexTypes
index_types m = record {
  functions = map (type_named m) (function_entries m);
  globals = global_types m;
  memory = option_map (λ memory. memory.tag) (memory_among m.imports m.memory);
}
