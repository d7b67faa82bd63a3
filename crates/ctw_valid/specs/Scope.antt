-- What the body of a function may name.
use Rattle.std.specs.Prelude.{List, [], ◌∷◌, map, Option, option_map, is_some, Bool}
use Rattle.ctw_ops.specs.declared.types.Label.{Label}
use Rattle.ctw_ops.specs.declared.types.Label.TheVariants.{Public, Secret}
use Rattle.ctw_ops.specs.Types.{ValueType, FunctionType, VariableType}
use Rattle.ctw_ops.specs.Tree.{memory_among, table_among, function_entries, global_types, function_types, type_named}
use Rattle.ctw_ops.specs.Typing.{Context}
use Rattle.ctw_module.specs.Trees.{tree}
use Rattle.ctw_module.specs.Lookup.{locals_named}
use Rattle.ctw_valid.specs.declared.around.Around.{Around}

unfoldable pub types_of : Around → List (FunctionType Label)
types_of a = function_types (tree a.whole.now)

unfoldable pub functions_of : Around → List (FunctionType Label)
functions_of a = map (type_named (tree a.whole.now)) (function_entries (tree a.whole.now))

unfoldable pub globals_of : Around → List (VariableType Label)
globals_of a = global_types (tree a.whole.now)

unfoldable pub locals_of : Around → List (ValueType Label)
locals_of a = locals_named (tree a.whole.now) a.f

unfoldable pub memory_of : Around → Option Label
memory_of a = option_map (λ memory. memory.tag) (memory_among (tree a.whole.now).imports (tree a.whole.now).memory)

unfoldable pub table_of : Around → Bool
table_of a = is_some (table_among (tree a.whole.now).imports (tree a.whole.now).table)

-- inside blocks with these labels
abbrev pub scope : Around → List (Option (ValueType Label)) → Context Label
scope a labels = record {
  types = types_of a;
  functions = functions_of a;
  globals = globals_of a;
  locals = locals_of a;
  memory = memory_of a;
  table = table_of a;
  trust = a.trust;
  result = a.result;
  labels = labels;
  public = Public;
  secret = Secret;
  profile = a.profile;
}

-- inside the body alone
abbrev pub scope_of_body : Around → Context Label
scope_of_body a = scope a (a.result ∷ [])
