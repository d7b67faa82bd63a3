-- The typing of a function's body in its module (W3C WebAssembly Core 1.0, section 3.4.1).
use Rattle.std.specs.Prelude.{[], ◌∷◌, ◌++◌, option_map, map, is_some}
use Rattle.ctw_ops.specs.declared.types.Label.{Label}
use Rattle.ctw_ops.specs.declared.types.Label.TheVariants.{Public, Secret}
use Rattle.ctw_ops.specs.Tree.{Module, Function, memory_among, table_among, function_entries, global_types, function_types, type_named}
use Rattle.ctw_ops.specs.Typing.{Context, Typed, optional}

-- what the body of a function may name; its outermost label is its result
abbrev pub context_of : Module Label → Function Label → Context Label
context_of m f = record {
  types = function_types m;
  functions = map (type_named m) (function_entries m);
  globals = global_types m;
  locals = (type_named m f.type).params ++ f.locals;
  memory = option_map (λ memory. memory.tag) (memory_among m.imports m.memory);
  table = is_some (table_among m.imports m.table);
  trust = (type_named m f.type).trust;
  result = (type_named m f.type).result;
  labels = (type_named m f.type).result ∷ [];
  public = Public;
  secret = Secret;
  profile = m.profile;
}

-- the body has its function's type
abbrev pub HasItsType : Module Label → Function Label → Type 0
HasItsType m f = Typed (context_of m f) f.body [] (optional (type_named m f.type).result)
