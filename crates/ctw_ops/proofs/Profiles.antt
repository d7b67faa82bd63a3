-- What doesn't depend on a module's profile.
use Rattle.ctw_ops.specs.declared.types.Label.{Label}
use Rattle.ctw_ops.specs.declared.numeric.Profile.{Profile}
use Rattle.ctw_ops.specs.Tree.{Module, under}
use Rattle.ctw_ops.specs.Plain.{IsPlainModule}
use Rattle.ctw_ops.specs.Valid.{IsFormed}

pub plain_under : (p : Profile) (m : Module Label) → IsPlainModule m → IsPlainModule (under p m)
plain_under p m h = record {
  types = h.types;
  imports = h.imports;
  functions = h.functions;
  memory = h.memory;
  globals = h.globals;
  elements = h.elements;
  segments = h.segments;
}

pub formed_under : (p : Profile) (m : Module Label) → IsFormed m → IsFormed (under p m)
formed_under p m h = record {
  tables = h.tables;
  memories = h.memories;
  globals = h.globals;
  elements = h.elements;
  segments = h.segments;
  plain = λ c. plain_under p m (h.plain c);
}
