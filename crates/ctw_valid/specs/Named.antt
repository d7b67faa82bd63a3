-- Functions with their types.
use Rattle.std.specs.Prelude.{All}
use Rattle.ctw_ops.specs.declared.types.Label.{Label}
use Rattle.ctw_ops.specs.Tree.{Module, function_entries}
use Rattle.ctw_ops.specs.Valid.{Names}

-- each function's type is there
abbrev pub AreTyped : Module Label → Type 0
AreTyped m = All (Names m.types) (function_entries m)
