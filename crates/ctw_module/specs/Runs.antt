-- The runs of locals that a view keeps of a function.
use Rattle.std.specs.Prelude.{◌≡◌, ◌≤◌, ℕ, Some, List, length}
use Rattle.ctw_ops.specs.declared.types.Label.{Label}
use Rattle.ctw_ops.specs.Tree.{Module, Function}
use Rattle.ctw_ops.specs.Limits.{most_locals}
use Rattle.ctw_form.specs.declared.slots.LocalRun.{LocalRun}
use Rattle.ctw_form.specs.Sections.{Group, locals_of}
use Rattle.ctw_form.specs.Slots.{runs_behind}
use Rattle.ctw_module.specs.Lookup.{function_named}

-- these runs are a function's: those of groups with its declared locals, within the limit
pub record IsRunsOf (m : Module Label) (index : ℕ) (runs : List LocalRun) : Type 0 where
  pub groups : List Group
  pub same : runs ≡ runs_behind 0 groups
  pub locals : (function : Function Label) → function_named m index ≡ Some function → locals_of groups ≡ function.locals
  pub few : length (locals_of groups) ≤ most_locals
