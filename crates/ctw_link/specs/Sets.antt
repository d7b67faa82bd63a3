-- Sets of modules under names, in the order in which they are linked.
use Rattle.std.specs.Prelude.{ℕ, List, map, length, sum_by, All, Option, Some, None}
use Rattle.ctw_ops.specs.declared.types.Label.{Label}
use Rattle.ctw_ops.specs.declared.types.ExternTag.{ExternTag}
use Rattle.ctw_ops.specs.declared.types.ExternTag.TheVariants.{Func, Table, Memory, Global}
use Rattle.ctw_ops.specs.Tree.{Module}
use Rattle.ctw_ops.specs.WithinLimits.{IsWithinLimits}
use Rattle.ctw_module.specs.Trees.{view_module}
use Rattle.ctw_link.specs.declared.set.Part.{Part}

-- a module under the name by which others import from it
pub record NamedModule : Type 0 where
  pub name : List ℕ
  pub tree : Module Label

abbrev pub ModuleSet : Type 0
ModuleSet = List NamedModule

-- each of the modules keeps the limits that every module of a file keeps
abbrev pub AllWithinLimits : ModuleSet → Type 0
AllWithinLimits set = All (λ p. IsWithinLimits p.tree) set

-- what a part stands for
abbrev pub part_in : Part → NamedModule
part_in part = record { name = part.name; tree = view_module part.«module» }

abbrev pub set_of : List Part → ModuleSet
set_of parts = map part_in parts

-- how many things of a kind a module defines
abbrev pub one_or_none : {A : Type 0} → Option A → ℕ
one_or_none None = 0
one_or_none (Some a) = 1

abbrev pub defined_in : ExternTag → Module Label → ℕ
defined_in Func m = length m.functions
defined_in Table m = one_or_none m.table
defined_in Memory m = one_or_none m.memory
defined_in Global m = length m.globals

-- how many a set defines
abbrev pub defined : ExternTag → ModuleSet → ℕ
defined tag set = sum_by (λ p. defined_in tag p.tree) set
