-- What runs, as plain data: functions with the indexes of their modules resolved (W3C WebAssembly Core 1.0, sections
-- 4.2.5 and 4.2.6).
use Rattle.std.specs.Prelude.{ℕ, List, Option}
use Rattle.ctw_ops.specs.declared.types.Label.{Label}
use Rattle.ctw_ops.specs.declared.numeric.Profile.{Profile}
use Rattle.ctw_ops.specs.Types.{ValueType, FunctionType}
use Rattle.ctw_ops.specs.Tree.{TypeEntry}
use Rattle.ctw_ops.specs.Code.{Code}

-- a module instance: its profile, its type entries, and for each index the number in the store that it leads to
pub record ModuleInstance : Type 0 where
  pub profile : Profile
  pub types : List (TypeEntry Label)
  pub functions : List ℕ
  pub globals : List ℕ
  pub memory : Option ℕ
  pub table : Option ℕ

-- a function instance: where its indexes lead, its type, its declared locals' types and its instructions
pub record FunctionInstance : Type 0 where
  pub part : ModuleInstance
  pub type : FunctionType Label
  pub locals : List (ValueType Label)
  pub body : Code Label

-- the functions of a linked set, by their numbers in the store
abbrev pub Functions : Type 0
Functions = List FunctionInstance
