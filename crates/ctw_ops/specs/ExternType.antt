-- The types of what modules import and export (W3C WebAssembly Core 1.0, section 2.3.8).
use Rattle.std.specs.Prelude.{ℕ}
use Rattle.ctw_ops.specs.declared.types.Limits.{Limits}
use Rattle.ctw_ops.specs.Types.{FunctionType, VariableType, MemoryType}

-- a function's type stands beside the type entry that names it
pub data ExternType (S : Type 0) : Type 0 where
  Func : (entry : ℕ) (type : FunctionType S) → ExternType S
  Table : (limits : Limits) → ExternType S
  Memory : (type : MemoryType S) → ExternType S
  Global : (type : VariableType S) → ExternType S
