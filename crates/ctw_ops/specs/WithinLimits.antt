-- The limits that every module of a file keeps, whether it is valid or not.
use Rattle.std.specs.Prelude.{ℕ, ◌<◌, ◌≤◌, ◌^◌, length, All}
use Rattle.ctw_ops.specs.declared.types.Label.{Label}
use Rattle.ctw_ops.specs.Tree.{Module}
use Rattle.ctw_ops.specs.Limits.{most_params, most_locals}

abbrev pub IsOctet : ℕ → Type 0
IsOctet byte = byte < 2 ^ 8

-- at most 1,000 parameters in a type, at most 50,000 declared locals in a function, and bytes in the data segments
pub record IsWithinLimits (m : Module Label) : Type 0 where
  pub params : All (λ entry. length entry.type.params ≤ most_params) m.types
  pub locals : All (λ f. length f.locals ≤ most_locals) m.functions
  pub bytes : All (λ segment. All IsOctet segment.bytes) m.segments
