-- Trust is kept: no untrusted function calls a trusted one, and no table holds one.
use Rattle.std.specs.Prelude.{◌≡◌, ℕ, ◌+◌, false, List, [], ◌∷◌, length}
use Rattle.std.specs.List.{AllByRecursion}
use Rattle.ctw_ops.specs.declared.types.Label.{Label}
use Rattle.ctw_ops.specs.Tree.{Module, Function, imported_functions}
use Rattle.ctw_labels.specs.Points.{Points, has_number, trust_at, KeepsCode}

-- functions from number `k` on
abbrev pub KeepFunctions : Points → ℕ → List (Function Label) → Type 0
KeepFunctions p k [] = Unit {0}
KeepFunctions p k (f ∷ fs) = KeepsCode p (trust_at p k) f.body × KeepFunctions p (k + 1) fs

pub record IsKept (m : Module Label) (p : Points) : Type 0 where
  pub calls : KeepFunctions p (length (imported_functions m.imports)) m.functions
  pub tables : AllByRecursion (λ e. AllByRecursion (λ f. has_number f p.trusted ≡ false) e.functions) m.elements
