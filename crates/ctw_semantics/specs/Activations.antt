-- Running calls: labels and frames (W3C WebAssembly Core 1.0, section 4.2.12), and what they weigh.
use Rattle.std.specs.Prelude.{ℕ, ◌+◌, List, [], ◌∷◌, length, Option}
use Rattle.ctw_ops.specs.declared.types.Label.{Label}
use Rattle.ctw_ops.specs.Types.{ValueType}
use Rattle.ctw_ops.specs.Code.{Code}
use Rattle.ctw_semantics.specs.Values.{Value}

-- An open block, loop, arm or body: its operand values, the last one first, the instructions still to run, its
-- result's type, and for a loop the instructions to run again.
pub record Open : Type 0 where
  pub values : List Value
  pub code : Code Label
  pub result : Option (ValueType Label)
  pub again : Option (Code Label)

-- a running function by its number, its locals with the parameters first, and its open labels, innermost first
pub record Frame : Type 0 where
  pub func : ℕ
  pub locals : List Value
  pub labels : List Open

-- one running call: its frames, innermost first
abbrev pub Activation : Type 0
Activation = List Frame

-- operand values and open blocks, loops and ifs: each label but the outermost, which is the body's own
abbrev pub labels_weight : List Open → ℕ
labels_weight [] = 0
labels_weight (o ∷ []) = length o.values
labels_weight (o ∷ os) = length o.values + 1 + labels_weight os

-- the number of operand values, locals with parameters, open blocks, loops and ifs, and frames
abbrev pub weight : Activation → ℕ
weight [] = 0
weight (f ∷ fs) = 1 + length f.locals + labels_weight f.labels + weight fs
