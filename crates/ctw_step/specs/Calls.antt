-- Calls of functions.
use Rattle.std.specs.Prelude.{◌≡◌, false, ℕ, List, [], ◌∷◌, ◌++◌, length, replicate, Some, is_some, slice_get}
use Rattle.ctw_ops.specs.declared.types.Label.{Label}
use Rattle.ctw_ops.specs.Code.{ByEnd}
use Rattle.ctw_ops.specs.Segments.{segment}
use Rattle.ctw_flat.specs.Positions.{At}
use Rattle.ctw_ops.specs.Types.{FunctionType}
use Rattle.ctw_ops.specs.Tree.{Function}
use Rattle.ctw_flat.specs.Spelled.{IsLimitedBody}
use Rattle.ctw_semantics.specs.Instances.{FunctionInstance, Functions}
use Rattle.ctw_step.specs.declared.calls.Callee.{Callee}
use Rattle.ctw_step.specs.declared.running.Opened.{Opened}
use Rattle.ctw_step.specs.Shown.{Shown}
use Rattle.ctw_step.specs.Stands.{Codes}
use Rattle.ctw_step.specs.Told.{Knowing}

-- a function's own label, above operands
abbrev pub own_label : Callee → List ℕ → Opened
own_label callee front =
    record { height = length front; after = 0; start = 0; has_result = callee.has_result; is_loop = false }

-- with one frame more: the arguments and a zero for each declared local, the function's own label, and where the caller
-- goes on
abbrev pub with_frame : Shown → List ℕ → List ℕ → Callee → ℕ → Shown
with_frame c front args callee next = record {
  operands = front;
  locals = c.locals ++ (args ++ replicate callee.declared 0);
  labels = c.labels ++ own_label callee front ∷ [];
  frames =
      c.frames ++ record { func = callee.func; back = next; locals = length c.locals; labels = length c.labels } ∷ [];
  at = 0;
}

-- what a call knows of a function is so
pub record IsCallee (codes : Codes) (fns : Functions) (callee : Callee) (fn : FunctionInstance) : Type 0 where
  pub found : slice_get fns callee.func ≡ Some fn
  pub params : callee.params ≡ length fn.type.params
  pub declared : callee.declared ≡ length fn.locals
  pub has_result : callee.has_result ≡ is_some fn.type.result
  pub starts : At (codes callee.func) 0 (segment fn.body ByEnd ∷ [])

-- an index leads to this function
abbrev pub Calls : ℕ → Callee → Knowing
Calls index callee codes fns fn =
    (slice_get fn.part.functions index ≡ Some callee.func) × (target : FunctionInstance)
    × IsCallee codes fns callee target

-- what a call knows of a defined function of this type, whose code these bytes spell
pub record Knows (code : List ℕ) (type : FunctionType Label) (f : Function Label) (callee : Callee) : Type 0 where
  pub params : callee.params ≡ length type.params
  pub declared : callee.declared ≡ length f.locals
  pub has_result : callee.has_result ≡ is_some type.result
  pub spelled : IsLimitedBody code f.body

-- nothing runs yet, and these operands stand there
abbrev pub nothing : List ℕ → Shown
nothing operands = record { operands = operands; locals = []; labels = []; frames = []; at = 0 }
