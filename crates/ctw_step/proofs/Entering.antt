-- Calls that begin.
use Rattle.std.proofs.Common.{◌≡◌, ℕ, List, [], ◌∷◌, ◌++◌, map, refl, sym, ap₂, ◌∙◌, subst, arith}
use Rattle.std.proofs.lemmas.List.{map-append}
use Rattle.ctw_ops.specs.Code.{ByEnd}
use Rattle.ctw_ops.specs.Segments.{segment}
use Rattle.ctw_flat.specs.Positions.{At}
use Rattle.ctw_semantics.specs.Values.{Value, zero_of}
use Rattle.ctw_semantics.specs.Instances.{FunctionInstance, Functions}
use Rattle.ctw_semantics.specs.Machine.{begun}
use Rattle.ctw_step.specs.declared.calls.Callee.{Callee}
use Rattle.ctw_step.specs.declared.running.Caller.{Caller}
use Rattle.ctw_step.specs.Shown.{Shown}
use Rattle.ctw_step.specs.Calls.{IsCallee, own_label, with_frame, nothing}
use Rattle.ctw_step.specs.Stands.{Codes, number_of, Stands}
use Rattle.ctw_step.proofs.CallLaws.{zeros}

pub begun_stands : (codes : Codes) (fns : Functions) (callee : Callee) (fn : FunctionInstance) (args : List ℕ) (vs : List Value) (func : ℕ) → callee.func ≡ func → IsCallee codes fns callee fn → map number_of vs ≡ args
    → (c : Shown) → c ≡ with_frame (nothing args) [] args callee 0 → Stands codes c (begun func fn vs)
begun_stands codes fns callee fn args vs func ef k ev c e =
    subst (λ (c : Shown). Stands codes c (begun func fn vs)) (sym e) (
    let frame : Caller = record { func = callee.func; back = 0; locals = 0; labels = 0 } in
    record {
      records = record { frame = frame; labels = own_label callee [] ∷ [] } ∷ [];
      operands = refl;
      locals = ap₂ (λ (x y : List ℕ). x ++ y) (sym ev) (sym (zeros fn.locals callee.declared k.declared)) ∙ sym (map-append number_of vs (map zero_of fn.locals));
      labels = refl;
      frames = refl;
      places = (
        record {
          func = ef;
          locals = refl;
          below = refl;
          some = omega arith;
          labels = (record { code = record { closer = ByEnd; tail = []; stands = subst (λ f. At (codes f) 0 (segment fn.body ByEnd ∷ [])) ef k.starts }; height = refl; has_result = k.has_result; again = refl }, tt);
        },
        tt,
      );
    })
