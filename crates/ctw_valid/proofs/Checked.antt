-- What the answer of a check of a body says of the body's function.
use Rattle.std.proofs.Common.{◌≡◌, ℕ, List, Some, None, Result, Ok, Err, inl, inr, refl, sym, ◌∙◌, subst, rules}
use Rattle.std.specs.Prelude.{◌≢◌, OnOk, IfErr, IsOkUnless}
use Rattle.ctw_ops.specs.declared.types.Label.{Label}
use Rattle.ctw_ops.specs.Code.{Code}
use Rattle.ctw_ops.specs.Tree.{Module, Function}
use Rattle.ctw_ops.specs.Bodies.{context_of, HasItsType}
use Rattle.ctw_ops.specs.Typing.{Context}
use Rattle.ctw_flat.specs.Spelled.{IsBody, IsLimitedBody}
use Rattle.ctw_valid.specs.declared.fault.BodyFault.{BodyFault}
use Rattle.ctw_valid.specs.declared.fault.BodyFault.TheVariants.{NoMemory}
use Rattle.ctw_valid.specs.Faults.{body_fault}
use Rattle.ctw_valid.specs.Answers.{NamesTheStop, Applies, Checks}
use Rattle.ctw_valid.proofs.FaultLaws.{typed_iff, names_the_stop, applies}

-- the answer of a check of the body that some bytes spell
pub checked : (m : Module Label) (C : Context Label) (bytes : List ℕ) (named function : Function Label) (r : Result (Unit {0}) BodyFault) → C ≡ context_of m function → named ≡ function → IsLimitedBody bytes named.body
    → ((code : Code Label) → IsBody bytes code → Checks C code r) → Checks (context_of m function) function.body r
checked m C bytes named function r e n b h = subst (λ D. Checks D function.body r) e (h function.body (subst (λ (g : Function Label). IsBody bytes g.body) n b.0))

none_some : {A : Type 0} {P : Type 0} {x : A} → None ≡ Some x → P
none_some e = cc

module _ (m : Module Label) (function : Function Label) where
  pub sound : (r : Result (Unit {0}) BodyFault) → Checks (context_of m function) function.body r → OnOk r (HasItsType m function)
  sound (Ok u) h = (typed_iff (context_of m function) refl function.body).0 h
  sound (Err e) h = tt

  pub complete : (r : Result (Unit {0}) BodyFault) → Checks (context_of m function) function.body r → HasItsType m function → IsOkUnless r NoMemory
  complete (Ok u) h t = search rules
  complete (Err e) h t =
      elim h [
        | inl q ↦ q
        | inr q ↦ none_some (sym ((typed_iff (context_of m function) refl function.body).1 t) ∙ q)
      ]

  pub fault_is : (r : Result (Unit {0}) BodyFault) → Checks (context_of m function) function.body r → IfErr r (λ e. e ≢ NoMemory → body_fault m function ≡ Some e)
  unfolding body_fault
  fault_is (Ok u) h = tt
  fault_is (Err e) h = λ n. elim h [ inl q ↦ absurd (n q) | inr q ↦ q ]

  pub at_is : (r : Result (Unit {0}) BodyFault) → Checks (context_of m function) function.body r → IfErr r (λ e. NamesTheStop (context_of m function) function.body e)
  at_is (Ok u) h = tt
  at_is (Err e) h =
      elim h [
        | inl q ↦ subst (NamesTheStop (context_of m function) function.body) (sym q) tt
        | inr q ↦ names_the_stop (context_of m function) refl function.body e q
      ]

  pub it_applies : (r : Result (Unit {0}) BodyFault) → Checks (context_of m function) function.body r → IfErr r (λ e. Applies (context_of m function) function.body e)
  it_applies (Ok u) h = tt
  it_applies (Err e) h =
      elim h [
        | inl q ↦ subst (Applies (context_of m function) function.body) (sym q) (record { says = tt; first = tt })
        | inr q ↦ applies (context_of m function) refl function.body e q
      ]
