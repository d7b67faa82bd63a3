-- The sequence of each open label is typed, and what leads to its place does so by every typing.
use Rattle.std.proofs.Common.{◌≡◌, suc, List, [], ◌∷◌, Option, Some, None, ⊎_elim, sym, ap, subst}
use Rattle.ctw_ops.specs.declared.types.Label.{Label}
use Rattle.ctw_ops.specs.Types.{ValueType}
use Rattle.ctw_ops.specs.Typing.{Context, Typed, optional, upon}
use Rattle.ctw_ops.specs.Code.{Code, Stop, Then, Block, Loop, If, IfElse, Closer}
use Rattle.ctw_semantics.specs.Instances.{FunctionInstance, Functions}
use Rattle.ctw_semantics.specs.Activations.{Open}
use Rattle.ctw_semantics.specs.Machine.{target_type}
use Rattle.ctw_semantics.specs.Places.{behind, Opens}
use Rattle.ctw_semantics.specs.Sound.{Shape, context, FunctionTyped, target_types}
use Rattle.ctw_unique.specs.ByBodies.{types_of, ClosedBy, OutsideHold, LabelsHold}
use Rattle.ctw_unique.proofs.Leading.{leads_last, leads_typed, leads_also}

abbrev InsideTyped : Context Label → Option (ValueType Label) → Option (Code Label) → Code Label → Type 0
InsideTyped C t again inside = Typed (record C { labels = target_type again t ∷ C.labels }) inside [] (optional t)

same_typed : (C : Context Label) (t u : Option (ValueType Label)) (again loop : Option (Code Label)) (inside arm : Code Label) → u ≡ t → again ≡ loop → inside ≡ arm → InsideTyped C u loop arm → InsideTyped C t again inside
same_typed C t u again loop inside arm p q r h =
    subst (λ t. InsideTyped C t again inside) p (subst (λ again. InsideTyped C u again inside) (sym q) (subst (λ inside. InsideTyped C u loop inside) (sym r) h))

-- what an instruction opens is typed if the instruction is
opened_typed : (C : Context Label) (c : Code Label) (closer : Closer) (t : Option (ValueType Label)) (again : Option (Code Label)) (inside rest : Code Label) (from to : List (ValueType Label)) → Opens c t again inside rest → ClosedBy closer c inside → Typed C c from to → InsideTyped C t again inside
opened_typed C Stop closer t again inside rest from to o k h = absurd o
opened_typed C (Then i r) closer t again inside rest from to o k h = absurd o
opened_typed C (Block u body r) closer t again inside rest from to o k h = same_typed C t u again None inside body o.0 o.1 o.2 h.0
opened_typed C (Loop u body r) closer t again inside rest from to o k h = same_typed C t u again (Some body) inside body o.0 o.1 o.2 h.0
opened_typed C (If u arm r) closer t again inside rest from to o k h =
    ⊎_elim (λ e. same_typed C t u again None inside arm o.0 o.1 e h.1) (λ e. same_typed C t u again None inside Stop o.0 o.1 e (ap optional (sym h.0))) o.2
opened_typed C (IfElse u arm other r) closer t again inside rest from to o k h =
    ⊎_elim (λ e. same_typed C t u again None inside arm o.0 o.1 e h.0) (λ e. same_typed C t u again None inside other o.0 o.1 e h.1) o.2

module _ (fns : Functions) (shape : Shape) where
  pub outside_typed : (fn : FunctionInstance) (typed : FunctionTyped fns shape fn) (closer : Closer) (t : Option (ValueType Label)) (again : Option (Code Label)) (inside : Code Label) (ks : List Closer) (os : List Open) → OutsideHold typed.names fn closer t again inside ks os → Typed (context typed.names fn (target_type again t ∷ target_types os)) inside [] (optional t)
  outside_typed fn typed closer t again inside [] [] h = same_typed (context typed.names fn []) t fn.type.result again None inside fn.body (sym h.1) h.2 h.3 typed.body
  outside_typed fn typed closer t again inside [] (o ∷ os) h = absurd h
  outside_typed fn typed closer t again inside (k ∷ ks) [] h = absurd h
  outside_typed fn typed closer t again inside (k ∷ ks) (o ∷ os) h =
      let ls = target_type o.again o.result ∷ target_types os in
      let C = context typed.names fn ls in
      let whole = outside_typed fn typed k o.result o.again h.0 ks os h.5 in
      let l = leads_last C h.1 h.0 o.code [] (upon (optional t) (types_of o.values)) h.4 in
      opened_typed C (behind h.1 h.0) closer t again inside o.code l.mid (optional o.result) h.2 h.3
      (leads_typed fns shape fn typed.names typed.names typed.leads typed.leads ls h.1 h.0 (behind h.1 h.0) [] l.mid (optional o.result) whole l.front)

  module _ (fn : FunctionInstance) (typed also : FunctionTyped fns shape fn) where
    outside_also : (closer : Closer) (t : Option (ValueType Label)) (again : Option (Code Label)) (inside : Code Label) (ks : List Closer) (os : List Open) → OutsideHold typed.names fn closer t again inside ks os → OutsideHold also.names fn closer t again inside ks os
    outside_also closer t again inside [] [] h = h
    outside_also closer t again inside [] (o ∷ os) h = absurd h
    outside_also closer t again inside (k ∷ ks) [] h = absurd h
    outside_also closer t again inside (k ∷ ks) (o ∷ os) h =
        let ls = target_type o.again o.result ∷ target_types os in
        let rest = outside_also k o.result o.again h.0 ks os h.5 in
        let whole = outside_typed fn also k o.result o.again h.0 ks os rest in
        (h.0, h.1, h.2, h.3, leads_also fns shape fn typed.names also.names typed.leads also.leads ls (suc h.1) h.0 o.code [] (upon (optional t) (types_of o.values)) (optional o.result) whole h.4, rest)

    pub labels_also : (arrives : List (ValueType Label)) (ks : List Closer) (os : List Open) → LabelsHold typed.names fn arrives ks os → LabelsHold also.names fn arrives ks os
    labels_also arrives [] os h = absurd h
    labels_also arrives (k ∷ ks) [] h = absurd h
    labels_also arrives (k ∷ ks) (o ∷ os) h =
        let ls = target_type o.again o.result ∷ target_types os in
        let rest = outside_also k o.result o.again h.0 ks os h.3 in
        let whole = outside_typed fn also k o.result o.again h.0 ks os rest in
        (h.0, h.1, leads_also fns shape fn typed.names also.names typed.leads also.leads ls h.1 h.0 o.code [] (upon arrives (types_of o.values)) (optional o.result) whole h.2, rest)
