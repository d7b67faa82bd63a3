-- What it is that a pass over operands follows a relation on stacks exactly, and how that goes through sequences, tests and look-ups.
use Rattle.std.proofs.Common.{◌≡◌, Bool, true, false, List, Option, Some, None, refl, subst}
use Rattle.std.specs.Prelude.{◌↔◌}
use Rattle.ctw_ops.specs.Types.{ValueType}
use Rattle.ctw_ops.specs.Segments.{and_then}
use Rattle.ctw_stack.specs.Operands.{Operands, Denotes}
use Rattle.ctw_stack.specs.Steps.{when}

abbrev pub Types : Type 0 → Type 0
Types S = List (ValueType S)

abbrev pub Rel : Type 0 → Type 1
Rel S = List (ValueType S) → List (ValueType S) → Type 0

-- the stacks to which `R` leads from one that `s` stands for
abbrev pub Image : {S : Type 0} → Operands S → Rel S → Types S → Type 0
Image s R b = (a : List (ValueType _)) × Denotes s a × R a b

-- an answer stands for just the stacks to which `R` leads, and none is given only where there are none
abbrev pub Exact : {S : Type 0} → Operands S → Option (Operands S) → Rel S → Type 0
Exact s None R = (a b : List (ValueType _)) → Denotes s a → R a b → ⊥
Exact s (Some m) R = (b : List (ValueType _)) → Denotes m b ↔ Image s R b

-- one relation and then another
abbrev pub Seq : {S : Type 0} → Rel S → Rel S → Rel S
Seq R Q a c = (b : List (ValueType _)) × R a b × Q b c

pub exact_iff : {S : Type 0} (s : Operands S) (r : Option (Operands S)) (R Q : Rel S) → ((a b : Types S) → R a b ↔ Q a b) → Exact s r R → Exact s r Q
exact_iff s None R Q e h = λ a b d q. h a b d ((e a b).1 q)
exact_iff s (Some m) R Q e h = λ b. (
  (λ d. let i = (h b).0 d in (i.0, i.1, (e i.0 b).0 i.2)),
  (λ i. (h b).1 (i.0, i.1, (e i.0 b).1 i.2)),
)

-- one after another, where the first gave m
pub exact_after : {S : Type 0} (s m : Operands S) (r : Option (Operands S)) (R Q : Rel S) → Exact s (Some m) R → Exact m r Q → Exact s r (Seq R Q)
exact_after s m None R Q h k = λ a c d i. k i.0 c ((h i.0).1 (a, d, i.1)) i.2
exact_after s m (Some n) R Q h k = λ c. (
  (λ d. let j = (k c).0 d in let i = (h j.0).0 j.1 in (i.0, i.1, (j.0, i.2, j.2))),
  (λ i. (k c).1 (i.2.0, (h i.2.0).1 (i.0, i.1, i.2.1), i.2.2)),
)

pub exact_and_then : {S : Type 0} (s : Operands S) (r : Option (Operands S)) (f : Operands S → Option (Operands S)) (R Q : Rel S) → Exact s r R → ((m : Operands S) → Exact m (f m) Q) → Exact s (and_then r f) (Seq R Q)
exact_and_then s None f R Q h k = λ a c d i. h a i.0 d i.1
exact_and_then s (Some m) f R Q h k = exact_after s m (f m) R Q h (k m)

pub exact_when : {S : Type 0} (s : Operands S) (test : Bool) (P : Type 0) (r : Option (Operands S)) (R : Rel S) → ((test ≡ true) ↔ P) → Exact s r R → Exact s (when test r) (λ a b. P × R a b)
exact_when s false P r R e h = λ a b d i. elim_absurd (e.1 i.0)
  where
    elim_absurd : false ≡ true → ⊥
    elim_absurd q = cc
exact_when s true P r R e h = exact_iff s r R (λ a b. P × R a b) (λ a b. ((λ q. (e.0 refl, q)), (λ i. i.1))) h

pub exact_look : {S A : Type 0} (s : Operands S) (o : Option A) (k : A → Option (Operands S)) (Q : A → Rel S) → ((x : A) → Exact s (k x) (Q x)) → Exact s (and_then o k) (λ a b. (x : A) × (o ≡ Some x) × Q x a b)
exact_look {S} {A} s None k Q h = λ a b d i. none (i.1)
  where
    none : {x : A} → None ≡ Some x → ⊥
    none q = cc
exact_look {S} {A} s (Some y) k Q h = exact_iff s (k y) (Q y) (λ a b. (x : A) × (Some y ≡ Some x) × Q x a b) (λ a b. ((λ q. (y, refl, q)), (λ i. back a b i.0 i.1 i.2))) (h y)
  where
    same : {x : A} → Some y ≡ Some x → x ≡ y
    same q = cc

    back : (a b : Types S) (x : A) → Some y ≡ Some x → Q x a b → Q y a b
    back a b x e q = subst (λ z. Q z a b) (same e) q

-- a look-up with a condition on what is found
pub exact_look_when : {S A : Type 0} (s : Operands S) (o : Option A) (test : A → Bool) (k : A → Option (Operands S)) (P : A → Type 0) (Q : A → Rel S) → ((x : A) → (test x ≡ true) ↔ P x) → ((x : A) → Exact s (k x) (Q x)) → Exact s (and_then o (λ x. when (test x) (k x))) (λ a b. (x : A) × (o ≡ Some x) × P x × Q x a b)
exact_look_when {S} {A} s o test k P Q t h =
    exact_iff s (and_then o (λ x. when (test x) (k x))) (λ a b. (x : A) × (o ≡ Some x) × (P x × Q x a b)) (λ a b. (x : A) × (o ≡ Some x) × P x × Q x a b)
    (λ a b. ((λ i. (i.0, i.1, i.2.0, i.2.1)), (λ i. (i.0, i.1, (i.2, i.3)))))
    (exact_look s o (λ x. when (test x) (k x)) (λ x a b. P x × Q x a b) (λ x. exact_when s (test x) (P x) (k x) (Q x) (t x) (h x)))

-- two conditions
pub exact_when_both : {S : Type 0} (s : Operands S) (test1 test2 : Bool) (P1 P2 : Type 0) (r : Option (Operands S)) (R : Rel S) → ((test1 ≡ true) ↔ P1) → ((test2 ≡ true) ↔ P2) → Exact s r R → Exact s (when test1 (when test2 r)) (λ a b. P1 × P2 × R a b)
exact_when_both s test1 test2 P1 P2 r R e1 e2 h =
    exact_iff s (when test1 (when test2 r)) (λ a b. P1 × (P2 × R a b)) (λ a b. P1 × P2 × R a b)
    (λ a b. ((λ i. (i.0, i.1.0, i.1.1)), (λ i. (i.0, (i.1, i.2)))))
    (exact_when s test1 P1 (when test2 r) (λ a b. P2 × R a b) e1 (exact_when s test2 P2 r R e2 h))

pub exact_when_three : {S : Type 0} (s : Operands S) (test1 test2 test3 : Bool) (P1 P2 P3 : Type 0) (r : Option (Operands S)) (R : Rel S) → ((test1 ≡ true) ↔ P1) → ((test2 ≡ true) ↔ P2) → ((test3 ≡ true) ↔ P3) → Exact s r R
    → Exact s (when test1 (when test2 (when test3 r))) (λ a b. P1 × P2 × P3 × R a b)
exact_when_three s test1 test2 test3 P1 P2 P3 r R e1 e2 e3 h =
    exact_iff s (when test1 (when test2 (when test3 r))) (λ a b. P1 × (P2 × P3 × R a b)) (λ a b. P1 × P2 × P3 × R a b)
    (λ a b. ((λ i. (i.0, i.1.0, i.1.1, i.1.2)), (λ i. (i.0, (i.1, i.2, i.3)))))
    (exact_when s test1 P1 (when test2 (when test3 r)) (λ a b. P2 × P3 × R a b) e1 (exact_when_both s test2 test3 P2 P3 r R e2 e3 h))
