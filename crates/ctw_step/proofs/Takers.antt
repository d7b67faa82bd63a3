-- What a reduction that isn't stuck takes is there.
use Rattle.std.proofs.Common.{◌≡◌, ◌≢◌, ℕ, Bool, true, false, List, [], ◌∷◌, Option, Some, None, refl}
use Rattle.ctw_ops.specs.declared.types.Label.{Label}
use Rattle.ctw_ops.specs.Types.{ValueType}
use Rattle.ctw_ops.specs.Equal.{same_type}
use Rattle.ctw_semantics.specs.Values.{Value}
use Rattle.ctw_semantics.specs.Answers.{Stuck, Reduced, given, provided, pop, pop_any}
use Rattle.ctw_ops.proofs.EqualLaws.{same_type_is}

pub given_there : {A : Type 0} (P : Reduced → Type 0) (o : Option A) (go : A → Reduced) → (given o go).answer ≢ Stuck → ((x : A) → o ≡ Some x → (go x).answer ≢ Stuck → P (go x)) → P (given o go)
given_there P None go n h = absurd (n refl)
given_there P (Some x) go n h = h x refl n

pub provided_there : (P : Reduced → Type 0) (b : Bool) (r : Reduced) → (provided b r).answer ≢ Stuck → (b ≡ true → r.answer ≢ Stuck → P r) → P (provided b r)
provided_there P true r n h = h refl n
provided_there P false r n h = absurd (n refl)

pub pop_any_there : (P : Reduced → Type 0) (vs : List Value) (go : Value → List Value → Reduced) → (pop_any vs go).answer ≢ Stuck → ((v : Value) (below : List Value) → vs ≡ v ∷ below → (go v below).answer ≢ Stuck → P (go v below)) → P (pop_any vs go)
pop_any_there P [] go n h = absurd (n refl)
pop_any_there P (v ∷ vs) go n h = h v vs refl n

pub pop_there : (P : Reduced → Type 0) (t : ValueType Label) (vs : List Value) (go : ℕ → List Value → Reduced) → (pop t vs go).answer ≢ Stuck
    → ((v : Value) (below : List Value) → vs ≡ v ∷ below → v.type ≡ t → (go v.number below).answer ≢ Stuck → P (go v.number below)) → P (pop t vs go)
pop_there P t [] go n h = absurd (n refl)
pop_there P t (v ∷ vs) go n h = provided_there P (same_type t v.type) (go v.number vs) n (λ e m. h v vs refl (sym_type t v.type (same_type_is t v.type e)) m)
  where
    sym_type : (a b : ValueType Label) → a ≡ b → b ≡ a
    sym_type a b e = cc
