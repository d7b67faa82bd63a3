-- A reduction that isn't stuck, and the same one of an erased state: how operands are taken in both.
use Rattle.std.proofs.Common.{◌≡◌, ℕ, Bool, true, false, ◌&&◌, List, [], ◌∷◌, map, Option, Some, None, slice_get, option_map, refl, sym, ap, subst, cond}
use Rattle.std.proofs.lemmas.Option.{slice_get-map}
use Rattle.ctw_ops.specs.declared.types.Label.{Label}
use Rattle.ctw_ops.specs.Types.{ValueType, erase_value_type}
use Rattle.ctw_ops.specs.Equal.{same_label, same_width, same_type}
use Rattle.ctw_semantics.specs.Values.{Value, value}
use Rattle.ctw_semantics.specs.Instances.{Functions}
use Rattle.ctw_semantics.specs.Answers.{Answer, Stuck, Reduced, stuck, given, provided, pop, pop_any, pops, carry}
use Rattle.ctw_semantics.specs.Erased.{erase_value, erase_answer, erase_reduced}
use Rattle.ctw_ops.proofs.EqualLaws.{both, same_width_is, same_width_when}

module _ (fns : Functions) where
  -- unless it is stuck, the first is the second, erased
  pub record Erases (r q : Reduced) : Type 0 where
    pub by : (r.answer ≡ Stuck → ⊥) → erase_reduced fns r ≡ q

  pub stuck_erases : (q : Reduced) → Erases stuck q
  stuck_erases q = record { by = λ h. absurd (h refl) }

  pub same_erases : (r q : Reduced) → erase_reduced fns r ≡ q → Erases r q
  same_erases r q e = record { by = λ h. e }

  pub provided_erases : (b c : Bool) (r q : Reduced) → (b ≡ true → c ≡ true) → Erases r q → Erases (provided b r) (provided c q)
  provided_erases true true r q i h = h
  provided_erases true false r q i h = let e = i refl in cc
  provided_erases false c r q i h = stuck_erases (provided c q)

  pub given_erases : {A B : Type 0} (f : A → B) (o : Option A) (go : A → Reduced) (go' : B → Reduced) → ((x : A) → o ≡ Some x → Erases (go x) (go' (f x))) → Erases (given o go) (given (option_map f o) go')
  given_erases f None go go' h = stuck_erases (given None go')
  given_erases f (Some x) go go' h = h x refl

  pub look_erases : {A B : Type 0} (f : A → B) (xs : List A) (i : ℕ) (go : A → Reduced) (go' : B → Reduced) → ((x : A) → slice_get xs i ≡ Some x → Erases (go x) (go' (f x))) → Erases (given (slice_get xs i) go) (given (slice_get (map f xs) i) go')
  look_erases f xs i go go' h = subst (λ o. Erases (given (slice_get xs i) go) (given o go')) (sym (slice_get-map f xs i)) (given_erases f (slice_get xs i) go go' h)

  pub index_erases : {A : Type 0} (o : Option A) (go go' : A → Reduced) → ((x : A) → o ≡ Some x → Erases (go x) (go' x)) → Erases (given o go) (given o go')
  index_erases None go go' h = stuck_erases stuck
  index_erases (Some x) go go' h = h x refl

  same_erased : (t u : ValueType Label) → same_type t u ≡ true → same_type (erase_value_type t) (erase_value_type u) ≡ true
  same_erased t u e =
      let q = same_width_is t.width u.width (both (same_width t.width u.width) (same_label t.tag u.tag) e).0 in
      ap (λ b. b && true) (same_width_when t.width u.width q)

  pub pop_erases : (t : ValueType Label) (vs : List Value) (go go' : ℕ → List Value → Reduced) → ((n : ℕ) (below : List Value) → Erases (go n below) (go' n (map erase_value below))) → Erases (pop t vs go) (pop (erase_value_type t) (map erase_value vs) go')
  pop_erases t [] go go' h = stuck_erases stuck
  pop_erases t (v ∷ vs) go go' h = provided_erases (same_type t v.type) (same_type (erase_value_type t) (erase_value_type v.type)) _ _ (same_erased t v.type) (h v.number vs)

  pub pop_any_erases : (vs : List Value) (go go' : Value → List Value → Reduced) → ((v : Value) (below : List Value) → Erases (go v below) (go' (erase_value v) (map erase_value below))) → Erases (pop_any vs go) (pop_any (map erase_value vs) go')
  pop_any_erases [] go go' h = stuck_erases stuck
  pop_any_erases (v ∷ vs) go go' h = h v vs

  pub pops_erases : (ts : List (ValueType Label)) (args vs : List Value) (go go' : List Value → List Value → Reduced) → ((args below : List Value) → Erases (go args below) (go' (map erase_value args) (map erase_value below))) → Erases (pops ts args vs go) (pops (map erase_value_type ts) (map erase_value args) (map erase_value vs) go')
  pops_erases [] args vs go go' h = h args vs
  pops_erases (t ∷ ts) args vs go go' h =
      pop_erases t vs (λ n below. pops ts (value t n ∷ args) below go) (λ n below. pops (map erase_value_type ts) (value (erase_value_type t) n ∷ map erase_value args) below go')
      (λ n below. pops_erases ts (value t n ∷ args) below go go' h)

  pub carry_erases : (t : Option (ValueType Label)) (vs : List Value) (go go' : Option Value → Reduced) → ((v : Option Value) → Erases (go v) (go' (option_map erase_value v))) → Erases (carry t vs go) (carry (option_map erase_value_type t) (map erase_value vs) go')
  carry_erases None vs go go' h = h None
  carry_erases (Some t) vs go go' h = pop_erases t vs _ _ (λ n below. h (Some (value t n)))

  pub cond_erases : (b : Bool) (r q r' q' : Reduced) → Erases r r' → Erases q q' → Erases (cond b r q) (cond b r' q')
  cond_erases true r q r' q' h i = h
  cond_erases false r q r' q' h i = i

  pub cond_erased : (b c : Bool) (x y x' y' : Answer) → b ≡ c → erase_answer fns x ≡ x' → erase_answer fns y ≡ y' → erase_answer fns (cond b x y) ≡ cond c x' y'
  cond_erased true true x y x' y' e h i = h
  cond_erased false false x y x' y' e h i = i
  cond_erased true false x y x' y' e h i = cc
  cond_erased false true x y x' y' e h i = cc
