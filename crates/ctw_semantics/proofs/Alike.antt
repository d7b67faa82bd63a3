-- Two reductions that look the same where they release the same: how operands are taken in two runs.
use Rattle.std.proofs.Common.{◌≡◌, ℕ, Bool, true, false, List, [], ◌∷◌, map, Option, Some, None, slice_get, is_some, option_map, refl, sym, ap, ap₂, ◌∙◌, subst, cond}
use Rattle.std.proofs.lemmas.Option.{slice_get-map}
use Rattle.ctw_ops.specs.declared.types.Label.{Label}
use Rattle.ctw_ops.specs.declared.types.Label.TheVariants.{Public, Secret}
use Rattle.ctw_ops.specs.declared.types.Width.{Width}
use Rattle.ctw_ops.specs.Types.{ValueType, value_type}
use Rattle.ctw_ops.specs.Equal.{same_type}
use Rattle.ctw_script.specs.declared.event.Event.{Event}
use Rattle.ctw_semantics.specs.Values.{Value, value}
use Rattle.ctw_semantics.specs.Answers.{Answer, Reduced, quiet, noting, stuck, given, provided, pop, pop_any, pops, carry}
use Rattle.ctw_semantics.specs.Seen.{seen_number, seen_value, seen_answer}
use Rattle.ctw_ops.proofs.EqualLaws.{same_type_is}

-- both release or neither does, and where they release the same number they look the same
pub record Alike (r q : Reduced) : Type 0 where
  pub releases : is_some r.release ≡ is_some q.release
  pub answer : r.release ≡ q.release → seen_answer r.answer ≡ seen_answer q.answer
  pub cost : r.cost ≡ q.cost
  pub event : r.event ≡ q.event

pub stuck_alike : Alike stuck stuck
stuck_alike = record { releases = refl; answer = λ _. refl; cost = refl; event = refl }

pub quiet_alike : (x y : Answer) → seen_answer x ≡ seen_answer y → Alike (quiet x) (quiet y)
quiet_alike x y e = record { releases = refl; answer = λ _. e; cost = refl; event = refl }

pub noting_alike : (n m : Event) (x y : Answer) → n ≡ m → seen_answer x ≡ seen_answer y → Alike (noting n x) (noting m y)
noting_alike n m x y en e = record { releases = refl; answer = λ _. e; cost = refl; event = ap Some en }

pub provided_alike : (b c : Bool) (r q : Reduced) → b ≡ c → (b ≡ true → Alike r q) → Alike (provided b r) (provided c q)
provided_alike true true r q e h = h refl
provided_alike false false r q e h = stuck_alike
provided_alike true false r q e h = cc
provided_alike false true r q e h = cc

pub given_alike : {A B : Type 0} (f : A → B) (o p : Option A) (go go' : A → Reduced) → option_map f o ≡ option_map f p → ((x y : A) → f x ≡ f y → Alike (go x) (go' y)) → Alike (given o go) (given p go')
given_alike f None None go go' e h = stuck_alike
given_alike f (Some x) (Some y) go go' e h = h x y cc
given_alike f None (Some y) go go' e h = cc
given_alike f (Some x) None go go' e h = cc

-- what an index names is the same in both runs
pub same_alike : {A : Type 0} (o : Option A) (go go' : A → Reduced) → ((x : A) → Alike (go x) (go' x)) → Alike (given o go) (given o go')
same_alike None go go' h = stuck_alike
same_alike (Some x) go go' h = h x

-- the same, with what it names
pub named_alike : {A : Type 0} (o : Option A) (go go' : A → Reduced) → ((x : A) → o ≡ Some x → Alike (go x) (go' x)) → Alike (given o go) (given o go')
named_alike None go go' h = stuck_alike
named_alike (Some x) go go' h = h x refl

-- what is there in both runs or in neither
pub both_alike : {A : Type 0} (o p : Option A) (go go' : A → Reduced) → is_some o ≡ is_some p → ((x y : A) → o ≡ Some x → p ≡ Some y → Alike (go x) (go' y)) → Alike (given o go) (given p go')
both_alike None None go go' e h = stuck_alike
both_alike (Some x) (Some y) go go' e h = h x y refl refl
both_alike None (Some y) go go' e h = cc
both_alike (Some x) None go go' e h = cc

pub equal_alike : {A : Type 0} (o q : Option A) (go go' : A → Reduced) → o ≡ q → ((x : A) → Alike (go x) (go' x)) → Alike (given o go) (given q go')
equal_alike o q go go' e h = subst (λ q. Alike (given o go) (given q go')) e (same_alike o go go' h)

pub looks_alike : {A B : Type 0} (f : A → B) (xs ys : List A) (i : ℕ) → map f xs ≡ map f ys → option_map f (slice_get xs i) ≡ option_map f (slice_get ys i)
looks_alike f xs ys i e = sym (slice_get-map f xs i) ∙ ap (λ l. slice_get l i) e ∙ slice_get-map f ys i

pub number_alike : (t : ValueType Label) (v w : Value) → t ≡ v.type → seen_value v ≡ seen_value w → seen_number t.tag v.number ≡ seen_number t.tag w.number
number_alike t v w q e =
    let n : seen_number v.type.tag v.number ≡ seen_number w.type.tag w.number = ap (λ (x : Value). x.number) e in
    let u : w.type ≡ v.type = ap (λ (x : Value). x.type) (sym e) in
    subst (λ (u : ValueType Label). seen_number u.tag v.number ≡ seen_number u.tag w.number) (sym q) (n ∙ ap (λ (u : ValueType Label). seen_number u.tag w.number) u)

-- values of equal types with numbers that look the same
pub value_alike : (t u : ValueType Label) (n m : ℕ) → t ≡ u → seen_number t.tag n ≡ seen_number t.tag m → seen_value (value t n) ≡ seen_value (value u m)
value_alike t u n m et en = ap (value t) en ∙ ap (λ (u : ValueType Label). seen_value (value u m)) et

pub pop_any_alike : (vs ws : List Value) (go go' : Value → List Value → Reduced) → map seen_value vs ≡ map seen_value ws → ((v w : Value) (vs' ws' : List Value) → seen_value v ≡ seen_value w → map seen_value vs' ≡ map seen_value ws' → Alike (go v vs') (go' w ws')) → Alike (pop_any vs go) (pop_any ws go')
pop_any_alike [] [] go go' e h = stuck_alike
pop_any_alike [] (w ∷ ws) go go' e h = cc
pop_any_alike (v ∷ vs) [] go go' e h = cc
pop_any_alike (v ∷ vs) (w ∷ ws) go go' e h = h v w vs ws (cc) (cc)

pub pop_alike : (t u : ValueType Label) (vs ws : List Value) (go go' : ℕ → List Value → Reduced) → t ≡ u → map seen_value vs ≡ map seen_value ws → ((n m : ℕ) (vs' ws' : List Value) → seen_number t.tag n ≡ seen_number t.tag m → map seen_value vs' ≡ map seen_value ws' → Alike (go n vs') (go' m ws')) → Alike (pop t vs go) (pop u ws go')
pop_alike t u [] [] go go' et e h = stuck_alike
pop_alike t u [] (w ∷ ws) go go' et e h = cc
pop_alike t u (v ∷ vs) [] go go' et e h = cc
pop_alike t u (v ∷ vs) (w ∷ ws) go go' et e h =
    let hv : seen_value v ≡ seen_value w = cc in
    let hs : map seen_value vs ≡ map seen_value ws = cc in
    let ht : v.type ≡ w.type = ap (λ (x : Value). x.type) hv in
    provided_alike (same_type t v.type) (same_type u w.type) (go v.number vs) (go' w.number ws) (ap₂ same_type et ht)
    (λ p. h v.number w.number vs ws (number_alike t v w (same_type_is t v.type p) hv) hs)

-- a public number is the same in both runs
pub pop_public_alike : (w : Width) (vs ws : List Value) (go go' : ℕ → List Value → Reduced) → map seen_value vs ≡ map seen_value ws → ((n : ℕ) (vs' ws' : List Value) → map seen_value vs' ≡ map seen_value ws' → Alike (go n vs') (go' n ws')) → Alike (pop (value_type w Public) vs go) (pop (value_type w Public) ws go')
pop_public_alike w vs ws go go' e h =
    pop_alike (value_type w Public) (value_type w Public) vs ws go go' refl e (λ n m vs' ws' en es. subst (λ (k : ℕ). Alike (go n vs') (go' k ws')) en (h n vs' ws' es))

pub pushed : (u : ValueType Label) (n m : ℕ) (vs ws : List Value) → seen_number u.tag n ≡ seen_number u.tag m → map seen_value vs ≡ map seen_value ws → map seen_value (value u n ∷ vs) ≡ map seen_value (value u m ∷ ws)
pushed u n m vs ws e es = ap₂ (λ (k : ℕ) (l : List Value). value u k ∷ l) e es

pub pops_alike : (ts : List (ValueType Label)) (xs ys vs ws : List Value) (go go' : List Value → List Value → Reduced) → map seen_value xs ≡ map seen_value ys → map seen_value vs ≡ map seen_value ws → ((xs ys vs' ws' : List Value) → map seen_value xs ≡ map seen_value ys → map seen_value vs' ≡ map seen_value ws' → Alike (go xs vs') (go' ys ws')) → Alike (pops ts xs vs go) (pops ts ys ws go')
pops_alike [] xs ys vs ws go go' ea e h = h xs ys vs ws ea e
pops_alike (t ∷ ts) xs ys vs ws go go' ea e h =
    pop_alike t t vs ws (λ n below. pops ts (value t n ∷ xs) below go) (λ n below. pops ts (value t n ∷ ys) below go') refl e
    (λ n m vs' ws' en es. pops_alike ts (value t n ∷ xs) (value t m ∷ ys) vs' ws' go go' (pushed t n m xs ys en ea) es h)

pub carry_alike : (t u : Option (ValueType Label)) (vs ws : List Value) (go go' : Option Value → Reduced) → t ≡ u → map seen_value vs ≡ map seen_value ws → ((x y : Option Value) → option_map seen_value x ≡ option_map seen_value y → Alike (go x) (go' y)) → Alike (carry t vs go) (carry u ws go')
carry_alike None None vs ws go go' et e h = h None None refl
carry_alike None (Some u) vs ws go go' et e h = cc
carry_alike (Some t) None vs ws go go' et e h = cc
carry_alike (Some t) (Some u) vs ws go go' et e h =
    let q : t ≡ u = cc in
    pop_alike t u vs ws (λ n below. go (Some (value t n))) (λ n below. go' (Some (value u n))) q e
    (λ n m vs' ws' en es. h (Some (value t n)) (Some (value u m)) (ap Some (value_alike t u n m q en)))

pub cond_alike : (b : Bool) (r q r' q' : Reduced) → Alike r r' → Alike q q' → Alike (cond b r q) (cond b r' q')
cond_alike true r q r' q' h i = h
cond_alike false r q r' q' h i = i

pub cond_seen : (b c : Bool) (x y x' y' : Answer) → b ≡ c → seen_answer x ≡ seen_answer x' → seen_answer y ≡ seen_answer y' → seen_answer (cond b x y) ≡ seen_answer (cond c x' y')
cond_seen true true x y x' y' e h i = h
cond_seen false false x y x' y' e h i = i
cond_seen true false x y x' y' e h i = cc
cond_seen false true x y x' y' e h i = cc

-- what is computed of numbers that look the same
pub computed : (l : Label) (f : ℕ → ℕ) (n m : ℕ) → seen_number l n ≡ seen_number l m → seen_number l (f n) ≡ seen_number l (f m)
computed Public f n m e = ap f e
computed Secret f n m e = refl
