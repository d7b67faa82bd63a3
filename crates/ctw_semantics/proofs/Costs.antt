-- A step is made of reductions: of those without cost that come next, and then of one that costs 1.
use Rattle.std.proofs.Common.{◌≡◌, ◌⊎◌, ℕ, zero, suc, Bool, true, false, List, [], ◌∷◌, ◌++◌, Option, Some, None, slice_get, inl, inr, ⊎_elim, refl, sym, ap, ◌∙◌, arith, nat_le, cond}
use Rattle.ctw_ops.specs.declared.types.Label.{Label}
use Rattle.ctw_ops.specs.declared.types.Label.TheVariants.{Public, Secret}
use Rattle.ctw_ops.specs.declared.types.Width.{Width}
use Rattle.ctw_ops.specs.Types.{value_type}
use Rattle.ctw_ops.specs.Equal.{same_type}
use Rattle.ctw_ops.specs.Typing.{optional}
use Rattle.ctw_ops.specs.Code.{Classify, Declassify, Code, Then}
use Rattle.ctw_script.specs.declared.event.Event.{Event}
use Rattle.ctw_script.specs.declared.trap.TrapCode.TheVariants.{Exhausted}
use Rattle.ctw_semantics.specs.Values.{Value, value}
use Rattle.ctw_semantics.specs.Stores.{Storage}
use Rattle.ctw_semantics.specs.Instances.{FunctionInstance, Functions}
use Rattle.ctw_ops.specs.Limits.{most_weight}
use Rattle.ctw_semantics.specs.Activations.{Open, Activation, weight}
use Rattle.ctw_semantics.specs.Answers.{Answer, Goes, Trapped, Stuck, Reduced, quiet, noting, relabelling, stuck, given, provided, pop}
use Rattle.ctw_semantics.specs.Machine.{Here, put, next, limited, here, in_frame, red}
use Rattle.ctw_semantics.specs.Steps.{free, free_inside, free_next, Stepped, stops, then_step, reductions, step}
use Rattle.ctw_semantics.proofs.Ordinary.{given_holds, next_holds}

record Counted (r : Reduced) : Type 0 where
  by : r.cost ≡ 1

quiets : (x : Answer) → Counted (quiet x)
quiets x = record { by = refl }

notes : (e : Event) (x : Answer) → Counted (noting e x)
notes e x = record { by = refl }

-- where no instruction without cost stands next, a reduction costs 1
red_counted : (fns : Functions) (s : Storage) (a : Activation) → free_next a ≡ 0 → Counted (red fns s a)
red_counted fns s [] z = quiets Stuck
red_counted fns s (f ∷ callers) z = in_labels f.labels z
  where
    in_labels : (labels : List Open) → free_inside labels ≡ 0 → Counted (in_frame fns s f labels callers)
    in_labels [] z = quiets Stuck
    in_labels (o ∷ outer) z = given_holds Counted quiets notes (slice_get fns f.func) _ (λ fn. record { by = (next_holds Counted quiets notes fns fn s (here f o outer callers) o.code o.values z).by })

-- one without cost is stuck, or changes a label and leaves one fewer
abbrev Relabels : Storage → ℕ → Reduced → Type 0
Relabels s n r = (r ≡ stuck) ⊎ ((a : Activation) × (release : Option ℕ) × (r ≡ limited (relabelling release (Goes s a))) × (free_next a ≡ n))

module _ (s : Storage) (n : ℕ) where
  popped : (h : Here) (w : Width) (l m : Label) (rest : Code Label) (release : ℕ → Option ℕ) (vs : List Value) → free rest ≡ n → Relabels s n (limited (pop (value_type w l) vs (λ k below. relabelling (release k) (Goes s (put h rest (value (value_type w m) k ∷ below))))))
  popped h w l m rest release [] z = inl refl
  popped h w l m rest release (v ∷ vs) z = tested (same_type (value_type w l) v.type)
    where
      tested : (b : Bool) → Relabels s n (limited (provided b (relabelling (release v.number) (Goes s (put h rest (value (value_type w m) v.number ∷ vs))))))
      tested true = inr (put h rest (value (value_type w m) v.number ∷ vs), release v.number, refl, z)
      tested false = inl refl

  next_relabels : (fns : Functions) (fn : FunctionInstance) (h : Here) (c : Code Label) (vs : List Value) → free c ≡ suc n → Relabels s n (limited (next fns fn s h c vs))
  next_relabels fns fn h (Then (Classify w) rest) vs z = popped h w Public Secret rest (λ k. None) vs (omega (arith, z))
  next_relabels fns fn h (Then (Declassify w) rest) vs z = popped h w Secret Public rest (λ k. Some k) vs (omega (arith, z))
  next_relabels fns fn h c vs z = cc

  found_relabels : (o : Option FunctionInstance) (go : FunctionInstance → Reduced) → ((fn : FunctionInstance) → Relabels s n (go fn)) → Relabels s n (given o go)
  found_relabels None go h = inl refl
  found_relabels (Some fn) go h = h fn

  red_relabels : (fns : Functions) (a : Activation) → free_next a ≡ suc n → Relabels s n (red fns s a)
  red_relabels fns [] z = cc
  red_relabels fns (f ∷ callers) z = in_labels f.labels z
    where
      in_labels : (labels : List Open) → free_inside labels ≡ suc n → Relabels s n (in_frame fns s f labels callers)
      in_labels [] z = cc
      in_labels (o ∷ outer) z = found_relabels (slice_get fns f.func) _ (λ fn. next_relabels fns fn (here f o outer callers) o.code o.values z)

-- goes on after a reduction, in two ways that agree
same_then : (b : Bool) (s : Storage) (a : Activation) (release : Option ℕ) (go go' : Storage → Activation → Stepped) → go s a ≡ go' s a → then_step (cond b (Goes s a) (Trapped Exhausted)) None release go ≡ then_step (cond b (Goes s a) (Trapped Exhausted)) None release go'
same_then true s a release go go' e = ap (λ (x : Stepped). record { answer = x.answer; event = x.event; releases = optional release ++ x.releases }) e
same_then false s a release go go' e = refl

module _ (fns : Functions) (s : Storage) (a : Activation) where
  abbrev Parts : Reduced → ℕ → Type 0
  Parts r n = (r.cost ≡ 1 → reductions n fns s a ≡ stops r) × (r.cost ≡ 0 → reductions n fns s a ≡ then_step r.answer r.event r.release (step fns)) × ((r.cost ≡ 0) ⊎ (r.cost ≡ 1))

  parts : (n : ℕ) → free_next a ≡ n → Parts (red fns s a) n
  parts zero z = let c = (red_counted fns s a z).by in (λ e. refl, λ e. absurd (let i : 0 ≡ 1 = sym e ∙ c in omega (arith, i)), inr c)
  parts (suc n) z = ⊎_elim was_stuck relabelled (red_relabels s n fns a z)
    where
      was_stuck : red fns s a ≡ stuck → Parts (red fns s a) (suc n)
      was_stuck e =
          let c : (red fns s a).cost ≡ 1 = ap (λ (r : Reduced). r.cost) e in
          (λ _. ap (λ (r : Reduced). then_step r.answer r.event r.release (reductions n fns)) e ∙ sym (ap stops e), λ f. absurd (let i : 0 ≡ 1 = sym f ∙ c in omega (arith, i)), inr c)

      relabelled : ((b : Activation) × (release : Option ℕ) × (red fns s a ≡ limited (relabelling release (Goes s b))) × (free_next b ≡ n)) → Parts (red fns s a) (suc n)
      relabelled (b, release, e, f) =
          let c : (red fns s a).cost ≡ 0 = ap (λ (r : Reduced). r.cost) e in (
            λ g. absurd (let i : 0 ≡ 1 = sym c ∙ g in omega (arith, i)),
            λ _. ap (λ (r : Reduced). then_step r.answer r.event r.release (reductions n fns)) e
                ∙ same_then (nat_le (weight b) most_weight) s b release (reductions n fns) (step fns) (ap (λ n. reductions n fns s b) (sym f))
                ∙ sym (ap (λ (r : Reduced). then_step r.answer r.event r.release (step fns)) e),
            inl c,
          )

  pub step_parts : ((red fns s a).cost ≡ 1 → step fns s a ≡ stops (red fns s a)) × ((red fns s a).cost ≡ 0 → step fns s a ≡ then_step (red fns s a).answer (red fns s a).event (red fns s a).release (step fns)) × (((red fns s a).cost ≡ 0) ⊎ ((red fns s a).cost ≡ 1))
  step_parts = parts (free_next a) refl
