-- Reductions, steps and turns of agreeing states look the same where they release the same.
use Rattle.std.proofs.Common.{◌≡◌, ℕ, zero, suc, List, [], ◌∷◌, ◌++◌, map, Option, Some, None, is_some, option_map, refl, sym, ap, ap₂, ◌∙◌, subst, append-nil, append_assoc}
use Rattle.ctw_ops.specs.Typing.{optional}
use Rattle.ctw_script.specs.declared.event.Event.{Event}
use Rattle.ctw_semantics.specs.Stores.{Storage}
use Rattle.ctw_semantics.specs.Instances.{Functions}
use Rattle.ctw_semantics.specs.Activations.{Open, Frame, Activation}
use Rattle.ctw_semantics.specs.Answers.{Answer, Goes, Ended, Trapped, Stuck, Reduced}
use Rattle.ctw_semantics.specs.Machine.{red}
use Rattle.ctw_semantics.specs.Steps as Steps
use Rattle.ctw_semantics.specs.Steps.{free, free_inside, free_next, Stepped, stops, then_step, reductions, step, Left, Running, Finished, Turned, then_turn, turn}
use Rattle.ctw_semantics.specs.Seen.{seen_value, seen_storage, seen_open, seen_frame, seen, seen_answer, Agree, seen_reduced, seen_stepped, seen_turned, LookSame}
use Rattle.ctw_semantics.proofs.Alike.{Alike}
use Rattle.ctw_semantics.proofs.AlikeLeaves.{red_alike}

firsts : (o p : Option ℕ) (xs ys : List ℕ) → is_some o ≡ is_some p → optional o ++ xs ≡ optional p ++ ys → (o ≡ p) × (xs ≡ ys)
firsts None None xs ys e q = (refl, q)
firsts (Some n) (Some m) xs ys e q = let a : n ≡ m = cc in let b : xs ≡ ys = cc in (ap Some a, b)
firsts None (Some m) xs ys e q = cc
firsts (Some n) None xs ys e q = cc

-- ---- two runs that look the same

-- where all that was released is equal, they look the same
pub same_ends : {A : Type 0} (a b : A) (rs qs : List ℕ) → LookSame a b rs qs → rs ≡ qs → a ≡ b
same_ends a b rs qs h e = (h.by [] [] (ap (λ l. l ++ []) e)).0

pub same_quiet : {A : Type 0} (a b : A) → a ≡ b → LookSame a b [] []
same_quiet a b e = record { by = λ later more q. (e, q) }

-- one after the other
pub same_both : {A B C : Type 0} (f : A → B → C) (a b : A) (c d : B) (rs qs us vs : List ℕ) → LookSame a b rs qs → (a ≡ b → LookSame c d us vs) → LookSame (f a c) (f b d) (rs ++ us) (qs ++ vs)
same_both f a b c d rs qs us vs h i = record {
  by = λ later more e.
      let first = h.by (us ++ later) (vs ++ more) (sym (append_assoc rs us later) ∙ e ∙ append_assoc qs vs more) in
      let second = (i first.0).by later more first.1 in
      (ap₂ f first.0 second.0, second.1);
}

-- ---- a reduction

abbrev of_reduced : Answer → ℕ → Option Event → Reduced
of_reduced answer cost event = record { answer = answer; cost = cost; event = event; release = None }

alike_same : (r q : Reduced) → Alike r q → LookSame (seen_reduced r) (seen_reduced q) (optional r.release) (optional q.release)
alike_same r q a = record {
  by = λ later more e.
      let f = firsts r.release q.release later more a.releases e in
      (ap₂ (λ x c. of_reduced x c r.event) (a.answer f.0) a.cost ∙ ap (of_reduced (seen_answer q.answer) q.cost) a.event, f.1);
}

-- ---- steps

abbrev of_step : Answer → Option Event → Stepped
of_step answer event = record { answer = answer; event = event; releases = [] }

stops_same : (r q : Reduced) → Alike r q → LookSame (seen_stepped (stops r)) (seen_stepped (stops q)) (optional r.release) (optional q.release)
stops_same r q a = record {
  by = λ later more e.
      let s = (alike_same r q a).by later more e in
      (ap (λ (r : Reduced). of_step r.answer r.event) s.0, s.1);
}

-- what comes after a reduction with this answer
abbrev after : Answer → (Storage → Activation → Stepped) → List ℕ
after (Goes s a) go = (go s a).releases
after x go = []

releases_after : (x : Answer) (e : Option Event) (o : Option ℕ) (go : Storage → Activation → Stepped) → (then_step x e o go).releases ≡ optional o ++ after x go
releases_after (Goes s a) e o go = refl
releases_after (Ended v) e o go = sym (append-nil (optional o))
releases_after (Trapped code) e o go = sym (append-nil (optional o))
releases_after Stuck e o go = sym (append-nil (optional o))

abbrev Going : (Storage → Activation → Stepped) → (Storage → Activation → Stepped) → Type 0
Going go go' = (s t : Storage) (a b : Activation) → Agree s a t b → LookSame (seen_stepped (go s a)) (seen_stepped (go' t b)) (go s a).releases (go' t b).releases

on_same : (x y : Answer) (e f : Option Event) (o p : Option ℕ) (go go' : Storage → Activation → Stepped) → seen_answer x ≡ seen_answer y → e ≡ f → Going go go' → LookSame (seen_stepped (then_step x e o go)) (seen_stepped (then_step y f p go')) (after x go) (after y go')
on_same (Goes s a) (Goes t b) e f o p go go' st ef n =
    let es : seen_storage s ≡ seen_storage t = cc in
    let ea : seen a ≡ seen b = cc in
    n s t a b (es, ea)
on_same (Ended x) (Ended y) e f o p go go' st ef n = same_quiet _ _ (ap₂ of_step st ef)
on_same (Trapped c) (Trapped d) e f o p go go' st ef n = same_quiet _ _ (ap₂ of_step st ef)
on_same Stuck Stuck e f o p go go' st ef n = same_quiet _ _ (ap₂ of_step st ef)
on_same x y e f o p go go' st ef n = cc

then_same : (r q : Reduced) (go go' : Storage → Activation → Stepped) → Alike r q → Going go go'
    → LookSame (seen_stepped (then_step r.answer r.event r.release go)) (seen_stepped (then_step q.answer q.event q.release go')) (then_step r.answer r.event r.release go).releases (then_step q.answer q.event q.release go').releases
then_same r q go go' a n =
    let x = seen_stepped (then_step r.answer r.event r.release go) in
    let y = seen_stepped (then_step q.answer q.event q.release go') in
    subst (λ us. LookSame x y us (then_step q.answer q.event q.release go').releases) (sym (releases_after r.answer r.event r.release go))
    (subst (λ vs. LookSame x y (optional r.release ++ after r.answer go) vs) (sym (releases_after q.answer q.event q.release go'))
    (same_both (λ (r : Reduced) (x : Stepped). x) (seen_reduced r) (seen_reduced q) x y (optional r.release) (optional q.release) (after r.answer go) (after q.answer go') (alike_same r q a)
    (λ e. on_same r.answer q.answer r.event q.event r.release q.release go go' (ap (λ (r : Reduced). r.answer) e) (ap (λ (r : Reduced). r.event) e) n)))

free_inside_alike : (ls ms : List Open) → map seen_open ls ≡ map seen_open ms → free_inside ls ≡ free_inside ms
free_inside_alike [] [] e = refl
free_inside_alike (o ∷ ls) (q ∷ ms) e = let eo : seen_open o ≡ seen_open q = cc in ap (λ (o : Open). free o.code) eo
free_inside_alike [] (q ∷ ms) e = cc
free_inside_alike (o ∷ ls) [] e = cc

free_alike : (a b : Activation) → seen a ≡ seen b → free_next a ≡ free_next b
free_alike [] [] e = refl
free_alike (f ∷ fs) (g ∷ gs) e = let ef : seen_frame f ≡ seen_frame g = cc in free_inside_alike f.labels g.labels (ap (λ (f : Frame). f.labels) ef)
free_alike [] (g ∷ gs) e = cc
free_alike (f ∷ fs) [] e = cc

-- ---- turns

abbrev after_turn : Answer → (Storage → Activation → Turned) → List ℕ
after_turn (Goes s a) go = (go s a).releases
after_turn x go = []

releases_turn : (s : Storage) (x : Answer) (e : Option Event) (l : List ℕ) (go : Storage → Activation → Turned) → (then_turn s x e l go).releases ≡ l ++ after_turn x go
releases_turn s (Goes t a) e l go = refl
releases_turn s (Ended v) e l go = sym (append-nil l)
releases_turn s (Trapped code) e l go = sym (append-nil l)
releases_turn s Stuck e l go = sym (append-nil l)

abbrev Turning : (Storage → Activation → Turned) → (Storage → Activation → Turned) → Type 0
Turning go go' = (s t : Storage) (a b : Activation) → Agree s a t b → LookSame (seen_turned (go s a)) (seen_turned (go' t b)) (go s a).releases (go' t b).releases

abbrev one_more : Option Event → Turned → Turned
one_more event x = record { storage = x.storage; left = x.left; steps = suc x.steps; events = optional event ++ x.events; releases = [] }

abbrev at_end : Left → Storage → Option Event → Turned
at_end left s event = record { storage = s; left = left; steps = 1; events = optional event; releases = [] }

turn_on_same : (s t : Storage) (x y : Answer) (e f : Option Event) (l m : List ℕ) (go go' : Storage → Activation → Turned) → seen_storage s ≡ seen_storage t → seen_answer x ≡ seen_answer y → e ≡ f → Turning go go' → LookSame (seen_turned (then_turn s x e l go)) (seen_turned (then_turn t y f m go')) (after_turn x go) (after_turn y go')
turn_on_same s t (Goes s' a) (Goes t' b) e f l m go go' es st ef n =
    let es' : seen_storage s' ≡ seen_storage t' = cc in
    let ea : seen a ≡ seen b = cc in
    record { by = λ later more q. let r = (n s' t' a b (es', ea)).by later more q in (ap₂ one_more ef r.0, r.1) }
turn_on_same s t (Ended x) (Ended y) e f l m go go' es st ef n =
    let ev : option_map seen_value x ≡ option_map seen_value y = cc in
    same_quiet _ _ (ap₂ (at_end (Finished (option_map seen_value x))) es ef ∙ ap (λ v. at_end (Finished v) (seen_storage t) f) ev)
turn_on_same s t (Trapped c) (Trapped d) e f l m go go' es st ef n =
    let ec : c ≡ d = cc in
    same_quiet _ _ (ap₂ (at_end (Steps.Trapped c)) es ef ∙ ap (λ c. at_end (Steps.Trapped c) (seen_storage t) f) ec)
turn_on_same s t Stuck Stuck e f l m go go' es st ef n = same_quiet _ _ (ap₂ (at_end Steps.Stuck) es ef)
turn_on_same s t x y e f l m go go' es st ef n = cc

turn_then_same : (s t : Storage) (x y : Stepped) (go go' : Storage → Activation → Turned) → seen_storage s ≡ seen_storage t → LookSame (seen_stepped x) (seen_stepped y) x.releases y.releases → Turning go go'
    → LookSame (seen_turned (then_turn s x.answer x.event x.releases go)) (seen_turned (then_turn t y.answer y.event y.releases go')) (then_turn s x.answer x.event x.releases go).releases (then_turn t y.answer y.event y.releases go').releases
turn_then_same s t x y go go' es h n =
    let p = seen_turned (then_turn s x.answer x.event x.releases go) in
    let q = seen_turned (then_turn t y.answer y.event y.releases go') in
    subst (λ us. LookSame p q us (then_turn t y.answer y.event y.releases go').releases) (sym (releases_turn s x.answer x.event x.releases go))
    (subst (λ vs. LookSame p q (x.releases ++ after_turn x.answer go) vs) (sym (releases_turn t y.answer y.event y.releases go'))
    (same_both (λ (x : Stepped) (p : Turned). p) (seen_stepped x) (seen_stepped y) p q x.releases y.releases (after_turn x.answer go) (after_turn y.answer go') h
    (λ e. turn_on_same s t x.answer y.answer x.event y.event x.releases y.releases go go' es (ap (λ (x : Stepped). x.answer) e) (ap (λ (x : Stepped). x.event) e) n)))

module _ (fns : Functions) where
  pub red_same : (s t : Storage) (a b : Activation) → Agree s a t b → LookSame (seen_reduced (red fns s a)) (seen_reduced (red fns t b)) (optional (red fns s a).release) (optional (red fns t b).release)
  red_same s t a b e = alike_same _ _ (red_alike fns s t a b e)

  reductions_same : (n : ℕ) (s t : Storage) (a b : Activation) → Agree s a t b → LookSame (seen_stepped (reductions n fns s a)) (seen_stepped (reductions n fns t b)) (reductions n fns s a).releases (reductions n fns t b).releases
  reductions_same zero s t a b e = stops_same (red fns s a) (red fns t b) (red_alike fns s t a b e)
  reductions_same (suc n) s t a b e = then_same (red fns s a) (red fns t b) (reductions n fns) (reductions n fns) (red_alike fns s t a b e) (reductions_same n)

  pub step_same : (s t : Storage) (a b : Activation) → Agree s a t b → LookSame (seen_stepped (step fns s a)) (seen_stepped (step fns t b)) (step fns s a).releases (step fns t b).releases
  step_same s t a b e =
      subst (λ n. LookSame (seen_stepped (step fns s a)) (seen_stepped (reductions n fns t b)) (step fns s a).releases (reductions n fns t b).releases) (free_alike a b e.1) (reductions_same (free_next a) s t a b e)

  pub turn_same : (n : ℕ) (s t : Storage) (a b : Activation) → Agree s a t b → LookSame (seen_turned (turn n fns s a)) (seen_turned (turn n fns t b)) (turn n fns s a).releases (turn n fns t b).releases
  turn_same zero s t a b e = same_quiet _ _ (ap₂ (λ s a. record { storage = s; left = Running a; steps = 0; events = []; releases = [] }) e.0 e.1)
  turn_same (suc n) s t a b e = turn_then_same s t (step fns s a) (step fns t b) (turn n fns) (turn n fns) e.0 (step_same s t a b e) (turn_same n)

  -- a turn of one call, and then one of another over the store that is left
  pub turns_same : (n m : ℕ) (s t : Storage) (a b c d : Activation) → Agree s a t b → seen c ≡ seen d → LookSame (seen_turned (turn n fns s a) ∷ seen_turned (turn m fns (turn n fns s a).storage c) ∷ []) (seen_turned (turn n fns t b) ∷ seen_turned (turn m fns (turn n fns t b).storage d) ∷ []) ((turn n fns s a).releases ++ (turn m fns (turn n fns s a).storage c).releases) ((turn n fns t b).releases ++ (turn m fns (turn n fns t b).storage d).releases)
  turns_same n m s t a b c d e f =
      let x = turn n fns s a in
      let y = turn n fns t b in
      same_both (λ (p q : Turned). p ∷ q ∷ []) (seen_turned x) (seen_turned y) (seen_turned (turn m fns x.storage c)) (seen_turned (turn m fns y.storage d)) x.releases y.releases (turn m fns x.storage c).releases (turn m fns y.storage d).releases
      (turn_same n s t a b e) (λ g. turn_same m x.storage y.storage c d (ap (λ (x : Turned). x.storage) g, f))
