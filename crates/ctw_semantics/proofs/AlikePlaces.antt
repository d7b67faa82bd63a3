-- Labels and frames of two runs that look the same.
use Rattle.std.proofs.Common.{◌≡◌, ℕ, zero, suc, List, [], ◌∷◌, ◌++◌, map, Option, Some, None, option_map, refl, sym, ap, ap₂, ◌∙◌}
use Rattle.std.proofs.lemmas.List.{map-append}
use Rattle.ctw_ops.specs.declared.types.Label.{Label}
use Rattle.ctw_ops.specs.Types.{ValueType}
use Rattle.ctw_ops.specs.Typing.{upon}
use Rattle.ctw_ops.specs.Code.{Code, Loop}
use Rattle.ctw_semantics.specs.Values.{Value, zero_of}
use Rattle.ctw_semantics.specs.Stores.{Storage}
use Rattle.ctw_semantics.specs.Instances.{FunctionInstance}
use Rattle.ctw_semantics.specs.Activations.{Open, Frame, Activation}
use Rattle.ctw_semantics.specs.Answers.{Answer, Goes, Ended, Reduced, carry}
use Rattle.ctw_semantics.specs.Machine.{Here, innermost, with_labels, put, enter, receive, resume, finish, leave, rerun, target_type, arrive, label_at, branch, pass, invoke}
use Rattle.ctw_semantics.specs.Seen.{seen_value, seen_storage, seen_open, seen_frame, seen, seen_answer}
use Rattle.ctw_semantics.proofs.Alike.{Alike, stuck_alike, carry_alike, pops_alike}

-- the places of two runs
pub record Places (h k : Here) : Type 0 where
  pub func : h.func ≡ k.func
  pub locals : map seen_value h.locals ≡ map seen_value k.locals
  pub result : h.result ≡ k.result
  pub again : h.again ≡ k.again
  pub outer : map seen_open h.outer ≡ map seen_open k.outer
  pub callers : map seen_frame h.callers ≡ map seen_frame k.callers

pub put_alike : (h k : Here) (rest : Code Label) (vs ws : List Value) → Places h k → map seen_value vs ≡ map seen_value ws → seen (put h rest vs) ≡ seen (put k rest ws)
put_alike h k rest vs ws p e = let a = p.func in let b = p.locals in let c = p.result in let d = p.again in let f = p.outer in let g = p.callers in cc

pub enter_alike : (h k : Here) (rest : Code Label) → Places h k → (u : Option (ValueType Label)) (again : Option (Code Label)) (body : Code Label) (vs ws : List Value) → map seen_value vs ≡ map seen_value ws → seen (enter h rest vs u again body) ≡ seen (enter k rest ws u again body)
enter_alike h k rest p u again body vs ws e = let a = p.func in let b = p.locals in let c = p.result in let d = p.again in let f = p.outer in let g = p.callers in cc

pub labels_here : (h k : Here) (rest : Code Label) → Places h k → (vs ws : List Value) → map seen_value vs ≡ map seen_value ws → map seen_open (innermost h rest vs ∷ h.outer) ≡ map seen_open (innermost k rest ws ∷ k.outer)
labels_here h k rest p vs ws e = let a = p.result in let b = p.again in let c = p.outer in cc

receive_alike : (x y : Option Value) (o q : Open) → option_map seen_value x ≡ option_map seen_value y → seen_open o ≡ seen_open q → seen_open (receive x o) ≡ seen_open (receive y q)
receive_alike None None o q e eo = eo
receive_alike (Some x) (Some y) o q e eo = let ex : seen_value x ≡ seen_value y = cc in ap₂ (λ (v : Value) (o : Open). record o { values = v ∷ o.values }) ex eo
receive_alike None (Some y) o q e eo = cc
receive_alike (Some x) None o q e eo = cc

-- the k-th label of two runs
label_alike : (d : ℕ) (ls ms : List Open) (go go' : Open → List Open → Reduced) → map seen_open ls ≡ map seen_open ms → ((o q : Open) (ls ms : List Open) → seen_open o ≡ seen_open q → map seen_open ls ≡ map seen_open ms → Alike (go o ls) (go' q ms)) → Alike (label_at d ls go) (label_at d ms go')
label_alike d [] [] go go' e h = stuck_alike
label_alike zero (o ∷ ls) (q ∷ ms) go go' e h = h o q ls ms (cc) (cc)
label_alike (suc d) (o ∷ ls) (q ∷ ms) go go' e h = label_alike d ls ms go go' (cc) h
label_alike d [] (q ∷ ms) go go' e h = cc
label_alike d (o ∷ ls) [] go go' e h = cc

-- what a branch to the k-th label carries in two runs
carried_alike : (d : ℕ) (ls ms : List Open) (vs ws : List Value) (go go' : Open → List Open → Option Value → Reduced) → map seen_open ls ≡ map seen_open ms → map seen_value vs ≡ map seen_value ws
    → ((o q : Open) (ls ms : List Open) (x y : Option Value) → seen_open o ≡ seen_open q → map seen_open ls ≡ map seen_open ms → option_map seen_value x ≡ option_map seen_value y → Alike (go o ls x) (go' q ms y))
    → Alike (label_at d ls (λ o outer. carry (target_type o.again o.result) vs (go o outer))) (label_at d ms (λ o outer. carry (target_type o.again o.result) ws (go' o outer)))
carried_alike d ls ms vs ws go go' el e h = label_alike d ls ms _ _ el (λ o q ls ms eo els.
    carry_alike (target_type o.again o.result) (target_type q.again q.result) vs ws _ _
    (ap₂ target_type (ap (λ (o : Open). o.again) eo) (ap (λ (o : Open). o.result) eo)) e (λ x y ex. h o q ls ms x y eo els ex))

pub pass_alike : (r q : Reduced) → Alike r q → (d : ℕ) (ls ms : List Open) (vs ws : List Value) → map seen_open ls ≡ map seen_open ms → map seen_value vs ≡ map seen_value ws → Alike (pass r d ls vs) (pass q d ms ws)
pass_alike r q h d ls ms vs ws el e = carried_alike d ls ms vs ws _ _ el e (λ o p ls ms x y eo els ex. h)

module _ (s t : Storage) (es : seen_storage s ≡ seen_storage t) where
  pub goes_alike : (a b : Activation) → a ≡ b → Goes (seen_storage s) a ≡ Goes (seen_storage t) b
  goes_alike a b e = ap₂ Goes es e

  resume_alike : (x y : Option Value) (f g : Frame) (ls ms : List Open) (fs gs : List Frame) → option_map seen_value x ≡ option_map seen_value y → seen_frame f ≡ seen_frame g → map seen_open ls ≡ map seen_open ms → map seen_frame fs ≡ map seen_frame gs → seen_answer (resume s x f ls fs) ≡ seen_answer (resume t y g ms gs)
  resume_alike x y f g [] [] fs gs e ef el efs = refl
  resume_alike x y f g (o ∷ os) (q ∷ qs) fs gs e ef el efs =
      let eo : seen_open (receive x o) ≡ seen_open (receive y q) = receive_alike x y o q e (cc) in
      let eos : map seen_open os ≡ map seen_open qs = cc in
      let e1 : f.func ≡ g.func = ap (λ (f : Frame). f.func) ef in
      let e2 : map seen_value f.locals ≡ map seen_value g.locals = ap (λ (f : Frame). f.locals) ef in
      let ea : seen (record { func = f.func; locals = f.locals; labels = receive x o ∷ os } ∷ fs) ≡ seen (record { func = g.func; locals = g.locals; labels = receive y q ∷ qs } ∷ gs) = cc in
      goes_alike _ _ ea
  resume_alike x y f g [] (q ∷ qs) fs gs e ef el efs = cc
  resume_alike x y f g (o ∷ os) [] fs gs e ef el efs = cc

  pub finish_alike : (x y : Option Value) (fs gs : List Frame) → option_map seen_value x ≡ option_map seen_value y → map seen_frame fs ≡ map seen_frame gs → seen_answer (finish s x fs) ≡ seen_answer (finish t y gs)
  finish_alike x y [] [] e ef = ap Ended e
  finish_alike x y (f ∷ fs) (g ∷ gs) e ef =
      let e1 : seen_frame f ≡ seen_frame g = cc in
      resume_alike x y f g f.labels g.labels fs gs e e1 (ap (λ (f : Frame). f.labels) e1) (cc)
  finish_alike x y [] (g ∷ gs) e ef = cc
  finish_alike x y (f ∷ fs) [] e ef = cc

  module _ (h k : Here) (p : Places h k) where
    labels_alike : (ls ms : List Open) → map seen_open ls ≡ map seen_open ms → seen (with_labels h ls) ≡ seen (with_labels k ms)
    labels_alike ls ms e = let a = p.func in let b = p.locals in let c = p.callers in cc

    pub leave_alike : (x y : Option Value) (ls ms : List Open) → option_map seen_value x ≡ option_map seen_value y → map seen_open ls ≡ map seen_open ms → seen_answer (leave s h x ls) ≡ seen_answer (leave t k y ms)
    leave_alike x y [] [] e el = finish_alike x y h.callers k.callers e p.callers
    leave_alike x y (o ∷ os) (q ∷ qs) e el =
        let eo : seen_open (receive x o) ≡ seen_open (receive y q) = receive_alike x y o q e (cc) in
        goes_alike _ _ (labels_alike (receive x o ∷ os) (receive y q ∷ qs) (cc))
    leave_alike x y [] (q ∷ qs) e el = cc
    leave_alike x y (o ∷ os) [] e el = cc

    rerun_alike : (u : Option (ValueType Label)) (body : Code Label) (ls ms : List Open) → map seen_open ls ≡ map seen_open ms → seen_answer (rerun s h u body ls) ≡ seen_answer (rerun t k u body ms)
    rerun_alike u body [] [] el = refl
    rerun_alike u body (o ∷ os) (q ∷ qs) el =
        let eo : seen_open o ≡ seen_open q = cc in
        let eos : map seen_open os ≡ map seen_open qs = cc in
        let eo' = ap (λ (o : Open). record o { code = Loop u body o.code }) eo in
        goes_alike _ _ (labels_alike (record o { code = Loop u body o.code } ∷ os) (record q { code = Loop u body q.code } ∷ qs) (ap₂ (λ (o : Open) (os : List Open). o ∷ os) eo' eos))
    rerun_alike u body [] (q ∷ qs) el = cc
    rerun_alike u body (o ∷ os) [] el = cc

    arrive_alike : (again again' : Option (Code Label)) (u u' : Option (ValueType Label)) (x y : Option Value) (ls ms : List Open) → again ≡ again' → u ≡ u' → option_map seen_value x ≡ option_map seen_value y → map seen_open ls ≡ map seen_open ms → seen_answer (arrive s h again u x ls) ≡ seen_answer (arrive t k again' u' y ms)
    arrive_alike None None u u' x y ls ms ea eu e el = leave_alike x y ls ms e el
    arrive_alike (Some c) (Some d) u u' x y ls ms ea eu e el =
        let ec : c ≡ d = cc in
        rerun_alike u c ls ms el ∙ ap₂ (λ (u : Option (ValueType Label)) (c : Code Label). seen_answer (rerun t k u c ms)) eu ec
    arrive_alike None (Some d) u u' x y ls ms ea eu e el = cc
    arrive_alike (Some c) None u u' x y ls ms ea eu e el = cc

    pub branch_alike : (note : Answer → Reduced) → ((x y : Answer) → seen_answer x ≡ seen_answer y → Alike (note x) (note y)) → (d : ℕ) (ls ms : List Open) (vs ws : List Value) → map seen_open ls ≡ map seen_open ms → map seen_value vs ≡ map seen_value ws → Alike (branch note s h d ls vs) (branch note t k d ms ws)
    branch_alike note n d ls ms vs ws el e = carried_alike d ls ms vs ws _ _ el e (λ o q ls ms x y eo els ex.
        n _ _ (arrive_alike o.again q.again o.result q.result x y ls ms (ap (λ (o : Open). o.again) eo) (ap (λ (o : Open). o.result) eo) ex els))

    pub invoke_alike : (note : Answer → Reduced) → ((x y : Answer) → seen_answer x ≡ seen_answer y → Alike (note x) (note y)) → (rest : Code Label) (n : ℕ) (callee : FunctionInstance) (vs ws : List Value) → map seen_value vs ≡ map seen_value ws → Alike (invoke note s h rest n callee vs) (invoke note t k rest n callee ws)
    invoke_alike note nt rest n callee vs ws e =
        pops_alike (upon callee.type.params []) [] [] vs ws _ _ refl e
        (λ xs ys vs' ws' ex e'. nt _ _ (goes_alike _ _ (
        let zs = map zero_of callee.locals in
        let el : map seen_value (xs ++ zs) ≡ map seen_value (ys ++ zs) = map-append seen_value xs zs ∙ ap (λ (l : List Value). l ++ map seen_value zs) ex ∙ sym (map-append seen_value ys zs) in
        let ep = put_alike h k rest vs' ws' p e' in
        ap₂ (λ (l : List Value) (fs : List Frame). record { func = n; locals = l; labels = record { values = []; code = callee.body; result = callee.type.result; again = None } ∷ [] } ∷ fs) el ep)))
