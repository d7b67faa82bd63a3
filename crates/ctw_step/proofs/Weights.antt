-- What a running call weighs.
use Rattle.std.proofs.Common.{◌≡◌, ℕ, ◌+◌, ◌<◌, Bool, true, false, nat_le, List, [], ◌∷◌, map, length, Option, Some, slice_get, refl, sym, ap, ◌∙◌, subst, arith, length-append}
use Rattle.std.specs.Prelude.{if◌then◌else◌}
use Rattle.std.proofs.lemmas.List.{length-map}
use Rattle.ctw_ops.specs.declared.types.Label.{Label}
use Rattle.ctw_ops.specs.Code.{Code}
use Rattle.ctw_script.specs.declared.trap.TrapCode.TheVariants.{Exhausted}
use Rattle.ctw_semantics.specs.Values.{Value}
use Rattle.ctw_semantics.specs.Stores.{Storage}
use Rattle.ctw_semantics.specs.Instances.{FunctionInstance, Functions}
use Rattle.ctw_semantics.specs.Activations.{Open, Frame, Activation, labels_weight, weight}
use Rattle.ctw_semantics.specs.Answers.{Answer, Goes, Ended, Trapped, Stuck, Reduced, given}
use Rattle.ctw_semantics.specs.Machine as Machine
use Rattle.ctw_semantics.specs.Machine.{Here, put, limited, within_weight, red}
use Rattle.ctw_step.specs.declared.running.Opened.{Opened}
use Rattle.ctw_step.specs.declared.running.Stepped.{Stepped}
use Rattle.ctw_step.specs.declared.running.Stepped.TheVariants as Steppeds
use Rattle.ctw_ops.specs.Limits.{most_weight}
use Rattle.ctw_step.specs.Shown.{Shown}
use Rattle.ctw_step.specs.Stands.{Codes, number_of, numbers, operands_of, all_operands, all_locals, all_labels, upward, LabelsStand, FrameRecords, FramesStand, Stands}
use Rattle.ctw_step.specs.Told.{Tells, words, Weighs}

numbers_long : (vs : List Value) → length (numbers vs) ≡ length vs
numbers_long [] = refl
numbers_long (v ∷ vs) = let e = numbers_long vs in length-append (numbers vs) (v.number ∷ []) ∙ omega arith

pub upward_long : (rs : List Opened) → length (upward rs) ≡ length rs
upward_long [] = refl
upward_long (r ∷ rs) = let e = upward_long rs in length-append (upward rs) (r ∷ []) ∙ omega arith

labels_weigh : (bytes : List ℕ) (under at : ℕ) (rs : List Opened) (os : List Open) → LabelsStand bytes under at rs os → 0 < length rs → labels_weight os + 1 ≡ length (operands_of os) + length rs
labels_weigh bytes under at [] os st h = absurd (omega arith)
labels_weigh bytes under at (r ∷ rs) [] st h = absurd st
labels_weigh bytes under at (r ∷ []) (o ∷ []) st h = let e = numbers_long o.values in omega arith
labels_weigh bytes under at (r ∷ q ∷ rs) (o ∷ []) st h = absurd st.1
labels_weigh bytes under at (r ∷ []) (o ∷ p ∷ os) st h = absurd st.1
labels_weigh bytes under at (r ∷ q ∷ rs) (o ∷ p ∷ os) st h =
    let e = labels_weigh bytes under r.after (q ∷ rs) (p ∷ os) st.1 (omega arith) in
    let n = numbers_long o.values in
    let a = length-append (operands_of (p ∷ os)) (numbers o.values) in
    omega arith

frames_weigh : (codes : Codes) (at : ℕ) (rs : List FrameRecords) (fs : List Frame) → FramesStand codes at rs fs → weight fs ≡ length (all_operands fs) + length (all_locals fs) + length (all_labels rs)
frames_weigh codes at [] [] st = refl
frames_weigh codes at [] (f ∷ fs) st = absurd st
frames_weigh codes at (r ∷ rs) [] st = absurd st
frames_weigh codes at (r ∷ rs) (f ∷ fs) st =
    let e = frames_weigh codes r.frame.back rs fs st.1 in
    let l = labels_weigh (codes f.func) (length (all_operands fs)) at r.labels f.labels st.0.labels st.0.some in
    let o = length-append (all_operands fs) (operands_of f.labels) in
    let x = length-append (all_locals fs) (map number_of f.locals) in
    let m = length-map f.locals number_of in
    let u = length-append (all_labels rs) (upward r.labels) in
    let w = upward_long r.labels in
    omega arith

pub weighs : (codes : Codes) (c : Shown) (a : Activation) → Stands codes c a → weight a ≡ words c
weighs codes c a st =
    let e = frames_weigh codes c.at st.records a st.places in
    let o = ap length st.operands in
    let l = ap length st.locals in
    let b = ap length st.labels in
    omega arith

-- what is told of a reduction that is weighed
pub weighed : (codes : Codes) (s : Storage) (c : Shown) (r r' : Stepped) (x : Reduced) → Tells codes s c r x.answer x.event → Weighs c r r' → Tells codes s c r' (limited x).answer (limited x).event
weighed codes s c r r' x t w = go r x.answer t w
  where
    go : (r : Stepped) (a : Answer) → Tells codes s c r a x.event → Weighs c r r' → Tells codes s c r' (within_weight a) x.event
    go (Steppeds.Went e) (Goes u a) t w = heavy (nat_le (weight a) most_weight) (nat_le (words c) most_weight) (ap (λ n. nat_le n most_weight) (weighs codes c a t.1)) w
      where
        heavy : (b d : Bool) → b ≡ d → r' ≡ (if d then Steppeds.Went e else Steppeds.Trapped Exhausted e) → Tells codes s c r' (if b then Goes u a else Trapped Exhausted) x.event
        heavy true true q w = subst (λ r. Tells codes s c r (Goes u a) x.event) (sym w) t
        heavy false false q w = subst (λ r. Tells codes s c r (Trapped Exhausted) x.event) (sym w) (refl, t.2)
        heavy true false q w = absurd cc
        heavy false true q w = absurd cc
    go (Steppeds.Went e) (Ended v) t w = absurd t
    go (Steppeds.Went e) (Trapped k) t w = absurd t
    go (Steppeds.Went e) Stuck t w = absurd t
    go (Steppeds.Ended n e) (Goes u a) t w = absurd t
    go (Steppeds.Ended n e) (Ended v) t w = subst (λ r. Tells codes s c r (Ended v) x.event) (sym w) t
    go (Steppeds.Ended n e) (Trapped k) t w = absurd t
    go (Steppeds.Ended n e) Stuck t w = absurd t
    go (Steppeds.Trapped k e) (Goes u a) t w = absurd t
    go (Steppeds.Trapped k e) (Ended v) t w = absurd t
    go (Steppeds.Trapped k e) (Trapped d) t w = subst (λ r. Tells codes s c r (Trapped d) x.event) (sym w) t
    go (Steppeds.Trapped k e) Stuck t w = absurd t

-- the reduction of an activation is that of its innermost code, weighed
pub red_is : (fns : Functions) (fn : FunctionInstance) (s : Storage) (h : Here) (code : Code Label) (vs : List Value) → slice_get fns h.func ≡ Some fn → red fns s (put h code vs) ≡ limited (Machine.next fns fn s h code vs)
red_is fns fn s h code vs e = ap (λ (o : Option FunctionInstance). given o (λ fn. limited (Machine.next fns fn s h code vs))) e
