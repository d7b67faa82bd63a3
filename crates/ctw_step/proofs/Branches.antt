-- Labels that are left.
use Rattle.std.proofs.Common.{◌≡◌, true, false, ◌≢◌, ℕ, zero, suc, ◌+◌, ◌<◌, ◌≤◌, List, [], ◌∷◌, ◌++◌, map, length, take, Option, Some, None, Ok, slice_get, is_some, option_map, option_to_list, refl, sym, ap, ◌∙◌, subst, arith, append_assoc, append-nil, length-append, length-take}
use Rattle.std.proofs.Math.Seq.{take-append_seam}
use Rattle.ctw_ops.specs.declared.types.Label.{Label}
use Rattle.ctw_ops.specs.Types.{ValueType}
use Rattle.ctw_ops.specs.Typing.{optional, upon}
use Rattle.ctw_ops.specs.Code.{Code, Stop, Loop, Closer, Op, Closes}
use Rattle.ctw_semantics.specs.Values.{Value, value}
use Rattle.ctw_semantics.specs.Activations.{Open, Frame}
use Rattle.ctw_semantics.specs.Stores.{Storage}
use Rattle.ctw_semantics.specs.Answers.{Goes, Ended, Stuck, Reduced, carry, quiet}
use Rattle.ctw_semantics.specs.Machine.{Here, innermost, with_labels, put, receive, leave, finish, resume, label_at, branch, pass, arrive, target_type}
use Rattle.ctw_semantics.specs.Machine as Machine
use Rattle.ctw_semantics.specs.Instances.{FunctionInstance, Functions}
use Rattle.ctw_flat.specs.declared.instr.Instr.{Instr}
use Rattle.ctw_flat.specs.Instructions.{op_of}
use Rattle.ctw_step.proofs.Reading.{on_closer}
use Rattle.ctw_step.proofs.Takers.{pop_there}
use Rattle.ctw_step.proofs.Views.{popped, noted}
use Rattle.ctw_step.proofs.Weights.{upward_long}
use Rattle.ctw_step.specs.declared.running.Opened.{Opened}
use Rattle.ctw_step.specs.Shown.{Shown}
use Rattle.ctw_step.specs.Leaving.{without_labels, without_frame, Left, Leaves, LeavesBy, BranchedBy}
use Rattle.ctw_step.specs.Told.{Tells, Meets, last_result}
use Rattle.ctw_script.specs.declared.event.Event.{Event}
use Rattle.ctw_step.specs.declared.running.Caller.{Caller}
use Rattle.ctw_step.specs.declared.running.Stepped.{Stepped}
use Rattle.ctw_step.specs.Stands.{Codes, number_of, numbers, operands_of, all_operands, all_locals, all_labels, all_frames, upward, AgainStands, LabelStands, LabelsStand, FrameRecords, FrameStands, FramesStand, Stands}
use Rattle.ctw_step.proofs.Inside.{Framed, Inner, inner, stands_again, operands_are}
use Rattle.ctw_step.proofs.Moves.{get_behind, last_same}

abbrev without_first : List Open → List Open
without_first [] = []
without_first (o ∷ os) = os

-- the k-th of labels with its record, and those outside it
pub record Kth (bytes : List ℕ) (under : ℕ) (records : List Opened) (labels : List Open) (k : ℕ) (o : Open) (outer : List Open) : Type 0 where
  pub record_of : Opened
  pub records_outside : List Opened
  pub inside : List Opened
  pub extra : List ℕ
  pub at : ℕ
  pub head : LabelStands bytes under at record_of o outer
  pub tail : LabelsStand bytes under record_of.after records_outside outer
  pub are : upward records ≡ upward records_outside ++ record_of ∷ inside
  pub count : length inside ≡ k
  pub operands : operands_of labels ≡ operands_of outer ++ extra
  pub low : length (operands_of outer) ≤ length (operands_of (without_first labels))

pub kth_there : (P : Reduced → Type 0) (bytes : List ℕ) (under at k : ℕ) (records : List Opened) (labels : List Open) (go : Open → List Open → Reduced) → LabelsStand bytes under at records labels → (label_at k labels go).answer ≢ Stuck
    → ((o : Open) (outer : List Open) → Kth bytes under records labels k o outer → (go o outer).answer ≢ Stuck → P (go o outer)) → P (label_at k labels go)
kth_there P bytes under at k records [] go st n h = absurd (n refl)
kth_there P bytes under at k [] (o ∷ os) go st n h = absurd st
kth_there P bytes under at zero (r ∷ rs) (o ∷ os) go st n h =
    h o os (record { record_of = r; records_outside = rs; inside = []; extra = numbers o.values; at = at; head = st.0; tail = st.1; are = refl; count = refl; operands = refl; low = omega arith }) n
kth_there P bytes under at (suc k) (r ∷ rs) (o ∷ os) go st n h =
    kth_there P bytes under r.after k rs os go st.1 n (λ p outer q m. h p outer (record {
      record_of = q.record_of;
      records_outside = q.records_outside;
      inside = q.inside ++ r ∷ [];
      extra = q.extra ++ numbers o.values;
      at = q.at;
      head = q.head;
      tail = q.tail;
      are = ap (λ l. l ++ r ∷ []) q.are ∙ append_assoc (upward q.records_outside) (q.record_of ∷ q.inside) (r ∷ []);
      count = length-append q.inside (r ∷ []) ∙ omega (arith, q.count);
      low = omega (arith, ap length q.operands, length-append (operands_of outer) q.extra);
      operands = ap (λ l. l ++ numbers o.values) q.operands ∙ append_assoc (operands_of outer) q.extra (numbers o.values);
    }) m)

pub received : (v : Option Value) (vs : List Value) → numbers (upon (optional v) vs) ≡ numbers vs ++ option_to_list (option_map number_of v)
received None vs = sym (append-nil (numbers vs))
received (Some v) vs = refl

pub taken : {A : Type 0} (l xs ys : List A) (n : ℕ) → l ≡ xs ++ ys → n ≡ length xs → take n l ≡ xs
taken l xs ys n e q = ap (λ n. take n l) q ∙ ap (take (length xs)) e ∙ take-append_seam xs ys

-- the words below a label's
pub below_label : (codes : Codes) (c : Shown) (h : Here) (labels : List Open) (f : Framed codes c h labels) (k : ℕ) (o : Open) (outer : List Open) (q : Kth (codes h.func) (length (all_operands h.callers)) f.records labels k o outer)
    → take q.record_of.height c.operands ≡ all_operands h.callers ++ operands_of outer
below_label codes c h labels f k o outer q =
    taken c.operands (all_operands h.callers ++ operands_of outer) q.extra q.record_of.height
    (f.operands ∙ ap (λ l. all_operands h.callers ++ l) q.operands ∙ sym (append_assoc (all_operands h.callers) (operands_of outer) q.extra))
    (q.head.height ∙ sym (length-append (all_operands h.callers) (operands_of outer)))

pub labels_below : (codes : Codes) (c : Shown) (h : Here) (labels : List Open) (f : Framed codes c h labels) (k : ℕ) (o : Open) (outer : List Open) (q : Kth (codes h.func) (length (all_operands h.callers)) f.records labels k o outer) (index : ℕ) → index + 1 + k ≡ length c.labels
    → take index c.labels ≡ all_labels f.others ++ upward q.records_outside
labels_below codes c h labels f k o outer q index n =
    let e : c.labels ≡ (all_labels f.others ++ upward q.records_outside) ++ q.record_of ∷ q.inside = f.labels ∙ ap (λ l. all_labels f.others ++ l) q.are ∙ sym (append_assoc (all_labels f.others) (upward q.records_outside) (q.record_of ∷ q.inside)) in
    taken c.labels (all_labels f.others ++ upward q.records_outside) (q.record_of ∷ q.inside) index e
    (omega (arith, n, ap length e, length-append (all_labels f.others ++ upward q.records_outside) (q.record_of ∷ q.inside), q.count))

pub label_is : (codes : Codes) (c : Shown) (h : Here) (labels : List Open) (f : Framed codes c h labels) (k : ℕ) (o : Open) (outer : List Open) (q : Kth (codes h.func) (length (all_operands h.callers)) f.records labels k o outer) (index : ℕ) → index + 1 + k ≡ length c.labels
    → slice_get c.labels index ≡ Some q.record_of
label_is codes c h labels f k o outer q index n =
    let e : c.labels ≡ (all_labels f.others ++ upward q.records_outside) ++ q.record_of ∷ q.inside = f.labels ∙ ap (λ l. all_labels f.others ++ l) q.are ∙ sym (append_assoc (all_labels f.others) (upward q.records_outside) (q.record_of ∷ q.inside)) in
    let i : index ≡ length (all_labels f.others ++ upward q.records_outside) + 0 = omega (arith, n, ap length e, length-append (all_labels f.others ++ upward q.records_outside) (q.record_of ∷ q.inside), q.count) in
    ap (λ l. slice_get l index) e ∙ get_behind (all_labels f.others ++ upward q.records_outside) (q.record_of ∷ q.inside) 0 index i

-- a label inside a function is left with perhaps a value
pub label_left : (codes : Codes) (c c' : Shown) (h : Here) (labels : List Open) (f : Framed codes c h labels) (k : ℕ) (o p : Open) (outer : List Open) (v : Option Value) (index : ℕ)
    → (q : Kth (codes h.func) (length (all_operands h.callers)) f.records labels k o (p ∷ outer)) → index + 1 + k ≡ length c.labels
    → c' ≡ without_labels c (take q.record_of.height c.operands ++ option_to_list (option_map number_of v)) index q.record_of.after
    → Stands codes c' (with_labels h (receive v p ∷ outer))
label_left codes c c' h labels f k o p outer v index q n e =
    subst (λ (c' : Shown). Stands codes c' (with_labels h (receive v p ∷ outer))) (sym e) (go q.records_outside refl q.tail)
  where
    go : (rs : List Opened) → q.records_outside ≡ rs → LabelsStand (codes h.func) (length (all_operands h.callers)) q.record_of.after rs (p ∷ outer)
        → Stands codes (without_labels c (take q.record_of.height c.operands ++ option_to_list (option_map number_of v)) index q.record_of.after) (with_labels h (receive v p ∷ outer))
    go [] w st = absurd st
    go (r ∷ rs) w st =
        stands_again codes c (without_labels c (take q.record_of.height c.operands ++ option_to_list (option_map number_of v)) index q.record_of.after) h labels (receive v p ∷ outer) h.locals f (r ∷ rs) (omega arith)
        (record { code = st.0.code; height = st.0.height; has_result = st.0.has_result; again = st.0.again }, st.1)
        (ap (λ l. l ++ option_to_list (option_map number_of v)) (below_label codes c h labels f k o (p ∷ outer) q)
        ∙ append_assoc (all_operands h.callers) (operands_of outer ++ numbers p.values) (option_to_list (option_map number_of v))
        ∙ ap (λ l. all_operands h.callers ++ l) (append_assoc (operands_of outer) (numbers p.values) (option_to_list (option_map number_of v)) ∙ ap (λ l. operands_of outer ++ l) (sym (received v p.values))))
        f.locals
        (labels_below codes c h labels f k o (p ∷ outer) q index n ∙ ap (λ rs. all_labels f.others ++ upward rs) w)
        refl

-- a loop is run again
pub loop_rerun : (codes : Codes) (c c' : Shown) (h : Here) (labels : List Open) (f : Framed codes c h labels) (k : ℕ) (o p : Open) (outer : List Open) (body : Code Label) (index : ℕ)
    → (q : Kth (codes h.func) (length (all_operands h.callers)) f.records labels k o (p ∷ outer)) → o.again ≡ Some body → index + 1 + k ≡ length c.labels
    → c' ≡ without_labels c (take q.record_of.height c.operands) index q.record_of.start
    → Stands codes c' (with_labels h (record p { code = Loop o.result body p.code } ∷ outer))
loop_rerun codes c c' h labels f k o p outer body index q a n e =
    subst (λ (c' : Shown). Stands codes c' (with_labels h (record p { code = Loop o.result body p.code } ∷ outer))) (sym e)
    (go q.records_outside refl q.tail (subst (λ (b : Option (Code Label)). AgainStands (codes h.func) q.record_of b o.result (p ∷ outer)) a q.head.again))
  where
    go : (rs : List Opened) → q.records_outside ≡ rs → LabelsStand (codes h.func) (length (all_operands h.callers)) q.record_of.after rs (p ∷ outer) → AgainStands (codes h.func) q.record_of (Some body) o.result (p ∷ outer)
        → Stands codes (without_labels c (take q.record_of.height c.operands) index q.record_of.start) (with_labels h (record p { code = Loop o.result body p.code } ∷ outer))
    go [] w st again = absurd st
    go (r ∷ rs) w st again =
        stands_again codes c (without_labels c (take q.record_of.height c.operands) index q.record_of.start) h labels (record p { code = Loop o.result body p.code } ∷ outer) h.locals f (r ∷ rs) (omega arith)
        (record { code = record { closer = again.0; tail = again.1; stands = again.3 }; height = st.0.height; has_result = st.0.has_result; again = st.0.again }, st.1)
        (below_label codes c h labels f k o (p ∷ outer) q)
        f.locals
        (labels_below codes c h labels f k o (p ∷ outer) q index n ∙ ap (λ rs. all_labels f.others ++ upward rs) w)
        refl

-- ---- functions that are left

pub front_same : {A : Type 0} (xs ys : List A) (x y : A) → xs ++ x ∷ [] ≡ ys ++ y ∷ [] → xs ≡ ys
front_same xs ys x y e =
    let l : length xs ≡ length ys = omega (arith, ap length e, length-append xs (x ∷ []), length-append ys (y ∷ [])) in
    sym (take-append_seam xs (x ∷ [])) ∙ ap (take (length xs)) e ∙ ap (λ n. take n (ys ++ y ∷ [])) l ∙ take-append_seam ys (y ∷ [])

-- the caller goes on with perhaps a value
pub frame_left : (codes : Codes) (c c' : Shown) (h : Here) (labels : List Open) (f : Framed codes c h labels) (k : ℕ) (o : Open) (g : Frame) (gs : List Frame) (p : Open) (outer : List Open) (v : Option Value) (front : List Caller) (fr : Caller)
    → (q : Kth (codes h.func) (length (all_operands h.callers)) f.records labels k o []) → h.callers ≡ g ∷ gs → g.labels ≡ p ∷ outer → c.frames ≡ front ++ fr ∷ []
    → c' ≡ without_frame c (take q.record_of.height c.operands ++ option_to_list (option_map number_of v)) front fr fr.labels
    → Stands codes c' (record g { labels = receive v p ∷ outer } ∷ gs)
frame_left codes c c' h labels f k o g gs p outer v front fr q hc hl ef e =
    subst (λ (c' : Shown). Stands codes c' (record g { labels = receive v p ∷ outer } ∷ gs)) (sym e) (go f.others refl (subst (λ fs. FramesStand codes f.frame.back f.others fs) hc f.callers))
  where
    go : (rs : List FrameRecords) → f.others ≡ rs → FramesStand codes f.frame.back rs (g ∷ gs)
        → Stands codes (without_frame c (take q.record_of.height c.operands ++ option_to_list (option_map number_of v)) front fr fr.labels) (record g { labels = receive v p ∷ outer } ∷ gs)
    go [] w st = absurd st
    go (r ∷ rs) w st =
        let same : fr ≡ f.frame = last_same front (all_frames f.others) fr f.frame (sym ef ∙ f.frames) in
        let fronts : front ≡ all_frames (r ∷ rs) = front_same front (all_frames f.others) fr f.frame (sym ef ∙ f.frames) ∙ ap all_frames w in
        let back : f.frame.back ≡ fr.back = ap (λ (f : Caller). f.back) (sym same) in
        let first : fr.locals ≡ length (all_locals h.callers) = ap (λ (f : Caller). f.locals) same ∙ f.first in
        let below : fr.labels ≡ length (all_labels f.others) = ap (λ (f : Caller). f.labels) same ∙ f.below in
        record {
          records = r ∷ rs;
          operands = ap (λ l. l ++ option_to_list (option_map number_of v)) (below_label codes c h labels f k o [] q ∙ append-nil (all_operands h.callers) ∙ ap all_operands hc ∙ ap (λ l. all_operands gs ++ operands_of l) hl)
              ∙ append_assoc (all_operands gs) (operands_of outer ++ numbers p.values) (option_to_list (option_map number_of v))
              ∙ ap (λ l. all_operands gs ++ l) (append_assoc (operands_of outer) (numbers p.values) (option_to_list (option_map number_of v)) ∙ ap (λ l. operands_of outer ++ l) (sym (received v p.values)));
          locals = taken c.locals (all_locals h.callers) (map number_of h.locals) fr.locals f.locals first ∙ ap all_locals hc;
          labels = taken c.labels (all_labels f.others) (upward f.records) fr.labels f.labels below ∙ ap all_labels w;
          frames = fronts;
          places = (record { func = st.0.func; locals = st.0.locals; below = st.0.below; some = st.0.some; labels = again r rs fr.back (subst (λ n. FrameStands codes n r rs g gs) back st.0) }, st.1);
        }
      where
        again : (r : FrameRecords) (rs : List FrameRecords) (at : ℕ) → FrameStands codes at r rs g gs → LabelsStand (codes g.func) (length (all_operands gs)) at r.labels (receive v p ∷ outer)
        again r rs at st = waits r.labels (subst (LabelsStand (codes g.func) (length (all_operands gs)) at r.labels) hl st.labels)
          where
            waits : (ls : List Opened) → LabelsStand (codes g.func) (length (all_operands gs)) at ls (p ∷ outer) → LabelsStand (codes g.func) (length (all_operands gs)) at ls (receive v p ∷ outer)
            waits [] x = absurd x
            waits (l ∷ ls) x = (record { code = x.0.code; height = x.0.height; has_result = x.0.has_result; again = x.0.again }, x.1)

-- ---- both, from what the code says of it

pub left_done : (codes : Codes) (c c' : Shown) (s : Storage) (h : Here) (labels : List Open) (f : Framed codes c h labels) (k : ℕ) (o : Open) (outer : List Open) (v : Option Value) (index : ℕ) (e : Option Event) (r : Stepped)
    → (q : Kth (codes h.func) (length (all_operands h.callers)) f.records labels k o outer) → index + 1 + k ≡ length c.labels → (leave s h v outer) ≢ Stuck
    → Left c q.record_of index (option_map number_of v) e r c' → Tells codes s c' r (leave s h v outer) e
left_done codes c c' s h labels f k o (p ∷ outer) v index e r q n ns l =
    let x = l.label (all_frames f.others) f.frame f.frames (inner_index q.records_outside refl q.tail) in
    subst (λ r. Tells codes s c' r (Goes s (with_labels h (receive v p ∷ outer))) e) (sym x.0) (refl, label_left codes c c' h labels f k o p outer v index q n x.1, refl)
  where
    inner_index : (rs : List Opened) → q.records_outside ≡ rs → LabelsStand (codes h.func) (length (all_operands h.callers)) q.record_of.after rs (p ∷ outer) → f.frame.labels < index
    inner_index [] w st = absurd st
    inner_index (x ∷ rs) w st =
        let a = ap length (labels_below codes c h labels f k o (p ∷ outer) q index n) in
        let b = length-append (all_labels f.others) (upward q.records_outside) in
        let d = ap (λ l. length (upward l)) w ∙ length-append (upward rs) (x ∷ []) in
        let t = length-take index c.labels in
        let g = f.below in
        omega arith
left_done codes c c' s h labels f k o [] v index e r q n ns l = ends h.callers refl f.others refl f.callers
  where
    none : (rs : List Opened) → q.records_outside ≡ rs → LabelsStand (codes h.func) (length (all_operands h.callers)) q.record_of.after rs [] → length (upward q.records_outside) ≡ 0
    none [] w st = ap (λ l. length (upward l)) w
    none (x ∷ rs) w st = absurd st

    outermost : index ≤ f.frame.labels
    outermost =
        let a = ap length (labels_below codes c h labels f k o [] q index n) in
        let b = length-append (all_labels f.others) (upward q.records_outside) in
        let d = none q.records_outside refl q.tail in
        let t = length-take index c.labels in
        let g = f.below in
        omega arith

    resumed : (g : Frame) (gs : List Frame) (ls : List Open) → h.callers ≡ g ∷ gs → g.labels ≡ ls → (resume s v g ls gs) ≢ Stuck → (x : FrameRecords) (rs : List FrameRecords) → f.others ≡ x ∷ rs → Tells codes s c' r (resume s v g ls gs) e
    resumed g gs [] hc hl m x rs w = absurd (m refl)
    resumed g gs (p ∷ os) hc hl m x rs w =
        let fe : c.frames ≡ (all_frames rs ++ x.frame ∷ []) ++ f.frame ∷ [] = f.frames ∙ ap (λ rs. all_frames rs ++ f.frame ∷ []) w in
        let y = l.frame (all_frames rs) x.frame f.frame fe outermost in
        subst (λ r. Tells codes s c' r (Goes s (record g { labels = receive v p ∷ os } ∷ gs)) e) (sym y.0)
        (refl, frame_left codes c c' h labels f k o g gs p os v (all_frames rs ++ x.frame ∷ []) f.frame q hc hl fe y.1, refl)

    ends : (callers : List Frame) → h.callers ≡ callers → (rs : List FrameRecords) → f.others ≡ rs → FramesStand codes f.frame.back rs callers → Tells codes s c' r (finish s v callers) e
    ends [] hc [] w st = subst (λ r. Tells codes s c' r (Ended v) e) (sym (l.last f.frame (f.frames ∙ ap (λ rs. all_frames rs ++ f.frame ∷ []) w) outermost)) (refl, refl)
    ends [] hc (x ∷ rs) w st = absurd st
    ends (g ∷ gs) hc [] w st = absurd st
    ends (g ∷ gs) hc (x ∷ rs) w st = resumed g gs g.labels hc refl (subst (λ callers. (finish s v callers) ≢ Stuck) hc ns) x rs w

-- what a label carries is there
pub carry_there : (P : Reduced → Type 0) (t : Option (ValueType Label)) (vs : List Value) (go : Option Value → Reduced) → (carry t vs go).answer ≢ Stuck
    → ((v : Option Value) (below : List Value) → is_some (option_map number_of v) ≡ is_some t → numbers vs ≡ numbers below ++ option_to_list (option_map number_of v) → (go v).answer ≢ Stuck → P (go v)) → P (carry t vs go)
carry_there P None vs go n h = h None vs refl (sym (append-nil (numbers vs))) n
carry_there P (Some t) vs go n h = pop_there P t vs (λ n below. go (Some (value t n))) n (λ v below e q m. h (Some (value t v.number)) below refl (ap numbers e) m)

abbrev pub kth_here : (codes : Codes) (c : Shown) (h : Here) (code : Code Label) (vs : List Value) (i : Inner codes c h code vs) → Kth (codes h.func) (length (all_operands h.callers)) i.framed.records (innermost h code vs ∷ h.outer) 0 (innermost h code vs) h.outer
kth_here codes c h code vs i = record { record_of = i.record_of; records_outside = i.records; inside = []; extra = numbers vs; at = c.at; head = i.head; tail = i.tail; are = ap upward i.are; count = refl; operands = refl; low = omega arith }

record LeavesHere (c : Shown) (index : ℕ) (label : Opened) (carried : Option ℕ) : Type 0 where
  pub below : List ℕ
  pub is : slice_get c.labels index ≡ Some label
  pub some : is_some carried ≡ label.has_result
  pub operands : c.operands ≡ below ++ option_to_list carried
  pub high : label.height ≤ length below

leaves_here : (codes : Codes) (c : Shown) (h : Here) (code : Code Label) (vs : List Value) (i : Inner codes c h code vs) (index : ℕ) → index + 1 ≡ length c.labels → (v : Option Value) (below : List Value)
    → is_some (option_map number_of v) ≡ is_some h.result → numbers vs ≡ numbers below ++ option_to_list (option_map number_of v) → LeavesHere c index i.record_of (option_map number_of v)
leaves_here codes c h code vs i index n v below sv ev =
    let u : List ℕ = all_operands h.callers ++ operands_of h.outer in
    record {
      below = u ++ numbers below;
      is = label_is codes c h (innermost h code vs ∷ h.outer) i.framed 0 (innermost h code vs) h.outer (kth_here codes c h code vs i) index (omega (arith, n));
      some = sv ∙ sym i.head.has_result;
      operands = operands_are codes c h code vs i ∙ ap (λ l. u ++ l) ev ∙ sym (append_assoc u (numbers below) (option_to_list (option_map number_of v)));
      high = omega (arith, i.head.height, length-append (all_operands h.callers) (operands_of h.outer), length-append u (numbers below));
    }

-- ---- ends and branches

-- the innermost label can be left
pub some_label : (codes : Codes) (c : Shown) (h : Here) (code : Code Label) (vs : List Value) → Stands codes c (put h code vs) → 0 < length c.labels
some_label codes c h code vs st =
    let j = inner codes c h code vs st in
    let f = j.framed in
    omega (arith, ap length f.labels, length-append (all_labels f.others) (upward f.records), ap (λ l. length (upward l)) j.are, length-append (upward j.records) (j.record_of ∷ []))

module _ (codes : Codes) (bytes : List ℕ) (c : Shown) (next : ℕ) (fns : Functions) (fn : FunctionInstance) (s : Storage) (h : Here) (code : Code Label) (vs : List Value) where
  abbrev Told : Shown → Stepped → Type 0
  Told c' r = Tells codes s c' r (Machine.next fns fn s h code vs).answer (Machine.next fns fn s h code vs).event

  abbrev Met' : Instr → Type 0
  Met' i = Meets codes bytes c i next fns fn s h code vs

  pub ended : (i : Instr) (k : Closer) → op_of i ≡ Closes k → Met' i → (index : ℕ) → index + 1 ≡ length c.labels → (r : Stepped) (c' : Shown) → LeavesBy c index None r c' → Told c' r
  ended i k e m index n r c' l =
      on_closer (codes h.func) c.at next (λ code. Inner codes c h code vs → (Machine.next fns fn s h code vs).answer ≢ Stuck → Tells codes s c' r (Machine.next fns fn s h code vs).answer (Machine.next fns fn s h code vs).event) k (m.reads ∙ ap (λ (o : Op Label). Ok (o, next)) e) code (inner codes c h code vs m.stands).head.code
      (λ i going. carry_there (λ x. Tells codes s c' r x.answer x.event) h.result vs (λ v. quiet (leave s h v h.outer)) going
      (λ v below sv ev go.
      let x = leaves_here codes c h Stop vs i index n v below sv ev in
      left_done codes c c' s h (innermost h Stop vs ∷ h.outer) i.framed 0 (innermost h Stop vs) h.outer v index None r (kth_here codes c h Stop vs i) (omega (arith, n)) go
      (l i.record_of (option_map number_of v) x.below x.is x.some x.operands x.high)))
      (inner codes c h code vs m.stands) m.going

  pub ended_there : (i : Instr) (k : Closer) → op_of i ≡ Closes k → Met' i → (index : ℕ) → index + 1 ≡ length c.labels → Leaves c index
  ended_there i k e m index n =
      on_closer (codes h.func) c.at next (λ code. Inner codes c h code vs → (Machine.next fns fn s h code vs).answer ≢ Stuck → Leaves c index) k (m.reads ∙ ap (λ (o : Op Label). Ok (o, next)) e) code (inner codes c h code vs m.stands).head.code
      (λ i going. carry_there (λ x. Leaves c index) h.result vs (λ v. quiet (leave s h v h.outer)) going
      (λ v below sv ev go.
      let x = leaves_here codes c h Stop vs i index n v below sv ev in
      record { label = i.record_of; carried = option_map number_of v; below = x.below; is = x.is; some = x.some; operands = x.operands; high = x.high }))
      (inner codes c h code vs m.stands) m.going

-- ---- branches, from a call that stands behind the instruction with the operands that it left

module _ (codes : Codes) (b : Shown) (s : Storage) (h : Here) (rest : Code Label) (ws : List Value) (k : ℕ) (e : Option Event) (st : Stands codes b (put h rest ws)) where
  abbrev Labels : List Open
  Labels = innermost h rest ws ∷ h.outer

  abbrev pub Way : Reduced
  Way = branch (noted e) s h k Labels ws

  abbrev Kth' : Inner codes b h rest ws → Open → List Open → Type 0
  Kth' j o outer = Kth (codes h.func) (length (all_operands h.callers)) j.framed.records Labels k o outer

  pub branch_done : Way.answer ≢ Stuck → (index : ℕ) → index + 1 + k ≡ length b.labels → (r : Stepped) (c' : Shown) → BranchedBy b index e r c' → Tells codes s c' r Way.answer Way.event
  branch_done going index n r c' y =
      let j = inner codes b h rest ws st in
      let f = j.framed in
      kth_there (λ x. Tells codes s c' r x.answer x.event) (codes h.func) (length (all_operands h.callers)) b.at k f.records Labels (λ o outer. carry (target_type o.again o.result) ws (λ v. noted e (arrive s h o.again o.result v outer))) f.stand going
      (λ o outer q go. arrived j o outer q (label_is codes b h Labels f k o outer q index n) o.again refl go)
    where
      arrived : (j : Inner codes b h rest ws) (o : Open) (outer : List Open) (q : Kth' j o outer)
          → slice_get b.labels index ≡ Some q.record_of → (again : Option (Code Label)) → o.again ≡ again → (carry (target_type again o.result) ws (λ v. noted e (arrive s h again o.result v outer))).answer ≢ Stuck
          → Tells codes s c' r (carry (target_type again o.result) ws (λ v. noted e (arrive s h again o.result v outer))).answer (carry (target_type again o.result) ws (λ v. noted e (arrive s h again o.result v outer))).event
      arrived j o outer q is None ea go =
          let loops : q.record_of.is_loop ≡ false = subst (λ (a : Option (Code Label)). AgainStands (codes h.func) q.record_of a o.result outer) ea q.head.again in
          carry_there (λ x. Tells codes s c' r x.answer x.event) o.result ws (λ v. noted e (leave s h v outer)) go
          (λ v below sv ev go'.
          let u : List ℕ = all_operands h.callers ++ operands_of h.outer in
          left_done codes b c' s h Labels j.framed k o outer v index e r q n go'
          (y.leaves q.record_of (option_map number_of v) (u ++ numbers below) is loops (sv ∙ sym q.head.has_result)
          (operands_are codes b h rest ws j ∙ ap (λ l. u ++ l) ev ∙ sym (append_assoc u (numbers below) (option_to_list (option_map number_of v))))
          (omega (arith, q.head.height, q.low, length-append (all_operands h.callers) (operands_of h.outer), length-append u (numbers below)))))
      arrived j o [] q is (Some body) ea go = absurd (subst (λ (a : Option (Code Label)). AgainStands (codes h.func) q.record_of a o.result []) ea q.head.again)
      arrived j o (p ∷ outer) q is (Some body) ea go =
          let again : AgainStands (codes h.func) q.record_of (Some body) o.result (p ∷ outer) = subst (λ (a : Option (Code Label)). AgainStands (codes h.func) q.record_of a o.result (p ∷ outer)) ea q.head.again in
          let x = y.loops q.record_of is again.2 in
          subst (λ r. Tells codes s c' r (Goes s (with_labels h (record p { code = Loop o.result body p.code } ∷ outer))) e) (sym x.0)
          (refl, loop_rerun codes b c' h Labels j.framed k o p outer body index q ea n x.1, refl)

  abbrev Ready : Type 0
  Ready = (k < length b.labels) × ((index : ℕ) → index + 1 + k ≡ length b.labels → (label : Opened) → slice_get b.labels index ≡ Some label → label.is_loop ≡ false → Leaves b index)

  pub branch_ready : Way.answer ≢ Stuck → Ready
  branch_ready going =
      let j = inner codes b h rest ws st in
      let f = j.framed in
      kth_there (λ x. Ready) (codes h.func) (length (all_operands h.callers)) b.at k f.records Labels (λ o outer. carry (target_type o.again o.result) ws (λ v. noted e (arrive s h o.again o.result v outer))) f.stand going
      (λ o outer q go. (
        omega (arith, ap length f.labels, length-append (all_labels f.others) (upward f.records), ap length q.are, length-append (upward q.records_outside) (q.record_of ∷ q.inside), q.count),
        λ index n label is loops. left_there j o outer q index n label is loops (label_is codes b h Labels f k o outer q index n) o.again refl go,
      ))
    where
      left_there : (j : Inner codes b h rest ws) (o : Open) (outer : List Open) (q : Kth' j o outer)
          (index : ℕ) → index + 1 + k ≡ length b.labels → (label : Opened) → slice_get b.labels index ≡ Some label → label.is_loop ≡ false → slice_get b.labels index ≡ Some q.record_of → (again : Option (Code Label)) → o.again ≡ again → (carry (target_type again o.result) ws (λ v. noted e (arrive s h again o.result v outer))).answer ≢ Stuck
          → Leaves b index
      left_there j o outer q index n label is loops known None ea go =
          carry_there (λ x. Leaves b index) o.result ws (λ v. noted e (leave s h v outer)) go
          (λ v below sv ev go'.
          let u : List ℕ = all_operands h.callers ++ operands_of h.outer in
          record {
            label = q.record_of;
            carried = option_map number_of v;
            below = u ++ numbers below;
            is = known;
            some = sv ∙ sym q.head.has_result;
            operands = operands_are codes b h rest ws j ∙ ap (λ l. u ++ l) ev ∙ sym (append_assoc u (numbers below) (option_to_list (option_map number_of v)));
            high = omega (arith, q.head.height, q.low, length-append (all_operands h.callers) (operands_of h.outer), length-append u (numbers below));
          })
      left_there j o [] q index n label is loops known (Some body) ea go = absurd (subst (λ (a : Option (Code Label)). AgainStands (codes h.func) q.record_of a o.result []) ea q.head.again)
      left_there j o (p ∷ outer) q index n label is loops known (Some body) ea go =
          let again : AgainStands (codes h.func) q.record_of (Some body) o.result (p ∷ outer) = subst (λ (a : Option (Code Label)). AgainStands (codes h.func) q.record_of a o.result (p ∷ outer)) ea q.head.again in
          let l = again.2 in
          let same : label ≡ q.record_of = cc in
          let w : label.is_loop ≡ true = ap (λ (o : Opened). o.is_loop) same ∙ l in
          absurd cc

-- a branch that isn't taken
pub pass_is : (r : Reduced) (k : ℕ) (labels : List Open) (vs : List Value) → (pass r k labels vs).answer ≢ Stuck → pass r k labels vs ≡ r
pass_is r k [] vs n = absurd (n refl)
pass_is r zero (o ∷ outer) vs n = carried (target_type o.again o.result) n
  where
    carried : (t : Option (ValueType Label)) → (carry t vs (λ v. r)).answer ≢ Stuck → carry t vs (λ v. r) ≡ r
    carried None n = refl
    carried (Some t) n = (popped t vs (λ n below. r) n).gives
pass_is r (suc k) (o ∷ outer) vs n = pass_is r k outer vs n

-- ---- the outermost label of a function

record Outermost (bytes : List ℕ) (under : ℕ) (records : List Opened) (o : Open) (os : List Open) : Type 0 where
  pub k : ℕ
  pub label : Open
  pub kth : Kth bytes under records (o ∷ os) k label []
  pub count : k + 1 ≡ length records
  pub result : label.result ≡ last_result o.result os

outermost : (bytes : List ℕ) (under at : ℕ) (records : List Opened) (o : Open) (os : List Open) → LabelsStand bytes under at records (o ∷ os) → Outermost bytes under records o os
outermost bytes under at [] o os st = absurd st
outermost bytes under at (r ∷ []) o [] st =
    record { k = 0; label = o; kth = record { record_of = r; records_outside = []; inside = []; extra = numbers o.values; at = at; head = st.0; tail = st.1; are = refl; count = refl; operands = refl; low = omega arith }; count = refl; result = refl }
outermost bytes under at (r ∷ q ∷ rs) o [] st = absurd st.1
outermost bytes under at (r ∷ rs) o (p ∷ os) st =
    let x = outermost bytes under r.after rs p os st.1 in
    let q = x.kth in
    record {
      k = x.k + 1;
      label = x.label;
      result = x.result;
      count = omega (arith, x.count);
      kth = record {
        record_of = q.record_of;
        records_outside = q.records_outside;
        inside = q.inside ++ r ∷ [];
        extra = q.extra ++ numbers o.values;
        at = q.at;
        head = q.head;
        tail = q.tail;
        are = ap (λ l. l ++ r ∷ []) q.are ∙ append_assoc (upward q.records_outside) (q.record_of ∷ q.inside) (r ∷ []);
        count = length-append q.inside (r ∷ []) ∙ omega (arith, q.count);
        operands = ap (λ l. l ++ numbers o.values) q.operands ∙ append_assoc (operands_of []) q.extra (numbers o.values);
        low = omega arith;
      };
    }

-- a function is left with the result that its type wants
module _ (codes : Codes) (c : Shown) (s : Storage) (h : Here) (code : Code Label) (vs : List Value) (st : Stands codes c (put h code vs)) (t : Option (ValueType Label)) (own : last_result h.result h.outer ≡ t) (front : List Caller) (f : Caller) (last : c.frames ≡ front ++ f ∷ []) where
  abbrev Back : Reduced
  Back = carry t vs (λ v. quiet (finish s v h.callers))

  index_is : (i : Inner codes c h code vs) (o : Outermost (codes h.func) (length (all_operands h.callers)) i.framed.records (innermost h code vs) h.outer) → f.labels + 1 + o.k ≡ length c.labels
  index_is i o =
      let g = i.framed in
      let same : f ≡ g.frame = last_same front (all_frames g.others) f g.frame (sym last ∙ g.frames) in
      omega (arith, ap (λ (f : Caller). f.labels) same, g.below, ap length g.labels, length-append (all_labels g.others) (upward g.records), upward_long g.records, o.count)

  pub back_ready : Back.answer ≢ Stuck → Leaves c f.labels
  back_ready going =
      let i = inner codes c h code vs st in
      let o = outermost (codes h.func) (length (all_operands h.callers)) c.at i.framed.records (innermost h code vs) h.outer i.framed.stand in
      let q = o.kth in
      carry_there (λ x. Leaves c f.labels) t vs (λ v. quiet (finish s v h.callers)) going
      (λ v below sv ev go.
      let u : List ℕ = all_operands h.callers ++ operands_of h.outer in
      record {
        label = q.record_of;
        carried = option_map number_of v;
        below = u ++ numbers below;
        is = label_is codes c h (innermost h code vs ∷ h.outer) i.framed o.k o.label [] q f.labels (index_is i o);
        some = sv ∙ ap is_some (sym own ∙ sym o.result) ∙ sym q.head.has_result;
        operands = operands_are codes c h code vs i ∙ ap (λ l. u ++ l) ev ∙ sym (append_assoc u (numbers below) (option_to_list (option_map number_of v)));
        high = omega (arith, q.head.height, length-append (all_operands h.callers) (operands_of h.outer), length-append u (numbers below));
      })

  pub back_done : Back.answer ≢ Stuck → (r : Stepped) (c' : Shown) → LeavesBy c f.labels None r c' → Tells codes s c' r Back.answer Back.event
  back_done going r c' l =
      let i = inner codes c h code vs st in
      let o = outermost (codes h.func) (length (all_operands h.callers)) c.at i.framed.records (innermost h code vs) h.outer i.framed.stand in
      let q = o.kth in
      carry_there (λ x. Tells codes s c' r x.answer x.event) t vs (λ v. quiet (finish s v h.callers)) going
      (λ v below sv ev go.
      let u : List ℕ = all_operands h.callers ++ operands_of h.outer in
      left_done codes c c' s h (innermost h code vs ∷ h.outer) i.framed o.k o.label [] v f.labels None r q (index_is i o) go
      (l q.record_of (option_map number_of v) (u ++ numbers below) (label_is codes c h (innermost h code vs ∷ h.outer) i.framed o.k o.label [] q f.labels (index_is i o))
      (sv ∙ ap is_some (sym own ∙ sym o.result) ∙ sym q.head.has_result)
      (operands_are codes c h code vs i ∙ ap (λ l. u ++ l) ev ∙ sym (append_assoc u (numbers below) (option_to_list (option_map number_of v))))
      (omega (arith, q.head.height, length-append (all_operands h.callers) (operands_of h.outer), length-append u (numbers below)))))
