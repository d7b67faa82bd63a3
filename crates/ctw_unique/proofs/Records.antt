-- The words of a running call decide its records, and how many operands and locals each frame has.
use Rattle.std.proofs.Common.{◌≡◌, ◌<◌, ℕ, suc, List, [], ◌∷◌, ◌++◌, map, length, refl, sym, ap, ◌∙◌, subst, arith, length-append}
use Rattle.ctw_flat.proofs.Positions.{one_left}
use Rattle.ctw_semantics.specs.Values.{Value}
use Rattle.ctw_semantics.specs.Activations.{Open, Frame}
use Rattle.ctw_step.specs.declared.running.Opened.{Opened}
use Rattle.ctw_step.specs.declared.running.Caller.{Caller}
use Rattle.ctw_step.specs.Stands.{Codes, number_of, numbers, operands_of, all_operands, upward, CodeStands, LabelStands, LabelsStand, FrameRecords, all_labels, all_frames, FramesStand}
use Rattle.ctw_unique.specs.ByBodies.{types_of}
use Rattle.ctw_unique.specs.StandsByBodies.{label_closers, frame_closers}

-- ---- lists

pub fronts_same : {A : Type 0} (a b x y : List A) → length a ≡ length b → a ++ x ≡ b ++ y → (a ≡ b) × (x ≡ y)
fronts_same [] [] x y l e = (refl, e)
fronts_same [] (c ∷ b) x y l e = absurd (omega (arith, l))
fronts_same (c ∷ a) [] x y l e = absurd (omega (arith, l))
fronts_same (c ∷ a) (d ∷ b) x y l e =
    let first : c ≡ d = cc in
    let rest : a ++ x ≡ b ++ y = cc in
    let r = fronts_same a b x y (let q : suc (length a) ≡ suc (length b) = l in omega (arith, q)) rest in
    let s = r.0 in
    (cc, r.1)

pub lasts_same : {A : Type 0} (a b : List A) (x y : A) → a ++ x ∷ [] ≡ b ++ y ∷ [] → (a ≡ b) × (x ≡ y)
lasts_same a b x y e =
    let l = ap length e in
    let m = length-append a (x ∷ []) in
    let n = length-append b (y ∷ []) in
    let r = fronts_same a b (x ∷ []) (y ∷ []) (omega (arith, l, m, n)) e in
    let s = r.1 in
    (r.0, cc)

none_is_last : {A : Type 0} (a : List A) (x : A) → [] ≡ a ++ x ∷ [] → ⊥
none_is_last [] x e = cc
none_is_last (b ∷ a) x e = cc

-- ---- values

value_same : (v w : Value) → v.type ≡ w.type → v.number ≡ w.number → v ≡ w
value_same v w p q = ap (λ t. record { type = t; number = v.number }) p ∙ ap (λ n. record { type = w.type; number = n }) q

pub locals_same : (vs ws : List Value) → types_of vs ≡ types_of ws → map number_of vs ≡ map number_of ws → vs ≡ ws
locals_same [] [] p q = refl
locals_same [] (w ∷ ws) p q = absurd cc
locals_same (v ∷ vs) [] p q = absurd cc
locals_same (v ∷ vs) (w ∷ ws) p q =
    let first : v ≡ w = value_same v w (cc) (cc) in
    let rest : vs ≡ ws = locals_same vs ws (cc) (cc) in
    cc

pub operands_same : (vs ws : List Value) → types_of vs ≡ types_of ws → numbers vs ≡ numbers ws → vs ≡ ws
operands_same [] [] p q = refl
operands_same [] (w ∷ ws) p q = absurd cc
operands_same (v ∷ vs) [] p q = absurd cc
operands_same (v ∷ vs) (w ∷ ws) p q =
    let l = lasts_same (numbers vs) (numbers ws) v.number w.number q in
    let n = l.1 in
    let first : v ≡ w = value_same v w (cc) n in
    let rest : vs ≡ ws = operands_same vs ws (cc) l.0 in
    cc

-- ---- records

upward_same : (rs qs : List Opened) → upward rs ≡ upward qs → rs ≡ qs
upward_same [] [] e = refl
upward_same [] (q ∷ qs) e = absurd (none_is_last (upward qs) q e)
upward_same (r ∷ rs) [] e = absurd (none_is_last (upward rs) r (sym e))
upward_same (r ∷ rs) (q ∷ qs) e =
    let l = lasts_same (upward rs) (upward qs) r q e in
    let first = l.1 in
    let rest = upward_same rs qs l.0 in
    cc

pub records_same : (codes : Codes) (at to : ℕ) (rs qs : List FrameRecords) (fs gs : List Frame) → FramesStand codes at rs fs → FramesStand codes to qs gs → all_frames rs ≡ all_frames qs → all_labels rs ≡ all_labels qs → rs ≡ qs
records_same codes at to [] [] fs gs s t e l = refl
records_same codes at to [] (q ∷ qs) fs gs s t e l = absurd (none_is_last (all_frames qs) q.frame e)
records_same codes at to (r ∷ rs) [] fs gs s t e l = absurd (none_is_last (all_frames rs) r.frame (sym e))
records_same codes at to (r ∷ rs) (q ∷ qs) [] gs s t e l = absurd s
records_same codes at to (r ∷ rs) (q ∷ qs) (f ∷ fs) [] s t e l = absurd t
records_same codes at to (r ∷ rs) (q ∷ qs) (f ∷ fs) (g ∷ gs) s t e l =
    let frames = lasts_same (all_frames rs) (all_frames qs) r.frame q.frame e in
    let frame = frames.1 in
    let below : length (all_labels rs) ≡ length (all_labels qs) = sym s.0.below ∙ ap (λ (c : Caller). c.labels) frame ∙ t.0.below in
    let labels = fronts_same (all_labels rs) (all_labels qs) (upward r.labels) (upward q.labels) below l in
    let first : r ≡ q = record_same r q frame (upward_same r.labels q.labels labels.1) in
    let rest : rs ≡ qs = records_same codes r.frame.back q.frame.back rs qs fs gs s.1 t.1 frames.0 labels.0 in
    cc
  where
    record_same : (r q : FrameRecords) → r.frame ≡ q.frame → r.labels ≡ q.labels → r ≡ q
    record_same r q a b = ap (λ f. record { frame = f; labels = r.labels }) a ∙ ap (λ ls. record { frame = q.frame; labels = ls }) b

-- ---- operands by label

-- the height of the outermost label is how many operands the frames outside have
under_same : (bytes codes : List ℕ) (under below at to : ℕ) (rs : List Opened) (os ps : List Open) → 0 < length rs → LabelsStand bytes under at rs os → LabelsStand codes below to rs ps → under ≡ below
under_same bytes codes under below at to [] os ps n s t = absurd (omega (arith, n))
under_same bytes codes under below at to (r ∷ rs) [] ps n s t = absurd s
under_same bytes codes under below at to (r ∷ rs) (o ∷ os) [] n s t = absurd t
under_same bytes codes under below at to (r ∷ []) (o ∷ []) (p ∷ []) n s t = let a = s.0.height in let b = t.0.height in omega (arith, a, b)
under_same bytes codes under below at to (r ∷ []) (o ∷ []) (p ∷ q ∷ ps) n s t = absurd t.1
under_same bytes codes under below at to (r ∷ []) (o ∷ p ∷ os) (q ∷ ps) n s t = absurd s.1
under_same bytes codes under below at to (r ∷ q ∷ rs) (o ∷ os) (p ∷ ps) n s t = under_same bytes codes under below r.after r.after (q ∷ rs) os ps (omega arith) s.1 t.1

pub frames_split : (bytes codes : List ℕ) (at to : ℕ) (rs : List Opened) (os ps : List Open) (fs gs : List Frame) → 0 < length rs → LabelsStand bytes (length (all_operands fs)) at rs os → LabelsStand codes (length (all_operands gs)) to rs ps → all_operands fs ++ operands_of os ≡ all_operands gs ++ operands_of ps → (all_operands fs ≡ all_operands gs) × (operands_of os ≡ operands_of ps)
frames_split bytes codes at to rs os ps fs gs n s t e =
    fronts_same (all_operands fs) (all_operands gs) (operands_of os) (operands_of ps) (under_same bytes codes (length (all_operands fs)) (length (all_operands gs)) at to rs os ps n s t) e

pub labels_split : (bytes : List ℕ) (under at : ℕ) (r : Opened) (o p : Open) (os ps : List Open) → LabelStands bytes under at r o os → LabelStands bytes under at r p ps → operands_of os ++ numbers o.values ≡ operands_of ps ++ numbers p.values → (operands_of os ≡ operands_of ps) × (numbers o.values ≡ numbers p.values)
labels_split bytes under at r o p os ps s t e =
    let a = s.height in
    let b = t.height in
    fronts_same (operands_of os) (operands_of ps) (numbers o.values) (numbers p.values) (omega (arith, a, b)) e

-- ---- code and closers by place

pub code_same : (bytes : List ℕ) (at : ℕ) (o p : Open) → (s : CodeStands bytes at o.code) (t : CodeStands bytes at p.code) → (o.code ≡ p.code) × (s.closer ≡ t.closer)
code_same bytes at o p s t = let e = one_left bytes at _ _ s.stands t.stands in (cc, cc)

label_closers_same : (bytes : List ℕ) (under below at : ℕ) (rs : List Opened) (os ps : List Open) → (s : LabelsStand bytes under at rs os) (t : LabelsStand bytes below at rs ps) → label_closers bytes under at rs os s ≡ label_closers bytes below at rs ps t
label_closers_same bytes under below at [] [] [] s t = refl
label_closers_same bytes under below at [] (o ∷ os) ps s t = absurd s
label_closers_same bytes under below at [] [] (p ∷ ps) s t = absurd t
label_closers_same bytes under below at (r ∷ rs) [] ps s t = absurd s
label_closers_same bytes under below at (r ∷ rs) (o ∷ os) [] s t = absurd t
label_closers_same bytes under below at (r ∷ rs) (o ∷ os) (p ∷ ps) s t =
    let first = (code_same bytes at o p s.0.code t.0.code).1 in
    let rest = label_closers_same bytes under below r.after rs os ps s.1 t.1 in
    cc

frame_closers_same : (codes : Codes) (at : ℕ) (rs : List FrameRecords) (fs gs : List Frame) → (s : FramesStand codes at rs fs) (t : FramesStand codes at rs gs) → frame_closers codes at rs fs s ≡ frame_closers codes at rs gs t
frame_closers_same codes at [] [] [] s t = refl
frame_closers_same codes at [] (f ∷ fs) gs s t = absurd s
frame_closers_same codes at [] [] (g ∷ gs) s t = absurd t
frame_closers_same codes at (r ∷ rs) [] gs s t = absurd s
frame_closers_same codes at (r ∷ rs) (f ∷ fs) [] s t = absurd t
frame_closers_same codes at (r ∷ rs) (f ∷ fs) (g ∷ gs) s t =
    let first = at_one_function f.func g.func (sym s.0.func ∙ t.0.func) s.0.labels t.0.labels in
    let rest = frame_closers_same codes r.frame.back rs fs gs s.1 t.1 in
    cc
  where
    at_one_function : (n m : ℕ) → n ≡ m → (x : LabelsStand (codes n) (length (all_operands fs)) at r.labels f.labels) (y : LabelsStand (codes m) (length (all_operands gs)) at r.labels g.labels)
        → label_closers (codes n) (length (all_operands fs)) at r.labels f.labels x ≡ label_closers (codes m) (length (all_operands gs)) at r.labels g.labels y
    at_one_function n m e x =
        subst (λ m. (y : LabelsStand (codes m) (length (all_operands gs)) at r.labels g.labels) → label_closers (codes n) (length (all_operands fs)) at r.labels f.labels x ≡ label_closers (codes m) (length (all_operands gs)) at r.labels g.labels y) e
        (label_closers_same (codes n) (length (all_operands fs)) (length (all_operands gs)) at r.labels f.labels g.labels x)

-- the places of a running call have one list of closers
pub closers_same : (codes : Codes) (at : ℕ) (rs qs : List FrameRecords) (fs gs : List Frame) → rs ≡ qs → (s : FramesStand codes at rs fs) (t : FramesStand codes at qs gs) → frame_closers codes at rs fs s ≡ frame_closers codes at qs gs t
closers_same codes at rs qs fs gs e s =
    subst (λ qs. (t : FramesStand codes at qs gs) → frame_closers codes at rs fs s ≡ frame_closers codes at qs gs t) e (frame_closers_same codes at rs fs gs s)
