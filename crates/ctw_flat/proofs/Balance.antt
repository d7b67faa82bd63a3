-- Opcodes nest exactly where each is allowed and nothing is open behind them.
use Rattle.std.proofs.Common.{◌≡◌, ℕ, Bool, true, false, ◌⊎◌, inl, inr, List, [], ◌∷◌, Option, Some, None, Result, Ok, Err, length, ◌+◌, ◌<◌, refl, sym, ap, subst, ◌∙◌}
use Rattle.ctw_ops.specs.ValueType.{ValueType}
use Rattle.ctw_ops.specs.declared.types.Label.{Label}
use Rattle.ctw_ops.specs.Code.{Leaf, Code, Stop, Then, Block, Loop, If, IfElse, Shape, OfBlock, OfLoop, OfIf, Closer, ByEnd, ByElse, Op, Plain, Opens, Closes, onto}
use Rattle.ctw_ops.specs.Segments.{Segment, segment, with_block, with_opener, in_front, segments, only, nested}
use Rattle.ctw_ops.proofs.Segments.{opcodes_nested}
use Rattle.ctw_leb.specs.Input.{Input}
use Rattle.ctw_leb.specs.Grammar.{state_after}
use Rattle.ctw_leb.specs.Reading.{items}
use Rattle.ctw_leb.proofs.Loops.{LeftItems, left_items, left_items_next, left_items_fault, left_items_end, read_shorter, read_sum}
use Rattle.ctw_flat.specs.declared.fault.CodeFault.{CodeFault}
use Rattle.ctw_flat.specs.declared.fault.CodeKind.TheVariants.{Unbalanced}
use Rattle.ctw_flat.specs.Read.{fault}
use Rattle.ctw_flat.specs.Bodies.{takes_else, opened_by, own_body, IsStep, step_at, body_at}
use Rattle.ctw_flat.proofs.Bodies.{Allowed, allowed_steps, exact_step, step_filled, whole_steps}

-- what is open behind opcodes
abbrev pub open_after : List Bool → List (Op Label) → List Bool
open_after = state_after opened_by

-- what is left closes what is open
abbrev pub Closed : List Bool → List (Segment Label) → Type 0
Closed [] [] = Unit {0}
Closed (b ∷ bs) [] = ⊥
Closed [] (s ∷ ss) = ⊥
Closed (b ∷ bs) (s ∷ ss) = ((s.closer ≡ ByEnd) × Closed bs ss) ⊎ ((b ≡ true) × (s.closer ≡ ByElse) × Closed (false ∷ bs) ss)

-- a segment in front, closed alike
abbrev Fronted : Option (List (Segment Label)) → List Bool → Type 0
Fronted o bs = (ss : List (Segment Label)) × (o ≡ Some ss) × Closed bs ss

not_both : false ≡ true → ⊥
not_both q = cc

plain_front : (l : Leaf Label) (b : Bool) (bs : List Bool) (ss : List (Segment Label)) → Closed (b ∷ bs) ss → Fronted (in_front (Plain l) ss) (b ∷ bs)
plain_front l b bs [] h = absurd h
plain_front l b bs (s ∷ ss) h = (_, refl, h)

end_front : (shape : Shape) (t : Option (ValueType Label)) (c : Code Label) (b : Bool) (bs : List Bool) (ss : List (Segment Label)) → Closed (b ∷ bs) ss → Fronted (with_block shape t c ss) (b ∷ bs)
end_front shape t c b bs [] h = absurd h
end_front OfBlock t c b bs (s ∷ ss) h = (_, refl, h)
end_front OfLoop t c b bs (s ∷ ss) h = (_, refl, h)
end_front OfIf t c b bs (s ∷ ss) h = (_, refl, h)

else_front : (t : Option (ValueType Label)) (c d : Code Label) (k : Closer) (b : Bool) (bs : List Bool) (ss : List (Segment Label)) → k ≡ ByEnd → Closed (b ∷ bs) ss
    → Fronted (with_opener OfIf t (segment c ByElse) (segment d k ∷ ss)) (b ∷ bs)
else_front t c d k b bs [] e h = absurd h
else_front t c d ByEnd b bs (s ∷ ss) e h = (_, refl, h)
else_front t c d ByElse b bs (s ∷ ss) e h = absurd cc

opens_front : (shape : Shape) (t : Option (ValueType Label)) (b : Bool) (bs : List Bool) (ss : List (Segment Label)) → Closed (takes_else shape ∷ b ∷ bs) ss → Fronted (in_front (Opens shape t) ss) (b ∷ bs)
opens_front shape t b bs [] h = absurd h
opens_front shape t b bs (s ∷ ss) (inl h) = subst (λ (k : Closer). Fronted (with_opener shape t (segment s.code k) ss) (b ∷ bs)) (sym h.0) (end_front shape t s.code b bs ss h.1)
opens_front shape t b bs (s ∷ []) (inr h) = absurd h.2
opens_front OfBlock t b bs (s ∷ o ∷ ss) (inr h) = absurd (not_both h.0)
opens_front OfLoop t b bs (s ∷ o ∷ ss) (inr h) = absurd (not_both h.0)
opens_front OfIf t b bs (s ∷ o ∷ ss) (inr h) =
    subst (λ (k : Closer). Fronted (with_opener OfIf t (segment s.code k) (o ∷ ss)) (b ∷ bs)) (sym h.1) (other h.2)
  where
    other : Closed (false ∷ b ∷ bs) (o ∷ ss) → Fronted (with_opener OfIf t (segment s.code ByElse) (o ∷ ss)) (b ∷ bs)
    other (inl g) = else_front t s.code o.code o.closer b bs ss g.0 g.1
    other (inr g) = absurd (not_both g.0)

-- allowed opcodes that close all have segments
pub closed_segments : (bs : List Bool) (ops : List (Op Label)) → Allowed bs ops → open_after bs ops ≡ [] → Fronted (segments ops) bs
closed_segments bs [] h e = ([], refl, rw e tt)
closed_segments [] (op ∷ ops) h e = absurd (not_both h.0)
closed_segments (b ∷ bs) (Plain l ∷ ops) h e =
    let r = closed_segments (b ∷ bs) ops h.1 e in
    let f = plain_front l b bs r.0 r.2 in
    (f.0, rw (r.1, f.1) refl, f.2)
closed_segments (b ∷ bs) (Opens s t ∷ ops) h e =
    let r = closed_segments (takes_else s ∷ b ∷ bs) ops h.1 e in
    let f = opens_front s t b bs r.0 r.2 in
    (f.0, rw (r.1, f.1) refl, f.2)
closed_segments (b ∷ bs) (Closes ByEnd ∷ ops) h e =
    let r = closed_segments bs ops h.1 e in
    (segment Stop ByEnd ∷ r.0, rw r.1 refl, inl (refl, r.2))
closed_segments (b ∷ bs) (Closes ByElse ∷ ops) h e =
    let r = closed_segments (false ∷ bs) ops h.1 e in
    (segment Stop ByElse ∷ r.0, rw r.1 refl, inr (h.0, refl, r.2))

only_closed : (ss : List (Segment Label)) → Closed own_body ss → (c : Code Label) × (only ss ≡ Some c)
only_closed [] h = absurd h
only_closed (s ∷ []) (inl h) = (s.code, ap (λ (k : Closer). only (segment s.code k ∷ [])) h.0)
only_closed (s ∷ t ∷ ss) (inl h) = absurd h.1
only_closed (s ∷ ss) (inr h) = absurd (not_both h.0)

-- opcodes that close all are those of a body
pub closed_body : (ops : List (Op Label)) → Allowed own_body ops → open_after own_body ops ≡ [] → (c : Code Label) × (nested ops ≡ Some c)
closed_body ops h e =
    let r = closed_segments own_body ops h e in
    let o = only_closed r.0 r.2 in
    (o.0, rw (r.1, o.1) refl)

pub open_onto : (c : Code Label) (b : Bool) (bs : List Bool) (k : List (Op Label)) → open_after (b ∷ bs) (onto c k) ≡ open_after (b ∷ bs) k
open_onto Stop b bs k = refl
open_onto (Then l r) b bs k = open_onto r b bs k
open_onto (Block t c r) b bs k = open_onto c false (b ∷ bs) (Closes ByEnd ∷ onto r k) ∙ open_onto r b bs k
open_onto (Loop t c r) b bs k = open_onto c false (b ∷ bs) (Closes ByEnd ∷ onto r k) ∙ open_onto r b bs k
open_onto (If t c r) b bs k = open_onto c true (b ∷ bs) (Closes ByEnd ∷ onto r k) ∙ open_onto r b bs k
open_onto (IfElse t c d r) b bs k = open_onto c true (b ∷ bs) (Closes ByElse ∷ onto d (Closes ByEnd ∷ onto r k)) ∙ open_onto d false (b ∷ bs) (Closes ByEnd ∷ onto r k) ∙ open_onto r b bs k

-- opcodes that leave something open are no body's
pub open_body : (ops : List (Op Label)) (b : Bool) (bs : List Bool) → open_after own_body ops ≡ b ∷ bs → nested ops ≡ None
open_body ops b bs e = cases (nested ops) refl
  where
    absurd_open : (c : Code Label) → nested ops ≡ Some c → ⊥
    absurd_open c n =
        let all : open_after own_body ops ≡ [] = ap (open_after own_body) (opcodes_nested ops c n) ∙ open_onto c false [] (Closes ByEnd ∷ []) in
        let no : b ∷ bs ≡ [] = sym e ∙ all in
        absurd cc

    cases : (o : Option (Code Label)) → nested ops ≡ o → o ≡ None
    cases None n = refl
    cases (Some c) n = absurd (absurd_open c n)

-- ---- the check of a body, step by step
abbrev pub start : List ℕ → Input
start code = record { at = 0; rest = code }

abbrev pub all_steps : List ℕ → Result (List (Op Label)) CodeFault
all_steps code = items step_at opened_by own_body (start code)

-- the steps so far, with what is left, are those of the body, and they leave so much open
abbrev pub Going : List ℕ → List Bool → Input → Type 0
Going code around i = LeftItems step_at opened_by (all_steps code) own_body around i

pub steps_begin : (code : List ℕ) → Going code own_body (start code)
steps_begin code = left_items step_at opened_by own_body (start code)

pub steps_go : (code : List ℕ) (around : List Bool) (i o : Input) (op : Op Label) → Going code around i → step_at around i ≡ Ok (op, o) → Going code (opened_by around op) o
steps_go code around i o op h e = left_items_next IsStep step_at opened_by exact_step step_filled (all_steps code) own_body around i o op h e

steps_end : (code : List ℕ) (around : List Bool) (i : Input) → length i.rest ≡ 0 → Going code around i → (ops : List (Op Label)) × (all_steps code ≡ Ok ops) × (open_after own_body ops ≡ around)
steps_end code around i none h = left_items_end step_at opened_by (all_steps code) own_body around i none h

pub body_done : (code : List ℕ) (i : Input) → length i.rest ≡ 0 → Going code [] i → (c : Code Label) × (body_at (start code) ≡ Ok c)
unfolding body_at
body_done code i none h =
    let s = steps_end code [] i none h in
    let allowed = allowed_steps own_body code s.0 (whole_steps.sound (start code) s.0 s.1) in
    let t = closed_body s.0 allowed s.2 in
    (t.0, rw (s.1, t.1) refl)

pub body_open : (code : List ℕ) (b : Bool) (bs : List Bool) (i : Input) → length i.rest ≡ 0 → Going code (b ∷ bs) i → body_at (start code) ≡ Err (fault Unbalanced (0 + length code))
unfolding body_at
body_open code b bs i none h =
    let s = steps_end code (b ∷ bs) i none h in
    rw (s.1, open_body s.0 b bs s.2) refl

pub body_fault : (code : List ℕ) (around : List Bool) (i : Input) (f : CodeFault) → 0 < length i.rest → Going code around i → step_at around i ≡ Err f → body_at (start code) ≡ Err f
unfolding body_at
body_fault code around i f some h e =
    let all = left_items_fault step_at opened_by (all_steps code) own_body around i f some h e in
    rw all refl

pub step_shorter : (around : List Bool) (i o : Input) (op : Op Label) → step_at around i ≡ Ok (op, o) → length o.rest < length i.rest
step_shorter around i o op e = read_shorter (IsStep around) (step_at around) (exact_step around) (step_filled around) i op o e

pub step_sum : (around : List Bool) (i o : Input) (op : Op Label) → step_at around i ≡ Ok (op, o) → o.at + length o.rest ≡ i.at + length i.rest
step_sum around i o op e = read_sum (IsStep around) (step_at around) (exact_step around) i op o e
