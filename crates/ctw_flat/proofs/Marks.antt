-- The walk over a body: what it marked, what is open, and what they say of the whole body.
use Rattle.std.proofs.Common.{◌≡◌, ℕ, ◌+◌, ◌-◌, ◌<◌, ◌≤◌, Bool, List, [], ◌∷◌, ◌++◌, length, Ok, Err, refl, sym, ap, subst, ◌∙◌, append_assoc, arith}
use Rattle.std.proofs.lemmas.List.{append-nil, drop_all, length-drop}
use Rattle.ctw_ops.specs.declared.types.Label.{Label}
use Rattle.ctw_ops.specs.Code.{Code, Op, Plain, Opens, Closes, ByEnd, ByElse}
use Rattle.ctw_leb.specs.Input.{Input}
use Rattle.ctw_flat.specs.declared.fault.CodeKind.TheVariants.{Unbalanced}
use Rattle.ctw_flat.specs.declared.fault.BuildFault.{BuildFault}
use Rattle.ctw_flat.specs.declared.fault.BuildFault.TheVariants.{Bad, NoMemory}
use Rattle.ctw_flat.specs.declared.blocks.Block.{Block}
use Rattle.ctw_flat.specs.declared.blocks.Closing.{Closing}
use Rattle.ctw_flat.specs.declared.blocks.Mark.{Mark}
use Rattle.ctw_flat.specs.declared.blocks.Role.TheVariants.{Begins, Parts}
use Rattle.ctw_flat.specs.Read.{fault, op_at}
use Rattle.ctw_flat.specs.Places.{from, instr_in, Placed, Stand}
use Rattle.ctw_flat.specs.Bodies.{own_body, opened_by, step_at, body_at}
use Rattle.ctw_flat.specs.Blocks.{close, closings_of, with_opened, blocks_of}
use Rattle.ctw_flat.specs.Marks.{role_of, marked, marks_of, mark_closings, mark_blocks, closings_in, blocks_in}
use Rattle.ctw_flat.specs.Calls.{FailsWith}
use Rattle.ctw_flat.proofs.Places.{moves}
use Rattle.ctw_flat.proofs.Bodies.{step_op}
use Rattle.ctw_flat.proofs.Ends.{placed}
use Rattle.ctw_flat.proofs.Balance.{start, Going, steps_begin, steps_go, body_done, body_open, body_fault}

-- ---- marks tell as much of blocks as all opcodes

closings_marked : (op : Op Label) (at : ℕ) (marks : List Mark) → close op at (closings_in marks) ≡ closings_in (marked at (role_of op) ++ marks)
closings_marked (Plain l) at marks = refl
closings_marked (Closes ByEnd) at marks = refl
closings_marked (Opens s t) at marks = go (closings_in marks)
  where
    go : (cs : List Closing) → close (Opens s t) at cs ≡ mark_closings Begins at cs
    go [] = refl
    go (c ∷ cs) = refl
closings_marked (Closes ByElse) at marks = go (closings_in marks)
  where
    go : (cs : List Closing) → close (Closes ByElse) at cs ≡ mark_closings Parts at cs
    go [] = refl
    go (c ∷ cs) = refl

pub closings_marks : (ps : List Placed) → closings_of ps ≡ closings_in (marks_of ps)
closings_marks [] = refl
closings_marks (p ∷ ps) = ap (close p.op p.at) (closings_marks ps) ∙ closings_marked p.op p.at (marks_of ps)

blocks_marked : (op : Op Label) (at : ℕ) (marks : List Mark) → with_opened op at (closings_in marks) (blocks_in marks) ≡ blocks_in (marked at (role_of op) ++ marks)
blocks_marked (Plain l) at marks = refl
blocks_marked (Closes ByEnd) at marks = refl
blocks_marked (Closes ByElse) at marks = refl
blocks_marked (Opens s t) at marks = go (closings_in marks) (blocks_in marks)
  where
    go : (cs : List Closing) (bs : List Block) → with_opened (Opens s t) at cs bs ≡ mark_blocks Begins at cs bs
    go [] bs = refl
    go (c ∷ cs) bs = refl

pub blocks_marks : (ps : List Placed) → blocks_of ps ≡ blocks_in (marks_of ps)
blocks_marks [] = refl
blocks_marks (p ∷ ps) =
    ap (λ (cs : List Closing). with_opened p.op p.at cs (blocks_of ps)) (closings_marks ps)
    ∙ ap (with_opened p.op p.at (closings_in (marks_of ps))) (blocks_marks ps) ∙ blocks_marked p.op p.at (marks_of ps)

marks_push : (front : List Placed) (p : Placed) → marks_of (front ++ p ∷ []) ≡ marks_of front ++ marked p.at (role_of p.op)
marks_push [] p = append-nil (marked p.at (role_of p.op))
marks_push (q ∷ front) p = ap (λ (l : List Mark). marked q.at (role_of q.op) ++ l) (marks_push front p) ∙ sym (append_assoc (marked q.at (role_of q.op)) (marks_of front) (marked p.at (role_of p.op)))

-- ---- the walk

-- these opcodes stand from one place up to another
abbrev pub StandTo : List ℕ → ℕ → List Placed → ℕ → Type 0
StandTo code at [] end = at ≡ end
StandTo code at (p ∷ ps) end = (next : ℕ) × (p.at ≡ at) × (instr_in code at ≡ Ok (p.op, next)) × StandTo code next ps end

stand_push : (code : List ℕ) (at : ℕ) (ps : List Placed) (end : ℕ) (op : Op Label) (next : ℕ) → StandTo code at ps end → instr_in code end ≡ Ok (op, next) → StandTo code at (ps ++ placed end op ∷ []) next
stand_push code at [] end op next s e = (next, sym s, ap (instr_in code) s ∙ e, refl)
stand_push code at (p ∷ ps) end op next s e = (s.0, s.1, s.2, stand_push code s.0 ps end op next s.3 e)

stand_to_end : (code : List ℕ) (at : ℕ) (ps : List Placed) (end : ℕ) → length code ≤ end → StandTo code at ps end → Stand code at ps
stand_to_end code at [] end le s = drop_all at code (omega (arith, s))
stand_to_end code at (p ∷ ps) end le s = (s.0, s.1, s.2, stand_to_end code s.0 ps end le s.3)

-- the opcodes up to here are marked
pub record Passed (code : List ℕ) (i : Input) (marks : List Mark) : Type 0 where
  pub front : List Placed
  pub reached : StandTo code 0 front i.at
  pub here : i ≡ from code i.at
  pub inside : i.at ≤ length code
  pub same : marks ≡ marks_of front

-- so far no fault was met, so much is open, and these are the marks
pub record Walked (code : List ℕ) (around : List Bool) (i : Input) (marks : List Mark) : Type 0 where
  pub going : Going code around i
  pub passed : Passed code i marks

pub walk_begins : (code : List ℕ) (around : List Bool) (i : Input) (marks : List Mark) → i.at ≡ 0 → i.rest ≡ code → around ≡ own_body → marks ≡ [] → Walked code around i marks
walk_begins code around i marks at rest own none =
    let same : i ≡ start code = ap (λ (n : ℕ). record { at = n; rest = i.rest }) at ∙ ap (λ (l : List ℕ). record { at = 0; rest = l }) rest in
    record {
      going = rw (same, own) (steps_begin code);
      passed = record { front = []; reached = sym at; here = rw same refl; inside = omega (arith, at); same = none };
    }

passed_on : (code : List ℕ) (around : List Bool) (i o : Input) (op : Op Label) (marks more : List Mark) → Passed code i marks → step_at around i ≡ Ok (op, o) → more ≡ marks ++ marked i.at (role_of op) → Passed code o more
unfolding instr_in
passed_on code around i o op marks more h e same =
    let read : op_at (from code i.at) ≡ Ok (op, o) = ap op_at (sym h.here) ∙ step_op around i op o e in
    let m = moves code i.at op o h.inside read in
    let here : instr_in code i.at ≡ Ok (op, o.at) = rw read refl in
    record {
      front = h.front ++ placed i.at op ∷ [];
      reached = stand_push code 0 h.front i.at op o.at h.reached here;
      here = m.2;
      inside = m.1;
      same = same ∙ ap (λ (l : List Mark). l ++ marked i.at (role_of op)) h.same ∙ sym (marks_push h.front (placed i.at op));
    }

pub walk_goes : (code : List ℕ) (around around₂ : List Bool) (i o : Input) (op : Op Label) (marks more : List Mark) → Walked code around i marks → step_at around i ≡ Ok (op, o) → around₂ ≡ opened_by around op → more ≡ marks ++ marked i.at (role_of op)
    → Walked code around₂ o more
walk_goes code around around₂ i o op marks more h e a same = record {
  going = subst (λ (bs : List Bool). Going code bs o) (sym a) (steps_go code around i o op h.going e);
  passed = passed_on code around i o op marks more h.passed e same;
}

pub walk_fails : (code : List ℕ) (around : List Bool) (i : Input) (marks : List Mark) (e : BuildFault) → 0 < length i.rest → Walked code around i marks → FailsWith e (step_at around i) → FailsWith e (body_at (start code))
walk_fails code around i marks NoMemory some h e = tt
walk_fails code around i marks (Bad f) some h e = body_fault code around i f some h.going e

-- where nothing is left, the walk stands at the length
walk_end : (code : List ℕ) (around : List Bool) (i : Input) (marks : List Mark) → length i.rest ≡ 0 → Walked code around i marks → i.at ≡ 0 + length code
walk_end code around i marks none h =
    let p = h.passed in
    let left : length code - i.at ≡ length i.rest = sym (length-drop i.at code) ∙ ap (λ (z : Input). length z.rest) (sym p.here) in
    omega (arith, left, p.inside)

-- nothing is left and nothing is open: a body
pub walk_done : (code : List ℕ) (around : List Bool) (i : Input) (marks : List Mark) → length i.rest ≡ 0 → length around ≡ 0 → Walked code around i marks → (c : Code Label) × (body_at (start code) ≡ Ok c)
walk_done code [] i marks none e h = body_done code i none h.going
walk_done code (b ∷ bs) i marks none e h = absurd (omega arith)

-- nothing is left and something is open
pub walk_open : (code : List ℕ) (around : List Bool) (i : Input) (marks : List Mark) → length i.rest ≡ 0 → 0 < length around → Walked code around i marks → body_at (start code) ≡ Err (fault Unbalanced i.at)
walk_open code [] i marks none lt h = absurd (omega arith)
walk_open code (b ∷ bs) i marks none lt h =
    body_open code b bs i none h.going ∙ ap (λ (n : ℕ). Err (fault Unbalanced n)) (sym (walk_end code (b ∷ bs) i marks none h))

pub walk_stands : (code : List ℕ) (around : List Bool) (i : Input) (marks : List Mark) → length i.rest ≡ 0 → Walked code around i marks → (ps : List Placed) × Stand code 0 ps × (marks ≡ marks_of ps)
walk_stands code around i marks none h =
    let p = h.passed in
    let end = walk_end code around i marks none h in
    (p.front, stand_to_end code 0 p.front i.at (omega (arith, end)) p.reached, p.same)
