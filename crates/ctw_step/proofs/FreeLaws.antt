-- The changes of a label that stand in front of a counted instruction.
use Rattle.std.proofs.Common.{◌≡◌, ◌≢◌, ◌⊎◌, inl, inr, ℕ, Bool, true, false, nat_le, List, [], ◌∷◌, Option, Some, Ok, Result, slice_get, refl, ap, ◌∙◌, subst}
use Rattle.std.specs.Prelude.{if◌then◌else◌}
use Rattle.ctw_ops.specs.declared.types.Label.{Label}
use Rattle.ctw_ops.specs.declared.types.Width.{Width}
use Rattle.ctw_ops.specs.Types.{ValueType}
use Rattle.ctw_ops.specs.Limits.{most_weight}
use Rattle.ctw_ops.specs.Code as ops
use Rattle.ctw_ops.specs.Code.{Leaf, Code, Stop, Then, Block, Loop, If, IfElse, Op, Plain, Opens, Closes}
use Rattle.ctw_flat.specs.declared.fault.CodeFault.{CodeFault}
use Rattle.ctw_flat.specs.Places.{instr_in}
use Rattle.ctw_flat.proofs.Positions.{at_leaf, at_block, at_loop, at_if, at_if_else, at_closer}
use Rattle.ctw_script.specs.declared.trap.TrapCode.TheVariants.{Exhausted}
use Rattle.ctw_semantics.specs.Values.{Value}
use Rattle.ctw_semantics.specs.Stores.{Storage}
use Rattle.ctw_semantics.specs.Instances.{FunctionInstance, Functions}
use Rattle.ctw_semantics.specs.Activations.{Open, Activation, weight}
use Rattle.ctw_semantics.specs.Answers.{Answer, Goes, Ended, Trapped, Stuck}
use Rattle.ctw_semantics.specs.Machine.{Here, here, put, within_weight}
use Rattle.ctw_semantics.specs.Steps.{free}
use Rattle.ctw_semantics.specs.Sound.{Shape, IndexTypes, HasTypes, OuterTyped, LabelsTyped, ActivationTyped}
use Rattle.ctw_step.specs.Stands.{CodeStands}
use Rattle.ctw_step.specs.Told.{AllFit, last_result}
use Rattle.ctw_step.specs.Changes.{is_change}
use Rattle.ctw_step.specs.Stepping.{HasInstr}

one_op : (r : Result (Op Label × ℕ) CodeFault) (a b : Op Label) (n m : ℕ) → r ≡ Ok (a, n) → r ≡ Ok (b, m) → a ≡ b
one_op r a b n m e f = let p : (a, n) ≡ (b, m) = cc in ap (λ (x : Op Label × ℕ). x.0) p

one_next : (r : Result (Op Label × ℕ) CodeFault) (a b : Op Label) (n m : ℕ) → r ≡ Ok (a, n) → r ≡ Ok (b, m) → n ≡ m
one_next r a b n m e f = let p : (a, n) ≡ (b, m) = cc in ap (λ (x : Op Label × ℕ). x.1) p

-- ---- what a change is, and what it isn't

free_leaf : (l : Leaf Label) (rest : Code Label) → is_change (Plain l) ≡ false → free (Then l rest) ≡ 0
free_leaf ops.Unreachable rest e = refl
free_leaf ops.Nop rest e = refl
free_leaf (ops.Br k) rest e = refl
free_leaf (ops.BrIf k) rest e = refl
free_leaf (ops.BrTable ts o) rest e = refl
free_leaf ops.Return rest e = refl
free_leaf (ops.Call k) rest e = refl
free_leaf (ops.CallIndirect k) rest e = refl
free_leaf ops.Drop rest e = refl
free_leaf (ops.Select l) rest e = refl
free_leaf (ops.LocalGet k) rest e = refl
free_leaf (ops.LocalSet k) rest e = refl
free_leaf (ops.LocalTee k) rest e = refl
free_leaf (ops.GlobalGet k) rest e = refl
free_leaf (ops.GlobalSet k) rest e = refl
free_leaf (ops.Load w l b z a o) rest e = refl
free_leaf (ops.Store w l b a o) rest e = refl
free_leaf ops.MemorySize rest e = refl
free_leaf ops.MemoryGrow rest e = refl
free_leaf (ops.Const w l n) rest e = refl
free_leaf (ops.Numeric k l) rest e = refl
free_leaf (ops.Classify w) rest e = absurd cc
free_leaf (ops.Declassify w) rest e = absurd cc

abbrev pub IsLeaf : Leaf Label → Type 0
IsLeaf l = (w : Width) × ((l ≡ ops.Classify w) ⊎ (l ≡ ops.Declassify w))

changes : (l : Leaf Label) → is_change (Plain l) ≡ true → IsLeaf l
changes ops.Unreachable e = absurd cc
changes ops.Nop e = absurd cc
changes (ops.Br k) e = absurd cc
changes (ops.BrIf k) e = absurd cc
changes (ops.BrTable ts o) e = absurd cc
changes ops.Return e = absurd cc
changes (ops.Call k) e = absurd cc
changes (ops.CallIndirect k) e = absurd cc
changes ops.Drop e = absurd cc
changes (ops.Select l) e = absurd cc
changes (ops.LocalGet k) e = absurd cc
changes (ops.LocalSet k) e = absurd cc
changes (ops.LocalTee k) e = absurd cc
changes (ops.GlobalGet k) e = absurd cc
changes (ops.GlobalSet k) e = absurd cc
changes (ops.Load w l b z a o) e = absurd cc
changes (ops.Store w l b a o) e = absurd cc
changes ops.MemorySize e = absurd cc
changes ops.MemoryGrow e = absurd cc
changes (ops.Const w l n) e = absurd cc
changes (ops.Numeric k l) e = absurd cc
changes (ops.Classify w) e = (w, inl refl)
changes (ops.Declassify w) e = (w, inr refl)

-- the code at a place of an instruction
module _ (bytes : List ℕ) (at next : ℕ) (op : Op Label) (reads : instr_in bytes at ≡ Ok (op, next)) where
  pub counted_code : (c : Code Label) → CodeStands bytes at c → is_change op ≡ false → free c ≡ 0
  counted_code Stop s e = refl
  counted_code (Then l rest) s e =
      let m = at_leaf bytes at l rest s.closer s.tail s.stands in
      free_leaf l rest (ap is_change (one_op (instr_in bytes at) (Plain l) op m.next next m.reads reads) ∙ e)
  counted_code (Block t body rest) s e = refl
  counted_code (Loop t body rest) s e = refl
  counted_code (If t arm rest) s e = refl
  counted_code (IfElse t arm other rest) s e = refl

  abbrev Change : Code Label → Type 0
  Change c = (l : Leaf Label) × (rest : Code Label) × (c ≡ Then l rest) × IsLeaf l × CodeStands bytes next rest

  pub change_code : (c : Code Label) → CodeStands bytes at c → is_change op ≡ true → Change c
  change_code Stop s e = let m = at_closer bytes at s.closer s.tail s.stands in let q = one_op (instr_in bytes at) _ op _ next m.reads reads in let z : is_change (Closes s.closer) ≡ true = ap is_change q ∙ e in absurd cc
  change_code (Then l rest) s e =
      let m = at_leaf bytes at l rest s.closer s.tail s.stands in
      let q = one_op (instr_in bytes at) (Plain l) op m.next next m.reads reads in
      let n = one_next (instr_in bytes at) (Plain l) op m.next next m.reads reads in
      (l, rest, refl, changes l (ap is_change q ∙ e), subst (λ n. CodeStands bytes n rest) n (record { closer = s.closer; tail = s.tail; stands = m.after }))
  change_code (Block t body rest) s e = let m = at_block bytes at t body rest s.closer s.tail s.stands in let q = one_op (instr_in bytes at) _ op _ next m.reads reads in let z = ap is_change q ∙ e in absurd cc
  change_code (Loop t body rest) s e = let m = at_loop bytes at t body rest s.closer s.tail s.stands in let q = one_op (instr_in bytes at) _ op _ next m.reads reads in let z = ap is_change q ∙ e in absurd cc
  change_code (If t arm rest) s e = let m = at_if bytes at t arm rest s.closer s.tail s.stands in let q = one_op (instr_in bytes at) _ op _ next m.reads reads in let z = ap is_change q ∙ e in absurd cc
  change_code (IfElse t arm other rest) s e = let m = at_if_else bytes at t arm other rest s.closer s.tail s.stands in let q = one_op (instr_in bytes at) _ op _ next m.reads reads in let z = ap is_change q ∙ e in absurd cc

-- an instruction stands where code does
pub instr_there : (bytes : List ℕ) (at : ℕ) (c : Code Label) → CodeStands bytes at c → HasInstr bytes at
instr_there bytes at Stop s = let m = at_closer bytes at s.closer s.tail s.stands in (s.stands.inside, _, m.next, m.reads)
instr_there bytes at (Then l rest) s = let m = at_leaf bytes at l rest s.closer s.tail s.stands in (s.stands.inside, _, m.next, m.reads)
instr_there bytes at (Block t body rest) s = let m = at_block bytes at t body rest s.closer s.tail s.stands in (s.stands.inside, _, m.next, m.reads)
instr_there bytes at (Loop t body rest) s = let m = at_loop bytes at t body rest s.closer s.tail s.stands in (s.stands.inside, _, m.next, m.reads)
instr_there bytes at (If t arm rest) s = let m = at_if bytes at t arm rest s.closer s.tail s.stands in (s.stands.inside, _, m.next, m.reads)
instr_there bytes at (IfElse t arm other rest) s = let m = at_if_else bytes at t arm other rest s.closer s.tail s.stands in (s.stands.inside, _, m.next, m.reads)

-- ---- the place of a sound call

pub record Spot (fns : Functions) (a : Activation) : Type 0 where
  pub place : Here
  pub code : Code Label
  pub values : List Value
  pub fn : FunctionInstance
  pub is : a ≡ put place code values
  pub found : slice_get fns place.func ≡ Some fn
  pub fits : AllFit values
  pub own : last_result place.result place.outer ≡ fn.type.result

all_fit : (ts : List (ValueType Label)) (vs : List Value) → HasTypes ts vs → AllFit vs
all_fit [] [] h = tt
all_fit [] (v ∷ vs) h = absurd h
all_fit (t ∷ ts) [] h = absurd h
all_fit (t ∷ ts) (v ∷ vs) h = (h.1, all_fit ts vs h.2)

own_of : (names : IndexTypes) (fn : FunctionInstance) (t : Option (ValueType Label)) (again : Option (Code Label)) (outer : List Open) → OuterTyped names fn t again outer → last_result t outer ≡ fn.type.result
own_of names fn t again [] h = h.0
own_of names fn t again (o ∷ outer) h = own_of names fn o.result o.again outer h.1

pub spot_of : (fns : Functions) (shape : Shape) (last : Option (ValueType Label)) (a : Activation) → ActivationTyped fns shape last a → Spot fns a
spot_of fns shape last [] t = absurd t
spot_of fns shape last (f ∷ callers) t = go f.labels t.1.labels refl
  where
    go : (ls : List Open) → LabelsTyped t.1.names t.0 [] ls → f.labels ≡ ls → Spot fns (f ∷ callers)
    go [] l e = absurd l
    go (o ∷ outer) l e = record {
      place = here f o outer callers;
      code = o.code;
      values = o.values;
      fn = t.0;
      is = ap (λ (ls : List Open). record { func = f.func; locals = f.locals; labels = ls } ∷ callers) e;
      found = t.1.found;
      fits = all_fit l.0.holds o.values l.0.values;
      own = own_of t.1.names t.0 o.result o.again outer l.1;
    }

pub goes_in : (x : Answer) (s : Storage) (b : Activation) → within_weight x ≡ Goes s b → x ≡ Goes s b
goes_in (Goes t a) s b e = go (nat_le (weight a) most_weight) e
  where
    go : (z : Bool) → (if z then Goes t a else Trapped Exhausted) ≡ Goes s b → Goes t a ≡ Goes s b
    go true e = e
    go false e = absurd cc
goes_in (Ended v) s b e = absurd cc
goes_in (Trapped c) s b e = absurd cc
goes_in Stuck s b e = absurd cc

pub not_stuck : (x : Answer) → within_weight x ≢ Stuck → x ≢ Stuck
not_stuck x n e = n (ap within_weight e)
