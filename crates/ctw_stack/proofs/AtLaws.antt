-- The innermost open block of the pass over opcodes, after k of them, is that of the pass over the tree.
use Rattle.std.proofs.Common.{◌≡◌, ℕ, zero, suc, Bool, true, false, not, List, [], ◌∷◌, Option, Some, None, take, refl, ◌∙◌, ap}
use Rattle.std.specs.Prelude.{◌||◌, is_none}
use Rattle.ctw_ops.specs.Types.{ValueType}
use Rattle.ctw_ops.specs.Code.{Leaf, Code, Stop, Then, Block, Loop, If, IfElse, OfBlock, OfLoop, OfIf, ByEnd, ByElse, Op, Plain, Opens, Closes, onto}
use Rattle.ctw_ops.specs.Typing.{Context, optional, i32, inside}
use Rattle.ctw_ops.specs.Segments.{and_then}
use Rattle.ctw_ops.specs.Cut.{behind, where_cut}
use Rattle.ctw_stack.specs.Operands.{Operands, fresh}
use Rattle.ctw_stack.specs.Steps.{when, pushes, expect, step}
use Rattle.ctw_stack.specs.Pass.{Level, level, now_with, within, given, run}
use Rattle.ctw_stack.proofs.TreePass.{closes, pass}
use Rattle.ctw_stack.proofs.TreePlace.{pass_at}
use Rattle.ctw_stack.proofs.FlatLaws.{and_then_assoc, and_then_same, when_inside, flat_law, end_law}

-- the innermost block's operands
abbrev pub top_of : {S : Type 0} → List (Level S) → Option (Operands S)
top_of [] = None
top_of (v ∷ vs) = Some v.block.operands

abbrev pub top : {S : Type 0} → Option (List (Level S)) → Option (Operands S)
top r = and_then r top_of

top_when : {S : Type 0} (c : Bool) (r : Option (List (Level S))) → top (when c r) ≡ when c (top r)
top_when true r = refl
top_when false r = refl

module _ {S : Type 0} (same : S → S → Bool) where
  abbrev At : Type 0
  At = Context S → Operands S → Option (Operands S)

  -- after k opcodes of what `xs` puts in front of a tail: inside with p for the innermost operands, or behind
  abbrev pub IsAt : At → (List (Op S) → List (Op S)) → ℕ → List (Op S) → Option ℕ → Type 0
  IsAt p xs k tail None = (C : Context S) (v : Level S) (vs : List (Level S)) → top (run same C (take k (xs tail)) (v ∷ vs)) ≡ p (within C (v ∷ vs)) v.block.operands
  IsAt p xs k tail (Some j) = take k (xs tail) ≡ xs (take (suc j) tail)

  then_at : (i : Leaf S) (rest : List (Op S) → List (Op S)) (p : At) (k : ℕ) (tail : List (Op S)) (left : Option ℕ) → IsAt p rest k tail left → IsAt (λ D s. and_then (step same D i s) (p D)) (λ z. Plain i ∷ rest z) (suc k) tail left
  then_at i rest p k tail None h = λ C v vs.
      let s : Option (Operands S) = step same (within C (v ∷ vs)) i v.block.operands in
      ap top (and_then_assoc s (λ o. Some (now_with v o ∷ vs)) (run same C (take k (rest tail))))
      ∙ and_then_assoc s (λ o. run same C (take k (rest tail)) (now_with v o ∷ vs)) top_of
      ∙ and_then_same s _ (p (within C (v ∷ vs))) (λ o. h C (now_with v o) vs)
  then_at i rest p k tail (Some j) h = ap (λ z. Plain i ∷ z) h

  -- through a block's inside and its end
  through_end : (C : Context S) (body : Code S) (more : List (Op S)) (arm loops : Bool) (t : Option (ValueType S)) (v : Level S) (vs : List (Level S)) →
      run same C (onto body (Closes ByEnd ∷ more)) (level arm loops t ∷ v ∷ vs) ≡ when (not arm || is_none t) (when (closes same t (pass same (within C (level arm loops t ∷ v ∷ vs)) body fresh)) (run same C more (given t (v ∷ vs))))
  through_end C body more arm loops t v vs =
      flat_law same C body (Closes ByEnd ∷ more) (level arm loops t) (v ∷ vs) ∙ end_law same (not arm || is_none t) t (pass same (within C (level arm loops t ∷ v ∷ vs)) body fresh) (given t (v ∷ vs)) (run same C more)

  through_else : (C : Context S) (arm : Code S) (more : List (Op S)) (t : Option (ValueType S)) (vs : List (Level S)) →
      run same C (onto arm (Closes ByElse ∷ more)) (level true false t ∷ vs) ≡ when (closes same t (pass same (within C (level true false t ∷ vs)) arm fresh)) (run same C more (level false false t ∷ vs))
  through_else C arm more t vs =
      flat_law same C arm (Closes ByElse ∷ more) (level true false t) vs ∙ end_law same true t (pass same (within C (level true false t ∷ vs)) arm fresh) (level false false t ∷ vs) (run same C more)

  -- a block or a loop, whose label is `t` or none
  module _ (loops : Bool) (op : Op S) (t label : Option (ValueType S)) (body rest : Code S) (k : ℕ) (tail : List (Op S))
      (opens : (C : Context S) (more : List (Op S)) (v : Level S) (vs : List (Level S)) → run same C (op ∷ more) (v ∷ vs) ≡ run same C more (level false loops t ∷ v ∷ vs))
      (here : (C : Context S) (v : Level S) (vs : List (Level S)) → within C (level false loops t ∷ v ∷ vs) ≡ inside label (within C (v ∷ vs))) where
    abbrev block_p : Option ℕ → At
    block_p left D s = where_cut left (pass_at same (inside label D) body k fresh) (λ j. when (closes same t (pass same (inside label D) body fresh)) (pass_at same D rest j (pushes (optional t) s)))

    abbrev block_whole : List (Op S) → List (Op S)
    block_whole z = op ∷ onto body (Closes ByEnd ∷ onto rest z)

    rest_at : (j : ℕ) → take k (onto body (Closes ByEnd ∷ onto rest tail)) ≡ onto body (Closes ByEnd ∷ take j (onto rest tail)) → (left : Option ℕ) → IsAt (λ D s. pass_at same D rest j s) (onto rest) j tail left → IsAt (block_p (Some j)) block_whole (suc k) tail left
    rest_at j e None h = λ C v vs.
        ap (λ z. top (run same C (op ∷ z) (v ∷ vs))) e ∙ ap top (opens C (onto body (Closes ByEnd ∷ take j (onto rest tail))) v vs)
        ∙ ap top (through_end C body (take j (onto rest tail)) false loops t v vs)
        ∙ top_when (closes same t (pass same (within C (level false loops t ∷ v ∷ vs)) body fresh)) (run same C (take j (onto rest tail)) (given t (v ∷ vs)))
        ∙ (λ i. when (closes same t (pass same (here C v vs i) body fresh)) (h C (now_with v (pushes (optional t) v.block.operands)) vs i))
    rest_at j e (Some l) h = ap (λ z. op ∷ z) e ∙ ap (λ z. op ∷ onto body (Closes ByEnd ∷ z)) h

    block_at : (left : Option ℕ) → IsAt (λ D s. pass_at same D body k s) (onto body) k (Closes ByEnd ∷ onto rest tail) left →
        ((j : ℕ) → IsAt (λ D s. pass_at same D rest j s) (onto rest) j tail (behind rest j)) →
        IsAt (block_p left) block_whole (suc k) tail (and_then left (behind rest))
    block_at None h hr = λ C v vs.
        ap top (opens C (take k (onto body (Closes ByEnd ∷ onto rest tail))) v vs) ∙ h C (level false loops t) (v ∷ vs) ∙ ap (λ D. pass_at same D body k fresh) (here C v vs)
    block_at (Some j) h hr = rest_at j h (behind rest j) (hr j)

  -- behind an `if`'s condition
  if_top : (C : Context S) (t : Option (ValueType S)) (more : List (Op S)) (v : Level S) (vs : List (Level S)) →
      top (run same C (Opens OfIf t ∷ more) (v ∷ vs)) ≡ and_then (expect same (i32 C) v.block.operands) (λ s. top (run same C more (level true false t ∷ now_with v s ∷ vs)))
  if_top C t more v vs =
      ap top (and_then_assoc (expect same (i32 C) v.block.operands) (λ s. Some (level true false t ∷ now_with v s ∷ vs)) (run same C more))
      ∙ and_then_assoc (expect same (i32 C) v.block.operands) (λ s. run same C more (level true false t ∷ now_with v s ∷ vs)) top_of

  module _ (t : Option (ValueType S)) (arm rest : Code S) (k : ℕ) (tail : List (Op S)) where
    abbrev if_p : Option ℕ → At
    if_p left D s =
        where_cut left (and_then (expect same (i32 D) s) (λ m. pass_at same (inside t D) arm k fresh))
        (λ j. when (is_none t) (when (closes same t (pass same (inside t D) arm fresh)) (and_then (expect same (i32 D) s) (λ m. pass_at same D rest j (pushes (optional t) m)))))

    abbrev if_whole : List (Op S) → List (Op S)
    if_whole z = Opens OfIf t ∷ onto arm (Closes ByEnd ∷ onto rest z)

    if_rest : (j : ℕ) → take k (onto arm (Closes ByEnd ∷ onto rest tail)) ≡ onto arm (Closes ByEnd ∷ take j (onto rest tail)) → (left : Option ℕ) → IsAt (λ D s. pass_at same D rest j s) (onto rest) j tail left → IsAt (if_p (Some j)) if_whole (suc k) tail left
    if_rest j e None h = λ C v vs.
        let x : Option (Operands S) = expect same (i32 C) v.block.operands in
        let c : Bool = is_none t in
        let d : Bool = closes same t (pass same (within C (level true false t ∷ v ∷ vs)) arm fresh) in
        let g : Operands S → Option (Operands S) = λ m. pass_at same (within C (v ∷ vs)) rest j (pushes (optional t) m) in
        ap (λ z. top (run same C (Opens OfIf t ∷ z) (v ∷ vs))) e ∙ if_top C t (onto arm (Closes ByEnd ∷ take j (onto rest tail))) v vs
        ∙ and_then_same x _ (λ m. when c (when d (g m)))
        (λ m. ap top (through_end C arm (take j (onto rest tail)) true false t (now_with v m) vs)
        ∙ top_when c (when d (run same C (take j (onto rest tail)) (given t (now_with v m ∷ vs))))
        ∙ ap (when c) (top_when d (run same C (take j (onto rest tail)) (given t (now_with v m ∷ vs))) ∙ ap (when d) (h C (now_with v (pushes (optional t) m)) vs)))
        ∙ when_inside c x (λ m. when d (g m)) ∙ ap (when c) (when_inside d x g)
    if_rest j e (Some l) h = ap (λ z. Opens OfIf t ∷ z) e ∙ ap (λ z. Opens OfIf t ∷ onto arm (Closes ByEnd ∷ z)) h

    if_at : (left : Option ℕ) → IsAt (λ D s. pass_at same D arm k s) (onto arm) k (Closes ByEnd ∷ onto rest tail) left →
        ((j : ℕ) → IsAt (λ D s. pass_at same D rest j s) (onto rest) j tail (behind rest j)) →
        IsAt (if_p left) if_whole (suc k) tail (and_then left (behind rest))
    if_at None h hr = λ C v vs.
        if_top C t (take k (onto arm (Closes ByEnd ∷ onto rest tail))) v vs
        ∙ and_then_same (expect same (i32 C) v.block.operands) _ (λ m. pass_at same (inside t (within C (v ∷ vs))) arm k fresh) (λ m. h C (level true false t) (now_with v m ∷ vs))
    if_at (Some j) h hr = if_rest j h (behind rest j) (hr j)

  module _ (t : Option (ValueType S)) (arm other rest : Code S) (k : ℕ) (tail : List (Op S)) where
    abbrev arms_whole : List (Op S) → List (Op S)
    arms_whole z = Opens OfIf t ∷ onto arm (Closes ByElse ∷ onto other (Closes ByEnd ∷ onto rest z))

    abbrev inner_p : ℕ → Option ℕ → At
    inner_p j left D s =
        where_cut left (when (closes same t (pass same (inside t D) arm fresh)) (and_then (expect same (i32 D) s) (λ m. pass_at same (inside t D) other j fresh)))
        (λ l. when (closes same t (pass same (inside t D) arm fresh)) (when (closes same t (pass same (inside t D) other fresh)) (and_then (expect same (i32 D) s) (λ m. pass_at same D rest l (pushes (optional t) m)))))

    abbrev arms_p : Option ℕ → At
    arms_p left D s = where_cut left (and_then (expect same (i32 D) s) (λ m. pass_at same (inside t D) arm k fresh)) (λ j. inner_p j (behind other j) D s)

    arms_rest : (j l : ℕ) → take (suc k) (arms_whole tail) ≡ Opens OfIf t ∷ onto arm (Closes ByElse ∷ onto other (Closes ByEnd ∷ take l (onto rest tail))) → (left : Option ℕ) → IsAt (λ D s. pass_at same D rest l s) (onto rest) l tail left → IsAt (inner_p j (Some l)) arms_whole (suc k) tail left
    arms_rest j l e None h = λ C v vs.
        let x : Option (Operands S) = expect same (i32 C) v.block.operands in
        let c : Bool = closes same t (pass same (within C (level true false t ∷ v ∷ vs)) arm fresh) in
        let d : Bool = closes same t (pass same (within C (level false false t ∷ v ∷ vs)) other fresh) in
        let g : Operands S → Option (Operands S) = λ m. pass_at same (within C (v ∷ vs)) rest l (pushes (optional t) m) in
        let more : List (Op S) = onto other (Closes ByEnd ∷ take l (onto rest tail)) in
        ap (λ z. top (run same C z (v ∷ vs))) e ∙ if_top C t (onto arm (Closes ByElse ∷ more)) v vs
        ∙ and_then_same x _ (λ m. when c (when d (g m)))
        (λ m. ap top (through_else C arm more t (now_with v m ∷ vs) ∙ ap (when c) (through_end C other (take l (onto rest tail)) false false t (now_with v m) vs))
        ∙ top_when c (when d (run same C (take l (onto rest tail)) (given t (now_with v m ∷ vs))))
        ∙ ap (when c) (top_when d (run same C (take l (onto rest tail)) (given t (now_with v m ∷ vs))) ∙ ap (when d) (h C (now_with v (pushes (optional t) m)) vs)))
        ∙ when_inside c x (λ m. when d (g m)) ∙ ap (when c) (when_inside d x g)
    arms_rest j l e (Some n) h = e ∙ ap (λ z. Opens OfIf t ∷ onto arm (Closes ByElse ∷ onto other (Closes ByEnd ∷ z))) h

    other_at : (j : ℕ) → take (suc k) (arms_whole tail) ≡ Opens OfIf t ∷ onto arm (Closes ByElse ∷ take j (onto other (Closes ByEnd ∷ onto rest tail))) → (left : Option ℕ) → IsAt (λ D s. pass_at same D other j s) (onto other) j (Closes ByEnd ∷ onto rest tail) left →
        ((l : ℕ) → IsAt (λ D s. pass_at same D rest l s) (onto rest) l tail (behind rest l)) →
        IsAt (inner_p j left) arms_whole (suc k) tail (and_then left (behind rest))
    other_at j e None h hr = λ C v vs.
        let x : Option (Operands S) = expect same (i32 C) v.block.operands in
        let c : Bool = closes same t (pass same (within C (level true false t ∷ v ∷ vs)) arm fresh) in
        let last : List (Op S) = take j (onto other (Closes ByEnd ∷ onto rest tail)) in
        ap (λ z. top (run same C z (v ∷ vs))) e ∙ if_top C t (onto arm (Closes ByElse ∷ last)) v vs
        ∙ and_then_same x _ (λ m. when c (pass_at same (inside t (within C (v ∷ vs))) other j fresh))
        (λ m. ap top (through_else C arm last t (now_with v m ∷ vs))
        ∙ top_when c (run same C last (level false false t ∷ now_with v m ∷ vs))
        ∙ ap (when c) (h C (level false false t) (now_with v m ∷ vs)))
        ∙ when_inside c x (λ m. pass_at same (inside t (within C (v ∷ vs))) other j fresh)
    other_at j e (Some l) h hr = arms_rest j l (e ∙ ap (λ z. Opens OfIf t ∷ onto arm (Closes ByElse ∷ z)) h) (behind rest l) (hr l)

    arms_at : (left : Option ℕ) → IsAt (λ D s. pass_at same D arm k s) (onto arm) k (Closes ByElse ∷ onto other (Closes ByEnd ∷ onto rest tail)) left →
        ((j : ℕ) → IsAt (λ D s. pass_at same D other j s) (onto other) j (Closes ByEnd ∷ onto rest tail) (behind other j)) →
        ((l : ℕ) → IsAt (λ D s. pass_at same D rest l s) (onto rest) l tail (behind rest l)) →
        IsAt (arms_p left) arms_whole (suc k) tail (and_then left (λ j. and_then (behind other j) (behind rest)))
    arms_at None h ho hr = λ C v vs.
        if_top C t (take k (onto arm (Closes ByElse ∷ onto other (Closes ByEnd ∷ onto rest tail)))) v vs
        ∙ and_then_same (expect same (i32 C) v.block.operands) _ (λ m. pass_at same (inside t (within C (v ∷ vs))) arm k fresh) (λ m. h C (level true false t) (now_with v m ∷ vs))
    arms_at (Some j) h ho hr = other_at j (ap (λ z. Opens OfIf t ∷ z) h) (behind other j) (ho j) hr

  pub at_law : (code : Code S) (k : ℕ) (tail : List (Op S)) → IsAt (λ D s. pass_at same D code k s) (onto code) k tail (behind code k)
  at_law code zero tail = λ C v vs. refl
  at_law Stop (suc k) tail = refl
  at_law (Then i rest) (suc k) tail = then_at i (onto rest) (λ D s. pass_at same D rest k s) k tail (behind rest k) (at_law rest k tail)
  at_law (Block t body rest) (suc k) tail =
      block_at false (Opens OfBlock t) t t body rest k tail (λ C more v vs. refl) (λ C v vs. refl) (behind body k) (at_law body k (Closes ByEnd ∷ onto rest tail)) (λ j. at_law rest j tail)
  at_law (Loop t body rest) (suc k) tail =
      block_at true (Opens OfLoop t) t None body rest k tail (λ C more v vs. refl) (λ C v vs. refl) (behind body k) (at_law body k (Closes ByEnd ∷ onto rest tail)) (λ j. at_law rest j tail)
  at_law (If t arm rest) (suc k) tail = if_at t arm rest k tail (behind arm k) (at_law arm k (Closes ByEnd ∷ onto rest tail)) (λ j. at_law rest j tail)
  at_law (IfElse t arm other rest) (suc k) tail =
      arms_at t arm other rest k tail (behind arm k) (at_law arm k (Closes ByElse ∷ onto other (Closes ByEnd ∷ onto rest tail))) (λ j. at_law other j (Closes ByEnd ∷ onto rest tail)) (λ l. at_law rest l tail)
