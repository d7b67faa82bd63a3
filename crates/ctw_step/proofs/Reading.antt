-- The instruction at a place decides what is left of a sequence there.
use Rattle.std.proofs.Common.{◌≡◌, ℕ, List, ◌∷◌, Option, Result, Ok, sym, ap, subst}
use Rattle.ctw_ops.specs.declared.types.Label.{Label}
use Rattle.ctw_ops.specs.Types.{ValueType}
use Rattle.ctw_ops.specs.Code.{Leaf, Code, Stop, Then, Block, Loop, If, IfElse, Op, Plain, Opens, Closes, OfBlock, OfLoop, OfIf, Closer, ByEnd, ByElse}
use Rattle.ctw_ops.specs.Segments.{Segment, segment}
use Rattle.ctw_flat.specs.declared.fault.CodeFault.{CodeFault}
use Rattle.ctw_flat.specs.Places.{instr_in}
use Rattle.ctw_flat.specs.Positions.{At}
use Rattle.ctw_flat.proofs.Positions.{at_leaf, at_block, at_loop, at_if, at_if_else, at_closer}
use Rattle.ctw_step.specs.Stands.{CodeStands}

pub code_at : (bytes : List ℕ) (at next : ℕ) (code : Code Label) (closer : Closer) (tail : List (Segment Label)) → At bytes at (segment code closer ∷ tail) → at ≡ next → CodeStands bytes next code
code_at bytes at next code closer tail a e = record { closer = closer; tail = tail; stands = subst (λ n. At bytes n (segment code closer ∷ tail)) e a }

same_op : (r : Result (Op Label × ℕ) CodeFault) (a b : Op Label) (n m : ℕ) → r ≡ Ok (a, n) → r ≡ Ok (b, m) → a ≡ b
same_op r a b n m e f = let p : (a, n) ≡ (b, m) = cc in ap (λ (x : Op Label × ℕ). x.0) p

pub same_next : (r : Result (Op Label × ℕ) CodeFault) (a b : Op Label) (n m : ℕ) → r ≡ Ok (a, n) → r ≡ Ok (b, m) → n ≡ m
same_next r a b n m e f = let p : (a, n) ≡ (b, m) = cc in ap (λ (x : Op Label × ℕ). x.1) p

module _ (bytes : List ℕ) (at next : ℕ) (P : Code Label → Type 0) where
  pub on_leaf : (l : Leaf Label) → instr_in bytes at ≡ Ok (Plain l, next) → (c : Code Label) → CodeStands bytes at c → ((rest : Code Label) → CodeStands bytes next rest → P (Then l rest)) → P c
  on_leaf l e Stop s h = let m = at_closer bytes at s.closer s.tail s.stands in let q = same_op (instr_in bytes at) _ _ next m.next e m.reads in absurd cc
  on_leaf l e (Then j rest) s h =
      let m = at_leaf bytes at j rest s.closer s.tail s.stands in
      let q = same_op (instr_in bytes at) _ _ next m.next e m.reads in
      let same : j ≡ l = cc in
      let place : m.next ≡ next = sym (same_next (instr_in bytes at) _ _ next m.next e m.reads) in
      subst (λ (l : Leaf Label). P (Then l rest)) (sym same) (h rest (code_at bytes m.next next rest s.closer s.tail m.after place))
  on_leaf l e (Block t body rest) s h = let m = at_block bytes at t body rest s.closer s.tail s.stands in let q = same_op (instr_in bytes at) _ _ next m.next e m.reads in absurd cc
  on_leaf l e (Loop t body rest) s h = let m = at_loop bytes at t body rest s.closer s.tail s.stands in let q = same_op (instr_in bytes at) _ _ next m.next e m.reads in absurd cc
  on_leaf l e (If t arm rest) s h = let m = at_if bytes at t arm rest s.closer s.tail s.stands in let q = same_op (instr_in bytes at) _ _ next m.next e m.reads in absurd cc
  on_leaf l e (IfElse t arm other rest) s h = let m = at_if_else bytes at t arm other rest s.closer s.tail s.stands in let q = same_op (instr_in bytes at) _ _ next m.next e m.reads in absurd cc

  pub on_block : (t : Option (ValueType Label)) → instr_in bytes at ≡ Ok (Opens OfBlock t, next) → (c : Code Label) → CodeStands bytes at c
      → ((body rest : Code Label) (closer : Closer) (tail : List (Segment Label)) → At bytes at (segment (Block t body rest) closer ∷ tail) → CodeStands bytes next body → P (Block t body rest)) → P c
  on_block t e Stop s h = let m = at_closer bytes at s.closer s.tail s.stands in let q = same_op (instr_in bytes at) _ _ next m.next e m.reads in absurd cc
  on_block t e (Then j rest) s h = let m = at_leaf bytes at j rest s.closer s.tail s.stands in let q = same_op (instr_in bytes at) _ _ next m.next e m.reads in absurd cc
  on_block t e (Block u body rest) s h =
      let m = at_block bytes at u body rest s.closer s.tail s.stands in
      let q = same_op (instr_in bytes at) _ _ next m.next e m.reads in
      let same : u ≡ t = cc in
      let place : m.next ≡ next = sym (same_next (instr_in bytes at) _ _ next m.next e m.reads) in
      subst (λ t. P (Block t body rest)) (sym same) (h body rest s.closer s.tail (subst (λ t. At bytes at (segment (Block t body rest) s.closer ∷ s.tail)) same s.stands) (code_at bytes m.next next body ByEnd (segment rest s.closer ∷ s.tail) m.after place))
  on_block t e (Loop u body rest) s h = let m = at_loop bytes at u body rest s.closer s.tail s.stands in let q = same_op (instr_in bytes at) _ _ next m.next e m.reads in absurd cc
  on_block t e (If u arm rest) s h = let m = at_if bytes at u arm rest s.closer s.tail s.stands in let q = same_op (instr_in bytes at) _ _ next m.next e m.reads in absurd cc
  on_block t e (IfElse u arm other rest) s h = let m = at_if_else bytes at u arm other rest s.closer s.tail s.stands in let q = same_op (instr_in bytes at) _ _ next m.next e m.reads in absurd cc

  pub on_loop : (t : Option (ValueType Label)) → instr_in bytes at ≡ Ok (Opens OfLoop t, next) → (c : Code Label) → CodeStands bytes at c
      → ((body rest : Code Label) (closer : Closer) (tail : List (Segment Label)) → At bytes at (segment (Loop t body rest) closer ∷ tail) → CodeStands bytes next body → P (Loop t body rest)) → P c
  on_loop t e Stop s h = let m = at_closer bytes at s.closer s.tail s.stands in let q = same_op (instr_in bytes at) _ _ next m.next e m.reads in absurd cc
  on_loop t e (Then j rest) s h = let m = at_leaf bytes at j rest s.closer s.tail s.stands in let q = same_op (instr_in bytes at) _ _ next m.next e m.reads in absurd cc
  on_loop t e (Block u body rest) s h = let m = at_block bytes at u body rest s.closer s.tail s.stands in let q = same_op (instr_in bytes at) _ _ next m.next e m.reads in absurd cc
  on_loop t e (Loop u body rest) s h =
      let m = at_loop bytes at u body rest s.closer s.tail s.stands in
      let q = same_op (instr_in bytes at) _ _ next m.next e m.reads in
      let same : u ≡ t = cc in
      let place : m.next ≡ next = sym (same_next (instr_in bytes at) _ _ next m.next e m.reads) in
      subst (λ t. P (Loop t body rest)) (sym same) (h body rest s.closer s.tail (subst (λ t. At bytes at (segment (Loop t body rest) s.closer ∷ s.tail)) same s.stands) (code_at bytes m.next next body ByEnd (segment rest s.closer ∷ s.tail) m.after place))
  on_loop t e (If u arm rest) s h = let m = at_if bytes at u arm rest s.closer s.tail s.stands in let q = same_op (instr_in bytes at) _ _ next m.next e m.reads in absurd cc
  on_loop t e (IfElse u arm other rest) s h = let m = at_if_else bytes at u arm other rest s.closer s.tail s.stands in let q = same_op (instr_in bytes at) _ _ next m.next e m.reads in absurd cc

  pub on_if : (t : Option (ValueType Label)) → instr_in bytes at ≡ Ok (Opens OfIf t, next) → (c : Code Label) → CodeStands bytes at c
      → ((arm rest : Code Label) (closer : Closer) (tail : List (Segment Label)) → At bytes at (segment (If t arm rest) closer ∷ tail) → CodeStands bytes next arm → P (If t arm rest))
      → ((arm other rest : Code Label) (closer : Closer) (tail : List (Segment Label)) → At bytes at (segment (IfElse t arm other rest) closer ∷ tail) → CodeStands bytes next arm → P (IfElse t arm other rest)) → P c
  on_if t e Stop s h g = let m = at_closer bytes at s.closer s.tail s.stands in let q = same_op (instr_in bytes at) _ _ next m.next e m.reads in absurd cc
  on_if t e (Then j rest) s h g = let m = at_leaf bytes at j rest s.closer s.tail s.stands in let q = same_op (instr_in bytes at) _ _ next m.next e m.reads in absurd cc
  on_if t e (Block u body rest) s h g = let m = at_block bytes at u body rest s.closer s.tail s.stands in let q = same_op (instr_in bytes at) _ _ next m.next e m.reads in absurd cc
  on_if t e (Loop u body rest) s h g = let m = at_loop bytes at u body rest s.closer s.tail s.stands in let q = same_op (instr_in bytes at) _ _ next m.next e m.reads in absurd cc
  on_if t e (If u arm rest) s h g =
      let m = at_if bytes at u arm rest s.closer s.tail s.stands in
      let q = same_op (instr_in bytes at) _ _ next m.next e m.reads in
      let same : u ≡ t = cc in
      let place : m.next ≡ next = sym (same_next (instr_in bytes at) _ _ next m.next e m.reads) in
      subst (λ t. P (If t arm rest)) (sym same) (h arm rest s.closer s.tail (subst (λ t. At bytes at (segment (If t arm rest) s.closer ∷ s.tail)) same s.stands) (code_at bytes m.next next arm ByEnd (segment rest s.closer ∷ s.tail) m.after place))
  on_if t e (IfElse u arm other rest) s h g =
      let m = at_if_else bytes at u arm other rest s.closer s.tail s.stands in
      let q = same_op (instr_in bytes at) _ _ next m.next e m.reads in
      let same : u ≡ t = cc in
      let place : m.next ≡ next = sym (same_next (instr_in bytes at) _ _ next m.next e m.reads) in
      subst (λ t. P (IfElse t arm other rest)) (sym same) (g arm other rest s.closer s.tail (subst (λ t. At bytes at (segment (IfElse t arm other rest) s.closer ∷ s.tail)) same s.stands) (code_at bytes m.next next arm ByElse (segment other ByEnd ∷ segment rest s.closer ∷ s.tail) m.after place))

  pub on_closer : (k : Closer) → instr_in bytes at ≡ Ok (Closes k, next) → (c : Code Label) → CodeStands bytes at c → P Stop → P c
  on_closer k e Stop s h = h
  on_closer k e (Then j rest) s h = let m = at_leaf bytes at j rest s.closer s.tail s.stands in let q = same_op (instr_in bytes at) _ _ next m.next e m.reads in absurd cc
  on_closer k e (Block u body rest) s h = let m = at_block bytes at u body rest s.closer s.tail s.stands in let q = same_op (instr_in bytes at) _ _ next m.next e m.reads in absurd cc
  on_closer k e (Loop u body rest) s h = let m = at_loop bytes at u body rest s.closer s.tail s.stands in let q = same_op (instr_in bytes at) _ _ next m.next e m.reads in absurd cc
  on_closer k e (If u arm rest) s h = let m = at_if bytes at u arm rest s.closer s.tail s.stands in let q = same_op (instr_in bytes at) _ _ next m.next e m.reads in absurd cc
  on_closer k e (IfElse u arm other rest) s h = let m = at_if_else bytes at u arm other rest s.closer s.tail s.stands in let q = same_op (instr_in bytes at) _ _ next m.next e m.reads in absurd cc
