-- The facts over opcodes are those over the tree.
use Rattle.std.proofs.Common.{◌≡◌, ℕ, ◌+◌, Bool, true, false, List, ◌∷◌, ◌++◌, length, Option, refl, sym, ◌∙◌, ap, append_assoc, arith, length-append}
use Rattle.std.specs.Prelude.{unwrap_or}
use Rattle.ctw_ops.specs.Types.{ValueType}
use Rattle.ctw_ops.specs.Code.{Leaf, CallIndirect, Code, Stop, Then, Block, Loop, If, IfElse, Op, Closes, ByEnd, ByElse, onto}
use Rattle.ctw_ops.specs.Typing.{Context, optional, i32}
use Rattle.ctw_stack.specs.Operands.{Operands, fresh}
use Rattle.ctw_stack.specs.Steps.{expect, pushes}
use Rattle.ctw_labels.specs.Names.{Tag, Site}
use Rattle.ctw_labels.specs.Sited.{yes, Lift, Sited, lifted}
use Rattle.ctw_labels.specs.Numbering.{BodyPlace, opcode_count, result_from, after_lift, stepped, leaf_lift, leaf_sites, leaf_node, block_sites, behind_block, Numbered, number}
use Rattle.ctw_labels.specs.Links.{Fact, wants, facts_of_end, facts, ending}
use Rattle.ctw_stack.specs.Opens.{Open, opened, with_operands}
use Rattle.ctw_labels.proofs.FlatSiteLaws.{behind_law}
use Rattle.ctw_labels.specs.FlatSites.{among, result_lift, leaf_facts, flat_facts}

node_ending : {A : Type 0} (P : BodyPlace A) (C : Context Tag) (n : ℕ) (i : Leaf A) (l : Option (Lift Tag)) (rest : Sited Tag) (s : Operands Tag) → ending C (leaf_node P C n i l rest) s ≡ ending C rest (after_lift l (stepped P C n i s))
node_ending P C n (CallIndirect y) l rest s = refl
node_ending P C n _ l rest s = refl

node_facts : {A : Type 0} (P : BodyPlace A) (C : Context Tag) (n : ℕ) (i : Leaf A) (l : Option (Lift Tag)) (rest : Sited Tag) (s : Operands Tag) → facts C (leaf_node P C n i l rest) s ≡ leaf_facts P C n i s ++ facts C rest (after_lift l (stepped P C n i s))
node_facts P C n (CallIndirect y) l rest s = refl
node_facts P C n _ l rest s = refl

module _ {A : Type 0} (P : BodyPlace A) where
  -- the state behind_block the numbered code is the one that the numbering had there
  pub number_ending : (C : Context Tag) (c : Code A) (n at : ℕ) (s : Operands Tag) → ending C (number P C c n at s).code s ≡ (number P C c n at s).last
  number_ending C Stop n at s = refl
  number_ending C (Then i rest) n at s = node_ending P C n i (leaf_lift P C n at i s) _ s ∙ number_ending C rest _ _ _
  number_ending C (Block t body rest) n at s = number_ending C rest _ _ _
  number_ending C (Loop t body rest) n at s = number_ending C rest _ _ _
  number_ending C (If t arm rest) n at s = number_ending C rest _ _ _
  number_ending C (IfElse t arm other rest) n at s = number_ending C rest _ _ _

module _ {A : Type 0} (P : BodyPlace A) (C : Context Tag) where
  abbrev IsFlat : Code A → Type 0
  IsFlat c = (ops : List (Op A)) (o : Open Tag) (os : List (Open Tag)) (n at : ℕ) → flat_facts P C (onto c ops) (o ∷ os) n at ≡
      facts (among C (o ∷ os)) (number P (among C (o ∷ os)) c n at o.operands).code o.operands
      ++ flat_facts P C ops (with_operands o (number P (among C (o ∷ os)) c n at o.operands).last ∷ os) (n + length (number P (among C (o ∷ os)) c n at o.operands).sites) (at + opcode_count c)

  moved : (ops : List (Op A)) (os : List (Open Tag)) (n m at bt : ℕ) → n ≡ m → at ≡ bt → flat_facts P C ops os n at ≡ flat_facts P C ops os m bt
  moved ops os n m at bt e f = λ i. flat_facts P C ops os (e i) (f i)

  -- from inside a block, which began fresh, to the end of what stands behind_block it
  block_law : (body rest : Code A) → IsFlat body → IsFlat rest → (ops : List (Op A)) (loops : Bool) (t : Option (ValueType Tag)) (o : Open Tag) (os : List (Open Tag)) (n at bt : ℕ) → at + opcode_count body + 1 ≡ bt →
      (s : Operands Tag) → lifted (result_lift t) (pushes (optional t) o.operands) ≡ s → (b r : Numbered) → number P (among C (opened loops t ∷ o ∷ os)) body n at fresh ≡ b → number P (among C (o ∷ os)) rest (n + length b.sites) bt s ≡ r →
      flat_facts P C (onto body (Closes ByEnd ∷ onto rest ops)) (opened loops t ∷ o ∷ os) n at ≡
      facts (among C (opened loops t ∷ o ∷ os)) b.code fresh ++ (facts_of_end t (ending (among C (opened loops t ∷ o ∷ os)) b.code fresh) ++ (facts (among C (o ∷ os)) r.code s ++ flat_facts P C ops (with_operands o r.last ∷ os) (n + length b.sites + length r.sites) (bt + opcode_count rest)))
  block_law body rest hb hr ops loops t o os n at bt e s es b r p q =
      let w : Open Tag = opened loops t in
      let s0 : Operands Tag = lifted (result_lift t) (pushes (optional t) o.operands) in
      let X : List (Op A) = onto rest ops in
      let D : Context Tag = among C (w ∷ o ∷ os) in
      let two : flat_facts P C (onto body (Closes ByEnd ∷ X)) (w ∷ o ∷ os) n at ≡ facts D b.code fresh ++ (facts_of_end t b.last ++ flat_facts P C X (with_operands o s ∷ os) (n + length b.sites + 0) (at + opcode_count body + 1)) =
      hb (Closes ByEnd ∷ X) w (o ∷ os) n at ∙ ap (λ z. facts D z.code fresh ++ (facts_of_end t z.last ++ flat_facts P C X (with_operands o s0 ∷ os) (n + length z.sites + 0) (at + opcode_count body + 1))) p ∙ ap (λ z. facts D b.code fresh ++ (facts_of_end t b.last ++ flat_facts P C X (with_operands o z ∷ os) (n + length b.sites + 0) (at + opcode_count body + 1))) es in
      let last : b.last ≡ ending D b.code fresh = ap (λ z. z.last) (sym p) ∙ sym (number_ending P D body n at fresh) ∙ ap (λ z. ending D z.code fresh) p in
      let three : flat_facts P C X (with_operands o s ∷ os) (n + length b.sites + 0) (at + opcode_count body + 1) ≡ flat_facts P C X (with_operands o s ∷ os) (n + length b.sites) bt = moved X (with_operands o s ∷ os) (n + length b.sites + 0) (n + length b.sites) (at + opcode_count body + 1) bt (omega arith) e in
      let four : flat_facts P C X (with_operands o s ∷ os) (n + length b.sites) bt ≡ facts (among C (o ∷ os)) r.code s ++ flat_facts P C ops (with_operands o r.last ∷ os) (n + length b.sites + length r.sites) (bt + opcode_count rest) =
      hr ops (with_operands o s) os (n + length b.sites) bt ∙ ap (λ z. facts (among C (o ∷ os)) z.code s ++ flat_facts P C ops (with_operands o z.last ∷ os) (n + length b.sites + length z.sites) (bt + opcode_count rest)) q in
      two ∙ (λ i. facts D b.code fresh ++ (facts_of_end t (last i) ++ (three ∙ four) i))

  gather3 : (x y z : List (Fact Tag)) (own b r : List Site) (ops : List (Op A)) (os : List (Open Tag)) (n at bt : ℕ) → at ≡ bt →
      x ++ (y ++ (z ++ flat_facts P C ops os (n + length own + length b + length r) at)) ≡ (x ++ (y ++ z)) ++ flat_facts P C ops os (n + length (own ++ b ++ r)) bt
  gather3 x y z own b r ops os n at bt f =
      let k : n + length own + length b + length r ≡ n + length (own ++ b ++ r) = let h = length-append (own ++ b) r in let g = length-append own b in omega arith in
      let Y : List (Fact Tag) = flat_facts P C ops os (n + length (own ++ b ++ r)) bt in
      ap (λ v. x ++ (y ++ (z ++ v))) (moved ops os _ _ at bt k f) ∙ ap (λ v. x ++ v) (sym (append_assoc y z Y)) ∙ sym (append_assoc x (y ++ z) Y)

  gather4 : (w x y z : List (Fact Tag)) (own b r : List Site) (ops : List (Op A)) (os : List (Open Tag)) (n at bt : ℕ) → at ≡ bt →
      w ++ (x ++ (y ++ (z ++ flat_facts P C ops os (n + length own + length b + length r) at))) ≡ (w ++ (x ++ (y ++ z))) ++ flat_facts P C ops os (n + length (own ++ b ++ r)) bt
  gather4 w x y z own b r ops os n at bt f = ap (λ v. w ++ v) (gather3 x y z own b r ops os n at bt f) ∙ sym (append_assoc w (x ++ (y ++ z)) (flat_facts P C ops os (n + length (own ++ b ++ r)) bt))

  pub flat_law : (c : Code A) → IsFlat c
  flat_law Stop ops o os n at = moved ops (o ∷ os) n (n + 0) at (at + 0) (omega arith) (omega arith)
  flat_law (Then i rest) ops o os n at =
      let D : Context Tag = among C (o ∷ os) in
      let own : List Site = leaf_sites P D n at i o.operands in
      let l : Option (Lift Tag) = leaf_lift P D n at i o.operands in
      let s : Operands Tag = after_lift l (stepped P D n i o.operands) in
      let r : Numbered = number P D rest (n + length own) (at + 1) s in
      let k : n + length own + length r.sites ≡ n + length (own ++ r.sites) = let h = length-append own r.sites in omega arith in
      let Y : List (Fact Tag) = flat_facts P C ops (with_operands o r.last ∷ os) (n + length (own ++ r.sites)) (at + (1 + opcode_count rest)) in
      ap (λ z. leaf_facts P D n i o.operands ++ z) (flat_law rest ops (with_operands o s) os (n + length own) (at + 1) ∙ ap (λ z. facts D r.code s ++ z) (moved ops (with_operands o r.last ∷ os) _ _ (at + 1 + opcode_count rest) (at + (1 + opcode_count rest)) k (omega arith)))
      ∙ sym (append_assoc (leaf_facts P D n i o.operands) (facts D r.code s) Y) ∙ ap (λ z. z ++ Y) (sym (node_facts P D n i l r.code o.operands))
  flat_law (Block t body rest) ops o os n at =
      let own : List Site = block_sites P.func at n t in
      let u : Option (ValueType Tag) = result_from n t in
      let D : Context Tag = among C (opened false u ∷ o ∷ os) in
      let b : Numbered = number P D body (n + length own) (at + 1) fresh in
      let r : Numbered = number P (among C (o ∷ os)) rest (n + length own + length b.sites) (at + opcode_count body + 2) (behind_block (P.free at) n t o.operands) in
      block_law body rest (flat_law body) (flat_law rest) ops false u o os (n + length own) (at + 1) (at + opcode_count body + 2) (omega arith) (behind_block (P.free at) n t o.operands) (behind_law (P.free at) n t o.operands) b r refl refl
      ∙ gather3 (facts D b.code fresh) (facts_of_end u (ending D b.code fresh)) (facts (among C (o ∷ os)) r.code (behind_block (P.free at) n t o.operands)) own b.sites r.sites ops (with_operands o r.last ∷ os) n (at + opcode_count body + 2 + opcode_count rest) (at + (opcode_count body + 2 + opcode_count rest)) (omega arith)
  flat_law (Loop t body rest) ops o os n at =
      let own : List Site = block_sites P.func at n t in
      let u : Option (ValueType Tag) = result_from n t in
      let D : Context Tag = among C (opened true u ∷ o ∷ os) in
      let b : Numbered = number P D body (n + length own) (at + 1) fresh in
      let r : Numbered = number P (among C (o ∷ os)) rest (n + length own + length b.sites) (at + opcode_count body + 2) (behind_block (P.free at) n t o.operands) in
      block_law body rest (flat_law body) (flat_law rest) ops true u o os (n + length own) (at + 1) (at + opcode_count body + 2) (omega arith) (behind_block (P.free at) n t o.operands) (behind_law (P.free at) n t o.operands) b r refl refl
      ∙ gather3 (facts D b.code fresh) (facts_of_end u (ending D b.code fresh)) (facts (among C (o ∷ os)) r.code (behind_block (P.free at) n t o.operands)) own b.sites r.sites ops (with_operands o r.last ∷ os) n (at + opcode_count body + 2 + opcode_count rest) (at + (opcode_count body + 2 + opcode_count rest)) (omega arith)
  flat_law (If t arm rest) ops o os n at =
      let own : List Site = block_sites P.func at n t in
      let u : Option (ValueType Tag) = result_from n t in
      let m : Operands Tag = unwrap_or (expect yes (i32 C) o.operands) fresh in
      let D : Context Tag = among C (opened false u ∷ o ∷ os) in
      let b : Numbered = number P D arm (n + length own) (at + 1) fresh in
      let r : Numbered = number P (among C (o ∷ os)) rest (n + length own + length b.sites) (at + opcode_count arm + 2) (behind_block (P.free at) n t m) in
      ap (λ z. wants 13 (i32 C) o.operands ++ z) (block_law arm rest (flat_law arm) (flat_law rest) ops false u (with_operands o m) os (n + length own) (at + 1) (at + opcode_count arm + 2) (omega arith) (behind_block (P.free at) n t m) (behind_law (P.free at) n t m) b r refl refl)
      ∙ gather4 (wants 13 (i32 C) o.operands) (facts D b.code fresh) (facts_of_end u (ending D b.code fresh)) (facts (among C (o ∷ os)) r.code (behind_block (P.free at) n t m)) own b.sites r.sites ops (with_operands o r.last ∷ os) n (at + opcode_count arm + 2 + opcode_count rest) (at + (opcode_count arm + 2 + opcode_count rest)) (omega arith)
  flat_law (IfElse t arm other rest) ops o os n at =
      let own : List Site = block_sites P.func at n t in
      let u : Option (ValueType Tag) = result_from n t in
      let m : Operands Tag = unwrap_or (expect yes (i32 C) o.operands) fresh in
      let w : Open Tag = opened false u in
      let D : Context Tag = among C (w ∷ o ∷ os) in
      let b : Numbered = number P D arm (n + length own) (at + 1) fresh in
      let c : Numbered = number P D other (n + length own + length b.sites) (at + opcode_count arm + 2) fresh in
      let r : Numbered = number P (among C (o ∷ os)) rest (n + length own + length b.sites + length c.sites) (at + opcode_count arm + opcode_count other + 3) (behind_block (P.free at) n t m) in
      let X : List (Op A) = onto other (Closes ByEnd ∷ onto rest ops) in
      ap (λ z. wants 13 (i32 C) o.operands ++ z) (
      flat_law arm (Closes ByElse ∷ X) w (with_operands o m ∷ os) (n + length own) (at + 1)
      ∙ (λ i. facts D b.code fresh ++ (facts_of_end u (sym (number_ending P D arm (n + length own) (at + 1) fresh) i) ++ (moved X (w ∷ with_operands o m ∷ os) (n + length own + length b.sites + 0) (n + length own + length b.sites) (at + 1 + opcode_count arm + 1) (at + opcode_count arm + 2) (omega arith) (omega arith)
      ∙ block_law other rest (flat_law other) (flat_law rest) ops false u (with_operands o m) os (n + length own + length b.sites) (at + opcode_count arm + 2) (at + opcode_count arm + opcode_count other + 3) (omega arith) (behind_block (P.free at) n t m) (behind_law (P.free at) n t m) c r refl refl) i)))
      ∙ gather6 (wants 13 (i32 C) o.operands) (facts D b.code fresh) (facts_of_end u (ending D b.code fresh)) (facts D c.code fresh) (facts_of_end u (ending D c.code fresh)) (facts (among C (o ∷ os)) r.code (behind_block (P.free at) n t m)) own b.sites c.sites r.sites ops (with_operands o r.last ∷ os) n (at + opcode_count arm + opcode_count other + 3 + opcode_count rest) (at + (opcode_count arm + opcode_count other + 3 + opcode_count rest)) (omega arith)
    where
      gather6 : (v w x y z q : List (Fact Tag)) (own b c r : List Site) (ops : List (Op A)) (os : List (Open Tag)) (n at bt : ℕ) → at ≡ bt →
          v ++ (w ++ (x ++ (y ++ (z ++ (q ++ flat_facts P C ops os (n + length own + length b + length c + length r) at))))) ≡ (v ++ (w ++ (x ++ (y ++ (z ++ q))))) ++ flat_facts P C ops os (n + length (own ++ b ++ c ++ r)) bt
      gather6 v w x y z q own b c r ops os n at bt f =
          let k : n + length own + length b + length c + length r ≡ n + length (own ++ b ++ c ++ r) = let h = length-append (own ++ b ++ c) r in let g = length-append (own ++ b) c in let i = length-append own b in omega arith in
          let Y : List (Fact Tag) = flat_facts P C ops os (n + length (own ++ b ++ c ++ r)) bt in
          ap (λ u. v ++ (w ++ (x ++ (y ++ (z ++ (q ++ u)))))) (moved ops os _ _ at bt k f)
          ∙ ap (λ u. v ++ (w ++ (x ++ (y ++ u)))) (sym (append_assoc z q Y)) ∙ ap (λ u. v ++ (w ++ (x ++ u))) (sym (append_assoc y (z ++ q) Y)) ∙ ap (λ u. v ++ (w ++ u)) (sym (append_assoc x (y ++ (z ++ q)) Y)) ∙ ap (λ u. v ++ u) (sym (append_assoc w (x ++ (y ++ (z ++ q))) Y)) ∙ sym (append_assoc v (w ++ (x ++ (y ++ (z ++ q)))) Y)
