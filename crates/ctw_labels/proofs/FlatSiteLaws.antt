-- The sites over opcodes are those over the tree.
use Rattle.std.proofs.Common.{◌≡◌, ℕ, ◌+◌, true, false, Bool, List, ◌∷◌, ◌++◌, length, Option, Some, None, refl, sym, ◌∙◌, ap, append_assoc, arith, length-append}
use Rattle.std.specs.Prelude.{unwrap_or}
use Rattle.ctw_ops.specs.Types.{ValueType}
use Rattle.ctw_ops.specs.Code.{Code, Stop, Then, Block, Loop, If, IfElse, Op, Closes, ByEnd, ByElse, onto}
use Rattle.ctw_ops.specs.Typing.{Context, optional, i32}
use Rattle.ctw_stack.specs.Operands.{Operands, fresh}
use Rattle.ctw_stack.specs.Steps.{expect, pushes}
use Rattle.ctw_labels.specs.Names.{Tag, Site}
use Rattle.ctw_labels.specs.Sited.{yes, lifted}
use Rattle.ctw_labels.specs.Numbering.{BodyPlace, opcode_count, result_from, after_lift, stepped, leaf_lift, leaf_sites, block_sites, behind_block, Numbered, number}
use Rattle.ctw_stack.specs.Opens.{Open, opened, with_operands}
use Rattle.ctw_labels.specs.FlatSites.{among, result_lift, flat_sites}

-- a block's result is lifted by its type alone
pub behind_law : {A : Type 0} (free : Bool) (n : ℕ) (t : Option (ValueType A)) (o : Operands Tag) → lifted (result_lift (result_from n t)) (pushes (optional (result_from n t)) o) ≡ behind_block free n t o
behind_law free n None o = refl
behind_law free n (Some t) o = refl

module _ {A : Type 0} (P : BodyPlace A) (C : Context Tag) where
  abbrev IsFlat : Code A → Type 0
  IsFlat c = (ops : List (Op A)) (v : Open Tag) (vs : List (Open Tag)) (n at : ℕ) → flat_sites P C (onto c ops) (v ∷ vs) n at ≡
      (number P (among C (v ∷ vs)) c n at v.operands).sites ++ flat_sites P C ops (with_operands v (number P (among C (v ∷ vs)) c n at v.operands).last ∷ vs) (n + length (number P (among C (v ∷ vs)) c n at v.operands).sites) (at + opcode_count c)

  moved : (ops : List (Op A)) (vs : List (Open Tag)) (n m at bt : ℕ) → n ≡ m → at ≡ bt → flat_sites P C ops vs n at ≡ flat_sites P C ops vs m bt
  moved ops vs n m at bt e f = λ i. flat_sites P C ops vs (e i) (f i)

  -- from inside a block to the end of what stands behind it
  block_law : (body rest : Code A) → IsFlat body → IsFlat rest → (ops : List (Op A)) (w v : Open Tag) (vs : List (Open Tag)) (n at bt : ℕ) → at + opcode_count body + 1 ≡ bt →
      (s : Operands Tag) → lifted (result_lift w.yields) (pushes (optional w.yields) v.operands) ≡ s → (b r : Numbered) → number P (among C (w ∷ v ∷ vs)) body n at w.operands ≡ b → number P (among C (v ∷ vs)) rest (n + length b.sites) bt s ≡ r →
      flat_sites P C (onto body (Closes ByEnd ∷ onto rest ops)) (w ∷ v ∷ vs) n at ≡ b.sites ++ (r.sites ++ flat_sites P C ops (with_operands v r.last ∷ vs) (n + length b.sites + length r.sites) (bt + opcode_count rest))
  block_law body rest hb hr ops w v vs n at bt e s es b r p q =
      let X : List (Op A) = onto rest ops in
      let s0 : Operands Tag = lifted (result_lift w.yields) (pushes (optional w.yields) v.operands) in
      let two : flat_sites P C (onto body (Closes ByEnd ∷ X)) (w ∷ v ∷ vs) n at ≡ b.sites ++ flat_sites P C X (with_operands v s ∷ vs) (n + length b.sites + 0) (at + opcode_count body + 1) =
      hb (Closes ByEnd ∷ X) w (v ∷ vs) n at ∙ ap (λ z. z.sites ++ flat_sites P C X (with_operands v s0 ∷ vs) (n + length z.sites + 0) (at + opcode_count body + 1)) p ∙ ap (λ z. b.sites ++ flat_sites P C X (with_operands v z ∷ vs) (n + length b.sites + 0) (at + opcode_count body + 1)) es in
      let three : flat_sites P C X (with_operands v s ∷ vs) (n + length b.sites + 0) (at + opcode_count body + 1) ≡ flat_sites P C X (with_operands v s ∷ vs) (n + length b.sites) bt = moved X (with_operands v s ∷ vs) (n + length b.sites + 0) (n + length b.sites) (at + opcode_count body + 1) bt (omega arith) e in
      let four : flat_sites P C X (with_operands v s ∷ vs) (n + length b.sites) bt ≡ r.sites ++ flat_sites P C ops (with_operands v r.last ∷ vs) (n + length b.sites + length r.sites) (bt + opcode_count rest) =
      hr ops (with_operands v s) vs (n + length b.sites) bt ∙ ap (λ z. z.sites ++ flat_sites P C ops (with_operands v z.last ∷ vs) (n + length b.sites + length z.sites) (bt + opcode_count rest)) q in
      two ∙ ap (λ z. b.sites ++ z) (three ∙ four)

  -- own sites, then those of a block, then those behind it
  gathered : (own b r : List Site) (ops : List (Op A)) (vs : List (Open Tag)) (n at bt : ℕ) → at ≡ bt →
      own ++ (b ++ (r ++ flat_sites P C ops vs (n + length own + length b + length r) at)) ≡ (own ++ b ++ r) ++ flat_sites P C ops vs (n + length (own ++ b ++ r)) bt
  gathered own b r ops vs n at bt f =
      let k : n + length own + length b + length r ≡ n + length (own ++ b ++ r) = let h = length-append (own ++ b) r in let g = length-append own b in omega arith in
      ap (λ z. own ++ (b ++ (r ++ z))) (moved ops vs _ _ at bt k f) ∙ sym (append_assoc own b (r ++ flat_sites P C ops vs (n + length (own ++ b ++ r)) bt)) ∙ sym (append_assoc (own ++ b) r (flat_sites P C ops vs (n + length (own ++ b ++ r)) bt))

  pub flat_law : (c : Code A) → IsFlat c
  flat_law Stop ops v vs n at = moved ops (v ∷ vs) n (n + 0) at (at + 0) (omega arith) (omega arith)
  flat_law (Then i rest) ops v vs n at =
      let own : List Site = leaf_sites P (among C (v ∷ vs)) n at i v.operands in
      let s : Operands Tag = after_lift (leaf_lift P (among C (v ∷ vs)) n at i v.operands) (stepped P (among C (v ∷ vs)) n i v.operands) in
      let r : Numbered = number P (among C (v ∷ vs)) rest (n + length own) (at + 1) s in
      let k : n + length own + length r.sites ≡ n + length (own ++ r.sites) = let h = length-append own r.sites in omega arith in
      ap (λ z. own ++ z) (flat_law rest ops (with_operands v s) vs (n + length own) (at + 1)) ∙
      ap (λ z. own ++ (r.sites ++ z)) (moved ops (with_operands v r.last ∷ vs) _ _ (at + 1 + opcode_count rest) (at + (1 + opcode_count rest)) k (omega arith)) ∙ sym (append_assoc own r.sites (flat_sites P C ops (with_operands v r.last ∷ vs) (n + length (own ++ r.sites)) (at + (1 + opcode_count rest))))
  flat_law (Block t body rest) ops v vs n at =
      let own : List Site = block_sites P.func at n t in
      let w : Open Tag = opened false (result_from n t) in
      let b : Numbered = number P (among C (w ∷ v ∷ vs)) body (n + length own) (at + 1) fresh in
      let r : Numbered = number P (among C (v ∷ vs)) rest (n + length own + length b.sites) (at + opcode_count body + 2) (behind_block (P.free at) n t v.operands) in
      ap (λ z. own ++ z) (block_law body rest (flat_law body) (flat_law rest) ops w v vs (n + length own) (at + 1) (at + opcode_count body + 2) (omega arith) (behind_block (P.free at) n t v.operands) (behind_law (P.free at) n t v.operands) b r refl refl) ∙
      gathered own b.sites r.sites ops (with_operands v r.last ∷ vs) n (at + opcode_count body + 2 + opcode_count rest) (at + (opcode_count body + 2 + opcode_count rest)) (omega arith)
  flat_law (Loop t body rest) ops v vs n at =
      let own : List Site = block_sites P.func at n t in
      let w : Open Tag = opened true (result_from n t) in
      let b : Numbered = number P (among C (w ∷ v ∷ vs)) body (n + length own) (at + 1) fresh in
      let r : Numbered = number P (among C (v ∷ vs)) rest (n + length own + length b.sites) (at + opcode_count body + 2) (behind_block (P.free at) n t v.operands) in
      ap (λ z. own ++ z) (block_law body rest (flat_law body) (flat_law rest) ops w v vs (n + length own) (at + 1) (at + opcode_count body + 2) (omega arith) (behind_block (P.free at) n t v.operands) (behind_law (P.free at) n t v.operands) b r refl refl) ∙
      gathered own b.sites r.sites ops (with_operands v r.last ∷ vs) n (at + opcode_count body + 2 + opcode_count rest) (at + (opcode_count body + 2 + opcode_count rest)) (omega arith)
  flat_law (If t arm rest) ops v vs n at =
      let own : List Site = block_sites P.func at n t in
      let m : Operands Tag = unwrap_or (expect yes (i32 C) v.operands) fresh in
      let w : Open Tag = opened false (result_from n t) in
      let b : Numbered = number P (among C (w ∷ v ∷ vs)) arm (n + length own) (at + 1) fresh in
      let r : Numbered = number P (among C (v ∷ vs)) rest (n + length own + length b.sites) (at + opcode_count arm + 2) (behind_block (P.free at) n t m) in
      ap (λ z. own ++ z) (block_law arm rest (flat_law arm) (flat_law rest) ops w (with_operands v m) vs (n + length own) (at + 1) (at + opcode_count arm + 2) (omega arith) (behind_block (P.free at) n t m) (behind_law (P.free at) n t m) b r refl refl) ∙
      gathered own b.sites r.sites ops (with_operands v r.last ∷ vs) n (at + opcode_count arm + 2 + opcode_count rest) (at + (opcode_count arm + 2 + opcode_count rest)) (omega arith)
  flat_law (IfElse t arm other rest) ops v vs n at =
      let own : List Site = block_sites P.func at n t in
      let m : Operands Tag = unwrap_or (expect yes (i32 C) v.operands) fresh in
      let w : Open Tag = opened false (result_from n t) in
      let b : Numbered = number P (among C (w ∷ v ∷ vs)) arm (n + length own) (at + 1) fresh in
      let c : Numbered = number P (among C (w ∷ v ∷ vs)) other (n + length own + length b.sites) (at + opcode_count arm + 2) fresh in
      let r : Numbered = number P (among C (v ∷ vs)) rest (n + length own + length b.sites + length c.sites) (at + opcode_count arm + opcode_count other + 3) (behind_block (P.free at) n t m) in
      let X : List (Op A) = onto other (Closes ByEnd ∷ onto rest ops) in
      ap (λ z. own ++ z) (
      flat_law arm (Closes ByElse ∷ X) w (with_operands v m ∷ vs) (n + length own) (at + 1)
      ∙ ap (λ z. b.sites ++ z) (moved X (w ∷ with_operands v m ∷ vs) (n + length own + length b.sites + 0) (n + length own + length b.sites) (at + 1 + opcode_count arm + 1) (at + opcode_count arm + 2) (omega arith) (omega arith)
      ∙ block_law other rest (flat_law other) (flat_law rest) ops w (with_operands v m) vs (n + length own + length b.sites) (at + opcode_count arm + 2) (at + opcode_count arm + opcode_count other + 3) (omega arith) (behind_block (P.free at) n t m) (behind_law (P.free at) n t m) c r refl refl))
      ∙ gathered4 own b.sites c.sites r.sites ops (with_operands v r.last ∷ vs) n (at + opcode_count arm + opcode_count other + 3 + opcode_count rest) (at + (opcode_count arm + opcode_count other + 3 + opcode_count rest)) (omega arith)
    where
      gathered4 : (own b c r : List Site) (ops : List (Op A)) (vs : List (Open Tag)) (n at bt : ℕ) → at ≡ bt →
          own ++ (b ++ (c ++ (r ++ flat_sites P C ops vs (n + length own + length b + length c + length r) at))) ≡ (own ++ b ++ c ++ r) ++ flat_sites P C ops vs (n + length (own ++ b ++ c ++ r)) bt
      gathered4 own b c r ops vs n at bt f =
          let k : n + length own + length b + length c + length r ≡ n + length (own ++ b ++ c ++ r) = let h = length-append (own ++ b ++ c) r in let g = length-append (own ++ b) c in let i = length-append own b in omega arith in
          let Y : List Site = flat_sites P C ops vs (n + length (own ++ b ++ c ++ r)) bt in
          ap (λ z. own ++ (b ++ (c ++ (r ++ z)))) (moved ops vs _ _ at bt k f) ∙ sym (append_assoc own b (c ++ (r ++ Y))) ∙ sym (append_assoc (own ++ b) c (r ++ Y)) ∙ sym (append_assoc (own ++ b ++ c) r Y)
