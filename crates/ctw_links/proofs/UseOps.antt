-- The indirect calls over opcodes are those over the tree.
use Rattle.std.proofs.Common.{◌≡◌, ℕ, ◌+◌, Bool, false, true, List, [], ◌∷◌, ◌++◌, length, Option, refl, sym, ◌∙◌, ap, append_assoc, arith, length-append}
use Rattle.std.specs.Prelude.{unwrap_or}
use Rattle.std.proofs.lemmas.List.{map-append, append-nil}
use Rattle.ctw_ops.specs.Types.{ValueType, FunctionType}
use Rattle.ctw_ops.specs.Code.{Leaf, CallIndirect, Code, Stop, Then, Block, Loop, If, IfElse, Op, Plain, Closes, ByEnd, ByElse, onto, opcodes}
use Rattle.ctw_ops.specs.Typing.{Context, optional, i32}
use Rattle.ctw_stack.specs.Operands.{Operands, fresh}
use Rattle.ctw_stack.specs.Steps.{expect, pushes}
use Rattle.ctw_stack.specs.Opens.{Open, opened, with_operands}
use Rattle.ctw_labels.specs.declared.tag.Tag.{Tag}
use Rattle.ctw_labels.specs.Names.{Site}
use Rattle.ctw_labels.specs.Sited.{yes, Lift, Sited, lifted}
use Rattle.ctw_labels.specs.Numbering.{BodyPlace, opcode_count, result_from, after_lift, stepped, leaf_lift, leaf_sites, leaf_node, block_sites, behind_block, Numbered, number}
use Rattle.ctw_labels.specs.FlatSites.{among, result_lift}
use Rattle.ctw_labels.specs.ModuleLinks.{uses}
use Rattle.ctw_labels.proofs.FlatSiteLaws.{behind_law}
use Rattle.ctw_links.specs.declared.user.User.{User}
use Rattle.ctw_links.specs.Uses.{op_users, flat_users, type_of_user, types_of_users}

node_uses : {A : Type 0} (P : BodyPlace A) (C : Context Tag) (n : ℕ) (i : Leaf A) (l : Option (Lift Tag)) (rest : Sited Tag) → types_of_users P.types (op_users n (Plain i)) ++ uses rest ≡ uses (leaf_node P C n i l rest)
node_uses P C n (CallIndirect y) l rest = refl
node_uses P C n _ l rest = refl

module _ {A : Type 0} (P : BodyPlace A) (C : Context Tag) where
  -- the types of the indirect calls of opcodes
  abbrev over : List (Op A) → List (Open Tag) → ℕ → ℕ → List (FunctionType Tag)
  over ops vs n at = types_of_users P.types (flat_users P C ops vs n at)

  abbrev IsFlat : Code A → Type 0
  IsFlat c = (ops : List (Op A)) (v : Open Tag) (vs : List (Open Tag)) (n at : ℕ) → over (onto c ops) (v ∷ vs) n at ≡
      uses (number P (among C (v ∷ vs)) c n at v.operands).code ++ over ops (with_operands v (number P (among C (v ∷ vs)) c n at v.operands).last ∷ vs) (n + length (number P (among C (v ∷ vs)) c n at v.operands).sites) (at + opcode_count c)

  moved : (ops : List (Op A)) (vs : List (Open Tag)) (n m at bt : ℕ) → n ≡ m → at ≡ bt → over ops vs n at ≡ over ops vs m bt
  moved ops vs n m at bt e f = λ i. over ops vs (e i) (f i)

  -- from inside a block to the end of what stands behind it
  block_law : (body rest : Code A) → IsFlat body → IsFlat rest → (ops : List (Op A)) (w v : Open Tag) (vs : List (Open Tag)) (n at bt : ℕ) → at + opcode_count body + 1 ≡ bt →
      (s : Operands Tag) → lifted (result_lift w.yields) (pushes (optional w.yields) v.operands) ≡ s → (b r : Numbered) → number P (among C (w ∷ v ∷ vs)) body n at w.operands ≡ b → number P (among C (v ∷ vs)) rest (n + length b.sites) bt s ≡ r →
      over (onto body (Closes ByEnd ∷ onto rest ops)) (w ∷ v ∷ vs) n at ≡ uses b.code ++ (uses r.code ++ over ops (with_operands v r.last ∷ vs) (n + length b.sites + length r.sites) (bt + opcode_count rest))
  block_law body rest hb hr ops w v vs n at bt e s es b r p q =
      let X : List (Op A) = onto rest ops in
      let s0 : Operands Tag = lifted (result_lift w.yields) (pushes (optional w.yields) v.operands) in
      let two : over (onto body (Closes ByEnd ∷ X)) (w ∷ v ∷ vs) n at ≡ uses b.code ++ over X (with_operands v s ∷ vs) (n + length b.sites + 0) (at + opcode_count body + 1) =
      hb (Closes ByEnd ∷ X) w (v ∷ vs) n at ∙ ap (λ z. uses z.code ++ over X (with_operands v s0 ∷ vs) (n + length z.sites + 0) (at + opcode_count body + 1)) p ∙ ap (λ z. uses b.code ++ over X (with_operands v z ∷ vs) (n + length b.sites + 0) (at + opcode_count body + 1)) es in
      let three : over X (with_operands v s ∷ vs) (n + length b.sites + 0) (at + opcode_count body + 1) ≡ over X (with_operands v s ∷ vs) (n + length b.sites) bt = moved X (with_operands v s ∷ vs) (n + length b.sites + 0) (n + length b.sites) (at + opcode_count body + 1) bt (omega arith) e in
      let four : over X (with_operands v s ∷ vs) (n + length b.sites) bt ≡ uses r.code ++ over ops (with_operands v r.last ∷ vs) (n + length b.sites + length r.sites) (bt + opcode_count rest) =
      hr ops (with_operands v s) vs (n + length b.sites) bt ∙ ap (λ z. uses z.code ++ over ops (with_operands v z.last ∷ vs) (n + length b.sites + length z.sites) (bt + opcode_count rest)) q in
      two ∙ ap (λ z. uses b.code ++ z) (three ∙ four)

  -- those of a block, and then those behind it
  gathered : (x y : List (FunctionType Tag)) (own b r : List Site) (ops : List (Op A)) (vs : List (Open Tag)) (n at bt : ℕ) → at ≡ bt →
      x ++ (y ++ over ops vs (n + length own + length b + length r) at) ≡ (x ++ y) ++ over ops vs (n + length (own ++ b ++ r)) bt
  gathered x y own b r ops vs n at bt f =
      let k : n + length own + length b + length r ≡ n + length (own ++ b ++ r) = let h = length-append (own ++ b) r in let g = length-append own b in omega arith in
      ap (λ z. x ++ (y ++ z)) (moved ops vs _ _ at bt k f) ∙ sym (append_assoc x y (over ops vs (n + length (own ++ b ++ r)) bt))

  pub flat_law : (c : Code A) → IsFlat c
  flat_law Stop ops v vs n at = moved ops (v ∷ vs) n (n + 0) at (at + 0) (omega arith) (omega arith)
  flat_law (Then i rest) ops v vs n at =
      let D : Context Tag = among C (v ∷ vs) in
      let own : List Site = leaf_sites P D n at i v.operands in
      let l : Option (Lift Tag) = leaf_lift P D n at i v.operands in
      let s : Operands Tag = after_lift l (stepped P D n i v.operands) in
      let r : Numbered = number P D rest (n + length own) (at + 1) s in
      let k : n + length own + length r.sites ≡ n + length (own ++ r.sites) = let h = length-append own r.sites in omega arith in
      let mine : List (FunctionType Tag) = types_of_users P.types (op_users n (Plain i)) in
      let Y : List (FunctionType Tag) = over ops (with_operands v r.last ∷ vs) (n + length (own ++ r.sites)) (at + (1 + opcode_count rest)) in
      map-append (type_of_user P.types) (op_users n (Plain i)) (flat_users P C (onto rest ops) (with_operands v s ∷ vs) (n + length own) (at + 1))
      ∙ ap (λ z. mine ++ z) (flat_law rest ops (with_operands v s) vs (n + length own) (at + 1) ∙ ap (λ z. uses r.code ++ z) (moved ops (with_operands v r.last ∷ vs) _ _ (at + 1 + opcode_count rest) (at + (1 + opcode_count rest)) k (omega arith)))
      ∙ sym (append_assoc mine (uses r.code) Y) ∙ ap (λ z. z ++ Y) (node_uses P D n i l r.code)
  flat_law (Block t body rest) ops v vs n at =
      let own : List Site = block_sites P.func at n t in
      let w : Open Tag = opened false (result_from n t) in
      let b : Numbered = number P (among C (w ∷ v ∷ vs)) body (n + length own) (at + 1) fresh in
      let r : Numbered = number P (among C (v ∷ vs)) rest (n + length own + length b.sites) (at + opcode_count body + 2) (behind_block (P.free at) n t v.operands) in
      block_law body rest (flat_law body) (flat_law rest) ops w v vs (n + length own) (at + 1) (at + opcode_count body + 2) (omega arith) (behind_block (P.free at) n t v.operands) (behind_law (P.free at) n t v.operands) b r refl refl
      ∙ gathered (uses b.code) (uses r.code) own b.sites r.sites ops (with_operands v r.last ∷ vs) n (at + opcode_count body + 2 + opcode_count rest) (at + (opcode_count body + 2 + opcode_count rest)) (omega arith)
  flat_law (Loop t body rest) ops v vs n at =
      let own : List Site = block_sites P.func at n t in
      let w : Open Tag = opened true (result_from n t) in
      let b : Numbered = number P (among C (w ∷ v ∷ vs)) body (n + length own) (at + 1) fresh in
      let r : Numbered = number P (among C (v ∷ vs)) rest (n + length own + length b.sites) (at + opcode_count body + 2) (behind_block (P.free at) n t v.operands) in
      block_law body rest (flat_law body) (flat_law rest) ops w v vs (n + length own) (at + 1) (at + opcode_count body + 2) (omega arith) (behind_block (P.free at) n t v.operands) (behind_law (P.free at) n t v.operands) b r refl refl
      ∙ gathered (uses b.code) (uses r.code) own b.sites r.sites ops (with_operands v r.last ∷ vs) n (at + opcode_count body + 2 + opcode_count rest) (at + (opcode_count body + 2 + opcode_count rest)) (omega arith)
  flat_law (If t arm rest) ops v vs n at =
      let own : List Site = block_sites P.func at n t in
      let m : Operands Tag = unwrap_or (expect yes (i32 C) v.operands) fresh in
      let w : Open Tag = opened false (result_from n t) in
      let b : Numbered = number P (among C (w ∷ v ∷ vs)) arm (n + length own) (at + 1) fresh in
      let r : Numbered = number P (among C (v ∷ vs)) rest (n + length own + length b.sites) (at + opcode_count arm + 2) (behind_block (P.free at) n t m) in
      block_law arm rest (flat_law arm) (flat_law rest) ops w (with_operands v m) vs (n + length own) (at + 1) (at + opcode_count arm + 2) (omega arith) (behind_block (P.free at) n t m) (behind_law (P.free at) n t m) b r refl refl
      ∙ gathered (uses b.code) (uses r.code) own b.sites r.sites ops (with_operands v r.last ∷ vs) n (at + opcode_count arm + 2 + opcode_count rest) (at + (opcode_count arm + 2 + opcode_count rest)) (omega arith)
  flat_law (IfElse t arm other rest) ops v vs n at =
      let own : List Site = block_sites P.func at n t in
      let m : Operands Tag = unwrap_or (expect yes (i32 C) v.operands) fresh in
      let w : Open Tag = opened false (result_from n t) in
      let b : Numbered = number P (among C (w ∷ v ∷ vs)) arm (n + length own) (at + 1) fresh in
      let c : Numbered = number P (among C (w ∷ v ∷ vs)) other (n + length own + length b.sites) (at + opcode_count arm + 2) fresh in
      let r : Numbered = number P (among C (v ∷ vs)) rest (n + length own + length b.sites + length c.sites) (at + opcode_count arm + opcode_count other + 3) (behind_block (P.free at) n t m) in
      let X : List (Op A) = onto other (Closes ByEnd ∷ onto rest ops) in
      flat_law arm (Closes ByElse ∷ X) w (with_operands v m ∷ vs) (n + length own) (at + 1)
      ∙ ap (λ z. uses b.code ++ z) (moved X (w ∷ with_operands v m ∷ vs) (n + length own + length b.sites + 0) (n + length own + length b.sites) (at + 1 + opcode_count arm + 1) (at + opcode_count arm + 2) (omega arith) (omega arith)
      ∙ block_law other rest (flat_law other) (flat_law rest) ops w (with_operands v m) vs (n + length own + length b.sites) (at + opcode_count arm + 2) (at + opcode_count arm + opcode_count other + 3) (omega arith) (behind_block (P.free at) n t m) (behind_law (P.free at) n t m) c r refl refl)
      ∙ gathered4 (uses b.code) (uses c.code) (uses r.code) own b.sites c.sites r.sites ops (with_operands v r.last ∷ vs) n (at + opcode_count arm + opcode_count other + 3 + opcode_count rest) (at + (opcode_count arm + opcode_count other + 3 + opcode_count rest)) (omega arith)
    where
      gathered4 : (x y z : List (FunctionType Tag)) (own b c r : List Site) (ops : List (Op A)) (vs : List (Open Tag)) (n at bt : ℕ) → at ≡ bt →
          x ++ (y ++ (z ++ over ops vs (n + length own + length b + length c + length r) at)) ≡ (x ++ (y ++ z)) ++ over ops vs (n + length (own ++ b ++ c ++ r)) bt
      gathered4 x y z own b c r ops vs n at bt f =
          let k : n + length own + length b + length c + length r ≡ n + length (own ++ b ++ c ++ r) = let h = length-append (own ++ b ++ c) r in let g = length-append (own ++ b) c in let i = length-append own b in omega arith in
          let Y : List (FunctionType Tag) = over ops vs (n + length (own ++ b ++ c ++ r)) bt in
          ap (λ u. x ++ (y ++ (z ++ u))) (moved ops vs _ _ at bt k f) ∙ ap (λ u. x ++ u) (sym (append_assoc y z Y)) ∙ sym (append_assoc x (y ++ z) Y)

own_labels : (C : Context Tag) → C.labels ≡ C.result ∷ [] → among C (opened false C.result ∷ []) ≡ C
own_labels C e = λ i. record C { labels = sym e i }

-- those of a whole body
pub body_users_flat : {A : Type 0} (P : BodyPlace A) (C : Context Tag) → C.labels ≡ C.result ∷ [] → (code : Code A) (n : ℕ) → types_of_users P.types (flat_users P C (opcodes code) (opened false C.result ∷ []) n 0) ≡ uses (number P C code n 0 fresh).code
body_users_flat P C own code n =
    flat_law P C code (Closes ByEnd ∷ []) (opened false C.result) [] n 0
    ∙ append-nil (uses (number P (among C (opened false C.result ∷ [])) code n 0 fresh).code)
    ∙ ap (λ z. uses (number P z code n 0 fresh).code) (own_labels C own)
