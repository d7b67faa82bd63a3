-- The placed code over opcodes is the one over the tree.
use Rattle.std.proofs.Common.{◌≡◌, ℕ, ◌+◌, true, false, Bool, List, [], ◌∷◌, ◌++◌, length, flat_map, Option, Some, None, refl, sym, ◌∙◌, ap, append_assoc, arith, length-append}
use Rattle.std.specs.Prelude.{unwrap_or, option_map}
use Rattle.ctw_ops.specs.declared.types.Width.{Width}
use Rattle.ctw_ops.specs.declared.types.Label.{Label}
use Rattle.ctw_ops.specs.declared.types.Label.TheVariants.{Public, Secret}
use Rattle.ctw_ops.specs.Types.{ValueType, FunctionType}
use Rattle.ctw_ops.specs.Code.{Leaf, CallIndirect, Code, Stop, Then, Block, Loop, If, IfElse, Shape, OfBlock, OfLoop, OfIf, Op, Plain, Opens, Closes, ByEnd, ByElse, onto, opcodes}
use Rattle.ctw_ops.specs.TagMaps.{type_to, function_type_to, leaf_to}
use Rattle.ctw_ops.specs.Typing.{Context, optional, i32}
use Rattle.ctw_stack.specs.Operands.{Operands, fresh}
use Rattle.ctw_stack.specs.Steps.{expect, pushes}
use Rattle.ctw_labels.specs.declared.tag.Tag.{Tag}
use Rattle.ctw_labels.specs.Names.{Site}
use Rattle.ctw_labels.specs.Sited.{yes, lifted, Lift, Sited, Done, Does, Uses, Blocks, Loops, Ifs, IfElses, raised_from, raised, placed_code}
use Rattle.ctw_labels.specs.Numbering.{BodyPlace, opcode_count, result_from, after_lift, stepped, leaf_lift, leaf_sites, leaf_node, block_sites, block_lift, behind_block, Numbered, number}
use Rattle.ctw_stack.specs.Opens.{Open, opened, with_operands}
use Rattle.ctw_labels.specs.FlatSites.{among, result_lift}
use Rattle.ctw_labels.specs.Placed.{use_of, code_uses}
use Rattle.ctw_labels.proofs.FlatSiteLaws.{behind_law}
use Rattle.ctw_place.specs.Flat.{SitedOp, Doing, Using, Opening, Parting, Ending, sited_onto, sited_leaf_op, sited_ops, raise_ops, lift_ops, placed_ops, op_uses}

-- ---- by the tree

module _ {A : Type 0} (P : BodyPlace A) (C : Context Tag) where
  abbrev IsFlat : Code A → Type 0
  IsFlat c = (ops : List (Op A)) (v : Open Tag) (vs : List (Open Tag)) (es : List (Option (Lift Tag))) (n at : ℕ) → sited_ops P C (onto c ops) (v ∷ vs) es n at ≡
      sited_onto (number P (among C (v ∷ vs)) c n at v.operands).code (sited_ops P C ops (with_operands v (number P (among C (v ∷ vs)) c n at v.operands).last ∷ vs) es (n + length (number P (among C (v ∷ vs)) c n at v.operands).sites) (at + opcode_count c))

  moved : (ops : List (Op A)) (vs : List (Open Tag)) (es : List (Option (Lift Tag))) (n m at bt : ℕ) → n ≡ m → at ≡ bt → sited_ops P C ops vs es n at ≡ sited_ops P C ops vs es m bt
  moved ops vs es n m at bt e f = λ i. sited_ops P C ops vs es (e i) (f i)

  -- from inside a block to the end of what stands behind it
  block_law : (body rest : Code A) → IsFlat body → IsFlat rest → (ops : List (Op A)) (w v : Open Tag) (vs : List (Open Tag)) (l : Option (Lift Tag)) (es : List (Option (Lift Tag))) (n at bt : ℕ) → at + opcode_count body + 1 ≡ bt →
      (s : Operands Tag) → lifted (result_lift w.yields) (pushes (optional w.yields) v.operands) ≡ s → (b r : Numbered) → number P (among C (w ∷ v ∷ vs)) body n at w.operands ≡ b → number P (among C (v ∷ vs)) rest (n + length b.sites) bt s ≡ r →
      sited_ops P C (onto body (Closes ByEnd ∷ onto rest ops)) (w ∷ v ∷ vs) (l ∷ es) n at ≡ sited_onto b.code (Ending l ∷ sited_onto r.code (sited_ops P C ops (with_operands v r.last ∷ vs) es (n + length b.sites + length r.sites) (bt + opcode_count rest)))
  block_law body rest hb hr ops w v vs l es n at bt e s ee b r p q =
      let X : List (Op A) = onto rest ops in
      let s0 : Operands Tag = lifted (result_lift w.yields) (pushes (optional w.yields) v.operands) in
      let two : sited_ops P C (onto body (Closes ByEnd ∷ X)) (w ∷ v ∷ vs) (l ∷ es) n at ≡ sited_onto b.code (Ending l ∷ sited_ops P C X (with_operands v s ∷ vs) es (n + length b.sites + 0) (at + opcode_count body + 1)) =
      hb (Closes ByEnd ∷ X) w (v ∷ vs) (l ∷ es) n at ∙ ap (λ z. sited_onto z.code (Ending l ∷ sited_ops P C X (with_operands v s0 ∷ vs) es (n + length z.sites + 0) (at + opcode_count body + 1))) p
      ∙ ap (λ z. sited_onto b.code (Ending l ∷ sited_ops P C X (with_operands v z ∷ vs) es (n + length b.sites + 0) (at + opcode_count body + 1))) ee in
      let three : sited_ops P C X (with_operands v s ∷ vs) es (n + length b.sites + 0) (at + opcode_count body + 1) ≡ sited_ops P C X (with_operands v s ∷ vs) es (n + length b.sites) bt = moved X (with_operands v s ∷ vs) es (n + length b.sites + 0) (n + length b.sites) (at + opcode_count body + 1) bt (omega arith) e in
      let four : sited_ops P C X (with_operands v s ∷ vs) es (n + length b.sites) bt ≡ sited_onto r.code (sited_ops P C ops (with_operands v r.last ∷ vs) es (n + length b.sites + length r.sites) (bt + opcode_count rest)) =
      hr ops (with_operands v s) vs es (n + length b.sites) bt ∙ ap (λ z. sited_onto z.code (sited_ops P C ops (with_operands v z.last ∷ vs) es (n + length b.sites + length z.sites) (bt + opcode_count rest))) q in
      two ∙ ap (λ z. sited_onto b.code (Ending l ∷ z)) (three ∙ four)

  -- the numbers behind a block
  numbers3 : (n : ℕ) (own b r : List Site) → n + length own + length b + length r ≡ n + length (own ++ b ++ r)
  numbers3 n own b r = let h = length-append (own ++ b) r in let g = length-append own b in omega arith

  numbers4 : (n : ℕ) (own b c r : List Site) → n + length own + length b + length c + length r ≡ n + length (own ++ b ++ c ++ r)
  numbers4 n own b c r = let h = length-append (own ++ b ++ c) r in let g = length-append (own ++ b) c in let i = length-append own b in omega arith

  leaf_law : (D : Context Tag) (n : ℕ) (i : Leaf A) (l : Option (Lift Tag)) (rest : Sited Tag) (ops : List (SitedOp Tag)) → sited_leaf_op P D n i l ∷ sited_onto rest ops ≡ sited_onto (leaf_node P D n i l rest) ops
  leaf_law D n (CallIndirect y) l rest ops = refl
  leaf_law D n i l rest ops = refl

  pub sited_law : (c : Code A) → IsFlat c
  sited_law Stop ops v vs es n at = moved ops (v ∷ vs) es n (n + 0) at (at + 0) (omega arith) (omega arith)
  sited_law (Then i rest) ops v vs es n at =
      let D : Context Tag = among C (v ∷ vs) in
      let l : Option (Lift Tag) = leaf_lift P D n at i v.operands in
      let own : List Site = leaf_sites P D n at i v.operands in
      let s : Operands Tag = after_lift l (stepped P D n i v.operands) in
      let r : Numbered = number P D rest (n + length own) (at + 1) s in
      let k : n + length own + length r.sites ≡ n + length (own ++ r.sites) = let h = length-append own r.sites in omega arith in
      ap (λ z. sited_leaf_op P D n i l ∷ z) (sited_law rest ops (with_operands v s) vs es (n + length own) (at + 1))
      ∙ ap (λ z. sited_leaf_op P D n i l ∷ sited_onto r.code z) (moved ops (with_operands v r.last ∷ vs) es _ _ (at + 1 + opcode_count rest) (at + (1 + opcode_count rest)) k (omega arith))
      ∙ leaf_law D n i l r.code (sited_ops P C ops (with_operands v r.last ∷ vs) es (n + length (own ++ r.sites)) (at + (1 + opcode_count rest)))
  sited_law (Block t body rest) ops v vs es n at =
      let own : List Site = block_sites P.func at n t in
      let w : Open Tag = opened false (result_from n t) in
      let b : Numbered = number P (among C (w ∷ v ∷ vs)) body (n + length own) (at + 1) fresh in
      let r : Numbered = number P (among C (v ∷ vs)) rest (n + length own + length b.sites) (at + opcode_count body + 2) (behind_block (P.free at) n t v.operands) in
      ap (λ z. Opening OfBlock (result_from n t) ∷ z) (
      block_law body rest (sited_law body) (sited_law rest) ops w v vs (block_lift (P.free at) n t) es (n + length own) (at + 1) (at + opcode_count body + 2) (omega arith) (behind_block (P.free at) n t v.operands) (behind_law (P.free at) n t v.operands) b r refl refl
      ∙ ap (λ z. sited_onto b.code (Ending (block_lift (P.free at) n t) ∷ sited_onto r.code z)) (moved ops (with_operands v r.last ∷ vs) es _ _ (at + opcode_count body + 2 + opcode_count rest) (at + (opcode_count body + 2 + opcode_count rest)) (numbers3 n own b.sites r.sites) (omega arith)))
  sited_law (Loop t body rest) ops v vs es n at =
      let own : List Site = block_sites P.func at n t in
      let w : Open Tag = opened true (result_from n t) in
      let b : Numbered = number P (among C (w ∷ v ∷ vs)) body (n + length own) (at + 1) fresh in
      let r : Numbered = number P (among C (v ∷ vs)) rest (n + length own + length b.sites) (at + opcode_count body + 2) (behind_block (P.free at) n t v.operands) in
      ap (λ z. Opening OfLoop (result_from n t) ∷ z) (
      block_law body rest (sited_law body) (sited_law rest) ops w v vs (block_lift (P.free at) n t) es (n + length own) (at + 1) (at + opcode_count body + 2) (omega arith) (behind_block (P.free at) n t v.operands) (behind_law (P.free at) n t v.operands) b r refl refl
      ∙ ap (λ z. sited_onto b.code (Ending (block_lift (P.free at) n t) ∷ sited_onto r.code z)) (moved ops (with_operands v r.last ∷ vs) es _ _ (at + opcode_count body + 2 + opcode_count rest) (at + (opcode_count body + 2 + opcode_count rest)) (numbers3 n own b.sites r.sites) (omega arith)))
  sited_law (If t arm rest) ops v vs es n at =
      let own : List Site = block_sites P.func at n t in
      let m : Operands Tag = unwrap_or (expect yes (i32 C) v.operands) fresh in
      let w : Open Tag = opened false (result_from n t) in
      let b : Numbered = number P (among C (w ∷ v ∷ vs)) arm (n + length own) (at + 1) fresh in
      let r : Numbered = number P (among C (v ∷ vs)) rest (n + length own + length b.sites) (at + opcode_count arm + 2) (behind_block (P.free at) n t m) in
      ap (λ z. Opening OfIf (result_from n t) ∷ z) (
      block_law arm rest (sited_law arm) (sited_law rest) ops w (with_operands v m) vs (block_lift (P.free at) n t) es (n + length own) (at + 1) (at + opcode_count arm + 2) (omega arith) (behind_block (P.free at) n t m) (behind_law (P.free at) n t m) b r refl refl
      ∙ ap (λ z. sited_onto b.code (Ending (block_lift (P.free at) n t) ∷ sited_onto r.code z)) (moved ops (with_operands v r.last ∷ vs) es _ _ (at + opcode_count arm + 2 + opcode_count rest) (at + (opcode_count arm + 2 + opcode_count rest)) (numbers3 n own b.sites r.sites) (omega arith)))
  sited_law (IfElse t arm other rest) ops v vs es n at =
      let own : List Site = block_sites P.func at n t in
      let m : Operands Tag = unwrap_or (expect yes (i32 C) v.operands) fresh in
      let w : Open Tag = opened false (result_from n t) in
      let l : Option (Lift Tag) = block_lift (P.free at) n t in
      let b : Numbered = number P (among C (w ∷ v ∷ vs)) arm (n + length own) (at + 1) fresh in
      let c : Numbered = number P (among C (w ∷ v ∷ vs)) other (n + length own + length b.sites) (at + opcode_count arm + 2) fresh in
      let r : Numbered = number P (among C (v ∷ vs)) rest (n + length own + length b.sites + length c.sites) (at + opcode_count arm + opcode_count other + 3) (behind_block (P.free at) n t m) in
      let X : List (Op A) = onto other (Closes ByEnd ∷ onto rest ops) in
      ap (λ z. Opening OfIf (result_from n t) ∷ z) (
      sited_law arm (Closes ByElse ∷ X) w (with_operands v m ∷ vs) (l ∷ es) (n + length own) (at + 1)
      ∙ ap (λ z. sited_onto b.code (Parting ∷ z)) (moved X (w ∷ with_operands v m ∷ vs) (l ∷ es) (n + length own + length b.sites + 0) (n + length own + length b.sites) (at + 1 + opcode_count arm + 1) (at + opcode_count arm + 2) (omega arith) (omega arith)
      ∙ block_law other rest (sited_law other) (sited_law rest) ops w (with_operands v m) vs l es (n + length own + length b.sites) (at + opcode_count arm + 2) (at + opcode_count arm + opcode_count other + 3) (omega arith) (behind_block (P.free at) n t m) (behind_law (P.free at) n t m) c r refl refl
      ∙ ap (λ z. sited_onto c.code (Ending l ∷ sited_onto r.code z)) (moved ops (with_operands v r.last ∷ vs) es _ _ (at + opcode_count arm + opcode_count other + 3 + opcode_count rest) (at + (opcode_count arm + opcode_count other + 3 + opcode_count rest)) (numbers4 n own b.sites c.sites r.sites) (omega arith))))

  -- a whole body
  own_labels : C.labels ≡ C.result ∷ [] → among C (opened false C.result ∷ []) ≡ C
  own_labels e = λ i. record C { labels = sym e i }

  pub body_sited : C.labels ≡ C.result ∷ [] → (c : Code A) (n : ℕ) → sited_ops P C (opcodes c) (opened false C.result ∷ []) (None ∷ []) n 0 ≡ sited_onto (number P C c n 0 fresh).code (Ending None ∷ [])
  body_sited own c n =
      sited_law c (Closes ByEnd ∷ []) (opened false C.result) [] (None ∷ []) n 0
      ∙ ap (λ z. sited_onto (number P z c n 0 fresh).code (Ending None ∷ [])) (own_labels own)

-- ---- under labels

module _ {S : Type 0} (L : S → Label) (name : ℕ → FunctionType Label → ℕ) where
  raise_onto : (a b : Label) (free : Bool) (w : Width) (c : Code Label) (ops : List (Op Label)) → raise_ops a b free w ++ onto c ops ≡ onto (raised_from a b free w c) ops
  raise_onto Public Secret free w c ops = refl
  raise_onto Public Public free w c ops = refl
  raise_onto Secret Secret free w c ops = refl
  raise_onto Secret Public true w c ops = refl
  raise_onto Secret Public false w c ops = refl

  pub lift_onto : (l : Option (Lift S)) (c : Code Label) (ops : List (Op Label)) → lift_ops L l ++ onto c ops ≡ onto (raised L l c) ops
  lift_onto None c ops = refl
  lift_onto (Some l) c ops = raise_onto (L l.source) (L l.target) l.free l.width c ops

  abbrev all : List (SitedOp S) → List (Op Label)
  all ops = flat_map (placed_ops L name) ops

  -- from the `end` of a block on
  ended_onto : (l : Option (Lift S)) (rest : Sited S) (ops : List (SitedOp S)) → all (sited_onto rest ops) ≡ onto (placed_code L name rest) (all ops)
      → all (Ending l ∷ sited_onto rest ops) ≡ Closes ByEnd ∷ onto (raised L l (placed_code L name rest)) (all ops)
  ended_onto l rest ops h = ap (λ z. Closes ByEnd ∷ (lift_ops L l ++ z)) h ∙ ap (λ z. Closes ByEnd ∷ z) (lift_onto l (placed_code L name rest) (all ops))

  opened_onto : (shape : Shape) (t : Option (ValueType S)) (l : Option (Lift S)) (body rest : Sited S) (ops : List (SitedOp S))
      → all (sited_onto body (Ending l ∷ sited_onto rest ops)) ≡ onto (placed_code L name body) (all (Ending l ∷ sited_onto rest ops)) → all (sited_onto rest ops) ≡ onto (placed_code L name rest) (all ops)
      → all (Opening shape t ∷ sited_onto body (Ending l ∷ sited_onto rest ops)) ≡ Opens shape (option_map (type_to L) t) ∷ onto (placed_code L name body) (Closes ByEnd ∷ onto (raised L l (placed_code L name rest)) (all ops))
  opened_onto shape t l body rest ops h k = ap (λ z. Opens shape (option_map (type_to L) t) ∷ z) (h ∙ ap (onto (placed_code L name body)) (ended_onto l rest ops k))

  pub placed_onto : (s : Sited S) (ops : List (SitedOp S)) → all (sited_onto s ops) ≡ onto (placed_code L name s) (all ops)
  placed_onto Done ops = refl
  placed_onto (Does i l rest) ops = ap (λ z. placed_ops L name (Doing i l) ++ z) (placed_onto rest ops) ∙ ap (λ z. Plain (leaf_to L i) ∷ z) (lift_onto l (placed_code L name rest) (all ops))
  placed_onto (Uses y g l rest) ops =
      ap (λ z. placed_ops L name (Using y g l) ++ z) (placed_onto rest ops)
      ∙ ap (λ z. Plain (CallIndirect (name y (function_type_to L g))) ∷ z) (lift_onto l (placed_code L name rest) (all ops))
  placed_onto (Blocks t l body rest) ops = opened_onto OfBlock t l body rest ops (placed_onto body (Ending l ∷ sited_onto rest ops)) (placed_onto rest ops)
  placed_onto (Loops t l body rest) ops = opened_onto OfLoop t l body rest ops (placed_onto body (Ending l ∷ sited_onto rest ops)) (placed_onto rest ops)
  placed_onto (Ifs t l arm rest) ops = opened_onto OfIf t l arm rest ops (placed_onto arm (Ending l ∷ sited_onto rest ops)) (placed_onto rest ops)
  placed_onto (IfElses t l arm other rest) ops =
      ap (λ z. Opens OfIf (option_map (type_to L) t) ∷ z) (placed_onto arm (Parting ∷ sited_onto other (Ending l ∷ sited_onto rest ops))
      ∙ ap (λ z. onto (placed_code L name arm) (Closes ByElse ∷ z)) (placed_onto other (Ending l ∷ sited_onto rest ops) ∙ ap (onto (placed_code L name other)) (ended_onto l rest ops (placed_onto rest ops))))

-- the uses of types
pub uses_onto : {S : Type 0} (s : Sited S) (ops : List (SitedOp S)) → flat_map op_uses (sited_onto s ops) ≡ code_uses s ++ flat_map op_uses ops
uses_onto Done ops = refl
uses_onto (Does i l rest) ops = uses_onto rest ops
uses_onto (Uses y g l rest) ops = ap (λ z. use_of y g ∷ z) (uses_onto rest ops)
uses_onto (Blocks t l body rest) ops = uses_onto body (Ending l ∷ sited_onto rest ops) ∙ ap (λ z. code_uses body ++ z) (uses_onto rest ops) ∙ sym (append_assoc (code_uses body) (code_uses rest) (flat_map op_uses ops))
uses_onto (Loops t l body rest) ops = uses_onto body (Ending l ∷ sited_onto rest ops) ∙ ap (λ z. code_uses body ++ z) (uses_onto rest ops) ∙ sym (append_assoc (code_uses body) (code_uses rest) (flat_map op_uses ops))
uses_onto (Ifs t l arm rest) ops = uses_onto arm (Ending l ∷ sited_onto rest ops) ∙ ap (λ z. code_uses arm ++ z) (uses_onto rest ops) ∙ sym (append_assoc (code_uses arm) (code_uses rest) (flat_map op_uses ops))
uses_onto (IfElses t l arm other rest) ops =
    uses_onto arm (Parting ∷ sited_onto other (Ending l ∷ sited_onto rest ops))
    ∙ ap (λ z. code_uses arm ++ z) (uses_onto other (Ending l ∷ sited_onto rest ops) ∙ ap (λ z. code_uses other ++ z) (uses_onto rest ops) ∙ sym (append_assoc (code_uses other) (code_uses rest) (flat_map op_uses ops)))
    ∙ sym (append_assoc (code_uses arm) (code_uses other ++ code_uses rest) (flat_map op_uses ops))
