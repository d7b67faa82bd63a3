-- Where the collector gets through a body's tree, the pass without tests gets past its opcodes.
use Rattle.std.proofs.Common.{◌≡◌, ℕ, ◌+◌, true, false, Bool, List, [], ◌∷◌, ◌++◌, length, Option, Some, None, refl, sym, subst, arith, length-append}
use Rattle.std.specs.Prelude.{unwrap_or, is_none, IsSome}
use Rattle.ctw_ops.specs.Types.{ValueType}
use Rattle.ctw_ops.specs.Code.{Leaf, CallIndirect, Code, Stop, Then, Block, Loop, If, IfElse, Op, Closes, ByEnd, ByElse, onto, opcodes}
use Rattle.ctw_ops.specs.Typing.{Context, optional, i32}
use Rattle.ctw_ops.specs.Segments.{and_then}
use Rattle.ctw_stack.specs.Operands.{Operands, fresh}
use Rattle.ctw_stack.specs.Steps.{when, expect, pushes}
use Rattle.ctw_stack.proofs.TreePass.{closes}
use Rattle.ctw_labels.specs.Names.{Tag, Site}
use Rattle.ctw_labels.specs.Sited.{yes, Lift, Sited, lifted}
use Rattle.ctw_labels.specs.Numbering.{BodyPlace, opcode_count, result_from, after_lift, stepped, leaf_lift, leaf_sites, leaf_node, block_sites, behind_block, Numbered, number}
use Rattle.ctw_stack.specs.Opens.{Open, opened, with_operands}
use Rattle.ctw_labels.specs.FlatSites.{among, result_lift, Goes}
use Rattle.ctw_labels.proofs.Walk.{walk}
use Rattle.ctw_labels.proofs.FlatSiteLaws.{behind_law}

when_some : {X : Type 0} (c : Bool) (o : Option X) → IsSome (when c o) → (c ≡ true) × IsSome o
when_some true o e = (refl, e)
when_some false o e = cc

closes_some : (t : Option (ValueType Tag)) (o : Option (Operands Tag)) → closes yes t o ≡ true → IsSome o
closes_some t None e = cc
closes_some t (Some m) e = refl

then_some : (o : Option (Operands Tag)) (f : Operands Tag → Option (Operands Tag)) → IsSome (and_then o f) → IsSome o × IsSome (f (unwrap_or o fresh))
then_some None f e = cc
then_some (Some m) f e = (refl, e)

lift_some : (l : Option (Lift Tag)) (o : Option (Operands Tag)) (f : Operands Tag → Option (Operands Tag)) → IsSome (and_then o (λ m. f (lifted l m))) → IsSome o × IsSome (f (after_lift l o))
lift_some l None f e = cc
lift_some l (Some m) f e = (refl, e)

module _ {A : Type 0} (P : BodyPlace A) (C : Context Tag) where
  node_some : (D : Context Tag) (n : ℕ) (i : Leaf A) (l : Option (Lift Tag)) (rest : Sited Tag) (o : Operands Tag) → IsSome (walk D (leaf_node P D n i l rest) o) → IsSome (stepped P D n i o) × IsSome (walk D rest (after_lift l (stepped P D n i o)))
  node_some D n (CallIndirect y) l rest o e = lift_some l (stepped P D n (CallIndirect y) o) (walk D rest) e
  node_some D n i l rest o e = lift_some l (stepped P D n i o) (walk D rest) e

  abbrev IsGoing : Code A → Type 0
  IsGoing c = (ops : List (Op A)) (v : Open Tag) (vs : List (Open Tag)) (n at : ℕ)
      → IsSome (walk (among C (v ∷ vs)) (number P (among C (v ∷ vs)) c n at v.operands).code v.operands)
      → Goes P C ops (with_operands v (number P (among C (v ∷ vs)) c n at v.operands).last ∷ vs) (n + length (number P (among C (v ∷ vs)) c n at v.operands).sites) (at + opcode_count c)
      → Goes P C (onto c ops) (v ∷ vs) n at

  moved : (ops : List (Op A)) (vs : List (Open Tag)) (n m at bt : ℕ) → n ≡ m → at ≡ bt → Goes P C ops vs n at → Goes P C ops vs m bt
  moved ops vs n m at bt e f g = subst (λ z. Goes P C ops vs z bt) e (subst (λ z. Goes P C ops vs n z) f g)

  block_goes : (body rest : Code A) → IsGoing body → IsGoing rest → (ops : List (Op A)) (w v : Open Tag) (vs : List (Open Tag)) (n at bt : ℕ) → at + opcode_count body + 1 ≡ bt →
      (s : Operands Tag) → lifted (result_lift w.yields) (pushes (optional w.yields) v.operands) ≡ s
      → IsSome (walk (among C (w ∷ v ∷ vs)) (number P (among C (w ∷ v ∷ vs)) body n at w.operands).code w.operands)
      → IsSome (walk (among C (v ∷ vs)) (number P (among C (v ∷ vs)) rest (n + length (number P (among C (w ∷ v ∷ vs)) body n at w.operands).sites) bt s).code s)
      → Goes P C ops (with_operands v (number P (among C (v ∷ vs)) rest (n + length (number P (among C (w ∷ v ∷ vs)) body n at w.operands).sites) bt s).last ∷ vs)
      (n + length (number P (among C (w ∷ v ∷ vs)) body n at w.operands).sites + length (number P (among C (v ∷ vs)) rest (n + length (number P (among C (w ∷ v ∷ vs)) body n at w.operands).sites) bt s).sites) (bt + opcode_count rest)
      → Goes P C (onto body (Closes ByEnd ∷ onto rest ops)) (w ∷ v ∷ vs) n at
  block_goes body rest hb hr ops w v vs n at bt e s es x y g =
      let X : List (Op A) = onto rest ops in
      let k : ℕ = n + length (number P (among C (w ∷ v ∷ vs)) body n at w.operands).sites in
      let inner : Goes P C X (with_operands v s ∷ vs) k bt = hr ops (with_operands v s) vs k bt y g in
      let back : Goes P C X (with_operands v s ∷ vs) (k + 0) (at + opcode_count body + 1) = moved X (with_operands v s ∷ vs) k (k + 0) bt (at + opcode_count body + 1) (omega arith) (sym e) inner in
      hb (Closes ByEnd ∷ X) w (v ∷ vs) n at x (tt, subst (λ z. Goes P C X (with_operands v z ∷ vs) (k + 0) (at + opcode_count body + 1)) (sym es) back)

  pub goes_law : (c : Code A) → IsGoing c
  goes_law Stop ops v vs n at x g = moved ops (v ∷ vs) (n + 0) n (at + 0) at (omega arith) (omega arith) g
  goes_law (Then i rest) ops v vs n at x g =
      let D : Context Tag = among C (v ∷ vs) in
      let own : List Site = leaf_sites P D n at i v.operands in
      let s : Operands Tag = after_lift (leaf_lift P D n at i v.operands) (stepped P D n i v.operands) in
      let r : Numbered = number P D rest (n + length own) (at + 1) s in
      let h = node_some D n i (leaf_lift P D n at i v.operands) r.code v.operands x in
      let k : n + length (own ++ r.sites) ≡ n + length own + length r.sites = let q = length-append own r.sites in omega arith in
      (h.0, goes_law rest ops (with_operands v s) vs (n + length own) (at + 1) h.1 (moved ops (with_operands v r.last ∷ vs) _ _ _ _ k (omega arith) g))
  goes_law (Block t body rest) ops v vs n at x g =
      let D : Context Tag = among C (v ∷ vs) in
      let own : List Site = block_sites P.func at n t in
      let w : Open Tag = opened false (result_from n t) in
      let b : Numbered = number P (among C (w ∷ v ∷ vs)) body (n + length own) (at + 1) fresh in
      let r : Numbered = number P D rest (n + length own + length b.sites) (at + opcode_count body + 2) (behind_block (P.free at) n t v.operands) in
      let h = when_some (closes yes (result_from n t) (walk (among C (w ∷ v ∷ vs)) b.code fresh)) (walk D r.code (behind_block (P.free at) n t v.operands)) x in
      let k : n + length (own ++ b.sites ++ r.sites) ≡ n + length own + length b.sites + length r.sites = let q = length-append (own ++ b.sites) r.sites in let u = length-append own b.sites in omega arith in (
        tt,
        block_goes body rest (goes_law body) (goes_law rest) ops w v vs (n + length own) (at + 1) (at + opcode_count body + 2) (omega arith) (behind_block (P.free at) n t v.operands) (behind_law (P.free at) n t v.operands)
            (closes_some (result_from n t) (walk (among C (w ∷ v ∷ vs)) b.code fresh) h.0) h.1 (moved ops (with_operands v r.last ∷ vs) _ _ _ _ k (omega arith) g),
      )
  goes_law (Loop t body rest) ops v vs n at x g =
      let D : Context Tag = among C (v ∷ vs) in
      let own : List Site = block_sites P.func at n t in
      let w : Open Tag = opened true (result_from n t) in
      let b : Numbered = number P (among C (w ∷ v ∷ vs)) body (n + length own) (at + 1) fresh in
      let r : Numbered = number P D rest (n + length own + length b.sites) (at + opcode_count body + 2) (behind_block (P.free at) n t v.operands) in
      let h = when_some (closes yes (result_from n t) (walk (among C (w ∷ v ∷ vs)) b.code fresh)) (walk D r.code (behind_block (P.free at) n t v.operands)) x in
      let k : n + length (own ++ b.sites ++ r.sites) ≡ n + length own + length b.sites + length r.sites = let q = length-append (own ++ b.sites) r.sites in let u = length-append own b.sites in omega arith in (
        tt,
        block_goes body rest (goes_law body) (goes_law rest) ops w v vs (n + length own) (at + 1) (at + opcode_count body + 2) (omega arith) (behind_block (P.free at) n t v.operands) (behind_law (P.free at) n t v.operands)
            (closes_some (result_from n t) (walk (among C (w ∷ v ∷ vs)) b.code fresh) h.0) h.1 (moved ops (with_operands v r.last ∷ vs) _ _ _ _ k (omega arith) g),
      )
  goes_law (If t arm rest) ops v vs n at x g =
      let D : Context Tag = among C (v ∷ vs) in
      let own : List Site = block_sites P.func at n t in
      let m : Operands Tag = unwrap_or (expect yes (i32 C) v.operands) fresh in
      let w : Open Tag = opened false (result_from n t) in
      let b : Numbered = number P (among C (w ∷ v ∷ vs)) arm (n + length own) (at + 1) fresh in
      let r : Numbered = number P D rest (n + length own + length b.sites) (at + opcode_count arm + 2) (behind_block (P.free at) n t m) in
      let h0 = when_some (is_none (result_from n t)) (when (closes yes (result_from n t) (walk (among C (w ∷ v ∷ vs)) b.code fresh)) (and_then (expect yes (i32 C) v.operands) (λ z. walk D r.code (behind_block (P.free at) n t z)))) x in
      let h = when_some (closes yes (result_from n t) (walk (among C (w ∷ v ∷ vs)) b.code fresh)) (and_then (expect yes (i32 C) v.operands) (λ z. walk D r.code (behind_block (P.free at) n t z))) h0.1 in
      let u = then_some (expect yes (i32 C) v.operands) (λ z. walk D r.code (behind_block (P.free at) n t z)) h.1 in
      let k : n + length (own ++ b.sites ++ r.sites) ≡ n + length own + length b.sites + length r.sites = let q = length-append (own ++ b.sites) r.sites in let p = length-append own b.sites in omega arith in (
        u.0,
        block_goes arm rest (goes_law arm) (goes_law rest) ops w (with_operands v m) vs (n + length own) (at + 1) (at + opcode_count arm + 2) (omega arith) (behind_block (P.free at) n t m) (behind_law (P.free at) n t m)
            (closes_some (result_from n t) (walk (among C (w ∷ v ∷ vs)) b.code fresh) h.0) u.1 (moved ops (with_operands v r.last ∷ vs) _ _ _ _ k (omega arith) g),
      )
  goes_law (IfElse t arm other rest) ops v vs n at x g =
      let D : Context Tag = among C (v ∷ vs) in
      let own : List Site = block_sites P.func at n t in
      let m : Operands Tag = unwrap_or (expect yes (i32 C) v.operands) fresh in
      let w : Open Tag = opened false (result_from n t) in
      let I : Context Tag = among C (w ∷ v ∷ vs) in
      let b : Numbered = number P I arm (n + length own) (at + 1) fresh in
      let c : Numbered = number P I other (n + length own + length b.sites) (at + opcode_count arm + 2) fresh in
      let r : Numbered = number P D rest (n + length own + length b.sites + length c.sites) (at + opcode_count arm + opcode_count other + 3) (behind_block (P.free at) n t m) in
      let h0 = when_some (closes yes (result_from n t) (walk I b.code fresh)) (when (closes yes (result_from n t) (walk I c.code fresh)) (and_then (expect yes (i32 C) v.operands) (λ z. walk D r.code (behind_block (P.free at) n t z)))) x in
      let h = when_some (closes yes (result_from n t) (walk I c.code fresh)) (and_then (expect yes (i32 C) v.operands) (λ z. walk D r.code (behind_block (P.free at) n t z))) h0.1 in
      let u = then_some (expect yes (i32 C) v.operands) (λ z. walk D r.code (behind_block (P.free at) n t z)) h.1 in
      let X : List (Op A) = onto other (Closes ByEnd ∷ onto rest ops) in
      let k : n + length (own ++ b.sites ++ c.sites ++ r.sites) ≡ n + length own + length b.sites + length c.sites + length r.sites = let q = length-append (own ++ b.sites ++ c.sites) r.sites in let p = length-append (own ++ b.sites) c.sites in let o = length-append own b.sites in omega arith in
      let last : Goes P C X (w ∷ with_operands v m ∷ vs) (n + length own + length b.sites) (at + opcode_count arm + 2) =
      block_goes other rest (goes_law other) (goes_law rest) ops w (with_operands v m) vs (n + length own + length b.sites) (at + opcode_count arm + 2) (at + opcode_count arm + opcode_count other + 3) (omega arith) (behind_block (P.free at) n t m) (behind_law (P.free at) n t m)
      (closes_some (result_from n t) (walk I c.code fresh) h.0) u.1 (moved ops (with_operands v r.last ∷ vs) _ _ _ _ k (omega arith) g) in (
        u.0,
        goes_law arm (Closes ByElse ∷ X) w (with_operands v m ∷ vs) (n + length own) (at + 1) (closes_some (result_from n t) (walk I b.code fresh) h0.0)
            (tt, moved X (w ∷ with_operands v m ∷ vs) (n + length own + length b.sites) (n + length own + length b.sites + 0) (at + opcode_count arm + 2) (at + 1 + opcode_count arm + 1) (omega arith) (omega arith) last),
      )

  -- a whole body
  pub body_goes : C.labels ≡ C.result ∷ [] → (c : Code A) (n : ℕ) → closes yes C.result (walk C (number P C c n 0 fresh).code fresh) ≡ true → Goes P C (opcodes c) (opened false C.result ∷ []) n 0
  body_goes own c n e =
      let same : among C (opened false C.result ∷ []) ≡ C = λ i. record C { labels = sym own i } in
      goes_law c (Closes ByEnd ∷ []) (opened false C.result) [] n 0
      (subst (λ z. IsSome (walk z (number P z c n 0 fresh).code fresh)) (sym same) (closes_some C.result (walk C (number P C c n 0 fresh).code fresh) e)) (tt, refl)
