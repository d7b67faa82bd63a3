-- The facts and the users of a plain body don't depend on its function's trust, nor on its releases.
use Rattle.std.proofs.Common.{◌≡◌, ℕ, ◌+◌, Bool, List, [], ◌∷◌, ◌++◌, length, refl, ◌∙◌, ap}
use Rattle.std.specs.List.{AllByRecursion}
use Rattle.ctw_ops.specs.declared.types.Trust.{Trust}
use Rattle.ctw_ops.specs.Code.{Leaf, CallIndirect, Code, Stop, Then, Block, Loop, If, IfElse, Op, Plain, Opens, Closes, OfBlock, OfLoop, OfIf, ByEnd, ByElse, onto, opcodes}
use Rattle.ctw_ops.specs.Typing.{Context}
use Rattle.ctw_stack.specs.Operands.{Operands}
use Rattle.ctw_stack.specs.Opens.{Open, with_operands}
use Rattle.ctw_labels.specs.declared.tag.Tag.{Tag}
use Rattle.ctw_labels.specs.declared.name.SiteName.TheVariants.{Push as PushOf}
use Rattle.ctw_labels.specs.Numbering.{BodyPlace, own_sites, has_push, push_if, lift_of, after_lift, stepped}
use Rattle.ctw_labels.specs.FlatSites.{among, opens_behind, op_sites, leaf_facts, op_facts, flat_facts}
use Rattle.ctw_labels.proofs.NumberLaws.{IsPlainInstr, IsPlainCode}
use Rattle.ctw_labels.proofs.SiteLaws.{AreUntrusted, under, same_push, same_after}
use Rattle.ctw_links.specs.Uses.{op_users, flat_users}

abbrev pub IsPlainOp : {A : Type 0} → Op A → Type 0
IsPlainOp (Plain i) = IsPlainInstr i
IsPlainOp (Opens shape t) = Unit {0}
IsPlainOp (Closes closer) = Unit {0}

plain_onto : {A : Type 0} (c : Code A) (ops : List (Op A)) → IsPlainCode c → AllByRecursion IsPlainOp ops → AllByRecursion IsPlainOp (onto c ops)
plain_onto Stop ops q h = h
plain_onto (Then i rest) ops q h = (q.0, plain_onto rest ops q.1 h)
plain_onto (Block t body rest) ops q h = (tt, plain_onto body (Closes ByEnd ∷ onto rest ops) q.0 (tt, plain_onto rest ops q.1 h))
plain_onto (Loop t body rest) ops q h = (tt, plain_onto body (Closes ByEnd ∷ onto rest ops) q.0 (tt, plain_onto rest ops q.1 h))
plain_onto (If t arm rest) ops q h = (tt, plain_onto arm (Closes ByEnd ∷ onto rest ops) q.0 (tt, plain_onto rest ops q.1 h))
plain_onto (IfElse t arm other rest) ops q h =
    (tt, plain_onto arm (Closes ByElse ∷ onto other (Closes ByEnd ∷ onto rest ops)) q.0 (tt, plain_onto other (Closes ByEnd ∷ onto rest ops) q.1 (tt, plain_onto rest ops q.2 h)))

pub plain_opcodes : {A : Type 0} (c : Code A) → IsPlainCode c → AllByRecursion IsPlainOp (opcodes c)
plain_opcodes c q = plain_onto c (Closes ByEnd ∷ []) q (tt, tt)

module _ {A : Type 0} (P : BodyPlace A) (free : ℕ → Bool) (t : Trust) where
  abbrev Q : BodyPlace A
  Q = record P { free = free }

  leaf_same : (C : Context Tag) (n : ℕ) (i : Leaf A) (o : Operands Tag) → leaf_facts P C n i o ≡ leaf_facts Q (record C { trust = t }) n i o
  leaf_same C n (CallIndirect y) o = refl
  leaf_same C n _ o = refl

  facts_same : (C : Context Tag) (n : ℕ) (op : Op A) (b : List (Open Tag)) → op_facts P C n op b ≡ op_facts Q (record C { trust = t }) n op b
  facts_same C n op [] = refl
  facts_same C n (Plain i) (v ∷ outer) = leaf_same (among C (v ∷ outer)) n i v.operands
  facts_same C n (Opens OfBlock r) (v ∷ outer) = refl
  facts_same C n (Opens OfLoop r) (v ∷ outer) = refl
  facts_same C n (Opens OfIf r) (v ∷ outer) = refl
  facts_same C n (Closes closer) (v ∷ outer) = refl

  module _ (C : Context Tag) (u : AreUntrusted C.functions) where
    behind_same : (n at : ℕ) (op : Op A) (b : List (Open Tag)) → IsPlainOp op → opens_behind P C n at op b ≡ opens_behind Q (record C { trust = t }) n at op b
    behind_same n at op [] q = refl
    behind_same n at (Plain i) (v ∷ outer) q =
        let D : Context Tag = among C (v ∷ outer) in
        let k : ℕ = n + length (own_sites P at i) in
        ap (λ z. with_operands v z ∷ outer)
        (same_after P free t (has_push P D i) (P.free at) (free at) k (stepped P D n i v.operands) ∙ ap (λ z. after_lift (lift_of (has_push P D i) (free at) k z) z) (under P free t D u n i q v.operands))
    behind_same n at (Opens OfBlock r) (v ∷ outer) q = refl
    behind_same n at (Opens OfLoop r) (v ∷ outer) q = refl
    behind_same n at (Opens OfIf r) (v ∷ outer) q = refl
    behind_same n at (Closes ByElse) (v ∷ outer) q = refl
    behind_same n at (Closes ByEnd) (v ∷ outer) q = refl

    sites_same : (n at : ℕ) (op : Op A) (b : List (Open Tag)) → IsPlainOp op → op_sites P C n at op b ≡ op_sites Q (record C { trust = t }) n at op b
    sites_same n at op [] q = refl
    sites_same n at (Plain i) (v ∷ outer) q =
        let D : Context Tag = among C (v ∷ outer) in
        let k : ℕ = n + length (own_sites P at i) in
        ap (λ z. own_sites P at i ++ z)
        (same_push P free t (PushOf P.func at) (has_push P D i) (P.free at) (free at) k (stepped P D n i v.operands) ∙ ap (λ z. push_if (PushOf P.func at) (lift_of (has_push P D i) (free at) k z)) (under P free t D u n i q v.operands))
    sites_same n at (Opens shape r) (v ∷ outer) q = refl
    sites_same n at (Closes closer) (v ∷ outer) q = refl

    pub flat_same : (ops : List (Op A)) → AllByRecursion IsPlainOp ops → (b : List (Open Tag)) (n at : ℕ) → flat_facts P C ops b n at ≡ flat_facts Q (record C { trust = t }) ops b n at
    flat_same [] q b n at = refl
    flat_same (op ∷ ops) q b n at =
        let D : Context Tag = record C { trust = t } in
        (λ i. facts_same C n op b i ++ flat_same ops q.1 (opens_behind P C n at op b) (n + length (op_sites P C n at op b)) (at + 1) i)
        ∙ (λ i. op_facts Q D n op b ++ flat_facts Q D ops (behind_same n at op b q.0 i) (n + length (sites_same n at op b q.0 i)) (at + 1))

    pub users_same : (ops : List (Op A)) → AllByRecursion IsPlainOp ops → (b : List (Open Tag)) (n at : ℕ) → flat_users P C ops b n at ≡ flat_users Q (record C { trust = t }) ops b n at
    users_same [] q b n at = refl
    users_same (op ∷ ops) q b n at =
        let D : Context Tag = record C { trust = t } in
        ap (λ z. op_users n op ++ z) (users_same ops q.1 (opens_behind P C n at op b) (n + length (op_sites P C n at op b)) (at + 1))
        ∙ (λ i. op_users n op ++ flat_users Q D ops (behind_same n at op b q.0 i) (n + length (sites_same n at op b q.0 i)) (at + 1))
