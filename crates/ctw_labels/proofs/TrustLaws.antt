-- Typing under other trusts.
use Rattle.std.proofs.Common.{◌≡◌, ℕ, zero, suc, ◌+◌, Bool, true, false, List, [], ◌∷◌, Option, Some, None, refl, sym, ◌∙◌, ap, subst, arith}
use Rattle.std.specs.Prelude.{slice_get, map, option_map, if◌then◌else◌}
use Rattle.std.proofs.lemmas.Option.{slice_get-map}
use Rattle.ctw_ops.specs.declared.types.Label.{Label}
use Rattle.ctw_ops.specs.declared.types.Label.TheVariants.{Public, Secret}
use Rattle.ctw_ops.specs.declared.types.Width.{Width}
use Rattle.ctw_ops.specs.declared.types.Trust.{Trust}
use Rattle.ctw_ops.specs.declared.types.Trust.TheVariants.{Untrusted, Trusted}
use Rattle.ctw_ops.specs.Types.{ValueType, FunctionType}
use Rattle.ctw_ops.specs.Tree.{Module, type_named}
use Rattle.ctw_ops.specs.Code.{Leaf, Call, CallIndirect, Classify, Declassify, Code, Stop, Then, Block, Loop, If, IfElse}
use Rattle.ctw_ops.specs.Typing.{Context, Moves, MayCall, Row, Typed, optional, inside}
use Rattle.ctw_stack.specs.Operands.{Operands}
use Rattle.ctw_ops.specs.TagMaps.{function_type_to}
use Rattle.ctw_labels.specs.Names.{Tag}
use Rattle.ctw_labels.specs.Points.{Points, has_number, trust_at, MayName, KeepsLeaf, KeepsCode}
use Rattle.ctw_labels.specs.Sited.{Lift, Sited, raised_from, raised, placed_code}
use Rattle.ctw_labels.specs.Numbering.{BodyPlace, result_from, type_from, leaf_lift, leaf_node, block_lift, number}
use Rattle.ctw_labels.specs.SitedModule.{site_count}
use Rattle.ctw_labels.specs.Placed.{with_trust, function_uses}
use Rattle.ctw_labels.proofs.NumberLaws.{IsPlainInstr, IsPlainCode}

pub may_untrusted : (t : Trust) → MayCall t Untrusted
may_untrusted Untrusted = tt
may_untrusted Trusted = tt

pub trusted_may : (t : Trust) → MayCall Trusted t
trusted_may Untrusted = tt
trusted_may Trusted = tt

-- ---- functions of other trusts

module _ {S : Type 0} where
  -- which functions are called
  abbrev pub IsAllowedLeaf : List (FunctionType S) → Trust → Leaf S → Type 0
  IsAllowedLeaf ds t (Call f) = (g : FunctionType S) → slice_get ds f ≡ Some g → MayCall t g.trust
  IsAllowedLeaf ds t _ = Unit {0}

  abbrev pub IsAllowed : List (FunctionType S) → Trust → Code S → Type 0
  IsAllowed ds t Stop = Unit {0}
  IsAllowed ds t (Then i rest) = IsAllowedLeaf ds t i × IsAllowed ds t rest
  IsAllowed ds t (Block r body rest) = IsAllowed ds t body × IsAllowed ds t rest
  IsAllowed ds t (Loop r body rest) = IsAllowed ds t body × IsAllowed ds t rest
  IsAllowed ds t (If r arm rest) = IsAllowed ds t arm × IsAllowed ds t rest
  IsAllowed ds t (IfElse r arm other rest) = IsAllowed ds t arm × IsAllowed ds t other × IsAllowed ds t rest

  module _ (ds : List (FunctionType S)) where
    same_function : (gs : List (FunctionType S)) → map (with_trust Untrusted) gs ≡ map (with_trust Untrusted) ds → (f : ℕ) (g : FunctionType S) → slice_get gs f ≡ Some g → (h : FunctionType S) × (slice_get ds f ≡ Some h) × (with_trust Untrusted g ≡ with_trust Untrusted h)
    same_function gs e f g k = by_got (slice_get ds f) refl (sym (slice_get-map (with_trust Untrusted) ds f) ∙ ap (λ z. slice_get z f) (sym e) ∙ slice_get-map (with_trust Untrusted) gs f ∙ ap (option_map (with_trust Untrusted)) k)
      where
        by_got : (r : Option (FunctionType S)) → slice_get ds f ≡ r → option_map (with_trust Untrusted) r ≡ Some (with_trust Untrusted g) → (h : FunctionType S) × (slice_get ds f ≡ Some h) × (with_trust Untrusted g ≡ with_trust Untrusted h)
        by_got None q p = cc
        by_got (Some h) q p = (h, q, cc)

    row_functions : (C : Context S) → map (with_trust Untrusted) C.functions ≡ map (with_trust Untrusted) ds → (i : Leaf S) (a b : List (ValueType S)) → IsAllowedLeaf ds C.trust i → Row C i a b → Row (record C { functions = ds }) i a b
    row_functions C e (Call f) a b w r =
        let h = same_function C.functions e f r.0 r.1 in
        (h.0, h.1, w h.0 h.1, subst (λ z. Moves z.params (optional z.result) a b) h.2 r.3)
    row_functions C e i a b w r = r

    -- a typed sequence is typed over functions of other trusts, where it may call them
    pub typed_functions : (C : Context S) → map (with_trust Untrusted) C.functions ≡ map (with_trust Untrusted) ds → (c : Code S) (a b : List (ValueType S)) → IsAllowed ds C.trust c → Typed C c a b → Typed (record C { functions = ds }) c a b
    typed_functions C e Stop a b w d = d
    typed_functions C e (Then i rest) a b w d = (d.0, row_functions C e i a d.0 w.0 d.1, typed_functions C e rest d.0 b w.1 d.2)
    typed_functions C e (Block t body rest) a b w d = (typed_functions (inside t C) e body _ _ w.0 d.0, typed_functions C e rest _ _ w.1 d.1)
    typed_functions C e (Loop t body rest) a b w d = (typed_functions (inside None C) e body _ _ w.0 d.0, typed_functions C e rest _ _ w.1 d.1)
    typed_functions C e (If t arm rest) a b w d = (d.0, typed_functions (inside t C) e arm _ _ w.0 d.1, d.2, d.3, typed_functions C e rest _ _ w.1 d.4)
    typed_functions C e (IfElse t arm other rest) a b w d = (typed_functions (inside t C) e arm _ _ w.0 d.0, typed_functions (inside t C) e other _ _ w.1 d.1, d.2, d.3, typed_functions C e rest _ _ w.2 d.4)

  -- ---- plain code in a function of another trust

  abbrev pub AreUntrusted : List (FunctionType S) → Type 0
  AreUntrusted gs = (k : ℕ) (g : FunctionType S) → slice_get gs k ≡ Some g → g.trust ≡ Untrusted

  module _ (t : Trust) where
    row_trust : (C : Context S) → AreUntrusted C.functions → AreUntrusted C.types → (i : Leaf S) → IsPlainInstr i → (a b : List (ValueType S)) → Row C i a b → Row (record C { trust = t }) i a b
    row_trust C u v (Call f) p a b r = (r.0, r.1, subst (MayCall t) (sym (u f r.0 r.1)) (may_untrusted t), r.3)
    row_trust C u v (CallIndirect y) p a b r = (r.0, r.1, r.2, subst (MayCall t) (sym (v y r.1 r.2)) (may_untrusted t), r.4)
    row_trust C u v (Classify w) p a b r = absurd p
    row_trust C u v (Declassify w) p a b r = absurd p
    row_trust C u v i p a b r = r

    pub typed_trust : (C : Context S) → AreUntrusted C.functions → AreUntrusted C.types → (c : Code S) → IsPlainCode c → (a b : List (ValueType S)) → Typed C c a b → Typed (record C { trust = t }) c a b
    typed_trust C u v Stop p a b d = d
    typed_trust C u v (Then i rest) p a b d = (d.0, row_trust C u v i p.0 a d.0 d.1, typed_trust C u v rest p.1 d.0 b d.2)
    typed_trust C u v (Block r body rest) p a b d = (typed_trust (inside r C) u v body p.0 _ _ d.0, typed_trust C u v rest p.1 _ _ d.1)
    typed_trust C u v (Loop r body rest) p a b d = (typed_trust (inside None C) u v body p.0 _ _ d.0, typed_trust C u v rest p.1 _ _ d.1)
    typed_trust C u v (If r arm rest) p a b d = (d.0, typed_trust (inside r C) u v arm p.0 _ _ d.1, d.2, d.3, typed_trust C u v rest p.1 _ _ d.4)
    typed_trust C u v (IfElse r arm other rest) p a b d = (typed_trust (inside r C) u v arm p.0 _ _ d.0, typed_trust (inside r C) u v other p.1 _ _ d.1, d.2, d.3, typed_trust C u v rest p.2 _ _ d.4)

-- ---- placed code calls what the plain code does

module _ (L : Tag → Label) (name : ℕ → FunctionType Label → ℕ) (ds : List (FunctionType Label)) (t : Trust) where
  raise_allowed : (a b : Label) (free : Bool) (w : Width) (c : Code Label) → IsAllowed ds t c → IsAllowed ds t (raised_from a b free w c)
  raise_allowed Public Secret free w c h = (tt, h)
  raise_allowed Public Public free w c h = h
  raise_allowed Secret Secret free w c h = h
  raise_allowed Secret Public true w c h = (tt, h)
  raise_allowed Secret Public false w c h = h

  lift_allowed : (l : Option (Lift Tag)) (c : Code Label) → IsAllowed ds t c → IsAllowed ds t (raised L l c)
  lift_allowed None c h = h
  lift_allowed (Some l) c h = raise_allowed (L l.source) (L l.target) l.free l.width c h

  module _ (p : Points) (may : (f : ℕ) → MayName p t f → (g : FunctionType Label) → slice_get ds f ≡ Some g → MayCall t g.trust) where
    node_allowed : (P : BodyPlace Label) (C : Context Tag) (n : ℕ) (i : Leaf Label) → KeepsLeaf p t i → (l : Option (Lift Tag)) (rest : Sited Tag) → IsAllowed ds t (placed_code L name rest) → IsAllowed ds t (placed_code L name (leaf_node P C n i l rest))
    node_allowed P C n (Call f) k l rest h = (may f k, lift_allowed l (placed_code L name rest) h)
    node_allowed P C n i k l rest h = (tt, lift_allowed l (placed_code L name rest) h)

    pub number_allowed : (P : BodyPlace Label) (C : Context Tag) (c : Code Label) → KeepsCode p t c → (n at : ℕ) (o : Operands Tag) → IsAllowed ds t (placed_code L name (number P C c n at o).code)
    number_allowed P C Stop k n at o = tt
    number_allowed P C (Then i rest) k n at o = node_allowed P C n i k.0 (leaf_lift P C n at i o) _ (number_allowed P C rest k.1 _ _ _)
    number_allowed P C (Block r body rest) k n at o = (number_allowed P (inside (result_from n r) C) body k.0 _ _ _, lift_allowed (block_lift (P.free at) n r) _ (number_allowed P C rest k.1 _ _ _))
    number_allowed P C (Loop r body rest) k n at o = (number_allowed P (inside None C) body k.0 _ _ _, lift_allowed (block_lift (P.free at) n r) _ (number_allowed P C rest k.1 _ _ _))
    number_allowed P C (If r arm rest) k n at o = (number_allowed P (inside (result_from n r) C) arm k.0 _ _ _, lift_allowed (block_lift (P.free at) n r) _ (number_allowed P C rest k.1 _ _ _))
    number_allowed P C (IfElse r arm other rest) k n at o = (number_allowed P (inside (result_from n r) C) arm k.0 _ _ _, number_allowed P (inside (result_from n r) C) other k.1 _ _ _, lift_allowed (block_lift (P.free at) n r) _ (number_allowed P C rest k.2 _ _ _))

-- any code may call untrusted functions
pub all_allowed : {S : Type 0} (ds : List (FunctionType S)) (t : Trust) → AreUntrusted ds → (c : Code S) → IsAllowed ds t c
all_allowed {S} ds t u Stop = tt
all_allowed {S} ds t u (Then i rest) = (leaf i, all_allowed ds t u rest)
  where
    leaf : (i : Leaf S) → IsAllowedLeaf ds t i
    leaf (Call f) = λ g e. subst (MayCall t) (sym (u f g e)) (may_untrusted t)
    leaf _ = tt
all_allowed ds t u (Block r body rest) = (all_allowed ds t u body, all_allowed ds t u rest)
all_allowed ds t u (Loop r body rest) = (all_allowed ds t u body, all_allowed ds t u rest)
all_allowed ds t u (If r arm rest) = (all_allowed ds t u arm, all_allowed ds t u rest)
all_allowed ds t u (IfElse r arm other rest) = (all_allowed ds t u arm, all_allowed ds t u other, all_allowed ds t u rest)

-- ---- the trust of a module's functions

trust_found : (m : Module Label) (p : Points) (L : Tag → Label) (k q : ℕ) (ys : List ℕ) (f : ℕ) (g : FunctionType Label) → slice_get (map (function_type_to L) (map (λ u. u.type) (function_uses m p k q ys))) f ≡ Some g → g.trust ≡ trust_at p (k + f)
trust_found m p L k q [] f g e = cc
trust_found m p L k q (y ∷ ys) zero g e =
    let x : function_type_to L (with_trust (trust_at p k) (type_from q (type_named m y))) ≡ g = cc in
    let z : k ≡ k + 0 = omega arith in ap (λ z. z.trust) (sym x) ∙ ap (trust_at p) z
trust_found m p L k q (y ∷ ys) (suc f) g e =
    let z : (k + 1) + f ≡ k + suc f = omega arith in trust_found m p L (k + 1) (q + site_count (type_named m y)) ys f g e ∙ ap (trust_at p) z

untrusted_at : (p : Points) (f : ℕ) → has_number f p.trusted ≡ false → trust_at p f ≡ Untrusted
untrusted_at p f e = ap (λ z. if z then Trusted else Untrusted) e

pub named_may_be_called : (m : Module Label) (p : Points) (L : Tag → Label) (t : Trust) (ys : List ℕ) (f : ℕ) → MayName p t f → (g : FunctionType Label) → slice_get (map (function_type_to L) (map (λ u. u.type) (function_uses m p 0 0 ys))) f ≡ Some g → MayCall t g.trust
named_may_be_called m p L Trusted ys f k g e = trusted_may g.trust
named_may_be_called m p L Untrusted ys f k g e =
    let z : 0 + f ≡ f = omega arith in
    subst (MayCall Untrusted) (sym (trust_found m p L 0 0 ys f g e ∙ ap (trust_at p) z ∙ untrusted_at p f k)) tt
