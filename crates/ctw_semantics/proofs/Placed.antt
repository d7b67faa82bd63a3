-- Labels that stand around a place of a body go on to do so.
use Rattle.std.proofs.Common.{◌≡◌, ℕ, zero, suc, List, [], ◌∷◌, ◌++◌, Option, Some, map, length, option_map, Contains, refl, sym, ap, ◌∙◌, subst, ⊎_elim, inl, inr, arith}
use Rattle.std.proofs.lemmas.List.Elements.{Contains-append_left, Contains-append_right}
use Rattle.ctw_ops.specs.IndirectCalls.{indirect_calls}
use Rattle.ctw_ops.specs.declared.types.Label.{Label}
use Rattle.ctw_ops.specs.Types.{ValueType}
use Rattle.ctw_ops.specs.Code.{Leaf, CallIndirect, Code, Stop, Then, Block, Loop, If, IfElse}
use Rattle.ctw_ops.specs.TagMaps.{in_front_of, type_to, code_to}
use Rattle.ctw_semantics.specs.Values.{Value}
use Rattle.ctw_semantics.specs.Activations.{Open}
use Rattle.ctw_semantics.specs.Places.{behind_first, behind, Opens, StandOutside, StandIn}

-- behind the first instruction and then n others is behind n + 1
pub behind_next : (n : ℕ) (c : Code Label) → behind (suc n) c ≡ behind n (behind_first c)
behind_next zero c = refl
behind_next (suc n) c = ap behind_first (behind_next n c)

pub behind_twice : (j k : ℕ) (c : Code Label) → (i : ℕ) × (behind i c ≡ behind j (behind k c))
behind_twice zero k c = (k, refl)
behind_twice (suc j) k c = let i = behind_twice j k c in (suc i.0, ap behind_first i.1)

-- what follows an instruction that opens a label stands behind it
pub opens_rest : (c : Code Label) (t : Option (ValueType Label)) (again : Option (Code Label)) (inside rest : Code Label) → Opens c t again inside rest → rest ≡ behind_first c
opens_rest Stop t again inside rest o = absurd o
opens_rest (Then i r) t again inside rest o = absurd o
opens_rest (Block u body r) t again inside rest o = o.3
opens_rest (Loop u body r) t again inside rest o = o.3
opens_rest (If u arm r) t again inside rest o = o.3
opens_rest (IfElse u arm other r) t again inside rest o = o.3

-- a label with a loop body is opened by that loop
pub opens_loop : (c : Code Label) (t : Option (ValueType Label)) (body inside rest : Code Label) → Opens c t (Some body) inside rest → Loop t body rest ≡ c
opens_loop Stop t body inside rest o = absurd o
opens_loop (Then i r) t body inside rest o = absurd o
opens_loop (Block u b r) t body inside rest o = let e = o.1 in cc
opens_loop (Loop u b r) t body inside rest o = let e = o.0 in let f = o.1 in let g = o.3 in cc
opens_loop (If u arm r) t body inside rest o = let e = o.1 in cc
opens_loop (IfElse u arm other r) t body inside rest o = let e = o.1 in cc

-- ---- the indirect calls of what is left are those of the body

calls_behind_leaf : (i : Leaf Label) (rest : Code Label) (y : ℕ) → Contains (indirect_calls rest) y → Contains (indirect_calls (Then i rest)) y
calls_behind_leaf (CallIndirect index) rest y c = Contains-append_right (index ∷ []) (indirect_calls rest) y c
calls_behind_leaf i rest y c = c

calls_behind_first : (code : Code Label) (y : ℕ) → Contains (indirect_calls (behind_first code)) y → Contains (indirect_calls code) y
calls_behind_first Stop y c = c
calls_behind_first (Then i rest) y c = calls_behind_leaf i rest y c
calls_behind_first (Block t body rest) y c = Contains-append_right (indirect_calls body) (indirect_calls rest) y c
calls_behind_first (Loop t body rest) y c = Contains-append_right (indirect_calls body) (indirect_calls rest) y c
calls_behind_first (If t arm rest) y c = Contains-append_right (indirect_calls arm) (indirect_calls rest) y c
calls_behind_first (IfElse t arm other rest) y c = Contains-append_right (indirect_calls arm) (indirect_calls other ++ indirect_calls rest) y (Contains-append_right (indirect_calls other) (indirect_calls rest) y c)

calls_behind : (n : ℕ) (code : Code Label) (y : ℕ) → Contains (indirect_calls (behind n code)) y → Contains (indirect_calls code) y
calls_behind zero code y c = c
calls_behind (suc n) code y c = calls_behind n code y (calls_behind_first (behind n code) y c)

none_called : (y : ℕ) → Contains [] y → ⊥
none_called y c = let l = c.1 in omega (arith, l)

calls_inside : (code : Code Label) (t : Option (ValueType Label)) (again : Option (Code Label)) (inside rest : Code Label) → Opens code t again inside rest → (y : ℕ) → Contains (indirect_calls inside) y → Contains (indirect_calls code) y
calls_inside Stop t again inside rest o y c = absurd o
calls_inside (Then i r) t again inside rest o y c = absurd o
calls_inside (Block u body r) t again inside rest o y c = Contains-append_left (indirect_calls body) (indirect_calls r) y (subst (λ (i : Code Label). Contains (indirect_calls i) y) o.2 c)
calls_inside (Loop u body r) t again inside rest o y c = Contains-append_left (indirect_calls body) (indirect_calls r) y (subst (λ (i : Code Label). Contains (indirect_calls i) y) o.2 c)
calls_inside (If u arm r) t again inside rest o y c =
    ⊎_elim (λ e. Contains-append_left (indirect_calls arm) (indirect_calls r) y (subst (λ (i : Code Label). Contains (indirect_calls i) y) e c))
    (λ e. absurd (none_called y (subst (λ (i : Code Label). Contains (indirect_calls i) y) e c))) o.2
calls_inside (IfElse u arm other r) t again inside rest o y c =
    ⊎_elim (λ e. Contains-append_left (indirect_calls arm) (indirect_calls other ++ indirect_calls r) y (subst (λ (i : Code Label). Contains (indirect_calls i) y) e c))
    (λ e. Contains-append_right (indirect_calls arm) (indirect_calls other ++ indirect_calls r) y (Contains-append_left (indirect_calls other) (indirect_calls r) y (subst (λ (i : Code Label). Contains (indirect_calls i) y) e c))) o.2

calls_outside : (body : Code Label) (t : Option (ValueType Label)) (again : Option (Code Label)) (inside : Code Label) (outer : List Open) → StandOutside body t again inside outer → (y : ℕ) → Contains (indirect_calls inside) y → Contains (indirect_calls body) y
calls_outside body t again inside [] s y c = subst (λ (i : Code Label). Contains (indirect_calls i) y) s c
calls_outside body t again inside (o ∷ outer) s y c =
    calls_outside body o.result o.again s.0 outer s.3 y (calls_behind s.1 s.0 y (calls_inside (behind s.1 s.0) t again inside o.code s.2 y c))

-- an indirect call that stands next is one of the body's
pub calls_here : (body : Code Label) (o : Open) (outer : List Open) → StandIn body (o ∷ outer) → (y : ℕ) → Contains (indirect_calls o.code) y → Contains (indirect_calls body) y
calls_here body o outer s y c =
    calls_outside body o.result o.again s.0 outer s.3 y (calls_behind s.1 s.0 y (subst (λ (i : Code Label). Contains (indirect_calls i) y) s.2 c))

-- ---- code under an action on leaves: what stands where

module _ (f : Label → Label) (act : Leaf Label → List (Leaf Label)) where
  behind_leaves : (leaves : List (Leaf Label)) (rest : Code Label) → behind (length leaves) (in_front_of leaves rest) ≡ rest
  behind_leaves [] rest = refl
  behind_leaves (leaf ∷ leaves) rest = behind_next (length leaves) (Then leaf (in_front_of leaves rest)) ∙ behind_leaves leaves rest

  behind_first_to : (c : Code Label) → (k : ℕ) × (code_to f act (behind_first c) ≡ behind k (code_to f act c))
  behind_first_to Stop = (0, refl)
  behind_first_to (Then leaf rest) = (length (act leaf), sym (behind_leaves (act leaf) (code_to f act rest)))
  behind_first_to (Block t body rest) = (1, refl)
  behind_first_to (Loop t body rest) = (1, refl)
  behind_first_to (If t arm rest) = (1, refl)
  behind_first_to (IfElse t arm other rest) = (1, refl)

  -- what is left behind some instructions becomes what is left behind some of the new ones
  pub behind_to : (n : ℕ) (c : Code Label) → (k : ℕ) × (code_to f act (behind n c) ≡ behind k (code_to f act c))
  behind_to zero c = (0, refl)
  behind_to (suc n) c =
      let before = behind_to n c in
      let next = behind_first_to (behind n c) in
      let both = behind_twice next.0 before.0 (code_to f act c) in
      (both.0, next.1 ∙ ap (behind next.0) before.1 ∙ sym both.1)

  abbrev type_in : Option (ValueType Label) → Option (ValueType Label)
  type_in t = option_map (type_to f) t

  abbrev loop_in : Option (Code Label) → Option (Code Label)
  loop_in again = option_map (code_to f act) again

  opens_to : (c : Code Label) (t : Option (ValueType Label)) (again : Option (Code Label)) (inside rest : Code Label) → Opens c t again inside rest
      → Opens (code_to f act c) (type_in t) (loop_in again) (code_to f act inside) (code_to f act rest)
  opens_to Stop t again inside rest o = absurd o
  opens_to (Then leaf r) t again inside rest o = absurd o
  opens_to (Block u body r) t again inside rest o = (ap type_in o.0, ap loop_in o.1, ap (code_to f act) o.2, ap (code_to f act) o.3)
  opens_to (Loop u body r) t again inside rest o = (ap type_in o.0, ap loop_in o.1, ap (code_to f act) o.2, ap (code_to f act) o.3)
  opens_to (If u arm r) t again inside rest o = (ap type_in o.0, ap loop_in o.1, ⊎_elim (λ e. inl (ap (code_to f act) e)) (λ e. inr (ap (code_to f act) e)) o.2, ap (code_to f act) o.3)
  opens_to (IfElse u arm other r) t again inside rest o = (ap type_in o.0, ap loop_in o.1, ⊎_elim (λ e. inl (ap (code_to f act) e)) (λ e. inr (ap (code_to f act) e)) o.2, ap (code_to f act) o.3)

  -- an open label of the new code, with values that are made from its own
  module _ (values_to : List Value → List Value) where
    abbrev pub open_to : Open → Open
    open_to o = record { values = values_to o.values; code = code_to f act o.code; result = type_in o.result; again = loop_in o.again }

    stand_outside_to : (body : Code Label) (t : Option (ValueType Label)) (again : Option (Code Label)) (inside : Code Label) (outer : List Open) → StandOutside body t again inside outer
        → StandOutside (code_to f act body) (type_in t) (loop_in again) (code_to f act inside) (map open_to outer)
    stand_outside_to body t again inside [] s = ap (code_to f act) s
    stand_outside_to body t again inside (o ∷ outer) s =
        let k = behind_to s.1 s.0 in (
          code_to f act s.0,
          k.0,
          subst (λ c. Opens c (type_in t) (loop_in again) (code_to f act inside) (code_to f act o.code)) k.1 (opens_to (behind s.1 s.0) t again inside o.code s.2),
          stand_outside_to body o.result o.again s.0 outer s.3,
        )

    -- labels around one place of a body become labels around one place of the new body
    pub stand_to : (body : Code Label) (labels : List Open) → StandIn body labels → StandIn (code_to f act body) (map open_to labels)
    stand_to body [] s = absurd s
    stand_to body (o ∷ outer) s =
        let k = behind_to s.1 s.0 in
        (code_to f act s.0, k.0, ap (code_to f act) s.2 ∙ k.1, stand_outside_to body o.result o.again s.0 outer s.3)
