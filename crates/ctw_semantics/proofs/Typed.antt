-- Operands of the wanted types are there to be taken.
use Rattle.std.proofs.Common.{◌≡◌, ℕ, zero, suc, Bool, true, false, List, [], ◌∷◌, ◌++◌, map, Option, Some, None, slice_get, slice_set, refl, sym, ◌∙◌, subst, cond, pow_pos}
use Rattle.ctw_ops.specs.declared.types.Label.{Label}
use Rattle.ctw_ops.specs.Types.{ValueType, FitsWidth, bit_width}
use Rattle.ctw_ops.specs.Equal.{same_type}
use Rattle.ctw_ops.specs.Typing.{optional, upon}
use Rattle.ctw_semantics.specs.Values.{Value, value, zero_of}
use Rattle.ctw_semantics.specs.Answers.{Reduced, given, provided, pop, pop_any, pops, carry}
use Rattle.ctw_semantics.specs.Sound.{ValueFits, HasTypes}
use Rattle.ctw_ops.proofs.EqualLaws.{same_type_when}

-- ---- values of types

pub types_get : (ts : List (ValueType Label)) (vs : List Value) (x : ℕ) (t : ValueType Label) → HasTypes ts vs → slice_get ts x ≡ Some t → (v : Value) × (slice_get vs x ≡ Some v) × (v.type ≡ t) × ValueFits v
types_get [] vs x t h e = cc
types_get (u ∷ ts) [] x t h e = absurd h
types_get (u ∷ ts) (v ∷ vs) zero t h e = let q : u ≡ t = cc in (v, refl, h.0 ∙ q, h.1)
types_get (u ∷ ts) (v ∷ vs) (suc x) t h e = types_get ts vs x t h.2 e

pub types_set : (ts : List (ValueType Label)) (vs : List Value) (x : ℕ) (t : ValueType Label) (w : Value) → HasTypes ts vs → slice_get ts x ≡ Some t → w.type ≡ t → ValueFits w → HasTypes ts (slice_set vs x w)
types_set [] vs x t w h e p f = cc
types_set (u ∷ ts) [] x t w h e p f = absurd h
types_set (u ∷ ts) (v ∷ vs) zero t w h e p f = let q : u ≡ t = cc in (p ∙ sym q, f, h.2)
types_set (u ∷ ts) (v ∷ vs) (suc x) t w h e p f = (h.0, h.1, types_set ts vs x t w h.2 e p f)

pub types_append : (ts us : List (ValueType Label)) (vs ws : List Value) → HasTypes ts vs → HasTypes us ws → HasTypes (ts ++ us) (vs ++ ws)
types_append [] us [] ws h i = i
types_append [] us (v ∷ vs) ws h i = absurd h
types_append (t ∷ ts) us [] ws h i = absurd h
types_append (t ∷ ts) us (v ∷ vs) ws h i = (h.0, h.1, types_append ts us vs ws h.2 i)

pub types_upon : (t : Option (ValueType Label)) (v : Option Value) (ts : List (ValueType Label)) (vs : List Value) → HasTypes (optional t) (optional v) → HasTypes ts vs → HasTypes (upon (optional t) ts) (upon (optional v) vs)
types_upon None None ts vs h i = i
types_upon (Some t) (Some v) ts vs h i = (h.0, h.1, i)
types_upon None (Some v) ts vs h i = absurd h
types_upon (Some t) None ts vs h i = absurd h

pub zeros_typed : (ts : List (ValueType Label)) → HasTypes ts (map zero_of ts)
zeros_typed [] = tt
zeros_typed (t ∷ ts) = (refl, pow_pos (bit_width t.width), zeros_typed ts)

-- ---- what may be taken is taken

module _ (P : Reduced → Type 0) where
  pub provided_when : (b : Bool) (r : Reduced) → b ≡ true → P r → P (provided b r)
  provided_when b r e h = subst (λ b. P (provided b r)) (sym e) h

  pub given_when : {A : Type 0} (o : Option A) (x : A) (go : A → Reduced) → o ≡ Some x → P (go x) → P (given o go)
  given_when o x go e h = subst (λ o. P (given o go)) (sym e) h

  pub cond_when : (b : Bool) (r q : Reduced) → (b ≡ true → P r) → (b ≡ false → P q) → P (cond b r q)
  cond_when true r q h i = h refl
  cond_when false r q h i = i refl

  pub pop_when : (t : ValueType Label) (ts : List (ValueType Label)) (vs : List Value) (go : ℕ → List Value → Reduced) → HasTypes (t ∷ ts) vs → ((n : ℕ) (below : List Value) → FitsWidth t.width n → HasTypes ts below → P (go n below)) → P (pop t vs go)
  pop_when t ts [] go h i = absurd h
  pop_when t ts (v ∷ vs) go h i =
      provided_when (same_type t v.type) (go v.number vs) (same_type_when t v.type (sym h.0))
      (i v.number vs (subst (λ (u : ValueType Label). FitsWidth u.width v.number) h.0 h.1) h.2)

  pub pop_any_when : (t : ValueType Label) (ts : List (ValueType Label)) (vs : List Value) (go : Value → List Value → Reduced) → HasTypes (t ∷ ts) vs → ((v : Value) (below : List Value) → v.type ≡ t → ValueFits v → HasTypes ts below → P (go v below)) → P (pop_any vs go)
  pop_any_when t ts [] go h i = absurd h
  pop_any_when t ts (v ∷ vs) go h i = i v vs h.0 h.1 h.2

  pub carry_when : (t : Option (ValueType Label)) (kept : List (ValueType Label)) (vs : List Value) (go : Option Value → Reduced) → HasTypes (upon (optional t) kept) vs → ((v : Option Value) → HasTypes (optional t) (optional v) → P (go v)) → P (carry t vs go)
  carry_when None kept vs go h i = i None tt
  carry_when (Some t) kept vs go h i = pop_when t kept vs (λ n below. go (Some (value t n))) h (λ n below f hb. i (Some (value t n)) (refl, f, tt))

  pub pops_when : (ts kept had : List (ValueType Label)) (args vs : List Value) (go : List Value → List Value → Reduced) → HasTypes (ts ++ kept) vs → HasTypes had args → ((args below : List Value) → HasTypes (upon ts had) args → HasTypes kept below → P (go args below)) → P (pops ts args vs go)
  pops_when [] kept had args vs go h g i = i args vs g h
  pops_when (t ∷ ts) kept had args vs go h g i =
      pop_when t (ts ++ kept) vs (λ n below. pops ts (value t n ∷ args) below go) h
      (λ n below f hb. pops_when ts kept (t ∷ had) (value t n ∷ args) below go hb (refl, f, g) i)
