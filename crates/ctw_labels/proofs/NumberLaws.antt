-- Numbered code is sited, its lifts go to sites, and erased it is the plain code.
use Rattle.std.proofs.Common.{◌≡◌, ℕ, ◌+◌, Bool, true, false, List, [], ◌∷◌, ◌++◌, length, Option, Some, None, refl, sym, ◌∙◌, ap}
use Rattle.std.specs.Prelude.{option_map, unwrap_or, slice_get, map}
use Rattle.std.specs.List.{AllByRecursion}
use Rattle.ctw_ops.specs.declared.types.Label.{Label}
use Rattle.ctw_ops.specs.declared.types.Trust.TheVariants.{Trusted, Untrusted}
use Rattle.ctw_ops.specs.Types.{ValueType, FunctionType, erase_function_type}
use Rattle.ctw_ops.specs.Tree.{no_function_type}
use Rattle.ctw_ops.specs.Code.{Leaf, CallIndirect, Load, Store, Classify, Declassify, Code, Stop, Then, Block, Loop, If, IfElse}
use Rattle.ctw_ops.specs.Typing.{Context, Row, Typed, optional, i32, inside}
use Rattle.ctw_stack.specs.declared.slot.Slot.{Slot}
use Rattle.ctw_stack.specs.declared.slot.Slot.TheVariants.{Known, Wide, Unknown}
use Rattle.ctw_stack.specs.Operands.{Operands, fresh}
use Rattle.ctw_stack.specs.Steps.{expect, pushes}
use Rattle.ctw_stack.specs.Tags.{type_to}
use Rattle.ctw_ops.specs.TagMaps.{leaf_to, function_type_to}
use Rattle.ctw_labels.proofs.TagPass.{tags_to}
use Rattle.ctw_labels.specs.Names.{Tag, At, Fixed}
use Rattle.ctw_labels.specs.Sited.{yes, Lift, Sited, lifted, raised, placed_code}
use Rattle.ctw_labels.specs.Numbering.{params_from, result_from, type_from, BodyPlace, named_in, own_sites, has_push, top_lift, lift_of, after_lift, stepped, leaf_lift, leaf_sites, leaf_node, block_lift, number}
use Rattle.ctw_labels.specs.Links.{lift_list, lifts}
use Rattle.ctw_labels.proofs.Walk.{OnSome, IsLift, IsSited}
use Rattle.ctw_labels.proofs.PlaceLaws.{all_public, IsNamed}

-- plain code has no classify and no declassify
abbrev pub IsPlainInstr : {A : Type 0} → Leaf A → Type 0
IsPlainInstr (Classify w) = ⊥
IsPlainInstr (Declassify w) = ⊥
IsPlainInstr _ = Unit {0}

abbrev pub IsPlainCode : {A : Type 0} → Code A → Type 0
IsPlainCode Stop = Unit {0}
IsPlainCode (Then i rest) = IsPlainInstr i × IsPlainCode rest
IsPlainCode (Block t body rest) = IsPlainCode body × IsPlainCode rest
IsPlainCode (Loop t body rest) = IsPlainCode body × IsPlainCode rest
IsPlainCode (If t arm rest) = IsPlainCode arm × IsPlainCode rest
IsPlainCode (IfElse t arm other rest) = IsPlainCode arm × IsPlainCode other × IsPlainCode rest

-- ---- numbered code is sited

-- a lift that is read off the operands is one
top_law : (C : Context Tag) (free : Bool) → (free ≡ true → C.trust ≡ Trusted) → (p : ℕ) (m : Operands Tag) → IsLift C (top_lift free p m.slots) m
top_law C free tr p m = by_slots m.dead m.slots
  where
    by_slots : (d : Bool) (xs : List (Slot Tag)) → IsLift C (top_lift free p xs) (record { dead = d; slots = xs })
    by_slots d [] = tt
    by_slots d (Known w a ∷ xs) = (refl, tr)
    by_slots d (Wide a ∷ xs) = tt
    by_slots d (Unknown ∷ xs) = tt

lift_law : (C : Context Tag) (b free : Bool) → (free ≡ true → C.trust ≡ Trusted) → (p : ℕ) (r : Option (Operands Tag)) (rest : Sited Tag) →
    IsSited C rest (after_lift (lift_of b free p r) r) → OnSome r (λ m. IsLift C (lift_of b free p r) m × IsSited C rest (lifted (lift_of b free p r) m))
lift_law C b free tr p None rest h = tt
lift_law C true free tr p (Some m) rest h = (top_law C free tr p m, h)
lift_law C false free tr p (Some m) rest h = (tt, h)

block_law : {A : Type 0} (C : Context Tag) (free : Bool) → (free ≡ true → C.trust ≡ Trusted) → (n : ℕ) (t : Option (ValueType A)) (s : Operands Tag) → IsLift C (block_lift free n t) (pushes (optional (result_from n t)) s)
block_law C free tr n None s = tt
block_law C free tr n (Some t) s = (refl, tr)

on_expect : (r : Option (Operands Tag)) (P : Operands Tag → Type 0) → P (unwrap_or r fresh) → OnSome r P
on_expect None P h = tt
on_expect (Some m) P h = h

own_memory : (r : Option Tag) (m : Tag) → r ≡ Some m → m ≡ unwrap_or r Fixed
own_memory r m e = sym (ap (λ z. unwrap_or z Fixed) e)

node_law : {A : Type 0} (P : BodyPlace A) (C : Context Tag) (n : ℕ) (i : Leaf A) → IsPlainInstr i → (l : Option (Lift Tag)) (rest : Sited Tag) (s : Operands Tag) →
    OnSome (stepped P C n i s) (λ m. IsLift C l m × IsSited C rest (lifted l m)) → IsSited C (leaf_node P C n i l rest) s
node_law P C n (CallIndirect y) p l rest s h = h
node_law P C n (Classify w) p l rest s h = absurd p
node_law P C n (Declassify w) p l rest s h = absurd p
node_law P C n (Load w l bytes signed align offset) p k rest s h = (own_memory C.memory, h)
node_law P C n (Store w l bytes align offset) p k rest s h = (own_memory C.memory, h)
node_law P C n _ p l rest s h = (tt, h)

module _ {A : Type 0} (P : BodyPlace A) where
  pub number_sited : (C : Context Tag) → ((at : ℕ) → P.free at ≡ true → C.trust ≡ Trusted) → (c : Code A) → IsPlainCode c → (n at : ℕ) (s : Operands Tag) → IsSited C (number P C c n at s).code s
  number_sited C tr Stop p n at s = tt
  number_sited C tr (Then i rest) p n at s =
      node_law P C n i p.0 (leaf_lift P C n at i s) (number P C rest (n + length (leaf_sites P C n at i s)) (at + 1) (after_lift (leaf_lift P C n at i s) (stepped P C n i s))).code s
      (lift_law C (has_push P C i) (P.free at) (tr at) (n + length (own_sites P at i)) (stepped P C n i s) _ (number_sited C tr rest p.1 _ _ _))
  number_sited C tr (Block t body rest) p n at s =
      (number_sited (inside (result_from n t) C) tr body p.0 _ _ fresh, block_law C (P.free at) (tr at) n t s, number_sited C tr rest p.1 _ _ _)
  number_sited C tr (Loop t body rest) p n at s =
      (number_sited (inside None C) tr body p.0 _ _ fresh, block_law C (P.free at) (tr at) n t s, number_sited C tr rest p.1 _ _ _)
  number_sited C tr (If t arm rest) p n at s =
      (number_sited (inside (result_from n t) C) tr arm p.0 _ _ fresh, on_expect (expect yes (i32 C) s) _ (block_law C (P.free at) (tr at) n t _, number_sited C tr rest p.1 _ _ _))
  number_sited C tr (IfElse t arm other rest) p n at s =
      (number_sited (inside (result_from n t) C) tr arm p.0 _ _ fresh, number_sited (inside (result_from n t) C) tr other p.1 _ _ fresh, on_expect (expect yes (i32 C) s) _ (block_law C (P.free at) (tr at) n t _, number_sited C tr rest p.2 _ _ _))

-- ---- its lifts go to sites

abbrev pub IsSite : Tag → Type 0
IsSite (At n) = Unit {0}
IsSite Fixed = ⊥

pub all_append_to : {X : Type 0} (P : X → Type 0) (xs ys : List X) → AllByRecursion P xs → AllByRecursion P ys → AllByRecursion P (xs ++ ys)
all_append_to P [] ys p q = q
all_append_to P (x ∷ xs) ys p q = (p.0, all_append_to P xs ys p.1 q)

pub all_append_from : {X : Type 0} (P : X → Type 0) (xs ys : List X) → AllByRecursion P (xs ++ ys) → AllByRecursion P xs × AllByRecursion P ys
all_append_from P [] ys p = (tt, p)
all_append_from P (x ∷ xs) ys p = ((p.0, (all_append_from P xs ys p.1).0), (all_append_from P xs ys p.1).1)

abbrev pub GoToSites : List (Lift Tag) → Type 0
GoToSites ls = AllByRecursion (λ l. IsSite l.target) ls

goes : (xs ys : List (Lift Tag)) → GoToSites xs → GoToSites ys → GoToSites (xs ++ ys)
goes xs ys p q = all_append_to (λ l. IsSite l.target) xs ys p q

top_goes : (free : Bool) (p : ℕ) (xs : List (Slot Tag)) → GoToSites (lift_list (top_lift free p xs))
top_goes free p [] = tt
top_goes free p (Known w a ∷ xs) = (tt, tt)
top_goes free p (Wide a ∷ xs) = tt
top_goes free p (Unknown ∷ xs) = tt

lift_goes : (b free : Bool) (p : ℕ) (r : Option (Operands Tag)) → GoToSites (lift_list (lift_of b free p r))
lift_goes true free p (Some m) = top_goes free p m.slots
lift_goes true free p None = tt
lift_goes false free p r = tt

block_goes : {A : Type 0} (free : Bool) (n : ℕ) (t : Option (ValueType A)) → GoToSites (lift_list (block_lift free n t))
block_goes free n None = tt
block_goes free n (Some t) = (tt, tt)

node_goes : {A : Type 0} (P : BodyPlace A) (C : Context Tag) (n : ℕ) (i : Leaf A) (l : Option (Lift Tag)) (rest : Sited Tag) → GoToSites (lift_list l ++ lifts rest) → GoToSites (lifts (leaf_node P C n i l rest))
node_goes P C n (CallIndirect y) l rest h = h
node_goes P C n _ l rest h = h

module _ {A : Type 0} (P : BodyPlace A) where
  pub number_goes : (C : Context Tag) (c : Code A) (n at : ℕ) (s : Operands Tag) → GoToSites (lifts (number P C c n at s).code)
  number_goes C Stop n at s = tt
  number_goes C (Then i rest) n at s = node_goes P C n i (leaf_lift P C n at i s) _ (goes _ _ (lift_goes (has_push P C i) (P.free at) _ (stepped P C n i s)) (number_goes C rest _ _ _))
  number_goes C (Block t body rest) n at s = goes _ _ (block_goes (P.free at) n t) (goes _ _ (number_goes (inside (result_from n t) C) body _ _ _) (number_goes C rest _ _ _))
  number_goes C (Loop t body rest) n at s = goes _ _ (block_goes (P.free at) n t) (goes _ _ (number_goes (inside None C) body _ _ _) (number_goes C rest _ _ _))
  number_goes C (If t arm rest) n at s = goes _ _ (block_goes (P.free at) n t) (goes _ _ (number_goes (inside (result_from n t) C) arm _ _ _) (number_goes C rest _ _ _))
  number_goes C (IfElse t arm other rest) n at s = goes _ _ (block_goes (P.free at) n t) (goes _ _ (number_goes (inside (result_from n t) C) arm _ _ _) (goes _ _ (number_goes (inside (result_from n t) C) other _ _ _) (number_goes C rest _ _ _)))

-- ---- with all sites public it is the plain code

abbrev pub base_name : ℕ → FunctionType Label → ℕ
base_name y g = y

pub public_params : {A : Type 0} (n : ℕ) (ts : List (ValueType A)) → map (type_to all_public) (params_from n ts) ≡ map (type_to all_public) ts
public_params n [] = refl
public_params n (t ∷ ts) = ap (λ z. type_to all_public t ∷ z) (public_params (n + 1) ts)

pub public_result : {A : Type 0} (n : ℕ) (t : Option (ValueType A)) → option_map (type_to all_public) (result_from n t) ≡ option_map (type_to all_public) t
public_result n None = refl
public_result n (Some t) = refl

-- a function type's erasure
pub public_type : (n : ℕ) (g : FunctionType Label) → function_type_to all_public (type_from n g) ≡ erase_function_type g
public_type n g = λ i. record { trust = Untrusted; params = public_params n g.params i; result = public_result (n + length g.params) g.result i }

raised_public : (l : Option (Lift Tag)) (c : Code Label) → raised all_public l c ≡ c
raised_public None c = refl
raised_public (Some l) c = refl

node_public : {A : Type 0} (P : BodyPlace A) (C : Context Tag) (n : ℕ) (i : Leaf A) (l : Option (Lift Tag)) (rest : Sited Tag) →
    placed_code all_public base_name (leaf_node P C n i l rest) ≡ Then (leaf_to all_public i) (placed_code all_public base_name rest)
node_public P C n (CallIndirect y) l rest = ap (Then (CallIndirect y)) (raised_public l (placed_code all_public base_name rest))
node_public P C n i l rest = ap (Then (leaf_to all_public i)) (raised_public l (placed_code all_public base_name rest))

raised_to : (l : Option (Lift Tag)) (c d : Code Label) → c ≡ d → raised all_public l c ≡ d
raised_to l c d e = raised_public l c ∙ e

pub cong3 : {A B C D : Type 0} (f : A → B → C → D) {a a' : A} {b b' : B} {c c' : C} → a ≡ a' → b ≡ b' → c ≡ c' → f a b c ≡ f a' b' c'
cong3 f p q r = λ i. f (p i) (q i) (r i)

pub cong4 : {A B C D E : Type 0} (f : A → B → C → D → E) {a a' : A} {b b' : B} {c c' : C} {d d' : D} → a ≡ a' → b ≡ b' → c ≡ c' → d ≡ d' → f a b c d ≡ f a' b' c' d'
cong4 f p q r s = λ i. f (p i) (q i) (r i) (s i)

pub number_public : {A : Type 0} (P : BodyPlace A) (C : Context Tag) (c : Code A) (n at : ℕ) (s : Operands Tag) → placed_code all_public base_name (number P C c n at s).code ≡ tags_to all_public c
number_public P C Stop n at s = refl
number_public P C (Then i rest) n at s =
    node_public P C n i (leaf_lift P C n at i s) _ ∙ ap (Then (leaf_to all_public i)) (number_public P C rest _ _ _)
number_public P C (Block t body rest) n at s =
    cong3 Block (public_result n t) (number_public P (inside (result_from n t) C) body _ _ _) (raised_to (block_lift (P.free at) n t) _ _ (number_public P C rest _ _ _))
number_public P C (Loop t body rest) n at s =
    cong3 Loop (public_result n t) (number_public P (inside None C) body _ _ _) (raised_to (block_lift (P.free at) n t) _ _ (number_public P C rest _ _ _))
number_public P C (If t arm rest) n at s =
    cong3 If (public_result n t) (number_public P (inside (result_from n t) C) arm _ _ _) (raised_to (block_lift (P.free at) n t) _ _ (number_public P C rest _ _ _))
number_public P C (IfElse t arm other rest) n at s =
    cong4 IfElse (public_result n t) (number_public P (inside (result_from n t) C) arm _ _ _) (number_public P (inside (result_from n t) C) other _ _ _) (raised_to (block_lift (P.free at) n t) _ _ (number_public P C rest _ _ _))

-- ---- the indexes of indirect calls

-- each index of an indirect call names a type
abbrev pub IsTypedUse : {A : Type 0} → List (FunctionType A) → Leaf A → Type 0
IsTypedUse types (CallIndirect y) = slice_get types y ≡ Some (named_in types y)
IsTypedUse types _ = Unit {0}

abbrev pub AreTypedUses : {A : Type 0} → List (FunctionType A) → Code A → Type 0
AreTypedUses types Stop = Unit {0}
AreTypedUses types (Then i rest) = IsTypedUse types i × AreTypedUses types rest
AreTypedUses types (Block t body rest) = AreTypedUses types body × AreTypedUses types rest
AreTypedUses types (Loop t body rest) = AreTypedUses types body × AreTypedUses types rest
AreTypedUses types (If t arm rest) = AreTypedUses types arm × AreTypedUses types rest
AreTypedUses types (IfElse t arm other rest) = AreTypedUses types arm × AreTypedUses types other × AreTypedUses types rest

-- each indirect call names the plain type that its own one erases to, where the types are erased
module _ (types : List (FunctionType Label)) (erased : (y : ℕ) (g : FunctionType Label) → slice_get types y ≡ Some g → g ≡ erase_function_type g) where
  named_node : (P : BodyPlace Label) → P.types ≡ types → (C : Context Tag) (n : ℕ) (i : Leaf Label) (l : Option (Lift Tag)) (rest : Sited Tag) → IsTypedUse types i →
      IsNamed all_public types base_name rest → IsNamed all_public types base_name (leaf_node P C n i l rest)
  named_node P q C n (CallIndirect y) l rest u h = (u ∙ ap Some (erased y (named_in types y) u ∙ ap (λ ts. erase_function_type (named_in ts y)) (sym q) ∙ sym (public_type n (named_in P.types y))), h)
  named_node P q C n _ l rest u h = h

  pub number_named : (P : BodyPlace Label) → P.types ≡ types → (C : Context Tag) (c : Code Label) → AreTypedUses types c → (n at : ℕ) (s : Operands Tag) → IsNamed all_public types base_name (number P C c n at s).code
  number_named P q C Stop u n at s = tt
  number_named P q C (Then i rest) u n at s = named_node P q C n i (leaf_lift P C n at i s) _ u.0 (number_named P q C rest u.1 _ _ _)
  number_named P q C (Block t body rest) u n at s = (number_named P q (inside (result_from n t) C) body u.0 _ _ _, number_named P q C rest u.1 _ _ _)
  number_named P q C (Loop t body rest) u n at s = (number_named P q (inside None C) body u.0 _ _ _, number_named P q C rest u.1 _ _ _)
  number_named P q C (If t arm rest) u n at s = (number_named P q (inside (result_from n t) C) arm u.0 _ _ _, number_named P q C rest u.1 _ _ _)
  number_named P q C (IfElse t arm other rest) u n at s = (number_named P q (inside (result_from n t) C) arm u.0 _ _ _, number_named P q (inside (result_from n t) C) other u.1 _ _ _, number_named P q C rest u.2 _ _ _)

-- a typed body's indirect calls name types
row_use : (D : Context Label) (i : Leaf Label) (a b : List (ValueType Label)) → Row D i a b → IsTypedUse D.types i
row_use D (CallIndirect y) a b r = r.2 ∙ ap Some (sym (ap (λ z. unwrap_or z no_function_type) r.2))
row_use D _ a b r = tt

pub typed_uses : (D : Context Label) (c : Code Label) (a b : List (ValueType Label)) → Typed D c a b → AreTypedUses D.types c
typed_uses D Stop a b d = tt
typed_uses D (Then i rest) a b d = (row_use D i a d.0 d.1, typed_uses D rest d.0 b d.2)
typed_uses D (Block t body rest) a b d = (typed_uses (inside t D) body _ _ d.0, typed_uses D rest _ _ d.1)
typed_uses D (Loop t body rest) a b d = (typed_uses (inside None D) body _ _ d.0, typed_uses D rest _ _ d.1)
typed_uses D (If t arm rest) a b d = (typed_uses (inside t D) arm _ _ d.1, typed_uses D rest _ _ d.4)
typed_uses D (IfElse t arm other rest) a b d = (typed_uses (inside t D) arm _ _ d.0, typed_uses (inside t D) other _ _ d.1, typed_uses D rest _ _ d.4)
