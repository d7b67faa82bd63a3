-- The sites of a module are numbered in the order of their names, and no two have one name.
use Rattle.std.proofs.Common.{◌≡◌, ◌≤◌, ◌<◌, ℕ, zero, suc, ◌+◌, List, [], ◌∷◌, ◌++◌, length, Option, Some, None, refl, sym, ◌∙◌, ap, subst, arith}
use Rattle.std.specs.Prelude.{◌==◌, option_map, slice_get, if◌then◌else◌}
use Rattle.std.specs.List.{AllByRecursion}
use Rattle.std.specs.declared.cmp.Ordering.{Ordering}
use Rattle.std.specs.declared.cmp.Ordering.TheVariants.{Less, Equal, Greater}
use Rattle.std.proofs.lemmas.Bool.Decides.{nat_tests}
use Rattle.ctw_ops.specs.declared.types.Label.{Label}
use Rattle.ctw_ops.specs.declared.types.Trust.TheVariants.{Untrusted}
use Rattle.ctw_ops.specs.Types.{ValueType, FunctionType, MemoryType}
use Rattle.ctw_ops.specs.Code.{Leaf, CallIndirect, Select, Numeric, Const, Code, Stop, Then, Block, Loop, If, IfElse}
use Rattle.ctw_ops.specs.Tree.{Module, Function, function_entries, global_types, memory_among, imported_functions, type_named}
use Rattle.ctw_ops.specs.Typing.{Context, inside}
use Rattle.ctw_stack.specs.Operands.{Operands, fresh}
use Rattle.ctw_labels.specs.declared.tag.Tag.{Tag}
use Rattle.ctw_labels.specs.declared.name.SiteName.{SiteName}
use Rattle.ctw_labels.specs.declared.name.SiteName.TheVariants.{Param, Result, GlobalOf, Memory as MemoryOf, Local, Block as BlockOf, Op as OpOf, Push as PushOf, IParam, IResult}
use Rattle.ctw_labels.specs.Names.{Site, site}
use Rattle.ctw_labels.specs.Points.{no_points}
use Rattle.ctw_labels.specs.Sited.{Lift}
use Rattle.ctw_labels.specs.Numbering.{result_from, params_from, type_from, sites_for, site_if, push_if, type_sites, opcode_count, named_in, BodyPlace, own_sites, leaf_lift, leaf_sites, block_sites, number}
use Rattle.ctw_labels.specs.SitedModule.{site_count, function_sites, head_sites, site_context, place_of, body_from, bodies_from, bodies, body_sites, first_defined, sites}
use Rattle.ctw_labels.proofs.NumberLaws.{all_append_to}
use Rattle.ctw_labels.specs.Order.{Key, key_of, key_order, order, name_at}

-- ---- keys

abbrev Before : Key → Key → Type 0
Before x y = key_order x y ≡ Less

by_part : (x y : Key) → x.0 < y.0 → Before x y
by_part x y a = grind (arith, nat_tests)

by_func : (x y : Key) → x.0 ≡ y.0 → x.1 < y.1 → Before x y
by_func x y e a = grind (arith, nat_tests)

by_at : (x y : Key) → x.0 ≡ y.0 → x.1 ≡ y.1 → x.2 < y.2 → Before x y
by_at x y e f a = grind (arith, nat_tests)

by_kind : (x y : Key) → x.0 ≡ y.0 → x.1 ≡ y.1 → x.2 ≤ y.2 → x.3 < y.3 → Before x y
by_kind x y e f g a = grind (arith, nat_tests)

by_index : (x y : Key) → x.0 ≡ y.0 → x.1 ≡ y.1 → x.2 ≡ y.2 → x.3 ≡ y.3 → x.4 < y.4 → Before x y
by_index x y e f g h a = grind (arith, nat_tests)

-- ---- lists whose keys rise

abbrev pub Each : (Key → Type 0) → List Site → Type 0
Each P xs = AllByRecursion (λ s. P (key_of s.name)) xs

abbrev pub Rising : List Site → Type 0
Rising [] = Unit {0}
Rising (x ∷ xs) = Each (Before (key_of x.name)) xs × Rising xs

each_append : (P : Key → Type 0) (xs ys : List Site) → Each P xs → Each P ys → Each P (xs ++ ys)
each_append P xs ys p q = all_append_to (λ s. P (key_of s.name)) xs ys p q

weaker : (P Q : Key → Type 0) → ((x : Key) → P x → Q x) → (xs : List Site) → Each P xs → Each Q xs
weaker P Q f [] h = tt
weaker P Q f (x ∷ xs) h = (f (key_of x.name) h.0, weaker P Q f xs h.1)

-- two lists of which each key of the first stands before each of the second
joined : (P Q : Key → Type 0) → ((x y : Key) → P x → Q y → Before x y) → (xs ys : List Site) → Each P xs → Each Q ys → Rising xs → Rising ys → Rising (xs ++ ys)
joined P Q f [] ys p q d e = e
joined P Q f (x ∷ xs) ys p q d e = (each_append (Before (key_of x.name)) xs ys d.0 (weaker Q (Before (key_of x.name)) (λ y k. f (key_of x.name) y p.0 k) ys q), joined P Q f xs ys p.1 q d.1 e)

-- names by number, which stand together
abbrev From : ℕ → ℕ → ℕ → ℕ → ℕ → Key → Type 0
From part func at kind i k = (k.0 ≡ part) × (k.1 ≡ func) × (k.2 ≡ at) × (k.3 ≡ kind) × (i ≤ k.4)

module _ (name : ℕ → SiteName) (part func at kind : ℕ) (is : (i : ℕ) → key_of (name i) ≡ (part, func, at, kind, i)) where
  from_here : (i : ℕ) → From part func at kind i (key_of (name i))
  from_here i = subst (From part func at kind i) (sym (is i)) (refl, refl, refl, refl, omega arith)

  all_from : {A : Type 0} (i : ℕ) (ts : List A) → Each (From part func at kind i) (sites_for name i ts)
  all_from i [] = tt
  all_from i (t ∷ ts) =
      (from_here i, weaker (From part func at kind (i + 1)) (From part func at kind i) (λ k h. (h.0, h.1, h.2, h.3, omega (arith, h.4))) (sites_for name (i + 1) ts) (all_from (i + 1) ts))

  rising_from : {A : Type 0} (i : ℕ) (ts : List A) → Rising (sites_for name i ts)
  rising_from i [] = tt
  rising_from i (t ∷ ts) =
      let h = from_here i in
      let e : (key_of (name i)).4 ≡ i = ap (λ (k : Key). k.4) (is i) in (
        weaker (From part func at kind (i + 1)) (Before (key_of (name i))) (λ k w. by_index (key_of (name i)) k (h.0 ∙ sym w.0) (h.1 ∙ sym w.1) (h.2 ∙ sym w.2) (h.3 ∙ sym w.3) (omega (arith, e, w.4))) (sites_for name (i + 1) ts) (all_from (i + 1) ts),
        rising_from (i + 1) ts,
      )

each_if : {A : Type 0} (P : Key → Type 0) (x : SiteName) → P (key_of x) → (o : Option A) → Each P (site_if x o)
each_if P x p None = tt
each_if P x p (Some y) = (p, tt)

one_if : {A : Type 0} (x : SiteName) (o : Option A) → Rising (site_if x o)
one_if x None = tt
one_if x (Some y) = (tt, tt)

each_push : (P : Key → Type 0) (x : SiteName) → P (key_of x) → (o : Option (Lift Tag)) → Each P (push_if x o)
each_push P x p None = tt
each_push P x p (Some y) = (p, tt)

one_push : (x : SiteName) (o : Option (Lift Tag)) → Rising (push_if x o)
one_push x None = tt
one_push x (Some y) = (tt, tt)

-- ---- code

-- a key of function f's code, at opcodes from lo to below hi
abbrev pub InCode : ℕ → ℕ → ℕ → Key → Type 0
InCode f lo hi k = (k.0 ≡ 3) × (k.1 ≡ f) × (lo ≤ k.2) × (k.2 < hi) × (0 < k.3)

-- one at an opcode, before its push
abbrev AtOwn : ℕ → ℕ → Key → Type 0
AtOwn f at k = (k.0 ≡ 3) × (k.1 ≡ f) × (k.2 ≡ at) × (0 < k.3) × (k.3 < 5)

abbrev AtPush : ℕ → ℕ → Key → Type 0
AtPush f at k = (k.0 ≡ 3) × (k.1 ≡ f) × (k.2 ≡ at) × (k.3 ≡ 5)

own_push : (f at : ℕ) (x y : Key) → AtOwn f at x → AtPush f at y → Before x y
own_push f at x y p q = by_kind x y (p.0 ∙ sym q.0) (p.1 ∙ sym q.1) (omega (arith, p.2, q.2)) (omega (arith, p.4, q.3))

own_within : (f at : ℕ) (x : Key) → AtOwn f at x → InCode f at (at + 1) x
own_within f at x p = (p.0, p.1, omega (arith, p.2), omega (arith, p.2), p.3)

push_within : (f at : ℕ) (x : Key) → AtPush f at x → InCode f at (at + 1) x
push_within f at x p = (p.0, p.1, omega (arith, p.2), omega (arith, p.2), omega (arith, p.3))

two_codes : (f lo mid hi : ℕ) (x y : Key) → InCode f lo mid x → InCode f mid hi y → Before x y
two_codes f lo mid hi x y p q = by_at x y (p.0 ∙ sym q.0) (p.1 ∙ sym q.1) (omega (arith, p.3, q.2))

wider : (f lo hi lo' hi' : ℕ) → lo' ≤ lo → hi ≤ hi' → (x : Key) → InCode f lo hi x → InCode f lo' hi' x
wider f lo hi lo' hi' p q x h = (h.0, h.1, omega (arith, h.2, p), omega (arith, h.3, q), h.4)

abbrev IsIResult : ℕ → ℕ → Key → Type 0
IsIResult f at k = (k.0 ≡ 3) × (k.1 ≡ f) × (k.2 ≡ at) × (k.3 ≡ 4)

module _ {A : Type 0} (P : BodyPlace A) where
  -- those of an indirect call before its push
  user_at : (at y : ℕ) → Each (AtOwn P.func at) (own_sites P at (CallIndirect y)) × Rising (own_sites P at (CallIndirect y))
  user_at at y =
      let g : FunctionType A = named_in P.types y in
      let S : List Site = sites_for (IParam P.func at) 0 g.params in
      let R : List Site = site_if (IResult P.func at) g.result in
      let a = all_from (IParam P.func at) 3 P.func at 3 (λ i. refl) 0 g.params in
      let r = each_if (IsIResult P.func at) (IResult P.func at) (refl, refl, refl, refl) g.result in (
        each_append (AtOwn P.func at) S R
            (weaker (From 3 P.func at 3 0) (AtOwn P.func at) (λ k h. (h.0, h.1, h.2, omega (arith, h.3), omega (arith, h.3))) S a)
            (weaker (IsIResult P.func at) (AtOwn P.func at) (λ k h. (h.0, h.1, h.2, omega (arith, h.3), omega (arith, h.3))) R r),
        joined (From 3 P.func at 3 0) (IsIResult P.func at) (λ x y p q. by_kind x y (p.0 ∙ sym q.0) (p.1 ∙ sym q.1) (omega (arith, p.2, q.2)) (omega (arith, p.3, q.3))) S R a r
            (rising_from (IParam P.func at) 3 P.func at 3 (λ i. refl) 0 g.params) (one_if (IResult P.func at) g.result),
      )

  abbrev Good : ℕ → ℕ → List Site → Type 0
  Good lo hi xs = Each (InCode P.func lo hi) xs × Rising xs

  with_push : (at : ℕ) (own : List Site) → Each (AtOwn P.func at) own → Rising own → (l : Option (Lift Tag)) → Good at (at + 1) (own ++ push_if (PushOf P.func at) l)
  with_push at own p d l =
      let R : List Site = push_if (PushOf P.func at) l in
      let q = each_push (AtPush P.func at) (PushOf P.func at) (refl, refl, refl, refl) l in (
        each_append (InCode P.func at (at + 1)) own R (weaker (AtOwn P.func at) (InCode P.func at (at + 1)) (own_within P.func at) own p) (weaker (AtPush P.func at) (InCode P.func at (at + 1)) (push_within P.func at) R q),
        joined (AtOwn P.func at) (AtPush P.func at) (own_push P.func at) own R p q d (one_push (PushOf P.func at) l),
      )

  leaf_good : (C : Context Tag) (n at : ℕ) (i : Leaf A) (s : Operands Tag) → Good at (at + 1) (leaf_sites P C n at i s)
  leaf_good C n at (Const w l b) s = (((refl, refl, omega arith, omega arith, omega arith), tt), (tt, tt))
  leaf_good C n at (Numeric op l) s = with_push at (site (OpOf P.func at) ∷ []) ((refl, refl, refl, omega arith, omega arith), tt) (tt, tt) (leaf_lift P C n at (Numeric op l) s)
  leaf_good C n at (Select l) s = with_push at (site (OpOf P.func at) ∷ []) ((refl, refl, refl, omega arith, omega arith), tt) (tt, tt) (leaf_lift P C n at (Select l) s)
  leaf_good C n at (CallIndirect y) s = let o = user_at at y in with_push at (own_sites P at (CallIndirect y)) o.0 o.1 (leaf_lift P C n at (CallIndirect y) s)
  leaf_good C n at i s = with_push at [] tt tt (leaf_lift P C n at i s)

  block_good : (n at : ℕ) (t : Option (ValueType A)) → Good at (at + 1) (block_sites P.func at n t)
  block_good n at None = (tt, tt)
  block_good n at (Some t) = (
    ((refl, refl, omega arith, omega arith, omega arith), ((refl, refl, omega arith, omega arith, omega arith), tt)),
    ((by_kind (key_of (BlockOf P.func at)) (key_of (PushOf P.func at)) refl refl (omega arith) (omega arith), tt), (tt, tt)),
  )

  good_to : (lo hi lo' hi' : ℕ) (xs : List Site) → lo' ≤ lo → hi ≤ hi' → Good lo hi xs → Good lo' hi' xs
  good_to lo hi lo' hi' xs p q h = (weaker (InCode P.func lo hi) (InCode P.func lo' hi') (wider P.func lo hi lo' hi' p q) xs h.0, h.1)

  both : (lo mid hi : ℕ) (xs ys : List Site) → lo ≤ mid → mid ≤ hi → Good lo mid xs → Good mid hi ys → Good lo hi (xs ++ ys)
  both lo mid hi xs ys p q h k = (
    each_append (InCode P.func lo hi) xs ys (good_to lo mid lo hi xs (omega arith) q h).0 (good_to mid hi lo hi ys p (omega arith) k).0,
    joined (InCode P.func lo mid) (InCode P.func mid hi) (two_codes P.func lo mid hi) xs ys h.0 k.0 h.1 k.1,
  )

  -- the sites of code rise, at its opcodes
  pub number_good : (C : Context Tag) (c : Code A) (n at : ℕ) (s : Operands Tag) → Good at (at + opcode_count c) (number P C c n at s).sites
  number_good C Stop n at s = (tt, tt)
  number_good C (Then i rest) n at s =
      both at (at + 1) (at + (1 + opcode_count rest)) (leaf_sites P C n at i s) _ (omega arith) (omega arith) (leaf_good C n at i s)
      (good_to (at + 1) (at + 1 + opcode_count rest) (at + 1) (at + (1 + opcode_count rest)) _ (omega arith) (omega arith) (number_good C rest _ _ _))
  number_good C (Block t body rest) n at s =
      both at (at + opcode_count body + 2) (at + (opcode_count body + 2 + opcode_count rest)) _ _ (omega arith) (omega arith)
      (good_to at (at + 1 + opcode_count body) at (at + opcode_count body + 2) _ (omega arith) (omega arith) (both at (at + 1) (at + 1 + opcode_count body) (block_sites P.func at n t) _ (omega arith) (omega arith) (block_good n at t) (number_good (inside (result_from n t) C) body _ _ _)))
      (good_to (at + opcode_count body + 2) (at + opcode_count body + 2 + opcode_count rest) (at + opcode_count body + 2) (at + (opcode_count body + 2 + opcode_count rest)) _ (omega arith) (omega arith) (number_good C rest _ _ _))
  number_good C (Loop t body rest) n at s =
      both at (at + opcode_count body + 2) (at + (opcode_count body + 2 + opcode_count rest)) _ _ (omega arith) (omega arith)
      (good_to at (at + 1 + opcode_count body) at (at + opcode_count body + 2) _ (omega arith) (omega arith) (both at (at + 1) (at + 1 + opcode_count body) (block_sites P.func at n t) _ (omega arith) (omega arith) (block_good n at t) (number_good (inside None C) body _ _ _)))
      (good_to (at + opcode_count body + 2) (at + opcode_count body + 2 + opcode_count rest) (at + opcode_count body + 2) (at + (opcode_count body + 2 + opcode_count rest)) _ (omega arith) (omega arith) (number_good C rest _ _ _))
  number_good C (If t arm rest) n at s =
      both at (at + opcode_count arm + 2) (at + (opcode_count arm + 2 + opcode_count rest)) _ _ (omega arith) (omega arith)
      (good_to at (at + 1 + opcode_count arm) at (at + opcode_count arm + 2) _ (omega arith) (omega arith) (both at (at + 1) (at + 1 + opcode_count arm) (block_sites P.func at n t) _ (omega arith) (omega arith) (block_good n at t) (number_good (inside (result_from n t) C) arm _ _ _)))
      (good_to (at + opcode_count arm + 2) (at + opcode_count arm + 2 + opcode_count rest) (at + opcode_count arm + 2) (at + (opcode_count arm + 2 + opcode_count rest)) _ (omega arith) (omega arith) (number_good C rest _ _ _))
  number_good C (IfElse t arm other rest) n at s =
      both at (at + opcode_count arm + opcode_count other + 3) (at + (opcode_count arm + opcode_count other + 3 + opcode_count rest)) _ _ (omega arith) (omega arith)
      (both at (at + opcode_count arm + 2) (at + opcode_count arm + opcode_count other + 3) _ _ (omega arith) (omega arith)
      (good_to at (at + 1 + opcode_count arm) at (at + opcode_count arm + 2) _ (omega arith) (omega arith) (both at (at + 1) (at + 1 + opcode_count arm) (block_sites P.func at n t) _ (omega arith) (omega arith) (block_good n at t) (number_good (inside (result_from n t) C) arm _ _ _)))
      (good_to (at + opcode_count arm + 2) (at + opcode_count arm + 2 + opcode_count other) (at + opcode_count arm + 2) (at + opcode_count arm + opcode_count other + 3) _ (omega arith) (omega arith) (number_good (inside (result_from n t) C) other _ _ _)))
      (good_to (at + opcode_count arm + opcode_count other + 3) (at + opcode_count arm + opcode_count other + 3 + opcode_count rest) (at + opcode_count arm + opcode_count other + 3) (at + (opcode_count arm + opcode_count other + 3 + opcode_count rest)) _ (omega arith) (omega arith) (number_good C rest _ _ _))

-- ---- functions, globals and the memory

abbrev FuncAt : ℕ → Key → Type 0
FuncAt f k = (k.0 ≡ 0) × (k.1 ≡ f)

abbrev FuncFrom : ℕ → Key → Type 0
FuncFrom f k = (k.0 ≡ 0) × (f ≤ k.1)

abbrev ResultOf : ℕ → Key → Type 0
ResultOf f k = (k.0 ≡ 0) × (k.1 ≡ f) × (k.2 ≡ 0) × (k.3 ≡ 1)

type_good : (f : ℕ) (g : FunctionType Label) → Each (FuncAt f) (type_sites (Param f) (Result f) g) × Rising (type_sites (Param f) (Result f) g)
type_good f g =
    let S : List Site = sites_for (Param f) 0 g.params in
    let R : List Site = site_if (Result f) g.result in
    let a = all_from (Param f) 0 f 0 0 (λ i. refl) 0 g.params in
    let r = each_if (ResultOf f) (Result f) (refl, refl, refl, refl) g.result in (
      each_append (FuncAt f) S R (weaker (From 0 f 0 0 0) (FuncAt f) (λ k h. (h.0, h.1)) S a) (weaker (ResultOf f) (FuncAt f) (λ k h. (h.0, h.1)) R r),
      joined (From 0 f 0 0 0) (ResultOf f) (λ x y p q. by_kind x y (p.0 ∙ sym q.0) (p.1 ∙ sym q.1) (omega (arith, p.2, q.2)) (omega (arith, p.3, q.3))) S R a r
          (rising_from (Param f) 0 f 0 0 (λ i. refl) 0 g.params) (one_if (Result f) g.result),
    )

functions_good : (m : Module Label) (k : ℕ) (ys : List ℕ) → Each (FuncFrom k) (function_sites m k ys) × Rising (function_sites m k ys)
functions_good m k [] = (tt, tt)
functions_good m k (y ∷ ys) =
    let own : List Site = type_sites (Param k) (Result k) (type_named m y) in
    let rest : List Site = function_sites m (k + 1) ys in
    let h = type_good k (type_named m y) in
    let r = functions_good m (k + 1) ys in (
      each_append (FuncFrom k) own rest (weaker (FuncAt k) (FuncFrom k) (λ x p. (p.0, omega (arith, p.1))) own h.0) (weaker (FuncFrom (k + 1)) (FuncFrom k) (λ x p. (p.0, omega (arith, p.1))) rest r.0),
      joined (FuncAt k) (FuncFrom (k + 1)) (λ x y p q. by_func x y (p.0 ∙ sym q.0) (omega (arith, p.1, q.1))) own rest h.0 r.0 h.1 r.1,
    )

abbrev IsPart : ℕ → Key → Type 0
IsPart part k = k.0 ≡ part

abbrev InPart : ℕ → ℕ → Key → Type 0
InPart lo hi k = (lo ≤ k.0) × (k.0 < hi)

memory_good : (o : Option (MemoryType Label)) → Each (IsPart 2) (site_if MemoryOf o) × Rising (site_if MemoryOf o)
memory_good None = (tt, tt)
memory_good (Some l) = ((refl, tt), (tt, tt))

rows : (lo mid hi : ℕ) (xs ys : List Site) → lo ≤ mid → mid ≤ hi → Each (InPart lo mid) xs × Rising xs → Each (InPart mid hi) ys × Rising ys → Each (InPart lo hi) (xs ++ ys) × Rising (xs ++ ys)
rows lo mid hi xs ys p q h k = (
  each_append (InPart lo hi) xs ys (weaker (InPart lo mid) (InPart lo hi) (λ x w. (w.0, omega (arith, w.1, q))) xs h.0) (weaker (InPart mid hi) (InPart lo hi) (λ x w. (omega (arith, w.0, p), w.1)) ys k.0),
  joined (InPart lo mid) (InPart mid hi) (λ x y w v. by_part x y (omega (arith, w.1, v.0))) xs ys h.0 k.0 h.1 k.1,
)

abbrev GlobalFrom : ℕ → Key → Type 0
GlobalFrom i k = (k.0 ≡ 1) × (i ≤ k.1)

globals_good : {A : Type 0} (i : ℕ) (gs : List A) → Each (GlobalFrom i) (sites_for GlobalOf i gs) × Rising (sites_for GlobalOf i gs)
globals_good i [] = (tt, tt)
globals_good i (g ∷ gs) =
    let r = globals_good (i + 1) gs in
    let rest : List Site = sites_for GlobalOf (i + 1) gs in (
      ((refl, omega arith), weaker (GlobalFrom (i + 1)) (GlobalFrom i) (λ x p. (p.0, omega (arith, p.1))) rest r.0),
      (weaker (GlobalFrom (i + 1)) (Before (key_of (GlobalOf i))) (λ x p. by_func (key_of (GlobalOf i)) x (sym p.0) (omega (arith, p.1))) rest r.0, r.1),
    )

head_good : (m : Module Label) → Each (InPart 0 3) (head_sites m) × Rising (head_sites m)
head_good m =
    let F : List Site = function_sites m 0 (function_entries m) in
    let G : List Site = sites_for GlobalOf 0 (global_types m) in
    let M : List Site = site_if MemoryOf (memory_among m.imports m.memory) in
    let f = functions_good m 0 (function_entries m) in
    let g = globals_good 0 (global_types m) in
    let k = memory_good (memory_among m.imports m.memory) in
    rows 0 1 3 F (G ++ M) (omega arith) (omega arith)
    (weaker (FuncFrom 0) (InPart 0 1) (λ x p. (omega arith, omega (arith, p.0))) F f.0, f.1)
    (rows 1 2 3 G M (omega arith) (omega arith)
    (weaker (GlobalFrom 0) (InPart 1 2) (λ x p. (omega (arith, p.0), omega (arith, p.0))) G g.0, g.1)
    (weaker (IsPart 2) (InPart 2 3) (λ x p. (omega (arith, p), omega (arith, p))) M k.0, k.1))

-- ---- bodies

abbrev BodyAt : ℕ → Key → Type 0
BodyAt f k = (k.0 ≡ 3) × (k.1 ≡ f)

abbrev BodyFrom : ℕ → Key → Type 0
BodyFrom f k = (k.0 ≡ 3) × (f ≤ k.1)

body_good : (m : Module Label) (q k n : ℕ) (f : Function Label) → Each (BodyAt k) (body_from m no_points q k n f).sites × Rising (body_from m no_points q k n f).sites
body_good m q k n f =
    let g : FunctionType Label = type_named m f.type in
    let p : ℕ = length g.params in
    let C : Context Tag = site_context m Untrusted (type_from q g) (params_from n f.locals) in
    let L : List Site = sites_for (Local k) p f.locals in
    let B : List Site = (number (place_of m no_points k) C f.body (n + length f.locals) 0 fresh).sites in
    let hi : ℕ = 0 + opcode_count f.body in
    let h = number_good (place_of m no_points k) C f.body (n + length f.locals) 0 fresh in
    let a = all_from (Local k) 3 k 0 0 (λ i. refl) p f.locals in (
      each_append (BodyAt k) L B (weaker (From 3 k 0 0 p) (BodyAt k) (λ x w. (w.0, w.1)) L a) (weaker (InCode k 0 hi) (BodyAt k) (λ x w. (w.0, w.1)) B h.0),
      joined (From 3 k 0 0 p) (InCode k 0 hi) (λ x y w v. by_kind x y (w.0 ∙ sym v.0) (w.1 ∙ sym v.1) (omega (arith, w.2)) (omega (arith, w.3, v.4))) L B a h.0
          (rising_from (Local k) 3 k 0 0 (λ i. refl) p f.locals) h.1,
    )

bodies_good : (m : Module Label) (q k n : ℕ) (fs : List (Function Label)) → Each (BodyFrom k) (body_sites (bodies_from m no_points q k n fs)) × Rising (body_sites (bodies_from m no_points q k n fs))
bodies_good m q k n [] = (tt, tt)
bodies_good m q k n (f ∷ fs) =
    let own : List Site = (body_from m no_points q k n f).sites in
    let p : ℕ = q + site_count (type_named m f.type) in
    let rest : List Site = body_sites (bodies_from m no_points p (k + 1) (n + length own) fs) in
    let h = body_good m q k n f in
    let r = bodies_good m p (k + 1) (n + length own) fs in (
      each_append (BodyFrom k) own rest (weaker (BodyAt k) (BodyFrom k) (λ x w. (w.0, omega (arith, w.1))) own h.0) (weaker (BodyFrom (k + 1)) (BodyFrom k) (λ x w. (w.0, omega (arith, w.1))) rest r.0),
      joined (BodyAt k) (BodyFrom (k + 1)) (λ x y w v. by_func x y (w.0 ∙ sym v.0) (omega (arith, w.1, v.1))) own rest h.0 r.0 h.1 r.1,
    )

-- the sites of a module rise
pub sites_rise : (m : Module Label) → Rising (sites m)
sites_rise m =
    let k : ℕ = length (imported_functions m.imports) in
    let B : List Site = body_sites (bodies m no_points) in
    let b = bodies_good m (first_defined m) k (length (head_sites m)) m.functions in
    (rows 0 3 4 (head_sites m) B (omega arith) (omega arith) (head_good m) (weaker (BodyFrom k) (InPart 3 4) (λ x w. (omega (arith, w.0), omega (arith, w.0))) B b.0, b.1)).1

-- ---- by number

name_in : (P : Key → Type 0) (xs : List Site) → Each P xs → (k : ℕ) (a : SiteName) → name_at xs k ≡ Some a → P (key_of a)
name_in P [] h k a e = absurd (none_here e)
  where
    none_here : name_at [] k ≡ Some a → ⊥
    none_here e = cc
name_in P (x ∷ xs) h zero a e = let q : x.name ≡ a = cc in subst (λ z. P (key_of z)) q h.0
name_in P (x ∷ xs) h (suc k) a e = name_in P xs h.1 k a e

pub rising_at : (xs : List Site) → Rising xs → (j k : ℕ) (a b : SiteName) → j < k → name_at xs j ≡ Some a → name_at xs k ≡ Some b → order a b ≡ Less
rising_at [] h j k a b lt e f = absurd (none_here e)
  where
    none_here : name_at [] j ≡ Some a → ⊥
    none_here e = cc
rising_at (x ∷ xs) h zero zero a b lt e f = absurd (omega (arith, lt))
rising_at (x ∷ xs) h zero (suc k) a b lt e f = let q : x.name ≡ a = cc in subst (λ z. Before (key_of z) (key_of b)) q (name_in (Before (key_of x.name)) xs h.0 k b f)
rising_at (x ∷ xs) h (suc j) zero a b lt e f = absurd (omega (arith, lt))
rising_at (x ∷ xs) h (suc j) (suc k) a b lt e f = rising_at xs h.1 j k a b (omega (arith, lt)) e f

-- ---- the order is one

pub not_before_itself : (x : Key) → key_order x x ≡ Less → ⊥
not_before_itself x e = grind (arith, nat_tests)

pub not_behind_itself : (x : Key) → key_order x x ≡ Greater → ⊥
not_behind_itself x e = grind (arith, nat_tests)

pub not_both_ways : (x y : Key) → key_order x y ≡ Less → key_order y x ≡ Less → ⊥
not_both_ways x y e f = grind (arith, nat_tests)

same_key : (x y : Key) → key_order x y ≡ Equal → (x.0 ≡ y.0) × (x.1 ≡ y.1) × (x.2 ≡ y.2) × (x.3 ≡ y.3) × (x.4 ≡ y.4)
same_key x y e = (grind (arith, nat_tests), grind (arith, nat_tests), grind (arith, nat_tests), grind (arith, nat_tests), grind (arith, nat_tests))

-- the name that a key is of
abbrev named : Key → SiteName
named k =
    if k.0 == 0 then (if k.3 == 0 then Param k.1 k.4 else Result k.1)
    else if k.0 == 1 then GlobalOf k.1
    else if k.0 == 2 then MemoryOf
    else if k.3 == 0 then Local k.1 k.4
    else if k.3 == 1 then BlockOf k.1 k.2
    else if k.3 == 2 then OpOf k.1 k.2
    else if k.3 == 3 then IParam k.1 k.2 k.4
    else if k.3 == 4 then IResult k.1 k.2
    else PushOf k.1 k.2

named_back : (a : SiteName) → named (key_of a) ≡ a
named_back (Param f i) = refl
named_back (Result f) = refl
named_back (GlobalOf g) = refl
named_back MemoryOf = refl
named_back (Local f i) = refl
named_back (BlockOf f at) = refl
named_back (OpOf f at) = refl
named_back (PushOf f at) = refl
named_back (IParam f at i) = refl
named_back (IResult f at) = refl

pub same_name : (a b : SiteName) → order a b ≡ Equal → a ≡ b
same_name a b e =
    let k = same_key (key_of a) (key_of b) e in
    sym (named_back a) ∙ (λ j. named (k.0 j, k.1 j, k.2 j, k.3 j, k.4 j)) ∙ named_back b

-- the order of names is that of their keys
pub compared : (u v : Key) (a x : SiteName) (r s : Ordering) → u ≡ key_of a → v ≡ key_of x → r ≡ key_order u v → r ≡ s → order a x ≡ s
compared u v a x r s e f g h = (λ j. key_order (sym e j) (sym f j)) ∙ sym g ∙ h

-- ---- a name among sites in order

-- a number that has a name is below the count
pub name_below : (xs : List Site) (k : ℕ) (a : SiteName) → name_at xs k ≡ Some a → k < length xs
name_below [] k a e = absurd (none_here e)
  where
    none_here : name_at [] k ≡ Some a → ⊥
    none_here e = cc
name_below (x ∷ xs) zero a e = omega arith
name_below (x ∷ xs) (suc k) a e = let r = name_below xs k a e in omega (arith, r)

pub by_place : {Q : Type 0} (k m : ℕ) → (k < m → Q) → (k ≡ m → Q) → (m < k → Q) → Q
by_place zero zero f g h = g refl
by_place zero (suc m) f g h = f (omega arith)
by_place (suc k) zero f g h = h (omega arith)
by_place (suc k) (suc m) f g h = by_place k m (λ l. f (omega (arith, l))) (λ e. g (ap suc e)) (λ l. h (omega (arith, l)))

pub one_place : (m : Module Label) (j k : ℕ) (s t : Site) → slice_get (sites m) j ≡ Some s → slice_get (sites m) k ≡ Some t → s.name ≡ t.name → j ≡ k
one_place m j k s t e f n =
    let r = rising_at (sites m) (sites_rise m) in
    let p : name_at (sites m) j ≡ Some s.name = ap (option_map (λ (x : Site). x.name)) e in
    let q : name_at (sites m) k ≡ Some t.name = ap (option_map (λ (x : Site). x.name)) f in
    by_place j k (λ l. absurd (not_before_itself (key_of t.name) (subst (λ z. order z t.name ≡ Less) n (r j k s.name t.name l p q)))) (λ w. w)
    (λ l. absurd (not_before_itself (key_of t.name) (subst (λ z. order t.name z ≡ Less) n (r k j t.name s.name l q p))))
