-- Which names the sites of a module have.
use Rattle.std.proofs.Common.{◌≡◌, ◌≤◌, ◌<◌, ℕ, zero, suc, ◌+◌, ◌-◌, List, [], ◌∷◌, ◌++◌, length, map, Option, Some, None, ◌⊎◌, inl, inr, refl, sym, ◌∙◌, ap, subst, arith, length-append}
use Rattle.std.specs.Prelude.{IsSome, option_map, slice_get, if◌then◌else◌}
use Rattle.std.specs.List.{AllByRecursion}
use Rattle.std.proofs.lemmas.Bool.{false≢true}
use Rattle.std.proofs.lemmas.List.{length-map}
use Rattle.std.proofs.lemmas.Option.{slice_get-map}
use borrow.Author.Tests.{le-ltb}
use Rattle.ctw_form.proofs.Params.{slice_get_right}
use Rattle.ctw_lex.proofs.Facts.{some_same, none_some}
use Rattle.ctw_ops.specs.declared.types.Label.{Label}
use Rattle.ctw_ops.specs.declared.types.Trust.TheVariants.{Untrusted}
use Rattle.ctw_ops.specs.Types.{FunctionType}
use Rattle.ctw_ops.specs.Tree.{Module, Function, function_entries, global_types, imported_functions, memory_among, type_named}
use Rattle.ctw_ops.specs.Typing.{Context}
use Rattle.ctw_module.specs.Lookup.{imported_count, function_named, locals_named, locals_of_some}
use Rattle.ctw_stack.specs.Operands.{fresh}
use Rattle.ctw_labels.specs.declared.tag.Tag.{Tag}
use Rattle.ctw_labels.specs.declared.name.SiteName.{SiteName}
use Rattle.ctw_labels.specs.declared.name.SiteName.TheVariants.{Param, Result, GlobalOf, Memory, Local, Push}
use Rattle.ctw_labels.specs.Names.{Site}
use Rattle.ctw_labels.specs.Order.{Key, key_of, name_at}
use Rattle.ctw_labels.specs.Points.{no_points}
use Rattle.ctw_labels.specs.Numbering.{params_from, type_from, sites_for, site_if, type_sites, opcode_count, number}
use Rattle.ctw_labels.specs.SitedModule.{site_count, function_sites, head_sites, site_context, place_of, first_defined, numbered_body, body_from, bodies_from, bodies, body_sites, sites}
use Rattle.ctw_labels.proofs.NameLaws.{by_place, number_good}
use Rattle.ctw_marks.specs.Meaning.{HasName, HasSite}
use Rattle.ctw_marks.specs.Places.{IsParam, IsResult, IsGlobal, IsMemory, IsLocal}

-- ---- a name among sites

abbrev pub InNames : SiteName → List Site → Type 0
InNames n [] = ⊥
InNames n (x ∷ xs) = (x.name ≡ n) ⊎ InNames n xs

pub in_right : (n : SiteName) (xs ys : List Site) → InNames n ys → InNames n (xs ++ ys)
in_right n [] ys h = h
in_right n (x ∷ xs) ys h = inr (in_right n xs ys h)

pub in_left : (n : SiteName) (xs ys : List Site) → InNames n xs → InNames n (xs ++ ys)
in_left n [] ys h = absurd h
in_left n (x ∷ xs) ys (inl e) = inl e
in_left n (x ∷ xs) ys (inr h) = inr (in_left n xs ys h)

pub in_either : (n : SiteName) (xs ys : List Site) → InNames n (xs ++ ys) → InNames n xs ⊎ InNames n ys
in_either n [] ys h = inr h
in_either n (x ∷ xs) ys (inl e) = inl (inl e)
in_either n (x ∷ xs) ys (inr h) = further (in_either n xs ys h)
  where
    further : InNames n xs ⊎ InNames n ys → InNames n (x ∷ xs) ⊎ InNames n ys
    further (inl p) = inl (inr p)
    further (inr q) = inr q

no_name : (n : SiteName) (k : ℕ) → name_at [] k ≡ Some n → ⊥
no_name n k e = cc

pub in_from : (n : SiteName) (xs : List Site) → HasName n xs → InNames n xs
in_from n xs h = go xs h.0 h.1
  where
    go : (xs : List Site) (k : ℕ) → name_at xs k ≡ Some n → InNames n xs
    go [] k e = absurd (no_name n k e)
    go (x ∷ xs) zero e = inl (some_same e)
    go (x ∷ xs) (suc k) e = inr (go xs k e)

pub in_to : (n : SiteName) (xs : List Site) → InNames n xs → HasName n xs
in_to n [] h = absurd h
in_to n (x ∷ xs) (inl e) = (0, ap (λ z. Some z) e)
in_to n (x ∷ xs) (inr h) = let r = in_to n xs h in (suc r.0, r.1)

each_in : (P : Key → Type 0) (n : SiteName) (xs : List Site) → AllByRecursion (λ s. P (key_of s.name)) xs → InNames n xs → P (key_of n)
each_in P n [] a h = absurd h
each_in P n (x ∷ xs) a (inl e) = subst (λ z. P (key_of z)) e a.0
each_in P n (x ∷ xs) a (inr h) = each_in P n xs a.1 h

-- ---- the sites for the items of a list

pub record Numbered (name : ℕ → SiteName) (s c : ℕ) (n : SiteName) : Type 0 where
  pub i : ℕ
  pub from : s ≤ i
  pub below : i < s + c
  pub is : name i ≡ n

pub for_in : {A : Type 0} (name : ℕ → SiteName) (n : SiteName) (s : ℕ) (xs : List A) → InNames n (sites_for name s xs) → Numbered name s (length xs) n
for_in name n s [] h = absurd h
for_in name n s (x ∷ xs) (inl e) = record { i = s; from = omega arith; below = omega arith; is = e }
for_in name n s (x ∷ xs) (inr h) =
    let r = for_in name n (s + 1) xs h in
    record { i = r.i; from = omega (arith, r.from); below = omega (arith, r.below); is = r.is }

for_out : {A : Type 0} (name : ℕ → SiteName) (s : ℕ) (xs : List A) (i : ℕ) → s ≤ i → i < s + length xs → InNames (name i) (sites_for name s xs)
for_out name s [] i a b = absurd (omega (arith, a, b))
for_out name s (x ∷ xs) i a b =
    by_place s i (λ lt. inr (for_out name (s + 1) xs i (omega (arith, lt)) (omega (arith, b)))) (λ e. inl (ap name e)) (λ lt. absurd (omega (arith, lt, a)))

pub if_in : {A : Type 0} (name n : SiteName) (o : Option A) → InNames n (site_if name o) → (name ≡ n) × IsSome o
if_in name n None h = absurd h
if_in name n (Some x) (inl e) = (e, refl)
if_in name n (Some x) (inr h) = absurd h

if_out : {A : Type 0} (name : SiteName) (o : Option A) → IsSome o → InNames name (site_if name o)
if_out name None h = absurd (false≢true h)
if_out name (Some x) h = inl refl

-- ---- functions

-- a name of the function `f` with this type
abbrev pub OfType : FunctionType Label → ℕ → SiteName → Type 0
OfType g f n = Numbered (Param f) 0 (length g.params) n ⊎ ((Result f ≡ n) × IsSome g.result)

type_in : (f : ℕ) (g : FunctionType Label) (n : SiteName) → InNames n (type_sites (Param f) (Result f) g) → OfType g f n
type_in f g n h = go (in_either n (sites_for (Param f) 0 g.params) (site_if (Result f) g.result) h)
  where
    go : InNames n (sites_for (Param f) 0 g.params) ⊎ InNames n (site_if (Result f) g.result) → OfType g f n
    go (inl p) = inl (for_in (Param f) n 0 g.params p)
    go (inr q) = inr (if_in (Result f) n g.result q)

pub record OfFunction (m : Module Label) (k : ℕ) (ys : List ℕ) (n : SiteName) : Type 0 where
  pub j : ℕ
  pub y : ℕ
  pub there : slice_get ys j ≡ Some y
  pub named : OfType (type_named m y) (k + j) n

pub functions_in : (m : Module Label) (k : ℕ) (ys : List ℕ) (n : SiteName) → InNames n (function_sites m k ys) → OfFunction m k ys n
functions_in m k [] n h = absurd h
functions_in m k (y ∷ ys) n h = go (λ q. functions_in m (k + 1) ys n q) (in_either n (type_sites (Param k) (Result k) (type_named m y)) (function_sites m (k + 1) ys) h)
  where
    go : (InNames n (function_sites m (k + 1) ys) → OfFunction m (k + 1) ys n) → InNames n (type_sites (Param k) (Result k) (type_named m y)) ⊎ InNames n (function_sites m (k + 1) ys) → OfFunction m k (y ∷ ys) n
    go more (inl p) =
        let e : k ≡ k + 0 = omega arith in
        record { j = 0; y = y; there = refl; named = subst (λ z. OfType (type_named m y) z n) e (type_in k (type_named m y) n p) }
    go more (inr q) =
        let r = more q in
        let e : k + 1 + r.j ≡ k + suc r.j = omega arith in
        record { j = suc r.j; y = r.y; there = r.there; named = subst (λ z. OfType (type_named m r.y) z n) e r.named }

functions_out : (m : Module Label) (k : ℕ) (ys : List ℕ) (j y : ℕ) (n : SiteName) → slice_get ys j ≡ Some y → InNames n (type_sites (Param (k + j)) (Result (k + j)) (type_named m y)) → InNames n (function_sites m k ys)
functions_out m k [] j y n e h = absurd (none_some e)
functions_out m k (x ∷ ys) zero y n e h =
    let a : y ≡ x = sym (some_same e) in
    let b : k + 0 ≡ k = omega arith in
    in_left n (type_sites (Param k) (Result k) (type_named m x)) (function_sites m (k + 1) ys) (subst (λ z. InNames n (type_sites (Param z) (Result z) (type_named m x))) b (subst (λ z. InNames n (type_sites (Param (k + 0)) (Result (k + 0)) (type_named m z))) a h))
functions_out m k (x ∷ ys) (suc j) y n e h =
    let b : k + suc j ≡ k + 1 + j = omega arith in
    in_right n (type_sites (Param k) (Result k) (type_named m x)) (function_sites m (k + 1) ys) (functions_out m (k + 1) ys j y n e (subst (λ z. InNames n (type_sites (Param z) (Result z) (type_named m y))) b h))

-- ---- bodies

-- a name of code
abbrev IsCode : SiteName → Type 0
IsCode n = ((key_of n).0 ≡ 3) × (0 < (key_of n).3)

record OfBody (m : Module Label) (k : ℕ) (fs : List (Function Label)) (n : SiteName) : Type 0 where
  j : ℕ
  F : Function Label
  there : slice_get fs j ≡ Some F
  named : Numbered (Local (k + j)) (length (type_named m F.type).params) (length F.locals) n ⊎ IsCode n

body_in : (m : Module Label) (q k s : ℕ) (F : Function Label) (n : SiteName) → InNames n (body_from m no_points q k s F).sites
    → Numbered (Local k) (length (type_named m F.type).params) (length F.locals) n ⊎ IsCode n
body_in m q k s F n h = go (in_either n L B h)
  where
    C : Context Tag
    C = site_context m Untrusted (type_from q (type_named m F.type)) (params_from s F.locals)

    L : List Site
    L = sites_for (Local k) (length (type_named m F.type).params) F.locals

    B : List Site
    B = (number (place_of m no_points k) C F.body (s + length F.locals) 0 fresh).sites

    go : InNames n L ⊎ InNames n B → Numbered (Local k) (length (type_named m F.type).params) (length F.locals) n ⊎ IsCode n
    go (inl p) = inl (for_in (Local k) n (length (type_named m F.type).params) F.locals p)
    go (inr p) =
        let g = number_good (place_of m no_points k) C F.body (s + length F.locals) 0 fresh in
        inr (each_in (λ x. (x.0 ≡ 3) × (0 < x.3)) n B (weaker B g.0) p)
      where
        weaker : (xs : List Site) → AllByRecursion (λ z. ((key_of z.name).0 ≡ 3) × ((key_of z.name).1 ≡ k) × (0 ≤ (key_of z.name).2) × ((key_of z.name).2 < 0 + opcode_count F.body) × (0 < (key_of z.name).3)) xs → AllByRecursion (λ z. ((key_of z.name).0 ≡ 3) × (0 < (key_of z.name).3)) xs
        weaker [] w = tt
        weaker (x ∷ xs) w = ((w.0.0, w.0.4), weaker xs w.1)

bodies_in : (m : Module Label) (q k s : ℕ) (fs : List (Function Label)) (n : SiteName) → InNames n (body_sites (bodies_from m no_points q k s fs)) → OfBody m k fs n
bodies_in m q k s [] n h = absurd h
bodies_in m q k s (f ∷ fs) n h = go (λ p. bodies_in m (q + site_count (type_named m f.type)) (k + 1) (s + length (body_from m no_points q k s f).sites) fs n p) (in_either n B R h)
  where
    B : List Site
    B = (body_from m no_points q k s f).sites

    R : List Site
    R = body_sites (bodies_from m no_points (q + site_count (type_named m f.type)) (k + 1) (s + length (body_from m no_points q k s f).sites) fs)

    go : (InNames n R → OfBody m (k + 1) fs n) → InNames n B ⊎ InNames n R → OfBody m k (f ∷ fs) n
    go more (inl p) =
        let e : k ≡ k + 0 = omega arith in
        record { j = 0; F = f; there = refl; named = subst (λ z. Numbered (Local z) (length (type_named m f.type).params) (length f.locals) n ⊎ IsCode n) e (body_in m q k s f n p) }
    go more (inr p) =
        let r = more p in
        let e : k + 1 + r.j ≡ k + suc r.j = omega arith in
        record { j = suc r.j; F = r.F; there = r.there; named = subst (λ z. Numbered (Local z) (length (type_named m r.F.type).params) (length r.F.locals) n ⊎ IsCode n) e r.named }

local_out : (m : Module Label) (q k s : ℕ) (fs : List (Function Label)) (j i : ℕ) (F : Function Label) → slice_get fs j ≡ Some F → length (type_named m F.type).params ≤ i → i < length (type_named m F.type).params + length F.locals
    → InNames (Local (k + j) i) (body_sites (bodies_from m no_points q k s fs))
local_out m q k s [] j i F e a b = absurd (none_some e)
local_out m q k s (f ∷ fs) zero i F e a b =
    let c : F ≡ f = sym (some_same e) in
    let d : k ≡ k + 0 = omega arith in
    let p = subst (λ (z : Function Label). length (type_named m z.type).params ≤ i) c a in
    let r = subst (λ (z : Function Label). i < length (type_named m z.type).params + length z.locals) c b in
    let B : List Site = (numbered_body m no_points (type_from q (type_named m f.type)) k s f).sites in
    let own = in_left (Local k i) (sites_for (Local k) (length (type_named m f.type).params) f.locals) B (for_out (Local k) (length (type_named m f.type).params) f.locals i p r) in
    in_left (Local (k + 0) i) (body_from m no_points q k s f).sites _ (subst (λ z. InNames (Local z i) (body_from m no_points q k s f).sites) d own)
local_out m q k s (f ∷ fs) (suc j) i F e a b =
    let d : k + 1 + j ≡ k + suc j = omega arith in
    let r = local_out m (q + site_count (type_named m f.type)) (k + 1) (s + length (body_from m no_points q k s f).sites) fs j i F e a b in
    in_right (Local (k + suc j) i) (body_from m no_points q k s f).sites _ (subst (λ z. InNames (Local z i) (body_sites (bodies_from m no_points (q + site_count (type_named m f.type)) (k + 1) (s + length (body_from m no_points q k s f).sites) fs))) d r)

-- ---- a module

data Cases (m : Module Label) (n : SiteName) : Type 0 where
  of_function : OfFunction m 0 (function_entries m) n → Cases m n
  of_global : Numbered GlobalOf 0 (length (global_types m)) n → Cases m n
  of_memory : (Memory ≡ n) × IsMemory m → Cases m n
  of_body : OfBody m (imported_count m) m.functions n → Cases m n

cases : (m : Module Label) (n : SiteName) → InNames n (sites m) → Cases m n
cases m n h = go (in_either n (head_sites m) (body_sites (bodies m no_points)) h)
  where
    F : List Site
    F = function_sites m 0 (function_entries m)

    G : List Site
    G = sites_for GlobalOf 0 (global_types m)

    M : List Site
    M = site_if Memory (memory_among m.imports m.memory)

    tail : InNames n G ⊎ InNames n M → Cases m n
    tail (inl p) = of_global (for_in GlobalOf n 0 (global_types m) p)
    tail (inr p) = of_memory (if_in Memory n (memory_among m.imports m.memory) p)

    head : InNames n F ⊎ InNames n (G ++ M) → Cases m n
    head (inl p) = of_function (functions_in m 0 (function_entries m) n p)
    head (inr p) = tail (in_either n G M p)

    go : InNames n (head_sites m) ⊎ InNames n (body_sites (bodies m no_points)) → Cases m n
    go (inl p) = head (in_either n F (G ++ M) p)
    go (inr p) = of_body (bodies_in m (first_defined m) (imported_count m) (length (head_sites m)) m.functions n p)

in_head : (m : Module Label) (n : SiteName) → InNames n (head_sites m) → HasSite m n
in_head m n h = in_to n (sites m) (in_left n (head_sites m) (body_sites (bodies m no_points)) h)

in_functions : (m : Module Label) (n : SiteName) → InNames n (function_sites m 0 (function_entries m)) → HasSite m n
in_functions m n h = in_head m n (in_left n (function_sites m 0 (function_entries m)) _ h)

-- ---- parameters

param_params : (f i g k : ℕ) → Param g k ≡ Param f i → (g ≡ f) × (k ≡ i)
param_params f i g k e = let a : g ≡ f = cc in let b : k ≡ i = cc in (a, b)

pub param_there : (m : Module Label) (f i : ℕ) → HasSite m (Param f i) → IsParam m f i
param_there m f i h = go (cases m (Param f i) (in_from (Param f i) (sites m) h))
  where
    of : (r : OfFunction m 0 (function_entries m) (Param f i)) → OfType (type_named m r.y) (0 + r.j) (Param f i) → IsParam m f i
    of r (inl p) =
        let e = param_params f i (0 + r.j) p.i p.is in
        let a : r.j ≡ f = omega (arith, e.0) in
        (r.y, subst (λ z. slice_get (function_entries m) z ≡ Some r.y) a r.there, omega (arith, e.1, p.below))
    of r (inr p) = absurd (apart p.0)
      where
        apart : Result (0 + r.j) ≡ Param f i → ⊥
        apart e = cc

    go : Cases m (Param f i) → IsParam m f i
    go (of_function r) = of r r.named
    go (of_global p) = absurd (apart p.is)
      where
        apart : GlobalOf p.i ≡ Param f i → ⊥
        apart e = cc
    go (of_memory p) = absurd (apart p.0)
      where
        apart : Memory ≡ Param f i → ⊥
        apart e = cc
    go (of_body r) = in_body r.named
      where
        in_body : Numbered (Local (imported_count m + r.j)) (length (type_named m r.F.type).params) (length r.F.locals) (Param f i) ⊎ IsCode (Param f i) → IsParam m f i
        in_body (inl p) = absurd (apart p.is)
          where
            apart : Local (imported_count m + r.j) p.i ≡ Param f i → ⊥
            apart e = cc
        in_body (inr p) = absurd (omega (arith, p.1))

pub there_param : (m : Module Label) (f i : ℕ) → IsParam m f i → HasSite m (Param f i)
there_param m f i h =
    let e : f ≡ 0 + f = omega arith in
    let t : FunctionType Label = type_named m h.0 in
    let own = in_left (Param (0 + f) i) (sites_for (Param (0 + f)) 0 t.params) (site_if (Result (0 + f)) t.result) (for_out (Param (0 + f)) 0 t.params i (omega arith) (omega (arith, h.2))) in
    in_functions m (Param f i) (functions_out m 0 (function_entries m) f h.0 (Param f i) h.1 (subst (λ z. InNames (Param z i) (type_sites (Param (0 + f)) (Result (0 + f)) t)) (sym e) own))

-- ---- results

pub result_there : (m : Module Label) (f : ℕ) → HasSite m (Result f) → IsResult m f
result_there m f h = go (cases m (Result f) (in_from (Result f) (sites m) h))
  where
    of : (r : OfFunction m 0 (function_entries m) (Result f)) → OfType (type_named m r.y) (0 + r.j) (Result f) → IsResult m f
    of r (inl p) = absurd (apart p.is)
      where
        apart : Param (0 + r.j) p.i ≡ Result f → ⊥
        apart e = cc
    of r (inr p) =
        let a : r.j ≡ f = same p.0 in
        (r.y, subst (λ z. slice_get (function_entries m) z ≡ Some r.y) a r.there, p.1)
      where
        same : Result (0 + r.j) ≡ Result f → r.j ≡ f
        same e = let b : 0 + r.j ≡ f = cc in omega (arith, b)

    go : Cases m (Result f) → IsResult m f
    go (of_function r) = of r r.named
    go (of_global p) = absurd (apart p.is)
      where
        apart : GlobalOf p.i ≡ Result f → ⊥
        apart e = cc
    go (of_memory p) = absurd (apart p.0)
      where
        apart : Memory ≡ Result f → ⊥
        apart e = cc
    go (of_body r) = in_body r.named
      where
        in_body : Numbered (Local (imported_count m + r.j)) (length (type_named m r.F.type).params) (length r.F.locals) (Result f) ⊎ IsCode (Result f) → IsResult m f
        in_body (inl p) = absurd (apart p.is)
          where
            apart : Local (imported_count m + r.j) p.i ≡ Result f → ⊥
            apart e = cc
        in_body (inr p) = absurd (omega (arith, p.0))

pub there_result : (m : Module Label) (f : ℕ) → IsResult m f → HasSite m (Result f)
there_result m f h =
    let e : f ≡ 0 + f = omega arith in
    let t : FunctionType Label = type_named m h.0 in
    let own = in_right (Result (0 + f)) (sites_for (Param (0 + f)) 0 t.params) (site_if (Result (0 + f)) t.result) (if_out (Result (0 + f)) t.result h.2) in
    in_functions m (Result f) (functions_out m 0 (function_entries m) f h.0 (Result f) h.1 (subst (λ z. InNames (Result z) (type_sites (Param (0 + f)) (Result (0 + f)) t)) (sym e) own))

-- ---- globals and the memory

pub global_there : (m : Module Label) (g : ℕ) → HasSite m (GlobalOf g) → IsGlobal m g
global_there m g h = go (cases m (GlobalOf g) (in_from (GlobalOf g) (sites m) h))
  where
    of : (r : OfFunction m 0 (function_entries m) (GlobalOf g)) → OfType (type_named m r.y) (0 + r.j) (GlobalOf g) → IsGlobal m g
    of r (inl p) = absurd (apart p.is)
      where
        apart : Param (0 + r.j) p.i ≡ GlobalOf g → ⊥
        apart e = cc
    of r (inr p) = absurd (apart p.0)
      where
        apart : Result (0 + r.j) ≡ GlobalOf g → ⊥
        apart e = cc

    go : Cases m (GlobalOf g) → IsGlobal m g
    go (of_function r) = of r r.named
    go (of_global p) = let a = same p.is in omega (arith, a, p.below)
      where
        same : GlobalOf p.i ≡ GlobalOf g → p.i ≡ g
        same e = cc
    go (of_memory p) = absurd (apart p.0)
      where
        apart : Memory ≡ GlobalOf g → ⊥
        apart e = cc
    go (of_body r) = in_body r.named
      where
        in_body : Numbered (Local (imported_count m + r.j)) (length (type_named m r.F.type).params) (length r.F.locals) (GlobalOf g) ⊎ IsCode (GlobalOf g) → IsGlobal m g
        in_body (inl p) = absurd (apart p.is)
          where
            apart : Local (imported_count m + r.j) p.i ≡ GlobalOf g → ⊥
            apart e = cc
        in_body (inr p) = absurd (omega (arith, p.1))

pub there_global : (m : Module Label) (g : ℕ) → IsGlobal m g → HasSite m (GlobalOf g)
there_global m g h =
    in_head m (GlobalOf g) (in_right (GlobalOf g) (function_sites m 0 (function_entries m)) _ (in_left (GlobalOf g) (sites_for GlobalOf 0 (global_types m)) _ (for_out GlobalOf 0 (global_types m) g (omega arith) (omega (arith, h)))))

pub memory_there : (m : Module Label) → HasSite m Memory → IsMemory m
memory_there m h = go (cases m Memory (in_from Memory (sites m) h))
  where
    of : (r : OfFunction m 0 (function_entries m) Memory) → OfType (type_named m r.y) (0 + r.j) Memory → IsMemory m
    of r (inl p) = absurd (apart p.is)
      where
        apart : Param (0 + r.j) p.i ≡ Memory → ⊥
        apart e = cc
    of r (inr p) = absurd (apart p.0)
      where
        apart : Result (0 + r.j) ≡ Memory → ⊥
        apart e = cc

    go : Cases m Memory → IsMemory m
    go (of_function r) = of r r.named
    go (of_global p) = absurd (apart p.is)
      where
        apart : GlobalOf p.i ≡ Memory → ⊥
        apart e = cc
    go (of_memory p) = p.1
    go (of_body r) = in_body r.named
      where
        in_body : Numbered (Local (imported_count m + r.j)) (length (type_named m r.F.type).params) (length r.F.locals) Memory ⊎ IsCode Memory → IsMemory m
        in_body (inl p) = absurd (apart p.is)
          where
            apart : Local (imported_count m + r.j) p.i ≡ Memory → ⊥
            apart e = cc
        in_body (inr p) = absurd (omega (arith, p.1))

pub there_memory : (m : Module Label) → IsMemory m → HasSite m Memory
there_memory m h =
    in_head m Memory (in_right Memory (function_sites m 0 (function_entries m)) _ (in_right Memory (sites_for GlobalOf 0 (global_types m)) _ (if_out Memory (memory_among m.imports m.memory) h)))

-- ---- locals

named_is : (m : Module Label) (f : ℕ) → imported_count m ≤ f → function_named m f ≡ slice_get m.functions (f - imported_count m)
named_is m f le = ap (λ b. if b then None else slice_get m.functions (f - imported_count m)) (le-ltb f (imported_count m) le)

function_there : (fs : List (Function Label)) (i : ℕ) → i < length fs → (F : Function Label) × (slice_get fs i ≡ Some F)
function_there [] i lt = absurd (omega (arith, lt))
function_there (f ∷ fs) zero lt = (f, refl)
function_there (f ∷ fs) (suc i) lt = function_there fs i (omega (arith, lt))

is_defined : (m : Module Label) (f : ℕ) → imported_count m ≤ f → f < length (function_entries m) → (F : Function Label) × (function_named m f ≡ Some F)
is_defined m f le lt =
    let a = length-append (imported_functions m.imports) (map (λ f. f.type) m.functions) in
    let b = length-map m.functions (λ (f : Function Label). f.type) in
    let t = function_there m.functions (f - imported_count m) (omega (arith, a, b, le, lt)) in
    (t.0, named_is m f le ∙ t.1)

entry_is : (m : Module Label) (f : ℕ) (F : Function Label) → imported_count m ≤ f → slice_get m.functions (f - imported_count m) ≡ Some F → slice_get (function_entries m) f ≡ Some F.type
entry_is m f F le s =
    slice_get_right (imported_functions m.imports) (map (λ f. f.type) m.functions) f le ∙ slice_get-map (λ (f : Function Label). f.type) m.functions (f - imported_count m) ∙ ap (option_map (λ f. f.type)) s

locals_are : (m : Module Label) (f : ℕ) (F : Function Label) → function_named m f ≡ Some F → length (locals_named m f) ≡ length (type_named m F.type).params + length F.locals
locals_are m f F e = ap (λ z. length (locals_of_some m z)) e ∙ length-append (type_named m F.type).params F.locals

pub within_entries : (m : Module Label) (f y : ℕ) → slice_get (function_entries m) f ≡ Some y → f < length (function_entries m)
within_entries m f y e = go (function_entries m) f e
  where
    go : (ys : List ℕ) (f : ℕ) → slice_get ys f ≡ Some y → f < length ys
    go [] f e = absurd (none_some e)
    go (x ∷ ys) zero e = omega arith
    go (x ∷ ys) (suc f) e = let r = go ys f e in omega (arith, r)

pub local_there : (m : Module Label) (f i : ℕ) → HasSite m (Local f i) → IsLocal m f i
local_there m f i h = go (cases m (Local f i) (in_from (Local f i) (sites m) h))
  where
    of : (r : OfFunction m 0 (function_entries m) (Local f i)) → OfType (type_named m r.y) (0 + r.j) (Local f i) → IsLocal m f i
    of r (inl p) = absurd (apart p.is)
      where
        apart : Param (0 + r.j) p.i ≡ Local f i → ⊥
        apart e = cc
    of r (inr p) = absurd (apart p.0)
      where
        apart : Result (0 + r.j) ≡ Local f i → ⊥
        apart e = cc

    go : Cases m (Local f i) → IsLocal m f i
    go (of_function r) = of r r.named
    go (of_global p) = absurd (apart p.is)
      where
        apart : GlobalOf p.i ≡ Local f i → ⊥
        apart e = cc
    go (of_memory p) = absurd (apart p.0)
      where
        apart : Memory ≡ Local f i → ⊥
        apart e = cc
    go (of_body r) = in_body r.named
      where
        in_body : Numbered (Local (imported_count m + r.j)) (length (type_named m r.F.type).params) (length r.F.locals) (Local f i) ⊎ IsCode (Local f i) → IsLocal m f i
        in_body (inl p) =
            let e = same p.is in
            let le : imported_count m ≤ f = omega (arith, e.0) in
            let j : r.j ≡ f - imported_count m = omega (arith, e.0) in
            let s = subst (λ z. slice_get m.functions z ≡ Some r.F) j r.there in
            let l = locals_are m f r.F (named_is m f le ∙ s) in
            record { defined = le; entry = r.F.type; there = entry_is m f r.F le s; behind = omega (arith, e.1, p.from); within = omega (arith, l, e.1, p.below) }
          where
            same : Local (imported_count m + r.j) p.i ≡ Local f i → (imported_count m + r.j ≡ f) × (p.i ≡ i)
            same e = let a : imported_count m + r.j ≡ f = cc in let b : p.i ≡ i = cc in (a, b)
        in_body (inr p) = absurd (omega (arith, p.1))

pub there_local : (m : Module Label) (f i : ℕ) → IsLocal m f i → HasSite m (Local f i)
there_local m f i h =
    let d = is_defined m f h.defined (within_entries m f h.entry h.there) in
    let F : Function Label = d.0 in
    let s = sym (named_is m f h.defined) ∙ d.1 in
    let y : F.type ≡ h.entry = some_same (sym (entry_is m f F h.defined s) ∙ h.there) in
    let l = locals_are m f F d.1 in
    let a = ap (λ z. length (type_named m z).params) y in
    let e : imported_count m + (f - imported_count m) ≡ f = omega (arith, h.defined) in
    let own = local_out m (first_defined m) (imported_count m) (length (head_sites m)) m.functions (f - imported_count m) i F s (omega (arith, a, h.behind)) (omega (arith, l, h.within)) in
    in_to (Local f i) (sites m) (in_right (Local f i) (head_sites m) (body_sites (bodies m no_points)) (subst (λ z. InNames (Local z i) (body_sites (bodies m no_points))) e own))
