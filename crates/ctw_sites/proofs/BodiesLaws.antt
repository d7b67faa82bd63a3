-- The sites of defined functions, one function after another.
use Rattle.std.proofs.Common.{◌≡◌, ◌≤◌, ◌<◌, ℕ, zero, suc, ◌+◌, ◌-◌, ◌^◌, List, [], ◌∷◌, ◌++◌, length, map, take, Option, Some, None, refl, sym, ◌∙◌, ap, subst, arith, length-append, append_assoc}
use Rattle.std.specs.Prelude.{false, if◌then◌else◌, get_or, option_map, slice_get}
use Rattle.std.proofs.lemmas.List.{append-nil, length-map}
use Rattle.std.proofs.lemmas.Option.{get_or_from_slice_get, slice_get-map}
use borrow.Author.Tests.{le-ltb}
use Rattle.ctw_form.proofs.Params.{slice_get_right}
use Rattle.ctw_ops.specs.declared.types.Label.{Label}
use Rattle.ctw_ops.specs.declared.types.Trust.TheVariants.{Untrusted}
use Rattle.ctw_ops.specs.Code.{opcodes}
use Rattle.ctw_ops.specs.Plain.{IsPlainModule}
use Rattle.ctw_ops.specs.Types.{ValueType, FunctionType}
use Rattle.ctw_ops.specs.Typing.{optional}
use Rattle.ctw_ops.specs.Valid.{IsValid}
use Rattle.ctw_ops.specs.Tree.{Module, Function, function_entries, global_types, imported_functions, type_named}
use Rattle.ctw_module.specs.Lookup.{imported_count, function_named}
use Rattle.ctw_stack.specs.Opens.{opened}
use Rattle.ctw_labels.specs.declared.name.SiteName.TheVariants.{Param, Result}
use Rattle.ctw_labels.specs.Names.{Site}
use Rattle.ctw_labels.specs.Points.{no_points}
use Rattle.ctw_labels.specs.Collected.{IsSmallResult}
use Rattle.ctw_labels.specs.FlatSites.{Goes}
use Rattle.ctw_labels.specs.Numbering.{params_from, result_from, type_from, type_sites}
use Rattle.ctw_labels.specs.SitedModule.{SitedBody, site_count, site_context, place_of, function_sites, head_sites, memory_site, first_defined, body_from, bodies_from, bodies, body_sites, sites}
use Rattle.ctw_labels.proofs.Contexts.{type_length}
use Rattle.ctw_labels.proofs.ValidGoes.{GoFunctions, bodies_go}
use Rattle.ctw_sites.specs.Bodies.{IsReadyBody}
use Rattle.ctw_sites.specs.Heads.{heads_from, heads}
use Rattle.ctw_sites.specs.Packed.{Kept, after}
use Rattle.ctw_sites.specs.Starts.{starts_from}
use Rattle.ctw_sites.proofs.HeadLaws.{head_length}
use Rattle.ctw_sites.proofs.PackedLaws.{after_both}
use Rattle.ctw_sites.proofs.ScopeLaws.{heads_length, heads_within}

-- the first site of a function's parameters, where those of the first function's begin at `q`
abbrev pub head_at : Module Label → ℕ → List (Function Label) → ℕ → ℕ
head_at m q [] i = q
head_at m q (f ∷ fs) zero = q
head_at m q (f ∷ fs) (suc i) = head_at m (q + site_count (type_named m f.type)) fs i

heads_both : (m : Module Label) (n k : ℕ) (xs ys : List ℕ) → heads_from m n (xs ++ ys) ≡ heads_from m n xs ++ heads_from m (n + length (function_sites m k xs)) ys
heads_both m n k [] ys = let e : n ≡ n + 0 = omega arith in ap (λ z. heads_from m z ys) e
heads_both m n k (x ∷ xs) ys =
    let l = length-append (type_sites (Param k) (Result k) (type_named m x)) (function_sites m (k + 1) xs) in
    let t = type_length (Param k) (Result k) (type_named m x) in
    let a : n + site_count (type_named m x) + length (function_sites m (k + 1) xs) ≡ n + length (function_sites m k (x ∷ xs)) = omega (arith, l, t) in
    ap (λ z. n ∷ z) (heads_both m (n + site_count (type_named m x)) (k + 1) xs ys ∙ ap (λ z. heads_from m (n + site_count (type_named m x)) xs ++ heads_from m z ys) a)

heads_at : (m : Module Label) (q : ℕ) (fs : List (Function Label)) (i : ℕ) (F : Function Label) → slice_get fs i ≡ Some F → slice_get (heads_from m q (map (λ f. f.type) fs)) i ≡ Some (head_at m q fs i)
heads_at m q [] i F e = cc
heads_at m q (f ∷ fs) zero F e = refl
heads_at m q (f ∷ fs) (suc i) F e = heads_at m (q + site_count (type_named m f.type)) fs i F e

pub head_defined : (m : Module Label) (f : ℕ) (F : Function Label) → imported_count m ≤ f → slice_get m.functions (f - imported_count m) ≡ Some F → slice_get (heads m) f ≡ Some (head_at m (first_defined m) m.functions (f - imported_count m))
head_defined m f F le e =
    let I : List ℕ = imported_functions m.imports in
    let T : List ℕ = map (λ f. f.type) m.functions in
    let l = heads_length m 0 I in
    let z : 0 + length (function_sites m 0 I) ≡ first_defined m = omega arith in
    let i : f - length (heads_from m 0 I) ≡ f - imported_count m = omega (arith, l) in
    let w : length (heads_from m 0 I) ≤ f = omega (arith, l, le) in
    ap (λ hs. slice_get hs f) (heads_both m 0 0 I T)
    ∙ slice_get_right (heads_from m 0 I) (heads_from m (0 + length (function_sites m 0 I)) T) f w
    ∙ (λ j. slice_get (heads_from m (z j) T) (i j))
    ∙ heads_at m (first_defined m) m.functions (f - imported_count m) F e

-- a function of an index is there
there : (fs : List (Function Label)) (i : ℕ) → i < length fs → (F : Function Label) × (slice_get fs i ≡ Some F)
there [] i lt = absurd (omega (arith, lt))
there (f ∷ fs) zero lt = (f, refl)
there (f ∷ fs) (suc i) lt = there fs i (omega (arith, lt))

pub named_is : (m : Module Label) (f : ℕ) → imported_count m ≤ f → function_named m f ≡ slice_get m.functions (f - imported_count m)
named_is m f le = ap (λ b. if b then None else slice_get m.functions (f - imported_count m)) (le-ltb f (imported_count m) le)

pub is_defined : (m : Module Label) (f : ℕ) → imported_count m ≤ f → f < length (function_entries m) → (F : Function Label) × (function_named m f ≡ Some F)
is_defined m f le lt =
    let a = length-append (imported_functions m.imports) (map (λ f. f.type) m.functions) in
    let b = length-map m.functions (λ (f : Function Label). f.type) in
    let t = there m.functions (f - imported_count m) (omega (arith, a, b, le, lt)) in
    (t.0, named_is m f le ∙ t.1)

-- ---- bodies one after another

abbrev pub sites_upto : Module Label → ℕ → ℕ → ℕ → List (Function Label) → ℕ → List Site
sites_upto m q k n fs i = body_sites (take i (bodies_from m no_points q k n fs))

more_bodies : (m : Module Label) (q k n : ℕ) (fs : List (Function Label)) (i : ℕ) (F : Function Label) → slice_get fs i ≡ Some F
    → sites_upto m q k n fs (suc i) ≡ sites_upto m q k n fs i ++ (body_from m no_points (head_at m q fs i) (k + i) (n + length (sites_upto m q k n fs i)) F).sites
more_bodies m q k n [] i F e = cc
more_bodies m q k n (f ∷ fs) zero F e =
    let a : f ≡ F = cc in
    let b : k ≡ k + 0 = omega arith in
    let c : n ≡ n + 0 = omega arith in
    append-nil (body_from m no_points q k n f).sites ∙ (λ j. (body_from m no_points q (b j) (c j) (a j)).sites)
more_bodies m q k n (f ∷ fs) (suc i) F e =
    let B : List Site = (body_from m no_points q k n f).sites in
    let p : ℕ = q + site_count (type_named m f.type) in
    let U : List Site = sites_upto m p (k + 1) (n + length B) fs i in
    let l = length-append B U in
    let b : k + 1 + i ≡ k + suc i = omega arith in
    let c : n + length B + length U ≡ n + length (B ++ U) = omega (arith, l) in
    ap (λ z. B ++ z) (more_bodies m p (k + 1) (n + length B) fs i F e ∙ (λ j. U ++ (body_from m no_points (head_at m p fs i) (b j) (c j) F).sites))
    ∙ sym (append_assoc B U (body_from m no_points (head_at m p fs i) (k + suc i) (n + length (B ++ U)) F).sites)

abbrev GoesHere : Module Label → ℕ → ℕ → ℕ → Function Label → Type 0
GoesHere m q k n f = Goes (place_of m no_points k) (site_context m Untrusted (type_from q (type_named m f.type)) (params_from n f.locals)) (opcodes f.body) (opened false (type_from q (type_named m f.type)).result ∷ []) (n + length f.locals) 0

goes_at : (m : Module Label) (q k n : ℕ) (fs : List (Function Label)) (i : ℕ) (F : Function Label) → slice_get fs i ≡ Some F → GoFunctions m q k n fs
    → GoesHere m (head_at m q fs i) (k + i) (n + length (sites_upto m q k n fs i)) F
goes_at m q k n [] i F e g = absurd (none_here e)
  where
    none_here : slice_get {X = Function Label} [] i ≡ Some F → ⊥
    none_here e = cc
goes_at m q k n (f ∷ fs) zero F e g =
    let a : f ≡ F = cc in
    let b : k ≡ k + 0 = omega arith in
    let c : n ≡ n + 0 = omega arith in
    subst (λ z. GoesHere m q (k + 0) (n + 0) z) a (subst (λ z. GoesHere m q (k + 0) z f) c (subst (λ z. GoesHere m q z n f) b g.0))
goes_at m q k n (f ∷ fs) (suc i) F e g =
    let B : List Site = (body_from m no_points q k n f).sites in
    let p : ℕ = q + site_count (type_named m f.type) in
    let U : List Site = sites_upto m p (k + 1) (n + length B) fs i in
    let l = length-append B U in
    let b : k + 1 + i ≡ k + suc i = omega arith in
    let c : n + length B + length U ≡ n + length (B ++ U) = omega (arith, l) in
    subst (λ z. GoesHere m (head_at m p fs i) (k + suc i) z F) c (subst (λ z. GoesHere m (head_at m p fs i) z (n + length B + length U) F) b (goes_at m p (k + 1) (n + length B) fs i F e g.1))

upto_all : (bs : List SitedBody) (i : ℕ) → length (body_sites (take i bs)) ≤ length (body_sites bs)
upto_all bs zero = omega arith
upto_all [] (suc i) = omega arith
upto_all (b ∷ bs) (suc i) = let h = upto_all bs i in omega (arith, h, length-append b.sites (body_sites (take i bs)), length-append b.sites (body_sites bs))

small_of : (n : ℕ) (r : Option (ValueType Label)) → n + length (optional r) < 2 ^ 32 → IsSmallResult (result_from n r)
small_of n None lt = tt
small_of n (Some t) lt = omega (arith, lt)

-- ---- those of a module

abbrev pub bodies_upto : Module Label → ℕ → List Site
bodies_upto m i = body_sites (take i (bodies m no_points))

-- the sites before a defined function's own
abbrev pub before : Module Label → ℕ → ℕ
before m f = length (head_sites m) + length (bodies_upto m (f - imported_count m))

pub one_more_body : (m : Module Label) (f : ℕ) (F : Function Label) → imported_count m ≤ f → function_named m f ≡ Some F
    → bodies_upto m (f + 1 - imported_count m) ≡ bodies_upto m (f - imported_count m) ++ (body_from m no_points (get_or (heads m) f 0) f (before m f) F).sites
one_more_body m f F le e =
    let i : ℕ = f - imported_count m in
    let s = sym (named_is m f le) ∙ e in
    let a : f + 1 - imported_count m ≡ suc i = omega (arith, le) in
    let b : imported_count m + i ≡ f = omega (arith, le) in
    let h = sym (get_or_from_slice_get (heads m) f (head_at m (first_defined m) m.functions i) 0 (head_defined m f F le s)) in
    ap (bodies_upto m) a
    ∙ more_bodies m (first_defined m) (imported_count m) (length (head_sites m)) m.functions i F s
    ∙ (λ j. bodies_upto m i ++ (body_from m no_points (h j) (b j) (before m f) F).sites)

pub ready_at : (m : Module Label) → IsPlainModule m → IsValid m → length (sites m) < 2 ^ 32 → (f n : ℕ) (F : Function Label) → imported_count m ≤ f → f < length (function_entries m) → n ≡ before m f → function_named m f ≡ Some F → IsReadyBody m (get_or (heads m) f 0) f n F
ready_at m pl v lt f n F le in_list en e = subst (λ z. IsReadyBody m (get_or (heads m) f 0) f z F) (sym en) here
  where
    i : ℕ
    i = f - imported_count m

    s : slice_get m.functions (f - imported_count m) ≡ Some F
    s = sym (named_is m f le) ∙ e

    h : head_at m (first_defined m) m.functions (f - imported_count m) ≡ get_or (heads m) f 0
    h = sym (get_or_from_slice_get (heads m) f (head_at m (first_defined m) m.functions (f - imported_count m)) 0 (head_defined m f F le s))

    goes : GoesHere m (get_or (heads m) f 0) f (before m f) F
    goes =
        let b : imported_count m + (f - imported_count m) ≡ f = omega (arith, le) in
        let g = goes_at m (first_defined m) (imported_count m) (length (head_sites m)) m.functions (f - imported_count m) F s (bodies_go m pl v) in
        subst (λ z. GoesHere m z f (before m f) F) h (subst (λ z. GoesHere m (head_at m (first_defined m) m.functions (f - imported_count m)) z (before m f) F) b g)

    room : before m f + length (body_from m no_points (get_or (heads m) f 0) f (before m f) F).sites < 2 ^ 32
    room =
        let a = length-append (head_sites m) (body_sites (bodies m no_points)) in
        let o = ap length (one_more_body m f F le e) in
        let l = length-append (bodies_upto m (f - imported_count m)) (body_from m no_points (get_or (heads m) f 0) f (before m f) F).sites in
        omega (arith, a, o, l, upto_all (bodies m no_points) (f + 1 - imported_count m), lt)

    entry : slice_get (function_entries m) f ≡ Some F.type
    entry = slice_get_right (imported_functions m.imports) (map (λ f. f.type) m.functions) f le ∙ slice_get-map (λ (f : Function Label). f.type) m.functions (f - imported_count m) ∙ ap (option_map (λ f. f.type)) s

    small : IsSmallResult (type_from (get_or (heads m) f 0) (type_named m F.type)).result
    small =
        let w = heads_within m 0 0 (function_entries m) f F.type (get_or (heads m) f 0) entry (head_defined m f F le s ∙ ap Some h) in
        let a = length-append (head_sites m) (body_sites (bodies m no_points)) in
        let g : FunctionType Label = type_named m F.type in
        let b = head_length m (length (global_types m)) refl in
        small_of (get_or (heads m) f 0 + length g.params) g.result (omega (arith, w, a, b, lt))

    here : IsReadyBody m (get_or (heads m) f 0) f (before m f) F
    here = record { goes = goes; room = room; small = small }

-- ---- the loop over defined functions

pub bodies_length : (m : Module Label) (q k n : ℕ) (fs : List (Function Label)) → length (bodies_from m no_points q k n fs) ≡ length fs
bodies_length m q k n [] = refl
bodies_length m q k n (f ∷ fs) = ap suc (bodies_length m (q + site_count (type_named m f.type)) (k + 1) (n + length (body_from m no_points q k n f).sites) fs)

starts_more : (n : ℕ) (bs : List SitedBody) (i : ℕ) → i < length bs → starts_from n (take (suc i) bs) ≡ starts_from n (take i bs) ++ (n + length (body_sites (take i bs))) ∷ []
starts_more n [] i lt = absurd (omega (arith, lt))
starts_more n (b ∷ bs) zero lt = let a : n ≡ n + 0 = omega arith in ap (λ z. z ∷ []) a
starts_more n (b ∷ bs) (suc i) lt =
    let l = length-append b.sites (body_sites (take i bs)) in
    let a : n + length b.sites + length (body_sites (take i bs)) ≡ n + length (b.sites ++ body_sites (take i bs)) = omega (arith, l) in
    ap (λ z. n ∷ z) (starts_more (n + length b.sites) bs i (omega (arith, lt)) ∙ ap (λ z. starts_from (n + length b.sites) (take i bs) ++ z ∷ []) a)

pub one_more_start : (m : Module Label) (n f : ℕ) → imported_count m ≤ f → f < length (function_entries m)
    → starts_from n (take (f + 1 - imported_count m) (bodies m no_points)) ≡ starts_from n (take (f - imported_count m) (bodies m no_points)) ++ (n + length (bodies_upto m (f - imported_count m))) ∷ []
one_more_start m n f le lt =
    let i : ℕ = f - imported_count m in
    let a : f + 1 - imported_count m ≡ suc i = omega (arith, le) in
    let b = bodies_length m (first_defined m) (imported_count m) (length (head_sites m)) m.functions in
    let c = length-append (imported_functions m.imports) (map (λ f. f.type) m.functions) in
    let d = length-map m.functions (λ (f : Function Label). f.type) in
    ap (λ z. starts_from n (take z (bodies m no_points))) a ∙ starts_more n (bodies m no_points) i (omega (arith, b, c, d, le, lt))

take_whole : (bs : List SitedBody) (i : ℕ) → length bs ≤ i → take i bs ≡ bs
take_whole [] zero le = refl
take_whole [] (suc i) le = refl
take_whole (b ∷ bs) zero le = absurd (omega (arith, le))
take_whole (b ∷ bs) (suc i) le = ap (λ z. b ∷ z) (take_whole bs i (omega (arith, le)))

pub all_bodies : (m : Module Label) (f : ℕ) → length (function_entries m) ≤ f → take (f - imported_count m) (bodies m no_points) ≡ bodies m no_points
all_bodies m f le =
    let b = bodies_length m (first_defined m) (imported_count m) (length (head_sites m)) m.functions in
    let c = length-append (imported_functions m.imports) (map (λ f. f.type) m.functions) in
    let d = length-map m.functions (λ (f : Function Label). f.type) in
    take_whole (bodies m no_points) (f - imported_count m) (omega (arith, b, c, d, le))

pub no_bodies : (m : Module Label) → take (imported_count m - imported_count m) (bodies m no_points) ≡ []
no_bodies m = let a : imported_count m - imported_count m ≡ 0 = omega arith in ap (λ z. take z (bodies m no_points)) a

pub memory_room : (m : Module Label) → length (sites m) < 2 ^ 32 → memory_site m < 2 ^ 32
memory_room m lt =
    let b = head_length m (length (global_types m)) refl in
    omega (arith, b, length-append (head_sites m) (body_sites (bodies m no_points)), lt)

pub body_joined : (m : Module Label) (f : ℕ) (F : Function Label) (k first : Kept) → imported_count m ≤ f → function_named m f ≡ Some F → first.count ≡ length (head_sites m) → k ≡ after first (bodies_upto m (f - imported_count m))
    → after k (body_from m no_points (get_or (heads m) f 0) f k.count F).sites ≡ after first (bodies_upto m (f + 1 - imported_count m))
body_joined m f F k first le e b a =
    let n = ap (λ z. z.count) a in
    let w : k.count ≡ before m f = omega (arith, n, b) in
    (λ j. after (a j) (body_from m no_points (get_or (heads m) f 0) f (w j) F).sites)
    ∙ after_both first (bodies_upto m (f - imported_count m)) (body_from m no_points (get_or (heads m) f 0) f (before m f) F).sites
    ∙ ap (after first) (sym (one_more_body m f F le e))
