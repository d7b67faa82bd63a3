-- What is looked up in a module is what a body may name.
use Rattle.std.proofs.Common.{◌≡◌, ℕ, zero, suc, ◌+◌, ◌-◌, ◌<◌, ◌≤◌, ◌^◌, List, [], ◌∷◌, ◌++◌, length, map, Option, Some, None, refl, sym, ◌∙◌, ap, arith, length-append}
use Rattle.std.specs.List.{AllByRecursion}
use Rattle.std.proofs.lemmas.List.{length-map}
use Rattle.std.proofs.lemmas.List.Elements.{recursion_from_All}
use Rattle.std.specs.Prelude.{if◌then◌else◌, get_or, option_map, slice_get, unwrap_or}
use Rattle.std.proofs.lemmas.Option.{slice_get_past, slice_get-get_or, slice_get-map}
use borrow.Author.Tests.{le-ltb}
use Rattle.ctw_form.proofs.Params.{slice_get_left, slice_get_right}
use Rattle.ctw_ops.specs.WithinLimits.{IsWithinLimits}
use Rattle.ctw_ops.specs.Limits.{most_params}
use Rattle.ctw_ops.specs.declared.types.Label.{Label}
use Rattle.ctw_ops.specs.declared.types.Width.{Width}
use Rattle.ctw_ops.specs.Types.{ValueType, VariableType, MemoryType, value_type}
use Rattle.ctw_ops.specs.Tree.{Module, Function, TypeEntry, function_entries, no_function_type, type_named, memory_among, imported_functions}
use Rattle.ctw_module.specs.Lookup.{imported_count, function_named, locals_of_some, locals_named}
use Rattle.ctw_labels.specs.declared.tag.Tag.TheVariants.{At, Fixed}
use Rattle.ctw_labels.specs.declared.name.SiteName.TheVariants.{Param, Result}
use Rattle.ctw_labels.specs.Numbering.{params_from, result_from, type_from, type_sites}
use Rattle.ctw_labels.specs.SitedModule.{site_count, sited_functions, first_global, memory_site, memory_tag, types_from, function_sites, globals_from}
use Rattle.ctw_labels.proofs.Contexts.{type_length}
use Rattle.ctw_sites.specs.Rows.{takes_alone, gives_of, call_row}
use Rattle.ctw_sites.specs.Heads.{heads_from, heads, own_type, declared, type_of_some, declared_of_some}
use Rattle.ctw_sites.specs.Tags.{tags_from}

pub params_at : {A : Type 0} (n : ℕ) (ts : List (ValueType A)) (x : ℕ) → slice_get (params_from n ts) x ≡ option_map (λ t. value_type t.width (At (n + x))) (slice_get ts x)
params_at n [] x = refl
params_at n (t ∷ ts) zero = let e : n ≡ n + 0 = omega arith in ap (λ z. Some (value_type t.width (At z))) e
params_at n (t ∷ ts) (suc x) = let e : n + 1 + x ≡ n + suc x = omega arith in params_at (n + 1) ts x ∙ ap (λ z. option_map (λ t. value_type t.width (At z)) (slice_get ts x)) e

pub params_length : {A : Type 0} (n : ℕ) (ts : List (ValueType A)) → length (params_from n ts) ≡ length ts
params_length n [] = refl
params_length n (t ∷ ts) = ap suc (params_length (n + 1) ts)

pub globals_at : (n : ℕ) (gs : List (VariableType Label)) (x : ℕ) → option_map (λ g. g.value) (slice_get (globals_from n gs) x) ≡ option_map (λ g. value_type g.value.width (At (n + x))) (slice_get gs x)
globals_at n [] x = refl
globals_at n (g ∷ gs) zero = let e : n ≡ n + 0 = omega arith in ap (λ z. Some (value_type g.value.width (At z))) e
globals_at n (g ∷ gs) (suc x) = let e : n + 1 + x ≡ n + suc x = omega arith in globals_at (n + 1) gs x ∙ ap (λ z. option_map (λ g. value_type g.value.width (At z)) (slice_get gs x)) e

pub heads_length : (m : Module Label) (n : ℕ) (ys : List ℕ) → length (heads_from m n ys) ≡ length ys
heads_length m n [] = refl
heads_length m n (y ∷ ys) = ap suc (heads_length m (n + site_count (type_named m y)) ys)

pub types_length : (m : Module Label) (n : ℕ) (ys : List ℕ) → length (types_from m n ys) ≡ length ys
types_length m n [] = refl
types_length m n (y ∷ ys) = ap suc (types_length m (n + site_count (type_named m y)) ys)

-- a function's type has its entry's parameters and result, from its first site on
pub types_at : (m : Module Label) (n : ℕ) (ys : List ℕ) (i y h : ℕ) → slice_get ys i ≡ Some y → slice_get (heads_from m n ys) i ≡ Some h → slice_get (types_from m n ys) i ≡ Some (type_from h (type_named m y))
types_at m n [] i y h e f = cc
types_at m n (x ∷ ys) zero y h e f = let a : x ≡ y = cc in let b : n ≡ h = cc in λ i. Some (type_from (b i) (type_named m (a i)))
types_at m n (x ∷ ys) (suc i) y h e f = types_at m (n + site_count (type_named m x)) ys i y h e f

-- its sites are among those of functions
pub heads_within : (m : Module Label) (n k : ℕ) (ys : List ℕ) (i y h : ℕ) → slice_get ys i ≡ Some y → slice_get (heads_from m n ys) i ≡ Some h → h + site_count (type_named m y) ≤ n + length (function_sites m k ys)
heads_within m n k [] i y h e f = cc
heads_within m n k (x ∷ ys) zero y h e f =
    let a : x ≡ y = cc in
    let b : n ≡ h = cc in
    let c = ap (λ z. site_count (type_named m z)) a in
    let s = type_length (Param k) (Result k) (type_named m x) in
    let l = length-append (type_sites (Param k) (Result k) (type_named m x)) (function_sites m (k + 1) ys) in
    omega (arith, b, c, s, l)
heads_within m n k (x ∷ ys) (suc i) y h e f =
    let r = heads_within m (n + site_count (type_named m x)) (k + 1) ys i y h e f in
    let s = type_length (Param k) (Result k) (type_named m x) in
    let l = length-append (type_sites (Param k) (Result k) (type_named m x)) (function_sites m (k + 1) ys) in
    omega (arith, r, s, l)

-- a function's locals are its parameters and those that it declares
pub locals_split : (m : Module Label) (f : ℕ) → locals_named m f ≡ (own_type m f).params ++ declared m f
locals_split m f = by_function (function_named m f)
  where
    by_function : (x : Option (Function Label)) → locals_of_some m x ≡ (type_of_some m x).params ++ declared_of_some x
    by_function None = refl
    by_function (Some g) = refl

pub local_first : (m : Module Label) (f q n x : ℕ) (t : ValueType Label) → x < length (own_type m f).params → slice_get (locals_named m f) x ≡ Some t
    → Some (value_type t.width (At (q + x))) ≡ slice_get (params_from q (own_type m f).params ++ params_from n (declared m f)) x
local_first m f q n x t lt e =
    let own : slice_get (own_type m f).params x ≡ Some t = sym (slice_get_left (own_type m f).params (declared m f) x lt) ∙ ap (λ z. slice_get z x) (sym (locals_split m f)) ∙ e in
    sym (slice_get_left (params_from q (own_type m f).params) (params_from n (declared m f)) x (omega (arith, lt, params_length q (own_type m f).params))
    ∙ params_at q (own_type m f).params x ∙ ap (option_map (λ t. value_type t.width (At (q + x)))) own)

pub local_later : (m : Module Label) (f q n x p : ℕ) (t : ValueType Label) → p ≡ length (own_type m f).params → p ≤ x → slice_get (locals_named m f) x ≡ Some t
    → Some (value_type t.width (At (n + (x - p)))) ≡ slice_get (params_from q (own_type m f).params ++ params_from n (declared m f)) x
local_later m f q n x p t pe le e =
    let own : slice_get (declared m f) (x - p) ≡ Some t =
    ap (λ z. slice_get (declared m f) (x - z)) pe ∙ sym (slice_get_right (own_type m f).params (declared m f) x (omega (arith, pe, le))) ∙ ap (λ z. slice_get z x) (sym (locals_split m f)) ∙ e in
    let k : x - length (params_from q (own_type m f).params) ≡ x - p = let l = params_length q (own_type m f).params in omega (arith, pe, l) in
    sym (slice_get_right (params_from q (own_type m f).params) (params_from n (declared m f)) x (omega (arith, pe, le, params_length q (own_type m f).params))
    ∙ ap (slice_get (params_from n (declared m f))) k ∙ params_at n (declared m f) (x - p) ∙ ap (option_map (λ t. value_type t.width (At (n + (x - p))))) own)

pub local_past : (m : Module Label) (f q n x c : ℕ) → c ≡ length (own_type m f).params + length (declared m f) → c ≤ x → None ≡ slice_get (params_from q (own_type m f).params ++ params_from n (declared m f)) x
local_past m f q n x c e le =
    sym (slice_get_past (params_from q (own_type m f).params ++ params_from n (declared m f)) x
    (omega (arith, e, le, params_length q (own_type m f).params, params_length n (declared m f), length-append (params_from q (own_type m f).params) (params_from n (declared m f)))))

pub locals_count : (m : Module Label) (f x c : ℕ) → c ≡ length (own_type m f).params + length (declared m f) → x < c → x < length (locals_named m f)
locals_count m f x c e lt = omega (arith, e, lt, ap length (locals_split m f), length-append (own_type m f).params (declared m f))

pub global_some : (n : ℕ) (gs : List (VariableType Label)) (x : ℕ) (g : VariableType Label) → slice_get gs x ≡ Some g → Some (value_type g.value.width (At (n + x))) ≡ option_map (λ g. g.value) (slice_get (globals_from n gs) x)
global_some n gs x g e = sym (globals_at n gs x ∙ ap (option_map (λ g. value_type g.value.width (At (n + x)))) e)

pub global_none : (n : ℕ) (gs : List (VariableType Label)) (x : ℕ) → length gs ≤ x → None ≡ option_map (λ g. g.value) (slice_get (globals_from n gs) x)
global_none n gs x le = sym (globals_at n gs x ∙ ap (option_map (λ g. value_type g.value.width (At (n + x)))) (slice_get_past gs x le))

-- a type's parameters are few
few_within : (es : List (TypeEntry Label)) → AllByRecursion (λ entry. length entry.type.params ≤ most_params) es → (y : ℕ) → length (unwrap_or (slice_get (map (λ entry. entry.type) es) y) no_function_type).params < 2 ^ 16
unfolding most_params
few_within [] h y = omega arith
few_within (e ∷ es) h zero = let k : length e.type.params ≤ 1000 = h.0 in omega arith
few_within (e ∷ es) h (suc y) = few_within es h.1 y

pub few_params : (m : Module Label) (y : ℕ) → IsWithinLimits m → length (type_named m y).params < 2 ^ 16
few_params m y w = few_within m.types (recursion_from_All (λ entry. length entry.type.params ≤ most_params) m.types w.params) y

-- an index that names no entry has the empty type
pub no_entry : (m : Module Label) (y : ℕ) → length m.types ≤ y → no_function_type ≡ type_named m y
no_entry m y le = sym (ap (λ z. unwrap_or z no_function_type) (slice_get_past (map (λ entry. entry.type) m.types) y (let l = length-map m.types (λ (entry : TypeEntry Label). entry.type) in omega (arith, l, le))))

-- the row of a call, by the function's entry and first site
pub call_none : (m : Module Label) (n : ℕ) (ys : List ℕ) (i : ℕ) → length (heads_from m n ys) ≤ i → takes_alone 0 ≡ call_row 0 (slice_get (types_from m n ys) i)
call_none m n ys i le = sym (ap (call_row 0) (slice_get_past (types_from m n ys) i (let a = heads_length m n ys in let b = types_length m n ys in omega (arith, a, b, le))))

given_type : (n k : ℕ) (t : Option (ValueType Label)) → option_map (λ w. value_type w (At (n + k))) (option_map (λ t. t.width) t) ≡ result_from (n + k) t
given_type n k None = refl
given_type n k (Some t) = refl

pub call_some : (m : Module Label) (n : ℕ) (ys : List ℕ) (i y h : ℕ) → slice_get ys i ≡ Some y → slice_get (heads_from m n ys) i ≡ Some h
    → call_row 0 (slice_get (types_from m n ys) i) ≡ gives_of (length (type_named m y).params) (result_from (h + length (type_named m y).params) (type_named m y).result)
call_some m n ys i y h e f =
    ap (call_row 0) (types_at m n ys i y h e f)
    ∙ (let k : length (params_from h (type_named m y).params) + 0 ≡ length (type_named m y).params = let l = params_length h (type_named m y).params in omega (arith, l) in
    ap (λ z. gives_of z (result_from (h + length (type_named m y).params) (type_named m y).result)) k)

-- what a call gives lies among the sites of functions
pub call_room : (m : Module Label) (i y p g : ℕ) → i < length (heads m) → slice_get (function_entries m) i ≡ Some y → p ≡ length (type_named m y).params → g ≡ first_global m → get_or (heads m) i 0 + p ≤ g
call_room m i y p g lt e q r =
    let h = heads_within m 0 0 (function_entries m) i y (get_or (heads m) i 0) e (slice_get-get_or (heads m) i 0 lt) in
    omega (arith, h, q, r)

pub call_given : (m : Module Label) (i y p : ℕ) (w : Option Width) → i < length (heads m) → slice_get (function_entries m) i ≡ Some y → p ≡ length (type_named m y).params → w ≡ option_map (λ t. t.width) (type_named m y).result
    → gives_of p (option_map (λ w. value_type w (At (get_or (heads m) i 0 + p))) w) ≡ call_row 0 (slice_get (sited_functions m) i)
call_given m i y p w lt e q r =
    let h : ℕ = get_or (heads m) i 0 in
    (λ j. gives_of (q j) (option_map (λ w. value_type w (At (h + q j))) (r j)))
    ∙ ap (gives_of (length (type_named m y).params)) (given_type h (length (type_named m y).params) (type_named m y).result)
    ∙ sym (call_some m 0 (function_entries m) i y h e (slice_get-get_or (heads m) i 0 lt))

pub memory_some : (m : Module Label) (s : ℕ) (t : MemoryType Label) → s ≡ memory_site m → memory_among m.imports m.memory ≡ Some t → At s ≡ unwrap_or (memory_tag m) Fixed
memory_some m s t e f = ap At e ∙ ap (λ z. unwrap_or (option_map (λ (t : MemoryType Label). At (memory_site m)) z) Fixed) (sym f)

pub memory_none : (m : Module Label) → memory_among m.imports m.memory ≡ None → Fixed ≡ unwrap_or (memory_tag m) Fixed
memory_none m f = ap (λ z. unwrap_or (option_map (λ (t : MemoryType Label). At (memory_site m)) z) Fixed) (sym f)

pub user_given : (m : Module Label) (n y p : ℕ) (w : Option Width) → p ≡ length (type_named m y).params → w ≡ option_map (λ t. t.width) (type_named m y).result
    → gives_of (p + 1) (option_map (λ w. value_type w (At (n + p))) w) ≡ call_row 1 (Some (type_from n (type_named m y)))
user_given m n y p w q r =
    let l = params_length n (type_named m y).params in
    let k : p + 1 ≡ length (params_from n (type_named m y).params) + 1 = omega (arith, q, l) in
    ap (λ z. gives_of z (option_map (λ w. value_type w (At (n + p))) w)) k
    ∙ (λ j. gives_of (length (params_from n (type_named m y).params) + 1) (option_map (λ w. value_type w (At (n + q j))) (r j)))
    ∙ ap (gives_of (length (params_from n (type_named m y).params) + 1)) (given_type n (length (type_named m y).params) (type_named m y).result)

-- a defined function's own type is its entry's
own_entry_of : (m : Module Label) (x : Option (Function Label)) (y : ℕ) → option_map (λ f. f.type) x ≡ Some y → type_of_some m x ≡ type_named m y
own_entry_of m None y e = cc
own_entry_of m (Some f) y e = let k : f.type ≡ y = cc in ap (type_named m) k

pub own_entry : (m : Module Label) (f y : ℕ) → imported_count m ≤ f → slice_get (function_entries m) f ≡ Some y → own_type m f ≡ type_named m y
own_entry m f y le e =
    let n : function_named m f ≡ slice_get m.functions (f - imported_count m) = ap (λ b. if b then None else slice_get m.functions (f - imported_count m)) (le-ltb f (imported_count m) le) in
    ap (type_of_some m) n
    ∙ own_entry_of m (slice_get m.functions (f - imported_count m)) y
    (sym (slice_get-map (λ (f : Function Label). f.type) m.functions (f - imported_count m)) ∙ sym (slice_get_right (imported_functions m.imports) (map (λ f. f.type) m.functions) f le) ∙ e)

pub head_here : (m : Module Label) (hs : List ℕ) (f : ℕ) → hs ≡ heads m → f < length (function_entries m) → f < length hs
head_here m hs f e lt = omega (arith, ap length e, heads_length m 0 (function_entries m), lt)

pub head_room : (m : Module Label) (hs : List ℕ) (f y p g : ℕ) → hs ≡ heads m → f < length (function_entries m) → slice_get (function_entries m) f ≡ Some y → p ≡ length (type_named m y).params → g ≡ first_global m → get_or hs f 0 + p ≤ g
head_room m hs f y p g e lt q w r =
    let h = call_room m f y p g (omega (arith, heads_length m 0 (function_entries m), lt)) q w r in
    let k = ap (λ z. get_or z f 0) e in
    omega (arith, h, k)

pub locals_number : (m : Module Label) (f c : ℕ) → c ≡ length (locals_named m f) → c ≡ length (own_type m f).params + length (declared m f)
locals_number m f c e = omega (arith, e, ap length (locals_split m f), length-append (own_type m f).params (declared m f))

-- a function's parameters as tags
pub tags_are : {A : Type 0} (n : ℕ) (ts : List (ValueType A)) → tags_from n (length ts) ≡ map (λ t. t.tag) (params_from n ts)
tags_are n [] = refl
tags_are n (t ∷ ts) = ap (λ z. At n ∷ z) (tags_are (n + 1) ts)

pub params_none : (m : Module Label) (i : ℕ) → length (heads m) ≤ i → None ≡ option_map (λ g. map (λ t. t.tag) g.params) (slice_get (sited_functions m) i)
params_none m i le = sym (ap (option_map (λ g. map (λ t. t.tag) g.params)) (slice_get_past (sited_functions m) i (let a = heads_length m 0 (function_entries m) in let b = types_length m 0 (function_entries m) in omega (arith, a, b, le))))

pub params_given : (m : Module Label) (i y p h : ℕ) → i < length (heads m) → slice_get (function_entries m) i ≡ Some y → p ≡ length (type_named m y).params → h ≡ get_or (heads m) i 0
    → Some (tags_from h p) ≡ option_map (λ g. map (λ t. t.tag) g.params) (slice_get (sited_functions m) i)
params_given m i y p h lt e q r =
    (λ j. Some (tags_from (r j) (q j))) ∙ ap Some (tags_are (get_or (heads m) i 0) (type_named m y).params)
    ∙ sym (ap (option_map (λ g. map (λ t. t.tag) g.params)) (types_at m 0 (function_entries m) i y (get_or (heads m) i 0) e (slice_get-get_or (heads m) i 0 lt)))
