-- The sites of functions, one function after another.
use Rattle.std.proofs.Common.{◌≡◌, ◌≤◌, ℕ, zero, suc, ◌+◌, List, [], ◌∷◌, ◌++◌, length, take, Option, Some, None, sym, ◌∙◌, ap, arith, length-append, append_assoc}
use Rattle.std.specs.Prelude.{option_map, slice_get}
use Rattle.std.proofs.lemmas.List.{append-nil}
use Rattle.ctw_ops.specs.declared.types.Label.{Label}
use Rattle.ctw_ops.specs.declared.types.Width.{Width}
use Rattle.ctw_ops.specs.Types.{FunctionType, MemoryType}
use Rattle.ctw_ops.specs.Tree.{Module, function_entries, global_types, memory_among, type_named}
use Rattle.ctw_labels.specs.declared.name.SiteName.TheVariants.{Param, Result, GlobalOf, Memory}
use Rattle.ctw_labels.specs.Names.{Site, site}
use Rattle.ctw_labels.specs.Numbering.{site_if, sites_for, type_sites}
use Rattle.ctw_labels.specs.SitedModule.{site_count, function_sites, head_sites}
use Rattle.ctw_labels.proofs.Contexts.{type_length}
use Rattle.ctw_sites.specs.Heads.{heads_from}
use Rattle.ctw_sites.specs.Leaves.{named_from, params, type_sites_of}
use Rattle.ctw_sites.specs.Packed.{Kept, after}
use Rattle.ctw_sites.proofs.LeafLaws.{width_site}
use Rattle.ctw_sites.proofs.PackedLaws.{sites_named, named_length, after_both}

pub type_of_length : (f p : ℕ) (w : Option Width) → length (type_sites_of f p w) ≡ p + length (site_if (Result f) w)
type_of_length f p w = let l = length-append (named_from (Param f) 0 p) (site_if (Result f) w) in let n = named_length (Param f) 0 p in omega (arith, l, n)

pub type_none : (k : Kept) (f p : ℕ) (w : Option Width) → w ≡ None → after k (params f p) ≡ after k (type_sites_of f p w)
type_none k f p w e = ap (after k) (sym (append-nil (params f p)) ∙ ap (λ z. type_sites_of f p z) (sym e))

pub type_some : (k : Kept) (f p : ℕ) (w : Option Width) (v : Width) → w ≡ Some v → after (after k (params f p)) (site (Result f) ∷ []) ≡ after k (type_sites_of f p w)
type_some k f p w v e = after_both k (params f p) (site (Result f) ∷ []) ∙ ap (λ z. after k (type_sites_of f p z)) (sym e)

pub type_is : (f p : ℕ) (w : Option Width) (g : FunctionType Label) → p ≡ length g.params → w ≡ option_map (λ t. t.width) g.result → type_sites_of f p w ≡ type_sites (Param f) (Result f) g
type_is f p w g e q =
    (λ i. type_sites_of f (e i) (q i))
    ∙ ap (λ z. z ++ site_if (Result f) (option_map (λ t. t.width) g.result)) (sym (sites_named (Param f) 0 g.params))
    ∙ ap (λ z. sites_for (Param f) 0 g.params ++ z) (sym (width_site (Result f) g.result))

more_from : (m : Module Label) (k : ℕ) (ys : List ℕ) (i y : ℕ) → slice_get ys i ≡ Some y → function_sites m k (take (suc i) ys) ≡ function_sites m k (take i ys) ++ type_sites (Param (k + i)) (Result (k + i)) (type_named m y)
more_from m k [] i y e = cc
more_from m k (x ∷ ys) zero y e =
    let a : x ≡ y = cc in
    let b : k ≡ k + 0 = omega arith in
    append-nil (type_sites (Param k) (Result k) (type_named m x)) ∙ (λ j. type_sites (Param (b j)) (Result (b j)) (type_named m (a j)))
more_from m k (x ∷ ys) (suc i) y e =
    let b : k + 1 + i ≡ k + suc i = omega arith in
    let T : List Site = type_sites (Param k) (Result k) (type_named m x) in
    ap (λ z. T ++ z) (more_from m (k + 1) ys i y e ∙ ap (λ z. function_sites m (k + 1) (take i ys) ++ type_sites (Param z) (Result z) (type_named m y)) b)
    ∙ sym (append_assoc T (function_sites m (k + 1) (take i ys)) (type_sites (Param (k + suc i)) (Result (k + suc i)) (type_named m y)))

pub sites_one_more : (m : Module Label) (ys : List ℕ) (i y : ℕ) → slice_get ys i ≡ Some y → function_sites m 0 (take (i + 1) ys) ≡ function_sites m 0 (take i ys) ++ type_sites (Param i) (Result i) (type_named m y)
sites_one_more m ys i y e =
    let a : i + 1 ≡ suc i = omega arith in
    let b : 0 + i ≡ i = omega arith in
    ap (λ z. function_sites m 0 (take z ys)) a ∙ more_from m 0 ys i y e ∙ ap (λ z. function_sites m 0 (take i ys) ++ type_sites (Param z) (Result z) (type_named m y)) b

heads_more : (m : Module Label) (n k : ℕ) (ys : List ℕ) (i y : ℕ) → slice_get ys i ≡ Some y → heads_from m n (take (suc i) ys) ≡ heads_from m n (take i ys) ++ (n + length (function_sites m k (take i ys))) ∷ []
heads_more m n k [] i y e = cc
heads_more m n k (x ∷ ys) zero y e = let a : n ≡ n + 0 = omega arith in ap (λ z. z ∷ []) a
heads_more m n k (x ∷ ys) (suc i) y e =
    let l = length-append (type_sites (Param k) (Result k) (type_named m x)) (function_sites m (k + 1) (take i ys)) in
    let t = type_length (Param k) (Result k) (type_named m x) in
    let a : n + site_count (type_named m x) + length (function_sites m (k + 1) (take i ys)) ≡ n + length (function_sites m k (x ∷ take i ys)) = omega (arith, l, t) in
    ap (λ z. n ∷ z) (heads_more m (n + site_count (type_named m x)) (k + 1) ys i y e ∙ ap (λ z. heads_from m (n + site_count (type_named m x)) (take i ys) ++ z ∷ []) a)

pub heads_one_more : (m : Module Label) (n : ℕ) (ys : List ℕ) (i y : ℕ) → slice_get ys i ≡ Some y → heads_from m n (take (i + 1) ys) ≡ heads_from m n (take i ys) ++ (n + length (function_sites m 0 (take i ys))) ∷ []
heads_one_more m n ys i y e = let a : i + 1 ≡ suc i = omega arith in ap (λ z. heads_from m n (take z ys)) a ∙ heads_more m n 0 ys i y e

sites_upto : (m : Module Label) (k : ℕ) (ys : List ℕ) (i : ℕ) → length (function_sites m k (take i ys)) ≤ length (function_sites m k ys)
sites_upto m k ys zero = omega arith
sites_upto m k [] (suc i) = omega arith
sites_upto m k (x ∷ ys) (suc i) =
    let h = sites_upto m (k + 1) ys i in
    let T : List Site = type_sites (Param k) (Result k) (type_named m x) in
    omega (arith, h, length-append T (function_sites m (k + 1) (take i ys)), length-append T (function_sites m (k + 1) ys))

-- there is room for one more function's sites
pub sites_room : (m : Module Label) (ys : List ℕ) (i y : ℕ) → slice_get ys i ≡ Some y → length (function_sites m 0 (take i ys)) + length (type_sites (Param i) (Result i) (type_named m y)) ≤ length (function_sites m 0 ys)
sites_room m ys i y e =
    let h = sites_upto m 0 ys (i + 1) in
    let s = ap length (sites_one_more m ys i y e) in
    let l = length-append (function_sites m 0 (take i ys)) (type_sites (Param i) (Result i) (type_named m y)) in
    omega (arith, h, s, l)

-- the sites of globals, and of the memory
abbrev pub with_globals : Module Label → ℕ → List Site
with_globals m g = function_sites m 0 (function_entries m) ++ named_from GlobalOf 0 g

pub head_is : (m : Module Label) (g : ℕ) → g ≡ length (global_types m) → with_globals m g ++ site_if Memory (memory_among m.imports m.memory) ≡ head_sites m
head_is m g e =
    let F : List Site = function_sites m 0 (function_entries m) in
    append_assoc F (named_from GlobalOf 0 g) (site_if Memory (memory_among m.imports m.memory))
    ∙ ap (λ z. F ++ (z ++ site_if Memory (memory_among m.imports m.memory))) (ap (named_from GlobalOf 0) e ∙ sym (sites_named GlobalOf 0 (global_types m)))

pub head_length : (m : Module Label) (g : ℕ) → g ≡ length (global_types m) → length (function_sites m 0 (function_entries m)) + g + length (site_if Memory (memory_among m.imports m.memory)) ≡ length (head_sites m)
head_length m g e =
    let F : List Site = function_sites m 0 (function_entries m) in
    let h = ap length (head_is m g e) in
    omega (arith, h, length-append (with_globals m g) (site_if Memory (memory_among m.imports m.memory)), length-append F (named_from GlobalOf 0 g), named_length GlobalOf 0 g)

pub head_some : (m : Module Label) (k : Kept) (g : ℕ) (t : MemoryType Label) → g ≡ length (global_types m) → memory_among m.imports m.memory ≡ Some t → after (after k (with_globals m g)) (site Memory ∷ []) ≡ after k (head_sites m)
head_some m k g t e f = after_both k (with_globals m g) (site Memory ∷ []) ∙ ap (λ z. after k (with_globals m g ++ site_if Memory z)) (sym f) ∙ ap (after k) (head_is m g e)

pub head_none : (m : Module Label) (k : Kept) (g : ℕ) → g ≡ length (global_types m) → memory_among m.imports m.memory ≡ None → after k (with_globals m g) ≡ after k (head_sites m)
head_none m k g e f = ap (after k) (sym (append-nil (with_globals m g)) ∙ ap (λ z. with_globals m g ++ site_if Memory z) (sym f) ∙ head_is m g e)
