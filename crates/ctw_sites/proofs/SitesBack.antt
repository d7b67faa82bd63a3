-- What is read back of the words of a module's sites is these sites.
use Rattle.std.proofs.Common.{◌≡◌, ◌≤◌, ◌<◌, ◌^◌, ℕ, ◌+◌, List, [], ◌∷◌, ◌++◌, length, map, Option, Some, None, refl, sym, ◌∙◌, ap, subst, arith, length-append}
use Rattle.std.specs.List.{AllByRecursion}
use Rattle.std.specs.List.Sorted.{IsNonDecreasing}
use Rattle.std.specs.Prelude.{option_map, unwrap_or}
use Rattle.ctw_ops.specs.declared.types.Label.{Label}
use Rattle.ctw_ops.specs.declared.types.Trust.TheVariants.{Untrusted}
use Rattle.ctw_ops.specs.Types.{ValueType, FunctionType, VariableType, MemoryType}
use Rattle.ctw_ops.specs.Tree.{Module, Function, function_entries, global_types, imported_functions, memory_among, type_named}
use Rattle.ctw_ops.specs.Typing.{Context, optional}
use Rattle.ctw_form.proofs.Weights.{weight}
use Rattle.ctw_module.specs.Lookup.{imported_count}
use Rattle.ctw_module.proofs.Sizes.{opcodes_in, locals_in}
use Rattle.ctw_stack.specs.Operands.{fresh}
use Rattle.ctw_labels.specs.declared.tag.Tag.{Tag}
use Rattle.ctw_labels.specs.declared.tag.Tag.TheVariants.{At, Fixed}
use Rattle.ctw_labels.specs.declared.name.SiteName.TheVariants.{Param, Result, GlobalOf, Memory as MemoryOf, Local}
use Rattle.ctw_labels.specs.Names.{Site}
use Rattle.ctw_labels.specs.Points.{no_points}
use Rattle.ctw_labels.specs.Numbering.{params_from, type_from, sites_for, site_if, type_sites, number}
use Rattle.ctw_labels.specs.SitedModule.{SitedBody, site_count, types_from, function_sites, globals_from, first_global, memory_site, head_sites, site_context, place_of, first_defined, body_from, bodies_from, bodies, body_sites, sites}
use Rattle.ctw_labels.proofs.Contexts.{type_length, names_length}
use Rattle.ctw_labels.proofs.NumberLaws.{all_append_to}
use Rattle.ctw_sites.specs.Heads.{heads_from, heads}
use Rattle.ctw_sites.specs.Starts.{starts_from}
use Rattle.ctw_sites.specs.Unpacked.{Firsts, upto, func_at, body_at}
use Rattle.ctw_sites.proofs.HeadLaws.{head_length}
use Rattle.ctw_sites.proofs.SizeLaws.{opcodes_length}
use Rattle.ctw_sites.proofs.UnpackedLaws.{places, upto_more, upto_none, places_rise, param_back, result_back, global_back, memory_back, local_back, AllBack, back_append, named_back, in_code_back}
use Rattle.ctw_sites.proofs.YieldLaws.{TagFits, ResultFits, ContextFits, result_fits, number_in}

-- how many sites functions have
abbrev pub total : Module Label → List ℕ → ℕ
total m [] = 0
total m (y ∷ ys) = site_count (type_named m y) + total m ys

total_is : (m : Module Label) (k : ℕ) (ys : List ℕ) → length (function_sites m k ys) ≡ total m ys
total_is m k [] = refl
total_is m k (y ∷ ys) =
    let l = length-append (type_sites (Param k) (Result k) (type_named m y)) (function_sites m (k + 1) ys) in
    omega (arith, l, type_length (Param k) (Result k) (type_named m y), total_is m (k + 1) ys)

total_append : (m : Module Label) (xs ys : List ℕ) → total m (xs ++ ys) ≡ total m xs + total m ys
total_append m [] ys = omega arith
total_append m (x ∷ xs) ys = omega (arith, total_append m xs ys)

-- ---- where they begin

heads_are : (m : Module Label) (n : ℕ) (ys : List ℕ) → heads_from m n ys ≡ places n (map (λ y. site_count (type_named m y)) ys)
heads_are m n [] = refl
heads_are m n (y ∷ ys) = ap (λ z. n ∷ z) (heads_are m (n + site_count (type_named m y)) ys)

starts_are : (n : ℕ) (bs : List SitedBody) → starts_from n bs ≡ places n (map (λ b. length b.sites) bs)
starts_are n [] = refl
starts_are n (b ∷ bs) = ap (λ z. n ∷ z) (starts_are (n + length b.sites) bs)

pub heads_rise : (m : Module Label) (n : ℕ) (ys : List ℕ) → IsNonDecreasing (heads_from m n ys)
heads_rise m n ys = subst IsNonDecreasing (sym (heads_are m n ys)) (places_rise n (map (λ y. site_count (type_named m y)) ys))

pub starts_rise : (n : ℕ) (bs : List SitedBody) → IsNonDecreasing (starts_from n bs)
starts_rise n bs = subst IsNonDecreasing (sym (starts_are n bs)) (places_rise n (map (λ b. length b.sites) bs))

no_heads : (m : Module Label) (i n : ℕ) (ys : List ℕ) → i < n → upto i (heads_from m n ys) ≡ 0
no_heads m i n ys lt = ap (upto i) (heads_are m n ys) ∙ upto_none i n (map (λ y. site_count (type_named m y)) ys) lt

no_starts : (i n : ℕ) (bs : List SitedBody) → i < n → upto i (starts_from n bs) ≡ 0
no_starts i n bs lt = ap (upto i) (starts_are n bs) ∙ upto_none i n (map (λ b. length b.sites) bs) lt

-- ---- what bodies may name fits into words

types_fit : (m : Module Label) (n : ℕ) (ys : List ℕ) → n + total m ys < 2 ^ 25 → AllByRecursion (λ g. ResultFits g.result) (types_from m n ys)
types_fit m n [] lt = tt
types_fit m n (y ∷ ys) lt =
    let g : FunctionType Label = type_named m y in
    (result_fits (n + length g.params) g.result (omega (arith, lt)), types_fit m (n + site_count g) ys (omega (arith, lt)))

globals_fit : (n : ℕ) (gs : List (VariableType Label)) → n + length gs < 2 ^ 25 → AllByRecursion (λ g. TagFits g.value.tag) (globals_from n gs)
globals_fit n [] lt = tt
globals_fit n (g ∷ gs) lt = (omega (arith, lt), globals_fit (n + 1) gs (omega (arith, lt)))

params_fit : (n : ℕ) (ts : List (ValueType Label)) → n + length ts < 2 ^ 25 → AllByRecursion (λ t. TagFits t.tag) (params_from n ts)
params_fit n [] lt = tt
params_fit n (t ∷ ts) lt = (omega (arith, lt), params_fit (n + 1) ts (omega (arith, lt)))

memory_fits : (n : ℕ) (o : Option (MemoryType Label)) → n + 1 < 2 ^ 25 → TagFits (unwrap_or (option_map (λ t. At n) o) Fixed)
memory_fits n None lt = tt
memory_fits n (Some t) lt = lt

-- a module's sites are few enough
pub record AreFew (m : Module Label) : Type 0 where
  pub types : (y : ℕ) → site_count (type_named m y) ≤ 1001
  pub globals : length (global_types m) ≤ 2 ^ 21
  pub opcodes : weight opcodes_in m.functions ≤ 2 ^ 21
  pub locals : weight locals_in m.functions ≤ 2 ^ 24
  pub all : length (sites m) ≤ 2 ^ 24

module _ (m : Module Label) (few : AreFew m) where
  head_within : length (function_sites m 0 (function_entries m)) + length (global_types m) ≤ 2 ^ 24
  head_within =
      let h = head_length m (length (global_types m)) refl in
      let a = few.all in
      omega (arith, h, a, length-append (head_sites m) (body_sites (bodies m no_points)))

  context_fits : (q n : ℕ) (g : FunctionType Label) (locals : List (ValueType Label)) → q + site_count g < 2 ^ 25 → n + length locals < 2 ^ 25
      → ContextFits (site_context m Untrusted (type_from q g) (params_from n locals))
  context_fits q n g locals lq ln =
      let h = head_within in
      let t = total_is m 0 (function_entries m) in
      record {
        functions = types_fit m 0 (function_entries m) (omega (arith, h, t));
        globals = globals_fit (first_global m) (global_types m) (omega (arith, h));
        locals = all_append_to (λ t. TagFits t.tag) (params_from q g.params) (params_from n locals) (params_fit q g.params (omega (arith, lq))) (params_fit n locals ln);
        memory = memory_fits (memory_site m) (memory_among m.imports m.memory) (omega (arith, h));
        labels = (result_fits (q + length g.params) g.result (omega (arith, lq)), tt);
        public = tt;
      }

  module _ (t : Firsts) where
    if_back : (n k : ℕ) (r : Option (ValueType Label)) → (0 < length (optional r) → func_at t n ≡ k) → AllBack t n (site_if (Result k) r)
    if_back n k None h = tt
    if_back n k (Some r) h = (result_back t n k (h (omega arith)), tt)

    type_back : (n k : ℕ) (g : FunctionType Label) → site_count g ≤ 1001 → ((i : ℕ) → n ≤ i → i < n + site_count g → func_at t i ≡ k) → AllBack t n (type_sites (Param k) (Result k) g)
    type_back n k g le h =
        let l = names_length (Param k) 0 g.params in
        back_append t n (sites_for (Param k) 0 g.params) (site_if (Result k) g.result)
        (named_back t (Param k) n (n + length g.params) (2 ^ 25) (λ place i a b d. param_back t place k i (h place a (omega (arith, b))) d) n 0 g.params (omega arith) (omega arith) (omega (arith, le)))
        (if_back (n + length (sites_for (Param k) 0 g.params)) k g.result (λ s. h (n + length (sites_for (Param k) 0 g.params)) (omega arith) (omega (arith, l, s))))

    functions_back : (n k : ℕ) (ys : List ℕ) → ((i : ℕ) → n ≤ i → upto i t.heads ≡ k + upto i (heads_from m n ys)) → AllBack t n (function_sites m k ys)
    functions_back n k [] h = tt
    functions_back n k (y ∷ ys) h =
        let g : FunctionType Label = type_named m y in
        let own : List Site = type_sites (Param k) (Result k) g in
        let e : n + site_count g ≡ n + length own = omega (arith, type_length (Param k) (Result k) g) in
        back_append t n own (function_sites m (k + 1) ys)
        (type_back n k g (few.types y) (λ i a b. here i a b))
        (subst (λ z. AllBack t z (function_sites m (k + 1) ys)) e (functions_back (n + site_count g) (k + 1) ys (λ i a. later i a)))
      where
        later : (i : ℕ) → n + site_count (type_named m y) ≤ i → upto i t.heads ≡ k + 1 + upto i (heads_from m (n + site_count (type_named m y)) ys)
        later i a = let p = h i (omega (arith, a)) in let q = upto_more i n (heads_from m (n + site_count (type_named m y)) ys) (omega (arith, a)) in omega (arith, p, q)

        here : (i : ℕ) → n ≤ i → i < n + site_count (type_named m y) → func_at t i ≡ k
        here i a b =
            let p = h i a in
            let q = upto_more i n (heads_from m (n + site_count (type_named m y)) ys) a in
            let r = no_heads m i (n + site_count (type_named m y)) ys b in
            omega (arith, p, q, r)

    global_sites_back : (n : ℕ) → AllBack t n (sites_for GlobalOf 0 (global_types m))
    global_sites_back n = let l = few.globals in named_back t GlobalOf n (n + length (global_types m)) (2 ^ 21) (λ place i a b d. global_back t place i d) n 0 (global_types m) (omega arith) (omega arith) (omega (arith, l))

    memory_site_back : (n : ℕ) (o : Option (MemoryType Label)) → AllBack t n (site_if MemoryOf o)
    memory_site_back n None = tt
    memory_site_back n (Some x) = (memory_back t n, tt)

    head_back : ((i : ℕ) → upto i t.heads ≡ upto i (heads m)) → AllBack t 0 (head_sites m)
    head_back h =
        let F : List Site = function_sites m 0 (function_entries m) in
        let G : List Site = sites_for GlobalOf 0 (global_types m) in
        let M : List Site = site_if MemoryOf (memory_among m.imports m.memory) in
        back_append t 0 F (G ++ M) (functions_back 0 0 (function_entries m) (λ i a. let p = h i in omega (arith, p)))
        (back_append t (0 + length F) G M (global_sites_back (0 + length F)) (memory_site_back (0 + length F + length G) (memory_among m.imports m.memory)))

    body_back : (q k n : ℕ) (f : Function Label) → opcodes_in f ≤ 2 ^ 21 → length f.locals ≤ 2 ^ 24 → q + site_count (type_named m f.type) < 2 ^ 25 → n + length (body_from m no_points q k n f).sites ≤ 2 ^ 24
        → ((i : ℕ) → n ≤ i → i < n + length (body_from m no_points q k n f).sites → body_at t i ≡ k) → AllBack t n (body_from m no_points q k n f).sites
    body_back q k n f lo ll lq ln h =
        let g : FunctionType Label = type_named m f.type in
        let C : Context Tag = site_context m Untrusted (type_from q g) (params_from n f.locals) in
        let L : List Site = sites_for (Local k) (length g.params) f.locals in
        let B : List Site = (number (place_of m no_points k) C f.body (n + length f.locals) 0 fresh).sites in
        let hi : ℕ = n + length (L ++ B) in
        let a = names_length (Local k) (length g.params) f.locals in
        let b = length-append L B in
        let c = opcodes_length f.body in
        let p = few.types f.type in
        let fits = number_in (place_of m no_points k) (λ y. let s = few.types y in omega (arith, s)) C (context_fits q n g f.locals lq (omega (arith, a, b, ln))) f.body (n + length f.locals) 0 fresh (omega (arith, c, lo)) (omega (arith, a, b, ln)) in
        back_append t n L B
        (named_back t (Local k) n hi (2 ^ 25) (λ place i r s d. local_back t place k i (h place r s) d) n (length g.params) f.locals (omega arith) (omega (arith, a, b)) (omega (arith, p, ll)))
        (in_code_back t k n hi h (n + length L) B (omega arith) (omega (arith, b)) fits)

    bodies_back : (q k j n : ℕ) (fs : List (Function Label)) → k ≡ t.imported + j → weight opcodes_in fs ≤ 2 ^ 21 → weight locals_in fs ≤ 2 ^ 24 → q + total m (map (λ f. f.type) fs) < 2 ^ 25
        → n + length (body_sites (bodies_from m no_points q k n fs)) ≤ 2 ^ 24 → ((i : ℕ) → n ≤ i → upto i t.starts ≡ j + upto i (starts_from n (bodies_from m no_points q k n fs)))
        → AllBack t n (body_sites (bodies_from m no_points q k n fs))
    bodies_back q k j n [] e lo ll lq ln h = tt
    bodies_back q k j n (f ∷ fs) e lo ll lq ln h =
        let own : List Site = (body_from m no_points q k n f).sites in
        let p : ℕ = q + site_count (type_named m f.type) in
        let rest : List Site = body_sites (bodies_from m no_points p (k + 1) (n + length own) fs) in
        let a = length-append own rest in
        back_append t n own rest
        (body_back q k n f (omega (arith, lo)) (omega (arith, ll)) (omega (arith, lq)) (omega (arith, a, ln)) here)
        (bodies_back p (k + 1) (j + 1) (n + length own) fs (omega (arith, e)) (omega (arith, lo)) (omega (arith, ll)) (omega (arith, lq)) (omega (arith, a, ln)) later)
      where
        later : (i : ℕ) → n + length (body_from m no_points q k n f).sites ≤ i
            → upto i t.starts ≡ j + 1 + upto i (starts_from (n + length (body_from m no_points q k n f).sites) (bodies_from m no_points (q + site_count (type_named m f.type)) (k + 1) (n + length (body_from m no_points q k n f).sites) fs))
        later i a =
            let r : List ℕ = starts_from (n + length (body_from m no_points q k n f).sites) (bodies_from m no_points (q + site_count (type_named m f.type)) (k + 1) (n + length (body_from m no_points q k n f).sites) fs) in
            let u = h i (omega (arith, a)) in
            let v = upto_more i n r (omega (arith, a)) in
            omega (arith, u, v)

        here : (i : ℕ) → n ≤ i → i < n + length (body_from m no_points q k n f).sites → body_at t i ≡ k
        here i a b =
            let bs : List SitedBody = bodies_from m no_points (q + site_count (type_named m f.type)) (k + 1) (n + length (body_from m no_points q k n f).sites) fs in
            let u = h i a in
            let v = upto_more i n (starts_from (n + length (body_from m no_points q k n f).sites) bs) a in
            let w = no_starts i (n + length (body_from m no_points q k n f).sites) bs b in
            omega (arith, u, v, w, e)

-- where the sites of a module's functions and bodies begin
abbrev pub firsts_of : Module Label → Firsts
firsts_of m = record {
  heads = heads m;
  starts = starts_from (length (head_sites m)) (bodies m no_points);
  imported = imported_count m;
}

pub sites_back : (m : Module Label) → AreFew m → AllBack (firsts_of m) 0 (sites m)
sites_back m few =
    let t : Firsts = firsts_of m in
    let H : List Site = head_sites m in
    let B : List Site = body_sites (bodies m no_points) in
    let T : List ℕ = map (λ f. f.type) m.functions in
    let lo = few.opcodes in
    let ll = few.locals in
    let all = few.all in
    let h = head_within m few in
    let a = length-append H B in
    let b = total_is m 0 (function_entries m) in
    let c = total_append m (imported_functions m.imports) T in
    let d = total_is m 0 (imported_functions m.imports) in
    let z : length H ≡ 0 + length H = omega arith in
    back_append t 0 H B (head_back m few t (λ i. refl))
    (subst (λ n. AllBack t n B) z (bodies_back m few t (first_defined m) (imported_count m) 0 (length H) m.functions (omega arith) lo ll (omega (arith, h, b, c, d)) (omega (arith, a, all)) (λ i le. omega arith)))
