-- How many sites a workload's module has at most.
use Rattle.std.proofs.Common.{◌≡◌, ℕ, ◌+◌, ◌*◌, ◌≤◌, ◌%◌, Bool, true, false, List, [], ◌∷◌, ◌++◌, length, map, Option, Some, None, refl, arith, length-append}
use Rattle.std.specs.Prelude.{◌==◌, if◌then◌else◌}
use Rattle.std.specs.List.{range_with_len, flat_map}
use Rattle.std.proofs.lemmas.List.FromFn.{length-range_with_len}
use Rattle.ctw_ops.specs.declared.numeric.Profile.{Profile}
use Rattle.ctw_ops.specs.declared.types.Label.{Label}
use Rattle.ctw_ops.specs.Code.{Leaf, Call, CallIndirect, LocalGet, Numeric, Select, Const, straight}
use Rattle.ctw_ops.specs.Tree.{Module, Function, function_entries, global_types, memory_among, type_named}
use Rattle.ctw_ops.specs.Typing.{Context}
use Rattle.ctw_stack.specs.Operands.{Operands, fresh}
use Rattle.ctw_labels.specs.declared.tag.Tag.{Tag}
use Rattle.ctw_labels.specs.declared.name.SiteName.{SiteName}
use Rattle.ctw_labels.specs.declared.name.SiteName.TheVariants.{Push as PushOf, GlobalOf, Memory as MemoryOf}
use Rattle.ctw_labels.specs.Sited.{Lift}
use Rattle.ctw_labels.specs.Points.{Points, no_points, trust_at}
use Rattle.ctw_labels.specs.Numbering.{type_from, BodyPlace, sites_for, site_if, own_sites, push_if, leaf_lift, leaf_sites, stepped, after_lift, number}
use Rattle.ctw_labels.specs.SitedModule.{site_context, place_of, function_sites, head_sites, body_from, bodies_from, bodies, body_sites, first_defined, sites}
use Rattle.ctw_sites.specs.Packed.{most_sites}
use Rattle.ctw_gen.specs.Draws.{draw}
use Rattle.ctw_gen.specs.Workload.{number as constant, computes, stores, leaves, calls, function, numbered, main, functions}
use Rattle.ctw_workloads.specs.Placed.{workload_under}

-- ---- instructions

-- no instruction brings its own type
abbrev pub AreDirect : List (Leaf Label) → Type 0
AreDirect [] = Unit {0}
AreDirect (CallIndirect y ∷ l) = ⊥
AreDirect (i ∷ l) = AreDirect l

push_few : (name : SiteName) (l : Option (Lift Tag)) → length (push_if name l) ≤ 1
push_few name None = omega arith
push_few name (Some l) = omega arith

module _ (P : BodyPlace Label) (C : Context Tag) where
  leaf_few : (n at : ℕ) (i : Leaf Label) (l : List (Leaf Label)) (o : Operands Tag) → AreDirect (i ∷ l) → length (own_sites P at i) ≤ 1
  leaf_few n at (Numeric op l) ls o h = omega arith
  leaf_few n at (Select l) ls o h = omega arith
  leaf_few n at (Const w l bits) ls o h = omega arith
  leaf_few n at (CallIndirect y) ls o h = absurd h
  leaf_few n at _ ls o h = omega arith

  direct_rest : (i : Leaf Label) (l : List (Leaf Label)) → AreDirect (i ∷ l) → AreDirect l
  direct_rest (CallIndirect y) l h = absurd h
  direct_rest _ l h = h

  -- at most two sites for each instruction
  pub straight_few : (l : List (Leaf Label)) (n at : ℕ) (o : Operands Tag) → AreDirect l → length (number P C (straight l) n at o).sites ≤ 2 * length l
  straight_few [] n at o h = omega arith
  straight_few (i ∷ l) n at o h =
      let k = leaf_lift P C n at i o in
      let own = leaf_sites P C n at i o in
      let rest = (number P C (straight l) (n + length own) (at + 1) (after_lift k (stepped P C n i o))).sites in
      omega (
        arith,
        length-append own rest,
        length-append (own_sites P at i) (push_if (PushOf P.func at) k),
        leaf_few n at i l o h,
        push_few (PushOf P.func at) k,
        straight_few l (n + length own) (at + 1) (after_lift k (stepped P C n i o)) (direct_rest i l h),
      )

computes_direct : (a c : ℕ) (l : List (Leaf Label)) → AreDirect l → AreDirect (computes a c ++ l)
computes_direct a c l h = h

leaves_few : (a c : ℕ) (stored : Bool) → length (computes a c ++ (if stored then stores else [])) ≤ 12
leaves_few a c true = omega arith
leaves_few a c false = omega arith

leaves_direct : (a c : ℕ) (stored : Bool) → AreDirect (computes a c ++ (if stored then stores else []))
leaves_direct a c true = tt
leaves_direct a c false = tt

-- a number and a call for each of these
abbrev calls_of : List ℕ → List (Leaf Label)
calls_of l = flat_map (λ k. constant k ∷ Call k ∷ []) l

calls_direct : (l : List ℕ) → AreDirect (calls_of l)
calls_direct [] = tt
calls_direct (k ∷ l) = calls_direct l

calls_long : (l : List ℕ) → length (calls_of l) ≡ 2 * length l
calls_long [] = refl
calls_long (k ∷ l) = omega (arith, calls_long l)

main_long : (size : ℕ) → length (LocalGet 0 ∷ calls size) ≡ 2 * size + 1
main_long size = omega (arith, calls_long (range_with_len 0 size), length-range_with_len 0 size)

-- ---- the module

module _ (q : Profile) (seed size : ℕ) where
  abbrev m : Module Label
  m = workload_under q seed size

  -- the functions of these numbers, and `main`
  abbrev of_numbers : List ℕ → List (Function Label)
  of_numbers l = map (numbered seed) l ++ main size ∷ []

  heads_few : (k : ℕ) (l : List ℕ) → length (function_sites m k (map (λ f. f.type) (of_numbers l))) ≤ 3 * length l + 2
  heads_few k [] = omega arith
  heads_few k (n ∷ l) = omega (arith, heads_few (k + 1) l)

  body_few : (p : Points) (s k n type : ℕ) (l : List (Leaf Label)) → AreDirect l → length (body_from m p s k n (function type l)).sites ≤ 2 * length l
  body_few p s k n type l h = straight_few (place_of m p k) (site_context m (trust_at p k) (type_from s (type_named m type)) []) l (n + 0) 0 fresh h

  made_few : (p : Points) (s k n i : ℕ) → length (body_from m p s k n (numbered seed i)).sites ≤ 24
  made_few p s k n i =
      let stored : Bool = draw seed (3 * i + 2) % 2 == 1 in
      let a : ℕ = draw seed (3 * i) in
      let c : ℕ = draw seed (3 * i + 1) in
      omega (arith, body_few p s k n 0 (leaves a c (draw seed (3 * i + 2))) (leaves_direct a c stored), leaves_few a c stored)

  main_few : (p : Points) (s k n : ℕ) → length (body_from m p s k n (main size)).sites ≤ 4 * size + 2
  main_few p s k n = omega (arith, body_few p s k n 1 (LocalGet 0 ∷ calls size) (calls_direct (range_with_len 0 size)), main_long size)

  bodies_few : (p : Points) (s k n : ℕ) (l : List ℕ) → length (body_sites (bodies_from m p s k n (of_numbers l))) ≤ 24 * length l + (4 * size + 2)
  bodies_few p s k n [] =
      let own = (body_from m p s k n (main size)).sites in
      omega (arith, main_few p s k n, length-append own [])
  bodies_few p s k n (i ∷ l) =
      let own = (body_from m p s k n (numbered seed i)).sites in
      let rest = bodies_from m p (s + 3) (k + 1) (n + length own) (of_numbers l) in
      omega (arith, made_few p s k n i, length-append own (body_sites rest), bodies_few p (s + 3) (k + 1) (n + length own) l)

  pub sites_few : size ≤ 20000 → length (sites m) ≤ most_sites
  unfolding functions
  sites_few le =
      let l : List ℕ = range_with_len 0 size in
      let long : length l ≡ size = length-range_with_len 0 size in
      let heads = function_sites m 0 (function_entries m) in
      omega (
        arith,
        long,
        length-append (head_sites m) (body_sites (bodies m no_points)),
        length-append heads (sites_for GlobalOf 0 (global_types m) ++ site_if MemoryOf (memory_among m.imports m.memory)),
        heads_few 0 l,
        bodies_few no_points (first_defined m) 0 (length (head_sites m)) l,
      )
