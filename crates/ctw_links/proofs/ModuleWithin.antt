-- The links and the public sites of a valid plain module are of sites below their count, by rules that have numbers.
use Rattle.std.proofs.Common.{◌≡◌, ◌≤◌, ◌<◌, ◌^◌, ℕ, zero, suc, ◌+◌, List, [], ◌∷◌, ◌++◌, length, map, Option, Some, None, refl, sym, ◌∙◌, ap, subst, arith, length-append}
use Rattle.std.specs.Prelude.{slice_get, unwrap_or, option_map, if◌then◌else◌, Bool, true, false}
use Rattle.std.specs.List.{AllByRecursion}
use Rattle.std.proofs.lemmas.List.{length-map}
use Rattle.std.proofs.lemmas.Option.{none-some}
use Rattle.ctw_ops.specs.declared.types.Label.{Label}
use Rattle.ctw_ops.specs.declared.types.Trust.TheVariants.{Untrusted}
use Rattle.ctw_ops.specs.Types.{ValueType, FunctionType, VariableType, MemoryType}
use Rattle.ctw_ops.specs.Code.{opcodes}
use Rattle.ctw_ops.specs.Plain.{IsPlainModule}
use Rattle.ctw_ops.specs.Valid.{IsValid}
use Rattle.ctw_ops.specs.Tree.{Module, Function, Element, Global, Constant, Number, ValueOf, function_entries, function_types, global_types, imported_functions, imported_globals, memory_among, type_named}
use Rattle.ctw_ops.specs.Typing.{Context, optional}
use Rattle.ctw_stack.specs.Opens.{opened}
use Rattle.ctw_labels.specs.declared.tag.Tag.{Tag}
use Rattle.ctw_labels.specs.declared.tag.Tag.TheVariants.{At, Fixed}
use Rattle.ctw_labels.specs.declared.name.SiteName.TheVariants.{Param, Result, GlobalOf, Memory, Local}
use Rattle.ctw_labels.specs.Names.{Site}
use Rattle.ctw_labels.specs.Points.{no_points}
use Rattle.ctw_labels.specs.Links.{Fact, fact, after}
use Rattle.ctw_labels.specs.Numbering.{params_from, result_from, type_from, sites_for, site_if, type_sites}
use Rattle.ctw_labels.specs.FlatSites.{flat_sites}
use Rattle.ctw_labels.specs.SitedModule.{SitedBody, site_count, types_from, function_sites, globals_from, first_global, first_defined_global, memory_site, sited_functions, sited_globals, head_sites, site_context, place_of, first_defined, body_from, bodies_from, bodies, body_sites, sites, numbered_body}
use Rattle.ctw_labels.specs.ModuleLinks.{uses, body_uses, entry_users, element_users, users, erase_alike, first_alike, tag_facts, type_facts, user_facts, init_fact, init_facts, offset_fact, offset_facts, offsets, body_facts, facts_within, module_facts}
use Rattle.ctw_labels.proofs.Contexts.{type_length, names_length}
use Rattle.ctw_labels.proofs.NumberLaws.{all_append_to}
use Rattle.ctw_labels.proofs.BodyOps.{body_sites_flat}
use Rattle.ctw_labels.proofs.ValidGoes.{GoFunctions, bodies_go}
use Rattle.ctw_sites.specs.Bodies.{outermost}
use Rattle.ctw_sites.proofs.BodyLaws.{body_length}
use Rattle.ctw_sites.proofs.HeadLaws.{head_length}
use Rattle.ctw_links.specs.declared.user.User.{User}
use Rattle.ctw_links.specs.Collected.{TagIn, FactIn}
use Rattle.ctw_links.specs.Firsts.{IsPlaced}
use Rattle.ctw_links.specs.Uses.{flat_users, type_of_user, types_of_users}
use Rattle.ctw_links.proofs.BodyFacts.{facts_added, users_added}
use Rattle.ctw_links.proofs.Within.{found, ResultIn, ValuesIn, TypeIn, FactsIn, ScopeIn, facts_both, params_in, result_in, type_in, flat_in, YieldsIn, named_yields, if_yields, yields_both}

pub record BodyIn (m : Module Label) (N : ℕ) (b : SitedBody) : Type 0 where
  pub facts : FactsIn N (body_facts m no_points b)
  pub users : AllByRecursion (TypeIn N) (uses b.code)
  pub yields : YieldsIn N b.sites

pub record BodiesIn (m : Module Label) (N : ℕ) (bs : List SitedBody) : Type 0 where
  pub facts : FactsIn N (facts_within m no_points bs)
  pub users : AllByRecursion (TypeIn N) (body_uses bs)
  pub yields : YieldsIn N (body_sites bs)

module _ (m : Module Label) (N : ℕ) where
  abbrev TypesIn : List (FunctionType Tag) → Type 0
  TypesIn gs = AllByRecursion (TypeIn N) gs

  -- ---- what bodies may name

  types_in : (n k : ℕ) (ys : List ℕ) → n + length (function_sites m k ys) ≤ N → TypesIn (types_from m n ys)
  types_in n k [] le = tt
  types_in n k (y ∷ ys) le =
      let l = length-append (type_sites (Param k) (Result k) (type_named m y)) (function_sites m (k + 1) ys) in
      let t = type_length (Param k) (Result k) (type_named m y) in
      (type_in N n (type_named m y) (omega (arith, l, t, le)), types_in (n + site_count (type_named m y)) (k + 1) ys (omega (arith, l, t, le)))

  globals_in : (n : ℕ) (gs : List (VariableType Label)) → n + length gs ≤ N → AllByRecursion (λ g. TagIn N g.value.tag) (globals_from n gs)
  globals_in n [] le = tt
  globals_in n (g ∷ gs) le = (omega (arith, le), globals_in (n + 1) gs (omega (arith, le)))

  memory_in : (s : ℕ) (o : Option (MemoryType Label)) → s + length (site_if Memory o) ≤ N → TagIn N (unwrap_or (option_map (λ t. At s) o) Fixed)
  memory_in s None le = tt
  memory_in s (Some t) le = omega (arith, le)

  module _ (le : length (sites m) ≤ N) where
    head_room : length (head_sites m) ≤ N
    head_room = let l = length-append (head_sites m) (body_sites (bodies m no_points)) in omega (arith, l, le)

    globals_room : first_global m + length (global_types m) + length (site_if Memory (memory_among m.imports m.memory)) ≤ N
    globals_room = let h = head_length m (length (global_types m)) refl in let r = head_room in omega (arith, h, r)

    functions_in : TypesIn (sited_functions m)
    functions_in = let r = globals_room in types_in 0 0 (function_entries m) (omega (arith, r))

    all_globals : AllByRecursion (λ g. TagIn N g.value.tag) (sited_globals m)
    all_globals = let r = globals_room in globals_in (first_global m) (global_types m) (omega (arith, r))

    scope_in : (q n : ℕ) (F : Function Label) → q + site_count (type_named m F.type) ≤ N → n + length F.locals ≤ N → ScopeIn N (site_context m Untrusted (type_from q (type_named m F.type)) (params_from n F.locals))
    scope_in q n F lq ln =
        let g = type_named m F.type in
        let r = globals_room in
        record {
          functions = functions_in;
          globals = all_globals;
          locals = all_append_to (λ t. TagIn N t.tag) (params_from q g.params) (params_from n F.locals) (params_in N q g.params (omega (arith, lq))) (params_in N n F.locals ln);
          memory = memory_in (memory_site m) (memory_among m.imports m.memory) (omega (arith, r));
          result = result_in N (q + length g.params) g.result (omega (arith, lq));
          public = tt;
          secret = tt;
        }

    -- ---- bodies

    mapped_in : (types : List (FunctionType Label)) (us : List User) → AllByRecursion (λ u. TypeIn N (type_of_user types u)) us → TypesIn (types_of_users types us)
    mapped_in types [] h = tt
    mapped_in types (u ∷ us) h = (h.0, mapped_in types us h.1)

    body_in : (q k n : ℕ) (F : Function Label) → GoFunctions m q k n (F ∷ []) → q + site_count (type_named m F.type) ≤ N → n + length (body_from m no_points q k n F).sites ≤ N → BodyIn m N (body_from m no_points q k n F)
    body_in q k n F go lq ln =
        let P = place_of m no_points k in
        let C = site_context m Untrusted (type_from q (type_named m F.type)) (params_from n F.locals) in
        let t = n + length F.locals in
        let L = sites_for (Local k) (length (type_named m F.type).params) F.locals in
        let b = body_length m q k n F in
        let flat = body_sites_flat P C refl F.body t in
        let f = ap length flat in
        let w = flat_in N P C (scope_in q n F lq (omega (arith, b, ln))) (opcodes F.body) (outermost C) t 0 go.0
        ((tt, result_in N (q + length (type_named m F.type).params) (type_named m F.type).result (omega (arith, lq))), tt) (tt, tt) (omega (arith, b, f, ln)) in
        record {
          facts = subst (FactsIn N) (facts_added m q k n F C t refl refl) w.0;
          users = subst (AllByRecursion (TypeIn N)) (users_added m q k n F C t refl refl) (mapped_in (function_types m) (flat_users P C (opcodes F.body) (outermost C) t 0) w.1);
          yields = yields_both N L (numbered_body m no_points (type_from q (type_named m F.type)) k n F).sites (named_yields N (Local k) (length (type_named m F.type).params) F.locals) (subst (YieldsIn N) flat w.2);
        }

    bodies_in : (q k n : ℕ) (fs : List (Function Label)) → GoFunctions m q k n fs → q + length (function_sites m k (map (λ f. f.type) fs)) ≤ N → n + length (body_sites (bodies_from m no_points q k n fs)) ≤ N → BodiesIn m N (bodies_from m no_points q k n fs)
    bodies_in q k n [] go lq ln = record { facts = tt; users = tt; yields = tt }
    bodies_in q k n (F ∷ fs) go lq ln =
        let b = body_from m no_points q k n F in
        let p = q + site_count (type_named m F.type) in
        let bs = bodies_from m no_points p (k + 1) (n + length b.sites) fs in
        let l = length-append b.sites (body_sites bs) in
        let a = length-append (type_sites (Param k) (Result k) (type_named m F.type)) (function_sites m (k + 1) (map (λ f. f.type) fs)) in
        let t = type_length (Param k) (Result k) (type_named m F.type) in
        let one = body_in q k n F (go.0, tt) (omega (arith, a, t, lq)) (omega (arith, l, ln)) in
        let rest = bodies_in p (k + 1) (n + length b.sites) fs go.1 (omega (arith, a, t, lq)) (omega (arith, l, ln)) in
        record {
          facts = facts_both N (body_facts m no_points b) (facts_within m no_points bs) one.facts rest.facts;
          users = all_append_to (TypeIn N) (uses b.code) (body_uses bs) one.users rest.users;
          yields = yields_both N b.sites (body_sites bs) one.yields rest.yields;
        }

    functions_split : (k : ℕ) (xs ys : List ℕ) → length (function_sites m k (xs ++ ys)) ≡ length (function_sites m k xs) + length (function_sites m (k + length xs) ys)
    functions_split k [] ys = let e : k ≡ k + 0 = omega arith in let f = ap (λ z. length (function_sites m z ys)) e in omega (arith, f)
    functions_split k (x ∷ xs) ys =
        let T = type_sites (Param k) (Result k) (type_named m x) in
        let a = length-append T (function_sites m (k + 1) (xs ++ ys)) in
        let b = length-append T (function_sites m (k + 1) xs) in
        let r = functions_split (k + 1) xs ys in
        let e : k + 1 + length xs ≡ k + length (x ∷ xs) = omega arith in
        let f = ap (λ z. length (function_sites m z ys)) e in
        omega (arith, a, b, r, f)

    pub all_bodies_in : IsPlainModule m → IsValid m → BodiesIn m N (bodies m no_points)
    all_bodies_in pl v =
        let I = imported_functions m.imports in
        let T = map (λ f. f.type) m.functions in
        let s = functions_split 0 I T in
        let e : 0 + length I ≡ length I = omega arith in
        let f = ap (λ z. length (function_sites m z T)) e in
        let r = globals_room in
        let l = length-append (head_sites m) (body_sites (bodies m no_points)) in
        bodies_in (first_defined m) (length I) (length (head_sites m)) m.functions (bodies_go m pl v) (omega (arith, s, f, r)) (omega (arith, l, le))

    -- ---- the sites before those of bodies

    function_yields : (k : ℕ) (ys : List ℕ) → YieldsIn N (function_sites m k ys)
    function_yields k [] = tt
    function_yields k (y ∷ ys) =
        let g = type_named m y in
        yields_both N (type_sites (Param k) (Result k) g) (function_sites m (k + 1) ys)
        (yields_both N (sites_for (Param k) 0 g.params) (site_if (Result k) g.result) (named_yields N (Param k) 0 g.params) (if_yields N (Result k) g.result))
        (function_yields (k + 1) ys)

    pub all_yields : IsPlainModule m → IsValid m → YieldsIn N (sites m)
    all_yields pl v =
        let F = function_sites m 0 (function_entries m) in
        let G = sites_for GlobalOf 0 (global_types m) in
        let M = site_if Memory (memory_among m.imports m.memory) in
        yields_both N (head_sites m) (body_sites (bodies m no_points))
        (yields_both N F (G ++ M) (function_yields 0 (function_entries m)) (yields_both N G M (named_yields N GlobalOf 0 (global_types m)) (if_yields N Memory (memory_among m.imports m.memory))))
        (all_bodies_in pl v).yields

    -- ---- table users

    entries_in : (ks : List ℕ) → TypesIn (entry_users (sited_functions m) ks)
    entries_in [] = tt
    entries_in (k ∷ ks) = all_append_to (TypeIn N) (after (slice_get (sited_functions m) k) (λ g. g ∷ [])) (entry_users (sited_functions m) ks) (one (slice_get (sited_functions m) k) (λ g e. found (TypeIn N) (sited_functions m) functions_in k g e)) (entries_in ks)
      where
        one : (x : Option (FunctionType Tag)) → ((g : FunctionType Tag) → x ≡ Some g → TypeIn N g) → TypesIn (after x (λ g. g ∷ []))
        one None f = tt
        one (Some g) f = (f g refl, tt)

    elements_in : (es : List (Element Label)) → TypesIn (element_users (sited_functions m) es)
    elements_in [] = tt
    elements_in (e ∷ es) = all_append_to (TypeIn N) (entry_users (sited_functions m) e.functions) (element_users (sited_functions m) es) (entries_in e.functions) (elements_in es)

    pub users_in : IsPlainModule m → IsValid m → TypesIn (users m no_points)
    users_in pl v = all_append_to (TypeIn N) (element_users (sited_functions m) m.elements) (body_uses (bodies m no_points)) (elements_in m.elements) (all_bodies_in pl v).users

    tags_in : (ts us : List (ValueType Tag)) → ValuesIn N ts → ValuesIn N us → FactsIn N (tag_facts 11 ts us)
    tags_in [] us h k = tt
    tags_in (t ∷ ts) [] h k = tt
    tags_in (t ∷ ts) (u ∷ us) h k = ((h.0, k.0, omega arith), tags_in ts us h.1 k.1)

    values_in : (t : Option (ValueType Tag)) → ResultIn N t → ValuesIn N (optional t)
    values_in None h = tt
    values_in (Some t) h = (h, tt)

    alike_in : (g : FunctionType Tag) (all : List (FunctionType Tag)) → TypesIn all → (x : FunctionType Tag) → first_alike g all ≡ Some x → TypeIn N x
    alike_in g [] h x e = absurd (none-some x e)
    alike_in g (y ∷ all) h x e = go (λ k. alike_in g all h.1 x k) (erase_alike y g) e
      where
        go : (first_alike g all ≡ Some x → TypeIn N x) → (c : Bool) → (if c then Some y else first_alike g all) ≡ Some x → TypeIn N x
        go k true e = let q : y ≡ x = cc in subst (TypeIn N) q h.0
        go k false e = k e

    told_in : (g : FunctionType Tag) (x : Option (FunctionType Tag)) → TypeIn N g → ((h : FunctionType Tag) → x ≡ Some h → TypeIn N h) → FactsIn N (after x (type_facts 11 g))
    told_in g None h f = tt
    told_in g (Some k) h f =
        facts_both N (tag_facts 11 g.params k.params) (tag_facts 11 (optional g.result) (optional k.result)) (tags_in g.params k.params h.params (f k refl).params)
        (tags_in (optional g.result) (optional k.result) (values_in g.result h.result) (values_in k.result (f k refl).result))

    user_facts_in : (all us : List (FunctionType Tag)) → TypesIn all → TypesIn us → FactsIn N (user_facts all us)
    user_facts_in all [] h k = tt
    user_facts_in all (g ∷ us) h k =
        facts_both N (after (first_alike g all) (type_facts 11 g)) (user_facts all us) (told_in g (first_alike g all) k.0 (λ x e. alike_in g all h x e)) (user_facts_in all us h k.1)

    -- ---- globals and segments

    init_in : (n : ℕ) (c : Constant Label) → n < N → FactsIn N (init_fact (sited_globals m) (At n) c)
    init_in n (Number t bits) lt = tt
    init_in n (ValueOf k) lt = one (slice_get (sited_globals m) k) (λ g e. found (λ g. TagIn N g.value.tag) (sited_globals m) all_globals k g e)
      where
        one : (x : Option (VariableType Tag)) → ((g : VariableType Tag) → x ≡ Some g → TagIn N g.value.tag) → FactsIn N (after x (λ f. fact 12 f.value.tag (At n)))
        one None f = tt
        one (Some g) f = ((f g refl, lt, omega arith), tt)

    inits_in : (n : ℕ) (gs : List (Global Label)) → n + length gs ≤ N → FactsIn N (init_facts (sited_globals m) n gs)
    inits_in n [] le = tt
    inits_in n (g ∷ gs) le = facts_both N (init_fact (sited_globals m) (At n) g.init) (init_facts (sited_globals m) (n + 1) gs) (init_in n g.init (omega (arith, le))) (inits_in (n + 1) gs (omega (arith, le)))

    offset_in : (c : Constant Label) → FactsIn N (offset_fact (sited_globals m) c)
    offset_in (Number t bits) = tt
    offset_in (ValueOf k) = one (slice_get (sited_globals m) k) (λ g e. found (λ g. TagIn N g.value.tag) (sited_globals m) all_globals k g e)
      where
        one : (x : Option (VariableType Tag)) → ((g : VariableType Tag) → x ≡ Some g → TagIn N g.value.tag) → FactsIn N (after x (λ f. fact 18 f.value.tag Fixed))
        one None f = tt
        one (Some g) f = ((f g refl, tt, omega arith), tt)

    offsets_in : (cs : List (Constant Label)) → FactsIn N (offset_facts (sited_globals m) cs)
    offsets_in [] = tt
    offsets_in (c ∷ cs) = facts_both N (offset_fact (sited_globals m) c) (offset_facts (sited_globals m) cs) (offset_in c) (offsets_in cs)

    pub all_facts_in : IsPlainModule m → IsValid m → FactsIn N (module_facts m no_points)
    all_facts_in pl v =
        let B = facts_within m no_points (bodies m no_points) in
        let U = user_facts (users m no_points) (users m no_points) in
        let I = init_facts (sited_globals m) (first_defined_global m) m.globals in
        let O = offset_facts (sited_globals m) (offsets m) in
        let u = users_in pl v in
        let r = globals_room in
        let g = length-append (imported_globals m.imports) (map (λ g. g.type) m.globals) in
        let l = length-map m.globals (λ (g : Global Label). g.type) in
        facts_both N B (U ++ (I ++ O)) (all_bodies_in pl v).facts
        (facts_both N U (I ++ O) (user_facts_in (users m no_points) (users m no_points) u u)
        (facts_both N I O (inits_in (first_defined_global m) m.globals (omega (arith, r, g, l))) (offsets_in (offsets m))))

-- ---- users whose types are within have places that fit

module _ (N : ℕ) (few : N < 2 ^ 32) where
  params_room : (n : ℕ) (ts : List (ValueType Label)) → ValuesIn N (params_from n ts) → 0 < length ts → n + length ts ≤ N
  params_room n [] h lt = absurd (omega (arith, lt))
  params_room n (t ∷ []) h lt = let k = h.0 in omega (arith, k)
  params_room n (t ∷ u ∷ ts) h lt = let r = params_room (n + 1) (u ∷ ts) h.1 (omega arith) in omega (arith, r)

  type_room : (n : ℕ) (ts : List (ValueType Label)) (r : Option (ValueType Label)) → ValuesIn N (params_from n ts) → ResultIn N (result_from (n + length ts) r) → 0 < length ts + length (optional r) → n + (length ts + length (optional r)) < 2 ^ 32
  type_room n ts None h k lt = let p = params_room n ts h (omega (arith, lt)) in omega (arith, p, few)
  type_room n ts (Some t) h k lt = omega (arith, k, few)

  pub placed : (m : Module Label) (us : List User) → AllByRecursion (TypeIn N) (types_of_users (function_types m) us) → AllByRecursion (IsPlaced m) us
  placed m [] h = tt
  placed m (u ∷ us) h = ((λ lt. type_room u.first (type_named m u.entry).params (type_named m u.entry).result h.0.params h.0.result lt), placed m us h.1)
