-- The bodies of a placed module are typed just where their facts hold of the labels.
use Rattle.std.proofs.Common.{◌≡◌, ℕ, zero, suc, ◌+◌, Bool, true, false, List, [], ◌∷◌, ◌++◌, length, Option, Some, None, refl, sym, ◌∙◌, ap, subst}
use Rattle.std.specs.Prelude.{◌&&◌, ◌↔◌, slice_get, option_map, unwrap_or, is_some, IsSome, map, if◌then◌else◌, ◌||◌, ◌==◌}
use Rattle.std.specs.List.{AllByRecursion}
use Rattle.std.proofs.lemmas.Option.{slice_get-map}
use Rattle.std.proofs.lemmas.List.{map-append}
use Rattle.std.proofs.lemmas.Bool.{eqb-true}
use Rattle.std.proofs.lemmas.List.Elements.{recursion_from_All}
use Rattle.ctw_ops.specs.declared.types.Label.{Label}
use Rattle.ctw_ops.specs.declared.types.Label.TheVariants.{Public, Secret}
use Rattle.ctw_ops.specs.declared.types.Trust.{Trust}
use Rattle.ctw_ops.specs.declared.types.Trust.TheVariants.{Untrusted, Trusted}
use Rattle.ctw_ops.specs.Types.{FunctionType, MemoryType, erase_function_type}
use Rattle.ctw_ops.specs.Tree.{TypeEntry, Extern, ImportedFunction, ImportedTable, ImportedMemory, ImportedGlobal, Import, Function, Module, function_types, function_entries, imported_functions, type_named, no_function_type, with_function, global_types, memory_among, table_among}
use Rattle.ctw_ops.specs.Code.{Code}
use Rattle.ctw_ops.specs.Typing.{Context, Typed, optional}
use Rattle.ctw_ops.specs.Bodies.{context_of, HasItsType}
use Rattle.ctw_ops.specs.Valid.{Names, IsImported, IsValid}
use Rattle.ctw_stack.specs.Operands.{fresh}
use Rattle.ctw_stack.proofs.TreePass.{closes}
use Rattle.ctw_stack.specs.Tags.{type_to}
use Rattle.ctw_ops.specs.TagMaps.{function_type_to, variable_type_to}
use Rattle.ctw_labels.specs.Names.{Tag, At}
use Rattle.ctw_labels.specs.Points.{Points, no_points, trust_at, is_released, has_release, has_number, AreReleases, Release}
use Rattle.ctw_labels.specs.Kept.{KeepFunctions, IsKept}
use Rattle.ctw_labels.specs.Sited.{yes, Sited, Done, Does, Uses, Blocks, Loops, Ifs, IfElses, labelled, placed_code, Rises, IsOrderlyCode}
use Rattle.ctw_labels.specs.Numbering.{type_from, params_from}
use Rattle.ctw_labels.specs.Links.{lifts, at_tag}
use Rattle.ctw_ops.specs.Plain.{IsPlainFunction, IsPlainModule}
use Rattle.ctw_labels.specs.SitedModule.{site_count, first_defined, SitedBody, site_context, place_of, body_from, bodies_from, bodies, head_sites, types_from, sited_functions, sited_globals, memory_tag, memory_site}
use Rattle.ctw_labels.specs.ModuleLinks.{body_facts, facts_within, lifts_within, uses, body_uses}
use Rattle.ctw_labels.specs.Placed.{TypeUse, use_of, with_trust, function_uses, code_uses, call_uses, type_uses, placed_function, placed_memory, placed_module}
use Rattle.ctw_labels.proofs.Walk.{walk, IsSited}
use Rattle.ctw_labels.proofs.FactLaws.{all_hold, hold_append}
use Rattle.ctw_labels.proofs.PlaceLaws.{all_public, IsNamed, placed_typed, walked}
use Rattle.ctw_labels.proofs.NumberLaws.{number_sited, number_named, number_goes, number_public, public_params, typed_uses, base_name, public_type, GoToSites, all_append_to, all_append_from}
use Rattle.ctw_labels.proofs.ObeyLaws.{and_parts, and_both, like, AreLifts, orderly_to, orderly_from}
use Rattle.ctw_labels.proofs.Contexts.{IsNamedUse, context_placed, uses_at_begin, trusted_types, globals_placed, memory_placed}
use Rattle.ctw_labels.proofs.PlainLaws.{plain_types, plain_named, plain_body, plain_locals, placed_public}
use Rattle.ctw_labels.proofs.Trusts.{IsUntrusted, calls_untrusted}
use Rattle.ctw_labels.proofs.TrustLaws.{IsAllowed, AreUntrusted, typed_functions, typed_trust, number_allowed, all_allowed, named_may_be_called}

-- ---- what a naming of uses is

pub record IsNaming (L : Tag → Label) (T : List (TypeEntry Label)) (name : ℕ → FunctionType Label → ℕ) (m : Module Label) (p : Points) : Type 0 where
  pub functions : AllByRecursion (IsNamedUse L T name) (function_uses m p 0 0 (function_entries m))
  pub codes : AllByRecursion (λ b. IsNamed L (map (λ e. e.type) T) name b.code) (bodies m p)

abbrev pub own_use : Points → SitedBody → TypeUse Tag
own_use p b = use_of b.entry (with_trust (trust_at p b.func) b.type)

abbrev pub IsOwn : (Tag → Label) → List (TypeEntry Label) → (ℕ → FunctionType Label → ℕ) → Points → SitedBody → Type 0
IsOwn L T name p b = IsNamedUse L T name (own_use p b)

module _ (L : Tag → Label) (T : List (TypeEntry Label)) (name : ℕ → FunctionType Label → ℕ) (m : Module Label) (p : Points) where
  own_from : (q k n : ℕ) (fs : List (Function Label)) → AllByRecursion (IsNamedUse L T name) (function_uses m p k q (map (λ f. f.type) fs)) → AllByRecursion (IsOwn L T name p) (bodies_from m p q k n fs)
  own_from q k n [] h = tt
  own_from q k n (f ∷ fs) h = (h.0, own_from (q + site_count (type_named m f.type)) (k + 1) (n + length (body_from m p q k n f).sites) fs h.1)

  pub own_types : IsNaming L T name m p → AllByRecursion (IsOwn L T name p) (bodies m p)
  own_types h =
      let us : List (TypeUse Tag) = function_uses m p 0 0 (imported_functions m.imports) in
      let vs : List (TypeUse Tag) = function_uses m p (length (imported_functions m.imports)) (first_defined m) (map (λ f. f.type) m.functions) in
      own_from (first_defined m) (length (imported_functions m.imports)) (length (head_sites m)) m.functions
      (all_append_from (IsNamedUse L T name) us vs (subst (AllByRecursion (IsNamedUse L T name)) (uses_at_begin m p) h.functions)).1

-- ---- the plain module

some_found : {A : Type 0} (r : Option A) (d : A) → IsSome r → r ≡ Some (unwrap_or r d)
some_found None d e = cc
some_found (Some x) d e = refl

some_map : {A B : Type 0} (f : A → B) (r : Option A) → IsSome r → IsSome (option_map f r)
some_map f None e = cc
some_map f (Some x) e = refl

-- the use's index names the plain type that its own one erases to
abbrev pub IsBase : Module Label → TypeUse Tag → Type 0
IsBase m u = slice_get (function_types m) u.base ≡ Some (erase_function_type (function_type_to all_public u.type))

module _ (m : Module Label) (pl : IsPlainModule m) (v : IsValid m) where
  -- a type under sites erases to the plain type, whatever its trust
  erased_use : (n y : ℕ) (t : Trust) → erase_function_type (function_type_to all_public (with_trust t (type_from n (type_named m y)))) ≡ type_named m y
  erased_use n y t = ap erase_function_type (public_type n (type_named m y)) ∙ ap erase_function_type (plain_named m pl y) ∙ plain_named m pl y

  type_there : (y : ℕ) → Names m.types y → slice_get (function_types m) y ≡ Some (type_named m y)
  type_there y e = some_found (slice_get (function_types m) y) no_function_type (subst IsSome (sym (slice_get-map (λ e. e.type) m.types y)) (some_map (λ e. e.type) (slice_get m.types y) e))

  uses_based : (p : Points) (k q : ℕ) (ys : List ℕ) → AllByRecursion (Names m.types) ys → AllByRecursion (IsBase m) (function_uses m p k q ys)
  uses_based p k q [] h = tt
  uses_based p k q (y ∷ ys) h = (type_there y h.0 ∙ ap Some (sym (erased_use q y (trust_at p k))), uses_based p (k + 1) (q + site_count (type_named m y)) ys h.1)

  imports_name : (is : List (Import Label)) → AllByRecursion (λ i. IsImported m i.kind) is → AllByRecursion (Names m.types) (imported_functions is)
  imports_name [] h = tt
  imports_name (i ∷ is) h = by_kind i.kind h.0 (imports_name is h.1)
    where
      by_kind : (k : Extern Label) → IsImported m k → AllByRecursion (Names m.types) (imported_functions is) → AllByRecursion (Names m.types) (with_function k (imported_functions is))
      by_kind (ImportedFunction y) e r = (e, r)
      by_kind (ImportedTable limits) e r = r
      by_kind (ImportedMemory t) e r = r
      by_kind (ImportedGlobal g) e r = r

  functions_name : (fs : List (Function Label)) → AllByRecursion (λ f. Names m.types f.type) fs → AllByRecursion (Names m.types) (map (λ f. f.type) fs)
  functions_name [] h = tt
  functions_name (f ∷ fs) h = (h.0, functions_name fs h.1)

  pub entries_name : AllByRecursion (Names m.types) (function_entries m)
  entries_name = all_append_to (Names m.types) (imported_functions m.imports) (map (λ f. f.type) m.functions)
      (imports_name m.imports (recursion_from_All (λ i. IsImported m i.kind) m.imports v.around.imports))
      (functions_name m.functions (recursion_from_All (λ f. Names m.types f.type) m.functions v.around.functions))

  bodies_typed : AllByRecursion (HasItsType m) m.functions
  bodies_typed = recursion_from_All (HasItsType m) m.functions v.bodies

  -- ---- what a plain body names is what the sited one does, with all sites public

  types_public : (n : ℕ) (ys : List ℕ) → map (type_named m) ys ≡ map (function_type_to all_public) (types_from m n ys)
  types_public n [] = refl
  types_public n (y ∷ ys) = λ i. sym (public_type n (type_named m y) ∙ plain_named m pl y) i ∷ types_public (n + site_count (type_named m y)) ys i

  abbrev M0 : Module Label
  M0 = placed_module all_public base_name m no_points m.types

  globals_public : global_types m ≡ map (variable_type_to all_public) (sited_globals m)
  globals_public = ap global_types (sym (placed_public m pl)) ∙ globals_placed all_public m.types base_name m no_points

  memory_public : option_map (λ t. t.tag) (memory_among m.imports m.memory) ≡ option_map all_public (memory_tag m)
  memory_public = ap (λ M. option_map (λ t. t.tag) (memory_among M.imports M.memory)) (sym (placed_public m pl)) ∙ ap (option_map (λ t. t.tag)) (memory_placed all_public m.types base_name m no_points) ∙ by_memory (memory_among m.imports m.memory)
    where
      by_memory : (r : Option (MemoryType Label)) → option_map (λ t. t.tag) (option_map (placed_memory all_public m) r) ≡ option_map all_public (option_map (λ t. At (memory_site m)) r)
      by_memory None = refl
      by_memory (Some t) = refl

  plain_context : (q n : ℕ) (f : Function Label) → IsPlainFunction f → context_of m f ≡ labelled all_public (function_types m) (site_context m Untrusted (type_from q (type_named m f.type)) (params_from n f.locals))
  plain_context q n f h =
      let e : type_named m f.type ≡ function_type_to all_public (type_from q (type_named m f.type)) = sym (public_type q (type_named m f.type) ∙ plain_named m pl f.type) in
      let ls : (type_named m f.type).params ++ f.locals ≡ map (type_to all_public) ((type_from q (type_named m f.type)).params ++ params_from n f.locals) =
      (λ i. (e i).params ++ sym (public_params n f.locals ∙ plain_locals f h) i) ∙ sym (map-append (type_to all_public) (type_from q (type_named m f.type)).params (params_from n f.locals)) in
      λ i. record {
        types = function_types m;
        functions = types_public 0 (function_entries m) i;
        globals = globals_public i;
        locals = ls i;
        memory = memory_public i;
        table = is_some (table_among m.imports m.table);
        trust = (e i).trust;
        result = (e i).result;
        labels = (e i).result ∷ [];
        public = Public;
        secret = Secret;
        profile = m.profile;
      }

  types_untrusted : AreUntrusted (function_types m)
  types_untrusted y g e = ap (λ z. z.trust) (plain_types m pl y g e)

  sited_untrusted : AreUntrusted (map (function_type_to all_public) (sited_functions m))
  sited_untrusted = from 0 (function_entries m)
    where
      from : (n : ℕ) (ys : List ℕ) → AreUntrusted (map (function_type_to all_public) (types_from m n ys))
      from n [] k g e = cc
      from n (y ∷ ys) zero g e = let x : function_type_to all_public (type_from n (type_named m y)) ≡ g = cc in ap (λ z. z.trust) (sym x)
      from n (y ∷ ys) (suc k) g e = from (n + site_count (type_named m y)) ys k g e

  -- ---- bodies that the collector gets through

  abbrev pub IsGood : Points → SitedBody → Type 0
  IsGood p b = IsSited (site_context m (trust_at p b.func) b.type b.locals) b.code fresh × GoToSites (lifts b.code) × (closes yes b.type.result (walk (site_context m (trust_at p b.func) b.type b.locals) b.code fresh) ≡ true)

  module _ (p : Points) (rel : AreReleases p) where
    released_trusted : (k at : ℕ) → is_released p k at ≡ true → trust_at p k ≡ Trusted
    released_trusted k at e = by_releases p.releases rel e
      where
        found : (r : Release) (b : Bool) → has_number r.func p.trusted ≡ true → r.func == k ≡ b → b ≡ true → trust_at p k ≡ Trusted
        found r b h q w = ap (λ z. if has_number z p.trusted then Trusted else Untrusted) (sym (eqb-true r.func k (q ∙ w))) ∙ ap (λ z. if z then Trusted else Untrusted) h

        by_test : (r : Release) (rs : List Release) (x y : Bool) → r.func == k ≡ x → has_number r.func p.trusted ≡ true → (has_release k at rs ≡ true → trust_at p k ≡ Trusted) → ((x && y) || has_release k at rs) ≡ true → trust_at p k ≡ Trusted
        by_test r rs true y q h f e = found r true h q refl
        by_test r rs false y q h f e = f e

        by_releases : (rs : List Release) → AllByRecursion (λ r. has_number r.func p.trusted ≡ true) rs → has_release k at rs ≡ true → trust_at p k ≡ Trusted
        by_releases [] h e = cc
        by_releases (r ∷ rs) h e = by_test r rs (r.func == k) (r.at == at) refl h.0 (by_releases rs h.1) e

    codes_named : (q k n : ℕ) (fs : List (Function Label)) → AllByRecursion (HasItsType m) fs → AllByRecursion (λ b. IsNamed all_public (function_types m) base_name b.code) (bodies_from m p q k n fs)
    codes_named q k n [] h = tt
    codes_named q k n (f ∷ fs) h = (
      number_named (function_types m) (plain_types m pl) (place_of m p k) refl (site_context m (trust_at p k) (type_from q (type_named m f.type)) (params_from n f.locals)) f.body (typed_uses (context_of m f) f.body _ _ h.0) (n + length f.locals) 0 fresh,
      codes_named (q + site_count (type_named m f.type)) (k + 1) (n + length (body_from m p q k n f).sites) fs h.1,
    )

    abbrev IsTypedUnder : Code Label → Context Label → Type 0
    IsTypedUnder c D = Typed D c [] (optional D.result)

    good_from : (q k n : ℕ) (fs : List (Function Label)) → AllByRecursion IsPlainFunction fs → AllByRecursion (HasItsType m) fs → AllByRecursion (λ b. IsNamed all_public (function_types m) base_name b.code) (bodies_from m p q k n fs) → AllByRecursion (IsGood p) (bodies_from m p q k n fs)
    good_from q k n [] f d c = tt
    good_from q k n (x ∷ fs) f d c =
        let g : FunctionType Tag = type_from q (type_named m x.type) in
        let C : Context Tag = site_context m (trust_at p k) g (params_from n x.locals) in
        let s : IsSited C (body_from m p q k n x).code fresh = number_sited (place_of m p k) C (λ at e. released_trusted k at e) x.body (plain_body x f.0).1 (n + length x.locals) 0 fresh in
        let D : Context Label = labelled all_public (function_types m) (site_context m Untrusted g (params_from n x.locals)) in
        let d0 : IsTypedUnder x.body D = subst (IsTypedUnder x.body) (plain_context q n x f.0) d.0 in
        let d1 : IsTypedUnder x.body (record D { trust = trust_at p k }) = typed_trust (trust_at p k) D sited_untrusted types_untrusted x.body (plain_body x f.0).1 [] (optional D.result) d0 in
        let e : x.body ≡ placed_code all_public base_name (body_from m p q k n x).code = sym (number_public (place_of m p k) C x.body (n + length x.locals) 0 fresh ∙ (plain_body x f.0).0) in (
          (s, number_goes (place_of m p k) C x.body (n + length x.locals) 0 fresh, walked (function_types m) base_name C (body_from m p q k n x).code s c.0 (subst (λ z. IsTypedUnder z (record D { trust = trust_at p k })) e d1)),
          good_from (q + site_count (type_named m x.type)) (k + 1) (n + length (body_from m p q k n x).sites) fs f.1 d.1 c.1,
        )

    pub all_codes_named : AllByRecursion (λ b. IsNamed all_public (function_types m) base_name b.code) (bodies m p)
    all_codes_named = codes_named (first_defined m) (length (imported_functions m.imports)) (length (head_sites m)) m.functions bodies_typed

    pub good : AllByRecursion (IsGood p) (bodies m p)
    good = good_from (first_defined m) (length (imported_functions m.imports)) (length (head_sites m)) m.functions (recursion_from_All IsPlainFunction m.functions pl.functions) bodies_typed all_codes_named

    -- each use's index names the plain type that its own one erases to
    code_based : (sc : Sited Tag) → AllByRecursion IsUntrusted (uses sc) → IsNamed all_public (function_types m) base_name sc → AllByRecursion (IsBase m) (code_uses sc)
    code_based Done t h = tt
    code_based (Does i l rest) t h = code_based rest t h
    code_based (Uses y g l rest) t h = (h.0 ∙ ap Some (plain_types m pl y (function_type_to all_public g) h.0), code_based rest t.1 h.1)
    code_based (Blocks r l body rest) t h = let u = all_append_from IsUntrusted (uses body) (uses rest) t in all_append_to (IsBase m) (code_uses body) (code_uses rest) (code_based body u.0 h.0) (code_based rest u.1 h.1)
    code_based (Loops r l body rest) t h = let u = all_append_from IsUntrusted (uses body) (uses rest) t in all_append_to (IsBase m) (code_uses body) (code_uses rest) (code_based body u.0 h.0) (code_based rest u.1 h.1)
    code_based (Ifs r l arm rest) t h = let u = all_append_from IsUntrusted (uses arm) (uses rest) t in all_append_to (IsBase m) (code_uses arm) (code_uses rest) (code_based arm u.0 h.0) (code_based rest u.1 h.1)
    code_based (IfElses r l arm other rest) t h =
        let u = all_append_from IsUntrusted (uses arm) (uses other ++ uses rest) t in
        let w = all_append_from IsUntrusted (uses other) (uses rest) u.1 in
        all_append_to (IsBase m) (code_uses arm) (code_uses other ++ code_uses rest) (code_based arm u.0 h.0) (all_append_to (IsBase m) (code_uses other) (code_uses rest) (code_based other w.0 h.1) (code_based rest w.1 h.2))

    calls_based : (bs : List SitedBody) → AllByRecursion IsUntrusted (body_uses bs) → AllByRecursion (λ b. IsNamed all_public (function_types m) base_name b.code) bs → AllByRecursion (IsBase m) (call_uses bs)
    calls_based [] t h = tt
    calls_based (b ∷ bs) t h = let u = all_append_from IsUntrusted (uses b.code) (body_uses bs) t in all_append_to (IsBase m) (code_uses b.code) (call_uses bs) (code_based b.code u.0 h.0) (calls_based bs u.1 h.1)

    pub base_uses : AllByRecursion (IsBase m) (type_uses m p)
    base_uses = all_append_to (IsBase m) (function_uses m p 0 0 (function_entries m)) (call_uses (bodies m p)) (uses_based p 0 0 (function_entries m) entries_name) (calls_based (bodies m p) (calls_untrusted m p) all_codes_named)

-- ---- a labelling

abbrev IsTypedIn : Code Label → Context Label → Type 0
IsTypedIn c D = Typed D c [] (optional D.result)

module _ (l : ℕ → Label) (T : List (TypeEntry Label)) (name : ℕ → FunctionType Label → ℕ) (m : Module Label) (p : Points) (n : IsNaming (at_tag l) T name m p) where
  abbrev pub ML : Module Label
  ML = placed_module (at_tag l) name m p T

  abbrev Under : SitedBody → Context Label
  Under b = labelled (at_tag l) (function_types ML) (site_context m (trust_at p b.func) b.type b.locals)

  ds : List (FunctionType Label)
  ds = trusted_types (at_tag l) T name m p

  same_functions : map (with_trust Untrusted) (map (function_type_to (at_tag l)) (sited_functions m)) ≡ map (with_trust Untrusted) (trusted_types (at_tag l) T name m p)
  same_functions = from 0 0 (function_entries m)
    where
      from : (k q : ℕ) (ys : List ℕ) → map (with_trust Untrusted) (map (function_type_to (at_tag l)) (types_from m q ys)) ≡ map (with_trust Untrusted) (map (function_type_to (at_tag l)) (map (λ u. u.type) (function_uses m p k q ys)))
      from k q [] = refl
      from k q (y ∷ ys) = λ i. function_type_to (at_tag l) (type_from q (type_named m y)) ∷ from (k + 1) (q + site_count (type_named m y)) ys i

  sited_free : AreUntrusted (map (function_type_to (at_tag l)) (sited_functions m))
  sited_free = from 0 (function_entries m)
    where
      from : (q : ℕ) (ys : List ℕ) → AreUntrusted (map (function_type_to (at_tag l)) (types_from m q ys))
      from q [] k g e = cc
      from q (y ∷ ys) zero g e = let x : function_type_to (at_tag l) (type_from q (type_named m y)) ≡ g = cc in ap (λ z. z.trust) (sym x)
      from q (y ∷ ys) (suc k) g e = from (q + site_count (type_named m y)) ys k g e

  typed_to : (b : SitedBody) → IsOwn (at_tag l) T name p b → HasItsType ML (placed_function (at_tag l) name m p b) → IsTypedIn (placed_code (at_tag l) name b.code) (Under b)
  typed_to b h d =
      let e : IsTypedIn (placed_code (at_tag l) name b.code) (record (Under b) { functions = trusted_types (at_tag l) T name m p }) = subst (IsTypedIn (placed_code (at_tag l) name b.code)) (context_placed (at_tag l) T name m p n.functions b h) d in
      typed_functions (map (function_type_to (at_tag l)) (sited_functions m)) (record (Under b) { functions = trusted_types (at_tag l) T name m p }) (sym same_functions) (placed_code (at_tag l) name b.code) [] _
      (all_allowed (map (function_type_to (at_tag l)) (sited_functions m)) (trust_at p b.func) sited_free (placed_code (at_tag l) name b.code)) e

  typed_from : (b : SitedBody) → IsOwn (at_tag l) T name p b → IsAllowed (trusted_types (at_tag l) T name m p) (trust_at p b.func) (placed_code (at_tag l) name b.code) → IsTypedIn (placed_code (at_tag l) name b.code) (Under b) → HasItsType ML (placed_function (at_tag l) name m p b)
  typed_from b h a d = subst (IsTypedIn (placed_code (at_tag l) name b.code)) (sym (context_placed (at_tag l) T name m p n.functions b h))
      (typed_functions (trusted_types (at_tag l) T name m p) (Under b) same_functions (placed_code (at_tag l) name b.code) [] _ a d)

  abbrev pub Allows : SitedBody → Type 0
  Allows b = IsAllowed (trusted_types (at_tag l) T name m p) (trust_at p b.func) (placed_code (at_tag l) name b.code)

  allowed_from : (q k n : ℕ) (fs : List (Function Label)) → KeepFunctions p k fs → AllByRecursion Allows (bodies_from m p q k n fs)
  allowed_from q k n [] h = tt
  allowed_from q k n (f ∷ fs) h = (
    number_allowed (at_tag l) name (trusted_types (at_tag l) T name m p) (trust_at p k) p (λ x y g e. named_may_be_called m p (at_tag l) (trust_at p k) (function_entries m) x y g e) (place_of m p k)
        (site_context m (trust_at p k) (type_from q (type_named m f.type)) (params_from n f.locals)) f.body h.0 (n + length f.locals) 0 fresh,
    allowed_from (q + site_count (type_named m f.type)) (k + 1) (n + length (body_from m p q k n f).sites) fs h.1,
  )

  pub all_allow : IsKept m p → AllByRecursion Allows (bodies m p)
  all_allow h = allowed_from (first_defined m) (length (imported_functions m.imports)) (length (head_sites m)) m.functions h.calls

  module _ (pl : IsPlainModule m) (v : IsValid m) where
    pub body_right : (b : SitedBody) → IsGood m pl v p b → IsOwn (at_tag l) T name p b → Allows b → IsNamed (at_tag l) (map (λ e. e.type) T) name b.code → IsOrderlyCode (at_tag l) b.code →
        HasItsType ML (placed_function (at_tag l) name m p b) ↔ (all_hold (like l) (body_facts m p b) ≡ true)
    body_right b g h a c o =
        let r = placed_typed (at_tag l) (map (λ e. e.type) T) name (site_context m (trust_at p b.func) b.type b.locals) refl b.code g.0 o c g.2 in
        ((λ d. r.0 (typed_to b h d)), (λ e. typed_from b h a (r.1 e)))

    pub bodies_to : (bs : List SitedBody) → AllByRecursion (IsGood m pl v p) bs → AllByRecursion (IsOwn (at_tag l) T name p) bs → AllByRecursion Allows bs → AllByRecursion (λ b. IsNamed (at_tag l) (map (λ e. e.type) T) name b.code) bs → AllByRecursion (λ b. IsOrderlyCode (at_tag l) b.code) bs →
        AllByRecursion (HasItsType ML) (map (placed_function (at_tag l) name m p) bs) → all_hold (like l) (facts_within m p bs) ≡ true
    bodies_to [] g h a c o d = refl
    bodies_to (b ∷ bs) g h a c o d =
        hold_append (like l) (body_facts m p b) (facts_within m p bs) ∙
        and_both (all_hold (like l) (body_facts m p b)) (all_hold (like l) (facts_within m p bs)) ((body_right b g.0 h.0 a.0 c.0 o.0).0 d.0) (bodies_to bs g.1 h.1 a.1 c.1 o.1 d.1)

    pub bodies_from_facts : (bs : List SitedBody) → AllByRecursion (IsGood m pl v p) bs → AllByRecursion (IsOwn (at_tag l) T name p) bs → AllByRecursion Allows bs → AllByRecursion (λ b. IsNamed (at_tag l) (map (λ e. e.type) T) name b.code) bs → AllByRecursion (λ b. IsOrderlyCode (at_tag l) b.code) bs →
        all_hold (like l) (facts_within m p bs) ≡ true → AllByRecursion (HasItsType ML) (map (placed_function (at_tag l) name m p) bs)
    bodies_from_facts [] g h a c o e = tt
    bodies_from_facts (b ∷ bs) g h a c o e =
        let q = and_parts (all_hold (like l) (body_facts m p b)) (all_hold (like l) (facts_within m p bs)) (sym (hold_append (like l) (body_facts m p b) (facts_within m p bs)) ∙ e) in
        ((body_right b g.0 h.0 a.0 c.0 o.0).1 q.0, bodies_from_facts bs g.1 h.1 a.1 c.1 o.1 q.1)

    pub lifts_go : (bs : List SitedBody) → AllByRecursion (IsGood m pl v p) bs → GoToSites (lifts_within bs)
    lifts_go [] g = tt
    lifts_go (b ∷ bs) g = all_append_to _ (lifts b.code) (lifts_within bs) g.0.1 (lifts_go bs g.1)

-- ---- lifts

pub lifts_rise : (l : ℕ → Label) (bs : List SitedBody) → AllByRecursion (λ b. IsOrderlyCode (at_tag l) b.code) bs → AreLifts l (lifts_within bs)
lifts_rise l [] o = tt
lifts_rise l (b ∷ bs) o = all_append_to _ (lifts b.code) (lifts_within bs) (orderly_to l b.code o.0) (lifts_rise l bs o.1)

pub orderly_bodies : (l : ℕ → Label) (bs : List SitedBody) → AreLifts l (lifts_within bs) → AllByRecursion (λ b. IsOrderlyCode (at_tag l) b.code) bs
orderly_bodies l [] o = tt
orderly_bodies l (b ∷ bs) o = let q = all_append_from (λ k. Rises (at_tag l k.source) (at_tag l k.target) k.free) (lifts b.code) (lifts_within bs) o in (orderly_from l b.code q.0, orderly_bodies l bs q.1)
