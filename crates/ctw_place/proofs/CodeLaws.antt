-- The code of defined functions under labels, one function after another.
use Rattle.std.proofs.Common.{◌≡◌, ◌<◌, ◌≤◌, ◌^◌, ℕ, ◌+◌, ◌-◌, false, suc, List, [], ◌∷◌, ◌++◌, length, map, drop, Option, Some, None, get_or, slice_get, refl, sym, ◌∙◌, ap, subst, arith, length-append, append_assoc, append-nil}
use Rattle.std.specs.Prelude.{option_map}
use Rattle.std.specs.List.{AllByRecursion}
use Rattle.std.proofs.lemmas.Option.{slice_get-map}
use Rattle.std.proofs.lemmas.List.{drop_at, drop_all, length-map, map-append}
use Rattle.ctw_ops.specs.declared.types.Label.{Label}
use Rattle.ctw_ops.specs.Code.{opcodes}
use Rattle.ctw_ops.specs.Plain.{IsPlainModule}
use Rattle.ctw_ops.specs.Types.{ValueType, FunctionType}
use Rattle.ctw_ops.specs.Typing.{optional}
use Rattle.ctw_ops.specs.Tree.{Module, Function, function_entries, global_types, imported_functions, type_named}
use Rattle.ctw_ops.specs.Valid.{IsValid}
use Rattle.ctw_form.proofs.Params.{slice_get_right}
use Rattle.ctw_leb.specs.Spelling.{u32_text}
use Rattle.ctw_module.specs.Lookup.{imported_count, function_named}
use Rattle.ctw_stack.specs.Opens.{opened}
use Rattle.ctw_labels.specs.declared.name.SiteName.TheVariants.{Param, Result}
use Rattle.ctw_labels.specs.Collected.{IsSmallResult}
use Rattle.ctw_labels.specs.FlatSites.{Goes}
use Rattle.ctw_labels.specs.Numbering.{params_from, result_from, type_from, type_sites}
use Rattle.ctw_labels.specs.Placed.{TypeUse, call_uses, code_uses, function_uses, placed_function, use_to, variant_name, with_uses}
use Rattle.ctw_labels.specs.Points.{Points, no_points, AreReleases, trust_at}
use Rattle.ctw_labels.specs.SitedModule.{site_count, site_context, place_of, function_sites, head_sites, first_defined, body_from, bodies_from, bodies, body_sites, sites}
use Rattle.ctw_labels.proofs.BodyLaws.{IsGood, good}
use Rattle.ctw_labels.proofs.Contexts.{type_length}
use Rattle.ctw_labels.proofs.GoesLaws.{body_goes}
use Rattle.ctw_labels.proofs.SiteLaws.{sites_same}
use Rattle.ctw_sites.specs.Heads.{heads_from, heads as heads_of}
use Rattle.ctw_sites.proofs.HeadLaws.{head_length}
use Rattle.ctw_sites.proofs.ScopeLaws.{heads_length, heads_within}
use Rattle.ctw_write.specs.Canon.{all_texts, vector_text, code_text}
use Rattle.ctw_write.proofs.Running.{named_at}
use Rattle.ctw_place.specs.declared.variants.Variants.{Variants}
use Rattle.ctw_place.specs.declared.setting.Setting.{Setting}
use Rattle.ctw_place.specs.Bodies.{placed_of, body_of, body_uses, placed_body, IsReadyUnder, HasRoom, function_variants, variants_of}
use Rattle.ctw_place.specs.Settings.{module_of, labels_of, points_of}
use Rattle.ctw_place.specs.Variants.{Holds}
use Rattle.ctw_place.proofs.Drops.{next, at_drop, item_drop}
use Rattle.ctw_place.proofs.UseLaws.{uses_append, all_grow}

abbrev Uses : Type 0
Uses = List (TypeUse Label)

-- ---- the pass gets through all bodies

abbrev pub GoUnder : Module Label → Points → ℕ → ℕ → ℕ → List (Function Label) → Type 0
GoUnder m p q k n [] = Unit {0}
GoUnder m p q k n (f ∷ fs) =
    Goes (place_of m p k) (site_context m (trust_at p k) (type_from q (type_named m f.type)) (params_from n f.locals)) (opcodes f.body) (opened false (type_from q (type_named m f.type)).result ∷ []) (n + length f.locals) 0
    × GoUnder m p (q + site_count (type_named m f.type)) (k + 1) (n + length (body_from m p q k n f).sites) fs

module _ (m : Module Label) (pl : IsPlainModule m) (v : IsValid m) (p : Points) (r : AreReleases p) where
  go_from : (q k n : ℕ) (fs : List (Function Label)) → AllByRecursion (IsGood m pl v p) (bodies_from m p q k n fs) → GoUnder m p q k n fs
  go_from q k n [] h = tt
  go_from q k n (f ∷ fs) h = (
    body_goes (place_of m p k) (site_context m (trust_at p k) (type_from q (type_named m f.type)) (params_from n f.locals)) refl f.body (n + length f.locals) h.0.2,
    go_from (q + site_count (type_named m f.type)) (k + 1) (n + length (body_from m p q k n f).sites) fs h.1,
  )

  pub bodies_go : GoUnder m p (first_defined m) (length (imported_functions m.imports)) (length (head_sites m)) m.functions
  bodies_go = go_from (first_defined m) (length (imported_functions m.imports)) (length (head_sites m)) m.functions (good m pl v p r)

heads_both : (m : Module Label) (n k : ℕ) (xs ys : List ℕ) → heads_from m n (xs ++ ys) ≡ heads_from m n xs ++ heads_from m (n + length (function_sites m k xs)) ys
heads_both m n k [] ys = let e : n ≡ n + 0 = omega arith in ap (λ z. heads_from m z ys) e
heads_both m n k (x ∷ xs) ys =
    let l = length-append (type_sites (Param k) (Result k) (type_named m x)) (function_sites m (k + 1) xs) in
    let t = type_length (Param k) (Result k) (type_named m x) in
    let a : n + site_count (type_named m x) + length (function_sites m (k + 1) xs) ≡ n + length (function_sites m k (x ∷ xs)) = omega (arith, l, t) in
    ap (λ z. n ∷ z) (heads_both m (n + site_count (type_named m x)) (k + 1) xs ys ∙ ap (λ z. heads_from m (n + site_count (type_named m x)) xs ++ heads_from m z ys) a)

small_of : (n : ℕ) (r : Option (ValueType Label)) → n + length (optional r) < 2 ^ 32 → IsSmallResult (result_from n r)
small_of n None lt = tt
small_of n (Some t) lt = omega (arith, lt)

-- ---- one function after another

module _ (s : Setting) where
  abbrev own_name : ℕ → FunctionType Label → ℕ
  own_name = variant_name (labels_of s) (module_of s) (points_of s)

  abbrev left_texts : ℕ → ℕ → ℕ → List (Function Label) → List ℕ
  left_texts q f site fs = all_texts code_text (map (placed_function (labels_of s) own_name (module_of s) (points_of s)) (bodies_from (module_of s) (points_of s) q f site fs))

  abbrev left_uses : ℕ → ℕ → ℕ → List (Function Label) → Uses
  left_uses q f site fs = map (use_to (labels_of s)) (call_uses (bodies_from (module_of s) (points_of s) q f site fs))

  -- those from a function on are left
  pub record Left (f site : ℕ) (out : List ℕ) (v : Variants) (q : ℕ) (fs : List (Function Label)) : Type 0 where
    pub from : imported_count (module_of s) ≤ f
    pub is : drop (f - imported_count (module_of s)) (module_of s).functions ≡ fs
    pub heads : drop f (heads_of (module_of s)) ≡ heads_from (module_of s) q (map (λ g. g.type) fs)
    pub goes : GoUnder (module_of s) (points_of s) q f site fs
    pub room : site + length (body_sites (bodies_from (module_of s) (points_of s) q f site fs)) ≡ length (sites (module_of s))
    pub vs : Uses
    pub held : Holds v vs
    pub uses : with_uses vs (left_uses q f site fs) ≡ variants_of s
    pub texts : out ++ left_texts q f site fs ≡ vector_text code_text (placed_of s).functions

  pub record CodesLeft (f site : ℕ) (out : List ℕ) (v : Variants) : Type 0 where
    pub q : ℕ
    pub fs : List (Function Label)
    pub left : Left f site out v q fs

  pub uses_split : with_uses (function_variants s) (map (use_to (labels_of s)) (call_uses (bodies (module_of s) (points_of s)))) ≡ variants_of s
  uses_split =
      let us = function_uses (module_of s) (points_of s) 0 0 (function_entries (module_of s)) in
      let ws = call_uses (bodies (module_of s) (points_of s)) in
      sym (uses_append [] (map (use_to (labels_of s)) us) (map (use_to (labels_of s)) ws)) ∙ ap (with_uses []) (sym (map-append (use_to (labels_of s)) us ws))

  bodies_length : (q k n : ℕ) (fs : List (Function Label)) → length (bodies_from (module_of s) (points_of s) q k n fs) ≡ length fs
  bodies_length q k n [] = refl
  bodies_length q k n (g ∷ fs) = ap suc (bodies_length (q + site_count (type_named (module_of s) g.type)) (k + 1) (n + length (body_from (module_of s) (points_of s) q k n g).sites) fs)

  pub codes_begin : (f site count : ℕ) (out : List ℕ) (v : Variants) → f ≡ imported_count (module_of s) → site ≡ length (head_sites (module_of s)) → count ≡ length (module_of s).functions → out ≡ u32_text count → Holds v (function_variants s)
      → IsPlainModule (module_of s) → IsValid (module_of s) → AreReleases (points_of s) → CodesLeft f site out v
  codes_begin f site count out v ef es ec eo h pl va r = subst (λ z. CodesLeft z site out v) (sym ef) (subst (λ z. CodesLeft (imported_count (module_of s)) z out v) (sym es) begun)
    where
      begun : CodesLeft (imported_count (module_of s)) (length (head_sites (module_of s))) out v
      begun =
          let m : Module Label = module_of s in
          let z : imported_count m - imported_count m ≡ 0 = omega arith in
          let o : 0 + first_defined m ≡ first_defined m = omega arith in
          let a = length-append (head_sites m) (body_sites (bodies m (points_of s))) in
          let b = ap length (sites_same m pl (points_of s)) in
          let c : count ≡ length (placed_of s).functions = ec ∙ sym (length-map (bodies m (points_of s)) (placed_function (labels_of s) own_name m (points_of s)) ∙ bodies_length (first_defined m) (length (imported_functions m.imports)) (length (head_sites m)) m.functions) in
          record {
            q = first_defined m;
            fs = m.functions;
            left = record {
              from = omega arith;
              is = ap (λ k. drop k m.functions) z;
              heads = ap (drop (imported_count m)) (heads_both m 0 0 (imported_functions m.imports) (map (λ g. g.type) m.functions))
                  ∙ drop_at (heads_from m 0 (imported_functions m.imports)) (heads_from m (0 + first_defined m) (map (λ g. g.type) m.functions)) (imported_count m) (heads_length m 0 (imported_functions m.imports))
                  ∙ ap (λ k. heads_from m k (map (λ g. g.type) m.functions)) o;
              goes = bodies_go m pl va (points_of s) r;
              room = omega (arith, a, b);
              vs = function_variants s;
              held = h;
              uses = uses_split;
              texts = ap (λ (l : List ℕ). l ++ all_texts code_text (placed_of s).functions) (eo ∙ ap u32_text c);
            };
          }

  -- the next one, whose parameters' sites begin at `q`
  pub record NextAt (f site : ℕ) (out : List ℕ) (v : Variants) (q : ℕ) : Type 0 where
    pub function : Function Label
    pub named : function_named (module_of s) f ≡ Some function
    pub ready : IsReadyUnder (module_of s) (points_of s) q f site function
    pub vs : Uses
    pub later : Uses
    pub held : Holds v vs
    pub room : HasRoom s vs later q f site function
    pub on : (out' : List ℕ) (w : Variants) → Holds w (with_uses vs (body_uses s q f site function)) → out' ≡ out ++ code_text (placed_body s (with_uses (with_uses vs (body_uses s q f site function)) later) q f site function)
        → CodesLeft (f + 1) (site + length (body_of s q f site function).sites) out' w

  module _ (f site : ℕ) (out : List ℕ) (v : Variants) (q : ℕ) (F : Function Label) (rest : List (Function Label)) (h : Left f site out v q (F ∷ rest)) (small : length (sites (module_of s)) < 2 ^ 32)
      (short : length (vector_text code_text (placed_of s).functions) < 2 ^ 32) (few : length (module_of s).types + length (variants_of s) + 1 < 2 ^ 32) where
    abbrev p' : ℕ
    p' = q + site_count (type_named (module_of s) F.type)

    abbrev n' : ℕ
    n' = site + length (body_of s q f site F).sites

    there : (slice_get (module_of s).functions (f - imported_count (module_of s)) ≡ Some F) × (drop (f - imported_count (module_of s) + 1) (module_of s).functions ≡ rest)
    there = item_drop (module_of s).functions (f - imported_count (module_of s)) F rest h.is

    head : (get_or (heads_of (module_of s)) f 0 ≡ q) × (slice_get (heads_of (module_of s)) f ≡ Some q) × (drop (f + 1) (heads_of (module_of s)) ≡ heads_from (module_of s) p' (map (λ g. g.type) rest))
    head = at_drop (heads_of (module_of s)) f q (heads_from (module_of s) p' (map (λ g. g.type) rest)) h.heads

    entry : slice_get (function_entries (module_of s)) f ≡ Some F.type
    entry = slice_get_right (imported_functions (module_of s).imports) (map (λ g. g.type) (module_of s).functions) f h.from ∙ slice_get-map (λ (g : Function Label). g.type) (module_of s).functions (f - imported_count (module_of s)) ∙ ap (option_map (λ g. g.type)) there.0

    split_sites : length (body_sites (bodies_from (module_of s) (points_of s) q f site (F ∷ rest))) ≡ length (body_of s q f site F).sites + length (body_sites (bodies_from (module_of s) (points_of s) p' (f + 1) n' rest))
    split_sites = length-append (body_of s q f site F).sites (body_sites (bodies_from (module_of s) (points_of s) p' (f + 1) n' rest))

    abbrev after : Uses
    after = left_uses p' (f + 1) n' rest

    all_used : with_uses (with_uses h.vs (body_uses s q f site F)) after ≡ variants_of s
    all_used =
        sym (uses_append h.vs (body_uses s q f site F) after)
        ∙ ap (with_uses h.vs) (sym (map-append (use_to (labels_of s)) (code_uses (body_of s q f site F).code) (call_uses (bodies_from (module_of s) (points_of s) p' (f + 1) n' rest)))) ∙ h.uses

    text_short : length (code_text (placed_body s (variants_of s) q f site F)) < 2 ^ 32
    text_short =
        let a = ap length h.texts in
        let b = length-append out (left_texts q f site (F ∷ rest)) in
        let c = length-append (code_text (placed_body s (variants_of s) q f site F)) (left_texts p' (f + 1) n' rest) in
        omega (arith, a, b, c, short)

    pub code_next : NextAt f site out v q
    code_next = record {
      function = F;
      named =
          let z : imported_count (module_of s) + (f - imported_count (module_of s)) ≡ f = omega (arith, h.from) in
          ap (function_named (module_of s)) (sym z) ∙ named_at (module_of s) (imported_count (module_of s)) (f - imported_count (module_of s)) F refl there.0;
      ready = record {
        goes = h.goes.0;
        room = let a = split_sites in omega (arith, a, h.room, small);
        small =
            let w = heads_within (module_of s) 0 0 (function_entries (module_of s)) f F.type q entry head.1 in
            let a = length-append (head_sites (module_of s)) (body_sites (bodies (module_of s) no_points)) in
            let b = head_length (module_of s) (length (global_types (module_of s))) refl in
            small_of (q + length (type_named (module_of s) F.type).params) (type_named (module_of s) F.type).result (omega (arith, w, a, b, small));
      };
      vs = h.vs;
      later = after;
      held = h.held;
      room = record {
        few = let a = all_grow (with_uses h.vs (body_uses s q f site F)) after in let b = ap length all_used in omega (arith, a, b, few);
        short = subst (λ z. length (code_text (placed_body s z q f site F)) < 2 ^ 32) (sym all_used) text_short;
      };
      on = λ out' w held e. record {
        q = p';
        fs = rest;
        left = record {
          from = omega (arith, h.from);
          is = (let z : f + 1 - imported_count (module_of s) ≡ f - imported_count (module_of s) + 1 = omega (arith, h.from) in ap (λ k. drop k (module_of s).functions) z) ∙ there.1;
          heads = head.2;
          goes = h.goes.1;
          room = let a = split_sites in omega (arith, a, h.room);
          vs = with_uses h.vs (body_uses s q f site F);
          held = held;
          uses = all_used;
          texts = ap (λ (l : List ℕ). l ++ left_texts p' (f + 1) n' rest) (e ∙ ap (λ z. out ++ code_text (placed_body s z q f site F)) all_used)
              ∙ append_assoc out (code_text (placed_body s (variants_of s) q f site F)) (left_texts p' (f + 1) n' rest) ∙ h.texts;
        };
      };
    }

  pub code_here : (f site : ℕ) (out heads : List ℕ) (v : Variants) → CodesLeft f site out v → f < length (function_entries (module_of s)) → heads ≡ heads_of (module_of s) → length (sites (module_of s)) < 2 ^ 32
      → length (vector_text code_text (placed_of s).functions) < 2 ^ 32 → length (module_of s).types + length (variants_of s) + 1 < 2 ^ 32 → NextAt f site out v (get_or heads f 0)
  code_here f site out heads v h lt eh small short few =
      let a = length-append (imported_functions (module_of s).imports) (map (λ g. g.type) (module_of s).functions) in
      let b = length-map (module_of s).functions (λ (g : Function Label). g.type) in
      let n = next (module_of s).functions (f - imported_count (module_of s)) (omega (arith, a, b, lt, h.left.from)) in
      let e : h.fs ≡ n.item ∷ n.rest = sym h.left.is ∙ n.here in
      let l : Left f site out v h.q (n.item ∷ n.rest) = subst (λ z. Left f site out v h.q z) e h.left in
      let w = head f site out v h.q n.item n.rest l small short few in
      subst (λ z. NextAt f site out v z) (sym (ap (λ z. get_or z f 0) eh ∙ w.0)) (code_next f site out v h.q n.item n.rest l small short few)

  -- none is left
  none_left : (f site : ℕ) (out : List ℕ) (v : Variants) (h : CodesLeft f site out v) → length (function_entries (module_of s)) ≤ f → [] ≡ h.fs
  none_left f site out v h ge =
      let a = length-append (imported_functions (module_of s).imports) (map (λ g. g.type) (module_of s).functions) in
      let b = length-map (module_of s).functions (λ (g : Function Label). g.type) in
      sym (drop_all (f - imported_count (module_of s)) (module_of s).functions (omega (arith, a, b, ge, h.left.from))) ∙ h.left.is

  pub codes_done : (f site : ℕ) (out : List ℕ) (v : Variants) → CodesLeft f site out v → length (function_entries (module_of s)) ≤ f → (out ≡ vector_text code_text (placed_of s).functions) × Holds v (variants_of s)
  codes_done f site out v h ge =
      let l : Left f site out v h.q [] = subst (λ z. Left f site out v h.q z) (sym (none_left f site out v h ge)) h.left in
      (sym (append-nil out) ∙ l.texts, subst (Holds v) l.uses l.held)
