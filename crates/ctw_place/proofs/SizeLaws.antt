-- How long the canonical spelling of the placed module is.
use Rattle.std.proofs.Common.{◌≡◌, ◌≤◌, ◌<◌, ◌*◌, ℕ, suc, ◌+◌, Bool, true, false, List, [], ◌∷◌, ◌++◌, length, map, Option, Some, None, if◌then◌else◌, refl, ap, arith, length-append}
use Rattle.std.specs.Prelude.{option_map}
use Rattle.std.proofs.lemmas.List.{length-map}
use Rattle.ctw_ops.specs.declared.types.Label.{Label}
use Rattle.ctw_ops.specs.declared.types.Label.TheVariants.{Public, Secret}
use Rattle.ctw_ops.specs.declared.types.Limits.{Limits}
use Rattle.ctw_ops.specs.Types.{ValueType, FunctionType, MemoryType}
use Rattle.ctw_ops.specs.Equal.{same_type}
use Rattle.ctw_ops.specs.Plain.{IsPlainModule}
use Rattle.ctw_ops.specs.TagMaps.{type_to, function_type_to}
use Rattle.ctw_ops.specs.Typing.{Context, optional}
use Rattle.ctw_ops.specs.Code.{Closes, ByEnd}
use Rattle.ctw_ops.specs.Tree.{Module, Extern, ImportedFunction, ImportedTable, ImportedMemory, ImportedGlobal, Import, Function, Constant, Number, ValueOf, Global, Custom, function_entries, imported_functions, with_function, global_types, memory_among, type_named}
use Rattle.ctw_stack.specs.Operands.{fresh}
use Rattle.ctw_leb.specs.Spelling.{u32_text}
use Rattle.ctw_form.specs.Sections.{Group}
use Rattle.ctw_form.proofs.Weights.{weight}
use Rattle.ctw_form.specs.Spelled.{magic, version}
use Rattle.ctw_module.proofs.Sizes.{locals_in}
use Rattle.ctw_labels.specs.declared.tag.Tag.{Tag}
use Rattle.ctw_labels.specs.declared.tag.Tag.TheVariants.{At}
use Rattle.ctw_labels.specs.declared.name.SiteName.TheVariants.{Param, Result, GlobalOf, Memory, Local}
use Rattle.ctw_labels.specs.Numbering.{params_from, type_from, type_sites, number, sites_for, site_if}
use Rattle.ctw_labels.specs.Placed.{TypeUse, call_uses, code_uses, function_uses, type_uses, use_to, variants, variant_entry, with_trust, placed_constant, placed_global, placed_globals, placed_memory, placed_extern, placed_imports, next_number, next_function, next_global, placed_function, placed_types, variant_name, placed}
use Rattle.ctw_labels.specs.Points.{Points, trust_at}
use Rattle.ctw_labels.specs.SitedModule.{SitedBody, site_count, site_context, place_of, function_sites, head_sites, first_global, first_defined, first_defined_global, memory_site, body_from, bodies_from, bodies, body_sites, sites}
use Rattle.ctw_labels.proofs.Contexts.{type_length}
use Rattle.ctw_labels.proofs.SiteLaws.{sites_same}
use Rattle.ctw_write.specs.Canon.{all_texts, vector_text, sized_text, type_text, type_entry_text, import_text, extern_text, limits_text, memory_text, in_form, constant_text, global_text, local_before, groups_of, group_text, body_text, code_text, items_text, customs_text, placed_text, sections_text, canon, op_text}
use Rattle.ctw_write.proofs.FormedNumbers.{number_some}
use Rattle.ctw_write.proofs.Pieces.{all_texts-append, laid}
use Rattle.ctw_write.proofs.CanonicalText.{eight, gathered_is}
use Rattle.ctw_write.proofs.Shorter.{module_pieces}
use Rattle.ctw_sites.proofs.ScopeLaws.{params_length}
use Rattle.ctw_place.specs.Variants.{use_text}
use Rattle.ctw_place.proofs.SizeTexts.{number_most, count_most, uses_weight, weight_append, weight_to, variants_weight, calls_in, code_weight, code_size}

-- ---- locals

abbrev groups_size : List Group → ℕ
groups_size [] = 0
groups_size (g ∷ gs) = g.count + 1 + groups_size gs

-- each group has some locals
abbrev AreSome : List Group → Type 0
AreSome [] = Unit {0}
AreSome (g ∷ gs) = (0 < g.count) × AreSome gs

before_size : (t : ValueType Label) (gs : List Group) → AreSome gs → (groups_size (local_before t gs) ≤ 2 + groups_size gs) × AreSome (local_before t gs)
before_size t [] h = (omega arith, (omega arith, tt))
before_size t (g ∷ gs) h = by (same_type t g.type)
  where
    by : (b : Bool) → (groups_size (if b then record { count = suc g.count; type = g.type } ∷ gs else record { count = 1; type = t } ∷ g ∷ gs) ≤ 2 + groups_size (g ∷ gs)) × AreSome (if b then record { count = suc g.count; type = g.type } ∷ gs else record { count = 1; type = t } ∷ g ∷ gs)
    by true = (omega arith, (omega arith, h.1))
    by false = (omega arith, (omega arith, h))

groups_most : (ts : List (ValueType Label)) → (groups_size (groups_of ts) ≤ 2 * length ts) × AreSome (groups_of ts)
groups_most [] = (omega arith, tt)
groups_most (t ∷ ts) = let h = groups_most ts in let k = before_size t (groups_of ts) h.1 in (omega (arith, h.0, k.0), k.1)

groups_text : (gs : List Group) → AreSome gs → length (all_texts group_text gs) ≤ groups_size gs
groups_text [] h = omega arith
groups_text (g ∷ gs) h =
    let k = groups_text gs h.1 in
    omega (arith, k, count_most g.count h.0, length-append (u32_text g.count) (type_text g.type), length-append (group_text g) (all_texts group_text gs))

locals_text : (ts : List (ValueType Label)) → length (vector_text group_text (groups_of ts)) ≤ 10 + 2 * length ts
locals_text ts =
    let m = groups_most ts in
    omega (arith, m.0, groups_text (groups_of ts) m.1, number_most (length (groups_of ts)), length-append (u32_text (length (groups_of ts))) (all_texts group_text (groups_of ts)))

-- ---- items

limits_same : (a b c d : ℕ) (limits : Limits) → length (limits_text a b limits) ≡ length (limits_text c d limits)
limits_same a b c d limits = by limits.max
  where
    by : (o : Option ℕ) → length (limits_text a b (record { min = limits.min; max = o })) ≡ length (limits_text c d (record { min = limits.min; max = o }))
    by None = refl
    by (Some max) = refl

memory_size : (l k : Label) (limits : Limits) → length (memory_text (record { tag = l; limits = limits })) ≡ length (memory_text (record { tag = k; limits = limits }))
memory_size Public Public limits = refl
memory_size Public Secret limits = limits_same 0x00 0x01 0x10 0x11 limits
memory_size Secret Public limits = limits_same 0x10 0x11 0x00 0x01 limits
memory_size Secret Secret limits = refl

memory_most : (t : MemoryType Label) (l : Label) → length (memory_text (record { tag = l; limits = t.limits })) ≡ length (memory_text t)
memory_most t l = memory_size l t.tag t.limits

constant_most : (l : Label) (c : Constant Label) → length (constant_text (placed_constant l c)) ≤ 1 + length (constant_text c)
constant_most l (Number t bits) = forms l t.tag _
  where
    forms : (l k : Label) (text : List ℕ) → length (in_form l text ++ op_text (Closes ByEnd)) ≤ 1 + length (in_form k text ++ op_text (Closes ByEnd))
    forms l k text = by l k
      where
        by : (l k : Label) → length (in_form l text ++ op_text (Closes ByEnd)) ≤ 1 + length (in_form k text ++ op_text (Closes ByEnd))
        by Public Public = omega arith
        by Public Secret = omega arith
        by Secret Public = omega arith
        by Secret Secret = omega arith
constant_most l (ValueOf x) = omega arith

abbrev is_function : Extern Label → ℕ
is_function (ImportedFunction y) = 1
is_function e = 0

module _ (L : Tag → Label) (m : Module Label) (p : Points) where
  abbrev name : ℕ → FunctionType Label → ℕ
  name = variant_name L m p

  extern_most : (k q n : ℕ) (e : Extern Label) → length (extern_text (placed_extern L name m p k q n e)) + 33 * is_function e ≤ 42 + length (extern_text e)
  extern_most k q n (ImportedFunction y) = let a = number_most (name y (function_type_to L (with_trust (trust_at p k) (type_from q (type_named m y))))) in omega (arith, a, number_some y)
  extern_most k q n (ImportedTable limits) = omega arith
  extern_most k q n (ImportedMemory t) = let a = memory_most t (L (At (memory_site m))) in omega (arith, a)
  extern_most k q n (ImportedGlobal g) = omega arith

  abbrev imported_some : List (Import Label) → ℕ
  imported_some is = length (imported_functions is)

  with_count : (e : Extern Label) (ys : List ℕ) → length (with_function e ys) ≡ is_function e + length ys
  with_count (ImportedFunction y) ys = omega arith
  with_count (ImportedTable limits) ys = omega arith
  with_count (ImportedMemory t) ys = omega arith
  with_count (ImportedGlobal g) ys = omega arith

  imports_most : (k q n : ℕ) (is : List (Import Label)) → length (all_texts import_text (placed_imports L name m p k q n is)) + 33 * imported_some is ≤ 23 * length (all_texts import_text is)
  imports_most k q n [] = omega arith
  imports_most k q n (i ∷ is) =
      let k' = next_number L name m p i.kind k in
      let q' = next_function L name m p i.kind q in
      let n' = next_global L name m p i.kind n in
      let h = imports_most k' q' n' is in
      let x = sized_text i.module_name in
      let y = sized_text i.name in
      let e = extern_text i.kind in
      let e' = extern_text (placed_extern L name m p k q n i.kind) in
      let a = length-append (x ++ y) e in
      let b = length-append (x ++ y) e' in
      let c = length-append x y in
      let d = length-append (u32_text (length i.module_name)) i.module_name in
      let f = length-append (u32_text (length i.name)) i.name in
      let g = length-append (import_text i) (all_texts import_text is) in
      let j = length-append ((x ++ y) ++ e') (all_texts import_text (placed_imports L name m p k' q' n' is)) in
      omega (arith, h, a, b, c, d, f, g, j, number_some (length i.module_name), number_some (length i.name), extern_most k q n i.kind, with_count i.kind (imported_functions is))

  globals_most : (n : ℕ) (gs : List (Global Label)) → length (all_texts global_text (placed_globals L n gs)) ≤ 23 * length (all_texts global_text gs)
  globals_most n [] = omega arith
  globals_most n (g ∷ gs) =
      let h = globals_most (n + 1) gs in
      let a = constant_most (L (At n)) g.init in
      let b = length-append (global_text g) (all_texts global_text gs) in
      let c = length-append (global_text (placed_global L n g)) (all_texts global_text (placed_globals L (n + 1) gs)) in
      omega (arith, h, a, b, c)

  -- ---- functions

  abbrev calls_of : List (Function Label) → ℕ
  calls_of [] = 0
  calls_of (f ∷ fs) = calls_in f.body + calls_of fs

  abbrev uses_text : List (Function Label) → ℕ
  uses_text fs = length (all_texts (λ (f : Function Label). u32_text f.type) fs)

  abbrev codes_text : List (Function Label) → ℕ
  codes_text fs = length (all_texts code_text fs)

  body_most : (q k n : ℕ) (f : Function Label) → length (body_text (placed_function L name m p (body_from m p q k n f)).body) + 33 * calls_in f.body ≤ 23 * length (body_text f.body)
  body_most q k n f =
      let h = code_size L name (place_of m p k) (site_context m (trust_at p k) (type_from q (type_named m f.type)) (params_from n f.locals)) f.body (n + length f.locals) 0 fresh (Closes ByEnd ∷ []) (Closes ByEnd ∷ []) 0 (omega arith) in
      omega (arith, h)

  code_most : (q k n : ℕ) (f : Function Label) → length (code_text (placed_function L name m p (body_from m p q k n f))) + 33 * calls_in f.body ≤ 20 + 2 * length f.locals + 23 * length (body_text f.body)
  code_most q k n f =
      let ls : List (ValueType Label) = map (type_to L) (params_from n f.locals) in
      let v = vector_text group_text (groups_of ls) in
      let w = body_text (placed_function L name m p (body_from m p q k n f)).body in
      let a = length-append (u32_text (length (v ++ w))) (v ++ w) in
      let b = length-append v w in
      let c = length-map (params_from n f.locals) (type_to L) in
      let d = params_length n f.locals in
      omega (arith, a, b, c, d, number_most (length (v ++ w)), locals_text ls, body_most q k n f)

  code_least : (f : Function Label) → 2 + length (body_text f.body) ≤ length (code_text f)
  code_least f =
      let v = vector_text group_text (groups_of f.locals) in
      let w = body_text f.body in
      omega (arith, length-append (u32_text (length (v ++ w))) (v ++ w), length-append v w, length-append (u32_text (length (groups_of f.locals))) (all_texts group_text (groups_of f.locals)), number_some (length (v ++ w)), number_some (length (groups_of f.locals)))

  functions_most : (q k n : ℕ) (fs : List (Function Label)) → uses_text (map (placed_function L name m p) (bodies_from m p q k n fs)) + codes_text (map (placed_function L name m p) (bodies_from m p q k n fs)) + 33 * (length fs + calls_of fs)
      ≤ 23 * (uses_text fs + codes_text fs) + 2 * weight locals_in fs
  functions_most q k n [] = omega arith
  functions_most q k n (f ∷ fs) =
      let b : SitedBody = body_from m p q k n f in
      let g : Function Label = placed_function L name m p b in
      let q' = q + site_count (type_named m f.type) in
      let n' = n + length b.sites in
      let r : List (Function Label) = map (placed_function L name m p) (bodies_from m p q' (k + 1) n' fs) in
      let h = functions_most q' (k + 1) n' fs in
      let a = length-append (u32_text g.type) (all_texts (λ (f : Function Label). u32_text f.type) r) in
      let c = length-append (code_text g) (all_texts code_text r) in
      let d = length-append (u32_text f.type) (all_texts (λ (f : Function Label). u32_text f.type) fs) in
      let e = length-append (code_text f) (all_texts code_text fs) in
      omega (arith, h, a, c, d, e, number_most g.type, number_some f.type, code_most q k n f, code_least f)

  -- ---- variants

  function_weight : (k q : ℕ) (ys : List ℕ) → uses_weight (function_uses m p k q ys) ≤ 33 * length ys + length (function_sites m k ys)
  function_weight k q [] = omega arith
  function_weight k q (y ∷ ys) =
      let h = function_weight (k + 1) (q + site_count (type_named m y)) ys in
      let a = params_length q (type_named m y).params in
      let b = type_length (Param k) (Result k) (type_named m y) in
      let c = length-append (type_sites (Param k) (Result k) (type_named m y)) (function_sites m (k + 1) ys) in
      omega (arith, h, a, b, c)

  call_weight : (q k n : ℕ) (fs : List (Function Label)) → uses_weight (call_uses (bodies_from m p q k n fs)) ≤ 33 * calls_of fs + length (body_sites (bodies_from m p q k n fs))
  call_weight q k n [] = omega arith
  call_weight q k n (f ∷ fs) =
      let b : SitedBody = body_from m p q k n f in
      let q' = q + site_count (type_named m f.type) in
      let n' = n + length b.sites in
      let h = call_weight q' (k + 1) n' fs in
      let C : Context Tag = site_context m (trust_at p k) (type_from q (type_named m f.type)) (params_from n f.locals) in
      let r = number (place_of m p k) C f.body (n + length f.locals) 0 fresh in
      let a = code_weight (place_of m p k) C f.body (n + length f.locals) 0 fresh in
      let c = weight_append (code_uses b.code) (call_uses (bodies_from m p q' (k + 1) n' fs)) in
      let d = length-append (sites_for (Local k) (length (type_named m f.type).params) f.locals) r.sites in
      let e = length-append b.sites (body_sites (bodies_from m p q' (k + 1) n' fs)) in
      omega (arith, h, a, c, d, e)

  variants_most : IsPlainModule m → length (all_texts use_text (variants L m p)) ≤ 33 * (length (function_entries m) + calls_of m.functions) + length (sites m)
  variants_most pl =
      let us = function_uses m p 0 0 (function_entries m) in
      let ws = call_uses (bodies m p) in
      let a = variants_weight [] (map (use_to L) (type_uses m p)) in
      let b = weight_to L (type_uses m p) in
      let c = weight_append us ws in
      let d = function_weight 0 0 (function_entries m) in
      let e = call_weight (first_defined m) (length (imported_functions m.imports)) (length (head_sites m)) m.functions in
      let f = ap length (sites_same m pl p) in
      let g = length-append (head_sites m) (body_sites (bodies m p)) in
      let h = length-append (function_sites m 0 (function_entries m)) (sites_for GlobalOf 0 (global_types m) ++ site_if Memory (memory_among m.imports m.memory)) in
      omega (arith, a, b, c, d, e, f, g, h)

  -- ---- sections

  -- a section of other items, and some more
  section_most : {A B : Type 0} (id : ℕ) (w : A → List ℕ) (v : B → List ℕ) (xs : List A) (ys : List B) (e x : ℕ) → length xs ≡ length ys → length (all_texts w xs) + e ≤ 23 * length (all_texts v ys) + x → length (items_text id w xs) + e ≤ 23 * length (items_text id v ys) + x
  section_most id w v [] [] e x q h = omega (arith, h)
  section_most id w v [] (b ∷ ys) e x q h = absurd (omega (arith, q))
  section_most id w v (a ∷ xs) [] e x q h = absurd (omega (arith, q))
  section_most id w v (a ∷ xs) (b ∷ ys) e x q h =
      let s = vector_text w (a ∷ xs) in
      let t = vector_text v (b ∷ ys) in
      omega (
        arith,
        h,
        length-append (u32_text (length s)) s,
        length-append (u32_text (length (a ∷ xs))) (all_texts w (a ∷ xs)),
        length-append (u32_text (length t)) t,
        length-append (u32_text (length (b ∷ ys))) (all_texts v (b ∷ ys)),
        number_most (length s),
        number_most (length (a ∷ xs)),
        number_some (length t),
        number_some (length (b ∷ ys)),
      )

  -- at most so many bytes more than the items
  section_upto : {A : Type 0} (id : ℕ) (w : A → List ℕ) (xs : List A) → length (items_text id w xs) ≤ 21 + length (all_texts w xs)
  section_upto id w [] = omega arith
  section_upto id w (a ∷ xs) =
      let s = vector_text w (a ∷ xs) in
      omega (arith, length-append (u32_text (length s)) s, length-append (u32_text (length (a ∷ xs))) (all_texts w (a ∷ xs)), number_most (length s), number_most (length (a ∷ xs)))

  section_from : {A : Type 0} (id : ℕ) (w : A → List ℕ) (xs : List A) → length (all_texts w xs) ≤ length (items_text id w xs)
  section_from id w [] = omega arith
  section_from id w (a ∷ xs) =
      let s = vector_text w (a ∷ xs) in
      omega (arith, length-append (u32_text (length s)) s, length-append (u32_text (length (a ∷ xs))) (all_texts w (a ∷ xs)))

  memory_section : (t : Option (MemoryType Label)) → length (items_text 5 memory_text (optional (option_map (placed_memory L m) t))) ≤ 23 * length (items_text 5 memory_text (optional t))
  memory_section None = omega arith
  memory_section (Some t) =
      let h = memory_most t (L (At (memory_site m))) in
      let l = ap length (all_texts-append memory_text [] (t ∷ [])) in
      let a = length-append (memory_text t) [] in
      let b = length-append (memory_text (placed_memory L m t)) [] in
      let r = section_most 5 memory_text memory_text (placed_memory L m t ∷ []) (t ∷ []) 0 0 refl (omega (arith, h, a, b)) in
      omega (arith, r)

  pub globals_length : (n : ℕ) (gs : List (Global Label)) → length (placed_globals L n gs) ≡ length gs
  globals_length n [] = refl
  globals_length n (g ∷ gs) = ap suc (globals_length (n + 1) gs)

  pub imports_length : (k q n : ℕ) (is : List (Import Label)) → length (placed_imports L name m p k q n is) ≡ length is
  imports_length k q n [] = refl
  imports_length k q n (i ∷ is) = ap suc (imports_length (next_number L name m p i.kind k) (next_function L name m p i.kind q) (next_global L name m p i.kind n) is)

  pub functions_length : (q k n : ℕ) (fs : List (Function Label)) → length (map (placed_function L name m p) (bodies_from m p q k n fs)) ≡ length fs
  functions_length q k n [] = refl
  functions_length q k n (f ∷ fs) = ap suc (functions_length (q + site_count (type_named m f.type)) (k + 1) (n + length (body_from m p q k n f).sites) fs)

  -- the sections of functions' types and of their code, together
  both_sections : (xs ys : List (Function Label)) (e x : ℕ) → length xs ≡ length ys → uses_text xs + codes_text xs + e ≤ 23 * (uses_text ys + codes_text ys) + x
      → length (items_text 3 (λ (f : Function Label). u32_text f.type) xs) + length (items_text 10 code_text xs) + e ≤ 23 * (length (items_text 3 (λ (f : Function Label). u32_text f.type) ys) + length (items_text 10 code_text ys)) + x
  both_sections [] [] e x q h = omega (arith, h)
  both_sections [] (b ∷ ys) e x q h = absurd (omega (arith, q))
  both_sections (a ∷ xs) [] e x q h = absurd (omega (arith, q))
  both_sections (a ∷ xs) (b ∷ ys) e x q h =
      let u : Function Label → List ℕ = λ f. u32_text f.type in
      let s = vector_text (λ (f : Function Label). u32_text f.type) (a ∷ xs) in
      let t = vector_text (λ (f : Function Label). u32_text f.type) (b ∷ ys) in
      let c = vector_text code_text (a ∷ xs) in
      let d = vector_text code_text (b ∷ ys) in
      omega (
        arith,
        h,
        length-append (u32_text (length s)) s,
        length-append (u32_text (length (a ∷ xs))) (all_texts (λ (f : Function Label). u32_text f.type) (a ∷ xs)),
        length-append (u32_text (length t)) t,
        length-append (u32_text (length (b ∷ ys))) (all_texts (λ (f : Function Label). u32_text f.type) (b ∷ ys)),
        length-append (u32_text (length c)) c,
        length-append (u32_text (length (a ∷ xs))) (all_texts code_text (a ∷ xs)),
        length-append (u32_text (length d)) d,
        length-append (u32_text (length (b ∷ ys))) (all_texts code_text (b ∷ ys)),
        number_most (length s),
        number_most (length c),
        number_most (length (a ∷ xs)),
        number_some (length t),
        number_some (length d),
        number_some (length (b ∷ ys)),
      )

  texts_of : (vs : List (TypeUse Label)) → all_texts type_entry_text (map variant_entry vs) ≡ all_texts use_text vs
  texts_of [] = refl
  texts_of (v ∷ vs) = ap (λ (l : List ℕ). use_text v ++ l) (texts_of vs)

  types_section : IsPlainModule m → length (items_text 1 type_entry_text (placed_types L m p)) ≤ 21 + length (items_text 1 type_entry_text m.types) + 33 * (length (function_entries m) + calls_of m.functions) + length (sites m)
  types_section pl =
      let vs = variants L m p in
      let a = section_upto 1 type_entry_text (m.types ++ map variant_entry vs) in
      let b = ap length (all_texts-append type_entry_text m.types (map variant_entry vs)) in
      let c = length-append (all_texts type_entry_text m.types) (all_texts type_entry_text (map variant_entry vs)) in
      let d = ap length (texts_of vs) in
      omega (arith, a, b, c, d, section_from 1 type_entry_text m.types, variants_most pl)

-- ---- the whole

abbrev total : List (List ℕ) → ℕ
total [] = 0
total (x ∷ xs) = length x + total xs

laid_total : (k : ℕ) (xs ys : List (List ℕ)) (customs : List Custom) → length xs ≡ length ys → length (laid k xs customs) + total ys ≡ length (laid k ys customs) + total xs
laid_total k [] [] customs e = refl
laid_total k [] (y ∷ ys) customs e = absurd (omega (arith, e))
laid_total k (x ∷ xs) [] customs e = absurd (omega (arith, e))
laid_total k (x ∷ xs) (y ∷ ys) customs e =
    let h = laid_total (suc k) xs ys customs (omega (arith, e)) in
    omega (
      arith,
      h,
      length-append (placed_text k x customs) (laid (suc k) xs customs),
      length-append (placed_text k y customs) (laid (suc k) ys customs),
      length-append x (customs_text k customs),
      length-append y (customs_text k customs),
    )

total_most : (k : ℕ) (xs : List (List ℕ)) (customs : List Custom) → total xs ≤ length (laid k xs customs)
total_most k [] customs = omega arith
total_most k (x ∷ xs) customs = omega (arith, total_most (suc k) xs customs, length-append (placed_text k x customs) (laid (suc k) xs customs), length-append x (customs_text k customs))

laid_size : (m : Module Label) → length (canon m) ≡ 8 + length (laid 0 (module_pieces m) m.customs)
unfolding canon sections_text
laid_size m = omega (arith, length-append (magic ++ version m.ct) (sections_text m), eight m.ct, ap length (gathered_is [] 0 (module_pieces m) m.customs))

-- it is at most 23 times as long as the module's own one, and longer by its sites and twice its locals
pub placed_most : (L : Tag → Label) (m : Module Label) (p : Points) → IsPlainModule m → length (canon (placed L m p)) ≤ 23 * length (canon m) + length (sites m) + 2 * weight locals_in m.functions
placed_most L m p pl =
    let M = placed L m p in
    let fs = map (placed_function L (variant_name L m p) m p) (bodies m p) in
    let a = laid_size m in
    let b = laid_size M in
    let c = laid_total 0 (module_pieces M) (module_pieces m) m.customs refl in
    let d = types_section L m p pl in
    let e = imports_most L m p 0 0 (first_global m) m.imports in
    let f = section_most L m p 2 import_text import_text (placed_imports L (variant_name L m p) m p 0 0 (first_global m) m.imports) m.imports (33 * length (imported_functions m.imports)) 0 (imports_length L m p 0 0 (first_global m) m.imports) (omega (arith, e)) in
    let g = functions_most L m p (first_defined m) (length (imported_functions m.imports)) (length (head_sites m)) m.functions in
    let h = both_sections L m p fs m.functions (33 * (length m.functions + calls_of L m p m.functions)) (2 * weight locals_in m.functions) (functions_length L m p (first_defined m) (length (imported_functions m.imports)) (length (head_sites m)) m.functions) g in
    let i = memory_section L m p m.memory in
    let j = globals_most L m p (first_defined_global m) m.globals in
    let k = section_most L m p 6 global_text global_text (placed_globals L (first_defined_global m) m.globals) m.globals 0 0 (globals_length L m p (first_defined_global m) m.globals) (omega (arith, j)) in
    let l = length-append (imported_functions m.imports) (map (λ f. f.type) m.functions) in
    let n = length-map m.functions (λ (f : Function Label). f.type) in
    omega (arith, a, b, c, d, f, h, i, k, l, n, total_most 0 (module_pieces m) m.customs)
