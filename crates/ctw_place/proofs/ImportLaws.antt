-- The imports under labels, one after another.
use Rattle.std.proofs.Common.{◌≡◌, ◌<◌, ◌≤◌, ◌^◌, ℕ, ◌+◌, zero, suc, List, [], ◌∷◌, ◌++◌, length, map, drop, Some, get_or, slice_get, refl, sym, ◌∙◌, ap, subst, arith, length-append, append_assoc, append-nil}
use Rattle.std.proofs.lemmas.List.{drop_all}
use Rattle.ctw_ops.specs.declared.types.Label.{Label}
use Rattle.ctw_ops.specs.Types.{FunctionType}
use Rattle.ctw_ops.specs.Tree.{Extern, ImportedFunction, ImportedTable, ImportedMemory, ImportedGlobal, Import, function_entries, imported_functions, imported_globals, with_function, with_global}
use Rattle.ctw_leb.specs.Spelling.{u32_text}
use Rattle.ctw_labels.specs.Fits.{label_at}
use Rattle.ctw_labels.specs.Placed.{placed_extern, placed_imports, next_number, next_function, next_global, variant_name}
use Rattle.ctw_labels.specs.SitedModule.{first_global, first_defined_global, memory_site}
use Rattle.ctw_write.specs.Canon.{all_texts, vector_text, import_text}
use Rattle.ctw_place.specs.declared.setting.Setting.{Setting}
use Rattle.ctw_place.specs.Bodies.{placed_of}
use Rattle.ctw_place.specs.Items.{extern_under, import_under, next_function_number, next_global_site}
use Rattle.ctw_place.specs.Settings.{module_of, labels_of, points_of, names_from}
use Rattle.ctw_place.proofs.Drops.{item_drop, at_drop}

module _ (s : Setting) (types start : List ℕ) where
  abbrev own_name : ℕ → FunctionType Label → ℕ
  own_name = variant_name (labels_of s) (module_of s) (points_of s)

  abbrev rest_imports : ℕ → ℕ → ℕ → List (Import Label) → List (Import Label)
  rest_imports f q site is = placed_imports (labels_of s) own_name (module_of s) (points_of s) f q site is

  abbrev rest_names : ℕ → ℕ → List (Import Label) → List ℕ
  rest_names f q is = names_from (labels_of s) own_name (module_of s) (points_of s) f q (imported_functions is ++ map (λ g. g.type) (module_of s).functions)

  -- those from one on are left, whose next function's sites begin at `q`
  pub record Left (i f site : ℕ) (out : List ℕ) (q : ℕ) (is : List (Import Label)) : Type 0 where
    pub here : drop i (module_of s).imports ≡ is
    pub few : f ≤ i
    pub sites : site + length (imported_globals is) ≡ first_defined_global (module_of s)
    pub names : drop f types ≡ rest_names f q is
    pub longer : length start ≤ length out
    pub texts : out ++ all_texts import_text (rest_imports f q site is) ≡ start ++ vector_text import_text (placed_of s).imports

  pub record ImportsLeft (i f site : ℕ) (out : List ℕ) : Type 0 where
    pub q : ℕ
    pub is : List (Import Label)
    pub left : Left i f site out q is

  pub imports_length : (f q site : ℕ) (is : List (Import Label)) → length (rest_imports f q site is) ≡ length is
  imports_length f q site [] = refl
  imports_length f q site (i ∷ is) = ap suc (imports_length (next_number (labels_of s) own_name (module_of s) (points_of s) i.kind f) (next_function (labels_of s) own_name (module_of s) (points_of s) i.kind q) (next_global (labels_of s) own_name (module_of s) (points_of s) i.kind site) is)

  pub imports_begin : (count : ℕ) (out : List ℕ) → types ≡ names_from (labels_of s) own_name (module_of s) (points_of s) 0 0 (function_entries (module_of s)) → count ≡ length (module_of s).imports → out ≡ start ++ u32_text count
      → ImportsLeft 0 0 (first_global (module_of s)) out
  imports_begin count out names ec eo = record {
    q = 0;
    is = (module_of s).imports;
    left = record {
      here = refl;
      few = omega arith;
      sites = refl;
      names = names;
      longer = let a = ap length eo in let b = length-append start (u32_text count) in omega (arith, a, b);
      texts =
          ap (λ (l : List ℕ). l ++ all_texts import_text (placed_of s).imports) (eo ∙ ap (λ k. start ++ u32_text k) (ec ∙ sym (imports_length 0 0 (first_global (module_of s)) (module_of s).imports)))
          ∙ append_assoc start (u32_text (length (placed_of s).imports)) (all_texts import_text (placed_of s).imports);
    };
  }

  -- what an import becomes
  module _ (memory : Label) (em : memory ≡ label_at s.labels (memory_site (module_of s))) where
    extern_is : (f q site : ℕ) (k : Extern Label) (is : List (Import Label)) → drop f types ≡ names_from (labels_of s) own_name (module_of s) (points_of s) f q (with_function k (imported_functions is) ++ map (λ g. g.type) (module_of s).functions)
        → extern_under (get_or types f 0) memory (label_at s.labels site) k ≡ placed_extern (labels_of s) own_name (module_of s) (points_of s) f q site k
    extern_is f q site (ImportedFunction y) is e = ap ImportedFunction (at_drop types f _ _ e).0
    extern_is f q site (ImportedTable limits) is e = refl
    extern_is f q site (ImportedMemory t) is e = λ j. ImportedMemory (record { tag = em j; limits = t.limits })
    extern_is f q site (ImportedGlobal g) is e = refl

    next_names : (f q site : ℕ) (k : Extern Label) (is : List (Import Label)) → drop f types ≡ names_from (labels_of s) own_name (module_of s) (points_of s) f q (with_function k (imported_functions is) ++ map (λ g. g.type) (module_of s).functions)
        → drop (next_function_number k f) types ≡ rest_names (next_number (labels_of s) own_name (module_of s) (points_of s) k f) (next_function (labels_of s) own_name (module_of s) (points_of s) k q) is
    next_names f q site (ImportedFunction y) is e = (at_drop types f _ _ e).2
    next_names f q site (ImportedTable limits) is e = e
    next_names f q site (ImportedMemory t) is e = e
    next_names f q site (ImportedGlobal g) is e = e

    number_same : (k : Extern Label) (f : ℕ) → next_function_number k f ≡ next_number (labels_of s) own_name (module_of s) (points_of s) k f
    number_same (ImportedFunction y) f = refl
    number_same (ImportedTable limits) f = refl
    number_same (ImportedMemory t) f = refl
    number_same (ImportedGlobal g) f = refl

    number_few : (k : Extern Label) (f : ℕ) → next_function_number k f ≤ f + 1
    number_few (ImportedFunction y) f = omega arith
    number_few (ImportedTable limits) f = omega arith
    number_few (ImportedMemory t) f = omega arith
    number_few (ImportedGlobal g) f = omega arith

    site_same : (k : Extern Label) (n : ℕ) → next_global_site k n ≡ next_global (labels_of s) own_name (module_of s) (points_of s) k n
    site_same (ImportedFunction y) n = refl
    site_same (ImportedTable limits) n = refl
    site_same (ImportedMemory t) n = refl
    site_same (ImportedGlobal g) n = refl

    next_sites : (k : Extern Label) (n : ℕ) (gs : List _) → next_global_site k n + length gs ≡ n + length (with_global {S = Label} k gs)
    next_sites (ImportedFunction y) n gs = refl
    next_sites (ImportedTable limits) n gs = refl
    next_sites (ImportedMemory t) n gs = refl
    next_sites (ImportedGlobal g) n gs = omega arith

    module _ (i f site : ℕ) (out : List ℕ) (q : ℕ) (x : Import Label) (is : List (Import Label)) (h : Left i f site out q (x ∷ is)) where
      own_is : import_under (get_or types f 0) memory (label_at s.labels site) x ≡ record { module_name = x.module_name; name = x.name; kind = placed_extern (labels_of s) own_name (module_of s) (points_of s) f q site x.kind }
      own_is = ap (λ k. record { module_name = x.module_name; name = x.name; kind = k }) (extern_is f q site x.kind is h.names)

      own_short : length (vector_text import_text (placed_of s).imports) < 2 ^ 32 → length (import_text (import_under (get_or types f 0) memory (label_at s.labels site) x)) < 2 ^ 32
      own_short lt =
          let w = import_text (record { module_name = x.module_name; name = x.name; kind = placed_extern (labels_of s) own_name (module_of s) (points_of s) f q site x.kind }) in
          let r = all_texts import_text (rest_imports (next_number (labels_of s) own_name (module_of s) (points_of s) x.kind f) (next_function (labels_of s) own_name (module_of s) (points_of s) x.kind q) (next_global (labels_of s) own_name (module_of s) (points_of s) x.kind site) is) in
          let a = ap length h.texts in
          let b = length-append out (w ++ r) in
          let c = length-append w r in
          let d = ap (λ z. length (import_text z)) own_is in
          let t = length-append start (vector_text import_text (placed_of s).imports) in
          omega (arith, a, b, c, d, t, h.longer, lt)

      own_on : (out' : List ℕ) → out' ≡ out ++ import_text (import_under (get_or types f 0) memory (label_at s.labels site) x) → ImportsLeft (i + 1) (next_function_number x.kind f) (next_global_site x.kind site) out'
      own_on out' e = record {
        q = next_function (labels_of s) own_name (module_of s) (points_of s) x.kind q;
        is = is;
        left = record {
          here = (item_drop (module_of s).imports i x is h.here).1;
          few = omega (arith, h.few, number_few x.kind f);
          sites = next_sites x.kind site (imported_globals is) ∙ h.sites;
          names = next_names f q site x.kind is h.names ∙ ap (λ z. rest_names z (next_function (labels_of s) own_name (module_of s) (points_of s) x.kind q) is) (sym (number_same x.kind f));
          longer = let a = ap length e in let b = length-append out (import_text (import_under (get_or types f 0) memory (label_at s.labels site) x)) in omega (arith, a, b, h.longer);
          texts =
              let w = import_text (record { module_name = x.module_name; name = x.name; kind = placed_extern (labels_of s) own_name (module_of s) (points_of s) f q site x.kind }) in
              (λ j. out' ++ all_texts import_text (rest_imports (number_same x.kind f j) (next_function (labels_of s) own_name (module_of s) (points_of s) x.kind q) (site_same x.kind site j) is))
              ∙ ap (λ (l : List ℕ). l ++ all_texts import_text (rest_imports (next_number (labels_of s) own_name (module_of s) (points_of s) x.kind f) (next_function (labels_of s) own_name (module_of s) (points_of s) x.kind q) (next_global (labels_of s) own_name (module_of s) (points_of s) x.kind site) is)) (e ∙ ap (λ z. out ++ import_text z) own_is)
              ∙ append_assoc out w (all_texts import_text (rest_imports (next_number (labels_of s) own_name (module_of s) (points_of s) x.kind f) (next_function (labels_of s) own_name (module_of s) (points_of s) x.kind q) (next_global (labels_of s) own_name (module_of s) (points_of s) x.kind site) is))
              ∙ h.texts;
        };
      }

    module _ (i f site : ℕ) (out : List ℕ) (h : ImportsLeft i f site out) (x : Import Label) (e : slice_get (module_of s).imports i ≡ Some x) where
      split : (is : List (Import Label)) × (h.is ≡ x ∷ is)
      split = of (module_of s).imports i e h.is h.left.here
        where
          of : (xs : List (Import Label)) (i : ℕ) → slice_get xs i ≡ Some x → (is : List (Import Label)) → drop i xs ≡ is → (rest : List (Import Label)) × (is ≡ x ∷ rest)
          of [] i e is d = absurd cc
          of (y ∷ xs) zero e is d = let p : y ≡ x = cc in (xs, sym d ∙ ap (λ z. z ∷ xs) p)
          of (y ∷ xs) (suc i) e is d = of xs i e is d

      own_left : Left i f site out h.q (x ∷ split.0)
      own_left = subst (λ z. Left i f site out h.q z) split.1 h.left

      pub import_short : length (vector_text import_text (placed_of s).imports) < 2 ^ 32 → length (import_text (import_under (get_or types f 0) memory (label_at s.labels site) x)) < 2 ^ 32
      import_short lt = own_short i f site out h.q x split.0 own_left lt

      pub import_on : (out' : List ℕ) → out' ≡ out ++ import_text (import_under (get_or types f 0) memory (label_at s.labels site) x) → ImportsLeft (i + 1) (next_function_number x.kind f) (next_global_site x.kind site) out'
      import_on out' q = own_on i f site out h.q x split.0 own_left out' q

      pub import_few : next_function_number x.kind f ≤ i + 1
      import_few = omega (arith, h.left.few, number_few x.kind f)

      pub import_site : next_global_site x.kind site ≤ memory_site (module_of s)
      import_site =
          let a = next_sites x.kind site (imported_globals split.0) in
          let l = own_left in
          let b = length-append (imported_globals (module_of s).imports) (map (λ g. g.type) (module_of s).globals) in
          omega (arith, a, l.sites, b)

  pub imports_done : (i f site : ℕ) (out : List ℕ) → ImportsLeft i f site out → length (module_of s).imports ≤ i → out ≡ start ++ vector_text import_text (placed_of s).imports
  imports_done i f site out h ge =
      let e : h.is ≡ [] = sym h.left.here ∙ drop_all i (module_of s).imports ge in
      let l : Left i f site out h.q [] = subst (λ z. Left i f site out h.q z) e h.left in
      sym (append-nil out) ∙ l.texts
