-- The items of the placed module, one after another.
use Rattle.std.proofs.Common.{◌≡◌, ◌≤◌, ◌<◌, ℕ, zero, suc, ◌+◌, List, [], ◌∷◌, ◌++◌, length, map, Some, None, get_or, slice_get, option_map, refl, sym, ◌∙◌, ap, arith, append_assoc, length-append}
use Rattle.std.proofs.lemmas.List.{length-map}
use Rattle.std.proofs.lemmas.Option.{slice_get-map, get_or_from_slice_get}
use Rattle.ctw_ops.specs.declared.types.Label.{Label}
use Rattle.ctw_ops.specs.declared.types.Trust.TheVariants.{Untrusted}
use Rattle.ctw_ops.specs.Types.{FunctionType}
use Rattle.ctw_ops.specs.Plain.{IsPlainEntry, IsPlainModule}
use Rattle.ctw_ops.specs.Tree.{Module, TypeEntry, Function, Global, function_entries, imported_functions, type_named}
use Rattle.ctw_leb.specs.Spelling.{u32_text}
use Rattle.ctw_module.specs.Lookup.{imported_count}
use Rattle.ctw_labels.specs.declared.tag.Tag.{Tag}
use Rattle.ctw_labels.specs.declared.tag.Tag.TheVariants.{At}
use Rattle.ctw_labels.specs.declared.name.SiteName.TheVariants.{Param, Result}
use Rattle.ctw_labels.specs.Numbering.{type_sites}
use Rattle.ctw_labels.specs.Points.{Points}
use Rattle.ctw_labels.specs.Placed.{TypeUse, placed_function, placed_globals, variant_entry, variant_name}
use Rattle.ctw_labels.specs.SitedModule.{site_count, function_sites, head_sites, first_defined, body_from, bodies_from, bodies}
use Rattle.ctw_labels.proofs.Contexts.{type_length}
use Rattle.ctw_write.specs.Canon.{all_texts, vector_text, type_entry_text, section_text, items_text}
use Rattle.ctw_write.proofs.Listed.{Listed, item_there, items_some, listed_end, one_of_all}
use Rattle.ctw_write.proofs.Pieces.{all_texts-append}
use Rattle.ctw_write.proofs.Shown.{entry_is}
use Rattle.ctw_place.specs.declared.setting.Setting.{Setting}
use Rattle.ctw_place.specs.Bodies.{placed_of}
use Rattle.ctw_place.specs.Items.{global_under}
use Rattle.ctw_place.specs.Settings.{module_of, labels_of, points_of, names_from}
use Rattle.ctw_place.specs.Variants.{use_text}

-- all of them are written behind their count
pub vector_end : {A : Type 0} (w : A → List ℕ) (l : List A) (i n : ℕ) (out start written : List ℕ) → n ≡ length l → n ≤ i → start ≡ out ++ u32_text n → Listed w l i start written → written ≡ out ++ vector_text w l
vector_end w l i n out start written e le s h =
    listed_end w l i start written (omega (arith, e, le)) h ∙ ap (λ (t : List ℕ). t ++ all_texts w l) s ∙ append_assoc out (u32_text n) (all_texts w l)
    ∙ ap (λ (k : ℕ). out ++ (u32_text k ++ all_texts w l)) e

-- the section of some items is written
pub section_whole : {A : Type 0} (id : ℕ) (w : A → List ℕ) (items : List A) (seen made start out new : List ℕ) → seen ≡ made → made ≡ start ++ vector_text w items → start ≡ [] → 0 < length items → new ≡ out ++ section_text id seen → new ≡ out ++ items_text id w items
section_whole id w items seen made start out new e f g lt h =
    h ∙ ap (λ (l : List ℕ). out ++ section_text id l) (e ∙ f ∙ ap (λ (l : List ℕ). l ++ vector_text w items) g)
    ∙ ap (λ (l : List ℕ). out ++ l) (sym (items_some id w items lt))

-- ---- type entries

module _ (m : Module Label) (pl : IsPlainModule m) (i : ℕ) (lt : i < length m.types) (ty : FunctionType Label) (e : ty ≡ type_named m i) where
  pub entry_there : slice_get m.types i ≡ Some (record { base = None; type = ty })
  entry_there =
      let t = item_there m.types i lt in
      let p : IsPlainEntry t.0 = one_of_all IsPlainEntry m.types i t.0 pl.types t.1 in
      entry_is m i None ty (slice_get-map (λ (d : TypeEntry Label). d.base) m.types i ∙ ap (option_map (λ d. d.base)) t.1 ∙ ap Some p.base) e

  pub entry_untrusted : ty.trust ≡ Untrusted
  entry_untrusted =
      let p : IsPlainEntry (record { base = None; type = ty }) = one_of_all IsPlainEntry m.types i (record { base = None; type = ty }) pl.types entry_there in
      p.trust

variant_texts : (vs : List (TypeUse Label)) → all_texts use_text vs ≡ all_texts type_entry_text (map variant_entry vs)
variant_texts [] = refl
variant_texts (v ∷ vs) = ap (λ (l : List ℕ). use_text v ++ l) (variant_texts vs)

-- the entries and behind them the variants
pub entries_end : (ts : List (TypeEntry Label)) (vs : List (TypeUse Label)) (i n : ℕ) (out start written texts : List ℕ) → length ts ≤ i → n ≡ length ts + length vs → start ≡ out ++ u32_text n → Listed type_entry_text ts i start written → texts ≡ all_texts use_text vs
    → written ++ texts ≡ out ++ vector_text type_entry_text (ts ++ map variant_entry vs)
entries_end ts vs i n out start written texts le en es h et =
    let A : List ℕ = all_texts type_entry_text ts in
    let a = length-append ts (map variant_entry vs) in
    let b = length-map vs variant_entry in
    let size : n ≡ length (ts ++ map variant_entry vs) = omega (arith, en, a, b) in
    let w : written ≡ (out ++ u32_text n) ++ all_texts type_entry_text ts = listed_end type_entry_text ts i start written le h ∙ ap (λ (t : List ℕ). t ++ A) es in
    (λ j. w j ++ (et ∙ variant_texts vs) j)
    ∙ append_assoc (out ++ u32_text n) A (all_texts type_entry_text (map variant_entry vs))
    ∙ ap (λ (t : List ℕ). (out ++ u32_text n) ++ t) (sym (all_texts-append type_entry_text ts (map variant_entry vs)))
    ∙ append_assoc out (u32_text n) (all_texts type_entry_text (ts ++ map variant_entry vs))
    ∙ ap (λ (k : ℕ). out ++ (u32_text k ++ all_texts type_entry_text (ts ++ map variant_entry vs))) size

-- ---- globals

pub globals_length : (L : Tag → Label) (n : ℕ) (gs : List (Global Label)) → length (placed_globals L n gs) ≡ length gs
globals_length L n [] = refl
globals_length L n (g ∷ gs) = ap suc (globals_length L (n + 1) gs)

pub global_placed : (L : Tag → Label) (n : ℕ) (gs : List (Global Label)) (i : ℕ) (g : Global Label) → slice_get gs i ≡ Some g → slice_get (placed_globals L n gs) i ≡ Some (global_under (L (At (n + i))) g)
global_placed L n [] i g e = absurd cc
global_placed L n (x ∷ gs) zero g e =
    let p : x ≡ g = cc in
    let z : n ≡ n + 0 = omega arith in
    λ j. Some (global_under (L (At (z j))) (p j))
global_placed L n (x ∷ gs) (suc i) g e =
    let z : n + 1 + i ≡ n + suc i = omega arith in
    global_placed L (n + 1) gs i g e ∙ ap (λ k. Some (global_under (L (At k)) g)) z

-- ---- defined functions' types

module _ (L : Tag → Label) (name : ℕ → FunctionType Label → ℕ) (m : Module Label) (p : Points) where
  names_right : (k q : ℕ) (xs ys : List ℕ) (i : ℕ) → slice_get (names_from L name m p k q (xs ++ ys)) (length xs + i) ≡ slice_get (names_from L name m p (k + length xs) (q + length (function_sites m k xs)) ys) i
  names_right k q [] ys i =
      let a : k ≡ k + 0 = omega arith in
      let b : q ≡ q + 0 = omega arith in
      let c : 0 + i ≡ i = omega arith in
      λ j. slice_get (names_from L name m p (a j) (b j) ys) (c j)
  names_right k q (x ∷ xs) ys i =
      let l = length-append (type_sites (Param k) (Result k) (type_named m x)) (function_sites m (k + 1) xs) in
      let t = type_length (Param k) (Result k) (type_named m x) in
      let a : (k + 1) + length xs ≡ k + length (x ∷ xs) = omega arith in
      let b : (q + site_count (type_named m x)) + length (function_sites m (k + 1) xs) ≡ q + length (function_sites m k (x ∷ xs)) = omega (arith, l, t) in
      let c : length (x ∷ xs) + i ≡ suc (length xs + i) = omega arith in
      ap (slice_get (names_from L name m p k q (x ∷ xs ++ ys))) c
      ∙ names_right (k + 1) (q + site_count (type_named m x)) xs ys i
      ∙ (λ j. slice_get (names_from L name m p (a j) (b j) ys) i)

  names_at : (k q n : ℕ) (fs : List (Function Label)) (i : ℕ) (F : Function Label) → slice_get (map (placed_function L name m p) (bodies_from m p q k n fs)) i ≡ Some F → slice_get (names_from L name m p k q (map (λ g. g.type) fs)) i ≡ Some F.type
  names_at k q n [] i F e = absurd cc
  names_at k q n (f ∷ fs) zero F e = ap (option_map (λ g. g.type)) e
  names_at k q n (f ∷ fs) (suc i) F e = names_at (k + 1) (q + site_count (type_named m f.type)) (n + length (body_from m p q k n f).sites) fs i F e

pub defined_at : (s : Setting) (types : List ℕ) (first i : ℕ) (F : Function Label) → types ≡ names_from (labels_of s) (variant_name (labels_of s) (module_of s) (points_of s)) (module_of s) (points_of s) 0 0 (function_entries (module_of s))
    → first ≡ imported_count (module_of s) → slice_get (placed_of s).functions i ≡ Some F → get_or types (first + i) 0 ≡ F.type
defined_at s types first i F et ef e =
    let own : ℕ → FunctionType Label → ℕ = variant_name (labels_of s) (module_of s) (points_of s) in
    let a = names_right (labels_of s) (variant_name (labels_of s) (module_of s) (points_of s)) (module_of s) (points_of s) 0 0 (imported_functions (module_of s).imports) (map (λ g. g.type) (module_of s).functions) i in
    let b = names_at (labels_of s) (variant_name (labels_of s) (module_of s) (points_of s)) (module_of s) (points_of s) (length (imported_functions (module_of s).imports)) (first_defined (module_of s)) (length (head_sites (module_of s))) (module_of s).functions i F e in
    let k : 0 + length (imported_functions (module_of s).imports) ≡ length (imported_functions (module_of s).imports) = omega arith in
    let q : 0 + first_defined (module_of s) ≡ first_defined (module_of s) = omega arith in
    get_or_from_slice_get types (first + i) F.type 0
    ((λ j. slice_get (et j) (ef j + i)) ∙ a
    ∙ (λ j. slice_get (names_from (labels_of s) (variant_name (labels_of s) (module_of s) (points_of s)) (module_of s) (points_of s) (k j) (q j) (map (λ g. g.type) (module_of s).functions)) i) ∙ b)

pub functions_length : (s : Setting) → length (placed_of s).functions ≡ length (module_of s).functions
functions_length s = length-map (bodies (module_of s) (points_of s)) (placed_function (labels_of s) (variant_name (labels_of s) (module_of s) (points_of s)) (module_of s) (points_of s)) ∙ all (first_defined (module_of s)) (length (imported_functions (module_of s).imports)) (length (head_sites (module_of s))) (module_of s).functions
  where
    all : (q k n : ℕ) (fs : List (Function Label)) → length (bodies_from (module_of s) (points_of s) q k n fs) ≡ length fs
    all q k n [] = refl
    all q k n (g ∷ fs) = ap suc (all (q + site_count (type_named (module_of s) g.type)) (k + 1) (n + length (body_from (module_of s) (points_of s) q k n g).sites) fs)
