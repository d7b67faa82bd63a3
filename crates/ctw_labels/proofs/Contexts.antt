-- What a placed body may name is what the sited one does, under the labels.
use Rattle.std.proofs.Common.{◌≡◌, ℕ, ◌+◌, List, [], ◌∷◌, ◌++◌, length, Option, Some, None, refl, sym, ◌∙◌, ap, arith}
use Rattle.std.specs.Prelude.{slice_get, map, option_map, unwrap_or, is_some}
use Rattle.std.specs.List.{AllByRecursion}
use Rattle.std.proofs.lemmas.List.{map-append, length-append}
use Rattle.ctw_ops.specs.declared.types.Label.{Label}
use Rattle.ctw_ops.specs.declared.types.Label.TheVariants.{Public, Secret}
use Rattle.ctw_ops.specs.declared.types.Limits.{Limits}
use Rattle.ctw_ops.specs.declared.types.Trust.TheVariants.{Untrusted}
use Rattle.ctw_ops.specs.Types.{FunctionType, VariableType, MemoryType}
use Rattle.ctw_ops.specs.Typing.{optional}
use Rattle.ctw_ops.specs.Tree.{TypeEntry, Extern, ImportedFunction, ImportedTable, ImportedMemory, ImportedGlobal, Import, Function, Global, Module, imported_functions, imported_globals, memory_among, table_among, function_entries, global_types, function_types, type_named, no_function_type, with_function, with_global, or_memory, or_table}
use Rattle.ctw_ops.specs.Bodies.{context_of}
use Rattle.ctw_stack.specs.Tags.{type_to}
use Rattle.ctw_ops.specs.TagMaps.{function_type_to, variable_type_to}
use Rattle.ctw_labels.specs.Names.{Tag, At, SiteName, Param, Result}
use Rattle.ctw_labels.specs.Points.{Points, trust_at}
use Rattle.ctw_labels.specs.Sited.{labelled}
use Rattle.ctw_labels.specs.Numbering.{type_from, sites_for, site_if, type_sites}
use Rattle.ctw_labels.specs.SitedModule.{site_count, types_from, function_sites, globals_from, first_global, first_defined_global, memory_site, sited_globals, SitedBody, site_context, body_from, bodies_from, first_defined}
use Rattle.ctw_labels.specs.Placed.{TypeUse, use_of, with_trust, function_uses, placed_extern, next_number, next_function, next_global, placed_imports, placed_function, placed_memory, placed_globals, placed_module}

cong_cons : {A : Type 0} {x y : A} {xs ys : List A} → x ≡ y → xs ≡ ys → x ∷ xs ≡ y ∷ ys
cong_cons p q = λ i. p i ∷ q i

pub cong_append : {A : Type 0} {xs ys zs ws : List A} → xs ≡ ys → zs ≡ ws → xs ++ zs ≡ ys ++ ws
cong_append p q = λ i. p i ++ q i

-- ---- how many sites names take

pub names_length : {A : Type 0} (name : ℕ → SiteName) (i : ℕ) (xs : List A) → length (sites_for name i xs) ≡ length xs
names_length name i [] = refl
names_length name i (x ∷ xs) = let h = names_length name (i + 1) xs in omega (arith, h)

if_length : {A : Type 0} (name : SiteName) (t : Option A) → length (site_if name t) ≡ length (optional t)
if_length name None = refl
if_length name (Some t) = refl

pub type_length : {A : Type 0} (param : ℕ → SiteName) (result : SiteName) (g : FunctionType A) → length (type_sites param result g) ≡ site_count g
type_length param result g = length-append (sites_for param 0 g.params) (site_if result g.result) ∙ (λ i. names_length param 0 g.params i + if_length result g.result i)

function_length : (m : Module Label) (k y : ℕ) (ys : List ℕ) → length (function_sites m k (y ∷ ys)) ≡ site_count (type_named m y) + length (function_sites m (k + 1) ys)
function_length m k y ys = length-append (type_sites (Param k) (Result k) (type_named m y)) (function_sites m (k + 1) ys) ∙ ap (λ z. z + length (function_sites m (k + 1) ys)) (type_length (Param k) (Result k) (type_named m y))

pub uses_append : (m : Module Label) (p : Points) (k q : ℕ) (xs ys : List ℕ) → function_uses m p k q (xs ++ ys) ≡ function_uses m p k q xs ++ function_uses m p (k + length xs) (q + length (function_sites m k xs)) ys
uses_append m p k q [] ys = let e : q ≡ q + 0 = omega arith in let f : k ≡ k + 0 = omega arith in λ i. function_uses m p (f i) (e i) ys
uses_append m p k q (x ∷ xs) ys =
    let h = function_length m k x xs in
    let e : (q + site_count (type_named m x)) + length (function_sites m (k + 1) xs) ≡ q + length (function_sites m k (x ∷ xs)) = omega (arith, h) in
    let f : (k + 1) + length xs ≡ k + length (x ∷ xs) = omega arith in
    ap (λ z. use_of x (with_trust (trust_at p k) (type_from q (type_named m x))) ∷ z) (uses_append m p (k + 1) (q + site_count (type_named m x)) xs ys ∙ (λ i. function_uses m p (k + 1) (q + site_count (type_named m x)) xs ++ function_uses m p (f i) (e i) ys))

pub uses_at_begin : (m : Module Label) (p : Points) → function_uses m p 0 0 (function_entries m) ≡ function_uses m p 0 0 (imported_functions m.imports) ++ function_uses m p (length (imported_functions m.imports)) (first_defined m) (map (λ f. f.type) m.functions)
uses_at_begin m p =
    let e : 0 + length (function_sites m 0 (imported_functions m.imports)) ≡ length (function_sites m 0 (imported_functions m.imports)) = omega arith in
    let f : 0 + length (imported_functions m.imports) ≡ length (imported_functions m.imports) = omega arith in
    uses_append m p 0 0 (imported_functions m.imports) (map (λ f. f.type) m.functions) ∙ (λ i. function_uses m p 0 0 (imported_functions m.imports) ++ function_uses m p (f i) (e i) (map (λ f. f.type) m.functions))

-- without their trust, the types that functions use are those under sites
pub types_of_uses : (m : Module Label) (p : Points) (k q : ℕ) (ys : List ℕ) → types_from m q ys ≡ map (λ u. with_trust Untrusted u.type) (function_uses m p k q ys)
types_of_uses m p k q [] = refl
types_of_uses m p k q (y ∷ ys) = ap (λ z. type_from q (type_named m y) ∷ z) (types_of_uses m p (k + 1) (q + site_count (type_named m y)) ys)

pub globals_append : (n : ℕ) (xs ys : List (VariableType Label)) → globals_from n (xs ++ ys) ≡ globals_from n xs ++ globals_from (n + length xs) ys
globals_append n [] ys = let e : n ≡ n + 0 = omega arith in ap (λ z. globals_from z ys) e
globals_append n (x ∷ xs) ys =
    let e : (n + 1) + length xs ≡ n + length (x ∷ xs) = omega arith in
    cong_cons refl (globals_append (n + 1) xs ys ∙ ap (λ z. globals_from (n + 1) xs ++ globals_from z ys) e)

module _ (L : Tag → Label) (T : List (TypeEntry Label)) (name : ℕ → FunctionType Label → ℕ) where
  -- each use's type stands among the entries under the index that it is given
  abbrev pub IsNamedUse : TypeUse Tag → Type 0
  IsNamedUse u = slice_get (map (λ e. e.type) T) (name u.base (function_type_to L u.type)) ≡ Some (function_type_to L u.type)

  abbrev pub index_of : TypeUse Tag → ℕ
  index_of u = name u.base (function_type_to L u.type)

  module _ (m : Module Label) (p : Points) where
    abbrev pub M : Module Label
    M = placed_module L name m p T

    -- ---- functions

    imported_placed : (k q n : ℕ) (is : List (Import Label)) → imported_functions (placed_imports L name m p k q n is) ≡ map index_of (function_uses m p k q (imported_functions is))
    imported_placed j q n [] = refl
    imported_placed j q n (i ∷ is) = by_kind i.kind (λ f r s. imported_placed f r s is)
      where
        by_kind : (k : Extern Label) → ((f r s : ℕ) → imported_functions (placed_imports L name m p f r s is) ≡ map index_of (function_uses m p f r (imported_functions is))) →
            with_function (placed_extern L name m p j q n k) (imported_functions (placed_imports L name m p (next_number L name m p k j) (next_function L name m p k q) (next_global L name m p k n) is)) ≡ map index_of (function_uses m p j q (with_function k (imported_functions is)))
        by_kind (ImportedFunction y) h = cong_cons refl (h _ _ _)
        by_kind (ImportedTable limits) h = h _ _ _
        by_kind (ImportedMemory t) h = h _ _ _
        by_kind (ImportedGlobal g) h = h _ _ _

    defined_placed : (q k n : ℕ) (fs : List (Function Label)) → map (λ f. f.type) (map (placed_function L name m p) (bodies_from m p q k n fs)) ≡ map index_of (function_uses m p k q (map (λ f. f.type) fs))
    defined_placed q k n [] = refl
    defined_placed q k n (f ∷ fs) = cong_cons refl (defined_placed (q + site_count (type_named m f.type)) (k + 1) (n + length (body_from m p q k n f).sites) fs)

    pub entries_placed : function_entries M ≡ map index_of (function_uses m p 0 0 (function_entries m))
    entries_placed =
        cong_append (imported_placed 0 0 (first_global m) m.imports) (defined_placed (first_defined m) (length (imported_functions m.imports)) _ m.functions)
        ∙ sym (map-append index_of (function_uses m p 0 0 (imported_functions m.imports)) (function_uses m p (length (imported_functions m.imports)) (first_defined m) (map (λ f. f.type) m.functions)))
        ∙ ap (map index_of) (sym (uses_at_begin m p))

    pub type_found : (u : TypeUse Tag) → IsNamedUse u → type_named M (index_of u) ≡ function_type_to L u.type
    type_found u h = ap (λ z. unwrap_or z no_function_type) h

    types_found : (us : List (TypeUse Tag)) → AllByRecursion IsNamedUse us → map (type_named M) (map index_of us) ≡ map (function_type_to L) (map (λ u. u.type) us)
    types_found [] h = refl
    types_found (u ∷ us) h = cong_cons (type_found u h.0) (types_found us h.1)

    -- the types of functions under the labels, with their trust
    abbrev pub trusted_types : List (FunctionType Label)
    trusted_types = map (function_type_to L) (map (λ u. u.type) (function_uses m p 0 0 (function_entries m)))

    pub functions_placed : AllByRecursion IsNamedUse (function_uses m p 0 0 (function_entries m)) → map (type_named M) (function_entries M) ≡ trusted_types
    functions_placed h = ap (map (type_named M)) entries_placed ∙ types_found (function_uses m p 0 0 (function_entries m)) h

    -- ---- globals

    imported_globals_placed : (k q n : ℕ) (is : List (Import Label)) → imported_globals (placed_imports L name m p k q n is) ≡ map (variable_type_to L) (globals_from n (imported_globals is))
    imported_globals_placed j q n [] = refl
    imported_globals_placed j q n (i ∷ is) = by_kind i.kind (λ f r s. imported_globals_placed f r s is)
      where
        by_kind : (k : Extern Label) → ((f r s : ℕ) → imported_globals (placed_imports L name m p f r s is) ≡ map (variable_type_to L) (globals_from s (imported_globals is))) →
            with_global (placed_extern L name m p j q n k) (imported_globals (placed_imports L name m p (next_number L name m p k j) (next_function L name m p k q) (next_global L name m p k n) is)) ≡ map (variable_type_to L) (globals_from n (with_global k (imported_globals is)))
        by_kind (ImportedFunction y) h = h _ _ _
        by_kind (ImportedTable limits) h = h _ _ _
        by_kind (ImportedMemory t) h = h _ _ _
        by_kind (ImportedGlobal g) h = cong_cons refl (h _ _ _)

    pub imports_globals_placed : imported_globals M.imports ≡ map (variable_type_to L) (globals_from (first_global m) (imported_globals m.imports))
    imports_globals_placed = imported_globals_placed 0 0 (first_global m) m.imports

    defined_globals_placed : (n : ℕ) (gs : List (Global Label)) → map (λ g. g.type) (placed_globals L n gs) ≡ map (variable_type_to L) (globals_from n (map (λ g. g.type) gs))
    defined_globals_placed n [] = refl
    defined_globals_placed n (g ∷ gs) = cong_cons refl (defined_globals_placed (n + 1) gs)

    pub globals_placed : global_types M ≡ map (variable_type_to L) (sited_globals m)
    globals_placed =
        cong_append imports_globals_placed (defined_globals_placed (first_defined_global m) m.globals)
        ∙ sym (map-append (variable_type_to L) (globals_from (first_global m) (imported_globals m.imports)) (globals_from (first_defined_global m) (map (λ g. g.type) m.globals)))
        ∙ ap (map (variable_type_to L)) (sym (globals_append (first_global m) (imported_globals m.imports) (map (λ g. g.type) m.globals)))

    -- ---- the memory and the table

    memory_placed_from : (k q n : ℕ) (is : List (Import Label)) (d : Option (MemoryType Label)) → memory_among (placed_imports L name m p k q n is) (option_map (placed_memory L m) d) ≡ option_map (placed_memory L m) (memory_among is d)
    memory_placed_from j q n [] d = refl
    memory_placed_from j q n (i ∷ is) d = by_kind i.kind (λ f r s. memory_placed_from f r s is d)
      where
        by_kind : (k : Extern Label) → ((f r s : ℕ) → memory_among (placed_imports L name m p f r s is) (option_map (placed_memory L m) d) ≡ option_map (placed_memory L m) (memory_among is d)) →
            or_memory (placed_extern L name m p j q n k) (memory_among (placed_imports L name m p (next_number L name m p k j) (next_function L name m p k q) (next_global L name m p k n) is) (option_map (placed_memory L m) d)) ≡ option_map (placed_memory L m) (or_memory k (memory_among is d))
        by_kind (ImportedFunction y) h = h _ _ _
        by_kind (ImportedTable limits) h = h _ _ _
        by_kind (ImportedMemory t) h = refl
        by_kind (ImportedGlobal g) h = h _ _ _

    pub memory_placed : memory_among M.imports M.memory ≡ option_map (placed_memory L m) (memory_among m.imports m.memory)
    memory_placed = memory_placed_from 0 0 (first_global m) m.imports m.memory

    table_placed_from : (k q n : ℕ) (is : List (Import Label)) (d : Option Limits) → table_among (placed_imports L name m p k q n is) d ≡ table_among is d
    table_placed_from j q n [] d = refl
    table_placed_from j q n (i ∷ is) d = by_kind i.kind (λ f r s. table_placed_from f r s is d)
      where
        by_kind : (k : Extern Label) → ((f r s : ℕ) → table_among (placed_imports L name m p f r s is) d ≡ table_among is d) →
            or_table (placed_extern L name m p j q n k) (table_among (placed_imports L name m p (next_number L name m p k j) (next_function L name m p k q) (next_global L name m p k n) is) d) ≡ or_table k (table_among is d)
        by_kind (ImportedFunction y) h = h _ _ _
        by_kind (ImportedTable limits) h = refl
        by_kind (ImportedMemory t) h = h _ _ _
        by_kind (ImportedGlobal g) h = h _ _ _

    pub table_placed : table_among M.imports M.table ≡ table_among m.imports m.table
    table_placed = table_placed_from 0 0 (first_global m) m.imports m.table

    memory_tag_placed : (r : Option (MemoryType Label)) → option_map (λ t. t.tag) (option_map (placed_memory L m) r) ≡ option_map L (option_map (λ t. At (memory_site m)) r)
    memory_tag_placed None = refl
    memory_tag_placed (Some t) = refl

    -- ---- a body

    pub context_placed : AllByRecursion IsNamedUse (function_uses m p 0 0 (function_entries m)) → (b : SitedBody) → IsNamedUse (use_of b.entry (with_trust (trust_at p b.func) b.type)) →
        context_of M (placed_function L name m p b) ≡ record (labelled L (function_types M) (site_context m (trust_at p b.func) b.type b.locals)) { functions = trusted_types }
    context_placed n b h =
        let u : TypeUse Tag = use_of b.entry (with_trust (trust_at p b.func) b.type) in
        let e : type_named M (index_of u) ≡ function_type_to L u.type = type_found u h in
        let ls : (type_named M (index_of u)).params ++ map (type_to L) b.locals ≡ map (type_to L) (b.type.params ++ b.locals) = ap (λ g. g.params ++ map (type_to L) b.locals) e ∙ sym (map-append (type_to L) b.type.params b.locals) in
        λ i. record {
          types = function_types M;
          functions = functions_placed n i;
          globals = globals_placed i;
          locals = ls i;
          memory = (ap (option_map (λ t. t.tag)) memory_placed ∙ memory_tag_placed (memory_among m.imports m.memory)) i;
          table = is_some (table_placed i);
          trust = (e i).trust;
          result = (e i).result;
          labels = (e i).result ∷ [];
          public = Public;
          secret = Secret;
          profile = m.profile;
        }
