-- The sites of a plain module in their order, and its code and what the code names under them.
use Rattle.std.specs.Prelude.{ℕ, ◌+◌, List, [], ◌∷◌, ◌++◌, length, Option, option_map, is_some}
use Rattle.ctw_ops.specs.declared.types.Label.{Label}
use Rattle.ctw_ops.specs.declared.types.Trust.{Trust}
use Rattle.ctw_ops.specs.Types.{ValueType, FunctionType, VariableType, value_type}
use Rattle.ctw_ops.specs.Typing.{Context, optional}
use Rattle.ctw_ops.specs.Tree.{Module, Function, imported_functions, imported_globals, memory_among, table_among, function_entries, global_types, function_types, type_named}
use Rattle.ctw_stack.specs.Operands.{fresh}
use Rattle.ctw_labels.specs.Names.{Tag, At, Fixed, Site, Param, Result, GlobalOf, MemoryOf, Local}
use Rattle.ctw_labels.specs.Points.{Points, no_points, trust_at, is_released}
use Rattle.ctw_labels.specs.Sited.{Sited}
use Rattle.ctw_labels.specs.Numbering.{params_from, type_from, sites_for, site_if, type_sites, BodyPlace, Numbered, number}

-- ---- functions, globals and the memory

abbrev pub site_count : {S : Type 0} → FunctionType S → ℕ
site_count g = length g.params + length (optional g.result)

-- the types of functions with these entries, whose sites begin at `n`
abbrev pub types_from : Module Label → ℕ → List ℕ → List (FunctionType Tag)
types_from m n [] = []
types_from m n (y ∷ ys) = type_from n (type_named m y) ∷ types_from m (n + site_count (type_named m y)) ys

-- the sites of functions from number `k` on
abbrev pub function_sites : Module Label → ℕ → List ℕ → List Site
function_sites m k [] = []
function_sites m k (y ∷ ys) = type_sites (Param k) (Result k) (type_named m y) ++ function_sites m (k + 1) ys

abbrev pub globals_from : ℕ → List (VariableType Label) → List (VariableType Tag)
globals_from n [] = []
globals_from n (g ∷ gs) =
    record { mutable = g.mutable; value = value_type g.value.width (At n) } ∷ globals_from (n + 1) gs

-- the number of the first global's site, and of the memory's
abbrev pub first_global : Module Label → ℕ
first_global m = length (function_sites m 0 (function_entries m))

abbrev pub first_defined_global : Module Label → ℕ
first_defined_global m = first_global m + length (imported_globals m.imports)

abbrev pub memory_site : Module Label → ℕ
memory_site m = first_global m + length (global_types m)

abbrev pub sited_functions : Module Label → List (FunctionType Tag)
sited_functions m = types_from m 0 (function_entries m)

abbrev pub sited_globals : Module Label → List (VariableType Tag)
sited_globals m = globals_from (first_global m) (global_types m)

abbrev pub memory_tag : Module Label → Option Tag
memory_tag m = option_map (λ t. At (memory_site m)) (memory_among m.imports m.memory)

-- the sites that stand before those of bodies
abbrev pub head_sites : Module Label → List Site
head_sites m =
    function_sites m 0 (function_entries m)
    ++ (sites_for GlobalOf 0 (global_types m) ++ site_if MemoryOf (memory_among m.imports m.memory))

-- ---- bodies

-- a defined function under sites: its number, its type entry, its type and its declared locals, its code,
-- and the sites from its locals on
pub record SitedBody : Type 0 where
  pub func : ℕ
  pub entry : ℕ
  pub type : FunctionType Tag
  pub locals : List (ValueType Tag)
  pub code : Sited Tag
  pub sites : List Site

-- what a body of a function of this trust may name; an indirect call brings its own type,
-- and functions have no trust here
abbrev pub site_context : Module Label → Trust → FunctionType Tag → List (ValueType Tag) → Context Tag
site_context m trust g locals = record {
  types = [];
  functions = sited_functions m;
  globals = sited_globals m;
  locals = g.params ++ locals;
  memory = memory_tag m;
  table = is_some (table_among m.imports m.table);
  trust = trust;
  result = g.result;
  labels = g.result ∷ [];
  public = Fixed;
  secret = Fixed;
  profile = m.profile;
}

abbrev pub place_of : Module Label → Points → ℕ → BodyPlace Label
place_of m p k = record { func = k; types = function_types m; free = is_released p k }

abbrev pub numbered_body : Module Label → Points → FunctionType Tag → ℕ → ℕ → Function Label → Numbered
numbered_body m p g k n f =
    number (place_of m p k) (site_context m (trust_at p k) g (params_from n f.locals)) f.body
    (n + length f.locals) 0 fresh

-- function k, whose parameters' sites begin at q, and its locals' at n
abbrev pub body_from : Module Label → Points → ℕ → ℕ → ℕ → Function Label → SitedBody
body_from m p q k n f = record {
  func = k;
  entry = f.type;
  type = type_from q (type_named m f.type);
  locals = params_from n f.locals;
  code = (numbered_body m p (type_from q (type_named m f.type)) k n f).code;
  sites =
      sites_for (Local k) (length (type_named m f.type).params) f.locals
      ++ (numbered_body m p (type_from q (type_named m f.type)) k n f).sites;
}

abbrev pub bodies_from : Module Label → Points → ℕ → ℕ → ℕ → List (Function Label) → List SitedBody
bodies_from m p q k n [] = []
bodies_from m p q k n (f ∷ fs) =
    body_from m p q k n f
    ∷ bodies_from m p (q + site_count (type_named m f.type)) (k + 1) (n + length (body_from m p q k n f).sites) fs

-- the first site of the defined functions' parameters
abbrev pub first_defined : Module Label → ℕ
first_defined m = length (function_sites m 0 (imported_functions m.imports))

abbrev pub bodies : Module Label → Points → List SitedBody
bodies m p =
    bodies_from m p (first_defined m) (length (imported_functions m.imports)) (length (head_sites m)) m.functions

abbrev pub body_sites : List SitedBody → List Site
body_sites [] = []
body_sites (b ∷ bs) = b.sites ++ body_sites bs

-- the sites of a plain module: the number of a site is its place in the list
abbrev pub sites : Module Label → List Site
sites m = head_sites m ++ body_sites (bodies m no_points)
