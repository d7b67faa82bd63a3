-- The placed module: a plain module as a CT module, with the labels that a labelling gives its sites.
use Rattle.std.specs.Prelude.{◌≡◌, ℕ, suc, ◌+◌, Bool, true, false, ◌&&◌, ◌||◌, ◌==◌, if◌then◌else◌, List, [], ◌∷◌, ◌++◌, length, map, Some, option_map}
use Rattle.std.specs.List.{AllByRecursion}
use Rattle.ctw_ops.specs.declared.types.Label.{Label}
use Rattle.ctw_ops.specs.declared.types.Trust.{Trust}
use Rattle.ctw_ops.specs.declared.types.Trust.TheVariants.{Untrusted, Trusted}
use Rattle.ctw_ops.specs.declared.types.Label.TheVariants.{Public, Secret}
use Rattle.ctw_ops.specs.Equal.{same_function_type}
use Rattle.ctw_ops.specs.Types.{ValueType, FunctionType, VariableType, MemoryType, value_type}
use Rattle.ctw_ops.specs.Tree.{TypeEntry, Extern, ImportedFunction, ImportedTable, ImportedMemory, ImportedGlobal, Import, Function, Constant, Number, ValueOf, Global, Module, function_entries, type_named}
use Rattle.ctw_ops.specs.Typing.{optional}
use Rattle.ctw_stack.specs.Tags.{type_to}
use Rattle.ctw_ops.specs.TagMaps.{function_type_to}
use Rattle.ctw_labels.specs.Names.{Tag, At}
use Rattle.ctw_labels.specs.Points.{Points, trust_at}
use Rattle.ctw_labels.specs.Sited.{Sited, Done, Does, Uses, Blocks, Loops, Ifs, IfElses, placed_code, IsOrderlyCode}
use Rattle.ctw_labels.specs.Numbering.{type_from}
use Rattle.ctw_labels.specs.ModuleLinks.{users, erase_alike}
use Rattle.ctw_labels.specs.SitedModule.{SitedBody, bodies, site_count, first_global, first_defined_global, memory_site}

-- ---- variants

-- a use of a type: the type's index, and the type under sites or labels
pub record TypeUse (S : Type 0) : Type 0 where
  pub base : ℕ
  pub type : FunctionType S

abbrev pub use_of : {S : Type 0} → ℕ → FunctionType S → TypeUse S
use_of y g = record { base = y; type = g }

abbrev pub code_uses : {S : Type 0} → Sited S → List (TypeUse S)
code_uses Done = []
code_uses (Does i l rest) = code_uses rest
code_uses (Uses y g l rest) = use_of y g ∷ code_uses rest
code_uses (Blocks t l body rest) = code_uses body ++ code_uses rest
code_uses (Loops t l body rest) = code_uses body ++ code_uses rest
code_uses (Ifs t l arm rest) = code_uses arm ++ code_uses rest
code_uses (IfElses t l arm other rest) = code_uses arm ++ (code_uses other ++ code_uses rest)

abbrev pub call_uses : List SitedBody → List (TypeUse Tag)
call_uses [] = []
call_uses (b ∷ bs) = code_uses b.code ++ call_uses bs

-- the type with a trust
abbrev pub with_trust : {S : Type 0} → Trust → FunctionType S → FunctionType S
with_trust t g = record { trust = t; params = g.params; result = g.result }

-- functions from number `k` on, whose sites begin at `n`
abbrev pub function_uses : Module Label → Points → ℕ → ℕ → List ℕ → List (TypeUse Tag)
function_uses m p k n [] = []
function_uses m p k n (y ∷ ys) =
    use_of y (with_trust (trust_at p k) (type_from n (type_named m y)))
    ∷ function_uses m p (k + 1) (n + site_count (type_named m y)) ys

-- functions by index first, then indirect calls in order
abbrev pub type_uses : Module Label → Points → List (TypeUse Tag)
type_uses m p = function_uses m p 0 0 (function_entries m) ++ call_uses (bodies m p)

abbrev pub is_public : Label → Bool
is_public Public = true
is_public Secret = false

abbrev pub are_public : List (ValueType Label) → Bool
are_public [] = true
are_public (t ∷ ts) = is_public t.tag && are_public ts

abbrev pub is_untrusted : Trust → Bool
is_untrusted Untrusted = true
is_untrusted Trusted = false

-- whether a type keeps its index: it is untrusted, and all its labels are public
abbrev pub is_all_public : FunctionType Label → Bool
is_all_public g = is_untrusted g.trust && (are_public g.params && are_public (optional g.result))

abbrev pub same_use : TypeUse Label → TypeUse Label → Bool
same_use u v = u.base == v.base && same_function_type u.type v.type

abbrev pub has_use : List (TypeUse Label) → TypeUse Label → Bool
has_use [] u = false
has_use (v ∷ vs) u = same_use v u || has_use vs u

-- the first place of a use
abbrev pub place_of_use : List (TypeUse Label) → TypeUse Label → ℕ
place_of_use [] u = 0
place_of_use (v ∷ vs) u = if same_use v u then 0 else suc (place_of_use vs u)

abbrev pub with_use : List (TypeUse Label) → TypeUse Label → List (TypeUse Label)
with_use vs u = if is_all_public u.type || has_use vs u then vs else vs ++ u ∷ []

-- the uses that are no plain type's, in the order of their first use
abbrev pub with_uses : List (TypeUse Label) → List (TypeUse Label) → List (TypeUse Label)
with_uses vs [] = vs
with_uses vs (u ∷ us) = with_uses (with_use vs u) us

abbrev pub variant_entry : TypeUse Label → TypeEntry Label
variant_entry u = record { base = Some u.base; type = u.type }

-- ---- the module

abbrev pub placed_constant : Label → Constant Label → Constant Label
placed_constant l (Number t bits) = Number (value_type t.width l) bits
placed_constant l (ValueOf k) = ValueOf k

module _ (L : Tag → Label) where
  abbrev pub use_to : TypeUse Tag → TypeUse Label
  use_to u = use_of u.base (function_type_to L u.type)

  abbrev pub variants : Module Label → Points → List (TypeUse Label)
  variants m p = with_uses [] (map use_to (type_uses m p))

  -- the index that a labelled type of the plain one `y` has
  abbrev pub variant_name : Module Label → Points → ℕ → FunctionType Label → ℕ
  variant_name m p y g = if is_all_public g then y else length m.types + place_of_use (variants m p) (use_of y g)

  abbrev pub placed_type : ℕ → ValueType Label → ValueType Label
  placed_type n t = value_type t.width (L (At n))

  abbrev pub placed_variable : ℕ → VariableType Label → VariableType Label
  placed_variable n g = record { mutable = g.mutable; value = placed_type n g.value }

  abbrev pub placed_memory : Module Label → MemoryType Label → MemoryType Label
  placed_memory m t = record { tag = L (At (memory_site m)); limits = t.limits }

  abbrev pub placed_global : ℕ → Global Label → Global Label
  placed_global n g = record { type = placed_variable n g.type; init = placed_constant (L (At n)) g.init }

  abbrev pub placed_globals : ℕ → List (Global Label) → List (Global Label)
  placed_globals n [] = []
  placed_globals n (g ∷ gs) = placed_global n g ∷ placed_globals (n + 1) gs

  module _ (name : ℕ → FunctionType Label → ℕ) (m : Module Label) (p : Points) where
    -- what is imported: the next function has the number k and its first site is q, and n is the next global's site
    abbrev pub placed_extern : ℕ → ℕ → ℕ → Extern Label → Extern Label
    placed_extern k q n (ImportedFunction y) =
        ImportedFunction (name y (function_type_to L (with_trust (trust_at p k) (type_from q (type_named m y)))))
    placed_extern k q n (ImportedTable limits) = ImportedTable limits
    placed_extern k q n (ImportedMemory t) = ImportedMemory (placed_memory m t)
    placed_extern k q n (ImportedGlobal g) = ImportedGlobal (placed_variable n g)

    abbrev pub next_number : Extern Label → ℕ → ℕ
    next_number (ImportedFunction y) k = k + 1
    next_number _ k = k

    abbrev pub next_function : Extern Label → ℕ → ℕ
    next_function (ImportedFunction y) q = q + site_count (type_named m y)
    next_function _ q = q

    abbrev pub next_global : Extern Label → ℕ → ℕ
    next_global (ImportedGlobal g) n = n + 1
    next_global _ n = n

    abbrev pub placed_imports : ℕ → ℕ → ℕ → List (Import Label) → List (Import Label)
    placed_imports k q n [] = []
    placed_imports k q n (i ∷ is) =
        record { module_name = i.module_name; name = i.name; kind = placed_extern k q n i.kind }
        ∷ placed_imports (next_number i.kind k) (next_function i.kind q) (next_global i.kind n) is

    abbrev pub placed_function : SitedBody → Function Label
    placed_function b =
        record {
          type = name b.entry (function_type_to L (with_trust (trust_at p b.func) b.type));
          locals = map (type_to L) b.locals;
          body = placed_code L name b.code;
        }

    -- over a list of type entries, and an index in it for each labelled type of a plain one
    abbrev pub placed_module : List (TypeEntry Label) → Module Label
    placed_module types = record {
      ct = true;
      profile = m.profile;
      types = types;
      imports = placed_imports 0 0 (first_global m) m.imports;
      functions = map placed_function (bodies m p);
      table = m.table;
      memory = option_map (placed_memory m) m.memory;
      globals = placed_globals (first_defined_global m) m.globals;
      exports = m.exports;
      start = m.start;
      elements = m.elements;
      segments = m.segments;
      customs = m.customs;
    }

  abbrev pub placed_types : Module Label → Points → List (TypeEntry Label)
  placed_types m p = m.types ++ map variant_entry (variants m p)

  abbrev pub placed : Module Label → Points → Module Label
  placed m p = placed_module (variant_name m p) m p (placed_types m p)

  -- ---- what a labelling is asked for

  abbrev pub IsOrderly : Module Label → Points → Type 0
  IsOrderly m p = AllByRecursion (λ b. IsOrderlyCode L b.code) (bodies m p)

  -- two table users that erase alike have equal labels
  abbrev pub AreAlike : List (FunctionType Tag) → Type 0
  AreAlike us =
      AllByRecursion
      (λ g. AllByRecursion (λ h. erase_alike g h ≡ true → function_type_to L g ≡ function_type_to L h) us) us

  abbrev pub AreUsersAlike : Module Label → Points → Type 0
  AreUsersAlike m p = AreAlike (users m p)
