-- What the readers of a view answer is an item of its module.
use Rattle.std.proofs.Common.{◌≡◌, ℕ, zero, suc, ◌+◌, ◌-◌, ◌<◌, ◌≤◌, Bool, true, false, List, [], ◌∷◌, length, map, drop, Option, Some, None, cond, le-ltb, refl, sym, ap, ◌∙◌, arith}
use Rattle.std.specs.Prelude.{slice_get, unwrap_or, nat_lt}
use Rattle.std.proofs.lemmas.List.{length-append, length-map, drop_at}
use Rattle.std.proofs.lemmas.Option.{slice_get_within}
use Rattle.ctw_ops.specs.declared.types.Label.{Label}
use Rattle.ctw_ops.specs.Types.{FunctionType, VariableType}
use Rattle.ctw_ops.specs.Tree.{Module, TypeEntry, Function, Constant, Global, function_entries, imported_functions, imported_globals, global_types, type_named, no_function_type}
use Rattle.ctw_module.specs.Lookup.{imported_count, function_named, locals_named, global_inits}
use Rattle.ctw_module.proofs.LocalTypes.{locals_are}
use Rattle.ctw_form.proofs.Params.{slice_get_right}
use Rattle.std.proofs.lemmas.Bool.{ltb-false}
use Rattle.ctw_print.proofs.Listed.{some_is, none_some}

-- ---- type entries

entry_there : (types : List (TypeEntry Label)) (i : ℕ) (base : Option ℕ) → slice_get (map (λ entry. entry.base) types) i ≡ Some base
    → slice_get types i ≡ Some (record { base = base; type = unwrap_or (slice_get (map (λ entry. entry.type) types) i) no_function_type })
entry_there [] i base e = absurd (none_some base e)
entry_there (t ∷ types) zero base e = ap (λ (b : Option ℕ). Some (record { base = b; type = t.type })) (some_is t.base base e)
entry_there (t ∷ types) (suc i) base e = entry_there types i base e

pub entry_is : (m : Module Label) (i : ℕ) (base : Option ℕ) (type : FunctionType Label) → slice_get (map (λ entry. entry.base) m.types) i ≡ Some base → type ≡ type_named m i → slice_get m.types i ≡ Some (record { base = base; type = type })
entry_is m i base type e t = entry_there m.types i base e ∙ ap (λ (f : FunctionType Label). Some (record { base = base; type = f })) (sym t)

-- ---- defined functions

pub defined_count : (m : Module Label) (first : ℕ) → first ≡ imported_count m → length (function_entries m) ≡ first + length m.functions
defined_count m first h = omega (arith, length-append (imported_functions m.imports) (map (λ f. f.type) m.functions), length-map m.functions (λ f. f.type), h)

-- the function of a defined one's index
pub named_at : (m : Module Label) (first i : ℕ) (function : Function Label) → first ≡ imported_count m → slice_get m.functions i ≡ Some function → function_named m (first + i) ≡ Some function
named_at m first i function h e =
    let past : nat_lt (first + i) (imported_count m) ≡ false = le-ltb (first + i) (imported_count m) (omega (arith, h)) in
    let place : first + i - imported_count m ≡ i = omega (arith, h) in
    rw past (ap (slice_get m.functions) place ∙ e)

-- where it stands among the defined ones
pub record Defined (m : Module Label) (f : ℕ) (function : Function Label) : Type 0 where
  pub from : imported_count m ≤ f
  pub there : slice_get m.functions (f - imported_count m) ≡ Some function

pub defined_is : (m : Module Label) (f : ℕ) (function : Function Label) → function_named m f ≡ Some function → Defined m f function
defined_is m f function e = go (nat_lt f (imported_count m)) refl e
  where
    go : (test : Bool) → nat_lt f (imported_count m) ≡ test → cond test None (slice_get m.functions (f - imported_count m)) ≡ Some function → Defined m f function
    go true q h = absurd (none_some function h)
    go false q h = record { from = ltb-false f (imported_count m) q; there = h }

type_there : (functions : List (Function Label)) (i : ℕ) (function : Function Label) → slice_get functions i ≡ Some function → slice_get (map (λ f. f.type) functions) i ≡ Some function.type
type_there [] i function e = absurd (none_some function e)
type_there (f ∷ functions) zero function e = ap (λ (g : Function Label). Some g.type) (some_is f function e)
type_there (f ∷ functions) (suc i) function e = type_there functions i function e

pub use_named : (m : Module Label) (f index : ℕ) (function : Function Label) → function_named m f ≡ Some function → slice_get (function_entries m) f ≡ Some index → index ≡ function.type
use_named m f index function e s =
    let d = defined_is m f function e in
    let imported = imported_functions m.imports in
    let right = slice_get_right imported (map (λ g. g.type) m.functions) f d.from in
    some_is index function.type (sym s ∙ right ∙ type_there m.functions (f - imported_count m) function d.there)

pub named_within : (m : Module Label) (f : ℕ) (function : Function Label) → function_named m f ≡ Some function → (imported_count m ≤ f) × (f < length (function_entries m))
named_within m f function e =
    let d = defined_is m f function e in
    let lt : f - imported_count m < length m.functions = slice_get_within m.functions (f - imported_count m) function d.there in
    let from : imported_count m ≤ f = d.from in
    (from, omega (arith, lt, from, defined_count m (imported_count m) refl))

-- the declared locals stand behind the parameters
pub declared_is : (m : Module Label) (f first : ℕ) (function : Function Label) → function_named m f ≡ Some function → first ≡ length (type_named m function.type).params → drop first (locals_named m f) ≡ function.locals
declared_is m f first function e n = ap (drop first) (locals_are m f function e) ∙ drop_at (type_named m function.type).params function.locals first (sym n)

pub locals_count : (m : Module Label) (f first : ℕ) (function : Function Label) → function_named m f ≡ Some function → first ≡ length (type_named m function.type).params → length (locals_named m f) ≡ first + length function.locals
locals_count m f first function n e = omega (arith, ap length (locals_are m f function n), length-append (type_named m function.type).params function.locals, e)

-- ---- defined globals

pub record GlobalAt (globals : List (Global Label)) (i : ℕ) (type : VariableType Label) (init : Option (Constant Label)) : Type 0 where
  pub global : Global Label
  pub there : slice_get globals i ≡ Some global
  pub typed : type ≡ global.type
  pub same : init ≡ Some global.init

global_there : (globals : List (Global Label)) (i : ℕ) (type : VariableType Label) (init : Option (Constant Label)) → slice_get (map (λ g. g.type) globals) i ≡ Some type → slice_get (map (λ g. Some g.init) globals) i ≡ Some init → GlobalAt globals i type init
global_there [] i type init e f = absurd (none_some type e)
global_there (g ∷ globals) zero type init e f = record { global = g; there = refl; typed = sym (some_is g.type type e); same = sym (some_is (Some g.init) init f) }
global_there (g ∷ globals) (suc i) type init e f =
    let u = global_there globals i type init e f in
    record { global = u.global; there = u.there; typed = u.typed; same = u.same }

pub global_at : (m : Module Label) (first i : ℕ) (type : VariableType Label) (init : Option (Constant Label)) → first ≡ length (imported_globals m.imports) → slice_get (global_types m) (first + i) ≡ Some type → slice_get (global_inits m) (first + i) ≡ Some init
    → GlobalAt m.globals i type init
global_at m first i type init h e f =
    let imported = imported_globals m.imports in
    let none : List (Option (Constant Label)) = map (λ t. None) imported in
    let size : length none ≡ length imported = length-map imported (λ t. None) in
    let types = map (λ g. g.type) m.globals in
    let inits : List (Option (Constant Label)) = map (λ g. Some g.init) m.globals in
    let place : first + i - length imported ≡ i = omega (arith, h) in
    let second : first + i - length none ≡ i = omega (arith, h, size) in
    let typed = sym (slice_get_right imported types (first + i) (omega (arith, h))) ∙ e in
    let valued = sym (slice_get_right none inits (first + i) (omega (arith, h, size))) ∙ f in
    global_there m.globals i type init (ap (slice_get types) (sym place) ∙ typed) (ap (slice_get inits) (sym second) ∙ valued)

pub defined_globals : (m : Module Label) (first : ℕ) → first ≡ length (imported_globals m.imports) → length (global_types m) ≡ first + length m.globals
defined_globals m first h = omega (arith, length-append (imported_globals m.imports) (map (λ g. g.type) m.globals), length-map m.globals (λ g. g.type), h)
