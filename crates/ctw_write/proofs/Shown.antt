-- What the readers of a view answer is an item of its module.
use Rattle.std.proofs.Common.{◌≡◌, ℕ, zero, suc, ◌+◌, ◌-◌, ◌<◌, ◌^◌, List, [], ◌∷◌, length, map, Option, Some, None, refl, sym, ap, ◌∙◌, arith}
use Rattle.std.specs.Prelude.{slice_get, unwrap_or}
use Rattle.std.proofs.lemmas.List.{length-append, length-map}
use Rattle.ctw_ops.specs.ValueType.{ValueType}
use Rattle.ctw_ops.specs.declared.types.Label.{Label}
use Rattle.ctw_ops.specs.Types.{FunctionType, VariableType}
use Rattle.ctw_ops.specs.Tree.{Module, TypeEntry, Function, Constant, Global, function_entries, imported_functions, imported_globals, global_types, type_named, no_function_type}
use Rattle.ctw_ops.specs.Typing.{optional}
use Rattle.ctw_leb.specs.Spelling.{u32_text}
use Rattle.ctw_module.specs.Lookup.{imported_count, global_inits}
use Rattle.ctw_form.proofs.Params.{slice_get_right}
use Rattle.ctw_write.specs.Canon.{all_texts, vector_text, type_text, trust_byte, signature_text, type_entry_text}

abbrev some : {A : Type 0} → A → Option A
some x = Some x

pub some_is : {A : Type 0} (x y : A) → some x ≡ some y → x ≡ y
some_is x y e = cc

pub none_some : {A : Type 0} (x : A) → None ≡ some x → ⊥
none_some x e = cc

-- ---- type entries

entry_there : (types : List (TypeEntry Label)) (i : ℕ) (base : Option ℕ) → slice_get (map (λ entry. entry.base) types) i ≡ Some base
    → slice_get types i ≡ Some (record { base = base; type = unwrap_or (slice_get (map (λ entry. entry.type) types) i) no_function_type })
entry_there [] i base e = absurd (none_some base e)
entry_there (t ∷ types) zero base e = ap (λ (b : Option ℕ). Some (record { base = b; type = t.type })) (some_is t.base base e)
entry_there (t ∷ types) (suc i) base e = entry_there types i base e

pub entry_is : (m : Module Label) (i : ℕ) (base : Option ℕ) (type : FunctionType Label) → slice_get (map (λ entry. entry.base) m.types) i ≡ Some base → type ≡ type_named m i → slice_get m.types i ≡ Some (record { base = base; type = type })
entry_is m i base type e t = entry_there m.types i base e ∙ ap (λ (f : FunctionType Label). Some (record { base = base; type = f })) (sym t)

types_size : (types : List (ValueType Label)) → length (all_texts type_text types) ≡ length types
types_size [] = refl
types_size (t ∷ types) = ap suc (types_size types)

pub entry_short : (e : TypeEntry Label) → length (type_entry_text e) < 2 ^ 32 → length e.type.params < 2 ^ 32
entry_short e lt = go e.base e.type lt
  where
    go : (base : Option ℕ) (f : FunctionType Label) → length (type_entry_text (record { base = base; type = f })) < 2 ^ 32 → length f.params < 2 ^ 32
    go None f lt =
        let params = vector_text type_text f.params in
        omega (arith, types_size f.params, length-append params (vector_text type_text (optional f.result)), length-append (u32_text (length f.params)) (all_texts type_text f.params))
    go (Some base) f lt =
        let params = vector_text type_text f.params in
        omega (arith, types_size f.params, length-append params (vector_text type_text (optional f.result)), length-append (u32_text (length f.params)) (all_texts type_text f.params), length-append (u32_text base) (trust_byte f.trust ∷ signature_text f))

-- ---- defined functions

-- the use of a defined function
pub record UseAt (functions : List (Function Label)) (i type : ℕ) : Type 0 where
  pub function : Function Label
  pub there : slice_get functions i ≡ Some function
  pub same : function.type ≡ type

use_there : (functions : List (Function Label)) (i type : ℕ) → slice_get (map (λ f. f.type) functions) i ≡ Some type → UseAt functions i type
use_there [] i type e = absurd (none_some type e)
use_there (f ∷ functions) zero type e = record { function = f; there = refl; same = some_is f.type type e }
use_there (f ∷ functions) (suc i) type e =
    let u = use_there functions i type e in
    record { function = u.function; there = u.there; same = u.same }

pub use_at : (m : Module Label) (first i type : ℕ) → first ≡ imported_count m → slice_get (function_entries m) (first + i) ≡ Some type → UseAt m.functions i type
use_at m first i type h e =
    let imported = imported_functions m.imports in
    let behind : slice_get (map (λ f. f.type) m.functions) (first + i - length imported) ≡ Some type = sym (slice_get_right imported (map (λ f. f.type) m.functions) (first + i) (omega (arith, h))) ∙ e in
    let place : first + i - length imported ≡ i = omega (arith, h) in
    use_there m.functions i type (ap (slice_get (map (λ f. f.type) m.functions)) (sym place) ∙ behind)

pub defined_count : (m : Module Label) (first : ℕ) → first ≡ imported_count m → length (function_entries m) ≡ first + length m.functions
defined_count m first h = omega (arith, length-append (imported_functions m.imports) (map (λ f. f.type) m.functions), length-map m.functions (λ f. f.type), h)

-- ---- defined globals

pub record GlobalAt (globals : List (Global Label)) (i : ℕ) (type : VariableType Label) (init : Option (Constant Label)) : Type 0 where
  pub global : Global Label
  pub there : slice_get globals i ≡ Some global
  pub typed : type ≡ global.type
  pub same : init ≡ Some global.init

global_there : (globals : List (Global Label)) (i : ℕ) (type : VariableType Label) (init : Option (Constant Label)) → slice_get (map (λ g. g.type) globals) i ≡ Some type → slice_get (map (λ g. Some g.init) globals) i ≡ Some init → GlobalAt globals i type init
global_there [] i type init e f = absurd (none_some type e)
global_there (g ∷ globals) zero type init e f = record { global = g; there = refl; typed = sym (some_is g.type type e); same = sym (some_is (Some g.init) init f) }
global_there (g ∷ globals) (suc i) type init e f =
    let u = global_there globals i type init e f in
    record { global = u.global; there = u.there; typed = u.typed; same = u.same }

pub global_at : (m : Module Label) (first i : ℕ) (type : VariableType Label) (init : Option (Constant Label)) → first ≡ length (imported_globals m.imports) → slice_get (global_types m) (first + i) ≡ Some type → slice_get (global_inits m) (first + i) ≡ Some init
    → GlobalAt m.globals i type init
global_at m first i type init h e f =
    let imported = imported_globals m.imports in
    let none : List (Option (Constant Label)) = map (λ t. None) imported in
    let size : length none ≡ length imported = length-map imported (λ t. None) in
    let types = map (λ g. g.type) m.globals in
    let inits : List (Option (Constant Label)) = map (λ g. Some g.init) m.globals in
    let place : first + i - length imported ≡ i = omega (arith, h) in
    let second : first + i - length none ≡ i = omega (arith, h, size) in
    let typed = sym (slice_get_right imported types (first + i) (omega (arith, h))) ∙ e in
    let valued = sym (slice_get_right none inits (first + i) (omega (arith, h, size))) ∙ f in
    global_there m.globals i type init (ap (slice_get types) (sym place) ∙ typed) (ap (slice_get inits) (sym second) ∙ valued)

pub defined_globals : (m : Module Label) (first : ℕ) → first ≡ length (imported_globals m.imports) → length (global_types m) ≡ first + length m.globals
defined_globals m first h = omega (arith, length-append (imported_globals m.imports) (map (λ g. g.type) m.globals), length-map m.globals (λ g. g.type), h)
