-- The types of the functions and globals that a module defines.
use Rattle.std.proofs.Common.{◌≡◌, ◌<◌, ℕ, zero, suc, ◌+◌, ◌-◌, List, [], ◌∷◌, length, map, slice_get, Option, Some, None, option_map, refl, sym, ap, ◌∙◌, arith}
use Rattle.std.proofs.lemmas.List.{length-map}
use Rattle.std.proofs.lemmas.Option.{slice_get-map}
use Rattle.ctw_ops.specs.declared.types.Label.{Label}
use Rattle.ctw_ops.specs.Types.{VariableType}
use Rattle.ctw_ops.specs.Tree.{Module, Function, Global, Constant, imported_functions, imported_globals, function_entries, global_types}
use Rattle.ctw_module.specs.Lookup.{imported_count, global_inits}
use Rattle.ctw_form.proofs.Params.{slice_get_right}
use Rattle.ctw_module.proofs.IndexSpaces.{functions_count, globals_count}

pub some_there : {A : Type 0} (l : List A) (i : ℕ) → i < length l → (a : A) × (slice_get l i ≡ Some a)
some_there [] i lt = absurd (omega (arith, lt))
some_there (a ∷ l) zero lt = (a, refl)
some_there (a ∷ l) (suc i) lt = some_there l i (omega (arith, lt))

same_some : {A : Type 0} (a b : A) → ◌≡◌ {A = Option A} (Some a) (Some b) → a ≡ b
same_some a b e = cc

-- a defined function has the type that its index has
pub record FunctionAt (m : Module Label) (i type : ℕ) : Type 0 where
  pub function : Function Label
  pub is : slice_get m.functions i ≡ Some function
  pub typed : function.type ≡ type

pub function_at : (m : Module Label) (f i type : ℕ) → f ≡ imported_count m + i → f < length (function_entries m) → slice_get (function_entries m) f ≡ Some type → FunctionAt m i type
function_at m f i type e lt is =
    let there = some_there m.functions i (omega (arith, e, lt, functions_count m)) in
    let types = map (λ (x : Function Label). x.type) m.functions in
    let behind = slice_get_right (imported_functions m.imports) types f (omega (arith, e)) in
    let at : f - length (imported_functions m.imports) ≡ i = omega (arith, e) in
    let here : Some type ≡ Some there.0.type = sym is ∙ behind ∙ ap (λ (n : ℕ). slice_get types n) at ∙ slice_get-map (λ (x : Function Label). x.type) m.functions i ∙ ap (option_map (λ (x : Function Label). x.type)) there.1 in
    record { function = there.0; is = there.1; typed = sym (same_some type there.0.type here) }

-- a defined global has the type and the initial value that its index has
pub record GlobalAt (m : Module Label) (i : ℕ) (type : VariableType Label) (init : Option (Constant Label)) : Type 0 where
  pub global : Global Label
  pub is : slice_get m.globals i ≡ Some global
  pub typed : global.type ≡ type
  pub init_is : init ≡ Some global.init

pub global_at : (m : Module Label) (k i : ℕ) (type : VariableType Label) (init : Option (Constant Label)) → k ≡ length (imported_globals m.imports) → k + i < length (global_types m)
    → slice_get (global_types m) (k + i) ≡ Some type → slice_get (global_inits m) (k + i) ≡ Some init → GlobalAt m i type init
global_at m k i type init e lt is begins =
    let there = some_there m.globals i (omega (arith, e, lt, globals_count m)) in
    let types = map (λ (g : Global Label). g.type) m.globals in
    let inits = map (λ (g : Global Label). Some g.init) m.globals in
    let nones = map (λ (t : VariableType Label). no_value) (imported_globals m.imports) in
    let at : (k + i) - length (imported_globals m.imports) ≡ i = omega (arith, e) in
    let same : length nones ≡ length (imported_globals m.imports) = length-map (imported_globals m.imports) (λ t. no_value) in
    let at_init : (k + i) - length nones ≡ i = omega (arith, e, same) in
    let here : Some type ≡ Some there.0.type =
    sym is ∙ slice_get_right (imported_globals m.imports) types (k + i) (omega (arith, e)) ∙ ap (λ (n : ℕ). slice_get types n) at ∙ slice_get-map (λ (g : Global Label). g.type) m.globals i ∙ ap (option_map (λ (g : Global Label). g.type)) there.1 in
    let value : Some init ≡ Some (Some there.0.init) =
    sym begins ∙ slice_get_right nones inits (k + i) (omega (arith, e, same)) ∙ ap (λ (n : ℕ). slice_get inits n) at_init ∙ slice_get-map (λ (g : Global Label). Some g.init) m.globals i ∙ ap (option_map (λ (g : Global Label). Some g.init)) there.1 in
    record { global = there.0; is = there.1; typed = sym (same_some type there.0.type here); init_is = same_some init (Some there.0.init) value }
  where
    no_value : Option (Constant Label)
    no_value = None
