-- The locals of a function: its parameters, and then those of its runs.
use Rattle.std.proofs.Common.{◌≡◌, ℕ, ◌+◌, ◌-◌, ◌<◌, ◌≤◌, IsTrue, List, length, get_or, slice_get, Option, Some, None, refl, sym, ap, ◌∙◌, arith}
use Rattle.std.specs.List.{list_all}
use Rattle.std.proofs.lemmas.List.{length-append}
use Rattle.ctw_ops.specs.declared.types.Label.{Label}
use Rattle.ctw_ops.specs.Types.{ValueType, byte_type, byte_types, is_type_byte}
use Rattle.ctw_ops.specs.Tree.{Module, Function, type_named}
use Rattle.ctw_form.specs.declared.slots.LocalRun.{LocalRun}
use Rattle.ctw_form.specs.Sections.{locals_of}
use Rattle.ctw_module.specs.Runs.{IsRunsOf}
use Rattle.ctw_module.specs.Lookup.{function_named, local_types, locals_of_some, locals_named}
use Rattle.ctw_form.proofs.Params.{types_length, types_at, slice_get_left, slice_get_right}

-- a function that has a local is there
pub has_function : (m : Module Label) (f i : ℕ) → i < length (locals_named m f) → (function : Function Label) × (function_named m f ≡ Some function)
has_function m f i lt = go (function_named m f) refl lt
  where
    go : (o : Option (Function Label)) → function_named m f ≡ o → i < length (locals_of_some m o) → (function : Function Label) × (function_named m f ≡ Some function)
    go None e h = absurd (omega (arith, h))
    go (Some function) e h = (function, e)

pub locals_are : (m : Module Label) (f : ℕ) (function : Function Label) → function_named m f ≡ Some function → locals_named m f ≡ local_types m function
locals_are m f function e = ap (locals_of_some m) e

-- the bytes of a function's parameters
abbrev pub AreParams : Module Label → ℕ → List ℕ → Type 0
AreParams m f bytes = (function : Function Label) → function_named m f ≡ Some function → byte_types bytes ≡ (type_named m function.type).params

pub params_size : (m : Module Label) (f : ℕ) (function : Function Label) (bytes : List ℕ) → function_named m f ≡ Some function → AreParams m f bytes → IsTrue (list_all is_type_byte bytes)
    → length (type_named m function.type).params ≡ length bytes
params_size m f function bytes e are typed = ap length (sym (are function e)) ∙ types_length bytes typed

pub locals_size : (m : Module Label) (f : ℕ) (function : Function Label) (bytes : List ℕ) (runs : List LocalRun) (n : ℕ) → function_named m f ≡ Some function → AreParams m f bytes → IsTrue (list_all is_type_byte bytes)
    → (r : IsRunsOf m f runs) → n ≡ length (locals_of r.groups) → length bytes + n ≡ length (locals_named m f)
locals_size m f function bytes runs n e are typed r is =
    omega (arith, params_size m f function bytes e are typed, is, ap length (r.locals function e), ap length (locals_are m f function e), length-append (type_named m function.type).params function.locals)

pub local_in_params : (m : Module Label) (f i : ℕ) (function : Function Label) (bytes : List ℕ) (t : ValueType Label) → function_named m f ≡ Some function → AreParams m f bytes → IsTrue (list_all is_type_byte bytes)
    → i < length bytes → byte_type (get_or bytes i 0) ≡ Some t → slice_get (locals_named m f) i ≡ Some t
local_in_params m f i function bytes t e are typed lt is =
    ap (λ (l : List (ValueType Label)). slice_get l i) (locals_are m f function e)
    ∙ slice_get_left (type_named m function.type).params function.locals i (omega (arith, params_size m f function bytes e are typed, lt))
    ∙ ap (λ (l : List (ValueType Label)). slice_get l i) (sym (are function e)) ∙ types_at bytes i 0 typed lt ∙ is

pub local_in_runs : (m : Module Label) (f i : ℕ) (function : Function Label) (bytes : List ℕ) (runs : List LocalRun) (t : ValueType Label) → function_named m f ≡ Some function → AreParams m f bytes → IsTrue (list_all is_type_byte bytes)
    → (r : IsRunsOf m f runs) → length bytes ≤ i → slice_get (locals_of r.groups) (i - length bytes) ≡ Some t → slice_get (locals_named m f) i ≡ Some t
local_in_runs m f i function bytes runs t e are typed r le is =
    let size = params_size m f function bytes e are typed in
    ap (λ (l : List (ValueType Label)). slice_get l i) (locals_are m f function e)
    ∙ slice_get_right (type_named m function.type).params function.locals i (omega (arith, size, le))
    ∙ ap (λ (n : ℕ). slice_get function.locals (i - n)) size ∙ ap (λ (l : List (ValueType Label)). slice_get l (i - length bytes)) (sym (r.locals function e)) ∙ is
