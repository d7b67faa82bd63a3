-- The fault of an item by what is known of it.
use Rattle.std.proofs.Common.{◌≡◌, ◌≤◌, ◌<◌, ℕ, zero, suc, Bool, true, false, ◌&&◌, List, [], ◌∷◌, length, Option, Some, None, is_some, refl, sym, ap, ◌∙◌, arith}
use Rattle.std.proofs.lemmas.Option.{slice_get_past}
use Rattle.ctw_ops.specs.declared.types.Label.{Label}
use Rattle.ctw_ops.specs.declared.fault.Space.TheVariants as space
use Rattle.ctw_ops.specs.Types.{VariableType}
use Rattle.ctw_ops.specs.Tree.{Module, Constant, imported_globals}
use Rattle.ctw_modcheck.specs.declared.fault.Invalid.{Invalid}
use Rattle.ctw_modcheck.specs.declared.fault.Invalid.TheVariants.{ModuleIndex, ConstExpr}
use Rattle.ctw_modcheck.specs.Answers.{fault_at}
use Rattle.ctw_modcheck.specs.Faults.{unless, names, function_fault, global_fault, is_there, names_constant, is_of_type}
use Rattle.ctw_modcheck.proofs.Counts.{FunctionAt, GlobalAt}
use Rattle.ctw_modcheck.proofs.Loops.{skip, stop, at_item}

pub names_there : {A : Type 0} (l : List A) (i : ℕ) → i < length l → names l i ≡ true
names_there [] i lt = absurd (omega (arith, lt))
names_there (a ∷ l) zero lt = refl
names_there (a ∷ l) (suc i) lt = names_there l i (omega (arith, lt))

pub names_past : {A : Type 0} (l : List A) (i : ℕ) → length l ≤ i → names l i ≡ false
names_past l i le = ap is_some (slice_get_past l i le)

pub no_fault : (b : Bool) (f : Invalid) → b ≡ true → unless b f ≡ None
no_fault b f e = ap (λ t. unless t f) e

pub has_fault : (b : Bool) (f : Invalid) → b ≡ false → unless b f ≡ Some f
has_fault b f e = ap (λ t. unless t f) e

pub function_missing : (m : Module Label) (i type : ℕ) → FunctionAt m i type → length m.types ≤ type → fault_at (function_fault m) m.functions i ≡ Some (ModuleIndex space.Functions i)
function_missing m i type h le =
    at_item (function_fault m) m.functions i h.function _ h.is (has_fault (names m.types h.function.type) (ModuleIndex space.Functions i) (ap (names m.types) h.typed ∙ names_past m.types type le))

pub function_there : (m : Module Label) (i type : ℕ) → FunctionAt m i type → type < length m.types → fault_at (function_fault m) m.functions i ≡ None
function_there m i type h lt =
    at_item (function_fault m) m.functions i h.function _ h.is (no_fault (names m.types h.function.type) (ModuleIndex space.Functions i) (ap (names m.types) h.typed ∙ names_there m.types type lt))

-- whether an expression may begin a global of a type
abbrev pub is_initial : Module Label → VariableType Label → Constant Label → Bool
is_initial m t e = names_constant (imported_globals m.imports) e && is_of_type (imported_globals m.imports) t.value e

same_expression : (e f : Constant Label) → ◌≡◌ {A = Option (Constant Label)} (Some e) (Some f) → e ≡ f
same_expression e f q = cc

pub global_missing : (m : Module Label) (i : ℕ) (t : VariableType Label) (e : Constant Label) → GlobalAt m i t (Some e) → is_there m e ≡ false → fault_at (global_fault m) m.globals i ≡ Some (ModuleIndex space.Globals i)
global_missing m i t e h absent =
    let same = same_expression e h.global.init h.init_is in
    at_item (global_fault m) m.globals i h.global _ h.is
    (stop (unless (is_there m h.global.init) (ModuleIndex space.Globals i)) _ (ModuleIndex space.Globals i) (has_fault (is_there m h.global.init) (ModuleIndex space.Globals i) (ap (is_there m) (sym same) ∙ absent)))

initial_is : (m : Module Label) (i : ℕ) (t : VariableType Label) (e : Constant Label) (h : GlobalAt m i t (Some e)) → is_initial m h.global.type h.global.init ≡ is_initial m t e
initial_is m i t e h =
    let same = same_expression e h.global.init h.init_is in
    ap (λ (x : VariableType Label). is_initial m x h.global.init) h.typed ∙ ap (is_initial m t) (sym same)

global_else : (m : Module Label) (i : ℕ) (t : VariableType Label) (e : Constant Label) (h : GlobalAt m i t (Some e)) → is_there m e ≡ true → global_fault m i h.global ≡ unless (is_initial m h.global.type h.global.init) (ConstExpr space.Globals i)
global_else m i t e h there =
    let same = same_expression e h.global.init h.init_is in
    skip (unless (is_there m h.global.init) (ModuleIndex space.Globals i)) _ (no_fault (is_there m h.global.init) (ModuleIndex space.Globals i) (ap (is_there m) (sym same) ∙ there))

pub global_wrong : (m : Module Label) (i : ℕ) (t : VariableType Label) (e : Constant Label) → GlobalAt m i t (Some e) → is_there m e ≡ true → is_initial m t e ≡ false → fault_at (global_fault m) m.globals i ≡ Some (ConstExpr space.Globals i)
global_wrong m i t e h there absent =
    at_item (global_fault m) m.globals i h.global _ h.is (global_else m i t e h there ∙ has_fault (is_initial m h.global.type h.global.init) (ConstExpr space.Globals i) (initial_is m i t e h ∙ absent))

pub global_right : (m : Module Label) (i : ℕ) (t : VariableType Label) (e : Constant Label) → GlobalAt m i t (Some e) → is_there m e ≡ true → is_initial m t e ≡ true → fault_at (global_fault m) m.globals i ≡ None
global_right m i t e h there fits =
    at_item (global_fault m) m.globals i h.global _ h.is (global_else m i t e h there ∙ no_fault (is_initial m h.global.type h.global.init) (ConstExpr space.Globals i) (initial_is m i t e h ∙ fits))

-- a defined global has an initial value
pub global_begins : (m : Module Label) (i : ℕ) (t : VariableType Label) → GlobalAt m i t None → ⊥
global_begins m i t h = let q : None ≡ Some h.global.init = h.init_is in cc
