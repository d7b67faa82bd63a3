-- What is looked up in a module is what a body may name.
use Rattle.std.proofs.Common.{◌≡◌, ℕ, ◌-◌, ◌<◌, ◌≤◌, Bool, true, false, nat_lt, List, [], ◌∷◌, length, map, get_or, slice_get, Option, Some, None, refl, sym, ◌∙◌, ap, subst, arith}
use Rattle.std.specs.Prelude.{option_map, is_some, unwrap_or, IsSome, if◌then◌else◌}
use Rattle.std.proofs.lemmas.List.{length-map}
use Rattle.std.proofs.lemmas.Option.{slice_get_past, slice_get_within, slice_get-get_or, slice_get-map, get_or_from_slice_get}
use Rattle.std.proofs.lemmas.List.Elements.{All-get_or}
use Rattle.ctw_ops.specs.declared.types.Label.{Label}
use Rattle.ctw_ops.specs.declared.types.Label.TheVariants.{Public, Secret}
use Rattle.ctw_ops.specs.Types.{ValueType, FunctionType, VariableType}
use Rattle.ctw_ops.specs.Tree.{Module, Function, TypeEntry, imported_functions, memory_among, table_among, function_entries, global_types, function_types, no_function_type, type_named}
use Rattle.ctw_ops.specs.Bodies.{context_of}
use Rattle.ctw_ops.specs.Valid.{Names}
use Rattle.ctw_module.specs.Trees.{tree, view_module}
use Rattle.ctw_module.specs.Lookup.{imported_count, function_named, local_types, locals_named}
use Rattle.ctw_form.proofs.Params.{slice_get_right}
use Rattle.ctw_module.proofs.LocalTypes.{locals_are}
use Rattle.ctw_module.proofs.Functions.{named_low}
use Rattle.ctw_valid.specs.declared.around.Around.{Around}
use Rattle.ctw_valid.specs.Named.{AreTyped}
use Rattle.ctw_valid.specs.Scope.{types_of, functions_of, globals_of, locals_of, memory_of, table_of, scope_of_body}

past : {A : Type 0} (xs : List A) (i n : ℕ) → n ≡ length xs → n ≤ i → None ≡ slice_get xs i
past xs i n e le = sym (slice_get_past xs i (omega (arith, e, le)))

some_same : {A : Type 0} {x y : A} → Some x ≡ Some y → x ≡ y
some_same e = cc

-- an index of a type entry names its type
named : (m : Module Label) (i : ℕ) → i < length m.types → slice_get (function_types m) i ≡ Some (type_named m i)
named m i lt = by (slice_get (function_types m) i) (slice_get-get_or (function_types m) i no_function_type (omega (arith, lt, length-map m.types (λ (entry : TypeEntry Label). entry.type))))
  where
    by : (r : Option (FunctionType Label)) → r ≡ Some (get_or (function_types m) i no_function_type) → r ≡ Some (unwrap_or r no_function_type)
    by None e = absurd cc
    by (Some t) e = refl

pub entry_none : (a : Around) (i n : ℕ) → n ≡ length (tree a.whole.now).types → n ≤ i → None ≡ slice_get (types_of a) i
unfolding types_of
entry_none a i n e le = past (function_types (tree a.whole.now)) i n (e ∙ sym (length-map (tree a.whole.now).types (λ (entry : TypeEntry Label). entry.type))) le

pub entry_some : (a : Around) (i : ℕ) (t : FunctionType Label) → i < length (tree a.whole.now).types → t ≡ type_named (tree a.whole.now) i → Some t ≡ slice_get (types_of a) i
unfolding types_of
entry_some a i t lt e = ap Some e ∙ sym (named (tree a.whole.now) i lt)

pub function_none : (a : Around) (i n : ℕ) → n ≡ length (function_entries (tree a.whole.now)) → n ≤ i → None ≡ slice_get (functions_of a) i
unfolding functions_of
function_none a i n e le = past (map (type_named (tree a.whole.now)) (function_entries (tree a.whole.now))) i n (e ∙ sym (length-map (function_entries (tree a.whole.now)) (type_named (tree a.whole.now)))) le

pub function_some : (a : Around) (i entry : ℕ) (t : FunctionType Label) → slice_get (function_entries (tree a.whole.now)) i ≡ Some entry → t ≡ type_named (tree a.whole.now) entry → Some t ≡ slice_get (functions_of a) i
unfolding functions_of
function_some a i entry t s e = ap Some e ∙ sym (slice_get-map (type_named (tree a.whole.now)) (function_entries (tree a.whole.now)) i ∙ ap (option_map (type_named (tree a.whole.now))) s)

-- each function's type is there
pub typed_entry : (m : Module Label) (f entry : ℕ) → AreTyped m → slice_get (function_entries m) f ≡ Some entry → entry < length m.types
typed_entry m f entry h e =
    let here : Names m.types (get_or (function_entries m) f 0) = All-get_or (Names m.types) (function_entries m) f 0 (slice_get_within (function_entries m) f entry e) h in
    within entry (subst (Names m.types) (get_or_from_slice_get (function_entries m) f entry 0 e) here)
  where
    within : (n : ℕ) → IsSome (slice_get m.types n) → n < length m.types
    within n s = by (slice_get m.types n) refl s
      where
        by : (r : Option (TypeEntry Label)) → slice_get m.types n ≡ r → IsSome r → n < length m.types
        by None q s = absurd cc
        by (Some x) q s = slice_get_within m.types n x q

pub global_none : (a : Around) (i n : ℕ) → n ≡ length (global_types (tree a.whole.now)) → n ≤ i → None ≡ slice_get (globals_of a) i
unfolding globals_of
global_none a i n e le = past (global_types (tree a.whole.now)) i n e le

pub global_some : (a : Around) (i : ℕ) (t : VariableType Label) → slice_get (global_types (tree a.whole.now)) i ≡ Some t → Some t ≡ slice_get (globals_of a) i
unfolding globals_of
global_some a i t e = sym e

pub local_none : (a : Around) (i n : ℕ) → n ≡ length (locals_named (tree a.whole.now) a.f) → n ≤ i → None ≡ slice_get (locals_of a) i
unfolding locals_of
local_none a i n e le = past (locals_named (tree a.whole.now) a.f) i n e le

pub local_some : (a : Around) (i : ℕ) (t : ValueType Label) → slice_get (locals_named (tree a.whole.now) a.f) i ≡ Some t → Some t ≡ slice_get (locals_of a) i
unfolding locals_of
local_some a i t e = sym e

-- the entry of a defined function is its own
pub own_entry : (m : Module Label) (f : ℕ) (function : Function Label) → function_named m f ≡ Some function → slice_get (function_entries m) f ≡ Some function.type
own_entry m f function e =
    let low : imported_count m ≤ f = named_low m f function e in
    let types : List ℕ = map (λ (g : Function Label). g.type) m.functions in
    slice_get_right (imported_functions m.imports) types f low
    ∙ slice_get-map (λ (g : Function Label). g.type) m.functions (f - imported_count m)
    ∙ ap (option_map (λ (g : Function Label). g.type)) (here low)
  where
    here : imported_count m ≤ f → slice_get m.functions (f - imported_count m) ≡ Some function
    here low = by (nat_lt f (imported_count m)) refl e
      where
        by : (b : Bool) → nat_lt f (imported_count m) ≡ b → (if b then None else slice_get m.functions (f - imported_count m)) ≡ Some function → slice_get m.functions (f - imported_count m) ≡ Some function
        by true q s = absurd cc
        by false q s = s

pub scope_is : (a : Around) (entry : ℕ) (t : FunctionType Label) → slice_get (function_entries (tree a.whole.now)) a.f ≡ Some entry → t ≡ type_named (tree a.whole.now) entry → a.trust ≡ t.trust → a.result ≡ t.result → a.profile ≡ a.whole.now.profile
    → (function : Function Label) → function_named (tree a.whole.now) a.f ≡ Some function → scope_of_body a ≡ context_of (view_module a.whole.now) function
unfolding types_of functions_of globals_of locals_of memory_of table_of
scope_is a entry t s e tr re pr function n =
    let m : Module Label = tree a.whole.now in
    let q : entry ≡ function.type = some_same (sym s ∙ own_entry m a.f function n) in
    let w : t ≡ type_named m function.type = e ∙ ap (type_named m) q in
    let trust : a.trust ≡ (type_named m function.type).trust = tr ∙ ap (λ z. z.trust) w in
    let result : a.result ≡ (type_named m function.type).result = re ∙ ap (λ z. z.result) w in
    let locals : locals_named m a.f ≡ local_types m function = locals_are m a.f function n in
    λ i. record {
      types = function_types m;
      functions = map (type_named m) (function_entries m);
      globals = global_types m;
      locals = locals i;
      memory = option_map (λ memory. memory.tag) (memory_among m.imports m.memory);
      table = is_some (table_among m.imports m.table);
      trust = trust i;
      result = result i;
      labels = result i ∷ [];
      public = Public;
      secret = Secret;
      profile = pr i;
    }
