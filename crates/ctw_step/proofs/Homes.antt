-- What a linked set says of the function that runs.
use Rattle.std.specs.Prelude.{if◌then◌else◌, unwrap_or}
use Rattle.ctw_ops.specs.Types.{FunctionType}
use Rattle.ctw_module.proofs.IndexSpaces.{functions_count}
use Rattle.std.proofs.lemmas.Bool.Decides.{nat_tests}
use Rattle.ctw_ops.specs.Code.{Code, ByEnd}
use Rattle.ctw_ops.specs.Segments.{segment}
use Rattle.ctw_ops.specs.Valid.{Names}
use Rattle.ctw_ops.proofs.Lists.{all_get}
use Rattle.ctw_flat.specs.Positions.{At}
use Rattle.ctw_flat.proofs.Positions.{at_start}
use Rattle.ctw_form.proofs.Params.{slice_get_right}
use Rattle.ctw_step.specs.declared.calls.Callee.{Callee}
use Rattle.ctw_step.specs.Calls.{IsCallee, Knows}
use Rattle.std.proofs.Common.{◌≡◌, ℕ, zero, suc, ◌-◌, ◌<◌, ◌≤◌, List, [], ◌∷◌, map, length, Bool, false, nat_lt, Option, Some, None, option_map, option_and_then, slice_get, All, is_some, refl, sym, ap, ◌∙◌, subst, arith}
use Rattle.std.proofs.lemmas.List.{length-map}
use Rattle.std.proofs.lemmas.Option.{slice_get_within, slice_get-map, get_or_from_slice_get}
use Rattle.ctw_ops.specs.declared.types.Label.{Label}
use Rattle.ctw_ops.specs.declared.types.ExternTag.{ExternTag}
use Rattle.ctw_ops.specs.declared.types.ExternTag.TheVariants.{Func, Memory, Global, Table}
use Rattle.ctw_ops.specs.Tree.{Module, Function, function_entries, global_types, imported_functions, type_named, TypeEntry, no_function_type}
use Rattle.ctw_semantics.specs.Instances.{FunctionInstance}
use Rattle.ctw_semantics.specs.Modules.{instance_of}
use Rattle.ctw_module.specs.Trees.{tree, view_module}
use Rattle.ctw_module.specs.Lookup.{imported_count, function_named}
use Rattle.ctw_link.specs.declared.set.Part.{Part}
use Rattle.ctw_link.specs.Sets.{set_of, defined, part_in}
use Rattle.ctw_link.specs.Numbers.{StoreNumbers, LinkedModule, numbers_of, linked, number_in, owners}
use Rattle.ctw_link.specs.Linked.{IsPart, HasFunction, HasGlobal, code_at, code_in}
use Rattle.ctw_link.proofs.LinkedParts.{LinkedAt, linked_at}
use Rattle.ctw_link.proofs.LinkedFronts.{linked_length}
use Rattle.ctw_link.proofs.Owned.{all_owned as owners_counted}
use Rattle.ctw_link.specs.SetInstances.{module_instance, instance_at}
use Rattle.ctw_step.specs.SetInstances.{instances}
use Rattle.ctw_link.proofs.Owners.{owner_defines, code_is}
use Rattle.ctw_link.proofs.OwnedInstances.{owner_instance, instances_count}

mapped : {A B : Type 0} (f : A → B) (o : Option A) (b : B) → option_map f o ≡ Some b → (a : A) × (o ≡ Some a) × (f a ≡ b)
mapped f None b e = absurd cc
mapped f (Some a) b e = (a, refl, cc)

bound : {A B : Type 0} (f : A → Option B) (o : Option A) (b : B) → option_and_then f o ≡ Some b → (a : A) × (o ≡ Some a) × (f a ≡ Some b)
bound f None b e = absurd cc
bound f (Some a) b e = (a, refl, e)

pub one_some : {A : Type 0} (o : Option A) (a b : A) → o ≡ Some a → o ≡ Some b → a ≡ b
one_some o a b e f = cc

item_at : {A : Type 0} (l : List A) (k : ℕ) → k < length l → (a : A) × (slice_get l k ≡ Some a)
item_at [] k h = absurd (omega (arith, h))
item_at (a ∷ l) zero h = (a, refl)
item_at (a ∷ l) (suc k) h = item_at l k (omega (arith, h))

-- ---- parts

pub in_part : (parts : List Part) (k : ℕ) → k < length parts → (n : StoreNumbers) × LinkedAt parts k n
in_part parts k h =
    let numbers : List StoreNumbers = map (λ p. p.numbers) (linked (set_of parts)) in
    let i = item_at numbers k (omega (arith, h, length-map (linked (set_of parts)) (λ (p : LinkedModule). p.numbers), linked_length (set_of parts), length-map parts part_in)) in
    (i.0, linked_at parts numbers k i.0 refl h (sym (get_or_from_slice_get numbers k i.0 i.0 i.1)))

part_at : (parts : List Part) (tag : ExternTag) (k i n : ℕ) → number_in (set_of parts) tag k i ≡ Some n → (q : LinkedModule) × (slice_get (linked (set_of parts)) k ≡ Some q) × (slice_get (numbers_of tag q.numbers) i ≡ Some n)
part_at parts tag k i n e = bound (λ p. slice_get (numbers_of tag p.numbers) i) (slice_get (linked (set_of parts)) k) n e

part_below : (parts : List Part) (k : ℕ) (q : LinkedModule) → slice_get (linked (set_of parts)) k ≡ Some q → k < length parts
part_below parts k q e =
    let w = slice_get_within (linked (set_of parts)) k q e in
    omega (arith, w, linked_length (set_of parts), length-map parts part_in)

-- an index that leads somewhere is one of the part's
pub has_function : (parts : List Part) (k i n : ℕ) → number_in (set_of parts) Func k i ≡ Some n → HasFunction parts k i
has_function parts k i n e =
    let q = part_at parts Func k i n e in
    let b = part_below parts k q.0 q.1 in
    let p = item_at parts k b in
    let l = (in_part parts k b).1 in
    let same : l.found ≡ q.0 = one_some (slice_get (linked (set_of parts)) k) l.found q.0 l.is q.1 in
    let w = slice_get_within q.0.numbers.functions i n q.2 in
    (p.0, p.1, omega (arith, w, ap (λ (q : LinkedModule). length q.numbers.functions) same, l.counted.functions, ap (λ (m : Module Label). length (function_entries m)) (l.same p.0 p.1)))

pub has_global : (parts : List Part) (k i n : ℕ) → number_in (set_of parts) Global k i ≡ Some n → HasGlobal parts k i
has_global parts k i n e =
    let q = part_at parts Global k i n e in
    let b = part_below parts k q.0 q.1 in
    let p = item_at parts k b in
    let l = (in_part parts k b).1 in
    let same : l.found ≡ q.0 = one_some (slice_get (linked (set_of parts)) k) l.found q.0 l.is q.1 in
    let w = slice_get_within q.0.numbers.globals i n q.2 in
    (p.0, p.1, omega (arith, w, ap (λ (q : LinkedModule). length q.numbers.globals) same, l.counted.globals, ap (λ (m : Module Label). length (global_types m)) (l.same p.0 p.1)))

-- ---- functions

-- the function that runs, in the part that defines it
pub record Home (parts : List Part) (func part index : ℕ) (fn : FunctionInstance) : Type 0 where
  pub p : Part
  pub is : IsPart parts part p
  pub low : imported_count (tree p.«module») ≤ index
  pub high : index < length (function_entries (tree p.«module»))
  pub numbers : StoreNumbers
  pub linked_is : LinkedAt parts part numbers
  pub f : Function Label
  pub named : function_named (tree p.«module») index ≡ Some f
  pub fn_is : fn ≡ instance_of (module_instance linked_is.found) (view_module p.«module») f
  pub code : code_in parts func ≡ code_at p.«module» index

pub home : (parts : List Part) (func part index : ℕ) (fn : FunctionInstance) → slice_get (owners (set_of parts)) func ≡ Some (part, index) → slice_get (instances parts) func ≡ Some fn → Home parts func part index fn
home parts func part index fn eo ef =
    let o = owner_defines parts func part index eo in
    let l = in_part parts part (slice_get_within parts part o.part o.is) in
    let q : instance_at (linked (set_of parts)) (part, index) ≡ Some fn = sym (owner_instance (set_of parts) func (part, index) eo) ∙ ef in
    let at : (λ (p : LinkedModule). option_map (instance_of (module_instance p) p.tree) (function_named p.tree index)) l.1.found ≡ Some fn =
    ap (option_and_then (λ (p : LinkedModule). option_map (instance_of (module_instance p) p.tree) (function_named p.tree index))) (sym l.1.is) ∙ q in
    let same = l.1.same o.part o.is in
    let at' : option_map (instance_of (module_instance l.1.found) (view_module o.part.«module»)) (function_named (view_module o.part.«module») index) ≡ Some fn =
    ap (λ (m : Module Label). option_map (instance_of (module_instance l.1.found) m) (function_named m index)) (sym same) ∙ at in
    let f = mapped (instance_of (module_instance l.1.found) (view_module o.part.«module»)) (function_named (view_module o.part.«module») index) fn at' in
    record {
      p = o.part;
      is = o.is;
      low = o.defined;
      high = o.there;
      numbers = l.0;
      linked_is = l.1;
      f = f.0;
      named = f.1;
      fn_is = sym f.2;
      code = code_is parts func part index o.part eo o.is;
    }

module _ (parts : List Part) (func part index : ℕ) (fn : FunctionInstance) (h : Home parts func part index fn) where
  number_of_kind : (tag : ExternTag) (i : ℕ) → slice_get (numbers_of tag h.linked_is.found.numbers) i ≡ number_in (set_of parts) tag part i
  number_of_kind tag i = sym (ap (option_and_then (λ (q : LinkedModule). slice_get (numbers_of tag q.numbers) i)) h.linked_is.is)

  pub home_memory : fn.part.memory ≡ number_in (set_of parts) Memory part 0
  home_memory = ap (λ (fn : FunctionInstance). fn.part.memory) h.fn_is ∙ number_of_kind Memory 0

  pub home_table : fn.part.table ≡ number_in (set_of parts) Table part 0
  home_table = ap (λ (fn : FunctionInstance). fn.part.table) h.fn_is ∙ number_of_kind Table 0

  pub home_function : (i : ℕ) → slice_get fn.part.functions i ≡ number_in (set_of parts) Func part i
  home_function i = ap (λ (fn : FunctionInstance). slice_get fn.part.functions i) h.fn_is ∙ number_of_kind Func i

  pub home_global : (i : ℕ) → slice_get fn.part.globals i ≡ number_in (set_of parts) Global part i
  home_global i = ap (λ (fn : FunctionInstance). slice_get fn.part.globals i) h.fn_is ∙ number_of_kind Global i

  pub home_profile : fn.part.profile ≡ h.p.«module».profile
  home_profile = ap (λ (fn : FunctionInstance). fn.part.profile) h.fn_is

-- each function of the set has an owner
pub func_below : (parts : List Part) (func : ℕ) (fn : FunctionInstance) → slice_get (instances parts) func ≡ Some fn → func < defined Func (set_of parts)
func_below parts func fn e =
    let w = slice_get_within (instances parts) func fn e in
    omega (arith, w, instances_count (set_of parts), owners_counted (set_of parts))

-- an index that leads somewhere is a part's
pub part_there : (parts : List Part) (tag : ExternTag) (k i n : ℕ) → number_in (set_of parts) tag k i ≡ Some n → k < length parts
part_there parts tag k i n e = let q = part_at parts tag k i n e in part_below parts k q.0 q.1

pub some_owner : (parts : List Part) (func : ℕ) → func < defined Func (set_of parts) → (k : ℕ) × (i : ℕ) × (slice_get (owners (set_of parts)) func ≡ Some (k, i))
some_owner parts func h = let x = item_at (owners (set_of parts)) func (omega (arith, h, owners_counted (set_of parts))) in (x.0.0, x.0.1, x.1)

-- the entry of a defined function
pub named_entry : (m : Module Label) (i : ℕ) (f : Function Label) → function_named m i ≡ Some f → imported_count m ≤ i → slice_get (function_entries m) i ≡ Some f.type
named_entry m i f e low =
    let past : nat_lt i (imported_count m) ≡ false = grind (arith, nat_tests, low) in
    let at : slice_get m.functions (i - imported_count m) ≡ Some f = ap (λ (b : Bool). if b then None else slice_get m.functions (i - imported_count m)) (sym past) ∙ e in
    slice_get_right (imported_functions m.imports) (map (λ f. f.type) m.functions) i low ∙ slice_get-map (λ (f : Function Label). f.type) m.functions (i - imported_count m) ∙ ap (option_map (λ (f : Function Label). f.type)) at

within : {A : Type 0} (l : List A) (k : ℕ) → Names l k → k < length l
within [] k h = absurd cc
within (x ∷ l) zero h = omega arith
within (x ∷ l) (suc k) h = let w = within l k h in omega (arith, w)

-- a function of a valid module names a type entry
pub entry_within : (m : Module Label) (i : ℕ) (f : Function Label) (t : ℕ) → All (λ f. Names m.types f.type) m.functions → function_named m i ≡ Some f → imported_count m ≤ i → slice_get (function_entries m) i ≡ Some t → t < length m.types
entry_within m i f t all e low et =
    let n = named_entry m i f e low in
    let same = one_some (slice_get (function_entries m) i) f.type t n et in
    let past : nat_lt i (imported_count m) ≡ false = grind (arith, nat_tests, low) in
    let at : slice_get m.functions (i - imported_count m) ≡ Some f = ap (λ (b : Bool). if b then None else slice_get m.functions (i - imported_count m)) (sym past) ∙ e in
    subst (λ t. t < length m.types) same (within m.types f.type (all_get (λ f. Names m.types f.type) m.functions (i - imported_count m) f all at))

-- ---- callees

pub callee_is : (parts : List Part) (func part index : ℕ) (fn : FunctionInstance) (h : Home parts func part index fn) (callee : Callee) → callee.func ≡ func → slice_get (instances parts) func ≡ Some fn
    → ((f : Function Label) → function_named (tree h.p.«module») index ≡ Some f → Knows (code_at h.p.«module» index) (type_named (tree h.p.«module») f.type) f callee) → IsCallee (code_in parts) (instances parts) callee fn
callee_is parts func part index fn h callee e ef k =
    let x = k h.f h.named in
    record {
      found = ap (slice_get (instances parts)) e ∙ ef;
      params = x.params ∙ ap (λ (fn : FunctionInstance). length fn.type.params) (sym h.fn_is);
      declared = x.declared ∙ ap (λ (fn : FunctionInstance). length fn.locals) (sym h.fn_is);
      has_result = x.has_result ∙ ap (λ (fn : FunctionInstance). is_some fn.type.result) (sym h.fn_is);
      starts = subst (λ n. At (code_in parts n) 0 (segment fn.body ByEnd ∷ [])) (sym e)
          (subst (λ (c : List ℕ). At c 0 (segment fn.body ByEnd ∷ [])) (sym h.code)
          (subst (λ (b : Code Label). At (code_at h.p.«module» index) 0 (segment b ByEnd ∷ [])) (ap (λ (fn : FunctionInstance). fn.body) (sym h.fn_is))
          (at_start (code_at h.p.«module» index) h.f.body x.spelled.0)));
    }

-- ---- types

pub named_there : (m : Module Label) (i : ℕ) → imported_count m ≤ i → i < length (function_entries m) → (f : Function Label) × (function_named m i ≡ Some f)
named_there m i low high =
    let past : nat_lt i (imported_count m) ≡ false = grind (arith, nat_tests, low) in
    let x = item_at m.functions (i - imported_count m) (omega (arith, low, high, functions_count m)) in
    (x.0, ap (λ (b : Bool). if b then None else slice_get m.functions (i - imported_count m)) past ∙ x.1)

pub same_entry : (m : Module Label) (i t : ℕ) (f : Function Label) → function_named m i ≡ Some f → imported_count m ≤ i → slice_get (function_entries m) i ≡ Some t → t ≡ f.type
same_entry m i t f e low et = one_some (slice_get (function_entries m) i) t f.type et (named_entry m i f e low)

pub type_at : (m : Module Label) (i : ℕ) (t : TypeEntry Label) → slice_get m.types i ≡ Some t → type_named m i ≡ t.type
type_at m i t e = ap (λ (o : Option (FunctionType Label)). unwrap_or o no_function_type) (slice_get-map (λ (t : TypeEntry Label). t.type) m.types i ∙ ap (option_map (λ (t : TypeEntry Label). t.type)) e)

pub some_instance : (parts : List Part) (func : ℕ) → func < defined Func (set_of parts) → (fn : FunctionInstance) × (slice_get (instances parts) func ≡ Some fn)
some_instance parts func h = item_at (instances parts) func (omega (arith, h, instances_count (set_of parts), owners_counted (set_of parts)))
