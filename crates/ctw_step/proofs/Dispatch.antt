-- From a place in a linked set to what a form asks and tells.
use Rattle.std.proofs.Common.{◌≡◌, ℕ, ◌<◌, Bool, List, length, Some, Result, slice_get, sym, ap, ◌∙◌, subst}
use Rattle.std.specs.declared.alloc.AllocError.{AllocError}
use Rattle.std.proofs.lemmas.Option.{slice_get_within}
use Rattle.ctw_ops.specs.declared.types.Label.{Label}
use Rattle.ctw_ops.specs.declared.types.ExternTag.TheVariants.{Func, Memory, Global, Table}
use Rattle.ctw_ops.specs.declared.types.Width.{Width}
use Rattle.ctw_ops.specs.Code as ops
use Rattle.ctw_ops.specs.Code.{Code, Leaf, Plain, Then}
use Rattle.ctw_flat.specs.declared.instr.Instr.{Instr}
use Rattle.ctw_flat.specs.Instructions.{op_of}
use Rattle.ctw_semantics.specs.Values.{Value}
use Rattle.ctw_semantics.specs.Stores.{Storage}
use Rattle.ctw_semantics.specs.Instances.{FunctionInstance}
use Rattle.ctw_semantics.specs.Machine.{Here}
use Rattle.ctw_link.specs.declared.set.Part.{Part}
use Rattle.ctw_link.specs.Sets.{set_of}
use Rattle.ctw_link.specs.Numbers.{number_in}
use Rattle.ctw_step.specs.declared.running.Stepped.{Stepped}
use Rattle.ctw_step.specs.Shown.{Shown}
use Rattle.ctw_link.specs.Linked.{code_in}
use Rattle.ctw_step.specs.SetInstances.{instances}
use Rattle.ctw_step.specs.Told.{Knowing, Nothing, Runs, Does, RunsAlone, DoesAlone, Meets}
use Rattle.ctw_step.specs.Reducing.{InPart, CanReduce, Reduces}
use Rattle.ctw_step.proofs.Views.{given_is, AtLeaf, leaf_view}
use Rattle.ctw_step.proofs.Homes.{Home, home, home_memory, home_global, home_function, home_table}

module _ (parts : List Part) (part : ℕ) (bytes : List ℕ) (c : Shown) (i j : Instr) (next : ℕ) (s : Storage) (e : i ≡ j) where
  pub runs_as : (known : Knowing) (r : CanReduce parts part bytes c i next s) → known (code_in parts) (instances parts) r.fn → Runs known bytes c j next s
  runs_as known r k = record {
    codes = code_in parts;
    fns = instances parts;
    fn = r.fn;
    place = r.place;
    code = r.code;
    values = r.values;
    knows = k;
    meets = subst (λ i. Meets (code_in parts) bytes c i next (instances parts) r.fn s r.place r.code r.values) e r.meets;
  }

  pub done_as : (known : Knowing) (result : Result Stepped AllocError) (c' : Shown) (s' : Storage)
      → ((fn : FunctionInstance) (h : Here) (code : Code Label) (vs : List Value) → InPart parts part h.func fn → Meets (code_in parts) bytes c j next (instances parts) fn s h code vs → known (code_in parts) (instances parts) fn)
      → Does known bytes c j next s result c' s' → Reduces parts part bytes c i next s result c' s'
  done_as known result c' s' k d fn h code vs p m =
      let m' = subst (λ i. Meets (code_in parts) bytes c i next (instances parts) fn s h code vs) e m in
      d (code_in parts) (instances parts) fn h code vs (k fn h code vs p m') m'

  pub runs_alone : CanReduce parts part bytes c i next s → RunsAlone c j next
  runs_alone r = (bytes, s, runs_as Nothing r tt)

  pub done_alone : (result : Result Stepped AllocError) (c' : Shown) → DoesAlone c j next result c' → Reduces parts part bytes c i next s result c' s
  done_alone result c' d = done_as Nothing result c' s (λ fn h code vs p m. tt) (d bytes s)

  -- for a form that says it of each place of a set
  pub moved : CanReduce parts part bytes c i next s → CanReduce parts part bytes c j next s
  moved r = subst (λ i. CanReduce parts part bytes c i next s) e r

  pub moved_back : (result : Result Stepped AllocError) (c' : Shown) (s' : Storage) → Reduces parts part bytes c j next s result c' s' → Reduces parts part bytes c i next s result c' s'
  moved_back result c' s' d = λ fn h code vs p m. d fn h code vs p (subst (λ i. Meets (code_in parts) bytes c i next (instances parts) fn s h code vs) e m)

-- ---- what is known in a part

module _ (parts : List Part) (part func : ℕ) (fn : FunctionInstance) (p : InPart parts part func fn) where
  pub at_home : Home parts func part p.index fn
  at_home = home parts func part p.index fn p.owner p.found

  pub memory_known : (n : ℕ) → number_in (set_of parts) Memory part 0 ≡ Some n → fn.part.memory ≡ Some n
  memory_known n e = home_memory parts func part p.index fn at_home ∙ e

  pub memory_number : (n : ℕ) → fn.part.memory ≡ Some n → number_in (set_of parts) Memory part 0 ≡ Some n
  memory_number n e = sym (home_memory parts func part p.index fn at_home) ∙ e

  pub table_known : (n : ℕ) → number_in (set_of parts) Table part 0 ≡ Some n → fn.part.table ≡ Some n
  table_known n e = home_table parts func part p.index fn at_home ∙ e

  pub table_number : (n : ℕ) → fn.part.table ≡ Some n → number_in (set_of parts) Table part 0 ≡ Some n
  table_number n e = sym (home_table parts func part p.index fn at_home) ∙ e

  pub global_known : (x n : ℕ) → number_in (set_of parts) Global part x ≡ Some n → slice_get fn.part.globals x ≡ Some n
  global_known x n e = home_global parts func part p.index fn at_home x ∙ e

  pub global_number : (x n : ℕ) → slice_get fn.part.globals x ≡ Some n → number_in (set_of parts) Global part x ≡ Some n
  global_number x n e = sym (home_global parts func part p.index fn at_home x) ∙ e

  pub function_known : (x n : ℕ) → number_in (set_of parts) Func part x ≡ Some n → slice_get fn.part.functions x ≡ Some n
  function_known x n e = home_function parts func part p.index fn at_home x ∙ e

  pub function_number : (x n : ℕ) → slice_get fn.part.functions x ≡ Some n → number_in (set_of parts) Func part x ≡ Some n
  function_number x n e = sym (home_function parts func part p.index fn at_home x) ∙ e

  pub part_within : part < length parts
  part_within = slice_get_within parts part at_home.p at_home.is

-- ---- what an instruction that isn't stuck names

module _ (parts : List Part) (part : ℕ) (bytes : List ℕ) (c : Shown) (i : Instr) (next : ℕ) (s : Storage) (r : CanReduce parts part bytes c i next s) where
  abbrev View : Leaf Label → Type 0
  View l = AtLeaf (code_in parts) bytes c next (instances parts) r.fn s r.place r.code r.values l

  view : (l : Leaf Label) → op_of i ≡ Plain l → View l
  view l e = leaf_view (code_in parts) bytes c next (instances parts) r.fn s r.place r.code r.values i l e r.meets

  abbrev Number : Type 0
  Number = (n : ℕ) × (number_in (set_of parts) Memory part 0 ≡ Some n)

  number_of_memory : (n : ℕ) → r.fn.part.memory ≡ Some n → Number
  number_of_memory n e = (n, memory_number parts part r.place.func r.fn r.inside n e)

  pub load_memory : (w : Width) (l : Label) (count : ℕ) (signed : Bool) (align offset : ℕ) → op_of i ≡ Plain (ops.Load w l count signed align offset) → Number
  load_memory w l count signed align offset e = let g = given_is r.fn.part.memory _ (view (ops.Load w l count signed align offset) e).going in number_of_memory g.x g.is

  pub store_memory : (w : Width) (l : Label) (count : ℕ) (align offset : ℕ) → op_of i ≡ Plain (ops.Store w l count align offset) → Number
  store_memory w l count align offset e = let g = given_is r.fn.part.memory _ (view (ops.Store w l count align offset) e).going in number_of_memory g.x g.is

  pub size_memory : op_of i ≡ Plain ops.MemorySize → Number
  size_memory e = let g = given_is r.fn.part.memory _ (view ops.MemorySize e).going in number_of_memory g.x g.is

  pub grow_memory : op_of i ≡ Plain ops.MemoryGrow → Number
  grow_memory e = let g = given_is r.fn.part.memory _ (view ops.MemoryGrow e).going in number_of_memory g.x g.is

  pub get_global : (x : ℕ) → op_of i ≡ Plain (ops.GlobalGet x) → (n : ℕ) × (number_in (set_of parts) Global part x ≡ Some n)
  get_global x e = let g = given_is (slice_get r.fn.part.globals x) _ (view (ops.GlobalGet x) e).going in (g.x, global_number parts part r.place.func r.fn r.inside x g.x g.is)

  pub set_global : (x : ℕ) → op_of i ≡ Plain (ops.GlobalSet x) → (n : ℕ) × (number_in (set_of parts) Global part x ≡ Some n)
  set_global x e = let g = given_is (slice_get r.fn.part.globals x) _ (view (ops.GlobalSet x) e).going in (g.x, global_number parts part r.place.func r.fn r.inside x g.x g.is)

  pub call_function : (x : ℕ) → op_of i ≡ Plain (ops.Call x) → (n : ℕ) × (number_in (set_of parts) Func part x ≡ Some n)
  call_function x e = let g = given_is (slice_get r.fn.part.functions x) _ (view (ops.Call x) e).going in (g.x, function_number parts part r.place.func r.fn r.inside x g.x g.is)

-- the function that a call leads to
pub call_target : (parts : List Part) (bytes : List ℕ) (c : Shown) (i : Instr) (next : ℕ) (s : Storage) (fn : FunctionInstance) (h : Here) (code : Code Label) (vs : List Value) (x n : ℕ) → op_of i ≡ Plain (ops.Call x)
    → Meets (code_in parts) bytes c i next (instances parts) fn s h code vs → slice_get fn.part.functions x ≡ Some n → (target : FunctionInstance) × (slice_get (instances parts) n ≡ Some target)
call_target parts bytes c i next s fn h code vs x n e m k =
    let a = leaf_view (code_in parts) bytes c next (instances parts) fn s h code vs i (ops.Call x) e m in
    let g = given_is (slice_get fn.part.functions x) _ a.going in
    let t = given_is (slice_get (instances parts) g.x) _ g.going in
    let q : Some g.x ≡ Some n = sym g.is ∙ k in
    let same : g.x ≡ n = cc in
    (t.x, ap (slice_get (instances parts)) (sym same) ∙ t.is)
