-- The start function of a part, as it runs.
use Rattle.std.proofs.Common.{◌≡◌, ◌≤◌, ◌<◌, ℕ, ◌+◌, List, [], length, take, drop, get_or, slice_get, Option, Some, None, IfSome, Err, option_and_then, sym, ap, ◌∙◌, subst, arith}
use Rattle.std.proofs.lemmas.Option.{same_Some, slice_get-get_or, slice_get_within}
use Rattle.ctw_ops.specs.declared.types.ExternTag.TheVariants.{Func}
use Rattle.ctw_ops.specs.declared.types.Label.{Label}
use Rattle.ctw_ops.specs.Types.{ValueType, FunctionType}
use Rattle.ctw_ops.specs.Tree.{function_entries}
use Rattle.ctw_ops.specs.Valid.{IsValid, IsStart}
use Rattle.ctw_ops.specs.Limits.{most_weight}
use Rattle.ctw_ops.proofs.Lists.{all_get}
use Rattle.ctw_script.specs.declared.trap.TrapCode.{TrapCode}
use Rattle.ctw_semantics.specs.Values.{Value}
use Rattle.ctw_semantics.specs.Stores.{Storage}
use Rattle.ctw_semantics.specs.Instances.{FunctionInstance, Functions}
use Rattle.ctw_semantics.specs.Activations.{Activation}
use Rattle.ctw_semantics.specs.Machine.{begun}
use Rattle.ctw_semantics.specs.Sound.{Shape, SoundSet, HasTypes}
use Rattle.ctw_semantics.specs.Steps as Steps
use Rattle.ctw_semantics.specs.Steps.{Left, Running, Finished, turn}
use Rattle.ctw_module.specs.Trees.{tree}
use Rattle.ctw_link.specs.declared.set.Part.{Part}
use Rattle.ctw_link.specs.Sets.{AllWithinLimits, part_in, set_of}
use Rattle.ctw_link.specs.Numbers.{LinkedModule, linked, linked_module, number_in}
use Rattle.ctw_link.specs.Matching.{AreMatching}
use Rattle.ctw_link.specs.Linked.{CanBeLinked, HasFunction}
use Rattle.ctw_link.specs.SetInstances.{set_instances}
use Rattle.ctw_link.proofs.LinkedParts.{all_at}
use Rattle.ctw_link.proofs.LinkedFronts.{linked_at, linked_length}
use Rattle.ctw_link.proofs.Lists.{mapped_at, drop_next}
use Rattle.ctw_launch.specs.Launched.{Started, Stands, Fails, StartTrapped, StartUnfinished, after_start, start_function, start_number, started}
use Rattle.ctw_launch.proofs.Pairs.{paired_get}
use Rattle.ctw_launch.proofs.Leading.{HasNamed, Leads}
use Rattle.ctw_launch.proofs.Parts.{all_lead, valid_linked}
use Rattle.ctw_launch.proofs.SoundLaunch.{IsLight, all_light}
use Rattle.ctw_launch.proofs.SoundSets.{sound_set}
use Rattle.ctw_session.specs.Launches.{IsStoreIn, IsNamed, StartsPart, Starts}
use Rattle.ctw_session.specs.declared.fault.LaunchFault.{LaunchFault}
use Rattle.ctw_session.specs.declared.fault.LaunchFault.TheVariants as Faults
use Rattle.std.proofs.lemmas.List.{length-map, drop_all}
use Rattle.ctw_session.proofs.Copying.{at_number}
use Rattle.ctw_session.proofs.Exporting.{linkable_valid}

pub part_here : (seen parts : List Part) (k : ℕ) (d : Part) → seen ≡ parts → k < length parts → slice_get parts k ≡ Some (get_or seen k d)
part_here seen parts k d e lt = ap (λ (l : List Part). slice_get l k) (sym e) ∙ slice_get-get_or seen k d (omega (arith, lt, ap length e))

-- what is known of a start function
pub record StartOf (parts : List Part) (p : LinkedModule) (index func : ℕ) : Type 0 where
  pub fn : FunctionInstance
  pub found : slice_get (set_instances (set_of parts)) func ≡ Some fn
  pub params : fn.type.params ≡ []
  pub number : option_and_then (slice_get p.numbers.functions) p.tree.start ≡ Some func
  pub light : 1 + length fn.type.params + length fn.locals ≤ most_weight

module _ (parts : List Part) (can : CanBeLinked parts) (matching : AreMatching (set_of parts)) (limits : AllWithinLimits (set_of parts)) (shape : Shape) (s : Storage) (h : IsStoreIn parts shape s) (k : ℕ) (P : Part) (at : slice_get parts k ≡ Some P) (p : LinkedModule) (there : slice_get (linked (set_of parts)) k ≡ Some p) where
  fns : Functions
  fns = set_instances (set_of parts)

  p_is : p ≡ linked_module (linked (take k (set_of parts))) (part_in P)
  p_is = same_Some p _ (sym there ∙ linked_at (set_of parts) k (part_in P) (mapped_at part_in parts k P at))

  pub named : IsNamed parts k p.name
  named = (P, at, ap (λ (q : LinkedModule). q.name) (sym p_is))

  pub start_is : (o : Option ℕ) → o ≡ (tree P.«module»).start → p.tree.start ≡ o
  start_is o e = ap (λ (q : LinkedModule). q.tree.start) p_is ∙ sym e

  pub functions_sound : SoundSet (set_instances (set_of parts)) shape
  functions_sound = sound_set (set_of parts) shape matching (linkable_valid parts can) h.declared

  start_valid : (index : ℕ) → p.tree.start ≡ Some index → IsStart p.tree index
  start_valid index e =
      subst (λ (o : Option ℕ). IfSome o (IsStart p.tree)) e (all_at (λ (q : LinkedModule). IsValid q.tree) (linked (set_of parts)) k p (valid_linked (set_of parts) (linkable_valid parts can)) there).around.start

  pub start_of : (index func : ℕ) → p.tree.start ≡ Some index → number_in (set_of parts) Func k index ≡ Some func → StartOf parts p index func
  start_of index func e number =
      let v = start_valid index e in
      let leads = all_at (Leads (set_instances (set_of parts)) shape) (linked (set_of parts)) k p (all_lead (set_of parts) shape matching.imports (linkable_valid parts can) h.declared) there in
      let n = paired_get (HasNamed (set_instances (set_of parts)) p.tree) (function_entries p.tree) p.numbers.functions index v.0 leads.functions v.1 in
      let same : n.0 ≡ func = same_Some n.0 func (sym n.1 ∙ (sym (ap (option_and_then (λ (q : LinkedModule). slice_get q.numbers.functions index)) there) ∙ number)) in
      let found : slice_get (set_instances (set_of parts)) func ≡ Some n.2.0 = ap (slice_get (set_instances (set_of parts))) (sym same) ∙ n.2.1 in
      record {
        fn = n.2.0;
        found = found;
        params = ap (λ (t : FunctionType Label). t.params) n.2.2 ∙ v.2;
        number = ap (option_and_then (slice_get p.numbers.functions)) e ∙ (n.1 ∙ ap Some same);
        light = all_get IsLight (set_instances (set_of parts)) func n.2.0 (all_light (set_of parts) limits) found;
      }

  pub has_function : (index : ℕ) → Some index ≡ (tree P.«module»).start → HasFunction parts k index
  has_function index e =
      let v = start_valid index (start_is (Some index) e) in
      (P, at, slice_get_within (function_entries (tree P.«module»)) index v.0 (ap (λ (q : LinkedModule). slice_get (function_entries q.tree) index) (sym p_is) ∙ v.1))

-- ---- how it ends

module _ (parts : List Part) (p : LinkedModule) (index func steps : ℕ) (x : StartOf parts p index func) (s : Storage) where
  abbrev pub the_turn : Steps.Turned
  the_turn = turn steps (set_instances (set_of parts)) s (begun func x.fn [])

  abbrev starting : (Storage → Started) → Started
  starting go = start_number steps (set_instances (set_of parts)) p.name s (option_and_then (slice_get p.numbers.functions) p.tree.start) go

  starts : (go : Storage → Started) → starting go ≡ after_start p.name the_turn.storage the_turn.left go
  starts go =
      ap (λ (o : Option ℕ). start_number steps (set_instances (set_of parts)) p.name s o go) x.number
      ∙ ap (λ (o : Option FunctionInstance). start_function steps (set_instances (set_of parts)) p.name s func o go) x.found

  pub no_types : HasTypes x.fn.type.params []
  no_types = subst (λ (l : List (ValueType Label)). HasTypes l []) (sym x.params) tt

  pub ended : (w : Option Value) (new : Storage) → the_turn.left ≡ Finished w → the_turn.storage ≡ new → (go : Storage → Started) → starting go ≡ go new
  ended w new e f go = starts go ∙ ap (λ (y : Left). after_start p.name the_turn.storage y go) e ∙ ap go f

  pub trapped : (code : TrapCode) → the_turn.left ≡ Steps.Trapped code → (go : Storage → Started) → starting go ≡ Fails (StartTrapped p.name code)
  trapped code e go = starts go ∙ ap (λ (y : Left). after_start p.name the_turn.storage y go) e

  pub unfinished : (a : Activation) → the_turn.left ≡ Running a → (go : Storage → Started) → starting go ≡ Fails (StartUnfinished p.name)
  unfinished a e go = starts go ∙ ap (λ (y : Left). after_start p.name the_turn.storage y go) e

pub no_start : (parts : List Part) (p : LinkedModule) (steps : ℕ) (s : Storage) → p.tree.start ≡ None → (go : Storage → Started) → start_number steps (set_instances (set_of parts)) p.name s (option_and_then (slice_get p.numbers.functions) p.tree.start) go ≡ go s
no_start parts p steps s e go = ap (λ (o : Option ℕ). start_number steps (set_instances (set_of parts)) p.name s (option_and_then (slice_get p.numbers.functions) o) go) e

pub some_linked : (parts : List Part) (k : ℕ) → k < length parts → (p : LinkedModule) × (slice_get (linked (set_of parts)) k ≡ Some p)
some_linked parts k lt = at_number (linked (set_of parts)) k (omega (arith, lt, linked_length (set_of parts), length-map parts part_in))

-- ---- part by part

module _ (parts : List Part) (n k : ℕ) (p : LinkedModule) (s : Storage) (there : slice_get (linked (set_of parts)) k ≡ Some p) where
  pub started_next : started n (set_instances (set_of parts)) (drop k (linked (set_of parts))) s
      ≡ start_number n (set_instances (set_of parts)) p.name s (option_and_then (slice_get p.numbers.functions) p.tree.start) (started n (set_instances (set_of parts)) (drop (k + 1) (linked (set_of parts))))
  started_next = ap (λ (l : List LinkedModule). started n (set_instances (set_of parts)) l s) (drop_next (linked (set_of parts)) k p there)

pub failed : (parts : List Part) (shape : Shape) (k steps : ℕ) (p : LinkedModule) (old new : Storage) (x : Started) (go : Storage → Started) → x ≡ start_number steps (set_instances (set_of parts)) p.name old (option_and_then (slice_get p.numbers.functions) p.tree.start) go
    → (fault : LaunchFault) → StartsPart parts shape k steps p old (Err fault) new → Starts parts shape x (Err fault) new
failed parts shape k steps p old new x go e (Faults.SegmentOutside part space index) h = (h.0, e ∙ h.2 go, h.1)
failed parts shape k steps p old new x go e (Faults.StartTrapped part code) h = (h.0, e ∙ h.2 go, h.1)
failed parts shape k steps p old new x go e (Faults.StartUnfinished part) h = (h.0, e ∙ h.2 go, h.1)
failed parts shape k steps p old new x go e Faults.NoMemory h = tt

pub all_started : (parts : List Part) (n k : ℕ) (s : Storage) → length parts ≤ k → started n (set_instances (set_of parts)) (drop k (linked (set_of parts))) s ≡ Stands s
all_started parts n k s le =
    ap (λ (l : List LinkedModule). started n (set_instances (set_of parts)) l s) (drop_all k (linked (set_of parts)) (omega (arith, le, linked_length (set_of parts), length-map parts part_in)))
