-- A launched store is sound.
use Rattle.std.proofs.Common.{◌≡◌, ◌≤◌, ◌+◌, ℕ, List, [], ◌∷◌, length, map, slice_get, Option, Some, None, option_map, option_and_then, unwrap_or, All, refl, sym, ap, subst, ◌∙◌, arith}
use Rattle.std.specs.Prelude.{IfSome}
use Rattle.std.proofs.lemmas.List.Elements.{All-head, All-tail, All-map, All-weaker}
use Rattle.std.proofs.lemmas.Option.{slice_get-map, same_Some}
use Rattle.ctw_ops.specs.declared.types.Label.{Label}
use Rattle.ctw_ops.specs.Types.{ValueType, FunctionType}
use Rattle.ctw_ops.specs.Tree.{Module, Function, TypeEntry, function_entries, no_function_type, type_named}
use Rattle.ctw_ops.specs.Valid.{IsStart, IsValid}
use Rattle.ctw_semantics.specs.Stores.{Storage}
use Rattle.ctw_semantics.specs.Instances.{FunctionInstance, Functions}
use Rattle.ctw_ops.specs.Limits.{most_weight}
use Rattle.ctw_semantics.specs.Machine.{begun}
use Rattle.ctw_semantics.specs.Steps as Steps
use Rattle.ctw_semantics.specs.Steps.{Left, Running, Finished, turn}
use Rattle.ctw_semantics.specs.Sound.{Shape, SoundStorage, SoundSet, HasTypes, shape_of}
use Rattle.ctw_semantics.specs.Modules.{instance_of}
use Rattle.ctw_ops.proofs.Lists.{all_get}
use Rattle.ctw_semantics.proofs.Begun.{begun_sound}
use Rattle.ctw_semantics.proofs.SoundSteps.{turn_sound}
use Rattle.ctw_ops.specs.Limits.{most_params, most_locals}
use Rattle.ctw_link.specs.Sets.{NamedModule, ModuleSet}
use Rattle.ctw_link.specs.Numbers.{LinkedModule, linked}
use Rattle.ctw_link.specs.Matching.{AreMatching}
use Rattle.ctw_link.specs.SetInstances.{module_instance, instances_in, set_instances, AllValid}
use Rattle.ctw_ops.specs.WithinLimits.{IsWithinLimits}
use Rattle.ctw_link.specs.Sets.{AllWithinLimits}
use Rattle.ctw_launch.specs.Launched.{LaunchFault, outside, allocated, loaded, Started, Stands, after_start, start_function, start_number, started, unless_outside, launched_within}
use Rattle.ctw_link.proofs.LinkedFronts.{bare, bare_linked}
use Rattle.ctw_launch.proofs.Pairs.{paired_get}
use Rattle.ctw_launch.proofs.Leading.{HasNamed, Leads}
use Rattle.ctw_launch.proofs.Parts.{valid_linked, all_lead}
use Rattle.ctw_launch.proofs.Within.{all_flat, all_unmap}
use Rattle.ctw_launch.proofs.SoundSets.{sound_set}
use Rattle.ctw_launch.proofs.SoundStores.{loaded_sound}
use Rattle.ctw_launch.proofs.Loading.{loaded_shape}

-- ---- calls that aren't too heavy

abbrev pub IsLight : FunctionInstance → Type 0
IsLight fn = 1 + length fn.type.params + length fn.locals ≤ most_weight

few_params : (m : Module Label) (y : ℕ) → IsWithinLimits m → length (type_named m y).params ≤ most_params
few_params m y s = go (slice_get m.types y) refl
  where
    go : (o : Option (TypeEntry Label)) → slice_get m.types y ≡ o → length (unwrap_or (slice_get (map (λ (entry : TypeEntry Label). entry.type) m.types) y) no_function_type).params ≤ most_params
    go o e = rw (slice_get-map (λ (entry : TypeEntry Label). entry.type) m.types y, e) (by o e)
      where
        by : (o : Option (TypeEntry Label)) → slice_get m.types y ≡ o → length (unwrap_or (option_map (λ (entry : TypeEntry Label). entry.type) o) no_function_type).params ≤ most_params
        by None e = omega arith
        by (Some entry) e = all_get (λ (entry : TypeEntry Label). length entry.type.params ≤ most_params) m.types y entry s.params e

part_light : (q : LinkedModule) → IsWithinLimits q.tree → All IsLight (instances_in q)
unfolding most_weight most_params most_locals
part_light q s =
    All-map IsLight (instance_of (module_instance q) q.tree) q.tree.functions
    (All-weaker (λ (f : Function Label). length f.locals ≤ most_locals) (λ f. IsLight (instance_of (module_instance q) q.tree f)) (λ f l. let p = few_params q.tree f.type s in omega (arith, l, p)) q.tree.functions s.locals)

pub all_light : (set : ModuleSet) → AllWithinLimits set → All IsLight (set_instances set)
all_light set h =
    let small = all_unmap (λ (p : NamedModule). IsWithinLimits p.tree) bare (linked set) (subst AllWithinLimits (sym (bare_linked set)) h) in
    all_flat IsLight instances_in (linked set) (All-weaker (λ (q : LinkedModule). IsWithinLimits q.tree) (λ q. All IsLight (instances_in q)) part_light (linked set) small)

-- ---- start functions

module _ (most : ℕ) (fns : Functions) (shape : Shape) (set : SoundSet fns shape) (light : All IsLight fns) (end : Storage) where
  -- where this launch ends well, the store is sound
  abbrev EndsSound : Started → Type 0
  EndsSound x = x ≡ Stands end → SoundStorage shape end

  pub no_params : (ts : List (ValueType Label)) → ts ≡ [] → HasTypes ts []
  no_params ts e = subst (λ (l : List (ValueType Label)). HasTypes l []) (sym e) tt

  ended : (name : List ℕ) (s : Storage) (l : Left) (go : Storage → Started) → SoundStorage shape s → ((t : Storage) → SoundStorage shape t → EndsSound (go t)) → EndsSound (after_start name s l go)
  ended name s (Running a) go ss h e = absurd cc
  ended name s (Finished v) go ss h e = h s ss e
  ended name s (Steps.Trapped code) go ss h e = absurd cc
  ended name s Steps.Stuck go ss h e = absurd cc

  function_starts : (name : List ℕ) (s : Storage) (n : ℕ) (o : Option FunctionInstance) (go : Storage → Started) → slice_get fns n ≡ o → ((fn : FunctionInstance) → o ≡ Some fn → fn.type.params ≡ []) → SoundStorage shape s
      → ((t : Storage) → SoundStorage shape t → EndsSound (go t)) → EndsSound (start_function most fns name s n o go)
  function_starts name s n None go is p ss h e = h s ss e
  function_starts name s n (Some fn) go is p ss h e =
      let call = begun_sound fns shape set n fn [] is (no_params fn.type.params (p fn refl)) (all_get IsLight fns n fn light is) in
      let x = turn_sound fns shape fn.type.result set most s (begun n fn []) ss call in
      ended name (turn most fns s (begun n fn [])).storage (turn most fns s (begun n fn [])).left go x.storage h e

  number_starts : (name : List ℕ) (s : Storage) (o : Option ℕ) (go : Storage → Started) → ((n : ℕ) (fn : FunctionInstance) → o ≡ Some n → slice_get fns n ≡ Some fn → fn.type.params ≡ []) → SoundStorage shape s
      → ((t : Storage) → SoundStorage shape t → EndsSound (go t)) → EndsSound (start_number most fns name s o go)
  number_starts name s None go p ss h e = h s ss e
  number_starts name s (Some n) go p ss h e = function_starts name s n (slice_get fns n) go refl (λ fn is. p n fn refl is) ss h e

  pub start_plain : (q : LinkedModule) → Leads fns shape q → (o : Option ℕ) → IfSome o (IsStart q.tree) → (n : ℕ) (fn : FunctionInstance) → option_and_then (slice_get q.numbers.functions) o ≡ Some n → slice_get fns n ≡ Some fn → fn.type.params ≡ []
  start_plain q h None v n fn e is = absurd cc
  start_plain q h (Some f) v n fn e is =
      let at = paired_get (HasNamed fns q.tree) (function_entries q.tree) q.numbers.functions f v.0 h.functions v.1 in
      let same : at.0 ≡ n = same_Some at.0 n (sym at.1 ∙ e) in
      let callee : at.2.0 ≡ fn = same_Some at.2.0 fn (sym at.2.1 ∙ ap (slice_get fns) same ∙ is) in
      ap (λ (g : FunctionInstance). g.type.params) (sym callee) ∙ ap (λ (t : FunctionType Label). t.params) at.2.2 ∙ v.2

  parts_start : (parts : List LinkedModule) → All (Leads fns shape) parts → All (λ q. IsValid q.tree) parts → (s : Storage) → SoundStorage shape s → EndsSound (started most fns parts s)
  parts_start [] l v s ss e = let q : ◌≡◌ {A = Storage} s end = cc in subst (SoundStorage shape) q ss
  parts_start (q ∷ parts) l v s ss e =
      let valid = All-head (λ (q : LinkedModule). IsValid q.tree) q parts v in
      number_starts q.name s (option_and_then (slice_get q.numbers.functions) q.tree.start) (started most fns parts) (start_plain q (All-head (Leads fns shape) q parts l) q.tree.start valid.around.start) ss
      (parts_start parts (All-tail (Leads fns shape) q parts l) (All-tail (λ (q : LinkedModule). IsValid q.tree) q parts v)) e

-- ---- the whole launch

module _ (set : ModuleSet) (m : AreMatching set) (v : AllValid set) (small : AllWithinLimits set) where
  pub loaded_set : SoundSet (set_instances set) (shape_of (loaded set))
  loaded_set = sound_set set (shape_of (loaded set)) m v (loaded_shape set)

  pub launched_sound : (most : ℕ) (s : Storage) → launched_within most set ≡ Stands s → SoundStorage (shape_of (loaded set)) s
  unfolding launched_within
  launched_sound most s e = go (outside (allocated (linked set)) (linked set)) refl e
    where
      go : (o : Option LaunchFault) → outside (allocated (linked set)) (linked set) ≡ o → unless_outside o (started most (set_instances set) (linked set) (loaded set)) ≡ Stands s → SoundStorage (shape_of (loaded set)) s
      go None is e =
          parts_start most (set_instances set) (shape_of (loaded set)) loaded_set (all_light set small) s (linked set) (all_lead set (shape_of (loaded set)) m.imports v (loaded_shape set)) (valid_linked set v) (loaded set)
          (loaded_sound set m v small is) e
      go (Some fault) is e = absurd cc
