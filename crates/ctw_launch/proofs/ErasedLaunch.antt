-- The erased set is launched exactly where the set is, with the erased store, or with the same fault.
use Rattle.std.proofs.Common.{◌≡◌, ℕ, List, [], ◌∷◌, map, slice_get, Option, Some, None, option_map, option_and_then, All, refl, sym, ap, ap₂, ◌∙◌}
use Rattle.std.proofs.lemmas.List.Elements.{All-head, All-tail}
use Rattle.std.proofs.lemmas.Option.{slice_get-map}
use Rattle.ctw_ops.specs.Valid.{IsValid}
use Rattle.ctw_semantics.specs.Stores.{Storage}
use Rattle.ctw_semantics.specs.Instances.{FunctionInstance, Functions}
use Rattle.ctw_semantics.specs.Activations.{Activation}
use Rattle.ctw_semantics.specs.Machine.{begun}
use Rattle.ctw_semantics.specs.Steps as Steps
use Rattle.ctw_semantics.specs.Steps.{Left, Running, Finished, Turned, turn}
use Rattle.ctw_semantics.specs.Sound.{Shape, SoundStorage, SoundSet, shape_of}
use Rattle.ctw_semantics.specs.Erased.{erase_instance, erase_functions, erase_storage, erase_left, erase_turned}
use Rattle.ctw_ops.proofs.Lists.{all_get}
use Rattle.ctw_semantics.proofs.Begun.{begun_sound, begun_erased}
use Rattle.ctw_semantics.proofs.SoundSteps.{turn_sound}
use Rattle.ctw_semantics.proofs.ErasedSteps.{turn_erased}
use Rattle.ctw_link.specs.Sets.{ModuleSet}
use Rattle.ctw_link.specs.Numbers.{LinkedModule, linked}
use Rattle.ctw_link.specs.Matching.{AreMatching}
use Rattle.ctw_link.specs.SetInstances.{set_instances, AllValid}
use Rattle.ctw_link.specs.Sets.{AllWithinLimits}
use Rattle.ctw_launch.specs.Launched.{LaunchFault, outside, allocated, loaded, Started, after_start, start_function, start_number, started, unless_outside, launched_within}
use Rattle.ctw_launch.specs.ErasedSets.{erase_set, erase_started}
use Rattle.ctw_launch.proofs.Leading.{Leads}
use Rattle.ctw_launch.proofs.Parts.{valid_linked, all_lead}
use Rattle.ctw_launch.proofs.Loading.{loaded_shape}
use Rattle.ctw_launch.proofs.SoundStores.{loaded_sound}
use Rattle.ctw_launch.proofs.SoundLaunch.{IsLight, all_light, no_params, start_plain, loaded_set}
use Rattle.ctw_launch.proofs.ErasedLinks.{erase_linked, linked_erased, set_erased}
use Rattle.ctw_launch.proofs.ErasedLoad.{loaded_erased, outside_erased}

module _ (most : ℕ) (fns : Functions) (shape : Shape) (set : SoundSet fns shape) (light : All IsLight fns) where
  -- what goes on goes on in the same way in the erased set
  abbrev Goes : (Storage → Started) → (Storage → Started) → Type 0
  Goes go go' = (t : Storage) → SoundStorage shape t → go' (erase_storage t) ≡ erase_started (go t)

  ended_erased : (name : List ℕ) (s : Storage) (l : Left) (go go' : Storage → Started) → SoundStorage shape s → Goes go go' → after_start name (erase_storage s) (erase_left fns l) go' ≡ erase_started (after_start name s l go)
  ended_erased name s (Running a) go go' ss h = refl
  ended_erased name s (Finished v) go go' ss h = h s ss
  ended_erased name s (Steps.Trapped code) go go' ss h = refl
  ended_erased name s Steps.Stuck go go' ss h = refl

  function_erased : (name : List ℕ) (s : Storage) (n : ℕ) (o : Option FunctionInstance) (go go' : Storage → Started) → slice_get fns n ≡ o → ((fn : FunctionInstance) → o ≡ Some fn → fn.type.params ≡ []) → SoundStorage shape s → Goes go go'
      → start_function most (erase_functions fns) name (erase_storage s) n (option_map erase_instance o) go' ≡ erase_started (start_function most fns name s n o go)
  function_erased name s n None go go' is p ss h = h s ss
  function_erased name s n (Some fn) go go' is p ss h =
      let call = begun_sound fns shape set n fn [] is (no_params most fns shape set light s fn.type.params (p fn refl)) (all_get IsLight fns n fn light is) in
      let x = turn_sound fns shape fn.type.result set most s (begun n fn []) ss call in
      let same : turn most (erase_functions fns) (erase_storage s) (begun n (erase_instance fn) []) ≡ erase_turned fns (turn most fns s (begun n fn [])) =
      ap (λ (a : Activation). turn most (erase_functions fns) (erase_storage s) a) (sym (begun_erased fns n fn [] is)) ∙ sym (turn_erased fns shape fn.type.result set most s (begun n fn []) ss call) in
      ap (λ (t : Turned). after_start name t.storage t.left go') same ∙ ended_erased name (turn most fns s (begun n fn [])).storage (turn most fns s (begun n fn [])).left go go' x.storage h

  number_erased : (name : List ℕ) (s : Storage) (o : Option ℕ) (go go' : Storage → Started) → ((n : ℕ) (fn : FunctionInstance) → o ≡ Some n → slice_get fns n ≡ Some fn → fn.type.params ≡ []) → SoundStorage shape s → Goes go go'
      → start_number most (erase_functions fns) name (erase_storage s) o go' ≡ erase_started (start_number most fns name s o go)
  number_erased name s None go go' p ss h = h s ss
  number_erased name s (Some n) go go' p ss h =
      ap (λ (o : Option FunctionInstance). start_function most (erase_functions fns) name (erase_storage s) n o go') (slice_get-map erase_instance fns n) ∙ function_erased name s n (slice_get fns n) go go' refl (λ fn is. p n fn refl is) ss h

  parts_erased : (parts : List LinkedModule) → All (Leads fns shape) parts → All (λ q. IsValid q.tree) parts → Goes (started most fns parts) (started most (erase_functions fns) (map erase_linked parts))
  parts_erased [] l v s ss = refl
  parts_erased (q ∷ parts) l v s ss =
      let valid = All-head (λ (q : LinkedModule). IsValid q.tree) q parts v in
      number_erased q.name s (option_and_then (slice_get q.numbers.functions) q.tree.start) (started most fns parts) (started most (erase_functions fns) (map erase_linked parts))
      (start_plain most fns shape set light s q (All-head (Leads fns shape) q parts l) q.tree.start valid.around.start) ss
      (parts_erased parts (All-tail (Leads fns shape) q parts l) (All-tail (λ (q : LinkedModule). IsValid q.tree) q parts v))

pub launched_erased : (most : ℕ) (set : ModuleSet) → AreMatching set → AllValid set → AllWithinLimits set → launched_within most (erase_set set) ≡ erase_started (launched_within most set)
unfolding launched_within
launched_erased most set m v small =
    ap₂ (λ (o : Option LaunchFault) (fns : Functions). unless_outside o (started most fns (linked (erase_set set)) (loaded (erase_set set)))) (outside_erased set) (set_erased set v)
    ∙ ap₂ (λ (parts : List LinkedModule) (s : Storage). unless_outside (outside (allocated (linked set)) (linked set)) (started most (erase_functions (set_instances set)) parts s)) (linked_erased set) (loaded_erased set)
    ∙ go (outside (allocated (linked set)) (linked set)) refl
  where
    go : (o : Option LaunchFault) → outside (allocated (linked set)) (linked set) ≡ o
        → unless_outside o (started most (erase_functions (set_instances set)) (map erase_linked (linked set)) (erase_storage (loaded set))) ≡ erase_started (unless_outside o (started most (set_instances set) (linked set) (loaded set)))
    go None is =
        let shape = shape_of (loaded set) in
        let fns = set_instances set in
        parts_erased most fns shape (loaded_set set m v small) (all_light set small) (linked set) (all_lead set shape m.imports v (loaded_shape set)) (valid_linked set v) (loaded set) (loaded_sound set m v small is)
    go (Some fault) is = refl
