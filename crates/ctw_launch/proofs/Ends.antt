-- How a launch ends: what `launched_within` gives, told by what comes of segments and start functions.
use Rattle.std.proofs.Common.{◌≡◌, ℕ, List, Option, Some, None, All, refl, ap, subst, ◌∙◌}
use Rattle.std.specs.Prelude.{◌↔◌}
use Rattle.ctw_semantics.specs.Activations.{Activation}
use Rattle.ctw_semantics.specs.Steps as Steps
use Rattle.ctw_semantics.specs.Steps.{Running}
use Rattle.ctw_semantics.specs.Sound.{shape_of}
use Rattle.ctw_link.specs.Sets.{ModuleSet}
use Rattle.ctw_link.specs.Numbers.{LinkedModule, linked}
use Rattle.ctw_link.specs.Matching.{AreMatching}
use Rattle.ctw_link.specs.SetInstances.{set_instances, AllValid}
use Rattle.ctw_link.specs.Sets.{AllWithinLimits}
use Rattle.ctw_launch.specs.Launched.{LaunchFault, SegmentOutside, StartTrapped, StartUnfinished, allocated, loaded, outside, Started, Stands, Fails, started, unless_outside, launched_within}
use Rattle.ctw_launch.specs.Outcomes.{IsInside, FirstOutside, AllStart, StartLeaves}
use Rattle.ctw_launch.proofs.Parts.{valid_linked, all_lead}
use Rattle.ctw_launch.proofs.Loading.{loaded_shape}
use Rattle.ctw_launch.proofs.SoundStores.{loaded_sound}
use Rattle.ctw_launch.proofs.SoundLaunch.{all_light, loaded_set}
use Rattle.ctw_launch.proofs.FirstOutside.{Tells, outside_tells, inside_none, first_found}
use Rattle.ctw_launch.proofs.Starting.{Comes, comes_started, started_comes}

module _ (most : ℕ) (set : ModuleSet) (m : AreMatching set) (v : AllValid set) (small : AllWithinLimits set) where
  parts : List LinkedModule
  parts = linked set

  -- what is told of a launch that ends so
  abbrev pub Ending : Started → Type 0
  Ending (Stands s) = All (IsInside (allocated (linked set))) (linked set) × AllStart most (set_instances set) (linked set) (loaded set) s
  Ending (Fails (SegmentOutside part space index)) = FirstOutside (allocated (linked set)) (linked set) part space index
  Ending (Fails (StartTrapped part code)) = All (IsInside (allocated (linked set))) (linked set) × StartLeaves most (set_instances set) (linked set) (loaded set) part (Steps.Trapped code)
  Ending (Fails (StartUnfinished part)) = All (IsInside (allocated (linked set))) (linked set) × (a : Activation) × StartLeaves most (set_instances set) (linked set) (loaded set) part (Running a)

  from_starts : (x : Started) → All (IsInside (allocated (linked set))) (linked set) → Comes most (set_instances set) (linked set) (loaded set) x → Ending x
  from_starts (Stands s) i h = (i, h)
  from_starts (Fails (SegmentOutside part space index)) i h = absurd h
  from_starts (Fails (StartTrapped part code)) i h = (i, h)
  from_starts (Fails (StartUnfinished part)) i h = (i, h.0, h.1)

  from_outside : (f : LaunchFault) → Tells (allocated (linked set)) (linked set) (Some f) → Ending (Fails f)
  from_outside (SegmentOutside part space index) h = h
  from_outside (StartTrapped part code) h = absurd h
  from_outside (StartUnfinished part) h = absurd h

  it_ends : (o : Option LaunchFault) → outside (allocated (linked set)) (linked set) ≡ o → Tells (allocated (linked set)) (linked set) o
      → Ending (unless_outside o (started most (set_instances set) (linked set) (loaded set)))
  it_ends None e h =
      let shape = shape_of (loaded set) in
      let fns = set_instances set in
      from_starts (started most fns (linked set) (loaded set)) h
      (started_comes most fns shape (loaded_set set m v small) (all_light set small) (linked set) (all_lead set shape m.imports v (loaded_shape set)) (valid_linked set v) (loaded set) (loaded_sound set m v small e))
  it_ends (Some f) e h = from_outside f h

  launch_ends : Ending (launched_within most set)
  unfolding launched_within
  launch_ends = it_ends (outside (allocated (linked set)) (linked set)) refl (outside_tells (allocated (linked set)) (linked set))

  after_segments : (x : Started) → All (IsInside (allocated (linked set))) (linked set) → Comes most (set_instances set) (linked set) (loaded set) x → launched_within most set ≡ x
  unfolding launched_within
  after_segments x i h =
      ap (λ (o : Option LaunchFault). unless_outside o (started most (set_instances set) (linked set) (loaded set))) (inside_none (allocated (linked set)) (linked set) i)
      ∙ comes_started most (set_instances set) (linked set) (loaded set) x h

  ends_so : (x : Started) → Ending x → launched_within most set ≡ x
  unfolding launched_within
  ends_so (Stands s) h = after_segments (Stands s) h.0 h.1
  ends_so (Fails (SegmentOutside part space index)) h =
      ap (λ (o : Option LaunchFault). unless_outside o (started most (set_instances set) (linked set) (loaded set))) (first_found (allocated (linked set)) (linked set) part space index h)
  ends_so (Fails (StartTrapped part code)) h = after_segments (Fails (StartTrapped part code)) h.0 h.1
  ends_so (Fails (StartUnfinished part)) h = after_segments (Fails (StartUnfinished part)) h.0 (h.1, h.2)

  pub ending : (x : Started) → (launched_within most set ≡ x) ↔ Ending x
  ending x = (λ e. subst Ending e launch_ends, ends_so x)
