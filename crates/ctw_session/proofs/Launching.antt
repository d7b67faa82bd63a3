-- How the launch of a set ends.
use Rattle.std.proofs.Common.{◌≡◌, ℕ, List, [], length, Some, None, Result, Err, MatchResult, refl, sym, ap, ◌∙◌, subst}
use Rattle.ctw_ops.specs.Limits.{most_steps}
use Rattle.ctw_semantics.specs.Stores.{Storage}
use Rattle.ctw_semantics.specs.Sound.{Shape, SoundStorage, shape_of}
use Rattle.ctw_link.specs.declared.set.Part.{Part}
use Rattle.ctw_link.specs.Sets.{ModuleSet, set_of}
use Rattle.ctw_link.specs.Numbers.{linked}
use Rattle.ctw_link.specs.SetInstances.{set_instances, IsShapeOf}
use Rattle.ctw_launch.specs.Launched as Launched
use Rattle.ctw_launch.specs.Launched.{Started, Stands, Fails, allocated, loaded, outside, unless_outside, started, launched_within, launched}
use Rattle.ctw_launch.specs.ErasedSets.{erase_set}
use Rattle.ctw_launch.proofs.Loading.{loaded_shape}
use Rattle.ctw_launch.proofs.SoundStores.{loaded_sound}
use Rattle.ctw_moves.specs.States.{State}
use Rattle.ctw_moves.specs.SeenStates.{Agree}
use Rattle.ctw_moves.specs.SoundStates.{AreBytes, SoundState}
use Rattle.ctw_moves.specs.ErasedRuns.{erase_state}
use Rattle.ctw_moves.specs.LaunchedStates.{Launch, Ready, Faulty, first_state, with_vault, launch, erase_launch}
use Rattle.ctw_moves.proofs.AlikeMoves.{agree}
use Rattle.ctw_moves.proofs.Launches.{launch_sound, launch_erased}
use Rattle.ctw_session.specs.declared.live.Live.{Live}
use Rattle.ctw_session.specs.declared.fault.LaunchFault.{LaunchFault}
use Rattle.ctw_session.specs.declared.fault.LaunchFault.TheVariants as Faults
use Rattle.ctw_session.specs.LiveStates.{StandsFor}
use Rattle.ctw_session.specs.Launches.{IsStoreIn, TellsFault, Starts, CanBeLaunched, Denies, IsLaunched, IsLaunchedBeside, IsLaunchedErased}

-- ---- segments

module _ (set : ModuleSet) (s : Storage) (made : s ≡ allocated (linked set)) where
  ends : launched set ≡ unless_outside (outside s (linked set)) (started most_steps (set_instances set) (linked set) (loaded set))
  unfolding launched_within
  ends = ap (λ (a : Storage). unless_outside (outside a (linked set)) (started most_steps (set_instances set) (linked set) (loaded set))) (sym made)

  pub stops_outside : (f : Launched.LaunchFault) → outside s (linked set) ≡ Some f → launched set ≡ Fails f
  stops_outside f e = ends ∙ ap (λ o. unless_outside o (started most_steps (set_instances set) (linked set) (loaded set))) e

  pub goes_on : (t : Storage) → outside s (linked set) ≡ None → t ≡ loaded set → launched set ≡ started most_steps (set_instances set) (linked set) t
  goes_on t e q = ends ∙ ap (λ o. unless_outside o (started most_steps (set_instances set) (linked set) (loaded set))) e ∙ ap (started most_steps (set_instances set) (linked set)) (sym q)

  pub loaded_stands : (parts : List Part) → set_of parts ≡ set → CanBeLaunched set → outside s (linked set) ≡ None → (t : Storage) → t ≡ loaded set → (shape : Shape) × IsStoreIn parts shape t
  loaded_stands parts same can e t q = (
    shape_of (loaded set),
    record {
      declared = subst (λ (x : ModuleSet). IsShapeOf x (shape_of (loaded set))) (sym same) (loaded_shape set);
      storage = subst (SoundStorage (shape_of (loaded set))) (sym q) (loaded_sound set can.matching can.valid can.limits (ap (λ (a : Storage). outside a (linked set)) (sym made) ∙ e));
    },
  )

-- ---- errors

pub denies_told : (parts : List Part) (Comes : Launched.LaunchFault → Type 0) (e : LaunchFault) (f : Launched.LaunchFault) → Comes f → TellsFault parts e f → Denies parts Comes e
denies_told parts Comes (Faults.SegmentOutside part space index) f h t = (f, h, t)
denies_told parts Comes (Faults.StartTrapped part code) f h t = (f, h, t)
denies_told parts Comes (Faults.StartUnfinished part) f h t = (f, h, t)
denies_told parts Comes Faults.NoMemory f h t = tt

pub denies_more : (parts : List Part) (P Q : Launched.LaunchFault → Type 0) → ((f : Launched.LaunchFault) → P f → Q f) → (e : LaunchFault) → Denies parts P e → Denies parts Q e
denies_more parts P Q more (Faults.SegmentOutside part space index) h = (h.0, more h.0 h.1, h.2)
denies_more parts P Q more (Faults.StartTrapped part code) h = (h.0, more h.0 h.1, h.2)
denies_more parts P Q more (Faults.StartUnfinished part) h = (h.0, more h.0 h.1, h.2)
denies_more parts P Q more Faults.NoMemory h = tt

pub denies_started : (parts : List Part) (shape : Shape) (x y : Started) (new : Storage) → x ≡ y → (e : LaunchFault) → Starts parts shape y (Err e) new → Denies parts (λ f. x ≡ Fails f) e
denies_started parts shape x y new q (Faults.SegmentOutside part space index) h = (h.0, q ∙ h.1, h.2)
denies_started parts shape x y new q (Faults.StartTrapped part code) h = (h.0, q ∙ h.1, h.2)
denies_started parts shape x y new q (Faults.StartUnfinished part) h = (h.0, q ∙ h.1, h.2)
denies_started parts shape x y new q Faults.NoMemory h = tt

-- ---- with other vaults, and erased

module _ (parts : List Part) where
  pub denies_beside : (other : List ℕ) (e : LaunchFault) → Denies parts (λ f. launched (set_of parts) ≡ Fails f) e → Denies parts (λ f. launch (set_of parts) other ≡ Faulty f) e
  denies_beside other e h = denies_more parts _ (λ f. launch (set_of parts) other ≡ Faulty f) (λ f q. ap (λ (x : Started). with_vault x other) q) e h

  pub launched_beside : (vault other : List ℕ) (l : Live) → length other ≡ length vault → IsLaunched parts vault l → IsLaunchedBeside parts vault other l
  launched_beside vault other l e h = record {
    storage = h.storage;
    stands = h.stands;
    state = first_state h.storage other;
    launch = ap (λ (x : Started). with_vault x other) h.launched;
    agrees = agree (first_state h.storage vault) (first_state h.storage other) (record { storage = refl; slots = refl; vault = sym e; sealed = refl });
  }

  module _ (can : CanBeLaunched (set_of parts)) where
    pub denies_erased : (e : LaunchFault) → Denies parts (λ f. launched (set_of parts) ≡ Fails f) e → Denies parts (λ f. launch (erase_set (set_of parts)) [] ≡ Faulty f) e
    denies_erased e h =
        let set = set_of parts in
        denies_more parts _ (λ f. launch (erase_set set) [] ≡ Faulty f)
        (λ f q. launch_erased set can.matching can.valid can.limits [] ∙ ap (λ (x : Started). erase_launch set (with_vault x [])) q) e h

    pub launched_erased : (vault : List ℕ) (l : Live) → IsLaunched parts vault l → IsLaunchedErased parts vault l
    launched_erased vault l h =
        let set = set_of parts in
        record {
          storage = h.storage;
          stands = h.stands;
          launch = launch_erased set can.matching can.valid can.limits vault ∙ ap (λ (x : Started). erase_launch set (with_vault x vault)) h.launched;
        }

    pub first_sound : (vault : List ℕ) (s : Storage) → AreBytes vault → launched (set_of parts) ≡ Stands s → SoundState (set_of parts) (first_state s vault)
    first_sound vault s b e = launch_sound (set_of parts) can.matching can.valid can.limits vault b (first_state s vault) (ap (λ (x : Started). with_vault x vault) e)

-- ---- what an error tells

pub error_told : (r : Result Live LaunchFault) (P : Live → Type 0) (Q : LaunchFault → Type 0) (e d : LaunchFault) → r ≡ Err d → d ≡ e → Q e → MatchResult r P Q
error_told r P Q e d is same h = subst (λ (x : Result Live LaunchFault). MatchResult x P Q) (sym is) (subst Q (sym same) h)

module _ (parts : List Part) (s : Storage) (made : s ≡ allocated (linked (set_of parts))) (e : LaunchFault) where
  pub denies_outside : ((f : Launched.LaunchFault) × (outside s (linked (set_of parts)) ≡ Some f) × TellsFault parts e f) → Denies parts (λ f. launched (set_of parts) ≡ Fails f) e
  denies_outside t = denies_told parts (λ f. launched (set_of parts) ≡ Fails f) e t.0 (stops_outside (set_of parts) s made t.0 t.1) t.2
