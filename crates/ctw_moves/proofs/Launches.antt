-- Launched states: sound, alike for two vaults, and erased.
use Rattle.std.proofs.Common.{◌≡◌, ℕ, List, [], length, None, All, refl, ap, ap₂, ◌∙◌, subst}
use Rattle.std.proofs.lemmas.List.Elements.{All-replicate}
use Rattle.ctw_ops.specs.Limits.{most_steps}
use Rattle.ctw_script.specs.declared.moves.Move.{Move}
use Rattle.ctw_semantics.specs.Stores.{Storage}
use Rattle.ctw_semantics.specs.Sound.{shape_of}
use Rattle.ctw_semantics.proofs.AlikeSteps.{same_ends}
use Rattle.ctw_link.specs.Sets.{ModuleSet}
use Rattle.ctw_link.specs.Matching.{AreMatching}
use Rattle.ctw_link.specs.SetInstances.{set_instances, AllValid}
use Rattle.ctw_link.specs.Sets.{AllWithinLimits}
use Rattle.ctw_launch.specs.Launched.{Started, Stands, Fails, loaded, launched}
use Rattle.ctw_launch.specs.ErasedSets.{erase_set, erase_started}
use Rattle.ctw_launch.proofs.Loading.{loaded_shape}
use Rattle.ctw_launch.proofs.SoundLaunch.{launched_sound}
use Rattle.ctw_launch.proofs.ErasedLaunch.{launched_erased}
use Rattle.ctw_moves.specs.States.{State}
use Rattle.ctw_moves.specs.Runs.{Told, Run, plays}
use Rattle.ctw_moves.specs.SeenStates.{seen_state, seen_run}
use Rattle.ctw_moves.specs.SoundStates.{AreBytes, HasBytes, SoundSlot, SoundState}
use Rattle.ctw_moves.specs.ErasedRuns.{erase_state, erase_moves, erase_run}
use Rattle.ctw_moves.specs.LaunchedStates.{Launch, Ready, Faulty, first_state, with_vault, launch, seen_launch, erase_launch, run_from, run_of, released, ToldSession, Says, told_session}
use Rattle.ctw_moves.proofs.AlikeMoves.{agree, plays_same, hidden_length}
use Rattle.ctw_moves.proofs.ErasedMoves.{plays_erased}

-- ---- sound

first_sound : (set : ModuleSet) → AreMatching set → AllValid set → AllWithinLimits set → (s : Storage) (vault : List ℕ) → AreBytes vault → launched set ≡ Stands s → SoundState set (first_state s vault)
first_sound set m v small s vault b e = record {
  matching = m;
  valid = v;
  limits = small;
  shape = shape_of (loaded set);
  declared = loaded_shape set;
  storage = launched_sound set m v small most_steps s e;
  slots = All-replicate (SoundSlot (set_instances set) (shape_of (loaded set))) 64 None tt;
  count = refl;
  vault = b;
}

pub launch_sound : (set : ModuleSet) → AreMatching set → AllValid set → AllWithinLimits set → (vault : List ℕ) → AreBytes vault → (s : State) → launch set vault ≡ Ready s → SoundState set s
launch_sound set m v small vault b s e = go (launched set) refl e
  where
    go : (x : Started) → launched set ≡ x → with_vault x vault ≡ Ready s → SoundState set s
    go (Stands st) is e =
        let q : first_state st vault ≡ s = cc in
        subst (SoundState set) q (first_sound set m v small st vault b is)
    go (Fails fault) is e = absurd cc

-- ---- alike

vault_alike : (x : Started) (v w : List ℕ) → length v ≡ length w → seen_launch (with_vault x v) ≡ seen_launch (with_vault x w)
vault_alike (Stands s) v w e = ap (λ (x : State). Ready x) (agree (first_state s v) (first_state s w) (record { storage = refl; slots = refl; vault = e; sealed = refl }))
vault_alike (Fails fault) v w e = refl

pub launch_alike : (set : ModuleSet) (v w : List ℕ) → length v ≡ length w → seen_launch (launch set v) ≡ seen_launch (launch set w)
launch_alike set v w e = vault_alike (launched set) v w e

-- what is told of a session is seen of its run
abbrev told_run : Run → ToldSession
told_run r = Says r.told (length r.state.sealed)

run_told : (r q : Run) → seen_run r ≡ seen_run q → told_run r ≡ told_run q
run_told r q e = ap₂ (λ (t : List Told) (n : ℕ). Says t n) (ap (λ (r : Run). r.told) e) (hidden_length r.state.sealed q.state.sealed (ap (λ (r : Run). r.state.sealed) e))

runs_same : (set : ModuleSet) (x y : Launch) (ms : List Move) → seen_launch x ≡ seen_launch y → released (run_from set x ms) ≡ released (run_from set y ms) → told_session (run_from set x ms) ≡ told_session (run_from set y ms)
runs_same set (Ready s) (Ready t) ms e q =
    let a : seen_state s ≡ seen_state t = cc in
    run_told (plays set s ms) (plays set t ms) (same_ends _ _ _ _ (plays_same set ms s t a) q)
runs_same set (Faulty fault) (Faulty other) ms e q = cc
runs_same set (Ready s) (Faulty other) ms e q = cc
runs_same set (Faulty fault) (Ready t) ms e q = cc

pub sessions_alike : (set : ModuleSet) (v w : List ℕ) (ms : List Move) → length v ≡ length w → released (run_of set v ms) ≡ released (run_of set w ms) → told_session (run_of set v ms) ≡ told_session (run_of set w ms)
sessions_alike set v w ms e q = runs_same set (launch set v) (launch set w) ms (launch_alike set v w e) q

-- ---- erased

vault_erased : (set : ModuleSet) (x : Started) (vault : List ℕ) → with_vault (erase_started x) [] ≡ erase_launch set (with_vault x vault)
vault_erased set (Stands s) vault = refl
vault_erased set (Fails fault) vault = refl

pub launch_erased : (set : ModuleSet) → AreMatching set → AllValid set → AllWithinLimits set → (vault : List ℕ) → launch (erase_set set) [] ≡ erase_launch set (launch set vault)
launch_erased set m v small vault = ap (λ (x : Started). with_vault x []) (launched_erased most_steps set m v small) ∙ vault_erased set (launched set) vault

-- where the set is launched, the erased set is, and its run over the erased moves is the erased run
pub session_erased : (set : ModuleSet) → AreMatching set → AllValid set → AllWithinLimits set → (vault : List ℕ) (s : State) (ms : List Move) → AreBytes vault → All HasBytes ms → launch set vault ≡ Ready s
    → (launch (erase_set set) [] ≡ Ready (erase_state set s)) × (plays (erase_set set) (erase_state set s) (erase_moves set s ms) ≡ erase_run set s ms)
session_erased set m v small vault s ms b bs e =
    (launch_erased set m v small vault ∙ ap (erase_launch set) e, plays_erased set ms s (launch_sound set m v small vault b s e) bs)
