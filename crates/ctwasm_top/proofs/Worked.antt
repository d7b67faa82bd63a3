-- A placed module that is linked and launched alone, and what is told of it.
use Rattle.std.proofs.Common.{◌≡◌, ℕ, List, [], ◌∷◌, length, get_or, Option, Some, None, sym, ap, ◌∙◌, subst, codes}
use Rattle.ctw_ops.specs.declared.types.Label.{Label}
use Rattle.ctw_ops.specs.declared.numeric.Profile.{Profile}
use Rattle.ctw_ops.specs.Tree.{Module, under}
use Rattle.ctw_ops.specs.Valid.{IsValid}
use Rattle.ctw_form.specs.Spelled.{Spells}
use Rattle.ctw_form.proofs.FileForms.{module_complete}
use Rattle.ctw_modcheck.proofs.Validity.{valid_is_none}
use Rattle.ctw_module.specs.Trees.{view_module}
use Rattle.ctw_link.specs.declared.set.Part.{Part}
use Rattle.ctw_link.specs.declared.fault.LinkFault.{LinkFault}
use Rattle.ctw_link.specs.Sets.{ModuleSet, set_of}
use Rattle.ctw_link.specs.Matching.{AreMatching}
use Rattle.ctw_link.proofs.Verdict.{matching_is_no_fault}
use Rattle.ctw_moves.specs.States.{State}
use Rattle.ctw_moves.specs.Runs.{plays}
use Rattle.ctw_moves.specs.LaunchedStates.{first_state, launch}
use Rattle.ctw_gen.specs.Workload.{moves}
use Rattle.ctw_inputs.specs.declared.said.Stop.{Stop}
use Rattle.ctw_inputs.specs.declared.said.Status.TheVariants.{Done}
use Rattle.ctw_inputs.specs.Outcome.{Execution, Outcome}
use Rattle.ctw_inputs.specs.Inputs.{NamedFile, on_set, match, linked}
use Rattle.ctw_inputs.specs.Settling.{IsStop}
use Rattle.ctwasm_top.specs.Launching.{on_launch}
use Rattle.ctwasm_top.specs.Works.{secrets, classifies, all_steps, all_events, work_line, alone, worked}
use Rattle.ctwasm_top.specs.WorkSteps.{IsText}
use Rattle.ctwasm_top.proofs.Profiles.{under_ok, module_read_valid}

abbrev the_part : List NamedFile
the_part = record { name = codes "m"; file = codes "m" } ∷ []

-- ---- sets that a step goes on with

abbrev set_in : Option Execution → ModuleSet
set_in None = []
set_in (Some e) = e.set

nowhere : State
nowhere = first_state (record { memories = []; globals = []; tables = [] }) []

abbrev shows : ModuleSet → Outcome
shows set = record { out = []; saves = []; status = Done; execution = Some (record { set = set; state = nowhere; moves = [] }) }

pub same_sets : (step : (ModuleSet → Outcome) → Outcome) (x y : ModuleSet) → ((go : ModuleSet → Outcome) → step go ≡ go x) → ((go : ModuleSet → Outcome) → step go ≡ go y) → x ≡ y
same_sets step x y f g = ap (λ (o : Outcome). set_in o.execution) (sym (f shows) ∙ g shows)

-- the module of a set's only part
pub only_part : (parts : List Part) (p : Part) (t : Module Label) → set_of parts ≡ alone t → view_module (get_or parts 0 p).«module» ≡ t
only_part [] p t h = let d : [] ≡ alone t = h in absurd cc
only_part (q ∷ parts) p t h = ap (λ (set : ModuleSet). first_tree t set) h
  where
    first_tree : Module Label → ModuleSet → Module Label
    first_tree u [] = u
    first_tree u (m ∷ set) = m.tree

-- ---- the module alone

module _ (profile : Profile) (bytes : List ℕ) (t : Module Label) (spelled : Spells bytes t) (valid : IsValid (under profile t)) (matching : AreMatching (alone (under profile t))) where
  pub linked_alone : (go : ModuleSet → Outcome) → linked profile the_part (bytes ∷ []) go ≡ go (alone (under profile t))
  linked_alone go =
      module_read_valid profile (codes "m") bytes (under profile t) (λ m. match (alone m) (go (alone m))) (under_ok profile bytes t (module_complete bytes t spelled)) (valid_is_none (under profile t) valid)
      ∙ ap (λ (o : Option LinkFault). on_set (alone (under profile t)) o (go (alone (under profile t)))) (matching_is_no_fault (alone (under profile t)) matching)

-- ---- what is told

module _ (labels : List Label) (t : Module Label) where
  -- the line over any set
  abbrev pub summed_in : ModuleSet → State → Outcome
  summed_in set s = record {
    out = work_line (length labels) (secrets labels) (classifies t) (all_steps (plays set s moves).told) (all_events (plays set s moves).told);
    saves = [];
    status = Done;
    execution = Some (record { set = set; state = s; moves = moves });
  }

  module _ (vault : List ℕ) (set : ModuleSet) (is : set ≡ alone t) where
    pub worked_in : worked vault labels t ≡ on_launch (launch set vault) (summed_in set)
    worked_in = ap (λ (x : ModuleSet). on_launch (launch x vault) (summed_in x)) (sym is)

    pub worked_stops : (why : Stop) → ((go : ModuleSet → State → Outcome) → IsStop why (on_launch (launch set vault) (go set))) → IsStop why (worked vault labels t)
    worked_stops why h = subst (IsStop why) (sym worked_in) (h summed_in)

    pub worked_tells : (parts : ModuleSet) (s : State) (line : List ℕ) (sites secret classify : ℕ) → ((go : ModuleSet → State → Outcome) → on_launch (launch set vault) (go set) ≡ go parts s)
        → sites ≡ length labels → secret ≡ secrets labels → classify ≡ classifies t
        → line ≡ work_line sites secret classify (all_steps (plays parts s moves).told) (all_events (plays parts s moves).told) → IsText (worked vault labels t) line
    worked_tells parts s line sites secret classify goes a b d e =
        let o : worked vault labels t ≡ summed_in parts s = worked_in ∙ goes summed_in in
        let counts = λ (x y z : ℕ). work_line x y z (all_steps (plays parts s moves).told) (all_events (plays parts s moves).told) in
        record {
          out = ap (λ (o : Outcome). o.out) o ∙ sym (e ∙ ap (λ (x : ℕ). counts x secret classify) a ∙ ap (λ (y : ℕ). counts (length labels) y classify) b ∙ ap (counts (length labels) (secrets labels)) d);
          status = ap (λ (o : Outcome). o.status) o;
          saves = ap (λ (o : Outcome). o.saves) o;
        }

    module _ (step : (ModuleSet → Outcome) → Outcome) (goes : (go : ModuleSet → Outcome) → step go ≡ go set) where
      pub linking_stops : (why : Stop) → ((go : ModuleSet → Outcome) → IsStop why (step go)) → IsStop why (worked vault labels t)
      linking_stops why h = subst (IsStop why) (goes (λ x. on_launch (launch x vault) (summed_in x)) ∙ sym worked_in) (h (λ x. on_launch (launch x vault) (summed_in x)))
