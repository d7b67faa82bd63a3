-- The command `work`: the module of a workload is labelled by its marks, and the placed module is run as the one part
-- `m`; its vault and its moves are the workload's.
use Rattle.std.specs.Prelude.{ℕ, Bool, true, false, List, [], ◌∷◌, length, sum_by, Some, decimal, codes}
use Rattle.std.specs.List.{count_by}
use Rattle.ctw_ops.specs.declared.types.Label.{Label}
use Rattle.ctw_ops.specs.declared.types.Label.TheVariants.{Public, Secret}
use Rattle.ctw_ops.specs.declared.numeric.Profile.{Profile}
use Rattle.ctw_ops.specs.Code.{Op, Plain, Classify, opcodes}
use Rattle.ctw_ops.specs.Tree.{Module}
use Rattle.ctw_script.specs.declared.reply.Reply.{Reply}
use Rattle.ctw_script.specs.declared.reply.Reply.TheVariants.{More, Done as Ended, Trap}
use Rattle.ctw_script.specs.Lines.{spaced}
use Rattle.ctw_link.specs.Sets.{ModuleSet}
use Rattle.ctw_moves.specs.States.{State}
use Rattle.ctw_moves.specs.Runs.{Told, plays}
use Rattle.ctw_moves.specs.LaunchedStates.{launch}
use Rattle.ctw_gen.specs.Workload.{moves, vault}
use Rattle.ctw_workloads.specs.Placed.{workload_under}
use Rattle.ctw_inputs.specs.declared.said.Status.TheVariants.{Done}
use Rattle.ctw_inputs.specs.Outcome.{Outcome}
use Rattle.ctwasm_top.specs.Launching.{on_launch}
use Rattle.ctwasm_top.specs.Inference.{Found, placed_by, labelled_by}

-- ---- what is counted

abbrev pub is_secret : Label → Bool
is_secret Public = false
is_secret Secret = true

abbrev pub secrets : List Label → ℕ
secrets labels = count_by is_secret labels

abbrev pub is_classify : Op Label → Bool
is_classify (Plain (Classify w)) = true
is_classify op = false

-- the classify instructions of a module
abbrev pub classifies : Module Label → ℕ
classifies m = sum_by (λ f. count_by is_classify (opcodes f.body)) m.functions

-- the steps that a reply tells; only those of turns tell any
abbrev pub steps_in : Reply → ℕ
steps_in (More steps) = steps
steps_in (Ended steps result) = steps
steps_in (Trap steps code) = steps
steps_in reply = 0

abbrev pub all_steps : List Told → ℕ
all_steps told = sum_by (λ t. steps_in t.reply) told

abbrev pub all_events : List Told → ℕ
all_events told = sum_by (λ t. length t.events) told

-- ---- what is answered

abbrev pub work_line : (sites secret classify steps events : ℕ) → List ℕ
work_line sites secret classify steps events =
    spaced
    (codes "labelled" ∷ codes "sites" ∷ decimal sites ∷ codes "secret" ∷ decimal secret ∷ codes "classify"
    ∷ decimal classify ∷ codes "steps" ∷ decimal steps ∷ codes "events" ∷ decimal events ∷ [])

-- a module as the one part `m`
abbrev pub alone : Module Label → ModuleSet
alone t = record { name = codes "m"; tree = t } ∷ []

-- the moves are made, and the line counts what there was
abbrev pub summed : List Label → Module Label → State → Outcome
summed labels t s = record {
  out = work_line (length labels) (secrets labels) (classifies t) (all_steps (plays (alone t) s moves).told)
      (all_events (plays (alone t) s moves).told);
  saves = [];
  status = Done;
  execution = Some (record { set = alone t; state = s; moves = moves });
}

-- the placed module is launched and run
abbrev pub worked : List ℕ → List Label → Module Label → Outcome
worked vault labels t = on_launch (launch (alone t) vault) (summed labels t)

abbrev pub work_answer : Found → Profile → ℕ → ℕ → Outcome
work_answer found profile seed size =
    labelled_by found (workload_under profile seed size)
    (λ marks labels. worked (vault seed size) labels (placed_by (workload_under profile seed size) marks labels))
