-- Steps and turns: the instructions that change labels cost nothing, and are run before the next counted reduction.
use Rattle.std.specs.Prelude.{ℕ, zero, suc, List, [], ◌∷◌, ◌++◌, Option}
use Rattle.ctw_ops.specs.declared.types.Label.{Label}
use Rattle.ctw_ops.specs.Typing.{optional}
use Rattle.ctw_ops.specs.Code.{Classify, Declassify, Code, Then}
use Rattle.ctw_script.specs.declared.trap.TrapCode.{TrapCode}
use Rattle.ctw_script.specs.declared.event.Event.{Event}
use Rattle.ctw_semantics.specs.Values.{Value}
use Rattle.ctw_semantics.specs.Stores.{Storage}
use Rattle.ctw_semantics.specs.Instances.{Functions}
use Rattle.ctw_semantics.specs.Activations.{Open, Activation}
use Rattle.ctw_semantics.specs.Answers as Answers
use Rattle.ctw_semantics.specs.Answers.{Answer, Goes, Ended, Reduced}
use Rattle.ctw_semantics.specs.Machine.{red}

-- how many classify and declassify stand at the head of a sequence
abbrev pub free : Code Label → ℕ
free (Then (Classify w) rest) = suc (free rest)
free (Then (Declassify w) rest) = suc (free rest)
free _ = 0

abbrev pub free_inside : List Open → ℕ
free_inside [] = 0
free_inside (o ∷ os) = free o.code

-- how many of them stand next
abbrev pub free_next : Activation → ℕ
free_next [] = 0
free_next (f ∷ callers) = free_inside f.labels

-- what a step gives: its answer, perhaps its event, and what its declassifies release
pub record Stepped : Type 0 where
  pub answer : Answer
  pub event : Option Event
  pub releases : List ℕ

-- a step that stops at a reduction
abbrev pub stops : Reduced → Stepped
stops r = record { answer = r.answer; event = r.event; releases = optional r.release }

-- goes on after a reduction that gave this answer, event and release
abbrev pub then_step : Answer → Option Event → Option ℕ → (Storage → Activation → Stepped) → Stepped
then_step (Goes s a) event release go = record {
  answer = (go s a).answer;
  event = (go s a).event;
  releases = optional release ++ (go s a).releases;
}
then_step answer event release go = record { answer = answer; event = event; releases = optional release }

-- so many reductions, and then one more
abbrev pub reductions : ℕ → Functions → Storage → Activation → Stepped
reductions zero fns s a = stops (red fns s a)
reductions (suc n) fns s a = then_step (red fns s a).answer (red fns s a).event (red fns s a).release (reductions n fns)

-- one step: each instruction without cost that stands next, and then one counted reduction
abbrev pub step : Functions → Storage → Activation → Stepped
step fns s a = reductions (free_next a) fns s a

-- how a turn leaves its activation
pub data Left : Type 0 where
  Running : (activation : Activation) → Left
  Finished : (value : Option Value) → Left
  Trapped : (code : TrapCode) → Left
  Stuck : Left

-- what a turn gives: the store however it ends, the count of steps, and events and released numbers in order
pub record Turned : Type 0 where
  pub storage : Storage
  pub left : Left
  pub steps : ℕ
  pub events : List Event
  pub releases : List ℕ

-- goes on after a step; one that ends or traps leaves the store as it was
abbrev pub then_turn : Storage → Answer → Option Event → List ℕ → (Storage → Activation → Turned) → Turned
then_turn s (Goes t a) event releases go =
    record {
      storage = (go t a).storage;
      left = (go t a).left;
      steps = suc (go t a).steps;
      events = optional event ++ (go t a).events;
      releases = releases ++ (go t a).releases;
    }
then_turn s (Ended v) event releases go =
    record { storage = s; left = Finished v; steps = 1; events = optional event; releases = releases }
then_turn s (Answers.Trapped code) event releases go =
    record { storage = s; left = Trapped code; steps = 1; events = optional event; releases = releases }
then_turn s Answers.Stuck event releases go =
    record { storage = s; left = Stuck; steps = 1; events = optional event; releases = releases }

-- steps until so many are taken, or the activation ends or traps
abbrev pub turn : ℕ → Functions → Storage → Activation → Turned
turn zero fns s a = record { storage = s; left = Running a; steps = 0; events = []; releases = [] }
turn (suc n) fns s a = then_turn s (step fns s a).answer (step fns s a).event (step fns s a).releases (turn n fns)
