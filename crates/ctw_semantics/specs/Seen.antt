-- What an onlooker sees of stores, activations and answers: all but secret numbers and secret bytes.
use Rattle.std.specs.Prelude.{◌≡◌, ℕ, List, [], ◌++◌, map, length, replicate, None, option_map}
use Rattle.ctw_ops.specs.declared.types.Label.{Label}
use Rattle.ctw_ops.specs.declared.types.Label.TheVariants.{Public, Secret}
use Rattle.ctw_semantics.specs.Values.{Value, value}
use Rattle.ctw_semantics.specs.Stores.{Memory, Global, Storage}
use Rattle.ctw_semantics.specs.Activations.{Open, Frame, Activation}
use Rattle.ctw_semantics.specs.Answers.{Answer, Goes, Ended, Trapped, Stuck, Reduced}
use Rattle.ctw_semantics.specs.Steps as Steps
use Rattle.ctw_semantics.specs.Steps.{Stepped, Left, Running, Finished, Turned}

-- 0 stands for each secret number
abbrev pub seen_number : Label → ℕ → ℕ
seen_number Public n = n
seen_number Secret n = 0

-- and for each secret byte
abbrev pub seen_bytes : Label → List ℕ → List ℕ
seen_bytes Public bytes = bytes
seen_bytes Secret bytes = replicate (length bytes) 0

abbrev pub seen_value : Value → Value
seen_value v = value v.type (seen_number v.type.tag v.number)

abbrev pub seen_memory : Memory → Memory
seen_memory m = record m { bytes = seen_bytes m.type.tag m.bytes }

abbrev pub seen_global : Global → Global
seen_global g = record g { value = seen_value g.value }

abbrev pub seen_storage : Storage → Storage
seen_storage s = record {
  memories = map seen_memory s.memories;
  globals = map seen_global s.globals;
  tables = s.tables;
}

abbrev pub seen_open : Open → Open
seen_open o = record o { values = map seen_value o.values }

abbrev pub seen_frame : Frame → Frame
seen_frame f = record { func = f.func; locals = map seen_value f.locals; labels = map seen_open f.labels }

abbrev pub seen : Activation → Activation
seen a = map seen_frame a

abbrev pub seen_answer : Answer → Answer
seen_answer (Goes s a) = Goes (seen_storage s) (seen a)
seen_answer (Ended v) = Ended (option_map seen_value v)
seen_answer (Trapped code) = Trapped code
seen_answer Stuck = Stuck

-- Stores and activations that differ in secret numbers and secret bytes alone: the same frames, labels and
-- instructions with values of equal types, memories and tables of equal sizes, and equal public numbers and bytes.
abbrev pub Agree : Storage → Activation → Storage → Activation → Type 0
Agree s a t b = (seen_storage s ≡ seen_storage t) × (seen a ≡ seen b)

-- ---- what is seen of a reduction, a step and a turn; releases are told apart

abbrev pub seen_reduced : Reduced → Reduced
seen_reduced r = record r { answer = seen_answer r.answer; release = None }

abbrev pub seen_stepped : Stepped → Stepped
seen_stepped x = record x { answer = seen_answer x.answer; releases = [] }

abbrev pub seen_left : Left → Left
seen_left (Running a) = Running (seen a)
seen_left (Finished v) = Finished (option_map seen_value v)
seen_left (Steps.Trapped code) = Steps.Trapped code
seen_left Steps.Stuck = Steps.Stuck

abbrev pub seen_turned : Turned → Turned
seen_turned x = record x { storage = seen_storage x.storage; left = seen_left x.left; releases = [] }

-- Two runs that released these numbers look the same where the numbers are equal. It is said of runs that may go on
-- and release more: where all that is released is equal, they look the same so far, and what is released later is
-- equal too.
pub record LookSame {A : Type 0} (a b : A) (releases others : List ℕ) : Type 0 where
  pub by : (later more : List ℕ) → releases ++ later ≡ others ++ more → (a ≡ b) × (later ≡ more)
