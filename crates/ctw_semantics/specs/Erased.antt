-- The erased state: every label public, no trust, no variants, and no classify and declassify. Nothing is released in
-- it.
use Rattle.std.specs.Prelude.{ℕ, List, [], map, None, option_map, unwrap_or, slice_get}
use Rattle.ctw_ops.specs.declared.types.Label.{Label}
use Rattle.ctw_ops.specs.Types.{erase_value_type, erase_function_type}
use Rattle.ctw_ops.specs.Tree.{TypeEntry}
use Rattle.ctw_ops.specs.Erasure.{erase_entries, erase_code, erase_memory_type}
use Rattle.ctw_semantics.specs.Values.{Value, value}
use Rattle.ctw_semantics.specs.Stores.{Memory, Global, Storage}
use Rattle.ctw_semantics.specs.Instances.{ModuleInstance, FunctionInstance, Functions}
use Rattle.ctw_semantics.specs.Activations.{Open, Frame, Activation}
use Rattle.ctw_semantics.specs.Answers.{Answer, Goes, Ended, Trapped, Stuck, Reduced}
use Rattle.ctw_semantics.specs.Steps as Steps
use Rattle.ctw_semantics.specs.Steps.{Stepped, Left, Running, Finished, Turned}

-- ---- functions

abbrev pub erase_part : ModuleInstance → ModuleInstance
erase_part part = record part { types = erase_entries part.types }

abbrev pub erase_instance : FunctionInstance → FunctionInstance
erase_instance fn = record {
  part = erase_part fn.part;
  type = erase_function_type fn.type;
  locals = map erase_value_type fn.locals;
  body = erase_code fn.part.types fn.body;
}

abbrev pub erase_functions : Functions → Functions
erase_functions fns = map erase_instance fns

-- ---- stores

abbrev pub erase_value : Value → Value
erase_value v = value (erase_value_type v.type) v.number

abbrev pub erase_memory : Memory → Memory
erase_memory m = record m { type = erase_memory_type m.type }

abbrev pub erase_global : Global → Global
erase_global g = record g { value = erase_value g.value }

abbrev pub erase_storage : Storage → Storage
erase_storage s = record {
  memories = map erase_memory s.memories;
  globals = map erase_global s.globals;
  tables = s.tables;
}

-- ---- activations

-- the type entries of a function's module, by which its variants are sent to their bases
abbrev pub entries_of : Functions → ℕ → List (TypeEntry Label)
entries_of fns n = unwrap_or (option_map (λ fn. fn.part.types) (slice_get fns n)) []

abbrev pub erase_open : List (TypeEntry Label) → Open → Open
erase_open entries o = record {
  values = map erase_value o.values;
  code = erase_code entries o.code;
  result = option_map erase_value_type o.result;
  again = option_map (erase_code entries) o.again;
}

abbrev pub erase_frame : Functions → Frame → Frame
erase_frame fns f = record {
  func = f.func;
  locals = map erase_value f.locals;
  labels = map (erase_open (entries_of fns f.func)) f.labels;
}

abbrev pub erase_activation : Functions → Activation → Activation
erase_activation fns a = map (erase_frame fns) a

-- ---- answers: each with its event and count

abbrev pub erase_answer : Functions → Answer → Answer
erase_answer fns (Goes s a) = Goes (erase_storage s) (erase_activation fns a)
erase_answer fns (Ended v) = Ended (option_map erase_value v)
erase_answer fns (Trapped code) = Trapped code
erase_answer fns Stuck = Stuck

abbrev pub erase_reduced : Functions → Reduced → Reduced
erase_reduced fns r = record r { answer = erase_answer fns r.answer; release = None }

abbrev pub erase_stepped : Functions → Stepped → Stepped
erase_stepped fns x = record x { answer = erase_answer fns x.answer; releases = [] }

abbrev pub erase_left : Functions → Left → Left
erase_left fns (Running a) = Running (erase_activation fns a)
erase_left fns (Finished v) = Finished (option_map erase_value v)
erase_left fns (Steps.Trapped code) = Steps.Trapped code
erase_left fns Steps.Stuck = Steps.Stuck

abbrev pub erase_turned : Functions → Turned → Turned
erase_turned fns x = record x { storage = erase_storage x.storage; left = erase_left fns x.left; releases = [] }
