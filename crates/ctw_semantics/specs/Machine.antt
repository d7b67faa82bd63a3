-- One reduction (W3C WebAssembly Core 1.0, section 4.4, with the labels, classify and declassify of the CT-Wasm paper).
use Rattle.std.specs.Prelude.{ℕ, zero, suc, ◌+◌, Bool, true, false, not, List, [], ◌∷◌, ◌++◌, map, length, Option, Some, None, slice_get, slice_set, if◌then◌else◌, ◌==◌, nat_lt, nat_le, Result, Ok, Err}
use Rattle.ctw_ops.specs.declared.types.Label.{Label}
use Rattle.ctw_ops.specs.declared.types.Label.TheVariants.{Public, Secret}
use Rattle.ctw_ops.specs.declared.types.Width.TheVariants.{W32}
use Rattle.ctw_ops.specs.Types.{ValueType, FunctionType, value_type}
use Rattle.ctw_ops.specs.Equal.{same_label, same_function_type}
use Rattle.ctw_ops.specs.declared.numeric.NumSig.{NumSig}
use Rattle.ctw_ops.specs.declared.numeric.Profile.{Profile}
use Rattle.ctw_ops.specs.Numeric.{num_sig_of, leaks}
use Rattle.ctw_ops.specs.Limits.{most_weight}
use Rattle.ctw_ops.specs.Typing.{optional, upon}
use Rattle.ctw_ops.specs.Code.{Leaf, Unreachable, Nop, Br, BrIf, BrTable, Return, Call, CallIndirect, Drop, Select, LocalGet, LocalSet, LocalTee, GlobalGet, GlobalSet, Load, Store, MemorySize, MemoryGrow, Const, Numeric, Classify, Declassify, Code, Stop, Then, Block, Loop, If, IfElse}
use Rattle.ctw_num.specs.declared.trap.NumTrap.{NumTrap}
use Rattle.ctw_num.specs.declared.trap.NumTrap.TheVariants.{DivZero, DivOverflow}
use Rattle.ctw_num.specs.Values.{value1, value2}
use Rattle.ctw_script.specs.declared.trap.TrapCode.{TrapCode}
use Rattle.ctw_script.specs.declared.trap.TrapCode.TheVariants.{MemoryBounds, TableBounds, EmptyEntry, CallType, Exhausted}
use Rattle.ctw_script.specs.declared.event.Event.TheVariants as Events
use Rattle.ctw_semantics.specs.Values.{Value, value, i32, zero_of}
use Rattle.ctw_semantics.specs.Stores.{Memory, Storage, number_at, bytes_of_number, written_at, with_bytes, with_number, pages, may_grow, grown}
use Rattle.ctw_semantics.specs.Instances.{FunctionInstance, Functions}
use Rattle.ctw_semantics.specs.Activations.{Open, Frame, Activation, weight}
use Rattle.ctw_semantics.specs.Answers.{Answer, Goes, Ended, Trapped, Stuck, Reduced, quiet, noting, relabelling, stuck, given, provided, pop, pop_any, pops, carry}

-- ---- places

-- where a reduction happens: all of an activation but the operands and the code of the innermost label
pub record Here : Type 0 where
  pub func : ℕ
  pub locals : List Value
  pub result : Option (ValueType Label)
  pub again : Option (Code Label)
  pub outer : List Open
  pub callers : List Frame

-- the innermost label at a place, with this code and these operands
abbrev pub innermost : Here → Code Label → List Value → Open
innermost h code values = record { values = values; code = code; result = h.result; again = h.again }

-- the activation at a place, with these labels for its frame
abbrev pub with_labels : Here → List Open → Activation
with_labels h labels = record { func = h.func; locals = h.locals; labels = labels } ∷ h.callers

-- the activation at a place, with this code and these operands in the innermost label
abbrev pub put : Here → Code Label → List Value → Activation
put h code values = with_labels h (innermost h code values ∷ h.outer)

-- the place with another value in a local
abbrev pub with_local : Here → ℕ → Value → Here
with_local h x v = record h { locals = slice_set h.locals x v }

-- ---- labels and frames (sections 4.4.6 and 4.4.7)

-- a new label is entered
abbrev pub enter : Here → Code Label → List Value → Option (ValueType Label) → Option (Code Label) → Code Label
    → Activation
enter h rest values t again body =
    with_labels h (record { values = []; code = body; result = t; again = again } ∷ innermost h rest values ∷ h.outer)

-- a label's operands take a value
abbrev pub receive : Option Value → Open → Open
receive v o = record o { values = upon (optional v) o.values }

-- a caller goes on with perhaps a value, which its innermost label takes
abbrev pub resume : Storage → Option Value → Frame → List Open → List Frame → Answer
resume s v f [] callers = Stuck
resume s v f (o ∷ os) callers = Goes s (record f { labels = receive v o ∷ os } ∷ callers)

-- the function of the innermost frame is left with perhaps a value: its caller goes on, or the call ends
abbrev pub finish : Storage → Option Value → List Frame → Answer
finish s v [] = Ended v
finish s v (f ∷ callers) = resume s v f f.labels callers

-- a label is left with perhaps a value, which the label outside takes; leaving the outermost one leaves the function
abbrev pub leave : Storage → Here → Option Value → List Open → Answer
leave s h v [] = finish s v h.callers
leave s h v (o ∷ os) = Goes s (with_labels h (receive v o ∷ os))

-- a loop is run again: its instruction stands before the code of the label outside
abbrev pub rerun : Storage → Here → Option (ValueType Label) → Code Label → List Open → Answer
rerun s h t body [] = Stuck
rerun s h t body (o ∷ os) = Goes s (with_labels h (record o { code = Loop t body o.code } ∷ os))

-- what a branch to a label carries: nothing to a loop
abbrev pub target_type : Option (Code Label) → Option (ValueType Label) → Option (ValueType Label)
target_type None t = t
target_type (Some body) t = None

-- a branch arrives at a label with these labels outside
abbrev pub arrive : Storage → Here → Option (Code Label) → Option (ValueType Label) → Option Value → List Open → Answer
arrive s h None t v outer = leave s h v outer
arrive s h (Some body) t v outer = rerun s h t body outer

-- the k-th of these labels, with those outside it
abbrev pub label_at : ℕ → List Open → (Open → List Open → Reduced) → Reduced
label_at k [] go = stuck
label_at zero (o ∷ outer) go = go o outer
label_at (suc k) (o ∷ outer) go = label_at k outer go

-- a branch to the k-th of these labels, which is told by `note`
abbrev pub branch : (Answer → Reduced) → Storage → Here → ℕ → List Open → List Value → Reduced
branch note s h k labels values =
    label_at k labels (λ o outer. carry (target_type o.again o.result) values
    (λ v. note (arrive s h o.again o.result v outer)))

-- a branch that isn't taken, for which its value has to be there all the same
abbrev pub pass : Reduced → ℕ → List Open → List Value → Reduced
pass r k labels values = label_at k labels (λ o outer. carry (target_type o.again o.result) values (λ v. r))

-- the place in a branch table that an operand names: the last for those past the targets
abbrev pub table_place : ℕ → List ℕ → ℕ
table_place n targets = if nat_lt n (length targets) then n else length targets

-- ---- calls (section 4.4.7)

-- the frame of a call of the function with this number: its arguments, a zero for each declared local, and its body's
-- label
abbrev pub frame_of : ℕ → FunctionInstance → List Value → Frame
frame_of n fn args = record {
  func = n;
  locals = args ++ map zero_of fn.locals;
  labels = record { values = []; code = fn.body; result = fn.type.result; again = None } ∷ [];
}

-- a call that has just begun, with no caller
abbrev pub begun : ℕ → FunctionInstance → List Value → Activation
begun n fn args = frame_of n fn args ∷ []

-- a call from a place, told by `note`: its arguments move from operands to locals
abbrev pub invoke : (Answer → Reduced) → Storage → Here → Code Label → ℕ → FunctionInstance → List Value → Reduced
invoke note s h rest n callee values =
    pops (upon callee.type.params []) [] values
    (λ args below. note (Goes s (frame_of n callee args ∷ put h rest below)))

-- a call through what stands at an index of a table: nothing past its end, perhaps an empty entry, or a function of
-- perhaps another type
abbrev pub call_entry : Functions → Storage → Here → Code Label → ℕ → FunctionType Label → Option (Option ℕ)
    → List Value → Reduced
call_entry fns s h rest n type None values = noting (Events.Indirect n None) (Trapped TableBounds)
call_entry fns s h rest n type (Some None) values = noting (Events.Indirect n None) (Trapped EmptyEntry)
call_entry fns s h rest n type (Some (Some f)) values =
    given (slice_get fns f) (λ callee.
    if same_function_type callee.type type
    then invoke (noting (Events.Indirect n (Some f))) s h rest f callee values
    else noting (Events.Indirect n None) (Trapped CallType))

-- ---- memories (section 4.4.4)

-- the memory of a function, with its number
abbrev pub memory_of : FunctionInstance → Storage → (ℕ → Memory → Reduced) → Reduced
memory_of fn s go = given fn.part.memory (λ i. given (slice_get s.memories i) (go i))

-- ---- numeric operations (section 4.4.1)

-- the trap of an operation without a value
abbrev pub trap_of : NumTrap → TrapCode
trap_of DivZero = TrapCode.DivZero
trap_of DivOverflow = TrapCode.DivOverflow

-- the result is pushed, or the operation traps
abbrev pub outcome : Storage → Here → Code Label → ValueType Label → List Value → Result ℕ NumTrap → Answer
outcome s h rest t below (Ok n) = Goes s (put h rest (value t n ∷ below))
outcome s h rest t below (Err trap) = Trapped (trap_of trap)

-- an answer of an operation on two operands: one that leaks has public ones, and shows them
abbrev pub showing : Bool → Label → ℕ → ℕ → Answer → Reduced
showing false l a b answer = quiet answer
showing true l a b answer = provided (same_label l Public) (noting (Events.Divide a b) answer)

-- an operation under a profile, by its signature and the number of its operands
abbrev pub numeric : Profile → Storage → Here → Code Label → ℕ → Label → NumSig → ℕ → List Value → Reduced
numeric profile s h rest op l sig (suc zero) values =
    pop (value_type sig.operand l) values
    (λ a below. given (value1 op a) (λ n. quiet (Goes s (put h rest (value (value_type sig.result l) n ∷ below)))))
numeric profile s h rest op l sig (suc (suc zero)) values =
    pop (value_type sig.operand l) values (λ b below. pop (value_type sig.operand l) below (λ a below'.
    given (value2 op a b) (λ r. showing (leaks op profile) l a b
    (outcome s h rest (value_type sig.result l) below' r))))
numeric profile s h rest op l sig _ values = stuck

-- ---- instructions

module _ (fns : Functions) (fn : FunctionInstance) (s : Storage) (h : Here) (rest : Code Label) where
  -- an instruction without instructions inside
  abbrev pub leaf : Leaf Label → List Value → Reduced
  -- control instructions (section 4.4.5)
  leaf Unreachable values = quiet (Trapped TrapCode.Unreachable)
  leaf Nop values = quiet (Goes s (put h rest values))
  leaf (Br k) values = branch quiet s h k (innermost h rest values ∷ h.outer) values
  leaf (BrIf k) values = pop i32 values (λ n below.
      if n == 0
      then pass (noting (Events.Branch false) (Goes s (put h rest below))) k (innermost h rest below ∷ h.outer) below
      else branch (noting (Events.Branch true)) s h k (innermost h rest below ∷ h.outer) below)
  leaf (BrTable targets otherwise) values = pop i32 values (λ n below.
      given (slice_get (targets ++ otherwise ∷ []) (table_place n targets)) (λ k.
      branch (noting (Events.Table n)) s h k (innermost h rest below ∷ h.outer) below))
  leaf Return values = carry fn.type.result values (λ v. quiet (finish s v h.callers))
  leaf (Call f) values =
      given (slice_get fn.part.functions f)
      (λ n. given (slice_get fns n) (λ callee. invoke (noting (Events.Enter n)) s h rest n callee values))
  leaf (CallIndirect y) values = pop i32 values (λ n below.
      given (slice_get fn.part.types y) (λ entry. given fn.part.table (λ t. given (slice_get s.tables t) (λ table.
      call_entry fns s h rest n entry.type (slice_get table.entries n) below))))
  -- parametric instructions (section 4.4.2)
  leaf Drop values = pop_any values (λ v below. quiet (Goes s (put h rest below)))
  leaf (Select l) values =
      pop (value_type W32 l) values (λ n below.
      pop_any below (λ b below'. provided (same_label l b.type.tag) (pop b.type below' (λ a below''.
      quiet (Goes s (put h rest (value b.type (if n == 0 then b.number else a) ∷ below'')))))))
  -- variable instructions (section 4.4.3)
  leaf (LocalGet x) values = given (slice_get h.locals x) (λ v. quiet (Goes s (put h rest (v ∷ values))))
  leaf (LocalSet x) values = given (slice_get h.locals x) (λ old. pop old.type values (λ n below.
      quiet (Goes s (put (with_local h x (value old.type n)) rest below))))
  leaf (LocalTee x) values = given (slice_get h.locals x) (λ old. pop old.type values (λ n below.
      quiet (Goes s (put (with_local h x (value old.type n)) rest (value old.type n ∷ below)))))
  leaf (GlobalGet x) values = given (slice_get fn.part.globals x) (λ i. given (slice_get s.globals i) (λ g.
      quiet (Goes s (put h rest (g.value ∷ values)))))
  leaf (GlobalSet x) values = given (slice_get fn.part.globals x)
      (λ i. given (slice_get s.globals i) (λ g. provided g.mutable (pop g.value.type values (λ n below.
      quiet (Goes (with_number s i g n) (put h rest below))))))
  -- memory instructions (section 4.4.4)
  leaf (Load w l count signed align offset) values =
      memory_of fn s (λ i m. provided (same_label l m.type.tag) (pop i32 values (λ at below.
      noting (Events.Load i (at + offset) count) (
      if nat_le (at + offset + count) (length m.bytes)
      then Goes s (put h rest (value (value_type w l) (number_at w signed count (at + offset) m.bytes) ∷ below))
      else Trapped MemoryBounds))))
  leaf (Store w l count align offset) values =
      memory_of fn s (λ i m. provided (same_label l m.type.tag)
      (pop (value_type w l) values (λ n below. pop i32 below (λ at below'.
      noting (Events.Store i (at + offset) count) (
      if nat_le (at + offset + count) (length m.bytes)
      then Goes (with_bytes s i m (written_at (at + offset) (bytes_of_number count n) m.bytes)) (put h rest below')
      else Trapped MemoryBounds)))))
  leaf MemorySize values = memory_of fn s (λ i m. quiet (Goes s (put h rest (value i32 (pages m) ∷ values))))
  leaf MemoryGrow values = memory_of fn s (λ i m. pop i32 values (λ count below. noting (Events.Grow count) (
      if may_grow s m count
      then Goes (with_bytes s i m (grown m count)) (put h rest (value i32 (pages m) ∷ below))
      else Goes s (put h rest (value i32 4294967295 ∷ below)))))
  -- numeric instructions (section 4.4.1), and the changes of a label
  leaf (Const w l bits) values = quiet (Goes s (put h rest (value (value_type w l) bits ∷ values)))
  leaf (Numeric op l) values = given (num_sig_of op) (λ sig. numeric fn.part.profile s h rest op l sig sig.arity values)
  leaf (Classify w) values = pop (value_type w Public) values
      (λ n below. relabelling None (Goes s (put h rest (value (value_type w Secret) n ∷ below))))
  leaf (Declassify w) values = pop (value_type w Secret) values
      (λ n below. relabelling (Some n) (Goes s (put h rest (value (value_type w Public) n ∷ below))))

-- an `if` takes its operand and opens a block around one of its arms
abbrev pub choose : Storage → Here → Code Label → Option (ValueType Label) → Code Label → Code Label → List Value
    → Reduced
choose s h rest t arm other values = pop i32 values (λ n below.
    noting (Events.Branch (not (n == 0))) (Goes s (enter h rest below t None (if n == 0 then other else arm))))

-- the next instruction, or the end of the label where there is none; an `if` without `else` has an empty other arm
abbrev pub next : Functions → FunctionInstance → Storage → Here → Code Label → List Value → Reduced
next fns fn s h Stop values = carry h.result values (λ v. quiet (leave s h v h.outer))
next fns fn s h (Then i rest) values = leaf fns fn s h rest i values
next fns fn s h (Block t body rest) values = quiet (Goes s (enter h rest values t None body))
next fns fn s h (Loop t body rest) values = quiet (Goes s (enter h rest values t (Some body) body))
next fns fn s h (If t arm rest) values = choose s h rest t arm Stop values
next fns fn s h (IfElse t arm other rest) values = choose s h rest t arm other values

-- ---- weight

-- an activation that would weigh too much traps instead
abbrev pub within_weight : Answer → Answer
within_weight (Goes s a) = if nat_le (weight a) most_weight then Goes s a else Trapped Exhausted
within_weight answer = answer

-- a reduction whose activation is weighed; its event stays
abbrev pub limited : Reduced → Reduced
limited r = record r { answer = within_weight r.answer }

-- ---- one reduction

-- the place of a frame's innermost label
abbrev pub here : Frame → Open → List Open → List Frame → Here
here f o outer callers = record {
  func = f.func;
  locals = f.locals;
  result = o.result;
  again = o.again;
  outer = outer;
  callers = callers;
}

-- one reduction in a frame with these labels
abbrev pub in_frame : Functions → Storage → Frame → List Open → List Frame → Reduced
in_frame fns s f [] callers = stuck
in_frame fns s f (o ∷ outer) callers =
    given (slice_get fns f.func) (λ fn. limited (next fns fn s (here f o outer callers) o.code o.values))

-- one reduction of an activation over a store
abbrev pub red : Functions → Storage → Activation → Reduced
red fns s [] = stuck
red fns s (f ∷ callers) = in_frame fns s f f.labels callers
