-- What a reduction tells, and when a running call can take one.
use Rattle.std.specs.Prelude.{◌≡◌, ◌⊎◌, ◌≢◌, ◌≤◌, ◌<◌, All, ℕ, ◌+◌, Bool, List, [], ◌∷◌, ◌++◌, length, Option, Some, None, Result, Ok, Err, IfOk, slice_get, option_map, nat_le, if◌then◌else◌}
use Rattle.std.specs.declared.alloc.AllocError.{AllocError}
use Rattle.ctw_script.specs.declared.trap.TrapCode.TheVariants.{Exhausted}
use Rattle.ctw_ops.specs.declared.types.Label.{Label}
use Rattle.ctw_ops.specs.Types.{ValueType}
use Rattle.ctw_ops.specs.Limits.{most_weight}
use Rattle.ctw_ops.specs.Code.{ByEnd, Closes, Code, Op}
use Rattle.ctw_flat.specs.declared.instr.Instr.{Instr}
use Rattle.ctw_flat.specs.Instructions.{op_of}
use Rattle.ctw_flat.specs.Places.{instr_in}
use Rattle.ctw_flat.specs.Blocks.{ends_in}
use Rattle.ctw_flat.specs.declared.blocks.Block.{Block}
use Rattle.ctw_step.specs.declared.running.Opened.{Opened}
use Rattle.ctw_script.specs.declared.event.Event.{Event}
use Rattle.ctw_script.specs.declared.event.Event.TheVariants as Events
use Rattle.ctw_num.specs.declared.trap.NumTrap.{NumTrap}
use Rattle.ctw_ops.specs.declared.numeric.Profile.{Profile}
use Rattle.ctw_semantics.specs.Values.{Value}
use Rattle.ctw_ops.specs.declared.types.Width.{Width}
use Rattle.ctw_script.specs.declared.trap.TrapCode.TheVariants.{MemoryBounds}
use Rattle.ctw_semantics.specs.Stores.{Memory, Storage, number_at, bytes_of_number, written_at, with_bytes, pages, may_grow, grown}
use Rattle.ctw_semantics.specs.Instances.{FunctionInstance, Functions}
use Rattle.ctw_semantics.specs.Activations.{Open}
use Rattle.ctw_semantics.specs.Answers.{Answer, Goes, Ended, Trapped, Stuck}
use Rattle.ctw_semantics.specs.Machine as Machine
use Rattle.ctw_semantics.specs.Machine.{Here, put}
use Rattle.ctw_semantics.specs.Sound.{ValueFits}
use Rattle.ctw_step.specs.declared.running.Stepped.{Stepped}
use Rattle.ctw_step.specs.declared.running.Stepped.TheVariants as Steppeds
use Rattle.ctw_step.specs.Shown.{Shown}
use Rattle.ctw_step.specs.Stands.{Codes, number_of, Stands}

-- what is told of a reduction, with the store and the call behind it
abbrev pub Tells : Codes → Storage → Shown → Stepped → Answer → Option Event → Type 0
Tells codes s c (Steppeds.Went e) (Goes t a) event = (t ≡ s) × Stands codes c a × (e ≡ event)
Tells codes s c (Steppeds.Ended v e) (Ended w) event = (v ≡ option_map number_of w) × (e ≡ event)
Tells codes s c (Steppeds.Trapped code e) (Trapped d) event = (code ≡ d) × (e ≡ event)
Tells codes s c _ _ event = ⊥

-- each number has the width of its type
abbrev pub AllFit : List Value → Type 0
AllFit [] = Unit {0}
AllFit (v ∷ vs) = ValueFits v × AllFit vs

-- the result of the outermost of labels, where the innermost has this result
abbrev pub last_result : Option (ValueType Label) → List Open → Option (ValueType Label)
last_result t [] = t
last_result t (o ∷ outer) = last_result o.result outer

-- At this place of a store the call stands, before this instruction of its body, which isn't stuck. The outermost label
-- is the function's.
pub record Meets (codes : Codes) (bytes : List ℕ) (c : Shown) (i : Instr) (next : ℕ) (fns : Functions)
    (fn : FunctionInstance) (s : Storage) (h : Here) (code : Code Label) (vs : List Value) : Type 0 where
  pub stands : Stands codes c (put h code vs)
  pub body : codes h.func ≡ bytes
  pub reads : instr_in (codes h.func) c.at ≡ Ok (op_of i, next)
  pub fits : AllFit vs
  pub own : last_result h.result h.outer ≡ fn.type.result
  pub going : (Machine.next fns fn s h code vs).answer ≢ Stuck

-- what is known of the functions and of the one that runs
abbrev pub Knowing : Type 1
Knowing = Codes → Functions → FunctionInstance → Type 0

abbrev pub Nothing : Knowing
Nothing codes fns fn = Unit {0}

-- which operations leak there
abbrev pub HasProfile : Profile → Knowing
HasProfile profile codes fns fn = fn.part.profile ≡ profile

-- the number of its memory
abbrev pub HasMemory : ℕ → Knowing
HasMemory mem codes fns fn = fn.part.memory ≡ Some mem

-- the number of its global of an index
abbrev pub HasGlobal : ℕ → ℕ → Knowing
HasGlobal index global codes fns fn = slice_get fn.part.globals index ≡ Some global

-- there is such a place
pub record Runs (known : Knowing) (bytes : List ℕ) (c : Shown) (i : Instr) (next : ℕ) (s : Storage) : Type 0 where
  pub codes : Codes
  pub fns : Functions
  pub fn : FunctionInstance
  pub place : Here
  pub code : Code Label
  pub values : List Value
  pub knows : known codes fns fn
  pub meets : Meets codes bytes c i next fns fn s place code values

-- a reduction of this instruction was taken, from every such place
abbrev pub Does : Knowing → List ℕ → Shown → Instr → ℕ → Storage → Result Stepped AllocError → Shown → Storage → Type 0
Does known bytes c i next s result c' s' =
    (codes : Codes) (fns : Functions) (fn : FunctionInstance) (h : Here) (code : Code Label) (vs : List Value)
    → known codes fns fn
    → Meets codes bytes c i next fns fn s h code vs
    → IfOk result
    (λ r. Tells codes s' c' r (Machine.next fns fn s h code vs).answer (Machine.next fns fn s h code vs).event)

-- what a call with these operands and this place is
abbrev pub with_operands : Shown → List ℕ → ℕ → Shown
with_operands c operands next = record c { operands = operands; at = next }

-- where the block at a place ends, and the place behind
pub record EndsBehind (bytes : List ℕ) (blocks : List Block) (at : ℕ) (after : ℕ) : Type 0 where
  pub end : ℕ
  pub other : Option ℕ
  pub ends : ends_in blocks at ≡ Some (end, other)
  pub inside : end ≤ length bytes
  pub reads : instr_in bytes end ≡ Ok (Closes ByEnd, after)

-- a place behind an instruction
abbrev pub IsBehind : List ℕ → ℕ → ℕ → Type 0
IsBehind bytes at next = (op : Op Label) × (at ≤ length bytes) × (instr_in bytes at ≡ Ok (op, next))

-- where the other arm of an `if` begins: behind its `else`, or at its end where there is none
abbrev pub OtherArm : List ℕ → ℕ → Option ℕ → ℕ → Type 0
OtherArm bytes end None at = at ≡ end
OtherArm bytes end (Some parting) at = IsBehind bytes parting at

-- with one label more, at a place
abbrev pub with_label : Shown → Opened → ℕ → Shown
with_label c r next = record c { labels = c.labels ++ r ∷ []; at = next }

-- the record of a label that is opened here
abbrev pub opened : Shown → Bool → ℕ → Bool → Opened
opened c has_result after is_loop =
    record { height = length c.operands; after = after; start = c.at; has_result = has_result; is_loop = is_loop }

-- how many words and labels a running call has
abbrev pub words : Shown → ℕ
words c = length c.operands + length c.locals + length c.labels

-- a call that has too many of them traps instead of going on
abbrev pub Weighs : Shown → Stepped → Stepped → Type 0
Weighs c (Steppeds.Went e) r =
    r ≡ (if nat_le (words c) most_weight then Steppeds.Went e else Steppeds.Trapped Exhausted e)
Weighs c told r = r ≡ told

-- the same where neither the functions nor the store matter
abbrev pub RunsAlone : Shown → Instr → ℕ → Type 0
RunsAlone c i next = (bytes : List ℕ) × (s : Storage) × Runs Nothing bytes c i next s

abbrev pub DoesAlone : Shown → Instr → ℕ → Result Stepped AllocError → Shown → Type 0
DoesAlone c i next result c' = (bytes : List ℕ) (s : Storage) → Does Nothing bytes c i next s result c' s

-- with other locals
abbrev pub with_locals : Shown → List ℕ → Shown
with_locals c locals = record c { locals = locals }

-- ---- numeric operations

-- what an onlooker sees of an operation on two operands, where it leaks
abbrev pub shown_division : Bool → ℕ → ℕ → Option Event
shown_division leaks x y = if leaks then Some (Events.Divide x y) else None

-- what an operation on two operands does, by its outcome
abbrev pub Computed : Shown → List ℕ → Option Event → ℕ → Result ℕ NumTrap → Stepped → Shown → Type 0
Computed c front e next (Ok n) r c' = (r ≡ Steppeds.Went e) × (c' ≡ with_operands c (front ++ n ∷ []) next)
Computed c front e next (Err trap) r c' = r ≡ Steppeds.Trapped (Machine.trap_of trap) e

-- ---- memories

-- what a load does, of so many bytes at an address of a memory
pub record Loaded (c : Shown) (front : List ℕ) (w : Width) (signed : Bool) (count at : ℕ) (m : Memory) (i next : ℕ)
    (r : Stepped) (c' : Shown) : Type 0 where
  pub inside : at + count ≤ length m.bytes
      → (r ≡ Steppeds.Went (Some (Events.Load i at count)))
      × (c' ≡ with_operands c (front ++ number_at w signed count at m.bytes ∷ []) next)
  pub outside : length m.bytes < at + count → r ≡ Steppeds.Trapped MemoryBounds (Some (Events.Load i at count))

-- what a store of so many bytes of a number does
pub record Stored (c : Shown) (front : List ℕ) (count at n : ℕ) (s : Storage) (m : Memory) (i next : ℕ) (r : Stepped)
    (c' : Shown) (s' : Storage) : Type 0 where
  pub inside : at + count ≤ length m.bytes
      → (r ≡ Steppeds.Went (Some (Events.Store i at count))) × (c' ≡ with_operands c front next)
      × (s' ≡ with_bytes s i m (written_at at (bytes_of_number count n) m.bytes))
  pub outside : length m.bytes < at + count → r ≡ Steppeds.Trapped MemoryBounds (Some (Events.Store i at count))

-- the number that growth gives, and the store that it leaves
abbrev pub Grew : Storage → ℕ → Memory → ℕ → ℕ → Storage → Type 0
Grew old i m count n new =
    (n ≡ (if may_grow old m count then pages m else 4294967295))
    × (new ≡ (if may_grow old m count then with_bytes old i m (grown m count) else old))

-- the bytes of a memory are below 256
abbrev pub HasBytes : Storage → ℕ → Type 0
HasBytes s i = (m : Memory) → slice_get s.memories i ≡ Some m → All (λ byte. byte < 256) m.bytes

-- a reduction changes the store only where it goes on with no more words; one that ends or traps leaves it as it was
abbrev pub Settles : Storage → Shown → Storage → Shown → Stepped → Type 0
Settles s c s' c' (Steppeds.Went e) = (s' ≡ s) ⊎ (words c' ≤ words c)
Settles s c s' c' (Steppeds.Ended v e) = s' ≡ s
Settles s c s' c' (Steppeds.Trapped code e) = s' ≡ s

-- a step that ends or traps leaves the store as it was
abbrev pub KeepsAtEnd : Storage → Storage → Stepped → Type 0
KeepsAtEnd s s' (Steppeds.Went e) = Unit {0}
KeepsAtEnd s s' (Steppeds.Ended v e) = s' ≡ s
KeepsAtEnd s s' (Steppeds.Trapped code e) = s' ≡ s
