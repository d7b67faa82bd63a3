-- Sound states: every value has the type that its place wants, and every index leads somewhere.
use Rattle.std.specs.Prelude.{◌≡◌, ◌≤◌, ◌<◌, ◌*◌, ℕ, List, [], ◌∷◌, ◌++◌, map, length, Option, Some, None, is_some, IfSome, slice_get, All, Contains}
use Rattle.ctw_ops.specs.declared.types.Label.{Label}
use Rattle.ctw_ops.specs.declared.types.Label.TheVariants.{Public, Secret}
use Rattle.ctw_ops.specs.declared.types.Trust.TheVariants.{Untrusted}
use Rattle.ctw_ops.specs.Types.{ValueType, FunctionType, VariableType, MemoryType, FitsWidth, EraseAlike}
use Rattle.ctw_ops.specs.Tree.{TypeEntry}
use Rattle.ctw_ops.specs.Code.{Code}
use Rattle.ctw_ops.specs.Typing.{Context, Typed, optional, upon}
use Rattle.ctw_ops.specs.Valid.{AreTypes}
use Rattle.ctw_ops.specs.Limits.{page_size, most_memory_pages, most_set_pages, most_weight}
use Rattle.ctw_ops.specs.IndirectCalls.{indirect_calls}
use Rattle.ctw_semantics.specs.Values.{Value}
use Rattle.ctw_semantics.specs.Stores.{Memory, Global, Table, Storage, pages, all_pages, most_pages_of}
use Rattle.ctw_semantics.specs.Instances.{ModuleInstance, FunctionInstance, Functions}
use Rattle.ctw_semantics.specs.Activations.{Open, Frame, Activation, weight}
use Rattle.ctw_semantics.specs.Answers.{Answer, Goes, Ended, Trapped, Stuck}
use Rattle.ctw_semantics.specs.Steps as Steps
use Rattle.ctw_semantics.specs.Steps.{Left, Running, Finished, Turned}
use Rattle.ctw_semantics.specs.Machine.{target_type}
use Rattle.ctw_semantics.specs.Places.{StandIn}

-- ---- stores

-- what a store keeps through all runs: the types of its memories and globals, and its tables
pub record Shape : Type 0 where
  pub memories : List (MemoryType Label)
  pub globals : List (VariableType Label)
  pub tables : List Table

abbrev pub global_type : Global → VariableType Label
global_type g = record { mutable = g.mutable; value = g.value.type }

abbrev pub shape_of : Storage → Shape
shape_of s = record { memories = map (λ m. m.type) s.memories; globals = map global_type s.globals; tables = s.tables }

-- a value's number has the width of its type
abbrev pub ValueFits : Value → Type 0
ValueFits v = FitsWidth v.type.width v.number

-- a memory is whole pages of bytes, within its limits and those of all memories
pub record MemoryFits (m : Memory) : Type 0 where
  pub whole : length m.bytes ≡ page_size * pages m
  pub least : m.type.limits.min ≤ pages m
  pub greatest : pages m ≤ most_pages_of m.type
  pub most : pages m ≤ most_memory_pages
  pub bytes : All (λ byte. byte < 256) m.bytes

-- a table is within its limits
abbrev pub TableFits : Table → Type 0
TableFits t = (t.limits.min ≤ length t.entries) × IfSome t.limits.max (λ max. length t.entries ≤ max)

-- a sound store of this shape; all its memories together have no more pages than a set may have
pub record SoundStorage (shape : Shape) (s : Storage) : Type 0 where
  pub shaped : shape_of s ≡ shape
  pub memories : All MemoryFits s.memories
  pub total : all_pages s.memories ≤ most_set_pages
  pub globals : All (λ g. ValueFits g.value) s.globals
  pub tables : All TableFits s.tables

-- ---- functions

-- the types of what a module's indexes lead to; the memory's is its label
pub record IndexTypes : Type 0 where
  pub functions : List (FunctionType Label)
  pub globals : List (VariableType Label)
  pub memory : Option Label

-- what the body of a function may name, inside these open labels
abbrev pub context : IndexTypes → FunctionInstance → List (Option (ValueType Label)) → Context Label
context names fn labels = record {
  types = map (λ entry. entry.type) fn.part.types;
  functions = names.functions;
  globals = names.globals;
  locals = fn.type.params ++ fn.locals;
  memory = names.memory;
  table = is_some fn.part.table;
  trust = fn.type.trust;
  result = fn.type.result;
  labels = labels;
  public = Public;
  secret = Secret;
  profile = fn.part.profile;
}

-- the indexes of a module lead to things of these types in a store of this shape
pub record IndexesLead (fns : Functions) (shape : Shape) (part : ModuleInstance) (names : IndexTypes) : Type 0 where
  pub functions : (f : ℕ) (t : FunctionType Label) → slice_get names.functions f ≡ Some t
      → (n : ℕ) × (callee : FunctionInstance) × (slice_get part.functions f ≡ Some n)
      × (slice_get fns n ≡ Some callee) × (callee.type ≡ t)
  pub globals : (x : ℕ) (t : VariableType Label) → slice_get names.globals x ≡ Some t
      → (i : ℕ) × (slice_get part.globals x ≡ Some i) × (slice_get shape.globals i ≡ Some t)
  pub memory : (l : Label) → names.memory ≡ Some l
      → (i : ℕ) × (m : MemoryType Label) × (part.memory ≡ Some i) × (slice_get shape.memories i ≡ Some m) × (m.tag ≡ l)
  pub table : (t : ℕ) → part.table ≡ Some t → (table : Table) × (slice_get shape.tables t ≡ Some table)

-- a function whose body has its type in its module
pub record FunctionTyped (fns : Functions) (shape : Shape) (fn : FunctionInstance) : Type 0 where
  pub names : IndexTypes
  pub leads : IndexesLead fns shape fn.part names
  pub variants : AreTypes fn.part.types
  pub body : Typed (context names fn (fn.type.result ∷ [])) fn.body [] (optional fn.type.result)

-- a function in the table of a function and the type of one of that function's indirect calls are equal where they
-- erase alike
abbrev pub UsersAlike : Functions → Shape → FunctionInstance → Type 0
UsersAlike fns shape fn =
    (t y f : ℕ) (table : Table) (entry : TypeEntry Label) (callee : FunctionInstance)
    → fn.part.table ≡ Some t → slice_get shape.tables t ≡ Some table → Contains table.entries (Some f)
    → slice_get fns f ≡ Some callee
    → Contains (indirect_calls fn.body) y → slice_get fn.part.types y ≡ Some entry
    → EraseAlike callee.type entry.type → callee.type ≡ entry.type

-- a set of typed functions over stores of a shape, with functions in its tables
pub record SoundSet (fns : Functions) (shape : Shape) : Type 0 where
  pub bodies : All (FunctionTyped fns shape) fns
  pub users : All (UsersAlike fns shape) fns
  pub entries : (t f : ℕ) (table : Table) → slice_get shape.tables t ≡ Some table → Contains table.entries (Some f)
      → (callee : FunctionInstance) × (slice_get fns f ≡ Some callee)

-- ---- activations

-- values of these types
abbrev pub HasTypes : List (ValueType Label) → List Value → Type 0
HasTypes [] [] = Unit {0}
HasTypes (t ∷ ts) (v ∷ vs) = (v.type ≡ t) × ValueFits v × HasTypes ts vs
HasTypes _ _ = ⊥

-- what branches to open labels carry
abbrev pub target_types : List Open → List (Option (ValueType Label))
target_types labels = map (λ o. target_type o.again o.result) labels

-- a loop's body can be run again inside these labels
abbrev pub AgainTyped : IndexTypes → FunctionInstance → Option (Code Label) → Option (ValueType Label)
    → List (Option (ValueType Label)) → Type 0
AgainTyped names fn None t labels = Unit {0}
AgainTyped names fn (Some body) t labels = Typed (context names fn (None ∷ labels)) body [] (optional t)

-- an open label inside these labels: its code goes from its operands, with what arrives put upon them, to its result
pub record OpenTyped (names : IndexTypes) (fn : FunctionInstance) (labels : List (Option (ValueType Label)))
    (arrives : List (ValueType Label)) (o : Open) : Type 0 where
  pub holds : List (ValueType Label)
  pub values : HasTypes holds o.values
  pub code : Typed (context names fn (target_type o.again o.result ∷ labels)) o.code (upon arrives holds)
      (optional o.result)
  pub again : AgainTyped names fn o.again o.result labels

-- the labels outside one with this result and loop body; each waits for the result of the one inside
abbrev pub OuterTyped : IndexTypes → FunctionInstance → Option (ValueType Label) → Option (Code Label) → List Open
    → Type 0
OuterTyped names fn t again [] = (t ≡ fn.type.result) × (again ≡ None)
OuterTyped names fn t again (o ∷ outer) =
    OpenTyped names fn (target_types outer) (optional t) o × OuterTyped names fn o.result o.again outer

abbrev pub LabelsTyped : IndexTypes → FunctionInstance → List (ValueType Label) → List Open → Type 0
LabelsTyped names fn arrives [] = ⊥
LabelsTyped names fn arrives (o ∷ outer) =
    OpenTyped names fn (target_types outer) arrives o × OuterTyped names fn o.result o.again outer

-- a frame of this function that goes on when these values arrive
pub record FrameTyped (fns : Functions) (shape : Shape) (arrives : List (ValueType Label)) (fn : FunctionInstance)
    (f : Frame) : Type 0 where
  pub found : slice_get fns f.func ≡ Some fn
  pub names : IndexTypes
  pub leads : IndexesLead fns shape fn.part names
  pub locals : HasTypes (fn.type.params ++ fn.locals) f.locals
  pub labels : LabelsTyped names fn arrives f.labels
  pub place : StandIn fn.body f.labels

-- the callers of a function with this result; each waits for the result of the one inside, and the outermost has the
-- last result
abbrev pub CallersTyped : Functions → Shape → Option (ValueType Label) → Option (ValueType Label) → List Frame → Type 0
CallersTyped fns shape last t [] = t ≡ last
CallersTyped fns shape last t (f ∷ callers) =
    (fn : FunctionInstance) × FrameTyped fns shape (optional t) fn f
    × CallersTyped fns shape last fn.type.result callers

abbrev pub ActivationTyped : Functions → Shape → Option (ValueType Label) → Activation → Type 0
ActivationTyped fns shape last [] = ⊥
ActivationTyped fns shape last (f ∷ callers) =
    (fn : FunctionInstance) × FrameTyped fns shape [] fn f × CallersTyped fns shape last fn.type.result callers

-- A sound call that will give this result. It speaks of the store's shape alone, so no step of another call over the
-- store changes it.
pub record SoundCall (fns : Functions) (shape : Shape) (last : Option (ValueType Label)) (a : Activation) : Type 0 where
  pub typed : ActivationTyped fns shape last a
  pub light : weight a ≤ most_weight

-- ---- what comes of a sound call over a sound store: never Stuck

abbrev pub SoundAnswer : Functions → Shape → Option (ValueType Label) → Answer → Type 0
SoundAnswer fns shape last (Goes s a) = SoundStorage shape s × SoundCall fns shape last a
SoundAnswer fns shape last (Ended v) = HasTypes (optional last) (optional v)
SoundAnswer fns shape last (Trapped code) = Unit {0}
SoundAnswer fns shape last Stuck = ⊥

abbrev pub SoundLeft : Functions → Shape → Option (ValueType Label) → Left → Type 0
SoundLeft fns shape last (Running a) = SoundCall fns shape last a
SoundLeft fns shape last (Finished v) = HasTypes (optional last) (optional v)
SoundLeft fns shape last (Steps.Trapped code) = Unit {0}
SoundLeft fns shape last Steps.Stuck = ⊥

pub record SoundTurn (fns : Functions) (shape : Shape) (last : Option (ValueType Label)) (x : Turned) : Type 0 where
  pub storage : SoundStorage shape x.storage
  pub left : SoundLeft fns shape last x.left

-- ---- trust

abbrev pub AllUntrusted : Functions → Type 0
AllUntrusted fns = All (λ fn. fn.type.trust ≡ Untrusted) fns
