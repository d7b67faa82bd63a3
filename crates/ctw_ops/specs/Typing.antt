-- The typing of instruction sequences (W3C WebAssembly Core 1.0, section 3.3,
-- with the labels and trust of the CT-Wasm paper).
-- A stack is a list with the last operand first; a row of the table is written as in the standard,
-- the first operand first.
use Rattle.std.specs.Prelude.{◌≡◌, ◌≤◌, ◌^◌, Bool, true, List, [], ◌∷◌, ◌++◌, Option, Some, None, slice_get, All, replicate}
use Rattle.ctw_ops.specs.declared.types.Width.{Width}
use Rattle.ctw_ops.specs.declared.types.Width.TheVariants.{W32}
use Rattle.ctw_ops.specs.declared.types.Trust.{Trust}
use Rattle.ctw_ops.specs.declared.types.Trust.TheVariants.{Untrusted, Trusted}
use Rattle.ctw_ops.specs.declared.numeric.NumSig.{NumSig}
use Rattle.ctw_ops.specs.Types.{ValueType, FunctionType, VariableType, FitsWidth, value_type}
use Rattle.ctw_ops.specs.declared.numeric.Profile.{Profile}
use Rattle.ctw_ops.specs.Numeric.{num_sig_of, leaks}
use Rattle.ctw_ops.specs.Forms.{is_load, is_store}
use Rattle.ctw_ops.specs.Code.{Leaf, Unreachable, Nop, Br, BrIf, BrTable, Return, Call, CallIndirect, Drop, Select, LocalGet, LocalSet, LocalTee, GlobalGet, GlobalSet, Load, Store, MemorySize, MemoryGrow, Const, Numeric, Classify, Declassify, Code, Stop, Then, Block, Loop, If, IfElse}

-- What a body may name, and the open labels, innermost first. A label has the type that a branch to it carries,
-- none for a loop's.
-- `memory` is the tag of the memory, `table` says whether there is one;
-- `public` and `secret` are the tags that stand for the two labels.
pub record Context (S : Type 0) : Type 0 where
  pub types : List (FunctionType S)
  pub functions : List (FunctionType S)
  pub globals : List (VariableType S)
  pub locals : List (ValueType S)
  pub memory : Option S
  pub table : Bool
  pub trust : Trust
  pub result : Option (ValueType S)
  pub labels : List (Option (ValueType S))
  pub public : S
  pub secret : S
  pub profile : Profile

abbrev pub optional : {A : Type 0} → Option A → List A
optional None = []
optional (Some t) = t ∷ []

-- the type of a public number of 32 bits
abbrev pub i32 : {S : Type 0} → Context S → ValueType S
i32 C = value_type W32 C.public

abbrev pub inside : {S : Type 0} → Option (ValueType S) → Context S → Context S
inside t C = record C { labels = t ∷ C.labels }

-- the stack after the list's values are put on `base`, the first one first
abbrev pub upon : {A : Type 0} → List A → List A → List A
upon [] base = base
upon (t ∷ ts) base = upon ts (t ∷ base)

-- `[takes] -> [gives]`, with the values below kept
abbrev pub Moves : {S : Type 0} → List (ValueType S) → List (ValueType S) → List (ValueType S) → List (ValueType S)
    → Type 0
Moves takes gives a b = (kept : List (ValueType _)) × (a ≡ upon takes kept) × (b ≡ upon gives kept)

-- `[any takes] -> [any]`
abbrev pub Leaves : {S : Type 0} → List (ValueType S) → List (ValueType S) → List (ValueType S) → Type 0
Leaves takes a b = (kept : List (ValueType _)) × (a ≡ upon takes kept)

-- whether a function of the first trust may call one of the second
abbrev pub MayCall : Trust → Trust → Type 0
MayCall Untrusted Trusted = ⊥
MayCall _ _ = Unit {0}

abbrev pub operands : {S : Type 0} → NumSig → S → List (ValueType S)
operands sig l = replicate sig.arity (value_type sig.operand l)

-- the row of a leaf: which stacks it leads to
abbrev pub Row : {S : Type 0} → Context S → Leaf S → List (ValueType S) → List (ValueType S) → Type 0
Row C Unreachable a b = Unit {0}
Row C Nop a b = a ≡ b
Row C (Br k) a b = (t : Option (ValueType _)) × (slice_get C.labels k ≡ Some t) × Leaves (optional t) a b
Row C (BrIf k) a b =
    (t : Option (ValueType _)) × (slice_get C.labels k ≡ Some t) × Moves (optional t ++ i32 C ∷ []) (optional t) a b
Row C (BrTable ks k) a b =
    (t : Option (ValueType _)) × (slice_get C.labels k ≡ Some t) × All (λ j. slice_get C.labels j ≡ Some t) ks
    × Leaves (optional t ++ i32 C ∷ []) a b
Row C Return a b = Leaves (optional C.result) a b
Row C (Call f) a b =
    (g : FunctionType _) × (slice_get C.functions f ≡ Some g) × MayCall C.trust g.trust
    × Moves g.params (optional g.result) a b
Row C (CallIndirect y) a b =
    (C.table ≡ true) × (g : FunctionType _) × (slice_get C.types y ≡ Some g) × MayCall C.trust g.trust
    × Moves (g.params ++ i32 C ∷ []) (optional g.result) a b
Row C Drop a b = (t : ValueType _) × Moves (t ∷ []) [] a b
Row C (Select l) a b =
    (w : Width) × Moves (value_type w l ∷ value_type w l ∷ value_type W32 l ∷ []) (value_type w l ∷ []) a b
Row C (LocalGet x) a b = (t : ValueType _) × (slice_get C.locals x ≡ Some t) × Moves [] (t ∷ []) a b
Row C (LocalSet x) a b = (t : ValueType _) × (slice_get C.locals x ≡ Some t) × Moves (t ∷ []) [] a b
Row C (LocalTee x) a b = (t : ValueType _) × (slice_get C.locals x ≡ Some t) × Moves (t ∷ []) (t ∷ []) a b
Row C (GlobalGet x) a b = (g : VariableType _) × (slice_get C.globals x ≡ Some g) × Moves [] (g.value ∷ []) a b
Row C (GlobalSet x) a b =
    (g : VariableType _) × (slice_get C.globals x ≡ Some g) × (g.mutable ≡ true) × Moves (g.value ∷ []) [] a b
Row C (Load w l bytes signed align offset) a b =
    (is_load w bytes signed ≡ true) × (C.memory ≡ Some l) × (2 ^ align ≤ bytes)
    × Moves (i32 C ∷ []) (value_type w l ∷ []) a b
Row C (Store w l bytes align offset) a b =
    (is_store w bytes ≡ true) × (C.memory ≡ Some l) × (2 ^ align ≤ bytes) × Moves (i32 C ∷ value_type w l ∷ []) [] a b
Row C MemorySize a b = (l : _) × (C.memory ≡ Some l) × Moves [] (i32 C ∷ []) a b
Row C MemoryGrow a b = (l : _) × (C.memory ≡ Some l) × Moves (i32 C ∷ []) (i32 C ∷ []) a b
Row C (Const w l bits) a b = FitsWidth w bits × Moves [] (value_type w l ∷ []) a b
Row C (Numeric op l) a b =
    (sig : NumSig) × (num_sig_of op ≡ Some sig) × (leaks op C.profile ≡ true → l ≡ C.public)
    × Moves (operands sig l) (value_type sig.result l ∷ []) a b
Row C (Classify w) a b = Moves (value_type w C.public ∷ []) (value_type w C.secret ∷ []) a b
Row C (Declassify w) a b = (C.trust ≡ Trusted) × Moves (value_type w C.secret ∷ []) (value_type w C.public ∷ []) a b

-- the typing of a sequence, from a stack to a stack
abbrev pub Typed : {S : Type 0} → Context S → Code S → List (ValueType S) → List (ValueType S) → Type 0
Typed C Stop from to = from ≡ to
Typed C (Then leaf rest) from to = (mid : List (ValueType _)) × Row C leaf from mid × Typed C rest mid to
Typed C (Block t body rest) from to = Typed (inside t C) body [] (optional t) × Typed C rest (upon (optional t) from) to
Typed C (Loop t body rest) from to =
    Typed (inside None C) body [] (optional t) × Typed C rest (upon (optional t) from) to
Typed C (If t arm rest) from to =
    (t ≡ None) × Typed (inside t C) arm [] (optional t) × (kept : List (ValueType _)) × (from ≡ i32 C ∷ kept)
    × Typed C rest (upon (optional t) kept) to
Typed C (IfElse t arm other rest) from to =
    Typed (inside t C) arm [] (optional t) × Typed (inside t C) other [] (optional t) × (kept : List (ValueType _))
    × (from ≡ i32 C ∷ kept) × Typed C rest (upon (optional t) kept) to
