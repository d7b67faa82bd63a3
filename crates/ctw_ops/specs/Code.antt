-- Instructions as a tree, and as the list of their opcodes (W3C WebAssembly Core 1.0, section 2.4,
-- and the instructions of the CT-Wasm paper).
use Rattle.std.specs.Prelude.{ℕ, Bool, List, [], ◌∷◌, Option}
use Rattle.ctw_ops.specs.ValueType.{ValueType}
use Rattle.ctw_ops.specs.declared.types.Width.{Width}

-- An instruction without instructions inside. A numeric operation is its opcode, and a constant the bits of its number.
pub data Leaf (S : Type 0) : Type 0 where
  Unreachable : Leaf S
  Nop : Leaf S
  Br : (depth : ℕ) → Leaf S
  BrIf : (depth : ℕ) → Leaf S
  BrTable : (targets : List ℕ) (otherwise : ℕ) → Leaf S
  Return : Leaf S
  Call : (index : ℕ) → Leaf S
  CallIndirect : (index : ℕ) → Leaf S
  Drop : Leaf S
  Select : (tag : S) → Leaf S
  LocalGet : (index : ℕ) → Leaf S
  LocalSet : (index : ℕ) → Leaf S
  LocalTee : (index : ℕ) → Leaf S
  GlobalGet : (index : ℕ) → Leaf S
  GlobalSet : (index : ℕ) → Leaf S
  Load : (width : Width) (tag : S) (bytes : ℕ) (signed : Bool) (align offset : ℕ) → Leaf S
  Store : (width : Width) (tag : S) (bytes : ℕ) (align offset : ℕ) → Leaf S
  MemorySize : Leaf S
  MemoryGrow : Leaf S
  Const : (width : Width) (tag : S) (bits : ℕ) → Leaf S
  Numeric : (op : ℕ) (tag : S) → Leaf S
  Classify : (width : Width) → Leaf S
  Declassify : (width : Width) → Leaf S

-- a sequence of instructions, from the first on; an `if` keeps whether its `else` is written
pub data Code (S : Type 0) : Type 0 where
  Stop : Code S
  Then : (leaf : Leaf S) (rest : Code S) → Code S
  Block : (result : Option (ValueType S)) (body rest : Code S) → Code S
  Loop : (result : Option (ValueType S)) (body rest : Code S) → Code S
  If : (result : Option (ValueType S)) (arm rest : Code S) → Code S
  IfElse : (result : Option (ValueType S)) (arm other rest : Code S) → Code S

-- leaves one after another
abbrev pub straight : {S : Type 0} → List (Leaf S) → Code S
straight [] = Stop
straight (leaf ∷ leaves) = Then leaf (straight leaves)

-- what opens a block
pub data Shape : Type 0 where
  OfBlock OfLoop OfIf : Shape

-- what closes a sequence
pub data Closer : Type 0 where
  ByEnd ByElse : Closer

-- one opcode, `else` and `end` too
pub data Op (S : Type 0) : Type 0 where
  Plain : (leaf : Leaf S) → Op S
  Opens : (shape : Shape) (result : Option (ValueType S)) → Op S
  Closes : (closer : Closer) → Op S

-- the opcodes of a sequence, and then others
abbrev pub onto : {S : Type 0} → Code S → List (Op S) → List (Op S)
onto Stop ops = ops
onto (Then leaf rest) ops = Plain leaf ∷ onto rest ops
onto (Block t body rest) ops = Opens OfBlock t ∷ onto body (Closes ByEnd ∷ onto rest ops)
onto (Loop t body rest) ops = Opens OfLoop t ∷ onto body (Closes ByEnd ∷ onto rest ops)
onto (If t arm rest) ops = Opens OfIf t ∷ onto arm (Closes ByEnd ∷ onto rest ops)
onto (IfElse t arm other rest) ops = Opens OfIf t ∷ onto arm (Closes ByElse ∷ onto other (Closes ByEnd ∷ onto rest ops))

-- the opcodes of a body, its closing end among them
abbrev pub opcodes : {S : Type 0} → Code S → List (Op S)
opcodes code = onto code (Closes ByEnd ∷ [])
