-- Types, instructions and what a body may name, under a function on tags; and code under an action on its leaves.
use Rattle.std.specs.Prelude.{List, [], ◌∷◌, map, option_map}
use Rattle.ctw_ops.specs.Types.{ValueType, FunctionType, VariableType, value_type}
use Rattle.ctw_ops.specs.Code.{Leaf, Unreachable, Nop, Br, BrIf, BrTable, Return, Call, CallIndirect, Drop, Select, LocalGet, LocalSet, LocalTee, GlobalGet, GlobalSet, Load, Store, MemorySize, MemoryGrow, Const, Numeric, Classify, Declassify, Code, Stop, Then, Block, Loop, If, IfElse, Op, Plain, Opens, Closes}
use Rattle.ctw_ops.specs.Typing.{Context}

-- leaves in front of a sequence
abbrev pub in_front_of : {S : Type 0} → List (Leaf S) → Code S → Code S
in_front_of [] rest = rest
in_front_of (leaf ∷ leaves) rest = Then leaf (in_front_of leaves rest)

module _ {S T : Type 0} (f : S → T) where
  abbrev pub type_to : ValueType S → ValueType T
  type_to t = value_type t.width (f t.tag)

  abbrev pub function_type_to : FunctionType S → FunctionType T
  function_type_to g = record {
    trust = g.trust;
    params = map type_to g.params;
    result = option_map type_to g.result;
  }

  abbrev pub variable_type_to : VariableType S → VariableType T
  variable_type_to g = record { mutable = g.mutable; value = type_to g.value }

  abbrev pub context_to : Context S → Context T
  context_to C = record {
    types = map function_type_to C.types;
    functions = map function_type_to C.functions;
    globals = map variable_type_to C.globals;
    locals = map type_to C.locals;
    memory = option_map f C.memory;
    table = C.table;
    trust = C.trust;
    result = option_map type_to C.result;
    labels = map (option_map type_to) C.labels;
    public = f C.public;
    secret = f C.secret;
    profile = C.profile;
  }

  abbrev pub leaf_to : Leaf S → Leaf T
  leaf_to Unreachable = Unreachable
  leaf_to Nop = Nop
  leaf_to (Br k) = Br k
  leaf_to (BrIf k) = BrIf k
  leaf_to (BrTable ks k) = BrTable ks k
  leaf_to Return = Return
  leaf_to (Call x) = Call x
  leaf_to (CallIndirect y) = CallIndirect y
  leaf_to Drop = Drop
  leaf_to (Select l) = Select (f l)
  leaf_to (LocalGet x) = LocalGet x
  leaf_to (LocalSet x) = LocalSet x
  leaf_to (LocalTee x) = LocalTee x
  leaf_to (GlobalGet x) = GlobalGet x
  leaf_to (GlobalSet x) = GlobalSet x
  leaf_to (Load w l bytes signed align offset) = Load w (f l) bytes signed align offset
  leaf_to (Store w l bytes align offset) = Store w (f l) bytes align offset
  leaf_to MemorySize = MemorySize
  leaf_to MemoryGrow = MemoryGrow
  leaf_to (Const w l bits) = Const w (f l) bits
  leaf_to (Numeric op l) = Numeric op (f l)
  leaf_to (Classify w) = Classify w
  leaf_to (Declassify w) = Declassify w

  module _ (act : Leaf S → List (Leaf T)) where
    -- each leaf becomes the leaves that the action gives; blocks stay, with their results' tags changed
    abbrev pub code_to : Code S → Code T
    code_to Stop = Stop
    code_to (Then leaf rest) = in_front_of (act leaf) (code_to rest)
    code_to (Block t body rest) = Block (option_map type_to t) (code_to body) (code_to rest)
    code_to (Loop t body rest) = Loop (option_map type_to t) (code_to body) (code_to rest)
    code_to (If t arm rest) = If (option_map type_to t) (code_to arm) (code_to rest)
    code_to (IfElse t arm other rest) = IfElse (option_map type_to t) (code_to arm) (code_to other) (code_to rest)

    -- the same of one opcode
    abbrev pub op_to : Op S → List (Op T)
    op_to (Plain leaf) = map Plain (act leaf)
    op_to (Opens shape t) = Opens shape (option_map type_to t) ∷ []
    op_to (Closes closer) = Closes closer ∷ []
