-- The workload of a seed and a size: a plain module, marks, a script and a vault.
use Rattle.std.specs.Prelude.{ℕ, ◌+◌, ◌*◌, ◌%◌, ◌==◌, false, List, [], ◌∷◌, ◌++◌, map, flat_map, get_or, Some, None, if◌then◌else◌, codes}
use Rattle.std.specs.List.{range_with_len}
use Rattle.ctw_ops.specs.declared.types.Label.{Label}
use Rattle.ctw_ops.specs.declared.types.Label.TheVariants.{Public}
use Rattle.ctw_ops.specs.declared.types.Width.TheVariants.{W32}
use Rattle.ctw_ops.specs.declared.types.Trust.TheVariants.{Untrusted}
use Rattle.ctw_ops.specs.declared.types.ExternTag.TheVariants.{Func, Memory}
use Rattle.ctw_ops.specs.declared.numeric.Profile.TheVariants.{Divide}
use Rattle.ctw_ops.specs.Types.{ValueType, MemoryType, value_type}
use Rattle.ctw_ops.specs.Code.{Leaf, Call, LocalGet, LocalSet, Store, Const, Numeric, straight}
use Rattle.ctw_ops.specs.Tree.{Module, TypeEntry, Function}
use Rattle.ctw_script.specs.declared.moves.Arg.TheVariants.{Vault}
use Rattle.ctw_script.specs.declared.moves.Move.{Move}
use Rattle.ctw_script.specs.declared.moves.Move.TheVariants.{Begin, Turn}
use Rattle.ctw_gen.specs.Draws.{draw}

-- ---- instructions

-- i32
abbrev pub integer : ValueType Label
integer = value_type W32 Public

-- i32.const
abbrev pub number : ℕ → Leaf Label
number bits = Const W32 Public bits

-- add, sub, mul, and, or, xor, shl and rotl of i32, by their opcodes
abbrev pub operations : List ℕ
operations = 0x6A ∷ 0x6B ∷ 0x6C ∷ 0x71 ∷ 0x72 ∷ 0x73 ∷ 0x74 ∷ 0x77 ∷ []

abbrev pub operation : ℕ → Leaf Label
operation i = Numeric (get_or operations i 0) Public

-- an operation on both parameters, and then i32.xor with a number
abbrev pub computes : ℕ → ℕ → List (Leaf Label)
computes a c = LocalGet 0 ∷ LocalGet 1 ∷ operation (a % 8) ∷ number c ∷ Numeric 0x73 Public ∷ []

-- the number on the stack is stored at a multiple of four below 65,536, which is cut out of the second parameter, and
-- stays on the stack
abbrev pub stores : List (Leaf Label)
stores =
    LocalSet 0 ∷ LocalGet 1 ∷ number 65532 ∷ Numeric 0x71 Public ∷ LocalGet 0 ∷ Store W32 Public 4 2 0 ∷ LocalGet 0 ∷ []

-- the instructions that three draws make: they store where the third is odd
abbrev pub leaves : ℕ → ℕ → ℕ → List (Leaf Label)
leaves a c b = computes a c ++ (if b % 2 == 1 then stores else [])

-- each function is called with what the one before gave, and its own number
abbrev pub calls : ℕ → List (Leaf Label)
calls size = flat_map (λ k. number k ∷ Call k ∷ []) (range_with_len 0 size)

-- ---- functions

-- a function without declared locals, whose instructions open no block
abbrev pub function : ℕ → List (Leaf Label) → Function Label
function type instructions = record { type = type; locals = []; body = straight instructions }

abbrev pub made : ℕ → ℕ → ℕ → Function Label
made a c b = function 0 (leaves a c b)

-- the function of each number is made by three draws in a row
abbrev pub numbered : ℕ → ℕ → Function Label
numbered seed k = made (draw seed (3 * k)) (draw seed (3 * k + 1)) (draw seed (3 * k + 2))

abbrev pub main : ℕ → Function Label
main size = function 1 (LocalGet 0 ∷ calls size)

unfoldable pub functions : ℕ → ℕ → List (Function Label)
functions seed size = map (numbered seed) (range_with_len 0 size) ++ main size ∷ []

-- ---- the module

-- a function type from integers to an integer
abbrev pub type_entry : List (ValueType Label) → TypeEntry Label
type_entry params = record { base = None; type = record { trust = Untrusted; params = params; result = Some integer } }

-- a memory of one page, which has no greatest size
abbrev pub one_page : MemoryType Label
one_page = record { tag = Public; limits = record { min = 1; max = None } }

abbrev pub workload_module : ℕ → ℕ → Module Label
workload_module seed size = record {
  ct = false;
  profile = Divide;
  types = type_entry (integer ∷ integer ∷ []) ∷ type_entry (integer ∷ []) ∷ [];
  imports = [];
  functions = functions seed size;
  table = None;
  memory = Some one_page;
  globals = [];
  exports =
      record { name = codes "main"; kind = Func; index = size } ∷ record { name = codes "mem"; kind = Memory; index = 0 }
      ∷ [];
  start = None;
  elements = [];
  segments = [];
  customs = [];
}

-- ---- beside the module

-- the parameter of `main` is secret
abbrev pub marks : List ℕ
marks = codes "secret param \"main\" 0"

-- `main` is called with a number from the vault, and takes a turn as long as there may be
abbrev pub script : List ℕ
script = codes "begin 0 \"m\" \"main\" *\nturn 0 1000000\n"

-- what it is read as
abbrev pub moves : List Move
moves = Begin 0 (codes "m") (codes "main") (Vault ∷ []) ∷ Turn 0 1000000 ∷ []

-- four more draws behind those of the functions
abbrev pub vault : ℕ → ℕ → List ℕ
vault seed size = map (λ i. draw seed (3 * size + i) % 256) (range_with_len 0 4)
