-- Which bytes spell an instruction's opcode and a body (W3C WebAssembly Core 1.0, section 5.4, without floats;
-- and those of CT-Wasm).
use Rattle.std.specs.Prelude.{◌≤◌, ℕ, suc, max, List}
use Rattle.ctw_ops.specs.declared.types.Label.{Label}
use Rattle.ctw_ops.specs.declared.types.Label.TheVariants.{Public, Secret}
use Rattle.ctw_ops.specs.declared.types.Width.{Width}
use Rattle.ctw_ops.specs.declared.types.Width.TheVariants.{W32, W64}
use Rattle.ctw_ops.specs.Limits.{most_nesting}
use Rattle.ctw_ops.specs.Code as ops
use Rattle.ctw_ops.specs.Code.{Leaf, Code, Stop, Then, Block, Loop, If, IfElse, Op, Plain, opcodes}
use Rattle.ctw_leb.specs.Grammar.{Grammar, Just, OneOf, Items, ◌>>=◌}
use Rattle.ctw_leb.specs.Numbers.{IsU32, IsS32, IsS64}
use Rattle.ctw_leb.specs.Vectors.{Vector}
use Rattle.ctw_flat.specs.declared.opcode.Bare.{Bare}
use Rattle.ctw_flat.specs.declared.opcode.Bare.TheVariants as bare
use Rattle.ctw_flat.specs.declared.opcode.Opener.{Opener}
use Rattle.ctw_flat.specs.declared.opcode.Opener.TheVariants as opener
use Rattle.ctw_flat.specs.declared.opcode.Indexed.{Indexed}
use Rattle.ctw_flat.specs.declared.opcode.Indexed.TheVariants as indexed
use Rattle.ctw_flat.specs.declared.opcode.Access.{Access}
use Rattle.ctw_flat.specs.declared.opcode.Access.TheVariants as access
use Rattle.ctw_flat.specs.declared.opcode.Form.{Form}
use Rattle.ctw_flat.specs.declared.opcode.Form.TheVariants as form
use Rattle.ctw_flat.specs.declared.opcode.First.{First}
use Rattle.ctw_flat.specs.declared.opcode.First.TheVariants.{Direct, Prefix}
use Rattle.ctw_flat.specs.Opcodes.{opcode, secret_form, block_type, reserved}

abbrev pub bare_op : Bare → Op Label
bare_op bare.Unreachable = Plain ops.Unreachable
bare_op bare.Nop = Plain ops.Nop
bare_op bare.Else = ops.Closes ops.ByElse
bare_op bare.End = ops.Closes ops.ByEnd
bare_op bare.Return = Plain ops.Return
bare_op bare.Drop = Plain ops.Drop
bare_op (bare.Classify width) = Plain (ops.Classify width)
bare_op (bare.Declassify width) = Plain (ops.Declassify width)

abbrev pub shape_of : Opener → ops.Shape
shape_of opener.Block = ops.OfBlock
shape_of opener.Loop = ops.OfLoop
shape_of opener.If = ops.OfIf

abbrev pub indexed_leaf : Indexed → ℕ → Leaf Label
indexed_leaf indexed.Br n = ops.Br n
indexed_leaf indexed.BrIf n = ops.BrIf n
indexed_leaf indexed.Call n = ops.Call n
indexed_leaf indexed.LocalGet n = ops.LocalGet n
indexed_leaf indexed.LocalSet n = ops.LocalSet n
indexed_leaf indexed.LocalTee n = ops.LocalTee n
indexed_leaf indexed.GlobalGet n = ops.GlobalGet n
indexed_leaf indexed.GlobalSet n = ops.GlobalSet n

abbrev pub access_leaf : Label → Access → ℕ → ℕ → Leaf Label
access_leaf label (access.Load width bytes signed) align offset = ops.Load width label bytes signed align offset
access_leaf label (access.Store width bytes) align offset = ops.Store width label bytes align offset

-- a constant's number, by its bits
abbrev pub IsBits : Width → Grammar ℕ
IsBits W32 = IsS32
IsBits W64 = IsS64

-- what stands behind an opcode's byte
abbrev pub Immediate : Label → Form → Grammar (Op Label)
Immediate label (form.Bare b) = Just (bare_op b)
Immediate label (form.Opens o) = OneOf block_type >>= λ t. Just (ops.Opens (shape_of o) t)
Immediate label (form.Indexed x) = IsU32 >>= λ n. Just (Plain (indexed_leaf x n))
Immediate label form.BrTable = Vector IsU32 >>= λ targets. IsU32 >>= λ n. Just (Plain (ops.BrTable targets n))
Immediate label form.CallIndirect = IsU32 >>= λ n. OneOf reserved >>= λ zero_byte. Just (Plain (ops.CallIndirect n))
Immediate label form.MemorySize = OneOf reserved >>= λ zero_byte. Just (Plain ops.MemorySize)
Immediate label form.MemoryGrow = OneOf reserved >>= λ zero_byte. Just (Plain ops.MemoryGrow)
Immediate label form.Select = Just (Plain (ops.Select label))
Immediate label (form.Access a) = IsU32 >>= λ align. IsU32 >>= λ offset. Just (Plain (access_leaf label a align offset))
Immediate label (form.Const width) = IsBits width >>= λ bits. Just (Plain (ops.Const width label bits))
Immediate label (form.Numeric op) = Just (Plain (ops.Numeric op label))

-- what stands behind the first byte: the prefix makes the opcode behind it secret
abbrev pub Behind : First → Grammar (Op Label)
Behind Prefix = OneOf secret_form >>= Immediate Secret
Behind (Direct form) = Immediate Public form

-- one opcode with what stands behind it
abbrev pub IsOp : Grammar (Op Label)
IsOp = OneOf opcode >>= Behind

-- opcodes one after another
abbrev pub IsOps : Grammar (List (Op Label))
IsOps = Items {S = Unit {0}} (λ u. IsOp) (λ u op. u) tt

-- a body with its closing end (section 5.4.6)
abbrev pub IsBody : Grammar (Code Label)
IsBody text code = IsOps text (opcodes code)

-- how deep blocks nest in a sequence
abbrev pub height : {S : Type 0} → Code S → ℕ
height Stop = 0
height (Then leaf rest) = height rest
height (Block t body rest) = max (suc (height body)) (height rest)
height (Loop t body rest) = max (suc (height body)) (height rest)
height (If t arm rest) = max (suc (height arm)) (height rest)
height (IfElse t arm other rest) = max (suc (max (height arm) (height other))) (height rest)

-- a body whose blocks don't nest deeper than they may
abbrev pub IsLimitedBody : Grammar (Code Label)
IsLimitedBody text code = IsBody text code × (height code ≤ most_nesting)
