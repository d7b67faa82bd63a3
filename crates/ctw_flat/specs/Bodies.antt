-- The reader of a whole body: opcodes from left to right, with what is open, and the first fault.
use Rattle.std.specs.Prelude.{◌≡◌, ℕ, ◌+◌, Bool, true, false, List, [], ◌∷◌, length, Option, Some, None, Result, Ok, Err, nat_le, nat_lt, ◌&&◌, if◌then◌else◌}
use Rattle.ctw_ops.specs.Limits.{most_nesting}
use Rattle.ctw_ops.specs.declared.types.Label.{Label}
use Rattle.ctw_ops.specs.Numeric.{within}
use Rattle.ctw_ops.specs.Code.{Code, Shape, OfBlock, OfLoop, OfIf, Op, Plain, Opens, Closes, ByEnd, ByElse}
use Rattle.ctw_ops.specs.Segments.{nested}
use Rattle.ctw_leb.specs.Input.{Input}
use Rattle.ctw_leb.specs.Grammar.{Grammar}
use Rattle.ctw_leb.specs.Reading.{Reader, WholeReader, chain, items}
use Rattle.ctw_flat.specs.declared.fault.CodeKind.TheVariants.{Unbalanced, TooDeep}
use Rattle.ctw_flat.specs.declared.fault.CodeFault.{CodeFault}
use Rattle.ctw_flat.specs.Spelled.{IsOp}
use Rattle.ctw_flat.specs.Read.{fault, op_at}

-- What is open around a place, innermost first and the function's own body last: true where an `else` may come.
abbrev pub takes_else : Shape → Bool
takes_else OfBlock = false
takes_else OfLoop = false
takes_else OfIf = true

-- the body with nothing open inside
abbrev pub own_body : List Bool
own_body = false ∷ []

-- as many blocks are open as may be
abbrev pub is_full : List Bool → Bool
is_full [] = false
is_full (b ∷ outer) = nat_le most_nesting (length outer)

-- whether an opcode may stand there
abbrev pub allows : List Bool → Op Label → Bool
allows [] op = false
allows (b ∷ outer) (Plain leaf) = true
allows (b ∷ outer) (Opens shape t) = nat_lt (length outer) most_nesting
allows (b ∷ outer) (Closes ByEnd) = true
allows (b ∷ outer) (Closes ByElse) = b

-- what is open behind it
abbrev pub opened_by : List Bool → Op Label → List Bool
opened_by around (Plain leaf) = around
opened_by around (Opens shape t) = takes_else shape ∷ around
opened_by [] (Closes closer) = []
opened_by (b ∷ outer) (Closes ByEnd) = outer
opened_by (b ∷ outer) (Closes ByElse) = false ∷ outer

abbrev pub IsStep : List Bool → Grammar (Op Label)
IsStep around text op = IsOp text op × (allows around op ≡ true)

-- whether bytes begin with an opcode that opens a block
abbrev pub opens_block : List ℕ → Bool
opens_block [] = false
opens_block (byte ∷ rest) = within 0x02 0x04 byte

abbrev pub stepped : List Bool → ℕ → Op Label × Input → Result (Op Label × Input) CodeFault
stepped around at x = if allows around x.0 then Ok x else Err (fault Unbalanced at)

-- the next opcode; the nesting is looked at before what stands behind the opcode's byte
abbrev pub step_at : List Bool → Reader (Op Label) CodeFault
step_at [] i = Err (fault Unbalanced i.at)
step_at (b ∷ outer) i =
    if is_full (b ∷ outer) && opens_block i.rest then Err (fault TooDeep i.at)
    else chain (op_at i) (stepped (b ∷ outer) i.at)

abbrev pub settled : ℕ → Option (Code Label) → Result (Code Label) CodeFault
settled at (Some code) = Ok code
settled at None = Err (fault Unbalanced at)

-- all of the bytes: the body that they spell, or the first fault
unfoldable pub body_at : WholeReader (Code Label) CodeFault
body_at i = chain (items step_at opened_by own_body i) (λ ops. settled (i.at + length i.rest) (nested ops))
