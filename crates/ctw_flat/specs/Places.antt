-- Opcodes by their places in a body's bytes.
use Rattle.std.specs.Prelude.{◌≡◌, ℕ, List, [], ◌∷◌, drop, map, Result, Ok}
use Rattle.ctw_ops.specs.declared.types.Label.{Label}
use Rattle.ctw_ops.specs.Code.{Op}
use Rattle.ctw_leb.specs.Input.{Input}
use Rattle.ctw_leb.specs.Reading.{chain}
use Rattle.ctw_flat.specs.declared.fault.CodeFault.{CodeFault}
use Rattle.ctw_flat.specs.Read.{op_at}

-- the bytes from a place on
abbrev pub from : List ℕ → ℕ → Input
from bytes at = record { at = at; rest = drop at bytes }

-- the opcode at a place and the place behind it, or the first fault
unfoldable pub instr_in : List ℕ → ℕ → Result (Op Label × ℕ) CodeFault
instr_in bytes at = chain (op_at (from bytes at)) (λ x. Ok (x.0, x.1.at))

-- an opcode and its place
pub record Placed : Type 0 where
  pub at : ℕ
  pub op : Op Label

abbrev pub ops_of : List Placed → List (Op Label)
ops_of = map (λ p. p.op)

-- these opcodes stand from a place on, one after another to the end
abbrev pub Stand : List ℕ → ℕ → List Placed → Type 0
Stand bytes at [] = drop at bytes ≡ []
Stand bytes at (p ∷ ps) = (next : ℕ) × (p.at ≡ at) × (instr_in bytes at ≡ Ok (p.op, next)) × Stand bytes next ps

-- a place that is reached in bytes
pub record Reached : Type 0 where
  pub bytes : List ℕ
  pub place : ℕ
