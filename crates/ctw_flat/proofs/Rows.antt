-- What reading gives behind a byte.
use Rattle.std.proofs.Common.{◌≡◌, ℕ, Result, Ok, Err, refl}
use Rattle.ctw_leb.specs.declared.fault.LebFault.{LebFault}
use Rattle.ctw_leb.specs.Input.{Input}
use Rattle.ctw_leb.specs.Readers.{byte_at}
use Rattle.ctw_leb.proofs.Combinators.{one_of_ok, one_of_bad, one_of_short}
use Rattle.ctw_flat.specs.declared.fault.CodeKind.{CodeKind}
use Rattle.ctw_flat.specs.declared.fault.CodeKind.TheVariants.{Truncated}
use Rattle.ctw_flat.specs.declared.opcode.First.{First}
use Rattle.ctw_flat.specs.Opcodes.{opcode}
use Rattle.ctw_flat.specs.Read.{fault, behind_at, behind_byte_at, op_at}

pub op_ok : (i o : Input) (b : ℕ) (f : First) → byte_at i ≡ Ok (b, o) → opcode b ≡ Ok f → op_at i ≡ behind_at f o
unfolding op_at
op_ok i o b f e s = rw (one_of_ok (fault Truncated) fault opcode i o b f e s) refl

pub op_bad : (i o : Input) (b : ℕ) (kind : CodeKind) → byte_at i ≡ Ok (b, o) → opcode b ≡ Err kind → op_at i ≡ Err (fault kind i.at)
unfolding op_at
op_bad i o b kind e s = rw (one_of_bad (fault Truncated) fault opcode i o b kind e s) refl

pub op_behind : (i o : Input) (b : ℕ) → byte_at i ≡ Ok (b, o) → op_at i ≡ behind_byte_at (opcode b) i.at o
op_behind i o b e = go (opcode b) refl
  where
    go : (r : Result First CodeKind) → opcode b ≡ r → op_at i ≡ behind_byte_at r i.at o
    go (Ok f) s = op_ok i o b f e s
    go (Err kind) s = op_bad i o b kind e s

pub op_short : (i : Input) (d : LebFault) → byte_at i ≡ Err d → op_at i ≡ Err (fault Truncated i.at)
unfolding op_at
op_short i d e = rw (one_of_short (fault Truncated) fault opcode i d e) refl
