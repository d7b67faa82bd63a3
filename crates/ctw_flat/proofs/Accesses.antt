-- How many bytes loads and stores have.
use Rattle.std.proofs.Common.{◌≡◌, ℕ, Bool, true, arith}
use Rattle.std.proofs.lemmas.Bool.Decides.{nat_tests}
use Rattle.ctw_ops.specs.declared.types.Width.{Width}
use Rattle.ctw_ops.specs.declared.types.Width.TheVariants.{W32, W64}
use Rattle.ctw_ops.specs.Forms.{is_load, is_store}
use Rattle.ctw_flat.specs.Instructions.{IsSize}

pub load_size : (width : Width) (bytes : ℕ) (signed : Bool) → is_load width bytes signed ≡ true → IsSize width bytes
load_size W32 bytes signed e = grind (arith, nat_tests)
load_size W64 bytes signed e = grind (arith, nat_tests)

pub store_size : (width : Width) (bytes : ℕ) → is_store width bytes ≡ true → IsSize width bytes
store_size W32 bytes e = grind (arith, nat_tests)
store_size W64 bytes e = grind (arith, nat_tests)
