-- The tables of numeric operations cover exactly these.
use Rattle.std.proofs.Common.{◌≡◌, ℕ, arith}
use Rattle.std.specs.Prelude.{is_some}
use Rattle.std.proofs.lemmas.Bool.Decides.{nat_tests}
use Rattle.ctw_ops.specs.Numeric.{num_sig_of, is_numeric}

pub covered : (op : ℕ) → is_some (num_sig_of op) ≡ is_numeric op
unfolding num_sig_of is_numeric
covered op = grind (arith, nat_tests)
