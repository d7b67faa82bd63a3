use Rattle.ctw_modcheck.proofs.Widths.{Compared}
use Rattle.ctw_modcheck.proofs.types.have_same_widths.Given as goal

abbrev pub invariant-bytes : goal.invariant-bytes
invariant-bytes l = Compared l.a l.b l.i
