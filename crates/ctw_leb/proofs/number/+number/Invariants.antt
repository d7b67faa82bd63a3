use Rattle.ctw_leb.proofs.number.+number.Given as goal

abbrev pub decreases-number : goal.decreases-number
decreases-number l = l.half
