use Rattle.ctw_place.proofs.CodeLaws.{CodesLeft}
use Rattle.ctw_place.proofs.entry.codes.Given as goal

-- the functions from this one on are left
abbrev pub invariant-functions : goal.invariant-functions
invariant-functions l = CodesLeft l.setting l.f l.site l.out.items l.variants
