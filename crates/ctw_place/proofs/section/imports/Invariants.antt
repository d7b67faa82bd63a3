use Rattle.ctw_place.proofs.ImportLaws.{ImportsLeft}
use Rattle.ctw_place.proofs.section.imports.Given as goal

-- the imports from this one on are left
abbrev pub invariant-imports : goal.invariant-imports
invariant-imports l = ImportsLeft l.setting l.made.functions.types.items l.fn.out.items l.i l.f l.site l.out.items
