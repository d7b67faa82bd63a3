use Rattle.ctw_write.specs.Canon.{type_text}
use Rattle.ctw_write.proofs.Listed.{Listed}
use Rattle.ctw_parse.proofs.item.put_types.Given as goal

-- the first ones are written
abbrev pub invariant-types : goal.invariant-types
invariant-types l = Listed type_text l.types l.t-index l.initial.out.items l.out.items
