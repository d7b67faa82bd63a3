use Rattle.std.proofs.Common.{◌-◌}
use Rattle.ctw_leb.proofs.Loops.{Left}
use Rattle.ctw_form.specs.Read.{value_type_at}
use Rattle.ctw_form.proofs.items.value_types.Given as goal

-- the types that were read, with those that are left, are all of them
abbrev pub invariant-types : goal.invariant-types
invariant-types l = Left (value_type_at l.ct) l.count l.initial.cursor (l.count - l.counter) l.cursor
