use Rattle.std.proofs.Common.{refl}
use Rattle.ctw_form.specs.Read.{entry_insides_at}
use Rattle.ctw_read.proofs.code.entry_insides.Goals as goal

pub returns-clause-entry : goal.returns-clause-entry
unfolding entry_insides_at
returns-clause-entry c =
    let g = c.in_ok-all.ensures.locals in
    let b = c.in_ok-body.ensures in
    (record { groups = g.0; code = c.groups.new.cursor.rest; body = b.0 }, rw (g.1, b.1) refl, g.2)
