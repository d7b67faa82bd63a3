use Rattle.std.proofs.Common.{sym, ◌∙◌, refl}
use Rattle.ctw_session.proofs.Acting.{free_acts, leave_acts}
use Rattle.ctw_session.proofs.live.Live.leave.Goals as goal

pub returns-then-not-is_held-clause-plays : goal.returns-then-not-is_held-clause-plays
returns-then-not-is_held-clause-plays c = λ s events st. free_acts c.args.self.now s st c.args.slot _ events (sym c.is_held.ensures ∙ c.if-not-is_held.true)

pub returns-clause-plays : goal.returns-clause-plays
returns-clause-plays c = λ s events st. leave_acts c.args.self.now s st c.args.slot _ events (sym c.is_held.ensures ∙ c.if-not-is_held.false) refl refl refl refl c.put_slot.ensures
