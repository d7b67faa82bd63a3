use Rattle.ctw_step.specs.Shown.{shown}
use Rattle.ctw_step.proofs.Moves.{some_frame}
use Rattle.ctw_step.proofs.OperandLaws.{local_there, local_got}
use Rattle.ctw_step.proofs.operands.local_get.Goals as goal

pub get_local-requires-clause-some : goal.get_local-requires-clause-some
get_local-requires-clause-some c = let r = c.requires.2 in some_frame r.codes (shown c.args.act.now) r.place r.code r.values r.meets.stands

pub get_local-requires-clause-there : goal.get_local-requires-clause-there
get_local-requires-clause-there c = let r = c.requires.2 in local_there r.codes c.requires.0 (shown c.args.act.now) c.args.next r.fns r.fn c.requires.1 r.place r.code r.values c.args.index r.meets

pub returns-clause-does : goal.returns-clause-does
returns-clause-does c = λ bytes s codes fns fn h code vs k m. local_got codes bytes (shown c.args.act.now) c.args.next fns fn s h code vs c.args.index m (shown c.get_local.new.act) c.in_ok-get_local.ensures
