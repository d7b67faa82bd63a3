use Rattle.ctw_step.specs.Shown.{shown}
use Rattle.ctw_step.proofs.OperandLaws.{select_there, selected}
use Rattle.ctw_step.proofs.operands.select.Goals as goal

pub pick-requires : goal.pick-requires
pick-requires c = let q = c.requires.1 in let r = q.2 in select_there r.codes q.0 (shown c.args.act.now) c.args.next r.fns r.fn q.1 r.place r.code r.values c.requires.0 r.meets

pub returns : goal.returns
returns c = λ l bytes s codes fns fn h code vs k m. selected codes bytes (shown c.args.act.now) c.args.next fns fn s h code vs l m (shown c.pick.new.act) c.pick.ensures.picked
