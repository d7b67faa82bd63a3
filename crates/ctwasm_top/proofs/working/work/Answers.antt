use Rattle.ctwasm_top.proofs.WorkDone.{text_did, stop_did}
use Rattle.ctwasm_top.proofs.working.work.Goals as goal

pub returns-in-Ok-clause-did : goal.returns-in-Ok-clause-did
returns-in-Ok-clause-did g c = λ files.
    text_did c.args.profile c.args.seed c.args.size c.say.result (g.K.Sink.taken c.args.out.now) (g.K.Sink.taken c.say.new.out) c.in-Ok.line c.deref.result.now c.deref.ensures.value c.in-Ok.ensures.told files (c.say.ensures.did files)

pub returns-in-Err-clause-did : goal.returns-in-Err-clause-did
returns-in-Err-clause-did g c = λ files.
    stop_did c.args.profile c.args.seed c.args.size c.settle.result (g.K.Sink.taken c.args.out.now) (g.K.Sink.taken c.settle.new.out) c.in-Err.stop c.in-Err.ensures.told c.settle.ensures.want c.settle.ensures.did files
