use Rattle.ctwasm_top.proofs.Opening.{is_open}
use Rattle.ctwasm_top.proofs.sessions.launch_set.Goals as goal

pub returns-in-Ok-clause-told : goal.returns-in-Ok-clause-told
returns-in-Ok-clause-told c = is_open c.args.set c.args.vault.items c.in-Ok.session c.in-Ok.ensures.launched

pub returns-in-Err-clause-told : goal.returns-in-Err-clause-told
returns-in-Err-clause-told c = λ go. c.refuse_launch.ensures.told c.args.set c.args.vault.items (go _) c.requires c.in-Err.ensures.launched
