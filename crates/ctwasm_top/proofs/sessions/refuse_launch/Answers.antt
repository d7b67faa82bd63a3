use Rattle.ctw_link.specs.Sets.{set_of}
use Rattle.ctw_launch.specs.Launched.{Fails, launched}
use Rattle.std.proofs.Common.{◌≡◌}
use Rattle.ctwasm_top.specs.Lines.{launch_line}
use Rattle.ctwasm_top.proofs.Opening.{told_fault, is_denied}
use Rattle.ctwasm_top.proofs.sessions.refuse_launch.Goals as goal

pub returns-in_default-clause-told : goal.returns-in_default-clause-told
returns-in_default-clause-told c = λ set vault go named denies.
    let f = told_fault set (λ f. launched (set_of set) ≡ Fails f) c.args.fault c.in_default.not-NoMemory denies in
    is_denied (set_of set) vault c.refuse.result f.0 f.1 (c.refuse.ensures.told (launch_line f.0) (c.launch_line.ensures set f.0 named c.in_default.not-NoMemory f.2)) go
