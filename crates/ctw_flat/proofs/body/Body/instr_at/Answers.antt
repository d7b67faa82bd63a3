use Rattle.ctw_flat.proofs.FaultKinds.{gives_kind}
use Rattle.ctw_flat.proofs.Places.{gives_behind, gives_spelled, gives_found}
use Rattle.ctw_flat.proofs.body.Body.instr_at.Goals as goal

pub returns-clause-behind : goal.returns-clause-behind
returns-clause-behind c =
    let h = rw c.self.view_is at c.read_at.ensures.instr in
    gives_behind c.args.self.now c.args.at c.read_at.result h c.requires

pub returns-clause-spelled : goal.returns-clause-spelled
returns-clause-spelled c =
    let h = rw c.self.view_is at c.read_at.ensures.instr in
    gives_spelled c.args.self.now c.args.at c.read_at.result h

pub returns-clause-found : goal.returns-clause-found
returns-clause-found c =
    let h = rw c.self.view_is at c.read_at.ensures.instr in
    gives_found c.args.self.now c.args.at c.read_at.result h

pub returns-clause-kinds : goal.returns-clause-kinds
returns-clause-kinds c =
    let h = rw c.self.view_is at c.read_at.ensures.instr in
    gives_kind c.args.self.now c.args.at c.read_at.result h
