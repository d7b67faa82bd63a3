use Rattle.std.proofs.Common.{reverse}
use Rattle.ctw_pieces.proofs.Advances.{here_takes}
use Rattle.ctw_pieces.proofs.machine.Machine.at.Goals as goal

pub returns-in_ok-go_on-in-Takes : goal.returns-in_ok-go_on-in-Takes
returns-in_ok-go_on-in-Takes c =
    here_takes c.args.ct c.args.sort c.args.tok.now c.at_token.result c.in-Takes.found c.args.self.now.held
    (reverse c.args.self.now.stack.items) (reverse c.go_on.new.stack.items) c.args.self.now.out.items c.go_on.new.pieces.items
    c.at_token.ensures c.in-Takes.is c.requires c.in_ok-go_on-in-Takes.ensures.out c.in_ok-go_on-in-Takes.ensures.next
