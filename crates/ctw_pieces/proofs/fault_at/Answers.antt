use Rattle.std.proofs.Common.{◌≤◌, length, arith}
use Rattle.ctw_pieces.proofs.FaultPlaces.{at_end, at_token}
use Rattle.ctw_pieces.proofs.fault_at.Goals as goal

pub returns-then-at-count : goal.returns-then-at-count
returns-then-at-count c =
    let h : length c.args.tokens.now ≤ c.args.at = omega arith in
    at_end c.args.size c.args.tokens.now c.args.at c.args.kind h

pub returns : goal.returns
returns c = at_token c.args.size c.args.tokens.now c.args.at c.args.kind _ c.at-token.ensures.token
