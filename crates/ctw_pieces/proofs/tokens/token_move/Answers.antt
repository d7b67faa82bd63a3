use Rattle.std.proofs.Common.{◌∙◌}
use Rattle.ctw_pieces.proofs.tokens.token_move.Goals as goal

pub returns-in-SegmentHead : goal.returns-in-SegmentHead
returns-in-SegmentHead c = rw c.in-SegmentHead.is (c.alone-in-SegmentHead.ensures ∙ c.segment_token.ensures c.args.ct)
