use Rattle.std.proofs.Common.{◌∙◌, arith}
use Rattle.ctw_links.proofs.TypeBytes.{one_more, all_more}
use Rattle.ctw_links.proofs.key.erased.Goals as goal

pub params-preserved : goal.params-preserved
params-preserved c =
    c.in_ok-push.ensures.items ∙ one_more c.args.first c.params.bytes.items c.args.params.now c.params.byte-index c.erased_byte.result c.requires (omega arith) c.erased_byte.ensures c.params.invariant

pub returns : goal.returns
returns c = all_more c.args.first c.params.bytes.items c.args.params.now c.params.byte-index c.requires (omega arith) c.params.invariant
