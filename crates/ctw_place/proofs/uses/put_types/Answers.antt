use Rattle.std.proofs.Common.{arith}
use Rattle.ctw_labels.specs.Fits.{label_at}
use Rattle.ctw_labels.specs.Links.{at_tag}
use Rattle.ctw_place.proofs.TypesUnder.{types_begin, types_next, types_put, types_public}
use Rattle.ctw_place.proofs.uses.put_types.Goals as goal

pub types-init : goal.types-init
types-init c = types_begin (at_tag (label_at c.args.labels.now)) c.args.first c.args.bytes.now c.requires.types c.args.out.now.items

pub overflow_add-site : goal.overflow_add-site
overflow_add-site c = let s = c.types.invariant.site in omega (arith, s, c.requires.room)

pub types-preserved : goal.types-preserved
types-preserved c =
    types_next (at_tag (label_at c.args.labels.now)) c.args.first c.args.bytes.now c.requires.types c.types.byte-index c.types.site c.labelled_byte.result c.at-label.result c.types.public c.stays_public-public.result c.args.out.now.items c.types.out.items c.push.new.self.items
    (omega arith) c.types.invariant c.at-label.ensures c.labelled_byte.ensures c.in_ok-push.ensures.items c.stays_public-public.ensures

pub returns : goal.returns
returns c = record {
  put = types_put (at_tag (label_at c.args.labels.now)) c.args.first c.args.bytes.now c.requires.types c.types.byte-index c.types.site c.types.public c.args.out.now.items c.types.out.items (omega arith) c.types.invariant;
  public = types_public (at_tag (label_at c.args.labels.now)) c.args.first c.args.bytes.now c.requires.types c.types.byte-index c.types.site c.types.public c.args.out.now.items c.types.out.items (omega arith) c.types.invariant;
}
