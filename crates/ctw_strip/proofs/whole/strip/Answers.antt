use Rattle.std.proofs.Common.{◌≡◌, length, ap, refl, arith}
use Rattle.ctw_ops.specs.Erasure.{erase_module}
use Rattle.ctw_module.specs.Trees.{tree}
use Rattle.ctw_write.specs.Canon.{canon}
use Rattle.ctw_write.proofs.CanonicalText.{canonical_shortest}
use Rattle.ctw_write.proofs.ReadyViews.{ready, canon_joined}
use Rattle.ctw_strip.proofs.Shorter.{short, canon_shorter}
use Rattle.ctw_strip.proofs.whole.strip.Goals as goal

pub put_sections-requires-clause-ready : goal.put_sections-requires-clause-ready
put_sections-requires-clause-ready c = ready c.args.m.now c.bytes-bytes.ensures.spelled c.bytes-bytes.ensures.short

pub put_sections-requires-clause-short : goal.put_sections-requires-clause-short
put_sections-requires-clause-short c = short c.args.m.now c.bytes-bytes.ensures.spelled c.bytes-bytes.ensures.short c.requires

pub returns-clause-bytes : goal.returns-clause-bytes
returns-clause-bytes c = canon_joined (erase_module (tree c.args.m.now)) _ c.in_ok-out.out.items c.put_header.new.out.items c.put_sections.new.out.items c.in_ok-out.ensures.items refl c.in_ok-put_header.ensures c.in_ok-put_sections.ensures

pub returns-clause-shorter : goal.returns-clause-shorter
returns-clause-shorter c =
    let m = tree c.args.m.now in
    let same : c.put_sections.new.out.items ≡ canon (erase_module m) = canon_joined (erase_module m) _ c.in_ok-out.out.items c.put_header.new.out.items c.put_sections.new.out.items c.in_ok-out.ensures.items refl c.in_ok-put_header.ensures c.in_ok-put_sections.ensures in
    omega (arith, ap length same, canon_shorter m c.requires, canonical_shortest c.args.m.now.bytes m c.bytes-bytes.ensures.spelled)
