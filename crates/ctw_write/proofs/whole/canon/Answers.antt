use Rattle.std.proofs.Common.{◌≡◌, ◌∙◌, ℕ, List, length, sym, ap, subst, arith}
use Rattle.ctw_form.specs.Spelled.{Spells}
use Rattle.ctw_module.specs.Trees.{tree}
use Rattle.ctw_write.specs.Canon.{canon}
use Rattle.ctw_write.proofs.CanonicalText.{canonical_spelled, canonical_shortest}
use Rattle.ctw_write.proofs.ReadyViews.{ready, canon_joined, canon_fixed}
use Rattle.ctw_write.proofs.whole.canon.Goals as goal

pub put_sections-requires : goal.put_sections-requires
put_sections-requires c = ready c.args.m.now c.bytes-bytes.ensures.spelled c.bytes-bytes.ensures.short

pub returns-clause-bytes : goal.returns-clause-bytes
returns-clause-bytes c = canon_joined (tree c.args.m.now) c.is_ct.result c.in_ok-out.out.items c.put_header.new.out.items c.put_sections.new.out.items c.in_ok-out.ensures.items c.is_ct.ensures c.in_ok-put_header.ensures c.in_ok-put_sections.ensures

pub returns-clause-spelled : goal.returns-clause-spelled
returns-clause-spelled c =
    let m = tree c.args.m.now in
    let same : c.put_sections.new.out.items ≡ canon m = canon_joined (tree c.args.m.now) c.is_ct.result c.in_ok-out.out.items c.put_header.new.out.items c.put_sections.new.out.items c.in_ok-out.ensures.items c.is_ct.ensures c.in_ok-put_header.ensures c.in_ok-put_sections.ensures in
    subst (λ (l : List ℕ). Spells l m) (sym same) (canonical_spelled c.args.m.now.bytes m c.bytes-bytes.ensures.spelled)

pub returns-clause-shortest : goal.returns-clause-shortest
returns-clause-shortest c =
    let m = tree c.args.m.now in
    let same : c.put_sections.new.out.items ≡ canon m = canon_joined (tree c.args.m.now) c.is_ct.result c.in_ok-out.out.items c.put_header.new.out.items c.put_sections.new.out.items c.in_ok-out.ensures.items c.is_ct.ensures c.in_ok-put_header.ensures c.in_ok-put_sections.ensures in
    omega (arith, ap length same, canonical_shortest c.args.m.now.bytes m c.bytes-bytes.ensures.spelled)

pub returns-clause-fixed : goal.returns-clause-fixed
returns-clause-fixed c lent e =
    let m = tree c.args.m.now in
    let same : c.put_sections.new.out.items ≡ canon m = canon_joined (tree c.args.m.now) c.is_ct.result c.in_ok-out.out.items c.put_header.new.out.items c.put_sections.new.out.items c.in_ok-out.ensures.items c.is_ct.ensures c.in_ok-put_header.ensures c.in_ok-put_sections.ensures in
    canon_fixed c.args.m.now.bytes m lent c.bytes-bytes.ensures.spelled (e ∙ same) ∙ sym same
