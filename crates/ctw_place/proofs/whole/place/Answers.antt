use Rattle.std.proofs.Common.{◌≡◌, ◌≤◌, ◌<◌, ◌^◌, ℕ, List, length, true, refl, sym, ap, subst, ◌∙◌, arith}
use Rattle.ctw_module.specs.Trees.{Lent, view_module}
use Rattle.ctw_labels.specs.Fits.{label_at}
use Rattle.ctw_labels.specs.Links.{at_tag}
use Rattle.ctw_labels.specs.Placed.{placed}
use Rattle.ctw_labels.specs.SitedModule.{memory_site, sites}
use Rattle.ctw_labels.proofs.EraseLaws.{erased_placed}
use Rattle.ctw_sites.specs.Packed.{most_sites}
use Rattle.ctw_sites.proofs.BodiesLaws.{memory_room}
use Rattle.ctw_write.specs.Canon.{canon}
use Rattle.ctw_write.specs.Ready.{IsReady}
use Rattle.ctw_write.proofs.ReadyViews.{ready, canon_joined}
use Rattle.ctw_place.specs.Bodies.{placed_of}
use Rattle.ctw_place.specs.Limits.{most_ct_bytes}
use Rattle.ctw_place.proofs.WholeLaws.{placed_within, short_texts}
use Rattle.ctw_place.proofs.whole.place.Goals as goal

pub new-setting-requires : goal.new-setting-requires
new-setting-requires c =
    let few : length (sites (view_module c.args.m.now)) ≤ most_sites = omega (arith, ap length c.requires.sites, c.new-labels.ensures.few) in
    memory_room (view_module c.args.m.now) (omega (arith, few))

pub make-requires-clause-short : goal.make-requires-clause-short
make-requires-clause-short c =
    let few : length (sites (view_module c.args.m.now)) ≤ most_sites = omega (arith, ap length c.requires.sites, c.new-labels.ensures.few) in
    short_texts c.args.m.now c.bytes-bytes.ensures.spelled c.requires.plain few (c.requires.valid.formed.plain c.requires.plain) c.new-setting.result c.new-setting.ensures.whole

pub put_sections-requires-clause-ready : goal.put_sections-requires-clause-ready
put_sections-requires-clause-ready c = subst IsReady (sym c.new-setting.ensures.whole) (ready c.args.m.now c.bytes-bytes.ensures.spelled c.bytes-bytes.ensures.short)

pub put_sections-requires-clause-room : goal.put_sections-requires-clause-room
put_sections-requires-clause-room c =
    let few : length (sites (view_module c.args.m.now)) ≤ most_sites = omega (arith, ap length c.requires.sites, c.new-labels.ensures.few) in
    subst (λ (w : Lent). memory_site (view_module w) < 2 ^ 32) (sym c.new-setting.ensures.whole) (memory_room (view_module c.args.m.now) (omega (arith, few)))

pub put_sections-requires-clause-short : goal.put_sections-requires-clause-short
put_sections-requires-clause-short c =
    let few : length (sites (view_module c.args.m.now)) ≤ most_sites = omega (arith, ap length c.requires.sites, c.new-labels.ensures.few) in
    short_texts c.args.m.now c.bytes-bytes.ensures.spelled c.requires.plain few (c.requires.valid.formed.plain c.requires.plain) c.new-setting.result c.new-setting.ensures.whole

pub returns-clause-bytes : goal.returns-clause-bytes
returns-clause-bytes c =
    let whole : c.put_sections.new.out.items ≡ canon (placed_of c.new-setting.result) = canon_joined (placed_of c.new-setting.result) true c.in_ok-out.out.items c.put_header.new.out.items c.put_sections.new.out.items c.in_ok-out.ensures.items refl c.in_ok-put_header.ensures c.in_ok-put_sections.ensures in
    let same : placed_of c.new-setting.result ≡ placed (at_tag (label_at c.args.l.now)) (view_module c.args.m.now) c.args.p.now = λ i. placed (at_tag (label_at ((c.new-setting.ensures.labels ∙ c.new-labels.ensures.labels) i))) (view_module (c.new-setting.ensures.whole i)) (c.new-setting.ensures.points i) in
    whole ∙ ap canon same

pub returns-clause-within : goal.returns-clause-within
returns-clause-within c =
    let few : length (sites (view_module c.args.m.now)) ≤ most_sites = omega (arith, ap length c.requires.sites, c.new-labels.ensures.few) in
    let whole : c.put_sections.new.out.items ≡ canon (placed_of c.new-setting.result) = canon_joined (placed_of c.new-setting.result) true c.in_ok-out.out.items c.put_header.new.out.items c.put_sections.new.out.items c.in_ok-out.ensures.items refl c.in_ok-put_header.ensures c.in_ok-put_sections.ensures in
    let same : placed_of c.new-setting.result ≡ placed (at_tag (label_at c.args.l.now)) (view_module c.args.m.now) c.args.p.now = λ i. placed (at_tag (label_at ((c.new-setting.ensures.labels ∙ c.new-labels.ensures.labels) i))) (view_module (c.new-setting.ensures.whole i)) (c.new-setting.ensures.points i) in
    subst (λ (l : List ℕ). length l ≤ most_ct_bytes) (sym (whole ∙ ap canon same)) (placed_within c.args.m.now c.bytes-bytes.ensures.spelled c.requires.plain few (c.requires.valid.formed.plain c.requires.plain) (at_tag (label_at c.args.l.now)) c.args.p.now)

pub returns-in_err-made-clause-erased : goal.returns-in_err-made-clause-erased
returns-in_err-made-clause-erased c = erased_placed (at_tag (label_at c.args.l.now)) (view_module c.args.m.now) (c.requires.valid.formed.plain c.requires.plain) c.requires.valid c.args.p.now c.requires.points c.requires.plain

pub returns-in_err-out-clause-erased : goal.returns-in_err-out-clause-erased
returns-in_err-out-clause-erased c = erased_placed (at_tag (label_at c.args.l.now)) (view_module c.args.m.now) (c.requires.valid.formed.plain c.requires.plain) c.requires.valid c.args.p.now c.requires.points c.requires.plain

pub returns-in_err-put_header-clause-erased : goal.returns-in_err-put_header-clause-erased
returns-in_err-put_header-clause-erased c = erased_placed (at_tag (label_at c.args.l.now)) (view_module c.args.m.now) (c.requires.valid.formed.plain c.requires.plain) c.requires.valid c.args.p.now c.requires.points c.requires.plain

pub returns-in_err-put_sections-clause-erased : goal.returns-in_err-put_sections-clause-erased
returns-in_err-put_sections-clause-erased c = erased_placed (at_tag (label_at c.args.l.now)) (view_module c.args.m.now) (c.requires.valid.formed.plain c.requires.plain) c.requires.valid c.args.p.now c.requires.points c.requires.plain

pub returns-clause-erased : goal.returns-clause-erased
returns-clause-erased c = erased_placed (at_tag (label_at c.args.l.now)) (view_module c.args.m.now) (c.requires.valid.formed.plain c.requires.plain) c.requires.valid c.args.p.now c.requires.points c.requires.plain
