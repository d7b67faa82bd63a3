use Rattle.std.proofs.Common.{◌∙◌}
use Rattle.ctw_sites.proofs.NumberedLaws.{plain_fit}
use Rattle.ctw_script.proofs.Facts.{if_ok}
use Rattle.ctw_marks.proofs.PushLaws.{count_fits, words_whole, starts_fit, are_pushes}
use Rattle.ctw_marks.proofs.pushes.all_pushes.Goals as goal

pub gather-requires-clause-room : goal.gather-requires-clause-room
gather-requires-clause-room c = plain_fit c.args.m.now (record { spelled = c.bytes.ensures.spelled; limits = c.bytes.ensures.limits; plain = c.requires.plain })

pub gather_pushes-requires-clause-count : goal.gather_pushes-requires-clause-count
gather_pushes-requires-clause-count c = count_fits c.args.m.now (record { spelled = c.bytes.ensures.spelled; limits = c.bytes.ensures.limits; plain = c.requires.plain }) c.imported_count.result c.deref.result.now c.imported_count.ensures (c.deref.ensures.value ∙ c.in_ok-gather.ensures.starts)

pub gather_pushes-requires-clause-rising : goal.gather_pushes-requires-clause-rising
gather_pushes-requires-clause-rising c = starts_fit c.args.m.now (record { spelled = c.bytes.ensures.spelled; limits = c.bytes.ensures.limits; plain = c.requires.plain }) c.deref.result.now c.deref-2.result.now (c.deref.ensures.value ∙ c.in_ok-gather.ensures.starts) (c.deref-2.ensures.value ∙ (words_whole c.args.m.now (record { spelled = c.bytes.ensures.spelled; limits = c.bytes.ensures.limits; plain = c.requires.plain }) (record { words = c.packer.inside.words.items; count = c.packer.inside.count; most = c.packer.inside.most }) c.new-packer.result c.new-packer.ensures (c.packer.view_is ∙ c.in_ok-gather.ensures.sites)))

pub returns : goal.returns
returns c =
    if_ok _ _ c.gather_pushes.result
    (λ p s. are_pushes c.args.m.now (record { spelled = c.bytes.ensures.spelled; limits = c.bytes.ensures.limits; plain = c.requires.plain }) c.imported_count.result c.deref.result.now c.deref-2.result.now p c.imported_count.ensures (c.deref.ensures.value ∙ c.in_ok-gather.ensures.starts) (c.deref-2.ensures.value ∙ (words_whole c.args.m.now (record { spelled = c.bytes.ensures.spelled; limits = c.bytes.ensures.limits; plain = c.requires.plain }) (record { words = c.packer.inside.words.items; count = c.packer.inside.count; most = c.packer.inside.most }) c.new-packer.result c.new-packer.ensures (c.packer.view_is ∙ c.in_ok-gather.ensures.sites))) s)
    c.gather_pushes.ensures
