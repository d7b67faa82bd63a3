use Rattle.std.proofs.Common.{◌≡◌, ◌∙◌, ◌+◌, ◌<◌, ◌^◌, length, sym, ap, subst}
use Rattle.ctw_labels.specs.declared.name.SiteName.TheVariants.{Push}
use Rattle.ctw_stack.specs.Operands.{push}
use Rattle.ctw_sites.specs.Leaves.{top_width, chosen_width, chosen_slot, chosen_push, either}
use Rattle.ctw_sites.specs.Packed.{after}
use Rattle.ctw_sites.specs.Stacks.{on_innermost, of_innermost}
use Rattle.ctw_sites.proofs.Answered.{ok_then}
use Rattle.ctw_sites.proofs.SelectLaws.{without, widths, width_is, put_is}
use Rattle.ctw_sites.proofs.select.select.Goals as goal

pub put_chosen-requires-clause-room : goal.put_chosen-requires-clause-room
put_chosen-requires-clause-room c =
    let one = c.pop_width.ensures.stack in
    let two = c.pop_width-a.ensures.stack ∙ ap without one in
    let w : c.either.result ≡ widths c.args.stack.now = c.either.ensures ∙ (λ i. either ((c.pop_width-a.ensures.width ∙ ap (of_innermost top_width) one) i) ((c.pop_width-b.ensures.width ∙ ap (of_innermost top_width) two) i)) in
    subst (λ z. c.args.packer.now.count + length (chosen_push c.args.n (Push c.args.f c.args.at) z) < 2 ^ 32) (width_is c.args.stack.now ∙ sym w) c.requires.room

pub returns-clause-stack : goal.returns-clause-stack
returns-clause-stack c =
    let one = c.pop_width.ensures.stack in
    let two = c.pop_width-a.ensures.stack ∙ ap without one in
    let three = c.pop_width-b.ensures.stack ∙ ap without two in
    let w : c.either.result ≡ widths c.args.stack.now = c.either.ensures ∙ (λ i. either ((c.pop_width-a.ensures.width ∙ ap (of_innermost top_width) one) i) ((c.pop_width-b.ensures.width ∙ ap (of_innermost top_width) two) i)) in
    ok_then c.put_chosen.result c.put_chosen.ensures.stack (λ e. e ∙ ap (on_innermost (push (chosen_slot c.args.n c.either.result))) three ∙ put_is c.args.n c.either.result c.args.stack.now w)

pub returns-clause-sites : goal.returns-clause-sites
returns-clause-sites c =
    let one = c.pop_width.ensures.stack in
    let two = c.pop_width-a.ensures.stack ∙ ap without one in
    let w : c.either.result ≡ widths c.args.stack.now = c.either.ensures ∙ (λ i. either ((c.pop_width-a.ensures.width ∙ ap (of_innermost top_width) one) i) ((c.pop_width-b.ensures.width ∙ ap (of_innermost top_width) two) i)) in
    ok_then c.put_chosen.result c.put_chosen.ensures.sites (λ e. e ∙ ap (λ z. after c.args.packer.now (chosen_push c.args.n (Push c.args.f c.args.at) z)) (w ∙ sym (width_is c.args.stack.now)))
