use Rattle.std.proofs.Common.{◌≡◌, ◌∙◌, ◌+◌, Some, None, refl, sym, ap, arith}
use Rattle.ctw_stack.specs.declared.slot.Slot.TheVariants.{Known, Wide}
use Rattle.ctw_stack.specs.Opens.{after_push}
use Rattle.ctw_labels.specs.declared.tag.Tag.TheVariants.{At}
use Rattle.ctw_sites.specs.Leaves.{top_width, either}
use Rattle.ctw_sites.specs.Stacks.{of_innermost}
use Rattle.ctw_sites.proofs.SelectLaws.{without, widths, width_is, known_put, wide_put, put_is}
use Rattle.ctw_place.specs.Walks.{chosen_lift, next_site}
use Rattle.ctw_place.proofs.pass.pass_select.Goals as goal

pub overflow_add-target : goal.overflow_add-target
overflow_add-target c =
    let one = c.pop_width.ensures.stack in
    let two = c.pop_width-a.ensures.stack ∙ ap without one in
    let width : widths c.args.stack.now ≡ c.either.result =
    sym (λ i. either ((c.pop_width-a.ensures.width ∙ ap (of_innermost top_width) one) i) ((c.pop_width-b.ensures.width ∙ ap (of_innermost top_width) two) i))
    ∙ sym c.either.ensures in
    let e = width_is c.args.stack.now ∙ width ∙ c.in-Some.is in
    omega (arith, ap (λ z. next_site (c.args.n + 1) (chosen_lift c.args.n c.args.free z)) e, c.requires.room)

pub returns-in_ok-push-in-Some : goal.returns-in_ok-push-in-Some
returns-in_ok-push-in-Some c =
    let one = c.pop_width.ensures.stack in
    let two = c.pop_width-a.ensures.stack ∙ ap without one in
    let width : widths c.args.stack.now ≡ c.either.result =
    sym (λ i. either ((c.pop_width-a.ensures.width ∙ ap (of_innermost top_width) one) i) ((c.pop_width-b.ensures.width ∙ ap (of_innermost top_width) two) i))
    ∙ sym c.either.ensures in
    let three = c.pop_width-b.ensures.stack ∙ ap without (c.pop_width-a.ensures.stack ∙ ap without c.pop_width.ensures.stack) in
    let w = width ∙ c.in-Some.is in
    let e = sym w ∙ sym (width_is c.args.stack.now) in
    let s : c.args.n + 2 ≡ c.args.n + 1 + 1 = omega arith in
    record {
      stack = c.in_ok-push-in-Some.ensures ∙ ap (after_push (Known c.in-Some.width (At (c.args.n + 1)))) three ∙ known_put c.args.n (c.args.n + 1) c.in-Some.width (without (without (without c.args.stack.now))) refl ∙ put_is c.args.n (Some c.in-Some.width) c.args.stack.now (sym w);
      next = s ∙ ap (λ z. next_site (c.args.n + 1) (chosen_lift c.args.n c.args.free z)) e;
      lift = ap (chosen_lift c.args.n c.args.free) e;
    }

pub returns-in_ok-push-in-None : goal.returns-in_ok-push-in-None
returns-in_ok-push-in-None c =
    let one = c.pop_width.ensures.stack in
    let two = c.pop_width-a.ensures.stack ∙ ap without one in
    let width : widths c.args.stack.now ≡ c.either.result =
    sym (λ i. either ((c.pop_width-a.ensures.width ∙ ap (of_innermost top_width) one) i) ((c.pop_width-b.ensures.width ∙ ap (of_innermost top_width) two) i))
    ∙ sym c.either.ensures in
    let three = c.pop_width-b.ensures.stack ∙ ap without (c.pop_width-a.ensures.stack ∙ ap without c.pop_width.ensures.stack) in
    let w = width ∙ c.in-None.is in
    let e = sym w ∙ sym (width_is c.args.stack.now) in
    record {
      stack = c.in_ok-push-in-None.ensures ∙ ap (after_push (Wide (At c.args.n))) three ∙ wide_put c.args.n (without (without (without c.args.stack.now))) ∙ put_is c.args.n None c.args.stack.now (sym w);
      next = ap (λ z. next_site (c.args.n + 1) (chosen_lift c.args.n c.args.free z)) e;
      lift = ap (chosen_lift c.args.n c.args.free) e;
    }
