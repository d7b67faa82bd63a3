use Rattle.std.proofs.Common.{◌≡◌, ℕ, List, ◌∙◌, ◌++◌, ◌∷◌, [], length, sym, ap, arith}
use Rattle.ctw_ops.specs.declared.types.Width.TheVariants.{W32}
use Rattle.ctw_ops.specs.Types.{value_type}
use Rattle.ctw_stack.specs.Opens.{Open, slot_count}
use Rattle.ctw_stack.specs.Operands.{push}
use Rattle.ctw_labels.specs.declared.name.SiteName.TheVariants.{Push}
use Rattle.ctw_labels.specs.declared.tag.Tag.{Tag}
use Rattle.ctw_labels.specs.declared.tag.Tag.TheVariants.{At}
use Rattle.ctw_labels.specs.Collected.{wants_on}
use Rattle.ctw_sites.specs.Leaves.{top_width, chosen_width, chosen_slot, chosen_push, either}
use Rattle.ctw_sites.specs.Packed.{after}
use Rattle.ctw_sites.specs.Rows.{rest_of}
use Rattle.ctw_sites.specs.Stacks.{on_innermost, of_innermost}
use Rattle.ctw_sites.proofs.Answered.{ok_then, ok_here}
use Rattle.ctw_sites.proofs.SelectLaws.{without, widths, width_is, put_is}
use Rattle.ctw_sites.proofs.StackLaws.{take_short}
use Rattle.ctw_links.specs.Asks.{ask}
use Rattle.ctw_links.proofs.AskLaws.{told_then, one_on, some_on}
use Rattle.ctw_links.proofs.pass.pass_select.Goals as goal

pub put_chosen-requires : goal.put_chosen-requires
put_chosen-requires c =
    let b = c.args.stack.now in
    let one = c.in_ok-ask.ensures.stack in
    let two = c.in_ok-a.ensures.stack ∙ ap without one in
    let three = c.in_ok-b.ensures.stack ∙ ap without two in
    let k = ap (λ z. z.count) c.packer.view_is in
    let w : c.either.result ≡ widths b = c.either.ensures ∙ (λ i. either ((c.in_ok-a.ensures.width ∙ ap (of_innermost top_width) one) i) ((c.in_ok-b.ensures.width ∙ ap (of_innermost top_width) two) i)) in
    let name = Push c.args.f c.args.at in
    let p = ap (λ z. z.count) c.in_ok-push.ensures in
    let l = ap length three in
    let r = ap slot_count three in
    let v = ap (λ z. length (chosen_push c.packer.inside.count name z)) (w ∙ sym (width_is b)) in
    let u = ap (λ z. length (chosen_push z name (of_innermost chosen_width b))) k in
    record {
      «open» = omega (arith, l, some_on rest_of b, some_on rest_of (without b), some_on rest_of (without (without b)), c.requires.«open»);
      few = omega (arith, r, take_short 1 b, take_short 1 (without b), take_short 1 (without (without b)), c.requires.few);
      room = omega (arith, p, v, u, c.requires.room);
      own = omega (arith, p, k);
    }

pub returns : goal.returns
returns c =
    let b = c.args.stack.now in
    let one = c.in_ok-ask.ensures.stack in
    let two = c.in_ok-a.ensures.stack ∙ ap without one in
    let three = c.in_ok-b.ensures.stack ∙ ap without two in
    let k = ap (λ z. z.count) c.packer.view_is in
    let w : c.either.result ≡ widths b = c.either.ensures ∙ (λ i. either ((c.in_ok-a.ensures.width ∙ ap (of_innermost top_width) one) i) ((c.in_ok-b.ensures.width ∙ ap (of_innermost top_width) two) i)) in
    let name = Push c.args.f c.args.at in
    let own = ask 3 (At c.args.packer.now.count) in
    let told = c.args.told.now.items in
    let asked_own = λ (z : ℕ) (s : List (Open Tag)). wants_on 3 (value_type W32 (At z)) s in
    record {
      told = ok_here c.put_chosen.result (
          told_then told c.ask.new.told.items c.ask-3.new.told.items own (own ∷ own ∷ []) b c.ask.new.stack
          (c.in_ok-ask.ensures.told ∙ ap (λ z. told ++ asked_own z b) k) one
          (told_then c.ask.new.told.items c.ask-2.new.told.items c.ask-3.new.told.items own (own ∷ []) c.ask.new.stack c.ask-2.new.stack
          (c.in_ok-a.ensures.told ∙ ap (λ z. c.ask.new.told.items ++ asked_own z c.ask.new.stack) k) c.in_ok-a.ensures.stack
          (c.in_ok-b.ensures.told ∙ ap (λ z. c.ask-2.new.told.items ++ asked_own z c.ask-2.new.stack) k ∙ ap (λ z. c.ask-2.new.told.items ++ z) (one_on own c.ask-2.new.stack))));
      stack = ok_then c.put_chosen.result c.put_chosen.ensures.stack (λ e. e ∙ (λ i. on_innermost (push (chosen_slot (k i) c.either.result)) (three i)) ∙ put_is c.args.packer.now.count c.either.result b w);
      sites = ok_then c.put_chosen.result c.put_chosen.ensures.sites (λ e. e ∙ (λ i. after (c.in_ok-push.ensures i) (chosen_push (k i) name ((w ∙ sym (width_is b)) i))));
    }
