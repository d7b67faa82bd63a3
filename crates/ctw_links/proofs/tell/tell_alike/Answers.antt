use Rattle.std.proofs.Common.{◌≡◌, ◌<◌, ◌+◌, ◌-◌, suc, ◌++◌, ◌∙◌, length, sym, ap, subst, arith}
use Rattle.ctw_sites.specs.Rows.{rest_of, rests}
use Rattle.ctw_sites.specs.Stacks.{on_innermost}
use Rattle.ctw_links.specs.Asks.{asked_on, alike_asks}
use Rattle.ctw_links.proofs.AskLaws.{told_on, taken_on, told_done, rests_none, some_on}
use Rattle.ctw_links.proofs.tell.tell_alike.Goals as goal

pub operands-preserved : goal.operands-preserved
operands-preserved c =
    let k = c.operands.left - 1 in
    let e : c.operands.left ≡ suc (c.operands.left - 1) = omega (arith, c.operands-test.true) in
    record {
      some = omega (arith, ap length c.in_ok-ask.ensures.stack, some_on rest_of c.operands.stack, c.operands.invariant.some);
      told = told_on c.operands.told.items c.ask.new.told.items _ c.args.each (alike_asks c.args.each k) c.operands.stack c.ask.new.stack c.in_ok-ask.ensures.told c.in_ok-ask.ensures.stack
          (ap (λ z. c.operands.told.items ++ asked_on (alike_asks c.args.each z) c.operands.stack) (sym e) ∙ c.operands.invariant.told);
      taken = taken_on k c.operands.stack c.ask.new.stack _ c.in_ok-ask.ensures.stack (ap (λ z. on_innermost (rests z) c.operands.stack) (sym e) ∙ c.operands.invariant.taken);
    }

pub returns : goal.returns
returns c =
    let e : c.operands.left ≡ 0 = omega (arith, c.operands-test.false) in
    record {
      told = told_done c.operands.told.items _ c.operands.stack (ap (λ z. c.operands.told.items ++ asked_on (alike_asks c.args.each z) c.operands.stack) (sym e) ∙ c.operands.invariant.told);
      stack = sym (rests_none c.operands.stack) ∙ ap (λ z. on_innermost (rests z) c.operands.stack) (sym e) ∙ c.operands.invariant.taken;
    }
