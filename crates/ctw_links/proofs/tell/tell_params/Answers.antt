use Rattle.std.proofs.Common.{◌≡◌, ◌<◌, ◌+◌, ◌-◌, suc, ◌++◌, ◌∙◌, length, sym, ap, subst, arith}
use Rattle.ctw_sites.specs.Rows.{rest_of, rests}
use Rattle.ctw_sites.specs.Stacks.{on_innermost}
use Rattle.ctw_labels.specs.declared.tag.Tag.TheVariants.{At}
use Rattle.ctw_links.specs.Asks.{ask, asked_on, param_asks}
use Rattle.ctw_links.proofs.AskLaws.{told_on, taken_on, told_done, rests_none, some_on}
use Rattle.ctw_links.proofs.tell.tell_params.Goals as goal

pub params-preserved : goal.params-preserved
params-preserved c =
    let k = c.params.left - 1 in
    let e : c.params.left ≡ suc (c.params.left - 1) = omega (arith, c.params-test.true) in
    record {
      some = omega (arith, ap length c.in_ok-ask.ensures.stack, some_on rest_of c.params.stack, c.params.invariant.some);
      few = omega (arith, c.params.invariant.few);
      told = told_on c.params.told.items c.ask.new.told.items _ (ask 7 (At (c.args.first + k))) (param_asks c.args.first k) c.params.stack c.ask.new.stack c.in_ok-ask.ensures.told c.in_ok-ask.ensures.stack
          (ap (λ z. c.params.told.items ++ asked_on (param_asks c.args.first z) c.params.stack) (sym e) ∙ c.params.invariant.told);
      taken = taken_on k c.params.stack c.ask.new.stack _ c.in_ok-ask.ensures.stack (ap (λ z. on_innermost (rests z) c.params.stack) (sym e) ∙ c.params.invariant.taken);
    }

pub returns : goal.returns
returns c =
    let e : c.params.left ≡ 0 = omega (arith, c.params-test.false) in
    record {
      told = told_done c.params.told.items _ c.params.stack (ap (λ z. c.params.told.items ++ asked_on (param_asks c.args.first z) c.params.stack) (sym e) ∙ c.params.invariant.told);
      stack = sym (rests_none c.params.stack) ∙ ap (λ z. on_innermost (rests z) c.params.stack) (sym e) ∙ c.params.invariant.taken;
    }
