use Rattle.std.proofs.Common.{◌∙◌, suc, length, sym, ap}
use Rattle.ctw_sites.specs.Rows.{rests}
use Rattle.ctw_sites.specs.Stacks.{on_innermost}
use Rattle.ctw_sites.proofs.Answered.{ok_then}
use Rattle.ctw_links.specs.Asks.{listed}
use Rattle.ctw_links.proofs.AskLaws.{alike_length, params_length, rests_on}
use Rattle.ctw_links.proofs.tell.tell.Goals as goal

pub returns-in-Alike-clause-stack : goal.returns-in-Alike-clause-stack
returns-in-Alike-clause-stack c =
    let b = c.args.stack.now in
    ok_then c.tell_alike-in-Alike.result c.tell_alike-in-Alike.ensures.stack (λ e. e ∙ ap (λ z. on_innermost (rests z) b) (sym (alike_length c.in-Alike.each c.in-Alike.count)) ∙ ap (λ z. on_innermost (rests (length (listed z))) b) (sym c.in-Alike.is))

pub returns-in-Params-clause-stack : goal.returns-in-Params-clause-stack
returns-in-Params-clause-stack c =
    let b = c.args.stack.now in
    ok_then c.tell_params.result c.tell_params.ensures.stack (λ e. e ∙ ap (λ z. on_innermost (rests z) b) (sym (params_length c.in-Params.first c.in-Params.count)) ∙ ap (λ z. on_innermost (rests (length (listed z))) b) (sym c.in-Params.is))

pub returns-in_ok-ask-in-Indexed-clause-stack : goal.returns-in_ok-ask-in-Indexed-clause-stack
returns-in_ok-ask-in-Indexed-clause-stack c =
    let b = c.args.stack.now in
    ok_then c.tell_params-in-Indexed.result c.tell_params-in-Indexed.ensures.stack (λ e. e ∙ ap (on_innermost (rests c.in-Indexed.count)) c.ask.ensures.stack ∙ rests_on c.in-Indexed.count b
    ∙ ap (λ z. on_innermost (rests (suc z)) b) (sym (params_length c.in-Indexed.first c.in-Indexed.count)) ∙ ap (λ z. on_innermost (rests (length (listed z))) b) (sym c.in-Indexed.is))
