use Rattle.std.proofs.Common.{◌≡◌, Some, sym, ◌∙◌}
use Rattle.ctw_module.specs.Trees.{view_module}
use Rattle.ctw_valid.specs.Scope.{scope_of_body}
use Rattle.ctw_valid.proofs.Checked.{checked, sound, complete, fault_is, at_is, it_applies}
use Rattle.ctw_valid.proofs.check.Checker.check_body.Goals as goal

some_same : {A : Type 0} {x y : A} → Some x ≡ Some y → x ≡ y
some_same e = cc

pub returns-clause-sound : goal.returns-clause-sound
returns-clause-sound c = λ function n.
    let m = view_module c.args.m.now in
    let s = c.in-Some.ensures.spelled in
    sound m function c.check_code.result (checked m (scope_of_body c.new.result) c.in-Some.body s.0 function c.check_code.result (c.new.ensures function n) (some_same (sym s.1 ∙ n)) s.2 c.check_code.ensures)

pub returns-clause-complete : goal.returns-clause-complete
returns-clause-complete c = λ function n t.
    let m = view_module c.args.m.now in
    let s = c.in-Some.ensures.spelled in
    complete m function c.check_code.result (checked m (scope_of_body c.new.result) c.in-Some.body s.0 function c.check_code.result (c.new.ensures function n) (some_same (sym s.1 ∙ n)) s.2 c.check_code.ensures) t

pub returns-clause-fault : goal.returns-clause-fault
returns-clause-fault c = λ function n.
    let m = view_module c.args.m.now in
    let s = c.in-Some.ensures.spelled in
    fault_is m function c.check_code.result (checked m (scope_of_body c.new.result) c.in-Some.body s.0 function c.check_code.result (c.new.ensures function n) (some_same (sym s.1 ∙ n)) s.2 c.check_code.ensures)

pub returns-clause-at : goal.returns-clause-at
returns-clause-at c = λ function n.
    let m = view_module c.args.m.now in
    let s = c.in-Some.ensures.spelled in
    at_is m function c.check_code.result (checked m (scope_of_body c.new.result) c.in-Some.body s.0 function c.check_code.result (c.new.ensures function n) (some_same (sym s.1 ∙ n)) s.2 c.check_code.ensures)

pub returns-clause-applies : goal.returns-clause-applies
returns-clause-applies c = λ function n.
    let m = view_module c.args.m.now in
    let s = c.in-Some.ensures.spelled in
    it_applies m function c.check_code.result (checked m (scope_of_body c.new.result) c.in-Some.body s.0 function c.check_code.result (c.new.ensures function n) (some_same (sym s.1 ∙ n)) s.2 c.check_code.ensures)
