use Rattle.std.proofs.Common.{◌≡◌, ◌<◌, ◌++◌, ℕ, List, length, sym, ap, ◌∙◌, append-nil, arith, codes}
use Rattle.std.specs.String.{string_bytes}
use Rattle.ctw_ops.specs.ValueType.{ValueType}
use Rattle.ctw_ops.specs.Types.{FunctionType, byte_types}
use Rattle.ctw_ops.specs.declared.types.Label.{Label}
use Rattle.ctw_print.specs.Texts.{all_texts, spaced_type}
use Rattle.ctw_print.proofs.Listed.{params_none, params_some}
use Rattle.ctw_print.proofs.Joined.{behind3}
use Rattle.ctw_print.proofs.Walked.{on_ok}
use Rattle.ctw_print.proofs.field.put_params.Goals as goal

pub returns-then-param_count-eq0 : goal.returns-then-param_count-eq0
returns-then-param_count-eq0 c =
    let none : length c.args.ty.now.params ≡ 0 = omega arith in
    sym (append-nil (string_bytes c.args.out.now)) ∙ ap (λ (l : List ℕ). string_bytes c.args.out.now ++ l) (sym (params_none c.args.ty.now.params none))

pub put_param_group-requires : goal.put_param_group-requires
put_param_group-requires c = c.ty.invariant

pub returns : goal.returns
returns c =
    let seen : byte_types c.ty.inside.params.now ≡ c.args.ty.now.params = ap (λ (t : FunctionType Label). t.params) c.ty.view_is in
    let some : 0 < length c.args.ty.now.params = omega arith in
    on_ok c.put_param_group.result
    (λ e. e ∙ ap (λ (ts : List (ValueType Label)). string_bytes c.args.out.now ++ codes " (param" ++ all_texts spaced_type ts ++ codes ")") seen
    ∙ behind3 (string_bytes c.args.out.now) (codes " (param") (all_texts spaced_type c.args.ty.now.params) (codes ")")
    ∙ ap (λ (l : List ℕ). string_bytes c.args.out.now ++ l) (sym (params_some c.args.ty.now.params some))) c.put_param_group.ensures
