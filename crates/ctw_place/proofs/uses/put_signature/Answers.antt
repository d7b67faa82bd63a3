use Rattle.std.proofs.Common.{◌≡◌, ◌+◌, ◌++◌, ◌&&◌, ℕ, List, map, length, sym, ap, ◌∙◌, append_assoc, arith}
use Rattle.std.specs.Prelude.{Option, option_map}
use Rattle.ctw_ops.specs.ValueType.{ValueType}
use Rattle.ctw_ops.specs.Types.{FunctionType, byte_types, value_type}
use Rattle.ctw_ops.specs.TagMaps.{type_to}
use Rattle.ctw_ops.specs.Typing.{optional}
use Rattle.ctw_ops.specs.declared.types.Label.{Label}
use Rattle.ctw_form.proofs.Params.{types_length}
use Rattle.ctw_labels.specs.Fits.{label_at}
use Rattle.ctw_labels.specs.Links.{at_tag}
use Rattle.ctw_labels.specs.Numbering.{params_from, result_from}
use Rattle.ctw_labels.specs.Placed.{are_public}
use Rattle.ctw_write.specs.Canon.{vector_text, type_text}
use Rattle.ctw_place.proofs.TypesUnder.{result_under}
use Rattle.ctw_place.proofs.uses.put_signature.Goals as goal

pub overflow_cast-site : goal.overflow_cast-site
overflow_cast-site c =
    let seen : byte_types c.ty.inside.params.now ≡ c.args.ty.now.params = ap (λ (t : FunctionType Label). t.params) c.ty.view_is in
    omega (arith, types_length c.ty.inside.params.now c.ty.invariant, ap length seen, c.requires)

pub overflow_add-site : goal.overflow_add-site
overflow_add-site c =
    let seen : byte_types c.ty.inside.params.now ≡ c.args.ty.now.params = ap (λ (t : FunctionType Label). t.params) c.ty.view_is in
    omega (arith, types_length c.ty.inside.params.now c.ty.invariant, ap length seen, c.requires)

-- the result is the one under labels
there : (labels : List Label) (first : ℕ) (ty : FunctionType Label) (k : ℕ) (own r : Option (ValueType Label)) (l : Label) → k ≡ length ty.params → own ≡ ty.result → l ≡ label_at labels (first + k)
    → r ≡ option_map (λ t. value_type t.width l) own → r ≡ option_map (type_to (at_tag (label_at labels))) (result_from (first + length ty.params) ty.result)
there labels first ty k own r l size same at is =
    is ∙ (λ i. option_map (λ t. value_type t.width ((at ∙ ap (λ n. label_at labels (first + n)) size) i)) (same i)) ∙ sym (result_under (at_tag (label_at labels)) (first + length ty.params) ty.result)

pub returns-then-params-clause-put : goal.returns-then-params-clause-put
returns-then-params-clause-put c =
    let v : List ℕ = vector_text type_text (map (type_to (at_tag (label_at c.args.labels.now))) (params_from c.args.first c.args.ty.now.params)) in
    let w : List ℕ = vector_text type_text (optional (option_map (type_to (at_tag (label_at c.args.labels.now))) (result_from (c.args.first + length c.args.ty.now.params) c.args.ty.now.result))) in
    c.in_ok-put_result.ensures ∙ ap (λ (t : Option (ValueType Label)). c.put_params.new.out.items ++ vector_text type_text (optional t)) (there c.args.labels.now c.args.first c.args.ty.now (length c.ty.inside.params.now) c.ty.inside.result c.labelled_result-result.result c.at.result
    (sym (types_length c.ty.inside.params.now c.ty.invariant) ∙ ap (λ (t : FunctionType Label). length t.params) c.ty.view_is) (ap (λ (t : FunctionType Label). t.result) c.ty.view_is) c.at.ensures c.labelled_result-result.ensures) ∙ ap (λ (l : List ℕ). l ++ w) c.in_ok-params.ensures.put ∙ append_assoc c.args.out.now.items v w

pub returns-else-params-clause-put : goal.returns-else-params-clause-put
returns-else-params-clause-put c =
    let v : List ℕ = vector_text type_text (map (type_to (at_tag (label_at c.args.labels.now))) (params_from c.args.first c.args.ty.now.params)) in
    let w : List ℕ = vector_text type_text (optional (option_map (type_to (at_tag (label_at c.args.labels.now))) (result_from (c.args.first + length c.args.ty.now.params) c.args.ty.now.result))) in
    c.in_ok-put_result.ensures ∙ ap (λ (t : Option (ValueType Label)). c.put_params.new.out.items ++ vector_text type_text (optional t)) (there c.args.labels.now c.args.first c.args.ty.now (length c.ty.inside.params.now) c.ty.inside.result c.labelled_result-result.result c.at.result
    (sym (types_length c.ty.inside.params.now c.ty.invariant) ∙ ap (λ (t : FunctionType Label). length t.params) c.ty.view_is) (ap (λ (t : FunctionType Label). t.result) c.ty.view_is) c.at.ensures c.labelled_result-result.ensures) ∙ ap (λ (l : List ℕ). l ++ w) c.in_ok-params.ensures.put ∙ append_assoc c.args.out.now.items v w

pub returns-then-params-clause-public : goal.returns-then-params-clause-public
returns-then-params-clause-public c =
    c.is_open_result.ensures ∙ ap (λ (t : Option (ValueType Label)). are_public (optional t)) (there c.args.labels.now c.args.first c.args.ty.now (length c.ty.inside.params.now) c.ty.inside.result c.labelled_result-result.result c.at.result
    (sym (types_length c.ty.inside.params.now c.ty.invariant) ∙ ap (λ (t : FunctionType Label). length t.params) c.ty.view_is) (ap (λ (t : FunctionType Label). t.result) c.ty.view_is) c.at.ensures c.labelled_result-result.ensures)
    ∙ ap (λ b. b && are_public (optional (option_map (type_to (at_tag (label_at c.args.labels.now))) (result_from (c.args.first + length c.args.ty.now.params) c.args.ty.now.result)))) (sym c.if-params.true ∙ c.in_ok-params.ensures.public)
