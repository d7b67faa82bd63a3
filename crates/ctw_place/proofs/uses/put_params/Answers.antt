use Rattle.std.proofs.Common.{◌≡◌, ◌++◌, ℕ, List, map, length, sym, ap, subst, ◌∙◌, append_assoc, arith}
use Rattle.std.specs.Prelude.{IfOk}
use Rattle.std.proofs.lemmas.List.{length-map}
use Rattle.ctw_ops.specs.ValueType.{ValueType}
use Rattle.ctw_ops.specs.Types.{FunctionType, byte_types}
use Rattle.ctw_ops.specs.TagMaps.{type_to}
use Rattle.ctw_ops.specs.declared.types.Label.{Label}
use Rattle.ctw_form.proofs.Params.{types_length}
use Rattle.ctw_leb.specs.Spelling.{u32_text}
use Rattle.ctw_labels.specs.declared.tag.Tag.{Tag}
use Rattle.ctw_labels.specs.Fits.{label_at}
use Rattle.ctw_labels.specs.Links.{at_tag}
use Rattle.ctw_labels.specs.Numbering.{params_from}
use Rattle.ctw_labels.specs.Placed.{are_public}
use Rattle.ctw_sites.proofs.ScopeLaws.{params_length}
use Rattle.ctw_write.specs.Canon.{all_texts, type_text}
use Rattle.ctw_write.proofs.Walked.{on_ok}
use Rattle.ctw_place.proofs.uses.put_params.Goals as goal

pub overflow_cast-ty-inside : goal.overflow_cast-ty-inside
overflow_cast-ty-inside c =
    let seen : byte_types c.ty.inside.params.now ≡ c.args.ty.now.params = ap (λ (t : FunctionType Label). t.params) c.ty.view_is in
    omega (arith, types_length c.ty.inside.params.now c.ty.invariant, ap length seen, c.requires)

pub put_types-requires-clause-types : goal.put_types-requires-clause-types
put_types-requires-clause-types c = c.ty.invariant

pub put_types-requires-clause-room : goal.put_types-requires-clause-room
put_types-requires-clause-room c =
    let seen : byte_types c.ty.inside.params.now ≡ c.args.ty.now.params = ap (λ (t : FunctionType Label). t.params) c.ty.view_is in
    omega (arith, types_length c.ty.inside.params.now c.ty.invariant, ap length seen, c.requires)

pub returns-clause-put : goal.returns-clause-put
returns-clause-put c =
    let seen : byte_types c.ty.inside.params.now ≡ c.args.ty.now.params = ap (λ (t : FunctionType Label). t.params) c.ty.view_is in
    let L : Tag → Label = at_tag (label_at c.args.labels.now) in
    let ts : List (ValueType Label) = map (type_to (at_tag (label_at c.args.labels.now))) (params_from c.args.first c.args.ty.now.params) in
    let size : length c.ty.inside.params.now ≡ length ts =
    sym (length-map (params_from c.args.first c.args.ty.now.params) (type_to (at_tag (label_at c.args.labels.now))) ∙ params_length c.args.first c.args.ty.now.params ∙ ap length (sym seen) ∙ types_length c.ty.inside.params.now c.ty.invariant) in
    let count = c.in_ok-put_u32.ensures.put ∙ ap (λ (n : ℕ). c.args.out.now.items ++ u32_text n) size in
    on_ok c.put_types.result
    (λ e. e ∙ ap (λ (l : List (ValueType Label)). c.put_u32.new.out.items ++ all_texts type_text (map (type_to (at_tag (label_at c.args.labels.now))) (params_from c.args.first l))) seen ∙ ap (λ (l : List ℕ). l ++ all_texts type_text ts) count
    ∙ append_assoc c.args.out.now.items (u32_text (length ts)) (all_texts type_text ts)) c.put_types.ensures.put

pub returns-clause-public : goal.returns-clause-public
returns-clause-public c =
    let seen : byte_types c.ty.inside.params.now ≡ c.args.ty.now.params = ap (λ (t : FunctionType Label). t.params) c.ty.view_is in
    subst (λ l. IfOk c.put_types.result (λ b. b ≡ are_public (map (type_to (at_tag (label_at c.args.labels.now))) (params_from c.args.first l)))) seen c.put_types.ensures.public
