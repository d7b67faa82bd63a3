use Rattle.std.proofs.Common.{◌≡◌, ◌++◌, ℕ, List, map, length, sym, ap, ◌∙◌, append_assoc}
use Rattle.std.proofs.lemmas.List.{length-map}
use Rattle.ctw_ops.specs.ValueType.{ValueType}
use Rattle.ctw_ops.specs.Types.{FunctionType, byte_types, erase_value_type}
use Rattle.ctw_ops.specs.declared.types.Label.{Label}
use Rattle.ctw_leb.specs.Spelling.{u32_text}
use Rattle.ctw_write.specs.Canon.{all_texts, type_text}
use Rattle.ctw_write.proofs.Walked.{on_ok}
use Rattle.ctw_strip.proofs.item.put_params.Goals as goal

pub put_types-requires : goal.put_types-requires
put_types-requires c = c.ty.invariant

pub returns : goal.returns
returns c =
    let seen : byte_types c.ty.inside.params.now ≡ c.args.ty.now.params = ap (λ (t : FunctionType Label). t.params) c.ty.view_is in
    let params = c.args.ty.now.params in
    let texts = all_texts type_text (map erase_value_type params) in
    let count = c.in_ok-put_u32.ensures.put ∙ ap (λ (n : ℕ). c.args.out.now.items ++ u32_text n) (c.params_of.ensures ∙ sym (length-map params erase_value_type)) in
    on_ok c.put_types.result
    (λ e. e ∙ ap (λ (ts : List (ValueType Label)). c.put_u32.new.out.items ++ all_texts type_text (map erase_value_type ts)) seen ∙ ap (λ (l : List ℕ). l ++ texts) count
    ∙ append_assoc c.args.out.now.items (u32_text (length (map erase_value_type params))) texts) c.put_types.ensures
