use Rattle.std.proofs.Common.{◌≡◌, ◌++◌, ℕ, List, ap, ◌∙◌, codes}
use Rattle.std.specs.String.{string_bytes}
use Rattle.ctw_module.specs.Trees.{tree}
use Rattle.ctw_print.specs.Texts.{use_text}
use Rattle.ctw_print.proofs.Shown.{named_within, use_named}
use Rattle.ctw_print.proofs.Walked.{on_ok}
use Rattle.ctw_print.proofs.field.put_head.Goals as goal

pub type_of_func-requires : goal.type_of_func-requires
type_of_func-requires c = (named_within (tree c.args.m.now) c.args.f c.requires.0 c.requires.1).1

pub returns : goal.returns
returns c function e =
    let same = use_named (tree c.args.m.now) c.args.f c.type_of_func.result function e c.type_of_func.ensures in
    let start : string_bytes c.push_str.new.self ≡ string_bytes c.args.out.now ++ codes "\n  (func" = c.in_ok-push_str.ensures.bytes in
    on_ok c.put_use.result
    (λ q. q ∙ ap (λ (l : List ℕ). l ++ use_text c.type_of_func.result) start
    ∙ ap (λ (i : ℕ). string_bytes c.args.out.now ++ codes "\n  (func" ++ use_text i) same) c.put_use.ensures
