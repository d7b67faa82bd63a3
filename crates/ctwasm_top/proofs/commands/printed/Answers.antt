use Rattle.std.proofs.Common.{◌≡◌, ◌∙◌, ℕ, Vec, Global, ap}
use Rattle.std.specs.String.{string_bytes}
use Rattle.ctw_module.specs.Trees.{view_module}
use Rattle.ctw_text.specs.Print.{printed as text_of_module}
use Rattle.ctw_inputs.specs.declared.said.Status.TheVariants.{Done}
use Rattle.ctw_inputs.specs.Outcome.{ends}
use Rattle.ctwasm_top.specs.Answer.{printed}
use Rattle.ctwasm_top.proofs.Settled.{says_done}
use Rattle.ctwasm_top.proofs.commands.printed.Goals as goal

pub returns-clause-told : goal.returns-clause-told
returns-clause-told c =
    let m = c.in_ok-module.module in
    let bytes : c.into_bytes.result.items ≡ string_bytes c.in_ok-text.text = ap (λ (v : Vec ℕ Global). v.items) c.into_bytes.ensures.value in
    let text : string_bytes c.in_ok-text.text ≡ text_of_module (view_module m) = c.in_ok-text.ensures.text in
    says_done c.done.result (printed c.args.profile c.args.file.now c.args.bytes.now) c.into_bytes.result.items (text_of_module (view_module m)) c.done.ensures
    (bytes ∙ text) (c.in_ok-module.ensures.told (λ t. ends Done (text_of_module t)))
