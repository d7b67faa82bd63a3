use Rattle.std.proofs.Common.{sym, subst}
use Rattle.ctw_form.specs.Read.{file_at}
use Rattle.ctw_module.specs.Trees.{tree}
use Rattle.ctw_read.specs.declared.fault.ReadFault.{ReadFault}
use Rattle.ctw_read.specs.Calls.{FailsWith}
use Rattle.ctw_inputs.specs.Settling.{IsStop}
use Rattle.ctw_inputs.proofs.ModulesRead.{form_read, form_refused}
use Rattle.ctw_inputs.proofs.modules.read_module.Goals as goal

pub returns-in-Ok-clause-told : goal.returns-in-Ok-clause-told
returns-in-Ok-clause-told c = λ go. form_read c.args.name.now c.args.bytes.now (tree c.in-Ok.module) go c.in-Ok.ensures.spelled

pub returns-in-Err-Bad-clause-told : goal.returns-in-Err-Bad-clause-told
returns-in-Err-Bad-clause-told c = λ go.
    let e = subst (λ (e : ReadFault). FailsWith e (file_at c.args.bytes.now)) c.in-Err-Bad.field-0-is c.in-Err-Bad.ensures.exact in
    subst (IsStop c.refuse.result) (sym (form_refused c.args.name.now c.args.bytes.now _ go e)) (c.refuse.ensures.told _ c.read_line.ensures)
