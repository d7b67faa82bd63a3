use Rattle.ctw_inputs.specs.Inputs.{module_limit, load}
use Rattle.ctwasm_top.specs.Answer.{printed}
use Rattle.ctwasm_top.proofs.Settled.{goes_on}
use Rattle.ctwasm_top.proofs.commands.text_file.Goals as goal

pub returns-clause-told : goal.returns-clause-told
unfolding module_limit
returns-clause-told g c = λ files told.
    goes_on (load files c.args.file.now module_limit) (printed c.args.profile c.args.file.now) c.in_ok-bytes.bytes.items c.deref.result.now c.printed.result (c.in_ok-bytes.ensures.told files told) c.deref.ensures.value c.printed.ensures.told

pub returns-clause-cause : goal.returns-clause-cause
returns-clause-cause g c = record { kept = c.load_file.ensures.cause.kept; failed = λ e. absurd (c.printed.ensures.quiet e) }
