use Rattle.ctw_names.specs.Spaces.{space_in}
use Rattle.ctw_names.proofs.FunctionFaults.{function_noted}
use Rattle.ctw_names.proofs.function.function.Goals as goal

pub returns-clause-faults : goal.returns-clause-faults
returns-clause-faults c =
    function_noted (space_in c.args.space.now) c.args.field c.args.faults.now c.note_entry.new.faults c.add_variables.new.faults c.add_variables-2.new.faults c.body_of.new.faults c.new-own.result
    c.add_variables.new.table c.in_ok-names.names c.replace-code.result c.in_ok-note_entry.ensures c.new-own.ensures c.in_ok-add_variables.ensures.faults c.in_ok-add_variables.ensures.names
    c.in_ok-add_variables-2.ensures.faults c.in_ok-names.ensures c.replace-code.ensures.value c.in_ok-code.ensures.faults
