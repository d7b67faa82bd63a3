-- What is done where a set is launched.
use Rattle.ctw_moves.specs.States.{State}
use Rattle.ctw_moves.specs.LaunchedStates.{Launch, Ready, Faulty}
use Rattle.ctw_inputs.specs.declared.said.Status.TheVariants.{Refused}
use Rattle.ctw_inputs.specs.Outcome.{Outcome, ends}
use Rattle.ctwasm_top.specs.Lines.{launch_line}

-- goes on where the set is launched
abbrev pub on_launch : Launch → (State → Outcome) → Outcome
on_launch (Ready s) go = go s
on_launch (Faulty fault) go = ends Refused (launch_line fault)
