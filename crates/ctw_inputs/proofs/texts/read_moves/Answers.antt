use Rattle.std.proofs.Common.{◌≢◌, sym, subst, rules, arith}
use Rattle.std.proofs.lemmas.Grind.{common_steps}
use Rattle.ctw_script.specs.declared.script.ScriptFault.TheVariants.{NoMemory}
use Rattle.ctw_lines.specs.Lines.{script_line}
use Rattle.ctw_inputs.specs.Settling.{IsStop}
use Rattle.ctw_inputs.proofs.TextsRead.{moves_told, fault_told, follows}
use Rattle.ctw_inputs.proofs.texts.read_moves.Goals as goal

pub returns-in-Ok-clause-told : goal.returns-in-Ok-clause-told
returns-in-Ok-clause-told c = λ reading reads go. moves_told c.args.text.now c.in-Ok.moves reading go c.in-Ok.ensures.reading reads

pub returns-in-Err : goal.returns-in-Err
returns-in-Err c =
    let some : c.in-Err.fault ≢ NoMemory = first_of (search rules, grind (arith, common_steps)) in
    record {
      told = λ reading reads go.
          subst (IsStop c.refuse.result) (sym (fault_told c.args.text.now c.in-Err.fault reading go c.in-Err.ensures.fault some reads))
          (c.refuse.ensures.told (script_line c.in-Err.fault) c.script_line.ensures);
      read = follows c.args.text.now c.refuse.result c.in-Err.fault c.refuse.ensures.quiet c.in-Err.ensures.fault some;
      refuses = c.refuse.ensures.refuses;
    }
