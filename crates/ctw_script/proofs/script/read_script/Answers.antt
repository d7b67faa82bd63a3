use Rattle.ctw_script.proofs.Facts.{if_ok, if_err}
use Rattle.ctw_script.proofs.ScriptLaws.{script_read, line_fault}
use Rattle.ctw_script.proofs.script.read_script.Goals as goal

pub returns-clause-reading : goal.returns-clause-reading
returns-clause-reading c =
    if_ok _ _ c.read_tokens.result (λ moves h. script_read c.args.text.now c.in-Ok.list moves c.in-Ok.ensures.tokens h) c.read_tokens.ensures.read

pub returns-clause-fault : goal.returns-clause-fault
returns-clause-fault c =
    if_err _ _ c.read_tokens.result (λ fault h. line_fault c.args.text.now c.in-Ok.list fault c.in-Ok.ensures.tokens h) c.read_tokens.ensures.fault
