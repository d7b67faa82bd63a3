use Rattle.std.proofs.Common.{◌<◌, ◌≤◌, List, length, map, subst, arith, rules, IfErr}
use Rattle.std.proofs.lemmas.List.{length-map}
use Rattle.ctw_lex.specs.declared.list.Token.{Token}
use Rattle.ctw_lex.specs.Told.{lexeme_of}
use Rattle.ctw_script.specs.LineValues.{IsUnreadLine}
use Rattle.ctw_script.specs.Progress.{EndsLine}
use Rattle.ctw_script.proofs.Facts.{if_err}
use Rattle.ctw_script.proofs.ScriptLaws.{last_line, last_unread}
use Rattle.ctw_script.proofs.script.read_tokens.Goals as goal

pub returns-in_err-end_line-clause-fault : goal.returns-in_err-end_line-clause-fault
returns-in_err-end_line-clause-fault c =
    let line = c.loop-i.line.items in
    let some : 0 < length (map lexeme_of line) = simp length-map (search rules) in
    let end : length c.args.list.now ≤ c.loop-i.i = omega arith in
    let bad : IfErr c.from_residual-in_err-end_line.result (IsUnreadLine (map lexeme_of line)) = search rules in
    if_err _ _ c.from_residual-in_err-end_line.result
    (λ fault k. last_unread c.args.list.now c.loop-i.i (map lexeme_of line) c.loop-i.moves.items fault some end c.loop-i.invariant.reading k) bad

pub returns-clause-read : goal.returns-clause-read
returns-clause-read c =
    let line = c.loop-i.line.items in
    let some : 0 < length (map lexeme_of line) = simp length-map (search rules) in
    let end : length c.args.list.now ≤ c.loop-i.i = omega arith in
    let old = c.loop-i.moves.items in
    let new = c.end_line.new.moves.items in
    let ended = subst (λ (ts : List Token). EndsLine (map lexeme_of ts) old new) c.deref.ensures.value c.in_ok-end_line.ensures.read in
    (last_line c.args.list.now c.loop-i.i (map lexeme_of line) old new some end c.loop-i.invariant.reading ended).0
