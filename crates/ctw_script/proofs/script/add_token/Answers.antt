use Rattle.std.proofs.Common.{◌≡◌, ◌++◌, ◌∷◌, [], List, true, false, map, ap, subst, ◌∙◌, rules, IfErr}
use Rattle.ctw_lex.specs.declared.list.Token.{Token}
use Rattle.ctw_lex.specs.Told.{lexeme_of}
use Rattle.ctw_script.specs.LineValues.{IsUnreadLine}
use Rattle.ctw_script.specs.Progress.{goes_on, EndsLine}
use Rattle.ctw_script.proofs.Facts.{on_ok, if_err}
use Rattle.ctw_script.proofs.ScriptLaws.{line_goes_on, next_line_begins, line_stops}
use Rattle.ctw_script.proofs.script.add_token.Goals as goal

pub returns-then-goes_on-clause-reading : goal.returns-then-goes_on-clause-reading
returns-then-goes_on-clause-reading c =
    let h : goes_on (map lexeme_of c.args.line.now.items) (lexeme_of c.args.t) ≡ true = cc in
    on_ok _ _ c.push_token.result (line_goes_on c.args.line.now.items c.push_token.new.line.items c.args.moves.now.items c.args.t h) c.push_token.ensures.ok

pub returns-in_err-end_line-clause-fault : goal.returns-in_err-end_line-clause-fault
returns-in_err-end_line-clause-fault c =
    let line = c.args.line.now.items in
    let h : goes_on (map lexeme_of line) (lexeme_of c.args.t) ≡ false = cc in
    let bad : IfErr c.from_residual.result (IsUnreadLine (map lexeme_of line)) = search rules in
    if_err _ _ c.from_residual.result (λ fault k. line_stops line c.args.moves.now.items c.args.t fault h k) bad

pub returns-clause-reading : goal.returns-clause-reading
returns-clause-reading c =
    let line = c.args.line.now.items in
    let h : goes_on (map lexeme_of line) (lexeme_of c.args.t) ≡ false = cc in
    let old = c.args.moves.now.items in
    let new = c.end_line.new.moves.items in
    let ended = subst (λ (ts : List Token). EndsLine (map lexeme_of ts) old new) c.deref-2.ensures.value c.in_ok-end_line.ensures.read in
    on_ok _ _ c.push_token-2.result
    (λ e. next_line_begins line c.push_token-2.new.line.items old new c.args.t h ended (e ∙ ap (λ ts. ts ++ c.args.t ∷ []) c.clear.ensures.items))
    c.push_token-2.ensures.ok
