use Rattle.std.proofs.lemmas.Result.{err_from_is_err_and}
use Rattle.ctw_link.specs.Sets.{set_of}
use Rattle.ctw_inputs.specs.Parts.{names, contents}
use Rattle.ctwasm_top.proofs.Ending.{text_reading, open_stops_text, open_stops_moves, open_stops_launch, opens_run}
use Rattle.ctwasm_top.proofs.running.open_run.Goals as goal

pub returns-in_err-text-clause-told : goal.returns-in_err-text-clause-told
returns-in_err-text-clause-told c = λ reading reads.
    let p = err_from_is_err_and c.from_residual.result c.from_residual.ensures.1 in
    rw (p.1, p.2) (open_stops_text c.args.profile c.args.file.now c.args.script.now reading (names c.args.parts.now) (contents c.args.parts.now) c.args.vault.items c.in_err-text.field-0.0 c.in_err-text.ensures.told)

pub returns-in_err-moves-clause-told : goal.returns-in_err-moves-clause-told
returns-in_err-moves-clause-told c = λ reading reads.
    let p = err_from_is_err_and c.from_residual-in_err-moves.result c.from_residual-in_err-moves.ensures.1 in
    let t = c.in_ok-text.ensures.told in
    let r = text_reading c.args.file.now c.args.script.now c.in_ok-text.text.now reading t c.in_ok-text.ensures.same reads in
    rw (p.1, p.2)
    (open_stops_moves c.args.profile c.args.file.now c.args.script.now reading (names c.args.parts.now) (contents c.args.parts.now) c.args.vault.items c.in_ok-text.text.now t c.in_err-moves.field-0.0
    (c.in_err-moves.ensures.told reading r))

pub returns-in_err-session-clause-told : goal.returns-in_err-session-clause-told
returns-in_err-session-clause-told c = λ reading reads.
    let p = err_from_is_err_and c.from_residual-in_err-session.result c.from_residual-in_err-session.ensures.1 in
    let t = c.in_ok-text.ensures.told in
    let r = text_reading c.args.file.now c.args.script.now c.in_ok-text.text.now reading t c.in_ok-text.ensures.same reads in
    rw (p.1, p.2)
    (open_stops_launch c.args.profile c.args.file.now c.args.script.now reading (names c.args.parts.now) (contents c.args.parts.now) c.args.vault.items c.in_ok-text.text.now t c.in_ok-moves.moves
    (c.in_ok-moves.ensures.told reading r) c.in_err-session.field-0.0 c.in_err-session.ensures.told)

pub returns-clause-told : goal.returns-clause-told
returns-clause-told c = λ reading reads.
    let t = c.in_ok-text.ensures.told in
    let r = text_reading c.args.file.now c.args.script.now c.in_ok-text.text.now reading t c.in_ok-text.ensures.same reads in
    opens_run c.args.profile c.args.file.now c.args.script.now reading (names c.args.parts.now) (contents c.args.parts.now) c.args.vault.items c.in_ok-text.text.now t c.in_ok-moves.moves
    (c.in_ok-moves.ensures.told reading r) c.in_ok-session.session (set_of c.in_ok-session.session.set) c.in_ok-session.ensures.told
