use Rattle.std.proofs.Common.{List, inr, refl, ap, ◌∙◌, subst}
use Rattle.ctw_io.proofs.Taking.{took_none}
use Rattle.ctw_script.specs.declared.moves.Move.{Move}
use Rattle.ctw_link.specs.Sets.{set_of}
use Rattle.ctw_moves.specs.Runs.{plays}
use Rattle.ctw_inputs.specs.declared.said.Status.TheVariants.{NoMemory}
use Rattle.ctw_words.specs.SessionWords.{OnceWords}
use Rattle.ctwasm_top.specs.Sessions.{Told}
use Rattle.ctwasm_top.specs.Answer.{ran, once_moves, once_answer}
use Rattle.ctwasm_top.proofs.Ending.{behind_once, stopped_told, told_as, ended_early, once_is, stops_as, ran_saved, told_writes}
use Rattle.ctwasm_top.proofs.running.once.Goals as goal

pub returns-in-Err-clause-did : goal.returns-in-Err-clause-did
returns-in-Err-clause-did g c = λ files told.
    stopped_told c.settle.result (once_answer files c.args.profile c.args.words.now) files (g.F.Shelf.files c.load_once.new.shelf) (g.K.Sink.taken c.args.out.now) (g.K.Sink.taken c.settle.new.out)
    (c.load_once.ensures.unchanged ∙ told) (c.settle.ensures.did files (once_answer files c.args.profile c.args.words.now) (c.in-Err.ensures.told files told (behind_once c.args.profile c.args.words.now)))

pub returns-in-Err-open_session-clause-did : goal.returns-in-Err-open_session-clause-did
returns-in-Err-open_session-clause-did g c = λ files told.
    stopped_told c.settle-in-Err-open_session.result (once_answer files c.args.profile c.args.words.now) files (g.F.Shelf.files c.load_once.new.shelf) (g.K.Sink.taken c.args.out.now)
    (g.K.Sink.taken c.settle-in-Err-open_session.new.out) (c.load_once.ensures.unchanged ∙ told)
    (c.settle-in-Err-open_session.ensures.did files (once_answer files c.args.profile c.args.words.now)
    (stops_as c.in-Err-open_session.stop _ _
    (once_is files c.args.profile c.args.words.now c.in-Ok.files.vault.items c.in-Ok.files.parts.items c.deref.result.now (c.in-Ok.ensures.told files told) c.in-Ok.ensures.parts.named c.deref.ensures.value)
    (c.in-Err-open_session.ensures.told (ran c.args.words.now.sealed (once_moves c.args.words.now)))))

pub returns-in_default-clause-did : goal.returns-in_default-clause-did
returns-in_default-clause-did g c = λ files told.
    ended_early NoMemory files (g.F.Shelf.files c.load_once.new.shelf) (once_answer files c.args.profile c.args.words.now) (g.K.Sink.taken c.args.out.now) (g.K.Sink.taken c.args.out.now) (inr refl)
    (c.load_once.ensures.unchanged ∙ told) (took_none (g.K.Sink.taken c.args.out.now) (once_answer files c.args.profile c.args.words.now).out)

pub returns-clause-did : goal.returns-clause-did
returns-clause-did g c = λ files told.
    let o = c.in-Ok-open_session.ensures.told in
    let set = set_of c.in-Ok-open_session.session.set in
    let moves = once_moves c.args.words.now in
    let t = subst (λ (ms : List Move). Told (plays set o.0 ms) c.play_two-played.result c.play_two-played.new.session (g.K.Sink.taken c.args.out.now) (g.K.Sink.taken c.play_two-played.new.out))
    c.in-Ok-moves_of_once.ensures (c.play_two-played.ensures.told o.0 o.1) in
    told_as c.finish.result (ran c.args.words.now.sealed moves set o.0) (once_answer files c.args.profile c.args.words.now) files (g.F.Shelf.files c.finish.new.shelf) (g.K.Sink.taken c.args.out.now)
    (g.K.Sink.taken c.play_two-played.new.out)
    (once_is files c.args.profile c.args.words.now c.in-Ok.files.vault.items c.in-Ok.files.parts.items c.deref.result.now (c.in-Ok.ensures.told files told) c.in-Ok.ensures.parts.named c.deref.ensures.value
    ∙ o.2 (ran c.args.words.now.sealed moves))
    (c.finish.ensures.did files (ran c.args.words.now.sealed moves set o.0) (g.K.Sink.taken c.args.out.now) (g.K.Sink.taken c.play_two-played.new.out) (c.load_once.ensures.unchanged ∙ told)
    (ran_saved c.args.words.now.sealed moves set o.0 c.play_two-played.result c.play_two-played.new.session (g.K.Sink.taken c.args.out.now) (g.K.Sink.taken c.play_two-played.new.out) c.words.inside.sealed.now
    c.sealed.result.now t (ap (λ (x : OnceWords). x.sealed) c.words.view_is) c.sealed.ensures)
    (told_writes (plays set o.0 moves) c.play_two-played.result c.play_two-played.new.session (g.K.Sink.taken c.args.out.now) (g.K.Sink.taken c.play_two-played.new.out) t))
