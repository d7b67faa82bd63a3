use Rattle.std.proofs.Common.{[], ◌≡◌, ◌≤◌, arith, List, ℕ, length, Ok, ap, ◌∙◌, subst}
use Rattle.ctw_link.specs.Sets.{set_of}
use Rattle.ctw_moves.specs.Runs.{plays}
use Rattle.ctw_inputs.specs.Settling.{Reads}
use Rattle.ctw_inputs.specs.declared.said.Status.TheVariants.{Refused}
use Rattle.ctw_inputs.specs.Outcome.{ends}
use Rattle.ctw_words.specs.SessionWords.{RunWords}
use Rattle.ctwasm_top.specs.Answer.{ran, run_answer}
use Rattle.ctwasm_top.proofs.Ending.{run_refusing, run_refused, refused_not_done, behind_run, stopped_told, told_as, run_is, script_reads, same_script, no_ok, stops_as, ran_saved, told_writes}
use Rattle.ctwasm_top.proofs.running.run.Goals as goal

pub returns-in-Err-clause-did : goal.returns-in-Err-clause-did
returns-in-Err-clause-did g c = λ files reading told reads.
    stopped_told c.settle.result (run_answer files c.args.profile reading c.args.words.now) files (g.F.Shelf.files c.load_run.new.shelf) (g.K.Sink.taken c.args.out.now) (g.K.Sink.taken c.settle.new.out)
    (c.load_run.ensures.unchanged ∙ told)
    (c.settle.ensures.did files (run_answer files c.args.profile reading c.args.words.now) (c.in-Err.ensures.told files told (behind_run c.args.profile reading c.args.words.now)))

pub returns-in-Err-clause-read : goal.returns-in-Err-clause-read
returns-in-Err-clause-read g c = λ files told done.
    absurd
    (refused_not_done c.settle.result (run_refusing files c.args.words.now) files files (g.K.Sink.taken c.args.out.now) (g.K.Sink.taken c.settle.new.out)
    (c.settle.ensures.did files (run_refusing files c.args.words.now) (c.in-Err.ensures.told files told (λ x. ends Refused []))) (run_refused files c.args.words.now) done)

pub open_run-requires-clause-short : goal.open_run-requires-clause-short
open_run-requires-clause-short g c =
    let h : length c.in-Ok.files.script.items ≤ 1048576 = c.in-Ok.ensures.short in
    let e : length c.deref.result.now ≡ length c.in-Ok.files.script.items = ap length c.deref.ensures.value in
    omega arith

pub returns-in-Err-open_run-clause-did : goal.returns-in-Err-open_run-clause-did
returns-in-Err-open_run-clause-did g c = λ files reading told reads.
    let f = c.in-Ok.ensures.script files told in
    stopped_told c.settle-in-Err-open_run.result (run_answer files c.args.profile reading c.args.words.now) files (g.F.Shelf.files c.load_run.new.shelf) (g.K.Sink.taken c.args.out.now)
    (g.K.Sink.taken c.settle-in-Err-open_run.new.out) (c.load_run.ensures.unchanged ∙ told)
    (c.settle-in-Err-open_run.ensures.did files (run_answer files c.args.profile reading c.args.words.now)
    (stops_as c.in-Err-open_run.stop _ _
    (run_is files c.args.profile reading c.args.words.now c.in-Ok.files.script.items c.in-Ok.files.vault.items c.words.inside.script.now c.deref.result.now c.in-Ok.files.parts.items c.deref-2.result.now
    (c.in-Ok.ensures.told files told) c.in-Ok.ensures.parts.named c.deref-2.ensures.value c.deref.ensures.value (ap (λ (x : RunWords). x.script) c.words.view_is))
    (c.in-Err-open_run.ensures.told reading (script_reads files c.args.words.now.script c.in-Ok.files.script.items c.deref.result.now reading f.0 f.1 c.deref.ensures.value reads) (λ moves. ran c.args.words.now.sealed moves))))

pub returns-clause-did : goal.returns-clause-did
returns-clause-did g c = λ files reading told reads.
    let f = c.in-Ok.ensures.script files told in
    let o = c.in-Ok-open_run.ensures.told reading (script_reads files c.args.words.now.script c.in-Ok.files.script.items c.deref.result.now reading f.0 f.1 c.deref.ensures.value reads) in
    let set = set_of c.in-Ok-open_run.opened.session.set in
    let moves = c.in-Ok-open_run.opened.moves in
    let t = c.play_script-played.ensures.told o.0 o.1 in
    told_as c.finish.result (ran c.args.words.now.sealed moves set o.0) (run_answer files c.args.profile reading c.args.words.now) files (g.F.Shelf.files c.finish.new.shelf) (g.K.Sink.taken c.args.out.now)
    (g.K.Sink.taken c.play_script-played.new.out)
    (run_is files c.args.profile reading c.args.words.now c.in-Ok.files.script.items c.in-Ok.files.vault.items c.words.inside.script.now c.deref.result.now c.in-Ok.files.parts.items c.deref-2.result.now
    (c.in-Ok.ensures.told files told) c.in-Ok.ensures.parts.named c.deref-2.ensures.value c.deref.ensures.value (ap (λ (x : RunWords). x.script) c.words.view_is)
    ∙ o.2 (λ ms. ran c.args.words.now.sealed ms))
    (c.finish.ensures.did files (ran c.args.words.now.sealed moves set o.0) (g.K.Sink.taken c.args.out.now) (g.K.Sink.taken c.play_script-played.new.out) (c.load_run.ensures.unchanged ∙ told)
    (ran_saved c.args.words.now.sealed moves set o.0 c.play_script-played.result c.play_script-played.new.session (g.K.Sink.taken c.args.out.now) (g.K.Sink.taken c.play_script-played.new.out) c.words.inside.sealed.now
    c.sealed.result.now t (ap (λ (x : RunWords). x.sealed) c.words.view_is) c.sealed.ensures)
    (told_writes (plays set o.0 moves) c.play_script-played.result c.play_script-played.new.session (g.K.Sink.taken c.args.out.now) (g.K.Sink.taken c.play_script-played.new.out) t))

pub returns-clause-read : goal.returns-clause-read
returns-clause-read g c = λ files told done.
    let f = c.in-Ok.ensures.script files told in (
      c.in-Ok-open_run.opened.moves,
      λ text there short utf.
          subst (λ (t : List ℕ). Reads t (Ok c.in-Ok-open_run.opened.moves)) (c.deref.ensures.value ∙ same_script _ c.in-Ok.files.script.items text f.0 there) c.in-Ok-open_run.ensures.read,
    )

pub returns-in-Err-open_run-clause-read : goal.returns-in-Err-open_run-clause-read
returns-in-Err-open_run-clause-read g c = λ files told done. absurd (no_ok (c.settle-in-Err-open_run.ensures.refuses done c.in-Err-open_run.ensures.refuses))
