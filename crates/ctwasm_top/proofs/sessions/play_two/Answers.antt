use Rattle.std.proofs.Common.{◌∷◌, [], List, subst}
use Rattle.ctw_link.specs.declared.set.Part.{Part}
use Rattle.ctw_link.specs.Sets.{set_of}
use Rattle.ctw_moves.specs.Moves.{play}
use Rattle.ctw_moves.specs.Runs.{plays}
use Rattle.ctwasm_top.specs.Sessions.{Told}
use Rattle.ctwasm_top.proofs.Playing.{both_moves, first_half}
use Rattle.ctwasm_top.proofs.sessions.play_two.Goals as goal

pub returns-in-Ok-clause-told : goal.returns-in-Ok-clause-told
returns-in-Ok-clause-told g c = λ s st.
    let set = set_of c.args.session.now.set in
    let m = c.args.first.now in
    let n = c.args.second.now in
    let h = c.in-Ok.ensures.told s st in
    both_moves set s m n (g.K.Sink.taken c.args.out.now) (g.K.Sink.taken c.play_move.new.out) (g.K.Sink.taken c.play_move-in-Ok.new.out) c.play_move-in-Ok.result c.play_move-in-Ok.new.session h.0
    (subst (λ (parts : List Part). Told (plays (set_of parts) (play set s m).state (n ∷ [])) c.play_move-in-Ok.result c.play_move-in-Ok.new.session (g.K.Sink.taken c.play_move.new.out) (g.K.Sink.taken c.play_move-in-Ok.new.out)) c.in-Ok.ensures.set
    (c.play_move-in-Ok.ensures.told (play set s m).state h.1))

pub returns-in-Err-clause-told : goal.returns-in-Err-clause-told
returns-in-Err-clause-told g c = λ s st.
    first_half (set_of c.args.session.now.set) s c.args.first.now c.args.second.now (g.K.Sink.taken c.args.out.now) (g.K.Sink.taken c.args.out.now) (g.K.Sink.taken c.play_move.new.out) (c.in-Err.ensures.told s st)
