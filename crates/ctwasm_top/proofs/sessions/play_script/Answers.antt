use Rattle.std.proofs.Common.{◌≡◌, ◌<◌, ◌+◌, ◌∷◌, List, [], length, drop, ◌∙◌, subst, arith}
use Rattle.std.proofs.lemmas.List.{drop_all}
use Rattle.ctw_io.specs.Taken.{grown, TookPrefix}
use Rattle.ctw_script.specs.declared.moves.Move.{Move}
use Rattle.ctw_link.specs.declared.set.Part.{Part}
use Rattle.ctw_link.specs.Sets.{set_of}
use Rattle.ctw_moves.specs.Runs.{plays}
use Rattle.ctw_session.specs.LiveStates.{StandsFor}
use Rattle.ctwasm_top.specs.Lines.{told_lines}
use Rattle.ctwasm_top.proofs.Playing.{Reached, one_more, stopped, all_made, rest_is}
use Rattle.ctwasm_top.proofs.sessions.play_script.Goals as goal

pub returns-in-Err-clause-told : goal.returns-in-Err-clause-told
returns-in-Err-clause-told g c = λ s st.
    let set = set_of c.args.session.now.set in
    let moves = c.args.moves.now in
    let m = c.at.result.now in
    let lt : c.moves.i < length moves = omega (arith, c.moves-test.true, c.count-i-end.ensures) in
    let r = subst (λ (rest : List Move). Reached set s moves rest c.moves.session (g.K.Sink.taken c.args.out.now) (g.K.Sink.taken c.moves.out)) (rest_is moves c.moves.i m lt c.at.ensures) (c.moves.invariant.reached s st) in
    stopped set s moves (drop (c.moves.i + 1) moves) m c.moves.session c.play_move.new.session _ _ r _
    (subst (λ (parts : List Part). TookPrefix (g.K.Sink.taken c.moves.out) (g.K.Sink.taken c.play_move.new.out) (told_lines (plays (set_of parts) r.state (m ∷ [])).told)) c.moves.invariant.same (c.in-Err.ensures.told r.state r.stands))

pub moves-preserved : goal.moves-preserved
moves-preserved g c = record {
  reached = λ s st.
      let set = set_of c.args.session.now.set in
      let moves = c.args.moves.now in
      let m = c.at.result.now in
      let lt : c.moves.i < length moves = omega (arith, c.moves-test.true, c.count-i-end.ensures) in
      let r = subst (λ (rest : List Move). Reached set s moves rest c.moves.session (g.K.Sink.taken c.args.out.now) (g.K.Sink.taken c.moves.out)) (rest_is moves c.moves.i m lt c.at.ensures) (c.moves.invariant.reached s st) in
      one_more set s moves (drop (c.moves.i + 1) moves) m c.moves.session c.play_move.new.session _ _ r _
      (subst (λ (parts : List Part). (g.K.Sink.taken c.play_move.new.out ≡ grown (g.K.Sink.taken c.moves.out) (told_lines (plays (set_of parts) r.state (m ∷ [])).told)) × StandsFor c.play_move.new.session (plays (set_of parts) r.state (m ∷ [])).state) c.moves.invariant.same (c.in-Ok.ensures.told r.state r.stands));
  same = c.in-Ok.ensures.set ∙ c.moves.invariant.same;
  kept = omega (arith, c.moves.invariant.kept, c.in-Ok.ensures.kept);
}

pub returns-clause-told : goal.returns-clause-told
returns-clause-told g c = λ s st.
    all_made (set_of c.args.session.now.set) s c.args.moves.now (drop c.moves.i c.args.moves.now) c.moves.session _ _ (drop_all c.moves.i c.args.moves.now (omega (arith, c.moves-test.false, c.count-i-end.ensures)))
    (c.moves.invariant.reached s st)
