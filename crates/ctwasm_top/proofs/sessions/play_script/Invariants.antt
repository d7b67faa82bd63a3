use Rattle.std.proofs.Common.{◌≡◌, ◌≤◌, drop}
use Rattle.ctw_link.specs.Sets.{set_of}
use Rattle.ctw_moves.specs.States.{State}
use Rattle.ctw_session.specs.LiveStates.{StandsFor}
use Rattle.ctwasm_top.proofs.Playing.{Reached}
use Rattle.ctwasm_top.proofs.sessions.play_script.Given as goal

abbrev pub invariant-moves : goal.invariant-moves
invariant-moves g l = record {
  reached : (s : State) → StandsFor l.fn.session s → Reached (set_of l.fn.session.set) s l.moves (drop l.i l.moves) l.session (g.K.Sink.taken l.fn.out) (g.K.Sink.taken l.out);
  same : l.session.set ≡ l.fn.session.set;
  kept : g.K.Sink.faults l.fn.out ≤ g.K.Sink.faults l.out;
}
