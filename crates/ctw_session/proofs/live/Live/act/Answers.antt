use Rattle.std.proofs.Common.{refl, Ok}
use Rattle.ctw_script.specs.declared.moves.Move.TheVariants.{Begin, Poke, Peek, Seal, Reveal}
use Rattle.ctw_session.proofs.Kept.{same_move, converted, begin_same, turn_same, leave_same, poke_same, peek_same, seal_same, reveal_same}
use Rattle.ctw_session.proofs.live.Live.act.Goals as goal

pub returns-in-Begin-clause-plays : goal.returns-in-Begin-clause-plays
returns-in-Begin-clause-plays c = λ s st.
    let ev = c.args.events.now.items in
    let m = Begin c.get.result c.as_str.result.now c.as_str-in-Begin.result.now c.as_slice.result.now in
    same_move c.args.self.now s m c.args.mv.now _ _ ev ev (begin_same c.args.mv.now _ _ _ _ _ _ _ _ c.in-Begin.is c.get.ensures.value c.as_str.ensures c.as_str-in-Begin.ensures c.as_slice.ensures)
    (converted c.args.self.now s m c.begin.result _ _ ev (λ h. (refl, refl, h)) c.unchanged.ensures (c.begin.ensures.plays s ev st))

pub returns-in-Turn-clause-plays : goal.returns-in-Turn-clause-plays
returns-in-Turn-clause-plays c = λ s st.
    same_move c.args.self.now s _ c.args.mv.now c.turn_slot.result c.turn_slot.new.self c.args.events.now.items c.turn_slot.new.events.items (turn_same c.args.mv.now _ _ _ c.in-Turn.is c.get-in-Turn.ensures.value) (c.turn_slot.ensures.plays s st)

pub returns-in-Leave-clause-plays : goal.returns-in-Leave-clause-plays
returns-in-Leave-clause-plays c = λ s st.
    let ev = c.args.events.now.items in
    same_move c.args.self.now s _ c.args.mv.now (Ok c.leave.result) c.leave.new.self ev ev (leave_same c.args.mv.now _ _ c.in-Leave.is c.get-in-Leave.ensures.value) (c.leave.ensures.plays s ev st)

pub returns-in-Poke-clause-plays : goal.returns-in-Poke-clause-plays
returns-in-Poke-clause-plays c = λ s st.
    let ev = c.args.events.now.items in
    let m = Poke c.as_str-in-Poke.result.now c.as_str-in-Poke-2.result.now c.in-Poke.at c.as_slice-in-Poke.result.now in
    same_move c.args.self.now s m c.args.mv.now _ _ ev ev (poke_same c.args.mv.now _ _ _ _ _ _ _ c.in-Poke.is c.as_str-in-Poke.ensures c.as_str-in-Poke-2.ensures c.as_slice-in-Poke.ensures)
    (converted c.args.self.now s m c.poke.result _ _ ev (λ h. (refl, refl, h)) c.unchanged-in-Poke.ensures (c.poke.ensures.plays s ev st))

pub returns-in-Peek-clause-plays : goal.returns-in-Peek-clause-plays
returns-in-Peek-clause-plays c = λ s st.
    let ev = c.args.events.now.items in
    let m = Peek c.as_str-in-Peek.result.now c.as_str-in-Peek-2.result.now c.in-Peek.at c.in-Peek.count in
    same_move c.args.self.now s m c.args.mv.now _ _ ev ev (peek_same c.args.mv.now _ _ _ _ _ _ c.in-Peek.is c.as_str-in-Peek.ensures c.as_str-in-Peek-2.ensures)
    (converted c.args.self.now s m c.peek.result _ _ ev (λ h. (refl, refl, h)) c.unchanged-in-Peek.ensures (c.peek.ensures.plays s ev st))

pub returns-in-Seal-clause-plays : goal.returns-in-Seal-clause-plays
returns-in-Seal-clause-plays c = λ s st.
    let ev = c.args.events.now.items in
    let m = Seal c.as_str-in-Seal.result.now c.as_str-in-Seal-2.result.now c.in-Seal.at c.in-Seal.count in
    same_move c.args.self.now s m c.args.mv.now _ _ ev ev (seal_same c.args.mv.now _ _ _ _ _ _ c.in-Seal.is c.as_str-in-Seal.ensures c.as_str-in-Seal-2.ensures)
    (converted c.args.self.now s m c.seal.result _ _ ev (λ h. (refl, refl, h)) c.unchanged-in-Seal.ensures (c.seal.ensures.plays s ev st))

pub returns-in-Reveal-clause-plays : goal.returns-in-Reveal-clause-plays
returns-in-Reveal-clause-plays c = λ s st.
    let ev = c.args.events.now.items in
    let m = Reveal c.as_str-in-Reveal.result.now c.as_str-in-Reveal-2.result.now c.in-Reveal.at c.in-Reveal.count in
    same_move c.args.self.now s m c.args.mv.now _ _ ev ev (reveal_same c.args.mv.now _ _ _ _ _ _ c.in-Reveal.is c.as_str-in-Reveal.ensures c.as_str-in-Reveal-2.ensures)
    (converted c.args.self.now s m c.reveal.result _ _ ev (λ h. (refl, refl, h)) c.unchanged-in-Reveal.ensures (c.reveal.ensures.plays s ev st))
