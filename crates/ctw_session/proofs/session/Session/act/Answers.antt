use Rattle.ctw_session.proofs.BesideMoves.{isolated, erased, stands_after, seen_tells}
use Rattle.ctw_session.proofs.session.Session.act.Goals as goal

pub invariant_of-self : goal.invariant_of-self
invariant_of-self c = stands_after c.self.inside.live c.act.new.self c.self.invariant.0 c.args.mv.now c.act.result c.args.events.now.items c.act.new.events.items (c.act.ensures.plays c.self.invariant.0 c.self.invariant.1)

pub returns-clause-stands : goal.returns-clause-stands
returns-clause-stands c = stands_after c.self.inside.live c.act.new.self c.self.invariant.0 c.args.mv.now c.act.result c.args.events.now.items c.act.new.events.items (c.act.ensures.plays c.self.invariant.0 c.self.invariant.1)

pub returns-clause-plays : goal.returns-clause-plays
returns-clause-plays c = seen_tells c.self.inside.live c.args.self.now c.act.new.self c.args.mv.now c.act.result c.args.events.now.items c.act.new.events.items c.self.view_is c.act.ensures.plays

pub returns-clause-isolated : goal.returns-clause-isolated
returns-clause-isolated c = λ s t st a e.
    isolated c.args.self.now c.act.new.self s t c.args.mv.now c.act.result c.args.events.now.items c.act.new.events.items a e
    (seen_tells c.self.inside.live c.args.self.now c.act.new.self c.args.mv.now c.act.result c.args.events.now.items c.act.new.events.items c.self.view_is c.act.ensures.plays s st)

pub returns-clause-erased : goal.returns-clause-erased
returns-clause-erased c = λ s st.
    erased c.args.self.now c.act.new.self s c.args.mv.now c.act.result c.args.events.now.items c.act.new.events.items st
    (seen_tells c.self.inside.live c.args.self.now c.act.new.self c.args.mv.now c.act.result c.args.events.now.items c.act.new.events.items c.self.view_is c.act.ensures.plays s st)
