use Rattle.std.proofs.Common.{refl, sym}
use Rattle.ctw_session.proofs.Kept.{store_of, peek_acts}
use Rattle.ctw_session.proofs.live.Live.peek.Goals as goal

pub peek-requires : goal.peek-requires
peek-requires c = store_of c.args.self.now c.requires.0 c.requires.1

pub returns-clause-plays : goal.returns-clause-plays
returns-clause-plays c = λ s ev st.
    peek_acts c.args.self.now s st _ ev c.args.part.now c.args.memory.now c.args.at refl refl c.args.count refl refl refl c.peek.result (c.peek.ensures s (sym st.storage))
