use Rattle.std.proofs.Common.{refl, sym}
use Rattle.ctw_session.proofs.Kept.{store_of, reveal_acts}
use Rattle.ctw_session.proofs.live.Live.reveal.Goals as goal

pub reveal-requires : goal.reveal-requires
reveal-requires c = store_of c.args.self.now c.requires.0 c.requires.1

pub returns-clause-plays : goal.returns-clause-plays
returns-clause-plays c = λ s ev st.
    reveal_acts c.args.self.now s st _ ev c.args.part.now c.args.memory.now c.args.at refl refl c.args.count refl refl c.reveal.result (c.reveal.ensures s (sym st.storage) (sym st.sealed))
