use Rattle.std.proofs.Common.{refl, sym}
use Rattle.ctw_session.proofs.Kept.{store_of, seal_acts}
use Rattle.ctw_session.proofs.live.Live.seal.Goals as goal

pub seal-requires : goal.seal-requires
seal-requires c = store_of c.args.self.now c.requires.0 c.requires.1

pub returns-clause-plays : goal.returns-clause-plays
returns-clause-plays c = λ s ev st.
    seal_acts c.args.self.now s st _ ev c.args.part.now c.args.memory.now c.args.at refl refl c.args.count refl c.seal.ensures.shape c.seal.result (c.seal.ensures.plays s (sym st.storage) (sym st.vault))
