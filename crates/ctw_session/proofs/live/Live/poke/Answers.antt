use Rattle.std.proofs.Common.{◌<◌, refl, sym, arith}
use Rattle.std.proofs.lemmas.List.Elements.{All-from_get_or}
use Rattle.ctw_session.proofs.Kept.{store_of, poke_acts}
use Rattle.ctw_session.proofs.live.Live.poke.Goals as goal

pub poke-requires : goal.poke-requires
poke-requires c = store_of c.args.self.now c.requires.0 c.requires.1

pub returns-clause-plays : goal.returns-clause-plays
returns-clause-plays c = λ s ev st.
    poke_acts c.args.self.now s st _ ev c.args.part.now c.args.memory.now c.args.at refl refl c.args.bytes.now (All-from_get_or (λ byte. byte < 256) c.args.bytes.now 0 (λ i lt. omega (arith, c.type_inv.bytes i))) refl refl c.poke.ensures.shape c.poke.result
    (c.poke.ensures.plays s (sym st.storage))
