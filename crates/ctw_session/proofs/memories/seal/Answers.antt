use Rattle.std.proofs.Common.{ℕ, List, ap₂, ap, ◌∙◌, length, arith}
use Rattle.ctw_script.specs.declared.reply.Refusal.TheVariants.{WrongLabel, VaultShort}
use Rattle.ctw_semantics.specs.Stores.{Storage}
use Rattle.ctw_moves.specs.States.{refused}
use Rattle.ctw_semantics.specs.Sound.{shape_of}
use Rattle.ctw_link.specs.Sets.{set_of}
use Rattle.ctw_session.proofs.MemoryMoves.{room_there, room_for, same_room, seal_public, seal_short, shape_written}
use Rattle.ctw_session.proofs.memories.seal.Goals as goal

pub returns-in-Public-clause-plays : goal.returns-in-Public-clause-plays
returns-in-Public-clause-plays c = λ s e v.
    let m = c.in-Ok.ensures.room in
    seal_public (set_of c.args.set.now) s c.args.part.now c.args.memory.now c.args.at c.in-Ok.found c.args.store.now.storage _ m.0 e m.1 c.args.count (c.in-Ok.ensures.places s e) c.in-Public.is
    ∙ ap₂ (λ (x : Storage) (y : List ℕ). refused WrongLabel (record s { storage = x; vault = y })) e v

pub returns-then-rest-count-clause-plays : goal.returns-then-rest-count-clause-plays
returns-then-rest-count-clause-plays c = λ s e v.
    let m = c.in-Ok.ensures.room in
    seal_short (set_of c.args.set.now) s c.args.part.now c.args.memory.now c.args.at c.in-Ok.found c.args.store.now.storage _ m.0 e m.1 c.args.count (c.in-Ok.ensures.places s e) c.in-Secret.is
    (omega (arith, ap length v, ap length c.rest.ensures, c.if-rest-count.true))
    ∙ ap₂ (λ (x : Storage) (y : List ℕ). refused VaultShort (record s { storage = x; vault = y })) e v

pub make_ready-requires-clause-there : goal.make_ready-requires-clause-there
make_ready-requires-clause-there c = let m = c.in-Ok.ensures.room in room_there _ _ _ m.0 m.1

pub make_ready-requires-clause-inside : goal.make_ready-requires-clause-inside
make_ready-requires-clause-inside c = let m = c.in-Ok.ensures.room in room_for _ _ _ m.0 m.1

pub write_bytes-requires-clause-there : goal.write_bytes-requires-clause-there
write_bytes-requires-clause-there c = let m = c.in-Ok.ensures.room in room_there _ _ _ m.0 (same_room _ _ _ _ m.0 c.in_ok-make_ready-in-Secret.ensures.same m.1)

pub returns-in_ok-make_ready-in-Secret-clause-shape : goal.returns-in_ok-make_ready-in-Secret-clause-shape
returns-in_ok-make_ready-in-Secret-clause-shape c =
    let m = c.in-Ok.ensures.room in
    let ready = same_room _ _ _ _ m.0 c.in_ok-make_ready-in-Secret.ensures.same m.1 in
    shape_written c.make_ready.new.self.storage c.write_bytes.new.store.storage c.in-Ok.found.number m.0 _ ready.there (c.write_bytes.ensures m.0 ready.there) ∙ ap shape_of c.in_ok-make_ready-in-Secret.ensures.same
