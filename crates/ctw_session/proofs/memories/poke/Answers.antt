use Rattle.std.proofs.Common.{ap, sym, ◌∙◌, arith}
use Rattle.ctw_semantics.specs.Sound.{shape_of}
use Rattle.ctw_link.specs.Sets.{set_of}
use Rattle.ctw_session.proofs.MemoryMoves.{room_there, room_for, same_room, poked, shape_written}
use Rattle.ctw_session.proofs.memories.poke.Goals as goal

pub overflow_cast-count : goal.overflow_cast-count
overflow_cast-count c = let m = c.in-Ok.ensures.room in omega (arith, m.1.room, m.1.small)

pub make_ready-requires-clause-there : goal.make_ready-requires-clause-there
make_ready-requires-clause-there c = let m = c.in-Ok.ensures.room in room_there _ _ _ m.0 m.1

pub make_ready-requires-clause-inside : goal.make_ready-requires-clause-inside
make_ready-requires-clause-inside c = let m = c.in-Ok.ensures.room in room_for _ _ _ m.0 m.1

pub write_bytes-requires-clause-there : goal.write_bytes-requires-clause-there
write_bytes-requires-clause-there c = let m = c.in-Ok.ensures.room in room_there _ _ _ m.0 (same_room _ _ _ _ m.0 c.in_ok-make_ready.ensures.same m.1)

pub write_bytes-requires-clause-inside : goal.write_bytes-requires-clause-inside
write_bytes-requires-clause-inside c = let m = c.in-Ok.ensures.room in room_for _ _ _ m.0 (same_room _ _ _ _ m.0 c.in_ok-make_ready.ensures.same m.1)

pub returns-clause-plays : goal.returns-clause-plays
returns-clause-plays c = λ s e.
    let m = c.in-Ok.ensures.room in
    let ready = same_room _ _ _ _ m.0 c.in_ok-make_ready.ensures.same m.1 in
    poked (set_of c.args.set.now) s c.args.part.now c.args.memory.now c.args.at c.in-Ok.found c.make_ready.new.self.storage _ m.0 (e ∙ sym c.in_ok-make_ready.ensures.same) ready
    c.args.bytes.now c.write_bytes.new.store.storage (c.in-Ok.ensures.places s e) (c.write_bytes.ensures m.0 ready.there)

pub returns-clause-shape : goal.returns-clause-shape
returns-clause-shape c =
    let m = c.in-Ok.ensures.room in
    let ready = same_room _ _ _ _ m.0 c.in_ok-make_ready.ensures.same m.1 in
    shape_written c.make_ready.new.self.storage c.write_bytes.new.store.storage c.in-Ok.found.number m.0 _ ready.there (c.write_bytes.ensures m.0 ready.there) ∙ ap shape_of c.in_ok-make_ready.ensures.same
