use Rattle.std.proofs.Common.{◌++◌, ap, ◌∙◌}
use Rattle.ctw_moves.specs.States.{bytes_at}
use Rattle.ctw_link.specs.Sets.{set_of}
use Rattle.ctw_session.proofs.MemoryMoves.{room_there, room_for, room_bytes, peeked, peek_hidden}
use Rattle.ctw_session.proofs.memories.peek.Goals as goal

pub read_bytes-requires-clause-there : goal.read_bytes-requires-clause-there
read_bytes-requires-clause-there c = let m = c.in-Ok.ensures.room in room_there _ _ _ m.0 m.1

pub read_bytes-requires-clause-inside : goal.read_bytes-requires-clause-inside
read_bytes-requires-clause-inside c = let m = c.in-Ok.ensures.room in room_for _ _ _ m.0 m.1

pub read_bytes-requires-clause-bytes : goal.read_bytes-requires-clause-bytes
read_bytes-requires-clause-bytes c = let m = c.in-Ok.ensures.room in room_bytes _ _ _ m.0 m.1

pub returns-in-Secret : goal.returns-in-Secret
returns-in-Secret c = λ s e.
    let m = c.in-Ok.ensures.room in
    peek_hidden (set_of c.args.set.now) s c.args.part.now c.args.memory.now c.args.at c.in-Ok.found c.args.store.now.storage _ m.0 e m.1 c.args.count (c.in-Ok.ensures.places s e) c.in-Secret.is

pub returns-in_ok-read_bytes-in-Public : goal.returns-in_ok-read_bytes-in-Public
returns-in_ok-read_bytes-in-Public c = λ s e.
    let m = c.in-Ok.ensures.room in
    peeked (set_of c.args.set.now) s c.args.part.now c.args.memory.now c.args.at c.in-Ok.found c.args.store.now.storage _ m.0 e m.1 c.args.count (c.in-Ok.ensures.places s e) c.new.result c.in-Public.is
    (c.new.ensures ∙ (c.in_ok-read_bytes-in-Public.ensures m.0 m.1.there ∙ ap (λ l. l ++ bytes_at m.0 c.args.at c.args.count) c.new-bytes.ensures.items))
