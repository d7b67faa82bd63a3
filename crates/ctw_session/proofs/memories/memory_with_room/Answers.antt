use Rattle.std.proofs.Common.{◌+◌, ap, sym, ◌∙◌, slice_get, arith}
use Rattle.ctw_semantics.specs.Stores.{Storage}
use Rattle.ctw_link.specs.Sets.{set_of}
use Rattle.ctw_session.proofs.MemoryMoves.{exported_there, more_room, out_of_bounds, in_bounds, room_for}
use Rattle.ctw_session.proofs.memories.memory_with_room.Goals as goal

pub returns-then-at-count-clause-places : goal.returns-then-at-count-clause-places
returns-then-at-count-clause-places c =
    let m = exported_there c.args.set.now c.args.store.now.storage c.requires.store c.in-Some.found c.in-Some.ensures.label in
    let size = c.size.ensures.whole m.0 m.1.there in
    λ s e go. out_of_bounds (set_of c.args.set.now) s c.args.part.now c.args.memory.now c.args.at c.args.count go c.in-Some.found.number m.0 c.in-Some.ensures.number
    (ap (λ (x : Storage). slice_get x.memories c.in-Some.found.number) e ∙ m.1.there) (omega (arith, size, c.if-at-count.true))

pub returns : goal.returns
returns c =
    let m = exported_there c.args.set.now c.args.store.now.storage c.requires.store c.in-Some.found c.in-Some.ensures.label in
    let size = c.size.ensures.whole m.0 m.1.there in
    let room = more_room c.args.store.now.storage c.in-Some.found (c.args.at + c.args.count) m.0 (omega (arith, size, c.if-at-count.false)) m.1 in
    record {
      room = (m.0, room);
      places = λ s e n there go. in_bounds (set_of c.args.set.now) s c.args.part.now c.args.memory.now c.args.at c.args.count go c.in-Some.found.number n c.in-Some.ensures.number there
          (room_for _ _ _ m.0 room n (ap (λ (x : Storage). slice_get x.memories c.in-Some.found.number) (sym e) ∙ there));
    }
