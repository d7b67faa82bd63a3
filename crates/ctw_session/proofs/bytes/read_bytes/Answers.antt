use Rattle.std.proofs.Common.{◌+◌, arith}
use Rattle.ctw_session.proofs.Copying.{at_number, read_small, reading_more}
use Rattle.ctw_session.proofs.bytes.read_bytes.Goals as goal

pub overflow_cast-byte : goal.overflow_cast-byte
overflow_cast-byte c =
    let m = at_number c.args.store.now.storage.memories c.args.mem c.requires.there in
    let l = c.in-Ok.ensures m.0 m.1 in
    let small = read_small m.0.bytes (c.args.at + c.bytes.i) c.in-Ok.byte (c.requires.bytes m.0 m.1) l.0 l.1 in
    omega (arith, small)

pub unreachable-requires : goal.unreachable-requires
unreachable-requires c =
    let m = at_number c.args.store.now.storage.memories c.args.mem c.requires.there in
    let past = c.in-Err.ensures m.0 m.1 in
    let inside = c.requires.inside m.0 m.1 in
    omega (arith, past, inside, c.bytes-test.true)

pub bytes-preserved : goal.bytes-preserved
bytes-preserved c = (
  reading_more c.args.store.now.storage c.args.mem c.args.at c.bytes.i c.in-Ok.byte c.args.out.now.items c.bytes.out.items c.push_reserved.new.self.items
      c.in-Ok.ensures c.push_reserved.ensures.items c.bytes.invariant.0,
  omega (arith, c.bytes.invariant.1, c.push_reserved.ensures.len, c.push_reserved.ensures.capacity, c.bytes-test.true),
)
