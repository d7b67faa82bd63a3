use Rattle.std.proofs.Common.{◌<◌, ◌+◌, length, get_or, arith}
use Rattle.std.proofs.lemmas.Option.{slice_get-get_or}
use Rattle.ctw_session.proofs.Copying.{at_number, outside_past, writing_none, memory_now, memory_there, memories_same, writing_more, writing_all, still_made}
use Rattle.ctw_session.proofs.bytes.write_bytes.Goals as goal

pub bytes-init : goal.bytes-init
bytes-init c = (λ m e. writing_none c.args.store.now.storage c.args.mem m c.args.at c.args.bytes.now e, c.requires.made)

pub store-requires-clause-there : goal.store-requires-clause-there
store-requires-clause-there c =
    let m = at_number c.args.store.now.storage.memories c.args.mem c.requires.there in
    omega (arith, c.requires.there, memories_same _ _ m.0 _ _ _ _ m.1 (c.bytes.invariant.0 m.0 m.1))

pub unreachable-requires : goal.unreachable-requires
unreachable-requires c =
    let m = at_number c.args.store.now.storage.memories c.args.mem c.requires.there in
    let w = c.bytes.invariant.0 m.0 m.1 in
    let now = memory_now c.args.store.now.storage c.args.mem m.0 c.args.at c.args.bytes.now c.bytes.i c.bytes.store.storage m.1 w in
    let past = outside_past c.in-Err-OutOfBounds.field-0 c.bytes.store.storage c.args.mem now (c.args.at + c.bytes.i) 1 (get_or c.args.bytes.now c.bytes.i 0) c.store.new.self.storage c.in-Err-OutOfBounds.field-0-is (c.in-Err-OutOfBounds.ensures.answer (memory_now _ _ m.0 _ _ _ _ m.1 w) (memory_there _ _ m.0 _ _ _ _ m.1 w)) in
    let inside = c.requires.inside m.0 m.1 in
    omega (arith, past, inside, w.size, c.bytes-test.true)

pub bytes-preserved : goal.bytes-preserved
bytes-preserved c = (
  λ m e.
      let w = c.bytes.invariant.0 m e in
      let done = c.in-Ok.ensures.answer (memory_now _ _ m _ _ _ _ e w) (memory_there _ _ m _ _ _ _ e w) in
      let small : get_or c.args.bytes.now c.bytes.i 0 < 256 = omega (arith, c.type_inv.bytes c.bytes.i) in
      writing_more _ _ m _ c.args.bytes.now c.bytes.i c.bytes.store.storage e w (get_or c.args.bytes.now c.bytes.i 0) c.store.new.self.storage (c.requires.inside m e)
      (slice_get-get_or c.args.bytes.now c.bytes.i 0 c.bytes-test.true) small done.1,
  still_made c.bytes.store.made c.store.new.self.made c.args.mem c.args.at (length c.args.bytes.now) c.in-Ok.ensures.kept c.bytes.invariant.1,
)

pub returns : goal.returns
returns c = λ m e. writing_all _ _ m _ _ _ _ e (c.bytes.invariant.0 m e) (omega arith)
