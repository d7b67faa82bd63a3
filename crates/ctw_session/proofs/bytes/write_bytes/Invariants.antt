use Rattle.std.proofs.Common.{◌≡◌, length, slice_get, Some}
use Rattle.ctw_semantics.specs.Stores.{Memory}
use Rattle.ctw_store.specs.Made.{AreMade}
use Rattle.ctw_session.proofs.Copying.{Writing}
use Rattle.ctw_session.proofs.bytes.write_bytes.Given as goal

abbrev pub invariant-bytes : goal.invariant-bytes
invariant-bytes l =
    ((m : Memory) → slice_get l.fn.store.storage.memories l.mem ≡ Some m → Writing l.fn.store.storage l.mem m l.at l.bytes l.i l.store.storage)
    × AreMade l.store.made l.mem l.at (length l.bytes)
