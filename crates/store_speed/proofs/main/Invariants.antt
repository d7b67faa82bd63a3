use Rattle.std.proofs.Common.{◌<◌, length}
use Rattle.store_speed.proofs.main.Given as goal

abbrev pub invariant-stores : goal.invariant-stores
invariant-stores l = 0 < length l.store.storage.memories
