use Rattle.std.proofs.Common.{◌≡◌, length}
use Rattle.store_speed.proofs.store_all.Given as goal

abbrev pub invariant-numbers : goal.invariant-numbers
invariant-numbers l = length l.store.storage.memories ≡ length l.fn.store.storage.memories
