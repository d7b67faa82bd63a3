use Rattle.std.proofs.Common.{◌≡◌, ◌∷◌, take}
use Rattle.ctw_ops.specs.Types.{byte_types}
use Rattle.ctw_links.specs.Firsts.{params_bytes}
use Rattle.ctw_links.proofs.key.erased.Given as goal

abbrev pub invariant-params : goal.invariant-params
invariant-params l = l.bytes.items ≡ l.first ∷ params_bytes (take l.byte-index (byte_types l.params))
