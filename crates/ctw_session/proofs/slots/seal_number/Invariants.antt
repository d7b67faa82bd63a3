use Rattle.std.proofs.Common.{◌≡◌, ◌≤◌, ◌+◌, ◌-◌, ◌++◌}
use Rattle.std.specs.Prelude.{vec_len, vec_capacity}
use Rattle.ctw_semantics.specs.Stores.{bytes_of_number}
use Rattle.ctw_moves.specs.Arguments.{byte_width}
use Rattle.ctw_session.proofs.slots.seal_number.Given as goal

abbrev pub invariant-bytes : goal.invariant-bytes
invariant-bytes l =
    (l.sealed.items ++ bytes_of_number (byte_width l.fn.width - l.counter) l.rest ≡ l.fn.sealed.items ++ bytes_of_number (byte_width l.fn.width) l.number)
    × (vec_len l.sealed + (byte_width l.fn.width - l.counter) ≤ vec_capacity l.sealed)
