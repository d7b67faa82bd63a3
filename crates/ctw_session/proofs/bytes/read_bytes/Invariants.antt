use Rattle.ctw_session.proofs.Copying.{Reading}
use Rattle.std.proofs.Common.{◌≤◌, ◌+◌, ◌-◌}
use Rattle.std.specs.Prelude.{vec_len, vec_capacity}
use Rattle.ctw_session.proofs.bytes.read_bytes.Given as goal

abbrev pub invariant-bytes : goal.invariant-bytes
invariant-bytes l = Reading l.store.storage l.mem l.at l.i l.fn.out.items l.out.items × (vec_len l.out + (l.count - l.i) ≤ vec_capacity l.out)
