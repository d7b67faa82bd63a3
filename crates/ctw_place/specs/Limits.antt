-- How long a CT module's file may be.
use Rattle.std.specs.Prelude.{ℕ}

unfoldable pub most_ct_bytes : ℕ
most_ct_bytes = 67108864
