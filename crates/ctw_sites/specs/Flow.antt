-- A way through sites, as a witness holds it.
use Rattle.std.specs.Prelude.{ℕ, List}

-- sites, the rule of the link to each but the first, and why the last one is public
pub record Flow : Type 0 where
  pub sites : List ℕ
  pub rules : List ℕ
  pub last : ℕ
