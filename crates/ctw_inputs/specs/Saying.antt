-- All that a command says.
use Rattle.std.specs.Prelude.{ℕ, List}
use Rattle.ctw_inputs.specs.declared.said.Status.{Status}
use Rattle.ctw_inputs.specs.declared.said.Status.TheVariants.{Done, Refused, NoLabelling}

pub record Saying : Type 0 where
  pub status : Status
  pub text : List ℕ

-- a status that the text of a command goes with
abbrev pub IsCommandStatus : Status → Type 0
IsCommandStatus Done = Unit {0}
IsCommandStatus Refused = Unit {0}
IsCommandStatus NoLabelling = Unit {0}
IsCommandStatus _ = ⊥
