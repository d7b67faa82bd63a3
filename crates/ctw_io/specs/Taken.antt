-- What a sink tells that it has taken.
use Rattle.std.specs.Prelude.{◌≡◌, ◌≤◌, ℕ, List, ◌++◌, length, take, Option, Some, None}

-- what is taken after these bytes more, where it is told
abbrev pub grown : Option (List ℕ) → List ℕ → Option (List ℕ)
grown None bytes = None
grown (Some taken) bytes = Some (taken ++ bytes)

-- a prefix of the bytes was taken
pub record TookPrefix (before after : Option (List ℕ)) (bytes : List ℕ) : Type 0 where
  pub count : ℕ
  pub within : count ≤ length bytes
  pub taken : after ≡ grown before (take count bytes)
