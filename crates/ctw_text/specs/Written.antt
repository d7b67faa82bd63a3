-- Identifiers and strings as they are written (W3C WebAssembly Core 1.0, sections 6.3.3 and 6.3.5).
use Rattle.std.specs.Prelude.{◌≡◌, ℕ, ◌||◌, nat_lt, Bool, List, [], Option, Some, None, IsSome}
use Rattle.std.specs.Str.{is_utf8}
use Rattle.std.specs.List.{list_all}
use Rattle.ctw_lex.specs.Strings.{string_value}

-- an identifier and the offset at which it stands
pub record Name : Type 0 where
  pub word : List ℕ
  pub place : ℕ

-- ASCII is UTF-8, and that test computes in examples
abbrev pub is_text : List ℕ → Bool
is_text bytes = list_all (λ b. nat_lt b 128) bytes || is_utf8 bytes

abbrev pub bytes_of : Option (List ℕ) → List ℕ
bytes_of (Some bytes) = bytes
bytes_of None = []

-- the bytes that a string with its quotes stands for
abbrev pub quoted : List ℕ → List ℕ
quoted string = bytes_of (string_value string)

pub record IsQuoted (string : List ℕ) (utf8 : Bool) : Type 0 where
  pub whole : IsSome (string_value string)
  pub text : utf8 ≡ is_text (quoted string)
