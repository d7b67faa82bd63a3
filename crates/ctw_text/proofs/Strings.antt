-- The bytes of a string.
use Rattle.std.proofs.Common.{◌≡◌, ℕ, Bool, List, Option, Some, None, ap, sym, ◌∙◌}
use Rattle.std.specs.Prelude.{IsSome}
use Rattle.ctw_lex.specs.Strings.{string_value}
use Rattle.ctw_text.specs.Written.{is_text, bytes_of, quoted, IsQuoted}

pub quoted_is : (string bytes : List ℕ) → string_value string ≡ Some bytes → bytes ≡ quoted string
quoted_is string bytes e = sym (ap bytes_of e)

pub is_quoted : (string bytes : List ℕ) (utf8 : Bool) → IsSome (string_value string) → string_value string ≡ Some bytes
    → utf8 ≡ is_text bytes → IsQuoted string utf8
is_quoted string bytes utf8 some e t = record { whole = some; text = t ∙ ap is_text (quoted_is string bytes e) }
