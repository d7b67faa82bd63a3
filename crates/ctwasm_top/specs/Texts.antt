-- The command `assemble`: what is said of a text.
use Rattle.std.specs.Prelude.{◌≡◌, ℕ, List, [], ◌∷◌, Result, Ok, Err, decimal, codes}
use Rattle.ctw_io.specs.Files.{Files}
use Rattle.ctw_ops.specs.declared.types.Label.{Label}
use Rattle.ctw_ops.specs.Tree.{Module}
use Rattle.ctw_lex.specs.declared.LexKind.{LexKind}
use Rattle.ctw_lex.specs.declared.LexKind.TheVariants.{BadChar, OpenString, OpenComment, BadEscape}
use Rattle.ctw_script.specs.Lines.{spaced}
use Rattle.ctw_text.specs.Denotes.{Fault, InLex, AtUnexpected, AtUnknownName, AtDoubleName, AtNumberRange, AtFloats, InExcess}
use Rattle.ctw_form.specs.Spelled.{Spells}
use Rattle.ctw_parse.specs.Assembled.{assembled}
use Rattle.ctw_write.specs.Canon.{canon}
use Rattle.ctw_lines.specs.Lines.{what_word}
use Rattle.ctw_inputs.specs.declared.said.Status.TheVariants.{Done, Refused}
use Rattle.ctw_inputs.specs.Outcome.{Outcome, ends}
use Rattle.ctw_inputs.specs.Inputs.{load, on_text}

-- the limit on the file of a text, in bytes
unfoldable pub text_limit : ℕ
text_limit = 8388608

abbrev pub lex_word : LexKind → List ℕ
lex_word BadChar = codes "BadChar"
lex_word OpenString = codes "OpenString"
lex_word OpenComment = codes "OpenComment"
lex_word BadEscape = codes "BadEscape"

-- where a token begins, and where it ends
abbrev pub between : List ℕ → ℕ → ℕ → List (List ℕ)
between kind start end = kind ∷ decimal start ∷ decimal end ∷ []

abbrev pub text_words : Fault → List (List ℕ)
text_words (InLex place) = codes "Lex" ∷ lex_word place.kind ∷ decimal place.start ∷ []
text_words (AtUnexpected start end) = between (codes "Unexpected") start end
text_words (AtUnknownName start end) = between (codes "UnknownName") start end
text_words (AtDoubleName start end) = between (codes "DoubleName") start end
text_words (AtNumberRange start end) = between (codes "NumberRange") start end
text_words (AtFloats start end) = between (codes "Floats") start end
text_words (InExcess e) = codes "TooMany" ∷ what_word e.what ∷ decimal e.limit ∷ []

-- a text that denotes no module, or too large a one
abbrev pub text_line : Fault → List ℕ
text_line fault = spaced (codes "refused" ∷ codes "text" ∷ text_words fault)

-- the canonical bytes of the module that a text denotes, or its first fault
abbrev pub on_assembled : Result (Module Label) Fault → Outcome
on_assembled (Ok m) = ends Done (canon m)
on_assembled (Err fault) = ends Refused (text_line fault)

-- a text denotes a module, and a reader takes the bytes that it is assembled to, for that module
pub record IsReadBack (text : List ℕ) : Type 0 where
  pub m : Module Label
  pub denotes : assembled text ≡ Ok m
  pub read : Spells (canon m) m

abbrev pub text_answer : List ℕ → List ℕ → Outcome
text_answer file bytes = on_text file bytes (λ text. on_assembled (assembled text))

abbrev pub assemble_answer : Files → List ℕ → Outcome
assemble_answer files file = load files file text_limit (text_answer file)
