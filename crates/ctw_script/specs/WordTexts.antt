-- The text of a word of a line.
use Rattle.std.specs.Prelude.{ℕ, List, map, decimal}
use Rattle.ctw_script.specs.declared.lines.Word.{Word}
use Rattle.ctw_script.specs.declared.lines.Word.TheVariants.{Plain, Number, Hexadecimal}
use Rattle.ctw_script.specs.Lines.{hex_digits}

abbrev pub word_text : Word → List ℕ
word_text (Plain text) = text.now
word_text (Number n) = decimal n
word_text (Hexadecimal bytes) = hex_digits bytes.now

abbrev pub words_texts : List Word → List (List ℕ)
words_texts words = map word_text words
