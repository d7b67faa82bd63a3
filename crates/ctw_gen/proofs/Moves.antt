-- The script of a workload is read as its moves.
use Rattle.std.proofs.Common.{ℕ, ◌+◌, ◌*◌, ◌<◌, ◌^◌, List, [], ◌∷◌, ◌++◌, length, refl, codes, arith}
use Rattle.std.specs.Prelude.{IsUtf8}
use Rattle.std.specs.List.{AllZip}
use Rattle.std.proofs.lemmas.List.Elements.{All-from_recursion}
use Rattle.std.proofs.lemmas.Str.{IsUtf8-from_ascii}
use Rattle.std.proofs.lemmas.Str.Ascii.{IsAscii-from_all}
use Rattle.ctw_lex.specs.declared.TokenKind.{TokenKind}
use Rattle.ctw_lex.specs.declared.TokenKind.TheVariants.{Atom, Text}
use Rattle.ctw_lex.specs.Lexeme.{Lexeme}
use Rattle.ctw_lex.specs.Grammar.{IsTokens, done, gap, token, blank, atom, string, IsString, quoted, nothing, itself}
use Rattle.ctw_lex.specs.NumberForms.{IsDigits, one, more, IsNumber, decimal, is_decimal}
use Rattle.ctw_lex.proofs.Told.{has_tokens}
use Rattle.ctw_lex.proofs.Reading.{listed_read}
use Rattle.ctw_script.specs.Grammar as grammar
use Rattle.ctw_script.specs.Grammar.{IsWord, IsNumberBelow, IsName, IsArgumentToken, IsMove}
use Rattle.ctw_script.specs.Scripts.{IsReading, HasReading, lines_of}
use Rattle.ctw_script.proofs.ScriptLaws.{readings_are_one}
use Rattle.ctw_gen.specs.Workload.{script, moves}

-- ---- tokens

abbrev lexeme : TokenKind → List ℕ → ℕ → ℕ → Lexeme
lexeme kind text start line = record { kind = kind; text = text; start = start; end = start + length text; line = line }

abbrev tokens : List Lexeme
tokens =
    lexeme Atom (codes "begin") 0 1 ∷ lexeme Atom (codes "0") 6 1 ∷ lexeme Text (codes "\"m\"") 8 1 ∷ lexeme Text (codes "\"main\"") 12 1 ∷ lexeme Atom (codes "*") 19 1 ∷ lexeme Atom (codes "turn") 21 2 ∷ lexeme Atom (codes "0") 26 2
    ∷ lexeme Atom (codes "1000000") 28 2 ∷ []

m_string : IsString (codes "\"m\"") (codes "m")
m_string = quoted (itself refl nothing)

main_string : IsString (codes "\"main\"") (codes "main")
main_string = quoted (itself refl (itself refl (itself refl (itself refl nothing))))

behind_turn : IsTokens 20 1 (codes "\nturn 0 1000000\n") (lexeme Atom (codes "turn") 21 2 ∷ lexeme Atom (codes "0") 26 2 ∷ lexeme Atom (codes "1000000") 28 2 ∷ [])
behind_turn =
    gap (10 ∷ []) (codes "turn 0 1000000\n") (blank refl)
    (token Atom (codes "turn") (codes " 0 1000000\n") (atom (record { passes = refl; ends = refl }))
    (gap (32 ∷ []) (codes "0 1000000\n") (blank refl)
    (token Atom (codes "0") (codes " 1000000\n") (atom (record { passes = refl; ends = refl }))
    (gap (32 ∷ []) (codes "1000000\n") (blank refl)
    (token Atom (codes "1000000") (codes "\n") (atom (record { passes = refl; ends = refl })) (gap (10 ∷ []) [] (blank refl) done))))))

lexed : IsTokens 0 1 script tokens
lexed =
    token Atom (codes "begin") (codes " 0 \"m\" \"main\" *\nturn 0 1000000\n") (atom (record { passes = refl; ends = refl }))
    (gap (32 ∷ []) (codes "0 \"m\" \"main\" *\nturn 0 1000000\n") (blank refl)
    (token Atom (codes "0") (codes " \"m\" \"main\" *\nturn 0 1000000\n") (atom (record { passes = refl; ends = refl }))
    (gap (32 ∷ []) (codes "\"m\" \"main\" *\nturn 0 1000000\n") (blank refl)
    (token Text (codes "\"m\"") (codes " \"main\" *\nturn 0 1000000\n") (string m_string)
    (gap (32 ∷ []) (codes "\"main\" *\nturn 0 1000000\n") (blank refl)
    (token Text (codes "\"main\"") (codes " *\nturn 0 1000000\n") (string main_string)
    (gap (32 ∷ []) (codes "*\nturn 0 1000000\n") (blank refl)
    (token Atom (codes "*") (codes "\nturn 0 1000000\n") (atom (record { passes = refl; ends = refl })) behind_turn))))))))

-- ---- moves

zero_number : IsNumber (codes "0") 0
zero_number = decimal (one refl)

digits_more : (text : List ℕ) (n : ℕ) → IsDigits 10 is_decimal text n → IsDigits 10 is_decimal (text ++ 48 ∷ []) (10 * n + 0)
digits_more text n h = more h refl

turn_number : IsNumber (codes "1000000") 1000000
turn_number =
    decimal
    (digits_more (codes "100000") 100000
    (digits_more (codes "10000") 10000 (digits_more (codes "1000") 1000 (digits_more (codes "100") 100 (digits_more (codes "10") 10 (digits_more (codes "1") 1 (one refl)))))))

m_utf8 : IsUtf8 (codes "m")
m_utf8 = IsUtf8-from_ascii (codes "m") (IsAscii-from_all (codes "m") (All-from_recursion (λ b. b < 128) (codes "m") (omega arith, tt)))

main_utf8 : IsUtf8 (codes "main")
main_utf8 = IsUtf8-from_ascii (codes "main") (IsAscii-from_all (codes "main") (All-from_recursion (λ b. b < 128) (codes "main") (omega arith, (omega arith, (omega arith, (omega arith, tt))))))

begin_slot : IsNumberBelow 64 (lexeme Atom (codes "0") 6 1) 0
begin_slot = record { kind = refl; spelled = zero_number; below = omega arith }

turn_slot : IsNumberBelow 64 (lexeme Atom (codes "0") 26 2) 0
turn_slot = record { kind = refl; spelled = zero_number; below = omega arith }

steps : IsNumberBelow (2 ^ 32) (lexeme Atom (codes "1000000") 28 2) 1000000
steps = record { kind = refl; spelled = turn_number; below = omega arith }

part : IsName (lexeme Text (codes "\"m\"") 8 1) (codes "m")
part = record { bytes = record { kind = refl; spelled = m_string }; utf8 = m_utf8 }

export : IsName (lexeme Text (codes "\"main\"") 12 1) (codes "main")
export = record { bytes = record { kind = refl; spelled = main_string }; utf8 = main_utf8 }

read : AllZip IsMove (lines_of tokens) moves
read = (
  grammar.begin (record { kind = refl; text = refl }) begin_slot part export (record { kind = refl; spelled = grammar.vault }, tt),
  (grammar.turn (record { kind = refl; text = refl }) turn_slot steps, tt),
)

pub script_read : HasReading script moves
script_read =
    let reading : IsReading script moves = record { tokens = tokens; lexed = lexed; read = read } in
    record { reading = reading; only = λ other h. readings_are_one script tokens other moves (has_tokens script tokens (listed_read lexed)) h reading }
