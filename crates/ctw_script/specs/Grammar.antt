-- What a line of a script stands for. A line is the list of its tokens.
use Rattle.std.specs.Prelude.{◌≡◌, ℕ, ◌<◌, ◌≤◌, ◌^◌, true, false, List, [], ◌∷◌, IsUtf8, codes}
use Rattle.std.specs.List.{AllZip}
use Rattle.ctw_lex.specs.declared.TokenKind.TheVariants.{Atom, Text}
use Rattle.ctw_lex.specs.Lexeme.{Lexeme}
use Rattle.ctw_lex.specs.Grammar.{IsString}
use Rattle.ctw_lex.specs.NumberForms.{IsNumber, IsSignedNumber}
use Rattle.ctw_script.specs.declared.moves.Arg.{Arg}
use Rattle.ctw_script.specs.declared.moves.Arg.TheVariants.{Number, Vault}
use Rattle.ctw_script.specs.declared.moves.Move.{Move}
use Rattle.ctw_script.specs.declared.moves.Move.TheVariants.{Begin, Turn, Leave, Poke, Peek, Seal, Reveal}

-- the atom that is this word
pub record IsWord (word : List ℕ) (t : Lexeme) : Type 0 where
  pub kind : t.kind ≡ Atom
  pub text : t.text ≡ word

-- an atom that spells this number, which is below the limit
pub record IsNumberBelow (limit : ℕ) (t : Lexeme) (n : ℕ) : Type 0 where
  pub kind : t.kind ≡ Atom
  pub spelled : IsNumber t.text n
  pub below : n < limit

-- a string that stands for these bytes
pub record IsBytes (t : Lexeme) (bytes : List ℕ) : Type 0 where
  pub kind : t.kind ≡ Text
  pub spelled : IsString t.text bytes

-- a string whose bytes are UTF-8
pub record IsName (t : Lexeme) (name : List ℕ) : Type 0 where
  pub bytes : IsBytes t name
  pub utf8 : IsUtf8 name

-- `*` (42) or a number from -2^63 to 2^64 - 1, with a sign or without one
pub data IsArgument : List ℕ → Arg → Type 0 where
  vault : IsArgument (42 ∷ []) Vault
  positive : {word : List ℕ} {n : ℕ} → IsSignedNumber word false n → n < 2 ^ 64 → IsArgument word (Number false n)
  negative : {word : List ℕ} {n : ℕ} → IsSignedNumber word true n → n ≤ 2 ^ 63 → IsArgument word (Number true n)

-- an atom that is an argument
pub record IsArgumentToken (t : Lexeme) (arg : Arg) : Type 0 where
  pub kind : t.kind ≡ Atom
  pub spelled : IsArgument t.text arg

-- a place of a memory: `"PART" "MEMORY" AT COUNT`, with at most 1,048,576 bytes
pub data IsPlace : List Lexeme → (part memory : List ℕ) → (at count : ℕ) → Type 0 where
  place : {p m a c : Lexeme} {part memory : List ℕ} {at count : ℕ} →
      IsName p part → IsName m memory → IsNumberBelow (2 ^ 32) a at → IsNumberBelow 0x10_0001 c count →
      IsPlace (p ∷ m ∷ a ∷ c ∷ []) part memory at count

-- the tokens of a line stand for a move
pub data IsMove : List Lexeme → Move → Type 0 where
  begin : {w s p e : Lexeme} {ts : List Lexeme} {slot : ℕ} {part export : List ℕ} {args : List Arg} →
      IsWord (codes "begin") w → IsNumberBelow 64 s slot → IsName p part → IsName e export →
      AllZip IsArgumentToken ts args → IsMove (w ∷ s ∷ p ∷ e ∷ ts) (Begin slot part export args)
  turn : {w s n : Lexeme} {slot steps : ℕ} →
      IsWord (codes "turn") w → IsNumberBelow 64 s slot → IsNumberBelow (2 ^ 32) n steps →
      IsMove (w ∷ s ∷ n ∷ []) (Turn slot steps)
  drop : {w s : Lexeme} {slot : ℕ} →
      IsWord (codes "drop") w → IsNumberBelow 64 s slot → IsMove (w ∷ s ∷ []) (Leave slot)
  poke : {w p m a b : Lexeme} {part memory bytes : List ℕ} {at : ℕ} →
      IsWord (codes "poke") w → IsName p part → IsName m memory → IsNumberBelow (2 ^ 32) a at → IsBytes b bytes →
      IsMove (w ∷ p ∷ m ∷ a ∷ b ∷ []) (Poke part memory at bytes)
  peek : {w : Lexeme} {ts : List Lexeme} {part memory : List ℕ} {at count : ℕ} →
      IsWord (codes "peek") w → IsPlace ts part memory at count → IsMove (w ∷ ts) (Peek part memory at count)
  seal : {w : Lexeme} {ts : List Lexeme} {part memory : List ℕ} {at count : ℕ} →
      IsWord (codes "seal") w → IsPlace ts part memory at count → IsMove (w ∷ ts) (Seal part memory at count)
  reveal : {w : Lexeme} {ts : List Lexeme} {part memory : List ℕ} {at count : ℕ} →
      IsWord (codes "reveal") w → IsPlace ts part memory at count → IsMove (w ∷ ts) (Reveal part memory at count)
