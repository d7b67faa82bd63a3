-- The grammar of marks. A line is the list of its tokens, which are those of the text format (W3C WebAssembly Core 1.0,
-- section 6.2); its words, names and numbers are those of scripts.
use Rattle.std.specs.Prelude.{◌≡◌, ℕ, ◌^◌, List, [], ◌∷◌, Option, Some, None, nat_lt, codes, if◌then◌else◌}
use Rattle.ctw_ops.specs.declared.types.Label.{Label}
use Rattle.ctw_ops.specs.declared.types.Label.TheVariants.{Public, Secret}
use Rattle.ctw_lex.specs.declared.TokenKind.TheVariants.{Atom}
use Rattle.ctw_lex.specs.Lexeme.{Lexeme}
use Rattle.ctw_lex.specs.NumberForms.{IsNumber}
use Rattle.ctw_script.specs.Grammar.{IsWord, IsName}
use Rattle.ctw_marks.specs.declared.order.Subject.{Subject}
use Rattle.ctw_marks.specs.declared.order.Subject.TheVariants.{Number, Export}
use Rattle.ctw_marks.specs.declared.order.Spot.{Spot}
use Rattle.ctw_marks.specs.declared.order.Spot.TheVariants.{Param, Result, Local, Global, Memory}
use Rattle.ctw_marks.specs.declared.order.Order.{Order}
use Rattle.ctw_marks.specs.declared.order.Order.TheVariants as order

-- a number is an index where it is below 2^32; a greater one is the index of nothing
abbrev pub index_of : ℕ → Option ℕ
index_of n = if nat_lt n (2 ^ 32) then Some n else None

-- an atom that spells a number
pub record IsIndex (t : Lexeme) (i : Option ℕ) : Type 0 where
  pub kind : t.kind ≡ Atom
  pub value : ℕ
  pub spelled : IsNumber t.text value
  pub index : index_of value ≡ i

-- the index of a function or a global, or the name of an export
pub data IsSubject : Lexeme → Subject → Type 0 where
  number : {t : Lexeme} {i : Option ℕ} → IsIndex t i → IsSubject t (Number i)
  export : {t : Lexeme} {name : List ℕ} → IsName t name → IsSubject t (Export name)

pub data IsSpot : List Lexeme → Spot → Type 0 where
  param : {w f k : Lexeme} {func : Subject} {i : Option ℕ} →
      IsWord (codes "param") w → IsSubject f func → IsIndex k i → IsSpot (w ∷ f ∷ k ∷ []) (Param func i)
  result : {w f : Lexeme} {func : Subject} →
      IsWord (codes "result") w → IsSubject f func → IsSpot (w ∷ f ∷ []) (Result func)
  local : {w f k : Lexeme} {func : Subject} {i : Option ℕ} →
      IsWord (codes "local") w → IsSubject f func → IsIndex k i → IsSpot (w ∷ f ∷ k ∷ []) (Local func i)
  global : {w g : Lexeme} {subject : Subject} →
      IsWord (codes "global") w → IsSubject g subject → IsSpot (w ∷ g ∷ []) (Global subject)
  memory : {w : Lexeme} → IsWord (codes "memory") w → IsSpot (w ∷ []) Memory

pub data IsOrder : List Lexeme → Order → Type 0 where
  secret : {w : Lexeme} {ts : List Lexeme} {spot : Spot} →
      IsWord (codes "secret") w → IsSpot ts spot → IsOrder (w ∷ ts) (order.Label Secret spot)
  public : {w : Lexeme} {ts : List Lexeme} {spot : Spot} →
      IsWord (codes "public") w → IsSpot ts spot → IsOrder (w ∷ ts) (order.Label Public spot)
  trust : {w f : Lexeme} {func : Subject} →
      IsWord (codes "trust") w → IsSubject f func → IsOrder (w ∷ f ∷ []) (order.Trust func)
  release : {w f k : Lexeme} {func : Subject} {at : Option ℕ} →
      IsWord (codes "release") w → IsSubject f func → IsIndex k at → IsOrder (w ∷ f ∷ k ∷ []) (order.Release func at)
