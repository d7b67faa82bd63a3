-- What a marks file stands for: sites with labels, in the order of its lines, and points.
use Rattle.std.specs.Prelude.{◌≡◌, ◌↔◌, ℕ, true, List, [], ◌∷◌, ◌++◌, Option, All, Contains}
use Rattle.std.specs.List.{AllZip}
use Rattle.ctw_ops.specs.declared.types.Label.{Label}
use Rattle.ctw_ops.specs.Tree.{Module}
use Rattle.ctw_lex.specs.Lexeme.{Lexeme}
use Rattle.ctw_lex.specs.Grammar.{IsTokens}
use Rattle.ctw_script.specs.Scripts.{lines_of, HasLexFault}
use Rattle.ctw_labels.specs.declared.name.SiteName.{SiteName}
use Rattle.ctw_labels.specs.Points.{Points, has_number, is_released}
use Rattle.ctw_marks.specs.declared.order.Subject.{Subject}
use Rattle.ctw_marks.specs.declared.order.Order.{Order}
use Rattle.ctw_marks.specs.declared.order.Order.TheVariants as order
use Rattle.ctw_marks.specs.declared.fault.MarkFault.{MarkFault}
use Rattle.ctw_marks.specs.declared.fault.MarkFault.TheVariants as fault
use Rattle.ctw_marks.specs.Grammar.{IsOrder}
use Rattle.ctw_marks.specs.Meaning.{IsPush, IsPlaced, IsTrusted, IsCovered, labels_of}

pub record MarkList : Type 0 where
  pub labels : List (SiteName × Label)
  pub points : Points

-- ---- lines

-- a line, among these, asks for something that is there; a function that releases is trusted by one of them
pub record IsGood (m : Module Label) (lines : List (List Lexeme)) (line : List Lexeme) (asked : Order) : Type 0 where
  pub read : IsOrder line asked
  pub placed : IsPlaced m asked
  pub covered : IsCovered m (IsTrusted m lines) asked

abbrev pub all_labels : Module Label → List Order → List (SiteName × Label)
all_labels m [] = []
all_labels m (o ∷ os) = labels_of m o ++ all_labels m os

-- one of the lines makes the opcode a release
abbrev pub IsReleased : Module Label → List Order → ℕ → ℕ → Type 0
IsReleased m orders f k = (s : Subject) × (at : Option ℕ) × Contains orders (order.Release s at) × IsPush m s at f k

-- ---- texts

-- the text has tokens, and those of each of its lines ask for something that is there
pub record IsReading (m : Module Label) (text : List ℕ) (marks : MarkList) : Type 0 where
  pub tokens : List Lexeme
  pub lexed : IsTokens 0 1 text tokens
  pub orders : List Order
  pub read : AllZip (IsGood m (lines_of tokens)) (lines_of tokens) orders
  pub labels : marks.labels ≡ all_labels m orders
  pub trusted : (f : ℕ) → (has_number f marks.points.trusted ≡ true) ↔ IsTrusted m (lines_of tokens) f
  pub released : (f k : ℕ) → (is_released marks.points f k ≡ true) ↔ IsReleased m orders f k

-- the same sites with labels, and points that say the same
pub record AreSame (a b : MarkList) : Type 0 where
  pub labels : a.labels ≡ b.labels
  pub trusted : (f : ℕ) → has_number f a.points.trusted ≡ has_number f b.points.trusted
  pub released : (f k : ℕ) → is_released a.points f k ≡ is_released b.points f k

-- the text has these marks, and no others
pub record HasReading (m : Module Label) (text : List ℕ) (marks : MarkList) : Type 0 where
  pub reading : IsReading m text marks
  pub only : (other : MarkList) → IsReading m text other → AreSame other marks

-- ---- faults

abbrev pub IsUnread : List Lexeme → Type 0
IsUnread line = (asked : Order) → ¬ (IsOrder line asked)

abbrev pub IsUnplaced : Module Label → List Lexeme → Type 0
IsUnplaced m line = (asked : Order) × IsOrder line asked × ¬ (IsPlaced m asked)

abbrev pub IsUncovered : Module Label → List (List Lexeme) → List Lexeme → Type 0
IsUncovered m lines line =
    (asked : Order) × IsOrder line asked × IsPlaced m asked × ¬ (IsCovered m (IsTrusted m lines) asked)

-- The text has tokens. Each line before this one asks for something that is there, and this one is bad.
pub record HasBadLine
    (m : Module Label) (text : List ℕ) (line : ℕ) (bad : List (List Lexeme) → List Lexeme → Type 0) : Type 0 where
  pub tokens : List Lexeme
  pub lexed : IsTokens 0 1 text tokens
  pub earlier : List (List Lexeme)
  pub first : Lexeme
  pub more : List Lexeme
  pub later : List (List Lexeme)
  pub lines : lines_of tokens ≡ earlier ++ (first ∷ more) ∷ later
  pub number : first.line ≡ line
  pub good : All (λ ts. (asked : Order) × IsGood m (lines_of tokens) ts asked) earlier
  pub worse : bad (lines_of tokens) (first ∷ more)

abbrev pub IsCause : Module Label → List ℕ → MarkFault → Type 0
IsCause m text (fault.Lex line) = HasLexFault text line
IsCause m text (fault.Line line) = HasBadLine m text line (λ lines ts. IsUnread ts)
IsCause m text (fault.NoPlace line) = HasBadLine m text line (λ lines ts. IsUnplaced m ts)
IsCause m text (fault.Untrusted line) = HasBadLine m text line (λ lines ts. IsUncovered m lines ts)
IsCause m text fault.NoMemory = Unit {0}

-- the text has no reading, for this cause; want of memory has no cause
pub record HasFault (m : Module Label) (text : List ℕ) (why : MarkFault) : Type 0 where
  pub cause : IsCause m text why
  pub unread : ¬ (why ≡ fault.NoMemory) → (marks : MarkList) → ¬ (IsReading m text marks)
