-- Marks that are made line by line, in two passes: the functions that lines trust, and then what each line asks for.
use Rattle.std.specs.Prelude.{◌≡◌, ℕ, ◌==◌, ◌&&◌, ◌||◌, Bool, true, false, List, [], ◌∷◌, ◌++◌, Option, Some, None, ◌⊎◌}
use Rattle.ctw_ops.specs.declared.types.Label.{Label}
use Rattle.ctw_ops.specs.Tree.{Module}
use Rattle.ctw_labels.specs.declared.name.SiteName.{SiteName}
use Rattle.ctw_labels.specs.Points.{Points, has_number, is_released}
use Rattle.ctw_marks.specs.declared.entry.Entry.{Entry}
use Rattle.ctw_marks.specs.declared.order.Subject.{Subject}
use Rattle.ctw_marks.specs.declared.order.Order.{Order}
use Rattle.ctw_marks.specs.declared.order.Order.TheVariants as order
use Rattle.ctw_marks.specs.declared.fault.MarkFault.{MarkFault}
use Rattle.ctw_marks.specs.declared.fault.MarkFault.TheVariants as fault
use Rattle.ctw_marks.specs.Meaning.{function_of, IsPush, IsPlaced, IsCovered, labels_of}
use Rattle.ctw_marks.specs.Places.{trusted_function}
use Rattle.ctw_marks.specs.Pushed.{is_some_number}
use Rattle.ctw_marks.specs.Readings.{MarkList}

-- ---- trust

abbrev pub trusts : Module Label → Option Order → ℕ → Bool
trusts m None g = false
trusts m (Some (order.Label l s)) g = false
trusts m (Some (order.Trust s)) g = is_some_number g (trusted_function m s)
trusts m (Some (order.Release s at)) g = false

abbrev pub trusts_in : Module Label → List Entry → ℕ → Bool
trusts_in m [] g = false
trusts_in m (e ∷ es) g = trusts m e.order g || trusts_in m es g

-- ---- one line

abbrev pub IsAmong : Points → ℕ → Type 0
IsAmong p f = has_number f p.trusted ≡ true

abbrev pub are_numbers : ℕ → ℕ → Option ℕ → Option ℕ → Bool
are_numbers g k None at = false
are_numbers g k (Some f) None = false
are_numbers g k (Some f) (Some n) = f == g && n == k

abbrev pub releases : Module Label → Order → ℕ → ℕ → Bool
releases m (order.Label l s) g k = false
releases m (order.Trust s) g k = false
releases m (order.Release s at) g k = are_numbers g k (function_of m s) at

-- a line leads from marks to others
pub record Takes (m : Module Label) (asked : Option Order) (a b : MarkList) : Type 0 where
  pub order : Order
  pub read : asked ≡ Some order
  pub placed : IsPlaced m order
  pub covered : IsCovered m (IsAmong a.points) order
  pub labels : b.labels ≡ a.labels ++ labels_of m order
  pub trusted : b.points.trusted ≡ a.points.trusted
  pub released : (g k : ℕ) → is_released b.points g k ≡ (releases m order g k || is_released a.points g k)

-- a line is bad
abbrev pub IsBad : Module Label → Entry → MarkList → MarkFault → Type 0
IsBad m e a (fault.Lex line) = ⊥
IsBad m e a (fault.Line line) = (e.order ≡ None) × (e.line ≡ line)
IsBad m e a (fault.NoPlace line) = (asked : Order) × (e.order ≡ Some asked) × ¬ (IsPlaced m asked) × (e.line ≡ line)
IsBad m e a (fault.Untrusted line) =
    (asked : Order) × (e.order ≡ Some asked) × IsPlaced m asked × ¬ (IsCovered m (IsAmong a.points) asked)
    × (e.line ≡ line)
IsBad m e a fault.NoMemory = Unit {0}

-- ---- lines one after another

abbrev pub TakesAll : Module Label → List Entry → MarkList → MarkList → Type 0
TakesAll m [] a b = a ≡ b
TakesAll m (e ∷ es) a b = (c : MarkList) × Takes m e.order a c × TakesAll m es c b

-- one of them is bad, and those before it aren't
abbrev pub StopsIn : Module Label → List Entry → MarkList → MarkFault → Type 0
StopsIn m [] a why = ⊥
StopsIn m (e ∷ es) a why = IsBad m e a why ⊎ ((c : MarkList) × Takes m e.order a c × StopsIn m es c why)

-- ---- a release

pub record TakesRelease (m : Module Label) (s : Subject) (at : Option ℕ) (a b : Points) : Type 0 where
  pub placed : (f k : ℕ) × IsPush m s at f k
  pub covered : (f : ℕ) × (function_of m s ≡ Some f) × IsAmong a f
  pub trusted : b.trusted ≡ a.trusted
  pub released : (g k : ℕ) → is_released b g k ≡ (are_numbers g k (function_of m s) at || is_released a g k)

abbrev pub IsBadRelease : Module Label → Subject → Option ℕ → ℕ → Points → MarkFault → Type 0
IsBadRelease m s at n a (fault.Lex line) = ⊥
IsBadRelease m s at n a (fault.Line line) = ⊥
IsBadRelease m s at n a (fault.NoPlace line) = ¬ (IsPlaced m (order.Release s at)) × (n ≡ line)
IsBadRelease m s at n a (fault.Untrusted line) =
    IsPlaced m (order.Release s at) × ¬ (IsCovered m (IsAmong a) (order.Release s at)) × (n ≡ line)
IsBadRelease m s at n a fault.NoMemory = Unit {0}
