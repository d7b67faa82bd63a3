-- Labellings that fit marks, and the readers of links and sites.
use Rattle.std.specs.Prelude.{◌≡◌, ◌<◌, ℕ, min, ◌==◌, ◌&&◌, if◌then◌else◌, List, [], ◌∷◌, length, Option, Some, None, option_and_then, unwrap_or, slice_get}
use Rattle.std.specs.List.{AllByRecursion}
use Rattle.ctw_ops.specs.declared.types.Label.{Label}
use Rattle.ctw_ops.specs.declared.types.Label.TheVariants.{Public}
use Rattle.ctw_ops.specs.Types.{IsBelow}
use Rattle.ctw_ops.specs.Tree.{Module}
use Rattle.ctw_ops.specs.Valid.{IsValid}
use Rattle.ctw_labels.specs.Links.{Link, Must, at_tag}
use Rattle.ctw_labels.specs.Points.{Points}
use Rattle.ctw_labels.specs.Kept.{IsKept}
use Rattle.ctw_labels.specs.SitedModule.{sites}
use Rattle.ctw_labels.specs.Placed.{placed, IsOrderly, AreUsersAlike}

-- a label for each site, in their order
abbrev pub Labelling : Type 0
Labelling = List Label

abbrev pub label_at : Labelling → ℕ → Label
label_at labels n = unwrap_or (slice_get labels n) Public

abbrev pub IsLabelling : Module Label → Labelling → Type 0
IsLabelling m labels = length labels ≡ length (sites m)

-- a site that has to have a label
pub record Mark : Type 0 where
  pub site : ℕ
  pub label : Label

abbrev pub Extends : (ℕ → Label) → List Mark → Type 0
Extends l marks = AllByRecursion (λ k. l k.site ≡ k.label) marks

-- at each of so many sites the first label is at most the second
abbrev pub IsBelowAll : ℕ → (ℕ → Label) → (ℕ → Label) → Type 0
IsBelowAll count l k = (n : ℕ) → n < count → IsBelow (l n) (k n)

pub record Fits (m : Module Label) (p : Points) (marks : List Mark) (l : ℕ → Label) : Type 0 where
  pub kept : IsKept m p
  pub marked : Extends l marks
  pub orderly : IsOrderly (at_tag l) m p
  pub valid : IsValid (placed (at_tag l) m p)
  pub users : AreUsersAlike (at_tag l) m p

-- ---- readers

-- the lesser one of a rule and perhaps another
abbrev pub or_less : ℕ → Option ℕ → Option ℕ
or_less r None = Some r
or_less r (Some q) = Some (min r q)

-- the least rule of the links from a site to another
abbrev pub rule_between : ℕ → ℕ → List Link → Option ℕ
rule_between a b [] = None
rule_between a b (k ∷ ks) =
    if k.from == a && k.to == b then or_less k.rule (rule_between a b ks) else rule_between a b ks

-- the least rule by which a site is public
abbrev pub must_of : ℕ → List Must → Option ℕ
must_of n [] = None
must_of n (k ∷ ks) = if k.site == n then or_less k.rule (must_of n ks) else must_of n ks

-- the site that the value of a push comes from
abbrev pub yield_of : Module Label → ℕ → Option ℕ
yield_of m n = option_and_then (λ s. s.yields) (slice_get (sites m) n)
