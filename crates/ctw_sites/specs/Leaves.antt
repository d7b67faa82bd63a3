-- What an opcode without instructions inside does, and its sites.
use Rattle.std.specs.Prelude.{◌≡◌, Bool, false, ℕ, zero, suc, ◌+◌, List, [], ◌∷◌, ◌++◌, length, Option, Some, None, option_and_then}
use Rattle.ctw_ops.specs.declared.types.Width.{Width}
use Rattle.ctw_ops.specs.Code.{Select, Op, Plain, Opens, Closes}
use Rattle.ctw_ops.specs.Typing.{Context}
use Rattle.ctw_stack.specs.declared.slot.Slot.{Slot}
use Rattle.ctw_stack.specs.declared.slot.Slot.TheVariants.{Known, Wide}
use Rattle.ctw_stack.specs.Operands.{Operands, pop, push}
use Rattle.ctw_stack.specs.Steps.{width_of}
use Rattle.ctw_labels.specs.declared.tag.Tag.{Tag}
use Rattle.ctw_labels.specs.declared.tag.Tag.TheVariants.{At}
use Rattle.ctw_labels.specs.declared.name.SiteName.TheVariants.{Param, Result, IParam, IResult}
use Rattle.ctw_labels.specs.declared.name.SiteName.{SiteName}
use Rattle.ctw_labels.specs.Names.{Site, site, push_site}
use Rattle.ctw_labels.specs.Numbering.{BodyPlace, own_sites, site_if}
use Rattle.ctw_sites.specs.Rows.{is_select, Row, takes_alone, row, rest_of, rests}

abbrev pub IsRowOf : {A : Type 0} → BodyPlace A → Context Tag → ℕ → Op A → Row → Type 0
IsRowOf P C n (Plain (Select l)) r = Unit {0}
IsRowOf P C n (Plain i) r = r ≡ row P C n i
IsRowOf P C n (Opens shape t) r = r ≡ takes_alone 0
IsRowOf P C n (Closes closer) r = r ≡ takes_alone 0

-- the sites of an opcode before its push's
abbrev pub own_of : {A : Type 0} → BodyPlace A → ℕ → Op A → List Site
own_of P at (Plain i) = own_sites P at i
own_of P at (Opens shape t) = []
own_of P at (Closes closer) = []

abbrev pub own_count : {A : Type 0} → BodyPlace A → Op A → ℕ
own_count P op = length (own_of P 0 op)

-- so many sites, named from `i` on
abbrev pub named_from : (ℕ → SiteName) → ℕ → ℕ → List Site
named_from name i zero = []
named_from name i (suc count) = site (name i) ∷ named_from name (i + 1) count

-- the sites of so many parameters of an indirect call
abbrev pub iparams : ℕ → ℕ → ℕ → List Site
iparams f at count = named_from (IParam f at) 0 count

-- those of an indirect call with so many parameters and a result of this width
abbrev pub user_sites : ℕ → ℕ → ℕ → Option Width → List Site
user_sites f at count w = iparams f at count ++ site_if (IResult f at) w

-- ---- `select`

-- the width of the last operand, where it is known
abbrev pub top_width : Operands Tag → Option Width
top_width o = option_and_then (λ p. width_of p.slot) (pop o)

abbrev pub either : Option Width → Option Width → Option Width
either (Some w) b = Some w
either None b = b

-- the width of what a `select` gives
abbrev pub chosen_width : Operands Tag → Option Width
chosen_width o = either (top_width (rest_of o)) (top_width (rest_of (rest_of o)))

-- what it gives, where its own site is `n`
abbrev pub chosen_slot : ℕ → Option Width → Slot Tag
chosen_slot n None = Wide (At n)
chosen_slot n (Some w) = Known w (At (n + 1))

abbrev pub selected : ℕ → Operands Tag → Operands Tag
selected n o = push (chosen_slot n (chosen_width o)) (rests 3 o)

abbrev pub chosen_push : ℕ → SiteName → Option Width → List Site
chosen_push n name None = []
chosen_push n name (Some w) = push_site name (Some n) ∷ []

-- ---- any opcode

abbrev pub is_select_op : {A : Type 0} → Op A → Bool
is_select_op (Plain i) = is_select i
is_select_op (Opens shape t) = false
is_select_op (Closes closer) = false

-- an opcode without instructions inside
abbrev pub IsLeaf : {A : Type 0} → Op A → Type 0
IsLeaf (Plain i) = Unit {0}
IsLeaf (Opens shape t) = ⊥
IsLeaf (Closes closer) = ⊥

-- the sites of so many parameters of a function, and of a result of this width
abbrev pub params : ℕ → ℕ → List Site
params f count = named_from (Param f) 0 count

abbrev pub type_sites_of : ℕ → ℕ → Option Width → List Site
type_sites_of f count w = params f count ++ site_if (Result f) w
