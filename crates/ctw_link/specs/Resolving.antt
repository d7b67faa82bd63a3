-- What the steps of resolving imports keep.
use Rattle.std.specs.Prelude.{◌≡◌, ℕ, List, [], map, take, filter_map, slice_get, nat_lt, Option, Some, None, if◌then◌else◌}
use Rattle.ctw_ops.specs.declared.types.Label.{Label}
use Rattle.ctw_ops.specs.declared.types.ExternTag.{ExternTag}
use Rattle.ctw_ops.specs.declared.types.ExternTag.TheVariants.{Func, Table, Memory, Global}
use Rattle.ctw_ops.specs.Tree.{Import}
use Rattle.ctw_module.specs.Given.{extern_given}
use Rattle.ctw_link.specs.declared.numbers.Numbering.{Numbering}
use Rattle.ctw_link.specs.declared.offers.Offer.{Offer}
use Rattle.ctw_link.specs.Sets.{NamedModule, ModuleSet, defined}
use Rattle.ctw_ops.specs.Equal.{same_tag}
use Rattle.ctw_link.specs.Numbers.{StoreNumbers, numbers_of, number_if, tag_of, import_number, linked, number_in}

-- an index that is below a bound
abbrev pub below : ℕ → Option ℕ → Option ℕ
below bound None = None
below bound (Some index) = if nat_lt index bound then Some index else None

-- what meets an import among the parts before: its kind is its type's, and its number is the import's
pub record IsOffer (before : ModuleSet) (i : Import Label) (o : Offer) : Type 0 where
  pub tag : o.tag ≡ tag_of (extern_given o.ty)
  pub number : number_in before o.tag o.part o.index ≡ Some (import_number (linked before) i)

-- the numbers of these parts, and how much they define
pub record AreNumbered (set : ModuleSet) (n : Numbering) : Type 0 where
  pub parts : n.parts.items ≡ map (λ p. p.numbers) (linked set)
  pub functions : n.functions ≡ defined Func set
  pub tables : n.tables ≡ defined Table set
  pub memories : n.memories ≡ defined Memory set
  pub globals : n.globals ≡ defined Global set

-- no numbers of any kind
abbrev pub no_numbers : StoreNumbers
no_numbers = record { functions = []; tables = []; memories = []; globals = [] }

-- numbers of a kind, where another one is the same
abbrev pub if_same : ExternTag → ExternTag → List ℕ → List ℕ
if_same tag other numbers = if same_tag tag other then numbers else []

-- of each kind the numbers of the imports of a part, by the parts before
abbrev pub HasImports : ModuleSet → ℕ → StoreNumbers → Type 0
HasImports set part numbers =
    (p : NamedModule) → slice_get set part ≡ Some p → (tag : ExternTag)
    → numbers_of tag numbers ≡ filter_map (number_if tag (linked (take part set))) p.tree.imports

-- the part of an index, and its import of a number
abbrev pub IsImport : ModuleSet → ℕ → ℕ → NamedModule → Import Label → Type 0
IsImport set part import p i = (slice_get set part ≡ Some p) × (slice_get p.tree.imports import ≡ Some i)
