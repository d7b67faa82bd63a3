-- The order in which the sites of a module are numbered, by their names.
use Rattle.std.specs.Prelude.{ℕ, List, Option, option_map, slice_get}
use Rattle.std.specs.declared.cmp.Ordering.{Ordering}
use Rattle.std.specs.Ordering.{nat_cmp, ordering_then}
use Rattle.ctw_labels.specs.declared.name.SiteName.{SiteName}
use Rattle.ctw_labels.specs.declared.name.SiteName.TheVariants.{Param, Result, GlobalOf, Memory, Local, Block, Op, Push, IParam, IResult}
use Rattle.ctw_labels.specs.Names.{Site}

-- numbers that are compared one after another: of the part of the module, of the function or the global, of the opcode,
-- of the kind of the site there, and of the parameter or local
abbrev pub Key : Type 0
Key = ℕ × ℕ × ℕ × ℕ × ℕ

abbrev pub key_of : SiteName → Key
key_of (Param f i) = (0, f, 0, 0, i)
key_of (Result f) = (0, f, 0, 1, 0)
key_of (GlobalOf g) = (1, g, 0, 0, 0)
key_of Memory = (2, 0, 0, 0, 0)
key_of (Local f i) = (3, f, 0, 0, i)
key_of (Block f at) = (3, f, at, 1, 0)
key_of (Op f at) = (3, f, at, 2, 0)
key_of (IParam f at i) = (3, f, at, 3, i)
key_of (IResult f at) = (3, f, at, 4, 0)
key_of (Push f at) = (3, f, at, 5, 0)

abbrev pub key_order : Key → Key → Ordering
key_order x y =
    ordering_then
    (ordering_then
    (ordering_then (ordering_then (nat_cmp x.0 y.0) (nat_cmp x.1 y.1)) (nat_cmp x.2 y.2)) (nat_cmp x.3 y.3))
    (nat_cmp x.4 y.4)

abbrev pub order : SiteName → SiteName → Ordering
order a b = key_order (key_of a) (key_of b)

-- the name of a site in a list of them, by its number
abbrev pub name_at : List Site → ℕ → Option SiteName
name_at sites k = option_map (λ s. s.name) (slice_get sites k)
