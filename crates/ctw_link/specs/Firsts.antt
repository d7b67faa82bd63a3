-- The first of a table's users of each erased type, found by the erased type's bytes.
use Rattle.std.specs.Prelude.{◌≡◌, ◌<◌, ◌⊎◌, ℕ, List, ◌∷◌, ◌++◌, map, length, find, slice_get, Option, Some, None, Result, Ok, Err}
use Rattle.std.specs.Str.{bytes_eq}
use Rattle.std.specs.Ordering.{nat_cmp}
use Rattle.std.specs.Cmp.Lexicographic.{slice_cmp}
use Rattle.std.specs.Global.{Vec}
use Rattle.std.specs.BTreeMap.{BTreeMap, get_by}
use Rattle.ctw_ops.specs.declared.types.Label.{Label}
use Rattle.ctw_ops.specs.declared.types.Label.TheVariants.{Public}
use Rattle.ctw_ops.specs.declared.types.Width.{Width}
use Rattle.ctw_ops.specs.Types.{ValueType, FunctionType, value_type, type_byte}
use Rattle.ctw_ops.specs.Tree.{type_named, no_function_type}
use Rattle.ctw_module.specs.Trees.{tree}
use Rattle.ctw_link.specs.declared.fault.LinkFault.{LinkFault}
use Rattle.ctw_link.specs.declared.fault.LinkFault.TheVariants.{NoMemory, TableMix}
use Rattle.ctw_link.specs.declared.set.Part.{Part}
use Rattle.ctw_link.specs.Linked.{IsPart}
use Rattle.ctw_link.specs.Users.{mix_behind}

-- ---- the bytes of erased types

-- the byte of the public type of a width
abbrev pub width_byte : Width → ℕ
width_byte width = type_byte (value_type width Public)

-- that of a result, 40 for none
abbrev pub result_byte : Option (ValueType Label) → ℕ
result_byte None = 0x40
result_byte (Some t) = width_byte t.width

abbrev pub params_bytes : List (ValueType Label) → List ℕ
params_bytes params = map (λ t. width_byte t.width) params

-- the result's byte in front of the parameters'
abbrev pub key_of : FunctionType Label → List ℕ
key_of t = result_byte t.result ∷ params_bytes t.params

-- ---- the types of entries

-- the type of an entry in the part of an index
abbrev pub type_in : List Part → ℕ → ℕ → FunctionType Label
type_in parts part entry = of (slice_get parts part)
  where
    of : Option Part → FunctionType Label
    of None = no_function_type
    of (Some p) = type_named (tree p.«module») entry

abbrev pub HasEntry : List Part → ℕ → ℕ → Type 0
HasEntry parts part entry = (p : Part) × IsPart parts part p × (entry < length (tree p.«module»).types)

-- ---- first users

abbrev pub IsTypeOf : List Part → Option (ℕ × ℕ) → Option (FunctionType Label) → Type 0
IsTypeOf parts None None = Unit {0}
IsTypeOf parts (Some place) (Some t) = HasEntry parts place.0 place.1 × (t ≡ type_in parts place.0 place.1)
IsTypeOf parts _ _ = ⊥

-- for the bytes of each erased type the part and the entry of the first user that has them
abbrev pub TellsFirsts : List Part → List (FunctionType Label) → BTreeMap (Vec ℕ) (ℕ × ℕ) → Type 0
TellsFirsts parts users firsts =
    (key : List ℕ)
    → IsTypeOf parts (get_by (λ k. slice_cmp nat_cmp key k.items) firsts) (find (λ t. bytes_eq key (key_of t)) users)

-- the same of some users
abbrev pub TellsSome : List Part → BTreeMap (Vec ℕ) (ℕ × ℕ) → Type 0
TellsSome parts firsts = (users : List (FunctionType Label)) × TellsFirsts parts users firsts

-- behind the users before, these are passed and are told too, or the first of them that differs is found
abbrev pub Passes : List Part → ℕ → List (FunctionType Label) → List (FunctionType Label) → BTreeMap (Vec ℕ) (ℕ × ℕ)
    → Result (Unit {0}) LinkFault → Type 0
Passes parts table before users firsts (Ok u) =
    (after : List (FunctionType Label)) × TellsFirsts parts after firsts
    × ((others : List (FunctionType Label)) → mix_behind before (users ++ others) ≡ mix_behind after others)
Passes parts table before users firsts (Err e) =
    (e ≡ NoMemory)
    ⊎ ((a b : FunctionType Label) × (e ≡ TableMix table a b)
    × ((others : List (FunctionType Label)) → mix_behind before (users ++ others) ≡ Some (a, b)))
