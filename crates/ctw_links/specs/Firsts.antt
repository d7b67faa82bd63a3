-- The first of the table's users of each erased type, found by the erased type's bytes.
use Rattle.std.specs.Prelude.{◌≡◌, ◌<◌, ◌^◌, ℕ, zero, suc, ◌+◌, List, [], ◌∷◌, ◌++◌, map, find, Option, Some, None, option_map}
use Rattle.std.specs.List.{AllByRecursion}
use Rattle.std.specs.Str.{bytes_eq}
use Rattle.std.specs.Ordering.{nat_cmp}
use Rattle.std.specs.Cmp.Lexicographic.{slice_cmp}
use Rattle.std.specs.Global.{Vec}
use Rattle.std.specs.BTreeMap.{BTreeMap, get_by}
use Rattle.ctw_ops.specs.declared.types.Label.{Label}
use Rattle.ctw_ops.specs.declared.types.Label.TheVariants.{Public}
use Rattle.ctw_ops.specs.declared.types.Width.{Width}
use Rattle.ctw_ops.specs.Types.{ValueType, FunctionType, value_type, type_byte}
use Rattle.ctw_ops.specs.Tree.{Module, function_types, type_named}
use Rattle.ctw_labels.specs.declared.tag.Tag.{Tag}
use Rattle.ctw_labels.specs.declared.tag.Tag.TheVariants.{At}
use Rattle.ctw_labels.specs.Links.{Fact, fact, after}
use Rattle.ctw_labels.specs.ModuleLinks.{first_alike, type_facts}
use Rattle.ctw_labels.specs.SitedModule.{site_count}
use Rattle.ctw_links.specs.declared.user.User.{User}
use Rattle.ctw_links.specs.Uses.{type_of_user, types_of_users}

-- ---- the bytes of erased types

-- the byte of the public type of a width
abbrev pub width_byte : Width → ℕ
width_byte width = type_byte (value_type width Public)

-- that of a result, 40 for none
abbrev pub result_byte : Option (ValueType Label) → ℕ
result_byte None = 0x40
result_byte (Some t) = width_byte t.width

abbrev pub params_bytes : List (ValueType Label) → List ℕ
params_bytes params = map (λ t. width_byte t.width) params

-- the result's byte in front of the parameters'
abbrev pub key_of : FunctionType Label → List ℕ
key_of t = result_byte t.result ∷ params_bytes t.params

abbrev pub user_key : Module Label → User → List ℕ
user_key m u = key_of (type_named m u.entry)

-- ---- first users

-- for the bytes of each erased type the first site of the first user that has them
abbrev pub TellsFirsts : Module Label → List User → BTreeMap (Vec ℕ) ℕ → Type 0
TellsFirsts m users firsts =
    (key : List ℕ)
    → get_by (λ k. slice_cmp nat_cmp key k.items) firsts ≡ option_map (λ u. u.first) (find (λ u. bytes_eq key (user_key m u)) users)

-- its sites, where it has some, fit into 32 bits
abbrev pub IsPlaced : Module Label → User → Type 0
IsPlaced m u = 0 < site_count (type_named m u.entry) → u.first + site_count (type_named m u.entry) < 2 ^ 32

-- the same of some users, whose sites fit into 32 bits
abbrev pub TellsSome : Module Label → BTreeMap (Vec ℕ) ℕ → Type 0
TellsSome m firsts = (users : List User) × AllByRecursion (IsPlaced m) users × TellsFirsts m users firsts

-- ---- the facts of users

-- so many sites from two places on
abbrev pub site_facts : ℕ → ℕ → ℕ → List (Fact Tag)
site_facts a b zero = []
site_facts a b (suc count) = fact 11 (At a) (At b) ++ site_facts (a + 1) (b + 1) count

-- a user and the first one that erases alike
abbrev pub user_told : Module Label → List User → User → List (Fact Tag)
user_told m all u =
    after (first_alike (type_of_user (function_types m) u) (types_of_users (function_types m) all))
    (type_facts 11 (type_of_user (function_types m) u))

-- users behind others, one after another
abbrev pub users_told : Module Label → List User → List User → List (Fact Tag)
users_told m before [] = []
users_told m before (u ∷ us) = user_told m (before ++ u ∷ []) u ++ users_told m (before ++ u ∷ []) us
