-- What uses a table: the functions that are put into it, and the calls through it. Of the types of one table instance's
-- users those that erase alike are equal, so that a call can't tell labels or trust apart that the erased set has lost.
use Rattle.std.specs.Prelude.{◌≡◌, ℕ, Bool, false, ◌==◌, nat_eq, fold, List, [], ◌∷◌, ◌++◌, map, flat_map, find, slice_get, AllPairs, Option, Some, None, filter_map, if◌then◌else◌}
use Rattle.std.specs.List.{list_any}
use Rattle.ctw_ops.specs.declared.types.Label.{Label}
use Rattle.ctw_ops.specs.Types.{FunctionType, EraseAlike}
use Rattle.ctw_ops.specs.Equal.{same_function_type, erases_alike}
use Rattle.ctw_ops.specs.Tree.{Module, function_entries, type_named}
use Rattle.ctw_ops.specs.IndirectCalls.{indirect_calls}
use Rattle.ctw_link.specs.Numbers.{LinkedModule}

-- the type entries of the functions that a module puts into its table, element by element
abbrev pub element_entries : Module Label → List ℕ
element_entries m = flat_map (λ e. filter_map (slice_get (function_entries m)) e.functions) m.elements

-- the type entries of its indirect calls, body by body
abbrev pub call_entries : Module Label → List ℕ
call_entries m = flat_map (λ f. indirect_calls f.body) m.functions

abbrev pub user_entries : Module Label → List ℕ
user_entries m = element_entries m ++ call_entries m

abbrev pub users_in : Module Label → List (FunctionType Label)
users_in m = map (type_named m) (user_entries m)

-- whether a part's table is the one of this number
abbrev pub has_table : ℕ → LinkedModule → Bool
has_table table p = uses (slice_get p.numbers.tables 0)
  where
    uses : Option ℕ → Bool
    uses None = false
    uses (Some number) = number == table

-- the types of the users of a table instance, part by part
abbrev pub users_of : List LinkedModule → ℕ → List (FunctionType Label)
users_of set table = flat_map (λ p. if has_table table p then users_in p.tree else []) set

-- users that erase alike are equal
abbrev pub AreUnmixed : List (FunctionType Label) → Type 0
AreUnmixed users = AllPairs (λ a b. EraseAlike a b → a ≡ b) users

-- ---- the first user that differs

-- two types that differ
abbrev pub differing : FunctionType Label → Option (FunctionType Label)
    → Option (FunctionType Label × FunctionType Label)
differing b None = None
differing b (Some a) = if same_function_type a b then None else Some (a, b)

abbrev pub or_later : {A : Type 0} → Option A → Option A → Option A
or_later (Some a) later = Some a
or_later None later = later

-- behind users, the first of others that differs from the first user that erases like it, with that user in front
abbrev pub mix_behind : List (FunctionType Label) → List (FunctionType Label)
    → Option (FunctionType Label × FunctionType Label)
mix_behind before [] = None
mix_behind before (b ∷ users) =
    or_later (differing b (find (erases_alike b) before)) (mix_behind (before ++ b ∷ []) users)

abbrev pub mix_among : List (FunctionType Label) → Option (FunctionType Label × FunctionType Label)
mix_among users = mix_behind [] users

-- ---- each type entry once

abbrev pub with_entry : List ℕ → ℕ → List ℕ
with_entry found entry = if list_any (nat_eq entry) found then found else found ++ entry ∷ []

-- the entries in the order in which they are first used
abbrev pub first_uses : List ℕ → List ℕ
first_uses entries = fold with_entry [] entries
