-- Parts of the fourth pass that have functions of their own.
use Rattle.std.specs.Prelude.{ℕ, zero, suc, ◌+◌, nat_lt, not, Bool, true, cond, List, [], ◌∷◌, ◌++◌, length}
use Rattle.ctw_ops.specs.declared.types.Label.{Label}
use Rattle.ctw_ops.specs.declared.fault.What.TheVariants.{Memories, Tables, Locals}
use Rattle.ctw_ops.specs.ValueType.{ValueType}
use Rattle.ctw_ops.specs.Equal.{same_type}
use Rattle.ctw_ops.specs.Limits.{most_locals, most_locals_of_all}
use Rattle.ctw_text.specs.Names.{Wide}
use Rattle.ctw_text.specs.Limits.{Excess, over, count_if, is_table, is_memory}

-- the excess of tables and of memories, imported and defined
abbrev pub spaces_excess : Wide → List Excess
spaces_excess m =
    over (nat_lt 1 (count_if is_table m.imports + length m.tables)) Tables 1
    ++ over (nat_lt 1 (count_if is_memory m.imports + length m.memories)) Memories 1

-- a run of equal types ends with this one of a list
abbrev pub ends_first : ValueType Label → List (ValueType Label) → Bool
ends_first t [] = true
ends_first t (u ∷ us) = not (same_type t u)

-- the same of the one of a number
abbrev pub is_end : List (ValueType Label) → ℕ → Bool
is_end [] i = true
is_end (t ∷ ts) zero = ends_first t ts
is_end (t ∷ ts) (suc i) = is_end ts i

-- the excess of locals behind so many, at the end of each run
abbrev pub ends_excess : (mine before : ℕ) → List (ValueType Label) → List Excess
ends_excess mine before [] = []
ends_excess mine before (t ∷ ts) =
    cond (ends_first t ts)
    (over (nat_lt most_locals (suc mine)) Locals most_locals
    ++ over (nat_lt most_locals_of_all (before + suc mine)) Locals most_locals_of_all)
    []
    ++ ends_excess (suc mine) before ts
