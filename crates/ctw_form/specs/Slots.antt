-- How the code of functions and the elements are kept: lists of all of them, and where each one's part ends.
use Rattle.std.specs.Prelude.{ℕ, ◌+◌, List, [], ◌∷◌, ◌++◌, length}
use Rattle.ctw_ops.specs.declared.types.Label.{Label}
use Rattle.ctw_ops.specs.Tree.{Constant, Element}
use Rattle.ctw_form.specs.declared.slots.LocalRun.{LocalRun}
use Rattle.ctw_form.specs.declared.slots.ElementSlot.{ElementSlot}
use Rattle.ctw_form.specs.Sections.{Group, Entry}
use Rattle.ctw_form.specs.Shown.{constant_of}

-- a function's bytes of instructions, and how many runs of locals the functions up to it have
pub record Coded : Type 0 where
  pub code : List ℕ
  pub runs : ℕ

-- groups of locals as runs, behind so many locals
abbrev pub runs_behind : ℕ → List Group → List LocalRun
runs_behind before [] = []
runs_behind before (g ∷ groups) = record { end = before + g.count; ty = g.type } ∷ runs_behind (before + g.count) groups

-- the runs of all functions
abbrev pub runs_of : List Entry → List LocalRun
runs_of [] = []
runs_of (e ∷ entries) = runs_behind 0 e.groups ++ runs_of entries

-- the code of all functions, behind so many runs
abbrev pub coded_behind : ℕ → List Entry → List Coded
coded_behind before [] = []
coded_behind before (e ∷ entries) =
    record { code = e.code; runs = before + length e.groups } ∷ coded_behind (before + length e.groups) entries

-- an element without its functions, and how many functions the elements up to it have
pub record Headed : Type 0 where
  pub table : ℕ
  pub offset : Constant Label
  pub functions : ℕ

abbrev pub headed : ElementSlot → Headed
headed slot = record { table = slot.table; offset = constant_of slot.offset; functions = slot.functions }

-- all elements, behind so many functions
abbrev pub headed_behind : ℕ → List (Element Label) → List Headed
headed_behind before [] = []
headed_behind before (e ∷ elements) =
    record { table = e.table; offset = e.offset; functions = before + length e.functions }
    ∷ headed_behind (before + length e.functions) elements

-- the functions of all elements
abbrev pub element_functions : List (Element Label) → List ℕ
element_functions [] = []
element_functions (e ∷ elements) = e.functions ++ element_functions elements
