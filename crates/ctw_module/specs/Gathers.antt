-- What is gathered of a file's sections.
use Rattle.std.specs.Prelude.{◌≡◌, map, Result, Ok, Err}
use Rattle.ctw_leb.specs.Input.{Input}
use Rattle.ctw_form.specs.declared.lists.ListFault.{ListFault}
use Rattle.ctw_form.specs.declared.lists.ListFault.TheVariants.{Bad, NoMemory}
use Rattle.ctw_module.specs.declared.found.Found.{Found}
use Rattle.ctw_form.specs.Sections.{Parts}
use Rattle.ctw_form.specs.Shown.{global_in}
use Rattle.ctw_form.specs.Slots.{runs_of, coded_behind, headed, headed_behind, element_functions}

-- what was found is what the sections bring
pub record Gathers (found : Found) (p : Parts) : Type 0 where
  pub place : found.place ≡ p.place
  pub types : found.types.items ≡ p.types
  pub imports : found.imports.items ≡ p.imports
  pub uses : found.uses.items ≡ p.uses
  pub table : found.table ≡ p.table
  pub memory : found.memory ≡ p.memory
  pub globals : map global_in found.globals.items ≡ p.globals
  pub exports : found.exports.items ≡ p.exports
  pub start : found.start ≡ p.start
  pub elements : map headed found.elements.items ≡ headed_behind 0 p.elements
  pub element_functions : found.element_functions.items ≡ element_functions p.elements
  pub codes : found.codes.items ≡ coded_behind 0 p.entries
  pub runs : found.runs.items ≡ runs_of p.entries
  pub segments : found.segments.items ≡ p.segments
  pub customs : found.customs.items ≡ p.customs

-- memory ran out, and nothing else was wrong
abbrev pub IsMemory : ListFault → Type 0
IsMemory NoMemory = Unit {0}
IsMemory (Bad fault) = ⊥

-- a section's items were taken, or memory ran out
abbrev pub Fills : {X : Type 0} → Result X ListFault → Found → Parts → Type 0
Fills (Ok x) found p = Gathers found p
Fills (Err e) found p = IsMemory e

-- the same of a section, and where it ends
abbrev pub Takes : {X : Type 0} → Result X ListFault → Input → Input → Found → Parts → Type 0
Takes (Ok x) new o found p = (o ≡ new) × Gathers found p
Takes (Err e) new o found p = IsMemory e
