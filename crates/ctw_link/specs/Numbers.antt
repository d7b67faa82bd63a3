-- The store numbers of a linked set (W3C WebAssembly Core 1.0, section 4.5.3): what a part imports has the number of
-- what is exported, and what it defines takes the next number of its kind, part by part.
use Rattle.std.specs.Prelude.{ℕ, ◌+◌, Bool, List, [], ◌∷◌, ◌++◌, fold, map, length, sum_by, filter_map, slice_get, find, Option, Some, None, option_and_then, unwrap_or, if◌then◌else◌}
use Rattle.std.specs.List.{range_with_len}
use Rattle.std.specs.Str.{bytes_eq}
use Rattle.ctw_ops.specs.declared.types.Label.{Label}
use Rattle.ctw_ops.specs.declared.types.ExternTag.{ExternTag}
use Rattle.ctw_ops.specs.declared.types.ExternTag.TheVariants.{Func, Table, Memory, Global}
pub use Rattle.ctw_ops.specs.Equal.{same_tag}
use Rattle.ctw_ops.specs.Tree.{Module, Extern, ImportedFunction, ImportedTable, ImportedMemory, ImportedGlobal, Import}
use Rattle.ctw_module.specs.Lookup.{export_in, imported_count}
use Rattle.ctw_link.specs.Sets.{NamedModule, ModuleSet, defined_in}

-- for each index of a module the number in the store that it leads to, by kinds
pub record StoreNumbers : Type 0 where
  pub functions : List ℕ
  pub tables : List ℕ
  pub memories : List ℕ
  pub globals : List ℕ

abbrev pub numbers_of : ExternTag → StoreNumbers → List ℕ
numbers_of Func n = n.functions
numbers_of Table n = n.tables
numbers_of Memory n = n.memories
numbers_of Global n = n.globals

-- a part with its numbers
pub record LinkedModule : Type 0 where
  pub name : List ℕ
  pub tree : Module Label
  pub numbers : StoreNumbers

abbrev pub is_named : List ℕ → LinkedModule → Bool
is_named name p = bytes_eq p.name name

-- the number of what a part exports under a name
abbrev pub exported_number : List ℕ → LinkedModule → Option ℕ
exported_number name p =
    option_and_then (λ thing. slice_get (numbers_of thing.0 p.numbers) thing.1) (export_in name p.tree.exports)

-- the number of an import, by the parts before; one that is met by none of them counts as 0
abbrev pub import_number : List LinkedModule → Import Label → ℕ
import_number before i = unwrap_or (option_and_then (exported_number i.name) (find (is_named i.module_name) before)) 0

abbrev pub tag_of : Extern Label → ExternTag
tag_of (ImportedFunction type) = Func
tag_of (ImportedTable limits) = Table
tag_of (ImportedMemory type) = Memory
tag_of (ImportedGlobal type) = Global

abbrev pub number_if : ExternTag → List LinkedModule → Import Label → Option ℕ
number_if tag before i = if same_tag tag (tag_of i.kind) then Some (import_number before i) else None

-- how many things of a kind the parts before define
abbrev pub defined_before : ExternTag → List LinkedModule → ℕ
defined_before tag before = sum_by (λ p. defined_in tag p.tree) before

-- imports first
abbrev pub numbers_behind : ExternTag → List LinkedModule → Module Label → List ℕ
numbers_behind tag before m =
    filter_map (number_if tag before) m.imports ++ range_with_len (defined_before tag before) (defined_in tag m)

abbrev pub linked_module : List LinkedModule → NamedModule → LinkedModule
linked_module before p = record {
  name = p.name;
  tree = p.tree;
  numbers = record {
    functions = numbers_behind Func before p.tree;
    tables = numbers_behind Table before p.tree;
    memories = numbers_behind Memory before p.tree;
    globals = numbers_behind Global before p.tree;
  };
}

abbrev pub with_linked : List LinkedModule → NamedModule → List LinkedModule
with_linked before p = before ++ linked_module before p ∷ []

-- the parts of a set with their numbers
abbrev pub linked : ModuleSet → List LinkedModule
linked set = fold with_linked [] set

-- the number that an index of a kind leads to, in the part of that index
abbrev pub number_in : ModuleSet → ExternTag → ℕ → ℕ → Option ℕ
number_in set tag part index =
    option_and_then (λ p. slice_get (numbers_of tag p.numbers) index) (slice_get (linked set) part)

-- ---- who defines a function

-- the functions that a part defines, by the part's index and theirs
abbrev pub owned : ℕ → Module Label → List (ℕ × ℕ)
owned part m = map (λ index. (part, index)) (range_with_len (imported_count m) (length m.functions))

abbrev pub owners_from : ℕ → ModuleSet → List (ℕ × ℕ)
owners_from part [] = []
owners_from part (p ∷ set) = owned part p.tree ++ owners_from (part + 1) set

-- for each function of the store the part that defines it, and its index there
abbrev pub owners : ModuleSet → List (ℕ × ℕ)
owners set = owners_from 0 set
