-- The placed module has the forms that spelled modules have, where the plain one has them.
use Rattle.std.proofs.Common.{◌≡◌, ◌≤◌, ℕ, ◌+◌, suc, List, [], ◌∷◌, ◌++◌, length, Option, Some, None, refl, sym, ◌∙◌, ap, subst}
use Rattle.std.proofs.lemmas.List.{length-append}
use Rattle.std.proofs.lemmas.List.Elements.{recursion_from_All, All-from_recursion}
use Rattle.std.specs.List.{AllByRecursion}
use Rattle.std.specs.Prelude.{option_map}
use Rattle.ctw_ops.specs.declared.types.Label.{Label}
use Rattle.ctw_ops.specs.declared.types.Limits.{Limits}
use Rattle.ctw_ops.specs.Types.{FunctionType, MemoryType}
use Rattle.ctw_ops.specs.Tree.{TypeEntry, Extern, ImportedFunction, ImportedTable, ImportedMemory, ImportedGlobal, Import, Constant, Number, ValueOf, Global, Module}
use Rattle.ctw_ops.specs.Typing.{optional}
use Rattle.ctw_ops.specs.Once.{with_table, with_memory, imported_tables, imported_memories}
use Rattle.ctw_ops.specs.Valid.{IsFitting, IsFormed}
use Rattle.ctw_labels.specs.Names.{Tag, At}
use Rattle.ctw_labels.specs.Points.{Points}
use Rattle.ctw_labels.specs.SitedModule.{first_global, first_defined_global}
use Rattle.ctw_labels.specs.Placed.{placed_constant, placed_memory, placed_extern, next_number, next_function, next_global, placed_imports, placed_globals, placed_module}

fits_placed : (l : Label) (c : Constant Label) → IsFitting c → IsFitting (placed_constant l c)
fits_placed l (Number t bits) h = h
fits_placed l (ValueOf k) h = tt

module _ (L : Tag → Label) (name : ℕ → FunctionType Label → ℕ) (m : Module Label) (p : Points) where
  tables_placed : (j q n : ℕ) (is : List (Import Label)) → imported_tables (placed_imports L name m p j q n is) ≡ imported_tables is
  tables_placed j q n [] = refl
  tables_placed j q n (i ∷ is) = by_kind i.kind (λ f r s. tables_placed f r s is)
    where
      by_kind : (k : Extern Label) → ((f r s : ℕ) → imported_tables (placed_imports L name m p f r s is) ≡ imported_tables is) →
          with_table (placed_extern L name m p j q n k) (imported_tables (placed_imports L name m p (next_number L name m p k j) (next_function L name m p k q) (next_global L name m p k n) is)) ≡ with_table k (imported_tables is)
      by_kind (ImportedFunction y) h = h _ _ _
      by_kind (ImportedTable limits) h = ap (λ (l : List Limits). limits ∷ l) (h _ _ _)
      by_kind (ImportedMemory t) h = h _ _ _
      by_kind (ImportedGlobal g) h = h _ _ _

  memories_placed : (j q n : ℕ) (is : List (Import Label)) → length (imported_memories (placed_imports L name m p j q n is)) ≡ length (imported_memories is)
  memories_placed j q n [] = refl
  memories_placed j q n (i ∷ is) = by_kind i.kind (λ f r s. memories_placed f r s is)
    where
      by_kind : (k : Extern Label) → ((f r s : ℕ) → length (imported_memories (placed_imports L name m p f r s is)) ≡ length (imported_memories is)) →
          length (with_memory (placed_extern L name m p j q n k) (imported_memories (placed_imports L name m p (next_number L name m p k j) (next_function L name m p k q) (next_global L name m p k n) is))) ≡ length (with_memory k (imported_memories is))
      by_kind (ImportedFunction y) h = h _ _ _
      by_kind (ImportedTable limits) h = h _ _ _
      by_kind (ImportedMemory t) h = ap suc (h _ _ _)
      by_kind (ImportedGlobal g) h = h _ _ _

  memory_counted : (d : Option (MemoryType Label)) → length (optional (option_map (placed_memory L m) d)) ≡ length (optional d)
  memory_counted None = refl
  memory_counted (Some t) = refl

  globals_fit : (n : ℕ) (gs : List (Global Label)) → AllByRecursion (λ g. IsFitting g.init) gs → AllByRecursion (λ g. IsFitting g.init) (placed_globals L n gs)
  globals_fit n [] h = tt
  globals_fit n (g ∷ gs) h = (fits_placed (L (At n)) g.init h.0, globals_fit (n + 1) gs h.1)

  pub formed_placed : (types : List (TypeEntry Label)) → IsFormed m → IsFormed (placed_module L name m p types)
  formed_placed types f = record {
    tables = subst (λ (l : List Limits). length (l ++ optional m.table) ≤ 1) (sym (tables_placed 0 0 (first_global m) m.imports)) f.tables;
    memories = subst (λ k. k ≤ 1) (sym same_count) f.memories;
    globals = All-from_recursion (λ (g : Global Label). IsFitting g.init) (placed_globals L (first_defined_global m) m.globals) (globals_fit (first_defined_global m) m.globals (recursion_from_All (λ (g : Global Label). IsFitting g.init) m.globals f.globals));
    elements = f.elements;
    segments = f.segments;
    plain = λ e. absurd cc;
  }
    where
      same_count : length (imported_memories (placed_imports L name m p 0 0 (first_global m) m.imports) ++ optional (option_map (placed_memory L m) m.memory)) ≡ length (imported_memories m.imports ++ optional m.memory)
      same_count =
          length-append (imported_memories (placed_imports L name m p 0 0 (first_global m) m.imports)) (optional (option_map (placed_memory L m) m.memory))
          ∙ ap (λ k. k + length (optional (option_map (placed_memory L m) m.memory))) (memories_placed 0 0 (first_global m) m.imports)
          ∙ ap (λ k. length (imported_memories m.imports) + k) (memory_counted m.memory)
          ∙ sym (length-append (imported_memories m.imports) (optional m.memory))
