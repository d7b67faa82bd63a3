-- The link table is right.
use Rattle.std.proofs.Common.{◌≡◌, ℕ, ◌+◌, false, List, [], ◌∷◌, length, refl}
use Rattle.std.specs.List.{AllByRecursion}
use Rattle.std.specs.Prelude.{◌↔◌}
use Rattle.ctw_ops.specs.declared.types.Label.{Label}
use Rattle.ctw_ops.specs.declared.types.Trust.TheVariants.{Untrusted}
use Rattle.ctw_ops.specs.Code.{Leaf, Call, Code, Stop, Then, Block, Loop, If, IfElse}
use Rattle.ctw_ops.specs.Tree.{Module, Function, Element, imported_functions}
use Rattle.ctw_ops.specs.Valid.{IsValid}
use Rattle.ctw_labels.specs.Links.{at_tag, Obeys}
use Rattle.ctw_labels.specs.Points.{Points, no_points, has_number, AreReleases, KeepsLeaf, KeepsCode}
use Rattle.ctw_labels.specs.Kept.{KeepFunctions, IsKept}
use Rattle.ctw_ops.specs.Plain.{IsPlainModule}
use Rattle.ctw_labels.specs.ModuleLinks.{links, musts}
use Rattle.ctw_labels.specs.Placed.{placed, placed_types, variant_name, IsOrderly, AreUsersAlike}
use Rattle.ctw_labels.proofs.ModuleLaws.{table_right}
use Rattle.ctw_labels.proofs.VariantLaws.{variants_named, placed_entries}

-- for a plain valid module and kept points, a labelling obeys its links and its public sites just where it is orderly, the placed module is valid, and table users that erase alike have equal labels
pub links_right : (m : Module Label) → IsPlainModule m → IsValid m → (p : Points) → AreReleases p → IsKept m p → (l : ℕ → Label) →
    Obeys l (links m p) (musts m p) ↔ (IsOrderly (at_tag l) m p × IsValid (placed (at_tag l) m p) × AreUsersAlike (at_tag l) m p)
links_right m pl v p r k l = table_right m pl v p r k l (placed_types (at_tag l) m p) (variant_name (at_tag l) m p) (placed_entries (at_tag l) m pl v p r) (variants_named (at_tag l) m pl v p r)

-- ---- without points, trust is kept

code_kept : {S : Type 0} (c : Code S) → KeepsCode no_points Untrusted c
code_kept {S} Stop = tt
code_kept {S} (Then i rest) = (leaf i, code_kept rest)
  where
    leaf : (i : Leaf S) → KeepsLeaf no_points Untrusted i
    leaf (Call f) = refl
    leaf _ = tt
code_kept {S} (Block t body rest) = (code_kept body, code_kept rest)
code_kept {S} (Loop t body rest) = (code_kept body, code_kept rest)
code_kept {S} (If t arm rest) = (code_kept arm, code_kept rest)
code_kept {S} (IfElse t arm other rest) = (code_kept arm, code_kept other, code_kept rest)

functions_kept : (k : ℕ) (fs : List (Function Label)) → KeepFunctions no_points k fs
functions_kept k [] = tt
functions_kept k (f ∷ fs) = (code_kept f.body, functions_kept (k + 1) fs)

entries_kept : (fs : List ℕ) → AllByRecursion (λ f. has_number f no_points.trusted ≡ false) fs
entries_kept [] = tt
entries_kept (f ∷ fs) = (refl, entries_kept fs)

tables_kept : (es : List (Element Label)) → AllByRecursion (λ e. AllByRecursion (λ f. has_number f no_points.trusted ≡ false) e.functions) es
tables_kept [] = tt
tables_kept (e ∷ es) = (entries_kept e.functions, tables_kept es)

pub none_kept : (m : Module Label) → IsKept m no_points
none_kept m = record { calls = functions_kept (length (imported_functions m.imports)) m.functions; tables = tables_kept m.elements }
