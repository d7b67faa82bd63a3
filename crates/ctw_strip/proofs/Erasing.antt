-- What opcodes, functions and locals become.
use Rattle.std.proofs.Common.{◌≡◌, ℕ, suc, ◌-◌, Bool, true, false, List, [], ◌∷◌, ◌++◌, length, map, slice_get, flat_map, Some, None, refl, sym, ap, ap₂, ◌∙◌, append-nil}
use Rattle.std.specs.Prelude.{nat_lt, cond}
use Rattle.ctw_ops.specs.declared.types.Label.{Label}
use Rattle.ctw_ops.specs.Code.{Leaf, CallIndirect, Classify, Declassify, Code, Op, Plain, Opens, Closes, opcodes}
use Rattle.ctw_ops.specs.TagMaps.{op_to}
use Rattle.ctw_ops.specs.Tree.{Module, TypeEntry, Extern, ImportedFunction, ImportedTable, ImportedMemory, ImportedGlobal, Import, Function, Constant, Number, ValueOf, with_function, imported_functions}
use Rattle.ctw_ops.specs.Valid.{IsFitting}
use Rattle.ctw_ops.specs.Erasure.{erase_label, erase_leaf, erase_code, erase_extern, erase_import, erase_function, erase_constant, erase_module}
use Rattle.ctw_ops.proofs.TagMaps.{opcodes_to}
use Rattle.ctw_module.specs.Lookup.{imported_count, function_named}
use Rattle.ctw_write.specs.Canon.{all_texts, op_text, body_text}
use Rattle.ctw_write.proofs.Pieces.{all_texts-append}
use Rattle.ctw_strip.specs.Stripped.{erased_text}
use Rattle.ctw_strip.proofs.Mapped.{mapped_at}

-- ---- opcodes

module _ (entries : List (TypeEntry Label)) where
  leaf_texts : (leaf : Leaf Label) → all_texts op_text (map Plain (erase_leaf entries leaf)) ≡ erased_text entries (Plain leaf)
  leaf_texts (CallIndirect index) = append-nil _
  leaf_texts (Classify w) = refl
  leaf_texts (Declassify w) = refl
  leaf_texts leaf = append-nil _

  op_texts : (op : Op Label) → all_texts op_text (op_to erase_label (erase_leaf entries) op) ≡ erased_text entries op
  op_texts (Plain leaf) = leaf_texts leaf
  op_texts (Opens shape t) = append-nil _
  op_texts (Closes closer) = append-nil _

  ops_texts : (ops : List (Op Label)) → all_texts op_text (flat_map (op_to erase_label (erase_leaf entries)) ops) ≡ all_texts (erased_text entries) ops
  ops_texts [] = refl
  ops_texts (op ∷ ops) =
      all_texts-append op_text (op_to erase_label (erase_leaf entries) op) (flat_map (op_to erase_label (erase_leaf entries)) ops)
      ∙ ap₂ (λ (l r : List ℕ). l ++ r) (op_texts op) (ops_texts ops)

  -- the texts that opcodes become are those of the code that theirs becomes
  pub body_erased : (code : Code Label) → all_texts (erased_text entries) (opcodes code) ≡ body_text (erase_code entries code)
  body_erased code = sym (ops_texts (opcodes code)) ∙ ap (all_texts op_text) (sym (opcodes_to erase_label (erase_leaf entries) code))

-- ---- constants

pub fitting_erased : (c : Constant Label) → IsFitting c → IsFitting (erase_constant c)
fitting_erased (Number type bits) h = h
fitting_erased (ValueOf x) h = h

-- ---- functions

imported_erased : (entries : List (TypeEntry Label)) (l : List (Import Label)) → length (imported_functions (map (erase_import entries) l)) ≡ length (imported_functions l)
imported_erased entries [] = refl
imported_erased entries (i ∷ l) = go i.kind (imported_erased entries l)
  where
    go : (e : Extern Label) → length (imported_functions (map (erase_import entries) l)) ≡ length (imported_functions l)
        → length (with_function (erase_extern entries e) (imported_functions (map (erase_import entries) l))) ≡ length (with_function e (imported_functions l))
    go (ImportedFunction type) h = ap suc h
    go (ImportedTable limits) h = h
    go (ImportedMemory type) h = h
    go (ImportedGlobal type) h = h

chosen : (functions : List (Function Label)) (g : Function Label → Function Label) (b : Bool) (k : ℕ) (function : Function Label) → cond b None (slice_get functions k) ≡ Some function → cond b None (slice_get (map g functions) k) ≡ Some (g function)
chosen functions g true k function e = absurd cc
chosen functions g false k function e = mapped_at g functions k function e

-- the erased function has the same index
pub named_erased : (m : Module Label) (f : ℕ) (function : Function Label) → function_named m f ≡ Some function → function_named (erase_module m) f ≡ Some (erase_function m.types function)
named_erased m f function e =
    ap (λ (n : ℕ). cond (nat_lt f n) None (slice_get (map (erase_function m.types) m.functions) (f - n))) (imported_erased m.types m.imports)
    ∙ chosen m.functions (erase_function m.types) (nat_lt f (imported_count m)) (f - imported_count m) function e
