use Rattle.std.proofs.Common.{◌≡◌, List, [], map, refl}
use Rattle.ctw_ops.specs.declared.types.Label.{Label}
use Rattle.ctw_ops.specs.Code.{Leaf, CallIndirect, Classify, Declassify}
use Rattle.ctw_ops.specs.Tree.{TypeEntry}
use Rattle.ctw_ops.specs.IndirectCalls.{call_of}
use Rattle.ctw_ops.specs.Erasure.{base_of, erase_label, erase_leaf}
use Rattle.ctw_ops.proofs.TagMaps.{calls_of, opcodes_to, calls_to}
use Rattle.ctw_semantics.specs.Erased.{erase_value}
use Rattle.ctw_semantics.proofs.Placed.{stand_to}
use Rattle.ctw_semantics.proofs.laws.erased_code_keeps_its_form.Goals as goal

leaf_calls : (entries : List (TypeEntry Label)) (leaf : Leaf Label) → calls_of (erase_leaf entries leaf) ≡ map (base_of entries) (call_of leaf [])
leaf_calls entries (CallIndirect index) = refl
leaf_calls entries (Classify w) = refl
leaf_calls entries (Declassify w) = refl
leaf_calls entries leaf = refl

pub returns-clause-opcodes : goal.returns-clause-opcodes
returns-clause-opcodes c entries code = opcodes_to erase_label (erase_leaf entries) code

pub returns-clause-calls : goal.returns-clause-calls
returns-clause-calls c entries code = calls_to erase_label (erase_leaf entries) (base_of entries) (leaf_calls entries) code

pub returns-clause-places : goal.returns-clause-places
returns-clause-places c entries = stand_to erase_label (erase_leaf entries) (map erase_value)
