-- Opcodes and bodies that keep the limits are spelled by their canonical texts.
use Rattle.std.proofs.Common.{◌≡◌, ℕ, ◌<◌, ◌^◌, ◌≤◌, Bool, true, false, List, [], ◌∷◌, ◌++◌, length, refl, sym, append-nil, arith}
use Rattle.std.specs.List.{All, list_all}
use Rattle.std.proofs.lemmas.List.{length-append}
use Rattle.std.proofs.lemmas.List.Elements.{All-head, All-tail}
use Rattle.ctw_ops.specs.declared.types.Label.{Label}
use Rattle.ctw_ops.specs.declared.types.Label.TheVariants.{Public, Secret}
use Rattle.ctw_ops.specs.Limits.{most_nesting}
use Rattle.ctw_ops.specs.Plain.{is_plain_op, fits}
use Rattle.ctw_ops.specs.Code as ops
use Rattle.ctw_ops.specs.Code.{Leaf, Op, Plain, Opens, Closes, Code, opcodes}
use Rattle.ctw_leb.specs.Numbers.{IsU32}
use Rattle.ctw_leb.specs.Spelling.{u32_text}
use Rattle.ctw_flat.specs.declared.opcode.Bare.TheVariants as bare
use Rattle.ctw_flat.specs.declared.opcode.Opener.TheVariants as opener
use Rattle.ctw_flat.specs.declared.opcode.Indexed.{Indexed}
use Rattle.ctw_flat.specs.declared.opcode.Indexed.TheVariants as indexed
use Rattle.ctw_flat.specs.declared.opcode.Form.{Form}
use Rattle.ctw_flat.specs.declared.opcode.Form.TheVariants as form
use Rattle.ctw_flat.specs.declared.opcode.First.TheVariants.{Direct, Prefix}
use Rattle.ctw_flat.specs.Opcodes.{has_secret_form, opcode_byte, prefix_byte, load_form, store_form}
use Rattle.ctw_flat.specs.Instructions.{IsOpcode}
use Rattle.ctw_flat.proofs.OpcodeBytes.{form_there, secret_there, prefix_there}
use Rattle.ctw_flat.specs.Spelled.{indexed_leaf, Immediate, IsOp, IsOps, height}
use Rattle.ctw_form.specs.Spelled.{IsFormBody}
use Rattle.ctw_write.specs.Canon.{all_texts, vector_text, in_form, bits_text, block_type_byte, leaf_text, op_text, body_text}
use Rattle.ctw_write.specs.KeepsLimits.{Is32, IsShort, IsLimitedLeaf, IsLimitedOp}
use Rattle.ctw_write.proofs.FormedNumbers.{number_spelled, number_some, bits_spelled, vector_spelled, count_short, items_short, vector_short}
use Rattle.ctw_write.proofs.FormedBytes.{block_there}

-- what has a secret form is spelled by the form of its label
form_spelled : (l : Label) (f : Form) (text : List ℕ) (op : Op Label) → IsOpcode f → has_secret_form f ≡ true → Immediate l f text op → IsOp (in_form l (opcode_byte f ∷ text)) op
form_spelled Public f text op h s m = (Direct f, opcode_byte f ∷ [], text, (opcode_byte f, refl, form_there f h), m, refl)
form_spelled Secret f text op h s m = (Prefix, prefix_byte ∷ [], opcode_byte f ∷ text, (prefix_byte, refl, prefix_there), (f, opcode_byte f ∷ [], text, (opcode_byte f, refl, secret_there f h s), m, refl), refl)

-- ---- the other instructions

direct_spelled : (f : Form) (text : List ℕ) (op : Op Label) → IsOpcode f → Immediate Public f text op → IsOp (opcode_byte f ∷ text) op
direct_spelled f text op h m = (Direct f, opcode_byte f ∷ [], text, (opcode_byte f, refl, form_there f h), m, refl)

indexed_spelled : (x : Indexed) (n : ℕ) → Is32 n → IsOp (opcode_byte (form.Indexed x) ∷ u32_text n) (Plain (indexed_leaf x n))
indexed_spelled x n lt = direct_spelled (form.Indexed x) (u32_text n) (Plain (indexed_leaf x n)) tt (n, u32_text n, [], number_spelled n lt, (refl, refl), sym (append-nil (u32_text n)))

targets_short : (targets : List ℕ) (n : ℕ) → length (leaf_text (ops.BrTable targets n)) < 2 ^ 32 → Is32 (length targets)
targets_short targets n lt =
    omega (arith, count_short u32_text number_some targets, vector_short u32_text targets, length-append (vector_text u32_text targets) (u32_text n))

leaf_spelled : (leaf : Leaf Label) → IsLimitedLeaf leaf → IsShort (leaf_text leaf) → IsOp (leaf_text leaf) (Plain leaf)
leaf_spelled ops.Unreachable h lt = direct_spelled (form.Bare bare.Unreachable) [] _ tt (refl, refl)
leaf_spelled ops.Nop h lt = direct_spelled (form.Bare bare.Nop) [] _ tt (refl, refl)
leaf_spelled (ops.Br depth) h lt = indexed_spelled indexed.Br depth h
leaf_spelled (ops.BrIf depth) h lt = indexed_spelled indexed.BrIf depth h
leaf_spelled (ops.BrTable targets n) h lt =
    direct_spelled form.BrTable (vector_text u32_text targets ++ u32_text n) _ tt (
      targets,
      vector_text u32_text targets,
      u32_text n,
      vector_spelled IsU32 u32_text targets (targets_short targets n lt) (λ i d within. number_spelled _ (h.0 i d within)),
      (n, u32_text n, [], number_spelled n h.1, (refl, refl), sym (append-nil (u32_text n))),
      refl,
    )
leaf_spelled ops.Return h lt = direct_spelled (form.Bare bare.Return) [] _ tt (refl, refl)
leaf_spelled (ops.Call index) h lt = indexed_spelled indexed.Call index h
leaf_spelled (ops.CallIndirect index) h lt =
    direct_spelled form.CallIndirect (u32_text index ++ 0x00 ∷ []) _ tt (index, u32_text index, 0x00 ∷ [], number_spelled index h, (tt, 0x00 ∷ [], [], (0x00, refl, refl), (refl, refl), refl), refl)
leaf_spelled ops.Drop h lt = direct_spelled (form.Bare bare.Drop) [] _ tt (refl, refl)
leaf_spelled (ops.Select l) h lt = form_spelled l form.Select [] _ tt refl (refl, refl)
leaf_spelled (ops.LocalGet index) h lt = indexed_spelled indexed.LocalGet index h
leaf_spelled (ops.LocalSet index) h lt = indexed_spelled indexed.LocalSet index h
leaf_spelled (ops.LocalTee index) h lt = indexed_spelled indexed.LocalTee index h
leaf_spelled (ops.GlobalGet index) h lt = indexed_spelled indexed.GlobalGet index h
leaf_spelled (ops.GlobalSet index) h lt = indexed_spelled indexed.GlobalSet index h
leaf_spelled (ops.Load w l bytes signed align offset) h lt =
    form_spelled l (load_form w bytes signed) (u32_text align ++ u32_text offset) _ h.0 refl
    (align, u32_text align, u32_text offset, number_spelled align h.1, (offset, u32_text offset, [], number_spelled offset h.2, (refl, refl), sym (append-nil (u32_text offset))), refl)
leaf_spelled (ops.Store w l bytes align offset) h lt =
    form_spelled l (store_form w bytes) (u32_text align ++ u32_text offset) _ h.0 refl
    (align, u32_text align, u32_text offset, number_spelled align h.1, (offset, u32_text offset, [], number_spelled offset h.2, (refl, refl), sym (append-nil (u32_text offset))), refl)
leaf_spelled ops.MemorySize h lt = direct_spelled form.MemorySize (0x00 ∷ []) _ tt (tt, 0x00 ∷ [], [], (0x00, refl, refl), (refl, refl), refl)
leaf_spelled ops.MemoryGrow h lt = direct_spelled form.MemoryGrow (0x00 ∷ []) _ tt (tt, 0x00 ∷ [], [], (0x00, refl, refl), (refl, refl), refl)
leaf_spelled (ops.Const w l bits) h lt = form_spelled l (form.Const w) (bits_text w bits) _ tt refl (bits, bits_text w bits, [], bits_spelled w bits h, (refl, refl), sym (append-nil (bits_text w bits)))
leaf_spelled (ops.Numeric op l) h lt = form_spelled l (form.Numeric op) [] _ h refl (refl, refl)
leaf_spelled (ops.Classify w) h lt = direct_spelled (form.Bare (bare.Classify w)) [] _ tt (refl, refl)
leaf_spelled (ops.Declassify w) h lt = direct_spelled (form.Bare (bare.Declassify w)) [] _ tt (refl, refl)

op_spelled : (op : Op Label) → IsLimitedOp op → IsShort (op_text op) → IsOp (op_text op) op
op_spelled (Plain leaf) h lt = leaf_spelled leaf h lt
op_spelled (Opens ops.OfBlock t) h lt = direct_spelled (form.Opens opener.Block) (block_type_byte t ∷ []) _ tt (t, block_type_byte t ∷ [], [], (block_type_byte t, refl, block_there t), (refl, refl), refl)
op_spelled (Opens ops.OfLoop t) h lt = direct_spelled (form.Opens opener.Loop) (block_type_byte t ∷ []) _ tt (t, block_type_byte t ∷ [], [], (block_type_byte t, refl, block_there t), (refl, refl), refl)
op_spelled (Opens ops.OfIf t) h lt = direct_spelled (form.Opens opener.If) (block_type_byte t ∷ []) _ tt (t, block_type_byte t ∷ [], [], (block_type_byte t, refl, block_there t), (refl, refl), refl)
op_spelled (Closes ops.ByElse) h lt = direct_spelled (form.Bare bare.Else) [] _ tt (refl, refl)
op_spelled (Closes ops.ByEnd) h lt = direct_spelled (form.Bare bare.End) [] _ tt (refl, refl)

ops_spelled : (ops : List (Op Label)) → All IsLimitedOp ops → All (λ op. IsShort (op_text op)) ops → IsOps (all_texts op_text ops) ops
ops_spelled [] h short = refl
ops_spelled (op ∷ ops) h short =
    let first = op_spelled op (All-head IsLimitedOp op ops h) (All-head (λ o. IsShort (op_text o)) op ops short) in
    (op_text op, all_texts op_text ops, first, ops_spelled ops (All-tail IsLimitedOp op ops h) (All-tail (λ o. IsShort (op_text o)) op ops short), refl)

-- ---- bodies

all_fit : (ops : List (Op Label)) → list_all (fits true) ops ≡ true
all_fit [] = refl
all_fit (op ∷ ops) = all_fit ops

plain_fit : (ct : Bool) (ops : List (Op Label)) → (ct ≡ false → list_all is_plain_op ops ≡ true) → list_all (fits ct) ops ≡ true
plain_fit true ops h = all_fit ops
plain_fit false ops h = h refl

pub body_spelled : (ct : Bool) (code : Code Label) → All IsLimitedOp (opcodes code) → height code ≤ most_nesting → (ct ≡ false → list_all is_plain_op (opcodes code) ≡ true) → IsShort (body_text code) → IsFormBody ct (body_text code) code
body_spelled ct code h deep plain lt =
    ((ops_spelled (opcodes code) h (items_short op_text (2 ^ 32) (opcodes code) lt), deep), plain_fit ct (opcodes code) plain)
