-- The canonical texts of opcodes and bodies are spellings, and no longer than any other.
use Rattle.std.proofs.Common.{◌≡◌, ℕ, Bool, true, [], ◌∷◌, Option, refl, sym, true≢false}
use Rattle.ctw_ops.specs.ValueType.{ValueType}
use Rattle.ctw_ops.specs.declared.types.Label.{Label}
use Rattle.ctw_ops.specs.declared.types.Label.TheVariants.{Public, Secret}
use Rattle.ctw_ops.specs.Code as ops
use Rattle.ctw_ops.specs.Code.{Op, Plain, Code, opcodes}
use Rattle.ctw_leb.specs.Grammar.{◌>>=◌, OneOf, Just}
use Rattle.ctw_leb.specs.Numbers.{IsU32}
use Rattle.ctw_leb.specs.Vectors.{Vector}
use Rattle.ctw_leb.specs.Spelling.{u32_text}
use Rattle.ctw_flat.specs.declared.opcode.Bare.{Bare}
use Rattle.ctw_flat.specs.declared.opcode.Bare.TheVariants as bare
use Rattle.ctw_flat.specs.declared.opcode.Opener.{Opener}
use Rattle.ctw_flat.specs.declared.opcode.Opener.TheVariants as opener
use Rattle.ctw_flat.specs.declared.opcode.Indexed.{Indexed}
use Rattle.ctw_flat.specs.declared.opcode.Indexed.TheVariants as indexed
use Rattle.ctw_flat.specs.declared.opcode.Access.TheVariants as access
use Rattle.ctw_flat.specs.declared.opcode.Form.{Form}
use Rattle.ctw_flat.specs.declared.opcode.Form.TheVariants as form
use Rattle.ctw_flat.specs.declared.opcode.First.{First}
use Rattle.ctw_flat.specs.declared.opcode.First.TheVariants.{Direct, Prefix}
use Rattle.ctw_flat.specs.Opcodes.{opcode, has_secret_form, secret_form, block_type, reserved, opcode_byte}
use Rattle.ctw_flat.specs.Spelled.{bare_op, shape_of, indexed_leaf, Immediate, Behind, IsOp, IsBits}
use Rattle.ctw_form.specs.Spelled.{IsFormBody}
use Rattle.ctw_write.specs.Canon.{vector_text, in_form, bits_text, block_type_byte, op_text, body_text}
use Rattle.ctw_write.proofs.Settling.{Settles, settles_just, settles_then, settles_where, settles_byte, settles_items, settles_number, settles_bits, settles_vector}
use Rattle.ctw_flat.proofs.OpcodeBytes.{secret_is}
use Rattle.ctw_write.proofs.BytesOf.{first_byte, opcode_is, block_is, reserved_is}

-- ---- what has a secret form too

settles_both : (label : Label) (f : Form) → has_secret_form f ≡ true → Settles (in_form label (opcode_byte f ∷ [])) (Immediate label f) op_text
settles_both Public form.Select e = settles_just _ (Plain (ops.Select Public)) op_text refl
settles_both Secret form.Select e = settles_just _ (Plain (ops.Select Secret)) op_text refl
settles_both Public (form.Access (access.Load width bytes signed)) e =
    settles_then _ IsU32 _ u32_text op_text settles_number (λ align.
    settles_then _ IsU32 _ u32_text op_text settles_number (λ offset.
    settles_just _ (Plain (ops.Load width Public bytes signed align offset)) op_text refl))
settles_both Secret (form.Access (access.Load width bytes signed)) e =
    settles_then _ IsU32 _ u32_text op_text settles_number (λ align.
    settles_then _ IsU32 _ u32_text op_text settles_number (λ offset.
    settles_just _ (Plain (ops.Load width Secret bytes signed align offset)) op_text refl))
settles_both Public (form.Access (access.Store width bytes)) e =
    settles_then _ IsU32 _ u32_text op_text settles_number (λ align.
    settles_then _ IsU32 _ u32_text op_text settles_number (λ offset.
    settles_just _ (Plain (ops.Store width Public bytes align offset)) op_text refl))
settles_both Secret (form.Access (access.Store width bytes)) e =
    settles_then _ IsU32 _ u32_text op_text settles_number (λ align.
    settles_then _ IsU32 _ u32_text op_text settles_number (λ offset.
    settles_just _ (Plain (ops.Store width Secret bytes align offset)) op_text refl))
settles_both Public (form.Const width) e = settles_then _ (IsBits width) _ (bits_text width) op_text (settles_bits width) (λ bits. settles_just _ (Plain (ops.Const width Public bits)) op_text refl)
settles_both Secret (form.Const width) e = settles_then _ (IsBits width) _ (bits_text width) op_text (settles_bits width) (λ bits. settles_just _ (Plain (ops.Const width Secret bits)) op_text refl)
settles_both Public (form.Numeric op) e = settles_just _ (Plain (ops.Numeric op Public)) op_text refl
settles_both Secret (form.Numeric op) e = settles_just _ (Plain (ops.Numeric op Secret)) op_text refl
settles_both label (form.Bare b) e = absurd (true≢false (sym e))
settles_both label (form.Opens o) e = absurd (true≢false (sym e))
settles_both label (form.Indexed x) e = absurd (true≢false (sym e))
settles_both label form.BrTable e = absurd (true≢false (sym e))
settles_both label form.CallIndirect e = absurd (true≢false (sym e))
settles_both label form.MemorySize e = absurd (true≢false (sym e))
settles_both label form.MemoryGrow e = absurd (true≢false (sym e))

-- ---- the others

bare_written : (b : Bare) → op_text (bare_op b) ≡ opcode_byte (form.Bare b) ∷ []
bare_written bare.Unreachable = refl
bare_written bare.Nop = refl
bare_written bare.Else = refl
bare_written bare.End = refl
bare_written bare.Return = refl
bare_written bare.Drop = refl
bare_written (bare.Classify width) = refl
bare_written (bare.Declassify width) = refl

indexed_written : (x : Indexed) (n : ℕ) → op_text (Plain (indexed_leaf x n)) ≡ opcode_byte (form.Indexed x) ∷ u32_text n
indexed_written indexed.Br n = refl
indexed_written indexed.BrIf n = refl
indexed_written indexed.Call n = refl
indexed_written indexed.LocalGet n = refl
indexed_written indexed.LocalSet n = refl
indexed_written indexed.LocalTee n = refl
indexed_written indexed.GlobalGet n = refl
indexed_written indexed.GlobalSet n = refl

settles_reserved : (byte : ℕ) (op : Op Label) → op_text op ≡ byte ∷ 0x00 ∷ [] → Settles (byte ∷ []) (OneOf reserved >>= λ zero_byte. Just op) op_text
settles_reserved byte op e = settles_then (byte ∷ []) (OneOf reserved) _ (λ u. 0x00 ∷ []) op_text (settles_byte reserved (λ u. 0x00) reserved_is) (λ u. settles_just _ op op_text e)

opens_written : (o : Opener) (t : Option (ValueType Label)) → op_text (ops.Opens (shape_of o) t) ≡ opcode_byte (form.Opens o) ∷ block_type_byte t ∷ []
opens_written opener.Block t = refl
opens_written opener.Loop t = refl
opens_written opener.If t = refl

settles_immediate : (f : Form) → Settles (opcode_byte f ∷ []) (Immediate Public f) op_text
settles_immediate (form.Bare b) = settles_just _ (bare_op b) op_text (bare_written b)
settles_immediate (form.Opens o) =
    settles_then (opcode_byte (form.Opens o) ∷ []) (OneOf block_type) _ (λ t. block_type_byte t ∷ []) op_text (settles_byte block_type block_type_byte block_is) (λ t.
    settles_just _ (ops.Opens (shape_of o) t) op_text (opens_written o t))
settles_immediate (form.Indexed x) = settles_then _ IsU32 _ u32_text op_text settles_number (λ n. settles_just _ (Plain (indexed_leaf x n)) op_text (indexed_written x n))
settles_immediate form.BrTable =
    settles_then (0x0E ∷ []) (Vector IsU32) _ (vector_text u32_text) op_text (settles_vector IsU32 u32_text settles_number) (λ targets.
    settles_then _ IsU32 _ u32_text op_text settles_number (λ n.
    settles_just _ (Plain (ops.BrTable targets n)) op_text refl))
settles_immediate form.CallIndirect =
    settles_then (0x11 ∷ []) IsU32 _ u32_text op_text settles_number (λ n.
    settles_then (0x11 ∷ u32_text n) (OneOf reserved) _ (λ u. 0x00 ∷ []) op_text (settles_byte reserved (λ u. 0x00) reserved_is) (λ u. settles_just _ (Plain (ops.CallIndirect n)) op_text refl))
settles_immediate form.MemorySize = settles_reserved 0x3F (Plain ops.MemorySize) refl
settles_immediate form.MemoryGrow = settles_reserved 0x40 (Plain ops.MemoryGrow) refl
settles_immediate form.Select = settles_both Public form.Select refl
settles_immediate (form.Access a) = settles_both Public (form.Access a) refl
settles_immediate (form.Const width) = settles_both Public (form.Const width) refl
settles_immediate (form.Numeric op) = settles_both Public (form.Numeric op) refl

settles_first : (first : First) → Settles (first_byte first ∷ []) (Behind first) op_text
settles_first Prefix =
    settles_where (λ f. has_secret_form f ≡ true) (0xE0 ∷ []) (OneOf secret_form) (Immediate Secret) (λ f. opcode_byte f ∷ []) op_text (λ text f m. (secret_is m.0 f m.2).1)
    (settles_byte secret_form opcode_byte (λ b f e. (secret_is b f e).2)) (settles_both Secret)
settles_first (Direct f) = settles_immediate f

pub settles_op : Settles [] IsOp op_text
settles_op = settles_then [] (OneOf opcode) Behind (λ first. first_byte first ∷ []) op_text (settles_byte opcode first_byte opcode_is) settles_first

pub settles_body : (ct : Bool) → Settles [] (IsFormBody ct) body_text
settles_body ct = record {
  settled = λ text code m.
      let s = (settles_items {S = Unit {0}} (λ u. IsOp) (λ u op. u) op_text (λ u. settles_op) tt).settled text (opcodes code) m.0.0 in
      (s.0, ((s.1, m.0.1), m.1), s.2, s.3);
}
