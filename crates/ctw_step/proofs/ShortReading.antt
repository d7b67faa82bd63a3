-- Short instructions in bytes.
use Rattle.std.proofs.Common.{◌≡◌, ℕ, ◌+◌, ◌<◌, true, List, [], ◌∷◌, ◌++◌, drop, length, None, Ok, refl, sym, subst, append-nil, arith}
use Rattle.ctw_ops.specs.declared.types.Label.TheVariants.{Public}
use Rattle.ctw_ops.specs.declared.types.Width.TheVariants.{W32}
use Rattle.ctw_ops.specs.Code as ops
use Rattle.ctw_ops.specs.Code.{Plain}
use Rattle.ctw_ops.specs.Numeric.{is_numeric}
use Rattle.ctw_leb.specs.Numbers.{IsS32}
use Rattle.ctw_flat.specs.declared.opcode.Bare.{Bare}
use Rattle.ctw_flat.specs.declared.opcode.Indexed.{Indexed}
use Rattle.ctw_flat.specs.declared.opcode.Opener.{Opener}
use Rattle.ctw_flat.specs.declared.opcode.Form.TheVariants as form
use Rattle.ctw_flat.specs.declared.opcode.First.TheVariants.{Direct}
use Rattle.ctw_flat.specs.Opcodes.{bare_opcode, block_type, indexed_opcode, opener_opcode}
use Rattle.ctw_flat.specs.Spelled.{bare_op, indexed_leaf, shape_of}
use Rattle.ctw_flat.specs.Places.{instr_in}
use Rattle.ctw_flat.proofs.OpcodeBytes.{form_there}
use Rattle.ctw_flat.proofs.Places.{spelled_instr}

module _ (bytes tail : List ℕ) (at : ℕ) where
  -- an opcode with an index of one byte
  pub indexed_reads : (x : Indexed) (n : ℕ) → drop at bytes ≡ indexed_opcode x ∷ n ∷ tail → n < 128 → instr_in bytes at ≡ Ok (Plain (indexed_leaf x n), at + 2)
  indexed_reads x n e l =
      spelled_instr bytes at (indexed_opcode x ∷ n ∷ []) tail (Plain (indexed_leaf x n))
      (Direct (form.Indexed x), indexed_opcode x ∷ [], n ∷ [], (indexed_opcode x, refl, form_there (form.Indexed x) tt), (n, n ∷ [], [], (l, omega (arith, l), refl), (refl, refl), refl), refl) e

  -- a constant of 32 bits
  pub constant_reads : (text : List ℕ) (n next : ℕ) → drop at bytes ≡ 0x41 ∷ (text ++ tail) → IsS32 text n → next ≡ at + 1 + length text → instr_in bytes at ≡ Ok (Plain (ops.Const W32 Public n), next)
  constant_reads text n next e m l =
      let q : at + length (0x41 ∷ text) ≡ next = omega (arith, l) in
      subst (λ next. instr_in bytes at ≡ Ok (Plain (ops.Const W32 Public n), next)) q
      (spelled_instr bytes at (0x41 ∷ text) tail (Plain (ops.Const W32 Public n))
      (Direct (form.Const W32), 0x41 ∷ [], text, (0x41, refl, form_there (form.Const W32) tt), (n, text, [], m, (refl, refl), sym (append-nil text)), refl) e)

  pub select_reads : drop at bytes ≡ 0x1B ∷ tail → instr_in bytes at ≡ Ok (Plain (ops.Select Public), at + 1)
  select_reads e =
      spelled_instr bytes at (0x1B ∷ []) tail (Plain (ops.Select Public))
      (Direct form.Select, 0x1B ∷ [], [], (0x1B, refl, form_there form.Select tt), (refl, refl), refl) e

  pub numeric_reads : (op : ℕ) → drop at bytes ≡ op ∷ tail → is_numeric op ≡ true → instr_in bytes at ≡ Ok (Plain (ops.Numeric op Public), at + 1)
  numeric_reads op e l =
      spelled_instr bytes at (op ∷ []) tail (Plain (ops.Numeric op Public))
      (Direct (form.Numeric op), op ∷ [], [], (op, refl, form_there (form.Numeric op) l), (refl, refl), refl) e

  -- a block without a result
  pub opens_reads : (o : Opener) → drop at bytes ≡ opener_opcode o ∷ 0x40 ∷ tail → instr_in bytes at ≡ Ok (ops.Opens (shape_of o) None, at + 2)
  unfolding block_type
  opens_reads o e =
      spelled_instr bytes at (opener_opcode o ∷ 0x40 ∷ []) tail (ops.Opens (shape_of o) None)
      (Direct (form.Opens o), opener_opcode o ∷ [], 0x40 ∷ [], (opener_opcode o, refl, form_there (form.Opens o) tt), (None, 0x40 ∷ [], [], (0x40, refl, refl), (refl, refl), refl), refl) e

  pub bare_reads : (b : Bare) → drop at bytes ≡ bare_opcode b ∷ tail → instr_in bytes at ≡ Ok (bare_op b, at + 1)
  bare_reads b e =
      spelled_instr bytes at (bare_opcode b ∷ []) tail (bare_op b)
      (Direct (form.Bare b), bare_opcode b ∷ [], [], (bare_opcode b, refl, form_there (form.Bare b) tt), (refl, refl), refl) e
