-- An `end` and an `else` are one byte.
use Rattle.std.proofs.Common.{◌≡◌, ℕ, ◌+◌, true, List, [], ◌++◌, length, Result, Ok, Err, sym, ap, ◌∙◌, inl, inr}
use Rattle.ctw_ops.specs.declared.types.Label.{Label}
use Rattle.ctw_ops.specs.declared.types.Label.TheVariants.{Public, Secret}
use Rattle.ctw_ops.specs.Code.{Closer, Closes}
use Rattle.ctw_leb.proofs.Exact.{ok_is, err_ok, chosen}
use Rattle.ctw_flat.specs.declared.fault.CodeKind.{CodeKind}
use Rattle.ctw_flat.specs.declared.fault.CodeKind.TheVariants.{BadOpcode}
use Rattle.ctw_flat.specs.declared.opcode.Form.{Form}
use Rattle.ctw_flat.specs.declared.opcode.Form.TheVariants as form
use Rattle.ctw_flat.specs.declared.opcode.First.{First}
use Rattle.ctw_flat.specs.declared.opcode.First.TheVariants.{Direct, Prefix}
use Rattle.ctw_flat.specs.Opcodes.{secret_form, has_secret_form, if_secret}
use Rattle.ctw_flat.specs.Opcodes as table
use Rattle.ctw_flat.specs.Spelled.{Immediate, Behind, IsOp}
use Rattle.ctw_flat.specs.Places.{instr_in}
use Rattle.ctw_flat.proofs.Places.{instr_spelled}

closer_alone : (label : Label) (f : Form) (y : List ℕ) (k : Closer) → Immediate label f y (Closes k) → y ≡ []
closer_alone label (form.Bare b) y k m = m.0
closer_alone label (form.Opens o) y k m = absurd cc
closer_alone label (form.Indexed x) y k m = absurd cc
closer_alone label form.BrTable y k m = absurd cc
closer_alone label form.CallIndirect y k m = absurd cc
closer_alone label form.MemorySize y k m = absurd cc
closer_alone label form.MemoryGrow y k m = absurd cc
closer_alone label form.Select y k m = absurd cc
closer_alone label (form.Access a) y k m = absurd cc
closer_alone label (form.Const width) y k m = absurd cc
closer_alone label (form.Numeric op) y k m = absurd cc

secret_closer : (f : Form) (y : List ℕ) (k : Closer) → has_secret_form f ≡ true → Immediate Secret f y (Closes k) → ⊥
secret_closer (form.Bare b) y k h m = cc
secret_closer (form.Opens o) y k h m = cc
secret_closer (form.Indexed x) y k h m = cc
secret_closer form.BrTable y k h m = cc
secret_closer form.CallIndirect y k h m = cc
secret_closer form.MemorySize y k h m = cc
secret_closer form.MemoryGrow y k h m = cc
secret_closer form.Select y k h m = cc
secret_closer (form.Access a) y k h m = cc
secret_closer (form.Const width) y k h m = cc
secret_closer (form.Numeric op) y k h m = cc

has_secret : (r : Result Form CodeKind) (f : Form) → if_secret r ≡ Ok f → has_secret_form f ≡ true
has_secret (Ok g) f e =
    elim (chosen (has_secret_form g) (Ok g) (Err BadOpcode) (Ok f) e) [
      | inl p ↦ ap has_secret_form (sym (ok_is {F = CodeKind} g f p.1)) ∙ p.0
      | inr p ↦ absurd (err_ok BadOpcode f p.1)
    ]
has_secret (Err kind) f e = absurd (err_ok kind f e)

secret_is : (byte : ℕ) (f : Form) → secret_form byte ≡ Ok f → has_secret_form f ≡ true
unfolding secret_form
secret_is byte f e = has_secret (table.form byte) f e

nothing_behind : (first : First) (y : List ℕ) (k : Closer) → Behind first y (Closes k) → y ≡ []
nothing_behind Prefix y k m = absurd (secret_closer m.0 m.2 k (secret_is m.3.0 m.0 m.3.2) m.4)
nothing_behind (Direct f) y k m = closer_alone Public f y k m

pub closer_size : (text : List ℕ) (k : Closer) → IsOp text (Closes k) → length text ≡ 1
closer_size text k m = ap length (m.5 ∙ ap (λ (l : List ℕ). m.1 ++ l) (nothing_behind m.0 m.2 k m.4) ∙ ap (λ (l : List ℕ). l ++ []) m.3.1)

pub behind_closer : (bytes : List ℕ) (at : ℕ) (k : Closer) (next : ℕ) → instr_in bytes at ≡ Ok (Closes k, next) → next ≡ at + 1
behind_closer bytes at k next e =
    let s = instr_spelled bytes at (Closes k) next e in
    s.4 ∙ ap (λ (n : ℕ). at + n) (closer_size s.0 k s.2)
