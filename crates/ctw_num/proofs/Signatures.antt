-- What an operation's opcode says of its signature, and which opcodes a signature has.
use Rattle.std.proofs.Common.{◌≡◌, ℕ, true, false, ◌==◌, ◌||◌, Option, Some, None, refl, sym, ap, ◌∙◌, arith}
use Rattle.std.proofs.lemmas.Bool.{eqb-true}
use Rattle.std.proofs.lemmas.Bool.Decides.{nat_tests}
use Rattle.ctw_ops.specs.declared.types.Width.{Width}
use Rattle.ctw_ops.specs.declared.types.Width.TheVariants.{W32, W64}
use Rattle.ctw_ops.specs.declared.numeric.NumSig.{NumSig}
use Rattle.ctw_ops.specs.Numeric.{within, num_sig_of}

-- two operands of 64 bits give 64 bits, but for the comparisons
pub two_wide : (op : ℕ) (sig : NumSig) → num_sig_of op ≡ Some sig → sig.arity ≡ 2 → sig.operand ≡ W64 → within 0x51 0x5A op ≡ false → sig.result ≡ W64
unfolding num_sig_of
two_wide op sig s h k e = grind (arith, nat_tests)

-- the timed operations
pub timed_wide : (op : ℕ) (sig : NumSig) → num_sig_of op ≡ Some sig → within 0x7F 0x82 op ≡ true → sig.operand ≡ W64
unfolding num_sig_of
timed_wide op sig s h = grind (arith, nat_tests)

pub timed_narrow : (op : ℕ) (sig : NumSig) → num_sig_of op ≡ Some sig → within 0x6D 0x70 op ≡ true → sig.operand ≡ W32
unfolding num_sig_of
timed_narrow op sig s h = grind (arith, nat_tests)

-- the opcodes by how many operands they have, of which width
pub one_narrow : (op : ℕ) (sig : NumSig) → num_sig_of op ≡ Some sig → sig.arity ≡ 1 → sig.operand ≡ W32 → (op == 0x45 || within 0x67 0x69 op || within 0xAC 0xAD op || within 0xC0 0xC1 op) ≡ true
unfolding num_sig_of
one_narrow op sig s h k = grind (arith, nat_tests)

pub one_wide : (op : ℕ) (sig : NumSig) → num_sig_of op ≡ Some sig → sig.arity ≡ 1 → sig.operand ≡ W64 → (op == 0x50 || within 0x79 0x7B op || op == 0xA7 || within 0xC2 0xC4 op) ≡ true
unfolding num_sig_of
one_wide op sig s h k = grind (arith, nat_tests)

pub two_narrow : (op : ℕ) (sig : NumSig) → num_sig_of op ≡ Some sig → sig.arity ≡ 2 → sig.operand ≡ W32 → (within 0x46 0x4F op || within 0x6A 0x78 op) ≡ true
unfolding num_sig_of
two_narrow op sig s h k = grind (arith, nat_tests)

pub two_wide_codes : (op : ℕ) (sig : NumSig) → num_sig_of op ≡ Some sig → sig.arity ≡ 2 → sig.operand ≡ W64 → (within 0x51 0x5A op || within 0x7C 0x8A op) ≡ true
unfolding num_sig_of
two_wide_codes op sig s h k = grind (arith, nat_tests)

-- the width of the result of one opcode
abbrev pub result_in : Option NumSig → Width
result_in None = W64
result_in (Some sig) = sig.result

pub result_at : (k op : ℕ) (sig : NumSig) (w : Width) → num_sig_of op ≡ Some sig → (op == k) ≡ true → result_in (num_sig_of k) ≡ w → sig.result ≡ w
result_at k op sig w s e f = ap result_in (sym s ∙ ap num_sig_of (eqb-true op k e)) ∙ f

pub extends : (op : ℕ) (sig : NumSig) → num_sig_of op ≡ Some sig → (op == 0xAC) ≡ true → sig.result ≡ W64
unfolding num_sig_of
extends op sig s e = result_at 0xAC op sig W64 s e refl

pub extends8 : (op : ℕ) (sig : NumSig) → num_sig_of op ≡ Some sig → (op == 0xC2) ≡ true → sig.result ≡ W64
unfolding num_sig_of
extends8 op sig s e = result_at 0xC2 op sig W64 s e refl

pub extends16 : (op : ℕ) (sig : NumSig) → num_sig_of op ≡ Some sig → (op == 0xC3) ≡ true → sig.result ≡ W64
unfolding num_sig_of
extends16 op sig s e = result_at 0xC3 op sig W64 s e refl

pub extends32 : (op : ℕ) (sig : NumSig) → num_sig_of op ≡ Some sig → (op == 0xC4) ≡ true → sig.result ≡ W64
unfolding num_sig_of
extends32 op sig s e = result_at 0xC4 op sig W64 s e refl
