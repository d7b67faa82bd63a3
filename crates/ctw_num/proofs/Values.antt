-- The value of an operation by the width of its operands, and which operations have values.
use Rattle.std.proofs.Common.{◌≡◌, ℕ, ◌==◌, ◌||◌, Option, Some, None, Result, Ok, refl, sym, ap, ◌∙◌, arith}
use Rattle.std.proofs.lemmas.Bool.Decides.{nat_tests}
use Rattle.std.specs.Prelude.{option_map, option_and_then, is_some}
use Rattle.ctw_ops.specs.declared.types.Width.TheVariants.{W32, W64}
use Rattle.ctw_ops.specs.declared.numeric.NumSig.{NumSig}
use Rattle.ctw_ops.specs.Numeric.{within, num_sig_of}
use Rattle.ctw_num.specs.declared.trap.NumTrap.{NumTrap}
use Rattle.ctw_num.specs.Values.{count32, count64, comparison32, comparison64, division32, division64, shift32, shift64, arithmetic32, arithmetic64, unary32, unary64, binary32, binary64, by_width, value1, value2, takes}

pub value1_of : (op a : ℕ) (sig : NumSig) → num_sig_of op ≡ Some sig → value1 op a ≡ by_width sig.operand (unary32 op a) (unary64 op a)
unfolding value1
value1_of op a sig s = ap (option_and_then (λ sig. by_width sig.operand (unary32 op a) (unary64 op a))) s

pub value2_of : (op a b : ℕ) (sig : NumSig) → num_sig_of op ≡ Some sig → value2 op a b ≡ by_width sig.operand (binary32 op a b) (binary64 op a b)
unfolding value2
value2_of op a b sig s = ap (option_and_then (λ sig. by_width sig.operand (binary32 op a b) (binary64 op a b))) s

pub unary32_is : (op code a r : ℕ) (sig : NumSig) → num_sig_of op ≡ Some sig → sig.operand ≡ W32 → code ≡ op → unary32 code a ≡ Some r → value1 op a ≡ Some r
unary32_is op code a r sig s w same h =
    value1_of op a sig s ∙ ap (λ v. by_width v (unary32 op a) (unary64 op a)) w ∙ ap (λ o. unary32 o a) (sym same) ∙ h

pub unary64_is : (op code a r : ℕ) (sig : NumSig) → num_sig_of op ≡ Some sig → sig.operand ≡ W64 → code ≡ op → unary64 code a ≡ Some r → value1 op a ≡ Some r
unary64_is op code a r sig s w same h =
    value1_of op a sig s ∙ ap (λ v. by_width v (unary32 op a) (unary64 op a)) w ∙ ap (λ o. unary64 o a) (sym same) ∙ h

pub binary32_is : (op code a b : ℕ) (r : Result ℕ NumTrap) (sig : NumSig) → num_sig_of op ≡ Some sig → sig.operand ≡ W32 → code ≡ op → binary32 code a b ≡ Some r → value2 op a b ≡ Some r
binary32_is op code a b r sig s w same h =
    value2_of op a b sig s ∙ ap (λ v. by_width v (binary32 op a b) (binary64 op a b)) w ∙ ap (λ o. binary32 o a b) (sym same) ∙ h

pub binary64_is : (op code a b : ℕ) (r : Result ℕ NumTrap) (sig : NumSig) → num_sig_of op ≡ Some sig → sig.operand ≡ W64 → code ≡ op → binary64 code a b ≡ Some r → value2 op a b ≡ Some r
binary64_is op code a b r sig s w same h =
    value2_of op a b sig s ∙ ap (λ v. by_width v (binary32 op a b) (binary64 op a b)) w ∙ ap (λ o. binary64 o a b) (sym same) ∙ h

-- ---- which opcodes the tables list

unary32_some : (op n : ℕ) → is_some (unary32 op n) ≡ (op == 0x45 || within 0x67 0x69 op || within 0xAC 0xAD op || within 0xC0 0xC1 op)
unfolding unary32 count32
unary32_some op n = grind (arith, nat_tests)

unary64_some : (op n : ℕ) → is_some (unary64 op n) ≡ (op == 0x50 || within 0x79 0x7B op || op == 0xA7 || within 0xC2 0xC4 op)
unfolding unary64 count64
unary64_some op n = grind (arith, nat_tests)

map_some : (o : Option ℕ) → is_some (option_map {U = Result ℕ NumTrap} Ok o) ≡ is_some o
map_some None = refl
map_some (Some n) = refl

comparison32_some : (op a b : ℕ) → is_some (comparison32 op a b) ≡ within 0x46 0x4F op
unfolding comparison32
comparison32_some op a b = grind (arith, nat_tests)

comparison64_some : (op a b : ℕ) → is_some (comparison64 op a b) ≡ within 0x51 0x5A op
unfolding comparison64
comparison64_some op a b = grind (arith, nat_tests)

division32_some : (op a b : ℕ) → is_some (division32 op a b) ≡ within 0x6D 0x70 op
unfolding division32
division32_some op a b = grind (arith, nat_tests)

division64_some : (op a b : ℕ) → is_some (division64 op a b) ≡ within 0x7F 0x82 op
unfolding division64
division64_some op a b = grind (arith, nat_tests)

shift32_some : (op a b : ℕ) → is_some (shift32 op a b) ≡ within 0x74 0x78 op
unfolding shift32
shift32_some op a b = grind (arith, nat_tests)

shift64_some : (op a b : ℕ) → is_some (shift64 op a b) ≡ within 0x86 0x8A op
unfolding shift64
shift64_some op a b = grind (arith, nat_tests)

arithmetic32_some : (op a b : ℕ) → is_some (arithmetic32 op a b) ≡ (within 0x6A 0x6C op || within 0x71 0x73 op)
unfolding arithmetic32
arithmetic32_some op a b = grind (arith, nat_tests)

arithmetic64_some : (op a b : ℕ) → is_some (arithmetic64 op a b) ≡ (within 0x7C 0x7E op || within 0x83 0x85 op)
unfolding arithmetic64
arithmetic64_some op a b = grind (arith, nat_tests)

binary32_some : (op a b : ℕ) → is_some (binary32 op a b) ≡ (within 0x46 0x4F op || within 0x6A 0x78 op)
unfolding binary32
binary32_some op a b = grind (arith, nat_tests, map_some, comparison32_some, division32_some, shift32_some, arithmetic32_some)

binary64_some : (op a b : ℕ) → is_some (binary64 op a b) ≡ (within 0x51 0x5A op || within 0x7C 0x8A op)
unfolding binary64
binary64_some op a b = grind (arith, nat_tests, map_some, comparison64_some, division64_some, shift64_some, arithmetic64_some)

pub value1_some : (op n : ℕ) → is_some (value1 op n) ≡ takes 1 op
unfolding value1 num_sig_of
value1_some op n = grind (arith, nat_tests, unary32_some, unary64_some)

pub value2_some : (op a b : ℕ) → is_some (value2 op a b) ≡ takes 2 op
unfolding value2 num_sig_of
value2_some op a b = grind (arith, nat_tests, binary32_some, binary64_some)
