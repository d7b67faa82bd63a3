-- The values of the numeric operations by their opcodes (W3C WebAssembly Core 1.0, sections 4.3.2, 4.3.4 and 5.4.5,
-- and the sign extensions). A table has None for each opcode that it doesn't list.
use Rattle.std.specs.Prelude.{◌≡◌, ℕ, Bool, false, ◌-◌, ◌^◌, if◌then◌else◌, ◌==◌, ◌⊎◌, Option, Some, None, option_map, option_and_then, Result, Ok}
use Rattle.ctw_ops.specs.Numeric.{within, num_sig_of}
use Rattle.ctw_ops.specs.declared.types.Width.{Width}
use Rattle.ctw_ops.specs.declared.types.Width.TheVariants.{W32, W64}
use Rattle.ctw_ops.specs.declared.numeric.NumSig.{NumSig}
use Rattle.ctw_num.specs.Integers.{iadd, isub, imul, idiv_u, idiv_s, irem_u, irem_s, iand, ior, ixor, ishl, ishr_u, ishr_s, irotl, irotr, iclz, ictz, ipopcnt, ieqz, ieq, ine, ilt_u, igt_u, ile_u, ige_u, ilt_s, igt_s, ile_s, ige_s, wrap, extend_u, extend_s, iextend_s}
use Rattle.ctw_num.specs.declared.trap.NumTrap.{NumTrap}

-- i32: clz, ctz, popcnt
unfoldable pub count32 : ℕ → ℕ → Option ℕ
count32 op n =
    if op == 0x67 then Some (iclz 32 n)
    else if op == 0x68 then Some (ictz 32 n)
    else if op == 0x69 then Some (ipopcnt 32 n)
    else None

-- i64: the same
unfoldable pub count64 : ℕ → ℕ → Option ℕ
count64 op n =
    if op == 0x79 then Some (iclz 64 n)
    else if op == 0x7A then Some (ictz 64 n)
    else if op == 0x7B then Some (ipopcnt 64 n)
    else None

-- one operand of 32 bits: i32.eqz, the counts, i64.extend_i32_s, i64.extend_i32_u, i32.extend8_s and i32.extend16_s
unfoldable pub unary32 : ℕ → ℕ → Option ℕ
unary32 op n =
    if op == 0x45 then Some (ieqz n)
    else if within 0x67 0x69 op then count32 op n
    else if op == 0xAC then Some (extend_s 32 64 n)
    else if op == 0xAD then Some (extend_u n)
    else if op == 0xC0 then Some (iextend_s 8 32 n)
    else if op == 0xC1 then Some (iextend_s 16 32 n)
    else None

-- one operand of 64 bits: i64.eqz, the counts, i32.wrap_i64, i64.extend8_s, i64.extend16_s and i64.extend32_s
unfoldable pub unary64 : ℕ → ℕ → Option ℕ
unary64 op n =
    if op == 0x50 then Some (ieqz n)
    else if within 0x79 0x7B op then count64 op n
    else if op == 0xA7 then Some (wrap 32 n)
    else if op == 0xC2 then Some (iextend_s 8 64 n)
    else if op == 0xC3 then Some (iextend_s 16 64 n)
    else if op == 0xC4 then Some (iextend_s 32 64 n)
    else None

-- i32: eq, ne, lt_s, lt_u, gt_s, gt_u, le_s, le_u, ge_s, ge_u
unfoldable pub comparison32 : ℕ → ℕ → ℕ → Option ℕ
comparison32 op a b =
    if op == 0x46 then Some (ieq a b)
    else if op == 0x47 then Some (ine a b)
    else if op == 0x48 then Some (ilt_s 32 a b)
    else if op == 0x49 then Some (ilt_u a b)
    else if op == 0x4A then Some (igt_s 32 a b)
    else if op == 0x4B then Some (igt_u a b)
    else if op == 0x4C then Some (ile_s 32 a b)
    else if op == 0x4D then Some (ile_u a b)
    else if op == 0x4E then Some (ige_s 32 a b)
    else if op == 0x4F then Some (ige_u a b)
    else None

-- i64: the same
unfoldable pub comparison64 : ℕ → ℕ → ℕ → Option ℕ
comparison64 op a b =
    if op == 0x51 then Some (ieq a b)
    else if op == 0x52 then Some (ine a b)
    else if op == 0x53 then Some (ilt_s 64 a b)
    else if op == 0x54 then Some (ilt_u a b)
    else if op == 0x55 then Some (igt_s 64 a b)
    else if op == 0x56 then Some (igt_u a b)
    else if op == 0x57 then Some (ile_s 64 a b)
    else if op == 0x58 then Some (ile_u a b)
    else if op == 0x59 then Some (ige_s 64 a b)
    else if op == 0x5A then Some (ige_u a b)
    else None

-- i32: div_s, div_u, rem_s, rem_u
unfoldable pub division32 : ℕ → ℕ → ℕ → Option (Result ℕ NumTrap)
division32 op a b =
    if op == 0x6D then Some (idiv_s 32 a b)
    else if op == 0x6E then Some (idiv_u a b)
    else if op == 0x6F then Some (irem_s 32 a b)
    else if op == 0x70 then Some (irem_u a b)
    else None

-- i64: the same
unfoldable pub division64 : ℕ → ℕ → ℕ → Option (Result ℕ NumTrap)
division64 op a b =
    if op == 0x7F then Some (idiv_s 64 a b)
    else if op == 0x80 then Some (idiv_u a b)
    else if op == 0x81 then Some (irem_s 64 a b)
    else if op == 0x82 then Some (irem_u a b)
    else None

-- i32: shl, shr_s, shr_u, rotl, rotr
unfoldable pub shift32 : ℕ → ℕ → ℕ → Option ℕ
shift32 op a b =
    if op == 0x74 then Some (ishl 32 a b)
    else if op == 0x75 then Some (ishr_s 32 a b)
    else if op == 0x76 then Some (ishr_u 32 a b)
    else if op == 0x77 then Some (irotl 32 a b)
    else if op == 0x78 then Some (irotr 32 a b)
    else None

-- i64: the same
unfoldable pub shift64 : ℕ → ℕ → ℕ → Option ℕ
shift64 op a b =
    if op == 0x86 then Some (ishl 64 a b)
    else if op == 0x87 then Some (ishr_s 64 a b)
    else if op == 0x88 then Some (ishr_u 64 a b)
    else if op == 0x89 then Some (irotl 64 a b)
    else if op == 0x8A then Some (irotr 64 a b)
    else None

-- i32: add, sub, mul, and, or, xor
unfoldable pub arithmetic32 : ℕ → ℕ → ℕ → Option ℕ
arithmetic32 op a b =
    if op == 0x6A then Some (iadd 32 a b)
    else if op == 0x6B then Some (isub 32 a b)
    else if op == 0x6C then Some (imul 32 a b)
    else if op == 0x71 then Some (iand 32 a b)
    else if op == 0x72 then Some (ior 32 a b)
    else if op == 0x73 then Some (ixor 32 a b)
    else None

-- i64: the same
unfoldable pub arithmetic64 : ℕ → ℕ → ℕ → Option ℕ
arithmetic64 op a b =
    if op == 0x7C then Some (iadd 64 a b)
    else if op == 0x7D then Some (isub 64 a b)
    else if op == 0x7E then Some (imul 64 a b)
    else if op == 0x83 then Some (iand 64 a b)
    else if op == 0x84 then Some (ior 64 a b)
    else if op == 0x85 then Some (ixor 64 a b)
    else None

-- two operands of 32 bits
unfoldable pub binary32 : ℕ → ℕ → ℕ → Option (Result ℕ NumTrap)
binary32 op a b =
    if within 0x46 0x4F op then option_map Ok (comparison32 op a b)
    else if within 0x6D 0x70 op then division32 op a b
    else if within 0x74 0x78 op then option_map Ok (shift32 op a b)
    else option_map Ok (arithmetic32 op a b)

-- two operands of 64 bits
unfoldable pub binary64 : ℕ → ℕ → ℕ → Option (Result ℕ NumTrap)
binary64 op a b =
    if within 0x51 0x5A op then option_map Ok (comparison64 op a b)
    else if within 0x7F 0x82 op then division64 op a b
    else if within 0x86 0x8A op then option_map Ok (shift64 op a b)
    else option_map Ok (arithmetic64 op a b)

-- the first at 32 bits, the second at 64
abbrev pub by_width : {A : Type 0} → Width → A → A → A
by_width W32 narrow wide = narrow
by_width W64 narrow wide = wide

-- the value of an operation with one operand; None for all that is none
unfoldable pub value1 : ℕ → ℕ → Option ℕ
value1 op n = option_and_then (λ sig. by_width sig.operand (unary32 op n) (unary64 op n)) (num_sig_of op)

-- the value of an operation with two operands, or why it has none; None for all that is no such operation
unfoldable pub value2 : ℕ → ℕ → ℕ → Option (Result ℕ NumTrap)
value2 op a b = option_and_then (λ sig. by_width sig.operand (binary32 op a b) (binary64 op a b)) (num_sig_of op)

abbrev pub has_arity : ℕ → Option NumSig → Bool
has_arity count None = false
has_arity count (Some sig) = sig.arity == count

-- whether a number is an operation with so many operands
abbrev pub takes : ℕ → ℕ → Bool
takes count op = has_arity count (num_sig_of op)

-- i32.div_s or i64.div_s of the least number by -1
abbrev pub DividesLeastByMinusOne : ℕ → ℕ → ℕ → Type 0
DividesLeastByMinusOne op a b =
    ((op ≡ 0x6D) × (a ≡ 2 ^ 31) × (b ≡ 2 ^ 32 - 1)) ⊎ ((op ≡ 0x7F) × (a ≡ 2 ^ 63) × (b ≡ 2 ^ 64 - 1))
