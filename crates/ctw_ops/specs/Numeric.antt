-- Numeric operations by their opcodes (W3C WebAssembly Core 1.0, sections 2.4.1 and 5.4.5, without floats, and the five
-- sign extensions that came after it).
use Rattle.std.specs.Prelude.{ℕ, Bool, true, false, ◌||◌, ◌&&◌, ◌==◌, nat_le, Option, Some, None, if◌then◌else◌}
use Rattle.ctw_ops.specs.declared.types.Width.{Width}
use Rattle.ctw_ops.specs.declared.types.Width.TheVariants.{W32, W64}
use Rattle.ctw_ops.specs.declared.numeric.NumSig.{NumSig}
use Rattle.ctw_ops.specs.declared.numeric.Profile.{Profile}
use Rattle.ctw_ops.specs.declared.numeric.Profile.TheVariants.{Divide, Multiply}

abbrev pub within : ℕ → ℕ → ℕ → Bool
within low high n = nat_le low n && nat_le n high

abbrev pub num_sig : ℕ → Width → Width → Option NumSig
num_sig arity operand result = Some (record { arity = arity; operand = operand; result = result })

-- how many operands an operation has, their width, and its result's; None for all that is no operation
unfoldable pub num_sig_of : ℕ → Option NumSig
num_sig_of op =
    if op == 0x45 then num_sig 1 W32 W32
    else if within 0x46 0x4F op then num_sig 2 W32 W32
    else if op == 0x50 then num_sig 1 W64 W32
    else if within 0x51 0x5A op then num_sig 2 W64 W32
    else if within 0x67 0x69 op then num_sig 1 W32 W32
    else if within 0x6A 0x78 op then num_sig 2 W32 W32
    else if within 0x79 0x7B op then num_sig 1 W64 W64
    else if within 0x7C 0x8A op then num_sig 2 W64 W64
    else if op == 0xA7 then num_sig 1 W64 W32
    else if within 0xAC 0xAD op then num_sig 1 W32 W64
    else if within 0xC0 0xC1 op then num_sig 1 W32 W32
    else if within 0xC2 0xC4 op then num_sig 1 W64 W64
    else None

-- eqz, tests and comparisons; clz, ctz, popcnt and arithmetic; wrap; extend; sign extension
unfoldable pub is_numeric : ℕ → Bool
is_numeric op = within 0x45 0x5A op || within 0x67 0x8A op || op == 0xA7 || within 0xAC 0xAD op || within 0xC0 0xC4 op

-- the divisions and remainders, whose time depends on their operands
unfoldable pub is_timed : ℕ → Bool
is_timed op = within 0x6D 0x70 op || within 0x7F 0x82 op

-- i32.mul and i64.mul
unfoldable pub is_product : ℕ → Bool
is_product op = op == 0x6C || op == 0x7E

-- whether products count as timed
abbrev pub times_products : Profile → Bool
times_products Divide = false
times_products Multiply = true

-- the operations whose operands may be learnt from their time, under a profile
unfoldable pub leaks : ℕ → Profile → Bool
leaks op profile = is_timed op || (times_products profile && is_product op)
