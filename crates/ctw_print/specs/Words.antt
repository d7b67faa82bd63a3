-- The words of instructions, in parts: a value type's word, and what stands behind it (W3C WebAssembly Core 1.0,
-- section 6.5, with the five sign extensions, without floats; and own words).
use Rattle.std.specs.Prelude.{ℕ, ◌==◌, ◌-◌, ◌||◌, Bool, true, false, List, ◌++◌, codes, if◌then◌else◌}
use Rattle.ctw_ops.specs.declared.types.Label.{Label}
use Rattle.ctw_ops.specs.declared.types.Label.TheVariants.{Public, Secret}
use Rattle.ctw_ops.specs.declared.types.Width.{Width}
use Rattle.ctw_ops.specs.declared.types.Width.TheVariants.{W32, W64}
use Rattle.ctw_ops.specs.Types.{ValueType, value_type}
use Rattle.ctw_ops.specs.Numeric.{within}

abbrev pub value_word : ValueType Label → List ℕ
value_word t = of t.width t.tag
  where
    of : Width → Label → List ℕ
    of W32 Public = codes "i32"
    of W64 Public = codes "i64"
    of W32 Secret = codes "s32"
    of W64 Secret = codes "s64"

abbrev pub select_word : Label → List ℕ
select_word Public = codes "select"
select_word Secret = codes "secret.select"

abbrev pub load_end : Width → ℕ → Bool → List ℕ
load_end width bytes signed =
    if bytes == 1 then (if signed then codes ".load8_s" else codes ".load8_u")
    else if bytes == 2 then (if signed then codes ".load16_s" else codes ".load16_u")
    else four width
  where
    four : Width → List ℕ
    four W32 = codes ".load"
    four W64 =
        if bytes == 4 then (if signed then codes ".load32_s" else codes ".load32_u")
        else codes ".load"

abbrev pub store_end : Width → ℕ → List ℕ
store_end width bytes =
    if bytes == 1 then codes ".store8" else if bytes == 2 then codes ".store16" else four width
  where
    four : Width → List ℕ
    four W32 = codes ".store"
    four W64 = if bytes == 4 then codes ".store32" else codes ".store"

-- tests and comparisons, from eqz on
abbrev pub comparison_end : ℕ → List ℕ
comparison_end n =
    if n == 0 then codes ".eqz"
    else if n == 1 then codes ".eq"
    else if n == 2 then codes ".ne"
    else if n == 3 then codes ".lt_s"
    else if n == 4 then codes ".lt_u"
    else if n == 5 then codes ".gt_s"
    else if n == 6 then codes ".gt_u"
    else if n == 7 then codes ".le_s"
    else if n == 8 then codes ".le_u"
    else if n == 9 then codes ".ge_s"
    else codes ".ge_u"

-- arithmetic, from clz on
abbrev pub arithmetic_end : ℕ → List ℕ
arithmetic_end n =
    if n == 0 then codes ".clz"
    else if n == 1 then codes ".ctz"
    else if n == 2 then codes ".popcnt"
    else if n == 3 then codes ".add"
    else if n == 4 then codes ".sub"
    else if n == 5 then codes ".mul"
    else if n == 6 then codes ".div_s"
    else if n == 7 then codes ".div_u"
    else if n == 8 then codes ".rem_s"
    else if n == 9 then codes ".rem_u"
    else if n == 10 then codes ".and"
    else if n == 11 then codes ".or"
    else if n == 12 then codes ".xor"
    else if n == 13 then codes ".shl"
    else if n == 14 then codes ".shr_s"
    else if n == 15 then codes ".shr_u"
    else if n == 16 then codes ".rotl"
    else codes ".rotr"

abbrev pub wrap_end : Label → List ℕ
wrap_end Public = codes ".wrap_i64"
wrap_end Secret = codes ".wrap_s64"

abbrev pub extend_end : Label → Bool → List ℕ
extend_end Public true = codes ".extend_i32_s"
extend_end Public false = codes ".extend_i32_u"
extend_end Secret true = codes ".extend_s32_s"
extend_end Secret false = codes ".extend_s32_u"

-- wrap, extend, and the sign extensions
abbrev pub conversion_end : ℕ → Label → List ℕ
conversion_end op label =
    if op == 0xA7 then wrap_end label
    else if op == 0xAC then extend_end label true
    else if op == 0xAD then extend_end label false
    else if op == 0xC0 then codes ".extend8_s"
    else if op == 0xC1 then codes ".extend16_s"
    else if op == 0xC2 then codes ".extend8_s"
    else if op == 0xC3 then codes ".extend16_s"
    else codes ".extend32_s"

-- the width of the type whose word stands in front
unfoldable pub front_width : ℕ → Width
front_width op =
    if within 0x45 0x4F op || within 0x67 0x78 op || op == 0xA7 || within 0xC0 0xC1 op then W32 else W64

unfoldable pub numeric_end : ℕ → Label → List ℕ
numeric_end op label =
    if within 0x45 0x4F op then comparison_end (op - 0x45)
    else if within 0x50 0x5A op then comparison_end (op - 0x50)
    else if within 0x67 0x78 op then arithmetic_end (op - 0x67)
    else if within 0x79 0x8A op then arithmetic_end (op - 0x79)
    else conversion_end op label

abbrev pub numeric_word : ℕ → Label → List ℕ
numeric_word op label = value_word (value_type (front_width op) label) ++ numeric_end op label
