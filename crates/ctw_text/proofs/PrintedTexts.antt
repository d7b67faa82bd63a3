-- Modules and their printed texts.
use Rattle.std.specs.Prelude.{◌≡◌, true, false, [], ◌∷◌, Some, None, refl, codes}
use Rattle.std.proofs.Common.{arith}
use Rattle.std.proofs.lemmas.Fmt.{decimal_digit}
use Rattle.std.specs.Prelude.{decimal}
use Rattle.ctw_text.specs.Words.{word_of}
use Rattle.ctw_ops.specs.declared.numeric.Profile.TheVariants.{Divide}
use Rattle.ctw_ops.specs.declared.types.Label.TheVariants.{Public, Secret}
use Rattle.ctw_ops.specs.declared.types.Width.TheVariants.{W32, W64}
use Rattle.ctw_ops.specs.declared.types.Trust.TheVariants.{Untrusted, Trusted}
use Rattle.ctw_ops.specs.declared.types.ExternTag.TheVariants.{Func, Global}
use Rattle.ctw_ops.specs.Types.{value_type}
use Rattle.ctw_ops.specs.Code as ops
use Rattle.ctw_ops.specs.Tree as tree
use Rattle.ctw_text.specs.Print.{printed}

pub secret_sum_is_printed : printed (record {
  ct = true;
  profile = Divide;
  types = record { base = None; type = record { trust = Untrusted; params = value_type W32 Secret ∷ value_type W32 Public ∷ []; result = Some (value_type W32 Secret) } } ∷ [];
  imports = [];
  functions = record { type = 0; locals = []; body = ops.Then (ops.LocalGet 0) (ops.Then (ops.LocalGet 1) (ops.Then (ops.Classify W32) (ops.Then (ops.Numeric 106 Secret) ops.Stop))) } ∷ [];
  table = None;
  memory = None;
  globals = [];
  exports = record { name = 102 ∷ []; kind = Func; index = 0 } ∷ [];
  start = None;
  elements = [];
  segments = [];
  customs = [];
}) ≡ codes "(module ct\n  (type (func (param s32 i32) (result s32)))\n  (func (type 0)\n    local.get 0\n    local.get 1\n    i32.classify\n    s32.add\n  )\n  (export \"f\" (func 0))\n)\n"
unfolding word_of
secret_sum_is_printed =
    let d0 : decimal 0 ≡ 48 ∷ [] = decimal_digit 0 (omega arith) in
    let d1 : decimal 1 ≡ 49 ∷ [] = decimal_digit 1 (omega arith) in
    rw (d0, d1) refl

pub every_field_is_printed : printed (record {
  ct = true;
  profile = Divide;
  types = record { base = None; type = record { trust = Untrusted; params = value_type W32 Public ∷ []; result = None } } ∷ record { base = None; type = record { trust = Untrusted; params = []; result = None } } ∷ record { base = Some 1; type = record { trust = Trusted; params = []; result = None } } ∷ [];
  imports = record { module_name = 97 ∷ []; name = 98 ∷ []; kind = tree.ImportedFunction 1 } ∷ record { module_name = 97 ∷ []; name = 0 ∷ 34 ∷ 116 ∷ []; kind = tree.ImportedTable (record { min = 1; max = Some 2 }) } ∷ record { module_name = []; name = 109 ∷ []; kind = tree.ImportedMemory (record { tag = Secret; limits = record { min = 1; max = None } }) } ∷ record { module_name = 97 ∷ []; name = 103 ∷ []; kind = tree.ImportedGlobal (record { mutable = true; value = value_type W64 Secret }) } ∷ record { module_name = 97 ∷ []; name = 104 ∷ []; kind = tree.ImportedGlobal (record { mutable = false; value = value_type W32 Public }) } ∷ [];
  functions = record { type = 0; locals = value_type W32 Secret ∷ value_type W64 Public ∷ []; body = ops.Block (Some (value_type W32 Secret)) (ops.Then (ops.Const W32 Public 3) (ops.Then (ops.BrIf 0) (ops.Then (ops.LocalGet 1) ops.Stop))) (ops.Then ops.Drop (ops.Loop None ops.Stop (ops.Then (ops.Const W64 Public 18446744073709551615) (ops.Then ops.Drop (ops.Then (ops.Const W32 Public 0) (ops.IfElse None (ops.Then ops.Nop ops.Stop) (ops.Then ops.Unreachable ops.Stop) (ops.Then (ops.Const W32 Public 0) (ops.Then (ops.BrTable (0 ∷ 0 ∷ []) 0) ops.Stop)))))))) } ∷ record { type = 1; locals = []; body = ops.Then (ops.Const W32 Public 0) (ops.Then (ops.Const W32 Public 0) (ops.Then (ops.Load W32 Secret 1 false 0 4) (ops.Then ops.Drop (ops.Then (ops.Load W64 Secret 8 false 0 0) (ops.Then ops.Drop (ops.Then (ops.Const W32 Public 1) (ops.Then (ops.Const W32 Public 2) (ops.Then (ops.CallIndirect 0) (ops.Then ops.Return ops.Stop))))))))) } ∷ [];
  table = None;
  memory = None;
  globals = record { type = record { mutable = true; value = value_type W32 Public }; init = tree.Number (value_type W32 Public) 7 } ∷ record { type = record { mutable = false; value = value_type W32 Public }; init = tree.ValueOf 1 } ∷ [];
  exports = record { name = 101 ∷ []; kind = Global; index = 1 } ∷ [];
  start = Some 0;
  elements = record { table = 0; offset = tree.Number (value_type W32 Public) 0; functions = 0 ∷ 1 ∷ [] } ∷ [];
  segments = record { memory = 0; offset = tree.ValueOf 1; bytes = 97 ∷ 98 ∷ 255 ∷ [] } ∷ record { memory = 0; offset = tree.Number (value_type W32 Public) 1; bytes = [] } ∷ [];
  customs = record { place = 9; name = 110 ∷ []; bytes = 120 ∷ [] } ∷ [];
}) ≡ codes "(module ct\n  (type (func (param i32)))\n  (type (func))\n  (type (variant 1 (func trusted)))\n  (import \"a\" \"b\" (func (type 1)))\n  (import \"a\" \"\\00\\22t\" (table 1 2 funcref))\n  (import \"\" \"m\" (memory secret 1))\n  (import \"a\" \"g\" (global (mut s64)))\n  (import \"a\" \"h\" (global i32))\n  (func (type 0) (local s32 i64)\n    block (result s32)\n    i32.const 3\n    br_if 0\n    local.get 1\n    end\n    drop\n    loop\n    end\n    i64.const -1\n    drop\n    i32.const 0\n    if\n    nop\n    else\n    unreachable\n    end\n    i32.const 0\n    br_table 0 0 0\n  )\n  (func (type 1)\n    i32.const 0\n    i32.const 0\n    s32.load8_u offset=4\n    drop\n    s64.load align=1\n    drop\n    i32.const 1\n    i32.const 2\n    call_indirect (type 0)\n    return\n  )\n  (global (mut i32) (i32.const 7))\n  (global i32 (global.get 1))\n  (export \"e\" (global 1))\n  (start 0)\n  (elem (i32.const 0) 0 1)\n  (data (global.get 1) \"ab\\ff\")\n  (data (i32.const 1) \"\")\n  (custom 9 \"n\" \"x\")\n)\n"
unfolding word_of
every_field_is_printed =
    let d0 : decimal 0 ≡ 48 ∷ [] = decimal_digit 0 (omega arith) in
    let d1 : decimal 1 ≡ 49 ∷ [] = decimal_digit 1 (omega arith) in
    let d2 : decimal 2 ≡ 50 ∷ [] = decimal_digit 2 (omega arith) in
    let d3 : decimal 3 ≡ 51 ∷ [] = decimal_digit 3 (omega arith) in
    let d4 : decimal 4 ≡ 52 ∷ [] = decimal_digit 4 (omega arith) in
    let d7 : decimal 7 ≡ 55 ∷ [] = decimal_digit 7 (omega arith) in
    let d9 : decimal 9 ≡ 57 ∷ [] = decimal_digit 9 (omega arith) in
    rw (d0, d1, d2, d3, d4, d7, d9) refl
