-- Texts and the modules that they denote.
use Rattle.std.specs.Prelude.{◌≡◌, true, false, [], ◌∷◌, Some, None, Ok, Err, refl, codes}
use Rattle.ctw_ops.specs.Limits.{most_params, most_locals, most_locals_of_all}
use Rattle.ctw_text.specs.Words.{key_of}
use Rattle.ctw_ops.specs.declared.numeric.Profile.TheVariants.{Divide}
use Rattle.ctw_ops.specs.declared.types.Label.TheVariants.{Public, Secret}
use Rattle.ctw_ops.specs.declared.types.Width.TheVariants.{W32}
use Rattle.ctw_ops.specs.declared.types.Trust.TheVariants.{Untrusted}
use Rattle.ctw_ops.specs.declared.types.ExternTag.TheVariants.{Func}
use Rattle.ctw_ops.specs.Types.{value_type}
use Rattle.ctw_ops.specs.Code as ops
use Rattle.ctw_text.specs.Denotes.{AtUnexpected, assembled}

pub folded_sum : assembled (codes "(module (func (result i32) (i32.add (i32.const 1) (i32.const 2))))") ≡ Ok (record {
  ct = false;
  profile = Divide;
  types = record { base = None; type = record { trust = Untrusted; params = []; result = Some (value_type W32 Public) } } ∷ [];
  imports = [];
  functions = record { type = 0; locals = []; body = ops.Then (ops.Const W32 Public 1) (ops.Then (ops.Const W32 Public 2) (ops.Then (ops.Numeric 106 Public) ops.Stop)) } ∷ [];
  table = None;
  memory = None;
  globals = [];
  exports = [];
  start = None;
  elements = [];
  segments = [];
  customs = [];
})
unfolding key_of most_params most_locals most_locals_of_all
folded_sum = refl

pub sign_extension : assembled (codes "(module (func (param i32) (result i32) (i32.extend8_s (local.get 0))))") ≡ Ok (record {
  ct = false;
  profile = Divide;
  types = record { base = None; type = record { trust = Untrusted; params = value_type W32 Public ∷ []; result = Some (value_type W32 Public) } } ∷ [];
  imports = [];
  functions = record { type = 0; locals = []; body = ops.Then (ops.LocalGet 0) (ops.Then (ops.Numeric 192 Public) ops.Stop) } ∷ [];
  table = None;
  memory = None;
  globals = [];
  exports = [];
  start = None;
  elements = [];
  segments = [];
  customs = [];
})
unfolding key_of most_params most_locals most_locals_of_all
sign_extension = refl

pub cut_off_function : assembled (codes "(module (func nop") ≡ Err (AtUnexpected 17 17)
unfolding key_of most_params most_locals most_locals_of_all
cut_off_function = refl

pub secret_sum : assembled (codes "(module ct\n  (type (func (param s32 i32) (result s32)))\n  (func (type 0)\n    local.get 0\n    local.get 1\n    i32.classify\n    s32.add\n  )\n  (export \"f\" (func 0))\n)\n") ≡ Ok (record {
  ct = true;
  profile = Divide;
  types = record { base = None; type = record { trust = Untrusted; params = value_type W32 Secret ∷ value_type W32 Public ∷ []; result = Some (value_type W32 Secret) } } ∷ [];
  imports = [];
  functions = record { type = 0; locals = []; body = ops.Then (ops.LocalGet 0) (ops.Then (ops.LocalGet 1) (ops.Then (ops.Classify W32) (ops.Then (ops.Numeric 106 Secret) ops.Stop))) } ∷ [];
  table = None;
  memory = None;
  globals = [];
  exports = record { name = 102 ∷ []; kind = Func; index = 0 } ∷ [];
  start = None;
  elements = [];
  segments = [];
  customs = [];
})
unfolding key_of most_params most_locals most_locals_of_all
secret_sum = refl
