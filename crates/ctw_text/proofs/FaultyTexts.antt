-- Texts that denote nothing, and the faults that are told of them.
use Rattle.std.specs.Prelude.{◌≡◌, Err, refl, codes}
use Rattle.ctw_ops.specs.Limits.{most_params, most_locals, most_locals_of_all}
use Rattle.ctw_text.specs.Words.{key_of}
use Rattle.ctw_ops.specs.declared.fault.What.TheVariants.{Results, Memories}
use Rattle.ctw_lex.specs.declared.LexKind.TheVariants.{OpenString}
use Rattle.ctw_text.specs.Denotes.{InLex, AtUnexpected, InExcess, assembled}

pub no_such_field : assembled (codes "(module\n  (foo))") ≡ Err (AtUnexpected 11 14)
unfolding key_of most_params most_locals most_locals_of_all
no_such_field = refl

pub no_such_field_behind_inline_data : assembled (codes "(module ct\n  (memory (export \"m\") (data \"a\" \"b\\00\\ff\"))\n  (foo))") ≡ Err (AtUnexpected 59 62)
unfolding key_of most_params most_locals most_locals_of_all
no_such_field_behind_inline_data = refl

pub empty_parentheses : assembled (codes "(module ct\n  ())") ≡ Err (AtUnexpected 14 15)
unfolding key_of most_params most_locals most_locals_of_all
empty_parentheses = refl

pub word_in_a_function : assembled (codes "(module\n  (func foo))") ≡ Err (AtUnexpected 16 19)
unfolding key_of most_params most_locals most_locals_of_all
word_in_a_function = refl

pub two_imported_memories : assembled (codes "(module\n(memory (import \"a\" \"b\") 1)\n(memory (import \"a\" \"c\") 1)\n)") ≡ Err (InExcess (record { what = Memories; limit = 1 }))
unfolding key_of most_params most_locals most_locals_of_all
two_imported_memories = refl

pub no_such_folded_instruction : assembled (codes "(module ct\n  (type (func (param i32) (result i32)))\n  (func (foo)))") ≡ Err (AtUnexpected 61 64)
unfolding key_of most_params most_locals most_locals_of_all
no_such_folded_instruction = refl

pub parameter_behind_a_local : assembled (codes "(module ct\n  (func (local i32) (param i32)))") ≡ Err (AtUnexpected 32 37)
unfolding key_of most_params most_locals most_locals_of_all
parameter_behind_a_local = refl

pub parameter_behind_a_result : assembled (codes "(module\n  (global $h (export \"gg\") (mut i32) (i32.const +0x7fff_ffff))\n  (func (result i32) (param i32)))") ≡ Err (AtUnexpected 93 98)
unfolding key_of most_params most_locals most_locals_of_all
parameter_behind_a_result = refl

pub inline_export_behind_a_parameter : assembled (codes "(module\n  (func (param i32) (export \"x\")))") ≡ Err (AtUnexpected 29 35)
unfolding key_of most_params most_locals most_locals_of_all
inline_export_behind_a_parameter = refl

pub identifier_behind_an_inline_export : assembled (codes "(module\n  (func (export \"x\") $f))") ≡ Err (AtUnexpected 29 31)
unfolding key_of most_params most_locals most_locals_of_all
identifier_behind_an_inline_export = refl

pub named_result : assembled (codes "(module\n  (func (result $r i32)))") ≡ Err (AtUnexpected 24 26)
unfolding key_of most_params most_locals most_locals_of_all
named_result = refl

pub named_parameter_without_a_type_behind_comments : assembled (codes "(module\n  (;(; nested ;);)(import \"a\"  ;;\n\"b\" (; (;;) (; ;) ;) (; c ;) (func $j (\r\nparam   i32) (result (; ;; ;)i64\r\n)))\n  (func (param $x)))") ≡ Err (AtUnexpected 138 139)
unfolding key_of most_params most_locals most_locals_of_all
named_parameter_without_a_type_behind_comments = refl

pub named_parameter_without_a_type : assembled (codes "(module ct\n  (func (param $x)))") ≡ Err (AtUnexpected 28 29)
unfolding key_of most_params most_locals most_locals_of_all
named_parameter_without_a_type = refl

pub string_in_a_type : assembled (codes "(module\n  (type (func  \"\\u{d7ff}\\u{e000}\" (param i32) (result i32)))\n  (func (param $x i32 i64))\n  (data (global.get $g) \"\\t\\n\\r\\\"\\'\\\\\\00\\7f\\FF\\u{0}\\u{10FFFF}\"))") ≡ Err (AtUnexpected 23 41)
unfolding key_of most_params most_locals most_locals_of_all
string_in_a_type = refl

pub two_types_of_a_named_parameter : assembled (codes "(module ct\n  (func (param $x i32 i64))\n  (elem 0 (offset i32.const 0) 0))") ≡ Err (AtUnexpected 33 36)
unfolding key_of most_params most_locals most_locals_of_all
two_types_of_a_named_parameter = refl

pub number_in_a_parameter : assembled (codes "(module\n  (func (param 0)))") ≡ Err (AtUnexpected 23 24)
unfolding key_of most_params most_locals most_locals_of_all
number_in_a_parameter = refl

pub string_for_a_field_comes_before_two_results : assembled (codes "(module ct\n(type (func (result i64 i64)))\n\"x\"\n)") ≡ Err (AtUnexpected 42 45)
unfolding key_of most_params most_locals most_locals_of_all
string_for_a_field_comes_before_two_results = refl

pub open_string_comes_before_all : assembled (codes "(module ct\n  (global i32 (global.get 0))\n  (func (local $x i32) ( \"\\\" param i32)))") ≡ Err (InLex (record { kind = OpenString; start = 66; line = 3 }))
unfolding key_of most_params most_locals most_locals_of_all
open_string_comes_before_all = refl

pub local_behind_an_instruction : assembled (codes "(module ct\n  (func nop (local i32)))") ≡ Err (AtUnexpected 24 29)
unfolding key_of most_params most_locals most_locals_of_all
local_behind_an_instruction = refl

pub two_results : assembled (codes "(module\n  (func (result i32 i32)))") ≡ Err (InExcess (record { what = Results; limit = 1 }))
unfolding key_of most_params most_locals most_locals_of_all
two_results = refl

pub two_lists_of_results : assembled (codes "(module\n  (func (result i32) (result i64))\n  (elem 0 (i32.const 0)))") ≡ Err (InExcess (record { what = Results; limit = 1 }))
unfolding key_of most_params most_locals most_locals_of_all
two_lists_of_results = refl

pub block_with_two_results : assembled (codes "(module\n  (func (block (result i32 i32))))") ≡ Err (AtUnexpected 35 38)
unfolding key_of most_params most_locals most_locals_of_all
block_with_two_results = refl

pub block_with_two_results_behind_comments : assembled (codes "((;;)module ct\n  (func (block (  result \r\ni32 i32))))") ≡ Err (AtUnexpected 46 49)
unfolding key_of most_params most_locals most_locals_of_all
block_with_two_results_behind_comments = refl

pub block_with_an_empty_result : assembled (codes "(module\n  (func (block (result)))\n  (func (call 0) (call $f)))") ≡ Err (AtUnexpected 30 31)
unfolding key_of most_params most_locals most_locals_of_all
block_with_an_empty_result = refl

pub open_string_in_a_block : assembled (codes "(module ct\n  (func (block  \"abc\\ (result))))") ≡ Err (InLex (record { kind = OpenString; start = 27; line = 2 }))
unfolding key_of most_params most_locals most_locals_of_all
open_string_in_a_block = refl

pub block_with_a_parameter : assembled (codes "(module\n  (func block (param i32) end))") ≡ Err (AtUnexpected 23 28)
unfolding key_of most_params most_locals most_locals_of_all
block_with_a_parameter = refl

pub loop_with_a_type : assembled (codes "(module ct\n  (type (func (param i32) (result i32)))\n  (func (loop (type 0))))") ≡ Err (AtUnexpected 67 71)
unfolding key_of most_params most_locals most_locals_of_all
loop_with_a_type = refl
