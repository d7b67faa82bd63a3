use Rattle.std.proofs.Common.{codes}
use Rattle.std.specs.String.{string_bytes}
use Rattle.ctw_ops.specs.Code.{opcodes}
use Rattle.ctw_print.specs.Texts.{use_text, locals_text, lines_text}
use Rattle.ctw_print.proofs.Joined.{function_joined}
use Rattle.ctw_print.proofs.field.put_function.Goals as goal

pub returns : goal.returns
returns c function e =
    function_joined c.push_str.result (string_bytes c.args.out.now) (codes "\n  (func") (use_text function.type) (locals_text function.locals) (lines_text (opcodes function.body)) (codes "\n  )")
    (string_bytes c.put_head.new.out) (string_bytes c.put_locals.new.out) (string_bytes c.put_instructions.new.out) (string_bytes c.push_str.new.self)
    (c.in_ok-put_head.ensures function e) (c.in_ok-put_locals.ensures function e) (c.in_ok-put_instructions.ensures function e) c.push_str.ensures.bytes
