use Rattle.std.proofs.Common.{◌≤◌, length, arith}
use Rattle.std.specs.String.{string_bytes}
use Rattle.ctw_module.specs.Trees.{tree}
use Rattle.ctw_module.specs.Lookup.{locals_named}
use Rattle.ctw_print.specs.Texts.{spaced_type}
use Rattle.ctw_print.proofs.Listed.{left_next, left_end}
use Rattle.ctw_print.proofs.field.put_declared.Goals as goal

pub loop-i-preserved : goal.loop-i-preserved
loop-i-preserved c =
    left_next spaced_type (locals_named (tree c.args.m.now) c.args.f) c.loop-i.i c.local.result (string_bytes c.loop-i.out) (string_bytes c.put_type.new.out) _ c.local.ensures c.in_ok-put_type.ensures c.loop-i.invariant

pub returns : goal.returns
returns c =
    let locals = locals_named (tree c.args.m.now) c.args.f in
    let past : length locals ≤ c.loop-i.i = omega (arith, c.requires.to, c.loop-i-test.false) in
    left_end spaced_type locals c.loop-i.i (string_bytes c.loop-i.out) _ past c.loop-i.invariant
