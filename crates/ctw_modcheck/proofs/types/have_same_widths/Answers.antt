use Rattle.std.proofs.Common.{rules, arith, sym}
use Rattle.ctw_modcheck.proofs.Widths.{Both, bytes_differ, compared_none, compared_more, compared_differ, compared_all}
use Rattle.ctw_modcheck.proofs.types.have_same_widths.Goals as goal

pub returns-then-a-b : goal.returns-then-a-b
returns-then-a-b c = sym (bytes_differ c.args.a.now c.args.b.now c.requires.first c.requires.second c.if-a-b.true)

pub bytes-init : goal.bytes-init
bytes-init c = compared_none c.args.a.now c.args.b.now

pub returns-then-ne : goal.returns-then-ne
returns-then-ne c =
    let both : Both c.args.a.now c.args.b.now c.bytes.i c.width_of.result c.width_of-in-bytes.result = record { first = c.requires.first; second = c.requires.second; within = omega arith; within_second = omega arith; wide = c.width_of.ensures; wide_second = c.width_of-in-bytes.ensures } in
    sym (compared_differ c.args.a.now c.args.b.now c.bytes.i c.width_of.result c.width_of-in-bytes.result both (search rules) c.bytes.invariant)

pub bytes-preserved : goal.bytes-preserved
bytes-preserved c =
    let both : Both c.args.a.now c.args.b.now c.bytes.i c.width_of.result c.width_of-in-bytes.result = record { first = c.requires.first; second = c.requires.second; within = omega arith; within_second = omega arith; wide = c.width_of.ensures; wide_second = c.width_of-in-bytes.ensures } in
    compared_more c.args.a.now c.args.b.now c.bytes.i c.width_of.result c.width_of-in-bytes.result both (search rules) c.bytes.invariant

pub returns : goal.returns
returns c = sym (compared_all c.args.a.now c.args.b.now c.bytes.i c.requires.first c.requires.second (omega arith) (omega arith) c.bytes.invariant)
