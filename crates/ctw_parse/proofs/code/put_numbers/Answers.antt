use Rattle.std.proofs.Common.{◌<◌, length, arith}
use Rattle.std.proofs.lemmas.Option.{slice_get-get_or}
use Rattle.ctw_leb.specs.Spelling.{u32_text}
use Rattle.ctw_write.proofs.Listed.{listed_next}
use Rattle.ctw_parse.proofs.code.put_numbers.Goals as goal

pub numbers-preserved : goal.numbers-preserved
numbers-preserved c =
    let lt : c.numbers.number-index < length c.args.numbers.now = omega arith in
    let there = slice_get-get_or c.args.numbers.now c.numbers.number-index 0 lt in
    listed_next u32_text c.args.numbers.now c.numbers.number-index _ c.args.out.now.items c.numbers.out.items c.put_u32.new.out.items there c.in_ok-put_u32.ensures.put c.numbers.invariant
