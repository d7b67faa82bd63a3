use Rattle.std.specs.String.{string_bytes}
use Rattle.ctw_print.specs.Texts.{spaced_number}
use Rattle.ctw_print.proofs.Listed.{listed_next}
use Rattle.ctw_print.proofs.field.put_listed.Goals as goal

pub loop-i-preserved : goal.loop-i-preserved
loop-i-preserved c =
    listed_next spaced_number c.args.element.now.functions c.loop-i.i c.func.result (string_bytes c.args.out.now) (string_bytes c.loop-i.out) (string_bytes c.put_spaced.new.out) c.func.ensures c.in_ok-put_spaced.ensures c.loop-i.invariant
