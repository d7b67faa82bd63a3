use Rattle.std.proofs.Common.{arith, drop, ap, ◌∙◌, ◌+◌, ◌-◌, ◌≡◌}
use Rattle.std.specs.List.{prefix_len}
use Rattle.ctw_lex.specs.Chars.{is_hex}
use Rattle.ctw_lex.proofs.Runs.{prefix_passes}
use Rattle.ctw_lex.proofs.Steps.{slice_rest}
use Rattle.ctw_lex.proofs.escapes.scalar_escape.Goals as goal

pub capped_number-requires : goal.capped_number-requires
capped_number-requires c =
    let e : c.hex_digits-n.result + 1 - 1 ≡ c.hex_digits-n.result = omega arith in
    let v : c.hex_digits-n.result ≡ prefix_len is_hex (drop 1 c.args.rest.now) = c.hex_digits-n.ensures.value ∙ ap (prefix_len is_hex) (slice_rest 1 c.args.rest.now) in
    rw (e, v) (prefix_passes is_hex (drop 1 c.args.rest.now))
