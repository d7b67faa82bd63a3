use Rattle.std.proofs.Common.{rules, get_or, arith, drop, suc, sym, ap, ◌∙◌, ◌+◌, ◌-◌, ◌≡◌, [], ◌∷◌}
use Rattle.ctw_lex.specs.Strings.{contents, escape_of}
use Rattle.ctw_lex.specs.Escapes.{meaning}
use Rattle.ctw_lex.proofs.Steps.{content_skip, content_escape, content_plain, fault_front, slice_rest, meaning_len}
use Rattle.ctw_lex.proofs.strings.first_string_fault.Goals as goal
use Rattle.ctw_lex.proofs.strings.first_string_fault.Goals.{then-skip-gt0, else-skip-gt0+then-b-eq92+in-Some, else-skip-gt0+else-b-eq92+else-not-is_part_of_string}

pub loop-i-preserved : goal.loop-i-preserved
loop-i-preserved c =
    elim c.if-skip-gt0.branch [
      | then-skip-gt0 w ↦
          let k : c.loop-i.skip ≡ suc (c.loop-i.skip - 1) = omega arith in
          let e = content_skip c.loop-i.i c.args.content.now c.loop-i-test.true (c.loop-i.skip - 1) in
          cc
      | else-skip-gt0+then-b-eq92+in-Some w ↦
          let i = w.in-Some.ensures.value ∙ ap escape_of (slice_rest (c.loop-i.i + 1) c.args.content.now) in
          let zero : c.loop-i.skip ≡ 0 = omega arith in
          let n = meaning_len w.in-Some.e in
          let e = content_escape c.loop-i.i c.args.content.now c.loop-i-test.true (meaning w.in-Some.e) w.if-b-eq92.true i in
          let g = fault_front (meaning w.in-Some.e).bytes (contents (meaning w.in-Some.e).len (c.loop-i.i + 1 + 1) (drop (c.loop-i.i + 1) c.args.content.now)) in
          cc
      | else-skip-gt0+else-b-eq92+else-not-is_part_of_string w ↦
          let zero : c.loop-i.skip ≡ 0 = omega arith in
          let e = content_plain c.loop-i.i c.args.content.now c.loop-i-test.true (search rules) (sym w.if-not-is_part_of_string.ensures) in
          let g = fault_front (get_or c.args.content.now c.loop-i.i 0 ∷ []) (contents 0 (c.loop-i.i + 1 + 1) (drop (c.loop-i.i + 1) c.args.content.now)) in
          cc
    ]
