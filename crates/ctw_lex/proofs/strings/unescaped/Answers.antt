use Rattle.std.proofs.Common.{rules, get_or, arith, drop, suc, ap, ◌∙◌, ◌+◌, ◌-◌, ◌≡◌, [], ◌∷◌}
use Rattle.std.specs.Prelude.{IsOk}
use Rattle.ctw_lex.specs.Strings.{contents, with_front, escape_of}
use Rattle.ctw_lex.specs.Escapes.{meaning}
use Rattle.ctw_lex.proofs.Steps.{content_skip, content_escape, content_plain_ok, front_front, slice_rest, meaning_len}
use Rattle.ctw_lex.proofs.strings.unescaped.Goals as goal
use Rattle.ctw_lex.proofs.strings.unescaped.Goals.{then-skip-gt0, else-skip-gt0+then-b-eq92+in-Some+in_ok-push_escape-in-Some, else-skip-gt0+else-b-eq92+in_ok-push}

pub loop-i-preserved : goal.loop-i-preserved
loop-i-preserved c =
    elim c.if-skip-gt0.branch [
      | then-skip-gt0 w ↦
          let k : c.loop-i.skip ≡ suc (c.loop-i.skip - 1) = omega arith in
          let e = content_skip c.loop-i.i c.args.content.now c.loop-i-test.true (c.loop-i.skip - 1) in
          cc
      | else-skip-gt0+then-b-eq92+in-Some+in_ok-push_escape-in-Some w ↦
          let i = w.in-Some.ensures.value ∙ ap escape_of (slice_rest (c.loop-i.i + 1) c.args.content.now) in
          let zero : c.loop-i.skip ≡ 0 = omega arith in
          let n = meaning_len w.in-Some.e in
          let e = content_escape c.loop-i.i c.args.content.now c.loop-i-test.true (meaning w.in-Some.e) w.if-b-eq92.true i in
          let g = front_front c.loop-i.out.items (meaning w.in-Some.e).bytes (contents (meaning w.in-Some.e).len (c.loop-i.i + 1 + 1) (drop (c.loop-i.i + 1) c.args.content.now)) in
          let h = w.in_ok-push_escape-in-Some.ensures in
          cc
      | else-skip-gt0+else-b-eq92+in_ok-push w ↦
          let zero : c.loop-i.skip ≡ 0 = omega arith in
          let same : contents 0 1 c.args.content.now ≡ with_front c.loop-i.out.items (contents 0 (c.loop-i.i + 1) (drop c.loop-i.i c.args.content.now)) = cc in
          let ok : IsOk (with_front c.loop-i.out.items (contents 0 (c.loop-i.i + 1) (drop c.loop-i.i c.args.content.now))) = rw (← same) c.requires in
          let e = content_plain_ok c.loop-i.i c.args.content.now c.loop-i-test.true c.loop-i.out.items (search rules) ok in
          let g = front_front c.loop-i.out.items (get_or c.args.content.now c.loop-i.i 0 ∷ []) (contents 0 (c.loop-i.i + 1 + 1) (drop (c.loop-i.i + 1) c.args.content.now)) in
          let h = w.in_ok-push.ensures.items in
          cc
    ]
