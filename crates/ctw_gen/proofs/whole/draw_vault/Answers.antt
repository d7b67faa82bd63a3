use Rattle.std.proofs.Common.{◌+◌, ◌%◌, ◌++◌, [], ◌∷◌, ℕ, List, map, ap, sym, ◌∙◌, arith}
use Rattle.std.specs.List.{range_with_len}
use Rattle.std.proofs.lemmas.List.FromFn.{map-range_with_len_more}
use Rattle.ctw_gen.specs.Draws.{draw}
use Rattle.ctw_gen.proofs.Steps.{vault_step}
use Rattle.ctw_gen.proofs.whole.draw_vault.Goals as goal

pub loop-preserved : goal.loop-preserved
loop-preserved c seed n e =
    let i = c.loop.counter in
    let h = c.loop.invariant seed n e in
    let byte = λ (k : ℕ). draw seed (n + k) % 256 in
    let v = vault_step seed n i c.loop.draws c.draw.new.self c.draw.result h.0 c.draw.ensures.state c.draw.ensures.drawn in (
      v.0,
      c.in_ok-push.ensures.items ∙ ap (λ (l : List ℕ). l ++ (c.draw.result % 256) ∷ []) h.1 ∙ ap (λ (r : ℕ). map byte (range_with_len 0 i) ++ (r % 256) ∷ []) v.1 ∙ sym (map-range_with_len_more byte 0 i i (omega arith)),
    )
