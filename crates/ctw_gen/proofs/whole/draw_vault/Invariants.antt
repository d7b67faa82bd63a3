use Rattle.std.proofs.Common.{◌≡◌, ◌+◌, ◌%◌, ℕ, map}
use Rattle.std.specs.List.{range_with_len}
use Rattle.ctw_gen.specs.Draws.{state, draw}
use Rattle.ctw_gen.proofs.whole.draw_vault.Given as goal

-- the first bytes are there, wherever the draws began
abbrev pub invariant-loop : goal.invariant-loop
invariant-loop l = (seed n : ℕ) → l.initial.draws ≡ state seed n
    → (l.draws ≡ state seed (n + l.counter)) × (l.bytes.items ≡ map (λ i. draw seed (n + i) % 256) (range_with_len 0 l.counter))
