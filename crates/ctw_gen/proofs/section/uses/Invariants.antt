use Rattle.std.proofs.Common.{◌≡◌, ◌++◌, ℕ}
use Rattle.std.specs.List.{range_with_len}
use Rattle.ctw_leb.specs.Spelling.{u32_text}
use Rattle.ctw_write.specs.Canon.{all_texts}
use Rattle.ctw_gen.proofs.section.uses.Given as goal

-- the first ones are written
abbrev pub invariant-loop : goal.invariant-loop
invariant-loop l = l.out.items ≡ l.initial.out.items ++ all_texts (λ (k : ℕ). u32_text 0) (range_with_len 0 l.counter)
