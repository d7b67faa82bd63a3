use Rattle.std.proofs.Common.{◌≡◌, ℕ, ◌+◌, ◌-◌, ◌<◌, ◌*◌, take, drop, length, sym, ap, ◌∙◌, arith}
use Rattle.std.proofs.lemmas.Grind.{get_or_default_zero}
use Rattle.ctw_semantics.specs.Stores.{number_of_bytes}
use Rattle.ctw_store.specs.Pages.{all_bytes}
use Rattle.ctw_store.proofs.Pages.{bytes_long}
use Rattle.ctw_store.proofs.Numbers.{number_next, below_next, small_next}
use Rattle.ctw_store.proofs.page.read_over.Goals as goal

pub overflow_mul-number : goal.overflow_mul-number
overflow_mul-number c = let h = below_next (c.args.count - c.bytes.left) c.bytes.number 0 (omega arith) c.bytes.invariant.small (omega arith) in omega arith

pub overflow_add-at : goal.overflow_add-at
overflow_add-at c = let e = bytes_long c.args.pages.now c.requires.whole in omega arith

pub overflow_add-number : goal.overflow_add-number
overflow_add-number c = let h = below_next (c.args.count - c.bytes.left) c.bytes.number c.byte_at.result (omega arith) c.bytes.invariant.small (omega arith) in omega arith

pub bytes-preserved : goal.bytes-preserved
bytes-preserved c =
    let k : ℕ = c.args.count - c.bytes.left in
    let p : ℕ = c.args.at + (c.bytes.left - 1) in
    let e1 : c.args.count - (c.bytes.left - 1) ≡ k + 1 = omega arith in
    let e2 : p + 1 ≡ c.args.at + c.bytes.left = omega arith in
    let l : p < length (all_bytes c.args.pages.now) = omega arith in
    let n = number_next (all_bytes c.args.pages.now) p k c.byte_at.result l (get_or_default_zero (all_bytes c.args.pages.now) p c.byte_at.result l ∙ sym c.byte_at.ensures) in
    let x : c.byte_at.result < 256 = omega arith in
    record {
      below = omega arith;
      number = ap (λ x. x * 256 + c.byte_at.result) c.bytes.invariant.number ∙ ap (λ q. number_of_bytes (take k (drop q (all_bytes c.args.pages.now))) * 256 + c.byte_at.result) (sym e2) ∙ sym n ∙ ap (λ k. number_of_bytes (take k (drop p (all_bytes c.args.pages.now)))) (sym e1);
      small = rw e1 (small_next k c.bytes.number c.byte_at.result c.bytes.invariant.small (omega arith));
    }
