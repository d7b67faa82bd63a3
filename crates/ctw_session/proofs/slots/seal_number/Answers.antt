use Rattle.std.proofs.Common.{◌≡◌, ◌<◌, ◌%◌, ◌/◌, ◌+◌, ◌-◌, ◌++◌, ◌∷◌, [], suc, ℕ, List, ap, sym, ◌∙◌, append_assoc, arith}
use Rattle.ctw_semantics.specs.Stores.{bytes_of_number}
use Rattle.ctw_moves.specs.Arguments.{byte_width}
use Rattle.ctw_session.proofs.slots.seal_number.Goals as goal

one_more : (count i rest : ℕ) (before items after all : List ℕ) → i < count → after ≡ items ++ rest % 256 ∷ [] → items ++ bytes_of_number (count - i) rest ≡ all → after ++ bytes_of_number (count - (i + 1)) (rest / 256) ≡ all
one_more count i rest before items after all lt e h =
    let k : count - i ≡ suc (count - (i + 1)) = omega (arith, lt) in
    ap (λ (l : List ℕ). l ++ bytes_of_number (count - (i + 1)) (rest / 256)) e ∙ append_assoc items (rest % 256 ∷ []) (bytes_of_number (count - (i + 1)) (rest / 256))
    ∙ ap (λ (n : ℕ). items ++ bytes_of_number n rest) (sym k) ∙ h

pub bytes-preserved : goal.bytes-preserved
bytes-preserved c =
    let lt : c.bytes.counter < byte_width c.args.width = omega (arith, c.bytes-test.true, c.bytes_in-end.ensures.count) in (
      one_more (byte_width c.args.width) c.bytes.counter c.bytes.rest [] c.bytes.sealed.items c.push_reserved.new.self.items _ lt c.push_reserved.ensures.items c.bytes.invariant.0,
      omega (arith, c.bytes.invariant.1, c.push_reserved.ensures.len, c.push_reserved.ensures.capacity, lt),
    )
