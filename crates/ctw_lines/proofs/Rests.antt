-- What is behind the first item of a list.
use Rattle.std.proofs.Common.{◌≡◌, ℕ, ◌-◌, List, ◌∷◌, length, take, drop, ap, ◌∙◌, arith}
use Rattle.std.proofs.Math.Seq.{take-length}

pub rest_is : {X : Type 0} (x : X) (others : List X) → take (length (x ∷ others) - 1) (drop 1 (x ∷ others)) ≡ others
rest_is x others = let n : length (x ∷ others) - 1 ≡ length others = omega arith in ap (λ (k : ℕ). take k others) n ∙ take-length others
