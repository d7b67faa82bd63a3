-- The opcodes of a cut tree are the cut opcodes of the tree.
use Rattle.std.proofs.Common.{◌≡◌, ℕ, zero, suc, true, false, List, [], ◌∷◌, ◌++◌, Option, Some, None, refl, sym, ◌∙◌, ap}
use Rattle.ctw_ops.specs.ValueType.{ValueType}
use Rattle.ctw_ops.specs.Code.{Leaf, Unreachable, Code, Stop, Then, Block, Loop, If, IfElse, OfBlock, OfLoop, OfIf, ByEnd, ByElse, Op, Plain, Opens, Closes, onto, opcodes}
use Rattle.ctw_ops.specs.Segments.{and_then}
use Rattle.ctw_ops.specs.Cut.{OpenBlock, open_block, ending, closing, cut_among, cut_opcodes, behind, where_cut, unreachable, cut_if, cut}

-- what the law says of one sequence and its cut
abbrev IsCut : {S : Type 0} → Code S → ℕ → List (Op S) → OpenBlock S → List (OpenBlock S) → Option ℕ → Code S → Type 0
IsCut code k tail b outer None c = cut_among k (onto code tail) (b ∷ outer) ≡ onto c (ending b.arm b.yields ++ closing outer)
IsCut code k tail b outer (Some j) c = (c ≡ code) × (cut_among k (onto code tail) (b ∷ outer) ≡ onto code (cut_among (suc j) tail (b ∷ outer)))

abbrev pub AllCuts : {S : Type 0} → Code S → Type 0
AllCuts code = (k : ℕ) (tail : List (Op _)) (b : OpenBlock _) (outer : List (OpenBlock _)) → IsCut code k tail b outer (behind code k) (cut code k)

module _ {S : Type 0} where
  then_cut : (i : Leaf S) (rest : Code S) (k : ℕ) (tail : List (Op S)) (b : OpenBlock S) (outer : List (OpenBlock S)) (left : Option ℕ) (c : Code S) → IsCut rest k tail b outer left c → IsCut (Then i rest) (suc k) tail b outer left (Then i c)
  then_cut i rest k tail b outer None c h = ap (λ z. Plain i ∷ z) h
  then_cut i rest k tail b outer (Some j) c h = (ap (Then i) h.0, ap (λ z. Plain i ∷ z) h.1)

  -- what follows a block, of which `front` puts all up to its end in front
  rest_cut : (K : Code S → Code S) (front : List (Op S) → List (Op S)) → ((c : Code S) (tail : List (Op S)) → onto (K c) tail ≡ front (Closes ByEnd ∷ onto c tail)) →
      (rest : Code S) (k j : ℕ) (tail : List (Op S)) (b : OpenBlock S) (outer : List (OpenBlock S)) →
      cut_among k (onto (K rest) tail) (b ∷ outer) ≡ front (Closes ByEnd ∷ cut_among j (onto rest tail) (b ∷ outer)) →
      (left : Option ℕ) (c : Code S) → IsCut rest j tail b outer left c → IsCut (K rest) k tail b outer left (K c)
  rest_cut K front fl rest k j tail b outer e None c h = e ∙ ap (λ z. front (Closes ByEnd ∷ z)) h ∙ sym (fl c (ending b.arm b.yields ++ closing outer))
  rest_cut K front fl rest k j tail b outer e (Some l) c h = (ap K h.0, e ∙ ap (λ z. front (Closes ByEnd ∷ z)) h.1 ∙ sym (fl rest (cut_among (suc l) tail (b ∷ outer))))

  -- a cut inside an arm, of which `front` puts all before it in front
  shut_cut : (code c d : Code S) (front : List (Op S) → List (Op S)) (xs : List (Op S)) (a : OpenBlock S) (n k : ℕ) (tail : List (Op S)) (b : OpenBlock S) (outer : List (OpenBlock S)) →
      cut_among n (onto code tail) (b ∷ outer) ≡ front (cut_among k xs (a ∷ b ∷ outer)) →
      cut_among k xs (a ∷ b ∷ outer) ≡ onto c (ending a.arm a.yields ++ closing (b ∷ outer)) →
      ((end : List (Op S)) → onto d end ≡ front (onto c (ending a.arm a.yields ++ (Plain Unreachable ∷ end)))) →
      IsCut code n tail b outer None d
  shut_cut code c d front xs a n k tail b outer e h sh = e ∙ ap front h ∙ sym (sh (ending b.arm b.yields ++ closing outer))

  -- a block, of which `front` puts all up to its last arm, `body`, in front
  block_cut : (K D : Code S → Code S) (front : List (Op S) → List (Op S)) (a : OpenBlock S) (body rest : Code S) → AllCuts body → AllCuts rest →
      ((c : Code S) (tail : List (Op S)) → onto (K c) tail ≡ front (onto body (Closes ByEnd ∷ onto c tail))) →
      ((c : Code S) (end : List (Op S)) → onto (D c) end ≡ front (onto c (ending a.arm a.yields ++ (Plain Unreachable ∷ end)))) →
      (n k : ℕ) (tail : List (Op S)) (b : OpenBlock S) (outer : List (OpenBlock S)) →
      cut_among n (onto (K rest) tail) (b ∷ outer) ≡ front (cut_among k (onto body (Closes ByEnd ∷ onto rest tail)) (a ∷ b ∷ outer)) →
      IsCut (K rest) n tail b outer (and_then (behind body k) (behind rest)) (where_cut (behind body k) (D (cut body k)) (λ j. K (cut rest j)))
  block_cut K D front a body rest hb hr fl sh n k tail b outer e = go (behind body k) (cut body k) (hb k (Closes ByEnd ∷ onto rest tail) a (b ∷ outer))
    where
      go : (left : Option ℕ) (c : Code S) → IsCut body k (Closes ByEnd ∷ onto rest tail) a (b ∷ outer) left c → IsCut (K rest) n tail b outer (and_then left (behind rest)) (where_cut left (D c) (λ j. K (cut rest j)))
      go None c h = shut_cut (K rest) c (D c) front (onto body (Closes ByEnd ∷ onto rest tail)) a n k tail b outer e h (sh c)
      go (Some j) c h = rest_cut K (λ z. front (onto body z)) fl rest n j tail b outer (e ∙ ap front h.1) (behind rest j) (cut rest j) (hr j tail b outer)

  if_shut : (t : Option (ValueType S)) (c : Code S) (end : List (Op S)) → onto (cut_if t c) end ≡ Opens OfIf t ∷ onto c (ending true t ++ (Plain Unreachable ∷ end))
  if_shut None c end = refl
  if_shut (Some t) c end = refl

  arms_cut : (t : Option (ValueType S)) (arm other rest : Code S) → AllCuts arm → AllCuts other → AllCuts rest → (k : ℕ) (tail : List (Op S)) (b : OpenBlock S) (outer : List (OpenBlock S)) →
      IsCut (IfElse t arm other rest) (suc k) tail b outer (behind (IfElse t arm other rest) (suc k)) (cut (IfElse t arm other rest) (suc k))
  arms_cut t arm other rest ha ho hr k tail b outer = go (behind arm k) (cut arm k) (ha k (Closes ByElse ∷ onto other (Closes ByEnd ∷ onto rest tail)) (open_block true t) (b ∷ outer))
    where
      last : List (Op S)
      last = onto other (Closes ByEnd ∷ onto rest tail)

      go : (left : Option ℕ) (c : Code S) → IsCut arm k (Closes ByElse ∷ onto other (Closes ByEnd ∷ onto rest tail)) (open_block true t) (b ∷ outer) left c →
          IsCut (IfElse t arm other rest) (suc k) tail b outer (and_then left (λ j. and_then (behind other j) (behind rest)))
          (where_cut left (cut_if t c) (λ j. where_cut (behind other j) (IfElse t arm (cut other j) unreachable) (λ i. IfElse t arm other (cut rest i))))
      go None c h = shut_cut (IfElse t arm other rest) c (cut_if t c) (λ z. Opens OfIf t ∷ z) (onto arm (Closes ByElse ∷ onto other (Closes ByEnd ∷ onto rest tail))) (open_block true t) (suc k) k tail b outer refl h (if_shut t c)
      go (Some j) c h =
          block_cut (λ d. IfElse t arm other d) (λ d. IfElse t arm d unreachable) (λ z. Opens OfIf t ∷ onto arm (Closes ByElse ∷ z)) (open_block false t) other rest ho hr
          (λ d z. refl) (λ d z. refl) (suc k) j tail b outer (ap (λ z. Opens OfIf t ∷ z) h.1)

  pub cut_law : (code : Code S) → AllCuts code
  cut_law code zero tail b outer = refl
  cut_law Stop (suc k) tail b outer = (refl, refl)
  cut_law (Then i rest) (suc k) tail b outer = then_cut i rest k tail b outer (behind rest k) (cut rest k) (cut_law rest k tail b outer)
  cut_law (Block t body rest) (suc k) tail b outer =
      block_cut (λ c. Block t body c) (λ c. Block t c unreachable) (λ z. Opens OfBlock t ∷ z) (open_block false t) body rest (cut_law body) (cut_law rest) (λ c z. refl) (λ c z. refl) (suc k) k tail b outer refl
  cut_law (Loop t body rest) (suc k) tail b outer =
      block_cut (λ c. Loop t body c) (λ c. Loop t c unreachable) (λ z. Opens OfLoop t ∷ z) (open_block false t) body rest (cut_law body) (cut_law rest) (λ c z. refl) (λ c z. refl) (suc k) k tail b outer refl
  cut_law (If t arm rest) (suc k) tail b outer =
      block_cut (λ c. If t arm c) (cut_if t) (λ z. Opens OfIf t ∷ z) (open_block true t) arm rest (cut_law arm) (cut_law rest) (λ c z. refl) (if_shut t) (suc k) k tail b outer refl
  cut_law (IfElse t arm other rest) (suc k) tail b outer = arms_cut t arm other rest (cut_law arm) (cut_law other) (cut_law rest) k tail b outer

  -- the outermost block is no then arm, so its result doesn't matter
  pub opcodes_of_cut_in : (t : Option (ValueType S)) (code : Code S) (k : ℕ) → cut_among k (opcodes code) (open_block false t ∷ []) ≡ opcodes (cut code k)
  opcodes_of_cut_in t code k = go (behind code k) (cut code k) (cut_law code k (Closes ByEnd ∷ []) (open_block false t) [])
    where
      at_end : (j : ℕ) → cut_among (suc j) (Closes ByEnd ∷ []) (open_block false t ∷ []) ≡ Closes ByEnd ∷ []
      at_end zero = refl
      at_end (suc j) = refl

      go : (left : Option ℕ) (c : Code S) → IsCut code k (Closes ByEnd ∷ []) (open_block false t) [] left c → cut_among k (opcodes code) (open_block false t ∷ []) ≡ opcodes c
      go None c h = h
      go (Some j) c h = h.1 ∙ ap (onto code) (at_end j) ∙ ap opcodes (sym h.0)

  pub opcodes_of_cut : (code : Code S) (k : ℕ) → opcodes (cut code k) ≡ cut_opcodes k (opcodes code)
  opcodes_of_cut code k = sym (opcodes_of_cut_in None code k)
