-- One more item of what is counted.
use Rattle.std.proofs.Common.{◌≡◌, ℕ, zero, suc, ◌+◌, List, [], ◌∷◌, ◌++◌, map, ap, ◌∙◌, arith}
use Rattle.std.specs.List.{range_with_len, flat_map}
use Rattle.std.proofs.lemmas.Grind.{flat_map-append}
use Rattle.std.proofs.lemmas.List.FromFn.{map-range_with_len_more}
use Rattle.ctw_ops.specs.Code.{Call}
use Rattle.ctw_write.specs.Canon.{all_texts}
use Rattle.ctw_write.proofs.Pieces.{all_texts-append}
use Rattle.ctw_gen.specs.Workload.{number, calls}

last : (a n j : ℕ) → a + n ≡ j → range_with_len a (suc n) ≡ range_with_len a n ++ j ∷ []
last a zero j e = let same : a ≡ j = omega arith in ap (λ k. k ∷ []) same
last a (suc n) j e = ap (λ (l : List ℕ). a ∷ l) (last (a + 1) n j (omega arith))

pub counted_more : (n : ℕ) → range_with_len 0 (n + 1) ≡ range_with_len 0 n ++ n ∷ []
counted_more n = let on : n + 1 ≡ suc n = omega arith in ap (range_with_len 0) on ∙ last 0 n n (omega arith)

pub calls_more : (n : ℕ) → calls (n + 1) ≡ calls n ++ number n ∷ Call n ∷ []
calls_more n = ap (flat_map (λ k. number k ∷ Call k ∷ [])) (counted_more n) ∙ flat_map-append (λ k. number k ∷ Call k ∷ []) (range_with_len 0 n) (n ∷ [])

-- the texts of one more item that a number makes
pub texts_more : {A : Type 0} (w : A → List ℕ) (f : ℕ → A) (n : ℕ) → all_texts w (map f (range_with_len 0 (n + 1))) ≡ all_texts w (map f (range_with_len 0 n)) ++ (w (f n) ++ [])
texts_more w f n = ap (all_texts w) (map-range_with_len_more f 0 n n (omega arith)) ∙ all_texts-append w (map f (range_with_len 0 n)) (f n ∷ [])
