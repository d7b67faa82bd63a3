-- What stands in front of what is appended.
use Rattle.std.proofs.Common.{◌≡◌, ℕ, List, [], ◌∷◌, ◌++◌, length, take, drop, refl, sym, ap, ◌∙◌, append_assoc}
use Rattle.std.proofs.Math.Seq.{take-append_seam}
use Rattle.std.proofs.lemmas.List.{take-append-drop}

pub kept_here : (xs : List ℕ) → take (length xs) xs ≡ xs
kept_here [] = refl
kept_here (x ∷ xs) = ap (λ ys. x ∷ ys) (kept_here xs)

pub kept_append : (xs ys zs : List ℕ) → ys ≡ xs ++ zs → take (length xs) ys ≡ xs
kept_append xs ys zs e = rw e (take-append_seam xs zs)

pub kept_then : (xs ys zs : List ℕ) → take (length xs) ys ≡ xs → take (length ys) zs ≡ ys → take (length xs) zs ≡ xs
kept_then xs ys zs e f =
    let g : xs ++ drop (length xs) ys ≡ ys = ap (λ front. front ++ drop (length xs) ys) (sym e) ∙ take-append-drop (length xs) ys in
    let h : ys ++ drop (length ys) zs ≡ zs = ap (λ front. front ++ drop (length ys) zs) (sym f) ∙ take-append-drop (length ys) zs in
    let k : zs ≡ xs ++ (drop (length xs) ys ++ drop (length ys) zs) = sym h ∙ ap (λ front. front ++ drop (length ys) zs) (sym g) ∙ append_assoc xs (drop (length xs) ys) (drop (length ys) zs) in
    kept_append xs zs _ k
