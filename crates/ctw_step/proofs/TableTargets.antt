-- The target that an operand names in a branch table.
use Rattle.std.specs.Prelude.{if◌then◌else◌}
use Rattle.std.proofs.Common.{◌≡◌, ℕ, zero, suc, ◌≤◌, Bool, true, false, nat_lt, List, [], ◌∷◌, ◌++◌, length, Option, Some, None, slice_get, refl, sym, ap, ◌∙◌, arith}
use Rattle.std.proofs.lemmas.Bool.Decides.{nat_tests}
use Rattle.std.proofs.lemmas.Option.{slice_get_within}
use Rattle.ctw_semantics.specs.Machine.{table_place}

got : (ts : List ℕ) (o n x : ℕ) → slice_get ts n ≡ Some x → slice_get (ts ++ o ∷ []) n ≡ Some x
got [] o n x e = absurd cc
got (t ∷ ts) o zero x e = e
got (t ∷ ts) o (suc n) x e = got ts o n x e

past : (ts : List ℕ) (n : ℕ) → slice_get ts n ≡ None → length ts ≤ n
past [] n e = omega arith
past (t ∷ ts) zero e = absurd cc
past (t ∷ ts) (suc n) e = let h = past ts n e in omega (arith, h)

at_end : (ts : List ℕ) (o : ℕ) → slice_get (ts ++ o ∷ []) (length ts) ≡ Some o
at_end [] o = refl
at_end (t ∷ ts) o = at_end ts o

same : (a b : ℕ) (r : Option ℕ) → r ≡ Some a → r ≡ Some b → a ≡ b
same a b r e f = cc

pub named : (ts : List ℕ) (o n x k : ℕ) → Some x ≡ slice_get ts n → slice_get (ts ++ o ∷ []) (table_place n ts) ≡ Some k → x ≡ k
named ts o n x k e f =
    let l = slice_get_within ts n x (sym e) in
    let p : nat_lt n (length ts) ≡ true = grind (arith, nat_tests, l) in
    same x k (slice_get (ts ++ o ∷ []) (table_place n ts)) (ap (λ (b : Bool). slice_get (ts ++ o ∷ []) (if b then n else length ts)) p ∙ got ts o n x (sym e)) f

pub unnamed : (ts : List ℕ) (o n k : ℕ) → None ≡ slice_get ts n → slice_get (ts ++ o ∷ []) (table_place n ts) ≡ Some k → o ≡ k
unnamed ts o n k e f =
    let l = past ts n (sym e) in
    let p : nat_lt n (length ts) ≡ false = grind (arith, nat_tests, l) in
    same o k (slice_get (ts ++ o ∷ []) (table_place n ts)) (ap (λ (b : Bool). slice_get (ts ++ o ∷ []) (if b then n else length ts)) p ∙ at_end ts o) f
