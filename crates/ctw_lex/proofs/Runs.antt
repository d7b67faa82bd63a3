-- Longest runs of bytes that pass a test.
use Rattle.std.proofs.Common.{◌≡◌, ℕ, suc, ◌+◌, ◌≤◌, Bool, true, false, cond, List, [], ◌∷◌, ◌++◌, length, take, drop, one-add, refl, ap, arith}
use Rattle.std.specs.Prelude.{IsTrue, All}
use Rattle.std.specs.List.{prefix_len, list_all, AllByRecursion}
use Rattle.std.proofs.lemmas.List.Elements.{All-from_recursion}
use Rattle.ctw_lex.specs.Grammar.{IsRun, begins}
use Rattle.ctw_lex.proofs.Facts.{both_true}

pub prefix_len-append : (p : ℕ → Bool) (run rest : List ℕ) → list_all p run ≡ true → begins p rest ≡ false → prefix_len p (run ++ rest) ≡ length run
prefix_len-append p [] [] a e = refl
prefix_len-append p [] (b ∷ bs) a e = rw e refl
prefix_len-append p (b ∷ run) rest a e =
    let h = both_true (p b) (list_all p run) a in
    rw (h.0, one-add) (ap suc (prefix_len-append p run rest h.1 e))

pub prefix_len-run : (p : ℕ → Bool) (run rest : List ℕ) → IsRun p run rest → prefix_len p (run ++ rest) ≡ length run
prefix_len-run p run rest r = prefix_len-append p run rest r.passes r.ends

-- the run at the head of a list
pub record HasRun (p : ℕ → Bool) (n : ℕ) (xs : List ℕ) : Type 0 where
  pub within : n ≤ length xs
  pub passes : list_all p (take n xs) ≡ true
  pub ends : begins p (drop n xs) ≡ false

has_run_cons : (p : ℕ → Bool) (x : ℕ) (xs : List ℕ) (t : Bool) → p x ≡ t → HasRun p (prefix_len p xs) xs → HasRun p (cond t (1 + prefix_len p xs) 0) (x ∷ xs)
has_run_cons p x xs true e h = rw one-add (record { within = omega (arith, h.within); passes = rw e h.passes; ends = h.ends })
has_run_cons p x xs false e h = record { within = omega arith; passes = refl; ends = e }

pub has_run : (p : ℕ → Bool) (xs : List ℕ) → HasRun p (prefix_len p xs) xs
has_run p [] = record { within = omega arith; passes = refl; ends = refl }
has_run p (x ∷ xs) = has_run_cons p x xs (p x) refl (has_run p xs)

pub run_of : (p : ℕ → Bool) (xs : List ℕ) → IsRun p (take (prefix_len p xs) xs) (drop (prefix_len p xs) xs)
run_of p xs = let h = has_run p xs in record { passes = h.passes; ends = h.ends }

all_pass : (p : ℕ → Bool) (xs : List ℕ) → list_all p xs ≡ true → AllByRecursion (λ x. IsTrue (p x)) xs
all_pass p [] e = tt
all_pass p (x ∷ xs) e = let h = both_true (p x) (list_all p xs) e in (h.0, all_pass p xs h.1)

pub prefix_passes : (p : ℕ → Bool) (xs : List ℕ) → All (λ x. IsTrue (p x)) (take (prefix_len p xs) xs)
prefix_passes p xs = All-from_recursion (λ x. IsTrue (p x)) _ (all_pass p (take (prefix_len p xs) xs) (has_run p xs).passes)
