-- The numbers of words that are read as `work`.
use Rattle.std.proofs.Common.{◌≡◌, ◌≤◌, ◌<◌, ◌^◌, ◌&&◌, ℕ, Bool, true, false, List, [], ◌∷◌, Option, Some, None, option_map, cond, length, nat_le, refl, subst, arith, codes}
use Rattle.std.specs.Str.{bytes_eq, all_ascii_digits}
use Rattle.std.specs.Str.Parse.{digits_value}
use Rattle.std.proofs.lemmas.Bool.{leb-true}
use Rattle.ctw_ops.specs.declared.numeric.Profile.{Profile}
use Rattle.ctw_ops.specs.declared.numeric.Profile.TheVariants.{Divide, Multiply}
use Rattle.ctw_words.specs.SessionWords.{run_words, once_words}
use Rattle.ctw_words.specs.Words.{Command, Check, Canon, Assemble, Text, Infer, Strip, Link, Run, Once, Work, within, number_word, seed_and_size, work_words, file_words, infer_words, link_words, or_command, profiled_command, mul_command, command_of}

-- a seed below 2^31, and a size of at most 20,000
abbrev pub HasFewNumbers : Command → Type 0
HasFewNumbers (Work profile seed size) = (seed < 2 ^ 31) × (size ≤ 20000)
HasFewNumbers command = Unit {0}

abbrev pub IsFew : Option Command → Type 0
IsFew None = Unit {0}
IsFew (Some command) = HasFewNumbers command

-- ---- numbers

within_most : (least most n m : ℕ) → within least most n ≡ Some m → m ≤ most
within_most least most n m e = at (nat_le least n) (nat_le n most) refl e
  where
    at : (a b : Bool) → nat_le n most ≡ b → cond (a && b) (Some n) None ≡ Some m → m ≤ most
    at true true q e = let same : n ≡ m = cc in subst (λ (k : ℕ). k ≤ most) same (leb-true n most q)
    at true false q e = absurd cc
    at false b q e = absurd cc

number_most : (least most : ℕ) (word : List ℕ) (m : ℕ) → number_word least most word ≡ Some m → m ≤ most
number_most least most word m e = at (nat_le 1 (length word) && all_ascii_digits word) e
  where
    at : (b : Bool) → cond b (within least most (digits_value 10 word)) None ≡ Some m → m ≤ most
    at true e = within_most least most (digits_value 10 word) m e
    at false e = absurd cc

-- ---- commands

or_few : (a b : Option Command) → IsFew a → IsFew b → IsFew (or_command a b)
or_few None b h k = k
or_few (Some command) b h k = h

module _ (profile : Profile) where
  both_few : (a b : Option ℕ) → ((m : ℕ) → a ≡ Some m → m < 2 ^ 31) → ((m : ℕ) → b ≡ Some m → m ≤ 20000) → IsFew (option_map (λ numbers. Work profile numbers.0 numbers.1) (seed_and_size a b))
  both_few None b h k = tt
  both_few (Some seed) None h k = tt
  both_few (Some seed) (Some size) h k = (h seed refl, k size refl)

  work_few : (words : List (List ℕ)) → IsFew (option_map (λ numbers. Work profile numbers.0 numbers.1) (work_words words))
  work_few [] = tt
  work_few (command ∷ []) = tt
  work_few (command ∷ seed ∷ []) = tt
  work_few (command ∷ seed ∷ size ∷ []) = at (bytes_eq command (codes "work"))
    where
      at : (b : Bool) → IsFew (option_map (λ numbers. Work profile numbers.0 numbers.1) (cond b (seed_and_size (number_word 0 2147483647 seed) (number_word 1 20000 size)) None))
      at true = both_few (number_word 0 2147483647 seed) (number_word 1 20000 size) (λ m e. omega (arith, number_most 0 2147483647 seed m e)) (λ m e. number_most 1 20000 size m e)
      at false = tt
  work_few (command ∷ seed ∷ size ∷ word ∷ words) = tt

  -- commands of other forms
  module _ {X : Type 0} (f : X → Command) (few : (x : X) → HasFewNumbers (f x)) where
    other_few : (o : Option X) → IsFew (option_map f o)
    other_few None = tt
    other_few (Some x) = few x

  profiled_few : (words : List (List ℕ)) → IsFew (profiled_command profile words)
  profiled_few words =
      or_few _ _ (other_few (Check profile) (λ x. tt) (file_words (codes "check") words))
      (or_few _ _ (other_few (Text profile) (λ x. tt) (file_words (codes "text") words))
      (or_few _ _ (other_few (λ (files : List ℕ × List ℕ). Infer profile files.0 files.1) (λ x. tt) (infer_words words))
      (or_few _ _ (other_few (Strip profile) (λ x. tt) (file_words (codes "strip") words))
      (or_few _ _ (other_few (Link profile) (λ x. tt) (link_words words))
      (or_few _ _ (other_few (Run profile) (λ x. tt) (run_words words))
      (or_few _ _ (other_few (Once profile) (λ x. tt) (once_words words)) (work_few words)))))))

mul_few : (words : List (List ℕ)) → IsFew (mul_command words)
mul_few [] = tt
mul_few (word ∷ words) = at (bytes_eq word (codes "mul"))
  where
    at : (b : Bool) → IsFew (cond b (profiled_command Multiply words) None)
    at true = profiled_few Multiply words
    at false = tt

pub words_few : (words : List (List ℕ)) → IsFew (command_of words)
words_few words =
    or_few _ _ (profiled_few Divide words) (or_few _ _ (mul_few words) (or_few _ _ (canon_few (file_words (codes "canon") words)) (text_few (file_words (codes "assemble") words))))
  where
    canon_few : (o : Option (List ℕ)) → IsFew (option_map Canon o)
    canon_few None = tt
    canon_few (Some file) = tt

    text_few : (o : Option (List ℕ)) → IsFew (option_map Assemble o)
    text_few None = tt
    text_few (Some file) = tt

-- so the numbers of words that are read as `work` are few
pub work_numbers : (words : List (List ℕ)) (profile : Profile) (seed size : ℕ) → command_of words ≡ Some (Work profile seed size) → (seed < 2 ^ 31) × (size ≤ 20000)
work_numbers words profile seed size e = subst IsFew e (words_few words)
