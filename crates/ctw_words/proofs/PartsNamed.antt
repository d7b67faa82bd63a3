-- The parts that words name.
use Rattle.std.proofs.Common.{◌≡◌, ℕ, zero, suc, ◌≤◌, ◌==◌, nat_le, cond, Bool, false, List, map, length, Some, None, filter_map, ap, ◌∙◌, arith}
use Rattle.std.proofs.lemmas.Bool.{and_from, le-leb}
use Rattle.std.proofs.lemmas.List.{length-map}
use Rattle.ctw_words.specs.NamedFiles.{named_file, named_files}
use Rattle.ctw_words.specs.SessionWords.{part_words}

pub some_words : (n : ℕ) → false ≡ (n == 0) → 1 ≤ n
some_words zero e = cc
some_words (suc n) e = omega arith

-- 1 to 64 words that stand for parts
pub are_parts : {X : Type 0} (f : X → List ℕ) (words : List X) → 1 ≤ length words → length words ≤ 64 → named_files (map f words) ≡ Some (filter_map named_file (map f words)) → part_words (map f words) ≡ Some (filter_map named_file (map f words))
are_parts f words some few e =
    let n : length (map f words) ≡ length words = length-map words f in
    ap (λ (t : Bool). cond t (named_files (map f words)) None) (and_from (nat_le 1 (length (map f words))) (nat_le (length (map f words)) 64) (le-leb 1 (length (map f words)) (omega (arith, n, some))) (le-leb (length (map f words)) 64 (omega (arith, n, few)))) ∙ e
