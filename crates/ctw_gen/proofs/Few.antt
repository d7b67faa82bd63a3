-- How long the texts of a workload are at most.
use Rattle.std.proofs.Common.{◌≡◌, ℕ, zero, suc, ◌+◌, ◌*◌, ◌<◌, ◌≤◌, ◌/◌, ◌⊎◌, inl, inr, Bool, false, List, [], ◌∷◌, ◌++◌, length, refl, ap, ◌∙◌, arith, length-append}
use Rattle.std.specs.Prelude.{pos}
use Rattle.std.specs.Int.{w32, cast_signed}
use Rattle.std.proofs.lemmas.Bool.{cases_lt}
use Rattle.std.proofs.lemmas.Int.{to_z_pos}
use Rattle.ctw_ops.specs.declared.types.Label.{Label}
use Rattle.ctw_ops.specs.declared.types.Width.TheVariants.{W32}
use Rattle.ctw_ops.specs.Code.{Leaf, Call}
use Rattle.ctw_leb.specs.Spelling.{shortest, u32_text, s64_text}
use Rattle.ctw_leb.proofs.Spelling.{one_more, last_one}
use Rattle.ctw_write.specs.Canon.{all_texts, bits_text, leaf_text}
use Rattle.ctw_write.proofs.Pieces.{all_texts-append}
use Rattle.ctw_gen.specs.Workload.{number, computes, stores, calls}
use Rattle.ctw_gen.proofs.Counting.{calls_more}

-- ---- numbers

one_byte : (limit : ℕ) (below : Bool) (k n : ℕ) → n < limit → length (shortest limit below (suc k) n) ≤ 1
one_byte limit below k n lt = omega (arith, ap length (last_one limit below k n lt))

two_bytes : (limit : ℕ) (below : Bool) (k n : ℕ) → n < 128 * limit → length (shortest limit below (suc (suc k)) n) ≤ 2
two_bytes limit below k n lt = of (cases_lt n limit)
  where
    of : (n < limit) ⊎ (limit ≤ n) → length (shortest limit below (suc (suc k)) n) ≤ 2
    of (inl small) = omega (arith, one_byte limit below (suc k) n small)
    of (inr large) =
        let rest : length (shortest limit below (suc k) (n / 128)) ≤ 1 = one_byte limit below k (n / 128) (omega arith) in
        omega (arith, ap length (one_more limit below (suc k) n large))

three_bytes : (limit : ℕ) (below : Bool) (k n : ℕ) → n < 16384 * limit → length (shortest limit below (suc (suc (suc k))) n) ≤ 3
three_bytes limit below k n lt = of (cases_lt n limit)
  where
    of : (n < limit) ⊎ (limit ≤ n) → length (shortest limit below (suc (suc (suc k))) n) ≤ 3
    of (inl small) = omega (arith, one_byte limit below (suc (suc k)) n small)
    of (inr large) =
        let rest : length (shortest limit below (suc (suc k)) (n / 128)) ≤ 2 = two_bytes limit below k (n / 128) (omega arith) in
        omega (arith, ap length (one_more limit below (suc (suc k)) n large))

-- an unsigned number below 2^21, and a positive one below 2^20
pub number_few : (n : ℕ) → n < 2097152 → length (u32_text n) ≤ 3
unfolding u32_text
number_few n lt = three_bytes 128 false 7 n (omega arith)

pub bits_few : (n : ℕ) → n < 1048576 → length (bits_text W32 n) ≤ 3
unfolding s64_text
bits_few n lt =
    let same : cast_signed w32 n ≡ pos n = to_z_pos w32 n (omega arith) in
    rw same (three_bytes 64 false 7 n (omega arith))

-- ---- instructions

pub computes_few : (a c : ℕ) → c < 1048576 → length (all_texts leaf_text (computes a c)) ≤ 10
unfolding u32_text shortest
computes_few a c lt =
    let whole : length (all_texts leaf_text (computes a c)) ≡ suc (suc (suc (suc (suc (suc (length (bits_text W32 c ++ 0x73 ∷ []))))))) = refl in
    omega (arith, whole, bits_few c lt, length-append (bits_text W32 c) (0x73 ∷ []))

pub stores_long : length (all_texts leaf_text stores) ≡ 16
unfolding u32_text s64_text shortest
stores_long = refl

call_few : (k : ℕ) → k < 1048576 → length (all_texts leaf_text (number k ∷ Call k ∷ [])) ≤ 8
call_few k lt =
    let whole : length (all_texts leaf_text (number k ∷ Call k ∷ [])) ≡ suc (length (bits_text W32 k ++ (0x10 ∷ (u32_text k ++ [])))) = refl in
    omega (arith, whole, bits_few k lt, number_few k (omega arith), length-append (bits_text W32 k) (0x10 ∷ (u32_text k ++ [])), length-append (u32_text k) [])

calls_few_to : (n : ℕ) → n < 1048576 → length (all_texts leaf_text (calls n)) ≤ 8 * n
calls_few_to zero lt = omega arith
calls_few_to (suc n) lt =
    let on : suc n ≡ n + 1 = omega arith in
    let whole : length (all_texts leaf_text (calls (suc n))) ≡ length (all_texts leaf_text (calls n) ++ all_texts leaf_text (number n ∷ Call n ∷ [])) =
    ap (λ (k : ℕ). length (all_texts leaf_text (calls k))) on ∙ ap (λ (l : List (Leaf Label)). length (all_texts leaf_text l)) (calls_more n)
    ∙ ap length (all_texts-append leaf_text (calls n) (number n ∷ Call n ∷ [])) in
    omega (arith, whole, calls_few_to n (omega arith), call_few n (omega arith), length-append (all_texts leaf_text (calls n)) (all_texts leaf_text (number n ∷ Call n ∷ [])))

pub calls_few : (n : ℕ) → n ≤ 20000 → length (all_texts leaf_text (calls n)) ≤ 160000
calls_few n le = omega (arith, calls_few_to n (omega arith))
