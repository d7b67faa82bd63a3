-- Bytes that are written one after another.
use Rattle.std.proofs.Common.{◌≡◌, ℕ, suc, ◌+◌, ◌-◌, ◌/◌, ◌%◌, ◌<◌, List, [], ◌∷◌, ◌++◌, length, take, drop, slice_set, sym, ap, ap₂, ◌∙◌, arith, append_assoc}
use borrow.Rule.Slice.PartMut.{put_mid}
use Rattle.std.proofs.lemmas.List.{take_more_set, drop-set-lt, take-append-drop, drop-drop}
use Rattle.ctw_semantics.proofs.Memories.{length-bytes_of_number}
use Rattle.ctw_semantics.specs.Stores.{bytes_of_number, written_at}

pub written_none : (at : ℕ) (bytes : List ℕ) → written_at at [] bytes ≡ bytes
unfolding written_at
written_none at bytes = ap (λ n. take at bytes ++ drop n bytes) (omega arith) ∙ take-append-drop at bytes

pub written_next : (at x : ℕ) (xs bytes : List ℕ) → at < length bytes → written_at (at + 1) xs (slice_set bytes at x) ≡ written_at at (x ∷ xs) bytes
unfolding written_at
written_next at x xs bytes h =
    let t = take_more_set bytes at x h in
    let d = drop-set-lt (at + 1 + length xs) bytes at x (omega arith) in
    let n : at + 1 + length xs ≡ at + suc (length xs) = omega arith in
    ap₂ (λ (a b : List ℕ). a ++ (xs ++ b)) t (d ∙ ap (λ n. drop n bytes) n) ∙ append_assoc (take at bytes) (x ∷ []) (xs ++ drop (at + suc (length xs)) bytes)

pub one_written : (at i count rest : ℕ) (bytes : List ℕ) → i < count → at + i < length bytes
    → written_at (at + (i + 1)) (bytes_of_number (count - (i + 1)) (rest / 256)) (slice_set bytes (at + i) (rest % 256)) ≡ written_at (at + i) (bytes_of_number (count - i) rest) bytes
one_written at i count rest bytes h l =
    let k : ℕ = count - (i + 1) in
    let e : count - i ≡ suc k = omega arith in
    let q : at + (i + 1) ≡ at + i + 1 = omega arith in
    ap (λ p. written_at p (bytes_of_number k (rest / 256)) (slice_set bytes (at + i) (rest % 256))) q
    ∙ written_next (at + i) (rest % 256) (bytes_of_number k (rest / 256)) bytes l
    ∙ ap (λ k. written_at (at + i) (bytes_of_number k rest) bytes) (sym e)

pub byte_put : (at n : ℕ) (bytes : List ℕ) → at < length bytes → slice_set bytes at (n % 256) ≡ written_at at (bytes_of_number 1 n) bytes
byte_put at n bytes h = sym (written_none (at + 1) (slice_set bytes at (n % 256))) ∙ written_next at (n % 256) [] bytes h

-- a part of a list is replaced by bytes of a number
pub part_put : (at n count number : ℕ) (old new : List ℕ) → n ≡ count → new ≡ bytes_of_number count number → put_mid at n old new ≡ written_at at (bytes_of_number count number) old
unfolding written_at
part_put at n count number old new e w =
    let b : List ℕ = bytes_of_number count number in
    let l : n ≡ length b = e ∙ sym (length-bytes_of_number count number) in
    let d : drop n (drop at old) ≡ drop (at + length b) old = drop-drop n at old ∙ ap (λ n. drop (at + n) old) l in
    ap₂ (λ (x y : List ℕ). take at old ++ (x ++ y)) w d
