-- The owner of a function of the store defines it, and the function's code is the owner's.
use Rattle.std.proofs.Common.{◌≡◌, ℕ, zero, suc, ◌+◌, ◌<◌, ◌≤◌, List, [], ◌∷◌, ◌++◌, map, length, Some, slice_get, All, refl, sym, ap, ◌∙◌, append_assoc, arith}
use Rattle.std.specs.List.{range_with_len}
use Rattle.std.proofs.lemmas.List.{length_push}
use Rattle.std.proofs.lemmas.List.Elements.{All-nil, All-cons, All-append}
use Rattle.std.proofs.lemmas.Option.{slice_get_within}
use Rattle.ctw_ops.specs.Tree.{function_entries}
use Rattle.ctw_module.specs.Trees.{tree}
use Rattle.ctw_module.specs.Lookup.{imported_count}
use Rattle.ctw_link.specs.declared.set.Part.{Part}
use Rattle.ctw_link.specs.Sets.{set_of}
use Rattle.ctw_link.specs.Numbers.{owned, owners_from, owners}
use Rattle.ctw_link.specs.Linked.{IsPart, Defines, code_at, code_of_part, code_of_owner, code_in}
use Rattle.ctw_module.proofs.IndexSpaces.{functions_count}
use Rattle.ctw_link.proofs.LinkedParts.{all_at}

abbrev Owns : List Part → ℕ × ℕ → Type 0
Owns parts owner = Defines parts owner.0 owner.1

module _ (parts : List Part) where
  part_owns : (k : ℕ) (p : Part) → IsPart parts k p → (first count : ℕ) → imported_count (tree p.«module») ≤ first → first + count ≤ length (function_entries (tree p.«module»)) → All (Owns parts) (map (λ index. (k, index)) (range_with_len first count))
  part_owns k p is first zero l h = All-nil (Owns parts)
  part_owns k p is first (suc count) l h =
      All-cons (Owns parts) (k, first) (map (λ index. (k, index)) (range_with_len (first + 1) count)) (record { part = p; is = is; defined = l; there = omega arith }) (part_owns k p is (first + 1) count (omega arith) (omega arith))

  at_end : (done rest : List Part) (p : Part) → slice_get (done ++ p ∷ rest) (length done) ≡ Some p
  at_end [] rest p = refl
  at_end (q ∷ done) rest p = at_end done rest p

  all_own : (done rest : List Part) (k : ℕ) → parts ≡ done ++ rest → k ≡ length done → All (Owns parts) (owners_from k (set_of rest))
  all_own done [] k e n = All-nil (Owns parts)
  all_own done (p ∷ rest) k e n =
      let m = tree p.«module» in
      let is : IsPart parts k p = ap (λ (l : List Part). slice_get l k) e ∙ ap (λ (j : ℕ). slice_get (done ++ p ∷ rest) j) n ∙ at_end done rest p in
      All-append (Owns parts) (owned k m) (owners_from (k + 1) (set_of rest)) (part_owns k p is (imported_count m) (length m.functions) (omega arith) (omega (arith, functions_count m)))
      (all_own (done ++ p ∷ []) rest (k + 1) (e ∙ sym (append_assoc done (p ∷ []) rest)) (omega (arith, n, length_push done p)))

  pub owner_defines : (f k index : ℕ) → slice_get (owners (set_of parts)) f ≡ Some (k, index) → Defines parts k index
  owner_defines f k index e = all_at (Owns parts) (owners (set_of parts)) f (k, index) (all_own [] parts 0 refl refl) e

  pub owner_within : (f k index : ℕ) → slice_get (owners (set_of parts)) f ≡ Some (k, index) → k < length parts
  owner_within f k index e = let d = owner_defines f k index e in slice_get_within parts k d.part d.is

  -- the code of a function of the store, by its owner
  pub code_is : (f k index : ℕ) (p : Part) → slice_get (owners (set_of parts)) f ≡ Some (k, index) → IsPart parts k p → code_in parts f ≡ code_at p.«module» index
  code_is f k index p e is = ap (code_of_owner parts) e ∙ ap (code_of_part index) is
