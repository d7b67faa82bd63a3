-- The owners of functions as they are gathered: function by function, and part by part.
use Rattle.std.proofs.Common.{◌≡◌, ◌≤◌, ◌<◌, ℕ, ◌+◌, ◌-◌, List, [], ◌∷◌, ◌++◌, length, map, get_or, drop, take, All, sym, ap, subst, ◌∙◌, arith}
use Rattle.std.specs.List.{range_with_len}
use Rattle.std.proofs.lemmas.List.{append_assoc, append-nil, drop_more, drop_all, take_all}
use Rattle.std.proofs.lemmas.List.Elements.{All-nil, All-map, All-more}
use Rattle.std.proofs.lemmas.List.FromFn.{map-range_with_len_more}
use Rattle.ctw_ops.specs.declared.types.Label.{Label}
use Rattle.ctw_ops.specs.Tree.{Module, function_entries, under}
use Rattle.ctw_ops.specs.declared.numeric.Profile.{Profile}
use Rattle.ctw_ops.specs.WithinLimits.{IsWithinLimits}
use Rattle.ctw_module.specs.Lookup.{imported_count}
use Rattle.ctw_module.specs.Trees.{tree, view_module}
use Rattle.ctw_link.specs.declared.set.Part.{Part}
use Rattle.ctw_link.specs.Sets.{NamedModule, AllWithinLimits, part_in, set_of}
use Rattle.ctw_link.specs.Numbers.{owned, owners_from, owners}
use Rattle.ctw_module.proofs.IndexSpaces.{functions_count}

-- ---- the functions of one part

-- those from the first defined one up to the index f stand behind others
pub record OwnedUpto (before : List (ℕ × ℕ)) (part imported f : ℕ) (found : List (ℕ × ℕ)) : Type 0 where
  pub gathered : found ≡ before ++ map (λ index. (part, index)) (range_with_len imported (f - imported))

pub owned_none : (before : List (ℕ × ℕ)) (part imported : ℕ) → OwnedUpto before part imported imported before
owned_none before part imported =
    let none : imported - imported ≡ 0 = omega arith in
    record { gathered = sym (append-nil before) ∙ ap (λ (n : ℕ). before ++ map (λ index. (part, index)) (range_with_len imported n)) (sym none) }

pub owned_more : (before : List (ℕ × ℕ)) (part imported f : ℕ) (found next : List (ℕ × ℕ)) → imported ≤ f → next ≡ found ++ (part, f) ∷ [] → OwnedUpto before part imported f found → OwnedUpto before part imported (f + 1) next
owned_more before part imported f found next low e o =
    let pair : ℕ → ℕ × ℕ = λ index. (part, index) in
    let count : (f + 1) - imported ≡ (f - imported) + 1 = omega (arith, low) in
    let more : map pair (range_with_len imported ((f + 1) - imported)) ≡ map pair (range_with_len imported (f - imported)) ++ (part, f) ∷ [] =
    ap (λ (n : ℕ). map pair (range_with_len imported n)) count ∙ map-range_with_len_more pair imported (f - imported) f (omega (arith, low)) in
    record { gathered = e ∙ ap (λ (l : List (ℕ × ℕ)). l ++ (part, f) ∷ []) o.gathered ∙ append_assoc before _ _ ∙ ap (λ (l : List (ℕ × ℕ)). before ++ l) (sym more) }

pub owned_all : (before : List (ℕ × ℕ)) (part imported f : ℕ) (found : List (ℕ × ℕ)) (m : Module Label) → imported ≡ imported_count m → f ≡ length (function_entries m) → OwnedUpto before part imported f found → found ≡ before ++ owned part m
owned_all before part imported f found m first last o =
    let count : f - imported ≡ length m.functions = omega (arith, first, last, functions_count m) in
    o.gathered ∙ ap (λ (n : ℕ). before ++ map (λ index. (part, index)) (range_with_len imported n)) count
    ∙ ap (λ (n : ℕ). before ++ map (λ index. (part, index)) (range_with_len n (length m.functions))) first

-- ---- the parts

-- those of the parts from k on are left
pub record OwnersLeft (parts : List Part) (k : ℕ) (found : List (ℕ × ℕ)) : Type 0 where
  pub all : found ++ owners_from k (set_of (drop k parts)) ≡ owners (set_of parts)

pub owners_none : (parts : List Part) (found : List (ℕ × ℕ)) → found ≡ [] → OwnersLeft parts 0 found
owners_none parts found e = record { all = ap (λ (l : List (ℕ × ℕ)). l ++ owners (set_of parts)) e }

pub owners_more : (parts : List Part) (k : ℕ) (p : Part) (found next : List (ℕ × ℕ)) → k < length parts → p ≡ get_or parts k p → next ≡ found ++ owned k (tree p.«module») → OwnersLeft parts k found → OwnersLeft parts (k + 1) next
owners_more parts k p found next lt is e o =
    let others = owners_from (k + 1) (set_of (drop (k + 1) parts)) in
    let here : drop k parts ≡ p ∷ drop (k + 1) parts = drop_more parts k p lt ∙ ap (λ (q : Part). q ∷ drop (k + 1) parts) (sym is) in
    record {
      all = ap (λ (l : List (ℕ × ℕ)). l ++ others) e ∙ append_assoc found (owned k (tree p.«module»)) others
          ∙ ap (λ (l : List Part). found ++ owners_from k (set_of l)) (sym here) ∙ o.all;
    }

pub owners_all : (parts : List Part) (k : ℕ) (found : List (ℕ × ℕ)) → length parts ≤ k → OwnersLeft parts k found → found ≡ owners (set_of parts)
owners_all parts k found le o =
    sym (append-nil found) ∙ ap (λ (l : List Part). found ++ owners_from k (set_of l)) (sym (drop_all k parts le)) ∙ o.all

-- ---- the limits that the parts keep

abbrev pub KeepsLimits : Part → Type 0
KeepsLimits p = IsWithinLimits (view_module p.«module»)

-- a profile is no limit
under_limits : (m : Module Label) (profile : Profile) → IsWithinLimits m → IsWithinLimits (under profile m)
under_limits m profile h = record { params = h.params; locals = h.locals; bytes = h.bytes }

-- those of the first parts are found, and these keep the limits
pub record OwnersFound (parts : List Part) (k : ℕ) (found : List (ℕ × ℕ)) : Type 0 where
  pub left : OwnersLeft parts k found
  pub limits : All KeepsLimits (take k parts)

pub found_none : (parts : List Part) (found : List (ℕ × ℕ)) → found ≡ [] → OwnersFound parts 0 found
found_none parts found e = record { left = owners_none parts found e; limits = All-nil KeepsLimits }

pub found_more : (parts : List Part) (k : ℕ) (p : Part) (found next : List (ℕ × ℕ)) → k < length parts → p ≡ get_or parts k p → next ≡ found ++ owned k (tree p.«module») → IsWithinLimits (tree p.«module») → OwnersFound parts k found
    → OwnersFound parts (k + 1) next
found_more parts k p found next lt is e limits h = record {
  left = owners_more parts k p found next lt is e h.left;
  limits = All-more KeepsLimits parts k p lt h.limits (subst KeepsLimits is (under_limits (tree p.«module») p.«module».profile limits));
}

all_taken : {A : Type 0} (P : A → Type 0) (xs : List A) (i : ℕ) → length xs ≤ i → All P (take i xs) → All P xs
all_taken P xs i le h = subst (All P) (take_all i xs le) h

pub limits_all : (parts : List Part) (k : ℕ) (found : List (ℕ × ℕ)) → length parts ≤ k → OwnersFound parts k found → AllWithinLimits (set_of parts)
limits_all parts k found le h = All-map (λ (p : NamedModule). IsWithinLimits p.tree) part_in parts (all_taken KeepsLimits parts k le h.limits)
