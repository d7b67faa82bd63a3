-- What ordered sets have, by the definitions' tests.
use Rattle.std.proofs.Common.{◌≡◌, ℕ, Bool, true, false, cond, List, [], ◌∷◌, refl, sym, ◌∙◌, ap₂, arith}
use Rattle.std.specs.Prelude.{◌==◌, ◌&&◌, ◌||◌, map}
use Rattle.std.specs.List.{list_any}
use Rattle.std.specs.declared.cmp.Ordering.{Ordering}
use Rattle.std.specs.Ordering.{nat_cmp, ordering_then}
use Rattle.std.specs.BTreeMap.{is_at}
use Rattle.std.proofs.lemmas.Bool.Decides.{nat_tests}
use Rattle.ctw_labels.specs.Points.{Release, has_number, has_release}

pub at_number : (f k : ℕ) → is_at (nat_cmp f) k ≡ (k == f)
at_number f k = grind (arith, nat_tests)

pub any_number : (f : ℕ) (ks : List ℕ) → list_any (is_at (nat_cmp f)) ks ≡ has_number f ks
any_number f [] = refl
any_number f (k ∷ ks) = ap₂ (λ a b. a || b) (at_number f k) (any_number f ks)

abbrev pub release_of : ℕ × ℕ → Release
release_of r = record { func = r.0; at = r.1 }

abbrev pub pair_cmp : ℕ → ℕ → ℕ × ℕ → Ordering
pair_cmp f at y = ordering_then (nat_cmp f y.0) (nat_cmp at y.1)

pub at_pair : (f at : ℕ) (k : ℕ × ℕ) → is_at (pair_cmp f at) k ≡ (k.0 == f && k.1 == at)
at_pair f at k = grind (arith, nat_tests)

pub any_release : (f at : ℕ) (ks : List (ℕ × ℕ)) → list_any (is_at (pair_cmp f at)) ks ≡ has_release f at (map release_of ks)
any_release f at [] = refl
any_release f at (k ∷ ks) = ap₂ (λ a b. a || b) (at_pair f at k) (any_release f at ks)

pub or_cond : (a b : Bool) → cond a true b ≡ (a || b)
or_cond true b = refl
or_cond false b = refl

-- the same tests, turned round
pub number_at : (f k : ℕ) → is_at (nat_cmp f) k ≡ (f == k)
number_at f k = grind (arith, nat_tests)

pub pair_at : (f at : ℕ) (k : ℕ × ℕ) → is_at (pair_cmp f at) k ≡ (f == k.0 && at == k.1)
pair_at f at k = grind (arith, nat_tests)

pub number_added : (f g : ℕ) (old new : List ℕ) → list_any (is_at (nat_cmp g)) new ≡ cond (is_at (nat_cmp f) g) true (list_any (is_at (nat_cmp g)) old)
    → has_number g new ≡ (f == g || has_number g old)
number_added f g old new e =
    sym (any_number g new) ∙ e ∙ or_cond (is_at (nat_cmp f) g) (list_any (is_at (nat_cmp g)) old)
    ∙ ap₂ (λ a b. a || b) (number_at f g) (any_number g old)

pub release_added : (f at g k : ℕ) (old new : List (ℕ × ℕ))
    → list_any (is_at (pair_cmp g k)) new ≡ cond (is_at (pair_cmp f at) (g, k)) true (list_any (is_at (pair_cmp g k)) old)
    → has_release g k (map release_of new) ≡ ((f == g && at == k) || has_release g k (map release_of old))
release_added f at g k old new e =
    sym (any_release g k new) ∙ e ∙ or_cond (is_at (pair_cmp f at) (g, k)) (list_any (is_at (pair_cmp g k)) old)
    ∙ ap₂ (λ a b. a || b) (pair_at f at (g, k)) (any_release g k old)
