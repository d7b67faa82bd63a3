-- Where a fault function finds nothing.
use Rattle.std.proofs.Common.{◌≡◌, ◌≤◌, ◌↔◌, ℕ, suc, Bool, true, false, not, ◌&&◌, List, [], ◌∷◌, get_or, Option, Some, None, is_some, IsSome, IfSome, All, refl, arith, nat_le, slice_get}
use Rattle.std.proofs.lemmas.Bool.{leb-true, le-leb}
use Rattle.std.proofs.lemmas.List.Elements.{All-nil, All-cons}
use Rattle.std.specs.List.{list_all}
use Rattle.ctw_modcheck.specs.declared.fault.Invalid.{Invalid}
use Rattle.ctw_modcheck.specs.Faults.{or_else, unless, first_in, of_some, names}

-- it finds nothing exactly where this holds
abbrev pub NoneWhere : Option Invalid → Type 0 → Type 0
NoneWhere o P = (o ≡ None) ↔ P

pub none_unless : (b : Bool) (fault : Invalid) (P : Type 0) → ((b ≡ true) ↔ P) → NoneWhere (unless b fault) P
none_unless true fault P h = ((λ e. h.0 refl), (λ p. refl))
none_unless false fault P h = ((λ e. absurd cc), (λ p. let q : false ≡ true = h.1 p in absurd cc))

pub none_or : (a b : Option Invalid) (P Q : Type 0) → NoneWhere a P → NoneWhere b Q → NoneWhere (or_else a b) (P × Q)
none_or None b P Q h k = ((λ e. (h.0 refl, k.0 e)), (λ p. k.1 p.1))
none_or (Some f) b P Q h k = ((λ e. absurd cc), (λ p. let q : Some f ≡ None = h.1 p.0 in absurd cc))

-- the same where the second condition may be looked at behind the first
pub none_same : (a : Option Invalid) (P Q : Type 0) → NoneWhere a P → (P → Q) → (Q → P) → NoneWhere a Q
none_same a P Q h to from = ((λ e. to (h.0 e)), (λ q. h.1 (from q)))

pub all_first : {A : Type 0} (P : A → Type 0) (a : A) (l : List A) → All P (a ∷ l) → P a
all_first P a l h = h 0 a (omega arith)

pub all_rest : {A : Type 0} (P : A → Type 0) (a : A) (l : List A) → All P (a ∷ l) → All P l
all_rest P a l h = λ k d q. h (suc k) d (omega (arith, q))

pub all_to : {A : Type 0} (P Q : A → Type 0) (l : List A) → ((a : A) → P a → Q a) → All P l → All Q l
all_to P Q l f h = λ k d q. f (get_or l k d) (h k d q)

pub all_both : {A : Type 0} (P Q R : A → Type 0) (l : List A) → ((a : A) → P a → Q a → R a) → All P l → All Q l → All R l
all_both P Q R l f h g = λ k d q. f (get_or l k d) (h k d q) (g k d q)

pub none_first : {A : Type 0} (fault : ℕ → A → Option Invalid) (P : A → Type 0) → ((i : ℕ) (a : A) → NoneWhere (fault i a) (P a)) → (i : ℕ) (l : List A) → NoneWhere (first_in fault i l) (All P l)
none_first fault P h i [] = ((λ e. All-nil P), (λ p. refl))
none_first fault P h i (a ∷ l) =
    none_same (or_else (fault i a) (first_in fault (suc i) l)) (P a × All P l) (All P (a ∷ l)) (none_or (fault i a) (first_in fault (suc i) l) (P a) (All P l) (h i a) (none_first fault P h (suc i) l))
    (λ p. All-cons P a l p.0 p.1) (λ p. (all_first P a l p, all_rest P a l p))

pub none_some : {A : Type 0} (fault : A → Option Invalid) (P : A → Type 0) → ((a : A) → NoneWhere (fault a) (P a)) → (o : Option A) → NoneWhere (of_some fault o) (IfSome o P)
none_some fault P h None = ((λ e. tt), (λ p. refl))
none_some fault P h (Some a) = h a

-- ---- tests

pub both_tests : (b c : Bool) (P Q : Type 0) → ((b ≡ true) ↔ P) → ((c ≡ true) ↔ Q) → ((b && c) ≡ true) ↔ (P × Q)
both_tests true c P Q h k = ((λ e. (h.0 refl, k.0 e)), (λ p. k.1 p.1))
both_tests false c P Q h k = ((λ e. absurd cc), (λ p. let q : false ≡ true = h.1 p.0 in absurd cc))

pub not_test : (b : Bool) → (not b ≡ true) ↔ (b ≡ false)
not_test true = ((λ e. absurd cc), (λ e. absurd cc))
not_test false = ((λ e. refl), (λ e. refl))

pub some_test : {A : Type 0} (o : Option A) → (is_some o ≡ true) ↔ IsSome o
some_test o = ((λ e. e), (λ e. e))

pub none_test : {A : Type 0} (o : Option A) → (is_some o ≡ false) ↔ (o ≡ None)
none_test None = ((λ e. refl), (λ e. refl))
none_test (Some a) = ((λ e. absurd cc), (λ e. absurd cc))

pub le_test : (n m : ℕ) → (nat_le n m ≡ true) ↔ (n ≤ m)
le_test n m = (leb-true n m, le-leb n m)

pub all_test : {A : Type 0} (test : A → Bool) (P : A → Type 0) → ((a : A) → (test a ≡ true) ↔ P a) → (l : List A) → (list_all test l ≡ true) ↔ All P l
all_test test P h [] = ((λ e. All-nil P), (λ p. refl))
all_test test P h (a ∷ l) =
    let b = both_tests (test a) (list_all test l) (P a) (All P l) (h a) (all_test test P h l) in
    ((λ e. let q = b.0 e in All-cons P a l q.0 q.1), (λ p. b.1 (all_first P a l p, all_rest P a l p)))

pub names_test : {A : Type 0} (l : List A) (i : ℕ) → (names l i ≡ true) ↔ IsSome (slice_get l i)
names_test l i = some_test (slice_get l i)
