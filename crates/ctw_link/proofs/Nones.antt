-- Where a fault function finds nothing.
use Rattle.std.proofs.Common.{◌≡◌, ◌≤◌, ◌↔◌, ℕ, Bool, true, false, ◌&&◌, Option, Some, None, if◌then◌else◌, refl, nat_le}
use Rattle.std.proofs.lemmas.Bool.{leb-true, le-leb}
use Rattle.ctw_link.specs.Users.{or_later}

-- it finds nothing exactly where this holds
abbrev pub NoneWhere : {A : Type 0} → Option A → Type 0 → Type 0
NoneWhere o P = (o ≡ None) ↔ P

pub none_if : {A : Type 0} (b : Bool) (fault : A) (P : Type 0) → ((b ≡ true) ↔ P) → NoneWhere (if b then None else Some fault) P
none_if true fault P h = ((λ e. h.0 refl), (λ p. refl))
none_if false fault P h = ((λ e. absurd cc), (λ p. let q : false ≡ true = h.1 p in absurd cc))

pub none_if_not : {A : Type 0} (b : Bool) (fault : A) → NoneWhere (if b then Some fault else None) (b ≡ false)
none_if_not true fault = ((λ e. absurd cc), (λ e. absurd cc))
none_if_not false fault = ((λ e. refl), (λ e. refl))

pub none_or : {A : Type 0} (a b : Option A) (P Q : Type 0) → NoneWhere a P → NoneWhere b Q → NoneWhere (or_later a b) (P × Q)
none_or None b P Q h k = ((λ e. (h.0 refl, k.0 e)), (λ p. k.1 p.1))
none_or {A} (Some f) b P Q h k = ((λ e. absurd cc), (λ p. let q : ◌≡◌ {A = Option A} (Some f) None = h.1 p.0 in absurd cc))

pub none_same : {A : Type 0} (a : Option A) (P Q : Type 0) → NoneWhere a P → (P → Q) → (Q → P) → NoneWhere a Q
none_same a P Q h to from = ((λ e. to (h.0 e)), (λ q. h.1 (from q)))

pub none_within : {A : Type 0} (n most : ℕ) (fault : A) → NoneWhere (if nat_le n most then None else Some fault) (n ≤ most)
none_within n most fault = none_if (nat_le n most) fault (n ≤ most) (leb-true n most, le-leb n most)

-- ---- tests

pub both_tests : (b c : Bool) (P Q : Type 0) → ((b ≡ true) ↔ P) → ((c ≡ true) ↔ Q) → ((b && c) ≡ true) ↔ (P × Q)
both_tests true c P Q h k = ((λ e. (h.0 refl, k.0 e)), (λ p. k.1 p.1))
both_tests false c P Q h k = ((λ e. absurd cc), (λ p. let q : false ≡ true = h.1 p.0 in absurd cc))

pub le_test : (n m : ℕ) → (nat_le n m ≡ true) ↔ (n ≤ m)
le_test n m = (leb-true n m, le-leb n m)
