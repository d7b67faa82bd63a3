-- Small facts on options and tests.
use Rattle.std.proofs.Common.{◌≡◌, ℕ, ◌<◌, ◌≤◌, Bool, true, false, List, Option, Some, None, nat_lt, nat_le, refl, subst, arith, Result, Ok, Err, OnOk, IfOk, IfErr}
use Rattle.std.proofs.lemmas.Bool.Decides.{nat_tests}
use Rattle.std.proofs.lemmas.Slice.Eq.{bytes_eq-Decides}
use Rattle.std.specs.Str.{bytes_eq}
use Rattle.ctw_ops.specs.Segments.{and_then}
use Rattle.ctw_lex.proofs.Facts.{some_same, none_some}
use Rattle.ctw_script.specs.MoveValues.{tested}

pub and_then_found : {A B : Type 0} (o : Option A) (f : A → Option B) (b : B) → and_then o f ≡ Some b → (a : A) × (o ≡ Some a) × (f a ≡ Some b)
and_then_found None f b h = absurd (none_some h)
and_then_found (Some a) f b h = (a, refl, h)

tested_value : {A : Type 0} (test : A → Bool) (a b : A) (t : Bool) → test a ≡ t → tested test (Some a) ≡ Some b → (Some a ≡ Some b) × (test b ≡ true)
tested_value test a b true e h =
    let f : Some a ≡ Some b = rw e at h in
    let same : a ≡ b = some_same f in
    (f, subst (λ x. test x ≡ true) same e)
tested_value test a b false e h = let f : None ≡ Some b = rw e at h in absurd (none_some f)

pub tested_found : {A : Type 0} (test : A → Bool) (o : Option A) (b : A) → tested test o ≡ Some b → (o ≡ Some b) × (test b ≡ true)
tested_found test None b h = absurd (none_some h)
tested_found test (Some a) b h = tested_value test a b (test a) refl h

pub lt_true : (m n : ℕ) → m < n → nat_lt m n ≡ true
lt_true m n h = grind (arith, nat_tests)

pub true_lt : (m n : ℕ) → nat_lt m n ≡ true → m < n
true_lt m n h = grind (arith, nat_tests)

pub false_ge : (m n : ℕ) → nat_lt m n ≡ false → n ≤ m
false_ge m n h = grind (arith, nat_tests)

pub le_true : (m n : ℕ) → m ≤ n → nat_le m n ≡ true
le_true m n h = grind (arith, nat_tests)

pub true_le : (m n : ℕ) → nat_le m n ≡ true → m ≤ n
true_le m n h = grind (arith, nat_tests)

pub eq_bytes : (xs ys : List ℕ) → bytes_eq xs ys ≡ true → xs ≡ ys
eq_bytes xs ys h = (bytes_eq-Decides xs ys).0 h

pub on_ok : {A E : Type 0} (P Q : Type 0) (r : Result A E) → (P → Q) → OnOk r P → OnOk r Q
on_ok P Q (Ok x) f h = f h
on_ok P Q (Err e) f h = tt

pub if_err : {A E : Type 0} (P Q : E → Type 0) (r : Result A E) → ((e : E) → P e → Q e) → IfErr r P → IfErr r Q
if_err P Q (Ok x) f h = tt
if_err P Q (Err e) f h = f e h

pub if_ok : {A E : Type 0} (P Q : A → Type 0) (r : Result A E) → ((a : A) → P a → Q a) → IfOk r P → IfOk r Q
if_ok P Q (Ok x) f h = f x h
if_ok P Q (Err e) f h = tt
