-- No table has a mix exactly where the users of each are unmixed.
use Rattle.std.proofs.Common.{◌≡◌, ◌↔◌, ◌<◌, ◌⊎◌, ◌≤◌, ℕ, zero, suc, Bool, true, false, List, [], ◌∷◌, ◌++◌, find, Option, Some, None, if◌then◌else◌, All, AllPairs, refl, inl, inr, sym, ap, subst, ◌∙◌, append_assoc, append-nil, arith}
use Rattle.std.proofs.lemmas.Bool.{cases_lt}
use Rattle.std.proofs.lemmas.List.Elements.{All-nil, All-cons, All-head, All-tail}
use Rattle.std.proofs.lemmas.List.Quantifiers.{all_pairs_push}
use Rattle.ctw_ops.specs.declared.types.Label.{Label}
use Rattle.ctw_ops.specs.Types.{FunctionType, erase_function_type}
use Rattle.ctw_ops.specs.Equal.{same_function_type, erases_alike}
use Rattle.ctw_link.specs.Numbers.{LinkedModule}
use Rattle.ctw_link.specs.Users.{users_of, AreUnmixed, differing, or_later, mix_behind, mix_among}
use Rattle.ctw_link.specs.Faults.{mixed, table_fault, tables_fault}
use Rattle.ctw_ops.proofs.EqualLaws.{same_function_type_is, same_function_type_when}
use Rattle.ctw_link.proofs.Nones.{NoneWhere, none_if, none_or, none_same}

abbrev UserType : Type 0
UserType = FunctionType Label

-- types that erase alike are equal
abbrev Agree : UserType → UserType → Type 0
Agree a b = erase_function_type a ≡ erase_function_type b → a ≡ b

abbrev AllAgree : UserType → List UserType → Type 0
AllAgree b before = All (λ a. Agree a b) before

head_pairs : {A : Type 0} (R : A → A → Type 0) (a : A) (l : List A) → AllPairs R (a ∷ l) → All (R a) l
head_pairs R a l h = λ k d q. h 0 (suc k) d (omega arith) (omega (arith, q))

tail_pairs : {A : Type 0} (R : A → A → Type 0) (a : A) (l : List A) → AllPairs R (a ∷ l) → AllPairs R l
tail_pairs R a l h = λ j k d p q. h (suc j) (suc k) d (omega (arith, p)) (omega (arith, q))

-- each of the elements in front with the one behind them
pairs_with : {A : Type 0} (R : A → A → Type 0) (before : List A) (b : A) (l : List A) → AllPairs R (before ++ b ∷ l) → All (λ a. R a b) before
pairs_with R [] b l h = All-nil (λ a. R a b)
pairs_with R (a ∷ before) b l h = All-cons (λ x. R x b) a before (there before b l (R a) (head_pairs R a (before ++ b ∷ l) h)) (pairs_with R before b l (tail_pairs R a (before ++ b ∷ l) h))
  where
    there : {A : Type 0} (before : List A) (b : A) (l : List A) (P : A → Type 0) → All P (before ++ b ∷ l) → P b
    there [] b l P h = All-head P b l h
    there (a ∷ before) b l P h = there before b l P (All-tail P a (before ++ b ∷ l) h)

-- ---- a user behind others

alike_test : (a b : UserType) → (erases_alike b a ≡ true) ↔ (erase_function_type b ≡ erase_function_type a)
alike_test a b = (same_function_type_is (erase_function_type b) (erase_function_type a), same_function_type_when (erase_function_type b) (erase_function_type a))

-- the rest agrees with what agrees with the first that erases alike
rest_agrees : (a b : UserType) (before : List UserType) → All (Agree a) before → a ≡ b → AllAgree b before
rest_agrees a b before h e = λ k d q p. sym (h k d q (ap erase_function_type e ∙ sym p)) ∙ e

agrees : (b : UserType) (before : List UserType) → AreUnmixed before → differing b (find (erases_alike b) before) ≡ None → AllAgree b before
agrees b [] h e = All-nil (λ a. Agree a b)
agrees b (a ∷ before) h e = by (agrees b before (tail_pairs Agree a before h)) (erases_alike b a) refl e
  where
    by : (differing b (find (erases_alike b) before) ≡ None → AllAgree b before) → (test : Bool) → erases_alike b a ≡ test → differing b (if test then Some a else find (erases_alike b) before) ≡ None → AllAgree b (a ∷ before)
    by rest true t d =
        let same : a ≡ b = same_function_type_is a b ((none_if (same_function_type a b) (a, b) (same_function_type a b ≡ true) ((λ x. x), (λ x. x))).0 d) in
        All-cons (λ x. Agree x b) a before (λ p. same) (rest_agrees a b before (head_pairs Agree a before h) same)
    by rest false t d =
        All-cons (λ x. Agree x b) a before
        (λ p. absurd (let q : false ≡ true = sym t ∙ (alike_test a b).1 (sym p) in cc))
        (rest d)

finds_none : (b : UserType) (before : List UserType) → AllAgree b before → differing b (find (erases_alike b) before) ≡ None
finds_none b [] h = refl
finds_none b (a ∷ before) h = by (finds_none b before (All-tail (λ x. Agree x b) a before h)) (erases_alike b a) refl
  where
    by : differing b (find (erases_alike b) before) ≡ None → (test : Bool) → erases_alike b a ≡ test → differing b (if test then Some a else find (erases_alike b) before) ≡ None
    by rest true t =
        let same : a ≡ b = All-head (λ x. Agree x b) a before h (sym ((alike_test a b).0 t)) in
        (none_if (same_function_type a b) (a, b) (same_function_type a b ≡ true) ((λ x. x), (λ x. x))).1 (same_function_type_when a b same)
    by rest false t = rest

-- ---- users behind others

behind_none : (before users : List UserType) → AreUnmixed before → NoneWhere (mix_behind before users) (AreUnmixed (before ++ users))
behind_none before [] h = ((λ e. subst AreUnmixed (sym (append-nil before)) h), (λ q. refl))
behind_none before (b ∷ users) h = (
  (λ e. let q = both (differing b (find (erases_alike b) before)) (mix_behind (before ++ b ∷ []) users) e in
      subst AreUnmixed (append_assoc before (b ∷ []) users) ((behind_none (before ++ b ∷ []) users (pushed (agrees b before h q.0))).0 q.1)),
  (λ u. let a = pairs_with Agree before b users u in
      later (differing b (find (erases_alike b) before)) (mix_behind (before ++ b ∷ []) users) (finds_none b before a)
      ((behind_none (before ++ b ∷ []) users (pushed a)).1 (subst AreUnmixed (sym (append_assoc before (b ∷ []) users)) u))),
)
  where
    pushed : AllAgree b before → AreUnmixed (before ++ b ∷ [])
    pushed a = all_pairs_push Agree before b h (λ k d q. a k d q)

    both : {A : Type 0} (a c : Option A) → or_later a c ≡ None → (a ≡ None) × (c ≡ None)
    both None c e = (refl, e)
    both (Some x) c e = absurd cc

    later : {A : Type 0} (a c : Option A) → a ≡ None → c ≡ None → or_later a c ≡ None
    later a c p q = ap (λ o. or_later o c) p ∙ q

mix_none : (users : List UserType) → NoneWhere (mix_among users) (AreUnmixed users)
mix_none users = behind_none [] users (λ j k d p q. absurd (omega (arith, q)))

mixed_none : (table : ℕ) (o : Option (UserType × UserType)) → NoneWhere (mixed table o) (o ≡ None)
mixed_none table None = ((λ e. refl), (λ e. refl))
mixed_none table (Some types) = ((λ e. absurd cc), (λ e. absurd cc))

table_none : (set : List LinkedModule) (table : ℕ) → NoneWhere (table_fault set table) (AreUnmixed (users_of set table))
table_none set table =
    let m = mix_none (users_of set table) in
    none_same (table_fault set table) (mix_among (users_of set table) ≡ None) (AreUnmixed (users_of set table)) (mixed_none table (mix_among (users_of set table))) m.0 m.1

abbrev AreUnmixedBelow : List LinkedModule → ℕ → Type 0
AreUnmixedBelow set count = (table : ℕ) → table < count → AreUnmixed (users_of set table)

more_below : (set : List LinkedModule) (count : ℕ) → AreUnmixedBelow set count × AreUnmixed (users_of set count) → AreUnmixedBelow set (suc count)
more_below set count h table lt = by (cases_lt table count)
  where
    by : (table < count) ⊎ (count ≤ table) → AreUnmixed (users_of set table)
    by (inl below) = h.0 table below
    by (inr le) = let e : count ≡ table = omega (arith, lt) in subst (λ t. AreUnmixed (users_of set t)) e h.1

pub tables_none : (set : List LinkedModule) (count : ℕ) → NoneWhere (tables_fault set count) ((table : ℕ) → table < count → AreUnmixed (users_of set table))
tables_none set zero = ((λ e table lt. absurd (omega (arith, lt))), (λ h. refl))
tables_none set (suc count) =
    none_same (tables_fault set (suc count)) (AreUnmixedBelow set count × AreUnmixed (users_of set count)) (AreUnmixedBelow set (suc count))
    (none_or (tables_fault set count) (table_fault set count) (AreUnmixedBelow set count) (AreUnmixed (users_of set count)) (tables_none set count) (table_none set count))
    (more_below set count)
    (λ h. ((λ table lt. h table (omega (arith, lt))), h count (omega arith)))
