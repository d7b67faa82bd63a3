-- Least rules: of the links from a site to another, of the rules by which a site is public, and along a path.
use Rattle.std.proofs.Common.{◌≡◌, ◌≤◌, ◌<◌, ℕ, suc, ◌-◌, min, Bool, true, false, List, [], ◌∷◌, length, Option, Some, None, ◌⊎◌, inl, inr, refl, sym, ap, ◌∙◌, subst, arith}
use Rattle.std.specs.Prelude.{Contains, slice_index, ◌==◌, ◌&&◌, if◌then◌else◌}
use Rattle.std.proofs.Math.Nat.{min-le_left, min-le_right, min-eq_left, min-eq_right}
use Rattle.std.proofs.lemmas.Bool.{cases_order}
use Rattle.std.proofs.lemmas.Bool.Decides.{eqb_tells}
use Rattle.ctw_flow.specs.declared.graph.Edge.{Edge}
use Rattle.ctw_flow.specs.Path.{AreRules, EndsIn}
use Rattle.ctw_flow.proofs.Queue.{has_cons, has_here, has_there, has_nil}
use Rattle.ctw_labels.specs.Links.{Link, Must}
use Rattle.ctw_labels.specs.Fits.{or_less, rule_between, must_of}
use Rattle.ctw_least.specs.Flows.{IsGraphOf, AreLeastRules, last_of}

-- the least number of those that have a property; None where none has it
abbrev pub IsLeastOf : Option ℕ → (ℕ → Type 0) → Type 0
IsLeastOf None Has = (q : ℕ) → Has q → ⊥
IsLeastOf (Some r) Has = Has r × ((q : ℕ) → Has q → r ≤ q)

lesser : (a b : ℕ) → (min a b ≡ a) ⊎ (min a b ≡ b)
lesser a b = go (cases_order a b)
  where
    go : (a ≡ b) ⊎ ((a < b) ⊎ (b < a)) → (min a b ≡ a) ⊎ (min a b ≡ b)
    go (inl e) = inl (min-eq_left (omega (arith, e)))
    go (inr (inl lt)) = inl (min-eq_left (omega (arith, lt)))
    go (inr (inr lt)) = inr (min-eq_right (omega (arith, lt)))

same_below : (a q : ℕ) → a ≡ q → a ≤ q
same_below a q e = omega (arith, e)

below_left : (a b q : ℕ) → a ≡ q → min a b ≤ q
below_left a b q e = omega (arith, min-le_left a b, e)

below_right : (a b q : ℕ) → b ≤ q → min a b ≤ q
below_right a b q le = omega (arith, min-le_right a b, le)

pub one_least : (o : Option ℕ) (Has : ℕ → Type 0) (r : ℕ) → IsLeastOf o Has → Has r → ((q : ℕ) → Has q → r ≤ q) → o ≡ Some r
one_least None Has r l h f = absurd (l r h)
one_least (Some q) Has r l h f = let e : q ≡ r = omega (arith, l.1 r h, f q l.0) in ap Some e

-- items with rules, of which `item q` is the one that is looked for with the rule q
module _ {A : Type 0} (item : ℕ → A) (rule : A → ℕ) (of_item : (q : ℕ) → rule (item q) ≡ q) where
  skipped : (k : A) (ks : List A) (o : Option ℕ) → ((q : ℕ) → k ≡ item q → ⊥) → IsLeastOf o (λ q. Contains ks (item q)) → IsLeastOf o (λ q. Contains (k ∷ ks) (item q))
  skipped k ks None n l = λ q c. go q (has_cons k ks (item q) c)
    where
      go : (q : ℕ) → (k ≡ item q) ⊎ Contains ks (item q) → ⊥
      go q (inl e) = n q e
      go q (inr d) = l q d
  skipped k ks (Some r) n l = (has_there k ks (item r) l.0, λ q c. go q (has_cons k ks (item q) c))
    where
      go : (q : ℕ) → (k ≡ item q) ⊎ Contains ks (item q) → r ≤ q
      go q (inl e) = absurd (n q e)
      go q (inr d) = l.1 q d

  added : (k : A) (ks : List A) (o : Option ℕ) → k ≡ item (rule k) → IsLeastOf o (λ q. Contains ks (item q)) → IsLeastOf (or_less (rule k) o) (λ q. Contains (k ∷ ks) (item q))
  added k ks None e l = (subst (λ z. Contains (k ∷ ks) z) e (has_here k ks), λ q c. go q (has_cons k ks (item q) c))
    where
      go : (q : ℕ) → (k ≡ item q) ⊎ Contains ks (item q) → rule k ≤ q
      go q (inl d) = same_below (rule k) q (ap rule d ∙ of_item q)
      go q (inr d) = absurd (l q d)
  added k ks (Some r) e l = (has (lesser (rule k) r), λ q c. go q (has_cons k ks (item q) c))
    where
      has : (min (rule k) r ≡ rule k) ⊎ (min (rule k) r ≡ r) → Contains (k ∷ ks) (item (min (rule k) r))
      has (inl d) = subst (λ z. Contains (k ∷ ks) (item z)) (sym d) (subst (λ z. Contains (k ∷ ks) z) e (has_here k ks))
      has (inr d) = subst (λ z. Contains (k ∷ ks) (item z)) (sym d) (has_there k ks (item r) l.0)

      go : (q : ℕ) → (k ≡ item q) ⊎ Contains ks (item q) → min (rule k) r ≤ q
      go q (inl d) = below_left (rule k) r q (ap rule d ∙ of_item q)
      go q (inr d) = below_right (rule k) r q (l.1 q d)

-- ---- links

abbrev LinkWith : ℕ → ℕ → List Link → ℕ → Type 0
LinkWith a b ks q = Contains ks (record { from = a; to = b; rule = q })

module _ (a b : ℕ) (k : Link) (ks : List Link) (least : IsLeastOf (rule_between a b ks) (LinkWith a b ks)) where
  between : (x y : Bool) → k.from == a ≡ x → k.to == b ≡ y → IsLeastOf (if x && y then or_less k.rule (rule_between a b ks) else rule_between a b ks) (LinkWith a b (k ∷ ks)) → IsLeastOf (rule_between a b (k ∷ ks)) (LinkWith a b (k ∷ ks))
  between x y ex ey h =
      subst (λ z. IsLeastOf (if z && (k.to == b) then or_less k.rule (rule_between a b ks) else rule_between a b ks) (LinkWith a b (k ∷ ks))) (sym ex)
      (subst (λ z. IsLeastOf (if x && z then or_less k.rule (rule_between a b ks) else rule_between a b ks) (LinkWith a b (k ∷ ks))) (sym ey) h)

  other_link : ((q : ℕ) → k ≡ record { from = a; to = b; rule = q } → ⊥) → IsLeastOf (rule_between a b ks) (LinkWith a b (k ∷ ks))
  other_link n = skipped (λ q. record { from = a; to = b; rule = q }) (λ (l : Link). l.rule) (λ q. refl) k ks (rule_between a b ks) n least

  this_link : k.from ≡ a → k.to ≡ b → IsLeastOf (or_less k.rule (rule_between a b ks)) (LinkWith a b (k ∷ ks))
  this_link x y = added (λ q. record { from = a; to = b; rule = q }) (λ (l : Link). l.rule) (λ q. refl) k ks (rule_between a b ks) (λ i. record { from = x i; to = y i; rule = k.rule }) least

  one_more_link : ((k.from == a ≡ true) × (k.from ≡ a)) ⊎ ((k.from == a ≡ false) × (k.from ≡ a → ⊥)) → ((k.to == b ≡ true) × (k.to ≡ b)) ⊎ ((k.to == b ≡ false) × (k.to ≡ b → ⊥)) → IsLeastOf (rule_between a b (k ∷ ks)) (LinkWith a b (k ∷ ks))
  one_more_link (inl x) (inl y) = between true true x.0 y.0 (this_link x.1 y.1)
  one_more_link (inl x) (inr y) = between true false x.0 y.0 (other_link (λ q e. y.1 (ap (λ (l : Link). l.to) e)))
  one_more_link (inr x) (inl y) = between false true x.0 y.0 (other_link (λ q e. x.1 (ap (λ (l : Link). l.from) e)))
  one_more_link (inr x) (inr y) = between false false x.0 y.0 (other_link (λ q e. x.1 (ap (λ (l : Link). l.from) e)))

pub least_between : (a b : ℕ) (ks : List Link) → IsLeastOf (rule_between a b ks) (LinkWith a b ks)
least_between a b [] = λ q c. has_nil _ c
least_between a b (k ∷ ks) = one_more_link a b k ks (least_between a b ks) (eqb_tells k.from a) (eqb_tells k.to b)

-- the rules of a graph of the links are the least ones
pub least_rules : (links : List Link) (g : List (List Edge)) → IsGraphOf links g → (nodes rules : List ℕ) → AreRules g nodes rules → AreLeastRules links nodes rules
least_rules links g h [] rules a = absurd a
least_rules links g h (x ∷ []) [] a = tt
least_rules links g h (x ∷ []) (r ∷ rules) a = absurd a
least_rules links g h (x ∷ y ∷ nodes) [] a = absurd a
least_rules links g h (x ∷ y ∷ nodes) (r ∷ rules) a = (
  one_least (rule_between x y links) (λ q. Contains links (record { from = x; to = y; rule = q })) r (least_between x y links) (h.ruled x y r a.0) (λ q c. h.least x y r q a.0 c),
  least_rules links g h (y ∷ nodes) rules a.1,
)

-- ---- public sites

abbrev MustWith : ℕ → List Must → ℕ → Type 0
MustWith n ks q = Contains ks (record { site = n; rule = q })

module _ (n : ℕ) (k : Must) (ks : List Must) (least : IsLeastOf (must_of n ks) (MustWith n ks)) where
  by_test : (x : Bool) → k.site == n ≡ x → IsLeastOf (if x then or_less k.rule (must_of n ks) else must_of n ks) (MustWith n (k ∷ ks)) → IsLeastOf (must_of n (k ∷ ks)) (MustWith n (k ∷ ks))
  by_test x e h = subst (λ z. IsLeastOf (if z then or_less k.rule (must_of n ks) else must_of n ks) (MustWith n (k ∷ ks))) (sym e) h

  one_more_must : ((k.site == n ≡ true) × (k.site ≡ n)) ⊎ ((k.site == n ≡ false) × (k.site ≡ n → ⊥)) → IsLeastOf (must_of n (k ∷ ks)) (MustWith n (k ∷ ks))
  one_more_must (inl x) = by_test true x.0 (added (λ q. record { site = n; rule = q }) (λ (l : Must). l.rule) (λ q. refl) k ks (must_of n ks) (λ i. record { site = x.1 i; rule = k.rule }) least)
  one_more_must (inr x) = by_test false x.0 (skipped (λ q. record { site = n; rule = q }) (λ (l : Must). l.rule) (λ q. refl) k ks (must_of n ks) (λ q e. x.1 (ap (λ (l : Must). l.site) e)) least)

pub least_must : (n : ℕ) (ks : List Must) → IsLeastOf (must_of n ks) (MustWith n ks)
least_must n [] = λ q c. has_nil _ c
least_must n (k ∷ ks) = one_more_must n k ks (least_must n ks) (eqb_tells k.site n)

-- a site has to be public by a rule exactly where it has a least one
pub must_there : (n : ℕ) (ks : List Must) (r : ℕ) → must_of n ks ≡ Some r → Contains ks (record { site = n; rule = r })
must_there n ks r e = (subst (λ o. IsLeastOf o (λ q. Contains ks (record { site = n; rule = q }))) e (least_must n ks)).0

pub must_is : (n : ℕ) (ks : List Must) (q : ℕ) → Contains ks (record { site = n; rule = q }) → (r : ℕ) × (must_of n ks ≡ Some r)
must_is n ks q c = go (must_of n ks) refl
  where
    go : (o : Option ℕ) → must_of n ks ≡ o → (r : ℕ) × (must_of n ks ≡ Some r)
    go None e = absurd (subst (λ o. IsLeastOf o (λ q. Contains ks (record { site = n; rule = q }))) e (least_must n ks) q c)
    go (Some r) e = (r, e)

-- ---- the last node of a path

pub last_ends : (goals nodes : List ℕ) → EndsIn goals nodes → Contains goals (last_of nodes)
last_ends goals [] h = absurd h
last_ends goals (x ∷ []) h = h
last_ends goals (x ∷ y ∷ nodes) h =
    let e : length (x ∷ y ∷ nodes) - 1 ≡ suc (length (y ∷ nodes) - 1) = omega arith in
    subst (λ (k : ℕ). Contains goals (slice_index (x ∷ y ∷ nodes) k)) (sym e) (last_ends goals (y ∷ nodes) h)
