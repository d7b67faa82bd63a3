-- The bytes of public sites tell the least rule of each.
use Rattle.std.proofs.Common.{◌≡◌, ◌≢◌, ℕ, zero, suc, ◌+◌, ◌<◌, ◌≤◌, Bool, true, false, List, [], ◌∷◌, ◌++◌, length, replicate, set, Option, Some, None, if◌then◌else◌, refl, sym, ◌∙◌, ap, subst, arith, get_or, get_or-set_other, get_or-set_same}
use Rattle.std.proofs.lemmas.Bool.{ltb-true, ltb-false, eqb-true, eqb-false}
use Rattle.std.proofs.lemmas.List.{length-set, length-replicate}
use Rattle.std.specs.Prelude.{◌==◌, ◌||◌, nat_lt, min}
use Rattle.std.specs.List.{AllByRecursion}
use Rattle.ctw_labels.specs.Links.{Must}
use Rattle.ctw_labels.specs.Fits.{or_less, must_of}
use Rattle.ctw_links.specs.Collected.{rule_of, must_at, lesser, with_must, with_musts}

-- the lesser one of two rules, each perhaps none
abbrev merged : Option ℕ → Option ℕ → Option ℕ
merged None y = y
merged (Some q) y = or_less q y

merged_more : (r : ℕ) (x y : Option ℕ) → merged (or_less r x) y ≡ merged x (or_less r y)
merged_more r None y = refl
merged_more r (Some q) None = let e : min r q ≡ min q r = omega arith in ap Some e
merged_more r (Some q) (Some p) = let e : min (min r q) p ≡ min q (min r p) = omega arith in ap Some e

positive : (r : ℕ) → 0 < r → rule_of r ≡ Some r
positive zero p = absurd (omega (arith, p))
positive (suc k) p = refl

lesser_rule : (v r : ℕ) → 0 < r → rule_of (lesser v r) ≡ or_less r (rule_of v)
lesser_rule zero r p = positive r p
lesser_rule (suc k) r p = go (suc k == 0) refl (nat_lt r (suc k)) refl
  where
    go : (z : Bool) → (suc k == 0) ≡ z → (c : Bool) → nat_lt r (suc k) ≡ c → rule_of (if z || c then r else suc k) ≡ Some (min r (suc k))
    go true e c q = let l = eqb-true (suc k) 0 e in absurd (omega (arith, l))
    go false e true q = let l = ltb-true r (suc k) q in let e : r ≡ min r (suc k) = omega (arith, l) in positive r p ∙ ap Some e
    go false e false q = let l = ltb-false r (suc k) q in let e : suc k ≡ min r (suc k) = omega (arith, l) in ap Some e

abbrev pub MustIn : ℕ → Must → Type 0
MustIn N k = (k.site < N) × (0 < k.rule)

one_must : (musts : List ℕ) (k : Must) (n : ℕ) → MustIn (length musts) k → (c : Bool) → (k.site == n) ≡ c → must_at (with_must musts k) n ≡ (if c then or_less k.rule (must_at musts n) else must_at musts n)
one_must musts k n h true q =
    let e : k.site ≡ n = eqb-true k.site n q in
    ap (λ z. rule_of (get_or (set musts k.site (lesser (get_or musts k.site 0) k.rule)) z 0)) (sym e)
    ∙ ap rule_of (get_or-set_same musts k.site (lesser (get_or musts k.site 0) k.rule) 0 h.0)
    ∙ lesser_rule (get_or musts k.site 0) k.rule h.1
    ∙ ap (λ z. or_less k.rule (rule_of (get_or musts z 0))) e
one_must musts k n h false q =
    let ne : n ≢ k.site = λ e. eqb-false k.site n q (sym e) in
    ap rule_of (get_or-set_other musts k.site n (lesser (get_or musts k.site 0) k.rule) 0 ne)

pub musts_length : (musts : List ℕ) (ks : List Must) → length (with_musts musts ks) ≡ length musts
musts_length musts [] = refl
musts_length musts (k ∷ ks) = musts_length (with_must musts k) ks ∙ length-set musts k.site (lesser (get_or musts k.site 0) k.rule)

all_musts : (musts : List ℕ) (ks : List Must) (n : ℕ) → AllByRecursion (MustIn (length musts)) ks → must_at (with_musts musts ks) n ≡ merged (must_at musts n) (must_of n ks)
all_musts musts [] n h = none (must_at musts n)
  where
    none : (x : Option ℕ) → x ≡ merged x None
    none None = refl
    none (Some q) = refl
all_musts musts (k ∷ ks) n h =
    let l = length-set musts k.site (lesser (get_or musts k.site 0) k.rule) in
    let rest : AllByRecursion (MustIn (length (with_must musts k))) ks = subst (λ z. AllByRecursion (MustIn z) ks) (sym l) h.1 in
    all_musts (with_must musts k) ks n rest ∙ go (k.site == n) refl
  where
    go : (c : Bool) → (k.site == n) ≡ c → merged (must_at (with_must musts k) n) (must_of n ks) ≡ merged (must_at musts n) (if c then or_less k.rule (must_of n ks) else must_of n ks)
    go true q = ap (λ z. merged z (must_of n ks)) (one_must musts k n h.0 true q) ∙ merged_more k.rule (must_at musts n) (must_of n ks)
    go false q = ap (λ z. merged z (must_of n ks)) (one_must musts k n h.0 false q)

none_yet : (N n : ℕ) → must_at (replicate N 0) n ≡ None
none_yet zero n = refl
none_yet (suc N) zero = refl
none_yet (suc N) (suc n) = none_yet N n

-- the bytes that musts leave tell the least rule of each site
pub musts_law : (N : ℕ) (ks : List Must) → AllByRecursion (MustIn N) ks → (n : ℕ) → must_at (with_musts (replicate N 0) ks) n ≡ must_of n ks
musts_law N ks h n =
    let l : length (replicate N 0) ≡ N = length-replicate N 0 in
    all_musts (replicate N 0) ks n (subst (λ z. AllByRecursion (MustIn z) ks) (sym l) h) ∙ ap (λ z. merged z (must_of n ks)) (none_yet N n)
