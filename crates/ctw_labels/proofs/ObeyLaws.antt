-- A labelling obeys the links and the public sites of facts just where the facts hold of it.
use Rattle.std.proofs.Common.{◌≡◌, ℕ, Bool, true, false, List, [], ◌∷◌, ◌++◌, Option, Some, None, refl, ap}
use Rattle.std.specs.List.{AllByRecursion}
use Rattle.std.specs.Prelude.{◌&&◌}
use Rattle.ctw_ops.specs.declared.types.Label.{Label}
use Rattle.ctw_ops.specs.declared.types.Label.TheVariants.{Public, Secret}
use Rattle.ctw_ops.specs.Equal.{same_label}
use Rattle.ctw_labels.specs.Names.{Tag, At, Fixed}
use Rattle.ctw_labels.specs.Sited.{Lift, Sited, Done, Does, Uses, Blocks, Loops, Ifs, IfElses, Rises, IsOrderlyAt, IsOrderlyCode}
use Rattle.ctw_labels.specs.Links.{Fact, lift_list, lifts, Link, Must, fact_links, fact_musts, lift_links, links_of, musts_of, links_up, at_tag, Obeys}
use Rattle.ctw_labels.proofs.FactLaws.{all_hold}
use Rattle.ctw_labels.proofs.NumberLaws.{IsSite, all_append_to, all_append_from}

pub ways_to : (x y : Label) → same_label x y ≡ true → (x ≡ Secret → y ≡ Secret) × (y ≡ Secret → x ≡ Secret)
ways_to Public Public e = ((λ p. p), (λ p. p))
ways_to Secret Secret e = ((λ p. p), (λ p. p))
ways_to Public Secret e = cc
ways_to Secret Public e = cc

pub ways_from : (x y : Label) → (x ≡ Secret → y ≡ Secret) → (y ≡ Secret → x ≡ Secret) → same_label x y ≡ true
ways_from Public Public f g = refl
ways_from Secret Secret f g = refl
ways_from Public Secret f g = let e : Public ≡ Secret = g refl in cc
ways_from Secret Public f g = let e : Public ≡ Secret = f refl in cc

pub public_to : (x : Label) → same_label x Public ≡ true → x ≡ Public
public_to Public e = refl
public_to Secret e = cc

public_left : (x : Label) → same_label Public x ≡ true → x ≡ Public
public_left Public e = refl
public_left Secret e = cc

pub and_parts : (x y : Bool) → (x && y) ≡ true → (x ≡ true) × (y ≡ true)
and_parts true y e = (refl, e)
and_parts false y e = cc

pub and_both : (x y : Bool) → x ≡ true → y ≡ true → (x && y) ≡ true
and_both true y p q = q
and_both false y p q = cc

module _ (L : ℕ → Label) where
  abbrev pub like : Tag → Tag → Bool
  like a b = same_label (at_tag L a) (at_tag L b)

  abbrev Runs : List Link → Type 0
  Runs ls = AllByRecursion (λ k. L k.from ≡ Secret → L k.to ≡ Secret) ls

  abbrev Keeps : List Must → Type 0
  Keeps ms = AllByRecursion (λ k. L k.site ≡ Public) ms

  fact_to : (r : ℕ) (a b : Tag) → like a b ≡ true → Runs (fact_links r a b) × Keeps (fact_musts r a b)
  fact_to r (At a) (At b) e = (((ways_to (L a) (L b) e).0, ((ways_to (L a) (L b) e).1, tt)), tt)
  fact_to r (At a) Fixed e = (tt, (public_to (L a) e, tt))
  fact_to r Fixed (At b) e = (tt, (public_left (L b) e, tt))
  fact_to r Fixed Fixed e = (tt, tt)

  fact_from : (r : ℕ) (a b : Tag) → Runs (fact_links r a b) → Keeps (fact_musts r a b) → like a b ≡ true
  fact_from r (At a) (At b) p q = ways_from (L a) (L b) p.0 p.1.0
  fact_from r (At a) Fixed p q = ap (λ z. same_label z Public) q.0
  fact_from r Fixed (At b) p q = ap (same_label Public) q.0
  fact_from r Fixed Fixed p q = refl

  pub facts_to : (qs : List (Fact Tag)) → all_hold like qs ≡ true → Obeys L (links_of qs) (musts_of qs)
  facts_to [] e = (tt, tt)
  facts_to (q ∷ qs) e =
      let h = and_parts (like q.left q.right) (all_hold like qs) e in
      let f = fact_to q.rule q.left q.right h.0 in
      let g = facts_to qs h.1 in
      (all_append_to _ (fact_links q.rule q.left q.right) (links_of qs) f.0 g.0, all_append_to _ (fact_musts q.rule q.left q.right) (musts_of qs) f.1 g.1)

  pub facts_from : (qs : List (Fact Tag)) → Obeys L (links_of qs) (musts_of qs) → all_hold like qs ≡ true
  facts_from [] o = refl
  facts_from (q ∷ qs) o =
      let a = all_append_from (λ k. L k.from ≡ Secret → L k.to ≡ Secret) (fact_links q.rule q.left q.right) (links_of qs) o.0 in
      let b = all_append_from (λ k. L k.site ≡ Public) (fact_musts q.rule q.left q.right) (musts_of qs) o.1 in
      and_both (like q.left q.right) (all_hold like qs) (fact_from q.rule q.left q.right a.0 b.0) (facts_from qs (a.1, b.1))

  -- a lift's link is obeyed just where the lift rises
  rises_to : (free : Bool) (x y : Label) → Rises x y free → free ≡ false → x ≡ Secret → y ≡ Secret
  rises_to free x Secret o f e = refl
  rises_to false Secret Public o f e = absurd o
  rises_to false Public Public o f e = e
  rises_to true x Public o f e = cc

  abbrev pub AreLifts : List (Lift Tag) → Type 0
  AreLifts ls = AllByRecursion (λ l. Rises (at_tag L l.source) (at_tag L l.target) l.free) ls

  lift_to : (free : Bool) (a b : Tag) → Rises (at_tag L a) (at_tag L b) free → Runs (lift_links free a b)
  lift_to true a b o = tt
  lift_to false (At a) (At b) o = (rises_to false (L a) (L b) o refl, tt)
  lift_to false (At a) Fixed o = tt
  lift_to false Fixed b o = tt

  rises_from : (x y : Label) → (x ≡ Secret → y ≡ Secret) → Rises x y false
  rises_from Public Public h = tt
  rises_from Public Secret h = tt
  rises_from Secret Secret h = tt
  rises_from Secret Public h = let e : Public ≡ Secret = h refl in cc

  free_rises : (x y : Label) → Rises x y true
  free_rises Public Public = tt
  free_rises Public Secret = tt
  free_rises Secret Secret = tt
  free_rises Secret Public = tt

  lift_from : (free : Bool) (a b : Tag) → IsSite b → Runs (lift_links free a b) → Rises (at_tag L a) (at_tag L b) free
  lift_from true a b p o = free_rises (at_tag L a) (at_tag L b)
  lift_from false (At a) (At n) p o = rises_from (L a) (L n) o.0
  lift_from false Fixed (At n) p o = rises_from Public (L n) (λ e. cc)
  lift_from false a Fixed p o = absurd p

  pub lifts_to : (ls : List (Lift Tag)) → AreLifts ls → Runs (links_up ls)
  lifts_to [] h = tt
  lifts_to (l ∷ ls) h = all_append_to _ (lift_links l.free l.source l.target) (links_up ls) (lift_to l.free l.source l.target h.0) (lifts_to ls h.1)

  pub lifts_from : (ls : List (Lift Tag)) → AllByRecursion (λ l. IsSite l.target) ls → Runs (links_up ls) → AreLifts ls
  lifts_from [] p h = tt
  lifts_from (l ∷ ls) p h =
      let a = all_append_from (λ k. L k.from ≡ Secret → L k.to ≡ Secret) (lift_links l.free l.source l.target) (links_up ls) h in
      (lift_from l.free l.source l.target p.0 a.0, lifts_from ls p.1 a.1)

  orderly_at_to : (l : Option (Lift Tag)) → IsOrderlyAt (at_tag L) l → AreLifts (lift_list l)
  orderly_at_to None o = tt
  orderly_at_to (Some l) o = (o, tt)

  orderly_at_from : (l : Option (Lift Tag)) → AreLifts (lift_list l) → IsOrderlyAt (at_tag L) l
  orderly_at_from None o = tt
  orderly_at_from (Some l) o = o.0

  joined : (xs ys : List (Lift Tag)) → AreLifts xs → AreLifts ys → AreLifts (xs ++ ys)
  joined xs ys p q = all_append_to (λ l. Rises (at_tag L l.source) (at_tag L l.target) l.free) xs ys p q

  parted : (xs ys : List (Lift Tag)) → AreLifts (xs ++ ys) → AreLifts xs × AreLifts ys
  parted xs ys p = all_append_from (λ l. Rises (at_tag L l.source) (at_tag L l.target) l.free) xs ys p

  -- orderly code is code whose lifts all rise
  pub orderly_to : (sc : Sited Tag) → IsOrderlyCode (at_tag L) sc → AreLifts (lifts sc)
  orderly_to Done o = tt
  orderly_to (Does i l rest) o = joined (lift_list l) (lifts rest) (orderly_at_to l o.0) (orderly_to rest o.1)
  orderly_to (Uses y g l rest) o = joined (lift_list l) (lifts rest) (orderly_at_to l o.0) (orderly_to rest o.1)
  orderly_to (Blocks t l body rest) o = joined (lift_list l) _ (orderly_at_to l o.0) (joined (lifts body) (lifts rest) (orderly_to body o.1) (orderly_to rest o.2))
  orderly_to (Loops t l body rest) o = joined (lift_list l) _ (orderly_at_to l o.0) (joined (lifts body) (lifts rest) (orderly_to body o.1) (orderly_to rest o.2))
  orderly_to (Ifs t l arm rest) o = joined (lift_list l) _ (orderly_at_to l o.0) (joined (lifts arm) (lifts rest) (orderly_to arm o.1) (orderly_to rest o.2))
  orderly_to (IfElses t l arm other rest) o = joined (lift_list l) _ (orderly_at_to l o.0) (joined (lifts arm) _ (orderly_to arm o.1) (joined (lifts other) (lifts rest) (orderly_to other o.2) (orderly_to rest o.3)))

  pub orderly_from : (sc : Sited Tag) → AreLifts (lifts sc) → IsOrderlyCode (at_tag L) sc
  orderly_from Done o = tt
  orderly_from (Does i l rest) o = let p = parted (lift_list l) (lifts rest) o in (orderly_at_from l p.0, orderly_from rest p.1)
  orderly_from (Uses y g l rest) o = let p = parted (lift_list l) (lifts rest) o in (orderly_at_from l p.0, orderly_from rest p.1)
  orderly_from (Blocks t l body rest) o = let p = parted (lift_list l) (lifts body ++ lifts rest) o in let q = parted (lifts body) (lifts rest) p.1 in (orderly_at_from l p.0, orderly_from body q.0, orderly_from rest q.1)
  orderly_from (Loops t l body rest) o = let p = parted (lift_list l) (lifts body ++ lifts rest) o in let q = parted (lifts body) (lifts rest) p.1 in (orderly_at_from l p.0, orderly_from body q.0, orderly_from rest q.1)
  orderly_from (Ifs t l arm rest) o = let p = parted (lift_list l) (lifts arm ++ lifts rest) o in let q = parted (lifts arm) (lifts rest) p.1 in (orderly_at_from l p.0, orderly_from arm q.0, orderly_from rest q.1)
  orderly_from (IfElses t l arm other rest) o =
      let p = parted (lift_list l) (lifts arm ++ (lifts other ++ lifts rest)) o in let q = parted (lifts arm) (lifts other ++ lifts rest) p.1 in let r = parted (lifts other) (lifts rest) q.1 in
      (orderly_at_from l p.0, orderly_from arm q.0, orderly_from other r.0, orderly_from rest r.1)
