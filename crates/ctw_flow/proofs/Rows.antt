-- A row with one link more, and a graph with one.
use Rattle.std.proofs.Common.{◌≡◌, ◌≢◌, ℕ, suc, zero, ◌+◌, ◌<◌, ◌≤◌, Bool, true, false, cond, List, [], ◌∷◌, ◌++◌, length, get_or, set, take, drop, map, refl, sym, ◌∙◌, ap, subst, ◌⊎◌, inl, inr, arith, eqb, ltb}
use Rattle.std.specs.Prelude.{All, Contains, IfOk, IfErr, Result, Ok, Err}
use Rattle.std.proofs.lemmas.List.{map-set, get_or-map, length-map}
use Rattle.std.proofs.Math.Seq.{map-set_same}
use Rattle.std.proofs.lemmas.Bool.{le-ltb, lt-ltb, eq-eqb, eqb-true, cases_lt}
use Rattle.std.proofs.lemmas.List.{length-set}
use Rattle.std.proofs.lemmas.List.Elements.{All-head, All-tail, All-cons, All-nil, All-set, All-weaker}
use Rattle.std.proofs.lemmas.List.{get_or_default}
use Rattle.ctw_flow.specs.declared.graph.Edge.{Edge}
use Rattle.ctw_flow.specs.Graph.{row, with_link, IsRising, IsGraph, IsPlaceOf}
use Rattle.ctw_flow.proofs.Queue.{lt_or_eq}

abbrev pub new : ℕ → ℕ → Edge
new to rule = record { to = to; rule = rule }

-- the three cases of a row that isn't empty
pub case_less : (to rule : ℕ) (e : Edge) (es : List Edge) → to < e.to → with_link to rule (e ∷ es) ≡ new to rule ∷ e ∷ es
case_less to rule e es h = ap (λ z. cond z (new to rule ∷ e ∷ es) (cond (eqb to e.to) (cond (ltb rule e.rule) (new to rule ∷ es) (e ∷ es)) (e ∷ with_link to rule es))) (lt-ltb to e.to h)

pub case_same : (to rule : ℕ) (e : Edge) (es : List Edge) → to ≡ e.to → with_link to rule (e ∷ es) ≡ cond (ltb rule e.rule) (new to rule ∷ es) (e ∷ es)
case_same to rule e es h =
    (λ i. cond (le-ltb to e.to (omega arith) i) (new to rule ∷ e ∷ es) (cond (eq-eqb to e.to h i) (cond (ltb rule e.rule) (new to rule ∷ es) (e ∷ es)) (e ∷ with_link to rule es)))

pub case_more : (to rule : ℕ) (e : Edge) (es : List Edge) → e.to < to → with_link to rule (e ∷ es) ≡ e ∷ with_link to rule es
case_more to rule e es h = ap (λ z. cond z (new to rule ∷ e ∷ es) (cond (eqb to e.to) (cond (ltb rule e.rule) (new to rule ∷ es) (e ∷ es)) (e ∷ with_link to rule es))) (le-ltb to e.to (omega arith)) ∙ differ (eqb to e.to) refl
  where
    differ : (b : Bool) → eqb to e.to ≡ b → cond b (cond (ltb rule e.rule) (new to rule ∷ es) (e ∷ es)) (e ∷ with_link to rule es) ≡ e ∷ with_link to rule es
    differ true k = let d = eqb-true to e.to k in absurd (omega arith)
    differ false k = refl

pub write_rule : (xs : List Edge) (at : ℕ) (d : Edge) (to rule : ℕ) → at < length xs → (get_or xs at d).to ≡ to → rule < (get_or xs at d).rule → set xs at (record { to = to; rule = rule }) ≡ take at xs ++ with_link to rule (drop at xs)
write_rule [] at d to rule l e k = absurd (omega arith)
write_rule (x ∷ xs) zero d to rule l e k = sym (case_same to rule x xs (sym e) ∙ ap (λ z. cond z (new to rule ∷ xs) (x ∷ xs)) (lt-ltb rule x.rule k))
write_rule (x ∷ xs) (suc at) d to rule l e k = ap (λ z. x ∷ z) (write_rule xs at d to rule (omega arith) e k)

pub data Place (to : ℕ) (e : Edge) : Type 0 where
  less : to < e.to → Place to e
  same : to ≡ e.to → Place to e
  more : e.to < to → Place to e

pub place : (to : ℕ) (e : Edge) → Place to e
place to e = go (cases_lt to e.to) (cases_lt e.to to)
  where
    go : (to < e.to) ⊎ (e.to ≤ to) → (e.to < to) ⊎ (to ≤ e.to) → Place to e
    go (inl h) k = less h
    go (inr h) (inl k) = more k
    go (inr h) (inr k) = same (omega arith)

-- what holds of the link and the row holds of the row with it
all_with : (P : Edge → Type 0) (to rule : ℕ) (xs : List Edge) → P (record { to = to; rule = rule }) → All P xs → All P (with_link to rule xs)
all_with P to rule [] p h = All-cons P (new to rule) [] p (All-nil P)
all_with P to rule (e ∷ es) p h = go (place to e) (all_with P to rule es p (All-tail P e es h))
  where
    by_rule : (b : Bool) → All P (cond b (new to rule ∷ es) (e ∷ es))
    by_rule true = All-cons P (new to rule) es p (All-tail P e es h)
    by_rule false = h

    go : Place to e → All P (with_link to rule es) → All P (with_link to rule (e ∷ es))
    go (less k) r = subst (All P) (sym (case_less to rule e es k)) (All-cons P (new to rule) (e ∷ es) p h)
    go (same k) r = subst (All P) (sym (case_same to rule e es k)) (by_rule (ltb rule e.rule))
    go (more k) r = subst (All P) (sym (case_more to rule e es k)) (All-cons P e (with_link to rule es) (All-head P e es h) r)

rising_with : (to rule : ℕ) (xs : List Edge) → IsRising xs → IsRising (with_link to rule xs)
rising_with to rule [] h = (All-nil (λ f. to < f.to), tt)
rising_with to rule (e ∷ es) h = go (place to e) (rising_with to rule es h.1)
  where
    by_rule : to ≡ e.to → (b : Bool) → IsRising (cond b (new to rule ∷ es) (e ∷ es))
    by_rule k true = (All-weaker (λ f. e.to < f.to) (λ f. to < f.to) (λ f l. omega arith) es h.0, h.1)
    by_rule k false = h

    go : Place to e → IsRising (with_link to rule es) → IsRising (with_link to rule (e ∷ es))
    go (less k) r = subst IsRising (sym (case_less to rule e es k)) (All-cons (λ f. to < f.to) e es k (All-weaker (λ f. e.to < f.to) (λ f. to < f.to) (λ f l. omega arith) es h.0), h)
    go (same k) r = subst IsRising (sym (case_same to rule e es k)) (by_rule k (ltb rule e.rule))
    go (more k) r = subst IsRising (sym (case_more to rule e es k)) (all_with (λ f. e.to < f.to) to rule es k h.0, r)

-- a graph with one row changed for a good one
graph_set : (g : List (List Edge)) (a : ℕ) (r : List Edge) → IsGraph g → IsRising r → All (λ e. e.to < length g) r → IsGraph (set g a r)
graph_set g a r h u v = subst (λ n. All (λ r. IsRising r × All (λ e. e.to < n) r) (set g a r)) (sym (length-set g a r)) (All-set (λ r. IsRising r × All (λ e. e.to < length g) r) g a r (u, v) h)

pub graph_with : (g : List (List Edge)) (a to rule : ℕ) → IsGraph g → a < length g → to < length g → IsGraph (set g a (with_link to rule (row g a)))
graph_with g a to rule h l k = let r = h a [] l in graph_set g a (with_link to rule (row g a)) h (rising_with to rule (row g a) r.0) (all_with (λ e. e.to < length g) to rule (row g a) k r.1)

-- the rows of a graph, where one is changed or kept
module _ {V : Type 0} (f : V → List Edge) (rows : List V) (a : ℕ) (v w : V) (l : a < length rows) (e : v ≡ get_or rows a v) where
  row_is : row (map f rows) a ≡ f v
  row_is = get_or-map f rows a v [] l ∙ ap f (sym e)

  pub added : (to rule : ℕ) → f w ≡ with_link to rule (f v) → map f (set rows a w) ≡ set (map f rows) a (with_link to rule (row (map f rows) a))
  added to rule h = map-set f rows a w ∙ ap (set (map f rows) a) (h ∙ ap (with_link to rule) (sym row_is))

  pub left : f w ≡ f v → map f (set rows a w) ≡ map f rows
  left h = map-set_same f rows a w v (h ∙ ap f e)

  pub rises : IsGraph (map f rows) → IsRising (f v)
  rises g = let n = length-map rows f in let r = g a [] (omega arith) in subst IsRising row_is r.0

  pub good_rows : (to rule : ℕ) → IsGraph (map f rows) → to < length rows → (f w ≡ with_link to rule (f v)) ⊎ (f w ≡ f v) → IsGraph (map f (set rows a w))
  good_rows to rule g k (inl h) = let n = length-map rows f in subst IsGraph (sym (added to rule h)) (graph_with (map f rows) a to rule g (omega arith) (omega arith))
  good_rows to rule g k (inr h) = subst IsGraph (sym (left h)) g

pub either : {A E : Type 0} {P Q : Type 0} (r : Result A E) → IfOk r (λ _. P) → IfErr r (λ _. Q) → P ⊎ Q
either (Ok x) p q = inl p
either (Err x) p q = inr q

pub on_ok : {A E : Type 0} {P Q : Type 0} (r : Result A E) → (P → Q) → IfOk r (λ _. P) → IfOk r (λ _. Q)
on_ok (Ok x) f p = f p
on_ok (Err x) f p = p

pub on_err : {A E : Type 0} {P Q : Type 0} (r : Result A E) → (P → Q) → IfErr r (λ _. P) → IfErr r (λ _. Q)
on_err (Ok x) f p = p
on_err (Err x) f p = f p

-- where targets rise, a later one is greater
pub rising_reads : (xs : List Edge) (i j : ℕ) (d f : Edge) → IsRising xs → i < j → j < length xs → (get_or xs i d).to < (get_or xs j f).to
rising_reads [] i j d f h l k = absurd (omega arith)
rising_reads (x ∷ xs) i zero d f h l k = absurd (omega arith)
rising_reads (x ∷ xs) zero (suc j) d f h l k = h.0 j f (omega arith)
rising_reads (x ∷ xs) (suc i) (suc j) d f h l k = rising_reads xs i j d f h.1 (omega arith) (omega arith)

-- the links below the node stay
pub with_link-past : (to rule : ℕ) (xs : List Edge) (at : ℕ) → at ≤ length xs → ((k : ℕ) (d : Edge) → k < at → (get_or xs k d).to < to) → with_link to rule xs ≡ take at xs ++ with_link to rule (drop at xs)
with_link-past to rule xs zero l b = refl
with_link-past to rule [] (suc at) l b = absurd (omega arith)
with_link-past to rule (x ∷ xs) (suc at) l b = case_more to rule x xs (b 0 x (omega arith)) ∙ ap (λ z. x ∷ z) (with_link-past to rule xs at (omega arith) (λ k d h. b (suc k) d (omega arith)))

-- a link whose rule isn't lowered
keep_rule : (xs : List Edge) (at : ℕ) (d : Edge) (to rule : ℕ) → at < length xs → (get_or xs at d).to ≡ to → (get_or xs at d).rule ≤ rule → xs ≡ take at xs ++ with_link to rule (drop at xs)
keep_rule [] at d to rule l e k = absurd (omega arith)
keep_rule (x ∷ xs) zero d to rule l e k = sym (case_same to rule x xs (sym e) ∙ ap (λ z. cond z (new to rule ∷ xs) (x ∷ xs)) (le-ltb rule x.rule k))
keep_rule (x ∷ xs) (suc at) d to rule l e k = ap (λ z. x ∷ z) (keep_rule xs at d to rule (omega arith) e k)

-- a link that wasn't there
put_link : (xs : List Edge) (at : ℕ) (to rule : ℕ) → at ≤ length xs → ((d : Edge) → at < length xs → to < (get_or xs at d).to) → with_link to rule (drop at xs) ≡ new to rule ∷ drop at xs
put_link [] zero to rule l f = refl
put_link (x ∷ xs) zero to rule l f = case_less to rule x xs (f x (omega arith))
put_link [] (suc at) to rule l f = absurd (omega arith)
put_link (x ∷ xs) (suc at) to rule l f = put_link xs at to rule (omega arith) (λ d h. f d (omega arith))

module _ (xs : List Edge) (to rule at : ℕ) (p : IsPlaceOf xs to at) where
  pub lowered : (d : Edge) → at < length xs → (get_or xs at d).to ≡ to → rule < (get_or xs at d).rule → set xs at (new to rule) ≡ with_link to rule xs
  lowered d l e k = write_rule xs at d to rule l e k ∙ sym (with_link-past to rule xs at p.within p.below)

  pub unlowered : (d : Edge) → at < length xs → (get_or xs at d).to ≡ to → (get_or xs at d).rule ≤ rule → xs ≡ with_link to rule xs
  unlowered d l e k = keep_rule xs at d to rule l e k ∙ sym (with_link-past to rule xs at p.within p.below)

  pub inserted : ((d : Edge) → at < length xs → (get_or xs at d).to ≢ to) → take at xs ++ new to rule ∷ drop at xs ≡ with_link to rule xs
  inserted f = ap (λ z. take at xs ++ z) (sym (put_link xs at to rule p.within (λ d l. let a = p.above at d (omega arith) l in let b = f d l in omega arith))) ∙ sym (with_link-past to rule xs at p.within p.below)

-- where targets rise and the one at the middle is below the node, all to there are
pub below_middle : (xs : List Edge) (to middle : ℕ) (d : Edge) → IsRising xs → middle < length xs → (get_or xs middle d).to < to → (k : ℕ) (f : Edge) → k < middle + 1 → (get_or xs k f).to < to
below_middle xs to middle d h l m k f s = go (lt_or_eq k middle s)
  where
    go : (k < middle) ⊎ (k ≡ middle) → (get_or xs k f).to < to
    go (inl a) = let r = rising_reads xs k middle f d h a l in omega arith
    go (inr a) = subst (λ z. (get_or xs z f).to < to) (sym a) (subst (λ z. z.to < to) (get_or_default xs middle d f l) m)

-- where it isn't, none from there on is
pub above_middle : (xs : List Edge) (to middle : ℕ) (d : Edge) → IsRising xs → to ≤ (get_or xs middle d).to → (k : ℕ) (f : Edge) → middle ≤ k → k < length xs → to ≤ (get_or xs k f).to
above_middle xs to middle d h m k f s l = go (lt_or_eq middle k (omega arith))
  where
    go : (middle < k) ⊎ (middle ≡ k) → to ≤ (get_or xs k f).to
    go (inl a) = let r = rising_reads xs middle k d f h a l in omega arith
    go (inr a) = subst (λ z. to ≤ (get_or xs z f).to) a (subst (λ z. to ≤ z.to) (get_or_default xs middle d f (omega arith)) m)

-- where the link at the place of the node isn't to it, none is
pub absent : (xs : List Edge) (to at : ℕ) → IsRising xs → IsPlaceOf xs to at → ((d : Edge) → at < length xs → (get_or xs at d).to ≢ to) → (e : Edge) × Contains xs e × (e.to ≡ to) → ⊥
absent xs to at rising p f (e, (k, l, r), s) = go (cases_lt k at)
  where
    go : (k < at) ⊎ (at ≤ k) → ⊥
    go (inl h) = let a = p.below k e h in let b = ap (λ z. z.to) r in omega arith
    go (inr h) = later (lt_or_eq at k (omega arith))
      where
        later : (at < k) ⊎ (at ≡ k) → ⊥
        later (inl m) =
            let d : at < length xs = omega arith in
            let a = p.above at e (omega arith) d in
            let b = f e d in
            let c = rising_reads xs at k e e rising m l in
            let q = ap (λ z. z.to) r in
            omega arith
        later (inr m) = f e (omega arith) (subst (λ z. (get_or xs z e).to ≡ to) (sym m) (ap (λ z. z.to) r ∙ s))
