-- What a link in one row changes in what is laid out.
use Rattle.std.proofs.Common.{◌≡◌, ℕ, zero, suc, ◌+◌, ◌-◌, ◌<◌, ◌≤◌, ◌^◌, List, [], ◌∷◌, ◌++◌, length, get_or, set, take, drop, map, refl, sym, ◌∙◌, ap, ap₂, arith, length-append, append_assoc}
use Rattle.std.proofs.Math.Seq.{take-append-add, drop-append-add}
use Rattle.std.proofs.lemmas.List.{set-append_left, set-append_right, take-append-le, drop-append-le, length-set, length-take, length-drop}
use Rattle.ctw_flow.specs.declared.graph.Edge.{Edge}
use Rattle.ctw_flow.specs.Graph.{row, with_link}
use Rattle.ctw_flow.specs.Rows.{rows_of, all_of, starts_from, IsPacked}
use Rattle.std.specs.Prelude.{All}
use Rattle.ctw_flow.proofs.Packed.{before, packed, starts_count, starts_at, one_behind, within_all, place_within}
use Rattle.ctw_flow.proofs.Sorting.{shifted, not_shifted}
use Rattle.ctw_flow.proofs.Rows.{graph_with}

-- ---- the links

pub set_laid : (g : List (List Edge)) (a p i : ℕ) (x : Edge) → a < length g → p < length (row g a) → i ≡ before g a + p → set (all_of g) i x ≡ all_of (set g a (set (row g a) p x))
unfolding before
set_laid [] a p i x h k e = absurd (omega arith)
set_laid (r ∷ g) zero p i x h k e = let q : i ≡ p = e ∙ omega arith in ap (λ n. set (r ++ all_of g) n x) q ∙ set-append_left r (all_of g) p x k
set_laid (r ∷ g) (suc a) p i x h k e =
    let n = length-append r (all_of (take a g)) in
    set-append_right r (all_of g) (length r) i x refl (omega (arith, e, n)) ∙ ap (λ (z : List Edge). r ++ z) (set_laid g a p (i - length r) x (omega arith) k (omega (arith, e, n)))

insert_front : (r rest : List Edge) (p : ℕ) (x : Edge) → p ≤ length r → take p (r ++ rest) ++ x ∷ drop p (r ++ rest) ≡ (take p r ++ x ∷ drop p r) ++ rest
insert_front r rest p x h = ap₂ (λ (f b : List Edge). f ++ x ∷ b) (take-append-le p r rest h) (drop-append-le p r rest h) ∙ sym (append_assoc (take p r) (x ∷ drop p r) rest)

insert_back : (r rest : List Edge) (i : ℕ) (x : Edge) → length r ≤ i → take i (r ++ rest) ++ x ∷ drop i (r ++ rest) ≡ r ++ (take (i - length r) rest ++ x ∷ drop (i - length r) rest)
insert_back r rest i x h =
    let e : i ≡ length r + (i - length r) = omega arith in
    ap (λ n. take n (r ++ rest) ++ x ∷ drop n (r ++ rest)) e
    ∙ ap₂ (λ (f b : List Edge). f ++ x ∷ b) (take-append-add r rest (i - length r)) (drop-append-add r rest (i - length r))
    ∙ append_assoc r (take (i - length r) rest) (x ∷ drop (i - length r) rest)

pub insert_laid : (g : List (List Edge)) (a p i : ℕ) (x : Edge) → a < length g → p ≤ length (row g a) → i ≡ before g a + p → take i (all_of g) ++ x ∷ drop i (all_of g) ≡ all_of (set g a (take p (row g a) ++ x ∷ drop p (row g a)))
unfolding before
insert_laid [] a p i x h k e = absurd (omega arith)
insert_laid (r ∷ g) zero p i x h k e = let q : i ≡ p = e ∙ omega arith in ap (λ n. take n (r ++ all_of g) ++ x ∷ drop n (r ++ all_of g)) q ∙ insert_front r (all_of g) p x k
insert_laid (r ∷ g) (suc a) p i x h k e =
    let n = length-append r (all_of (take a g)) in
    insert_back r (all_of g) i x (omega (arith, e, n)) ∙ ap (λ (z : List Edge). r ++ z) (insert_laid g a p (i - length r) x (omega arith) k (omega (arith, e, n)))

-- ---- the places where rows begin

starts_later : (g : List (List Edge)) (n : ℕ) → map suc (starts_from n g) ≡ starts_from (suc n) g
starts_later [] n = refl
starts_later (r ∷ g) n = let e : suc (n + length r) ≡ suc n + length r = omega arith in ap (λ (l : List ℕ). suc n ∷ l) (starts_later g (n + length r) ∙ ap (λ m. starts_from m g) e)

pub starts_grown : (g : List (List Edge)) (a n : ℕ) (new : List Edge) → a < length g → length new ≡ length (row g a) + 1 → take (suc a) (starts_from n g) ++ map suc (drop (suc a) (starts_from n g)) ≡ starts_from n (set g a new)
starts_grown [] a n new h e = absurd (omega arith)
starts_grown (r ∷ g) zero n new h e = let q : suc (n + length r) ≡ n + length new = omega arith in ap (λ (l : List ℕ). n ∷ l) (starts_later g (n + length r) ∙ ap (λ m. starts_from m g) q)
starts_grown (r ∷ g) (suc a) n new h e = ap (λ (l : List ℕ). n ∷ l) (starts_grown g a (n + length r) new (omega arith) e)

pub starts_same : (g : List (List Edge)) (a n : ℕ) (new : List Edge) → length new ≡ length (row g a) → starts_from n (set g a new) ≡ starts_from n g
starts_same [] a n new e = refl
starts_same (r ∷ g) zero n new e = ap (λ m. n ∷ starts_from (n + m) g) e
starts_same (r ∷ g) (suc a) n new e = ap (λ (l : List ℕ). n ∷ l) (starts_same g a (n + length r) new e)

-- ---- a graph with a link

module _ (starts : List ℕ) (edges : List Edge) (p : IsPacked starts edges) (a to rule : ℕ) (there : a < length (rows_of starts edges)) (node : to < length (rows_of starts edges)) where
  abbrev g : List (List Edge)
  g = rows_of starts edges

  abbrev linked : List (List Edge)
  linked = set g a (with_link to rule (row g a))

  few : length linked < 2 ^ 32
  few = let n = length-set g a (with_link to rule (row g a)) in let s = starts_count starts edges p in let f = p.few in omega (arith, n, s, f)

  -- the rule of a link that is there is written
  pub rule_written : (place i : ℕ) (x : Edge) → place < length (row g a) → i ≡ before g a + place → set (row g a) place x ≡ with_link to rule (row g a) → (rows_of starts (set edges i x) ≡ linked) × IsPacked starts (set edges i x)
  rule_written place i x h e f =
      packed linked starts (set edges i x) (graph_with g a to rule p.graph there node) few
      (p.begin ∙ sym (ap (λ (z : List Edge). starts_from 0 (set g a z)) (sym f) ∙ starts_same g a 0 (set (row g a) place x) (length-set (row g a) place x)))
      (ap (λ (z : List Edge). set z i x) p.laid ∙ set_laid g a place i x there h e ∙ ap (λ (z : List Edge). all_of (set g a z)) f)

  -- a link is put in its place
  pub link_placed : (place i : ℕ) (x : Edge) → place ≤ length (row g a) → i ≡ before g a + place → take place (row g a) ++ x ∷ drop place (row g a) ≡ with_link to rule (row g a)
      → (later : List ℕ) (more : List Edge) → later ≡ take (a + 1) starts ++ map suc (drop (a + 1) starts) → more ≡ take i edges ++ x ∷ drop i edges
      → (rows_of later more ≡ linked) × IsPacked later more
  link_placed place i x h e f later more s m =
      let q : a + 1 ≡ suc a = omega arith in
      packed linked later more (graph_with g a to rule p.graph there node) few
      (s ∙ ap₂ (λ (n : ℕ) (z : List ℕ). take n z ++ map suc (drop n z)) q p.begin ∙ starts_grown g a 0 (take place (row g a) ++ x ∷ drop place (row g a)) there longer ∙ ap (λ (z : List Edge). starts_from 0 (set g a z)) f)
      (m ∙ ap (λ (z : List Edge). take i z ++ x ∷ drop i z) p.laid ∙ insert_laid g a place i x there h e ∙ ap (λ (z : List Edge). all_of (set g a z)) f)
    where
      longer : length (take place (row g a) ++ x ∷ drop place (row g a)) ≡ length (row g a) + 1
      longer = length-append (take place (row g a)) (x ∷ drop place (row g a)) ∙ omega (arith, length-take place (row g a), length-drop place (row g a), h)

-- ---- by the graph that is held

module _ (starts : List ℕ) (edges : List Edge) (p : IsPacked starts edges) (self : List (List Edge)) (v : rows_of starts edges ≡ self) (a : ℕ) (there : a < length self)
    (r : List Edge) (e : r ≡ row self a) (first : ℕ) (f : first ≡ get_or starts a first) where
  within : a < length (rows_of starts edges)
  within = omega (arith, ap length v, there)

  same_row : r ≡ row (rows_of starts edges) a
  same_row = e ∙ ap (λ (g : List (List Edge)). row g a) (sym v)

  first_is : first ≡ before (rows_of starts edges) a
  first_is = f ∙ starts_at starts edges p a first (omega (arith, within))

  pub place_inside : (place : ℕ) → place ≤ length r → first + place ≤ length edges
  place_inside place h =
      let b = one_behind (rows_of starts edges) a within in
      let w = within_all (rows_of starts edges) (suc a) in
      let l = ap length p.laid in
      omega (arith, b, w, l, first_is, h, ap length same_row)

  pub place_before : (place : ℕ) → place < length r → first + place < length edges
  place_before place h =
      let b = one_behind (rows_of starts edges) a within in
      let w = within_all (rows_of starts edges) (suc a) in
      let l = ap length p.laid in
      omega (arith, b, w, l, first_is, h, ap length same_row)

  module _ (to rule place : ℕ) (node : to < length self) where
    inside : to < length (rows_of starts edges)
    inside = omega (arith, ap length v, node)

    linked_is : set (rows_of starts edges) a (with_link to rule (row (rows_of starts edges) a)) ≡ set self a (with_link to rule (row self a))
    linked_is = ap (λ (g : List (List Edge)). set g a (with_link to rule (row g a))) v

    pub written : (x : Edge) → place < length r → set r place x ≡ with_link to rule r
        → (rows_of starts (set edges (first + place) x) ≡ set self a (with_link to rule (row self a))) × IsPacked starts (set edges (first + place) x)
    written x h k =
        let w = rule_written starts edges p a to rule within inside place (first + place) x (omega (arith, h, ap length same_row)) (ap (λ n. n + place) first_is) (ap (λ (z : List Edge). set z place x) (sym same_row) ∙ k ∙ ap (with_link to rule) same_row) in
        (w.0 ∙ linked_is, w.1)

    pub unwritten : r ≡ with_link to rule r → rows_of starts edges ≡ set self a (with_link to rule (row self a))
    unwritten k = sym (row_left (rows_of starts edges) a (sym (sym same_row ∙ k ∙ ap (with_link to rule) same_row))) ∙ linked_is
      where
        row_left : (g : List (List Edge)) (a : ℕ) → with_link to rule (row g a) ≡ row g a → set g a (with_link to rule (row g a)) ≡ g
        row_left [] a k = refl
        row_left (s ∷ g) zero k = ap (λ (z : List Edge). z ∷ g) k
        row_left (s ∷ g) (suc a) k = ap (λ (z : List (List Edge)). s ∷ z) (row_left g a k)

    pub placed : (x : Edge) (later : List ℕ) (more : List Edge) → place ≤ length r → take place r ++ x ∷ drop place r ≡ with_link to rule r → later ≡ take (a + 1) starts ++ map suc (drop (a + 1) starts)
        → more ≡ take (first + place) edges ++ x ∷ drop (first + place) edges → (rows_of later more ≡ set self a (with_link to rule (row self a))) × IsPacked later more
    placed x later more h k s m =
        let w = link_placed starts edges p a to rule within inside place (first + place) x (omega (arith, h, ap length same_row)) (ap (λ n. n + place) first_is)
        (ap (λ (z : List Edge). take place z ++ x ∷ drop place z) (sym same_row) ∙ k ∙ ap (with_link to rule) same_row) later more s m in
        (w.0 ∙ linked_is, w.1)

-- no place where a row begins passes the links
pub starts_short : (starts : List ℕ) (edges : List Edge) → IsPacked starts edges → All (λ n. n ≤ length edges) starts
starts_short starts edges p k d l = let s = starts_count starts edges p in place_within starts edges p k d (omega (arith, s, l))

-- each number from a place on is one greater
pub later_at : (xs ys : List ℕ) (n i d : ℕ) → n ≤ i → i < length xs → ys ≡ take n xs ++ (map suc (take (i - n) (drop n xs)) ++ drop i xs)
    → set ys i (get_or ys i d + 1) ≡ take n xs ++ (map suc (take (i + 1 - n) (drop n xs)) ++ drop (i + 1) xs)
later_at xs ys n i d l h e = ap (λ (z : List ℕ). set z i (get_or z i d + 1)) e ∙ go xs n i l h
  where
    go : (xs : List ℕ) (n i : ℕ) → n ≤ i → i < length xs → set (take n xs ++ (map suc (take (i - n) (drop n xs)) ++ drop i xs)) i (get_or (take n xs ++ (map suc (take (i - n) (drop n xs)) ++ drop i xs)) i d + 1)
        ≡ take n xs ++ (map suc (take (i + 1 - n) (drop n xs)) ++ drop (i + 1) xs)
    go [] n i l h = absurd (omega arith)
    go (x ∷ xs) zero i l h =
        let s : suc i ≡ i + 1 = omega arith in
        let a : i - 0 ≡ i = omega arith in
        let b : i + 1 ≡ i + 1 - 0 = omega arith in
        ap (λ m. set (map suc (take m (x ∷ xs)) ++ drop i (x ∷ xs)) i (get_or (map suc (take m (x ∷ xs)) ++ drop i (x ∷ xs)) i d + 1)) a
        ∙ shifted (x ∷ xs) i d h ∙ ap (λ m. map suc (take m (x ∷ xs)) ++ drop m (x ∷ xs)) s ∙ ap (λ m. map suc (take m (x ∷ xs)) ++ drop (i + 1) (x ∷ xs)) b
    go (x ∷ xs) (suc n) zero l h = absurd (omega arith)
    go (x ∷ xs) (suc n) (suc i) l h =
        let a : suc i - suc n ≡ i - n = omega arith in
        let b : i + 1 - n ≡ suc i + 1 - suc n = omega arith in
        let c : suc i + 1 ≡ suc (i + 1) = omega arith in
        ap (λ m. set (x ∷ take n xs ++ (map suc (take m (drop n xs)) ++ drop i xs)) (suc i) (get_or (x ∷ take n xs ++ (map suc (take m (drop n xs)) ++ drop i xs)) (suc i) d + 1)) a
        ∙ ap (λ (z : List ℕ). x ∷ z) (go xs n i (omega arith) (omega arith))
        ∙ ap₂ (λ (m k : ℕ). x ∷ take n xs ++ (map suc (take m (drop n xs)) ++ drop k (x ∷ xs))) b (sym c)

pub unchanged_at : (xs ys : List ℕ) (n i d : ℕ) → n ≤ i → i < length xs → ys ≡ take n xs ++ (map suc (take (i - n) (drop n xs)) ++ drop i xs) → get_or ys i d ≡ get_or xs i d
unchanged_at xs ys n i d l h e = ap (λ (z : List ℕ). get_or z i d) e ∙ go xs n i l h
  where
    go : (xs : List ℕ) (n i : ℕ) → n ≤ i → i < length xs → get_or (take n xs ++ (map suc (take (i - n) (drop n xs)) ++ drop i xs)) i d ≡ get_or xs i d
    go [] n i l h = absurd (omega arith)
    go (x ∷ xs) zero i l h = let a : i - 0 ≡ i = omega arith in ap (λ m. get_or (map suc (take m (x ∷ xs)) ++ drop i (x ∷ xs)) i d) a ∙ not_shifted (x ∷ xs) i d h
    go (x ∷ xs) (suc n) zero l h = absurd (omega arith)
    go (x ∷ xs) (suc n) (suc i) l h =
        let a : suc i - suc n ≡ i - n = omega arith in
        ap (λ m. get_or (x ∷ take n xs ++ (map suc (take m (drop n xs)) ++ drop i xs)) (suc i) d) a ∙ go xs n i (omega arith) (omega arith)
