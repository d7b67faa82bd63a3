-- Rows that are laid out one after another are those that are cut out again.
use Rattle.std.proofs.Common.{◌≡◌, ℕ, suc, zero, ◌+◌, ◌-◌, ◌<◌, ◌≤◌, ◌^◌, List, [], ◌∷◌, ◌++◌, length, get_or, take, map, replicate, refl, sym, ◌∙◌, ap, ap₂, subst, arith, length-append, append_assoc}
use Rattle.std.specs.Prelude.{slice_range, All}
use Rattle.std.proofs.Math.Seq.{take-append_seam, drop-append_seam}
use Rattle.std.proofs.lemmas.List.Elements.{All-replicate, All-nil}
use Rattle.ctw_flow.specs.declared.graph.Edge.{Edge}
use Rattle.ctw_flow.specs.Graph.{row, IsRising, IsGraph}
use Rattle.ctw_flow.specs.Rows.{rows_of, all_of, starts_from, IsPacked}
use Rattle.ctw_flow.specs.Sorted.{sums_from}

cut_out : (front r back : List Edge) → slice_range (front ++ (r ++ back)) (length front) (length front + length r) ≡ r
cut_out front r back =
    let e : length front + length r - length front ≡ length r = omega arith in
    ap₂ (λ (n : ℕ) (l : List Edge). take n l) e (drop-append_seam front (r ++ back)) ∙ take-append_seam r back

pub unpacked : (g : List (List Edge)) (front : List Edge) → rows_of (starts_from (length front) g) (front ++ all_of g) ≡ g
unpacked [] front = refl
unpacked (r ∷ []) front = ap (λ (l : List Edge). l ∷ []) (cut_out front r [])
unpacked (r ∷ s ∷ g) front =
    ap₂ (λ (l : List Edge) (ls : List (List Edge)). l ∷ ls) (cut_out front r (all_of (s ∷ g)))
    (ap₂ (λ (n : ℕ) (es : List Edge). rows_of (starts_from n (s ∷ g)) es) (sym (length-append front r)) (sym (append_assoc front r (all_of (s ∷ g)))) ∙ unpacked (s ∷ g) (front ++ r))

pub starts_long : (g : List (List Edge)) (n : ℕ) → length (starts_from n g) ≡ length g + 1
starts_long [] n = refl
starts_long (r ∷ g) n = let e = starts_long g (n + length r) in omega arith

-- what is laid out for a graph stands for it
pub packed : (g : List (List Edge)) (starts : List ℕ) (edges : List Edge) → IsGraph g → length g < 2 ^ 32 → starts ≡ starts_from 0 g → edges ≡ all_of g → (rows_of starts edges ≡ g) × IsPacked starts edges
packed g starts edges ok l e f =
    let same : rows_of starts edges ≡ g = ap₂ (λ (s : List ℕ) (es : List Edge). rows_of s es) e f ∙ unpacked g [] in
    let n = starts_long g 0 in (
      same,
      record {
        graph = subst IsGraph (sym same) ok;
        begin = e ∙ ap (starts_from 0) (sym same);
        laid = f ∙ ap all_of (sym same);
        few = let m = ap length e in omega arith;
      },
    )

-- ---- a row

pub row_cut : (starts : List ℕ) (edges : List Edge) (n : ℕ) → suc n < length starts → row (rows_of starts edges) n ≡ slice_range edges (get_or starts n 0) (get_or starts (suc n) 0)
row_cut [] edges n h = absurd (omega arith)
row_cut (a ∷ []) edges n h = absurd (omega arith)
row_cut (a ∷ b ∷ starts) edges zero h = refl
row_cut (a ∷ b ∷ starts) edges (suc n) h = row_cut (b ∷ starts) edges n (omega arith)

pub count_of : (starts : List ℕ) (edges : List Edge) → 0 < length starts → length (rows_of starts edges) + 1 ≡ length starts
count_of [] edges h = absurd (omega arith)
count_of (a ∷ []) edges h = refl
count_of (a ∷ b ∷ starts) edges h = let r = count_of (b ∷ starts) edges (omega arith) in omega arith

pub starts_count : (starts : List ℕ) (edges : List Edge) → IsPacked starts edges → length starts ≡ length (rows_of starts edges) + 1
starts_count starts edges p = ap length p.begin ∙ starts_long (rows_of starts edges) 0

pub row_rises : (g : List (List Edge)) (n : ℕ) → IsGraph g → n < length g → IsRising (row g n)
row_rises g n h l = (h n [] l).0

-- how many links stand before a row
unfoldable pub before : List (List Edge) → ℕ → ℕ
before g n = length (all_of (take n g))

pub start_is : (g : List (List Edge)) (at n d : ℕ) → n ≤ length g → get_or (starts_from at g) n d ≡ at + before g n
unfolding before
start_is [] at zero d h = omega arith
start_is [] at (suc n) d h = absurd (omega arith)
start_is (r ∷ g) at zero d h = omega arith
start_is (r ∷ g) at (suc n) d h = let e = start_is g (at + length r) n d (omega arith) in let f = length-append r (all_of (take n g)) in e ∙ omega arith

pub one_behind : (g : List (List Edge)) (n : ℕ) → n < length g → before g (suc n) ≡ before g n + length (row g n)
unfolding before
one_behind [] n h = absurd (omega arith)
one_behind (r ∷ g) zero h = let f = length-append r (all_of (take 0 g)) in f ∙ omega arith
one_behind (r ∷ g) (suc n) h =
    let e = one_behind g n (omega arith) in
    let a = length-append r (all_of (take (suc n) g)) in
    let b = length-append r (all_of (take n g)) in
    a ∙ omega (arith, e, b)

pub within_all : (g : List (List Edge)) (n : ℕ) → before g n ≤ length (all_of g)
unfolding before
within_all [] zero = omega arith
within_all [] (suc n) = omega arith
within_all (r ∷ g) zero = omega arith
within_all (r ∷ g) (suc n) =
    let e = within_all g n in
    let a = length-append r (all_of (take n g)) in
    let b = length-append r (all_of g) in
    omega (arith, e, a, b)

-- ---- a graph without links

pub none_rows : (n : ℕ) → all_of (replicate n []) ≡ []
none_rows zero = refl
none_rows (suc n) = none_rows n

pub none_starts : (n : ℕ) → replicate (suc n) 0 ≡ starts_from 0 (replicate n [])
none_starts zero = refl
none_starts (suc n) = ap (λ (l : List ℕ). 0 ∷ l) (none_starts n)

pub none_graph : (n : ℕ) → IsGraph (replicate n [])
none_graph n = All-replicate (λ r. IsRising r × All (λ e. e.to < length {A = List Edge} (replicate n [])) r) n [] (tt, All-nil (λ e. e.to < length {A = List Edge} (replicate n [])))

-- ---- sums

pub sums_are_starts : (g : List (List Edge)) (n : ℕ) → sums_from n (map (λ r. length r) g) ≡ starts_from n g
sums_are_starts [] n = refl
sums_are_starts (r ∷ g) n = ap (λ (l : List ℕ). n ∷ l) (sums_are_starts g (n + length r))

-- ---- the places of a row in what is laid out

module _ (starts : List ℕ) (edges : List Edge) (p : IsPacked starts edges) where
  abbrev g : List (List Edge)
  g = rows_of starts edges

  pub starts_at : (n d : ℕ) → n ≤ length g → get_or starts n d ≡ before g n
  starts_at n d h = ap (λ (l : List ℕ). get_or l n d) p.begin ∙ start_is g 0 n d h ∙ omega arith

  pub place_rises : (n d e : ℕ) → n < length g → get_or starts n d ≤ get_or starts (n + 1) e
  place_rises n d e h =
      let q : n + 1 ≡ suc n = omega arith in
      let a = starts_at n d (omega arith) in
      let b = starts_at (n + 1) e (omega arith) ∙ ap (before g) q in
      let c = one_behind g n h in
      omega (arith, a, b, c)

  pub place_within : (n e : ℕ) → n ≤ length g → get_or starts n e ≤ length edges
  place_within n e h =
      let b = starts_at n e h in
      let w = within_all g n in
      let l = ap length p.laid in
      omega (arith, b, w, l)

  pub row_is : (n d e : ℕ) → n < length g → slice_range edges (get_or starts n d) (get_or starts (n + 1) e) ≡ row g n
  row_is n d e h =
      let l = starts_count starts edges p in
      let a = starts_at n d (omega arith) ∙ sym (starts_at n 0 (omega arith)) in
      let q : n + 1 ≡ suc n = omega arith in
      let b = starts_at (n + 1) e (omega arith) ∙ sym (starts_at (n + 1) 0 (omega arith)) ∙ ap (λ i. get_or starts i 0) q in
      ap₂ (λ (i j : ℕ). slice_range edges i j) a b ∙ sym (row_cut starts edges n (omega (arith, l)))
