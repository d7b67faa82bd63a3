-- Each link adds one to the row of its node, or nothing where the one before it joins the same nodes.
use Rattle.std.proofs.Common.{◌≡◌, ℕ, zero, suc, ◌+◌, ◌-◌, ◌<◌, ◌++◌, ◌∷◌, [], List, length, map, set, get_or, refl, sym, ◌∙◌, ap, arith}
use Rattle.ctw_flow.specs.declared.graph.Edge.{Edge}
use Rattle.ctw_flow.specs.Rows.{all_of}
use Rattle.ctw_flow.proofs.Packed.{none_rows}
use Rattle.ctw_flow.proofs.Sorting.{IsElsewhere, zero_lengths, new_edges, new_counts, same_graph, count_within}
use Rattle.ctw_flow.proofs.graph.lay_out.Goals as goal
use Rattle.ctw_flow.proofs.graph.lay_out.Goals.{then-i-eq0+in_ok-push, then-i-eq0-via-then-i-eq0, then-i-eq0-via-else-i-eq0+then-is_elsewhere, else-i-eq0+else-is_elsewhere}

pub links-init : goal.links-init
links-init c = record {
  edges = c.new-edges.ensures.items ∙ sym (none_rows (length c.args.counts.now));
  counts = c.requires.none ∙ zero_lengths (length c.args.counts.now);
}

pub overflow_add-counts : goal.overflow_add-counts
overflow_add-counts c =
    let xs = c.args.sorted.now in
    let n = length c.args.counts.now in
    let l : c.links.i < length xs = omega arith in
    let w = count_within n xs c.requires.below c.requires.rising c.links.i l 0 in
    let e = ap (λ (z : List ℕ). get_or z (get_or xs c.links.i (0, 0, 0)).0 0) c.links.invariant.counts in
    let k = ap length c.links.invariant.edges in
    let o = c.links.edges.ok in
    omega (arith, w, e, k, o)

at_last : (xs : List (ℕ × ℕ × ℕ)) (i j : ℕ) → j + 1 ≡ i → get_or xs j (0, 0, 0) ≡ get_or xs (i - 1) (0, 0, 0)
at_last xs i j e = let k : j ≡ i - 1 = omega arith in ap (λ n. get_or xs n (0, 0, 0)) k

pub links-preserved : goal.links-preserved
links-preserved c =
    let l : c.links.i < length c.args.sorted.now = omega arith in
    elim c.if-i-eq0.branch [
      | then-i-eq0+in_ok-push w ↦
          let f : IsElsewhere (length c.args.counts.now) c.args.sorted.now c.requires.below c.requires.rising c.links.i l = elim w.then-i-eq0.branch [
            | then-i-eq0-via-then-i-eq0 v ↦ λ j e s. let z = v.if-i-eq0.true in omega (arith, z, e)
            | then-i-eq0-via-else-i-eq0+then-is_elsewhere v ↦
                λ j e s. let a = at_last c.args.sorted.now c.links.i j e in
                v.is_elsewhere.ensures.yes v.if-is_elsewhere.true (sym (ap (λ (z : ℕ × ℕ × ℕ). z.0) a) ∙ s.0, sym (ap (λ (z : ℕ × ℕ × ℕ). z.1) a) ∙ s.1)
          ] in record {
            edges =
                ap (λ v. v.items) w.edges-is ∙ w.in_ok-push.ensures.items
                ∙ ap (λ (z : List Edge). z ++ record { to = (get_or c.args.sorted.now c.links.i (0, 0, 0)).1; rule = (get_or c.args.sorted.now c.links.i (0, 0, 0)).2 } ∷ []) c.links.invariant.edges
                ∙ sym (new_edges (length c.args.counts.now) c.args.sorted.now c.requires.below c.requires.rising c.links.i l f);
            counts =
                w.counts-is
                ∙ ap (λ (z : List ℕ). set z (get_or c.args.sorted.now c.links.i (0, 0, 0)).0 (get_or z (get_or c.args.sorted.now c.links.i (0, 0, 0)).0 0 + 1)) c.links.invariant.counts
                ∙ sym (new_counts (length c.args.counts.now) c.args.sorted.now c.requires.below c.requires.rising c.links.i l f 0);
          }
      | else-i-eq0+else-is_elsewhere w ↦
          let n = w.if-i-eq0.false in
          let e : c.links.i - 1 + 1 ≡ c.links.i = positive c.links.i n in
          let s = w.is_elsewhere.ensures.no w.if-is_elsewhere.false in
          let g = same_graph (length c.args.counts.now) c.args.sorted.now c.requires.below c.requires.rising c.links.i l (c.links.i - 1) e s.0 s.1 in record {
            edges = ap (λ v. v.items) w.edges-is ∙ c.links.invariant.edges ∙ sym (ap all_of g);
            counts = w.counts-is ∙ c.links.invariant.counts ∙ sym (ap (map (λ (r : List Edge). length r)) g);
          }
    ]
  where
    positive : (i : ℕ) → (i ≡ 0 → ⊥) → i - 1 + 1 ≡ i
    positive zero n = absurd (n refl)
    positive (suc i) n = omega arith
