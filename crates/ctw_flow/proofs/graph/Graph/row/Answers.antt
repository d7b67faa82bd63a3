-- A row lies between the place where it begins and the one where the next begins.
use Rattle.std.proofs.Common.{◌≡◌, ◌≤◌, ◌<◌, ◌+◌, length, get_or, List, ap, ap₂, sym, ◌∙◌, subst, arith}
use Rattle.std.specs.Prelude.{slice_range, ℕ}
use Rattle.ctw_flow.specs.declared.graph.Edge.{Edge}
use Rattle.ctw_flow.specs.Graph.{row, IsRising}
use Rattle.ctw_flow.specs.Rows.{rows_of}
use Rattle.ctw_flow.proofs.Packed.{starts_count, place_rises, place_within, row_is, row_rises}
use Rattle.ctw_flow.proofs.graph.Graph.row.Goals as goal

pub index-first-requires : goal.index-first-requires
index-first-requires c = let l = starts_count c.self.inside.starts.items c.self.inside.edges.items c.self.invariant in let e = ap length c.self.view_is in let r = c.requires in omega (arith, l, e, r, c.self.inside.starts.ok)

pub index-end-requires : goal.index-end-requires
index-end-requires c = let l = starts_count c.self.inside.starts.items c.self.inside.edges.items c.self.invariant in let e = ap length c.self.view_is in let r = c.requires in omega (arith, l, e, r, c.self.inside.starts.ok)

inside : (c : goal.After-result-1) → c.args.node < length (rows_of c.self.inside.starts.items c.self.inside.edges.items)
inside c = let e = ap length c.self.view_is in let r = c.requires in omega (arith, e, r)

there : (c : goal.After-deref) → c.args.node < length (rows_of c.self.inside.starts.items c.self.inside.edges.items)
there c = let e = ap length c.self.view_is in let r = c.requires in omega (arith, e, r)

rises : (c : goal.After-deref) → c.index-first.result.now ≤ c.index-end.result.now
rises c = let p = place_rises c.self.inside.starts.items c.self.inside.edges.items c.self.invariant c.args.node c.index-first.result.now c.index-end.result.now (there c) in omega (arith, p, c.index-first.ensures, c.index-end.ensures)

within : (c : goal.After-deref) → c.index-end.result.now ≤ length c.self.inside.edges.items
within c = let p = place_within c.self.inside.starts.items c.self.inside.edges.items c.self.invariant (c.args.node + 1) c.index-end.result.now (let t = there c in omega arith) in omega (arith, p, c.index-end.ensures)

pub slice_bounds-result-count : goal.slice_bounds-result-count
slice_bounds-result-count c = rises c

pub offset_bounds-deref-first : goal.offset_bounds-deref-first
offset_bounds-deref-first c = let e = ap length c.deref.ensures.value in let k = c.deref.type_inv.1 in omega (arith, rises c, within c, e, k)

pub slice_bounds-result-start : goal.slice_bounds-result-start
slice_bounds-result-start c = let e = ap length c.deref.ensures.value in omega (arith, rises c, within c, e)

pub slice_bounds-result-end : goal.slice_bounds-result-end
slice_bounds-result-end c = let e = ap length c.deref.ensures.value in omega (arith, rises c, within c, e)

cut : (c : goal.After-result-1) → slice_range c.deref.result.now c.index-first.result.now c.index-end.result.now ≡ row (rows_of c.self.inside.starts.items c.self.inside.edges.items) c.args.node
cut c =
    ap₂ (λ (es : List Edge) (i : ℕ). slice_range es i c.index-end.result.now) c.deref.ensures.value c.index-first.ensures
    ∙ ap (λ i. slice_range c.self.inside.edges.items (get_or c.self.inside.starts.items c.args.node c.index-first.result.now) i) c.index-end.ensures
    ∙ row_is c.self.inside.starts.items c.self.inside.edges.items c.self.invariant c.args.node c.index-first.result.now c.index-end.result.now (inside c)

pub returns-clause-links : goal.returns-clause-links
returns-clause-links c = cut c ∙ ap (λ (g : List (List Edge)). row g c.args.node) c.self.view_is

pub returns-clause-rising : goal.returns-clause-rising
returns-clause-rising c = subst IsRising (sym (cut c)) (row_rises (rows_of c.self.inside.starts.items c.self.inside.edges.items) c.args.node c.self.invariant.graph (inside c))
