-- The rule of a link that is there is lowered, or the link is put in its place and the rows behind it begin one place later.
use Rattle.std.proofs.Common.{◌≡◌, ◌≢◌, ◌<◌, length, get_or, set, sym, ◌∙◌, ap, arith}
use Rattle.std.proofs.lemmas.List.{get_or_default}
use Rattle.ctw_flow.specs.declared.graph.Edge.{Edge}
use Rattle.ctw_flow.specs.Graph.{row, with_link}
use Rattle.ctw_flow.specs.Rows.{rows_of, IsPacked}
use Rattle.ctw_flow.proofs.Rows.{lowered, unlowered, inserted}
use Rattle.ctw_flow.proofs.Packed.{starts_count}
use Rattle.ctw_flow.proofs.Placing.{place_inside, place_before, written, unwritten, placed, starts_short}
use Rattle.ctw_flow.proofs.graph.Graph.add_link.Goals as goal
use Rattle.ctw_flow.proofs.graph.Graph.add_link.Goals.{then-rule-row, else-rule-row, else-place-row-via-then-place-row+else-row-place, else-place-row-via-else-place-row}

pub index-first-requires : goal.index-first-requires
index-first-requires c = let l = starts_count c.self.inside.starts.items c.self.inside.edges.items c.self.invariant in let e = ap length c.self.view_is in let r = c.requires.from in omega (arith, l, e, r, c.self.inside.starts.ok)

pub overflow_add-first : goal.overflow_add-first
overflow_add-first c =
    let h = place_inside c.self.inside.starts.items c.self.inside.edges.items c.self.invariant c.args.self.now c.self.view_is c.args.from c.requires.from c.row-row.result.now c.row-row.ensures.links c.index-first.result.now c.index-first.ensures c.place_of-place.result c.place_of-place.ensures.within in
    omega (arith, h, c.self.inside.edges.ok)

pub index_mut-requires : goal.index_mut-requires
index_mut-requires c =
    let h = place_before c.self.inside.starts.items c.self.inside.edges.items c.self.invariant c.args.self.now c.self.view_is c.args.from c.requires.from c.row-row.result.now c.row-row.ensures.links c.index-first.result.now c.index-first.ensures c.place_of-place.result c.if-place-row.true in
    omega (arith, h, c.self.inside.edges.ok)

pub overflow_add-first-2 : goal.overflow_add-first-2
overflow_add-first-2 c =
    let h = place_inside c.self.inside.starts.items c.self.inside.edges.items c.self.invariant c.args.self.now c.self.view_is c.args.from c.requires.from c.row-row.result.now c.row-row.ensures.links c.index-first.result.now c.index-first.ensures c.place_of-place.result c.place_of-place.ensures.within in
    omega (arith, h, c.self.inside.edges.ok)

pub insert-requires : goal.insert-requires
insert-requires c =
    let h = place_inside c.self.inside.starts.items c.self.inside.edges.items c.self.invariant c.args.self.now c.self.view_is c.args.from c.requires.from c.row-row.result.now c.row-row.ensures.links c.index-first.result.now c.index-first.ensures c.place_of-place.result c.place_of-place.ensures.within in
    omega (arith, h, c.self.inside.edges.ok)

pub shift-requires : goal.shift-requires
shift-requires c = λ k d l. let h = starts_short c.self.inside.starts.items c.self.inside.edges.items c.self.invariant k d l in omega (arith, h, c.self.inside.edges.ok)

pub invariant_of-self : goal.invariant_of-self
invariant_of-self c =
    let l = lowered c.row-row.result.now c.args.to c.args.rule c.place_of-place.result c.place_of-place.ensures (record { to = 0; rule = 0 }) c.if-place-row.true c.if-row-place.true c.if-rule-row.true in
    (written c.self.inside.starts.items c.self.inside.edges.items c.self.invariant c.args.self.now c.self.view_is c.args.from c.requires.from c.row-row.result.now c.row-row.ensures.links c.index-first.result.now c.index-first.ensures c.args.to c.args.rule c.place_of-place.result c.requires.to (record { to = c.args.to; rule = c.args.rule }) c.if-place-row.true l).1

pub returns-then-row-place-clause-ok : goal.returns-then-row-place-clause-ok
returns-then-row-place-clause-ok c = elim c.if-rule-row.branch [
  | then-rule-row w ↦
      let l = lowered c.row-row.result.now c.args.to c.args.rule c.place_of-place.result c.place_of-place.ensures (record { to = 0; rule = 0 }) c.if-place-row.true c.if-row-place.true w.if-rule-row.true in
      w.self-is ∙ (written c.self.inside.starts.items c.self.inside.edges.items c.self.invariant c.args.self.now c.self.view_is c.args.from c.requires.from c.row-row.result.now c.row-row.ensures.links c.index-first.result.now c.index-first.ensures c.args.to c.args.rule c.place_of-place.result c.requires.to (record { to = c.args.to; rule = c.args.rule }) c.if-place-row.true l).0
  | else-rule-row w ↦
      let l = unlowered c.row-row.result.now c.args.to c.args.rule c.place_of-place.result c.place_of-place.ensures (record { to = 0; rule = 0 }) c.if-place-row.true c.if-row-place.true w.if-rule-row.false in
      w.self-is ∙ sym c.self.view_is ∙ unwritten c.self.inside.starts.items c.self.inside.edges.items c.self.invariant c.args.self.now c.self.view_is c.args.from c.requires.from c.row-row.result.now c.row-row.ensures.links c.index-first.result.now c.index-first.ensures c.args.to c.args.rule c.place_of-place.result c.requires.to l
]

apart : (c : goal.After-shift) → (d : Edge) → c.place_of-place.result < length c.row-row.result.now → (get_or c.row-row.result.now c.place_of-place.result d).to ≢ c.args.to
apart c d l = elim c.else-place-row.branch [
  | else-place-row-via-then-place-row+else-row-place w ↦
      let f = w.if-row-place.false in
      λ e. f (ap (λ (z : Edge). z.to) (get_or_default c.row-row.result.now c.place_of-place.result (record { to = 0; rule = 0 }) d l) ∙ e)
  | else-place-row-via-else-place-row w ↦ let f = w.if-place-row.false in absurd (omega arith)
]

put : (c : goal.After-shift) → (rows_of c.shift.new.numbers.items c.insert.new.self.items ≡ set c.args.self.now c.args.from (with_link c.args.to c.args.rule (row c.args.self.now c.args.from))) × IsPacked c.shift.new.numbers.items c.insert.new.self.items
put c =
    let l = inserted c.row-row.result.now c.args.to c.args.rule c.place_of-place.result c.place_of-place.ensures (apart c) in
    placed c.self.inside.starts.items c.self.inside.edges.items c.self.invariant c.args.self.now c.self.view_is c.args.from c.requires.from c.row-row.result.now c.row-row.ensures.links c.index-first.result.now c.index-first.ensures c.args.to c.args.rule c.place_of-place.result c.requires.to (record { to = c.args.to; rule = c.args.rule }) c.shift.new.numbers.items c.insert.new.self.items c.place_of-place.ensures.within l c.shift.ensures c.in_ok-insert.ensures.items

pub invariant_of-self-2 : goal.invariant_of-self-2
invariant_of-self-2 c = (put c).1

pub returns-clause-ok : goal.returns-clause-ok
returns-clause-ok c = (put c).0
