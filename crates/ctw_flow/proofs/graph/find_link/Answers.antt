-- A link to the node would stand at its place.
use Rattle.std.proofs.Common.{◌∙◌, ap, arith}
use Rattle.std.proofs.lemmas.List.{get_or_default}
use Rattle.ctw_flow.proofs.Rows.{absent}
use Rattle.ctw_flow.proofs.graph.find_link.Goals as goal
use Rattle.ctw_flow.proofs.graph.find_link.Goals.{else-at-row-via-then-at-row+else-row-at, else-at-row-via-else-at-row}

pub returns-else-at-row : goal.returns-else-at-row
returns-else-at-row c =
    absent c.args.row.now c.args.to c.place_of-at.result c.requires c.place_of-at.ensures
    (λ d l. elim c.else-at-row.branch [
      | else-at-row-via-then-at-row+else-row-at w ↦
          let f = w.if-row-at.false in
          λ e. f (ap (λ z. z.to) (get_or_default c.args.row.now c.place_of-at.result (record { to = 0; rule = 0 }) d l) ∙ e)
      | else-at-row-via-else-at-row w ↦ let f = w.if-at-row.false in absurd (omega arith)
    ])
