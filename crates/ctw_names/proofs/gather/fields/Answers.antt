use Rattle.std.proofs.Common.{List, ap, sym, ◌∙◌}
use Rattle.ctw_text.specs.declared.pieces.Piece.{Piece}
use Rattle.ctw_text.specs.declared.fields.Draft.{Draft}
use Rattle.ctw_text.specs.declared.fields.Field.{Field}
use Rattle.ctw_text.specs.Fields.{Gathered, empty}
use Rattle.ctw_names.proofs.Gathering.{onto, onto_more, onto_start}
use Rattle.ctw_names.proofs.gather.fields.Goals as goal

pub pieces-init : goal.pieces-init
pieces-init c =
    let ps = c.args.pieces.items in
    ap (λ (d : Draft). onto ps (record { draft = d; fields = c.new-fields.result })) c.empty-draft.ensures
    ∙ ap (λ (fs : List Field). onto ps (record { draft = empty; fields = fs })) c.new-fields.ensures
    ∙ onto_start ps

pub pieces-preserved : goal.pieces-preserved
pieces-preserved c =
    let g : Gathered = record { draft = c.pieces.draft; fields = c.pieces.fields } in
    let front = c.pop.new.self.items in
    ap (onto front) c.in_ok-put.ensures ∙ sym (onto_more front c.in-Some.piece g)
    ∙ ap (λ (ps : List Piece). onto ps g) (sym c.in-Some.ensures.items) ∙ c.pieces.invariant
