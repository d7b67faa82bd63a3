use Rattle.std.proofs.Common.{List, ap, ◌∙◌}
use Rattle.std.specs.Prelude.{fold}
use Rattle.ctw_text.specs.Names.{Spelled, added, uses_of}
use Rattle.ctw_names.specs.Spaces.{type_entries_of}
use Rattle.ctw_names.proofs.Walks.{folded_then}
use Rattle.ctw_names.proofs.space.entries.Goals as goal

pub fields-preserved : goal.fields-preserved
fields-preserved c =
    let x = c.at.result.now in
    c.in_ok-add_uses.ensures ∙ ap (λ (es : List Spelled). fold added es (uses_of x)) c.fields.invariant
    ∙ folded_then c.args.fields.now c.fields.i x c.at.ensures added (type_entries_of c.args.fields.now) uses_of
