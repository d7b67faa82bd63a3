use Rattle.std.proofs.Common.{ap, ◌∙◌}
use Rattle.std.specs.Prelude.{Option}
use Rattle.ctw_text.specs.Names.{NameFault, use_faults}
use Rattle.ctw_names.specs.Noted.{noted}
use Rattle.ctw_names.proofs.Walks.{noted_then}
use Rattle.ctw_names.proofs.resolve.note_all.Goals as goal

pub indexes-preserved : goal.indexes-preserved
indexes-preserved c =
    let x = c.at.result.now in
    c.note.ensures ∙ ap (λ (b : Option NameFault). noted b (use_faults c.args.names.now x)) c.indexes.invariant
    ∙ noted_then c.args.xs.now c.indexes.i x c.at.ensures c.args.faults.now (use_faults c.args.names.now)
