use Rattle.std.proofs.Common.{◌≡◌, vec_len}
use Rattle.ctw_text.specs.Fields.{gathered}
use Rattle.ctw_names.proofs.Gathering.{onto}
use Rattle.ctw_names.proofs.gather.fields.Given as goal

abbrev pub invariant-pieces : goal.invariant-pieces
invariant-pieces l = onto l.pieces.items (record { draft = l.draft; fields = l.fields }) ≡ gathered l.initial.pieces.items

abbrev pub decreases-pieces : goal.decreases-pieces
decreases-pieces l = vec_len l.pieces
