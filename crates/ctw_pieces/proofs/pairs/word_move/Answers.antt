use Rattle.std.proofs.Common.{◌∙◌}
use Rattle.ctw_pieces.proofs.pairs.word_move.Goals as goal

pub returns-in-ImportKind : goal.returns-in-ImportKind
returns-in-ImportKind c = rw c.in-ImportKind.is (c.alone-in-ImportKind.ensures ∙ c.import_kind_word.ensures c.args.ct c.args.at)

pub returns-in-ExportKind : goal.returns-in-ExportKind
returns-in-ExportKind c = rw c.in-ExportKind.is (c.alone-in-ExportKind.ensures ∙ c.export_kind_word.ensures c.args.ct c.args.at)
