use Rattle.std.proofs.Common.{◌≡◌, false, drop}
use Rattle.ctw_text.specs.Limits.{first, import_excess}
use Rattle.ctw_parse.proofs.excess.imports_excess.Given as goal

-- none of the first ones has an excess
abbrev pub invariant-loop-import : goal.invariant-loop-import
invariant-loop-import l = first (import_excess false false l.imports) ≡ first (import_excess l.table l.memory (drop l.import-index l.imports))
