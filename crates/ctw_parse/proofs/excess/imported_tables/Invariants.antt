use Rattle.std.proofs.Common.{◌≡◌, ◌≤◌, take}
use Rattle.ctw_text.specs.Limits.{count_if, is_table}
use Rattle.ctw_parse.proofs.excess.imported_tables.Given as goal

-- the first ones are counted
abbrev pub invariant-loop-import : goal.invariant-loop-import
invariant-loop-import l = (l.count ≡ count_if is_table (take l.import-index l.imports)) × (l.count ≤ l.import-index)
