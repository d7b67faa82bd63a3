use Rattle.std.proofs.Common.{◌≡◌, ◌≤◌, drop}
use Rattle.ctw_text.specs.Limits.{first, function_excess}
use Rattle.ctw_parse.proofs.excess.functions_excess.Given as goal

-- none of the first ones has an excess
abbrev pub invariant-loop-function : goal.invariant-loop-function
invariant-loop-function l = (first (function_excess 0 l.functions) ≡ first (function_excess l.before (drop l.function-index l.functions))) × (l.before ≤ 1000000)
