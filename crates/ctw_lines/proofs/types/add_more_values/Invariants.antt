use Rattle.std.proofs.Common.{◌≡◌, ◌++◌, map, take}
use Rattle.ctw_script.specs.Lines.{blank_before_each}
use Rattle.ctw_lines.specs.Types.{value_word}
use Rattle.ctw_lines.proofs.types.add_more_values.Given as goal

abbrev pub invariant-types : goal.invariant-types
invariant-types l = l.line.items ≡ l.fn.line.items ++ blank_before_each (map value_word (take l.ty-index l.types))
