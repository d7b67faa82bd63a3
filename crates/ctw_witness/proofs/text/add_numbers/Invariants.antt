use Rattle.std.proofs.Common.{◌≡◌, ◌++◌, drop, map}
use Rattle.std.specs.Prelude.{decimal, string_bytes}
use Rattle.ctw_script.specs.Lines.{blank_before_each}
use Rattle.ctw_witness.proofs.text.add_numbers.Given as goal

abbrev pub invariant-numbers : goal.invariant-numbers
invariant-numbers l = string_bytes l.out ++ blank_before_each (map decimal (drop l.n-index l.numbers)) ≡ string_bytes l.initial.out ++ blank_before_each (map decimal l.numbers)
