use Rattle.std.proofs.Common.{◌≡◌, ◌++◌, drop}
use Rattle.std.specs.String.{string_bytes}
use Rattle.ctw_module.specs.Trees.{tree}
use Rattle.ctw_module.specs.Lookup.{locals_named}
use Rattle.ctw_print.specs.Texts.{all_texts, spaced_type}
use Rattle.ctw_print.proofs.field.put_declared.Given as goal

-- what is printed, with the types of the locals that are left, is the whole
abbrev pub invariant-loop-i : goal.invariant-loop-i
invariant-loop-i l =
    string_bytes l.out ++ all_texts spaced_type (drop l.i (locals_named (tree l.m) l.f)) ≡ string_bytes l.initial.out ++ all_texts spaced_type (drop l.first (locals_named (tree l.m) l.f))
