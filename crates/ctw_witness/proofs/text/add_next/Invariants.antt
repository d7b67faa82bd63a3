use Rattle.std.proofs.Common.{◌≡◌, ◌≤◌, ◌-◌, ◌++◌, drop}
use Rattle.std.specs.Prelude.{string_bytes}
use Rattle.ctw_witness.specs.Lines.{next_lines}
use Rattle.ctw_witness.proofs.text.add_next.Given as goal

abbrev pub invariant-sites : goal.invariant-sites
invariant-sites l = record {
  from : 1 ≤ l.i;
  told : string_bytes l.out ++ next_lines l.s (drop l.i l.w.sites) (drop (l.i - 1) l.w.rules) ≡ string_bytes l.initial.out ++ next_lines l.s (drop 1 l.w.sites) l.w.rules;
}
