use Rattle.std.proofs.Common.{◌≡◌, ◌≤◌, ◌-◌, List, drop, length}
use Rattle.ctw_labels.specs.Links.{Link}
use Rattle.ctw_least.specs.Flows.{IsGraphOf}
use Rattle.ctw_least.specs.Flows.{AreLeastRules}
use Rattle.ctw_witness.proofs.check.are_rules.Given as goal

-- the rules are the least ones exactly where those that are left are
abbrev pub invariant-links : goal.invariant-links
invariant-links l = record {
  from : 1 ≤ l.i;
  within : l.i ≤ length l.w.sites;
  on : (links : List Link) → IsGraphOf links l.graph → AreLeastRules links (drop (l.i - 1) l.w.sites) (drop (l.i - 1) l.w.rules) → AreLeastRules links l.w.sites l.w.rules;
  back : (links : List Link) → IsGraphOf links l.graph → AreLeastRules links l.w.sites l.w.rules → AreLeastRules links (drop (l.i - 1) l.w.sites) (drop (l.i - 1) l.w.rules);
}
