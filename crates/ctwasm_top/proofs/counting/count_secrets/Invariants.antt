use Rattle.std.proofs.Common.{◌≡◌, ◌≤◌, take}
use Rattle.ctwasm_top.specs.Works.{secrets}
use Rattle.ctwasm_top.proofs.counting.count_secrets.Given as goal

-- the secret ones of the first sites are counted
abbrev pub invariant-sites : goal.invariant-sites
invariant-sites l = record { counted : l.secret ≡ secrets (take l.site l.labels); few : l.secret ≤ l.site }
