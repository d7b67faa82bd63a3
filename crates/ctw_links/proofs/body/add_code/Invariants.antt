use Rattle.std.specs.Prelude.{◌≡◌, ◌-◌, length}
use Rattle.ctw_ops.specs.declared.types.Label.{Label}
use Rattle.ctw_ops.specs.Code.{Code}
use Rattle.ctw_flat.specs.Spelled.{IsBody}
use Rattle.ctw_sites.specs.Bodies.{IsReady}
use Rattle.ctw_sites.specs.Scope.{scope, place}
use Rattle.ctw_sites.proofs.LoopLaws.{Going}
use Rattle.ctw_links.proofs.LoopFacts.{Noting}
use Rattle.ctw_links.proofs.body.add_code.Given as goal

-- the opcodes before the reached place were passed, and are noted
abbrev pub invariant-opcodes : goal.invariant-opcodes
invariant-opcodes l = record {
  bytes : l.walk.bytes ≡ l.body;
  going : (code : Code Label) → IsBody l.body code → IsReady (place l.around) (scope l.around) code l.initial.packer.count
      → Going (place l.around) (scope l.around) code l.body l.walk.place l.at l.stack l.packer l.initial.packer;
  noting : (code : Code Label) → IsBody l.body code → IsReady (place l.around) (scope l.around) code l.initial.packer.count
      → Noting (place l.around) (scope l.around) code l.body l.walk.place l.at l.packer.count l.stack l.told.items l.initial.told.items l.users.items l.initial.users.items l.initial.packer.count;
}

abbrev pub decreases-opcodes : goal.decreases-opcodes
decreases-opcodes l = length l.walk.bytes - l.walk.place
