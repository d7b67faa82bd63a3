use Rattle.std.specs.Prelude.{◌≡◌, ◌-◌, List, length, reverse}
use Rattle.ctw_ops.specs.declared.types.Label.{Label}
use Rattle.ctw_ops.specs.Code.{Code}
use Rattle.ctw_flat.specs.Spelled.{IsBody}
use Rattle.ctw_labels.specs.Placed.{TypeUse}
use Rattle.ctw_sites.specs.Bodies.{IsReady}
use Rattle.ctw_place.specs.Settings.{points_of}
use Rattle.ctw_place.specs.Variants.{Holds}
use Rattle.ctw_place.specs.Walks.{place_under, scope_under}
use Rattle.ctw_place.proofs.WalkLaws.{Walking}
use Rattle.ctw_place.proofs.code.put_code.Given as goal

-- the opcodes from the reached place on are left
abbrev pub invariant-opcodes : goal.invariant-opcodes
invariant-opcodes l = record {
  bytes : l.walk.bytes ≡ l.body;
  walking : (before : List (TypeUse Label)) (code : Code Label) → Holds l.initial.variants before → IsBody l.body code → IsReady (place_under (points_of l.setting) l.around) (scope_under (points_of l.setting) l.around) code l.n
      → Walking l.setting (points_of l.setting) l.around.f (scope_under (points_of l.setting) l.around) code l.n before l.body l.walk.place l.at l.site l.stack (reverse l.ends.items) l.initial.out.items l.out.items l.variants;
}

abbrev pub decreases-opcodes : goal.decreases-opcodes
decreases-opcodes l = length l.walk.bytes - l.walk.place
