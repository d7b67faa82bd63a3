use Rattle.std.proofs.Common.{◌≡◌, ◌++◌, [], drop}
use Rattle.ctw_text.specs.Names.{Scope, body_faults, ops_of}
use Rattle.ctw_names.specs.Noted.{noted}
use Rattle.ctw_names.specs.Spaces.{space_in}
use Rattle.ctw_names.proofs.body.body_of.Given as goal

abbrev pub invariant-instructions : goal.invariant-instructions
invariant-instructions l =
    let s : Scope = record { space = space_in l.space; locals = l.locals } in
    (l.ops.items ++ ops_of s l.labels (drop l.raw-index l.raw-items) ≡ ops_of s [] l.raw-items)
    × (noted l.faults (body_faults s l.labels (drop l.raw-index l.raw-items)) ≡ noted l.initial.faults (body_faults s [] l.raw-items))
