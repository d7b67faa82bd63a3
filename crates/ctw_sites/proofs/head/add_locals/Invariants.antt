use Rattle.std.specs.Prelude.{◌≡◌}
use Rattle.ctw_labels.specs.declared.name.SiteName.TheVariants.{Local}
use Rattle.ctw_sites.specs.Leaves.{named_from}
use Rattle.ctw_sites.specs.Packed.{after}
use Rattle.ctw_sites.proofs.head.add_locals.Given as goal

-- the sites of the locals so far are added
abbrev pub invariant-locals : goal.invariant-locals
invariant-locals l = l.packer ≡ after l.initial.packer (named_from (Local l.f) l.first l.i)
