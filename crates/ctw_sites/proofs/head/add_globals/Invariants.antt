use Rattle.std.specs.Prelude.{◌≡◌}
use Rattle.ctw_labels.specs.declared.name.SiteName.TheVariants.{GlobalOf}
use Rattle.ctw_sites.specs.Leaves.{named_from}
use Rattle.ctw_sites.specs.Packed.{after}
use Rattle.ctw_sites.proofs.head.add_globals.Given as goal

-- the sites of the globals so far are added
abbrev pub invariant-globals : goal.invariant-globals
invariant-globals l = l.packer ≡ after l.initial.packer (named_from GlobalOf 0 l.g)
