use Rattle.std.specs.Prelude.{◌≡◌}
use Rattle.ctw_sites.specs.Packed.{after}
use Rattle.ctw_sites.specs.Leaves.{iparams}
use Rattle.ctw_sites.proofs.leaf.push_params.Given as goal

-- the sites of the parameters so far are added
abbrev pub invariant-params : goal.invariant-params
invariant-params l = l.packer ≡ after l.initial.packer (iparams l.f l.at l.i)
