use Rattle.std.specs.Prelude.{◌≡◌}
use Rattle.ctw_sites.specs.Packed.{after}
use Rattle.ctw_sites.specs.Leaves.{params}
use Rattle.ctw_sites.proofs.head.push_params.Given as goal

-- the sites of the parameters so far are added
abbrev pub invariant-params : goal.invariant-params
invariant-params l = l.packer ≡ after l.initial.packer (params l.f l.i)
