use Rattle.std.specs.Prelude.{◌≡◌, take}
use Rattle.ctw_module.specs.Trees.{view_module}
use Rattle.ctw_ops.specs.Tree.{function_entries}
use Rattle.ctw_labels.specs.SitedModule.{function_sites}
use Rattle.ctw_sites.specs.Heads.{heads_from}
use Rattle.ctw_sites.specs.Packed.{after}
use Rattle.ctw_sites.proofs.head.add_functions.Given as goal

-- the sites of the functions so far are added
abbrev pub invariant-functions : goal.invariant-functions
invariant-functions l = record {
  sites : l.packer ≡ after l.initial.packer (function_sites (view_module l.m) 0 (take l.f (function_entries (view_module l.m))));
  heads : l.heads.items ≡ heads_from (view_module l.m) l.initial.packer.count (take l.f (function_entries (view_module l.m)));
}
