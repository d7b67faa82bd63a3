use Rattle.std.proofs.Common.{◌≡◌, List, ℕ, take}
use Rattle.std.specs.Str.{bytes_eq}
use Rattle.indexmap.specs.IndexMap.{get_by}
use Rattle.ctw_module.specs.Lookup.{export_in}
use Rattle.ctw_module.proofs.viewing.names_of.Given as goal

abbrev pub invariant-exports : goal.invariant-exports
invariant-exports l = (name : List ℕ) → get_by (λ key. bytes_eq name key.now) l.names ≡ export_in name (take l.export-index l.exports)
