-- What the parts of a set export, by store numbers (W3C WebAssembly Core 1.0, sections 2.5.10 and 4.2.10).
use Rattle.std.specs.Prelude.{ℕ, List, Option, None, option_and_then, slice_get, find, if◌then◌else◌}
use Rattle.ctw_ops.specs.declared.types.ExternTag.{ExternTag}
use Rattle.ctw_module.specs.Lookup.{export_in}
use Rattle.ctw_link.specs.Sets.{ModuleSet}
use Rattle.ctw_ops.specs.Equal.{same_tag}
use Rattle.ctw_link.specs.Numbers.{LinkedModule, numbers_of, is_named, linked}

-- the number of what a part exports under a name, where it is of this kind
abbrev pub exported_as : ExternTag → List ℕ → LinkedModule → Option ℕ
exported_as tag name p =
    option_and_then (λ thing. if same_tag tag thing.0 then slice_get (numbers_of tag p.numbers) thing.1 else None)
    (export_in name p.tree.exports)

-- the number of what the part of a name exports under a name, where it is of this kind
unfoldable pub exported : ExternTag → ModuleSet → List ℕ → List ℕ → Option ℕ
exported tag set part name = option_and_then (exported_as tag name) (find (is_named part) (linked set))
