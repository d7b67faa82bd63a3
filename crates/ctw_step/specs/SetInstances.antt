-- The functions of linked parts.
use Rattle.std.specs.Prelude.{List}
use Rattle.ctw_semantics.specs.Instances.{Functions}
use Rattle.ctw_link.specs.declared.set.Part.{Part}
use Rattle.ctw_link.specs.Sets.{set_of}
use Rattle.ctw_link.specs.SetInstances.{set_instances}

-- the functions of linked parts, by their numbers in the store
abbrev pub instances : List Part → Functions
instances parts = set_instances (set_of parts)
