use Rattle.std.proofs.Common.{◌≡◌, map, take}
use Rattle.ctw_ops.specs.declared.types.ExternTag.TheVariants.{Memory}
use Rattle.ctw_text.specs.declared.fields.Field.{Field}
use Rattle.ctw_text.specs.Names.{defined, memory_type}
use Rattle.ctw_names.proofs.defined.memories.Given as goal

abbrev pub invariant-fields : goal.invariant-fields
invariant-fields l = l.memories.items ≡ map (λ (f : Field). memory_type f.draft) (defined Memory (take l.i l.fields))
