use Rattle.std.proofs.Common.{List, [], ◌∷◌, ◌++◌, ◌&&◌, map, ap, ◌∙◌}
use Rattle.std.specs.Prelude.{not}
use Rattle.ctw_ops.specs.declared.types.ExternTag.TheVariants.{Memory}
use Rattle.ctw_ops.specs.declared.types.Label.{Label}
use Rattle.ctw_ops.specs.Types.{MemoryType}
use Rattle.ctw_text.specs.declared.fields.Field.{Field}
use Rattle.ctw_text.specs.declared.pieces.FieldKind.TheVariants.{Defining}
use Rattle.ctw_text.specs.Names.{defined, is_import, is_kind, memory_type}
use Rattle.ctw_names.proofs.Walks.{mapped_then}
use Rattle.ctw_names.proofs.defined.memories.Goals as goal

pub fields-preserved : goal.fields-preserved
fields-preserved c =
    let give = λ (f : Field). memory_type f.draft in
    let x = c.at.result.now in
    c.in_ok-add_memory.ensures ∙ ap (λ (l : List (MemoryType Label)). l ++ map give (defined Memory (x ∷ []))) c.fields.invariant
    ∙ mapped_then c.args.fields.now c.fields.i x c.at.ensures (λ (f : Field). is_kind (Defining Memory) f && not (is_import f)) give
