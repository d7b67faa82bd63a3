use Rattle.std.proofs.Common.{◌&&◌, sym, ◌∙◌}
use Rattle.std.specs.Prelude.{not}
use Rattle.ctw_ops.specs.declared.types.ExternTag.TheVariants.{Func}
use Rattle.ctw_text.specs.declared.fields.Field.{Field}
use Rattle.ctw_text.specs.declared.pieces.FieldKind.TheVariants.{Defining}
use Rattle.ctw_text.specs.Names.{is_import, is_kind}
use Rattle.ctw_names.proofs.Walks.{none_kept, some_kept}
use Rattle.ctw_names.proofs.whole.defines_no_function.Goals as goal

pub returns-then-is_defined : goal.returns-then-is_defined
returns-then-is_defined c =
    sym (some_kept (λ (f : Field). is_kind (Defining Func) f && not (is_import f)) c.args.fields.now c.fields.i c.at.result.now c.at.ensures (sym c.is_defined.ensures ∙ c.if-is_defined.true)) ∙ c.fields.invariant

pub fields-preserved : goal.fields-preserved
fields-preserved c =
    none_kept (λ (f : Field). is_kind (Defining Func) f && not (is_import f)) c.args.fields.now c.fields.i c.at.result.now c.at.ensures (sym c.is_defined.ensures ∙ c.if-is_defined.false) ∙ c.fields.invariant
