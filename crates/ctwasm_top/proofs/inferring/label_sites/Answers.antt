use Rattle.std.proofs.Common.{◌≡◌, ◌∙◌, ℕ, List, Vec, Global, ap, subst}
use Rattle.std.specs.String.{string_bytes}
use Rattle.ctw_module.specs.Trees.{view_module}
use Rattle.ctw_labels.specs.Names.{Site}
use Rattle.ctw_witness.specs.Lines.{flow_text}
use Rattle.ctw_infer.specs.Answers.{IsRefusedPlain}
use Rattle.ctwasm_top.specs.Inference.{asked}
use Rattle.ctwasm_top.proofs.Labelling.{labels_flow}
use Rattle.ctwasm_top.proofs.inferring.label_sites.Goals as goal

pub returns-in-Ok-clause-told : goal.returns-in-Ok-clause-told
returns-in-Ok-clause-told c =
    ((c.requires.plain, c.requires.few), record { labelling = c.in-Ok.ensures.labelling; fits = c.in-Ok.ensures.fits; least = c.in-Ok.ensures.least })

pub returns-in_ok-text-in-Err-Flow-clause-told : goal.returns-in_ok-text-in-Err-Flow-clause-told
returns-in_ok-text-in-Err-Flow-clause-told c =
    let m = view_module c.args.m.now in
    let bytes : c.into_bytes.result.items ≡ string_bytes c.in_ok-text-in-Err-Flow.text = ap (λ (v : Vec ℕ Global). v.items) c.into_bytes.ensures.value in
    labels_flow m c.args.marks.now c.in-Err-Flow.flow c.no_labelling.result c.into_bytes.result.items (((c.requires.plain, c.requires.few), subst (IsRefusedPlain m c.args.marks.now.points (asked m c.args.marks.now)) c.in-Err-Flow.field-0-is c.in-Err-Flow.ensures.refused), λ e. cc) c.no_labelling.ensures
    (bytes ∙ c.in_ok-text-in-Err-Flow.ensures ∙ ap (λ (s : List Site). flow_text s c.in-Err-Flow.flow) c.requires.sites)
