use Rattle.std.proofs.Common.{◌≢◌, ◌∙◌, length, sym, subst, rules, arith}
use Rattle.std.proofs.lemmas.Grind.{common_steps}
use Rattle.ctw_module.specs.Trees.{view_module}
use Rattle.ctw_marks.specs.declared.fault.MarkFault.TheVariants.{NoMemory}
use Rattle.ctw_infer.specs.declared.fault.InferFault.TheVariants.{TooManySites}
use Rattle.ctw_labels.specs.SitedModule.{sites}
use Rattle.ctw_sites.specs.Refused.{IsRefusal}
use Rattle.ctw_lines.specs.Lines.{marks_line}
use Rattle.ctwasm_top.proofs.Labelling.{text_with_labels, text_unread, text_none, text_labelled, labels_none}
use Rattle.ctwasm_top.proofs.inferring.label_by.Goals as goal

pub returns-then-is_ct-clause-told : goal.returns-then-is_ct-clause-told
returns-then-is_ct-clause-told c = text_with_labels (view_module c.args.m.now) c.args.text.now c.refuse_infer.result (sym c.is_ct.ensures ∙ c.if-is_ct.true) c.refuse_infer.ensures.told

pub returns-in-Err : goal.returns-in-Err
returns-in-Err c =
    let some : c.in-Err.fault ≢ NoMemory = first_of (search rules, grind (arith, common_steps)) in
    record {
      told = text_unread (view_module c.args.m.now) c.args.text.now c.in-Err.fault c.refuse.result (sym c.is_ct.ensures ∙ c.if-is_ct.false) c.in-Err.ensures.fault some (c.refuse.ensures.told (marks_line c.in-Err.fault) c.marks_line.ensures);
      labelling = tt;
      quiet = λ e. c.refuse.ensures.quiet cc;
    }

pub returns-in-Err-TooManySites-clause-told : goal.returns-in-Err-TooManySites-clause-told
returns-in-Err-TooManySites-clause-told c =
    let m = view_module c.args.m.now in
    let plain = sym c.is_ct.ensures ∙ c.if-is_ct.false in
    let many = subst (IsRefusal (length (sites m))) c.in-Err-TooManySites.field-0-is c.in-Err-TooManySites.ensures.refused in
    text_none m c.args.text.now c.in-Ok.marks c.refuse_infer-in-Err-TooManySites.result plain c.in-Ok.ensures.reading
    (labels_none m c.in-Ok.marks (TooManySites c.in-Err-TooManySites.count) c.refuse_infer-in-Err-TooManySites.result ((plain, many.1, many.0), λ e. cc) (λ go. c.refuse_infer-in-Err-TooManySites.ensures.told))

pub returns-in-Ok-label_sites-clause-told : goal.returns-in-Ok-label_sites-clause-told
returns-in-Ok-label_sites-clause-told c =
    text_labelled (view_module c.args.m.now) c.args.text.now c.in-Ok.marks c.in-Ok-label_sites.labels (sym c.is_ct.ensures ∙ c.if-is_ct.false) c.in-Ok.ensures.reading c.in-Ok-label_sites.ensures.told

pub returns-in-Err-label_sites-clause-told : goal.returns-in-Err-label_sites-clause-told
returns-in-Err-label_sites-clause-told c =
    text_none (view_module c.args.m.now) c.args.text.now c.in-Ok.marks c.in-Err-label_sites.stop (sym c.is_ct.ensures ∙ c.if-is_ct.false) c.in-Ok.ensures.reading c.in-Err-label_sites.ensures.told
