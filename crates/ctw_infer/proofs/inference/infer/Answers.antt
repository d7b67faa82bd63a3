use Rattle.std.proofs.Common.{◌≡◌, ◌∙◌, sym, subst}
use Rattle.ctw_module.specs.Trees.{view_module}
use Rattle.ctw_labels.specs.SitedModule.{sites}
use Rattle.ctw_infer.specs.declared.fault.InferFault.TheVariants.{Labelled, NoMemory}
use Rattle.ctw_infer.specs.Answers.{IsInferable, IsRefusedPlain, IsRefused}
use Rattle.ctw_least.specs.Marked.{marks_on}
use Rattle.ctw_infer.proofs.Fitting.{refused_fits, plain_refused, sites_refused, if_err, whatever}
use Rattle.ctw_infer.proofs.inference.infer.Goals as goal

pub returns-then-is_ct-clause-refused : goal.returns-then-is_ct-clause-refused
returns-then-is_ct-clause-refused c = sym c.is_ct.ensures ∙ c.if-is_ct.true

pub returns-then-is_ct-clause-fitting : goal.returns-then-is_ct-clause-fitting
returns-then-is_ct-clause-fitting c = λ i k f.
    let m = view_module c.args.m.now in
    refused_fits m c.args.marks.now.points (marks_on (sites m) c.args.marks.now.labels) k f i Labelled (sym c.is_ct.ensures ∙ c.if-is_ct.true)

pub returns-in-Err-clause-refused : goal.returns-in-Err-clause-refused
returns-in-Err-clause-refused c =
    let m = view_module c.args.m.now in
    let p = c.args.marks.now.points in
    let named = marks_on (sites m) c.args.marks.now.labels in
    subst (λ e. IsRefused m p named e) (sym c.fault_of_sites.ensures) (sites_refused m p named (sym c.is_ct.ensures ∙ c.if-is_ct.false) c.in-Err.fault c.in-Err.ensures.refused)

pub returns-in-Err-clause-fitting : goal.returns-in-Err-clause-fitting
returns-in-Err-clause-fitting c = λ i k f.
    let m = view_module c.args.m.now in
    let p = c.args.marks.now.points in
    let named = marks_on (sites m) c.args.marks.now.labels in
    refused_fits m p named k f i c.fault_of_sites.result
    (subst (λ e. IsRefused m p named e) (sym c.fault_of_sites.ensures) (sites_refused m p named (sym c.is_ct.ensures ∙ c.if-is_ct.false) c.in-Err.fault c.in-Err.ensures.refused))

pub returns-clause-inferable : goal.returns-clause-inferable
returns-clause-inferable c = whatever (IsInferable (view_module c.args.m.now)) c.infer_sites.result (sym c.is_ct.ensures ∙ c.if-is_ct.false, c.in-Ok.ensures.few)

pub returns-clause-refused : goal.returns-clause-refused
returns-clause-refused c =
    let m = view_module c.args.m.now in
    let p = c.args.marks.now.points in
    let named = marks_on (sites m) c.args.marks.now.labels in
    if_err (IsRefusedPlain m p named) (IsRefused m p named) c.infer_sites.result (plain_refused m p named (sym c.is_ct.ensures ∙ c.if-is_ct.false, c.in-Ok.ensures.few)) c.infer_sites.ensures.refused

pub returns-clause-fitting : goal.returns-clause-fitting
returns-clause-fitting c = λ i k f.
    let m = view_module c.args.m.now in
    let p = c.args.marks.now.points in
    let named = marks_on (sites m) c.args.marks.now.labels in
    if_err (IsRefusedPlain m p named) (λ e. e ≡ NoMemory) c.infer_sites.result (λ e r. refused_fits m p named k f i e (plain_refused m p named i e r)) c.infer_sites.ensures.refused
