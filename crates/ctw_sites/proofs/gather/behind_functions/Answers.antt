use Rattle.std.proofs.Common.{◌∙◌, length, sym, ap, arith}
use Rattle.ctw_module.specs.Trees.{view_module}
use Rattle.ctw_labels.specs.declared.name.SiteName.TheVariants.{Memory}
use Rattle.ctw_labels.specs.Numbering.{site_if}
use Rattle.ctw_sites.proofs.HeadLaws.{head_length}
use Rattle.ctw_sites.proofs.gather.behind_functions.Goals as goal

pub overflow_add-result : goal.overflow_add-result
overflow_add-result c =
    let l = head_length (view_module c.args.m.now) c.global_count.result c.global_count.ensures in
    let w = ap (λ z. length (site_if Memory z)) (sym c.memory.ensures ∙ c.in-Some.is) in
    omega (arith, l, w, c.requires)

pub returns-in-Some : goal.returns-in-Some
returns-in-Some c =
    let l = head_length (view_module c.args.m.now) c.global_count.result c.global_count.ensures in
    let w = ap (λ z. length (site_if Memory z)) (sym c.memory.ensures ∙ c.in-Some.is) in
    omega (arith, l, w)

pub returns-in-None : goal.returns-in-None
returns-in-None c =
    let l = head_length (view_module c.args.m.now) c.global_count-in-None.result c.global_count-in-None.ensures in
    let w = ap (λ z. length (site_if Memory z)) (sym c.memory.ensures ∙ c.in-None.is) in
    omega (arith, l, w)
