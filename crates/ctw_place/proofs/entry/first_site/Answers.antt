use Rattle.std.proofs.Common.{length, sym, ap, ◌∙◌, arith}
use Rattle.ctw_module.specs.Trees.{view_module}
use Rattle.ctw_labels.specs.declared.name.SiteName.TheVariants.{Memory}
use Rattle.ctw_labels.specs.Numbering.{site_if}
use Rattle.ctw_sites.proofs.HeadLaws.{head_length}
use Rattle.ctw_place.proofs.entry.first_site.Goals as goal

pub overflow_add-behind : goal.overflow_add-behind
overflow_add-behind c = omega (arith, head_length (view_module c.args.m.now) c.global_count.result c.global_count.ensures, c.requires.globals, c.requires.room)

pub overflow_add-result : goal.overflow_add-result
overflow_add-result c =
    let one = ap (λ z. length (site_if Memory z)) (sym c.memory.ensures ∙ c.in-Some.is) in
    omega (arith, head_length (view_module c.args.m.now) c.global_count.result c.global_count.ensures, c.requires.globals, one, c.requires.room)

pub returns-in-Some : goal.returns-in-Some
returns-in-Some c =
    let one = ap (λ z. length (site_if Memory z)) (sym c.memory.ensures ∙ c.in-Some.is) in
    omega (arith, head_length (view_module c.args.m.now) c.global_count.result c.global_count.ensures, c.requires.globals, one)

pub returns-in-None : goal.returns-in-None
returns-in-None c =
    let none = ap (λ z. length (site_if Memory z)) (sym c.memory.ensures ∙ c.in-None.is) in
    omega (arith, head_length (view_module c.args.m.now) c.global_count.result c.global_count.ensures, c.requires.globals, none)
