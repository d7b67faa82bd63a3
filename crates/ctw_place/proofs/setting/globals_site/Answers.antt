use Rattle.std.proofs.Common.{length, take, ap, arith, length-append}
use Rattle.ctw_module.specs.Trees.{view_module}
use Rattle.ctw_ops.specs.Tree.{function_entries, type_named}
use Rattle.ctw_labels.specs.declared.name.SiteName.TheVariants.{Param, Result}
use Rattle.ctw_labels.specs.Numbering.{type_sites}
use Rattle.ctw_labels.specs.SitedModule.{function_sites}
use Rattle.ctw_labels.proofs.Contexts.{type_length}
use Rattle.ctw_sites.proofs.HeadLaws.{sites_one_more, sites_room}
use Rattle.ctw_place.proofs.setting.globals_site.Goals as goal

pub overflow_add-site : goal.overflow_add-site
overflow_add-site c =
    let m = view_module c.args.m.now in
    let ys = function_entries m in
    let y = c.type_of_func.result in
    let f = c.functions.f in
    let r = sites_room m ys f y c.type_of_func.ensures in
    let t = type_length (Param f) (Result f) (type_named m y) in
    omega (arith, r, t, c.functions.invariant, c.sites_of-site.ensures.count, c.requires)

pub functions-preserved : goal.functions-preserved
functions-preserved c =
    let m = view_module c.args.m.now in
    let ys = function_entries m in
    let y = c.type_of_func.result in
    let f = c.functions.f in
    let s = ap length (sites_one_more m ys f y c.type_of_func.ensures) in
    let l = length-append (function_sites m 0 (take f ys)) (type_sites (Param f) (Result f) (type_named m y)) in
    let t = type_length (Param f) (Result f) (type_named m y) in
    omega (arith, s, l, t, c.functions.invariant, c.sites_of-site.ensures.count)
