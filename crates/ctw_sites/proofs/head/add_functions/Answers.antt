use Rattle.std.proofs.Common.{◌∙◌, ◌++◌, ◌∷◌, [], length, take, sym, ap, arith}
use Rattle.ctw_module.specs.Trees.{view_module}
use Rattle.ctw_ops.specs.Tree.{function_entries, type_named}
use Rattle.ctw_labels.specs.SitedModule.{function_sites}
use Rattle.ctw_sites.specs.Leaves.{type_sites_of}
use Rattle.ctw_sites.specs.Packed.{after}
use Rattle.ctw_sites.proofs.HeadLaws.{type_is, sites_one_more, heads_one_more, sites_room}
use Rattle.ctw_sites.proofs.PackedLaws.{after_both}
use Rattle.ctw_sites.proofs.head.add_functions.Goals as goal

pub push_type-requires : goal.push_type-requires
push_type-requires c =
    let m = view_module c.args.m.now in
    let ys = function_entries m in
    let y = c.type_of_func.result in
    let e = ap (λ z. z.count) c.functions.invariant.sites in
    let t = ap length (type_is c.functions.f c.signature-count.result.0 c.signature-count.result.1 (type_named m y) c.signature-count.ensures.params c.signature-count.ensures.width) in
    let r = sites_room m ys c.functions.f y c.type_of_func.ensures in
    omega (arith, e, t, r, c.requires.room)

pub functions-preserved : goal.functions-preserved
functions-preserved c =
    let m = view_module c.args.m.now in
    let ys = function_entries m in
    let y = c.type_of_func.result in
    let f = c.functions.f in
    let own = type_sites_of f c.signature-count.result.0 c.signature-count.result.1 in
    let t = type_is f c.signature-count.result.0 c.signature-count.result.1 (type_named m y) c.signature-count.ensures.params c.signature-count.ensures.width in
    let before = function_sites m 0 (take f ys) in
    let k = ap (λ z. z.count) c.packer.view_is ∙ ap (λ z. z.count) c.functions.invariant.sites in
    record {
      sites = c.in_ok-push_type.ensures ∙ ap (λ z. after z own) c.functions.invariant.sites ∙ after_both c.args.packer.now before own
          ∙ ap (λ z. after c.args.packer.now (before ++ z)) t ∙ ap (after c.args.packer.now) (sym (sites_one_more m ys f y c.type_of_func.ensures));
      heads = c.in_ok-push.ensures.items ∙ (λ i. c.functions.invariant.heads i ++ k i ∷ []) ∙ sym (heads_one_more m c.args.packer.now.count ys f y c.type_of_func.ensures);
    }
