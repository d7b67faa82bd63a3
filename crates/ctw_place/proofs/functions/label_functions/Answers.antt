use Rattle.std.proofs.Common.{◌≡◌, ◌≤◌, ◌+◌, List, length, sym, subst, arith}
use Rattle.ctw_ops.specs.declared.types.Label.{Label}
use Rattle.ctw_ops.specs.Tree.{function_entries}
use Rattle.ctw_labels.specs.Placed.{TypeUse, with_use, with_uses}
use Rattle.ctw_labels.specs.Points.{trust_at}
use Rattle.ctw_place.specs.Settings.{module_of, points_of, use_at}
use Rattle.ctw_place.specs.Variants.{name_in, Holds}
use Rattle.ctw_place.proofs.FunctionLaws.{FunctionsLeft, functions_begin, function_room, function_few, function_on, functions_heads, functions_held, functions_names}
use Rattle.ctw_place.proofs.functions.label_functions.Goals as goal

pub functions-init : goal.functions-init
functions-init c = λ before h. functions_begin c.args.setting.now before c.new-types.result.items c.new-heads.result.items c.args.variants.now c.new-types.ensures.items c.new-heads.ensures.items h

pub named-requires-clause-room : goal.named-requires-clause-room
named-requires-clause-room c =
    function_room c.args.setting.now c.requires.few.0 c.functions.f c.functions.site c.functions.types.items c.functions.heads.items c.functions.variants (c.functions.invariant c.requires.few.0 c.requires.few.1) c.type_of_func-y.result c.type_of_func-y.ensures (omega (arith, c.functions-test.true, c.func_count-f-end.ensures)) c.requires.room

pub named-requires-clause-few : goal.named-requires-clause-few
named-requires-clause-few c =
    let h = c.functions.invariant c.requires.few.0 c.requires.few.1 in
    (h.vs, h.held, function_few c.args.setting.now c.requires.few.0 c.functions.f c.functions.site c.functions.types.items c.functions.heads.items c.functions.variants h c.type_of_func-y.result c.type_of_func-y.ensures (omega (arith, c.functions-test.true, c.func_count-f-end.ensures)) (length (module_of c.args.setting.now).types) c.requires.few.2)

pub overflow_add-site : goal.overflow_add-site
overflow_add-site c =
    let r = function_room c.args.setting.now c.requires.few.0 c.functions.f c.functions.site c.functions.types.items c.functions.heads.items c.functions.variants (c.functions.invariant c.requires.few.0 c.requires.few.1) c.type_of_func-y.result c.type_of_func-y.ensures (omega (arith, c.functions-test.true, c.func_count-f-end.ensures)) c.requires.room in
    omega (arith, r, c.sites_of-site.ensures.count)

pub functions-preserved : goal.functions-preserved
functions-preserved c = λ before h.
    let s = c.args.setting.now in
    let y = c.type_of_func-y.result in
    let L = c.functions.invariant before h in
    let held = subst (λ t. Holds c.named.new.variants (with_use L.vs (use_at s y c.functions.site t))) c.trust_of-trust.ensures (c.in_ok-index.ensures.held L.vs L.held) in
    let name : (later : List (TypeUse Label)) → c.in_ok-index.index ≡ name_in (length (module_of c.args.setting.now).types) (with_uses (with_use L.vs (use_at c.args.setting.now c.type_of_func-y.result c.functions.site (trust_at (points_of c.args.setting.now) c.functions.f))) later) c.type_of_func-y.result (use_at c.args.setting.now c.type_of_func-y.result c.functions.site (trust_at (points_of c.args.setting.now) c.functions.f)).type =
    λ later. subst (λ t. c.in_ok-index.index ≡ name_in (length (module_of c.args.setting.now).types) (with_uses (with_use L.vs (use_at c.args.setting.now c.type_of_func-y.result c.functions.site t)) later) c.type_of_func-y.result (use_at c.args.setting.now c.type_of_func-y.result c.functions.site t).type) c.trust_of-trust.ensures (c.in_ok-index.ensures.name L.vs later L.held) in
    let on = function_on s before c.functions.f c.functions.site c.functions.types.items c.functions.heads.items c.functions.variants L y c.type_of_func-y.ensures (omega (arith, c.functions-test.true, c.func_count-f-end.ensures))
    c.in_ok-index.index c.push-in-functions.new.self.items c.push.new.self.items c.named.new.variants c.in_ok-push-2.ensures.items c.in_ok-push.ensures.items held name in
    subst (λ k. FunctionsLeft s before (c.functions.f + 1) (c.functions.site + k) c.push-in-functions.new.self.items c.push.new.self.items c.named.new.variants) (sym c.sites_of-site.ensures.count) on

pub returns : goal.returns
returns c =
    let s = c.args.setting.now in
    let ge : length (function_entries (module_of c.args.setting.now)) ≤ c.functions.f = omega (arith, c.functions-test.false, c.func_count-f-end.ensures) in
    record {
      held = λ vs h. functions_held s vs c.functions.f c.functions.site c.functions.types.items c.functions.heads.items c.functions.variants (c.functions.invariant vs h) ge;
      types = λ vs later h. functions_names s vs c.functions.f c.functions.site c.functions.types.items c.functions.heads.items c.functions.variants (c.functions.invariant vs h) ge later;
      heads = functions_heads s c.requires.few.0 c.functions.f c.functions.site c.functions.types.items c.functions.heads.items c.functions.variants (c.functions.invariant c.requires.few.0 c.requires.few.1) ge;
    }
