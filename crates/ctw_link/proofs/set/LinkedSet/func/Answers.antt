use Rattle.std.proofs.Common.{ap, length, ◌∙◌, arith}
use Rattle.std.proofs.lemmas.Option.{slice_get_within}
use Rattle.ctw_ops.specs.declared.types.ExternTag.TheVariants.{Func}
use Rattle.ctw_link.specs.Numbers.{StoreNumbers}
use Rattle.ctw_link.proofs.Readers.{seen_linked, numbers_there, numbers_at, function_within, function_read, number_is, number_below}
use Rattle.ctw_link.proofs.set.LinkedSet.func.Goals as goal

pub index-requires : goal.index-requires
index-requires c =
    let h = seen_linked _ c.args.self.now _ _ _ c.self.view_is c.self.invariant in
    let lt = slice_get_within c.args.self.now c.args.part c.requires.0 c.requires.1 in
    omega (arith, numbers_there _ _ _ _ h c.args.part lt)

pub index-requires-2 : goal.index-requires-2
index-requires-2 c =
    let h = seen_linked _ c.args.self.now _ _ _ c.self.view_is c.self.invariant in
    let lt = slice_get_within c.args.self.now c.args.part c.requires.0 c.requires.1 in
    let l = numbers_at _ _ _ _ h c.args.part c.index.result.now lt c.index.ensures in
    omega (arith, function_within _ _ _ l c.args.index c.requires, ap (λ (n : StoreNumbers). length n.functions) c.behind-self.view_is)

pub returns-clause-number : goal.returns-clause-number
returns-clause-number c =
    let h = seen_linked _ c.args.self.now _ _ _ c.self.view_is c.self.invariant in
    let lt = slice_get_within c.args.self.now c.args.part c.requires.0 c.requires.1 in
    let l = numbers_at _ _ _ _ h c.args.part c.index.result.now lt c.index.ensures in
    number_is _ _ _ l Func c.args.index ∙ function_read _ _ _ l c.behind-self.inside.functions.items c.args.index c.index-2.result.now (ap (λ (n : StoreNumbers). n.functions) c.behind-self.view_is) c.requires c.index-2.ensures

pub returns-clause-there : goal.returns-clause-there
returns-clause-there c =
    let h = seen_linked _ c.args.self.now _ _ _ c.self.view_is c.self.invariant in
    let lt = slice_get_within c.args.self.now c.args.part c.requires.0 c.requires.1 in
    let l = numbers_at _ _ _ _ h c.args.part c.index.result.now lt c.index.ensures in
    let read = function_read _ _ _ l c.behind-self.inside.functions.items c.args.index c.index-2.result.now (ap (λ (n : StoreNumbers). n.functions) c.behind-self.view_is) c.requires c.index-2.ensures in
    number_below _ _ _ l Func c.args.index c.index-2.result.now h.matching read
