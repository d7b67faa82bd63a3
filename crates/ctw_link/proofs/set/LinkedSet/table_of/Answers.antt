use Rattle.std.proofs.Common.{◌≡◌, ◌<◌, ◌↔◌, List, ℕ, ap, sym, subst, slice_get, Option, IsSome, IfSome, ◌∙◌, arith}
use Rattle.ctw_ops.specs.declared.types.ExternTag.TheVariants.{Table}
use Rattle.ctw_ops.specs.Tree.{table_among}
use Rattle.ctw_module.specs.Trees.{tree}
use Rattle.ctw_link.specs.Sets.{set_of, defined}
use Rattle.ctw_link.specs.Numbers.{StoreNumbers}
use Rattle.ctw_link.proofs.Readers.{seen_linked, numbers_there, numbers_at, number_is, first_below, table_known}
use Rattle.ctw_link.proofs.set.LinkedSet.table_of.Goals as goal

read : (c : goal.After-copied) → c.copied.result ≡ slice_get c.index.result.now.tables 0
read c =
    c.copied.ensures ∙ c.first.ensures.value ∙ ap (λ (l : List ℕ). slice_get l 0) (c.deref.ensures.value ∙ ap (λ (n : StoreNumbers). n.tables) c.behind-self.view_is)

pub index-requires : goal.index-requires
index-requires c =
    let h = seen_linked _ c.args.self.now _ _ _ c.self.view_is c.self.invariant in
    omega (arith, numbers_there _ _ _ _ h c.args.part c.requires)

pub returns-clause-number : goal.returns-clause-number
returns-clause-number c =
    let h = seen_linked _ c.args.self.now _ _ _ c.self.view_is c.self.invariant in
    let l = numbers_at _ _ _ _ h c.args.part c.index.result.now c.requires c.index.ensures in
    read c ∙ sym (number_is _ _ _ l Table 0)

pub returns-clause-there : goal.returns-clause-there
returns-clause-there c =
    let h = seen_linked _ c.args.self.now _ _ _ c.self.view_is c.self.invariant in
    let l = numbers_at _ _ _ _ h c.args.part c.index.result.now c.requires c.index.ensures in
    subst (λ (o : Option ℕ). IfSome o (λ number. number < defined Table (set_of c.args.self.now))) (sym (read c)) (first_below _ _ _ l Table h.matching)

pub returns-clause-known : goal.returns-clause-known
returns-clause-known c = λ p is.
    let h = seen_linked _ c.args.self.now _ _ _ c.self.view_is c.self.invariant in
    let l = numbers_at _ _ _ _ h c.args.part c.index.result.now c.requires c.index.ensures in
    subst (λ (o : Option ℕ). IsSome o ↔ IsSome (table_among (tree p.«module»).imports (tree p.«module»).table)) (sym (read c)) (table_known _ _ _ l p is)
