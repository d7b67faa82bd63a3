use Rattle.std.proofs.Common.{sym, ◌∙◌, arith}
use Rattle.ctw_ops.specs.Tree.{type_named}
use Rattle.ctw_place.specs.Settings.{module_of}
use Rattle.ctw_place.proofs.TypesUnder.{plain_type}
use Rattle.ctw_place.proofs.uses.is_plain.Goals as goal

pub returns-then-is_none : goal.returns-then-is_none
returns-then-is_none c =
    let s = c.sites_of.ensures.count in
    plain_type c.args.setting.now.labels c.args.trust c.args.first (type_named (module_of c.args.setting.now) c.args.y) c.are_open.result (sym c.is_none.ensures ∙ c.if-is_none.true)
    (λ e i l. c.are_open.ensures.yes e i (omega (arith, l, s)))
    (λ e. let n = c.are_open.ensures.no e in let l = n.1 in (n.0, omega (arith, l, s), n.2))
