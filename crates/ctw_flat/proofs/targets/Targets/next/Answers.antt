use Rattle.std.proofs.Common.{ℕ, List, drop, ◌-◌, sym, ap, subst, ◌∙◌, arith}
use Rattle.ctw_leb.specs.Grammar.{Times}
use Rattle.ctw_leb.specs.Numbers.{IsU32}
use Rattle.ctw_flat.specs.Instructions.{targets_in}
use Rattle.ctw_flat.proofs.TargetBytes.{first_target}
use Rattle.ctw_flat.proofs.targets.Targets.next.Goals as goal

pub invariant_of-self : goal.invariant_of-self
invariant_of-self c =
    let f = first_target c.self.inside.left (c.self.inside.left - 1) c.self.inside.rest.now (omega (arith, c.if-self-eq0.false)) c.self.invariant in
    let q = c.in-Some.ensures.found f.text f.after f.target f.number f.spelled in
    subst (λ (l : List ℕ). Times IsU32 (c.self.inside.left - 1) l (targets_in (c.self.inside.left - 1) l)) (sym q.1.1) f.behind

pub returns-clause-left : goal.returns-clause-left
returns-clause-left c =
    let f = first_target c.self.inside.left (c.self.inside.left - 1) c.self.inside.rest.now (omega (arith, c.if-self-eq0.false)) c.self.invariant in
    let q = c.in-Some.ensures.found f.text f.after f.target f.number f.spelled in
    ap (targets_in (c.self.inside.left - 1)) q.1.1 ∙ ap (drop 1) (sym f.all) ∙ ap (drop 1) c.self.view_is
