use Rattle.std.proofs.Common.{ℕ, ◌+◌, ◌-◌, drop, ap, sym, ◌∙◌}
use Rattle.std.proofs.lemmas.List.{drop_more}
use Rattle.ctw_text.specs.Names.{last_with}
use Rattle.ctw_names.proofs.Places.{last_out, last_then}
use Rattle.ctw_names.proofs.customs.last_with.Goals as goal

pub returns-then-at-has : goal.returns-then-at-has
returns-then-at-has c =
    sym (last_out (c.args.n - c.sections.at) (c.sections.at + 1) c.sections.at c.sections.last c.args.has.now c.if-at-has.true) ∙ c.sections.invariant

pub sections-preserved : goal.sections-preserved
sections-preserved c =
    let has = c.args.has.now in
    let at = c.sections.at in
    ap (λ (l : ℕ). last_with (c.args.n - (at + 1)) (at + 1 + 1) l (drop (at + 1) has)) c.choose-last.ensures
    ∙ last_then c.args.n at c.sections.last has _ c.sections-test.true (drop_more has at _ c.if-at-has.false) ∙ c.sections.invariant
