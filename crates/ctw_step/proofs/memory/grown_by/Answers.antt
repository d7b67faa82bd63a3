use Rattle.std.proofs.Common.{ℕ, Bool, Option, Ok, sym, ap, ◌∙◌, subst}
use Rattle.std.specs.Prelude.{if◌then◌else◌}
use Rattle.ctw_semantics.specs.Stores.{pages, with_bytes, grown}
use Rattle.ctw_store.specs.Answers.{Grows}
use Rattle.ctw_step.proofs.Room.{on_err}
use Rattle.ctw_step.proofs.memory.grown_by.Goals as goal

pub returns-in_err-before-clause-grew : goal.returns-in_err-before-clause-grew
returns-in_err-before-clause-grew c = on_err c.from_residual.result _ _ c.from_residual.ensures.0 (λ x m e. (c.in_err-before.ensures.answer m e).1)

pub returns-in-Some-clause-grew : goal.returns-in-Some-clause-grew
returns-in-Some-clause-grew c = λ m e.
    let o = subst (λ (o : Option ℕ). Grows c.args.store.now.storage c.args.mem m c.args.pages (Ok o) c.grow.new.self.storage) c.in-Some.is (c.in_ok-before.ensures.answer m e) in
    (o.1 ∙ ap (λ (b : Bool). if b then pages m else 4294967295) (sym o.0), o.2 ∙ ap (λ (b : Bool). if b then with_bytes c.args.store.now.storage c.args.mem m (grown m c.args.pages) else c.args.store.now.storage) (sym o.0))

pub returns-in-None-clause-grew : goal.returns-in-None-clause-grew
returns-in-None-clause-grew c = λ m e.
    let o = subst (λ (o : Option ℕ). Grows c.args.store.now.storage c.args.mem m c.args.pages (Ok o) c.grow.new.self.storage) c.in-None.is (c.in_ok-before.ensures.answer m e) in
    (ap (λ (b : Bool). if b then pages m else 4294967295) (sym o.0), o.1 ∙ ap (λ (b : Bool). if b then with_bytes c.args.store.now.storage c.args.mem m (grown m c.args.pages) else c.args.store.now.storage) (sym o.0))
