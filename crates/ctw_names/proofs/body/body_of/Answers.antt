use Rattle.std.proofs.Common.{◌≡◌, ◌+◌, ◌∷◌, [], drop, ap, sym, ◌∙◌}
use Rattle.std.proofs.lemmas.List.{drop_more}
use Rattle.ctw_text.specs.declared.fields.Raw.{Raw}
use Rattle.ctw_text.specs.Names.{Scope, body_faults, ops_of}
use Rattle.ctw_names.specs.Noted.{noted}
use Rattle.ctw_names.specs.Spaces.{space_in}
use Rattle.ctw_names.proofs.Bodies.{faults_then, ops_then}
use Rattle.ctw_names.proofs.body.body_of.Goals as goal

pub instructions-preserved : goal.instructions-preserved
instructions-preserved c =
    let s : Scope = record { space = space_in c.args.space.now; locals = c.args.locals.now } in
    let all = c.as_slice-raw-items.result.now in
    let i = c.instructions.raw-index in
    let raw = c.raw-item.result in
    let rest = drop (i + 1) all in
    let split : drop i all ≡ raw ∷ rest = drop_more all i raw c.instructions-test.true ∙ ap (λ (r : Raw). r ∷ rest) (sym c.raw-item.is) in
    let labels = c.instructions.labels in
    let after = c.step.new.labels in (
      ops_then s raw labels after c.in_ok-step.ensures.labels rest (drop i all) split c.instructions.ops.items c.push.new.self.items c.in_ok-step.field-0 (ops_of s [] all) c.in_ok-step.ensures.op
          c.in_ok-push.ensures.items c.instructions.invariant.0,
      faults_then s raw labels after c.in_ok-step.ensures.labels rest (drop i all) split c.instructions.faults c.step.new.faults (noted c.args.faults.now (body_faults s [] all)) c.in_ok-step.ensures.faults
          c.instructions.invariant.1,
    )
