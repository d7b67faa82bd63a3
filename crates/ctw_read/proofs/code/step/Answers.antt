use Rattle.std.proofs.Common.{◌≡◌, true, ◌||◌, None, Some, ap, sym, ◌∙◌, Bool, ℕ, Option}
use Rattle.std.proofs.lemmas.Option.{none-some}
use Rattle.ctw_ops.specs.Plain.{is_plain_op, fits}
use Rattle.ctw_leb.specs.Input.{Input}
use Rattle.ctw_flat.specs.Instructions.{op_of}
use Rattle.ctw_form.specs.Read.{label_place}
use Rattle.ctw_form.proofs.CodeForms.{step_fits, step_labelled}
use Rattle.ctw_read.proofs.code.step.Goals as goal
use Rattle.ctw_read.proofs.code.step.Goals.{then-ct-via-then-ct, then-ct-via-else-ct+then-is_plain}

pub returns-then-ct : goal.returns-then-ct
returns-then-ct c =
    let op = op_of c.in-Ok.instr in
    let r = c.in-Ok.ensures.read in
    let fit : fits c.args.ct op ≡ true = elim c.then-ct.branch [
      | then-ct-via-then-ct w ↦ ap (λ (t : Bool). t || is_plain_op op) w.if-ct.true
      | then-ct-via-else-ct+then-is_plain w ↦
          ap (λ (t : Bool). t || is_plain_op op) w.if-ct.false ∙ sym w.is_plain.ensures ∙ w.if-is_plain.true
    ] in
    (op, step_fits c.args.ct c.args.nesting.now c.args.cursor.now c.step.new.cursor op r.0 fit, r.1)

-- an instruction that isn't plain has a label at the front
pub unreachable-requires : goal.unreachable-requires
unreachable-requires c =
    let op = op_of c.in-Ok.instr in
    let l = step_labelled c.args.nesting.now c.args.cursor.now c.step.new.cursor op c.in-Ok.ensures.read.0 (sym c.is_plain.ensures ∙ c.if-is_plain.false) in
    let here : label_place c.duplicate-front.result.at c.duplicate-front.result.rest ≡ Some l.0 =
    ap (λ (i : Input). label_place i.at i.rest) c.duplicate-front.ensures ∙ l.1 in
    let none : ◌≡◌ {A = Option ℕ} None (Some l.0) = sym c.in-None.is ∙ c.label_place.ensures ∙ here in
    none-some l.0 none
