use Rattle.std.proofs.Common.{◌≡◌, drop, ℕ, List, length, map, sym, ap, ◌∙◌, refl, arith}
use Rattle.std.proofs.lemmas.List.{length-map}
use Rattle.std.proofs.lemmas.Option.{same_Some}
use Rattle.ctw_ops.specs.declared.types.Label.{Label}
use Rattle.ctw_ops.specs.Types.{FunctionType, byte_types}
use Rattle.ctw_semantics.specs.Instances.{FunctionInstance}
use Rattle.ctw_semantics.specs.Sound.{shape_of}
use Rattle.ctw_moves.specs.Arguments.{arg_values}
use Rattle.ctw_step.specs.Stands.{number_of}
use Rattle.ctw_session.proofs.Acting.{sound_here, functions_here}
use Rattle.ctw_session.proofs.Beginning.{values_count, busy, short, begin_acts, values, values_typed_here, values_are, light}
use Rattle.ctw_session.proofs.live.Live.begin.Goals as goal

pub returns-then-is_held-clause-plays : goal.returns-then-is_held-clause-plays
returns-then-is_held-clause-plays c = λ s events st.
    let leads = c.in-Some.ensures.ty in
    let same = ap (λ (t : FunctionType Label). t.params) (leads.2 ∙ sym c.ty.view_is) in
    busy c.args.self.now s st c.args.slot c.args.part.now c.args.export.now c.args.args.now c.in-Some.function.number leads.0 c.in-Some.ensures.number leads.1 (byte_types c.ty.inside.params.now) same events
    (sym c.args_fit.ensures ∙ c.if-not-args_fit.false) (sym c.is_held.ensures ∙ c.if-is_held.true)

pub returns-then-rest-taken-clause-plays : goal.returns-then-rest-taken-clause-plays
returns-then-rest-taken-clause-plays c = λ s events st.
    let leads = c.in-Some.ensures.ty in
    let same = ap (λ (t : FunctionType Label). t.params) (leads.2 ∙ sym c.ty.view_is) in
    short c.args.self.now s st c.args.slot c.args.part.now c.args.export.now c.args.args.now c.in-Some.function.number leads.0 c.in-Some.ensures.number leads.1 (byte_types c.ty.inside.params.now) same events
    (sym c.args_fit.ensures ∙ c.if-not-args_fit.false) (sym c.is_held.ensures ∙ c.if-is_held.false) (omega (arith, ap length c.rest.ensures, c.args_take-taken.ensures, c.if-rest-taken.true))

pub enter-requires-clause-args : goal.enter-requires-clause-args
enter-requires-clause-args c = λ fn e.
    let leads = c.in-Some.ensures.ty in
    let same = ap (λ (t : FunctionType Label). t.params) (leads.2 ∙ sym c.ty.view_is) in
    let this : leads.0 ≡ fn = same_Some leads.0 fn (sym leads.1 ∙ e) in
    ap length c.deref.ensures.value
    ∙ (ap length c.in_ok-numbers.ensures ∙ (length-map (arg_values (byte_types c.ty.inside.params.now) c.args.args.now c.rest-2.result.now) number_of
    ∙ (values_count (byte_types c.ty.inside.params.now) c.args.args.now c.rest-2.result.now (sym c.args_fit.ensures ∙ c.if-not-args_fit.false)
    ∙ (ap length (sym same) ∙ ap (λ (f : FunctionInstance). length f.type.params) this))))

pub returns-clause-plays : goal.returns-clause-plays
returns-clause-plays c = λ s events st.
    let l = c.args.self.now in
    let leads = c.in-Some.ensures.ty in
    let same = ap (λ (t : FunctionType Label). t.params) (leads.2 ∙ sym c.ty.view_is) in
    let ts = byte_types c.ty.inside.params.now in
    let n = c.in-Some.function.number in
    let fit = sym c.args_fit.ensures ∙ c.if-not-args_fit.false in
    let numbers = c.deref.ensures.value ∙ (c.in_ok-numbers.ensures ∙ ap (λ (v : List ℕ). map number_of (arg_values ts c.args.args.now v)) c.rest-2.ensures) in
    let standing = c.in_ok-call.ensures.sound (shape_of s.storage) s.storage leads.0 (values l s st c.args.slot c.args.part.now c.args.export.now c.args.args.now n leads.0 c.in-Some.ensures.number leads.1 ts same) (functions_here l s st) (sound_here l s st) leads.1
    (values_typed_here l s st c.args.slot c.args.part.now c.args.export.now c.args.args.now n leads.0 c.in-Some.ensures.number leads.1 ts same fit)
    (values_are l s st c.args.slot c.args.part.now c.args.export.now c.args.args.now n leads.0 c.in-Some.ensures.number leads.1 ts same c.deref.result.now numbers)
    (light l s st c.args.slot c.args.part.now c.args.export.now c.args.args.now n leads.0 c.in-Some.ensures.number leads.1 ts same) in
    begin_acts l s st c.args.slot c.args.part.now c.args.export.now c.args.args.now n leads.0 c.in-Some.ensures.number leads.1 ts same _ c.in_ok-call.call events fit
    (sym c.is_held.ensures ∙ c.if-is_held.false) (omega (arith, ap length c.rest.ensures, c.args_take-taken.ensures, c.if-rest-taken.false)) standing
    refl refl (c.skip.ensures ∙ ap (λ (k : ℕ). drop k l.vault) c.args_take-taken.ensures) refl c.ty.inside.result
    (ap (λ (t : FunctionType Label). t.result) (leads.2 ∙ sym c.ty.view_is)) c.put_slot.ensures
