use Rattle.std.proofs.Common.{◌≤◌, ◌++◌, ℕ, List, Option, Some, slice_get, slice_set, sym, ap, ◌∙◌, refl, subst, arith}
use Rattle.ctw_semantics.specs.Sound.{shape_of}
use Rattle.ctw_moves.specs.Moves.{sealed_result}
use Rattle.ctw_moves.specs.States.{Played}
use Rattle.ctw_step.specs.declared.turning.Turned.{Turned}
use Rattle.ctw_step.specs.Turning.{TurnTells}
use Rattle.ctw_session.specs.Flat.{flat}
use Rattle.ctw_session.specs.declared.slots.Slot.{Slot}
use Rattle.ctw_session.proofs.Acting.{free_acts, long_acts, none_taken, can_step, here, standing_here, the_turn, more_acts, trap_acts, done_acts, goes_on, told, some_there}
use Rattle.ctw_session.proofs.live.Live.turn_slot.Goals as goal

pub returns-then-not-is_held-clause-plays : goal.returns-then-not-is_held-clause-plays
returns-then-not-is_held-clause-plays c = λ s st. free_acts c.args.self.now s st c.args.slot _ c.args.events.now.items (sym c.is_held.ensures ∙ c.if-not-is_held.true)

pub returns-then-steps-gt1000000-clause-plays : goal.returns-then-steps-gt1000000-clause-plays
returns-then-steps-gt1000000-clause-plays c = λ s st. long_acts c.args.self.now s st c.args.slot c.args.steps c.args.events.now.items (sym c.is_held.ensures ∙ c.if-not-is_held.false) c.if-steps-gt1000000.true

pub returns-then-is_err-clause-plays : goal.returns-then-is_err-clause-plays
returns-then-is_err-clause-plays c = λ s st.
    let x = some_there (flat (slice_get c.args.self.now.slots.items c.args.slot)) (sym c.is_held.ensures ∙ c.if-not-is_held.false) in
    let n = none_taken c.args.self.now s st c.args.slot x.0 x.1 _ c.args.events.now.items refl refl refl c.reserve.ensures.items refl in
    (omega arith, n.0, n.1)

pub turn-requires : goal.turn-requires
turn-requires c = can_step c.args.self.now c.requires.0 c.requires.1 c.args.slot c.in-Some.held (sym c.take_slot.ensures.taken ∙ c.in-Some.is)

pub returns-in-Ok-More-clause-plays : goal.returns-in-Ok-More-clause-plays
returns-in-Ok-More-clause-plays c = λ s st.
    let l = c.args.self.now in
    let x = c.in-Some.held in
    let e = sym c.take_slot.ensures.taken ∙ c.in-Some.is in
    let le = c.if-steps-gt1000000.false in
    let tells = subst (λ (r : Turned). TurnTells l.set (shape_of s.storage) x.result c.args.steps (the_turn l s st c.args.slot x e c.args.steps le) r c.turn.new.store.storage c.turn.new.act c.args.events.now.items c.turn.new.events.items) c.in-Ok-More.field-0-is
    (c.in-Ok-More.ensures.does (shape_of s.storage) x.result (here l s st c.args.slot x e).activation (standing_here l s st c.args.slot x e)) in
    more_acts l s st c.args.slot x e c.args.steps le _ c.turn.new.act c.args.events.now.items c.turn.new.events.items tells refl refl c.reserve.ensures.items
    (c.put_slot.ensures ∙ ap (λ (cs : List (Option Slot)). slice_set cs c.args.slot (Some (record { call = c.turn.new.act; result = x.result }))) c.take_slot.ensures.rest)

pub returns-in-Ok-Trapped-clause-plays : goal.returns-in-Ok-Trapped-clause-plays
returns-in-Ok-Trapped-clause-plays c = λ s st.
    let l = c.args.self.now in
    let x = c.in-Some.held in
    let e = sym c.take_slot.ensures.taken ∙ c.in-Some.is in
    let le = c.if-steps-gt1000000.false in
    let tells = subst (λ (r : Turned). TurnTells l.set (shape_of s.storage) x.result c.args.steps (the_turn l s st c.args.slot x e c.args.steps le) r c.turn.new.store.storage c.turn.new.act c.args.events.now.items c.turn.new.events.items) c.in-Ok-Trapped.field-0-is
    (c.in-Ok-Trapped.ensures.does (shape_of s.storage) x.result (here l s st c.args.slot x e).activation (standing_here l s st c.args.slot x e)) in
    trap_acts l s st c.args.slot x e c.args.steps le _ c.turn.new.act _ _ c.args.events.now.items c.turn.new.events.items tells refl refl c.reserve.ensures.items c.take_slot.ensures.rest

pub returns-in-Ok-Ended-clause-plays : goal.returns-in-Ok-Ended-clause-plays
returns-in-Ok-Ended-clause-plays c = λ s st.
    let l = c.args.self.now in
    let x = c.in-Some.held in
    let e = sym c.take_slot.ensures.taken ∙ c.in-Some.is in
    let le = c.if-steps-gt1000000.false in
    let tells = subst (λ (r : Turned). TurnTells l.set (shape_of s.storage) x.result c.args.steps (the_turn l s st c.args.slot x e c.args.steps le) r c.turn.new.store.storage c.turn.new.act c.args.events.now.items c.turn.new.events.items) c.in-Ok-Ended.field-0-is
    (c.in-Ok-Ended.ensures.does (shape_of s.storage) x.result (here l s st c.args.slot x e).activation (standing_here l s st c.args.slot x e)) in
    done_acts l s st c.args.slot x e c.args.steps le _ c.turn.new.act _ c.in-Ok-Ended.value c.show-result.result c.args.events.now.items c.turn.new.events.items tells refl refl
    c.show-result.ensures.shown (λ v t q. c.show-result.ensures.sealed v t q ∙ ap (λ (k : List ℕ). k ++ sealed_result v) c.reserve.ensures.items) c.take_slot.ensures.rest

pub returns-in-Err-clause-plays : goal.returns-in-Err-clause-plays
returns-in-Err-clause-plays c = λ s st.
    let l = c.args.self.now in
    let x = c.in-Some.held in
    let e = sym c.take_slot.ensures.taken ∙ c.in-Some.is in
    let tells = c.in-Err.ensures.does (shape_of s.storage) x.result (here l s st c.args.slot x e).activation (standing_here l s st c.args.slot x e) in
    let le : c.in-Err.field-0.steps ≤ 1000000 = omega (arith, tells.0, c.if-steps-gt1000000.false) in (
      tells.0,
      tells.1.events ∙ ap (λ (p : Played). c.args.events.now.items ++ p.events) (sym (told l s st c.args.slot x e c.in-Err.field-0.steps le)),
      goes_on l s st c.args.slot x e c.in-Err.field-0.steps le _ c.turn.new.act _ _ _ tells.1 refl refl c.reserve.ensures.items
          (c.put_slot-in-Err.ensures ∙ ap (λ (cs : List (Option Slot)). slice_set cs c.args.slot (Some (record { call = c.turn.new.act; result = x.result }))) c.take_slot.ensures.rest),
    )
