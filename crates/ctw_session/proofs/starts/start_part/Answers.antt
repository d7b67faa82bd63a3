use Rattle.std.proofs.Common.{◌≡◌, List, [], length, Some, None, sym, ap, ◌∙◌, refl, subst}
use Rattle.std.proofs.lemmas.Option.{same_Some}
use Rattle.ctw_semantics.specs.Instances.{FunctionInstance}
use Rattle.ctw_step.specs.declared.turning.Turned.{Turned}
use Rattle.ctw_step.specs.Turning.{TurnTells}
use Rattle.ctw_script.specs.declared.event.Event.{Event}
use Rattle.ctw_semantics.specs.Machine.{begun}
use Rattle.ctw_launch.specs.Launched.{StartTrapped, StartUnfinished}
use Rattle.ctw_session.proofs.StartsOf.{part_here, named, start_is, functions_sound, start_of, has_function, the_turn, no_types, ended, trapped, unfinished, no_start, some_linked}
use Rattle.ctw_session.proofs.starts.start_part.Goals as goal

pub returns-in_default : goal.returns-in_default
returns-in_default c = λ shape p h there.
    let set = c.args.set.now in
    let at = part_here c.parts.result.now set c.args.part c.index-parts-part.result c.parts.ensures.value c.requires.part in
    (h, no_start set p c.args.steps c.args.store.now.storage (start_is set c.parts.ensures.linked c.parts.ensures.matching c.parts.ensures.limits shape _ h c.args.part _ at p there None c.in_default.ensures))

pub func-func-requires : goal.func-func-requires
func-func-requires c =
    let set = c.args.set.now in
    let at = part_here c.parts.result.now set c.args.part c.index-parts-part.result c.parts.ensures.value c.requires.part in
    let p = some_linked set c.args.part c.requires.part in
    has_function set c.parts.ensures.linked c.parts.ensures.matching c.parts.ensures.limits c.requires.store.0 _ c.requires.store.1 c.args.part _ at p.0 p.1 c.in-Some.index c.in-Some.ensures

pub enter-requires-clause-args : goal.enter-requires-clause-args
enter-requires-clause-args c = λ fn e.
    let set = c.args.set.now in
    let old = c.args.store.now.storage in
    let at = part_here c.parts.result.now set c.args.part c.index-parts-part.result c.parts.ensures.value c.requires.part in
    let p = some_linked set c.args.part c.requires.part in
    let start = start_is set c.parts.ensures.linked c.parts.ensures.matching c.parts.ensures.limits c.requires.store.0 old c.requires.store.1 c.args.part _ at p.0 p.1 (Some c.in-Some.index) c.in-Some.ensures in
    let x = start_of set c.parts.ensures.linked c.parts.ensures.matching c.parts.ensures.limits c.requires.store.0 old c.requires.store.1 c.args.part _ at p.0 p.1 c.in-Some.index c.func-func.result start c.func-func.ensures.number in
    let same : x.fn ≡ fn = same_Some x.fn fn (sym x.found ∙ e) in
    ap length (sym x.params) ∙ ap (λ (f : FunctionInstance). length f.type.params) same

pub turn-requires : goal.turn-requires
turn-requires c =
    let set = c.args.set.now in
    let old = c.args.store.now.storage in
    let at = part_here c.parts.result.now set c.args.part c.index-parts-part.result c.parts.ensures.value c.requires.part in
    let p = some_linked set c.args.part c.requires.part in
    let start = start_is set c.parts.ensures.linked c.parts.ensures.matching c.parts.ensures.limits c.requires.store.0 old c.requires.store.1 c.args.part _ at p.0 p.1 (Some c.in-Some.index) c.in-Some.ensures in
    let x = start_of set c.parts.ensures.linked c.parts.ensures.matching c.parts.ensures.limits c.requires.store.0 old c.requires.store.1 c.args.part _ at p.0 p.1 c.in-Some.index c.func-func.result start c.func-func.ensures.number in
    let shape = c.requires.store.0 in
    let h = c.requires.store.1 in
    record {
      shape = shape;
      last = x.fn.type.result;
      activation = begun c.func-func.result x.fn [];
      standing = c.in-Ok.ensures.sound shape old x.fn [] (functions_sound set c.parts.ensures.linked c.parts.ensures.matching c.parts.ensures.limits shape old h c.args.part _ at p.0 p.1) h.storage x.found (no_types set p.0 c.in-Some.index c.func-func.result c.args.steps x old) refl x.light;
    }

pub returns-in-Ok-More : goal.returns-in-Ok-More
returns-in-Ok-More c = λ shape p h there.
    let set = c.args.set.now in
    let old = c.args.store.now.storage in
    let at = part_here c.parts.result.now set c.args.part c.index-parts-part.result c.parts.ensures.value c.requires.part in
    let start = start_is set c.parts.ensures.linked c.parts.ensures.matching c.parts.ensures.limits shape old h c.args.part _ at p there (Some c.in-Some.index) c.in-Some.ensures in
    let x = start_of set c.parts.ensures.linked c.parts.ensures.matching c.parts.ensures.limits shape old h c.args.part _ at p there c.in-Some.index c.func-func.result start c.func-func.ensures.number in
    let standing = c.in-Ok.ensures.sound shape old x.fn [] (functions_sound set c.parts.ensures.linked c.parts.ensures.matching c.parts.ensures.limits shape old h c.args.part _ at p there) h.storage x.found (no_types set p c.in-Some.index c.func-func.result c.args.steps x old) refl x.light in
    let tells = subst (λ (r : Turned). TurnTells set shape x.fn.type.result c.args.steps (the_turn set p c.in-Some.index c.func-func.result c.args.steps x old) r c.turn.new.store.storage c.turn.new.act [] c.turn.new.events.items) c.in-Ok-More.field-0-is
    (subst (λ (before : List Event). TurnTells set shape x.fn.type.result c.args.steps (the_turn set p c.in-Some.index c.func-func.result c.args.steps x old) c.in-Ok-More.field-0 c.turn.new.store.storage c.turn.new.act before c.turn.new.events.items) c.new-events.ensures.items
    (c.in-Ok-More.ensures.does shape x.fn.type.result (begun c.func-func.result x.fn []) standing)) in
    (StartUnfinished p.name, named set c.parts.ensures.linked c.parts.ensures.matching c.parts.ensures.limits shape old h c.args.part _ at p there, unfinished set p c.in-Some.index c.func-func.result c.args.steps x old tells.left tells.running)

pub returns-in-Ok-Ended : goal.returns-in-Ok-Ended
returns-in-Ok-Ended c = λ shape p h there.
    let set = c.args.set.now in
    let old = c.args.store.now.storage in
    let at = part_here c.parts.result.now set c.args.part c.index-parts-part.result c.parts.ensures.value c.requires.part in
    let start = start_is set c.parts.ensures.linked c.parts.ensures.matching c.parts.ensures.limits shape old h c.args.part _ at p there (Some c.in-Some.index) c.in-Some.ensures in
    let x = start_of set c.parts.ensures.linked c.parts.ensures.matching c.parts.ensures.limits shape old h c.args.part _ at p there c.in-Some.index c.func-func.result start c.func-func.ensures.number in
    let standing = c.in-Ok.ensures.sound shape old x.fn [] (functions_sound set c.parts.ensures.linked c.parts.ensures.matching c.parts.ensures.limits shape old h c.args.part _ at p there) h.storage x.found (no_types set p c.in-Some.index c.func-func.result c.args.steps x old) refl x.light in
    let tells = subst (λ (r : Turned). TurnTells set shape x.fn.type.result c.args.steps (the_turn set p c.in-Some.index c.func-func.result c.args.steps x old) r c.turn.new.store.storage c.turn.new.act [] c.turn.new.events.items) c.in-Ok-Ended.field-0-is
    (subst (λ (before : List Event). TurnTells set shape x.fn.type.result c.args.steps (the_turn set p c.in-Some.index c.func-func.result c.args.steps x old) c.in-Ok-Ended.field-0 c.turn.new.store.storage c.turn.new.act before c.turn.new.events.items) c.new-events.ensures.items
    (c.in-Ok-Ended.ensures.does shape x.fn.type.result (begun c.func-func.result x.fn []) standing)) in
    (record { declared = h.declared; storage = c.in-Ok-Ended.ensures.sound shape x.fn.type.result (begun c.func-func.result x.fn []) standing }, ended set p c.in-Some.index c.func-func.result c.args.steps x old tells.0 _ tells.1 tells.4)

pub returns-in-Ok-Trapped : goal.returns-in-Ok-Trapped
returns-in-Ok-Trapped c = λ shape p h there.
    let set = c.args.set.now in
    let old = c.args.store.now.storage in
    let at = part_here c.parts.result.now set c.args.part c.index-parts-part.result c.parts.ensures.value c.requires.part in
    let start = start_is set c.parts.ensures.linked c.parts.ensures.matching c.parts.ensures.limits shape old h c.args.part _ at p there (Some c.in-Some.index) c.in-Some.ensures in
    let x = start_of set c.parts.ensures.linked c.parts.ensures.matching c.parts.ensures.limits shape old h c.args.part _ at p there c.in-Some.index c.func-func.result start c.func-func.ensures.number in
    let standing = c.in-Ok.ensures.sound shape old x.fn [] (functions_sound set c.parts.ensures.linked c.parts.ensures.matching c.parts.ensures.limits shape old h c.args.part _ at p there) h.storage x.found (no_types set p c.in-Some.index c.func-func.result c.args.steps x old) refl x.light in
    let tells = subst (λ (r : Turned). TurnTells set shape x.fn.type.result c.args.steps (the_turn set p c.in-Some.index c.func-func.result c.args.steps x old) r c.turn.new.store.storage c.turn.new.act [] c.turn.new.events.items) c.in-Ok-Trapped.field-0-is
    (subst (λ (before : List Event). TurnTells set shape x.fn.type.result c.args.steps (the_turn set p c.in-Some.index c.func-func.result c.args.steps x old) c.in-Ok-Trapped.field-0 c.turn.new.store.storage c.turn.new.act before c.turn.new.events.items) c.new-events.ensures.items
    (c.in-Ok-Trapped.ensures.does shape x.fn.type.result (begun c.func-func.result x.fn []) standing)) in
    (StartTrapped p.name _, (named set c.parts.ensures.linked c.parts.ensures.matching c.parts.ensures.limits shape old h c.args.part _ at p there, refl), trapped set p c.in-Some.index c.func-func.result c.args.steps x old _ tells.0)
