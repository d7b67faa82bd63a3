-- A call that begins in a slot.
use Rattle.std.proofs.Common.{◌≡◌, ◌≤◌, ◌<◌, ℕ, suc, ◌+◌, Bool, true, false, ◌&&◌, List, [], ◌∷◌, length, map, drop, Option, Some, None, is_some, is_none, slice_get, slice_set, refl, sym, ap, ap₂, ◌∙◌, subst, nat_le, le-leb, append-nil}
use Rattle.std.specs.List.{AllZip}
use Rattle.std.proofs.lemmas.Bool.{lt-leb, false≢true}
use Rattle.ctw_ops.specs.declared.types.ExternTag.TheVariants as tag
use Rattle.ctw_ops.specs.declared.types.Label.{Label}
use Rattle.ctw_ops.specs.Types.{ValueType}
use Rattle.ctw_ops.specs.Limits.{most_weight}
use Rattle.ctw_ops.proofs.Lists.{all_get}
use Rattle.ctw_script.specs.declared.event.Event.{Event}
use Rattle.ctw_script.specs.declared.moves.Arg.{Arg}
use Rattle.ctw_script.specs.declared.moves.Move.TheVariants.{Begin}
use Rattle.ctw_script.specs.declared.reply.Refusal.TheVariants.{NoExport, BadArgs, SlotBusy, VaultShort}
use Rattle.ctw_script.specs.declared.reply.Reply.TheVariants.{Began, Refused}
use Rattle.ctw_semantics.specs.Values.{Value}
use Rattle.ctw_semantics.specs.Instances.{FunctionInstance}
use Rattle.ctw_semantics.specs.Machine.{begun}
use Rattle.ctw_semantics.specs.Sound.{HasTypes, shape_of}
use Rattle.ctw_link.specs.Exports.{exported}
use Rattle.ctw_launch.proofs.SoundLaunch.{IsLight, all_light}
use Rattle.ctw_step.specs.Shown as Shows
use Rattle.ctw_step.specs.Stands.{number_of}
use Rattle.ctw_step.specs.Stepping.{Standing}
use Rattle.ctw_moves.specs.States.{State, Played, in_slot, with_slot, without, answered, found, checked}
use Rattle.ctw_moves.specs.Arguments.{arg_fits, args_fit, arg_takes, args_take, arg_values}
use Rattle.ctw_moves.specs.Moves.{begin_call, play}
use Rattle.ctw_moves.specs.SoundStates.{SoundState}
use Rattle.ctw_moves.proofs.SoundMoves.{play_sound}
use Rattle.ctw_moves.proofs.SoundMoves as SoundMoves
use Rattle.ctw_session.specs.declared.slots.Slot.{Slot}
use Rattle.ctw_session.specs.declared.live.Live.{Live}
use Rattle.ctw_session.specs.Flat.{flat}
use Rattle.ctw_session.specs.LiveStates.{SlotStands, StandsFor, Acts}
use Rattle.ctw_session.proofs.Acting.{set, fns, slots_set, stands_again, refused_acts, here, some_there, free_here}

both_true : (a b : Bool) → (a && b) ≡ true → (a ≡ true) × (b ≡ true)
both_true true b e = (refl, e)
both_true false b e = absurd (false≢true e)

pub values_count : (ts : List (ValueType Label)) (args : List Arg) (vault : List ℕ) → args_fit ts args ≡ true → length (arg_values ts args vault) ≡ length ts
values_count [] [] vault e = refl
values_count [] (a ∷ args) vault e = absurd (false≢true e)
values_count (t ∷ ts) [] vault e = absurd (false≢true e)
values_count (t ∷ ts) (a ∷ args) vault e = ap suc (values_count ts args (drop (arg_takes t a) vault) (both_true (arg_fits t a) (args_fit ts args) e).1)

module _ (l : Live) (s : State) (st : StandsFor l s) (slot : ℕ) (part export : List ℕ) (args : List Arg) where
  pub nothing_exported : (ev : List Event) → None ≡ exported tag.Func (set l s st) part export → Acts (play (set l s st) s (Begin slot part export args)) (Refused NoExport) l ev ev
  nothing_exported ev e = refused_acts l s st _ NoExport ev (ap (λ (o : Option ℕ). found NoExport s o (λ n. found NoExport s (slice_get (fns l s st) n) (begin_call (set l s st) s slot args n))) (sym e))

  module _ (n : ℕ) (fn : FunctionInstance) (e : Some n ≡ exported tag.Func (set l s st) part export) (there : slice_get (fns l s st) n ≡ Some fn) (ts : List (ValueType Label)) (same : fn.type.params ≡ ts) where
    goes : play (set l s st) s (Begin slot part export args) ≡ begin_call (set l s st) s slot args n fn
    goes =
        ap (λ (o : Option ℕ). found NoExport s o (λ n. found NoExport s (slice_get (fns l s st) n) (begin_call (set l s st) s slot args n))) (sym e)
        ∙ ap (λ (o : Option FunctionInstance). found NoExport s o (begin_call (set l s st) s slot args n)) there

    abbrev begins : Played
    begins = answered Began (with_slot (without (args_take fn.type.params args) s) slot (Some (begun n fn (arg_values fn.type.params args s.vault))))

    to : (fit free enough : Bool) → args_fit ts args ≡ fit → is_none (in_slot s slot) ≡ free → nat_le (args_take ts args) (length s.vault) ≡ enough
        → play (set l s st) s (Begin slot part export args) ≡ checked BadArgs s fit (checked SlotBusy s free (checked VaultShort s enough begins))
    to fit free enough f g h =
        goes
        ∙ ap (λ (b : Bool). checked BadArgs s b (checked SlotBusy s (is_none (in_slot s slot)) (checked VaultShort s (nat_le (args_take fn.type.params args) (length s.vault)) begins))) (ap (λ (us : List (ValueType Label)). args_fit us args) same ∙ f)
        ∙ ap₂ (λ (a b : Bool). checked BadArgs s fit (checked SlotBusy s a (checked VaultShort s b begins))) g (ap (λ (us : List (ValueType Label)). nat_le (args_take us args) (length s.vault)) same ∙ h)

    pub bad_args : (ev : List Event) → args_fit ts args ≡ false → Acts (play (set l s st) s (Begin slot part export args)) (Refused BadArgs) l ev ev
    bad_args ev f = refused_acts l s st _ BadArgs ev (to false (is_none (in_slot s slot)) (nat_le (args_take ts args) (length s.vault)) f refl refl)

    pub busy : (ev : List Event) → args_fit ts args ≡ true → is_some (flat (slice_get l.slots.items slot)) ≡ true → Acts (play (set l s st) s (Begin slot part export args)) (Refused SlotBusy) l ev ev
    busy ev f g =
        let x = some_there (flat (slice_get l.slots.items slot)) g in
        refused_acts l s st _ SlotBusy ev (to true false (nat_le (args_take ts args) (length s.vault)) f (ap is_none (here l s st slot x.0 x.1).is) refl)

    free : is_some (flat (slice_get l.slots.items slot)) ≡ false → is_none (in_slot s slot) ≡ true
    free g = ap is_none (free_here l s st slot g)

    pub short : (ev : List Event) → args_fit ts args ≡ true → is_some (flat (slice_get l.slots.items slot)) ≡ false → length l.vault < args_take ts args → Acts (play (set l s st) s (Begin slot part export args)) (Refused VaultShort) l ev ev
    short ev f g lt =
        refused_acts l s st _ VaultShort ev (to true true false f (free g) (ap (λ (v : List ℕ). nat_le (args_take ts args) (length v)) (sym st.vault) ∙ lt-leb (args_take ts args) (length l.vault) lt))

    -- what the call begins with
    pub values : List Value
    values = arg_values fn.type.params args s.vault

    pub values_typed_here : args_fit ts args ≡ true → HasTypes fn.type.params values
    unfolding values
    values_typed_here f = SoundMoves.values_typed fn.type.params args s.vault (ap (λ (us : List (ValueType Label)). args_fit us args) same ∙ f)

    pub values_are : (numbers : List ℕ) → numbers ≡ map number_of (arg_values ts args l.vault) → map number_of values ≡ numbers
    unfolding values
    values_are numbers h = ap₂ (λ (us : List (ValueType Label)) (v : List ℕ). map number_of (arg_values us args v)) same (sym st.vault) ∙ sym h

    pub light : 1 + length fn.type.params + length fn.locals ≤ most_weight
    light = all_get IsLight (fns l s st) n fn (all_light (set l s st) st.sound.limits) there

    pub begin_acts : (l' : Live) (call : Shows.Shown) (ev : List Event) → args_fit ts args ≡ true → is_some (flat (slice_get l.slots.items slot)) ≡ false → args_take ts args ≤ length l.vault
        → Standing l.set s.storage call (shape_of s.storage) fn.type.result (begun n fn values)
        → l'.set ≡ l.set → l'.store.storage ≡ l.store.storage → l'.vault ≡ drop (args_take ts args) l.vault → l'.sealed.items ≡ l.sealed.items
        → (result : Option (ValueType Label)) → fn.type.result ≡ result → l'.slots.items ≡ slice_set l.slots.items slot (Some (record { call = call; result = result }))
        → Acts (play (set l s st) s (Begin slot part export args)) Began l' ev ev
    unfolding values
    begin_acts l' call ev f g le standing es et ev' ek result er ec =
        let q : play (set l s st) s (Begin slot part export args) ≡ begins = to true true true f (free g) (ap (λ (v : List ℕ). nat_le (args_take ts args) (length v)) (sym st.vault) ∙ le-leb (args_take ts args) (length l.vault) le) in
        let new : Slot = record { call = call; result = fn.type.result } in
        let slots : AllZip (SlotStands l.set (shape_of s.storage)) l'.slots.items (slice_set s.slots slot (Some (begun n fn (arg_values fn.type.params args s.vault)))) =
        subst (λ (cs : List (Option Slot)). AllZip (SlotStands l.set (shape_of s.storage)) cs (slice_set s.slots slot (Some (begun n fn (arg_values fn.type.params args s.vault)))))
        (sym (ec ∙ ap (λ (t : Option (ValueType Label)). slice_set l.slots.items slot (Some (record { call = call; result = t }))) (sym er)))
        (slots_set l.set (shape_of s.storage) l.slots.items s.slots slot (Some new) (Some (begun n fn (arg_values fn.type.params args s.vault))) st.slots (standing.call, standing.stands)) in
        subst (λ p. Acts p Began l' ev ev) (sym q) (record {
          reply = refl;
          events = sym (append-nil ev);
          stands = stands_again l l' begins.state es (subst (λ (p : Played). SoundState (set l s st) p.state) q (play_sound (set l s st) s st.sound (Begin slot part export args) tt)) (et ∙ st.storage) slots
              (ev' ∙ ap₂ (λ (us : List (ValueType Label)) (v : List ℕ). drop (args_take us args) v) (sym same) st.vault) (ek ∙ st.sealed);
        })
