-- What a session does in its slots is the move of each state that it stands for.
use Rattle.std.proofs.Common.{◌≡◌, ◌≤◌, ◌<◌, ℕ, zero, suc, true, false, List, [], ◌∷◌, ◌++◌, Option, Some, None, is_some, option_map, slice_get, slice_set, refl, sym, ap, ap₂, ◌∙◌, subst, nat_le, le-leb, append-nil, arith}
use Rattle.std.specs.List.{AllZip}
use Rattle.std.proofs.lemmas.Bool.{lt-leb}
use Rattle.std.proofs.lemmas.List.{set-set}
use Rattle.ctw_ops.specs.Typing.{optional}
use Rattle.ctw_ops.specs.Limits.{most_steps}
use Rattle.ctw_script.specs.declared.event.Event.{Event}
use Rattle.ctw_script.specs.declared.trap.TrapCode.{TrapCode}
use Rattle.ctw_script.specs.declared.moves.Move.TheVariants.{Turn, Leave}
use Rattle.ctw_script.specs.declared.reply.Shown.{Shown}
use Rattle.ctw_script.specs.declared.reply.Refusal.{Refusal}
use Rattle.ctw_script.specs.declared.reply.Refusal.TheVariants.{SlotFree, TurnTooLong}
use Rattle.ctw_script.specs.declared.reply.Reply.{Reply}
use Rattle.ctw_script.specs.declared.reply.Reply.TheVariants.{More, Done, Trap, Dropped, Refused}
use Rattle.ctw_semantics.specs.Values.{Value}
use Rattle.ctw_semantics.specs.Stores.{Storage}
use Rattle.ctw_semantics.specs.Instances.{Functions}
use Rattle.ctw_semantics.specs.Activations.{Activation}
use Rattle.ctw_semantics.specs.Steps as Steps
use Rattle.ctw_semantics.specs.Steps.{Left, Running, Finished, turn}
use Rattle.ctw_semantics.specs.Sound.{Shape, SoundSet, SoundStorage, SoundTurn, SoundLeft, HasTypes, shape_of}
use Rattle.ctw_semantics.proofs.SoundSteps.{turn_sound}
use Rattle.ctw_link.specs.declared.set.Part.{Part}
use Rattle.ctw_link.specs.Sets.{ModuleSet, set_of}
use Rattle.ctw_link.specs.SetInstances.{set_instances}
use Rattle.ctw_step.specs.declared.turning.Turned.TheVariants as Turneds
use Rattle.ctw_step.specs.Shown as Shows
use Rattle.ctw_step.specs.Stands.{number_of}
use Rattle.ctw_step.specs.Stepping.{Standing, CanStep}
use Rattle.ctw_step.specs.Turning.{GoesOn, TurnTells}
use Rattle.ctw_moves.specs.States.{State, Played, held, in_slot, with_slot, answered, refused, found, checked}
use Rattle.ctw_moves.specs.Moves.{play, turned, after_turn, stays, turn_reply, turn_sealed, shown_result, sealed_result}
use Rattle.ctw_moves.specs.SoundStates.{SoundState}
use Rattle.ctw_moves.proofs.SoundMoves.{functions_sound, play_sound}
use Rattle.ctw_session.specs.declared.slots.Slot.{Slot}
use Rattle.ctw_session.specs.declared.live.Live.{Live}
use Rattle.ctw_session.specs.Flat.{flat}
use Rattle.ctw_session.specs.LiveStates.{SlotStands, StandsFor, Acts}

-- ---- slots

slots_get : (parts : List Part) (shape : Shape) (cs : List (Option Slot)) (xs : List (Option Activation)) (i : ℕ) → AllZip (SlotStands parts shape) cs xs → SlotStands parts shape (flat (slice_get cs i)) (held (slice_get xs i))
slots_get parts shape [] [] i h = tt
slots_get parts shape [] (a ∷ xs) i h = absurd h
slots_get parts shape (c ∷ cs) [] i h = absurd h
slots_get parts shape (c ∷ cs) (a ∷ xs) zero h = h.0
slots_get parts shape (c ∷ cs) (a ∷ xs) (suc i) h = slots_get parts shape cs xs i h.1

pub slots_set : (parts : List Part) (shape : Shape) (cs : List (Option Slot)) (xs : List (Option Activation)) (i : ℕ) (c : Option Slot) (a : Option Activation) → AllZip (SlotStands parts shape) cs xs → SlotStands parts shape c a
    → AllZip (SlotStands parts shape) (slice_set cs i c) (slice_set xs i a)
slots_set parts shape [] [] i c a h k = tt
slots_set parts shape [] (b ∷ xs) i c a h k = absurd h
slots_set parts shape (d ∷ cs) [] i c a h k = absurd h
slots_set parts shape (d ∷ cs) (b ∷ xs) zero c a h k = (k, h.1)
slots_set parts shape (d ∷ cs) (b ∷ xs) (suc i) c a h k = (h.0, slots_set parts shape cs xs i c a h.1 k)

same_slot : (xs : List (Option Activation)) (i : ℕ) (a : Activation) → held (slice_get xs i) ≡ Some a → slice_set xs i (Some a) ≡ xs
same_slot [] i a e = refl
same_slot (x ∷ xs) zero a e = ap (λ (y : Option Activation). y ∷ xs) (sym e)
same_slot (x ∷ xs) (suc i) a e = ap (λ (l : List (Option Activation)). x ∷ l) (same_slot xs i a e)

free_is : (parts : List Part) (shape : Shape) (c : Option Slot) (a : Option Activation) → SlotStands parts shape c a → is_some c ≡ false → a ≡ None
free_is parts shape None None h e = refl
free_is parts shape None (Some a) h e = absurd h
free_is parts shape (Some c) a h e = cc

-- the activation that a held call stands for
pub record Holds (parts : List Part) (shape : Shape) (c : Slot) (a : Option Activation) : Type 0 where
  pub activation : Activation
  pub is : a ≡ Some activation
  pub stands : SlotStands parts shape (Some c) (Some activation)

holds : (parts : List Part) (shape : Shape) (c : Option Slot) (a : Option Activation) (x : Slot) → SlotStands parts shape c a → c ≡ Some x → Holds parts shape x a
holds parts shape None a x h e = cc
holds parts shape (Some c) None x h e = absurd h
holds parts shape (Some c) (Some a) x h e = subst (λ c. Holds parts shape c (Some a)) (the_slot c x e) (record { activation = a; is = refl; stands = h })
  where
    the_slot : (c d : Slot) → Some c ≡ Some d → c ≡ d
    the_slot c d e = cc

pub some_there : (o : Option Slot) → is_some o ≡ true → (c : Slot) × (o ≡ Some c)
some_there None e = cc
some_there (Some c) e = (c, refl)

-- ---- states

pub stands_again : (l l' : Live) (s : State) → l'.set ≡ l.set → SoundState (set_of l.set) s → l'.store.storage ≡ s.storage → AllZip (SlotStands l.set (shape_of s.storage)) l'.slots.items s.slots → l'.vault ≡ s.vault → l'.sealed.items ≡ s.sealed → StandsFor l' s
stands_again l l' s e sound storage slots vault sealed = record {
  sound = subst (λ (ps : List Part). SoundState (set_of ps) s) (sym e) sound;
  storage = storage;
  slots = subst (λ (ps : List Part). AllZip (SlotStands ps (shape_of s.storage)) l'.slots.items s.slots) (sym e) slots;
  vault = vault;
  sealed = sealed;
}

module _ (l : Live) (s : State) (st : StandsFor l s) where
  abbrev pub set : ModuleSet
  set = set_of l.set

  abbrev pub fns : Functions
  fns = set_instances (set_of l.set)

  pub sound_here : SoundStorage (shape_of s.storage) s.storage
  sound_here = subst (λ (x : Shape). SoundStorage x s.storage) (sym st.sound.storage.shaped) st.sound.storage

  pub functions_here : SoundSet fns (shape_of s.storage)
  functions_here = subst (SoundSet fns) (sym st.sound.storage.shaped) (functions_sound set s st.sound)

  -- a refused move
  pub refused_acts : (p : Played) (r : Refusal) (ev : List Event) → p ≡ refused r s → Acts p (Refused r) l ev ev
  refused_acts p r ev e = subst (λ p. Acts p (Refused r) l ev ev) (sym e) (record { reply = refl; events = sym (append-nil ev); stands = st })

  module _ (slot : ℕ) where
    pub free_acts : (go : Activation → Played) (ev : List Event) → is_some (flat (slice_get l.slots.items slot)) ≡ false → Acts (found SlotFree s (in_slot s slot) go) (Refused SlotFree) l ev ev
    free_acts go ev e =
        refused_acts _ SlotFree ev
        (ap (λ o. found SlotFree s o go) (free_is l.set (shape_of s.storage) (flat (slice_get l.slots.items slot)) (in_slot s slot) (slots_get l.set (shape_of s.storage) l.slots.items s.slots slot st.slots) e))

    pub free_here : is_some (flat (slice_get l.slots.items slot)) ≡ false → in_slot s slot ≡ None
    free_here e = free_is l.set (shape_of s.storage) (flat (slice_get l.slots.items slot)) (in_slot s slot) (slots_get l.set (shape_of s.storage) l.slots.items s.slots slot st.slots) e

    pub here : (x : Slot) → flat (slice_get l.slots.items slot) ≡ Some x → Holds l.set (shape_of s.storage) x (in_slot s slot)
    here x e = holds l.set (shape_of s.storage) (flat (slice_get l.slots.items slot)) (in_slot s slot) x (slots_get l.set (shape_of s.storage) l.slots.items s.slots slot st.slots) e

    pub leave_acts : (l' : Live) (ev : List Event) → is_some (flat (slice_get l.slots.items slot)) ≡ true → l'.set ≡ l.set → l'.store.storage ≡ l.store.storage → l'.vault ≡ l.vault → l'.sealed.items ≡ l.sealed.items → l'.slots.items ≡ slice_set l.slots.items slot None
        → Acts (play set s (Leave slot)) Dropped l' ev ev
    leave_acts l' ev e es et ev' ek ec =
        let c = some_there (flat (slice_get l.slots.items slot)) e in
        let a = here c.0 c.1 in
        let q : play set s (Leave slot) ≡ answered Dropped (with_slot s slot None) = ap (λ o. found SlotFree s o (λ a. answered Dropped (with_slot s slot None))) a.is in
        subst (λ p. Acts p Dropped l' ev ev) (sym q) (record {
          reply = refl;
          events = sym (append-nil ev);
          stands = stands_again l l' (with_slot s slot None) es (subst (λ (p : Played). SoundState set p.state) q (play_sound set s st.sound (Leave slot) tt)) (et ∙ st.storage)
              (subst (λ (cs : List (Option Slot)). AllZip (SlotStands l.set (shape_of s.storage)) cs (slice_set s.slots slot None)) (sym ec) (slots_set l.set (shape_of s.storage) l.slots.items s.slots slot None None st.slots tt))
              (ev' ∙ st.vault) (ek ∙ st.sealed);
        })

    pub long_acts : (steps : ℕ) (ev : List Event) → is_some (flat (slice_get l.slots.items slot)) ≡ true → 1000000 < steps → Acts (play set s (Turn slot steps)) (Refused TurnTooLong) l ev ev
    unfolding most_steps
    long_acts steps ev e lt =
        let c = some_there (flat (slice_get l.slots.items slot)) e in
        let a = here c.0 c.1 in
        refused_acts _ TurnTooLong ev
        (ap (λ o. found SlotFree s o (λ a. checked TurnTooLong s (nat_le steps most_steps) (turned s slot (turn steps fns s.storage a)))) a.is
        ∙ ap (λ b. checked TurnTooLong s b (turned s slot (turn steps fns s.storage a.activation))) (lt-leb steps most_steps lt))

    -- a turn of the call in the slot
    turn_is : (steps : ℕ) (a : Activation) → in_slot s slot ≡ Some a → steps ≤ 1000000 → play set s (Turn slot steps) ≡ turned s slot (turn steps fns s.storage a)
    unfolding most_steps
    turn_is steps a e le =
        ap (λ o. found SlotFree s o (λ a. checked TurnTooLong s (nat_le steps most_steps) (turned s slot (turn steps fns s.storage a)))) e
        ∙ ap (λ b. checked TurnTooLong s b (turned s slot (turn steps fns s.storage a))) (le-leb steps most_steps le)

    pub standing_here : (x : Slot) (e : flat (slice_get l.slots.items slot) ≡ Some x) → Standing l.set l.store.storage x.call (shape_of s.storage) x.result (here x e).activation
    standing_here x e =
        let a = here x e in
        record { functions = functions_here; storage = subst (SoundStorage (shape_of s.storage)) (sym st.storage) sound_here; call = a.stands.0; stands = a.stands.1 }

    pub can_step : (x : Slot) → flat (slice_get l.slots.items slot) ≡ Some x → CanStep l.set l.store.storage x.call
    can_step x e = record { shape = shape_of s.storage; last = x.result; activation = (here x e).activation; standing = standing_here x e }

    module _ (x : Slot) (e : flat (slice_get l.slots.items slot) ≡ Some x) (steps : ℕ) (le : steps ≤ 1000000) where
      abbrev the_call : Activation
      the_call = (here x e).activation

      -- the turn over the store that is held
      abbrev pub the_turn : Steps.Turned
      the_turn = turn steps fns l.store.storage (here x e).activation

      sound_turn : SoundTurn fns (shape_of s.storage) x.result (turn steps fns s.storage the_call)
      sound_turn = turn_sound fns (shape_of s.storage) x.result functions_here steps s.storage the_call sound_here (here x e).stands.0

      same_turn : turn steps fns s.storage the_call ≡ the_turn
      same_turn = ap (λ (t : Storage). turn steps fns t the_call) (sym st.storage)

      -- what is left of a turn is held again
      pub settled : (l' : Live) → l'.set ≡ l.set → l'.store.storage ≡ the_turn.storage → l'.vault ≡ l.vault → AllZip (SlotStands l.set (shape_of s.storage)) l'.slots.items (slice_set s.slots slot (stays the_turn.left)) → l'.sealed.items ≡ l.sealed.items ++ turn_sealed the_turn.left
          → StandsFor l' (play set s (Turn slot steps)).state
      settled l' es et ev slots ek =
          let t = turn steps fns s.storage the_call in
          let q : play set s (Turn slot steps) ≡ turned s slot t = turn_is steps the_call (here x e).is le in
          let shapes : shape_of s.storage ≡ shape_of t.storage = sym sound_turn.storage.shaped in
          let slots' : AllZip (SlotStands l.set (shape_of t.storage)) l'.slots.items (slice_set s.slots slot (stays t.left)) =
          subst (λ (y : Shape). AllZip (SlotStands l.set y) l'.slots.items (slice_set s.slots slot (stays t.left))) shapes
          (subst (λ (z : Steps.Turned). AllZip (SlotStands l.set (shape_of s.storage)) l'.slots.items (slice_set s.slots slot (stays z.left))) (sym same_turn) slots) in
          subst (λ (p : Played). StandsFor l' p.state) (sym q)
          (stands_again l l' (after_turn s slot t) es (subst (λ (p : Played). SoundState set p.state) q (play_sound set s st.sound (Turn slot steps) tt))
          (et ∙ ap (λ (z : Steps.Turned). z.storage) (sym same_turn)) slots' (ev ∙ st.vault)
          (ek ∙ ap₂ (λ (k : List ℕ) (z : Steps.Turned). k ++ turn_sealed z.left) st.sealed (sym same_turn)))

      pub told : play set s (Turn slot steps) ≡ turned s slot the_turn
      told = turn_is steps the_call (here x e).is le ∙ ap (turned s slot) same_turn

      pub turn_acts : (r : Reply) (l' : Live) (before after : List Event) → r ≡ turn_reply the_turn.steps the_turn.left → after ≡ before ++ the_turn.events → StandsFor l' (play set s (Turn slot steps)).state → Acts (play set s (Turn slot steps)) r l' before after
      turn_acts r l' before after er ev h = record {
        reply = er ∙ ap (λ (p : Played). p.reply) (sym told);
        events = ev ∙ ap (λ (p : Played). before ++ p.events) (sym told);
        stands = h;
      }

      put_again : (cs : List (Option Slot)) (call : Shows.Shown) (n : ℕ) (storage : Storage) (before after : List Event) → (g : GoesOn l.set (shape_of s.storage) x.result the_turn n storage call before after)
          → cs ≡ slice_set (slice_set l.slots.items slot None) slot (Some (record { call = call; result = x.result })) → AllZip (SlotStands l.set (shape_of s.storage)) cs (slice_set s.slots slot (stays the_turn.left))
      put_again cs call n storage before after g ec =
          let new : Slot = record { call = call; result = x.result } in
          subst (λ (y : Left). AllZip (SlotStands l.set (shape_of s.storage)) cs (slice_set s.slots slot (stays y))) (sym g.running)
          (subst (λ (ds : List (Option Slot)). AllZip (SlotStands l.set (shape_of s.storage)) ds (slice_set s.slots slot (Some g.left))) (sym (ec ∙ set-set l.slots.items slot None (Some new)))
          (slots_set l.set (shape_of s.storage) l.slots.items s.slots slot (Some new) (Some g.left) st.slots (g.standing.call, g.standing.stands)))

      nothing_sealed : (y : Left) → turn_sealed y ≡ [] → l.sealed.items ≡ l.sealed.items ++ turn_sealed y
      nothing_sealed y q = sym (append-nil l.sealed.items) ∙ ap (λ (k : List ℕ). l.sealed.items ++ k) (sym q)

      -- a turn that goes on, or that lacked memory
      pub goes_on : (l' : Live) (call : Shows.Shown) (n : ℕ) (before after : List Event) → GoesOn l.set (shape_of s.storage) x.result the_turn n l'.store.storage call before after → l'.set ≡ l.set → l'.vault ≡ l.vault → l'.sealed.items ≡ l.sealed.items
          → l'.slots.items ≡ slice_set (slice_set l.slots.items slot None) slot (Some (record { call = call; result = x.result })) → StandsFor l' (play set s (Turn slot steps)).state
      goes_on l' call n before after g es ev ek ec =
          settled l' es (sym g.storage) ev (put_again l'.slots.items call n l'.store.storage before after g ec) (ek ∙ nothing_sealed the_turn.left (ap turn_sealed g.running))

      pub more_acts : (l' : Live) (call : Shows.Shown) (before after : List Event) → TurnTells l.set (shape_of s.storage) x.result steps the_turn Turneds.More l'.store.storage call before after → l'.set ≡ l.set → l'.vault ≡ l.vault → l'.sealed.items ≡ l.sealed.items
          → l'.slots.items ≡ slice_set (slice_set l.slots.items slot None) slot (Some (record { call = call; result = x.result })) → Acts (play set s (Turn slot steps)) (More steps) l' before after
      more_acts l' call before after g es ev ek ec =
          turn_acts (More steps) l' before after (ap₂ turn_reply (sym g.steps_taken) (sym g.running)) g.events (goes_on l' call steps before after g es ev ek ec)

      emptied : (cs : List (Option Slot)) (y : Left) → stays y ≡ None → cs ≡ slice_set l.slots.items slot None → AllZip (SlotStands l.set (shape_of s.storage)) cs (slice_set s.slots slot (stays y))
      emptied cs y q ec =
          subst (λ (o : Option Activation). AllZip (SlotStands l.set (shape_of s.storage)) cs (slice_set s.slots slot o)) (sym q)
          (subst (λ (ds : List (Option Slot)). AllZip (SlotStands l.set (shape_of s.storage)) ds (slice_set s.slots slot None)) (sym ec) (slots_set l.set (shape_of s.storage) l.slots.items s.slots slot None None st.slots tt))

      pub trap_acts : (l' : Live) (call : Shows.Shown) (n : ℕ) (code : TrapCode) (before after : List Event) → TurnTells l.set (shape_of s.storage) x.result steps the_turn (Turneds.Trapped n code) l'.store.storage call before after → l'.set ≡ l.set → l'.vault ≡ l.vault
          → l'.sealed.items ≡ l.sealed.items → l'.slots.items ≡ slice_set l.slots.items slot None → Acts (play set s (Turn slot steps)) (Trap n code) l' before after
      trap_acts l' call n code before after g es ev ek ec =
          turn_acts (Trap n code) l' before after (ap₂ turn_reply (sym g.1) (sym g.0)) g.3
          (settled l' es (sym g.2) ev (emptied l'.slots.items the_turn.left (ap stays g.0) ec) (ek ∙ nothing_sealed the_turn.left (ap turn_sealed g.0)))

      pub done_acts : (l' : Live) (call : Shows.Shown) (n : ℕ) (value : Option ℕ) (shown : Shown) (before after : List Event) → TurnTells l.set (shape_of s.storage) x.result steps the_turn (Turneds.Ended n value) l'.store.storage call before after → l'.set ≡ l.set → l'.vault ≡ l.vault
          → ((v : Option Value) → HasTypes (optional x.result) (optional v) → value ≡ option_map number_of v → shown ≡ shown_result v)
          → ((v : Option Value) → HasTypes (optional x.result) (optional v) → value ≡ option_map number_of v → l'.sealed.items ≡ l.sealed.items ++ sealed_result v)
          → l'.slots.items ≡ slice_set l.slots.items slot None → Acts (play set s (Turn slot steps)) (Done n shown) l' before after
      done_acts l' call n value shown before after g es ev hs hk ec =
          let types : HasTypes (optional x.result) (optional g.0) = subst (SoundLeft fns (shape_of s.storage) x.result) (ap (λ (z : Steps.Turned). z.left) same_turn ∙ g.1) sound_turn.left in
          turn_acts (Done n shown) l' before after (ap (Done n) (hs g.0 types g.2) ∙ ap₂ turn_reply (sym g.3) (sym g.1)) g.5
          (settled l' es (sym g.4) ev (emptied l'.slots.items the_turn.left (ap stays g.1) ec) (hk g.0 types g.2 ∙ ap (λ (y : Left). l.sealed.items ++ turn_sealed y) (sym g.1)))

    -- no step has been taken yet
    pub none_taken : (x : Slot) → flat (slice_get l.slots.items slot) ≡ Some x → (l' : Live) (events : List Event) → l'.set ≡ l.set → l'.store.storage ≡ l.store.storage → l'.vault ≡ l.vault → l'.sealed.items ≡ l.sealed.items → l'.slots.items ≡ l.slots.items
        → (events ≡ events ++ (play set s (Turn slot 0)).events) × StandsFor l' (play set s (Turn slot 0)).state
    none_taken x e l' events es et ev ek ec =
        let a = here x e in
        let slots : AllZip (SlotStands l.set (shape_of s.storage)) l'.slots.items (slice_set s.slots slot (Some a.activation)) =
        subst (λ (cs : List (Option Slot)). AllZip (SlotStands l.set (shape_of s.storage)) cs (slice_set s.slots slot (Some a.activation))) (sym ec)
        (subst (λ (xs : List (Option Activation)). AllZip (SlotStands l.set (shape_of s.storage)) l.slots.items xs) (sym (same_slot s.slots slot a.activation a.is)) st.slots) in (
          sym (ap (λ (p : Played). events ++ p.events) (told x e 0 (omega arith)) ∙ append-nil events),
          settled x e 0 (omega arith) l' es et ev slots (ek ∙ sym (append-nil l.sealed.items)),
        )
