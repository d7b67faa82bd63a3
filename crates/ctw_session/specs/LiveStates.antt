-- What a session stands for, and what a move of it does.
use Rattle.std.specs.Prelude.{◌≡◌, ◌≤◌, ℕ, List, ◌++◌, Option, Some, None}
use Rattle.std.specs.List.{AllZip}
use Rattle.ctw_script.specs.declared.event.Event.{Event}
use Rattle.ctw_script.specs.declared.moves.Move.{Move}
use Rattle.ctw_script.specs.declared.moves.Move.TheVariants.{Turn}
use Rattle.ctw_script.specs.declared.reply.Reply.{Reply}
use Rattle.ctw_semantics.specs.Activations.{Activation}
use Rattle.ctw_semantics.specs.Sound.{Shape, SoundCall, shape_of}
use Rattle.ctw_link.specs.declared.set.Part.{Part}
use Rattle.ctw_link.specs.Sets.{ModuleSet, set_of}
use Rattle.ctw_link.specs.SetInstances.{set_instances}
use Rattle.ctw_link.specs.Linked.{code_in}
use Rattle.ctw_step.specs.Stands.{Stands}
use Rattle.ctw_moves.specs.States.{State, Played}
use Rattle.ctw_moves.specs.Moves.{play}
use Rattle.ctw_moves.specs.SoundStates.{SoundState}
use Rattle.ctw_session.specs.declared.slots.Slot.{Slot}
use Rattle.ctw_session.specs.declared.live.Live.{Live}

-- the call of a slot stands for a sound one, which gives the slot's result
abbrev pub SlotStands : List Part → Shape → Option Slot → Option Activation → Type 0
SlotStands parts shape None None = Unit {0}
SlotStands parts shape (Some held) (Some a) =
    SoundCall (set_instances (set_of parts)) shape held.result a × Stands (code_in parts) held.call a
SlotStands parts shape _ _ = ⊥

-- a session stands for a sound state with its store, calls, vault and sealed bytes
pub record StandsFor (l : Live) (s : State) : Type 0 where
  pub sound : SoundState (set_of l.set) s
  pub storage : l.store.storage ≡ s.storage
  pub slots : AllZip (SlotStands l.set (shape_of s.storage)) l.slots.items s.slots
  pub vault : l.vault ≡ s.vault
  pub sealed : l.sealed.items ≡ s.sealed

-- the reply, the events and the new state are those of a move
pub record Acts (p : Played) (r : Reply) (l : Live) (before after : List Event) : Type 0 where
  pub reply : r ≡ p.reply
  pub events : after ≡ before ++ p.events
  pub stands : StandsFor l p.state

-- Want of memory: a turn has taken just these steps, with their events; every other move has changed nothing.
abbrev pub Lacks : ModuleSet → State → Move → ℕ → Live → List Event → List Event → Type 0
Lacks set s (Turn slot most) steps l before after =
    (steps ≤ most) × (after ≡ before ++ (play set s (Turn slot steps)).events)
    × StandsFor l (play set s (Turn slot steps)).state
Lacks set s m steps l before after = (steps ≡ 0) × (after ≡ before) × StandsFor l s
