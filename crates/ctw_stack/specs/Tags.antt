-- The law of tags: a function on tags commutes with the calls on a stack.
use Rattle.std.specs.Prelude.{◌≡◌, ℕ, Bool, List, map, Option, option_map}
use Rattle.ctw_ops.specs.Types.{ValueType}
pub use Rattle.ctw_ops.specs.TagMaps.{type_to}
use Rattle.ctw_stack.specs.declared.slot.Slot.{Slot}
use Rattle.ctw_stack.specs.declared.slot.Slot.TheVariants.{Known, Wide, Unknown}
use Rattle.ctw_stack.specs.Operands.{Operands, Popped}
use Rattle.ctw_stack.specs.Opens.{Open, Taken, after_push, after_pop, after_enter, after_kill, target_of, innermost_of, after_leave, count_of_innermost}

module _ {S T : Type 0} (f : S → T) where
  -- `f tag` for each tag of a slot, and so on
  abbrev pub slot_to : Slot S → Slot T
  slot_to (Known width tag) = Known width (f tag)
  slot_to (Wide tag) = Wide (f tag)
  slot_to Unknown = Unknown

  abbrev pub operands_to : Operands S → Operands T
  operands_to o = record { dead = o.dead; slots = map slot_to o.slots }

  abbrev pub popped_to : Popped S → Popped T
  popped_to p = record { slot = slot_to p.slot; rest = operands_to p.rest }

  abbrev pub open_to : Open S → Open T
  open_to b = record { operands = operands_to b.operands; loops = b.loops; yields = option_map (type_to f) b.yields }

  abbrev pub opens_to : List (Open S) → List (Open T)
  opens_to blocks = map open_to blocks

  abbrev pub taken_to : Taken S → Taken T
  taken_to p = record { slot = slot_to p.slot; blocks = opens_to p.blocks }

  -- the same comes of putting `f tag` for each tag before a call and behind it
  pub record TagLaw : Type 0 where
    pub push : (slot : Slot S) (blocks : List (Open S))
        → after_push (slot_to slot) (opens_to blocks) ≡ opens_to (after_push slot blocks)
    pub pop : (blocks : List (Open S)) → after_pop (opens_to blocks) ≡ option_map taken_to (after_pop blocks)
    pub enter : (loops : Bool) (yields : Option (ValueType S)) (blocks : List (Open S))
        → after_enter loops (option_map (type_to f) yields) (opens_to blocks)
        ≡ opens_to (after_enter loops yields blocks)
    pub kill : (blocks : List (Open S)) → after_kill (opens_to blocks) ≡ opens_to (after_kill blocks)
    pub target : (depth : ℕ) (blocks : List (Open S))
        → target_of depth (opens_to blocks) ≡ option_map (option_map (type_to f)) (target_of depth blocks)
    pub innermost : (blocks : List (Open S))
        → innermost_of (opens_to blocks)
        ≡ option_map (λ block. (block.0, option_map (type_to f) block.1)) (innermost_of blocks)
    pub leave : (blocks : List (Open S)) → after_leave (opens_to blocks) ≡ opens_to (after_leave blocks)
    pub count : (blocks : List (Open S)) → count_of_innermost (opens_to blocks) ≡ count_of_innermost blocks
