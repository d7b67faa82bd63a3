-- What leaving labels and frames changes.
use Rattle.std.specs.Prelude.{◌≡◌, true, false, ◌<◌, ◌≤◌, ℕ, List, [], ◌∷◌, ◌++◌, Option, Some, is_some, option_to_list, slice_get, length, take}
use Rattle.ctw_script.specs.declared.event.Event.{Event}
use Rattle.ctw_step.specs.declared.running.Opened.{Opened}
use Rattle.ctw_step.specs.declared.running.Stepped.{Stepped}
use Rattle.ctw_step.specs.declared.running.Stepped.TheVariants as Steppeds
use Rattle.ctw_step.specs.declared.running.Caller.{Caller}
use Rattle.ctw_step.specs.Shown.{Shown}

-- with the labels below an index alone
abbrev pub without_labels : Shown → List ℕ → ℕ → ℕ → Shown
without_labels c operands index at = record c { operands = operands; labels = take index c.labels; at = at }

-- without the innermost frame
abbrev pub without_frame : Shown → List ℕ → List Caller → Caller → ℕ → Shown
without_frame c operands front f index =
    record {
      operands = operands;
      locals = take f.locals c.locals;
      labels = take index c.labels;
      frames = front;
      at = f.back;
    }

-- what leaving a label with perhaps a value does: inside a function the label outside goes on; at a function's own
-- label its caller goes on, or the call ends
pub record Left (c : Shown) (opened : Opened) (index : ℕ) (carried : Option ℕ) (event : Option Event) (r : Stepped)
    (c' : Shown) : Type 0 where
  pub label : (front : List Caller) (f : Caller) → c.frames ≡ front ++ f ∷ [] → f.labels < index
      → (r ≡ Steppeds.Went event)
      × (c' ≡ without_labels c (take opened.height c.operands ++ option_to_list carried) index opened.after)
  pub frame : (front : List Caller) (g f : Caller) → c.frames ≡ (front ++ g ∷ []) ++ f ∷ [] → index ≤ f.labels
      → (r ≡ Steppeds.Went event)
      × (c' ≡ without_frame c (take opened.height c.operands ++ option_to_list carried) (front ++ g ∷ []) f f.labels)
  pub last : (f : Caller) → c.frames ≡ f ∷ [] → index ≤ f.labels → r ≡ Steppeds.Ended carried event

-- the label at an index can be left with a word, or with none
pub record Leaves (c : Shown) (index : ℕ) : Type 0 where
  pub label : Opened
  pub carried : Option ℕ
  pub below : List ℕ
  pub is : slice_get c.labels index ≡ Some label
  pub some : is_some carried ≡ label.has_result
  pub operands : c.operands ≡ below ++ option_to_list carried
  pub high : label.height ≤ length below

-- the label at an index was left with what it carries
abbrev pub LeavesBy : Shown → ℕ → Option Event → Stepped → Shown → Type 0
LeavesBy c index event r c' =
    (label : Opened) (carried : Option ℕ) (below : List ℕ) → slice_get c.labels index ≡ Some label
    → is_some carried ≡ label.has_result → c.operands ≡ below ++ option_to_list carried → label.height ≤ length below
    → Left c label index carried event r c'

-- a branch to the label at an index: a loop runs again, and another label is left with what it carries
pub record BranchedBy (c : Shown) (index : ℕ) (event : Option Event) (r : Stepped) (c' : Shown) : Type 0 where
  pub loops : (label : Opened) → slice_get c.labels index ≡ Some label → label.is_loop ≡ true
      → (r ≡ Steppeds.Went event) × (c' ≡ without_labels c (take label.height c.operands) index label.start)
  pub leaves : (label : Opened) (carried : Option ℕ) (below : List ℕ) → slice_get c.labels index ≡ Some label
      → label.is_loop ≡ false
      → is_some carried ≡ label.has_result → c.operands ≡ below ++ option_to_list carried → label.height ≤ length below
      → Left c label index carried event r c'
