-- What is written of a module's type entries and opcodes where its erased module is written, and what is known of it.
use Rattle.std.specs.Prelude.{◌<◌, ◌^◌, ℕ, List, [], ◌∷◌, length, Option, Some, None}
use Rattle.ctw_ops.specs.declared.types.Label.{Label}
use Rattle.ctw_ops.specs.Code.{Op}
use Rattle.ctw_ops.specs.TagMaps.{op_to}
use Rattle.ctw_ops.specs.Tree.{TypeEntry, Module}
use Rattle.ctw_ops.specs.Erasure.{kept_entry, erase_label, erase_leaf, erase_module}
use Rattle.ctw_write.specs.Canon.{type_entry_text, op_text, canon}

-- an entry that is kept; nothing of a variant
abbrev pub kept_text : TypeEntry Label → List ℕ
kept_text entry = of (kept_entry entry.base entry.type)
  where
    of : Option (TypeEntry Label) → List ℕ
    of None = []
    of (Some kept) = type_entry_text kept

-- the opcode that an opcode becomes; nothing where it becomes none
abbrev pub erased_text : List (TypeEntry Label) → Op Label → List ℕ
erased_text entries op = of (op_to erase_label (erase_leaf entries) op)
  where
    of : List (Op Label) → List ℕ
    of [] = []
    of (becomes ∷ others) = op_text becomes

-- the canonical spellings of a module and of its erased module are short
pub record HasShortTexts (m : Module Label) : Type 0 where
  pub own : length (canon m) < 2 ^ 32
  pub erased : length (canon (erase_module m)) < 2 ^ 32
