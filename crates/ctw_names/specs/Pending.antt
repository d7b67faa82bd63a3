-- Folded instructions in order, from an item on.
use Rattle.std.specs.Prelude.{Bool, true, false, List, ◌∷◌}
use Rattle.ctw_text.specs.declared.fields.Raw.{Raw}
use Rattle.ctw_text.specs.declared.fields.Item.{Item}
use Rattle.ctw_text.specs.declared.fields.Item.TheVariants.{Folds}
use Rattle.ctw_text.specs.Fields.{unfolded}

-- the instructions of these items, where a folded one may be to come
abbrev pub pending : (folds : Bool) → (held : List Raw) → List Item → List Raw
pending true held items = unfolded held (Folds ∷ items)
pending false held items = unfolded held items
