-- An opcode under labels, without what stands behind its push.
use Rattle.std.specs.Prelude.{ℕ, List, [], ◌∷◌, option_map}
use Rattle.ctw_ops.specs.declared.types.Label.{Label}
use Rattle.ctw_ops.specs.declared.types.Trust.TheVariants.{Untrusted}
use Rattle.ctw_ops.specs.Types.{FunctionType, value_type}
use Rattle.ctw_ops.specs.TagMaps.{function_type_to}
use Rattle.ctw_ops.specs.Code.{Leaf, CallIndirect, Select, Load, Store, Const, Numeric, Op, Plain, Opens, Closes}
use Rattle.ctw_ops.specs.Tree.{Module, type_named}
use Rattle.ctw_labels.specs.declared.tag.Tag.{Tag}
use Rattle.ctw_labels.specs.declared.tag.Tag.TheVariants.{At}
use Rattle.ctw_labels.specs.Numbering.{type_from}
use Rattle.ctw_labels.specs.Placed.{TypeUse, with_trust}
use Rattle.ctw_labels.specs.SitedModule.{site_count}
use Rattle.ctw_place.specs.declared.setting.Setting.{Setting}
use Rattle.ctw_place.specs.Settings.{use_at}

-- under its own label and the memory's
abbrev pub labelled_leaf : Label → Label → Leaf Label → Leaf Label
labelled_leaf own memory (Select l) = Select own
labelled_leaf own memory (Load w l bytes signed align offset) = Load w memory bytes signed align offset
labelled_leaf own memory (Store w l bytes align offset) = Store w memory bytes align offset
labelled_leaf own memory (Const w l bits) = Const w own bits
labelled_leaf own memory (Numeric op l) = Numeric op own
labelled_leaf own memory i = i

abbrev pub labelled_op : Label → Label → Op Label → Op Label
labelled_op own memory (Plain i) = Plain (labelled_leaf own memory i)
labelled_op own memory (Opens shape t) = Opens shape (option_map (λ u. value_type u.width own) t)
labelled_op own memory (Closes closer) = Closes closer

-- a leaf whose sites begin at `n`
abbrev pub first_leaf : (Tag → Label) → (ℕ → FunctionType Label → ℕ) → Module Label → Label → ℕ → Leaf Label → Leaf Label
first_leaf L name m memory n (CallIndirect y) = CallIndirect (name y (function_type_to L (with_trust Untrusted (type_from n (type_named m y)))))
first_leaf L name m memory n i = labelled_leaf (L (At n)) memory i

abbrev pub first_op : (Tag → Label) → (ℕ → FunctionType Label → ℕ) → Module Label → Label → ℕ → Op Label → Op Label
first_op L name m memory n (Plain i) = Plain (first_leaf L name m memory n i)
first_op L name m memory n (Opens shape t) = labelled_op (L (At n)) memory (Opens shape t)
first_op L name m memory n (Closes closer) = Closes closer

-- the use of a type under labels
abbrev pub leaf_uses_at : Setting → ℕ → Leaf Label → List (TypeUse Label)
leaf_uses_at s n (CallIndirect y) = use_at s y n Untrusted ∷ []
leaf_uses_at s n i = []

abbrev pub uses_at : Setting → ℕ → Op Label → List (TypeUse Label)
uses_at s n (Plain i) = leaf_uses_at s n i
uses_at s n (Opens shape t) = []
uses_at s n (Closes closer) = []

-- how many sites a use has
abbrev pub leaf_room : Module Label → Leaf Label → ℕ
leaf_room m (CallIndirect y) = site_count (type_named m y)
leaf_room m i = 0

abbrev pub own_room : Module Label → Op Label → ℕ
own_room m (Plain i) = leaf_room m i
own_room m (Opens shape t) = 0
own_room m (Closes closer) = 0
