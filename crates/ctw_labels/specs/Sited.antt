-- Code whose tags are sites, what the collector's pass makes of it, and the placing of labels in it.
use Rattle.std.specs.Prelude.{ℕ, Bool, true, false, List, [], ◌∷◌, Option, Some, None, option_map}
use Rattle.ctw_ops.specs.declared.types.Width.{Width}
use Rattle.ctw_ops.specs.declared.types.Label.{Label}
use Rattle.ctw_ops.specs.declared.types.Label.TheVariants.{Public, Secret}
use Rattle.ctw_ops.specs.Types.{ValueType, FunctionType}
use Rattle.ctw_ops.specs.Code.{Leaf, CallIndirect, Classify, Declassify, Code, Stop, Then, Block, Loop, If, IfElse}
use Rattle.ctw_ops.specs.Typing.{Context}
use Rattle.ctw_stack.specs.declared.slot.Slot.{Slot}
use Rattle.ctw_stack.specs.declared.slot.Slot.TheVariants.{Known}
use Rattle.ctw_stack.specs.Operands.{Operands}
use Rattle.ctw_stack.specs.Tags.{type_to}
use Rattle.ctw_ops.specs.TagMaps.{function_type_to, context_to, leaf_to}

-- the test that passes all tags
abbrev pub yes : {S : Type 0} → S → S → Bool
yes a b = true

-- A value that is put under another tag: from where it comes to where it is pushed.
-- It may lose its secrecy where `free`.
pub record Lift (S : Type 0) : Type 0 where
  pub width : Width
  pub source : S
  pub target : S
  pub free : Bool

-- Code with sites for tags, and a lift behind what pushes. An indirect call has the sites of its own use of a type.
pub data Sited (S : Type 0) : Type 0 where
  Done : Sited S
  Does : (leaf : Leaf S) (lift : Option (Lift S)) (rest : Sited S) → Sited S
  Uses : (index : ℕ) (type : FunctionType S) (lift : Option (Lift S)) (rest : Sited S) → Sited S
  Blocks : (result : Option (ValueType S)) (lift : Option (Lift S)) (body rest : Sited S) → Sited S
  Loops : (result : Option (ValueType S)) (lift : Option (Lift S)) (body rest : Sited S) → Sited S
  Ifs : (result : Option (ValueType S)) (lift : Option (Lift S)) (arm rest : Sited S) → Sited S
  IfElses : (result : Option (ValueType S)) (lift : Option (Lift S)) (arm other rest : Sited S) → Sited S

-- what an indirect call may name: its own type alone
abbrev pub with_user : {S : Type 0} → FunctionType S → Context S → Context S
with_user g C = record C { types = g ∷ [] }

-- the last operand under its push's site
abbrev pub relabel : {S : Type 0} → Lift S → List (Slot S) → List (Slot S)
relabel l [] = []
relabel l (x ∷ xs) = Known l.width l.target ∷ xs

abbrev pub lifted : {S : Type 0} → Option (Lift S) → Operands S → Operands S
lifted None o = o
lifted (Some l) o = record { dead = o.dead; slots = relabel l o.slots }

-- a lift under a labelling: a classify, a declassify where it is free, or nothing
abbrev pub raised_from : Label → Label → Bool → Width → Code Label → Code Label
raised_from Public Secret free w c = Then (Classify w) c
raised_from Secret Public true w c = Then (Declassify w) c
raised_from _ _ free w c = c

abbrev pub Rises : Label → Label → Bool → Type 0
Rises Secret Public false = ⊥
Rises _ _ free = Unit {0}

module _ {S : Type 0} (L : S → Label) where
  -- what a placed body may name, where the module's types are `types`
  abbrev pub labelled : List (FunctionType Label) → Context S → Context Label
  labelled types C = record (context_to L C) { types = types; public = Public; secret = Secret }

  abbrev pub raised : Option (Lift S) → Code Label → Code Label
  raised None c = c
  raised (Some l) c = raised_from (L l.source) (L l.target) l.free l.width c

  -- the labelled code; `name` gives the index of the type that an indirect call of a plain type names under the labels
  abbrev pub placed_code : (ℕ → FunctionType Label → ℕ) → Sited S → Code Label
  placed_code name Done = Stop
  placed_code name (Does i l rest) = Then (leaf_to L i) (raised l (placed_code name rest))
  placed_code name (Uses y g l rest) =
      Then (CallIndirect (name y (function_type_to L g))) (raised l (placed_code name rest))
  placed_code name (Blocks t l body rest) =
      Block (option_map (type_to L) t) (placed_code name body) (raised l (placed_code name rest))
  placed_code name (Loops t l body rest) =
      Loop (option_map (type_to L) t) (placed_code name body) (raised l (placed_code name rest))
  placed_code name (Ifs t l arm rest) =
      If (option_map (type_to L) t) (placed_code name arm) (raised l (placed_code name rest))
  placed_code name (IfElses t l arm other rest) =
      IfElse (option_map (type_to L) t) (placed_code name arm) (placed_code name other)
      (raised l (placed_code name rest))

  -- no push is public while its yield is secret
  abbrev pub IsOrderlyAt : Option (Lift S) → Type 0
  IsOrderlyAt None = Unit {0}
  IsOrderlyAt (Some l) = Rises (L l.source) (L l.target) l.free

  abbrev pub IsOrderlyCode : Sited S → Type 0
  IsOrderlyCode Done = Unit {0}
  IsOrderlyCode (Does i l rest) = IsOrderlyAt l × IsOrderlyCode rest
  IsOrderlyCode (Uses y g l rest) = IsOrderlyAt l × IsOrderlyCode rest
  IsOrderlyCode (Blocks t l body rest) = IsOrderlyAt l × IsOrderlyCode body × IsOrderlyCode rest
  IsOrderlyCode (Loops t l body rest) = IsOrderlyAt l × IsOrderlyCode body × IsOrderlyCode rest
  IsOrderlyCode (Ifs t l arm rest) = IsOrderlyAt l × IsOrderlyCode arm × IsOrderlyCode rest
  IsOrderlyCode (IfElses t l arm other rest) =
      IsOrderlyAt l × IsOrderlyCode arm × IsOrderlyCode other × IsOrderlyCode rest
