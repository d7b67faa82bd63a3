-- What an instruction without instructions inside does to the operands of its block, where it passes; all but `select`.
use Rattle.std.specs.Prelude.{ℕ, zero, suc, ◌+◌, Bool, true, false, List, [], ◌∷◌, length, Option, Some, None, option_map, unwrap_or, slice_get, if◌then◌else◌}
use Rattle.ctw_ops.specs.declared.types.Width.TheVariants.{W32}
use Rattle.ctw_ops.specs.Types.{ValueType, FunctionType, value_type}
use Rattle.ctw_ops.specs.declared.numeric.NumSig.{NumSig}
use Rattle.ctw_ops.specs.Numeric.{num_sig_of}
use Rattle.ctw_ops.specs.Code.{Leaf, Unreachable, Nop, Br, BrIf, BrTable, Return, Call, CallIndirect, Drop, Select, LocalGet, LocalSet, LocalTee, GlobalGet, GlobalSet, Load, Store, MemorySize, MemoryGrow, Const, Numeric, Classify, Declassify}
use Rattle.ctw_ops.specs.Typing.{Context, optional}
use Rattle.ctw_stack.specs.Operands.{Operands, killed, pop}
use Rattle.ctw_stack.specs.Steps.{pushes}
use Rattle.ctw_labels.specs.declared.tag.Tag.{Tag}
use Rattle.ctw_labels.specs.declared.tag.Tag.TheVariants.{At, Fixed}
use Rattle.ctw_labels.specs.declared.name.SiteName.{SiteName}
use Rattle.ctw_labels.specs.Names.{Site, push_site, site_number}
use Rattle.ctw_labels.specs.Numbering.{BodyPlace, type_from, named_in}

-- the operands without the last one, where there is one
abbrev pub rest_of : Operands Tag → Operands Tag
rest_of o = unwrap_or (option_map (λ p. p.rest) (pop o)) o

-- without so many
abbrev pub rests : ℕ → Operands Tag → Operands Tag
rests zero o = o
rests (suc k) o = rest_of (rests k o)

-- how many operands it takes, whether the rest of its block is dead, the type of what it gives, and whether that goes
-- under a site of its own
pub record Row : Type 0 where
  pub takes : ℕ
  pub ends : Bool
  pub gives : Option (ValueType Tag)
  pub lifts : Bool

abbrev pub takes_alone : ℕ → Row
takes_alone k = record { takes = k; ends = false; gives = None; lifts = false }

abbrev pub ending : Row
ending = record { takes = 0; ends = true; gives = None; lifts = false }

abbrev pub gives_of : ℕ → Option (ValueType Tag) → Row
gives_of k t = record { takes = k; ends = false; gives = t; lifts = true }

-- by what a lookup finds
abbrev pub branch_row : Option (Option (ValueType Tag)) → Row
branch_row None = takes_alone 0
branch_row (Some None) = gives_of 1 None
branch_row (Some (Some t)) = gives_of 2 (Some t)

abbrev pub call_row : ℕ → Option (FunctionType Tag) → Row
call_row k None = takes_alone 0
call_row k (Some g) = gives_of (length g.params + k) g.result

abbrev pub numeric_row : ℕ → Option NumSig → Row
numeric_row n None = takes_alone 0
numeric_row n (Some sig) = gives_of sig.arity (Some (value_type sig.result (At n)))

abbrev pub row : {A : Type 0} → BodyPlace A → Context Tag → ℕ → Leaf A → Row
row P C n Unreachable = ending
row P C n Nop = takes_alone 0
row P C n (Br k) = ending
row P C n (BrIf k) = branch_row (slice_get C.labels k)
row P C n (BrTable ks k) = ending
row P C n Return = ending
row P C n (Call f) = call_row 0 (slice_get C.functions f)
row P C n (CallIndirect y) = call_row 1 (Some (type_from n (named_in P.types y)))
row P C n Drop = takes_alone 1
row P C n (Select l) = takes_alone 3
row P C n (LocalGet x) = gives_of 0 (slice_get C.locals x)
row P C n (LocalSet x) = takes_alone 1
row P C n (LocalTee x) = gives_of 1 (slice_get C.locals x)
row P C n (GlobalGet x) = gives_of 0 (option_map (λ g. g.value) (slice_get C.globals x))
row P C n (GlobalSet x) = takes_alone 1
row P C n (Load w l bytes signed align offset) = gives_of 1 (Some (value_type w (unwrap_or C.memory Fixed)))
row P C n (Store w l bytes align offset) = takes_alone 2
row P C n MemorySize = gives_of 0 (Some (value_type W32 C.public))
row P C n MemoryGrow = gives_of 1 (Some (value_type W32 C.public))
row P C n (Const w l bits) = record { takes = 0; ends = false; gives = Some (value_type w (At n)); lifts = false }
row P C n (Numeric op l) = numeric_row n (num_sig_of op)
row P C n (Classify w) = record { takes = 1; ends = false; gives = Some (value_type w C.secret); lifts = false }
row P C n (Declassify w) = record { takes = 1; ends = false; gives = Some (value_type w C.public); lifts = false }

-- what it gives as it is pushed, where its own site is `p`
abbrev pub given_at : ℕ → Row → Option (ValueType Tag)
given_at p r = if r.lifts then option_map (λ t. value_type t.width (At p)) r.gives else r.gives

-- the operands behind it
abbrev pub done : ℕ → Row → Operands Tag → Operands Tag
done p r o = pushes (optional (given_at p r)) (if r.ends then killed else rests r.takes o)

-- the site of its push
abbrev pub push_of : SiteName → Option (ValueType Tag) → List Site
push_of name None = []
push_of name (Some t) = push_site name (site_number t.tag) ∷ []

abbrev pub push_by : SiteName → Row → List Site
push_by name r = if r.lifts then push_of name r.gives else []

abbrev pub is_select : {A : Type 0} → Leaf A → Bool
is_select (Select l) = true
is_select _ = false
