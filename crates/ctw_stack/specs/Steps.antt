-- What one instruction without instructions inside does to the operands of its block; None where it is refused.
-- Tags are compared by a test, so that the same pass serves labels and places of a module.
use Rattle.std.specs.Prelude.{◌≡◌, ◌^◌, ◌↔◌, ℕ, Bool, true, false, not, ◌&&◌, ◌||◌, nat_le, nat_lt, List, [], ◌∷◌, ◌++◌, Option, Some, None, slice_get}
use Rattle.ctw_ops.specs.declared.types.Width.{Width}
use Rattle.ctw_ops.specs.declared.types.Width.TheVariants.{W32, W64}
use Rattle.ctw_ops.specs.declared.types.Trust.{Trust}
use Rattle.ctw_ops.specs.declared.types.Trust.TheVariants.{Untrusted, Trusted}
use Rattle.ctw_ops.specs.Types.{ValueType, value_type, bit_width}
use Rattle.ctw_ops.specs.Equal.{same_width}
use Rattle.ctw_ops.specs.Forms.{is_load, is_store}
use Rattle.ctw_ops.specs.Numeric.{num_sig_of, leaks}
use Rattle.ctw_ops.specs.Code.{Leaf, Unreachable, Nop, Br, BrIf, BrTable, Return, Call, CallIndirect, Drop, Select, LocalGet, LocalSet, LocalTee, GlobalGet, GlobalSet, Load, Store, MemorySize, MemoryGrow, Const, Numeric, Classify, Declassify}
use Rattle.ctw_ops.specs.Typing.{Context, optional, i32, operands}
use Rattle.ctw_ops.specs.Segments.{and_then}
use Rattle.ctw_stack.specs.declared.slot.Slot.{Slot}
use Rattle.ctw_stack.specs.declared.slot.Slot.TheVariants.{Known, Wide, Unknown}
use Rattle.ctw_stack.specs.Operands.{Operands, killed, push, pop}

-- the test says yes for equal tags alone
abbrev pub IsExactTest : {S : Type 0} → (S → S → Bool) → Type 0
IsExactTest same = (a b : _) → (same a b ≡ true) ↔ (a ≡ b)

-- the answer under a condition
abbrev pub when : {A : Type 0} → Bool → Option A → Option A
when true answer = answer
when false answer = None

-- an untrusted function may not call a trusted one
abbrev pub may_call : Trust → Trust → Bool
may_call Untrusted Trusted = false
may_call _ _ = true

abbrev pub is_trusted : Trust → Bool
is_trusted Trusted = true
is_trusted Untrusted = false

abbrev pub push_type : {S : Type 0} → ValueType S → Operands S → Operands S
push_type t o = push (Known t.width t.tag) o

-- puts values on, the first one first
abbrev pub pushes : {S : Type 0} → List (ValueType S) → Operands S → Operands S
pushes [] o = o
pushes (t ∷ types) o = pushes types (push_type t o)

-- takes a value of any type off
abbrev pub dropped : {S : Type 0} → Operands S → Option (Operands S)
dropped o = and_then (pop o) (λ p. Some p.rest)

-- the width that a slot says
abbrev pub width_of : {S : Type 0} → Slot S → Option Width
width_of (Known width tag) = Some width
width_of (Wide tag) = None
width_of Unknown = None

-- the slot for values of a tag and two widths that have to be equal
abbrev pub merged : {S : Type 0} → S → Option Width → Option Width → Option (Slot S)
merged l None None = Some (Wide l)
merged l (Some w) None = Some (Known w l)
merged l None (Some v) = Some (Known v l)
merged l (Some w) (Some v) = when (same_width w v) (Some (Known w l))

module _ {S : Type 0} (same : S → S → Bool) where
  -- whether a slot stands for the type
  abbrev pub fits : Slot S → ValueType S → Bool
  fits (Known width tag) t = same_width width t.width && same tag t.tag
  fits (Wide tag) t = same tag t.tag
  fits Unknown t = true

  -- takes a value of the type off
  abbrev pub expect : ValueType S → Operands S → Option (Operands S)
  expect t o = and_then (pop o) (λ p. when (fits p.slot t) (Some p.rest))

  -- takes values of the types off, the last one first
  abbrev pub expects : List (ValueType S) → Operands S → Option (Operands S)
  expects [] o = Some o
  expects (t ∷ types) o = and_then (expects types o) (expect t)

  -- `[takes] -> [gives]`
  abbrev pub moved : List (ValueType S) → List (ValueType S) → Operands S → Option (Operands S)
  moved takes gives o = and_then (expects takes o) (λ rest. Some (pushes gives rest))

  -- `[any takes] -> [any]`
  abbrev pub left_by : List (ValueType S) → Operands S → Option (Operands S)
  left_by takes o = and_then (expects takes o) (λ rest. Some killed)

  -- whether a slot stands for values of the tag
  abbrev pub may_have : S → Slot S → Bool
  may_have l (Known width tag) = same tag l
  may_have l (Wide tag) = same tag l
  may_have l Unknown = true

  -- the slot for one of two values of one width and the tag
  abbrev pub joined : S → Slot S → Slot S → Option (Slot S)
  joined l x y = when (may_have l x && may_have l y) (merged l (width_of x) (width_of y))

  -- takes two values of one width and the tag, and puts one of them on
  abbrev pub chosen : S → Operands S → Option (Operands S)
  chosen l o =
      and_then (pop o)
      (λ p. and_then (pop p.rest) (λ q. and_then (joined l p.slot q.slot) (λ slot. Some (push slot q.rest))))

  -- types and results by the test of tags
  abbrev pub same_type : ValueType S → ValueType S → Bool
  same_type t u = same_width t.width u.width && same t.tag u.tag

  abbrev pub same_result : Option (ValueType S) → Option (ValueType S) → Bool
  same_result None None = true
  same_result (Some t) (Some u) = same_type t u
  same_result _ _ = false

  -- whether a label is there, with the type
  abbrev pub is_label : Option (ValueType S) → Option (Option (ValueType S)) → Bool
  is_label t None = false
  is_label t (Some u) = same_result u t

  -- whether all these labels are there, with the type
  abbrev pub are_labels : Context S → Option (ValueType S) → List ℕ → Bool
  are_labels C t [] = true
  are_labels C t (k ∷ ks) = is_label t (slice_get C.labels k) && are_labels C t ks

  -- whether a tag is there, and is this one
  abbrev pub is_tag : S → Option S → Bool
  is_tag l None = false
  is_tag l (Some tag) = same tag l

  -- a row of the typing's table, on what is known of the operands
  abbrev pub step : Context S → Leaf S → Operands S → Option (Operands S)
  step C Unreachable o = Some killed
  step C Nop o = Some o
  step C (Br k) o = and_then (slice_get C.labels k) (λ t. left_by (optional t) o)
  step C (BrIf k) o = and_then (slice_get C.labels k) (λ t. moved (optional t ++ i32 C ∷ []) (optional t) o)
  step C (BrTable ks k) o =
      and_then (slice_get C.labels k) (λ t. when (are_labels C t ks) (left_by (optional t ++ i32 C ∷ []) o))
  step C Return o = left_by (optional C.result) o
  step C (Call f) o =
      and_then (slice_get C.functions f) (λ g. when (may_call C.trust g.trust) (moved g.params (optional g.result) o))
  step C (CallIndirect y) o =
      when C.table
      (and_then (slice_get C.types y)
      (λ g. when (may_call C.trust g.trust) (moved (g.params ++ i32 C ∷ []) (optional g.result) o)))
  step C Drop o = dropped o
  step C (Select l) o = and_then (expect (value_type W32 l) o) (chosen l)
  step C (LocalGet x) o = and_then (slice_get C.locals x) (λ t. moved [] (t ∷ []) o)
  step C (LocalSet x) o = and_then (slice_get C.locals x) (λ t. moved (t ∷ []) [] o)
  step C (LocalTee x) o = and_then (slice_get C.locals x) (λ t. moved (t ∷ []) (t ∷ []) o)
  step C (GlobalGet x) o = and_then (slice_get C.globals x) (λ g. moved [] (g.value ∷ []) o)
  step C (GlobalSet x) o = and_then (slice_get C.globals x) (λ g. when g.mutable (moved (g.value ∷ []) [] o))
  step C (Load w l bytes signed align offset) o =
      when (is_load w bytes signed)
      (when (is_tag l C.memory) (when (nat_le (2 ^ align) bytes) (moved (i32 C ∷ []) (value_type w l ∷ []) o)))
  step C (Store w l bytes align offset) o =
      when (is_store w bytes)
      (when (is_tag l C.memory) (when (nat_le (2 ^ align) bytes) (moved (i32 C ∷ value_type w l ∷ []) [] o)))
  step C MemorySize o = and_then C.memory (λ l. moved [] (i32 C ∷ []) o)
  step C MemoryGrow o = and_then C.memory (λ l. moved (i32 C ∷ []) (i32 C ∷ []) o)
  step C (Const w l bits) o = when (nat_lt bits (2 ^ bit_width w)) (moved [] (value_type w l ∷ []) o)
  step C (Numeric op l) o =
      and_then (num_sig_of op)
      (λ sig.
      when (not (leaks op C.profile) || same l C.public) (moved (operands sig l) (value_type sig.result l ∷ []) o))
  step C (Classify w) o = moved (value_type w C.public ∷ []) (value_type w C.secret ∷ []) o
  step C (Declassify w) o =
      when (is_trusted C.trust) (moved (value_type w C.secret ∷ []) (value_type w C.public ∷ []) o)
