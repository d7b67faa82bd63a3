-- The numbering of a body's sites: its code with site numbers for tags, and the sites in order.
use Rattle.std.specs.Prelude.{ℕ, ◌+◌, Bool, true, false, List, [], ◌∷◌, ◌++◌, length, Option, Some, None, option_map, is_some, slice_get, unwrap_or}
use Rattle.ctw_ops.specs.declared.types.Trust.TheVariants.{Untrusted}
use Rattle.ctw_ops.specs.Types.{ValueType, FunctionType, value_type}
use Rattle.ctw_ops.specs.Code.{Leaf, Unreachable, Nop, Br, BrIf, BrTable, Return, Call, CallIndirect, Drop, Select, LocalGet, LocalSet, LocalTee, GlobalGet, GlobalSet, Load, Store, MemorySize, MemoryGrow, Const, Numeric, Classify, Declassify, Code, Stop, Then, Block, Loop, If, IfElse}
use Rattle.ctw_ops.specs.Typing.{Context, optional, i32, inside}
use Rattle.ctw_ops.specs.Tree.{no_function_type}
use Rattle.ctw_stack.specs.declared.slot.Slot.{Slot}
use Rattle.ctw_stack.specs.declared.slot.Slot.TheVariants.{Known}
use Rattle.ctw_stack.specs.Operands.{Operands, fresh}
use Rattle.ctw_stack.specs.Steps.{expect, pushes, step}
use Rattle.ctw_labels.specs.Names.{Tag, At, Fixed, SiteName, BlockOf, OpOf, PushOf, IParam, IResult, Site, site, push_site, site_number}
use Rattle.ctw_labels.specs.Sited.{yes, Lift, Sited, Done, Does, Uses, Blocks, Loops, Ifs, IfElses, lifted, with_user}

-- types under site numbers from `n` on; a function type is untrusted
abbrev pub params_from : {A : Type 0} → ℕ → List (ValueType A) → List (ValueType Tag)
params_from n [] = []
params_from n (t ∷ ts) = value_type t.width (At n) ∷ params_from (n + 1) ts

abbrev pub result_from : {A : Type 0} → ℕ → Option (ValueType A) → Option (ValueType Tag)
result_from n t = option_map (λ u. value_type u.width (At n)) t

abbrev pub type_from : {A : Type 0} → ℕ → FunctionType A → FunctionType Tag
type_from n g =
    record { trust = Untrusted; params = params_from n g.params; result = result_from (n + length g.params) g.result }

-- sites for the items of a list, named from `i` on
abbrev pub sites_for : {A : Type 0} → (ℕ → SiteName) → ℕ → List A → List Site
sites_for name i [] = []
sites_for name i (x ∷ xs) = site (name i) ∷ sites_for name (i + 1) xs

abbrev pub site_if : {A : Type 0} → SiteName → Option A → List Site
site_if name None = []
site_if name (Some x) = site name ∷ []

-- the site of a push, for its lift
abbrev pub push_if : SiteName → Option (Lift Tag) → List Site
push_if name None = []
push_if name (Some l) = push_site name (site_number l.source) ∷ []

abbrev pub type_sites : {A : Type 0} → (ℕ → SiteName) → SiteName → FunctionType A → List Site
type_sites param result g = sites_for param 0 g.params ++ site_if result g.result

-- how many opcodes stand in a sequence, the `else` and `end` of its blocks among them
abbrev pub opcode_count : {A : Type 0} → Code A → ℕ
opcode_count Stop = 0
opcode_count (Then i rest) = 1 + opcode_count rest
opcode_count (Block t body rest) = opcode_count body + 2 + opcode_count rest
opcode_count (Loop t body rest) = opcode_count body + 2 + opcode_count rest
opcode_count (If t arm rest) = opcode_count arm + 2 + opcode_count rest
opcode_count (IfElse t arm other rest) = opcode_count arm + opcode_count other + 3 + opcode_count rest

-- a body's part in the numbering: its function's number, the module's types,
-- and the opcodes whose values may lose their secrecy
pub record BodyPlace (A : Type 0) : Type 0 where
  pub func : ℕ
  pub types : List (FunctionType A)
  pub free : ℕ → Bool

abbrev pub named_in : {A : Type 0} → List (FunctionType A) → ℕ → FunctionType A
named_in types y = unwrap_or (slice_get types y) no_function_type

-- the leaf under its own site, the memory's, or its push's
abbrev pub sited_leaf : {A : Type 0} → Context Tag → ℕ → Leaf A → Leaf Tag
sited_leaf C n Unreachable = Unreachable
sited_leaf C n Nop = Nop
sited_leaf C n (Br k) = Br k
sited_leaf C n (BrIf k) = BrIf k
sited_leaf C n (BrTable ks k) = BrTable ks k
sited_leaf C n Return = Return
sited_leaf C n (Call f) = Call f
sited_leaf C n (CallIndirect y) = CallIndirect y
sited_leaf C n Drop = Drop
sited_leaf C n (Select l) = Select (At n)
sited_leaf C n (LocalGet x) = LocalGet x
sited_leaf C n (LocalSet x) = LocalSet x
sited_leaf C n (LocalTee x) = LocalTee x
sited_leaf C n (GlobalGet x) = GlobalGet x
sited_leaf C n (GlobalSet x) = GlobalSet x
sited_leaf C n (Load w l bytes signed align offset) = Load w (unwrap_or C.memory Fixed) bytes signed align offset
sited_leaf C n (Store w l bytes align offset) = Store w (unwrap_or C.memory Fixed) bytes align offset
sited_leaf C n MemorySize = MemorySize
sited_leaf C n MemoryGrow = MemoryGrow
sited_leaf C n (Const w l bits) = Const w (At n) bits
sited_leaf C n (Numeric op l) = Numeric op (At n)
sited_leaf C n (Classify w) = Classify w
sited_leaf C n (Declassify w) = Declassify w

-- the leaf's sites before its push; a constant's own site is its push
abbrev pub own_sites : {A : Type 0} → BodyPlace A → ℕ → Leaf A → List Site
own_sites P at (Numeric op l) = site (OpOf P.func at) ∷ []
own_sites P at (Select l) = site (OpOf P.func at) ∷ []
own_sites P at (Const w l bits) = site (PushOf P.func at) ∷ []
own_sites P at (CallIndirect y) = type_sites (IParam P.func at) (IResult P.func at) (named_in P.types y)
own_sites P at _ = []

-- whether the leaf leaves a value on top, under another site than its own
abbrev pub has_push : {A : Type 0} → BodyPlace A → Context Tag → Leaf A → Bool
has_push P C (BrIf k) = unwrap_or (option_map is_some (slice_get C.labels k)) false
has_push P C (Call f) = unwrap_or (option_map (λ g. is_some g.result) (slice_get C.functions f)) false
has_push P C (CallIndirect y) = is_some (named_in P.types y).result
has_push P C (Select l) = true
has_push P C (LocalGet x) = true
has_push P C (LocalTee x) = true
has_push P C (GlobalGet x) = true
has_push P C (Load w l bytes signed align offset) = true
has_push P C MemorySize = true
has_push P C MemoryGrow = true
has_push P C (Numeric op l) = true
has_push P C _ = false

-- the lift of the value on top to the site `p`, where its width is known
abbrev pub top_lift : Bool → ℕ → List (Slot Tag) → Option (Lift Tag)
top_lift free p (Known w a ∷ xs) = Some (record { width = w; source = a; target = At p; free = free })
top_lift free p _ = None

abbrev pub lift_of : Bool → Bool → ℕ → Option (Operands Tag) → Option (Lift Tag)
lift_of true free p (Some m) = top_lift free p m.slots
lift_of _ free p _ = None

-- the operands behind a leaf and its lift; where the pass gets no further it begins anew, which no valid code does
abbrev pub after_lift : {S : Type 0} → Option (Lift S) → Option (Operands S) → Operands S
after_lift l None = fresh
after_lift l (Some m) = lifted l m

-- sited code, its sites in order, and the operands behind it by the pass that tests no tags
pub record Numbered : Type 0 where
  pub code : Sited Tag
  pub sites : List Site
  pub last : Operands Tag

-- what the pass without tests makes of the leaf
abbrev pub stepped : {A : Type 0} → BodyPlace A → Context Tag → ℕ → Leaf A → Operands Tag → Option (Operands Tag)
stepped P C n (CallIndirect y) o = step yes (with_user (type_from n (named_in P.types y)) C) (CallIndirect 0) o
stepped P C n i o = step yes C (sited_leaf C n i) o

abbrev pub leaf_lift : {A : Type 0} → BodyPlace A → Context Tag → ℕ → ℕ → Leaf A → Operands Tag → Option (Lift Tag)
leaf_lift P C n at i o = lift_of (has_push P C i) (P.free at) (n + length (own_sites P at i)) (stepped P C n i o)

abbrev pub leaf_sites : {A : Type 0} → BodyPlace A → Context Tag → ℕ → ℕ → Leaf A → Operands Tag → List Site
leaf_sites P C n at i o = own_sites P at i ++ push_if (PushOf P.func at) (leaf_lift P C n at i o)

abbrev pub leaf_node : {A : Type 0} → BodyPlace A → Context Tag → ℕ → Leaf A → Option (Lift Tag) → Sited Tag → Sited Tag
leaf_node P C n (CallIndirect y) l rest = Uses y (type_from n (named_in P.types y)) l rest
leaf_node P C n i l rest = Does (sited_leaf C n i) l rest

-- a block's site and its push, where it has a result
abbrev pub block_sites : {A : Type 0} → ℕ → ℕ → ℕ → Option (ValueType A) → List Site
block_sites f at n None = []
block_sites f at n (Some t) = site (BlockOf f at) ∷ push_site (PushOf f at) (Some n) ∷ []

abbrev pub block_lift : {A : Type 0} → Bool → ℕ → Option (ValueType A) → Option (Lift Tag)
block_lift free n None = None
block_lift free n (Some t) = Some (record { width = t.width; source = At n; target = At (n + 1); free = free })

abbrev pub behind_block : {A : Type 0} → Bool → ℕ → Option (ValueType A) → Operands Tag → Operands Tag
behind_block free n t o = lifted (block_lift free n t) (pushes (optional (result_from n t)) o)

-- code from the site number `n` and the opcode number `at` on, with the operands `o` of the pass without tests
abbrev pub number : {A : Type 0} → BodyPlace A → Context Tag → Code A → ℕ → ℕ → Operands Tag → Numbered
number P C Stop n at o = record { code = Done; sites = []; last = o }
number P C (Then i rest) n at o =
    let l = leaf_lift P C n at i o in
    let own = leaf_sites P C n at i o in
    let r = number P C rest (n + length own) (at + 1) (after_lift l (stepped P C n i o)) in
    record { code = leaf_node P C n i l r.code; sites = own ++ r.sites; last = r.last }
number P C (Block t body rest) n at o =
    let own = block_sites P.func at n t in
    let b = number P (inside (result_from n t) C) body (n + length own) (at + 1) fresh in
    let r = number P C rest (n + length own + length b.sites) (at + opcode_count body + 2) (behind_block (P.free at) n t o) in
    record {
      code = Blocks (result_from n t) (block_lift (P.free at) n t) b.code r.code;
      sites = own ++ b.sites ++ r.sites;
      last = r.last;
    }
number P C (Loop t body rest) n at o =
    let own = block_sites P.func at n t in
    let b = number P (inside None C) body (n + length own) (at + 1) fresh in
    let r = number P C rest (n + length own + length b.sites) (at + opcode_count body + 2) (behind_block (P.free at) n t o) in
    record {
      code = Loops (result_from n t) (block_lift (P.free at) n t) b.code r.code;
      sites = own ++ b.sites ++ r.sites;
      last = r.last;
    }
number P C (If t arm rest) n at o =
    let own = block_sites P.func at n t in
    let b = number P (inside (result_from n t) C) arm (n + length own) (at + 1) fresh in
    let r = number P C rest (n + length own + length b.sites) (at + opcode_count arm + 2) (behind_block (P.free at) n t (unwrap_or (expect yes (i32 C) o) fresh)) in
    record {
      code = Ifs (result_from n t) (block_lift (P.free at) n t) b.code r.code;
      sites = own ++ b.sites ++ r.sites;
      last = r.last;
    }
number P C (IfElse t arm other rest) n at o =
    let own = block_sites P.func at n t in
    let b = number P (inside (result_from n t) C) arm (n + length own) (at + 1) fresh in
    let c = number P (inside (result_from n t) C) other (n + length own + length b.sites) (at + opcode_count arm + 2) fresh in
    let r = number P C rest (n + length own + length b.sites + length c.sites) (at + opcode_count arm + opcode_count other + 3) (behind_block (P.free at) n t (unwrap_or (expect yes (i32 C) o) fresh)) in
    record {
      code = IfElses (result_from n t) (block_lift (P.free at) n t) b.code c.code r.code;
      sites = own ++ b.sites ++ c.sites ++ r.sites;
      last = r.last;
    }
