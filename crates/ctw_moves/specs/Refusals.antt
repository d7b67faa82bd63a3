-- Why a move is refused: for each move its refusals in their order, and for each refusal what it comes for, in other
-- words than `play`. Where several apply, the first of the move's list is answered.
use Rattle.std.specs.Prelude.{◌≡◌, ◌≤◌, ◌<◌, ℕ, ◌+◌, ◌-◌, ◌^◌, true, false, List, [], ◌∷◌, length, Some, None, slice_get}
use Rattle.std.specs.List.{AllZip}
use Rattle.ctw_ops.specs.declared.types.ExternTag.TheVariants as tag
use Rattle.ctw_ops.specs.declared.types.Label.{Label}
use Rattle.ctw_ops.specs.declared.types.Label.TheVariants.{Public, Secret}
use Rattle.ctw_ops.specs.Types.{ValueType, bit_width}
use Rattle.ctw_ops.specs.Limits.{most_steps}
use Rattle.ctw_script.specs.declared.moves.Arg.{Arg}
use Rattle.ctw_script.specs.declared.moves.Arg.TheVariants.{Number, Vault}
use Rattle.ctw_script.specs.declared.moves.Move.{Move}
use Rattle.ctw_script.specs.declared.moves.Move.TheVariants.{Begin, Turn, Leave, Poke, Peek, Seal, Reveal}
use Rattle.ctw_script.specs.declared.reply.Refusal.{Refusal}
use Rattle.ctw_script.specs.declared.reply.Refusal.TheVariants.{NoExport, BadArgs, SlotBusy, SlotFree, NoMemoryExport, Bounds, WrongLabel, VaultShort, TurnTooLong, SealedFull}
use Rattle.ctw_semantics.specs.Stores.{Memory}
use Rattle.ctw_semantics.specs.Instances.{FunctionInstance}
use Rattle.ctw_semantics.specs.Activations.{Activation}
use Rattle.ctw_link.specs.Sets.{ModuleSet}
use Rattle.ctw_link.specs.SetInstances.{set_instances}
use Rattle.ctw_link.specs.Exports.{exported}
use Rattle.ctw_moves.specs.States.{State, in_slot}
use Rattle.ctw_moves.specs.Arguments.{args_take}

-- ---- the order

abbrev pub refusals : Move → List Refusal
refusals (Begin slot part export args) = NoExport ∷ BadArgs ∷ SlotBusy ∷ VaultShort ∷ []
refusals (Turn slot steps) = SlotFree ∷ TurnTooLong ∷ []
refusals (Leave slot) = SlotFree ∷ []
refusals (Poke part memory at bytes) = NoMemoryExport ∷ Bounds ∷ []
refusals (Peek part memory at count) = NoMemoryExport ∷ Bounds ∷ WrongLabel ∷ []
refusals (Seal part memory at count) = NoMemoryExport ∷ Bounds ∷ WrongLabel ∷ VaultShort ∷ []
refusals (Reveal part memory at count) = NoMemoryExport ∷ Bounds ∷ WrongLabel ∷ SealedFull ∷ []

-- ---- what each comes for

-- a parameter of w bits takes a number from -2^(w-1) to 2^w - 1, and a secret one the next bytes of the vault
abbrev pub Takes : ValueType Label → Arg → Type 0
Takes t (Number true size) = size ≤ 2 ^ (bit_width t.width - 1)
Takes t (Number false size) = size < 2 ^ bit_width t.width
Takes t Vault = t.tag ≡ Secret

module _ (set : ModuleSet) (s : State) where
  -- the function, and the memory, that the part of a name exports under a name
  abbrev pub IsFunctionOf : List ℕ → List ℕ → FunctionInstance → Type 0
  IsFunctionOf part export fn =
      (n : ℕ) × (exported tag.Func set part export ≡ Some n) × (slice_get (set_instances set) n ≡ Some fn)

  abbrev pub IsMemoryOf : List ℕ → List ℕ → Memory → Type 0
  IsMemoryOf part memory m =
      (i : ℕ) × (exported tag.Memory set part memory ≡ Some i) × (slice_get s.storage.memories i ≡ Some m)

  -- bytes that pass a memory's end
  abbrev pub PassesEnd : List ℕ → List ℕ → ℕ → Type 0
  PassesEnd part memory end = (m : Memory) × IsMemoryOf part memory m × (length m.bytes < end)

  abbrev pub HasLabel : Label → List ℕ → List ℕ → Type 0
  HasLabel l part memory = (m : Memory) × IsMemoryOf part memory m × (m.type.tag ≡ l)

  abbrev pub Applies : Move → Refusal → Type 0
  Applies (Begin slot part export args) NoExport = (fn : FunctionInstance) → IsFunctionOf part export fn → ⊥
  Applies (Begin slot part export args) BadArgs =
      (fn : FunctionInstance) × IsFunctionOf part export fn × (AllZip Takes fn.type.params args → ⊥)
  Applies (Begin slot part export args) SlotBusy = (a : Activation) × (in_slot s slot ≡ Some a)
  Applies (Begin slot part export args) VaultShort =
      (fn : FunctionInstance) × IsFunctionOf part export fn × (length s.vault < args_take fn.type.params args)
  Applies (Turn slot steps) SlotFree = in_slot s slot ≡ None
  Applies (Turn slot steps) TurnTooLong = most_steps < steps
  Applies (Leave slot) SlotFree = in_slot s slot ≡ None
  Applies (Poke part memory at bytes) NoMemoryExport = (m : Memory) → IsMemoryOf part memory m → ⊥
  Applies (Poke part memory at bytes) Bounds = PassesEnd part memory (at + length bytes)
  Applies (Peek part memory at count) NoMemoryExport = (m : Memory) → IsMemoryOf part memory m → ⊥
  Applies (Peek part memory at count) Bounds = PassesEnd part memory (at + count)
  Applies (Peek part memory at count) WrongLabel = HasLabel Secret part memory
  Applies (Seal part memory at count) NoMemoryExport = (m : Memory) → IsMemoryOf part memory m → ⊥
  Applies (Seal part memory at count) Bounds = PassesEnd part memory (at + count)
  Applies (Seal part memory at count) WrongLabel = HasLabel Public part memory
  Applies (Seal part memory at count) VaultShort = length s.vault < count
  Applies (Reveal part memory at count) NoMemoryExport = (m : Memory) → IsMemoryOf part memory m → ⊥
  Applies (Reveal part memory at count) Bounds = PassesEnd part memory (at + count)
  Applies (Reveal part memory at count) WrongLabel = HasLabel Public part memory
  Applies (Reveal part memory at count) SealedFull = 16777216 < length s.sealed + count
  Applies _ _ = ⊥

-- the first refusal of a list that applies
pub record IsFirstOf (order : List Refusal) (Holds : Refusal → Type 0) (r : Refusal) : Type 0 where
  pub place : ℕ
  pub listed : slice_get order place ≡ Some r
  pub applies : Holds r
  pub earlier : (j : ℕ) (q : Refusal) → j < place → slice_get order j ≡ Some q → Holds q → ⊥

-- the refusal of a move in a state
abbrev pub IsRefusalOf : ModuleSet → State → Move → Refusal → Type 0
IsRefusalOf set s m r = IsFirstOf (refusals m) (Applies set s m) r
