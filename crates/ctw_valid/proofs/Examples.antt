-- The first faults of small bodies, by computation.
use Rattle.std.proofs.Common.{◌≡◌, Bool, true, false, List, [], ◌∷◌, Option, Some, None, map, refl}
use Rattle.ctw_ops.specs.declared.types.Width.TheVariants.{W32, W64}
use Rattle.ctw_ops.specs.declared.numeric.Profile.TheVariants as profiles
use Rattle.ctw_ops.specs.declared.types.Label.{Label}
use Rattle.ctw_ops.specs.declared.types.Label.TheVariants.{Public, Secret}
use Rattle.ctw_ops.specs.declared.types.Trust.{Trust as TrustOf}
use Rattle.ctw_ops.specs.declared.types.Trust.TheVariants.{Untrusted, Trusted}
use Rattle.ctw_ops.specs.declared.fault.SecretRule.TheVariants.{Condition, TableIndex, CallIndex, Address, Divide, GrowSize}
use Rattle.ctw_ops.specs.Types.{ValueType, FunctionType, value_type}
use Rattle.ctw_ops.specs.Numeric.{num_sig_of, is_timed, is_product, leaks}
use Rattle.ctw_ops.specs.Typing.{Context}
use Rattle.ctw_ops.specs.Code.{Leaf, Unreachable, Nop, Br, BrIf, BrTable, Return, Call, CallIndirect, Drop, Select, LocalGet, LocalSet, LocalTee, GlobalGet, GlobalSet, Load, Store, MemorySize, MemoryGrow, Const, Numeric, Classify, Declassify, Code, Stop, Then, Block, Loop, If, IfElse, straight, opcodes}
use Rattle.ctw_stack.specs.Pass.{outermost}
use Rattle.ctw_valid.specs.declared.fault.BodyFault.{BodyFault}
use Rattle.ctw_valid.specs.declared.fault.BodyFault.TheVariants.{Index, Align, Immutable, Trust, SecretPlace, WrongType}
use Rattle.ctw_valid.specs.Faults.{fault_from}

abbrev i32 : ValueType Label
i32 = value_type W32 Public

abbrev s32 : ValueType Label
s32 = value_type W32 Secret

abbrev type : TrustOf → List (ValueType Label) → Option (ValueType Label) → FunctionType Label
type trust params result = record { trust = trust; params = params; result = result }

abbrev types : List (FunctionType Label)
types = type Untrusted [] None ∷ type Untrusted (s32 ∷ []) None ∷ type Trusted (s32 ∷ []) (Some i32) ∷ type Untrusted (i32 ∷ s32 ∷ []) (Some i32) ∷ []

-- Four types, a function of each, a global i32 and a constant s32, and locals i32 and s32.
abbrev own_context : Option Label → Bool → TrustOf → Option (ValueType Label) → Context Label
own_context memory table trust result = record {
  types = types;
  functions = types;
  globals = record { mutable = true; value = i32 } ∷ record { mutable = false; value = s32 } ∷ [];
  locals = i32 ∷ s32 ∷ [];
  memory = memory;
  table = table;
  trust = trust;
  result = result;
  labels = result ∷ [];
  public = Public;
  secret = Secret;
  profile = profiles.Divide;
}

-- an untrusted function without a result, in a module with a public memory and a table
abbrev plain : Context Label
plain = own_context (Some Public) true Untrusted None

-- the same without a memory and a table
abbrev bare : Context Label
bare = own_context None false Untrusted None

abbrev first_faults : Context Label → List (Code Label) → List (Option BodyFault)
first_faults C bodies = map (λ code. fault_from C 0 (opcodes code) (outermost C)) bodies

abbrev i32_const : Leaf Label
i32_const = Const W32 Public 0

abbrev s32_const : Leaf Label
s32_const = Const W32 Secret 0

abbrev s64_const : Leaf Label
s64_const = Const W64 Secret 0

abbrev i64_const : Leaf Label
i64_const = Const W64 Public 0

abbrev load : Leaf Label
load = Load W32 Public 4 false 2 0

abbrev store : Leaf Label
store = Store W32 Public 4 2 0

abbrev secret_load : Leaf Label
secret_load = Load W32 Secret 4 false 2 0

-- ---- typed bodies

good : first_faults plain (
    straight [] ∷
    straight (Nop ∷ LocalGet 0 ∷ LocalTee 0 ∷ LocalSet 0 ∷ []) ∷
    straight (GlobalGet 1 ∷ Drop ∷ i32_const ∷ GlobalSet 0 ∷ []) ∷
    straight (i32_const ∷ load ∷ MemoryGrow ∷ Drop ∷ MemorySize ∷ i32_const ∷ store ∷ []) ∷
    straight (i32_const ∷ s32_const ∷ Call 3 ∷ CallIndirect 0 ∷ []) ∷
    straight (s64_const ∷ s64_const ∷ s32_const ∷ Select Secret ∷ Drop ∷ []) ∷
    straight (i64_const ∷ Classify W64 ∷ Drop ∷ Return ∷ []) ∷
    straight (s32_const ∷ s32_const ∷ Numeric 0x6A Secret ∷ Numeric 0x45 Secret ∷ Drop ∷ i32_const ∷ i32_const ∷ Numeric 0x6D Public ∷ Drop ∷ []) ∷
    Loop (Some s32) (straight (i32_const ∷ BrIf 0 ∷ s32_const ∷ [])) (straight (Drop ∷ [])) ∷
    Then i32_const (IfElse (Some i32) (straight (i32_const ∷ [])) (straight (i32_const ∷ Br 0 ∷ [])) (straight (BrTable (0 ∷ []) 0 ∷ []))) ∷
    straight (Unreachable ∷ Select Public ∷ Drop ∷ []) ∷
    straight (Return ∷ Numeric 0x6D Public ∷ LocalSet 0 ∷ Call 3 ∷ Drop ∷ []) ∷
    []) ≡ None ∷ None ∷ None ∷ None ∷ None ∷ None ∷ None ∷ None ∷ None ∷ None ∷ None ∷ None ∷ []
unfolding num_sig_of is_timed is_product leaks
good = refl

-- ---- secrets

secrets : first_faults plain (
    Block None (straight (LocalGet 1 ∷ BrIf 0 ∷ [])) Stop ∷
    straight (s64_const ∷ BrIf 0 ∷ []) ∷
    Then s32_const (If None Stop Stop) ∷
    straight (s32_const ∷ BrTable [] 0 ∷ []) ∷
    straight (s32_const ∷ CallIndirect 0 ∷ []) ∷
    straight (s32_const ∷ load ∷ []) ∷
    straight (s32_const ∷ secret_load ∷ []) ∷
    straight (s32_const ∷ i64_const ∷ store ∷ []) ∷
    straight (s32_const ∷ MemoryGrow ∷ []) ∷
    straight (Numeric 0x6D Secret ∷ []) ∷
    straight (Unreachable ∷ i32_const ∷ Classify W32 ∷ BrIf 0 ∷ []) ∷
    straight (Unreachable ∷ s32_const ∷ i32_const ∷ store ∷ []) ∷
    straight (Unreachable ∷ Select Secret ∷ BrIf 0 ∷ []) ∷
    straight (Unreachable ∷ Numeric 0x82 Secret ∷ []) ∷
    []) ≡
    Some (SecretPlace 2 Condition) ∷ Some (SecretPlace 1 Condition) ∷ Some (SecretPlace 1 Condition) ∷ Some (SecretPlace 1 TableIndex) ∷ Some (SecretPlace 1 CallIndex) ∷
    Some (SecretPlace 1 Address) ∷ Some (SecretPlace 1 Address) ∷ Some (SecretPlace 2 Address) ∷ Some (SecretPlace 1 GrowSize) ∷ Some (SecretPlace 0 Divide) ∷
    Some (SecretPlace 3 Condition) ∷ Some (SecretPlace 3 Address) ∷ Some (SecretPlace 2 Condition) ∷ Some (SecretPlace 1 Divide) ∷ []
unfolding num_sig_of is_timed is_product leaks
secrets = refl

-- ---- types

wrong_types : first_faults plain (
    straight (i64_const ∷ BrIf 0 ∷ []) ∷
    straight (Drop ∷ []) ∷
    straight (i32_const ∷ []) ∷
    straight (i32_const ∷ secret_load ∷ []) ∷
    straight (i32_const ∷ s32_const ∷ i32_const ∷ Select Public ∷ []) ∷
    straight (i32_const ∷ i64_const ∷ i32_const ∷ Select Public ∷ []) ∷
    straight (Unreachable ∷ s32_const ∷ store ∷ []) ∷
    Block (Some i32) (straight (Unreachable ∷ BrTable (0 ∷ []) 1 ∷ [])) Stop ∷
    Then i32_const (If (Some i32) (straight (i32_const ∷ [])) (straight (Drop ∷ []))) ∷
    Block (Some i32) (straight (s32_const ∷ [])) Stop ∷
    straight (s32_const ∷ Call 3 ∷ []) ∷
    []) ≡
    Some (WrongType 1) ∷ Some (WrongType 0) ∷ Some (WrongType 1) ∷ Some (WrongType 1) ∷ Some (WrongType 3) ∷ Some (WrongType 3) ∷ Some (WrongType 2) ∷ Some (WrongType 2) ∷ Some (WrongType 3) ∷ Some (WrongType 2) ∷
    Some (WrongType 1) ∷ []
wrong_types = refl

-- ---- names, alignments, constants and trust, whatever the operands are

names : first_faults bare (
    straight (Br 1 ∷ []) ∷
    straight (BrTable (1 ∷ []) 0 ∷ []) ∷
    straight (Call 4 ∷ []) ∷
    straight (CallIndirect 0 ∷ []) ∷
    straight (LocalGet 2 ∷ []) ∷
    straight (GlobalSet 2 ∷ []) ∷
    straight (Load W32 Secret 4 false 9 0 ∷ []) ∷
    straight (Unreachable ∷ MemoryGrow ∷ []) ∷
    []) ≡
    Some (Index 0) ∷ Some (Index 0) ∷ Some (Index 0) ∷ Some (Index 0) ∷ Some (Index 0) ∷ Some (Index 0) ∷ Some (Index 0) ∷ Some (Index 1) ∷ []
names = refl

others : first_faults plain (
    straight (s32_const ∷ Load W32 Public 4 false 3 0 ∷ []) ∷
    straight (Store W64 Secret 1 32 0 ∷ []) ∷
    straight (GlobalSet 1 ∷ []) ∷
    straight (LocalGet 1 ∷ Call 2 ∷ []) ∷
    straight (LocalGet 1 ∷ CallIndirect 2 ∷ []) ∷
    straight (Declassify W32 ∷ []) ∷
    straight (CallIndirect 4 ∷ []) ∷
    []) ≡
    Some (Align 1) ∷ Some (Align 0) ∷ Some (Immutable 0) ∷ Some (Trust 1) ∷ Some (Trust 1) ∷ Some (Trust 0) ∷ Some (Index 0) ∷ []
others = refl

-- a trusted function gives back the lowest bit of a secret
trusted : first_faults (own_context None false Trusted (Some i32)) (straight (LocalGet 1 ∷ s32_const ∷ Numeric 0x71 Secret ∷ Declassify W32 ∷ []) ∷ []) ≡ None ∷ []
unfolding num_sig_of is_timed is_product leaks
trusted = refl
