-- What a fault of a body tells.
use Rattle.std.specs.Prelude.{◌≡◌, ◌↔◌, ◌⊎◌, ℕ, true, List, [], ◌∷◌, map, Option, Some, None, Result, IfSome, slice_get, take, Bool, false}
use Rattle.std.specs.List.{AllByRecursion}
use Rattle.ctw_ops.specs.declared.types.Label.{Label}
use Rattle.ctw_ops.specs.declared.types.Label.TheVariants.{Secret}
use Rattle.ctw_ops.specs.declared.fault.SecretRule.{SecretRule}
use Rattle.ctw_ops.specs.declared.fault.SecretRule.TheVariants.{Condition, TableIndex, CallIndex, Address, Divide, GrowSize}
use Rattle.ctw_ops.specs.Types.{ValueType}
use Rattle.ctw_ops.specs.declared.numeric.Profile.{Profile}
use Rattle.ctw_ops.specs.Numeric.{leaks}
use Rattle.ctw_ops.specs.Code.{Leaf, Code, Op, Plain, Numeric, opcodes}
use Rattle.ctw_ops.specs.Typing.{Context}
use Rattle.ctw_ops.specs.FirstFault.{FindsFault}
use Rattle.ctw_ops.specs.CutTyping.{StopsAt, Reaches}
use Rattle.ctw_stack.specs.Secrets.{HasTagAt}
use Rattle.ctw_stack.specs.Pass.{Level, within, outermost, run}
use Rattle.ctw_valid.specs.declared.fault.BodyFault.{BodyFault}
use Rattle.ctw_valid.specs.declared.fault.BodyFault.TheVariants.{Index, Align, Immutable, Trust, SecretPlace, WrongType, NoMemory}
use Rattle.ctw_valid.specs.Faults.{same_label, is_there, is_aligned, is_mutable, is_allowed, guards, guarded, fault_from}

-- the number of the opcode that a fault names
abbrev pub place_of : BodyFault → Option ℕ
place_of (Index at) = Some at
place_of (Align at) = Some at
place_of (Immutable at) = Some at
place_of (Trust at) = Some at
place_of (SecretPlace at rule) = Some at
place_of (WrongType at) = Some at
place_of NoMemory = None

-- the typing of the body stops at the opcode that a fault names, and at no other
abbrev pub NamesTheStop : Context Label → Code Label → BodyFault → Type 0
NamesTheStop C code fault = IfSome (place_of fault) (λ at. (k : ℕ) → StopsAt C code k ↔ (k ≡ at))

-- an operation on secrets that leaks
abbrev pub IsSecretLeak : Profile → Op Label → Type 0
IsSecretLeak profile op = (n : ℕ) × (op ≡ Plain (Numeric n Secret)) × (leaks n profile ≡ true)

-- each typing of the body cut before its opcode `at` has a secret there at a place of the operands, the last one at 0
abbrev pub HasSecretAt : Context Label → Code Label → ℕ → ℕ → Type 0
HasSecretAt C code at place =
    (types : List (ValueType Label)) → Reaches C code at [] types → HasTagAt Secret place types

-- the body's opcode `at` breaks a rule: a secret operation leaks,
-- or there is a secret at the place where the rule wants none
abbrev pub BreaksRule : Context Label → Code Label → ℕ → SecretRule → Type 0
BreaksRule C code at rule =
    (op : Op Label) × (slice_get (opcodes code) at ≡ Some op)
    × (((rule ≡ Divide) × IsSecretLeak C.profile op)
    ⊎ ((place : ℕ) × (guarded op ≡ guards rule place) × HasSecretAt C code at place))

-- the body's opcode `at` fails a test
abbrev pub Fails : (Leaf Label → Bool) → Code Label → ℕ → Type 0
Fails test code at = (leaf : Leaf Label) × (slice_get (opcodes code) at ≡ Some (Plain leaf)) × (test leaf ≡ false)

-- among the blocks that are open before it the body's opcode `at` names what isn't there
abbrev pub NamesNothing : Context Label → Code Label → ℕ → Type 0
NamesNothing C code at =
    (levels : List (Level Label)) × (run same_label C (take at (opcodes code)) (outermost C) ≡ Some levels)
    × Fails (is_there (within C levels)) code at

-- all places where a secret isn't allowed
abbrev pub secret_rules : List SecretRule
secret_rules = Condition ∷ TableIndex ∷ CallIndex ∷ Address ∷ Divide ∷ GrowSize ∷ []

-- what a fault's kind says of its opcode; WrongType says nothing by itself
abbrev pub Says : Context Label → Code Label → BodyFault → Type 0
Says C code (Index at) = NamesNothing C code at
Says C code (Align at) = Fails is_aligned code at
Says C code (Immutable at) = Fails (is_mutable C) code at
Says C code (Trust at) = Fails (is_allowed C) code at
Says C code (SecretPlace at rule) = BreaksRule C code at rule
Says C code (WrongType at) = Unit {0}
Says C code NoMemory = Unit {0}

-- the faults of the kinds before a fault's own, at its opcode
abbrev pub faults_before : BodyFault → List BodyFault
faults_before (Index at) = []
faults_before (Align at) = Index at ∷ []
faults_before (Immutable at) = Index at ∷ Align at ∷ []
faults_before (Trust at) = Index at ∷ Align at ∷ Immutable at ∷ []
faults_before (SecretPlace at rule) = Index at ∷ Align at ∷ Immutable at ∷ Trust at ∷ []
faults_before (WrongType at) = Index at ∷ Align at ∷ Immutable at ∷ Trust at ∷ map (SecretPlace at) secret_rules
faults_before NoMemory = []

-- a fault's kind applies to its opcode, and none before it does
pub record Applies (C : Context Label) (code : Code Label) (fault : BodyFault) : Type 0 where
  pub says : Says C code fault
  pub first : AllByRecursion (λ earlier. Says C code earlier → ⊥) (faults_before fault)

-- the answer is the first fault of the body's opcodes, or memory ran out
abbrev pub Checks : Context Label → Code Label → Result (Unit {0}) BodyFault → Type 0
Checks C code result = FindsFault NoMemory result (fault_from C 0 (opcodes code) (outermost C))
