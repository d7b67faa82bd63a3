-- The pass over a body's bytes, opcode by opcode.
use Rattle.std.proofs.Common.{◌≡◌, ◌⊎◌, inl, inr, ℕ, suc, ◌+◌, ◌<◌, ◌≤◌, List, length, Some, None, Ok, Err, refl, sym, ◌∙◌, ap, arith}
use Rattle.std.specs.Prelude.{◌≢◌}
use Rattle.ctw_ops.specs.declared.types.Label.{Label}
use Rattle.ctw_ops.specs.Code.{Code, Op, opcodes}
use Rattle.ctw_ops.specs.Typing.{Context}
use Rattle.ctw_stack.specs.Pass.{Level, within, outermost, flat}
use Rattle.ctw_flat.specs.declared.fault.CodeFault.{CodeFault}
use Rattle.ctw_flat.specs.Spelled.{IsBody}
use Rattle.ctw_flat.specs.Places.{Placed, Stand, ops_of, instr_in}
use Rattle.ctw_flat.proofs.Places.{stands, step, ended, no_fault, instr_behind}
use Rattle.ctw_stack.specs.Opens.{slot_count}
use Rattle.ctw_valid.specs.declared.around.Around.{Around}
use Rattle.ctw_valid.specs.declared.levels.Levels.{Levels}
use Rattle.ctw_valid.specs.Scope.{scope_of_body}
use Rattle.ctw_valid.specs.Levels.{levels_in, IsEven, IsNext}
use Rattle.ctw_valid.specs.declared.fault.BodyFault.{BodyFault}
use Rattle.ctw_valid.specs.declared.fault.BodyFault.TheVariants.{Index, Align, Immutable, Trust, SecretPlace, WrongType, NoMemory}
use Rattle.ctw_valid.specs.Faults.{same_label, kind_of, slots_of, unless_refused, fault_from}

-- of the body's opcodes those that stand from a place on are left, and the first of the body's faults is the first of theirs
pub record Going (C : Context Label) (code : Code Label) (bytes : List ℕ) (place at : ℕ) (levels : List (Level Label)) : Type 0 where
  pub left : List Placed
  pub stand : Stand bytes place left
  pub inside : place ≤ length bytes
  pub few : at ≤ place
  pub fault : fault_from C 0 (opcodes code) (outermost C) ≡ fault_from C at (ops_of left) levels

pub going_begins : (C : Context Label) (code : Code Label) (bytes : List ℕ) (levels : List (Level Label)) → IsBody bytes code → levels ≡ outermost C → Going C code bytes 0 0 levels
going_begins C code bytes levels m e =
    let s = stands bytes 0 (opcodes code) (omega arith) m in
    record {
      left = s.0;
      stand = s.1;
      inside = omega arith;
      few = omega arith;
      fault = ap (λ z. fault_from C 0 z (outermost C)) (sym s.2) ∙ ap (fault_from C 0 (ops_of s.0)) (sym e);
    }

-- the first opcode that is left decides
first : (C : Context Label) (code : Code Label) (bytes : List ℕ) (place at : ℕ) (levels : List (Level Label)) (op : Op Label) (next : ℕ) → (h : Going C code bytes place at levels) → place < length bytes → instr_in bytes place ≡ Ok (op, next)
    → (others : List Placed) × Stand bytes next others × (fault_from C 0 (opcodes code) (outermost C) ≡ unless_refused (kind_of (within C levels) op at (slots_of levels)) (fault_from C (suc at) (ops_of others)) (flat same_label C op levels))
first C code bytes place at levels op next h lt e =
    let s = step bytes place h.left op next lt h.stand e in
    (s.0, s.1, h.fault ∙ ap (λ z. fault_from C at (ops_of z) levels) s.2)

pub going_on : (C : Context Label) (code : Code Label) (bytes : List ℕ) (place at : ℕ) (levels after : List (Level Label)) (op : Op Label) (next : ℕ) → Going C code bytes place at levels → place < length bytes → instr_in bytes place ≡ Ok (op, next)
    → flat same_label C op levels ≡ Some after → Going C code bytes next (at + 1) after
going_on C code bytes place at levels after op next h lt e f =
    let s = first C code bytes place at levels op next h lt e in
    let b = instr_behind bytes place op next h.inside e in
    let one : suc at ≡ at + 1 = omega arith in
    record {
      left = s.0;
      stand = s.1;
      inside = b.1;
      few = omega (arith, b.0, h.few);
      fault = s.2 ∙ ap (unless_refused (kind_of (within C levels) op at (slots_of levels)) (fault_from C (suc at) (ops_of s.0))) f ∙ ap (λ n. fault_from C n (ops_of s.0) after) one;
    }

pub going_refused : (C : Context Label) (code : Code Label) (bytes : List ℕ) (place at : ℕ) (levels : List (Level Label)) (op : Op Label) (next : ℕ) → Going C code bytes place at levels → place < length bytes → instr_in bytes place ≡ Ok (op, next)
    → flat same_label C op levels ≡ None → fault_from C 0 (opcodes code) (outermost C) ≡ Some (kind_of (within C levels) op at (slots_of levels))
going_refused C code bytes place at levels op next h lt e f =
    let s = first C code bytes place at levels op next h lt e in
    s.2 ∙ ap (unless_refused (kind_of (within C levels) op at (slots_of levels)) (fault_from C (suc at) (ops_of s.0))) f

pub going_done : (C : Context Label) (code : Code Label) (bytes : List ℕ) (place at : ℕ) (levels : List (Level Label)) → Going C code bytes place at levels → length bytes ≤ place → fault_from C 0 (opcodes code) (outermost C) ≡ None
going_done C code bytes place at levels h ge = h.fault ∙ ap (λ z. fault_from C at (ops_of z) levels) (ended bytes place h.left h.inside ge h.stand)

-- each opcode that is left has a reading
pub going_reads : (C : Context Label) (code : Code Label) (bytes : List ℕ) (place at : ℕ) (levels : List (Level Label)) (f : CodeFault) → Going C code bytes place at levels → place < length bytes → instr_in bytes place ≡ Err f → ⊥
going_reads C code bytes place at levels f h lt e = no_fault bytes place h.left f lt h.stand e

-- the same for each body that the bytes spell, and of the levels that the code keeps
pub record Running (a : Around) (bytes : List ℕ) (place at : ℕ) (levels : Levels) : Type 0 where
  pub even : IsEven levels
  pub slots : slot_count levels.stack ≤ at
  pub few : at ≤ place
  pub inside : place ≤ length bytes
  pub going : (code : Code Label) → IsBody bytes code → Going (scope_of_body a) code bytes place at (levels_in levels)

pub running_begins : (a : Around) (bytes : List ℕ) (levels : Levels) → levels_in levels ≡ outermost (scope_of_body a) → IsEven levels → slot_count levels.stack ≡ 0 → Running a bytes 0 0 levels
running_begins a bytes levels e even n = record {
  even = even;
  slots = omega (arith, n);
  few = omega arith;
  inside = omega arith;
  going = λ code m. going_begins (scope_of_body a) code bytes (levels_in levels) m e;
}

pub running_on : (a : Around) (bytes : List ℕ) (place at : ℕ) (levels after : Levels) (op : Op Label) (next : ℕ) → Running a bytes place at levels → place < length bytes → instr_in bytes place ≡ Ok (op, next)
    → flat same_label (scope_of_body a) op (levels_in levels) ≡ Some (levels_in after) → IsNext levels after → Running a bytes next (at + 1) after
running_on a bytes place at levels after op next h lt e f n =
    let b = instr_behind bytes place op next h.inside e in
    record {
      even = n.even;
      slots = omega (arith, n.slots, h.slots);
      few = omega (arith, b.0, h.few);
      inside = b.1;
      going = λ code m. going_on (scope_of_body a) code bytes place at (levels_in levels) (levels_in after) op next (h.going code m) lt e f;
    }

memory_or : (e : BodyFault) → (e ≡ NoMemory) ⊎ (e ≢ NoMemory)
memory_or NoMemory = inl refl
memory_or (Index at) = inr (λ q. cc)
memory_or (Align at) = inr (λ q. cc)
memory_or (Immutable at) = inr (λ q. cc)
memory_or (Trust at) = inr (λ q. cc)
memory_or (SecretPlace at rule) = inr (λ q. cc)
memory_or (WrongType at) = inr (λ q. cc)

pub running_refused : (a : Around) (bytes : List ℕ) (place at : ℕ) (levels : Levels) (op : Op Label) (next : ℕ) (fault : BodyFault) → Running a bytes place at levels → place < length bytes → instr_in bytes place ≡ Ok (op, next)
    → (fault ≢ NoMemory → (flat same_label (scope_of_body a) op (levels_in levels) ≡ None) × (fault ≡ kind_of (within (scope_of_body a) (levels_in levels)) op at (slots_of (levels_in levels))))
    → (code : Code Label) → IsBody bytes code → (fault ≡ NoMemory) ⊎ (fault_from (scope_of_body a) 0 (opcodes code) (outermost (scope_of_body a)) ≡ Some fault)
running_refused a bytes place at levels op next fault h lt e f code m =
    elim (memory_or fault) [
      | inl q ↦ inl q
      | inr n ↦
          let k = f n in
          inr (going_refused (scope_of_body a) code bytes place at (levels_in levels) op next (h.going code m) lt e k.0 ∙ ap Some (sym k.1))
    ]
