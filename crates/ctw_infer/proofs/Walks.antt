-- The walks over a body's opcodes and over functions that look for the first misused call.
use Rattle.std.proofs.Common.{◌≡◌, ◌≤◌, ◌<◌, ℕ, ◌+◌, ◌-◌, Bool, true, false, List, [], ◌∷◌, ◌++◌, length, map, drop, Option, Some, None, slice_get, nat_lt, if◌then◌else◌, Ok, Err, refl, sym, ap, ◌∙◌, subst, arith}
use Rattle.std.proofs.lemmas.Option.{none-some}
use Rattle.std.proofs.lemmas.List.{length-append, length-map}
use Rattle.ctw_ops.specs.declared.types.Label.{Label}
use Rattle.ctw_ops.specs.Code.{Code, Op, opcodes}
use Rattle.ctw_ops.specs.Tree.{Module, Function, imported_functions, function_entries}
use Rattle.ctw_flat.specs.declared.fault.CodeFault.{CodeFault}
use Rattle.ctw_flat.specs.Spelled.{IsBody}
use Rattle.ctw_flat.specs.Places.{Placed, Stand, ops_of, instr_in}
use Rattle.ctw_flat.proofs.Places.{stands, step, ended, no_fault}
use Rattle.ctw_module.specs.Lookup.{imported_count, function_named}
use Rattle.ctw_labels.specs.Points.{Points, has_number}
use Rattle.ctw_infer.specs.declared.trust.MisusedCall.{MisusedCall}
use Rattle.ctw_infer.specs.Misuse.{callee_in, if_trusted, misused_at, misused_from, misused_in, misused_within, misused_calls}
use Rattle.ctw_infer.proofs.Firsts.{first_behind_none, first_in_front, drop_there, drop_past}

-- ---- opcodes

-- the opcodes before a place are no misused calls; those that stand from it on are left
pub record CallsLeft (p : Points) (caller : ℕ) (bytes : List ℕ) (place at : ℕ) (code : Code Label) : Type 0 where
  pub left : List Placed
  pub stand : Stand bytes place left
  pub inside : place ≤ length bytes
  pub none : slice_get (misused_from p caller 0 (opcodes code)) 0 ≡ slice_get (misused_from p caller at (ops_of left)) 0

pub walk_begins : (p : Points) (caller : ℕ) (bytes : List ℕ) (code : Code Label) → IsBody bytes code → CallsLeft p caller bytes 0 0 code
walk_begins p caller bytes code m =
    let s = stands bytes 0 (opcodes code) (omega arith) m in
    record {
      left = s.0;
      stand = s.1;
      inside = omega arith;
      none = ap (λ l. slice_get (misused_from p caller 0 l) 0) (sym s.2);
    }

module _ (p : Points) (caller : ℕ) (bytes : List ℕ) (place at : ℕ) (code : Code Label) (op : Op Label) (next : ℕ) (h : CallsLeft p caller bytes place at code) (lt : place < length bytes) (within : next ≤ length bytes) (e : instr_in bytes place ≡ Ok (op, next)) where
  others : (rest : List Placed) × Stand bytes next rest × (ops_of h.left ≡ op ∷ ops_of rest)
  others = let s = step bytes place h.left op next lt h.stand e in (s.0, s.1, ap ops_of s.2)

  all_left : slice_get (misused_from p caller 0 (opcodes code)) 0 ≡ slice_get (misused_at caller at (if_trusted p (callee_in op)) ++ misused_from p caller (at + 1) (ops_of others.0)) 0
  all_left = h.none ∙ ap (λ l. slice_get (misused_from p caller at l) 0) others.2

  pub walk_on : if_trusted p (callee_in op) ≡ None → CallsLeft p caller bytes next (at + 1) code
  walk_on n = record {
    left = others.0;
    stand = others.1;
    inside = within;
    none = all_left ∙ ap (λ o. slice_get (misused_at caller at o ++ misused_from p caller (at + 1) (ops_of others.0)) 0) n;
  }

  pub walk_found : (callee : ℕ) → if_trusted p (callee_in op) ≡ Some callee → slice_get (misused_from p caller 0 (opcodes code)) 0 ≡ Some (record { caller = caller; at = at; callee = callee })
  walk_found callee n = all_left ∙ ap (λ o. slice_get (misused_at caller at o ++ misused_from p caller (at + 1) (ops_of others.0)) 0) n

pub walk_ends : (p : Points) (caller : ℕ) (bytes : List ℕ) (place at : ℕ) (code : Code Label) → CallsLeft p caller bytes place at code → length bytes ≤ place → slice_get (misused_from p caller 0 (opcodes code)) 0 ≡ None
walk_ends p caller bytes place at code h ge = h.none ∙ ap (λ l. slice_get (misused_from p caller at (ops_of l)) 0) (ended bytes place h.left h.inside ge h.stand)

-- each opcode that is left has a reading
pub walk_reads : (p : Points) (caller : ℕ) (bytes : List ℕ) (place at : ℕ) (code : Code Label) (f : CodeFault) → CallsLeft p caller bytes place at code → place < length bytes → instr_in bytes place ≡ Err f → ⊥
walk_reads p caller bytes place at code f h lt e = no_fault bytes place h.left f lt h.stand e

-- ---- functions

-- the functions before one have no misused calls
pub record FunctionsLeft (m : Module Label) (p : Points) (f : ℕ) : Type 0 where
  pub from : imported_count m ≤ f
  pub none : slice_get (misused_calls m p) 0 ≡ slice_get (misused_within p f (drop (f - imported_count m) m.functions)) 0

pub functions_begin : (m : Module Label) (p : Points) (f : ℕ) → f ≡ imported_count m → FunctionsLeft m p f
functions_begin m p f e = subst (λ (k : ℕ). FunctionsLeft m p k) (sym e) (record {
  from = omega arith;
  none = (let z : 0 ≡ imported_count m - imported_count m = omega arith in ap (λ (k : ℕ). slice_get (misused_within p (imported_count m) (drop k m.functions)) 0) z);
})

pub named_at : (m : Module Label) (f : ℕ) (F : Function Label) → function_named m f ≡ Some F → slice_get m.functions (f - imported_count m) ≡ Some F
named_at m f F e = go (nat_lt f (imported_count m)) e
  where
    go : (b : Bool) → (if b then None else slice_get m.functions (f - imported_count m)) ≡ Some F → slice_get m.functions (f - imported_count m) ≡ Some F
    go true q = absurd (none-some F q)
    go false q = q

module _ (m : Module Label) (p : Points) (f : ℕ) (F : Function Label) (h : FunctionsLeft m p f) (e : function_named m f ≡ Some F) where
  all_functions : slice_get (misused_calls m p) 0 ≡ slice_get (misused_in p f F ++ misused_within p (f + 1) (drop (f + 1 - imported_count m) m.functions)) 0
  all_functions =
      let n : f - imported_count m + 1 ≡ f + 1 - imported_count m = omega (arith, h.from) in
      h.none ∙ ap (λ l. slice_get (misused_within p f l) 0) (drop_there m.functions (f - imported_count m) F (named_at m f F e))
      ∙ ap (λ (k : ℕ). slice_get (misused_in p f F ++ misused_within p (f + 1) (drop k m.functions)) 0) n

  functions_none : slice_get (misused_in p f F) 0 ≡ None → FunctionsLeft m p (f + 1)
  functions_none n = record {
    from = omega (arith, h.from);
    none = all_functions ∙ first_behind_none (misused_in p f F) (misused_within p (f + 1) (drop (f + 1 - imported_count m) m.functions)) n;
  }

  -- a function is trusted
  pub functions_over : has_number f p.trusted ≡ true → FunctionsLeft m p (f + 1)
  functions_over t = functions_none (ap (λ b. slice_get (if b then [] else misused_from p f 0 (opcodes F.body)) 0) t)

  untrusted : has_number f p.trusted ≡ false → slice_get (misused_in p f F) 0 ≡ slice_get (misused_from p f 0 (opcodes F.body)) 0
  untrusted t = ap (λ b. slice_get (if b then [] else misused_from p f 0 (opcodes F.body)) 0) t

  pub functions_on : has_number f p.trusted ≡ false → slice_get (misused_from p f 0 (opcodes F.body)) 0 ≡ None → FunctionsLeft m p (f + 1)
  functions_on t n = functions_none (untrusted t ∙ n)

  pub functions_found : (call : MisusedCall) → has_number f p.trusted ≡ false → slice_get (misused_from p f 0 (opcodes F.body)) 0 ≡ Some call → slice_get (misused_calls m p) 0 ≡ Some call
  functions_found call t n = all_functions ∙ first_in_front (misused_in p f F) (misused_within p (f + 1) (drop (f + 1 - imported_count m) m.functions)) call (untrusted t ∙ n)

pub functions_end : (m : Module Label) (p : Points) (f : ℕ) → FunctionsLeft m p f → length (function_entries m) ≤ f → slice_get (misused_calls m p) 0 ≡ None
functions_end m p f h le =
    let l = length-append (imported_functions m.imports) (map (λ f. f.type) m.functions) in
    let d = length-map m.functions (λ (f : Function Label). f.type) in
    h.none ∙ ap (λ l. slice_get (misused_within p f l) 0) (drop_past m.functions (f - imported_count m) (omega (arith, le, l, d, h.from)))

-- ---- no function is trusted

module _ (p : Points) (none : p.trusted ≡ []) where
  no_trust : (f : ℕ) → has_number f p.trusted ≡ false
  no_trust f = ap (has_number f) none

  no_callee : (o : Option ℕ) → if_trusted p o ≡ None
  no_callee None = refl
  no_callee (Some f) = ap (λ b. if b then Some f else None) (no_trust f)

  no_calls : (caller at : ℕ) (ops : List (Op Label)) → misused_from p caller at ops ≡ []
  no_calls caller at [] = refl
  no_calls caller at (op ∷ ops) = ap (λ o. misused_at caller at o ++ misused_from p caller (at + 1) ops) (no_callee (callee_in op)) ∙ no_calls caller (at + 1) ops

  no_misuse : (k : ℕ) (fs : List (Function Label)) → misused_within p k fs ≡ []
  no_misuse k [] = refl
  no_misuse k (f ∷ fs) =
      ap (λ b. (if b then [] else misused_from p k 0 (opcodes f.body)) ++ misused_within p (k + 1) fs) (no_trust k)
      ∙ ap (λ l. l ++ misused_within p (k + 1) fs) (no_calls k 0 (opcodes f.body)) ∙ no_misuse (k + 1) fs

  pub no_misused_calls : (m : Module Label) → slice_get (misused_calls m p) 0 ≡ None
  no_misused_calls m = ap (λ l. slice_get l 0) (no_misuse (length (imported_functions m.imports)) m.functions)
