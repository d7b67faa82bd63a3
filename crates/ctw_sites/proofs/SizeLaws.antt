-- How many sites code and functions have at most, by how many opcodes and functions there are.
use Rattle.std.proofs.Common.{◌≤◌, ◌<◌, ◌^◌, ℕ, zero, suc, ◌+◌, ◌*◌, List, [], ◌∷◌, ◌++◌, length, map, Option, Some, None, ◌≡◌, refl, arith, length-append}
use Rattle.std.specs.List.{AllByRecursion}
use Rattle.std.specs.Prelude.{slice_get, unwrap_or}
use Rattle.std.proofs.lemmas.List.Elements.{recursion_from_All}
use Rattle.ctw_ops.specs.declared.types.Label.{Label}
use Rattle.ctw_ops.specs.declared.types.Trust.TheVariants.{Untrusted}
use Rattle.ctw_ops.specs.Types.{ValueType}
use Rattle.ctw_ops.specs.Code.{Leaf, Unreachable, Nop, Br, BrIf, BrTable, Return, Call, CallIndirect, Drop, Select, LocalGet, LocalSet, LocalTee, GlobalGet, GlobalSet, Load, Store, MemorySize, MemoryGrow, Const, Numeric, Classify, Declassify, Op, Closes, ByElse, ByEnd, onto, opcodes, Code, Stop, Then, Block, Loop, If, IfElse}
use Rattle.ctw_ops.specs.Limits.{most_params, most_locals_of_all, most_plain_bytes}
use Rattle.ctw_ops.specs.Typing.{Context, i32, inside, optional}
use Rattle.ctw_ops.specs.Tree.{Module, Function, TypeEntry, function_entries, global_types, imported_functions, memory_among, no_function_type, type_named}
use Rattle.ctw_ops.specs.WithinLimits.{IsWithinLimits}
use Rattle.ctw_form.proofs.Weights.{weight}
use Rattle.ctw_module.proofs.Sizes.{IsSized, opcodes_in, locals_in}
use Rattle.ctw_stack.specs.Operands.{Operands, fresh}
use Rattle.ctw_stack.specs.Steps.{expect}
use Rattle.ctw_labels.specs.declared.tag.Tag.{Tag}
use Rattle.ctw_labels.specs.declared.name.SiteName.{SiteName}
use Rattle.ctw_labels.specs.declared.name.SiteName.TheVariants.{Param, Result, Memory, Push, IParam, IResult}
use Rattle.ctw_labels.specs.Names.{Site}
use Rattle.ctw_labels.specs.Points.{no_points}
use Rattle.ctw_labels.specs.Sited.{yes, Lift}
use Rattle.ctw_labels.specs.Numbering.{BodyPlace, opcode_count, result_from, params_from, type_from, named_in, site_if, type_sites, push_if, own_sites, leaf_lift, after_lift, stepped, leaf_sites, block_sites, behind_block, number}
use Rattle.ctw_labels.specs.SitedModule.{site_count, function_sites, head_sites, site_context, place_of, first_defined, body_from, bodies_from, bodies, body_sites, sites}
use Rattle.ctw_labels.proofs.Contexts.{type_length}
use Rattle.ctw_sites.proofs.BodyLaws.{body_length}
use Rattle.ctw_sites.proofs.HeadLaws.{head_length}

push_most : (name : SiteName) (l : Option (Lift Tag)) → length (push_if name l) ≤ 1
push_most name None = omega arith
push_most name (Some l) = omega arith

block_most : (f at n : ℕ) (t : Option (ValueType Label)) → length (block_sites f at n t) ≤ 2
block_most f at n None = omega arith
block_most f at n (Some t) = omega arith

module _ (P : BodyPlace Label) (types : (y : ℕ) → site_count (named_in P.types y) ≤ 1001) where
  own_most : (at : ℕ) (i : Leaf Label) → length (own_sites P at i) ≤ 1001
  own_most at Unreachable = omega arith
  own_most at Nop = omega arith
  own_most at (Br k) = omega arith
  own_most at (BrIf k) = omega arith
  own_most at (BrTable ks k) = omega arith
  own_most at Return = omega arith
  own_most at (Call f) = omega arith
  own_most at (CallIndirect y) = let l = type_length (IParam P.func at) (IResult P.func at) (named_in P.types y) in omega (arith, l, types y)
  own_most at Drop = omega arith
  own_most at (Select l) = omega arith
  own_most at (LocalGet x) = omega arith
  own_most at (LocalSet x) = omega arith
  own_most at (LocalTee x) = omega arith
  own_most at (GlobalGet x) = omega arith
  own_most at (GlobalSet x) = omega arith
  own_most at (Load w l bytes signed align offset) = omega arith
  own_most at (Store w l bytes align offset) = omega arith
  own_most at MemorySize = omega arith
  own_most at MemoryGrow = omega arith
  own_most at (Const w l bits) = omega arith
  own_most at (Numeric op l) = omega arith
  own_most at (Classify w) = omega arith
  own_most at (Declassify w) = omega arith

  leaf_most : (C : Context Tag) (n at : ℕ) (i : Leaf Label) (o : Operands Tag) → length (leaf_sites P C n at i o) ≤ 1002
  leaf_most C n at i o =
      let l = length-append (own_sites P at i) (push_if (Push P.func at) (leaf_lift P C n at i o)) in
      omega (arith, l, own_most at i, push_most (Push P.func at) (leaf_lift P C n at i o))

  -- a body has at most 1,002 sites an opcode
  pub number_most : (C : Context Tag) (c : Code Label) (n at : ℕ) (o : Operands Tag) → length (number P C c n at o).sites ≤ 1002 * opcode_count c
  number_most C Stop n at o = omega arith
  number_most C (Then i rest) n at o =
      let own : List Site = leaf_sites P C n at i o in
      let s = after_lift (leaf_lift P C n at i o) (stepped P C n i o) in
      let r = number_most C rest (n + length own) (at + 1) s in
      omega (arith, length-append own (number P C rest (n + length own) (at + 1) s).sites, leaf_most C n at i o, r)
  number_most C (Block t body rest) n at o =
      let own : List Site = block_sites P.func at n t in
      let B : List Site = (number P (inside (result_from n t) C) body (n + length own) (at + 1) fresh).sites in
      let s = behind_block (P.free at) n t o in
      let R : List Site = (number P C rest (n + length own + length B) (at + opcode_count body + 2) s).sites in
      let b = number_most (inside (result_from n t) C) body (n + length own) (at + 1) fresh in
      let r = number_most C rest (n + length own + length B) (at + opcode_count body + 2) s in
      omega (arith, length-append (own ++ B) R, length-append own B, block_most P.func at n t, b, r)
  number_most C (Loop t body rest) n at o =
      let own : List Site = block_sites P.func at n t in
      let B : List Site = (number P (inside None C) body (n + length own) (at + 1) fresh).sites in
      let s = behind_block (P.free at) n t o in
      let R : List Site = (number P C rest (n + length own + length B) (at + opcode_count body + 2) s).sites in
      let b = number_most (inside None C) body (n + length own) (at + 1) fresh in
      let r = number_most C rest (n + length own + length B) (at + opcode_count body + 2) s in
      omega (arith, length-append (own ++ B) R, length-append own B, block_most P.func at n t, b, r)
  number_most C (If t arm rest) n at o =
      let own : List Site = block_sites P.func at n t in
      let B : List Site = (number P (inside (result_from n t) C) arm (n + length own) (at + 1) fresh).sites in
      let s = behind_block (P.free at) n t (unwrap_or (expect yes (i32 C) o) fresh) in
      let R : List Site = (number P C rest (n + length own + length B) (at + opcode_count arm + 2) s).sites in
      let b = number_most (inside (result_from n t) C) arm (n + length own) (at + 1) fresh in
      let r = number_most C rest (n + length own + length B) (at + opcode_count arm + 2) s in
      omega (arith, length-append (own ++ B) R, length-append own B, block_most P.func at n t, b, r)
  number_most C (IfElse t arm other rest) n at o =
      let own : List Site = block_sites P.func at n t in
      let B : List Site = (number P (inside (result_from n t) C) arm (n + length own) (at + 1) fresh).sites in
      let O : List Site = (number P (inside (result_from n t) C) other (n + length own + length B) (at + opcode_count arm + 2) fresh).sites in
      let s = behind_block (P.free at) n t (unwrap_or (expect yes (i32 C) o) fresh) in
      let R : List Site = (number P C rest (n + length own + length B + length O) (at + opcode_count arm + opcode_count other + 3) s).sites in
      let b = number_most (inside (result_from n t) C) arm (n + length own) (at + 1) fresh in
      let c = number_most (inside (result_from n t) C) other (n + length own + length B) (at + opcode_count arm + 2) fresh in
      let r = number_most C rest (n + length own + length B + length O) (at + opcode_count arm + opcode_count other + 3) s in
      omega (arith, length-append (own ++ B ++ O) R, length-append (own ++ B) O, length-append own B, block_most P.func at n t, b, c, r)

-- functions have at most 1,001 sites each
pub functions_most : (m : Module Label) → ((y : ℕ) → site_count (type_named m y) ≤ 1001) → (k : ℕ) (ys : List ℕ) → length (function_sites m k ys) ≤ 1001 * length ys
functions_most m h k [] = omega arith
functions_most m h k (y ∷ ys) =
    let l = length-append (type_sites (Param k) (Result k) (type_named m y)) (function_sites m (k + 1) ys) in
    let t = type_length (Param k) (Result k) (type_named m y) in
    omega (arith, l, t, h y, functions_most m h (k + 1) ys)

optional_most : (t : Option (ValueType Label)) → length (optional t) ≤ 1
optional_most None = omega arith
optional_most (Some t) = omega arith

types_within : (es : List (TypeEntry Label)) → AllByRecursion (λ entry. length entry.type.params ≤ most_params) es → (y : ℕ) → site_count (unwrap_or (slice_get (map (λ entry. entry.type) es) y) no_function_type) ≤ 1001
unfolding most_params
types_within [] h y = omega arith
types_within (e ∷ es) h zero = let k : length e.type.params ≤ 1000 = h.0 in omega (arith, k, optional_most e.type.result)
types_within (e ∷ es) h (suc y) = types_within es h.1 y

-- a function of a module within the limits has at most 1,001 sites
pub types_most : (m : Module Label) → IsWithinLimits m → (y : ℕ) → site_count (type_named m y) ≤ 1001
types_most m w y = types_within m.types (recursion_from_All (λ entry. length entry.type.params ≤ most_params) m.types w.params) y

onto_length : (c : Code Label) (ops : List (Op Label)) → length (onto c ops) ≡ opcode_count c + length ops
onto_length Stop ops = omega arith
onto_length (Then i rest) ops = let r = onto_length rest ops in omega (arith, r)
onto_length (Block t body rest) ops = let b = onto_length body (Closes ByEnd ∷ onto rest ops) in let r = onto_length rest ops in omega (arith, b, r)
onto_length (Loop t body rest) ops = let b = onto_length body (Closes ByEnd ∷ onto rest ops) in let r = onto_length rest ops in omega (arith, b, r)
onto_length (If t arm rest) ops = let b = onto_length arm (Closes ByEnd ∷ onto rest ops) in let r = onto_length rest ops in omega (arith, b, r)
onto_length (IfElse t arm other rest) ops =
    let b = onto_length arm (Closes ByElse ∷ onto other (Closes ByEnd ∷ onto rest ops)) in
    let c = onto_length other (Closes ByEnd ∷ onto rest ops) in
    let r = onto_length rest ops in
    omega (arith, b, c, r)

-- a body's opcodes are those of its sequence, and the closing end
pub opcodes_length : (c : Code Label) → length (opcodes c) ≡ opcode_count c + 1
opcodes_length c = onto_length c (Closes ByEnd ∷ [])

bodies_most : (m : Module Label) → ((y : ℕ) → site_count (type_named m y) ≤ 1001) → (q k n : ℕ) (fs : List (Function Label)) → length (body_sites (bodies_from m no_points q k n fs)) ≤ 1002 * weight opcodes_in fs + weight locals_in fs
bodies_most m h q k n [] = omega arith
bodies_most m h q k n (f ∷ fs) =
    let B : List Site = (body_from m no_points q k n f).sites in
    let p : ℕ = q + site_count (type_named m f.type) in
    let C : Context Tag = site_context m Untrusted (type_from q (type_named m f.type)) (params_from n f.locals) in
    let l = body_length m q k n f in
    let b = number_most (place_of m no_points k) h C f.body (n + length f.locals) 0 fresh in
    let r = bodies_most m h p (k + 1) (n + length B) fs in
    omega (arith, l, b, r, opcodes_length f.body, length-append B (body_sites (bodies_from m no_points p (k + 1) (n + length B) fs)))

site_if_most : {A : Type 0} (name : SiteName) (x : Option A) → length (site_if name x) ≤ 1
site_if_most name None = omega arith
site_if_most name (Some x) = omega arith

-- how many sites a module has at most, by its functions, globals, opcodes and declared locals
pub sites_most : (m : Module Label) → IsWithinLimits m → length (sites m) ≤ 1001 * length (function_entries m) + length (global_types m) + 1 + (1002 * weight opcodes_in m.functions + weight locals_in m.functions)
sites_most m w =
    let f = functions_most m (types_most m w) 0 (function_entries m) in
    let h = head_length m (length (global_types m)) refl in
    let b = bodies_most m (types_most m w) (first_defined m) (length (imported_functions m.imports)) (length (head_sites m)) m.functions in
    omega (arith, f, h, b, site_if_most Memory (memory_among m.imports m.memory), length-append (head_sites m) (body_sites (bodies m no_points)))

-- the site numbers of a module of a plain file fit into 32 bits
pub sites_fit : (m : Module Label) (bytes : ℕ) → IsWithinLimits m → IsSized m bytes → bytes ≤ most_plain_bytes → length (sites m) < 2 ^ 32
unfolding most_plain_bytes most_locals_of_all
sites_fit m bytes w z le =
    let s = sites_most m w in
    let l : weight locals_in m.functions ≤ 1000000 = z.locals in
    let f = z.functions in
    let g = z.globals in
    let o = z.opcodes in
    omega (arith, s, f, g, o, l, le)
