-- The fourth pass: limits, but for the bytes of a plain module.
use Rattle.std.specs.Prelude.{ℕ, zero, suc, ◌+◌, ◌&&◌, nat_lt, nat_le, Bool, true, false, cond, List, [], ◌∷◌, ◌++◌, Option, Some, None, Result, Ok, Err, map, length, filter, flat_map}
use Rattle.ctw_ops.specs.declared.numeric.Profile.TheVariants.{Divide}
use Rattle.ctw_ops.specs.declared.types.Label.{Label}
use Rattle.ctw_ops.specs.declared.fault.What.{What}
use Rattle.ctw_ops.specs.declared.fault.What.TheVariants.{Params, Results, Memories, Tables, Locals, Nesting}
use Rattle.ctw_ops.specs.ValueType.{ValueType}
use Rattle.ctw_ops.specs.Equal.{same_type}
use Rattle.ctw_ops.specs.Types.{FunctionType}
use Rattle.ctw_ops.specs.Code as ops
use Rattle.ctw_ops.specs.Code.{Code, Stop, ByEnd}
use Rattle.ctw_ops.specs.Limits.{most_params, most_results, most_nesting, most_locals, most_locals_of_all}
use Rattle.ctw_ops.specs.Segments.{nested}
use Rattle.ctw_ops.specs.Tree as tree
use Rattle.ctw_ops.specs.Tree.{Module, TypeEntry, Import, Extern, Function}
use Rattle.ctw_text.specs.Names.{Spelled, WideEntry, WideFunction, Wide}

pub record Excess : Type 0 where
  pub what : What
  pub limit : ℕ

abbrev pub excess : What → ℕ → Excess
excess what limit = record { what = what; limit = limit }

abbrev pub over : Bool → What → ℕ → List Excess
over b what limit = cond b (excess what limit ∷ []) []

abbrev pub entry_excess : WideEntry → List Excess
entry_excess e =
    over (nat_lt most_params (length e.type.params)) Params most_params
    ++ over (nat_lt most_results (length e.type.results)) Results most_results

abbrev pub is_table : Import Label → Bool
is_table i = of i.kind
  where
    of : Extern Label → Bool
    of (tree.ImportedTable limits) = true
    of _ = false

abbrev pub is_memory : Import Label → Bool
is_memory i = of i.kind
  where
    of : Extern Label → Bool
    of (tree.ImportedMemory t) = true
    of _ = false

-- second tables and memories among imports, in their order
abbrev pub import_excess : (table memory : Bool) → List (Import Label) → List Excess
import_excess table memory [] = []
import_excess table memory (i ∷ is) =
    over (table && is_table i) Tables 1 ++ over (memory && is_memory i) Memories 1
    ++ import_excess (cond (is_table i) true table) (cond (is_memory i) true memory) is

abbrev pub count_if : {X : Type 0} → (X → Bool) → List X → ℕ
count_if p xs = length (filter p xs)

-- blocks that are open behind an opcode
abbrev pub nesting_excess : (depth : ℕ) → List (ops.Op Label) → List Excess
nesting_excess depth [] = []
nesting_excess depth (ops.Opens shape t ∷ os) =
    over (nat_le most_nesting depth) Nesting most_nesting ++ nesting_excess (suc depth) os
nesting_excess zero (ops.Closes ByEnd ∷ os) = nesting_excess zero os
nesting_excess (suc depth) (ops.Closes ByEnd ∷ os) = nesting_excess depth os
nesting_excess depth (_ ∷ os) = nesting_excess depth os

-- the lengths of the greatest runs of equal types
abbrev pub runs : List (ValueType Label) → List ℕ
runs [] = []
runs (t ∷ ts) = longer (begins t ts) (runs ts)
  where
    begins : ValueType Label → List (ValueType Label) → Bool
    begins t [] = false
    begins t (u ∷ us) = same_type t u

    longer : Bool → List ℕ → List ℕ
    longer true (n ∷ ns) = suc n ∷ ns
    longer _ ns = 1 ∷ ns

-- locals in runs: `mine` stand before in this function, and `before` in the functions before
abbrev pub locals_excess : (mine before : ℕ) → List ℕ → List Excess
locals_excess mine before [] = []
locals_excess mine before (n ∷ ns) =
    over (nat_lt most_locals (mine + n)) Locals most_locals
    ++ over (nat_lt most_locals_of_all (before + mine + n)) Locals most_locals_of_all
    ++ locals_excess (mine + n) before ns

abbrev pub function_excess : (before : ℕ) → List WideFunction → List Excess
function_excess before [] = []
function_excess before (f ∷ fs) =
    locals_excess 0 before (runs f.locals) ++ nesting_excess 0 f.code ++ function_excess (before + length f.locals) fs

-- in the order in which a reader of the module's bytes meets them
abbrev pub excess_of : Wide → List Excess
excess_of m =
    flat_map entry_excess m.types ++ import_excess false false m.imports
    ++ over (nat_lt 1 (count_if is_table m.imports + length m.tables)) Tables 1
    ++ over (nat_lt 1 (count_if is_memory m.imports + length m.memories)) Memories 1
    ++ function_excess 0 m.functions

-- the module, where nothing is too much

abbrev pub first : {X : Type 0} → List X → Option X
first [] = None
first (x ∷ xs) = Some x

abbrev pub narrow_type : Spelled → FunctionType Label
narrow_type t = record { trust = t.trust; params = t.params; result = first t.results }

abbrev pub body_of : Option (Code Label) → Code Label
body_of None = Stop
body_of (Some code) = code

abbrev pub narrow : Wide → Module Label
narrow m = record {
  ct = m.ct;
  profile = Divide;
  types = map (λ (e : WideEntry). record { base = e.base; type = narrow_type e.type }) m.types;
  imports = m.imports;
  functions =
      map
      (λ (f : WideFunction). record { type = f.type; locals = f.locals; body = body_of (nested f.code) }) m.functions;
  table = first m.tables;
  memory = first m.memories;
  globals = m.globals;
  exports = m.exports;
  start = first m.start;
  elements = m.elements;
  segments = m.segments;
  customs = m.customs;
}

abbrev pub bounded : List Excess → Wide → Result (Module Label) Excess
bounded [] m = Ok (narrow m)
bounded (e ∷ es) m = Err e

-- the fourth pass
abbrev pub limited : Wide → Result (Module Label) Excess
limited m = bounded (excess_of m) m
