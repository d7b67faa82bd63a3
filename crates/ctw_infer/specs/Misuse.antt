-- Where trust is misused: the direct calls of trusted functions in other ones, and the trusted functions in elements.
use Rattle.std.specs.Prelude.{ℕ, ◌+◌, List, [], ◌∷◌, ◌++◌, length, filter, flat_map, Option, Some, None, if◌then◌else◌}
use Rattle.ctw_ops.specs.declared.types.Label.{Label}
use Rattle.ctw_ops.specs.Code.{Leaf, Call, Op, Plain, Opens, Closes, opcodes}
use Rattle.ctw_ops.specs.Tree.{Module, Function, imported_functions}
use Rattle.ctw_labels.specs.Points.{Points, has_number}
use Rattle.ctw_infer.specs.declared.trust.MisusedCall.{MisusedCall}

-- the function that a direct call names
abbrev pub callee_of : {S : Type 0} → Leaf S → Option ℕ
callee_of (Call f) = Some f
callee_of leaf = None

abbrev pub callee_in : {S : Type 0} → Op S → Option ℕ
callee_in (Plain leaf) = callee_of leaf
callee_in (Opens shape type) = None
callee_in (Closes closer) = None

-- the same, where it is trusted
abbrev pub if_trusted : Points → Option ℕ → Option ℕ
if_trusted p None = None
if_trusted p (Some f) = if has_number f p.trusted then Some f else None

abbrev pub misused_at : ℕ → ℕ → Option ℕ → List MisusedCall
misused_at caller at None = []
misused_at caller at (Some callee) = record { caller = caller; at = at; callee = callee } ∷ []

-- of a function that isn't trusted, the opcodes from number `at` on that are direct calls of trusted ones
abbrev pub misused_from : {S : Type 0} → Points → ℕ → ℕ → List (Op S) → List MisusedCall
misused_from p caller at [] = []
misused_from p caller at (op ∷ ops) =
    misused_at caller at (if_trusted p (callee_in op)) ++ misused_from p caller (at + 1) ops

-- of the defined functions from number `k` on
abbrev pub misused_in : Points → ℕ → Function Label → List MisusedCall
misused_in p k f = if has_number k p.trusted then [] else misused_from p k 0 (opcodes f.body)

abbrev pub misused_within : Points → ℕ → List (Function Label) → List MisusedCall
misused_within p k [] = []
misused_within p k (f ∷ fs) = misused_in p k f ++ misused_within p (k + 1) fs

-- the direct calls of trusted functions in other ones, by function and opcode
abbrev pub misused_calls : Module Label → Points → List MisusedCall
misused_calls m p = misused_within p (length (imported_functions m.imports)) m.functions

-- the trusted ones of some functions, in their order
abbrev pub trusted_among : Points → List ℕ → List ℕ
trusted_among p functions = filter (λ f. has_number f p.trusted) functions

-- the trusted functions in the elements, element by element
abbrev pub misused_entries : Module Label → Points → List ℕ
misused_entries m p = flat_map (λ e. trusted_among p e.functions) m.elements
