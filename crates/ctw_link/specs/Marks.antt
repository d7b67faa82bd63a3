-- Marks for the type entries that are found, and the indirect calls among opcodes.
use Rattle.std.specs.Prelude.{◌≡◌, ◌<◌, ℕ, Bool, false, nat_eq, List, [], ◌∷◌, length, get_or, All}
use Rattle.std.specs.List.{list_any}
use Rattle.ctw_ops.specs.declared.types.Label.{Label}
use Rattle.ctw_ops.specs.Code.{Op, Plain, Opens, Closes}
use Rattle.ctw_ops.specs.IndirectCalls.{call_of}

-- of the entries that have a mark those are marked that are found
abbrev pub MarksThose : List Bool → List ℕ → Type 0
MarksThose marks found = (entry : ℕ) → entry < length marks → get_or marks entry false ≡ list_any (nat_eq entry) found

abbrev pub AllBelow : ℕ → List ℕ → Type 0
AllBelow count entries = All (λ entry. entry < count) entries

-- the type's index, where an opcode is an indirect call, in front of others
abbrev pub call_in : Op Label → List ℕ → List ℕ
call_in (Plain leaf) others = call_of leaf others
call_in (Opens shape type) others = others
call_in (Closes closer) others = others

-- the types' indexes of the indirect calls among opcodes
abbrev pub calls_in : List (Op Label) → List ℕ
calls_in [] = []
calls_in (op ∷ ops) = call_in op (calls_in ops)
