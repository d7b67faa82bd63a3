-- The indirect calls of a body: the entry of each one's type, and its first site.
use Rattle.std.specs.Prelude.{ℕ, ◌+◌, List, [], ◌∷◌, ◌++◌, length, map}
use Rattle.ctw_ops.specs.Types.{FunctionType}
use Rattle.ctw_ops.specs.Code.{CallIndirect, Op, Plain, Opens, Closes}
use Rattle.ctw_ops.specs.Typing.{Context}
use Rattle.ctw_stack.specs.Opens.{Open}
use Rattle.ctw_labels.specs.declared.tag.Tag.{Tag}
use Rattle.ctw_labels.specs.Numbering.{BodyPlace, type_from, named_in}
use Rattle.ctw_labels.specs.FlatSites.{opens_behind, op_sites}
use Rattle.ctw_links.specs.declared.user.User.{User}

abbrev pub user : ℕ → ℕ → User
user entry first = record { entry = entry; first = first }

-- of an opcode whose sites begin at `n`
abbrev pub op_users : {A : Type 0} → ℕ → Op A → List User
op_users n (Plain (CallIndirect y)) = user y n ∷ []
op_users n _ = []

-- of opcodes, from the site number `n` and the opcode number `at` on
abbrev pub flat_users : {A : Type 0} → BodyPlace A → Context Tag → List (Op A) → List (Open Tag) → ℕ → ℕ → List User
flat_users P C [] blocks n at = []
flat_users P C (op ∷ ops) blocks n at =
    op_users n op
    ++ flat_users P C ops (opens_behind P C n at op blocks) (n + length (op_sites P C n at op blocks)) (at + 1)

-- the type of a user, under its sites
abbrev pub type_of_user : {A : Type 0} → List (FunctionType A) → User → FunctionType Tag
type_of_user types u = type_from u.first (named_in types u.entry)

abbrev pub types_of_users : {A : Type 0} → List (FunctionType A) → List User → List (FunctionType Tag)
types_of_users types us = map (type_of_user types) us
