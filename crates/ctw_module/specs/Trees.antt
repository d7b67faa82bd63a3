-- The module of a view: that which its file's bytes spell.
use Rattle.std.specs.Prelude.{ℕ, false, List, [], map, get_or, Result, Ok, Err}
use Rattle.ctw_ops.specs.declared.numeric.Profile.{Profile}
use Rattle.ctw_ops.specs.declared.numeric.Profile.TheVariants.{Divide}
use Rattle.ctw_ops.specs.declared.types.Label.{Label}
use Rattle.ctw_ops.specs.Tree.{Module, under}
use Rattle.ctw_leb.specs.Grammar.{state_after}
use Rattle.ctw_form.specs.declared.fault.FormFault.{FormFault}
use Rattle.ctw_form.specs.Sections.{Parts, no_parts, with_section}
use Rattle.ctw_form.specs.Spelled.{File, file_of, module_in}
use Rattle.ctw_form.specs.Read.{file_at}

-- what a view stands for: the bytes of its file, and a profile, which isn't spelled
pub record Lent : Type 0 where
  pub bytes : List ℕ
  pub profile : Profile

-- a view as it is made of a file
abbrev pub view_of : List ℕ → Lent
view_of bytes = record { bytes = bytes; profile = Divide }

abbrev pub or_empty : Result File FormFault → File
or_empty (Ok file) = file
or_empty (Err f) = file_of false []

-- the file that the bytes spell
unfoldable pub file_of_bytes : List ℕ → File
file_of_bytes bytes = or_empty (file_at bytes)

-- the module that a view's file spells
unfoldable pub tree : Lent → Module Label
tree lent = module_in (file_of_bytes lent.bytes)

-- the same under the view's profile: what is checked and run
abbrev pub view_module : Lent → Module Label
view_module lent = under lent.profile (tree lent)

-- what the sections of a view's file bring
unfoldable pub parts : Lent → Parts
parts lent = state_after with_section no_parts (file_of_bytes lent.bytes).sections

-- the bytes of a defined function's instructions; defined functions are numbered from 0 here
unfoldable pub code_of : Lent → ℕ → List ℕ
code_of lent defined = get_or (map (λ e. e.code) (parts lent).entries) defined []
