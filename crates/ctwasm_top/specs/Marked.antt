-- Files that hold a plain module and a text of marks.
use Rattle.std.specs.Prelude.{◌≡◌, ◌≤◌, ℕ, true, false, List, length, Some}
use Rattle.std.specs.Str.{is_utf8}
use Rattle.std.specs.FinMap.{get}
use Rattle.ctw_io.specs.Files.{Files}
use Rattle.ctw_ops.specs.declared.types.Label.{Label}
use Rattle.ctw_ops.specs.declared.numeric.Profile.{Profile}
use Rattle.ctw_ops.specs.Tree.{Module, under}
use Rattle.ctw_ops.specs.Valid.{IsValid}
use Rattle.ctw_form.specs.Spelled.{Spells}
use Rattle.ctw_inputs.specs.Inputs.{module_limit, marks_limit}

-- The files are there and within their limits. The bytes of one spell a plain module that is valid under the profile,
-- and those of the other are a text.
pub record HoldsMarked (files : Files) (profile : Profile) (name marks : List ℕ) : Type 0 where
  pub bytes : List ℕ
  pub told : get files name ≡ Some bytes
  pub short : length bytes ≤ module_limit
  pub tree : Module Label
  pub spelled : Spells bytes tree
  pub valid : IsValid (under profile tree)
  pub plain : tree.ct ≡ false
  pub text : List ℕ
  pub text_told : get files marks ≡ Some text
  pub text_short : length text ≤ marks_limit
  pub is_text : is_utf8 text ≡ true
