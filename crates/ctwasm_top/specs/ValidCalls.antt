-- What the commands say of modules, in terms of what bytes spell and which modules are valid.
use Rattle.std.specs.Prelude.{◌≡◌, ◌≤◌, ◌-◌, ℕ, true, List, [], ◌∷◌, length, Option, Some, None, Ok, All}
use Rattle.std.specs.Str.{is_utf8}
use Rattle.std.specs.FinMap.{get}
use Rattle.ctw_io.specs.Files.{Files}
use Rattle.ctw_ops.specs.declared.types.Label.{Label}
use Rattle.ctw_ops.specs.declared.numeric.Profile.{Profile}
use Rattle.ctw_ops.specs.Tree.{Module, under}
use Rattle.ctw_ops.specs.Valid.{IsValid}
use Rattle.ctw_ops.specs.Limits.{most_plain_bytes}
use Rattle.ctw_ops.specs.Erasure.{erase_module}
use Rattle.ctw_ops.specs.WithinLimits.{IsOctet}
use Rattle.ctw_form.specs.Spelled.{Spells}
use Rattle.ctw_labels.specs.SitedModule.{sites}
use Rattle.ctw_labels.specs.Kept.{IsKept}
use Rattle.ctw_sites.specs.Packed.{most_sites}
use Rattle.ctw_marks.specs.Readings.{MarkList, HasReading}
use Rattle.ctw_parse.specs.Assembled.{assembled as text_module}
use Rattle.ctw_write.specs.Canon.{canon}
use Rattle.ctwasm_top.specs.Texts.{text_limit}
use Rattle.ctw_link.specs.Sets.{ModuleSet}
use Rattle.ctw_link.specs.Matching.{AreMatching}
use Rattle.ctw_script.specs.declared.moves.Move.{Move}
use Rattle.ctw_moves.specs.States.{State}
use Rattle.ctw_moves.specs.LaunchedStates.{Ready, launch}
use Rattle.ctw_inputs.specs.Inputs.{NamedFile, module_limit, modules_limit, script_limit, vault_limit}
use Rattle.ctw_inputs.specs.Settling.{Reads}
use Rattle.ctw_words.specs.SessionWords.{same_in_once, same_in_run}
use Rattle.ctw_words.specs.Words.{Command, Check, Canon, Assemble, Text, Infer, Strip, Link, Run, Once, Work}
use Rattle.ctwasm_top.specs.Answer.{once_part}
use Rattle.ctwasm_top.specs.Marked.{HoldsMarked}

-- the file is there, within its limit, and its bytes spell a module that is valid under the profile
pub record HoldsValid (files : Files) (profile : Profile) (name : List ℕ) : Type 0 where
  pub bytes : List ℕ
  pub told : get files name ≡ Some bytes
  pub short : length bytes ≤ module_limit
  pub tree : Module Label
  pub spelled : Spells bytes tree
  pub valid : IsValid (under profile tree)

-- the file is there, within its limit, and its bytes spell a module
pub record HoldsModule (files : Files) (name : List ℕ) : Type 0 where
  pub bytes : List ℕ
  pub told : get files name ≡ Some bytes
  pub short : length bytes ≤ module_limit
  pub tree : Module Label
  pub spelled : Spells bytes tree

-- the file is there, within its limit, and a text that denotes a module
pub record HoldsText (files : Files) (name : List ℕ) : Type 0 where
  pub bytes : List ℕ
  pub told : get files name ≡ Some bytes
  pub short : length bytes ≤ text_limit
  pub is_text : is_utf8 bytes ≡ true
  pub tree : Module Label
  pub denotes : text_module bytes ≡ Ok tree

-- ---- marks

-- the files hold a plain module with no more sites than it may have, and marks of it that keep trust
pub record HoldsInference (files : Files) (profile : Profile) (name marks : List ℕ) : Type 0 where
  pub held : HoldsMarked files profile name marks
  pub few : length (sites (under profile held.tree)) ≤ most_sites
  pub marks_of : MarkList
  pub read : HasReading (under profile held.tree) held.text marks_of
  pub kept : IsKept (under profile held.tree) marks_of.points

-- ---- sets

-- Each part's file is there and within the limits, and its bytes spell a module that is valid under the profile. Of the
-- limit on all files so many bytes are left.
abbrev pub HoldParts : Files → Profile → ℕ → List NamedFile → ModuleSet → Type 0
HoldParts files profile left [] [] = Unit {0}
HoldParts files profile left (part ∷ parts) (p ∷ set) =
    (p.name ≡ part.name) × (bytes : List ℕ) × (get files part.file ≡ Some bytes) × (length bytes ≤ module_limit)
    × (length bytes ≤ left)
    × (tree : Module Label) × Spells bytes tree × (p.tree ≡ under profile tree) × IsValid p.tree
    × HoldParts files profile (left - length bytes) parts set
HoldParts files profile left parts set = ⊥

-- the files hold modules that are valid under the profile and match
pub record HoldsSet (files : Files) (profile : Profile) (parts : List NamedFile) : Type 0 where
  pub set : ModuleSet
  pub held : HoldParts files profile modules_limit parts set
  pub matching : AreMatching set

-- ---- sessions

-- the files hold a set and a vault with which it is launched
pub record HoldsSession (files : Files) (profile : Profile) (parts : List NamedFile) (vault : List ℕ) : Type 0 where
  pub set : ModuleSet
  pub held : HoldParts files profile modules_limit parts set
  pub matching : AreMatching set
  pub bytes : List ℕ
  pub told : get files vault ≡ Some bytes
  pub short : length bytes ≤ vault_limit
  pub state : State
  pub launched : launch set bytes ≡ Ready state

-- the file of a script that is a text and stands for moves
pub record HoldsScript (files : Files) (script : List ℕ) : Type 0 where
  pub text : List ℕ
  pub told : get files script ≡ Some text
  pub short : length text ≤ script_limit
  pub is_text : is_utf8 text ≡ true
  pub moves : List Move
  pub read : Reads text (Ok moves)

-- ---- by the command

-- what the files hold where the command's work can be done, and only there
abbrev pub HoldsInputs : Files → Option Command → Type 0
HoldsInputs files None = ⊥
HoldsInputs files (Some (Work profile seed size)) = Unit {0}
HoldsInputs files (Some (Check profile name)) = HoldsValid files profile name
HoldsInputs files (Some (Canon name)) = HoldsModule files name
HoldsInputs files (Some (Assemble name)) = HoldsText files name
HoldsInputs files (Some (Text profile name)) = HoldsValid files profile name
HoldsInputs files (Some (Infer profile name marks)) = HoldsInference files profile name marks
HoldsInputs files (Some (Strip profile name)) = HoldsValid files profile name
HoldsInputs files (Some (Link profile parts)) = HoldsSet files profile parts
HoldsInputs files (Some (Run profile w)) =
    (same_in_run w ≡ None) × HoldsScript files w.script × HoldsSession files profile w.parts w.vault
HoldsInputs files (Some (Once profile w)) =
    (same_in_once w ≡ None) × HoldsSession files profile (once_part w ∷ []) w.vault

-- ---- the modules that are written

-- what is written for a file whose bytes spell a module: other bytes, or the same, that spell that module
pub record IsSpelledAgain (files : Files) (name out : List ℕ) : Type 0 where
  pub bytes : List ℕ
  pub told : get files name ≡ Some bytes
  pub tree : Module Label
  pub spelled : Spells bytes tree
  pub again : Spells out tree

-- what is written for a text that denotes a module: the canonical bytes of the module
pub record IsAssembledText (files : Files) (name out : List ℕ) : Type 0 where
  pub bytes : List ℕ
  pub told : get files name ≡ Some bytes
  pub tree : Module Label
  pub denotes : text_module bytes ≡ Ok tree
  pub spelled : out ≡ canon tree

-- what is written for a file whose bytes spell a module: a text that denotes that module within the limits, so that it is
-- assembled to the canonical bytes of that module
pub record IsPrinted (files : Files) (name out : List ℕ) : Type 0 where
  pub bytes : List ℕ
  pub told : get files name ≡ Some bytes
  pub tree : Module Label
  pub spelled : Spells bytes tree
  pub denotes : All IsOctet bytes → text_module out ≡ Ok tree

-- What is written for a file whose bytes spell a module: no more bytes, which spell the erased module, if they aren't
-- longer than a plain module's file may be.
pub record IsSpelledErased (files : Files) (name out : List ℕ) : Type 0 where
  pub bytes : List ℕ
  pub told : get files name ≡ Some bytes
  pub tree : Module Label
  pub spelled : Spells bytes tree
  pub shorter : length out ≤ length bytes
  pub erased : length out ≤ most_plain_bytes → Spells out (erase_module tree)

-- what module it is whose bytes or text the command writes
abbrev pub WritesModule : Files → Option Command → List ℕ → Type 0
WritesModule files (Some (Canon name)) out = IsSpelledAgain files name out
WritesModule files (Some (Assemble name)) out = IsAssembledText files name out
WritesModule files (Some (Text profile name)) out = IsPrinted files name out
WritesModule files (Some (Strip profile name)) out = IsSpelledErased files name out
WritesModule files command out = Unit {0}
