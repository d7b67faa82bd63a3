-- The lines that refuse files and words.
use Rattle.std.specs.Prelude.{ℕ, List, [], ◌∷◌, decimal, codes}
use Rattle.ctw_ops.specs.declared.fault.What.{What}
use Rattle.ctw_ops.specs.declared.fault.What.TheVariants as what
use Rattle.ctw_ops.specs.declared.fault.Space.{Space}
use Rattle.ctw_ops.specs.declared.fault.Space.TheVariants as space
use Rattle.ctw_ops.specs.declared.fault.SecretRule.{SecretRule}
use Rattle.ctw_ops.specs.declared.fault.SecretRule.TheVariants as rule
use Rattle.ctw_form.specs.declared.fault.FormKind.{FormKind}
use Rattle.ctw_form.specs.declared.fault.FormKind.TheVariants as form
use Rattle.ctw_form.specs.declared.fault.FormFault.{FormFault}
use Rattle.ctw_valid.specs.declared.fault.BodyFault.{BodyFault}
use Rattle.ctw_valid.specs.declared.fault.BodyFault.TheVariants as body
use Rattle.ctw_modcheck.specs.declared.fault.Invalid.{Invalid}
use Rattle.ctw_modcheck.specs.declared.fault.Invalid.TheVariants as invalid
use Rattle.ctw_marks.specs.declared.fault.MarkFault.{MarkFault}
use Rattle.ctw_marks.specs.declared.fault.MarkFault.TheVariants as marks
use Rattle.ctw_infer.specs.declared.fault.InferFault.{InferFault}
use Rattle.ctw_infer.specs.declared.fault.InferFault.TheVariants as infer
use Rattle.ctw_script.specs.Lines.{spaced}
use Rattle.ctw_script.specs.declared.script.ScriptFault.{ScriptFault}
use Rattle.ctw_script.specs.declared.script.ScriptFault.TheVariants as script

-- a refusal of the command: its kind, and the word that it is about
abbrev pub refusal_line : List ℕ → List ℕ → List ℕ
refusal_line kind word = spaced (codes "refused" ∷ kind ∷ word ∷ [])

-- ---- refusals of modules

abbrev pub what_word : What → List ℕ
what_word what.Bytes = codes "Bytes"
what_word what.Params = codes "Params"
what_word what.Results = codes "Results"
what_word what.Memories = codes "Memories"
what_word what.Tables = codes "Tables"
what_word what.Locals = codes "Locals"
what_word what.Nesting = codes "Nesting"

abbrev pub form_word : FormKind → List ℕ
form_word form.BadMagic = codes "BadMagic"
form_word form.BadVersion = codes "BadVersion"
form_word form.Truncated = codes "Truncated"
form_word form.BadLeb = codes "BadLeb"
form_word form.BadSection = codes "BadSection"
form_word form.SizeMismatch = codes "SizeMismatch"
form_word form.CountMismatch = codes "CountMismatch"
form_word form.BadType = codes "BadType"
form_word form.BadOpcode = codes "BadOpcode"
form_word form.Floats = codes "Floats"
form_word form.BadUtf8 = codes "BadUtf8"
form_word form.Unbalanced = codes "Unbalanced"
form_word (form.TooMany kind limit) = codes "TooMany"
form_word form.LabelsInPlain = codes "LabelsInPlain"

-- what there is too much of, and the limit
abbrev pub excess_words : FormKind → List (List ℕ)
excess_words (form.TooMany kind limit) = what_word kind ∷ decimal limit ∷ []
excess_words _ = []

-- a file that spells no module
abbrev pub read_line : List ℕ → FormFault → List ℕ
read_line word fault =
    spaced
    (codes "refused" ∷ codes "read" ∷ word ∷ form_word fault.kind ∷ decimal fault.place ∷ excess_words fault.kind)

abbrev pub space_word : Space → List ℕ
space_word space.Types = codes "type"
space_word space.Imports = codes "import"
space_word space.Functions = codes "func"
space_word space.Tables = codes "table"
space_word space.Memories = codes "memory"
space_word space.Globals = codes "global"
space_word space.Exports = codes "export"
space_word space.Start = codes "start"
space_word space.Elements = codes "elem"
space_word space.Segments = codes "data"

abbrev pub rule_word : SecretRule → List ℕ
rule_word rule.Condition = codes "Condition"
rule_word rule.TableIndex = codes "TableIndex"
rule_word rule.CallIndex = codes "CallIndex"
rule_word rule.Address = codes "Address"
rule_word rule.Divide = codes "Divide"
rule_word rule.GrowSize = codes "GrowSize"

-- where the opcode stands, and what is wrong with it; want of memory is no fault of a body, and has no words
abbrev pub body_words : BodyFault → List (List ℕ)
body_words (body.Index at) = decimal at ∷ codes "Index" ∷ []
body_words (body.Align at) = decimal at ∷ codes "Align" ∷ []
body_words (body.Immutable at) = decimal at ∷ codes "Immutable" ∷ []
body_words (body.Trust at) = decimal at ∷ codes "Trust" ∷ []
body_words (body.SecretPlace at rule) = decimal at ∷ codes "SecretPlace" ∷ rule_word rule ∷ []
body_words (body.WrongType at) = decimal at ∷ codes "WrongType" ∷ []
body_words body.NoMemory = []

abbrev pub invalid_words : Invalid → List (List ℕ)
invalid_words (invalid.Body f fault) = codes "Body" ∷ decimal f ∷ codes "at" ∷ body_words fault
invalid_words (invalid.ModuleIndex where_ index) = codes "ModuleIndex" ∷ space_word where_ ∷ decimal index ∷ []
invalid_words (invalid.DoubleExport index) = codes "DoubleExport" ∷ decimal index ∷ []
invalid_words (invalid.ConstExpr where_ index) = codes "ConstExpr" ∷ space_word where_ ∷ decimal index ∷ []
invalid_words (invalid.LimitsOrder where_) = codes "LimitsOrder" ∷ space_word where_ ∷ []
invalid_words invalid.StartType = codes "StartType" ∷ []
invalid_words (invalid.SegmentType where_ index) = codes "SegmentType" ∷ space_word where_ ∷ decimal index ∷ []
invalid_words (invalid.Variant index) = codes "Variant" ∷ decimal index ∷ []
invalid_words invalid.NoMemory = []

-- a module that isn't valid
abbrev pub check_line : List ℕ → Invalid → List ℕ
check_line word fault = spaced (codes "refused" ∷ codes "check" ∷ word ∷ invalid_words fault)

-- ---- refusals of texts

-- a text that isn't UTF-8, with the length of its longest prefix that is
abbrev pub not_text_line : List ℕ → ℕ → List ℕ
not_text_line word place = spaced (codes "refused" ∷ codes "NotText" ∷ word ∷ decimal place ∷ [])

-- want of memory is no fault of a script, and has no words
abbrev pub script_words : ScriptFault → List (List ℕ)
script_words (script.Lex line) = codes "Lex" ∷ decimal line ∷ []
script_words (script.Line line) = codes "Line" ∷ decimal line ∷ []
script_words script.NoMemory = []

-- a script that isn't read
abbrev pub script_line : ScriptFault → List ℕ
script_line fault = spaced (codes "refused" ∷ codes "script" ∷ script_words fault)

-- want of memory is no fault of marks, and has no words
abbrev pub mark_words : MarkFault → List (List ℕ)
mark_words (marks.Lex line) = codes "Lex" ∷ decimal line ∷ []
mark_words (marks.Line line) = codes "Line" ∷ decimal line ∷ []
mark_words (marks.NoPlace line) = codes "NoPlace" ∷ decimal line ∷ []
mark_words (marks.Untrusted line) = codes "Untrusted" ∷ decimal line ∷ []
mark_words marks.NoMemory = []

-- marks that aren't read
abbrev pub marks_line : MarkFault → List ℕ
marks_line fault = spaced (codes "refused" ∷ codes "marks" ∷ mark_words fault)

-- ---- refusals of inference

-- a flow has lines of its own, and want of memory is no fault of a module: they have no words here
abbrev pub infer_words : InferFault → List (List ℕ)
infer_words infer.Labelled = codes "Labelled" ∷ []
infer_words (infer.TooManySites count) = codes "TooManySites" ∷ decimal count ∷ []
infer_words (infer.TrustCall caller at callee) =
    codes "TrustCall" ∷ decimal caller ∷ decimal at ∷ decimal callee ∷ []
infer_words (infer.TrustTable func) = codes "TrustTable" ∷ decimal func ∷ []
infer_words (infer.Flow w) = []
infer_words infer.NoMemory = []

-- a module that isn't labelled
abbrev pub infer_line : InferFault → List ℕ
infer_line fault = spaced (codes "refused" ∷ codes "infer" ∷ infer_words fault)
