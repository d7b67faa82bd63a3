-- The inks of instructions are laid out line by line as their opcodes.
use Rattle.std.proofs.Common.{◌≡◌, ℕ, List, [], ◌∷◌, ◌++◌, Option, decimal, codes, refl, sym, ap, ◌∙◌, append_assoc}
use Rattle.ctw_ops.specs.declared.types.Label.{Label}
use Rattle.ctw_ops.specs.declared.types.Label.TheVariants.{Public, Secret}
use Rattle.ctw_ops.specs.declared.types.Width.{Width}
use Rattle.ctw_ops.specs.declared.types.Width.TheVariants.{W32, W64}
use Rattle.ctw_ops.specs.ValueType.{ValueType}
use Rattle.ctw_ops.specs.Types.{value_type}
use Rattle.ctw_ops.specs.Code as ops
use Rattle.ctw_ops.specs.Code.{Leaf, Code, Op, Plain, Opens, Closes, Shape, OfBlock, OfLoop, OfIf, ByEnd, ByElse, onto, opcodes}
use Rattle.ctw_text.specs.declared.keys.Indexed.{Indexed}
use Rattle.ctw_text.specs.declared.keys.Key.TheVariants.{Op as KOp, Else as KElse, End as KEnd, Shape as KShape}
use Rattle.ctw_text.specs.declared.keys.Form.TheVariants as forms
use Rattle.ctw_text.specs.declared.keys.Indexed.TheVariants as uses
use Rattle.ctw_text.specs.Words.{word_of}
use Rattle.ctw_text.specs.Print.{Ink, blank, num, line4, key, natural, text_of, print_result, print_offset, print_align, print_indexed, print_leaf, print_code}
use Rattle.ctw_print.specs.Words.{value_word, select_word, load_end, store_end}
use Rattle.ctw_print.specs.Texts.{all_texts, spaced_number, result_text, bits_text, offset_text, align_text, place_text, leaf_text, op_line, lines_text}
use Rattle.ctw_print.proofs.Joined.{join2, join3}
use Rattle.ctw_print.proofs.Keywords.{else_word, end_word, block_word, loop_word, if_word}
use Rattle.ctw_print.proofs.Instructions.{numeric_is, load_is, store_is}
use Rattle.ctw_print.proofs.Fitting.{LeafFits, CodeFits}
use Rattle.ctw_print.proofs.Inked.{result_inked, bits_inked, offset_inked, align_inked, indexes_inked, use_inked}

-- ---- words with nothing or a number behind them

abbrev pub indexed_word : Indexed → List ℕ
indexed_word uses.Br = codes "br"
indexed_word uses.BrIf = codes "br_if"
indexed_word uses.Call = codes "call"
indexed_word uses.LocalGet = codes "local.get"
indexed_word uses.LocalSet = codes "local.set"
indexed_word uses.LocalTee = codes "local.tee"
indexed_word uses.GlobalGet = codes "global.get"
indexed_word uses.GlobalSet = codes "global.set"

indexed_is : (op : Indexed) → word_of (KOp (forms.Uses op)) ≡ indexed_word op
unfolding word_of
indexed_is uses.Br = refl
indexed_is uses.BrIf = refl
indexed_is uses.Call = refl
indexed_is uses.LocalGet = refl
indexed_is uses.LocalSet = refl
indexed_is uses.LocalTee = refl
indexed_is uses.GlobalGet = refl
indexed_is uses.GlobalSet = refl

pub indexed_inked : (op : Indexed) (n : ℕ) (rest : List Ink) → text_of (print_indexed op n rest) ≡ indexed_word op ++ (32 ∷ (decimal n ++ text_of rest))
indexed_inked op n rest = ap (λ (w : List ℕ). w ++ (32 ∷ (decimal n ++ text_of rest))) (indexed_is op)

table_word : word_of (KOp forms.BrTable) ≡ codes "br_table"
unfolding word_of
table_word = refl

indirect_word : word_of (KOp forms.CallIndirect) ≡ codes "call_indirect"
unfolding word_of
indirect_word = refl

const_is : (w : Width) (l : Label) → word_of (KOp (forms.Const w l)) ≡ value_word (value_type w l) ++ codes ".const"
unfolding word_of
const_is W32 Public = refl
const_is W32 Secret = refl
const_is W64 Public = refl
const_is W64 Secret = refl

select_is : (l : Label) → word_of (KOp (forms.Bare (ops.Select l))) ≡ select_word l
unfolding word_of
select_is Public = refl
select_is Secret = refl

classify_is : (w : Width) → word_of (KOp (forms.Bare (ops.Classify w))) ≡ value_word (value_type w Public) ++ codes ".classify"
unfolding word_of
classify_is W32 = refl
classify_is W64 = refl

declassify_is : (w : Width) → word_of (KOp (forms.Bare (ops.Declassify w))) ≡ value_word (value_type w Secret) ++ codes ".declassify"
unfolding word_of
declassify_is W32 = refl
declassify_is W64 = refl

unreachable_word : word_of (KOp (forms.Bare ops.Unreachable)) ≡ codes "unreachable"
unfolding word_of
unreachable_word = refl

nop_word : word_of (KOp (forms.Bare ops.Nop)) ≡ codes "nop"
unfolding word_of
nop_word = refl

return_word : word_of (KOp (forms.Bare ops.Return)) ≡ codes "return"
unfolding word_of
return_word = refl

drop_word : word_of (KOp (forms.Bare ops.Drop)) ≡ codes "drop"
unfolding word_of
drop_word = refl

size_word : word_of (KOp (forms.Bare ops.MemorySize)) ≡ codes "memory.size"
unfolding word_of
size_word = refl

grow_word : word_of (KOp (forms.Bare ops.MemoryGrow)) ≡ codes "memory.grow"
unfolding word_of
grow_word = refl

-- ---- leaves

-- a word before what follows it
behind : (word text : List ℕ) (rest : List ℕ) → word ≡ text → word ++ rest ≡ text ++ rest
behind word text rest e = ap (λ (w : List ℕ). w ++ rest) e

pub const_inked : (w : Width) (l : Label) (bits : ℕ) (rest : List Ink) → text_of (print_leaf (ops.Const w l bits) rest) ≡ (value_word (value_type w l) ++ codes ".const " ++ bits_text w bits) ++ text_of rest
const_inked w l bits rest =
    let word = value_word (value_type w l) in
    ap (λ (t : List ℕ). word_of (KOp (forms.Const w l)) ++ (32 ∷ t)) (bits_inked w bits rest)
    ∙ ap (λ (t : List ℕ). t ++ (32 ∷ (bits_text w bits ++ text_of rest))) (const_is w l)
    ∙ append_assoc word (codes ".const") (32 ∷ (bits_text w bits ++ text_of rest)) ∙ join3 word (codes ".const ") (bits_text w bits) (text_of rest)

place_inked : (word front : List ℕ) (bytes align offset : ℕ) (rest : List Ink) → word ≡ front
    → word ++ text_of (print_offset offset (print_align (natural bytes) align rest)) ≡ (front ++ place_text bytes align offset) ++ text_of rest
place_inked word front bytes align offset rest e =
    let a = offset_inked offset (print_align (natural bytes) align rest) in
    let b = align_inked (natural bytes) align rest in
    ap (λ (w : List ℕ). w ++ text_of (print_offset offset (print_align (natural bytes) align rest))) e
    ∙ ap (λ (t : List ℕ). front ++ t) (a ∙ ap (λ (t : List ℕ). offset_text offset ++ t) b ∙ join2 (offset_text offset) (align_text (natural bytes) align) (text_of rest))
    ∙ join2 front (place_text bytes align offset) (text_of rest)

pub leaf_inked : (leaf : Leaf Label) (rest : List Ink) → LeafFits leaf → text_of (print_leaf leaf rest) ≡ leaf_text leaf ++ text_of rest
leaf_inked (ops.Br n) rest h = indexed_inked uses.Br n rest
leaf_inked (ops.BrIf n) rest h = indexed_inked uses.BrIf n rest
leaf_inked (ops.BrTable ns n) rest h =
    ap (λ (t : List ℕ). word_of (KOp forms.BrTable) ++ t) (indexes_inked ns (blank ∷ num n ∷ rest))
    ∙ ap (λ (w : List ℕ). w ++ (all_texts spaced_number ns ++ (32 ∷ (decimal n ++ text_of rest)))) table_word
    ∙ join3 (codes "br_table") (all_texts spaced_number ns) (spaced_number n) (text_of rest)
leaf_inked (ops.Call n) rest h = indexed_inked uses.Call n rest
leaf_inked (ops.CallIndirect n) rest h =
    ap (λ (t : List ℕ). word_of (KOp forms.CallIndirect) ++ t) (use_inked n rest)
    ∙ ap (λ (w : List ℕ). w ++ (((codes " (type " ++ decimal n) ++ codes ")") ++ text_of rest)) indirect_word
leaf_inked (ops.LocalGet n) rest h = indexed_inked uses.LocalGet n rest
leaf_inked (ops.LocalSet n) rest h = indexed_inked uses.LocalSet n rest
leaf_inked (ops.LocalTee n) rest h = indexed_inked uses.LocalTee n rest
leaf_inked (ops.GlobalGet n) rest h = indexed_inked uses.GlobalGet n rest
leaf_inked (ops.GlobalSet n) rest h = indexed_inked uses.GlobalSet n rest
leaf_inked (ops.Load w l bytes signed align offset) rest h =
    place_inked _ (value_word (value_type w l) ++ load_end w bytes signed) bytes align offset rest (load_is w l bytes signed h.0)
leaf_inked (ops.Store w l bytes align offset) rest h =
    place_inked _ (value_word (value_type w l) ++ store_end w bytes) bytes align offset rest (store_is w l bytes h.0)
leaf_inked (ops.Const w l bits) rest h = const_inked w l bits rest
leaf_inked (ops.Numeric op l) rest h = behind _ _ (text_of rest) (numeric_is op l h)
leaf_inked ops.Unreachable rest h = behind _ _ (text_of rest) unreachable_word
leaf_inked ops.Nop rest h = behind _ _ (text_of rest) nop_word
leaf_inked ops.Return rest h = behind _ _ (text_of rest) return_word
leaf_inked ops.Drop rest h = behind _ _ (text_of rest) drop_word
leaf_inked (ops.Select l) rest h = behind _ _ (text_of rest) (select_is l)
leaf_inked ops.MemorySize rest h = behind _ _ (text_of rest) size_word
leaf_inked ops.MemoryGrow rest h = behind _ _ (text_of rest) grow_word
leaf_inked (ops.Classify w) rest h = behind _ _ (text_of rest) (classify_is w)
leaf_inked (ops.Declassify w) rest h = behind _ _ (text_of rest) (declassify_is w)

-- ---- bodies

-- there are some opcodes
pub record Filled (list : List (Op Label)) : Type 0 where
  pub first : Op Label
  pub others : List (Op Label)
  pub all : list ≡ first ∷ others

nil_first : (op : Op Label) (ops : List (Op Label)) → [] ≡ op ∷ ops → ⊥
nil_first op ops e = cc

one : (op : Op Label) (ops : List (Op Label)) → Filled (op ∷ ops)
one op ops = record { first = op; others = ops; all = refl }

onto_some : (code : Code Label) (others : List (Op Label)) → Filled others → Filled (onto code others)
onto_some ops.Stop others s = s
onto_some (ops.Then leaf more) others s = one _ _
onto_some (ops.Block t body more) others s = one _ _
onto_some (ops.Loop t body more) others s = one _ _
onto_some (ops.If t arm more) others s = one _ _
onto_some (ops.IfElse t arm other more) others s = one _ _

-- a line before others
line_more : (op : Op Label) (list : List (Op Label)) (text rest : List ℕ) → Filled list → text ≡ lines_text list ++ rest → op_line op ++ text ≡ lines_text (op ∷ list) ++ rest
line_more op [] text rest s e = absurd (nil_first s.first s.others s.all)
line_more op (o ∷ list) text rest s e = ap (λ (t : List ℕ). op_line op ++ t) e ∙ sym (append_assoc (op_line op) (lines_text (o ∷ list)) rest)

-- a line that opens a block, and then its body
opened : (shape : Shape) (t : Option (ValueType Label)) (list : List (Op Label)) (body : List Ink) (rest : List ℕ) → Filled list → text_of body ≡ lines_text list ++ rest
    → text_of (line4 ∷ key (KShape shape) ∷ print_result t body) ≡ lines_text (Opens shape t ∷ list) ++ rest
opened OfBlock t list body rest s e = rw (block_word, result_inked t body) (sym (append_assoc (codes "\n    block") (result_text t) (text_of body)) ∙ line_more (Opens OfBlock t) list (text_of body) rest s e)
opened OfLoop t list body rest s e = rw (loop_word, result_inked t body) (sym (append_assoc (codes "\n    loop") (result_text t) (text_of body)) ∙ line_more (Opens OfLoop t) list (text_of body) rest s e)
opened OfIf t list body rest s e = rw (if_word, result_inked t body) (sym (append_assoc (codes "\n    if") (result_text t) (text_of body)) ∙ line_more (Opens OfIf t) list (text_of body) rest s e)

-- a line that closes a sequence, and then others
ended : (list : List (Op Label)) (more : List Ink) (rest : List ℕ) → Filled list → text_of more ≡ lines_text list ++ rest → text_of (line4 ∷ key KEnd ∷ more) ≡ lines_text (Closes ByEnd ∷ list) ++ rest
ended list more rest s e = rw end_word (line_more (Closes ByEnd) list (text_of more) rest s e)

turned : (list : List (Op Label)) (more : List Ink) (rest : List ℕ) → Filled list → text_of more ≡ lines_text list ++ rest → text_of (line4 ∷ key KElse ∷ more) ≡ lines_text (Closes ByElse ∷ list) ++ rest
turned list more rest s e = rw else_word (line_more (Closes ByElse) list (text_of more) rest s e)

onto_inked : (code : Code Label) (others : List (Op Label)) (more : List Ink) (rest : List ℕ) → CodeFits code → Filled others → text_of more ≡ lines_text others ++ rest → text_of (print_code code more) ≡ lines_text (onto code others) ++ rest
onto_inked ops.Stop others more rest h s e = e
onto_inked (ops.Then leaf code) others more rest h s e =
    ap (λ (t : List ℕ). codes "\n    " ++ t) (leaf_inked leaf (print_code code more) h.0) ∙ sym (append_assoc (codes "\n    ") (leaf_text leaf) (text_of (print_code code more)))
    ∙ line_more (Plain leaf) (onto code others) (text_of (print_code code more)) rest (onto_some code others s) (onto_inked code others more rest h.1 s e)
onto_inked (ops.Block t body code) others more rest h s e =
    opened OfBlock t _ _ rest (onto_some body _ (one _ _))
    (onto_inked body _ _ rest h.0 (one _ _) (ended (onto code others) (print_code code more) rest (onto_some code others s) (onto_inked code others more rest h.1 s e)))
onto_inked (ops.Loop t body code) others more rest h s e =
    opened OfLoop t _ _ rest (onto_some body _ (one _ _))
    (onto_inked body _ _ rest h.0 (one _ _) (ended (onto code others) (print_code code more) rest (onto_some code others s) (onto_inked code others more rest h.1 s e)))
onto_inked (ops.If t arm code) others more rest h s e =
    opened OfIf t _ _ rest (onto_some arm _ (one _ _))
    (onto_inked arm _ _ rest h.0 (one _ _) (ended (onto code others) (print_code code more) rest (onto_some code others s) (onto_inked code others more rest h.1 s e)))
onto_inked (ops.IfElse t arm other code) others more rest h s e =
    let after : List (Op Label) = Closes ByEnd ∷ onto code others in
    let last : List Ink = line4 ∷ key KEnd ∷ print_code code more in
    let second = onto_inked other after last rest h.1 (one (Closes ByEnd) (onto code others)) (ended (onto code others) (print_code code more) rest (onto_some code others s) (onto_inked code others more rest h.2 s e)) in
    let list : List (Op Label) = Closes ByElse ∷ onto other after in
    let middle : List Ink = line4 ∷ key KElse ∷ print_code other last in
    let first = onto_inked arm list middle rest h.0 (one (Closes ByElse) (onto other after)) (turned (onto other after) (print_code other last) rest (onto_some other after (one (Closes ByEnd) (onto code others))) second) in
    opened OfIf t (onto arm list) (print_code arm middle) rest (onto_some arm list (one (Closes ByElse) (onto other after))) first

-- each opcode of a body but the last one is printed on a line of its own
pub code_inked : (code : Code Label) (rest : List Ink) → CodeFits code → text_of (print_code code rest) ≡ lines_text (opcodes code) ++ text_of rest
code_inked code rest h = onto_inked code (Closes ByEnd ∷ []) rest (text_of rest) h (one _ _) refl
