-- What bytes spell keeps the limits: opcodes, types, imports, exports, constants and code entries.
use Rattle.std.proofs.Common.{◌≡◌, ℕ, zero, suc, ◌+◌, ◌≤◌, Bool, true, false, cond, List, [], ◌∷◌, length, Result, Ok, Err, refl, subst, rules, arith}
use Rattle.std.specs.List.{All, sum_by}
use Rattle.std.proofs.lemmas.List.Sums.{sum_by-cons}
use Rattle.std.proofs.lemmas.List.Elements.{All-nil, All-cons}
use Rattle.ctw_ops.specs.declared.types.Label.{Label}
use Rattle.ctw_ops.specs.declared.types.Label.TheVariants.{Public, Secret}
use Rattle.ctw_ops.specs.declared.types.Limits.{Limits}
use Rattle.ctw_ops.specs.declared.types.Trust.{Trust}
use Rattle.ctw_ops.specs.declared.types.ExternTag.{ExternTag}
use Rattle.ctw_ops.specs.declared.types.ExternTag.TheVariants as tag
use Rattle.ctw_ops.specs.Types.{FunctionType, MemoryType}
use Rattle.ctw_ops.specs.Numeric.{is_numeric}
use Rattle.ctw_ops.specs.Forms.{is_load, is_store}
use Rattle.ctw_ops.specs.Limits.{most_params, most_locals, most_locals_of_all, most_nesting}
use Rattle.ctw_ops.specs.Code.{Op, opcodes}
use Rattle.ctw_ops.specs.Tree.{TypeEntry, Extern, Import, Constant, Global, Export, Element, Segment}
use Rattle.ctw_leb.specs.Grammar.{TimesFrom}
use Rattle.ctw_leb.specs.Numbers.{IsU32}
use Rattle.ctw_leb.proofs.Exact.{ok_is, err_ok}
use Rattle.ctw_flat.specs.declared.fault.CodeKind.{CodeKind}
use Rattle.ctw_flat.specs.declared.fault.CodeKind.TheVariants.{BadOpcode}
use Rattle.ctw_flat.specs.declared.opcode.Bare.{Bare}
use Rattle.ctw_flat.specs.declared.opcode.Bare.TheVariants as bare
use Rattle.ctw_flat.specs.declared.opcode.Indexed.{Indexed}
use Rattle.ctw_flat.specs.declared.opcode.Indexed.TheVariants as indexed
use Rattle.ctw_flat.specs.declared.opcode.Access.TheVariants as access
use Rattle.ctw_flat.specs.declared.opcode.Form.{Form}
use Rattle.ctw_flat.specs.declared.opcode.Form.TheVariants as form
use Rattle.ctw_flat.specs.declared.opcode.First.{First}
use Rattle.ctw_flat.specs.declared.opcode.First.TheVariants.{Direct, Prefix}
use Rattle.ctw_flat.specs.Opcodes as code
use Rattle.ctw_flat.specs.Opcodes.{control_form, variable_form, labelling_form, opcode, direct, has_secret_form, if_secret, secret_form}
use Rattle.ctw_flat.specs.Spelled.{bare_op, indexed_leaf, Immediate, Behind, IsOp, IsOps, height}
use Rattle.ctw_form.specs.declared.table.EntryForm.{EntryForm}
use Rattle.ctw_form.specs.declared.table.EntryForm.TheVariants.{Direct as DirectEntry, Variant}
use Rattle.ctw_form.specs.declared.table.ConstantForm.{ConstantForm}
use Rattle.ctw_form.specs.declared.table.ConstantForm.TheVariants as constant
use Rattle.ctw_form.specs.declared.table.Held.{Held}
use Rattle.ctw_form.specs.Sections.{Entry, locals_of}
use Rattle.ctw_form.specs.Spelled.{IsValueType, IsSignature, EntryBehind, IsTypeEntry, Sizes, IsTable, IsMemory, IsExtern, IsImport, IsExport, ConstantBehind, IsConstant, IsGlobal, IsElement, IsSegment, IsEntry, all_after}
use Rattle.ctw_form.proofs.Fitted.{bits_fit}
use Rattle.ctw_form.proofs.SpelledParts.{all_vector}
use Rattle.ctw_write.specs.KeepsLimits.{Is32, AreSizes, IsLimitedLeaf, IsLimitedOp, IsLimitedEntry, IsLimitedExtern, IsLimitedImport, IsLimitedExport, IsLimitedConstant, IsLimitedElement, IsLimitedSegment}
use Rattle.ctw_write.proofs.Settling.{u32_fits}
use Rattle.ctw_write.proofs.ItemTexts.{upto_count}
use Rattle.ctw_write.proofs.GroupTexts.{groups_limited}

-- ---- the forms of opcodes

-- what holds of all that a byte may stand for
record Row {A K : Type 0} (P : A → Type 0) (r : Result A K) : Type 0 where
  kept : (a : A) → r ≡ Ok a → P a

fine : {A K : Type 0} (P : A → Type 0) (a : A) → P a → Row {K = K} P (Ok a)
fine {A} {K} P a h = record { kept = λ b e. subst P (ok_is {F = K} a b e) h }

bad : {A K : Type 0} (P : A → Type 0) (kind : K) → Row P (Err kind)
bad P kind = record { kept = λ a e. absurd (err_ok kind a e) }

row : {A K : Type 0} (P : A → Type 0) (test : Bool) (x y : Result A K) → Row P x → Row P y → Row P (cond test x y)
row P true x y p q = p
row P false x y p q = q

-- a form that the standard lists
abbrev IsListed : Form → Type 0
IsListed (form.Access (access.Load width bytes signed)) = is_load width bytes signed ≡ true
IsListed (form.Access (access.Store width bytes)) = is_store width bytes ≡ true
IsListed (form.Numeric op) = is_numeric op ≡ true
IsListed _ = Unit {0}

control_row : (b : ℕ) → Row IsListed (control_form b)
unfolding control_form
control_row b = search (rules, row, fine, bad) depth 80 fits 900

variable_row : (b : ℕ) → Row IsListed (variable_form b)
unfolding variable_form
variable_row b = search (rules, row, fine, bad) depth 80 fits 900

memory_row : (b : ℕ) → Row IsListed (code.memory_form b)
unfolding code.memory_form
memory_row b = search (rules, row, fine, bad) depth 120 fits 1500

labelling_row : (b : ℕ) → Row IsListed (labelling_form b)
unfolding labelling_form
labelling_row b = search (rules, row, fine, bad) depth 80 fits 900

numeric_row : (b : ℕ) (y : Result Form CodeKind) → Row IsListed y → Row IsListed (cond (is_numeric b) (Ok (form.Numeric b)) y)
numeric_row b y h = go (is_numeric b) refl
  where
    go : (test : Bool) → is_numeric b ≡ test → Row IsListed (cond test (Ok (form.Numeric b)) y)
    go true e = fine IsListed (form.Numeric b) e
    go false e = h

form_row : (b : ℕ) → Row IsListed (code.form b)
unfolding code.form
form_row b =
    row IsListed _ _ _ (control_row b)
    (row IsListed _ _ _ (variable_row b)
    (row IsListed _ _ _ (bad IsListed _)
    (numeric_row b _ (row IsListed _ _ _ (memory_row b) (labelling_row b)))))

abbrev IsListedFirst : First → Type 0
IsListedFirst Prefix = Unit {0}
IsListedFirst (Direct f) = IsListed f

direct_row : (r : Result Form CodeKind) → Row IsListed r → Row IsListedFirst (direct r)
direct_row (Ok f) h = fine IsListedFirst (Direct f) (h.kept f refl)
direct_row (Err kind) h = bad IsListedFirst kind

opcode_row : (b : ℕ) → Row IsListedFirst (opcode b)
unfolding opcode
opcode_row b = row IsListedFirst _ _ _ (fine IsListedFirst Prefix tt) (direct_row (code.form b) (form_row b))

secret_if : (r : Result Form CodeKind) → Row IsListed r → Row IsListed (if_secret r)
secret_if (Ok f) h = row IsListed (has_secret_form f) (Ok f) (Err BadOpcode) h (bad IsListed BadOpcode)
secret_if (Err kind) h = bad IsListed kind

secret_row : (b : ℕ) → Row IsListed (secret_form b)
unfolding secret_form
secret_row b = secret_if (code.form b) (form_row b)

-- ---- opcodes

bare_limited : (b : Bare) → IsLimitedOp (bare_op b)
bare_limited bare.Unreachable = tt
bare_limited bare.Nop = tt
bare_limited bare.Else = tt
bare_limited bare.End = tt
bare_limited bare.Return = tt
bare_limited bare.Drop = tt
bare_limited (bare.Classify width) = tt
bare_limited (bare.Declassify width) = tt

indexed_limited : (x : Indexed) (n : ℕ) → Is32 n → IsLimitedLeaf (indexed_leaf x n)
indexed_limited indexed.Br n lt = lt
indexed_limited indexed.BrIf n lt = lt
indexed_limited indexed.Call n lt = lt
indexed_limited indexed.LocalGet n lt = lt
indexed_limited indexed.LocalSet n lt = lt
indexed_limited indexed.LocalTee n lt = lt
indexed_limited indexed.GlobalGet n lt = lt
indexed_limited indexed.GlobalSet n lt = lt

immediate_limited : (label : Label) (f : Form) (text : List ℕ) (op : Op Label) → IsListed f → Immediate label f text op → IsLimitedOp op
immediate_limited label (form.Bare b) text op h m = subst IsLimitedOp m.1 (bare_limited b)
immediate_limited label (form.Opens o) text op h m = subst IsLimitedOp m.4.1 tt
immediate_limited label (form.Indexed x) text op h m = subst IsLimitedOp m.4.1 (indexed_limited x m.0 (u32_fits m.1 m.0 m.3))
immediate_limited label form.BrTable text op h m = subst IsLimitedOp m.4.4.1 (all_vector IsU32 Is32 u32_fits m.1 m.0 m.3, u32_fits m.4.1 m.4.0 m.4.3)
immediate_limited label form.CallIndirect text op h m = subst IsLimitedOp m.4.4.1 (u32_fits m.1 m.0 m.3)
immediate_limited label form.MemorySize text op h m = subst IsLimitedOp m.4.1 tt
immediate_limited label form.MemoryGrow text op h m = subst IsLimitedOp m.4.1 tt
immediate_limited label form.Select text op h m = subst IsLimitedOp m.1 tt
immediate_limited label (form.Access (access.Load width bytes signed)) text op h m = subst IsLimitedOp m.4.4.1 (h, u32_fits m.1 m.0 m.3, u32_fits m.4.1 m.4.0 m.4.3)
immediate_limited label (form.Access (access.Store width bytes)) text op h m = subst IsLimitedOp m.4.4.1 (h, u32_fits m.1 m.0 m.3, u32_fits m.4.1 m.4.0 m.4.3)
immediate_limited label (form.Const width) text op h m = subst IsLimitedOp m.4.1 (bits_fit width m.1 m.0 m.3)
immediate_limited label (form.Numeric n) text op h m = subst IsLimitedOp m.1 h

behind_limited : (first : First) (text : List ℕ) (op : Op Label) → IsListedFirst first → Behind first text op → IsLimitedOp op
behind_limited Prefix text op h m = immediate_limited Secret m.0 m.2 op ((secret_row m.3.0).kept m.0 m.3.2) m.4
behind_limited (Direct f) text op h m = immediate_limited Public f text op h m

op_limited : (text : List ℕ) (op : Op Label) → IsOp text op → IsLimitedOp op
op_limited text op m = behind_limited m.0 m.2 op ((opcode_row m.3.0).kept m.0 m.3.2) m.4

ops_limited : (text : List ℕ) (ops : List (Op Label)) → IsOps text ops → All IsLimitedOp ops
ops_limited text [] m = All-nil IsLimitedOp
ops_limited text (op ∷ ops) m = All-cons IsLimitedOp op ops (op_limited m.0 op m.2) (ops_limited m.1 ops m.3)

-- ---- types

signature_limited : (ct : Bool) (trust : Trust) (text : List ℕ) (f : FunctionType Label) → IsSignature ct trust text f → length f.params ≤ most_params
signature_limited ct trust text f m = subst (λ (g : FunctionType Label). length g.params ≤ most_params) m.4.4.1 (upto_count most_params (IsValueType ct) m.1 m.0 m.3)

behind_entry : (ct : Bool) (f : EntryForm) (text : List ℕ) (e : TypeEntry Label) → EntryBehind ct f text e → IsLimitedEntry e
behind_entry ct (DirectEntry trust) text e m = subst IsLimitedEntry m.2 (tt, signature_limited ct trust text m.0 m.1)
behind_entry ct Variant text e m = subst IsLimitedEntry m.4.4.2 (u32_fits m.1 m.0 m.3, signature_limited ct m.4.0 m.4.2 m.4.4.0 m.4.4.1)

pub entry_limited : (ct : Bool) (text : List ℕ) (e : TypeEntry Label) → IsTypeEntry ct text e → IsLimitedEntry e
entry_limited ct text e m = behind_entry ct m.0 m.2 e m.4

sizes_limited : (both : Bool) (text : List ℕ) (limits : Limits) → Sizes both text limits → AreSizes limits
sizes_limited false text limits m = subst AreSizes m.2 (u32_fits text m.0 m.1, tt)
sizes_limited true text limits m = subst AreSizes m.4.2 (u32_fits m.1 m.0 m.3, u32_fits m.2 m.4.0 m.4.1)

pub table_limited : (text : List ℕ) (limits : Limits) → IsTable text limits → AreSizes limits
table_limited text limits m = sizes_limited m.4.0 m.4.2 limits m.4.4

pub memory_limited : (ct : Bool) (text : List ℕ) (t : MemoryType Label) → IsMemory ct text t → AreSizes t.limits
memory_limited ct text t m = subst (λ (u : MemoryType Label). AreSizes u.limits) m.4.2 (sizes_limited m.0.bounded m.2 m.4.0 m.4.1)

-- ---- items

extern_limited : (ct : Bool) (kind : ExternTag) (text : List ℕ) (e : Extern Label) → IsExtern ct kind text e → IsLimitedExtern e
extern_limited ct tag.Func text e m = subst IsLimitedExtern m.2 (u32_fits text m.0 m.1)
extern_limited ct tag.Table text e m = subst IsLimitedExtern m.2 (table_limited text m.0 m.1)
extern_limited ct tag.Memory text e m = subst IsLimitedExtern m.2 (memory_limited ct text m.0 m.1)
extern_limited ct tag.Global text e m = subst IsLimitedExtern m.2 tt

pub import_limited : (ct : Bool) (held : Held) (text : List ℕ) (i : Import Label) → IsImport ct held text i → IsLimitedImport i
import_limited ct held text i m =
    let inner = m.4.4 in
    let kind = inner.1 in
    subst IsLimitedImport inner.2 (m.3.1, m.4.3.1, extern_limited ct kind.0 kind.2 inner.0 kind.4)

pub export_limited : (text : List ℕ) (e : Export) → IsExport text e → IsLimitedExport e
export_limited text e m = subst IsLimitedExport m.4.4.2 (m.3.1, u32_fits m.4.2 m.4.4.0 m.4.4.1)

open_limited : (f : ConstantForm) (text : List ℕ) (c : Constant Label) → ConstantBehind f text c → IsLimitedConstant c
open_limited (constant.Number width) text c m = subst IsLimitedConstant m.2 tt
open_limited constant.Global text c m = subst IsLimitedConstant m.2 (u32_fits text m.0 m.1)
open_limited constant.Prefix text c m = subst IsLimitedConstant m.4.2 tt

constant_limited : (ct : Bool) (text : List ℕ) (c : Constant Label) → IsConstant ct text c → IsLimitedConstant c
constant_limited ct text c m =
    let behind = m.4 in
    subst IsLimitedConstant behind.4.4.1 (open_limited m.0 behind.1 behind.0 behind.3)

pub global_limited : (ct : Bool) (text : List ℕ) (g : Global Label) → IsGlobal ct text g → IsLimitedConstant g.init
global_limited ct text g m = subst (λ (x : Global Label). IsLimitedConstant x.init) m.4.2 (constant_limited ct m.2 m.4.0 m.4.1)

pub element_limited : (ct : Bool) (text : List ℕ) (e : Element Label) → IsElement ct text e → IsLimitedElement e
element_limited ct text e m =
    let offset = m.4 in
    subst IsLimitedElement offset.4.2 (u32_fits m.1 m.0 m.3, constant_limited ct offset.1 offset.0 offset.3, all_vector IsU32 Is32 u32_fits offset.2 offset.4.0 offset.4.1)

pub segment_limited : (ct : Bool) (text : List ℕ) (s : Segment Label) → IsSegment ct text s → IsLimitedSegment s
segment_limited ct text s m =
    let offset = m.4 in
    subst IsLimitedSegment offset.4.2 (u32_fits m.1 m.0 m.3, constant_limited ct offset.1 offset.0 offset.3)

-- ---- code

pub record IsLimitedCode (e : Entry) : Type 0 where
  pub locals : length (locals_of e.groups) ≤ most_locals
  pub ops : All IsLimitedOp (opcodes e.body)
  pub nesting : height e.body ≤ most_nesting

abbrev pub locals_in : List Entry → ℕ
locals_in entries = sum_by (λ e. length (locals_of e.groups)) entries

pub code_limited : (ct : Bool) (all : ℕ) (text : List ℕ) (e : Entry) → IsEntry ct all text e → IsLimitedCode e
code_limited ct all text e m =
    let insides = m.4.1 in
    let code = insides.4 in
    let body = code.1.1 in
    let locals = groups_limited ct all insides.1 insides.0 insides.3 in
    subst IsLimitedCode code.2 (record { locals = locals.0; ops = ops_limited insides.2 (opcodes code.0.1) body.0.0; nesting = body.0.1 })

code_room : (ct : Bool) (all : ℕ) (text : List ℕ) (e : Entry) → IsEntry ct all text e → all ≤ most_locals_of_all → all_after all e ≤ most_locals_of_all
code_room ct all text e m le =
    let insides = m.4.1 in
    let locals = groups_limited ct all insides.1 insides.0 insides.3 in
    subst (λ (x : Entry). all_after all x ≤ most_locals_of_all) insides.4.2 (locals.1 le)

pub codes_room : (ct : Bool) (n all : ℕ) (text : List ℕ) (entries : List Entry) → TimesFrom (IsEntry ct) all_after n all text entries → all ≤ most_locals_of_all → all + locals_in entries ≤ most_locals_of_all
codes_room ct zero all text entries m le = subst (λ (l : List Entry). all + locals_in l ≤ most_locals_of_all) m.1 (omega arith)
codes_room ct (suc n) all text entries m le =
    let e = m.0 in
    let others = m.4 in
    let below = codes_room ct n (all_after all e) others.1 others.0 others.3 (code_room ct all m.1 e m.3 le) in
    let more : locals_in (e ∷ others.0) ≡ length (locals_of e.groups) + locals_in others.0 = sum_by-cons (λ x. length (locals_of x.groups)) e others.0 in
    subst (λ (l : List Entry). all + locals_in l ≤ most_locals_of_all) others.4.1 (omega (arith, below, more))
