-- The kinds of faults that one instruction has.
use Rattle.std.proofs.Common.{◌≡◌, ℕ, zero, suc, ◌+◌, Bool, true, false, cond, List, [], ◌∷◌, Result, Ok, Err, subst, rules}
use Rattle.ctw_ops.specs.declared.types.Label.{Label}
use Rattle.ctw_ops.specs.declared.types.Label.TheVariants.{Public, Secret}
use Rattle.ctw_ops.specs.declared.types.Width.{Width}
use Rattle.ctw_ops.specs.declared.types.Width.TheVariants.{W32, W64}
use Rattle.ctw_ops.specs.Code as ops
use Rattle.ctw_ops.specs.Code.{Op, Plain}
use Rattle.ctw_leb.specs.declared.fault.LebFault.{LebFault}
use Rattle.ctw_leb.specs.declared.fault.LebFault.TheVariants as leb
use Rattle.ctw_leb.specs.Input.{Input}
use Rattle.ctw_leb.specs.Reading.{Reader, chain, give, refused, faulted, known, one_of_bytes, times_from, ◌>>=◌}
use Rattle.std.specs.Prelude.{IfErr}
use Rattle.ctw_leb.specs.Calls.{Gives}
use Rattle.ctw_leb.proofs.Exact.{ok_err, err_is}
use Rattle.ctw_leb.specs.Grammar.{stays}
use Rattle.ctw_leb.specs.Readers.{u32_at, s32_at, s64_at}
use Rattle.ctw_flat.specs.declared.fault.CodeKind.{CodeKind}
use Rattle.ctw_flat.specs.declared.fault.CodeKind.TheVariants.{Truncated, BadOpcode, Floats, BadBlockType}
use Rattle.ctw_flat.specs.declared.fault.CodeFault.{CodeFault}
use Rattle.ctw_flat.specs.declared.instr.Instr.{Instr}
use Rattle.ctw_flat.specs.declared.opcode.Access.{Access}
use Rattle.ctw_flat.specs.declared.opcode.Form.{Form}
use Rattle.ctw_flat.specs.declared.opcode.Form.TheVariants as form
use Rattle.ctw_flat.specs.declared.opcode.First.{First}
use Rattle.ctw_flat.specs.declared.opcode.First.TheVariants.{Direct, Prefix}
use Rattle.ctw_flat.specs.Opcodes.{control_form, variable_form, memory_form, labelling_form, form as form_of, direct, opcode, has_secret_form, if_secret, secret_form, block_type, reserved}
use Rattle.ctw_flat.specs.Spelled.{shape_of, indexed_leaf, access_leaf}
use Rattle.ctw_flat.specs.Read.{fault, of_leb, by_table, block_type_at, reserved_at, index_at, bits32_at, bits64_at, bits_at, indexes_at, branch_table_at, access_at, constant_at, immediate_at, secret_at, behind_at, op_at}
use Rattle.ctw_flat.specs.Instructions.{IsInstrKind, op_of}
use Rattle.ctw_flat.specs.Places.{from, instr_in}

-- ---- tables

-- a table's row has no kind, or one of an instruction's
abbrev FairKind : {A : Type 0} → Result A CodeKind → Type 0
FairKind (Ok a) = Unit {0}
FairKind (Err kind) = IsInstrKind kind

record Fair {A : Type 0} (r : Result A CodeKind) : Type 0 where
  kind : FairKind r

fine : {A : Type 0} (a : A) → Fair (Ok a)
fine a = record { kind = tt }

bad : {A : Type 0} → Fair {A = A} (Err BadOpcode)
bad = record { kind = tt }

row : {A : Type 0} (test : Bool) (a b : Result A CodeKind) → Fair a → Fair b → Fair (cond test a b)
row true a b p q = p
row false a b p q = q

control_form_fair : (byte : ℕ) → Fair (control_form byte)
unfolding control_form
control_form_fair byte = search (rules, row, fine, bad) depth 60 fits 600

variable_form_fair : (byte : ℕ) → Fair (variable_form byte)
unfolding variable_form
variable_form_fair byte = search (rules, row, fine, bad) depth 60 fits 600

memory_form_fair : (byte : ℕ) → Fair (memory_form byte)
unfolding memory_form
memory_form_fair byte = search (rules, row, fine, bad) depth 60 fits 600

labelling_form_fair : (byte : ℕ) → Fair (labelling_form byte)
unfolding labelling_form
labelling_form_fair byte = search (rules, row, fine, bad) depth 60 fits 600

floats : {A : Type 0} → Fair {A = A} (Err Floats)
floats = record { kind = tt }

no_type : {A : Type 0} → Fair {A = A} (Err BadBlockType)
no_type = record { kind = tt }

block_type_fair : (byte : ℕ) → Fair (block_type byte)
unfolding block_type
block_type_fair byte = search (rules, row, fine, floats, no_type) depth 60 fits 600

form_fair : (byte : ℕ) → Fair (form_of byte)
unfolding form_of
form_fair byte = row _ _ _ (control_form_fair byte) (row _ _ _ (variable_form_fair byte) (row _ _ _ floats (row _ _ _ (fine _) (row _ _ _ (memory_form_fair byte) (labelling_form_fair byte)))))

opcode_fair : (byte : ℕ) → Fair (opcode byte)
unfolding opcode
opcode_fair byte = row _ _ _ (fine _) (go (form_of byte) (form_fair byte))
  where
    go : (r : Result Form CodeKind) → Fair r → Fair (direct r)
    go (Ok f) h = fine (Direct f)
    go (Err kind) h = record { kind = h.kind }

secret_form_fair : (byte : ℕ) → Fair (secret_form byte)
unfolding secret_form
secret_form_fair byte = go (form_of byte) (form_fair byte)
  where
    go : (r : Result Form CodeKind) → Fair r → Fair (if_secret r)
    go (Ok f) h = row (has_secret_form f) (Ok f) (Err BadOpcode) (fine f) bad
    go (Err kind) h = h

reserved_fair : (byte : ℕ) → Fair (reserved byte)
reserved_fair byte = search (rules, row, fine, bad)

-- ---- readers

-- a reader's fault is an instruction's
abbrev FairRead : {X : Type 0} → Result X CodeFault → Type 0
FairRead (Ok x) = Unit {0}
FairRead (Err f) = IsInstrKind f.kind

then_fair : {A B : Type 0} (r : Reader A CodeFault) (s : A → Reader B CodeFault) → ((i : Input) → FairRead (r i)) → ((a : A) (i : Input) → FairRead (s a i)) → (i : Input) → FairRead ((r >>= s) i)
then_fair {A} {B} r s p q i = go (r i) (p i)
  where
    go : (x : Result (A × Input) CodeFault) → FairRead x → FairRead (chain x (λ y. s y.0 y.1))
    go (Ok y) h = q y.0 y.1
    go (Err f) h = h

made_fair : {A B : Type 0} (f : A → B) (r : Reader A CodeFault) → ((i : Input) → FairRead (r i)) → (i : Input) → FairRead ((r >>= (λ a. give (f a))) i)
made_fair f r p i = then_fair r (λ a. give (f a)) p (λ a o. tt) i

leb_fair : {A : Type 0} (r : Reader A LebFault) (i : Input) → FairRead (faulted of_leb r i)
leb_fair {A} r i = go (r i)
  where
    go : (x : Result (A × Input) LebFault) → FairRead (refused (of_leb i) x)
    go (Ok y) = tt
    go (Err leb.Truncated) = tt
    go (Err (leb.BadLeb place)) = tt
    go (Err (leb.BadUtf8 place)) = tt

table_fair : {A : Type 0} (table : ℕ → Result A CodeKind) → ((byte : ℕ) → Fair (table byte)) → (i : Input) → FairRead (by_table table i)
table_fair {A} table p i = go i.at i.rest
  where
    found : (at : ℕ) (o : Input) (r : Result A CodeKind) → Fair r → FairRead (known (λ kind. fault kind at) o r)
    found at o (Ok a) h = tt
    found at o (Err kind) h = h.kind

    go : (at : ℕ) (bytes : List ℕ) → FairRead (one_of_bytes (fault Truncated) fault table at bytes)
    go at [] = tt
    go at (byte ∷ rest) = found at (record { at = at + 1; rest = rest }) (table byte) (p byte)

block_type_at_fair : (i : Input) → FairRead (block_type_at i)
unfolding block_type_at
block_type_at_fair i = table_fair block_type block_type_fair i

reserved_at_fair : (i : Input) → FairRead (reserved_at i)
unfolding reserved_at
reserved_at_fair i = table_fair reserved reserved_fair i

index_fair : (i : Input) → FairRead (index_at i)
unfolding index_at
index_fair i = leb_fair u32_at i

bits_fair : (width : Width) (i : Input) → FairRead (bits_at width i)
unfolding bits32_at bits64_at
bits_fair W32 i = leb_fair s32_at i
bits_fair W64 i = leb_fair s64_at i

times_fair : (n : ℕ) (i : Input) → FairRead (times_from {S = Unit {0}} (λ u. index_at) stays n tt i)
times_fair zero i = tt
times_fair (suc n) i =
    then_fair index_at (λ a. times_from {S = Unit {0}} (λ u. index_at) stays n tt >>= λ others. give (a ∷ others)) index_fair
    (λ a o. made_fair (λ others. a ∷ others) (times_from {S = Unit {0}} (λ u. index_at) stays n tt) (times_fair n) o) i

indexes_fair : (n : ℕ) (i : Input) → FairRead (indexes_at n i)
unfolding indexes_at
indexes_fair n i = times_fair n i

branch_table_fair : (i : Input) → FairRead (branch_table_at i)
unfolding branch_table_at
branch_table_fair i =
    then_fair (index_at >>= indexes_at) (λ targets. index_at >>= λ n. give (Plain (ops.BrTable targets n))) (λ o. then_fair index_at indexes_at index_fair indexes_fair o)
    (λ targets o. made_fair (λ n. Plain (ops.BrTable targets n)) index_at index_fair o) i

access_fair : (label : Label) (a : Access) (i : Input) → FairRead (access_at label a i)
unfolding access_at
access_fair label a i =
    then_fair index_at (λ align. index_at >>= λ offset. give (Plain (access_leaf label a align offset))) index_fair
    (λ align o. made_fair (λ offset. Plain (access_leaf label a align offset)) index_at index_fair o) i

constant_fair : (label : Label) (width : Width) (i : Input) → FairRead (constant_at label width i)
unfolding constant_at
constant_fair label width i = made_fair (λ bits. Plain (ops.Const width label bits)) (bits_at width) (bits_fair width) i

call_indirect_fair : (i : Input) → FairRead {X = Op Label × Input} ((index_at >>= λ n. reserved_at >>= λ zero_byte. give (Plain (ops.CallIndirect n))) i)
call_indirect_fair i =
    then_fair index_at (λ n. reserved_at >>= λ zero_byte. give (Plain (ops.CallIndirect n))) index_fair
    (λ n o. made_fair (λ zero_byte. Plain (ops.CallIndirect n)) reserved_at reserved_at_fair o) i

immediate_fair : (label : Label) (f : Form) (i : Input) → FairRead (immediate_at label f i)
unfolding immediate_at
immediate_fair label (form.Bare b) i = tt
immediate_fair label (form.Opens o) i = made_fair (λ t. ops.Opens (shape_of o) t) block_type_at block_type_at_fair i
immediate_fair label (form.Indexed x) i = made_fair (λ n. Plain (indexed_leaf x n)) index_at index_fair i
immediate_fair label form.BrTable i = branch_table_fair i
immediate_fair label form.CallIndirect i = call_indirect_fair i
immediate_fair label form.MemorySize i = made_fair (λ zero_byte. Plain ops.MemorySize) reserved_at reserved_at_fair i
immediate_fair label form.MemoryGrow i = made_fair (λ zero_byte. Plain ops.MemoryGrow) reserved_at reserved_at_fair i
immediate_fair label form.Select i = tt
immediate_fair label (form.Access a) i = access_fair label a i
immediate_fair label (form.Const width) i = constant_fair label width i
immediate_fair label (form.Numeric op) i = tt

secret_fair : (i : Input) → FairRead (secret_at i)
unfolding secret_at
secret_fair i = then_fair (by_table secret_form) (immediate_at Secret) (table_fair secret_form secret_form_fair) (immediate_fair Secret) i

behind_fair : (f : First) (i : Input) → FairRead (behind_at f i)
behind_fair Prefix i = secret_fair i
behind_fair (Direct f) i = immediate_fair Public f i

pub op_fair : (i : Input) → FairRead (op_at i)
unfolding op_at
op_fair i = then_fair (by_table opcode) behind_at (table_fair opcode opcode_fair) behind_fair i

pub instr_kind : (code : List ℕ) (at : ℕ) (f : CodeFault) → instr_in code at ≡ Err f → IsInstrKind f.kind
unfolding instr_in
instr_kind code at f e = go (op_at (from code at)) (op_fair (from code at)) e
  where
    go : (r : Result (Op Label × Input) CodeFault) → FairRead r → chain {Y = Op Label × ℕ} r (λ x. Ok (x.0, x.1.at)) ≡ Err f → IsInstrKind f.kind
    go (Ok x) h q = absurd (ok_err (x.0, x.1.at) f q)
    go (Err d) h q = subst (λ (g : CodeFault). IsInstrKind g.kind) (err_is {A = Op Label × ℕ} d f q) h

pub gives_kind : (code : List ℕ) (at : ℕ) (r : Result (Instr × ℕ) CodeFault) → Gives (λ x. (op_of x.0, x.1)) r (instr_in code at) → IfErr r (λ f. IsInstrKind f.kind)
gives_kind code at (Ok x) e = tt
gives_kind code at (Err f) e = instr_kind code at f e
