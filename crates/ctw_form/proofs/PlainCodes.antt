-- An opcode is one of a plain module exactly where no byte of it stands for a label.
use Rattle.std.proofs.Common.{◌≡◌, ℕ, ◌+◌, ◌≤◌, Bool, true, false, cond, leb, ◌⊎◌, inl, inr, List, [], ◌∷◌, ◌++◌, Option, Some, None, Result, Ok, Err, refl, sym, ap, subst, ◌∙◌, arith, rules}
use Rattle.std.specs.Prelude.{◌==◌, ◌||◌, not}
use Rattle.std.proofs.lemmas.Bool.{leb-true, and_parts, eqb-true}
use Rattle.ctw_ops.specs.ValueType.{ValueType}
use Rattle.ctw_ops.specs.Types.{value_type as typed}
use Rattle.ctw_ops.specs.declared.types.Width.TheVariants.{W32, W64}
use Rattle.ctw_ops.specs.declared.types.Label.{Label}
use Rattle.ctw_ops.specs.declared.types.Label.TheVariants.{Public, Secret}
use Rattle.ctw_ops.specs.Numeric.{within, is_numeric}
use Rattle.ctw_ops.specs.Code.{Op}
use Rattle.ctw_leb.proofs.Exact.{ok_is, err_ok, chosen}
use Rattle.ctw_flat.specs.declared.fault.CodeKind.{CodeKind}
use Rattle.ctw_flat.specs.declared.fault.CodeKind.TheVariants.{BadOpcode}
use Rattle.ctw_flat.specs.declared.opcode.Bare.{Bare}
use Rattle.ctw_flat.specs.declared.opcode.Bare.TheVariants as bare
use Rattle.ctw_flat.specs.declared.opcode.Indexed.TheVariants as indexed
use Rattle.ctw_flat.specs.declared.opcode.Access.TheVariants as access
use Rattle.ctw_flat.specs.declared.opcode.Opener.{Opener}
use Rattle.ctw_flat.specs.declared.opcode.Form.{Form}
use Rattle.ctw_flat.specs.declared.opcode.Form.TheVariants as form
use Rattle.ctw_flat.specs.declared.opcode.First.{First}
use Rattle.ctw_flat.specs.declared.opcode.First.TheVariants.{Direct, Prefix}
use Rattle.ctw_flat.specs.Opcodes.{is_float, control_form, variable_form, memory_form, labelling_form, form as form_of, direct, opcode, has_secret_form, if_secret, secret_form, block_type}
use Rattle.ctw_flat.specs.Spelled.{Immediate, Behind, IsOp}
use Rattle.ctw_flat.proofs.Bodies.{opening_form}
use Rattle.ctw_ops.specs.Plain.{is_plain_type, is_plain_op}
use Rattle.ctw_form.specs.Read.{label_place}

-- ---- opcodes that stand for no label and open no block

abbrev is_ordinary : Form → Bool
is_ordinary (form.Bare (bare.Classify width)) = false
is_ordinary (form.Bare (bare.Declassify width)) = false
is_ordinary (form.Opens o) = false
is_ordinary _ = true

abbrev OrdinaryForm : Result Form CodeKind → Type 0
OrdinaryForm (Ok f) = is_ordinary f ≡ true
OrdinaryForm (Err kind) = Unit {0}

record Ordinary (r : Result Form CodeKind) : Type 0 where
  kept : OrdinaryForm r

fine : (f : Form) → is_ordinary f ≡ true → Ordinary (Ok f)
fine f e = record { kept = e }

bad : (kind : CodeKind) → Ordinary (Err kind)
bad kind = record { kept = tt }

row : (test : Bool) (a b : Result Form CodeKind) → Ordinary a → Ordinary b → Ordinary (cond test a b)
row true a b p q = p
row false a b p q = q

control_ordinary : (byte : ℕ) → (byte == 0x02) ≡ false → (byte == 0x03) ≡ false → (byte == 0x04) ≡ false → Ordinary (control_form byte)
unfolding control_form
control_ordinary byte two three four = rw (two, three, four) (search (rules, row, fine, bad) depth 60 fits 600)

variable_ordinary : (byte : ℕ) → Ordinary (variable_form byte)
unfolding variable_form
variable_ordinary byte = search (rules, row, fine, bad) depth 60 fits 600

memory_ordinary : (byte : ℕ) → Ordinary (memory_form byte)
unfolding memory_form
memory_ordinary byte = search (rules, row, fine, bad) depth 60 fits 600

labelling_ordinary : (byte : ℕ) → (byte == 0xE1) ≡ false → (byte == 0xE2) ≡ false → (byte == 0xE3) ≡ false → (byte == 0xE4) ≡ false → Ordinary (labelling_form byte)
unfolding labelling_form
labelling_ordinary byte one two three four = rw (one, two, three, four) (bad BadOpcode)

differs : (test : ℕ → Bool) (b n : ℕ) → test b ≡ false → test n ≡ true → (b == n) ≡ false
differs test b n outside inside = go (b == n) refl
  where
    go : (same : Bool) → (b == n) ≡ same → same ≡ false
    go false e = refl
    go true e =
        let both : true ≡ false = sym inside ∙ ap test (sym (eqb-true b n e)) ∙ outside in
        absurd cc

form_ordinary : (byte : ℕ) → within 0x02 0x04 byte ≡ false → within 0xE0 0xE4 byte ≡ false → Ordinary (form_of byte)
unfolding form_of
form_ordinary byte opens labels =
    let opener : (n : ℕ) → within 0x02 0x04 n ≡ true → (byte == n) ≡ false = λ n e. differs (within 0x02 0x04) byte n opens e in
    let label : (n : ℕ) → within 0xE0 0xE4 n ≡ true → (byte == n) ≡ false = λ n e. differs (within 0xE0 0xE4) byte n labels e in
    row _ _ _ (control_ordinary byte (opener 0x02 refl) (opener 0x03 refl) (opener 0x04 refl))
    (row _ _ _ (variable_ordinary byte) (row _ _ _ (bad _) (row _ _ _ (fine _ refl)
    (row _ _ _ (memory_ordinary byte) (labelling_ordinary byte (label 0xE1 refl) (label 0xE2 refl) (label 0xE3 refl) (label 0xE4 refl))))))

ordinary_kept : (r : Result Form CodeKind) (f : Form) → Ordinary r → r ≡ Ok f → is_ordinary f ≡ true
ordinary_kept r f h e = (subst Ordinary e h).kept

-- the first byte of an opcode without labels that opens no block
opcode_ordinary : (byte : ℕ) (first : First) → within 0x02 0x04 byte ≡ false → within 0xE0 0xE4 byte ≡ false → opcode byte ≡ Ok first → (f : Form) × (first ≡ Direct f) × (is_ordinary f ≡ true)
unfolding opcode
opcode_ordinary byte first opens labels e =
    go (form_of byte) (form_ordinary byte opens labels) (rw (differs (within 0xE0 0xE4) byte 0xE0 labels refl) at e)
  where
    go : (r : Result Form CodeKind) → Ordinary r → direct r ≡ Ok first → (f : Form) × (first ≡ Direct f) × (is_ordinary f ≡ true)
    go (Ok f) h q = (f, sym (ok_is {F = CodeKind} (Direct f) first q), h.kept)
    go (Err kind) h q = absurd (err_ok kind first q)

ordinary_plain : (f : Form) (text : List ℕ) (op : Op Label) → is_ordinary f ≡ true → Immediate Public f text op → is_plain_op op ≡ true
ordinary_plain (form.Bare bare.Unreachable) text op e m = rw (sym m.1)
ordinary_plain (form.Bare bare.Nop) text op e m = rw (sym m.1)
ordinary_plain (form.Bare bare.Else) text op e m = rw (sym m.1)
ordinary_plain (form.Bare bare.End) text op e m = rw (sym m.1)
ordinary_plain (form.Bare bare.Return) text op e m = rw (sym m.1)
ordinary_plain (form.Bare bare.Drop) text op e m = rw (sym m.1)
ordinary_plain (form.Bare (bare.Classify width)) text op e m = absurd cc
ordinary_plain (form.Bare (bare.Declassify width)) text op e m = absurd cc
ordinary_plain (form.Opens o) text op e m = absurd cc
ordinary_plain (form.Indexed indexed.Br) text op e m = rw (sym m.4.1)
ordinary_plain (form.Indexed indexed.BrIf) text op e m = rw (sym m.4.1)
ordinary_plain (form.Indexed indexed.Call) text op e m = rw (sym m.4.1)
ordinary_plain (form.Indexed indexed.LocalGet) text op e m = rw (sym m.4.1)
ordinary_plain (form.Indexed indexed.LocalSet) text op e m = rw (sym m.4.1)
ordinary_plain (form.Indexed indexed.LocalTee) text op e m = rw (sym m.4.1)
ordinary_plain (form.Indexed indexed.GlobalGet) text op e m = rw (sym m.4.1)
ordinary_plain (form.Indexed indexed.GlobalSet) text op e m = rw (sym m.4.1)
ordinary_plain form.BrTable text op e m = rw (sym m.4.4.1)
ordinary_plain form.CallIndirect text op e m = rw (sym m.4.4.1)
ordinary_plain form.MemorySize text op e m = rw (sym m.4.1)
ordinary_plain form.MemoryGrow text op e m = rw (sym m.4.1)
ordinary_plain form.Select text op e m = rw (sym m.1)
ordinary_plain (form.Access (access.Load width bytes signed)) text op e m = rw (sym m.4.4.1)
ordinary_plain (form.Access (access.Store width bytes)) text op e m = rw (sym m.4.4.1)
ordinary_plain (form.Const width) text op e m = rw (sym m.4.1)
ordinary_plain (form.Numeric n) text op e m = rw (sym m.1)

-- ---- opcodes behind the prefix

secret_has_form : (r : Result Form CodeKind) (f : Form) → if_secret r ≡ Ok f → has_secret_form f ≡ true
secret_has_form (Ok g) f e =
    elim (chosen (has_secret_form g) (Ok g) (Err BadOpcode) (Ok f) e) [
      | inl p ↦ ap has_secret_form (sym (ok_is {F = CodeKind} g f p.1)) ∙ p.0
      | inr p ↦ absurd (err_ok BadOpcode f p.1)
    ]
secret_has_form (Err kind) f e = absurd (err_ok kind f e)

secret_not_plain : (f : Form) (text : List ℕ) (op : Op Label) → has_secret_form f ≡ true → Immediate Secret f text op → is_plain_op op ≡ false
secret_not_plain (form.Bare b) text op e m = absurd cc
secret_not_plain (form.Opens o) text op e m = absurd cc
secret_not_plain (form.Indexed x) text op e m = absurd cc
secret_not_plain form.BrTable text op e m = absurd cc
secret_not_plain form.CallIndirect text op e m = absurd cc
secret_not_plain form.MemorySize text op e m = absurd cc
secret_not_plain form.MemoryGrow text op e m = absurd cc
secret_not_plain form.Select text op e m = rw (sym m.1)
secret_not_plain (form.Access (access.Load width bytes signed)) text op e m = rw (sym m.4.4.1)
secret_not_plain (form.Access (access.Store width bytes)) text op e m = rw (sym m.4.4.1)
secret_not_plain (form.Const width) text op e m = rw (sym m.4.1)
secret_not_plain (form.Numeric n) text op e m = rw (sym m.1)

prefixed_not_plain : (text : List ℕ) (op : Op Label) → Behind Prefix text op → is_plain_op op ≡ false
unfolding secret_form
prefixed_not_plain text op m = secret_not_plain m.0 m.2 op (secret_has_form (form_of m.3.0) m.0 m.3.2) m.4

-- ---- the opcodes of labels

labelling_byte : (b : ℕ) → 0xE0 ≤ b → b ≤ 0xE4 → (b ≡ 0xE0) ⊎ ((b ≡ 0xE1) ⊎ ((b ≡ 0xE2) ⊎ ((b ≡ 0xE3) ⊎ (b ≡ 0xE4))))
labelling_byte b low high = grind arith

of_prefix : (first : First) (text : List ℕ) (op : Op Label) → opcode 0xE0 ≡ Ok first → Behind first text op → is_plain_op op ≡ false
unfolding opcode
of_prefix first text op e m = prefixed_not_plain text op (subst (λ (g : First). Behind g text op) (sym (ok_is {F = CodeKind} Prefix first e)) m)

labelling_not_plain : (b : Bare) (text : List ℕ) (op : Op Label) → is_ordinary (form.Bare b) ≡ false → Immediate Public (form.Bare b) text op → is_plain_op op ≡ false
labelling_not_plain (bare.Classify width) text op e m = rw (sym m.1)
labelling_not_plain (bare.Declassify width) text op e m = rw (sym m.1)
labelling_not_plain bare.Unreachable text op e m = absurd cc
labelling_not_plain bare.Nop text op e m = absurd cc
labelling_not_plain bare.Else text op e m = absurd cc
labelling_not_plain bare.End text op e m = absurd cc
labelling_not_plain bare.Return text op e m = absurd cc
labelling_not_plain bare.Drop text op e m = absurd cc

-- what a byte of a form stands for
abbrev opens_by : Form → Result First CodeKind
opens_by f = Ok (Direct f)

of_bare : (b : Bare) (first : First) (text : List ℕ) (op : Op Label) → is_ordinary (form.Bare b) ≡ false → opens_by (form.Bare b) ≡ Ok first → Behind first text op → is_plain_op op ≡ false
of_bare b first text op h e m = labelling_not_plain b text op h (subst (λ (g : First). Behind g text op) (sym (ok_is {F = CodeKind} (Direct (form.Bare b)) first e)) m)

label_not_plain : (b : ℕ) (first : First) (text : List ℕ) (op : Op Label) → within 0xE0 0xE4 b ≡ true → opcode b ≡ Ok first → Behind first text op → is_plain_op op ≡ false
unfolding opcode form_of is_float is_numeric labelling_form
label_not_plain b first text op w e m =
    let parts = and_parts (leb 0xE0 b) (leb b 0xE4) w in
    let low : 0xE0 ≤ b = leb-true 0xE0 b parts.0 in
    let high : b ≤ 0xE4 = leb-true b 0xE4 parts.1 in
    let at : (n : ℕ) → b ≡ n → opcode n ≡ Ok first = λ n q. ap opcode (sym q) ∙ e in
    elim (labelling_byte b low high) [
      | inl q ↦ of_prefix first text op (at 0xE0 q) m
      | inr r ↦ elim r [
        | inl q ↦ of_bare (bare.Classify W32) first text op refl (at 0xE1 q) m
        | inr s ↦ elim s [
          | inl q ↦ of_bare (bare.Classify W64) first text op refl (at 0xE2 q) m
          | inr t ↦ elim t [
            | inl q ↦ of_bare (bare.Declassify W32) first text op refl (at 0xE3 q) m
            | inr q ↦ of_bare (bare.Declassify W64) first text op refl (at 0xE4 q) m
          ]
        ]
      ]
    ]

-- ---- the types of blocks

abbrev PublicType : Result (Option (ValueType Label)) CodeKind → Type 0
PublicType (Ok t) = is_plain_type t ≡ true
PublicType (Err kind) = Unit {0}

record Open (r : Result (Option (ValueType Label)) CodeKind) : Type 0 where
  kept : PublicType r

public : (t : Option (ValueType Label)) → is_plain_type t ≡ true → Open (Ok t)
public t e = record { kept = e }

no_type : (kind : CodeKind) → Open (Err kind)
no_type kind = record { kept = tt }

type_row : (test : Bool) (a b : Result (Option (ValueType Label)) CodeKind) → Open a → Open b → Open (cond test a b)
type_row true a b p q = p
type_row false a b p q = q

type_open : (b : ℕ) → (b == 0x7A) ≡ false → (b == 0x79) ≡ false → Open (block_type b)
unfolding block_type
type_open b first second = rw (first, second) (search (rules, type_row, public, no_type) depth 60 fits 600)

secret_32 : (t : Option (ValueType Label)) → block_type 0x7A ≡ Ok t → is_plain_type t ≡ false
unfolding block_type
secret_32 t e = ap is_plain_type (sym (ok_is {F = CodeKind} (Some (typed W32 Secret)) t e))

secret_64 : (t : Option (ValueType Label)) → block_type 0x79 ≡ Ok t → is_plain_type t ≡ false
unfolding block_type
secret_64 t e = ap is_plain_type (sym (ok_is {F = CodeKind} (Some (typed W64 Secret)) t e))

type_plain : (b : ℕ) (t : Option (ValueType Label)) → block_type b ≡ Ok t → ((b == 0x7A) || (b == 0x79)) ≡ not (is_plain_type t)
type_plain b t e = go (b == 0x7A) (b == 0x79) refl refl
  where
    go : (first second : Bool) → (b == 0x7A) ≡ first → (b == 0x79) ≡ second → (first || second) ≡ not (is_plain_type t)
    go true second p q = ap not (sym (secret_32 t (ap block_type (sym (eqb-true b 0x7A p)) ∙ e)))
    go false true p q = ap not (sym (secret_64 t (ap block_type (sym (eqb-true b 0x79 q)) ∙ e)))
    go false false p q = ap not (sym (subst Open e (type_open b p q)).kept)

-- ---- the place of a label

-- whether an opcode is plain, and where the byte stands that makes it another
abbrev pub Marked : ℕ → List ℕ → Op Label → Type 0
Marked at bytes op = ((is_plain_op op ≡ true) × (label_place at bytes ≡ None)) ⊎ ((is_plain_op op ≡ false) × (place : ℕ) × (label_place at bytes ≡ Some place))

opener_marked : (at b : ℕ) (o : Opener) (first : First) (text rest : List ℕ) (op : Op Label) → within 0xE0 0xE4 b ≡ false → within 0x02 0x04 b ≡ true → first ≡ Direct (form.Opens o) → Behind first text op
    → Marked at (b ∷ (text ++ rest)) op
opener_marked at b o first text rest op labels opens e behind =
    let m = subst (λ (g : First). Behind g text op) e behind in
    let whole : text ≡ m.3.0 ∷ [] = m.5 ∙ ap (λ (l : List ℕ). l ++ m.2) m.3.1 ∙ ap (λ (l : List ℕ). m.3.0 ∷ l) m.4.0 in
    let here : label_place at (b ∷ (text ++ rest)) ≡ cond ((m.3.0 == 0x7A) || (m.3.0 == 0x79)) (Some (at + 1)) None = ap (λ (l : List ℕ). label_place at (b ∷ (l ++ rest))) whole ∙ rw (labels, opens) refl in
    let plain : is_plain_op op ≡ is_plain_type m.0 = ap is_plain_op (sym m.4.1) in
    go (is_plain_type m.0) plain (here ∙ ap (λ (t : Bool). cond t (Some (at + 1)) None) (type_plain m.3.0 m.0 m.3.2))
  where
    go : (t : Bool) → is_plain_op op ≡ t → label_place at (b ∷ (text ++ rest)) ≡ cond (not t) (Some (at + 1)) None → Marked at (b ∷ (text ++ rest)) op
    go true p q = inl (p, q)
    go false p q = inr (p, at + 1, q)

ordinary_marked : (at b : ℕ) (f : Form) (first : First) (text rest : List ℕ) (op : Op Label) → within 0xE0 0xE4 b ≡ false → within 0x02 0x04 b ≡ false → first ≡ Direct f → is_ordinary f ≡ true → Behind first text op
    → Marked at (b ∷ (text ++ rest)) op
ordinary_marked at b f first text rest op labels opens e h behind =
    inl (ordinary_plain f text op h (subst (λ (g : First). Behind g text op) e behind), rw (labels, opens) refl)

byte_marked : (at b : ℕ) (first : First) (text rest : List ℕ) (op : Op Label) → opcode b ≡ Ok first → Behind first text op → Marked at (b ∷ (text ++ rest)) op
byte_marked at b first text rest op e m = go (within 0xE0 0xE4 b) (within 0x02 0x04 b) refl refl
  where
    go : (labels opens : Bool) → within 0xE0 0xE4 b ≡ labels → within 0x02 0x04 b ≡ opens → Marked at (b ∷ (text ++ rest)) op
    go true opens p q = inr (label_not_plain b first text op p e m, at, rw p refl)
    go false true p q =
        let o = opening_form b first q e in
        opener_marked at b o.0 first text rest op p q o.1 m
    go false false p q =
        let f = opcode_ordinary b first q p e in
        ordinary_marked at b f.0 first text rest op p q f.1 f.2 m

pub op_marked : (at : ℕ) (text rest : List ℕ) (op : Op Label) → IsOp text op → Marked at (text ++ rest) op
op_marked at text rest op m =
    let whole : text ++ rest ≡ m.3.0 ∷ (m.2 ++ rest) = ap (λ (l : List ℕ). l ++ rest) m.5 ∙ ap (λ (l : List ℕ). (l ++ m.2) ++ rest) m.3.1 in
    subst (λ (l : List ℕ). Marked at l op) (sym whole) (byte_marked at m.3.0 m.0 m.2 rest op m.3.2 m.4)
