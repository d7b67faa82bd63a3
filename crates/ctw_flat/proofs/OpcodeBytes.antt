-- Opcodes both ways: the byte of a form is read as it, and a form that was read has the byte that it was read from.
use Rattle.std.proofs.Common.{◌≡◌, ℕ, ◌<◌, ◌≤◌, ◌⊎◌, Bool, true, false, cond, ◌&&◌, ◌||◌, List, [], ◌∷◌, Result, Ok, Err, refl, sym, ap, subst, ◌∙◌, inl, inr, eqb-true, ne_eqb, leb-true, true≢false, arith}
use Rattle.std.specs.Prelude.{not, nat_le, ◌==◌}
use Rattle.std.proofs.lemmas.Bool.{lt-leb}
use Rattle.ctw_ops.specs.declared.types.Width.{Width}
use Rattle.ctw_ops.specs.declared.types.Width.TheVariants.{W32, W64}
use Rattle.ctw_ops.specs.Numeric.{within, is_numeric}
use Rattle.ctw_ops.specs.Forms.{is_load, is_store}
use Rattle.ctw_leb.proofs.Exact.{ok_is, err_ok, chosen}
use Rattle.ctw_flat.specs.declared.fault.CodeKind.{CodeKind}
use Rattle.ctw_flat.specs.declared.fault.CodeKind.TheVariants.{BadOpcode, Floats}
use Rattle.ctw_flat.specs.declared.opcode.Bare.TheVariants as bare
use Rattle.ctw_flat.specs.declared.opcode.Opener.TheVariants as opener
use Rattle.ctw_flat.specs.declared.opcode.Indexed.TheVariants as indexed
use Rattle.ctw_flat.specs.declared.opcode.Access.TheVariants as access
use Rattle.ctw_flat.specs.declared.opcode.Form.{Form}
use Rattle.ctw_flat.specs.declared.opcode.Form.TheVariants as form
use Rattle.ctw_flat.specs.declared.opcode.First.{First}
use Rattle.ctw_flat.specs.declared.opcode.First.TheVariants.{Direct, Prefix}
use Rattle.ctw_flat.specs.Opcodes.{is_float, control_forms, variable_forms, memory_forms, labelling_forms, control_form, variable_form, memory_form, labelling_form, form as form_of, direct, opcode, has_secret_form, if_secret, secret_form, load_form, store_form, load_opcode, store_opcode, const_opcode, opcode_byte, prefix_byte, form_among}
use Rattle.ctw_flat.specs.Instructions.{IsOpcode}

-- ---- tests

or_cases : (a b : Bool) → (a || b) ≡ true → (a ≡ true) ⊎ (b ≡ true)
or_cases true b e = inl refl
or_cases false b e = inr e

and_both : (a b : Bool) → (a && b) ≡ true → (a ≡ true) × (b ≡ true)
and_both true b e = (refl, e)
and_both false b e = absurd (true≢false (sym e))

not_false : (a : Bool) → not a ≡ true → a ≡ false
not_false false e = refl
not_false true e = absurd (true≢false (sym e))

inside : (low high n : ℕ) → within low high n ≡ true → (low ≤ n) × (n ≤ high)
inside low high n e =
    let both = and_both _ _ e in
    (leb-true low n both.0, leb-true n high both.1)

below : (low high n : ℕ) → n < low → within low high n ≡ false
below low high n lt = rw (lt-leb low n lt) refl

above : (low high n : ℕ) → high < n → within low high n ≡ false
above low high n lt = rw (lt-leb n high lt) (never _)
  where
    never : (b : Bool) → (b && false) ≡ false
    never true = refl
    never false = refl

-- ---- numeric operations

-- what a byte stands for by itself, and behind the prefix
record Stands (b : ℕ) (f : Form) : Type 0 where
  direct : opcode b ≡ Ok (Direct f)
  secret : secret_form b ≡ Ok f

-- a range of numbers
record Between (low high n : ℕ) : Type 0 where
  least : low ≤ n
  most : n ≤ high

between : (low high n : ℕ) → within low high n ≡ true → Between low high n
between low high n e =
    let h = inside low high n e in
    record { least = h.0; most = h.1 }

not_float : (n : ℕ) → Between 0x45 0xC4 n → is_numeric n ≡ true → is_float n ≡ false
unfolding is_float is_numeric
not_float n h e =
    elim (or_cases _ _ e) [
      | inl e ↦ elim (or_cases _ _ e) [
        | inl e ↦ elim (or_cases _ _ e) [
          | inl e ↦ elim (or_cases _ _ e) [
            | inl e ↦
                let r = between 0x45 0x5A n e in
                let low = r.least in
                let high = r.most in
                rw (above 0x2A 0x2B n (omega arith), above 0x38 0x39 n (omega arith), above 0x43 0x44 n (omega arith), below 0x5B 0x66 n (omega arith), below 0x8B 0xA6 n (omega arith), below 0xA8 0xAB n (omega arith), below 0xAE 0xBF n (omega arith)) refl
            | inr e ↦
                let r = between 0x67 0x8A n e in
                let low = r.least in
                let high = r.most in
                rw (above 0x2A 0x2B n (omega arith), above 0x38 0x39 n (omega arith), above 0x43 0x44 n (omega arith), above 0x5B 0x66 n (omega arith), below 0x8B 0xA6 n (omega arith), below 0xA8 0xAB n (omega arith), below 0xAE 0xBF n (omega arith)) refl
          ]
          | inr e ↦
              let is : n ≡ 0xA7 = eqb-true n 0xA7 e in
              rw is refl
        ]
        | inr e ↦
            let r = between 0xAC 0xAD n e in
            let low = r.least in
            let high = r.most in
            rw (above 0x2A 0x2B n (omega arith), above 0x38 0x39 n (omega arith), above 0x43 0x44 n (omega arith), above 0x5B 0x66 n (omega arith), above 0x8B 0xA6 n (omega arith), above 0xA8 0xAB n (omega arith), below 0xAE 0xBF n (omega arith)) refl
      ]
      | inr e ↦
          let r = between 0xC0 0xC4 n e in
          let low = r.least in
          let high = r.most in
          rw (above 0x2A 0x2B n (omega arith), above 0x38 0x39 n (omega arith), above 0x43 0x44 n (omega arith), above 0x5B 0x66 n (omega arith), above 0x8B 0xA6 n (omega arith), above 0xA8 0xAB n (omega arith), above 0xAE 0xBF n (omega arith)) refl
    ]

widest : (low high n : ℕ) → 0x45 ≤ low → high ≤ 0xC4 → within low high n ≡ true → Between 0x45 0xC4 n
widest low high n le more e =
    let r = inside low high n e in
    record { least = omega (arith, r.0); most = omega (arith, r.1) }

numeric_between : (n : ℕ) → is_numeric n ≡ true → Between 0x45 0xC4 n
unfolding is_numeric
numeric_between n e =
    elim (or_cases _ _ e) [
      | inl e ↦ elim (or_cases _ _ e) [
        | inl e ↦ elim (or_cases _ _ e) [
          | inl e ↦ elim (or_cases _ _ e) [
            | inl e ↦ widest 0x45 0x5A n (omega arith) (omega arith) e
            | inr e ↦ widest 0x67 0x8A n (omega arith) (omega arith) e
          ]
          | inr e ↦
              let is : n ≡ 0xA7 = eqb-true n 0xA7 e in
              record { least = omega arith; most = omega arith }
        ]
        | inr e ↦ widest 0xAC 0xAD n (omega arith) (omega arith) e
      ]
      | inr e ↦ widest 0xC0 0xC4 n (omega arith) (omega arith) e
    ]

numeric_form : (n : ℕ) → is_numeric n ≡ true → form_of n ≡ Ok (form.Numeric n)
unfolding form_of
numeric_form n e =
    let r = numeric_between n e in
    let low = r.least in
    rw (lt-leb n 0x11 (omega arith), lt-leb n 0x24 (omega arith), not_float n r e, e) refl

numeric_stands : (n : ℕ) → is_numeric n ≡ true → Stands n (form.Numeric n)
unfolding opcode secret_form
numeric_stands n e =
    let r = numeric_between n e in
    let high = r.most in
    record {
      direct = rw (ne_eqb n 0xE0 (λ same. omega arith), numeric_form n e) refl;
      secret = rw (numeric_form n e) refl;
    }

-- ---- loads, stores and constants

load_four : (signed : Bool) → (signed ≡ false) → Stands (load_opcode W32 4 signed) (load_form W32 4 signed)
unfolding opcode secret_form form_of memory_form is_float is_numeric
load_four false e = record { direct = refl; secret = refl }
load_four true e = absurd (true≢false e)

load_eight : (signed : Bool) → (signed ≡ false) → Stands (load_opcode W64 8 signed) (load_form W64 8 signed)
unfolding opcode secret_form form_of memory_form is_float is_numeric
load_eight false e = record { direct = refl; secret = refl }
load_eight true e = absurd (true≢false e)

load_one : (width : Width) (signed : Bool) → Stands (load_opcode width 1 signed) (load_form width 1 signed)
unfolding opcode secret_form form_of memory_form is_float is_numeric
load_one W32 false = record { direct = refl; secret = refl }
load_one W32 true = record { direct = refl; secret = refl }
load_one W64 false = record { direct = refl; secret = refl }
load_one W64 true = record { direct = refl; secret = refl }

load_two : (width : Width) (signed : Bool) → Stands (load_opcode width 2 signed) (load_form width 2 signed)
unfolding opcode secret_form form_of memory_form is_float is_numeric
load_two W32 false = record { direct = refl; secret = refl }
load_two W32 true = record { direct = refl; secret = refl }
load_two W64 false = record { direct = refl; secret = refl }
load_two W64 true = record { direct = refl; secret = refl }

load_long : (signed : Bool) → Stands (load_opcode W64 4 signed) (load_form W64 4 signed)
unfolding opcode secret_form form_of memory_form is_float is_numeric
load_long false = record { direct = refl; secret = refl }
load_long true = record { direct = refl; secret = refl }

abbrev LoadStands : Width → Bool → ℕ → Type 0
LoadStands width signed bytes = Stands (load_opcode width bytes signed) (load_form width bytes signed)

load_stands : (width : Width) (bytes : ℕ) (signed : Bool) → is_load width bytes signed ≡ true → Stands (load_opcode width bytes signed) (load_form width bytes signed)
load_stands W32 bytes signed h =
    elim (or_cases _ _ h) [
      | inl e ↦ elim (or_cases _ _ e) [
        | inl e ↦ subst (LoadStands W32 signed) (sym (eqb-true bytes 1 e)) (load_one W32 signed)
        | inr e ↦ subst (LoadStands W32 signed) (sym (eqb-true bytes 2 e)) (load_two W32 signed)
      ]
      | inr e ↦
          let both = and_both _ _ e in
          subst (LoadStands W32 signed) (sym (eqb-true bytes 4 both.0)) (load_four signed (not_false signed both.1))
    ]
load_stands W64 bytes signed h =
    elim (or_cases _ _ h) [
      | inl e ↦ elim (or_cases _ _ e) [
        | inl e ↦ elim (or_cases _ _ e) [
          | inl e ↦ subst (LoadStands W64 signed) (sym (eqb-true bytes 1 e)) (load_one W64 signed)
          | inr e ↦ subst (LoadStands W64 signed) (sym (eqb-true bytes 2 e)) (load_two W64 signed)
        ]
        | inr e ↦ subst (LoadStands W64 signed) (sym (eqb-true bytes 4 e)) (load_long signed)
      ]
      | inr e ↦
          let both = and_both _ _ e in
          subst (LoadStands W64 signed) (sym (eqb-true bytes 8 both.0)) (load_eight signed (not_false signed both.1))
    ]

store_one : (width : Width) → Stands (store_opcode width 1) (store_form width 1)
unfolding opcode secret_form form_of memory_form is_float is_numeric
store_one W32 = record { direct = refl; secret = refl }
store_one W64 = record { direct = refl; secret = refl }

store_two : (width : Width) → Stands (store_opcode width 2) (store_form width 2)
unfolding opcode secret_form form_of memory_form is_float is_numeric
store_two W32 = record { direct = refl; secret = refl }
store_two W64 = record { direct = refl; secret = refl }

store_four : (width : Width) → Stands (store_opcode width 4) (store_form width 4)
unfolding opcode secret_form form_of memory_form is_float is_numeric
store_four W32 = record { direct = refl; secret = refl }
store_four W64 = record { direct = refl; secret = refl }

store_eight : Stands (store_opcode W64 8) (store_form W64 8)
unfolding opcode secret_form form_of memory_form is_float is_numeric
store_eight = record { direct = refl; secret = refl }

abbrev StoreStands : Width → ℕ → Type 0
StoreStands width bytes = Stands (store_opcode width bytes) (store_form width bytes)

store_stands : (width : Width) (bytes : ℕ) → is_store width bytes ≡ true → Stands (store_opcode width bytes) (store_form width bytes)
store_stands W32 bytes h =
    elim (or_cases _ _ h) [
      | inl e ↦ elim (or_cases _ _ e) [
        | inl e ↦ subst (StoreStands W32) (sym (eqb-true bytes 1 e)) (store_one W32)
        | inr e ↦ subst (StoreStands W32) (sym (eqb-true bytes 2 e)) (store_two W32)
      ]
      | inr e ↦ subst (StoreStands W32) (sym (eqb-true bytes 4 e)) (store_four W32)
    ]
store_stands W64 bytes h =
    elim (or_cases _ _ h) [
      | inl e ↦ elim (or_cases _ _ e) [
        | inl e ↦ elim (or_cases _ _ e) [
          | inl e ↦ subst (StoreStands W64) (sym (eqb-true bytes 1 e)) (store_one W64)
          | inr e ↦ subst (StoreStands W64) (sym (eqb-true bytes 2 e)) (store_two W64)
        ]
        | inr e ↦ subst (StoreStands W64) (sym (eqb-true bytes 4 e)) (store_four W64)
      ]
      | inr e ↦ subst (StoreStands W64) (sym (eqb-true bytes 8 e)) store_eight
    ]

const_stands : (width : Width) → Stands (const_opcode width) (form.Const width)
unfolding opcode secret_form form_of memory_form is_float is_numeric
const_stands W32 = record { direct = refl; secret = refl }
const_stands W64 = record { direct = refl; secret = refl }

select_stands : Stands 0x1B form.Select
unfolding opcode secret_form form_of variable_form
select_stands = record { direct = refl; secret = refl }

pub prefix_there : opcode prefix_byte ≡ Ok Prefix
unfolding opcode
prefix_there = refl

-- ---- the byte of a form is read as it

numeric_there : (n : ℕ) → is_numeric n ≡ true → opcode n ≡ Ok (Direct (form.Numeric n))
numeric_there n e = (numeric_stands n e).direct

pub form_there : (f : Form) → IsOpcode f → opcode (opcode_byte f) ≡ Ok (Direct f)
unfolding opcode form_of control_form variable_form memory_form labelling_form is_float is_numeric
form_there (form.Bare bare.Unreachable) h = refl
form_there (form.Bare bare.Nop) h = refl
form_there (form.Bare bare.Else) h = refl
form_there (form.Bare bare.End) h = refl
form_there (form.Bare bare.Return) h = refl
form_there (form.Bare bare.Drop) h = refl
form_there (form.Bare (bare.Classify W32)) h = refl
form_there (form.Bare (bare.Classify W64)) h = refl
form_there (form.Bare (bare.Declassify W32)) h = refl
form_there (form.Bare (bare.Declassify W64)) h = refl
form_there (form.Opens opener.Block) h = refl
form_there (form.Opens opener.Loop) h = refl
form_there (form.Opens opener.If) h = refl
form_there (form.Indexed indexed.Br) h = refl
form_there (form.Indexed indexed.BrIf) h = refl
form_there (form.Indexed indexed.Call) h = refl
form_there (form.Indexed indexed.LocalGet) h = refl
form_there (form.Indexed indexed.LocalSet) h = refl
form_there (form.Indexed indexed.LocalTee) h = refl
form_there (form.Indexed indexed.GlobalGet) h = refl
form_there (form.Indexed indexed.GlobalSet) h = refl
form_there form.BrTable h = refl
form_there form.CallIndirect h = refl
form_there form.MemorySize h = refl
form_there form.MemoryGrow h = refl
form_there form.Select h = select_stands.direct
form_there (form.Access (access.Load width bytes signed)) h = (load_stands width bytes signed h).direct
form_there (form.Access (access.Store width bytes)) h = (store_stands width bytes h).direct
form_there (form.Const width) h = (const_stands width).direct
form_there (form.Numeric op) h = numeric_there op h

pub secret_there : (f : Form) → IsOpcode f → has_secret_form f ≡ true → secret_form (opcode_byte f) ≡ Ok f
secret_there form.Select h s = select_stands.secret
secret_there (form.Access (access.Load width bytes signed)) h s = (load_stands width bytes signed h).secret
secret_there (form.Access (access.Store width bytes)) h s = (store_stands width bytes h).secret
secret_there (form.Const width) h s = (const_stands width).secret
secret_there (form.Numeric op) h s = (numeric_stands op h).secret
secret_there (form.Bare b) h s = absurd (true≢false (sym s))
secret_there (form.Opens o) h s = absurd (true≢false (sym s))
secret_there (form.Indexed x) h s = absurd (true≢false (sym s))
secret_there form.BrTable h s = absurd (true≢false (sym s))
secret_there form.CallIndirect h s = absurd (true≢false (sym s))
secret_there form.MemorySize h s = absurd (true≢false (sym s))
secret_there form.MemoryGrow h s = absurd (true≢false (sym s))

-- ---- a form that was read has the byte that it was read from

-- a form of a table is an opcode's, by this byte
record Written (b : ℕ) (r : Result Form CodeKind) : Type 0 where
  is : (f : Form) → r ≡ Ok f → IsOpcode f × (opcode_byte f ≡ b)

good : (b : ℕ) (f : Form) → IsOpcode f → opcode_byte f ≡ b → Written b (Ok f)
good b f listed h = record { is = λ g e. subst (λ (x : Form). IsOpcode x × (opcode_byte x ≡ b)) (ok_is {F = CodeKind} f g e) (listed, h) }

bad : (b : ℕ) (kind : CodeKind) → Written b (Err kind)
bad b kind = record { is = λ f e. absurd (err_ok kind f e) }

either : (b : ℕ) (test : Bool) (x y : Result Form CodeKind) → (test ≡ true → Written b x) → Written b y → Written b (cond test x y)
either b true x y p q = p refl
either b false x y p q = q

abbrev AllOpcodes : List Form → Type 0
AllOpcodes [] = Unit {0}
AllOpcodes (f ∷ forms) = IsOpcode f × AllOpcodes forms

among_row : (forms : List Form) (b : ℕ) → AllOpcodes forms → Written b (form_among forms b)
among_row [] b h = bad b BadOpcode
among_row (f ∷ forms) b h = either b (b == opcode_byte f) (Ok f) (form_among forms b) (λ e. good b f h.0 (sym (eqb-true b (opcode_byte f) e))) (among_row forms b h.1)

control_row : (b : ℕ) → Written b (control_form b)
unfolding control_form
control_row b = among_row control_forms b (tt, (tt, (tt, (tt, (tt, (tt, (tt, (tt, (tt, (tt, (tt, (tt, (tt, tt)))))))))))))

variable_row : (b : ℕ) → Written b (variable_form b)
unfolding variable_form
variable_row b = among_row variable_forms b (tt, (tt, (tt, (tt, (tt, (tt, (tt, tt)))))))

memory_row : (b : ℕ) → Written b (memory_form b)
unfolding memory_form
memory_row b =
    among_row memory_forms b (refl, (refl, (refl, (refl, (refl, (refl, (refl, (refl, (refl, (refl, (refl, (refl, (refl, (refl, (refl, (refl, (refl, (refl, (refl, (tt, (tt, (tt, (tt, tt)))))))))))))))))))))))

labelling_row : (b : ℕ) → Written b (labelling_form b)
unfolding labelling_form
labelling_row b = among_row labelling_forms b (tt, (tt, (tt, (tt, tt))))

form_row : (b : ℕ) → Written b (form_of b)
unfolding form_of
form_row b =
    let last = either b (nat_le b 0x42) (memory_form b) (labelling_form b) (λ e. memory_row b) (labelling_row b) in
    let numeric = either b (is_numeric b) (Ok (form.Numeric b)) _ (λ e. good b (form.Numeric b) e refl) last in
    let floats = either b (is_float b) (Err Floats) _ (λ e. bad b Floats) numeric in
    let variable = either b (nat_le b 0x24) (variable_form b) _ (λ e. variable_row b) floats in
    either b (nat_le b 0x11) (control_form b) _ (λ e. control_row b) variable

direct_form : (r : Result Form CodeKind) (f : Form) → direct r ≡ Ok (Direct f) → r ≡ Ok f
direct_form (Ok g) f e = ap Ok (direct_is g f (ok_is {F = CodeKind} (Direct g) (Direct f) e))
  where
    of : Form → First → Form
    of d (Direct x) = x
    of d Prefix = d

    direct_is : (g f : Form) → Direct g ≡ Direct f → g ≡ f
    direct_is g f e = ap (of g) e
direct_form (Err kind) f e = absurd (err_ok kind (Direct f) e)

pub opcode_is : (b : ℕ) (f : Form) → opcode b ≡ Ok (Direct f) → IsOpcode f × (opcode_byte f ≡ b)
unfolding opcode
opcode_is b f e =
    elim (chosen (b == prefix_byte) (Ok Prefix) (direct (form_of b)) (Ok (Direct f)) e) [
      | inl p ↦ absurd (prefix_direct f (ok_is {F = CodeKind} Prefix (Direct f) p.1))
      | inr p ↦ (form_row b).is f (direct_form (form_of b) f p.1)
    ]
  where
    prefix_direct : (f : Form) → Prefix ≡ Direct f → ⊥
    prefix_direct f e = cc

pub secret_is : (b : ℕ) (f : Form) → secret_form b ≡ Ok f → IsOpcode f × (has_secret_form f ≡ true) × (opcode_byte f ≡ b)
unfolding secret_form
secret_is b f e =
    let s = if_secret_is (form_of b) f e in
    let r = (form_row b).is f s.0 in
    (r.0, s.1, r.1)
  where
    if_secret_is : (r : Result Form CodeKind) (f : Form) → if_secret r ≡ Ok f → (r ≡ Ok f) × (has_secret_form f ≡ true)
    if_secret_is (Ok g) f e =
        elim (chosen (has_secret_form g) (Ok g) (Err BadOpcode) (Ok f) e) [
          | inl p ↦ (p.1, ap has_secret_form (sym (ok_is {F = CodeKind} g f p.1)) ∙ p.0)
          | inr p ↦ absurd (err_ok BadOpcode f p.1)
        ]
    if_secret_is (Err kind) f e = absurd (err_ok kind f e)

pub prefix_is : (b : ℕ) → opcode b ≡ Ok Prefix → prefix_byte ≡ b
unfolding opcode
prefix_is b e =
    elim (chosen (b == prefix_byte) (Ok Prefix) (direct (form_of b)) (Ok Prefix) e) [
      | inl p ↦ sym (eqb-true b prefix_byte p.0)
      | inr p ↦ absurd (no_prefix (form_of b) p.1)
    ]
  where
    no_prefix : (r : Result Form CodeKind) → direct r ≡ Ok Prefix → ⊥
    no_prefix (Ok f) e = direct_prefix f (ok_is {F = CodeKind} (Direct f) Prefix e)
      where
        direct_prefix : (f : Form) → Direct f ≡ Prefix → ⊥
        direct_prefix f e = cc
    no_prefix (Err kind) e = err_ok kind Prefix e
