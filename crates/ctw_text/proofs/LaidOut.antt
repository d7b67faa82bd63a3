-- A printed module is laid out: its words and numbers stand apart.
use Rattle.std.proofs.Common.{◌≡◌, ◌<◌, ◌≤◌, ◌^◌, ◌-◌, ◌/◌, ℕ, ◌+◌, ⊎_elim, Bool, true, false, cond, List, [], ◌∷◌, ◌++◌, Option, Some, None, refl, sym, subst, arith}
use Rattle.std.specs.Prelude.{◌==◌, nat_lt, IfSome}
use Rattle.std.specs.List.{All}
use Rattle.std.specs.Str.{IsUtf8}
use Rattle.std.proofs.Math.Utf8.{encode, encodes, next, scalar, scalars, scalar_cases}
use Rattle.std.proofs.lemmas.Str.{IsUtf8-from_is_utf8}
use Rattle.std.proofs.lemmas.List.Elements.{All-head, All-tail}
use Rattle.std.proofs.lemmas.Bool.{ltb-true, ltb-false}
use Rattle.ctw_ops.specs.declared.types.Label.{Label}
use Rattle.ctw_ops.specs.declared.types.Label.TheVariants.{Public, Secret}
use Rattle.ctw_ops.specs.declared.types.Width.{Width}
use Rattle.ctw_ops.specs.declared.types.Width.TheVariants.{W32, W64}
use Rattle.ctw_ops.specs.declared.types.Trust.{Trust}
use Rattle.ctw_ops.specs.declared.types.Trust.TheVariants.{Untrusted, Trusted}
use Rattle.ctw_ops.specs.declared.types.Limits.{Limits}
use Rattle.ctw_ops.specs.declared.types.ExternTag.TheVariants.{Func, Table, Memory, Global}
use Rattle.ctw_ops.specs.Types.{ValueType, FunctionType, VariableType, MemoryType, FitsWidth}
use Rattle.ctw_ops.specs.WithinLimits.{IsOctet}
use Rattle.ctw_ops.specs.Code as ops
use Rattle.ctw_ops.specs.Code.{Leaf, Code, OfBlock, OfLoop, OfIf}
use Rattle.ctw_ops.specs.Tree as tree
use Rattle.ctw_ops.specs.Tree.{Module, TypeEntry, Extern, Import, Function, Constant, Export, Element, Segment, Custom}
use Rattle.ctw_ops.specs.Valid.{IsFitting, IsValid}
use Rattle.ctw_lex.specs.Chars.{is_atom_byte}
use Rattle.ctw_text.specs.Keys as k
use Rattle.ctw_text.specs.Keys.{Part, Param, Local, Indexed, Key, KModule, KCt, KType, KVariant, KTrusted, KImport, KExport, KStart, KElem, KData, KCustom, KMut, KSecret, KFuncref, KElse, KEnd, KExtern, KGroup, KShape, KTy, KOp}
use Rattle.ctw_text.specs.Toks.{Tok}
use Rattle.ctw_text.specs.Grammar.{bits_in}
use Rattle.ctw_text.specs.Print as p
use Rattle.ctw_text.specs.Print.{Sign, Ink, text_of, bytes_of, tok_at, blank, line, line2, line4, key, num, open_, close, natural, print_types, print_group, print_result, print_bits, print_offset, print_align, print_indexes, print_use, print_leaf, print_code, print_trust, print_type, print_entry, print_each, print_type_field, print_max, print_limits, print_table, print_memory, print_global_type, print_extern, print_import, print_function, print_table_field, print_memory_field, print_constant, print_global, print_export, print_start, print_element, print_segment, print_custom, print_maybe, print_ct, print_module}
use Rattle.ctw_text.specs.Says.{AllOf}
use Rattle.ctw_text.specs.Limited.{Is32, IsLimitedFunction, IsLimitedEntry, AreSizes, IsText, IsLimitedExtern, IsLimitedImport, IsLimitedExport, IsLimitedConstant, IsLimitedElement, IsLimitedSegment, IsLimitedCustom, IsLimited}
use Rattle.ctw_text.proofs.Lexing.{first, both_true, differs, IsAtomText, Laid, AllBytes, below}
use Rattle.ctw_text.proofs.Atoms as words
use Rattle.ctw_text.proofs.Atoms.{IsWord, word_text, plain_word, extern_word, group_word, shape_word, type_word, uses_word, table_word, indirect_word, const_word, bare_word, numeric_word, load_word, store_word, number_text, negative_text, offset_text, align_text}
use Rattle.ctw_text.proofs.PrintableModules.{all_of, place_low, LeafStands, CodeStands, bodies_stand}

-- `Laid` as a record, so that its list is found from it
pub record IsLaid (is : List Ink) : Type 0 where
  pub holds : Laid is

-- laid out, and behind a word, a number or a `(`
pub record Fine (is : List Ink) : Type 0 where
  pub laid : IsLaid is
  pub apart : is_atom_byte (first (text_of is)) ≡ false
  pub mark : (first (text_of is) == 59) ≡ false

-- One mark or gap

after_blank : {is : List Ink} → IsLaid is → Fine (blank ∷ is)
after_blank l = record { laid = record { holds = (refl, l.holds) }; apart = refl; mark = refl }

after_line : {is : List Ink} → IsLaid is → Fine (line ∷ is)
after_line l = record { laid = record { holds = (refl, l.holds) }; apart = refl; mark = refl }

after_line2 : {is : List Ink} → IsLaid is → Fine (line2 ∷ is)
after_line2 l = record { laid = record { holds = (refl, l.holds) }; apart = refl; mark = refl }

after_line4 : {is : List Ink} → IsLaid is → Fine (line4 ∷ is)
after_line4 l = record { laid = record { holds = (refl, l.holds) }; apart = refl; mark = refl }

closed : {is : List Ink} → IsLaid is → Fine (close ∷ is)
closed l = record { laid = record { holds = (tt, l.holds) }; apart = refl; mark = refl }

word : {k : Key} {is : List Ink} → IsWord k → Fine is → IsLaid (key k ∷ is)
word w f = record { holds = (record { spelled = word_text w; ends = f.apart }, f.laid.holds) }

-- an atom doesn't begin with `;`
no_comment : {w : List ℕ} {t : Tok} → IsAtomText w t → (rest : List ℕ) → (first (w ++ rest) == 59) ≡ false
no_comment a rest = subst (λ w. (first (w ++ rest) == 59) ≡ false) (sym a.split) (differs a.head 59 refl a.begins)

opened : {k : Key} {is : List Ink} → IsWord k → Fine is → IsLaid (open_ ∷ key k ∷ is)
opened {is = is} w f = record { holds = (no_comment (word_text w) (text_of is), (word w f).holds) }

wide : (n : ℕ) → Is32 n → n < 2 ^ 64
wide n h = omega arith

number64 : (n : ℕ) {is : List Ink} → n < 2 ^ 64 → Fine is → IsLaid (num n ∷ is)
number64 n h f = record { holds = (record { spelled = number_text n h; ends = f.apart }, f.laid.holds) }

number : (n : ℕ) {is : List Ink} → Is32 n → Fine is → IsLaid (num n ∷ is)
number n h f = number64 n (wide n h) f

string : (bs : List ℕ) {is : List Ink} → AllBytes bs → IsLaid is → IsLaid (p.Mark (p.Quote bs) ∷ is)
string bs h l = record { holds = (h, l.holds) }

-- Types, indexes and numbers

types_fine : (ts : List (ValueType Label)) {is : List Ink} → Fine is → Fine (print_types ts is)
types_fine [] f = f
types_fine (t ∷ ts) f = after_blank (word (type_word t) (types_fine ts f))

group_fine : (part : Part) (ts : List (ValueType Label)) {is : List Ink} → Fine is → Fine (print_group part ts is)
group_fine part [] f = f
group_fine part (t ∷ ts) f = after_blank (opened (group_word part) (types_fine (t ∷ ts) (closed f.laid)))

result_fine : (r : Option (ValueType Label)) {is : List Ink} → Fine is → Fine (print_result r is)
result_fine None f = f
result_fine (Some t) f = after_blank (opened (group_word k.Part.Result) (after_blank (word (type_word t) (closed f.laid))))

indexes_fine : (ns : List ℕ) {is : List Ink} → All Is32 ns → Fine is → Fine (print_indexes ns is)
indexes_fine [] h f = f
indexes_fine (n ∷ ns) h f = after_blank (number n (All-head Is32 n ns h) (indexes_fine ns (All-tail Is32 n ns h) f))

use_fine : (n : ℕ) {is : List Ink} → Is32 n → IsLaid is → Fine (print_use n is)
use_fine n h l = after_blank (opened (plain_word words.type) (after_blank (number n h (closed l))))

width_wide : (w : Width) (n : ℕ) → FitsWidth w n → n < 2 ^ 64
width_wide W32 n h = omega arith
width_wide W64 n h = h

negative_wide : (w : Width) (n : ℕ) → nat_lt n (2 ^ (bits_in w - 1)) ≡ false → 2 ^ bits_in w - n < 2 ^ 64
negative_wide W32 n e = omega arith
negative_wide W64 n e = let l : 9223372036854775808 ≤ n = ltb-false n 9223372036854775808 e in omega arith

bits_laid : (w : Width) (bits : ℕ) {is : List Ink} → FitsWidth w bits → Fine is → IsLaid (print_bits w bits is)
bits_laid w bits {is} h f = go (nat_lt bits (2 ^ (bits_in w - 1))) refl
  where
    go : (b : Bool) → nat_lt bits (2 ^ (bits_in w - 1)) ≡ b → IsLaid (cond b (num bits) (p.Mark (p.Negative (2 ^ bits_in w - bits))) ∷ is)
    go true e = number64 bits (width_wide w bits h) f
    go false e = record { holds = (record { spelled = negative_text (2 ^ bits_in w - bits) (negative_wide w bits e); ends = f.apart }, f.laid.holds) }

-- Instructions

offset_fine : (n : ℕ) {is : List Ink} → Is32 n → Fine is → Fine (print_offset n is)
offset_fine n {is} h f = go (n == 0)
  where
    go : (b : Bool) → Fine (cond b is (blank ∷ p.Mark (p.AtOffset n) ∷ is))
    go true = f
    go false = after_blank (record { holds = (record { spelled = offset_text n (wide n h); ends = f.apart }, f.laid.holds) })

align_fine : (n e : ℕ) {is : List Ink} → e < 4 → Fine is → Fine (print_align n e is)
align_fine n e {is} h f = go (e == n)
  where
    small : 2 ^ e < 2 ^ 64
    small = ltb-true (2 ^ e) (2 ^ 64) (below (λ e. nat_lt (2 ^ e) (2 ^ 64)) 4 refl e h)

    go : (b : Bool) → Fine (cond b is (blank ∷ p.Mark (p.Aligned (2 ^ e)) ∷ is))
    go true = f
    go false = after_blank (record { holds = (record { spelled = align_text (2 ^ e) small; ends = f.apart }, f.laid.holds) })

uses_laid : (op : Indexed) (n : ℕ) {is : List Ink} → Is32 n → Fine is → IsLaid (key (KOp (k.Uses op)) ∷ blank ∷ num n ∷ is)
uses_laid op n h f = word (uses_word op) (after_blank (number n h f))

leaf_laid : (leaf : Leaf Label) {is : List Ink} → LeafStands leaf → Fine is → IsLaid (print_leaf leaf is)
leaf_laid (ops.Br n) h f = uses_laid k.Br n h f
leaf_laid (ops.BrIf n) h f = uses_laid k.BrIf n h f
leaf_laid (ops.BrTable ns n) h f = word table_word (indexes_fine ns h.0 (after_blank (number n h.1 f)))
leaf_laid (ops.Call n) h f = uses_laid k.Call n h f
leaf_laid (ops.CallIndirect n) h f = word indirect_word (use_fine n h f.laid)
leaf_laid (ops.LocalGet n) h f = uses_laid k.LocalGet n h f
leaf_laid (ops.LocalSet n) h f = uses_laid k.LocalSet n h f
leaf_laid (ops.LocalTee n) h f = uses_laid k.LocalTee n h f
leaf_laid (ops.GlobalGet n) h f = uses_laid k.GlobalGet n h f
leaf_laid (ops.GlobalSet n) h f = uses_laid k.GlobalSet n h f
leaf_laid (ops.Load w l bytes signed align offset) h f = word (load_word w l bytes signed h.0) (offset_fine offset h.2 (align_fine (natural bytes) align h.1 f))
leaf_laid (ops.Store w l bytes align offset) h f = word (store_word w l bytes h.0) (offset_fine offset h.2 (align_fine (natural bytes) align h.1 f))
leaf_laid (ops.Const w l bits) h f = word (const_word w l) (after_blank (bits_laid w bits h f))
leaf_laid (ops.Numeric op l) h f = word (numeric_word op l h) f
leaf_laid ops.Unreachable h f = word (bare_word words.unreachable) f
leaf_laid ops.Nop h f = word (bare_word words.nop) f
leaf_laid ops.Return h f = word (bare_word words.return) f
leaf_laid ops.Drop h f = word (bare_word words.drop_) f
leaf_laid (ops.Select l) h f = word (bare_word (words.select l)) f
leaf_laid ops.MemorySize h f = word (bare_word words.size) f
leaf_laid ops.MemoryGrow h f = word (bare_word words.grow) f
leaf_laid (ops.Classify w) h f = word (bare_word (words.classify w)) f
leaf_laid (ops.Declassify w) h f = word (bare_word (words.declassify w)) f

end_fine : {is : List Ink} → Fine is → Fine (line4 ∷ key KEnd ∷ is)
end_fine f = after_line4 (word (plain_word words.end) f)

code_fine : (c : Code Label) {is : List Ink} → CodeStands c → Fine is → Fine (print_code c is)
code_fine ops.Stop h f = f
code_fine (ops.Then leaf more) h f = after_line4 (leaf_laid leaf h.0 (code_fine more h.1 f))
code_fine (ops.Block t body more) h f = after_line4 (word (shape_word OfBlock) (result_fine t (code_fine body h.0 (end_fine (code_fine more h.1 f)))))
code_fine (ops.Loop t body more) h f = after_line4 (word (shape_word OfLoop) (result_fine t (code_fine body h.0 (end_fine (code_fine more h.1 f)))))
code_fine (ops.If t arm more) h f = after_line4 (word (shape_word OfIf) (result_fine t (code_fine arm h.0 (end_fine (code_fine more h.1 f)))))
code_fine (ops.IfElse t arm other more) h f =
    after_line4 (word (shape_word OfIf) (result_fine t (code_fine arm h.0 (after_line4 (word (plain_word words.else) (code_fine other h.1 (end_fine (code_fine more h.2 f))))))))

-- Fields

trust_fine : (t : Trust) {is : List Ink} → Fine is → Fine (print_trust t is)
trust_fine Untrusted f = f
trust_fine Trusted f = after_blank (word (plain_word words.trusted) f)

type_laid : (t : FunctionType Label) {is : List Ink} → IsLaid is → IsLaid (print_type t is)
type_laid t l = opened (extern_word Func) (trust_fine t.trust (group_fine Param t.params (result_fine t.result (closed l))))

entry_laid : (base : Option ℕ) (t : FunctionType Label) {is : List Ink} → IfSome base Is32 → IsLaid is → IsLaid (print_entry base t is)
entry_laid None t h l = type_laid t l
entry_laid (Some n) t h l = opened (plain_word words.variant) (after_blank (number n h (after_blank (type_laid t (closed l).laid))))

field_fine : {k : Key} {is : List Ink} → IsWord k → IsLaid is → Fine (p.field k is)
field_fine w l = after_line2 (opened w (after_blank l))

max_fine : (o : Option ℕ) {is : List Ink} → IfSome o Is32 → Fine is → Fine (print_max o is)
max_fine None h f = f
max_fine (Some n) h f = after_blank (number n h f)

limits_laid : (l : Limits) {is : List Ink} → AreSizes l → Fine is → IsLaid (print_limits l is)
limits_laid l h f = number l.min h.0 (max_fine l.max h.1 f)

table_laid : (l : Limits) {is : List Ink} → AreSizes l → Fine is → IsLaid (print_table l is)
table_laid l h f = limits_laid l h (after_blank (word (plain_word words.funcref) f))

memory_laid : (m : MemoryType Label) {is : List Ink} → AreSizes m.limits → Fine is → IsLaid (print_memory m is)
memory_laid m {is} h f = go m.tag
  where
    go : (l : Label) → IsLaid (print_memory (record { tag = l; limits = m.limits }) is)
    go Public = limits_laid m.limits h f
    go Secret = word (plain_word words.secret) (after_blank (limits_laid m.limits h f))

global_type_laid : (g : VariableType Label) {is : List Ink} → Fine is → IsLaid (print_global_type g is)
global_type_laid g {is} f = go g.mutable
  where
    go : (b : Bool) → IsLaid (cond b (open_ ∷ key KMut ∷ blank ∷ p.ty g.value ∷ close ∷ is) (p.ty g.value ∷ is))
    go true = opened (plain_word words.mut) (after_blank (word (type_word g.value) (closed f.laid)))
    go false = word (type_word g.value) f

extern_laid : (kind : Extern Label) {is : List Ink} → IsLimitedExtern kind → IsLaid is → IsLaid (print_extern kind is)
extern_laid (tree.ImportedFunction n) h l = opened (extern_word Func) (use_fine n h (closed l).laid)
extern_laid (tree.ImportedTable t) h l = opened (extern_word Table) (after_blank (table_laid t h (closed l)))
extern_laid (tree.ImportedMemory m) h l = opened (extern_word Memory) (after_blank (memory_laid m h (closed l)))
extern_laid (tree.ImportedGlobal g) h l = opened (extern_word Global) (after_blank (global_type_laid g (closed l)))

constant_laid : (c : Constant Label) {is : List Ink} → IsFitting c → IsLimitedConstant c → IsLaid is → IsLaid (print_constant c is)
constant_laid (tree.Number t bits) h x l = opened (const_word t.width t.tag) (after_blank (bits_laid t.width bits h (closed l)))
constant_laid (tree.ValueOf n) h x l = opened (uses_word k.GlobalGet) (after_blank (number n x (closed l)))

-- Bytes

octets : (bs : List ℕ) → All IsOctet bs → AllBytes bs
octets [] h = tt
octets (b ∷ bs) h = (All-head IsOctet b bs h, octets bs (All-tail IsOctet b bs h))

bytes_behind : (xs ys : List ℕ) → AllBytes xs → AllBytes ys → AllBytes (xs ++ ys)
bytes_behind [] ys a b = b
bytes_behind (x ∷ xs) ys a b = (a.0, bytes_behind xs ys a.1 b)

-- the bytes of a character
encoded : (c : ℕ) → scalar c ≡ true → AllBytes (encode c)
unfolding encode
encoded c s = one (nat_lt c 128) refl
  where
    top : c < 1114112
    top = ⊎_elim (λ l. omega arith) (λ l. l.1) (scalar_cases c s)

    three : (b : Bool) → nat_lt c 65536 ≡ b → AllBytes (cond b ((224 + c / 4096) ∷ next (c / 64) ∷ next c ∷ []) ((240 + c / 262144) ∷ next (c / 4096) ∷ next (c / 64) ∷ next c ∷ []))
    three true e = let l : c < 65536 = ltb-true c 65536 e in (omega arith, (omega arith, (omega arith, tt)))
    three false e = let l : c < 1114112 = top in (omega arith, (omega arith, (omega arith, (omega arith, tt))))

    two : (b : Bool) → nat_lt c 2048 ≡ b →
        AllBytes (cond b ((192 + c / 64) ∷ next c ∷ []) (cond (nat_lt c 65536) ((224 + c / 4096) ∷ next (c / 64) ∷ next c ∷ []) ((240 + c / 262144) ∷ next (c / 4096) ∷ next (c / 64) ∷ next c ∷ [])))
    two true e = let l : c < 2048 = ltb-true c 2048 e in (omega arith, (omega arith, tt))
    two false e = three (nat_lt c 65536) refl

    one : (b : Bool) → nat_lt c 128 ≡ b →
        AllBytes
        (cond b (c ∷ []) (cond (nat_lt c 2048) ((192 + c / 64) ∷ next c ∷ []) (cond (nat_lt c 65536) ((224 + c / 4096) ∷ next (c / 64) ∷ next c ∷ []) ((240 + c / 262144) ∷ next (c / 4096) ∷ next (c / 64) ∷ next c ∷ []))))
    one true e = let l : c < 128 = ltb-true c 128 e in (omega arith, tt)
    one false e = two (nat_lt c 2048) refl

texts : (cs : List ℕ) → scalars cs ≡ true → AllBytes (encodes cs)
texts [] s = tt
texts (c ∷ cs) s = let h = both_true (scalar c) (scalars cs) s in bytes_behind (encode c) (encodes cs) (encoded c h.0) (texts cs h.1)

name_bytes : (bs : List ℕ) → IsText bs → AllBytes bs
name_bytes bs h = let u : IsUtf8 bs = IsUtf8-from_is_utf8 bs h in subst AllBytes u.1.1 (texts u.0 u.1.0)

-- Whole fields

each_fine : {X : Type 0} (P : X → Type 0) (print : X → List Ink → List Ink) → ((x : X) (is : List Ink) → P x → Fine is → Fine (print x is)) → (xs : List X) {is : List Ink} → AllOf P xs → Fine is → Fine (print_each print xs is)
each_fine P print one [] h f = f
each_fine P print one (x ∷ xs) h f = one x _ h.0 (each_fine P print one xs h.1 f)

maybe_fine : {X : Type 0} (P : X → Type 0) (print : X → List Ink → List Ink) → ((x : X) (is : List Ink) → P x → Fine is → Fine (print x is)) → (o : Option X) {is : List Ink} → IfSome o P → Fine is → Fine (print_maybe print o is)
maybe_fine P print one None h f = f
maybe_fine P print one (Some x) h f = one x _ h f

import_fine : (i : Import Label) (is : List Ink) → IsLimitedImport i → Fine is → Fine (print_import i is)
import_fine i is h f =
    field_fine (plain_word words.import) (string i.module_name (name_bytes i.module_name h.0) (after_blank (string i.name (name_bytes i.name h.1) (after_blank (extern_laid i.kind h.2 (closed f.laid).laid)).laid)).laid)

function_fine : (x : Function Label) (is : List Ink) → Is32 x.type × CodeStands x.body → Fine is → Fine (print_function x is)
function_fine x is h f = after_line2 (opened (extern_word Func) (use_fine x.type h.0 (group_fine Local x.locals (code_fine x.body h.1 (after_line2 (closed f.laid).laid))).laid))

export_fine : (e : Export) (is : List Ink) → IsLimitedExport e → Fine is → Fine (print_export e is)
export_fine e is h f =
    field_fine (plain_word words.export) (string e.name (name_bytes e.name h.0) (after_blank (opened (extern_word e.kind) (after_blank (number e.index h.1 (closed (closed f.laid).laid))))).laid)

element_fine : (e : Element Label) (is : List Ink) → IsFitting e.offset × IsLimitedElement e → Fine is → Fine (print_element e is)
element_fine e is h f = field_fine (plain_word words.elem) (constant_laid e.offset h.0 h.1.0 (indexes_fine e.functions h.1.1 (closed f.laid)).laid)

segment_fine : (s : Segment Label) (is : List Ink) → IsFitting s.offset × IsLimitedSegment s → Fine is → Fine (print_segment s is)
segment_fine s is h f = field_fine (plain_word words.data_) (constant_laid s.offset h.0 h.1.0 (after_blank (string s.bytes (octets s.bytes h.1.1) (closed f.laid).laid)).laid)

module _ (m : Module Label) (v : IsValid m) (x : IsLimited m) where
  custom_fine : (c : Custom) (is : List Ink) → IsLimitedCustom m c → Fine is → Fine (print_custom c is)
  custom_fine c is h f =
      field_fine (plain_word words.custom)
      (number64 c.place (let l = place_low m c.place h.place in omega arith) (after_blank (string c.name (name_bytes c.name h.name) (after_blank (string c.bytes (octets c.bytes h.bytes) (closed f.laid).laid)).laid)))

  ct_fine : (ct : Bool) {is : List Ink} → Fine is → Fine (print_ct ct is)
  ct_fine true f = after_blank (word (plain_word words.ct) f)
  ct_fine false f = f

  functions_stand : AllOf (λ (f : Function Label). Is32 f.type × CodeStands f.body) m.functions
  functions_stand = both m.functions (all_of (λ f. IsLimitedFunction f) (λ f. Is32 f.type) (λ f h. h.type) m.functions x.functions) (bodies_stand m v x)
    where
      both : (fs : List (Function Label)) → AllOf (λ (f : Function Label). Is32 f.type) fs → AllOf (λ (f : Function Label). CodeStands f.body) fs → AllOf (λ (f : Function Label). Is32 f.type × CodeStands f.body) fs
      both [] a b = tt
      both (f ∷ fs) a b = ((a.0, b.0), both fs a.1 b.1)

  last_fine : Fine (line ∷ close ∷ line ∷ [])
  last_fine = after_line (closed (record { holds = (refl, tt) })).laid

  segments_fine : Fine (p.print_segments m (line ∷ close ∷ line ∷ []))
  segments_fine =
      each_fine (λ e. IsFitting e.offset × IsLimitedElement e) print_element element_fine m.elements
      (all_of (λ e. IsFitting e.offset × IsLimitedElement e) (λ e. IsFitting e.offset × IsLimitedElement e) (λ e h. h) m.elements (λ i d l. (v.formed.elements i d l, x.elements i d l)))
      (each_fine (λ s. IsFitting s.offset × IsLimitedSegment s) print_segment segment_fine m.segments
      (all_of (λ s. IsFitting s.offset × IsLimitedSegment s) (λ s. IsFitting s.offset × IsLimitedSegment s) (λ s h. h) m.segments (λ i d l. (v.formed.segments i d l, x.segments i d l)))
      (each_fine (IsLimitedCustom m) print_custom custom_fine m.customs (all_of (IsLimitedCustom m) (IsLimitedCustom m) (λ c h. h) m.customs x.customs) last_fine))

  definitions_fine : Fine (p.print_definitions m (line ∷ close ∷ line ∷ []))
  definitions_fine =
      each_fine (λ f. Is32 f.type × CodeStands f.body) print_function function_fine m.functions functions_stand
      (maybe_fine AreSizes print_table_field (λ l is h f. field_fine (extern_word Table) (table_laid l h (closed f.laid))) m.table x.table
      (maybe_fine (λ t. AreSizes t.limits) print_memory_field (λ t is h f. field_fine (extern_word Memory) (memory_laid t h (closed f.laid))) m.memory x.memory
      (each_fine (λ g. IsFitting g.init × IsLimitedConstant g.init) print_global
      (λ g is h f. field_fine (extern_word Global) (global_type_laid g.type (after_blank (constant_laid g.init h.0 h.1 (closed f.laid).laid)))) m.globals
      (all_of (λ g. IsFitting g.init × IsLimitedConstant g.init) (λ g. IsFitting g.init × IsLimitedConstant g.init) (λ g h. h) m.globals (λ i d l. (v.formed.globals i d l, x.globals i d l)))
      (each_fine IsLimitedExport print_export export_fine m.exports (all_of IsLimitedExport IsLimitedExport (λ e h. h) m.exports x.exports)
      (maybe_fine Is32 print_start (λ n is h f. field_fine (plain_word words.start) (number n h (closed f.laid))) m.start x.start segments_fine)))))

  -- what is printed of a module is laid out
  pub module_laid : Laid (print_module m)
  module_laid = (opened (plain_word words.module_) (ct_fine m.ct
      (each_fine IsLimitedEntry print_type_field (λ e is h f. field_fine (plain_word words.type) (entry_laid e.base e.type h.0 (closed f.laid).laid)) m.types (all_of IsLimitedEntry IsLimitedEntry (λ e h. h) m.types x.types)
      (each_fine IsLimitedImport print_import import_fine m.imports (all_of IsLimitedImport IsLimitedImport (λ i h. h) m.imports x.imports) definitions_fine)))).holds
