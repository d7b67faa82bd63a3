-- Printed words and numbers are atoms, and are read as what they stand for.
use Rattle.std.proofs.Common.{◌≡◌, ◌<◌, ◌≤◌, ◌^◌, ◌*◌, ◌-◌, ℕ, ◌+◌, Bool, true, false, cond, List, [], ◌∷◌, ◌++◌, Option, Some, None, length, refl, ap, sym, ◌∙◌, subst, arith, rules}
use Rattle.std.specs.Prelude.{◌&&◌, ◌||◌, ◌==◌, nat_le, not, decimal, codes, bytes_eq, slice_index, fold}
use Rattle.std.specs.List.{list_all}
use Rattle.std.proofs.lemmas.Bool.{false≢true, eqb-true, leb-true, le-leb}
use Rattle.std.proofs.lemmas.List.Folds.{list_all-append}
use Rattle.std.proofs.lemmas.Slice.Eq.{bytes_eq-Decides}
use Rattle.std.proofs.lemmas.Fmt.{digits_decimal, digits_value-decimal, decimal_nonempty}
use Rattle.std.proofs.lemmas.Str.Parse.{IsNumeralModel, numerals_by_fold}
use Rattle.ctw_ops.specs.declared.types.Label.{Label}
use Rattle.ctw_ops.specs.declared.types.Label.TheVariants.{Public, Secret}
use Rattle.ctw_ops.specs.declared.types.Width.{Width}
use Rattle.ctw_ops.specs.declared.types.Width.TheVariants.{W32, W64}
use Rattle.ctw_ops.specs.declared.types.ExternTag.{ExternTag}
use Rattle.ctw_ops.specs.declared.types.ExternTag.TheVariants.{Func, Table, Memory, Global}
use Rattle.ctw_ops.specs.ValueType.{ValueType}
use Rattle.ctw_ops.specs.Types.{value_type}
use Rattle.ctw_ops.specs.Equal.{same_label, same_width}
use Rattle.ctw_ops.specs.Numeric.{is_numeric, within}
use Rattle.ctw_ops.specs.Forms.{is_load, is_store}
use Rattle.ctw_ops.specs.Code as ops
use Rattle.ctw_ops.specs.Code.{Leaf, Shape, OfBlock, OfLoop, OfIf}
use Rattle.ctw_lex.specs.Chars.{is_within, is_atom_byte, hex_value}
use Rattle.ctw_text.specs.Keys as k
use Rattle.ctw_text.specs.Keys.{Part, Indexed, Form, Key, KModule, KCt, KType, KVariant, KTrusted, KImport, KExport, KStart, KElem, KData, KCustom, KMut, KSecret, KFuncref, KElse, KEnd, KExtern, KGroup, KShape, KTy, KOp}
use Rattle.ctw_text.specs.Words.{Entry, words, look_up, key_of, word_of}
use Rattle.ctw_text.specs.Toks.{Tok, Num, Signed, OffsetIs, AlignIs, Word, is_digit, is_sign, plain_digits, value_of, begins_hex, number, begins_with, atom}
use Rattle.ctw_text.specs.Print.{natural}
use Rattle.ctw_text.proofs.Lexing.{both_true, IsAtomText, every, below}

not_true : (b : Bool) → not b ≡ true → b ≡ false
not_true false e = refl
not_true true e = absurd (false≢true e)

-- Words

-- bytes of an atom that isn't an identifier
abbrev pub stands : List ℕ → Bool
stands w = list_all is_atom_byte w && not (slice_index w 0 == 36)

-- its word is an atom that stands for it
pub record IsWord (key : Key) : Type 0 where
  pub stands : stands (word_of key) ≡ true
  pub back : key_of (word_of key) ≡ Some key

empty_is_no_word : (key : Key) → key_of [] ≡ Some key → ⊥
unfolding key_of words
empty_is_no_word key e = cc

spelled_word : (w : List ℕ) (key : Key) → stands w ≡ true → key_of w ≡ Some key → IsAtomText w (Word key)
spelled_word [] key s e = absurd (empty_is_no_word key e)
spelled_word (b ∷ bs) key s e =
    let h = both_true (list_all is_atom_byte (b ∷ bs)) (not (b == 36)) s in
    let g = both_true (is_atom_byte b) (list_all is_atom_byte bs) h.0 in
    record { head = b; tail = bs; split = refl; begins = g.0; goes_on = g.1; names = λ at. rw (not_true (b == 36) h.1, e) refl }

pub word_text : {key : Key} → IsWord key → IsAtomText (word_of key) (Word key)
word_text {key} h = spelled_word (word_of key) key h.stands h.back

-- words of their own
pub data IsPlain : Key → Type 0 where
  module_ : IsPlain KModule
  ct : IsPlain KCt
  type : IsPlain KType
  variant : IsPlain KVariant
  trusted : IsPlain KTrusted
  import : IsPlain KImport
  export : IsPlain KExport
  start : IsPlain KStart
  elem : IsPlain KElem
  data_ : IsPlain KData
  custom : IsPlain KCustom
  mut : IsPlain KMut
  secret : IsPlain KSecret
  funcref : IsPlain KFuncref
  else : IsPlain KElse
  end : IsPlain KEnd

pub plain_word : {key : Key} → IsPlain key → IsWord key
unfolding words key_of word_of
plain_word module_ = record { stands = refl; back = refl }
plain_word ct = record { stands = refl; back = refl }
plain_word type = record { stands = refl; back = refl }
plain_word variant = record { stands = refl; back = refl }
plain_word trusted = record { stands = refl; back = refl }
plain_word import = record { stands = refl; back = refl }
plain_word export = record { stands = refl; back = refl }
plain_word start = record { stands = refl; back = refl }
plain_word elem = record { stands = refl; back = refl }
plain_word data_ = record { stands = refl; back = refl }
plain_word custom = record { stands = refl; back = refl }
plain_word mut = record { stands = refl; back = refl }
plain_word secret = record { stands = refl; back = refl }
plain_word funcref = record { stands = refl; back = refl }
plain_word else = record { stands = refl; back = refl }
plain_word end = record { stands = refl; back = refl }

pub extern_word : (tag : ExternTag) → IsWord (KExtern tag)
unfolding words key_of word_of
extern_word Func = record { stands = refl; back = refl }
extern_word Table = record { stands = refl; back = refl }
extern_word Memory = record { stands = refl; back = refl }
extern_word Global = record { stands = refl; back = refl }

pub group_word : (part : Part) → IsWord (KGroup part)
unfolding words key_of word_of
group_word k.Part.Param = record { stands = refl; back = refl }
group_word k.Part.Result = record { stands = refl; back = refl }
group_word k.Part.Local = record { stands = refl; back = refl }

pub shape_word : (shape : Shape) → IsWord (KShape shape)
unfolding words key_of word_of
shape_word OfBlock = record { stands = refl; back = refl }
shape_word OfLoop = record { stands = refl; back = refl }
shape_word OfIf = record { stands = refl; back = refl }

type_word_of : (w : Width) (l : Label) → IsWord (KTy (value_type w l))
unfolding words key_of word_of
type_word_of W32 Public = record { stands = refl; back = refl }
type_word_of W32 Secret = record { stands = refl; back = refl }
type_word_of W64 Public = record { stands = refl; back = refl }
type_word_of W64 Secret = record { stands = refl; back = refl }

pub type_word : (t : ValueType Label) → IsWord (KTy t)
type_word t = type_word_of t.width t.tag

pub uses_word : (op : Indexed) → IsWord (KOp (k.Uses op))
unfolding words key_of word_of
uses_word k.Br = record { stands = refl; back = refl }
uses_word k.BrIf = record { stands = refl; back = refl }
uses_word k.Call = record { stands = refl; back = refl }
uses_word k.LocalGet = record { stands = refl; back = refl }
uses_word k.LocalSet = record { stands = refl; back = refl }
uses_word k.LocalTee = record { stands = refl; back = refl }
uses_word k.GlobalGet = record { stands = refl; back = refl }
uses_word k.GlobalSet = record { stands = refl; back = refl }

pub table_word : IsWord (KOp k.BrTable)
unfolding words key_of word_of
table_word = record { stands = refl; back = refl }

pub indirect_word : IsWord (KOp k.CallIndirect)
unfolding words key_of word_of
indirect_word = record { stands = refl; back = refl }

pub const_word : (w : Width) (l : Label) → IsWord (KOp (k.Const w l))
unfolding words key_of word_of
const_word W32 Public = record { stands = refl; back = refl }
const_word W32 Secret = record { stands = refl; back = refl }
const_word W64 Public = record { stands = refl; back = refl }
const_word W64 Secret = record { stands = refl; back = refl }

-- leaves with words of their own
pub data IsBare : Leaf Label → Type 0 where
  unreachable : IsBare ops.Unreachable
  nop : IsBare ops.Nop
  return : IsBare ops.Return
  drop_ : IsBare ops.Drop
  select : (l : Label) → IsBare (ops.Select l)
  size : IsBare ops.MemorySize
  grow : IsBare ops.MemoryGrow
  classify : (w : Width) → IsBare (ops.Classify w)
  declassify : (w : Width) → IsBare (ops.Declassify w)

pub bare_word : {leaf : Leaf Label} → IsBare leaf → IsWord (KOp (k.Bare leaf))
unfolding words key_of word_of
bare_word unreachable = record { stands = refl; back = refl }
bare_word nop = record { stands = refl; back = refl }
bare_word return = record { stands = refl; back = refl }
bare_word drop_ = record { stands = refl; back = refl }
bare_word (select Public) = record { stands = refl; back = refl }
bare_word (select Secret) = record { stands = refl; back = refl }
bare_word size = record { stands = refl; back = refl }
bare_word grow = record { stands = refl; back = refl }
bare_word (classify W32) = record { stands = refl; back = refl }
bare_word (classify W64) = record { stands = refl; back = refl }
bare_word (declassify W32) = record { stands = refl; back = refl }
bare_word (declassify W64) = record { stands = refl; back = refl }

-- Numeric operations, loads and stores, by trying each opcode and size

same_flag : Bool → Bool → Bool
same_flag true b = b
same_flag false b = not b

flag_back : (a b : Bool) → same_flag a b ≡ true → a ≡ b
unfolding same_flag
flag_back true b e = sym e
flag_back false b e = sym (not_true b e)

label_back : (a b : Label) → same_label a b ≡ true → a ≡ b
label_back Public Public e = refl
label_back Secret Secret e = refl
label_back Public Secret e = absurd (false≢true e)
label_back Secret Public e = absurd (false≢true e)

width_back : (a b : Width) → same_width a b ≡ true → a ≡ b
width_back W32 W32 e = refl
width_back W64 W64 e = refl
width_back W32 W64 e = absurd (false≢true e)
width_back W64 W32 e = absurd (false≢true e)

numeric_is : (op : ℕ) → Label → Option Key → Bool
numeric_is op l (Some (KOp (k.Bare (ops.Numeric o m)))) = (o == op) && same_label m l
numeric_is op l _ = false

numeric_back : (op : ℕ) (l : Label) (o : Option Key) → numeric_is op l o ≡ true → o ≡ Some (KOp (k.Bare (ops.Numeric op l)))
unfolding numeric_is
numeric_back op l (Some (KOp (k.Bare (ops.Numeric o m)))) e =
    let h = both_true (o == op) (same_label m l) e in
    λ i. Some (KOp (k.Bare (ops.Numeric (eqb-true o op h.0 i) (label_back m l h.1 i))))
numeric_back op l _ e = absurd (false≢true e)

numeric_stands : Label → ℕ → Bool
numeric_stands l op = not (is_numeric op) || (stands (word_of (KOp (k.Bare (ops.Numeric op l)))) && numeric_is op l (key_of (word_of (KOp (k.Bare (ops.Numeric op l))))))

numerics_stand : (l : Label) → every (numeric_stands l) 256 ≡ true
unfolding numeric_stands numeric_is is_numeric words key_of word_of
numerics_stand Public = refl
numerics_stand Secret = refl

-- where a test is passed, what stands behind it holds
behind : (a b : Bool) → (not a || b) ≡ true → a ≡ true → b ≡ true
behind true b e h = e
behind false b e h = absurd (false≢true h)

pub either : (a b : Bool) (P : Type 0) → (a ≡ true → P) → (b ≡ true → P) → (a || b) ≡ true → P
either true b P f g e = f refl
either false b P f g e = g e

up_to : (low high op : ℕ) → high < 256 → within low high op ≡ true → op < 256
up_to low high op h e = let l : op ≤ high = leb-true op high (both_true (nat_le low op) (nat_le op high) e).1 in omega arith

exactly : (n op : ℕ) → n < 256 → (op == n) ≡ true → op < 256
exactly n op h e = let q : op ≡ n = eqb-true op n e in omega arith

within_ops : (op : ℕ) → is_numeric op ≡ true → op < 256
unfolding is_numeric
within_ops op =
    either _ _ (op < 256) (either _ _ (op < 256) (either _ _ (op < 256) (either _ _ (op < 256) (up_to 0x45 0x5A op (omega arith)) (up_to 0x67 0x8A op (omega arith))) (exactly 0xA7 op (omega arith))) (up_to 0xAC 0xAD op (omega arith)))
    (up_to 0xC0 0xC4 op (omega arith))

pub numeric_word : (op : ℕ) (l : Label) → is_numeric op ≡ true → IsWord (KOp (k.Bare (ops.Numeric op l)))
unfolding numeric_stands
numeric_word op l n =
    let t = behind (is_numeric op) _ (below (numeric_stands l) 256 (numerics_stand l) op (within_ops op n)) n in
    let h = both_true (stands (word_of (KOp (k.Bare (ops.Numeric op l))))) (numeric_is op l (key_of (word_of (KOp (k.Bare (ops.Numeric op l)))))) t in
    record { stands = h.0; back = numeric_back op l (key_of (word_of (KOp (k.Bare (ops.Numeric op l))))) h.1 }

load_is : (w : Width) (l : Label) (signed : Bool) → ℕ → Option Key → Bool
load_is w l signed bytes (Some (KOp (k.Access (ops.Load v m b s align offset)))) = same_width v w && same_label m l && b == bytes && same_flag s signed && align == natural bytes && offset == 0
load_is w l signed bytes _ = false

load_back : (w : Width) (l : Label) (signed : Bool) (bytes : ℕ) (o : Option Key) → load_is w l signed bytes o ≡ true → o ≡ Some (KOp (k.Access (ops.Load w l bytes signed (natural bytes) 0)))
unfolding load_is
load_back w l signed bytes (Some (KOp (k.Access (ops.Load v m b s align offset)))) e =
    let five = both_true (same_width v w && same_label m l && b == bytes && same_flag s signed && align == natural bytes) (offset == 0) e in
    let four = both_true (same_width v w && same_label m l && b == bytes && same_flag s signed) (align == natural bytes) five.0 in
    let three = both_true (same_width v w && same_label m l && b == bytes) (same_flag s signed) four.0 in
    let two = both_true (same_width v w && same_label m l) (b == bytes) three.0 in
    let one = both_true (same_width v w) (same_label m l) two.0 in
    λ i. Some (KOp (k.Access (ops.Load (width_back v w one.0 i) (label_back m l one.1 i) (eqb-true b bytes two.1 i) (flag_back s signed three.1 i) (eqb-true align (natural bytes) four.1 i) (eqb-true offset 0 five.1 i))))
load_back w l signed bytes _ e = absurd (false≢true e)

load_stands : (w : Width) (l : Label) (signed : Bool) → ℕ → Bool
load_stands w l signed bytes =
    not (is_load w bytes signed)
    || (stands (word_of (KOp (k.Access (ops.Load w l bytes signed (natural bytes) 0)))) && load_is w l signed bytes (key_of (word_of (KOp (k.Access (ops.Load w l bytes signed (natural bytes) 0))))))

loads_stand : (w : Width) (l : Label) (signed : Bool) → every (load_stands w l signed) 9 ≡ true
unfolding load_stands load_is same_flag words key_of word_of
loads_stand W32 Public true = refl
loads_stand W32 Public false = refl
loads_stand W32 Secret true = refl
loads_stand W32 Secret false = refl
loads_stand W64 Public true = refl
loads_stand W64 Public false = refl
loads_stand W64 Secret true = refl
loads_stand W64 Secret false = refl

sized : (n bytes : ℕ) → n < 9 → (bytes == n) ≡ true → bytes < 9
sized n bytes h e = let q : bytes ≡ n = eqb-true bytes n e in omega arith

unsigned : (n bytes : ℕ) (b : Bool) → n < 9 → (bytes == n && b) ≡ true → bytes < 9
unsigned n bytes b h e = sized n bytes h (both_true (bytes == n) b e).0

pub load_bytes : (w : Width) (bytes : ℕ) (signed : Bool) → is_load w bytes signed ≡ true → bytes < 9
load_bytes W32 bytes signed = either _ _ (bytes < 9) (either _ _ (bytes < 9) (sized 1 bytes (omega arith)) (sized 2 bytes (omega arith))) (unsigned 4 bytes (not signed) (omega arith))
load_bytes W64 bytes signed =
    either _ _ (bytes < 9) (either _ _ (bytes < 9) (either _ _ (bytes < 9) (sized 1 bytes (omega arith)) (sized 2 bytes (omega arith))) (sized 4 bytes (omega arith)))
    (unsigned 8 bytes (not signed) (omega arith))

pub store_bytes : (w : Width) (bytes : ℕ) → is_store w bytes ≡ true → bytes < 9
store_bytes W32 bytes = either _ _ (bytes < 9) (either _ _ (bytes < 9) (sized 1 bytes (omega arith)) (sized 2 bytes (omega arith))) (sized 4 bytes (omega arith))
store_bytes W64 bytes =
    either _ _ (bytes < 9) (either _ _ (bytes < 9) (either _ _ (bytes < 9) (sized 1 bytes (omega arith)) (sized 2 bytes (omega arith))) (sized 4 bytes (omega arith))) (sized 8 bytes (omega arith))

pub load_word : (w : Width) (l : Label) (bytes : ℕ) (signed : Bool) → is_load w bytes signed ≡ true → IsWord (KOp (k.Access (ops.Load w l bytes signed (natural bytes) 0)))
unfolding load_stands
load_word w l bytes signed n =
    let word : List ℕ = word_of (KOp (k.Access (ops.Load w l bytes signed (natural bytes) 0))) in
    let t = behind (is_load w bytes signed) (stands word && load_is w l signed bytes (key_of word)) (below (load_stands w l signed) 9 (loads_stand w l signed) bytes (load_bytes w bytes signed n)) n in
    let h = both_true (stands word) (load_is w l signed bytes (key_of word)) t in
    record { stands = h.0; back = load_back w l signed bytes (key_of word) h.1 }

store_is : (w : Width) (l : Label) → ℕ → Option Key → Bool
store_is w l bytes (Some (KOp (k.Access (ops.Store v m b align offset)))) = same_width v w && same_label m l && b == bytes && align == natural bytes && offset == 0
store_is w l bytes _ = false

store_back : (w : Width) (l : Label) (bytes : ℕ) (o : Option Key) → store_is w l bytes o ≡ true → o ≡ Some (KOp (k.Access (ops.Store w l bytes (natural bytes) 0)))
unfolding store_is
store_back w l bytes (Some (KOp (k.Access (ops.Store v m b align offset)))) e =
    let four = both_true (same_width v w && same_label m l && b == bytes && align == natural bytes) (offset == 0) e in
    let three = both_true (same_width v w && same_label m l && b == bytes) (align == natural bytes) four.0 in
    let two = both_true (same_width v w && same_label m l) (b == bytes) three.0 in
    let one = both_true (same_width v w) (same_label m l) two.0 in
    λ i. Some (KOp (k.Access (ops.Store (width_back v w one.0 i) (label_back m l one.1 i) (eqb-true b bytes two.1 i) (eqb-true align (natural bytes) three.1 i) (eqb-true offset 0 four.1 i))))
store_back w l bytes _ e = absurd (false≢true e)

store_stands : (w : Width) (l : Label) → ℕ → Bool
store_stands w l bytes =
    not (is_store w bytes)
    || (stands (word_of (KOp (k.Access (ops.Store w l bytes (natural bytes) 0)))) && store_is w l bytes (key_of (word_of (KOp (k.Access (ops.Store w l bytes (natural bytes) 0))))))

stores_stand : (w : Width) (l : Label) → every (store_stands w l) 9 ≡ true
unfolding store_stands store_is words key_of word_of
stores_stand W32 Public = refl
stores_stand W32 Secret = refl
stores_stand W64 Public = refl
stores_stand W64 Secret = refl

pub store_word : (w : Width) (l : Label) (bytes : ℕ) → is_store w bytes ≡ true → IsWord (KOp (k.Access (ops.Store w l bytes (natural bytes) 0)))
unfolding store_stands
store_word w l bytes n =
    let word : List ℕ = word_of (KOp (k.Access (ops.Store w l bytes (natural bytes) 0))) in
    let t = behind (is_store w bytes) (stands word && store_is w l bytes (key_of word)) (below (store_stands w l) 9 (stores_stand w l) bytes (store_bytes w bytes n)) n in
    let h = both_true (stands word) (store_is w l bytes (key_of word)) t in
    record { stands = h.0; back = store_back w l bytes (key_of word) h.1 }

-- Numbers

-- no word of the text form passes a test that none of the table passes
look_nowhere : (p : List ℕ → Bool) (es : List Entry) (w : List ℕ) → list_all (λ (e : Entry). not (p e.word)) es ≡ true → p w ≡ true → look_up es w ≡ None
look_nowhere p [] w n h = refl
look_nowhere p (e ∷ es) w n h = go (look_nowhere p es w (both_true (not (p e.word)) (list_all (λ (e : Entry). not (p e.word)) es) n).1 h) (bytes_eq e.word w) refl
  where
    go : look_up es w ≡ None → (b : Bool) → bytes_eq e.word w ≡ b → cond b (Some e.key) (look_up es w) ≡ None
    go rest true q = absurd (false≢true (sym (not_true (p e.word) (both_true (not (p e.word)) (list_all (λ (e : Entry). not (p e.word)) es) n).0) ∙ ap p ((bytes_eq-Decides e.word w).0 q) ∙ h))
    go rest false q = rest

no_word : (p : List ℕ → Bool) (w : List ℕ) → list_all (λ (e : Entry). not (p e.word)) words ≡ true → p w ≡ true → key_of w ≡ None
unfolding key_of
no_word p w n h = look_nowhere p words w n h

or_true : (x : Bool) → (x || true) ≡ true
or_true true = refl
or_true false = refl

and_false : (x : Bool) → (x && false) ≡ false
and_false true = refl
and_false false = refl

digit_atom : (b : ℕ) → is_digit b ≡ true → is_atom_byte b ≡ true
digit_atom b e = rw (e, or_true (is_within 97 122 b || is_within 65 90 b)) refl

digits_atom : (bs : List ℕ) → list_all is_digit bs ≡ true → list_all is_atom_byte bs ≡ true
digits_atom [] e = refl
digits_atom (b ∷ bs) e = let h = both_true (is_digit b) (list_all is_digit bs) e in rw (digit_atom b h.0) (digits_atom bs h.1)

-- a digit is no byte that isn't one
digit_differs : (b d : ℕ) → is_digit d ≡ false → is_digit b ≡ true → (b == d) ≡ false
digit_differs b d u v = go (b == d) refl
  where
    go : (t : Bool) → (b == d) ≡ t → (b == d) ≡ false
    go false e = e
    go true e = absurd (false≢true (sym u ∙ ap is_digit (sym (eqb-true b d e)) ∙ v))

digit_value : (b : ℕ) → is_digit b ≡ true → hex_value b ≡ b - 48
digit_value b e = let h = both_true (nat_le 48 b) (nat_le b 57) e in rw h.1 refl

digits_model : IsNumeralModel (λ ds. list_all is_digit ds ≡ true) (value_of 10)
digits_model = numerals_by_fold _ (search rules) (λ n ds. fold (λ n b. 10 * n + hex_value b) n ds) (record {
  empty = λ n. refl;
  more = λ n c cs h. ap (λ m. fold (λ n b. 10 * n + hex_value b) m cs) (let v : hex_value c ≡ c - 48 = digit_value c (rw (le-leb 48 c h.0, le-leb c 57 h.1) refl) in omega arith);
})

plain : (bs : List ℕ) → list_all is_digit bs ≡ true → plain_digits is_digit true bs ≡ Some bs
plain [] e = refl
plain (b ∷ bs) e = let h = both_true (is_digit b) (list_all is_digit bs) e in rw (h.0, plain bs h.1) refl

not_hex : (b : ℕ) (bs : List ℕ) → list_all is_digit bs ≡ true → begins_hex (b ∷ bs) ≡ false
not_hex b [] e = and_false (b == 48)
not_hex b (c ∷ cs) e = rw (digit_differs c 120 refl (both_true (is_digit c) (list_all is_digit cs) e).0) (and_false (b == 48))

digits_number : (b : ℕ) (bs : List ℕ) → list_all is_digit (b ∷ bs) ≡ true → number (b ∷ bs) ≡ Some (value_of 10 (b ∷ bs))
digits_number b bs e =
    let h = both_true (is_digit b) (list_all is_digit bs) e in
    rw (not_hex b bs h.1, h.0, plain bs h.1) refl

-- the decimal digits of a number
pub record IsDecimal (n : ℕ) : Type 0 where
  pub head : ℕ
  pub tail : List ℕ
  pub split : decimal n ≡ head ∷ tail
  pub digits : list_all is_digit (head ∷ tail) ≡ true
  pub reads : number (head ∷ tail) ≡ Some n

pub decimal_reads : (n : ℕ) → n < 2 ^ 64 → IsDecimal n
decimal_reads n h = go (decimal n) refl
  where
    go : (ds : List ℕ) → decimal n ≡ ds → IsDecimal n
    go [] e = absurd (let some : 0 < length (decimal n) = decimal_nonempty n h in let z : length (decimal n) ≡ 0 = ap length e in omega arith)
    go (b ∷ bs) e =
        let d : list_all is_digit (b ∷ bs) ≡ true = subst (λ ds. list_all is_digit ds ≡ true) e (digits_decimal digits_model n h) in
        record { head = b; tail = bs; split = e; digits = d; reads = digits_number b bs d ∙ ap (λ v. Some v) (sym (ap (value_of 10) e) ∙ digits_value-decimal digits_model n h) }

module _ (n : ℕ) (h : n < 2 ^ 64) where
  abbrev d : IsDecimal n
  d = decimal_reads n h

  all : list_all is_atom_byte (d.head ∷ d.tail) ≡ true
  all = digits_atom (d.head ∷ d.tail) d.digits

  begins : is_digit d.head ≡ true
  begins = (both_true (is_digit d.head) (list_all is_digit d.tail) d.digits).0

  number_none : key_of (d.head ∷ d.tail) ≡ None
  unfolding words
  number_none = no_word (λ w. is_digit (slice_index w 0)) (d.head ∷ d.tail) refl begins

  pub number_text : IsAtomText (decimal n) (Num n)
  number_text = record {
    head = d.head;
    tail = d.tail;
    split = d.split;
    begins = digit_atom d.head begins;
    goes_on = (both_true (is_atom_byte d.head) (list_all is_atom_byte d.tail) all).1;
    names = λ at. subst (λ w. atom at w ≡ Num n) (sym d.split) (rw (digit_differs d.head 36 refl begins, number_none, d.reads, begins) refl);
  }

  -- what stands behind `offset=` and the like
  prefixed : (b : ℕ) (bs : List ℕ) (t : Tok) → is_atom_byte b ≡ true → list_all is_atom_byte bs ≡ true → ((at : ℕ) → atom at (b ∷ bs ++ d.head ∷ d.tail) ≡ t) → IsAtomText (b ∷ bs ++ decimal n) t
  prefixed b bs t v e a = record {
    head = b;
    tail = bs ++ decimal n;
    split = refl;
    begins = v;
    goes_on = list_all-append is_atom_byte bs (decimal n) ∙ (λ i. e i && subst (λ w. list_all is_atom_byte w ≡ true) (sym d.split) all i);
    names = λ at. subst (λ w. atom at (b ∷ bs ++ w) ≡ t) (sym d.split) (a at);
  }

  pub negative_text : IsAtomText (45 ∷ decimal n) (Signed true n)
  unfolding words
  negative_text = prefixed 45 [] (Signed true n) refl refl (λ at. rw (no_word (λ w. is_sign (slice_index w 0)) (45 ∷ d.head ∷ d.tail) refl refl, d.reads) refl)

  pub offset_text : IsAtomText (codes "offset=" ++ decimal n) (OffsetIs n)
  unfolding words
  offset_text = prefixed 111 (codes "ffset=") (OffsetIs n) refl refl (λ at. rw (no_word (begins_with (codes "offset=")) (111 ∷ codes "ffset=" ++ d.head ∷ d.tail) refl refl, d.reads) refl)

  pub align_text : IsAtomText (codes "align=" ++ decimal n) (AlignIs n)
  unfolding words
  align_text = prefixed 97 (codes "lign=") (AlignIs n) refl refl (λ at. rw (no_word (begins_with (codes "align=")) (97 ∷ codes "lign=" ++ d.head ∷ d.tail) refl refl, d.reads) refl)
