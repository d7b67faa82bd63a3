-- The instructions of each field that the grammar has nest: what is folded is closed, and so is each block.
use Rattle.std.proofs.Common.{◌≡◌, ℕ, Bool, true, false, cond, not, List, [], ◌∷◌, ◌++◌, Option, None, refl, sym, ap, subst, ◌∙◌, append_assoc, arith, mod-lt, ◌-◌}
use Rattle.std.specs.Prelude.{◌&&◌, nat_lt, ◌^◌}
use Rattle.std.specs.List.{list_all}
use Rattle.ctw_ops.specs.declared.types.Label.{Label}
use Rattle.ctw_ops.specs.declared.types.ExternTag.{ExternTag}
use Rattle.ctw_ops.specs.declared.types.ExternTag.TheVariants.{Func, Table, Memory, Global}
use Rattle.ctw_ops.specs.Code as ops
use Rattle.ctw_ops.specs.Code.{Leaf, Shape, OfBlock, OfLoop, OfIf}
use Rattle.ctw_ops.specs.Forms.{is_load, is_store}
use Rattle.ctw_ops.specs.Numeric.{is_numeric}
use Rattle.ctw_ops.specs.Types.{bit_width}
use Rattle.ctw_ops.specs.declared.types.Width.{Width}
use Rattle.ctw_ops.specs.declared.types.Width.TheVariants.{W32, W64}
use Rattle.std.proofs.lemmas.Bool.{lt-ltb}
use Rattle.ctw_text.specs.declared.keys.Key.TheVariants as key
use Rattle.ctw_text.specs.declared.toks.Tok.TheVariants as tok
use Rattle.ctw_flat.specs.Bodies.{takes_else}
use Rattle.ctw_text.specs.declared.keys.Form.TheVariants as k
use Rattle.ctw_text.specs.declared.keys.Form.{Form}
use Rattle.ctw_text.specs.declared.keys.Key.{Key}
use Rattle.ctw_text.specs.declared.toks.Tok.{Tok}
use Rattle.ctw_text.specs.declared.pieces.Role.{Role}
use Rattle.ctw_text.specs.declared.pieces.Role.TheVariants as role
use Rattle.ctw_text.specs.declared.pieces.Index.{Index}
use Rattle.ctw_text.specs.declared.pieces.Index.TheVariants.{Numbered, Named}
use Rattle.ctw_text.specs.declared.pieces.Piece.{Piece}
use Rattle.ctw_text.specs.declared.pieces.Piece.TheVariants.{Fold, Opens}
use Rattle.ctw_text.specs.declared.sorts.Filling.{Filling}
use Rattle.ctw_text.specs.declared.sorts.Filling.TheVariants as filling
use Rattle.ctw_text.specs.Grammar as g
use Rattle.ctw_text.specs.Grammar.{Move, Rule1, Rule2, Derives, Spells}
use Rattle.ctw_text.specs.declared.sorts.Before.{Before}
use Rattle.ctw_text.specs.declared.sorts.Sort.{Sort}
use Rattle.ctw_text.specs.declared.sorts.Sort.TheVariants as sort
use Rattle.ctw_text.specs.declared.sorts.Place.{Place}
use Rattle.ctw_text.specs.declared.sorts.Place.TheVariants as place
use Rattle.ctw_text.specs.declared.sorts.Tail.{Tail}
use Rattle.ctw_text.specs.declared.sorts.Tail.TheVariants as tails
use Rattle.ctw_text.specs.declared.fields.Raw.{Raw}
use Rattle.ctw_text.specs.declared.fields.Raw.TheVariants.{Single as RSingle, Uses as RUses, Targets as RTargets, Indirect as RIndirect, Opens as ROpens, Else as RElse, End as REnd}
use Rattle.ctw_text.specs.declared.fields.Item.{Item}
use Rattle.ctw_text.specs.declared.fields.Item.TheVariants.{Op, Folds, Unfolds}
use Rattle.ctw_text.specs.declared.fields.Draft.{Draft}
use Rattle.ctw_text.specs.declared.fields.Field.{Field}
use Rattle.ctw_text.specs.Fields.{Gathered, put, gathered, fields_of, refer, at_place, called, listed, quote}
use Rattle.ctw_text.specs.Written.{Name}
use Rattle.ctw_text.specs.declared.keys.Part.{Part}
use Rattle.ctw_text.specs.declared.keys.Part.TheVariants as part
use Rattle.ctw_text.specs.declared.pieces.Quoted.{Quoted}
use Rattle.ctw_text.specs.declared.pieces.Quoted.TheVariants as quoted
use Rattle.ctw_ops.specs.ValueType.{ValueType}

-- ---- leaves that can be written

abbrev pub written_leaf : Leaf Label → Bool
written_leaf (ops.Load w l bytes signed align offset) = is_load w bytes signed
written_leaf (ops.Store w l bytes align offset) = is_store w bytes
written_leaf (ops.Const w l bits) = nat_lt bits (2 ^ bit_width w)
written_leaf (ops.Numeric op l) = is_numeric op
written_leaf _ = true

abbrev pub good_form : Form → Bool
good_form (k.Bare leaf) = written_leaf leaf
good_form (k.Access leaf) = written_leaf leaf
good_form _ = true

abbrev pub good_key : Key → Bool
good_key (key.Op form) = good_form form
good_key _ = true

abbrev pub good_tok : Tok → Bool
good_tok (tok.Word key) = good_key key
good_tok _ = true

-- an offset and an align change nothing of that
placed_written : (leaf : Leaf Label) (offset : ℕ) (align : Option ℕ) → written_leaf (at_place leaf offset align) ≡ written_leaf leaf
placed_written ops.Unreachable offset align = refl
placed_written ops.Nop offset align = refl
placed_written (ops.Br n) offset align = refl
placed_written (ops.BrIf n) offset align = refl
placed_written (ops.BrTable ns n) offset align = refl
placed_written ops.Return offset align = refl
placed_written (ops.Call n) offset align = refl
placed_written (ops.CallIndirect n) offset align = refl
placed_written ops.Drop offset align = refl
placed_written (ops.Select l) offset align = refl
placed_written (ops.LocalGet n) offset align = refl
placed_written (ops.LocalSet n) offset align = refl
placed_written (ops.LocalTee n) offset align = refl
placed_written (ops.GlobalGet n) offset align = refl
placed_written (ops.GlobalSet n) offset align = refl
placed_written (ops.Load w l bytes signed natural none) offset align = refl
placed_written (ops.Store w l bytes natural none) offset align = refl
placed_written ops.MemorySize offset align = refl
placed_written ops.MemoryGrow offset align = refl
placed_written (ops.Const w l bits) offset align = refl
placed_written (ops.Numeric op l) offset align = refl
placed_written (ops.Classify w) offset align = refl
placed_written (ops.Declassify w) offset align = refl

-- a number that fits has bits of its width
fit_written : (w : Width) (l : Label) (neg : Bool) (n : ℕ) → g.fits w neg n ≡ true → written_leaf (ops.Const w l (g.bits_of w neg n)) ≡ true
fit_written W32 l true n e = lt-ltb _ _ (mod-lt (2 ^ 32 - n) (omega arith))
fit_written W64 l true n e = lt-ltb _ _ (mod-lt (2 ^ 64 - n) (omega arith))
fit_written W32 l false n e = e
fit_written W64 l false n e = e

-- ---- items one after another, with what is folded and what is open

-- a folded instruction that waits for its operands: an `if`, or another
pub data Held : Type 0 where
  HeldIf HeldPlain : Held

abbrev pub is_nil : {A : Type 0} → List A → Bool
is_nil [] = true
is_nil (a ∷ l) = false

abbrev pub hold : Raw → (Held → Bool) → Bool
hold (RSingle leaf) then = then HeldPlain
hold (RUses op x) then = then HeldPlain
hold (RTargets xs) then = then HeldPlain
hold (RIndirect u) then = then HeldPlain
hold (ROpens OfIf n t) then = then HeldIf
hold (ROpens OfBlock n t) then = false
hold (ROpens OfLoop n t) then = false
hold (RElse n) then = false
hold (REnd n) then = false

abbrev pub closes : List Bool → (List Bool → Bool) → Bool
closes [] then = false
closes (b ∷ bs) then = then bs

abbrev pub alters : List Bool → (List Bool → Bool) → Bool
alters [] then = false
alters (false ∷ bs) then = false
alters (true ∷ bs) then = then (false ∷ bs)

-- what is open behind an instruction: true where an `else` may come
abbrev pub step : Raw → List Bool → (List Bool → Bool) → Bool
step (RSingle leaf) bs then = then bs
step (RUses op x) bs then = then bs
step (RTargets xs) bs then = then bs
step (RIndirect u) bs then = then bs
step (ROpens shape n t) bs then = then (takes_else shape ∷ bs)
step (RElse n) bs then = alters bs then
step (REnd n) bs then = closes bs then

abbrev pub release : List Held → (List Held → Bool) → (List Held → Bool) → Bool
release [] plain opens = false
release (HeldPlain ∷ hs) plain opens = plain hs
release (HeldIf ∷ hs) plain opens = opens hs

-- items that close all; `folding` behind a `Folds`
abbrev pub runs : (folding : Bool) → List Held → List Bool → List Item → Bool
runs folding hs bs [] = not folding && is_nil bs
runs folding hs bs (Folds ∷ is) = cond folding false (runs true hs bs is)
runs folding hs bs (Unfolds ∷ is) = cond folding false (release hs (λ hs. runs false hs bs is) (λ hs. runs false hs (true ∷ bs) is))
runs folding hs bs (Op r ∷ is) = cond folding (hold r (λ h. runs false (h ∷ hs) bs is)) (step r bs (λ bs. runs false hs bs is))

abbrev pub is_plain_raw : Raw → Bool
is_plain_raw (RSingle leaf) = true
is_plain_raw (RUses op x) = true
is_plain_raw (RTargets xs) = true
is_plain_raw (RIndirect u) = true
is_plain_raw (ROpens shape n t) = false
is_plain_raw (RElse n) = false
is_plain_raw (REnd n) = false

abbrev pub begins_plain : List Item → Bool
begins_plain [] = false
begins_plain (Folds ∷ is) = false
begins_plain (Unfolds ∷ is) = false
begins_plain (Op r ∷ is) = is_plain_raw r

-- a folded instruction that comes next
folds_plain : (hs : List Held) (bs : List Bool) (is : List Item) → begins_plain is ≡ true → runs false (HeldPlain ∷ hs) bs is ≡ true → runs true hs bs is ≡ true
folds_plain hs bs [] b h = absurd cc
folds_plain hs bs (Folds ∷ is) b h = absurd cc
folds_plain hs bs (Unfolds ∷ is) b h = absurd cc
folds_plain hs bs (Op (RSingle leaf) ∷ is) b h = h
folds_plain hs bs (Op (RUses op x) ∷ is) b h = h
folds_plain hs bs (Op (RTargets xs) ∷ is) b h = h
folds_plain hs bs (Op (RIndirect u) ∷ is) b h = h
folds_plain hs bs (Op (ROpens shape n t) ∷ is) b h = absurd cc
folds_plain hs bs (Op (RElse n) ∷ is) b h = absurd cc
folds_plain hs bs (Op (REnd n) ∷ is) b h = absurd cc

-- ---- what sorts wait for

abbrev held_at : Place → List Held → List Held
held_at place.InOperands hs = HeldPlain ∷ hs
held_at place.InConditions hs = HeldIf ∷ hs
held_at _ hs = hs

abbrev pub held : List Sort → List Held
held [] = []
held (sort.Module ∷ st) = []
held (sort.Head named ∷ st) = []
held (sort.Fields b ∷ st) = []
held (sort.ExternHead tag b named ∷ st) = []
held (sort.After tail p ∷ st) = held_at p (held st)
held (_ ∷ st) = held st

abbrev open_at : Place → List Bool → List Bool
open_at place.InBlock bs = false ∷ bs
open_at place.InIf bs = true ∷ bs
open_at place.InFolded bs = false ∷ bs
open_at place.InThen bs = true ∷ bs
open_at place.InElse bs = false ∷ bs
open_at _ bs = bs

abbrev pub opened : List Sort → List Bool
opened [] = []
opened (sort.Module ∷ st) = []
opened (sort.Head named ∷ st) = []
opened (sort.Fields b ∷ st) = []
opened (sort.ExternHead tag b named ∷ st) = []
opened (sort.After tail p ∷ st) = open_at p (opened st)
opened (sort.AfterThen ∷ st) = true ∷ opened st
opened (_ ∷ st) = opened st

-- nothing stands behind the fields
abbrev pub shaped : List Sort → Bool
shaped [] = true
shaped (sort.Module ∷ st) = is_nil st
shaped (sort.Head named ∷ st) = is_nil st
shaped (sort.Fields b ∷ st) = is_nil st
shaped (sort.ExternHead tag b named ∷ st) = is_nil st
shaped (_ ∷ st) = shaped st

-- an index or a number of an instruction comes next
abbrev begins_role : Role → List Item → Bool
begins_role (role.OfOp op) is = begins_plain is
begins_role _ is = true

abbrev begins : List Sort → List Item → Bool
begins (sort.AnIndex r ∷ st) is = begins_role r is
begins (sort.AConst w l ∷ st) is = begins_plain is
begins _ is = true

abbrev pub written_item : Item → Bool
written_item (Op (RSingle leaf)) = written_leaf leaf
written_item _ = true

abbrev pub nests : Field → Bool
nests f = runs false [] [] f.draft.code && list_all written_item f.draft.code

pub record Nest (st : List Sort) (G : Gathered) : Type 0 where
  pub code : runs false (held st) (opened st) G.draft.code ≡ true
  pub begun : begins st G.draft.code ≡ true
  pub written : list_all written_item G.draft.code ≡ true
  pub fields : list_all nests G.fields ≡ true

abbrev Nests : List Sort → Gathered → Type 0
Nests st G = shaped st ≡ true → Nest st G

abbrev puts : List Piece → Gathered → Gathered
puts [] G = G
puts (p ∷ ps) G = put p (puts ps G)

pub both_true : {a b : Bool} → a ≡ true → b ≡ true → (a && b) ≡ true
both_true {a} {b} p q = rw (p, q) refl

pub first_true : (a b : Bool) → (a && b) ≡ true → a ≡ true
first_true true b e = refl
first_true false b e = absurd cc

pub second_true : (a b : Bool) → (a && b) ≡ true → b ≡ true
second_true true b e = e
second_true false b e = absurd cc

-- an index of a role
referred : (r : Role) (x : Index) (st : List Sort) (G : Gathered) → Nest st G → Nest (sort.AnIndex r ∷ st) (record G { draft = refer r x G.draft })
referred (role.OfOp op) x st G b = record { code = b.code; begun = refl; written = b.written; fields = b.fields }
referred role.OfTarget x st G b = record { code = b.code; begun = refl; written = b.written; fields = b.fields }
referred role.OfEntry x st G b = record { code = b.code; begun = refl; written = b.written; fields = b.fields }
referred role.OfBase x st G b = record { code = b.code; begun = refl; written = b.written; fields = b.fields }
referred (role.OfExport tag) x st G b = record { code = b.code; begun = refl; written = b.written; fields = b.fields }
referred role.OfStart x st G b = record { code = b.code; begun = refl; written = b.written; fields = b.fields }
referred role.OfTable x st G b = record { code = b.code; begun = refl; written = b.written; fields = b.fields }
referred role.OfMemory x st G b = record { code = b.code; begun = refl; written = b.written; fields = b.fields }
referred role.OfItem x st G b = record { code = b.code; begun = refl; written = b.written; fields = b.fields }

-- the rest of a field, and the type of an import, wait for nothing
body_waits : (tag : ExternTag) (b : Before) (named : Bool) (c : Before) (st : List Sort) (G : Gathered) → Nest (g.body_of tag ∷ sort.Fields c ∷ st) G → Nest (sort.ExternHead tag b named ∷ st) G
body_waits Func b named c st G n = record { code = n.code; begun = refl; written = n.written; fields = n.fields }
body_waits Table b named c st G n = record { code = n.code; begun = refl; written = n.written; fields = n.fields }
body_waits Memory b named c st G n = record { code = n.code; begun = refl; written = n.written; fields = n.fields }
body_waits Global b named c st G n = record { code = n.code; begun = refl; written = n.written; fields = n.fields }

type_waits : (tag : ExternTag) (s : Sort) (st : List Sort) (G : Gathered) → begins (s ∷ st) G.draft.code ≡ true → held (s ∷ st) ≡ held st → opened (s ∷ st) ≡ opened st → Nest (g.type_of tag ∷ st) G → Nest (s ∷ st) G
type_waits Func s st G b p q n = record { code = rw (p, q) n.code; begun = b; written = n.written; fields = n.fields }
type_waits Table s st G b p q n = record { code = rw (p, q) n.code; begun = b; written = n.written; fields = n.fields }
type_waits Memory s st G b p q n = record { code = rw (p, q) n.code; begun = b; written = n.written; fields = n.fields }
type_waits Global s st G b p q n = record { code = rw (p, q) n.code; begun = b; written = n.written; fields = n.fields }

type_begins : (tag : ExternTag) (st : List Sort) (is : List Item) → begins (g.type_of tag ∷ st) is ≡ true
type_begins Func st is = refl
type_begins Table st is = refl
type_begins Memory st is = refl
type_begins Global st is = refl

type_shaped : (tag : ExternTag) (st : List Sort) → shaped (g.type_of tag ∷ st) ≡ shaped st
type_shaped Func st = refl
type_shaped Table st = refl
type_shaped Memory st = refl
type_shaped Global st = refl

body_shaped : (tag : ExternTag) (c : Before) (st : List Sort) → shaped (g.body_of tag ∷ sort.Fields c ∷ st) ≡ is_nil st
body_shaped Func c st = refl
body_shaped Table c st = refl
body_shaped Memory c st = refl
body_shaped Global c st = refl

fills_shaped : (rest : Filling) (st : List Sort) → shaped (g.filled rest ∷ st) ≡ shaped st
fills_shaped filling.Functions st = refl
fills_shaped filling.Bytes st = refl

fills_held : (rest : Filling) (st : List Sort) → held (g.filled rest ∷ st) ≡ held st
fills_held filling.Functions st = refl
fills_held filling.Bytes st = refl

fills_open : (rest : Filling) (st : List Sort) → opened (g.filled rest ∷ st) ≡ opened st
fills_open filling.Functions st = refl
fills_open filling.Bytes st = refl

-- an instruction's word, plain and folded
word_nests : (f : Form) (tail : Tail) (p : Place) (st : List Sort) (G : Gathered) → good_form f ≡ true → Nests (g.operands_of f (sort.After (g.tail_of f) p ∷ []) ++ st) G → Nests (sort.After tail p ∷ st) (puts (g.pieces_of f) G)
word_nests (k.Bare leaf) tail p st G good h sh = let b = h sh in record { code = b.code; begun = refl; written = both_true (placed_written leaf G.draft.offset G.draft.align ∙ good) b.written; fields = b.fields }
word_nests (k.Access leaf) tail p st G good h sh = let b = h sh in record { code = b.code; begun = refl; written = both_true (placed_written leaf G.draft.offset G.draft.align ∙ good) b.written; fields = b.fields }
word_nests (k.Const w l) tail p st G good h sh = let b = h sh in record { code = b.code; begun = refl; written = b.written; fields = b.fields }
word_nests (k.Uses op) tail p st G good h sh = let b = h sh in record { code = b.code; begun = refl; written = b.written; fields = b.fields }
word_nests k.BrTable tail p st G good h sh = let b = h sh in record { code = b.code; begun = refl; written = b.written; fields = b.fields }
word_nests k.CallIndirect tail p st G good h sh = let b = h sh in record { code = b.code; begun = refl; written = b.written; fields = b.fields }

folded_nests : (f : Form) (tail : Tail) (p : Place) (st : List Sort) (G : Gathered) → good_form f ≡ true → Nests (g.operands_of f (sort.After (g.tail_of f) place.InOperands ∷ sort.After tails.NoTail p ∷ []) ++ st) G
    → Nests (sort.After tail p ∷ st) (puts (Fold ∷ g.pieces_of f) G)
folded_nests (k.Bare leaf) tail p st G good h sh = let b = h sh in record { code = b.code; begun = refl; written = both_true (placed_written leaf G.draft.offset G.draft.align ∙ good) b.written; fields = b.fields }
folded_nests (k.Access leaf) tail p st G good h sh = let b = h sh in record { code = b.code; begun = refl; written = both_true (placed_written leaf G.draft.offset G.draft.align ∙ good) b.written; fields = b.fields }
folded_nests (k.Const w l) tail p st G good h sh = let b = h sh in record { code = folds_plain (held_at p (held st)) (open_at p (opened st)) G.draft.code b.begun b.code; begun = refl; written = b.written; fields = b.fields }
folded_nests (k.Uses op) tail p st G good h sh = let b = h sh in record { code = folds_plain (held_at p (held st)) (open_at p (opened st)) G.draft.code b.begun b.code; begun = refl; written = b.written; fields = b.fields }
folded_nests k.BrTable tail p st G good h sh = let b = h sh in record { code = b.code; begun = refl; written = b.written; fields = b.fields }
folded_nests k.CallIndirect tail p st G good h sh = let b = h sh in record { code = b.code; begun = refl; written = b.written; fields = b.fields }

block_nests : (shape : Shape) (t : Tail) (p : Place) (st : List Sort) (G : Gathered) → Nests (sort.After tails.MayLabel (g.place_of shape) ∷ sort.After tails.MayRepeat p ∷ st) G → Nests (sort.After t p ∷ st) (puts (Opens shape ∷ []) G)
block_nests OfBlock t p st G h sh = let b = h sh in record { code = b.code; begun = refl; written = b.written; fields = b.fields }
block_nests OfLoop t p st G h sh = let b = h sh in record { code = b.code; begun = refl; written = b.written; fields = b.fields }
block_nests OfIf t p st G h sh = let b = h sh in record { code = b.code; begun = refl; written = b.written; fields = b.fields }

-- what changes no instructions
called_code : (part : Part) (w : Name) (d : Draft) → (called part w d).code ≡ d.code
called_code part.Param w d = refl
called_code part.Result w d = refl
called_code part.Local w d = refl

listed_code : (part : Part) (t : ValueType Label) (d : Draft) → (listed part None t d).code ≡ d.code
listed_code part.Param t d = refl
listed_code part.Result t d = refl
listed_code part.Local t d = refl

quote_code : (what : Quoted) (b : List ℕ) (d : Draft) → (quote what b d).code ≡ d.code
quote_code quoted.ExportName b d = refl
quote_code quoted.InlineExport b d = refl
quote_code quoted.ModuleName b d = refl
quote_code quoted.ImportName b d = refl
quote_code quoted.CustomName b d = refl
quote_code quoted.Bytes b d = refl

-- what stands behind a sub-production
moved : (next : List Sort) (s : Sort) (st : List Sort) (G : Gathered) → Nests ((next ++ s ∷ []) ++ st) G → Nests (next ++ (s ∷ st)) G
moved next s st G h = subst (λ l. Nests l G) (append_assoc next (s ∷ []) st) h

module _ (ct : Bool) where
  nests1 : {s : Sort} {t : Tok} {m : Move} → Rule1 ct s t m → (st : List Sort) (G : Gathered) → good_tok t ≡ true → Nests (m.next ++ st) G → Nests (s ∷ st) (puts m.out G)
  nests1 g.Rule1.module_name st G good h sh = let b = h sh in record { code = b.code; begun = refl; written = b.written; fields = b.fields }
  nests1 (g.Rule1.ct_fields e) st G good h sh = let b = h sh in record { code = b.code; begun = refl; written = b.written; fields = b.fields }
  nests1 (g.Rule1.plain_fields e r) st G good h sh = let b = nests1 r st G good h sh in record { code = b.code; begun = refl; written = b.written; fields = b.fields }
  nests1 g.Rule1.no_more_fields [] G good h sh = let b = h sh in record { code = b.code; begun = refl; written = b.written; fields = b.fields }
  nests1 g.Rule1.no_more_fields (s ∷ st) G good h sh = absurd cc
  nests1 g.Rule1.closing st G good h sh = let b = h sh in record { code = b.code; begun = refl; written = b.written; fields = b.fields }
  nests1 g.Rule1.type_name st G good h sh = let b = h sh in record { code = b.code; begun = refl; written = b.written; fields = b.fields }
  nests1 (g.Rule1.trusted e e1) st G good h sh = let b = h sh in record { code = b.code; begun = refl; written = b.written; fields = b.fields }
  nests1 (g.Rule1.slot {part} {w} e) st G good h sh = let b = h sh in record { code = rw (called_code part w G.draft) b.code; begun = refl; written = rw (called_code part w G.draft) b.written; fields = b.fields }
  nests1 (g.Rule1.first_type {part} {t} e) st G good h sh = let b = h sh in record { code = rw (listed_code part t G.draft) b.code; begun = refl; written = rw (listed_code part t G.draft) b.written; fields = b.fields }
  nests1 g.Rule1.no_types st G good h sh = let b = h sh in record { code = b.code; begun = refl; written = b.written; fields = b.fields }
  nests1 (g.Rule1.next_type {part} {t} e) st G good h sh = let b = h sh in record { code = rw (listed_code part t G.draft) b.code; begun = refl; written = rw (listed_code part t G.draft) b.written; fields = b.fields }
  nests1 g.Rule1.no_more_types st G good h sh = let b = h sh in record { code = b.code; begun = refl; written = b.written; fields = b.fields }
  nests1 (g.Rule1.one_type {part} {t} e) st G good h sh = let b = h sh in record { code = rw (listed_code part t G.draft) b.code; begun = refl; written = rw (listed_code part t G.draft) b.written; fields = b.fields }
  nests1 (g.Rule1.yields e) st G good h sh = let b = h sh in record { code = b.code; begun = refl; written = b.written; fields = b.fields }
  nests1 (g.Rule1.value e) st G good h sh = let b = h sh in record { code = b.code; begun = refl; written = b.written; fields = b.fields }
  nests1 (g.Rule1.numbered {role} {n} e) st G good h sh = referred role (Numbered n) st G (h sh)
  nests1 (g.Rule1.named {role} {w}) st G good h sh = referred role (Named w) st G (h sh)
  nests1 (g.Rule1.unsigned {w} {l} {n} e) st G good h sh = let b = h sh in record { code = b.code; begun = refl; written = both_true (fit_written w l false n e) b.written; fields = b.fields }
  nests1 (g.Rule1.signed {w} {l} {neg} {n} e) st G good h sh = let b = h sh in record { code = b.code; begun = refl; written = both_true (fit_written w l neg n e) b.written; fields = b.fields }
  nests1 (g.Rule1.string {what} {bytes} e) st G good h sh = let b = h sh in record { code = rw (quote_code what bytes G.draft) b.code; begun = refl; written = rw (quote_code what bytes G.draft) b.written; fields = b.fields }
  nests1 g.Rule1.extern_name st G good h sh = let b = h sh in record { code = b.code; begun = refl; written = b.written; fields = b.fields }
  nests1 (g.Rule1.extern_body {tag} {b} {named} {t} {m} r) st G good h sh = body_waits tag b named (g.defining b) st (puts m.out G) (nests1 r (sort.Fields (g.defining b) ∷ st) G good (moved m.next (sort.Fields (g.defining b)) st G h) (body_shaped tag (g.defining b) st ∙ sh))
  nests1 (g.Rule1.table_min e) st G good h sh = let b = h sh in record { code = b.code; begun = refl; written = b.written; fields = b.fields }
  nests1 g.Rule1.table_inline st G good h sh = let b = h sh in record { code = b.code; begun = refl; written = b.written; fields = b.fields }
  nests1 (g.Rule1.table_type e) st G good h sh = let b = h sh in record { code = b.code; begun = refl; written = b.written; fields = b.fields }
  nests1 (g.Rule1.table_max e) st G good h sh = let b = h sh in record { code = b.code; begun = refl; written = b.written; fields = b.fields }
  nests1 g.Rule1.table_no_max st G good h sh = let b = h sh in record { code = b.code; begun = refl; written = b.written; fields = b.fields }
  nests1 g.Rule1.funcref st G good h sh = let b = h sh in record { code = b.code; begun = refl; written = b.written; fields = b.fields }
  nests1 (g.Rule1.memory_secret e) st G good h sh = let b = h sh in record { code = b.code; begun = refl; written = b.written; fields = b.fields }
  nests1 (g.Rule1.memory_public r) st G good h sh = let b = nests1 r st G good h sh in record { code = b.code; begun = refl; written = b.written; fields = b.fields }
  nests1 (g.Rule1.memory_min e) st G good h sh = let b = h sh in record { code = b.code; begun = refl; written = b.written; fields = b.fields }
  nests1 (g.Rule1.memory_max e) st G good h sh = let b = h sh in record { code = b.code; begun = refl; written = b.written; fields = b.fields }
  nests1 g.Rule1.memory_no_max st G good h sh = let b = h sh in record { code = b.code; begun = refl; written = b.written; fields = b.fields }
  nests1 (g.Rule1.global_constant e) st G good h sh = let b = h sh in record { code = b.code; begun = refl; written = b.written; fields = b.fields }
  nests1 (g.Rule1.global_type e) st G good h sh = let b = h sh in record { code = b.code; begun = refl; written = b.written; fields = b.fields }
  nests1 (g.Rule1.import_name {tag}) st G good h sh = let b = type_waits tag (sort.NamedType tag) st G refl refl refl (h (type_shaped tag st ∙ sh)) in record { code = b.code; begun = refl; written = b.written; fields = b.fields }
  nests1 (g.Rule1.import_type {tag} {t} {m} r) st G good h sh = type_waits tag (sort.NamedType tag) st (puts m.out G) refl refl refl (nests1 r st G good h (type_shaped tag st ∙ sh))
  nests1 (g.Rule1.item e) st G good h sh = let b = h sh in record { code = b.code; begun = refl; written = b.written; fields = b.fields }
  nests1 g.Rule1.named_item st G good h sh = let b = h sh in record { code = b.code; begun = refl; written = b.written; fields = b.fields }
  nests1 g.Rule1.no_more_items st G good h sh = let b = h sh in record { code = b.code; begun = refl; written = b.written; fields = b.fields }
  nests1 g.Rule1.bytes st G good h sh = let b = h sh in record { code = b.code; begun = refl; written = b.written; fields = b.fields }
  nests1 g.Rule1.no_more_bytes st G good h sh = let b = h sh in record { code = b.code; begun = refl; written = b.written; fields = b.fields }
  nests1 (g.Rule1.segment_index {rest} (g.Rule1.numbered {role} {n} e)) st G good h sh = let b = h (fills_shaped rest st ∙ sh) in let c = referred role (Numbered n) (sort.Offset ∷ g.filled rest ∷ st) G b in record { code = rw (sym (fills_held rest st), sym (fills_open rest st)) c.code; begun = refl; written = c.written; fields = c.fields }
  nests1 (g.Rule1.segment_index {rest} (g.Rule1.named {role} {w})) st G good h sh = let b = h (fills_shaped rest st ∙ sh) in let c = referred role (Named w) (sort.Offset ∷ g.filled rest ∷ st) G b in record { code = rw (sym (fills_held rest st), sym (fills_open rest st)) c.code; begun = refl; written = c.written; fields = c.fields }
  nests1 (g.Rule1.expr_const e) st G good h sh = let b = h sh in record { code = b.code; begun = refl; written = b.written; fields = b.fields }
  nests1 g.Rule1.expr_global st G good h sh = let b = h sh in record { code = b.code; begun = refl; written = b.written; fields = b.fields }
  nests1 (g.Rule1.custom_place e) st G good h sh = let b = h sh in record { code = b.code; begun = refl; written = b.written; fields = b.fields }
  nests1 g.Rule1.repeats st G good h sh = let b = h sh in record { code = b.code; begun = refl; written = b.written; fields = b.fields }
  nests1 g.Rule1.label st G good h sh = let b = h sh in record { code = b.code; begun = refl; written = b.written; fields = b.fields }
  nests1 (g.Rule1.offset e) st G good h sh = let b = h sh in record { code = b.code; begun = refl; written = b.written; fields = b.fields }
  nests1 (g.Rule1.align e) st G good h sh = let b = h sh in record { code = b.code; begun = refl; written = b.written; fields = b.fields }
  nests1 (g.Rule1.only_align e) st G good h sh = let b = h sh in record { code = b.code; begun = refl; written = b.written; fields = b.fields }
  nests1 (g.Rule1.target e) st G good h sh = let b = h sh in record { code = b.code; begun = refl; written = b.written; fields = b.fields }
  nests1 g.Rule1.named_target st G good h sh = let b = h sh in record { code = b.code; begun = refl; written = b.written; fields = b.fields }
  nests1 (g.Rule1.plain {tail} {p} {f} e a) st G good h sh = word_nests f tail p st G good h sh
  nests1 (g.Rule1.block {tail} {p} {shape} e) st G good h sh = block_nests shape tail p st G h sh
  nests1 g.Rule1.else st G good h sh = let b = h sh in record { code = b.code; begun = refl; written = b.written; fields = b.fields }
  nests1 g.Rule1.end_block st G good h sh = let b = h sh in record { code = b.code; begun = refl; written = b.written; fields = b.fields }
  nests1 g.Rule1.end_if st G good h sh = let b = h sh in record { code = b.code; begun = refl; written = b.written; fields = b.fields }
  nests1 g.Rule1.end_body st G good h sh = let b = h sh in record { code = b.code; begun = refl; written = b.written; fields = b.fields }
  nests1 g.Rule1.end_folded st G good h sh = let b = h sh in record { code = b.code; begun = refl; written = b.written; fields = b.fields }
  nests1 g.Rule1.end_operands st G good h sh = let b = h sh in record { code = b.code; begun = refl; written = b.written; fields = b.fields }
  nests1 g.Rule1.end_then st G good h sh = let b = h sh in record { code = b.code; begun = refl; written = b.written; fields = b.fields }
  nests1 g.Rule1.end_else st G good h sh = let b = h sh in record { code = b.code; begun = refl; written = b.written; fields = b.fields }
  nests1 g.Rule1.end_nothing st G good h sh = let b = h sh in record { code = b.code; begun = refl; written = b.written; fields = b.fields }
  nests1 g.Rule1.no_else st G good h sh = let b = h sh in record { code = b.code; begun = refl; written = b.written; fields = b.fields }

  nests2 : {s : Sort} {at : ℕ} {word : Key} {m : Move} → Rule2 ct s at word m → (st : List Sort) (G : Gathered) → good_key word ≡ true → Nests (m.next ++ st) G → Nests (s ∷ st) (puts m.out G)
  nests2 g.Rule2.module_ st G good h sh = let b = h sh in record { code = b.code; begun = refl; written = b.written; fields = b.fields }
  nests2 (g.Rule2.plain_fields e r) st G good h sh = let b = nests2 r st G good h sh in record { code = b.code; begun = refl; written = b.written; fields = b.fields }
  nests2 g.Rule2.type st G good h sh = let b = h sh in record { code = refl; begun = refl; written = refl; fields = both_true (both_true b.code b.written) b.fields }
  nests2 (g.Rule2.import e) st G good h sh = let b = h sh in record { code = refl; begun = refl; written = refl; fields = both_true (both_true b.code b.written) b.fields }
  nests2 g.Rule2.extern st G good h sh = let b = h sh in record { code = refl; begun = refl; written = refl; fields = both_true (both_true b.code b.written) b.fields }
  nests2 g.Rule2.export st G good h sh = let b = h sh in record { code = refl; begun = refl; written = refl; fields = both_true (both_true b.code b.written) b.fields }
  nests2 (g.Rule2.start e) st G good h sh = let b = h sh in record { code = refl; begun = refl; written = refl; fields = both_true (both_true b.code b.written) b.fields }
  nests2 g.Rule2.elem st G good h sh = let b = h sh in record { code = refl; begun = refl; written = refl; fields = both_true (both_true b.code b.written) b.fields }
  nests2 g.Rule2.data_ st G good h sh = let b = h sh in record { code = refl; begun = refl; written = refl; fields = both_true (both_true b.code b.written) b.fields }
  nests2 g.Rule2.custom st G good h sh = let b = h sh in record { code = refl; begun = refl; written = refl; fields = both_true (both_true b.code b.written) b.fields }
  nests2 g.Rule2.func_type st G good h sh = let b = h sh in record { code = b.code; begun = refl; written = b.written; fields = b.fields }
  nests2 (g.Rule2.variant e) st G good h sh = let b = h sh in record { code = b.code; begun = refl; written = b.written; fields = b.fields }
  nests2 g.Rule2.variant_type st G good h sh = let b = h sh in record { code = b.code; begun = refl; written = b.written; fields = b.fields }
  nests2 (g.Rule2.entry e) st G good h sh = let b = h sh in record { code = b.code; begun = refl; written = b.written; fields = b.fields }
  nests2 (g.Rule2.param e) st G good h sh = let b = h sh in record { code = b.code; begun = refl; written = b.written; fields = b.fields }
  nests2 (g.Rule2.result e) st G good h sh = let b = h sh in record { code = b.code; begun = refl; written = b.written; fields = b.fields }
  nests2 (g.Rule2.local e) st G good h sh = let b = h sh in record { code = b.code; begun = refl; written = b.written; fields = b.fields }
  nests2 g.Rule2.inline_export st G good h sh = let b = h sh in record { code = b.code; begun = refl; written = b.written; fields = b.fields }
  nests2 (g.Rule2.inline_import {tag} {b} {named} e) st G good h sh = let n = type_waits tag sort.Closing (sort.Fields b ∷ st) G refl refl refl (record { code = (h (type_shaped tag (sort.Fields b ∷ st) ∙ sh)).code; begun = type_begins tag (sort.Fields b ∷ st) G.draft.code; written = (h (type_shaped tag (sort.Fields b ∷ st) ∙ sh)).written; fields = (h (type_shaped tag (sort.Fields b ∷ st) ∙ sh)).fields }) in record { code = n.code; begun = refl; written = n.written; fields = n.fields }
  nests2 (g.Rule2.extern_body {tag} {b} {named} {m} r) st G good h sh = body_waits tag b named (g.defining b) st (puts m.out G) (nests2 r (sort.Fields (g.defining b) ∷ st) G good (moved m.next (sort.Fields (g.defining b)) st G h) (body_shaped tag (g.defining b) st ∙ sh))
  nests2 g.Rule2.inline_elem st G good h sh = let b = h sh in record { code = b.code; begun = refl; written = b.written; fields = b.fields }
  nests2 (g.Rule2.memory_public r) st G good h sh = let b = nests2 r st G good h sh in record { code = b.code; begun = refl; written = b.written; fields = b.fields }
  nests2 g.Rule2.inline_data st G good h sh = let b = h sh in record { code = b.code; begun = refl; written = b.written; fields = b.fields }
  nests2 g.Rule2.global_mutable st G good h sh = let b = h sh in record { code = b.code; begun = refl; written = b.written; fields = b.fields }
  nests2 g.Rule2.type_mutable st G good h sh = let b = h sh in record { code = b.code; begun = refl; written = b.written; fields = b.fields }
  nests2 g.Rule2.import_kind st G good h sh = let b = h sh in record { code = b.code; begun = refl; written = b.written; fields = b.fields }
  nests2 (g.Rule2.import_type {tag} {m} r) st G good h sh = type_waits tag (sort.NamedType tag) st (puts m.out G) refl refl refl (nests2 r st G good h (type_shaped tag st ∙ sh))
  nests2 g.Rule2.export_kind st G good h sh = let b = h sh in record { code = b.code; begun = refl; written = b.written; fields = b.fields }
  nests2 (g.Rule2.expr_const e) st G good h sh = let b = h sh in record { code = b.code; begun = refl; written = b.written; fields = b.fields }
  nests2 g.Rule2.expr_global st G good h sh = let b = h sh in record { code = b.code; begun = refl; written = b.written; fields = b.fields }
  nests2 g.Rule2.offset st G good h sh = let b = h sh in record { code = b.code; begun = refl; written = b.written; fields = b.fields }
  nests2 (g.Rule2.folded_offset r) st G good h sh = let b = nests2 r st G good h sh in record { code = b.code; begun = refl; written = b.written; fields = b.fields }
  nests2 (g.Rule2.segment_offset {role} {rest} {m} r) st G good h sh = let b = nests2 r (g.filled rest ∷ st) G good (moved m.next (g.filled rest) st G h) (fills_shaped rest st ∙ sh) in record { code = rw (sym (fills_held rest st), sym (fills_open rest st)) b.code; begun = refl; written = b.written; fields = b.fields }
  nests2 g.Rule2.labelled_yield st G good h sh = let b = h sh in record { code = b.code; begun = refl; written = b.written; fields = b.fields }
  nests2 g.Rule2.yield st G good h sh = let b = h sh in record { code = b.code; begun = refl; written = b.written; fields = b.fields }
  nests2 (g.Rule2.folded {tail} {p} {f} e a) st G good h sh = folded_nests f tail p st G good h sh
  nests2 (g.Rule2.folded_block e) st G good h sh = let b = h sh in record { code = b.code; begun = refl; written = b.written; fields = b.fields }
  nests2 (g.Rule2.folded_loop e) st G good h sh = let b = h sh in record { code = b.code; begun = refl; written = b.written; fields = b.fields }
  nests2 (g.Rule2.folded_if e) st G good h sh = let b = h sh in record { code = b.code; begun = refl; written = b.written; fields = b.fields }
  nests2 g.Rule2.then st G good h sh = let b = h sh in record { code = b.code; begun = refl; written = b.written; fields = b.fields }
  nests2 g.Rule2.else st G good h sh = let b = h sh in record { code = b.code; begun = refl; written = b.written; fields = b.fields }

  puts_then : (out ps : List Piece) → gathered (out ++ ps) ≡ puts out (gathered ps)
  puts_then [] ps = refl
  puts_then (p ∷ out) ps = ap (put p) (puts_then out ps)

  nests_all : {st : List Sort} {ts : List Tok} {ps : List Piece} → Derives ct st ts ps → list_all good_tok ts ≡ true → Nests st (gathered ps)
  nests_all g.Derives.done t sh = record { code = refl; begun = refl; written = refl; fields = refl }
  nests_all (g.Derives.by_token {s} {m} {st} {ts} {ps} r d) t sh = subst (Nest (s ∷ st)) (sym (puts_then m.out ps)) (nests1 r st (gathered ps) (first_true _ _ t) (nests_all d (second_true _ _ t)) sh)
  nests_all (g.Derives.by_open {s} {m} {st} {ts} {ps} r d) t sh = subst (Nest (s ∷ st)) (sym (puts_then m.out ps)) (nests2 r st (gathered ps) (first_true _ _ t) (nests_all d (second_true _ _ t)) sh)

-- the instructions of each field of a module nest
pub fields_nest : (ct : Bool) (ts : List Tok) (ps : List Piece) → Spells ct ts ps → list_all good_tok ts ≡ true → list_all nests (fields_of ps) ≡ true
fields_nest ct ts ps d t = (nests_all ct d t refl).fields
