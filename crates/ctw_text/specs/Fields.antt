-- The fields of a module (W3C WebAssembly Core 1.0, section 6.6), gathered from its pieces.
-- Names stand as they are written.
use Rattle.std.specs.Prelude.{ℕ, true, false, List, [], ◌∷◌, Option, Some, None, unwrap_or}
use Rattle.ctw_ops.specs.declared.types.Label.{Label}
use Rattle.ctw_ops.specs.declared.types.Trust.TheVariants.{Untrusted, Trusted}
use Rattle.ctw_ops.specs.declared.types.ExternTag.TheVariants.{Func}
use Rattle.ctw_ops.specs.ValueType.{ValueType}
use Rattle.ctw_ops.specs.Code as ops
use Rattle.ctw_ops.specs.Code.{Leaf, Shape}
use Rattle.ctw_text.specs.Keys as k
use Rattle.ctw_text.specs.Keys.{Part, Param, Local, Indexed}
use Rattle.ctw_text.specs.Toks.{Name}
use Rattle.ctw_text.specs.Pieces.{Index, Role, OfOp, OfTarget, OfEntry, OfBase, OfExport, OfStart, OfTable, OfMemory, OfItem, Quoted, ExportName, InlineExport, ModuleName, ImportName, CustomName, Bytes, Piece, Begin, NameIs, KindIs, Quotes, Refers, Number, IsSecret, IsMutable, ValueIs, Entry, Trusting, Slot, Typed, Inline, Single, Branches, Indirect, Opens, Else, End, AtOffset, Aligned, Labelled, Yields, Repeats, Fold, Unfold}
pub use Rattle.ctw_text.specs.declared.fields.Variable.{Variable}
pub use Rattle.ctw_text.specs.declared.fields.NamedEntry.{NamedEntry as Entry_}
pub use Rattle.ctw_text.specs.declared.fields.Use.{Use}
pub use Rattle.ctw_text.specs.declared.fields.Raw.{Raw}
pub use Rattle.ctw_text.specs.declared.fields.Raw.TheVariants.{Single as RSingle, Uses as RUses, Targets as RTargets, Indirect as RIndirect, Opens as ROpens, Else as RElse, End as REnd}
pub use Rattle.ctw_text.specs.declared.fields.Item.{Item}
pub use Rattle.ctw_text.specs.declared.fields.Item.TheVariants.{Op, Folds, Unfolds}
pub use Rattle.ctw_text.specs.declared.fields.Draft.{Draft}
pub use Rattle.ctw_text.specs.declared.fields.Field.{Field}

abbrev pub no_use : Use
no_use = record { entry = None; trust = Untrusted; params = []; results = [] }

abbrev pub empty : Draft
empty = record {
  name = None;
  exports = [];
  from = None;
  imported = [];
  title = [];
  strings = [];
  kind = Func;
  target = None;
  items = [];
  numbers = [];
  secret = false;
  mutable = false;
  inline = false;
  value = None;
  sig = no_use;
  locals = [];
  code = [];
  targets = [];
  offset = 0;
  align = None;
  label = None;
  yields = None;
}

-- the pieces of a field that has not begun yet, and the fields behind it
pub record Gathered : Type 0 where
  pub draft : Draft
  pub fields : List Field

abbrev pub quote : Quoted → List ℕ → Draft → Draft
quote InlineExport b d = record d { exports = b ∷ d.exports }
quote ModuleName b d = record d { from = Some b }
quote ImportName b d = record d { imported = b }
quote ExportName b d = record d { title = b }
quote CustomName b d = record d { title = b }
quote Bytes b d = record d { strings = b ∷ d.strings }

abbrev pub with_entry : Option Entry_ → Index → Option Entry_
with_entry e x = Some (record { place = 0; index = x })

abbrev pub placed : ℕ → Option Entry_ → Option Entry_
placed n None = None
placed n (Some e) = Some (record { place = n; index = e.index })

abbrev pub refer : Role → Index → Draft → Draft
refer (OfOp op) x d = record d { code = Op (RUses op x) ∷ d.code }
refer OfTarget x d = record d { targets = x ∷ d.targets }
refer OfEntry x d = record d { sig = record d.sig { entry = with_entry d.sig.entry x } }
refer OfItem x d = record d { items = x ∷ d.items }
refer (OfExport tag) x d = record d { kind = tag; target = Some x }
refer OfBase x d = record d { target = Some x }
refer OfStart x d = record d { target = Some x }
refer OfTable x d = record d { target = Some x }
refer OfMemory x d = record d { target = Some x }

abbrev pub listed : Part → Option Name → ValueType Label → Draft → Draft
listed Param n t d = record d { sig = record d.sig { params = record { name = n; ty = t } ∷ d.sig.params } }
listed k.Result n t d = record d { sig = record d.sig { results = t ∷ d.sig.results } }
listed Local n t d = record d { locals = record { name = n; ty = t } ∷ d.locals }

abbrev pub first_named : Name → List Variable → List Variable
first_named w [] = []
first_named w (v ∷ vs) = record v { name = Some w } ∷ vs

abbrev pub called : Part → Name → Draft → Draft
called Param w d = record d { sig = record d.sig { params = first_named w d.sig.params } }
called k.Result w d = d
called Local w d = record d { locals = first_named w d.locals }

-- an access with its offset and align
abbrev pub at_place : Leaf Label → (offset : ℕ) → Option ℕ → Leaf Label
at_place (ops.Load w l bytes signed natural none) offset align =
    ops.Load w l bytes signed (unwrap_or align natural) offset
at_place (ops.Store w l bytes natural none) offset align = ops.Store w l bytes (unwrap_or align natural) offset
at_place leaf offset align = leaf

abbrev pub add : Piece → Draft → Draft
add (NameIs w) d = record d { name = Some w }
add (KindIs tag) d = record d { kind = tag }
add (Quotes what b) d = quote what b d
add (Refers role x) d = refer role x d
add (Number n) d = record d { numbers = n ∷ d.numbers }
add IsSecret d = record d { secret = true }
add IsMutable d = record d { mutable = true }
add Inline d = record d { inline = true }
add (ValueIs t) d = record d { value = Some t }
add (Entry n) d = record d { sig = record d.sig { entry = placed n d.sig.entry } }
add Trusting d = record d { sig = record d.sig { trust = Trusted } }
add (Slot part w) d = called part w d
add (Typed part t) d = listed part None t d
add (AtOffset n) d = record d { offset = n }
add (Aligned n) d = record d { align = Some n }
add (Labelled w) d = record d { label = Some w }
add (Yields t) d = record d { yields = Some t }
add (Repeats w) d = record d { label = Some w }
add (Single leaf) d =
    record d { code = Op (RSingle (at_place leaf d.offset d.align)) ∷ d.code; offset = 0; align = None }
add Branches d = record d { code = Op (RTargets d.targets) ∷ d.code; targets = [] }
add Indirect d = record d { code = Op (RIndirect d.sig) ∷ d.code; sig = no_use }
add (Opens shape) d = record d { code = Op (ROpens shape d.label d.yields) ∷ d.code; label = None; yields = None }
add Else d = record d { code = Op (RElse d.label) ∷ d.code; label = None }
add End d = record d { code = Op (REnd d.label) ∷ d.code; label = None }
add Fold d = record d { code = Folds ∷ d.code }
add Unfold d = record d { code = Unfolds ∷ d.code }
add (Begin kind) d = d

abbrev pub put : Piece → Gathered → Gathered
put (Begin kind) g = record { draft = empty; fields = record { kind = kind; draft = g.draft } ∷ g.fields }
put p g = record { draft = add p g.draft; fields = g.fields }

abbrev pub gathered : List Piece → Gathered
gathered [] = record { draft = empty; fields = [] }
gathered (p ∷ ps) = put p (gathered ps)

abbrev pub fields_of : List Piece → List Field
fields_of ps = (gathered ps).fields

-- Folded instructions in order: each after its operands

abbrev pub close_fold : List Raw → (List Raw → List Raw) → List Raw
close_fold [] rest = rest []
close_fold (r ∷ held) rest = r ∷ rest held

abbrev pub unfolded : (held : List Raw) → List Item → List Raw
unfolded held [] = []
unfolded held (Folds ∷ Op r ∷ is) = unfolded (r ∷ held) is
unfolded held (Folds ∷ is) = unfolded held is
unfolded held (Unfolds ∷ is) = close_fold held (λ held. unfolded held is)
unfolded held (Op r ∷ is) = r ∷ unfolded held is
