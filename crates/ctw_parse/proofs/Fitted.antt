-- What the fields of a module stand for can be written.
use Rattle.std.proofs.Common.{◌≡◌, ℕ, Bool, true, List, [], ◌∷◌, Option, refl, arith}
use Rattle.std.specs.Prelude.{◌^◌}
use Rattle.std.specs.List.{All, list_all}
use Rattle.std.proofs.lemmas.Bool.{ltb-true}
use Rattle.std.proofs.lemmas.List.Elements.{All-nil, All-cons}
use Rattle.ctw_ops.specs.declared.types.Label.{Label}
use Rattle.ctw_ops.specs.declared.types.ExternTag.TheVariants.{Func, Table, Memory, Global}
use Rattle.ctw_ops.specs.Types.{bit_width}
use Rattle.ctw_ops.specs.Code as ops
use Rattle.ctw_ops.specs.Code.{Leaf}
use Rattle.ctw_ops.specs.Tree as tree
use Rattle.ctw_ops.specs.Tree.{Constant, Element, Segment}
use Rattle.ctw_ops.specs.Valid.{IsFitting}
use Rattle.ctw_text.specs.declared.fields.Raw.{Raw}
use Rattle.ctw_text.specs.declared.fields.Raw.TheVariants.{Single as RSingle, Uses as RUses, Targets as RTargets, Indirect as RIndirect, Opens as ROpens, Else as RElse, End as REnd}
use Rattle.ctw_text.specs.declared.fields.Item.{Item}
use Rattle.ctw_text.specs.declared.fields.Item.TheVariants.{Op}
use Rattle.ctw_text.specs.declared.fields.Field.{Field}
use Rattle.ctw_text.specs.declared.fields.Draft.{Draft}
use Rattle.ctw_text.specs.declared.pieces.FieldKind.{FieldKind}
use Rattle.ctw_text.specs.declared.pieces.FieldKind.TheVariants as field
use Rattle.ctw_text.specs.declared.keys.Indexed.{Indexed}
use Rattle.ctw_text.specs.declared.keys.Indexed.TheVariants as indexed
use Rattle.ctw_text.specs.Written.{Name}
use Rattle.ctw_text.specs.Fields.{unfolded}
use Rattle.ctw_text.specs.Names.{Space, Scope, Counts, WideFunction, space_of, op_of, ops_of, leaf_of, labels_behind, function_of, global_of, constant_in, elements_in, segments_in, none_yet, wide_of, local_names}
use Rattle.ctw_parse.specs.Written.{IsWritten, IsWrittenLeaf, CanBeWritten}
use Rattle.ctw_parse.proofs.Nested.{written_leaf, written_item, nests, first_true, second_true}
use Rattle.ctw_parse.proofs.EachField.{all_one, all_maybe, filtered, ordered, unfolded_all, constant_all}

abbrev written_raw : Raw → Bool
written_raw (RSingle leaf) = written_leaf leaf
written_raw _ = true

-- ---- bodies

raw_item : (r : Raw) → written_item (Op r) ≡ true → written_raw r ≡ true
raw_item (RSingle leaf) h = h
raw_item (RUses op x) h = refl
raw_item (RTargets xs) h = refl
raw_item (RIndirect u) h = refl
raw_item (ROpens shape n t) h = refl
raw_item (RElse n) h = refl
raw_item (REnd n) h = refl

leaf_written : (leaf : Leaf Label) → written_leaf leaf ≡ true → IsWrittenLeaf leaf
leaf_written ops.Unreachable h = tt
leaf_written ops.Nop h = tt
leaf_written (ops.Br n) h = tt
leaf_written (ops.BrIf n) h = tt
leaf_written (ops.BrTable ns n) h = tt
leaf_written ops.Return h = tt
leaf_written (ops.Call n) h = tt
leaf_written (ops.CallIndirect n) h = tt
leaf_written ops.Drop h = tt
leaf_written (ops.Select l) h = tt
leaf_written (ops.LocalGet n) h = tt
leaf_written (ops.LocalSet n) h = tt
leaf_written (ops.LocalTee n) h = tt
leaf_written (ops.GlobalGet n) h = tt
leaf_written (ops.GlobalSet n) h = tt
leaf_written (ops.Load w l bytes signed align offset) h = h
leaf_written (ops.Store w l bytes align offset) h = h
leaf_written ops.MemorySize h = tt
leaf_written ops.MemoryGrow h = tt
leaf_written (ops.Const w l bits) h = ltb-true bits (2 ^ bit_width w) h
leaf_written (ops.Numeric op l) h = h
leaf_written (ops.Classify w) h = tt
leaf_written (ops.Declassify w) h = tt

index_written : (op : Indexed) (n : ℕ) → IsWrittenLeaf (leaf_of op n)
index_written indexed.Br n = tt
index_written indexed.BrIf n = tt
index_written indexed.Call n = tt
index_written indexed.LocalGet n = tt
index_written indexed.LocalSet n = tt
index_written indexed.LocalTee n = tt
index_written indexed.GlobalGet n = tt
index_written indexed.GlobalSet n = tt

raw_written : (s : Scope) (labels : List (Option Name)) (r : Raw) → written_raw r ≡ true → IsWritten (op_of s labels r)
raw_written s labels (RSingle leaf) h = leaf_written leaf h
raw_written s labels (RUses op x) h = index_written op _
raw_written s labels (RTargets xs) h = tt
raw_written s labels (RIndirect u) h = tt
raw_written s labels (ROpens shape n t) h = tt
raw_written s labels (RElse n) h = tt
raw_written s labels (REnd n) h = tt

ops_written : (s : Scope) (labels : List (Option Name)) (rs : List Raw) → list_all written_raw rs ≡ true → All IsWritten (ops_of s labels rs)
ops_written s labels [] h = All-cons IsWritten (ops.Closes ops.ByEnd) [] tt (All-nil IsWritten)
ops_written s labels (r ∷ rs) h = All-cons IsWritten (op_of s labels r) (ops_of s (labels_behind r labels) rs) (raw_written s labels r (first_true _ _ h)) (ops_written s (labels_behind r labels) rs (second_true _ _ h))

abbrev CodeWritten : WideFunction → Type 0
CodeWritten f = All IsWritten f.code

item_written : (f : Field) → nests f ≡ true → list_all written_item f.draft.code ≡ true
item_written f h = second_true _ _ h

function_written : (S : Space) (f : Field) → nests f ≡ true → CodeWritten (function_of S f)
function_written S f h = ops_written (record { space = S; locals = local_names S f.draft }) [] (unfolded [] f.draft.code) (unfolded_all written_raw written_item raw_item [] f.draft.code refl (item_written f h))

-- ---- constants

constant_fits : (S : Space) (is : List Item) → list_all written_item is ≡ true → IsFitting (constant_in S is)
constant_fits S = constant_all S IsFitting written_item (omega arith) (λ w l bits h. ltb-true bits (2 ^ bit_width w) h) (λ n. tt)

abbrev GlobalFits : tree.Global Label → Type 0
GlobalFits v = IsFitting v.init

abbrev OffsetFits : Element Label → Type 0
OffsetFits e = IsFitting e.offset

abbrev SegmentFits : Segment Label → Type 0
SegmentFits e = IsFitting e.offset

element_fits : (S : Space) (c : Counts) (kind : FieldKind) (d : Draft) → list_all written_item d.code ≡ true → All OffsetFits (elements_in S c (record { kind = kind; draft = d }))
element_fits S c field.TypeField d h = All-nil OffsetFits
element_fits S c field.ImportField d h = All-nil OffsetFits
element_fits S c field.ExportField d h = All-nil OffsetFits
element_fits S c field.StartField d h = All-nil OffsetFits
element_fits S c field.ElemField d h = all_one OffsetFits _ (constant_fits S d.code h)
element_fits S c field.DataField d h = All-nil OffsetFits
element_fits S c field.CustomField d h = All-nil OffsetFits
element_fits S c (field.Defining Func) d h = All-nil OffsetFits
element_fits S c (field.Defining Table) d h = all_maybe OffsetFits d.inline _ (omega arith)
element_fits S c (field.Defining Memory) d h = All-nil OffsetFits
element_fits S c (field.Defining Global) d h = All-nil OffsetFits

segment_fits : (S : Space) (c : Counts) (kind : FieldKind) (d : Draft) → list_all written_item d.code ≡ true → All SegmentFits (segments_in S c (record { kind = kind; draft = d }))
segment_fits S c field.TypeField d h = All-nil SegmentFits
segment_fits S c field.ImportField d h = All-nil SegmentFits
segment_fits S c field.ExportField d h = All-nil SegmentFits
segment_fits S c field.StartField d h = All-nil SegmentFits
segment_fits S c field.ElemField d h = All-nil SegmentFits
segment_fits S c field.DataField d h = all_one SegmentFits _ (constant_fits S d.code h)
segment_fits S c field.CustomField d h = All-nil SegmentFits
segment_fits S c (field.Defining Func) d h = All-nil SegmentFits
segment_fits S c (field.Defining Table) d h = All-nil SegmentFits
segment_fits S c (field.Defining Memory) d h = all_maybe SegmentFits d.inline _ (omega arith)
segment_fits S c (field.Defining Global) d h = All-nil SegmentFits

-- the module that fields stand for
pub fields_written : (ct : Bool) (fs : List Field) → list_all nests fs ≡ true → CanBeWritten (wide_of ct fs)
fields_written ct fs h =
    let S = space_of fs in
    record {
      code = filtered CodeWritten nests (function_of S) _ (λ f e n. function_written S f n) fs h;
      globals = filtered GlobalFits nests (global_of S) _ (λ f e n. constant_fits S f.draft.code (item_written f n)) fs h;
      elements = ordered OffsetFits nests (elements_in S) (λ c f n. element_fits S c f.kind f.draft (item_written f n)) none_yet fs h;
      segments = ordered SegmentFits nests (segments_in S) (λ c f n. segment_fits S c f.kind f.draft (item_written f n)) none_yet fs h;
    }
