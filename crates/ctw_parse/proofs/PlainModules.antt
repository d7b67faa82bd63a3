-- The names of a module that fields stand for are text, and a plain one has no label, trust, variant, classify or declassify.
use Rattle.std.proofs.Common.{◌≡◌, ℕ, zero, suc, ◌+◌, ◌<◌, Bool, true, false, cond, not, List, [], ◌∷◌, ◌++◌, Option, Some, None, length, map, refl, subst}
use Rattle.std.specs.Prelude.{◌||◌, ◌==◌, nat_lt, IfSome, drop, flat_map, filter, filter_map, fold, option_map, unwrap_or}
use Rattle.std.specs.Option.{is_none}
use Rattle.std.specs.List.{All, list_all}
use Rattle.std.specs.Str.{is_utf8}
use Rattle.std.proofs.lemmas.Bool.{ltb-true}
use Rattle.std.proofs.lemmas.List.Sums.{AllPass-from_list_all}
use Rattle.std.proofs.lemmas.Str.{IsUtf8-from_ascii, is_utf8-from_IsUtf8}
use Rattle.std.proofs.lemmas.Str.Ascii.{IsAscii-from_all}
use Rattle.std.proofs.lemmas.List.Elements.{All-nil, All-cons, All-head, All-tail, All-append, All-push, All-map, All-drop, All-filter}
use Rattle.ctw_ops.specs.declared.types.Label.{Label}
use Rattle.ctw_ops.specs.declared.types.Label.TheVariants.{Public, Secret}
use Rattle.ctw_ops.specs.declared.types.Trust.{Trust}
use Rattle.ctw_ops.specs.declared.types.Trust.TheVariants.{Untrusted, Trusted}
use Rattle.ctw_ops.specs.declared.types.Width.TheVariants.{W32}
use Rattle.ctw_ops.specs.declared.types.ExternTag.{ExternTag}
use Rattle.ctw_ops.specs.declared.types.ExternTag.TheVariants.{Func, Table, Memory, Global}
use Rattle.ctw_ops.specs.declared.fault.What.TheVariants.{Tables, Memories}
use Rattle.ctw_ops.specs.ValueType.{ValueType}
use Rattle.ctw_ops.specs.Types.{MemoryType, value_type}
use Rattle.ctw_ops.specs.Code as ops
use Rattle.ctw_ops.specs.Code.{Code, Leaf, opcodes}
use Rattle.ctw_ops.specs.Segments.{nested}
use Rattle.ctw_ops.proofs.Segments.{opcodes_nested}
use Rattle.ctw_ops.specs.Plain.{is_public, is_plain_leaf, is_plain_type, is_plain_op, IsPublicType, IsPlainEntry, IsPlainExtern, IsPlainConstant, IsPlainGlobal, IsPlainFunction, IsPlainModule}
use Rattle.ctw_ops.specs.Tree.{Custom, Element, Export, Import, Segment}
use Rattle.ctw_text.specs.declared.keys.Key.TheVariants as key
use Rattle.ctw_text.specs.declared.keys.Indexed.{Indexed}
use Rattle.ctw_text.specs.declared.keys.Indexed.TheVariants as indexed
use Rattle.ctw_text.specs.Keys.{is_secret, allowed}
use Rattle.ctw_text.specs.declared.pieces.FieldKind.{FieldKind}
use Rattle.ctw_text.specs.declared.pieces.FieldKind.TheVariants as field
use Rattle.ctw_text.specs.declared.pieces.Index.{Index}
use Rattle.ctw_text.specs.declared.fields.Raw.{Raw}
use Rattle.ctw_text.specs.declared.fields.Raw.TheVariants.{Single as RSingle, Uses as RUses, Targets as RTargets, Indirect as RIndirect, Opens as ROpens, Else as RElse, End as REnd}
use Rattle.ctw_text.specs.declared.fields.Item.{Item}
use Rattle.ctw_text.specs.declared.fields.Item.TheVariants.{Op, Folds, Unfolds}
use Rattle.ctw_text.specs.declared.fields.Variable.{Variable}
use Rattle.ctw_text.specs.declared.fields.Use.{Use}
use Rattle.ctw_text.specs.declared.fields.Draft.{Draft}
use Rattle.ctw_text.specs.declared.fields.Field.{Field}
use Rattle.ctw_text.specs.Written.{Name, is_text}
use Rattle.ctw_text.specs.Fields.{unfolded}
use Rattle.ctw_text.specs.Names.{Space, Scope, Counts, Spelled, Wide, WideEntry, added, spelled_type, is_tag, tag_of, is_kind, use_in, own_use, uses_of, type_fields, space_of, leaf_of, labels_behind, op_of, ops_of, find, label_of, import_kind, import_of, function_of, local_names, global_of, constant_in, none_yet, exports_in, elements_in, segments_in, type_of, plain_entry, by_place, wide_of}
use Rattle.ctw_text.specs.Limits.{first, narrow, body_of, nesting_excess, locals_excess, runs as groups, function_excess, entry_excess, import_excess, over, count_if, is_table, is_memory, excess_of}
use Rattle.ctw_write.specs.KeepsLimits.{IsText}
use Rattle.ctw_parse.proofs.Nested.{nests, first_true, second_true, both_true}
use Rattle.ctw_parse.proofs.Bodies.{body_nested}
use Rattle.ctw_parse.proofs.NarrowTexts.{nil_left, nil_right, narrow_entry, narrow_function}
use Rattle.ctw_parse.proofs.EachField.{all_one, all_maybe, filtered, flattened, ordered, imported_all, unfolded_all, constant_all}
use Rattle.ctw_parse.proofs.PlainTexts.{maybe, trust_told, type_told, leaf_told, variable_told, use_told, raw_told, item_told, untargeted, told, Parts, parts}

-- ---- names

ascii_below : (bs : List ℕ) → list_all (λ b. nat_lt b 128) bs ≡ true → All (λ b. b < 128) bs
ascii_below bs h k d l = ltb-true _ _ (AllPass-from_list_all (λ b. nat_lt b 128) bs h k d l)

text_utf8 : (bs : List ℕ) → is_text bs ≡ true → IsText bs
text_utf8 bs h = go (list_all (λ b. nat_lt b 128) bs) refl h
  where
    go : (t : Bool) → list_all (λ b. nat_lt b 128) bs ≡ t → t || is_utf8 bs ≡ true → IsText bs
    go true e h = is_utf8-from_IsUtf8 bs (IsUtf8-from_ascii bs (IsAscii-from_all bs (ascii_below bs e)))
    go false e h = h

texts_utf8 : (bss : List (List ℕ)) → list_all is_text bss ≡ true → All IsText bss
texts_utf8 [] h = All-nil IsText
texts_utf8 (bs ∷ bss) h = All-cons IsText bs bss (text_utf8 bs (first_true _ _ h)) (texts_utf8 bss (second_true _ _ h))

abbrev pub ImportText : Import Label → Type 0
ImportText i = IsText i.module_name × IsText i.name

abbrev pub ExportText : Export → Type 0
ExportText e = IsText e.name

abbrev pub CustomText : Custom → Type 0
CustomText c = IsText c.name

import_text : (S : Space) (ct c : Bool) (kind : FieldKind) (d : Draft) → Parts ct c d → All ImportText (import_of S (record { kind = kind; draft = d }))
import_text S ct c kind d p = imported_all ImportText S kind d (λ from tag e. (text_utf8 from (subst (λ (o : Option (List ℕ)). maybe is_text o ≡ true) e p.from), text_utf8 d.imported p.imported))

export_text : (S : Space) (n : Counts) (ct c : Bool) (kind : FieldKind) (d : Draft) → Parts ct c d → All ExportText (exports_in S n (record { kind = kind; draft = d }))
export_text S n ct c field.TypeField d p = All-nil ExportText
export_text S n ct c field.ImportField d p = All-nil ExportText
export_text S n ct c field.ExportField d p = all_one ExportText _ (text_utf8 d.title p.title)
export_text S n ct c field.StartField d p = All-nil ExportText
export_text S n ct c field.ElemField d p = All-nil ExportText
export_text S n ct c field.DataField d p = All-nil ExportText
export_text S n ct c field.CustomField d p = All-nil ExportText
export_text S n ct c (field.Defining tag) d p = All-map ExportText _ d.exports (texts_utf8 d.exports p.exports)

placed_all : (n : ℕ) (cs : List Custom) → All CustomText cs → All CustomText (by_place n cs)
placed_all zero cs h = All-filter (λ (c : Custom). c.place == 0) CustomText cs h
placed_all (suc n) cs h = All-append CustomText (by_place n cs) (filter (λ (c : Custom). c.place == suc n) cs) (placed_all n cs h) (All-filter (λ (c : Custom). c.place == suc n) CustomText cs h)

module _ (ct : Bool) (fs : List Field) (h : list_all (told ct) fs ≡ true) where
  pub imports_text : All ImportText (wide_of ct fs).imports
  imports_text = flattened ImportText (told ct) (import_of (space_of fs)) (λ f t. import_text (space_of fs) ct (untargeted ct f.kind) f.kind f.draft (parts ct (untargeted ct f.kind) f.draft t)) fs h

  pub exports_text : All ExportText (wide_of ct fs).exports
  exports_text = ordered ExportText (told ct) (exports_in (space_of fs)) (λ n f t. export_text (space_of fs) n ct (untargeted ct f.kind) f.kind f.draft (parts ct (untargeted ct f.kind) f.draft t)) none_yet fs h

  pub customs_text : All CustomText (wide_of ct fs).customs
  customs_text = placed_all 11 _ (filtered CustomText (told ct) _ _ (λ f e t. text_utf8 f.draft.title (parts ct (untargeted ct f.kind) f.draft t).title) fs h)

-- ---- labels

public_label : (l : Label) → not (is_secret l) ≡ true → is_public l ≡ true
public_label Public h = refl
public_label Secret h = absurd cc

public_tag : (l : Label) → not (is_secret l) ≡ true → l ≡ Public
public_tag Public h = refl
public_tag Secret h = absurd cc

public_types : (ts : List (ValueType Label)) → list_all (type_told false) ts ≡ true → All IsPublicType ts
public_types [] h = All-nil IsPublicType
public_types (t ∷ ts) h = All-cons IsPublicType t ts (public_tag t.tag (first_true _ _ h)) (public_types ts (second_true _ _ h))

public_variables : (vs : List Variable) → list_all (variable_told false) vs ≡ true → All IsPublicType (map (λ (v : Variable). v.ty) vs)
public_variables [] h = All-nil IsPublicType
public_variables (v ∷ vs) h = All-cons IsPublicType v.ty (map (λ (v : Variable). v.ty) vs) (public_tag v.ty.tag (first_true _ _ h)) (public_variables vs (second_true _ _ h))

public_value : (o : Option (ValueType Label)) → maybe (type_told false) o ≡ true → IsPublicType (unwrap_or o (value_type W32 Public))
public_value None h = refl
public_value (Some t) h = public_tag t.tag h

public_memory : (b : Bool) → cond b (allowed false key.Secret) true ≡ true → label_of b ≡ Public
public_memory true h = absurd cc
public_memory false h = refl

first_all : {A : Type 0} (P : A → Type 0) (xs : List A) → All P xs → IfSome (first xs) P
first_all P [] h = tt
first_all P (x ∷ xs) h = All-head P x xs h

-- ---- types

untrusted : (t : Trust) → trust_told false t ≡ true → t ≡ Untrusted
untrusted Untrusted h = refl
untrusted Trusted h = absurd cc

no_base : (f : Index → ℕ) (o : Option Index) → is_none o || false ≡ true → option_map f o ≡ None
no_base f None h = refl
no_base f (Some x) h = absurd cc

abbrev PlainWide : WideEntry → Type 0
PlainWide e = IsPlainEntry (narrow_entry e)

abbrev PlainType : Spelled → Type 0
PlainType t = PlainWide (plain_entry t)

abbrev UseTold : Use → Type 0
UseTold u = use_told false u ≡ true

plain_type : (u : Use) → UseTold u → PlainType (spelled_type u)
plain_type u h =
    let r = second_true _ _ h in
    record {
      base = refl;
      trust = untrusted u.trust (first_true _ _ h);
      params = public_variables u.params (first_true _ _ r);
      result = first_all IsPublicType u.results (public_types u.results (second_true _ _ r));
    }

type_plain : (S : Space) (kind : FieldKind) (d : Draft) → is_kind field.TypeField (record { kind = kind; draft = d }) ≡ true → told false (record { kind = kind; draft = d }) ≡ true → PlainWide (type_of S (record { kind = kind; draft = d }))
type_plain S field.TypeField d e h =
    let p = parts false true d h in
    let t = plain_type d.sig p.sig in
    record { base = no_base (find S.types) d.target p.target; trust = t.trust; params = t.params; result = t.result }
type_plain S field.ImportField d e h = absurd cc
type_plain S field.ExportField d e h = absurd cc
type_plain S field.StartField d e h = absurd cc
type_plain S field.ElemField d e h = absurd cc
type_plain S field.DataField d e h = absurd cc
type_plain S field.CustomField d e h = absurd cc
type_plain S (field.Defining tag) d e h = absurd cc

added_plain : (es : List Spelled) (u : Use) → All PlainType es → UseTold u → All PlainType (added es u)
added_plain es u h t = go _
  where
    go : (b : Bool) → All PlainType (cond b es (es ++ spelled_type u ∷ []))
    go true = h
    go false = All-push PlainType es (spelled_type u) h (plain_type u t)

all_added : (us : List Use) (es : List Spelled) → All PlainType es → All UseTold us → All PlainType (fold added es us)
all_added [] es h t = h
all_added (u ∷ us) es h t = all_added us (added es u) (added_plain es u h (All-head UseTold u us t)) (All-tail UseTold u us t)

body_uses : (is : List Item) → list_all (item_told false) is ≡ true → All UseTold (filter_map use_in is)
body_uses [] h = All-nil UseTold
body_uses (Folds ∷ is) h = body_uses is h
body_uses (Unfolds ∷ is) h = body_uses is h
body_uses (Op (RSingle leaf) ∷ is) h = body_uses is (second_true _ _ h)
body_uses (Op (RUses op x) ∷ is) h = body_uses is h
body_uses (Op (RTargets xs) ∷ is) h = body_uses is h
body_uses (Op (RIndirect u) ∷ is) h = All-cons UseTold u (filter_map use_in is) (first_true _ _ h) (body_uses is (second_true _ _ h))
body_uses (Op (ROpens shape n t) ∷ is) h = body_uses is (second_true _ _ h)
body_uses (Op (RElse n) ∷ is) h = body_uses is h
body_uses (Op (REnd n) ∷ is) h = body_uses is h

field_uses : (f : Field) → told false f ≡ true → All UseTold (uses_of f)
field_uses f h =
    let p = parts false (untargeted false f.kind) f.draft h in
    All-append UseTold (own_use f) (filter_map use_in f.draft.code) (all_maybe UseTold (is_tag Func (tag_of f)) f.draft.sig p.sig) (body_uses f.draft.code p.code)

-- ---- imports

abbrev PlainImport : Import Label → Type 0
PlainImport i = IsPlainExtern i.kind

extern_plain : (S : Space) (c : Bool) (tag : ExternTag) (d : Draft) → Parts false c d → IsPlainExtern (import_kind S tag d)
extern_plain S c Func d p = tt
extern_plain S c Table d p = tt
extern_plain S c Memory d p = public_memory d.secret p.secret
extern_plain S c Global d p = public_value d.value p.value

import_plain : (S : Space) (c : Bool) (kind : FieldKind) (d : Draft) → Parts false c d → All PlainImport (import_of S (record { kind = kind; draft = d }))
import_plain S c kind d p = imported_all PlainImport S kind d (λ from tag e. extern_plain S c tag d p)

-- ---- bodies

leaf_plain : (leaf : Leaf Label) → leaf_told false leaf ≡ true → is_plain_leaf leaf ≡ true
leaf_plain ops.Unreachable h = refl
leaf_plain ops.Nop h = refl
leaf_plain (ops.Br n) h = refl
leaf_plain (ops.BrIf n) h = refl
leaf_plain (ops.BrTable ns n) h = refl
leaf_plain ops.Return h = refl
leaf_plain (ops.Call n) h = refl
leaf_plain (ops.CallIndirect n) h = refl
leaf_plain ops.Drop h = refl
leaf_plain (ops.Select l) h = public_label l h
leaf_plain (ops.LocalGet n) h = refl
leaf_plain (ops.LocalSet n) h = refl
leaf_plain (ops.LocalTee n) h = refl
leaf_plain (ops.GlobalGet n) h = refl
leaf_plain (ops.GlobalSet n) h = refl
leaf_plain (ops.Load w l bytes signed align offset) h = public_label l h
leaf_plain (ops.Store w l bytes align offset) h = public_label l h
leaf_plain ops.MemorySize h = refl
leaf_plain ops.MemoryGrow h = refl
leaf_plain (ops.Const w l bits) h = public_label l h
leaf_plain (ops.Numeric op l) h = public_label l h
leaf_plain (ops.Classify w) h = absurd cc
leaf_plain (ops.Declassify w) h = absurd cc

index_plain : (op : Indexed) (n : ℕ) → is_plain_leaf (leaf_of op n) ≡ true
index_plain indexed.Br n = refl
index_plain indexed.BrIf n = refl
index_plain indexed.Call n = refl
index_plain indexed.LocalGet n = refl
index_plain indexed.LocalSet n = refl
index_plain indexed.LocalTee n = refl
index_plain indexed.GlobalGet n = refl
index_plain indexed.GlobalSet n = refl

block_plain : (t : Option (ValueType Label)) → maybe (type_told false) t ≡ true → is_plain_type t ≡ true
block_plain None h = refl
block_plain (Some t) h = public_label t.tag h

raw_plain : (s : Scope) (labels : List (Option Name)) (r : Raw) → raw_told false r ≡ true → is_plain_op (op_of s labels r) ≡ true
raw_plain s labels (RSingle leaf) h = leaf_plain leaf h
raw_plain s labels (RUses op x) h = index_plain op _
raw_plain s labels (RTargets xs) h = refl
raw_plain s labels (RIndirect u) h = refl
raw_plain s labels (ROpens shape n t) h = block_plain t h
raw_plain s labels (RElse n) h = refl
raw_plain s labels (REnd n) h = refl

ops_plain : (s : Scope) (labels : List (Option Name)) (rs : List Raw) → list_all (raw_told false) rs ≡ true → list_all is_plain_op (ops_of s labels rs) ≡ true
ops_plain s labels [] h = refl
ops_plain s labels (r ∷ rs) h = both_true (raw_plain s labels r (first_true _ _ h)) (ops_plain s (labels_behind r labels) rs (second_true _ _ h))

nested_plain : (code : List (ops.Op Label)) (c : Code Label) → nested code ≡ Some c → list_all is_plain_op code ≡ true → list_all is_plain_op (opcodes (body_of (nested code))) ≡ true
nested_plain code c e h = rw e (subst (λ (l : List (ops.Op Label)). list_all is_plain_op l ≡ true) (opcodes_nested code c e) h)

functions_plain : (S : Space) (p : Field → Bool) (fs : List Field) → list_all (told false) fs ≡ true → list_all nests fs ≡ true → (before : ℕ) → function_excess before (map (function_of S) (filter p fs)) ≡ [] → All IsPlainFunction (map narrow_function (map (function_of S) (filter p fs)))
functions_plain S p [] t h before e = All-nil IsPlainFunction
functions_plain S p (f ∷ fs) t h before e = go (functions_plain S p fs (second_true _ _ t) (second_true _ _ h)) (p f) before e
  where
    go : ((before : ℕ) → function_excess before (map (function_of S) (filter p fs)) ≡ [] → All IsPlainFunction (map narrow_function (map (function_of S) (filter p fs))))
        → (b : Bool) → (before : ℕ) → function_excess before (map (function_of S) (cond b (f ∷ filter p fs) (filter p fs))) ≡ []
        → All IsPlainFunction (map narrow_function (map (function_of S) (cond b (f ∷ filter p fs) (filter p fs))))
    go rest true before e =
        let g = function_of S f in
        let others = map (function_of S) (filter p fs) in
        let own = locals_excess 0 before (groups g.locals) in
        let deep = nesting_excess 0 g.code in
        let more = function_excess (before + length g.locals) others in
        let s : Scope = record { space = S; locals = local_names S f.draft } in
        let b = body_nested s f.draft.code (first_true _ _ (first_true _ _ h)) (nil_right own deep (nil_left (own ++ deep) more e)) in
        let d = parts false (untargeted false f.kind) f.draft (first_true _ _ t) in
        All-cons IsPlainFunction (narrow_function g) (map narrow_function others)
        (public_variables f.draft.locals d.locals, nested_plain g.code b.0 b.1 (ops_plain s [] (unfolded [] f.draft.code) (unfolded_all (raw_told false) (item_told false) (λ r e. e) [] f.draft.code refl d.code)))
        (rest (before + length g.locals) (nil_right (own ++ deep) more e))
    go rest false before e = rest before e

-- ---- constants

constant_plain : (S : Space) (is : List Item) → list_all (item_told false) is ≡ true → IsPlainConstant (constant_in S is)
constant_plain S = constant_all S IsPlainConstant (item_told false) refl (λ w l bits h. public_tag l h) (λ n. tt)

global_plain : (S : Space) (c : Bool) (f : Field) → Parts false c f.draft → IsPlainGlobal (global_of S f)
global_plain S c f p = (public_value f.draft.value p.value, constant_plain S f.draft.code p.code)

abbrev PlainElement : Element Label → Type 0
PlainElement e = IsPlainConstant e.offset

abbrev PlainSegment : Segment Label → Type 0
PlainSegment s = IsPlainConstant s.offset

element_plain : (S : Space) (n : Counts) (c : Bool) (kind : FieldKind) (d : Draft) → Parts false c d → All PlainElement (elements_in S n (record { kind = kind; draft = d }))
element_plain S n c field.TypeField d p = All-nil PlainElement
element_plain S n c field.ImportField d p = All-nil PlainElement
element_plain S n c field.ExportField d p = All-nil PlainElement
element_plain S n c field.StartField d p = All-nil PlainElement
element_plain S n c field.ElemField d p = all_one PlainElement _ (constant_plain S d.code p.code)
element_plain S n c field.DataField d p = All-nil PlainElement
element_plain S n c field.CustomField d p = All-nil PlainElement
element_plain S n c (field.Defining Func) d p = All-nil PlainElement
element_plain S n c (field.Defining Table) d p = all_maybe PlainElement d.inline _ refl
element_plain S n c (field.Defining Memory) d p = All-nil PlainElement
element_plain S n c (field.Defining Global) d p = All-nil PlainElement

segment_plain : (S : Space) (n : Counts) (c : Bool) (kind : FieldKind) (d : Draft) → Parts false c d → All PlainSegment (segments_in S n (record { kind = kind; draft = d }))
segment_plain S n c field.TypeField d p = All-nil PlainSegment
segment_plain S n c field.ImportField d p = All-nil PlainSegment
segment_plain S n c field.ExportField d p = All-nil PlainSegment
segment_plain S n c field.StartField d p = All-nil PlainSegment
segment_plain S n c field.ElemField d p = All-nil PlainSegment
segment_plain S n c field.DataField d p = all_one PlainSegment _ (constant_plain S d.code p.code)
segment_plain S n c field.CustomField d p = All-nil PlainSegment
segment_plain S n c (field.Defining Func) d p = All-nil PlainSegment
segment_plain S n c (field.Defining Table) d p = All-nil PlainSegment
segment_plain S n c (field.Defining Memory) d p = all_maybe PlainSegment d.inline _ refl
segment_plain S n c (field.Defining Global) d p = All-nil PlainSegment

-- ---- the module

functions_kept : (m : Wide) → excess_of m ≡ [] → function_excess 0 m.functions ≡ []
functions_kept m e =
    let a = flat_map entry_excess m.types in
    let b = import_excess false false m.imports in
    let t = over (nat_lt 1 (count_if is_table m.imports + length m.tables)) Tables 1 in
    let u = over (nat_lt 1 (count_if is_memory m.imports + length m.memories)) Memories 1 in
    nil_right (a ++ b ++ t ++ u) (function_excess 0 m.functions) e

abbrev PlainMemory : MemoryType Label → Type 0
PlainMemory t = t.tag ≡ Public

told_parts : (f : Field) → told false f ≡ true → Parts false (untargeted false f.kind) f.draft
told_parts f t = parts false (untargeted false f.kind) f.draft t

module _ (fs : List Field) (h : list_all (told false) fs ≡ true) where
  entries_plain : All PlainType (space_of fs).entries
  entries_plain = all_added (flat_map uses_of fs) _ (filtered PlainType (told false) _ _ (λ f e t. plain_type f.draft.sig (told_parts f t).sig) fs h) (flattened UseTold (told false) uses_of field_uses fs h)

  types_plain : All IsPlainEntry (map narrow_entry (wide_of false fs).types)
  types_plain =
      let S = space_of fs in
      let others = drop (length (type_fields fs)) S.entries in
      All-map IsPlainEntry narrow_entry (wide_of false fs).types
      (All-append PlainWide (map (type_of S) (type_fields fs)) (map plain_entry others)
      (filtered PlainWide (told false) (type_of S) (is_kind field.TypeField) (λ f. type_plain S f.kind f.draft) fs h)
      (All-map PlainWide plain_entry others (All-drop PlainType (length (type_fields fs)) S.entries entries_plain)))

  plain_false : list_all nests fs ≡ true → excess_of (wide_of false fs) ≡ [] → IsPlainModule (narrow (wide_of false fs))
  plain_false n e =
      let S = space_of fs in
      let m = wide_of false fs in
      record {
        types = types_plain;
        imports = flattened PlainImport (told false) (import_of S) (λ f t. import_plain S (untargeted false f.kind) f.kind f.draft (told_parts f t)) fs h;
        functions = functions_plain S _ fs h n 0 (functions_kept m e);
        memory = first_all PlainMemory m.memories (filtered PlainMemory (told false) _ _ (λ f e t. public_memory f.draft.secret (told_parts f t).secret) fs h);
        globals = filtered IsPlainGlobal (told false) (global_of S) _ (λ f e t. global_plain S (untargeted false f.kind) f (told_parts f t)) fs h;
        elements = ordered PlainElement (told false) (elements_in S) (λ c f t. element_plain S c (untargeted false f.kind) f.kind f.draft (told_parts f t)) none_yet fs h;
        segments = ordered PlainSegment (told false) (segments_in S) (λ c f t. segment_plain S c (untargeted false f.kind) f.kind f.draft (told_parts f t)) none_yet fs h;
      }

-- a module that is no CT module is plain
pub plain : (ct : Bool) (fs : List Field) → list_all (told ct) fs ≡ true → list_all nests fs ≡ true → excess_of (wide_of ct fs) ≡ [] → ct ≡ false → IsPlainModule (narrow (wide_of ct fs))
plain true fs h n e c = absurd cc
plain false fs h n e c = plain_false fs h n e
