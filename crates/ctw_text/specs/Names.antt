-- The third pass: what names and typeuses stand for, and the faults among them (W3C WebAssembly Core 1.0,
-- sections 6.3.5, 6.6.1, 6.6.3).
use Rattle.std.specs.Prelude.{ℕ, zero, suc, ◌||◌, ◌+◌, ◌/◌, ◌==◌, ◌&&◌, nat_le, not, Bool, true, false, cond, List, [], ◌∷◌, ◌++◌, Option, Some, None, option_map, unwrap_or, map, length, drop, Result, Ok, Err, slice_get, position, bytes_eq, flat_map, filter, filter_map, fold, is_some}
use Rattle.std.specs.List.{list_any}
use Rattle.ctw_ops.specs.declared.types.Label.{Label}
use Rattle.ctw_ops.specs.declared.types.Label.TheVariants.{Public, Secret}
use Rattle.ctw_ops.specs.declared.types.Width.TheVariants.{W32}
use Rattle.ctw_ops.specs.declared.types.Trust.{Trust}
use Rattle.ctw_ops.specs.declared.types.Trust.TheVariants.{Untrusted}
use Rattle.ctw_ops.specs.declared.types.Limits.{Limits}
use Rattle.ctw_ops.specs.declared.types.ExternTag.{ExternTag}
use Rattle.ctw_ops.specs.declared.types.ExternTag.TheVariants.{Func, Table, Memory, Global}
use Rattle.ctw_ops.specs.ValueType.{ValueType}
use Rattle.ctw_ops.specs.Types.{VariableType, MemoryType, value_type}
use Rattle.ctw_ops.specs.Equal.{same_trust, same_types, same_tag}
use Rattle.ctw_ops.specs.Code as ops
use Rattle.ctw_ops.specs.Code.{Leaf, Shape, ByElse, ByEnd}
use Rattle.ctw_ops.specs.Tree.{Constant, Extern, Import, Export, Element, Segment, Custom}
use Rattle.ctw_ops.specs.Tree as tree
use Rattle.ctw_text.specs.Keys as k
use Rattle.ctw_text.specs.Keys.{Indexed}
use Rattle.ctw_text.specs.Toks.{Name}
use Rattle.ctw_text.specs.Pieces.{Index, Numbered, Named, FieldKind, TypeField, ImportField, ExportField, StartField, ElemField, DataField, CustomField, Defining}
use Rattle.ctw_text.specs.Fields.{Variable, Entry_, Use, Raw, RSingle, RUses, RTargets, RIndirect, ROpens, RElse, REnd, Item, Op, Draft, Field, unfolded}

-- Names

-- the words of a kind, from number 0 on
pub record Words : Type 0 where
  pub names : List (Option Name)

abbrev pub is_named : Name → Option Name → Bool
is_named w None = false
is_named w (Some v) = bytes_eq w.word v.word

-- the first number with that name, else 0
abbrev pub find : List (Option Name) → Index → ℕ
find names (Numbered n) = n
find names (Named w) = unwrap_or (position (is_named w) names) 0

pub data Kind : Type 0 where
  UnknownName DoubleName Mismatch : Kind

pub record NameFault : Type 0 where
  pub kind : Kind
  -- the offset of the token, and its length
  pub place : ℕ
  pub extent : ℕ

abbrev pub fault_at : Kind → Name → NameFault
fault_at kind w = record { kind = kind; place = w.place; extent = length w.word }

abbrev pub unless : Bool → NameFault → List NameFault
unless b f = cond b [] (f ∷ [])

abbrev pub use_faults : List (Option Name) → Index → List NameFault
use_faults names (Numbered n) = []
use_faults names (Named w) = unless (list_any (is_named w) names) (fault_at UnknownName w)

-- each name that stands before under the same word
abbrev pub double_faults : (before names : List (Option Name)) → List NameFault
double_faults before [] = []
double_faults before (None ∷ ns) = double_faults before ns
double_faults before (Some w ∷ ns) =
    unless (not (list_any (is_named w) before)) (fault_at DoubleName w) ++ double_faults (Some w ∷ before) ns

-- Types

-- a type as it is spelled, with all its results
pub record Spelled : Type 0 where
  pub trust : Trust
  pub params : List (ValueType Label)
  pub results : List (ValueType Label)

pub record WideEntry : Type 0 where
  pub base : Option ℕ
  pub type : Spelled

abbrev pub spelled_type : Use → Spelled
spelled_type u = record { trust = u.trust; params = map (λ (v : Variable). v.ty) u.params; results = u.results }

abbrev pub no_type : Spelled
no_type = record { trust = Untrusted; params = []; results = [] }

abbrev pub same_lists : Spelled → Spelled → Bool
same_lists a b = same_types a.params b.params && same_types a.results b.results

abbrev pub same_spelled : Spelled → Spelled → Bool
same_spelled a b = same_trust a.trust b.trust && same_lists a b

-- the entries behind a typeuse
abbrev pub added : List Spelled → Use → List Spelled
added es u = cond (is_some u.entry || list_any (same_spelled (spelled_type u)) es) es (es ++ spelled_type u ∷ [])

-- What a module's names and types are

pub record Space : Type 0 where
  pub types : List (Option Name)
  pub funcs : List (Option Name)
  pub tables : List (Option Name)
  pub memories : List (Option Name)
  pub globals : List (Option Name)
  pub entries : List Spelled

abbrev pub names_of : Space → ExternTag → List (Option Name)
names_of S Func = S.funcs
names_of S Table = S.tables
names_of S Memory = S.memories
names_of S Global = S.globals

-- the kind of what a field imports or defines
abbrev pub tag_of : Field → Option ExternTag
tag_of f = of f.kind
  where
    of : FieldKind → Option ExternTag
    of ImportField = Some f.draft.kind
    of (Defining tag) = Some tag
    of _ = None

abbrev pub is_tag : ExternTag → Option ExternTag → Bool
is_tag tag None = false
is_tag tag (Some t) = same_tag tag t

abbrev pub is_kind : FieldKind → Field → Bool
is_kind kind f = is kind f.kind
  where
    is : FieldKind → FieldKind → Bool
    is TypeField TypeField = true
    is ImportField ImportField = true
    is ExportField ExportField = true
    is StartField StartField = true
    is ElemField ElemField = true
    is DataField DataField = true
    is CustomField CustomField = true
    is (Defining a) (Defining b) = same_tag a b
    is _ _ = false

abbrev pub fields_with : ExternTag → List Field → List Field
fields_with tag fs = filter (λ f. is_tag tag (tag_of f)) fs

abbrev pub is_import : Field → Bool
is_import f = is_some f.draft.from

-- what a module defines of a kind
abbrev pub defined : ExternTag → List Field → List Field
defined tag fs = filter (λ f. is_kind (Defining tag) f && not (is_import f)) fs

abbrev pub field_names : List Field → List (Option Name)
field_names fs = map (λ (f : Field). f.draft.name) fs

-- the typeuses of a body, in the order of the text
abbrev pub use_in : Item → Option Use
use_in (Op (RIndirect u)) = Some u
use_in _ = None

-- a field's own typeuse
abbrev pub own_use : Field → List Use
own_use f = cond (is_tag Func (tag_of f)) (f.draft.sig ∷ []) []

abbrev pub uses_of : Field → List Use
uses_of f = own_use f ++ filter_map use_in f.draft.code

abbrev pub type_fields : List Field → List Field
type_fields fs = filter (is_kind TypeField) fs

abbrev pub space_of : List Field → Space
space_of fs = record {
  types = field_names (type_fields fs);
  funcs = field_names (fields_with Func fs);
  tables = field_names (fields_with Table fs);
  memories = field_names (fields_with Memory fs);
  globals = field_names (fields_with Global fs);
  entries = fold added (map (λ (f : Field). spelled_type f.draft.sig) (type_fields fs)) (flat_map uses_of fs);
}

-- a number that names no entry counts as an entry without parameters and results
abbrev pub entry_at : Space → ℕ → Spelled
entry_at S n = unwrap_or (slice_get S.entries n) no_type

-- the entry of a typeuse
abbrev pub entry_of : Space → Use → ℕ
entry_of S u = of u.entry
  where
    of : Option Entry_ → ℕ
    of None = unwrap_or (position (same_spelled (spelled_type u)) S.entries) 0
    of (Some e) = find S.types e.index

-- nothing is spelled out beside an index, or the entry's types
abbrev pub agrees : Use → Spelled → Bool
agrees u t = (length u.params == 0 && length u.results == 0) || same_lists (spelled_type u) t

-- the faults of a typeuse, but for its names
abbrev pub entry_faults : Space → Option Entry_ → Use → List NameFault
entry_faults S None u = []
entry_faults S (Some e) u = cond (unknown e.index) (use_faults S.types e.index)
    (unless (agrees u (entry_at S (find S.types e.index))) (record { kind = Mismatch; place = e.place; extent = 1 }))
  where
    unknown : Index → Bool
    unknown (Numbered n) = false
    unknown (Named w) = not (list_any (is_named w) S.types)

abbrev pub names_in : List Variable → List (Option Name)
names_in vs = map (λ (v : Variable). v.name) vs

-- Bodies

-- names for the first n numbers
abbrev pub padded : ℕ → List (Option Name) → List (Option Name)
padded zero ns = []
padded (suc n) [] = None ∷ padded n []
padded (suc n) (name ∷ ns) = name ∷ padded n ns

abbrev pub local_names : Space → Draft → List (Option Name)
local_names S d = padded (length (entry_at S (entry_of S d.sig)).params) (names_in d.sig.params) ++ names_in d.locals

-- what a body's names mean
pub record Scope : Type 0 where
  pub space : Space
  pub locals : List (Option Name)

abbrev pub names_for : Scope → (labels : List (Option Name)) → Indexed → List (Option Name)
names_for s labels k.Br = labels
names_for s labels k.BrIf = labels
names_for s labels k.Call = s.space.funcs
names_for s labels k.LocalGet = s.locals
names_for s labels k.LocalSet = s.locals
names_for s labels k.LocalTee = s.locals
names_for s labels k.GlobalGet = s.space.globals
names_for s labels k.GlobalSet = s.space.globals

abbrev pub leaf_of : Indexed → ℕ → Leaf Label
leaf_of k.Br n = ops.Br n
leaf_of k.BrIf n = ops.BrIf n
leaf_of k.Call n = ops.Call n
leaf_of k.LocalGet n = ops.LocalGet n
leaf_of k.LocalSet n = ops.LocalSet n
leaf_of k.LocalTee n = ops.LocalTee n
leaf_of k.GlobalGet n = ops.GlobalGet n
leaf_of k.GlobalSet n = ops.GlobalSet n

-- the targets but the last, and the last
abbrev pub branches : List ℕ → Leaf Label
branches ns = ops.BrTable (front ns) (last ns)
  where
    front : List ℕ → List ℕ
    front [] = []
    front (n ∷ []) = []
    front (n ∷ m ∷ ms) = n ∷ front (m ∷ ms)

    last : List ℕ → ℕ
    last [] = 0
    last (n ∷ []) = n
    last (n ∷ m ∷ ms) = last (m ∷ ms)

abbrev pub behind : List (Option Name) → List (Option Name)
behind [] = []
behind (l ∷ labels) = labels

-- the labels that are open behind an instruction, innermost first
abbrev pub labels_behind : Raw → List (Option Name) → List (Option Name)
labels_behind (ROpens shape n t) labels = n ∷ labels
labels_behind (REnd n) labels = behind labels
labels_behind _ labels = labels

abbrev pub op_of : Scope → (labels : List (Option Name)) → Raw → ops.Op Label
op_of s labels (RSingle leaf) = ops.Plain leaf
op_of s labels (RUses op x) = ops.Plain (leaf_of op (find (names_for s labels op) x))
op_of s labels (RTargets xs) = ops.Plain (branches (map (find labels) xs))
op_of s labels (RIndirect u) = ops.Plain (ops.CallIndirect (entry_of s.space u))
op_of s labels (ROpens shape n t) = ops.Opens shape t
op_of s labels (RElse n) = ops.Closes ByElse
op_of s labels (REnd n) = ops.Closes ByEnd

abbrev pub ops_of : Scope → (labels : List (Option Name)) → List Raw → List (ops.Op Label)
ops_of s labels [] = ops.Closes ByEnd ∷ []
ops_of s labels (r ∷ rs) = op_of s labels r ∷ ops_of s (labels_behind r labels) rs

-- an identifier behind `else` or `end` is the block's own
abbrev pub repeat_faults : Option Name → List (Option Name) → List NameFault
repeat_faults None labels = []
repeat_faults (Some w) [] = fault_at UnknownName w ∷ []
repeat_faults (Some w) (l ∷ labels) = unless (is_named w l) (fault_at UnknownName w)

abbrev pub use_all_faults : Space → Use → List NameFault
use_all_faults S u = entry_faults S u.entry u ++ double_faults [] (names_in u.params)

abbrev pub raw_faults : Scope → (labels : List (Option Name)) → Raw → List NameFault
raw_faults s labels (RSingle leaf) = []
raw_faults s labels (RUses op x) = use_faults (names_for s labels op) x
raw_faults s labels (RTargets xs) = flat_map (use_faults labels) xs
raw_faults s labels (RIndirect u) = use_all_faults s.space u
raw_faults s labels (ROpens shape n t) = []
raw_faults s labels (RElse n) = repeat_faults n labels
raw_faults s labels (REnd n) = repeat_faults n labels

abbrev pub body_faults : Scope → (labels : List (Option Name)) → List Raw → List NameFault
body_faults s labels [] = []
body_faults s labels (r ∷ rs) = raw_faults s labels r ++ body_faults s (labels_behind r labels) rs

-- The module without limits: types with more than one result, tables and memories as lists

pub record WideFunction : Type 0 where
  pub type : ℕ
  pub locals : List (ValueType Label)
  pub code : List (ops.Op Label)

pub record Wide : Type 0 where
  pub ct : Bool
  pub types : List WideEntry
  pub imports : List (Import Label)
  pub functions : List WideFunction
  pub tables : List Limits
  pub memories : List (MemoryType Label)
  pub globals : List (tree.Global Label)
  pub exports : List Export
  pub start : List ℕ
  pub elements : List (Element Label)
  pub segments : List (Segment Label)
  pub customs : List Custom

abbrev pub limits_in : List ℕ → Limits
limits_in [] = record { min = 0; max = None }
limits_in (n ∷ []) = record { min = n; max = None }
limits_in (n ∷ m ∷ ms) = record { min = n; max = Some m }

abbrev pub exact : ℕ → Limits
exact n = record { min = n; max = Some n }

abbrev pub bytes_in : Draft → List ℕ
bytes_in d = flat_map (λ (b : List ℕ). b) d.strings

abbrev pub table_limits : Draft → Limits
table_limits d = cond d.inline (exact (length d.items)) (limits_in d.numbers)

-- as many pages as the bytes need
abbrev pub pages_for : ℕ → ℕ
pages_for n = (n + 65535) / 65536

abbrev pub memory_limits : Draft → Limits
memory_limits d = cond d.inline (exact (pages_for (length (bytes_in d)))) (limits_in d.numbers)

abbrev pub label_of : Bool → Label
label_of true = Secret
label_of false = Public

abbrev pub memory_type : Draft → MemoryType Label
memory_type d = record { tag = label_of d.secret; limits = memory_limits d }

abbrev pub global_type : Draft → VariableType Label
global_type d = record { mutable = d.mutable; value = unwrap_or d.value (value_type W32 Public) }

-- a constant expression
abbrev pub constant_in : Space → List Item → Constant Label
constant_in S (Op (RSingle (ops.Const w l bits)) ∷ is) = tree.Number (value_type w l) bits
constant_in S (Op (RUses op x) ∷ is) = tree.ValueOf (find S.globals x)
constant_in S _ = tree.Number (value_type W32 Public) 0

abbrev pub zero_offset : Constant Label
zero_offset = tree.Number (value_type W32 Public) 0

abbrev pub import_kind : Space → ExternTag → Draft → Extern Label
import_kind S Func d = tree.ImportedFunction (entry_of S d.sig)
import_kind S Table d = tree.ImportedTable (limits_in d.numbers)
import_kind S Memory d = tree.ImportedMemory (record { tag = label_of d.secret; limits = limits_in d.numbers })
import_kind S Global d = tree.ImportedGlobal (global_type d)

abbrev pub import_of : Space → Field → List (Import Label)
import_of S f = of (tag_of f) f.draft.from
  where
    of : Option ExternTag → Option (List ℕ) → List (Import Label)
    of (Some tag) (Some from) =
        record { module_name = from; name = f.draft.imported; kind = import_kind S tag f.draft } ∷ []
    of _ _ = []

abbrev pub function_of : Space → Field → WideFunction
function_of S f = record {
  type = entry_of S f.draft.sig;
  locals = map (λ (v : Variable). v.ty) f.draft.locals;
  code = ops_of (record { space = S; locals = local_names S f.draft }) [] (unfolded [] f.draft.code);
}

abbrev pub global_of : Space → Field → tree.Global Label
global_of S f = record { type = global_type f.draft; init = constant_in S f.draft.code }

-- how many of each kind stand before
pub record Counts : Type 0 where
  pub funcs : ℕ
  pub tables : ℕ
  pub memories : ℕ
  pub globals : ℕ

abbrev pub none_yet : Counts
none_yet = record { funcs = 0; tables = 0; memories = 0; globals = 0 }

abbrev pub count_of : Counts → ExternTag → ℕ
count_of c Func = c.funcs
count_of c Table = c.tables
count_of c Memory = c.memories
count_of c Global = c.globals

abbrev pub counted : Option ExternTag → Counts → Counts
counted None c = c
counted (Some Func) c = record c { funcs = suc c.funcs }
counted (Some Table) c = record c { tables = suc c.tables }
counted (Some Memory) c = record c { memories = suc c.memories }
counted (Some Global) c = record c { globals = suc c.globals }

abbrev pub index_or_zero : List (Option Name) → Option Index → ℕ
index_or_zero names None = 0
index_or_zero names (Some x) = find names x

abbrev pub exports_in : Space → Counts → Field → List Export
exports_in S c f = of f.kind
  where
    of : FieldKind → List Export
    of ExportField =
        record {
          name = f.draft.title;
          kind = f.draft.kind;
          index = index_or_zero (names_of S f.draft.kind) f.draft.target;
        } ∷ []
    of (Defining tag) = map (λ name. record { name = name; kind = tag; index = count_of c tag }) f.draft.exports
    of _ = []

abbrev pub elements_in : Space → Counts → Field → List (Element Label)
elements_in S c f = of f.kind
  where
    functions : List ℕ
    functions = map (find S.funcs) f.draft.items

    of : FieldKind → List (Element Label)
    of ElemField =
        record {
          table = index_or_zero S.tables f.draft.target;
          offset = constant_in S f.draft.code;
          functions = functions;
        } ∷ []
    of (Defining Table) =
        cond f.draft.inline (record { table = c.tables; offset = zero_offset; functions = functions } ∷ []) []
    of _ = []

abbrev pub segments_in : Space → Counts → Field → List (Segment Label)
segments_in S c f = of f.kind
  where
    of : FieldKind → List (Segment Label)
    of DataField =
        record {
          memory = index_or_zero S.memories f.draft.target;
          offset = constant_in S f.draft.code;
          bytes = bytes_in f.draft;
        } ∷ []
    of (Defining Memory) =
        cond f.draft.inline (record { memory = c.memories; offset = zero_offset; bytes = bytes_in f.draft } ∷ []) []
    of _ = []

-- what each field gives, with how many of each kind stand before it
abbrev pub in_order : {X : Type 0} → (Counts → Field → List X) → Counts → List Field → List X
in_order give c [] = []
in_order give c (f ∷ fs) = give c f ++ in_order give (counted (tag_of f) c) fs

abbrev pub starts_in : Space → Field → List ℕ
starts_in S f = cond (is_kind StartField f) (index_or_zero S.funcs f.draft.target ∷ []) []

abbrev pub type_of : Space → Field → WideEntry
type_of S f = record { base = option_map (find S.types) f.draft.target; type = spelled_type f.draft.sig }

abbrev pub plain_entry : Spelled → WideEntry
plain_entry t = record { base = None; type = t }

-- Custom sections stand behind the last section up to theirs that has items,
-- those of one place in the order of the text

abbrev pub is_empty : {X : Type 0} → List X → Bool
is_empty [] = true
is_empty (x ∷ xs) = false

-- whether the sections from 1 to 11 have items
abbrev pub sections_with : Wide → List Bool
sections_with m =
    not (is_empty m.types) ∷ not (is_empty m.imports) ∷ not (is_empty m.functions) ∷ not (is_empty m.tables)
    ∷ not (is_empty m.memories) ∷ not (is_empty m.globals)
    ∷ not (is_empty m.exports) ∷ not (is_empty m.start) ∷ not (is_empty m.elements) ∷ not (is_empty m.functions)
    ∷ not (is_empty m.segments) ∷ []

-- the last of the sections from `at` on, up to n of them, that has items, else `before`
abbrev pub last_with : (n at before : ℕ) → List Bool → ℕ
last_with zero at before has = before
last_with (suc n) at before [] = before
last_with (suc n) at before (h ∷ has) = last_with n (suc at) (cond h at before) has

abbrev pub custom_of : List Bool → Field → Custom
custom_of has f =
    record { place = last_with (first f.draft.numbers) 1 0 has; name = f.draft.title; bytes = bytes_in f.draft }
  where
    first : List ℕ → ℕ
    first [] = 0
    first (n ∷ ns) = n

-- those of the places up to n, by place
abbrev pub by_place : ℕ → List Custom → List Custom
by_place zero cs = filter (λ c. c.place == 0) cs
by_place (suc n) cs = by_place n cs ++ filter (λ c. c.place == suc n) cs

abbrev pub without_customs : Bool → Space → List Field → Wide
without_customs ct S fs = record {
  ct = ct;
  types = map (type_of S) (type_fields fs) ++ map plain_entry (drop (length (type_fields fs)) S.entries);
  imports = flat_map (import_of S) fs;
  functions = map (function_of S) (defined Func fs);
  tables = map (λ (f : Field). table_limits f.draft) (defined Table fs);
  memories = map (λ (f : Field). memory_type f.draft) (defined Memory fs);
  globals = map (global_of S) (defined Global fs);
  exports = in_order (exports_in S) none_yet fs;
  start = flat_map (starts_in S) fs;
  elements = in_order (elements_in S) none_yet fs;
  segments = in_order (segments_in S) none_yet fs;
  customs = [];
}

-- the module that fields stand for, where they have no faults
abbrev pub wide_of : Bool → List Field → Wide
wide_of ct fs =
    let m = without_customs ct (space_of fs) fs in
    record m { customs = by_place 11 (map (custom_of (sections_with m)) (filter (is_kind CustomField) fs)) }

-- Faults

abbrev pub function_faults : Space → Field → List NameFault
function_faults S f =
    entry_faults S f.draft.sig.entry f.draft.sig
    ++ double_faults [] (names_in f.draft.sig.params ++ names_in f.draft.locals)
    ++ body_faults (record { space = S; locals = local_names S f.draft }) [] (unfolded [] f.draft.code)

abbrev pub maybe_faults : List (Option Name) → Option Index → List NameFault
maybe_faults names None = []
maybe_faults names (Some x) = use_faults names x

abbrev pub constant_faults : Space → List Item → List NameFault
constant_faults S (Op (RUses op x) ∷ is) = use_faults S.globals x
constant_faults S _ = []

abbrev pub field_faults : Space → Field → List NameFault
field_faults S f = of f.kind
  where
    extern : ExternTag → List NameFault
    extern Func = function_faults S f
    extern Table = flat_map (use_faults S.funcs) f.draft.items
    extern Memory = []
    extern Global = constant_faults S f.draft.code

    of : FieldKind → List NameFault
    of TypeField = maybe_faults S.types f.draft.target
    of ImportField = extern f.draft.kind
    of (Defining tag) = extern tag
    of ExportField = maybe_faults (names_of S f.draft.kind) f.draft.target
    of StartField = maybe_faults S.funcs f.draft.target
    of ElemField =
        maybe_faults S.tables f.draft.target ++ constant_faults S f.draft.code
        ++ flat_map (use_faults S.funcs) f.draft.items
    of DataField = maybe_faults S.memories f.draft.target ++ constant_faults S f.draft.code
    of CustomField = []

abbrev pub faults_of : List Field → List NameFault
faults_of fs =
    let S = space_of fs in
    double_faults [] S.types ++ double_faults [] S.funcs ++ double_faults [] S.tables ++ double_faults [] S.memories
    ++ double_faults [] S.globals
    ++ flat_map (field_faults S) fs

abbrev pub nearer : NameFault → Option NameFault → NameFault
nearer f None = f
nearer f (Some g) = cond (nat_le f.place g.place) f g

-- the fault with the least place
abbrev pub leftmost : List NameFault → Option NameFault
leftmost [] = None
leftmost (f ∷ fs) = Some (nearer f (leftmost fs))

abbrev pub settled : Option NameFault → Wide → Result Wide NameFault
settled None m = Ok m
settled (Some f) m = Err f

-- the third pass
abbrev pub named : Bool → List Field → Result Wide NameFault
named ct fs = settled (leftmost (faults_of fs)) (wide_of ct fs)
