-- What is gathered from the pieces of a printed module: what its fields give to the module, without a fault among names.
use Rattle.std.proofs.Common.{◌≡◌, ℕ, Bool, true, false, cond, List, [], ◌∷◌, ◌++◌, Option, Some, None, refl, ap, ◌∙◌, append-nil}
use Rattle.std.specs.Prelude.{map, filter, filter_map, flat_map, fold, option_map}
use Rattle.std.proofs.lemmas.List.Sums.{fold-append}
use Rattle.ctw_ops.specs.declared.types.Label.{Label}
use Rattle.ctw_ops.specs.declared.types.Label.TheVariants.{Public, Secret}
use Rattle.ctw_ops.specs.declared.types.Trust.{Trust}
use Rattle.ctw_ops.specs.declared.types.Trust.TheVariants.{Untrusted, Trusted}
use Rattle.ctw_ops.specs.declared.types.Limits.{Limits}
use Rattle.ctw_ops.specs.declared.types.ExternTag.TheVariants.{Func, Table, Memory, Global}
use Rattle.ctw_ops.specs.ValueType.{ValueType}
use Rattle.ctw_ops.specs.Types.{FunctionType, VariableType, MemoryType}
use Rattle.ctw_ops.specs.Typing.{optional}
use Rattle.ctw_ops.specs.Code as ops
use Rattle.ctw_ops.specs.Code.{Code, ByEnd, opcodes}
use Rattle.ctw_ops.specs.Tree as tree
use Rattle.ctw_ops.specs.Tree.{TypeEntry, Extern, Import, Function, Constant, Export, Element, Segment, Custom, Module}
use Rattle.ctw_text.specs.Keys as k
use Rattle.ctw_text.specs.Keys.{Param, Local, is_secret}
use Rattle.ctw_text.specs.Pieces.{Index, Numbered, OfOp, OfBase, OfExport, OfStart, OfItem, ModuleName, ImportName, ExportName, CustomName, Bytes, TypeField, ImportField, ExportField, StartField, ElemField, DataField, CustomField, Defining, Piece, KindIs, Quotes, Number, IsSecret, IsMutable, ValueIs, Trusting, Refers, Typed, Single}
use Rattle.ctw_text.specs.Fields.{Variable, RSingle, RUses, Item, Op, Draft, Field, Gathered, empty, gathered}
use Rattle.ctw_text.specs.Names.{NameFault, Spelled, WideEntry, WideFunction, Space, Counts, Scope, added, use_in, uses_of, type_fields, fields_with, defined, field_names, double_faults, names_in, local_names, limits_in, memory_type, table_limits, label_of, import_of, function_of, global_of, exports_in, elements_in, segments_in, starts_in, in_order, type_of, custom_of, is_kind, last_with, constant_in, constant_faults, field_faults, maybe_faults, function_faults, use_faults, find, ops_of, body_faults, counted}
use Rattle.ctw_text.specs.Says.{IsNone, nothing, Begins, SaysTypes, SaysTrust, SaysResult, SaysType, SaysBase, SaysTypeField, SaysMax, SaysLimits, SaysLabel, SaysMemory, SaysGlobalType, SaysImport, SaysFunction, SaysTable, SaysMemoryField, SaysConstant, SaysGlobal, SaysExport, SaysStart, SaysItems, SaysElement, SaysSegment, SaysCustom, SaysEach, SaysMaybe, SaysModule}
use Rattle.ctw_text.proofs.GatheredCode.{Leads, Known, Gathers, Fresh, Anything, Reads, Codes, body, used, said, entered_said, turned, begun, code_said}

-- What fields give to a module, and their faults
pub record Sums : Type 0 where
  pub types : List WideEntry
  pub imports : List (Import Label)
  pub functions : List WideFunction
  pub tables : List Limits
  pub memories : List (MemoryType Label)
  pub globals : List (tree.Global Label)
  pub exports : List Export
  pub start : List ℕ
  pub elements : List (Element Label)
  pub segments : List (Segment Label)
  pub customs : List Custom
  pub faults : List NameFault
  -- names that stand twice: of types, functions, tables, memories and globals
  pub typed : List NameFault
  pub called : List NameFault
  pub tabled : List NameFault
  pub stored : List NameFault
  pub valued : List NameFault

-- where names stand for what S says, the sections with items are `has`, and so many of each kind stand before
abbrev pub sums_of : Space → (has : List Bool) → Counts → List Field → Sums
sums_of S has c fs = record {
  types = map (type_of S) (type_fields fs);
  imports = flat_map (import_of S) fs;
  functions = map (function_of S) (defined Func fs);
  tables = map (λ (f : Field). table_limits f.draft) (defined Table fs);
  memories = map (λ (f : Field). memory_type f.draft) (defined Memory fs);
  globals = map (global_of S) (defined Global fs);
  exports = in_order (exports_in S) c fs;
  start = flat_map (starts_in S) fs;
  elements = in_order (elements_in S) c fs;
  segments = in_order (segments_in S) c fs;
  customs = map (custom_of has) (filter (is_kind CustomField) fs);
  faults = flat_map (field_faults S) fs;
  typed = double_faults [] (field_names (type_fields fs));
  called = double_faults [] (field_names (fields_with Func fs));
  tabled = double_faults [] (field_names (fields_with Table fs));
  stored = double_faults [] (field_names (fields_with Memory fs));
  valued = double_faults [] (field_names (fields_with Global fs));
}

-- fields that give this wherever they stand, and whose typeuses name their entries
pub record Adds (w : List Bool → Sums) (fs : List Field) : Type 0 where
  pub sums : (S : Space) (has : List Bool) (c : Counts) → sums_of S has c fs ≡ w has
  pub uses : (es : List Spelled) → fold added es (flat_map uses_of fs) ≡ es

-- one more field
adds : {w : List Bool → Sums} (v : List Bool → Sums) (f : Field) (fs : List Field) → ((S : Space) (has : List Bool) (c : Counts) → sums_of S has c (f ∷ fs) ≡ v has) → ((es : List Spelled) → fold added es (uses_of f) ≡ es) → Adds w fs → Adds v (f ∷ fs)
adds v f fs s u a = record {
  sums = s;
  uses = λ es. fold-append added es (uses_of f) (flat_map uses_of fs) ∙ ap (λ es. fold added es (flat_map uses_of fs)) (u es) ∙ a.uses es;
}

-- a known draft
abbrev pub Exactly : Draft → (List Field → Type 0) → Gathered → Type 0
Exactly d F = Gathers (Known {X = Unit {0}} (λ u. d) Anything) F

-- Lists of one shape

abbrev variable : ValueType Label → Variable
variable t = record { name = None; ty = t }

abbrev variables : List (ValueType Label) → List Variable
variables ts = map variable ts

types_back : (ts : List (ValueType Label)) → map (λ (v : Variable). v.ty) (variables ts) ≡ ts
types_back [] = refl
types_back (t ∷ ts) = ap (λ (ts : List (ValueType Label)). t ∷ ts) (types_back ts)

no_doubles : (ts : List (ValueType Label)) → double_faults [] (names_in (variables ts)) ≡ []
no_doubles [] = refl
no_doubles (t ∷ ts) = no_doubles ts

found : (names : List (Option _)) (ns : List ℕ) → map (find names) (map Numbered ns) ≡ ns
found names [] = refl
found names (n ∷ ns) = ap (λ (ns : List ℕ). n ∷ ns) (found names ns)

all_found : (names : List (Option _)) (ns : List ℕ) → flat_map (use_faults names) (map Numbered ns) ≡ []
all_found names [] = refl
all_found names (n ∷ ns) = all_found names ns

-- Types

abbrev pub wide_type : FunctionType Label → Spelled
wide_type t = record { trust = t.trust; params = t.params; results = optional t.result }

abbrev pub wide_entry : TypeEntry Label → WideEntry
wide_entry e = record { base = e.base; type = wide_type e.type }

abbrev typed : Trust → List (ValueType Label) → Option (ValueType Label) → Draft
typed trust ts r = record empty { sig = record { entry = None; trust = trust; params = variables ts; results = optional r } }

module _ {F : List Field → Type 0} {R : List Piece → Type 0} (h : Leads R (Fresh F)) where
  result_said : (r : Option (ValueType Label)) → Leads (SaysResult r R) (Exactly (typed Untrusted [] r) F)
  result_said None = h
  result_said (Some t) = said (Typed k.Part.Result t) refl h

  params_said : (ts : List (ValueType Label)) (r : Option (ValueType Label)) → Leads (SaysTypes Param ts (SaysResult r R)) (Exactly (typed Untrusted ts r) F)
  params_said [] r = result_said r
  params_said (t ∷ ts) r = said (Typed Param t) refl (params_said ts r)

  trust_said : (trust : Trust) (ts : List (ValueType Label)) (r : Option (ValueType Label)) → Leads (SaysTrust trust (SaysTypes Param ts (SaysResult r R))) (Exactly (typed trust ts r) F)
  trust_said Untrusted ts r = params_said ts r
  trust_said Trusted ts r = said Trusting refl (params_said ts r)

  base_said : (base : Option ℕ) (t : FunctionType Label) → Leads (SaysBase base (SaysType t R)) (Exactly (record (typed t.trust t.params t.result) { target = option_map Numbered base }) F)
  base_said None t = trust_said t.trust t.params t.result
  base_said (Some n) t = said (Refers OfBase (Numbered n)) refl (trust_said t.trust t.params t.result)

  -- sizes, a memory, a global's type
  limits_said : (l : Limits) → Leads (SaysLimits l R) (Exactly (record empty { numbers = l.min ∷ optional l.max }) F)
  limits_said l = said (Number l.min) refl (max_said l.max)
    where
      max_said : (max : Option ℕ) → Leads (SaysMax max R) (Exactly (record empty { numbers = optional max }) F)
      max_said None = h
      max_said (Some n) = said (Number n) refl h

base_found : (names : List (Option _)) (base : Option ℕ) → option_map (find names) (option_map Numbered base) ≡ base
base_found names None = refl
base_found names (Some n) = refl

base_faults : (names : List (Option _)) (base : Option ℕ) → maybe_faults names (option_map Numbered base) ≡ []
base_faults names None = refl
base_faults names (Some n) = refl

type_said : {w : List Bool → Sums} {R : List Piece → Type 0} (e : TypeEntry Label) → Leads R (Fresh (Adds w)) →
    Leads (SaysTypeField e R) (Fresh (Adds (λ has. record (w has) { types = wide_entry e ∷ (w has).types })))
type_said {w} e h = begun TypeField _ (λ u fs p a. adds _ _ fs
    (λ S has c i. record (a.sums S has c i) {
      types = record { base = base_found S.types e.base i; type = record { trust = e.type.trust; params = types_back e.type.params i; results = optional e.type.result } } ∷ (a.sums S has c i).types;
      faults = base_faults S.types e.base i ++ (a.sums S has c i).faults;
    })
    (λ es. refl) a) (base_said h e.base e.type)

types_said : {w : List Bool → Sums} {R : List Piece → Type 0} (es : List (TypeEntry Label)) → Leads R (Fresh (Adds w)) →
    Leads (SaysEach SaysTypeField es R) (Fresh (Adds (λ has. record (w has) { types = map wide_entry es ++ (w has).types })))
types_said [] h = h
types_said (e ∷ es) h = type_said e (types_said es h)

-- Memories and globals

limits_back : (l : Limits) → limits_in (l.min ∷ optional l.max) ≡ l
limits_back l = go l.min l.max
  where
    go : (min : ℕ) (max : Option ℕ) → limits_in (min ∷ optional max) ≡ record { min = min; max = max }
    go min None = refl
    go min (Some n) = refl

label_back : (l : Label) → label_of (is_secret l) ≡ l
label_back Public = refl
label_back Secret = refl

-- a global's type, before its constant
abbrev global_draft : VariableType Label → List Item → Draft
global_draft g items = record empty { mutable = g.mutable; value = Some g.value; code = items }

module _ {F : List Field → Type 0} {R : List Piece → Type 0} where
  memory_said : (m : MemoryType Label) → Leads R (Fresh F) → Leads (SaysMemory m R) (Exactly (record empty { secret = is_secret m.tag; numbers = m.limits.min ∷ optional m.limits.max }) F)
  memory_said m h = go m.tag
    where
      go : (l : Label) → Leads (SaysLabel l (SaysLimits m.limits R)) (Exactly (record empty { secret = is_secret l; numbers = m.limits.min ∷ optional m.limits.max }) F)
      go Public = limits_said h m.limits
      go Secret = said IsSecret refl (limits_said h m.limits)

  global_type_said : (g : VariableType Label) (items : List Item) → Leads R (Exactly (record empty { code = items }) F) → Leads (SaysGlobalType g R) (Exactly (global_draft g items) F)
  global_type_said g items h = go g.mutable
    where
      go : (b : Bool) → Leads (cond b (Begins (IsMutable ∷ []) (Begins (ValueIs g.value ∷ []) R)) (Begins (ValueIs g.value ∷ []) R)) (Exactly (global_draft (record { mutable = b; value = g.value }) items) F)
      go true = said IsMutable refl (said (ValueIs g.value) refl h)
      go false = said (ValueIs g.value) refl h

-- Constants

abbrev constant_item : Constant Label → Item
constant_item (tree.Number t bits) = Op (RSingle (ops.Const t.width t.tag bits))
constant_item (tree.ValueOf n) = Op (RUses k.GlobalGet (Numbered n))

abbrev constant_draft : Constant Label → List Index → List (List ℕ) → Draft
constant_draft c items strings = record empty { code = constant_item c ∷ []; items = items; strings = strings }

constant_said : {F : List Field → Type 0} {R : List Piece → Type 0} (c : Constant Label) (items : List Index) (strings : List (List ℕ)) →
    Leads R (Exactly (record empty { items = items; strings = strings }) F) → Leads (SaysConstant c R) (Exactly (constant_draft c items strings) F)
constant_said (tree.Number t bits) items strings h = said (Single (ops.Const t.width t.tag bits)) refl h
constant_said (tree.ValueOf n) items strings h = said (Refers (OfOp k.GlobalGet) (Numbered n)) refl h

constant_back : (S : Space) (c : Constant Label) → constant_in S (constant_item c ∷ []) ≡ c
constant_back S (tree.Number t bits) = refl
constant_back S (tree.ValueOf n) = refl

constant_faultless : (S : Space) (c : Constant Label) → constant_faults S (constant_item c ∷ []) ≡ []
constant_faultless S (tree.Number t bits) = refl
constant_faultless S (tree.ValueOf n) = refl

constant_uses : (c : Constant Label) → filter_map use_in (constant_item c ∷ []) ≡ []
constant_uses (tree.Number t bits) = refl
constant_uses (tree.ValueOf n) = refl

-- Imports

module _ {w : List Bool → Sums} {R : List Piece → Type 0} (from name : List ℕ) (h : Leads R (Fresh (Adds w))) where
  abbrev Imports : Extern Label → List Bool → Sums
  Imports kind has = record (w has) { imports = record { module_name = from; name = name; kind = kind } ∷ (w has).imports }

  extern_said : (kind : Extern Label) → Leads (SaysImport (record { module_name = from; name = name; kind = kind }) R) (Fresh (Adds (Imports kind)))
  extern_said (tree.ImportedFunction n) =
      begun ImportField _ (λ y fs p a. adds _ _ fs (λ S has c i. let s = a.sums S has (counted (Some Func) c) i in record s { imports = record { module_name = from; name = name; kind = tree.ImportedFunction n } ∷ s.imports }) (λ es. refl) a)
      (said (Quotes ModuleName from) refl (said (Quotes ImportName name) refl (said (KindIs Func) refl (entered_said n h))))
  extern_said (tree.ImportedTable l) =
      begun ImportField _ (λ y fs p a. adds _ _ fs (λ S has c i. let s = a.sums S has (counted (Some Table) c) i in record s { imports = record { module_name = from; name = name; kind = tree.ImportedTable (limits_back l i) } ∷ s.imports }) (λ es. refl) a)
      (said (Quotes ModuleName from) refl (said (Quotes ImportName name) refl (said (KindIs Table) refl (limits_said h l))))
  extern_said (tree.ImportedMemory m) =
      begun ImportField _ (λ y fs p a. adds _ _ fs (λ S has c i. let s = a.sums S has (counted (Some Memory) c) i in record s { imports = record { module_name = from; name = name; kind = tree.ImportedMemory (record { tag = label_back m.tag i; limits = limits_back m.limits i }) } ∷ s.imports }) (λ es. refl) a)
      (said (Quotes ModuleName from) refl (said (Quotes ImportName name) refl (said (KindIs Memory) refl (memory_said m h))))
  extern_said (tree.ImportedGlobal g) =
      begun ImportField _ (λ y fs p a. adds _ _ fs (λ S has c i. let s = a.sums S has (counted (Some Global) c) i in record s { imports = record { module_name = from; name = name; kind = tree.ImportedGlobal g } ∷ s.imports }) (λ es. refl) a)
      (said (Quotes ModuleName from) refl (said (Quotes ImportName name) refl (said (KindIs Global) refl (global_type_said g [] h))))

imports_said : {w : List Bool → Sums} {R : List Piece → Type 0} (is : List (Import Label)) → Leads R (Fresh (Adds w)) →
    Leads (SaysEach SaysImport is R) (Fresh (Adds (λ has. record (w has) { imports = is ++ (w has).imports })))
imports_said [] h = h
imports_said (i ∷ is) h = extern_said i.module_name i.name (imports_said is h) i.kind

-- Functions

abbrev pub wide_function : Function Label → WideFunction
wide_function f = record { type = f.type; locals = f.locals; code = opcodes f.body }

abbrev function_draft : (at n : ℕ) → List (ValueType Label) → List Item → Draft
function_draft at n ts items = record empty { sig = used at n; locals = variables ts; code = items }

-- no instructions, up to the end
no_code : Reads (ops.Closes ByEnd ∷ []) []
no_code = record { raws = []; plain = refl; means = λ s labels. refl; faultless = λ s labels. refl; uses = λ es. refl }

locals_said : {os : List (ops.Op Label)} {F : List Field → Type 0} {R : List Piece → Type 0} (ts : List (ValueType Label)) → Leads R (Codes os F) →
    Leads (SaysTypes Local ts R) (Gathers (Known (λ items. record empty { code = items; locals = variables ts }) (Reads os)) F)
locals_said [] h = h
locals_said (t ∷ ts) h = said (Typed Local t) refl (locals_said ts h)

module _ (at n : ℕ) (ts : List (ValueType Label)) (os : List (ops.Op Label)) (items : List Item) (r : Reads os items) (S : Space) where
  abbrev here : Field
  here = record { kind = Defining Func; draft = function_draft at n ts items }

  abbrev scope : Scope
  scope = record { space = S; locals = local_names S here.draft }

  function_back : function_of S here ≡ record { type = n; locals = ts; code = os }
  function_back i = record { type = n; locals = types_back ts i; code = (ap (ops_of scope []) r.plain ∙ r.means scope []) i }

  function_faultless : function_faults S here ≡ []
  function_faultless i = no_doubles ts i ++ (ap (body_faults scope []) r.plain ∙ r.faultless scope []) i

function_said : {w : List Bool → Sums} {R : List Piece → Type 0} (f : Function Label) → Leads R (Fresh (Adds w)) →
    Leads (SaysFunction f R) (Fresh (Adds (λ has. record (w has) { functions = wide_function f ∷ (w has).functions })))
function_said {w} f h = begun (Defining Func) _ (λ y fs r a. adds _ _ fs
    (λ S has c i. let s = a.sums S has (counted (Some Func) c) i in record s {
      functions = function_back y.0 f.type f.locals (opcodes f.body) y.1 r S i ∷ s.functions;
      faults = function_faultless y.0 f.type f.locals (opcodes f.body) y.1 r S i ++ s.faults;
    })
    (λ es. r.uses es) a) (entered_said f.type (locals_said f.locals (code_said f.body (turned body (Reads (ops.Closes ByEnd ∷ [])) (λ u. []) (λ u t. no_code) (λ u. refl) h))))

functions_said : {w : List Bool → Sums} {R : List Piece → Type 0} (fs : List (Function Label)) → Leads R (Fresh (Adds w)) →
    Leads (SaysEach SaysFunction fs R) (Fresh (Adds (λ has. record (w has) { functions = map wide_function fs ++ (w has).functions })))
functions_said [] h = h
functions_said (f ∷ fs) h = function_said f (functions_said fs h)

-- Tables, memories and globals

table_said : {w : List Bool → Sums} {R : List Piece → Type 0} (o : Option Limits) → Leads R (Fresh (Adds w)) →
    Leads (SaysMaybe SaysTable o R) (Fresh (Adds (λ has. record (w has) { tables = optional o ++ (w has).tables })))
table_said None h = h
table_said (Some l) h = begun (Defining Table) _ (λ u fs p a. adds _ _ fs
    (λ S has c i. let s = a.sums S has (counted (Some Table) c) i in record s { tables = limits_back l i ∷ s.tables }) (λ es. refl) a) (limits_said h l)

memory_field_said : {w : List Bool → Sums} {R : List Piece → Type 0} (o : Option (MemoryType Label)) → Leads R (Fresh (Adds w)) →
    Leads (SaysMaybe SaysMemoryField o R) (Fresh (Adds (λ has. record (w has) { memories = optional o ++ (w has).memories })))
memory_field_said None h = h
memory_field_said (Some m) h = begun (Defining Memory) _ (λ u fs p a. adds _ _ fs
    (λ S has c i. let s = a.sums S has (counted (Some Memory) c) i in record s { memories = record { tag = label_back m.tag i; limits = limits_back m.limits i } ∷ s.memories }) (λ es. refl) a) (memory_said m h)

global_said : {w : List Bool → Sums} {R : List Piece → Type 0} (g : tree.Global Label) → Leads R (Fresh (Adds w)) →
    Leads (SaysGlobal g R) (Fresh (Adds (λ has. record (w has) { globals = g ∷ (w has).globals })))
global_said {w} g h = begun (Defining Global) _ (λ u fs p a. adds _ _ fs
    (λ S has c i. let s = a.sums S has (counted (Some Global) c) i in record s {
      globals = record { type = g.type; init = constant_back S g.init i } ∷ s.globals;
      faults = constant_faultless S g.init i ++ s.faults;
    })
    (λ es. ap (λ us. fold added es us) (constant_uses g.init)) a) (global_type_said g.type (constant_item g.init ∷ []) (constant_said g.init [] [] h))

globals_said : {w : List Bool → Sums} {R : List Piece → Type 0} (gs : List (tree.Global Label)) → Leads R (Fresh (Adds w)) →
    Leads (SaysEach SaysGlobal gs R) (Fresh (Adds (λ has. record (w has) { globals = gs ++ (w has).globals })))
globals_said [] h = h
globals_said (g ∷ gs) h = global_said g (globals_said gs h)

-- Exports and the start

export_said : {w : List Bool → Sums} {R : List Piece → Type 0} (e : Export) → Leads R (Fresh (Adds w)) →
    Leads (SaysExport e R) (Fresh (Adds (λ has. record (w has) { exports = e ∷ (w has).exports })))
export_said {w} e h = begun ExportField _ (λ u fs p a. adds _ _ fs
    (λ S has c i. let s = a.sums S has c i in record s { exports = e ∷ s.exports }) (λ es. refl) a)
    (said (Quotes ExportName e.name) refl (said (Refers (OfExport e.kind) (Numbered e.index)) refl h))

exports_said : {w : List Bool → Sums} {R : List Piece → Type 0} (es : List Export) → Leads R (Fresh (Adds w)) →
    Leads (SaysEach SaysExport es R) (Fresh (Adds (λ has. record (w has) { exports = es ++ (w has).exports })))
exports_said [] h = h
exports_said (e ∷ es) h = export_said e (exports_said es h)

start_said : {w : List Bool → Sums} {R : List Piece → Type 0} (o : Option ℕ) → Leads R (Fresh (Adds w)) →
    Leads (SaysMaybe SaysStart o R) (Fresh (Adds (λ has. record (w has) { start = optional o ++ (w has).start })))
start_said None h = h
start_said (Some n) h = begun StartField _ (λ u fs p a. adds _ _ fs
    (λ S has c i. let s = a.sums S has c i in record s { start = n ∷ s.start }) (λ es. refl) a) (said (Refers OfStart (Numbered n)) refl h)

-- Segments, of the first table and memory

abbrev pub first_element : Element Label → Element Label
first_element e = record e { table = 0 }

abbrev pub first_segment : Segment Label → Segment Label
first_segment s = record s { memory = 0 }

items_said : {F : List Field → Type 0} {R : List Piece → Type 0} (ns : List ℕ) → Leads R (Fresh F) → Leads (SaysItems ns R) (Exactly (record empty { items = map Numbered ns; strings = [] }) F)
items_said [] h = h
items_said (n ∷ ns) h = said (Refers OfItem (Numbered n)) refl (items_said ns h)

element_said : {w : List Bool → Sums} {R : List Piece → Type 0} (e : Element Label) → Leads R (Fresh (Adds w)) →
    Leads (SaysElement e R) (Fresh (Adds (λ has. record (w has) { elements = first_element e ∷ (w has).elements })))
element_said {w} e h = begun ElemField _ (λ u fs p a. adds _ _ fs
    (λ S has c i. let s = a.sums S has c i in record s {
      elements = record { table = 0; offset = constant_back S e.offset i; functions = found S.funcs e.functions i } ∷ s.elements;
      faults = (constant_faultless S e.offset i ++ all_found S.funcs e.functions i) ++ s.faults;
    })
    (λ es. ap (λ us. fold added es us) (constant_uses e.offset)) a) (constant_said e.offset (map Numbered e.functions) [] (items_said e.functions h))

elements_said : {w : List Bool → Sums} {R : List Piece → Type 0} (es : List (Element Label)) → Leads R (Fresh (Adds w)) →
    Leads (SaysEach SaysElement es R) (Fresh (Adds (λ has. record (w has) { elements = map first_element es ++ (w has).elements })))
elements_said [] h = h
elements_said (e ∷ es) h = element_said e (elements_said es h)

segment_said : {w : List Bool → Sums} {R : List Piece → Type 0} (s : Segment Label) → Leads R (Fresh (Adds w)) →
    Leads (SaysSegment s R) (Fresh (Adds (λ has. record (w has) { segments = first_segment s ∷ (w has).segments })))
segment_said {w} s h = begun DataField _ (λ u fs p a. adds _ _ fs
    (λ S has c i. let t = a.sums S has c i in record t {
      segments = record { memory = 0; offset = constant_back S s.offset i; bytes = append-nil s.bytes i } ∷ t.segments;
      faults = constant_faultless S s.offset i ++ t.faults;
    })
    (λ es. ap (λ us. fold added es us) (constant_uses s.offset)) a) (constant_said s.offset [] (s.bytes ∷ []) (said (Quotes Bytes s.bytes) refl h))

segments_said : {w : List Bool → Sums} {R : List Piece → Type 0} (ss : List (Segment Label)) → Leads R (Fresh (Adds w)) →
    Leads (SaysEach SaysSegment ss R) (Fresh (Adds (λ has. record (w has) { segments = map first_segment ss ++ (w has).segments })))
segments_said [] h = h
segments_said (s ∷ ss) h = segment_said s (segments_said ss h)

-- Customs

-- where it stands when these sections have items
abbrev pub settled : List Bool → Custom → Custom
settled has c = record c { place = last_with c.place 1 0 has }

custom_said : {w : List Bool → Sums} {R : List Piece → Type 0} (c : Custom) → Leads R (Fresh (Adds w)) →
    Leads (SaysCustom c R) (Fresh (Adds (λ has. record (w has) { customs = settled has c ∷ (w has).customs })))
custom_said {w} x h = begun CustomField _ (λ u fs p a. adds _ _ fs
    (λ S has c i. let s = a.sums S has c i in record s { customs = record { place = last_with x.place 1 0 has; name = x.name; bytes = append-nil x.bytes i } ∷ s.customs }) (λ es. refl) a)
    (said (Number x.place) refl (said (Quotes CustomName x.name) refl (said (Quotes Bytes x.bytes) refl h)))

customs_said : {w : List Bool → Sums} {R : List Piece → Type 0} (cs : List Custom) → Leads R (Fresh (Adds w)) →
    Leads (SaysEach SaysCustom cs R) (Fresh (Adds (λ has. record (w has) { customs = map (settled has) cs ++ (w has).customs })))
customs_said [] h = h
customs_said (c ∷ cs) h = custom_said c (customs_said cs h)

-- Modules

abbrev no_sums : Sums
no_sums = record {
  types = [];
  imports = [];
  functions = [];
  tables = [];
  memories = [];
  globals = [];
  exports = [];
  start = [];
  elements = [];
  segments = [];
  customs = [];
  faults = [];
  typed = [];
  called = [];
  tabled = [];
  stored = [];
  valued = [];
}

nothing_said : Leads IsNone (Fresh (Adds (λ has. no_sums)))
nothing_said = record { to = λ r. go r }
  where
    go : {ps : List Piece} → IsNone ps → Fresh (Adds (λ has. no_sums)) (gathered ps)
    go nothing = record { draft = record { of = tt; holds = tt; is = refl }; fields = record { sums = λ S has c. refl; uses = λ es. refl } }

-- what a printed module's fields give
abbrev pub module_sums : Module Label → List Bool → Sums
module_sums m has = record {
  types = map wide_entry m.types ++ [];
  imports = m.imports ++ [];
  functions = map wide_function m.functions ++ [];
  tables = optional m.table ++ [];
  memories = optional m.memory ++ [];
  globals = m.globals ++ [];
  exports = m.exports ++ [];
  start = optional m.start ++ [];
  elements = map first_element m.elements ++ [];
  segments = map first_segment m.segments ++ [];
  customs = map (settled has) m.customs ++ [];
  faults = [];
  typed = [];
  called = [];
  tabled = [];
  stored = [];
  valued = [];
}

pub module_said : (m : Module Label) → Leads (SaysModule m IsNone) (Fresh (Adds (module_sums m)))
module_said m =
    types_said m.types (imports_said m.imports (functions_said m.functions (table_said m.table (memory_field_said m.memory (globals_said m.globals (exports_said m.exports
    (start_said m.start (elements_said m.elements (segments_said m.segments (customs_said m.customs nothing_said))))))))))
