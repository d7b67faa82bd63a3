-- The grammar of the text form (W3C WebAssembly Core 1.0, sections 6.4 to 6.6, without floats, with own words): its
-- nonterminals, its productions, and which tokens stand for which pieces.
use Rattle.std.specs.Prelude.{◌≡◌, ℕ, zero, suc, ◌^◌, ◌-◌, ◌%◌, ◌||◌, nat_lt, nat_le, nat_eq, Bool, true, false, cond, List, [], ◌∷◌, ◌++◌, Option, Some, None}
use Rattle.ctw_text.specs.Written.{is_text}
use Rattle.ctw_ops.specs.declared.types.Label.{Label}
use Rattle.ctw_ops.specs.declared.types.Width.{Width}
use Rattle.ctw_ops.specs.declared.types.Width.TheVariants.{W32, W64}
use Rattle.ctw_ops.specs.declared.types.ExternTag.{ExternTag}
use Rattle.ctw_ops.specs.declared.types.ExternTag.TheVariants.{Func, Table, Memory, Global}
use Rattle.ctw_ops.specs.ValueType.{ValueType}
use Rattle.ctw_ops.specs.Code as ops
use Rattle.ctw_ops.specs.Code.{Leaf, Shape, OfBlock, OfLoop, OfIf}
use Rattle.ctw_text.specs.Keys.{Part, Param, Result, Local, GlobalGet, Form, Bare, Access, Const, Uses, BrTable, CallIndirect, Key, KModule, KCt, KType, KVariant, KTrusted, KImport, KExport, KStart, KElem, KData, KCustom, KMut, KSecret, KFuncref, KOffset, KThen, KElse, KEnd, KExtern, KGroup, KShape, KTy, KOp, allowed}
use Rattle.ctw_text.specs.Toks.{Name, Tok, Open, Close, Text, Id, Num, Signed, OffsetIs, AlignIs, Word}
use Rattle.ctw_text.specs.Pieces.{Numbered, Named, Role, OfOp, OfTarget, OfEntry, OfBase, OfExport, OfStart, OfTable, OfMemory, OfItem, Quoted, ExportName, InlineExport, ModuleName, ImportName, CustomName, Bytes, TypeField, ImportField, ExportField, StartField, ElemField, DataField, CustomField, Defining, Piece, Begin, NameIs, KindIs, Quotes, Refers, Number, IsSecret, IsMutable, ValueIs, Entry, Trusting, Slot, Typed, Inline, Single, Branches, Indirect, Opens, Else, End, AtOffset, Aligned, Labelled, Yields, Repeats, Fold, Unfold}
pub use Rattle.ctw_text.specs.declared.sorts.Before.{Before}
pub use Rattle.ctw_text.specs.declared.sorts.Stage.{Stage}
pub use Rattle.ctw_text.specs.declared.sorts.Stage.TheVariants.{AtType, AtTrusted, AtParams, AtResults, AtLocals}
pub use Rattle.ctw_text.specs.declared.sorts.Tail.{Tail}
pub use Rattle.ctw_text.specs.declared.sorts.Tail.TheVariants.{NoTail, MayRepeat, MayLabel, MayYield, MayOffset, MayAlign, MayTarget, InUse}
pub use Rattle.ctw_text.specs.declared.sorts.Place.{Place}
pub use Rattle.ctw_text.specs.declared.sorts.Place.TheVariants.{Body, InBlock, InIf, InFolded, InOperands, InConditions, InThen, InElse, Nothing}
pub use Rattle.ctw_text.specs.declared.sorts.Filling.{Filling}
use Rattle.ctw_text.specs.declared.sorts.Filling.TheVariants as filling
pub use Rattle.ctw_text.specs.declared.sorts.Sort.{Sort}
pub use Rattle.ctw_text.specs.declared.sorts.Sort.TheVariants.{Module, Head, Fields, Closing, TypeHead, FuncType, After, AfterThen, Group, Types, OneType, YieldType, ValueType as ValueType1, AnIndex, AConst, AString, ExternHead, TableBody, GlobalBody, MemoryBody, Pages, NamedType, TableType, GlobalType as GlobalType1, TableMax, MemoryMax, Funcref, InlineElem, Items, Strings, Expr, Offset, SegmentHead, ImportKind, ExportKind, CustomPlace}

-- Conditions on tokens

abbrev pub is_u32 : ℕ → Bool
is_u32 n = nat_lt n (2 ^ 32)

abbrev pub bits_in : Width → ℕ
bits_in W32 = 32
bits_in W64 = 64

-- -2^(w-1) to 2^w - 1
abbrev pub fits : Width → (neg : Bool) → ℕ → Bool
fits w true n = nat_le n (2 ^ (bits_in w - 1))
fits w false n = nat_lt n (2 ^ bits_in w)

-- the bits of a number that fits
abbrev pub bits_of : Width → (neg : Bool) → ℕ → ℕ
bits_of w true n = (2 ^ bits_in w - n) % 2 ^ bits_in w
bits_of w false n = n

-- the exponent of a power of two, up to a greatest one
abbrev pub exponent_below : (most : ℕ) → ℕ → Option ℕ
exponent_below = go
  where
    go : ℕ → ℕ → Option ℕ
    go zero n = cond (nat_eq n 1) (Some 0) None
    go (suc k) n = cond (nat_eq n (2 ^ suc k)) (Some (suc k)) (go k n)

-- the exponent of a power of two below 2^32
abbrev pub exponent : ℕ → Option ℕ
exponent n = exponent_below 31 n

-- a name has to be UTF-8
abbrev pub takes_bytes : Quoted → List ℕ → Bool
takes_bytes Bytes bytes = true
takes_bytes what bytes = is_text bytes

-- Nonterminals

abbrev pub rank : Stage → ℕ
rank AtType = 0
rank AtTrusted = 1
rank AtParams = 2
rank AtResults = 3
rank AtLocals = 4

-- a part that may stand up to this stage may still stand
abbrev pub within : Stage → (last : Stage) → Bool
within stage last = nat_le (rank stage) (rank last)

-- what follows the offset of a segment
abbrev pub filled : Filling → Sort
filled filling.Functions = Items
filled filling.Bytes = Strings

-- what a production writes behind its first tokens, and what follows them
pub record Move : Type 0 where
  pub out : List Piece
  pub next : List Sort

abbrev pub gives : List Piece → List Sort → Move
gives out next = record { out = out; next = next }

-- more that follows
abbrev pub before_sort : Move → Sort → Move
before_sort m s = record { out = m.out; next = m.next ++ s ∷ [] }

abbrev pub defining : Before → Before
defining b = record { defined = true; started = b.started }

abbrev pub starting : Before → Before
starting b = record { defined = b.defined; started = true }

abbrev pub nothing_before : Before
nothing_before = record { defined = false; started = false }

-- the rest of a defining field
abbrev pub body_of : ExternTag → Sort
body_of Func = After (InUse true AtType) Body
body_of Table = TableBody
body_of Memory = MemoryBody true
body_of Global = GlobalBody

-- the type of an import
abbrev pub type_of : ExternTag → Sort
type_of Func = After (InUse false AtType) Nothing
type_of Table = TableType
type_of Memory = MemoryBody false
type_of Global = GlobalType1

-- what an instruction's word writes
abbrev pub pieces_of : Form → List Piece
pieces_of (Bare leaf) = Single leaf ∷ []
pieces_of (Access leaf) = Single leaf ∷ []
pieces_of (Const w l) = []
pieces_of (Uses op) = []
pieces_of BrTable = Branches ∷ []
pieces_of CallIndirect = Indirect ∷ []

-- what has to follow it
abbrev pub operands_of : Form → List Sort → List Sort
operands_of (Const w l) rest = AConst w l ∷ rest
operands_of (Uses op) rest = AnIndex (OfOp op) ∷ rest
operands_of BrTable rest = AnIndex OfTarget ∷ rest
operands_of _ rest = rest

-- what may follow that
abbrev pub tail_of : Form → Tail
tail_of (Access leaf) = MayOffset
tail_of BrTable = MayTarget
tail_of CallIndirect = InUse false AtType
tail_of _ = NoTail

-- plain instructions may stand there, and folded ones
abbrev pub takes_plain : Place → Bool
takes_plain InOperands = false
takes_plain InConditions = false
takes_plain Nothing = false
takes_plain _ = true

abbrev pub takes_folded : Place → Bool
takes_folded Nothing = false
takes_folded _ = true

-- how a place of a shape is closed
abbrev pub place_of : Shape → Place
place_of OfBlock = InBlock
place_of OfLoop = InBlock
place_of OfIf = InIf

-- a parameter or a local may have a name, a result may not
abbrev pub has_names : Part → Bool
has_names Result = false
has_names _ = true

-- the index of an expression's global.get
abbrev pub AGlobal : Sort
AGlobal = AnIndex (OfOp GlobalGet)

abbrev pub strings_of_import : Sort → List Sort
strings_of_import s = AString ModuleName ∷ AString ImportName ∷ s ∷ []

-- Productions

module _ (ct : Bool) where
  -- Productions that begin with one token: `sort` is this token, and then what the move says.
  pub data Rule1 : Sort → Tok → Move → Type 0 where
    -- the module
    module_name : {w : Name} → Rule1 (Head false) (Id w) (gives [] (Head true ∷ []))
    ct_fields : {named : Bool} → ct ≡ true → Rule1 (Head named) (Word KCt) (gives [] (Fields nothing_before ∷ []))
    plain_fields : {named : Bool} {t : Tok} {m : Move} → ct ≡ false → Rule1 (Fields nothing_before) t m
        → Rule1 (Head named) t m
    no_more_fields : {b : Before} → Rule1 (Fields b) Close (gives [] [])
    closing : Rule1 Closing Close (gives [] [])
    -- types
    type_name : {w : Name} → Rule1 (TypeHead false) (Id w) (gives (NameIs w ∷ []) (TypeHead true ∷ []))
    -- a typeuse: trusted
    trusted : {locals : Bool} {stage : Stage} {p : Place} → allowed ct KTrusted ≡ true → within stage AtTrusted ≡ true →
        Rule1 (After (InUse locals stage) p) (Word KTrusted)
        (gives (Trusting ∷ []) (After (InUse locals AtParams) p ∷ []))
    -- params, results and locals, behind the `(` and the word
    slot : {part : Part} {w : Name} → has_names part ≡ true
        → Rule1 (Group part) (Id w) (gives (Slot part w ∷ []) (OneType part ∷ Closing ∷ []))
    first_type : {part : Part} {t : ValueType Label} → allowed ct (KTy t) ≡ true
        → Rule1 (Group part) (Word (KTy t)) (gives (Typed part t ∷ []) (Types part ∷ []))
    no_types : {part : Part} → Rule1 (Group part) Close (gives [] [])
    next_type : {part : Part} {t : ValueType Label} → allowed ct (KTy t) ≡ true
        → Rule1 (Types part) (Word (KTy t)) (gives (Typed part t ∷ []) (Types part ∷ []))
    no_more_types : {part : Part} → Rule1 (Types part) Close (gives [] [])
    one_type : {part : Part} {t : ValueType Label} → allowed ct (KTy t) ≡ true
        → Rule1 (OneType part) (Word (KTy t)) (gives (Typed part t ∷ []) [])
    yields : {t : ValueType Label} → allowed ct (KTy t) ≡ true
        → Rule1 YieldType (Word (KTy t)) (gives (Yields t ∷ []) [])
    value : {t : ValueType Label} → allowed ct (KTy t) ≡ true
        → Rule1 ValueType1 (Word (KTy t)) (gives (ValueIs t ∷ []) [])
    -- an index, a number of a const, a string
    numbered : {role : Role} {n : ℕ} → is_u32 n ≡ true
        → Rule1 (AnIndex role) (Num n) (gives (Refers role (Numbered n) ∷ []) [])
    named : {role : Role} {w : Name} → Rule1 (AnIndex role) (Id w) (gives (Refers role (Named w) ∷ []) [])
    unsigned : {w : Width} {l : Label} {n : ℕ} → fits w false n ≡ true
        → Rule1 (AConst w l) (Num n) (gives (Single (ops.Const w l (bits_of w false n)) ∷ []) [])
    signed : {w : Width} {l : Label} {neg : Bool} {n : ℕ} → fits w neg n ≡ true
        → Rule1 (AConst w l) (Signed neg n) (gives (Single (ops.Const w l (bits_of w neg n)) ∷ []) [])
    string : {what : Quoted} {bytes : List ℕ} → takes_bytes what bytes ≡ true
        → Rule1 (AString what) (Text bytes) (gives (Quotes what bytes ∷ []) [])
    -- func, table, memory and global fields
    extern_name : {tag : ExternTag} {b : Before} {w : Name}
        → Rule1 (ExternHead tag b false) (Id w) (gives (NameIs w ∷ []) (ExternHead tag b true ∷ []))
    extern_body : {tag : ExternTag} {b : Before} {named : Bool} {t : Tok} {m : Move} → Rule1 (body_of tag) t m →
        Rule1 (ExternHead tag b named) t (before_sort m (Fields (defining b)))
    table_min : {n : ℕ} → is_u32 n ≡ true → Rule1 TableBody (Num n) (gives (Number n ∷ []) (TableMax ∷ Closing ∷ []))
    table_inline : Rule1 TableBody (Word KFuncref) (gives (Inline ∷ []) (InlineElem ∷ Closing ∷ []))
    table_type : {n : ℕ} → is_u32 n ≡ true → Rule1 TableType (Num n) (gives (Number n ∷ []) (TableMax ∷ Closing ∷ []))
    table_max : {n : ℕ} → is_u32 n ≡ true → Rule1 TableMax (Num n) (gives (Number n ∷ []) (Funcref ∷ []))
    table_no_max : Rule1 TableMax (Word KFuncref) (gives [] [])
    funcref : Rule1 Funcref (Word KFuncref) (gives [] [])
    memory_secret : {inline : Bool} → allowed ct KSecret ≡ true
        → Rule1 (MemoryBody inline) (Word KSecret) (gives (IsSecret ∷ []) (Pages inline ∷ []))
    memory_public : {inline : Bool} {t : Tok} {m : Move} → Rule1 (Pages inline) t m → Rule1 (MemoryBody inline) t m
    memory_min : {inline : Bool} {n : ℕ} → is_u32 n ≡ true
        → Rule1 (Pages inline) (Num n) (gives (Number n ∷ []) (MemoryMax ∷ []))
    memory_max : {n : ℕ} → is_u32 n ≡ true → Rule1 MemoryMax (Num n) (gives (Number n ∷ []) (Closing ∷ []))
    memory_no_max : Rule1 MemoryMax Close (gives [] [])
    global_constant : {t : ValueType Label} → allowed ct (KTy t) ≡ true
        → Rule1 GlobalBody (Word (KTy t)) (gives (ValueIs t ∷ []) (Expr ∷ Closing ∷ []))
    global_type : {t : ValueType Label} → allowed ct (KTy t) ≡ true
        → Rule1 GlobalType1 (Word (KTy t)) (gives (ValueIs t ∷ []) (Closing ∷ []))
    -- imports
    import_name : {tag : ExternTag} {w : Name} → Rule1 (NamedType tag) (Id w) (gives (NameIs w ∷ []) (type_of tag ∷ []))
    import_type : {tag : ExternTag} {t : Tok} {m : Move} → Rule1 (type_of tag) t m → Rule1 (NamedType tag) t m
    -- segments and constant expressions
    item : {n : ℕ} → is_u32 n ≡ true → Rule1 Items (Num n) (gives (Refers OfItem (Numbered n) ∷ []) (Items ∷ []))
    named_item : {w : Name} → Rule1 Items (Id w) (gives (Refers OfItem (Named w) ∷ []) (Items ∷ []))
    no_more_items : Rule1 Items Close (gives [] [])
    bytes : {bs : List ℕ} → Rule1 Strings (Text bs) (gives (Quotes Bytes bs ∷ []) (Strings ∷ []))
    no_more_bytes : Rule1 Strings Close (gives [] [])
    segment_index : {role : Role} {rest : Filling} {t : Tok} {m : Move} → Rule1 (AnIndex role) t m
        → Rule1 (SegmentHead role rest) t (gives m.out (Offset ∷ filled rest ∷ []))
    expr_const : {w : Width} {l : Label} → allowed ct (KOp (Const w l)) ≡ true
        → Rule1 Expr (Word (KOp (Const w l))) (gives [] (AConst w l ∷ []))
    expr_global : Rule1 Expr (Word (KOp (Uses GlobalGet))) (gives [] (AGlobal ∷ []))
    custom_place : {n : ℕ} → nat_le n 11 ≡ true → Rule1 CustomPlace (Num n) (gives (Number n ∷ []) [])
    -- instructions: what belongs to the one before
    repeats : {p : Place} {w : Name} → Rule1 (After MayRepeat p) (Id w) (gives (Repeats w ∷ []) (After NoTail p ∷ []))
    label : {p : Place} {w : Name} → Rule1 (After MayLabel p) (Id w) (gives (Labelled w ∷ []) (After MayYield p ∷ []))
    offset : {p : Place} {n : ℕ} → is_u32 n ≡ true
        → Rule1 (After MayOffset p) (OffsetIs n) (gives (AtOffset n ∷ []) (After MayAlign p ∷ []))
    align : {p : Place} {n k : ℕ} → exponent n ≡ Some k
        → Rule1 (After MayAlign p) (AlignIs n) (gives (Aligned k ∷ []) (After NoTail p ∷ []))
    only_align : {p : Place} {n k : ℕ} → exponent n ≡ Some k
        → Rule1 (After MayOffset p) (AlignIs n) (gives (Aligned k ∷ []) (After NoTail p ∷ []))
    target : {p : Place} {n : ℕ} → is_u32 n ≡ true
        → Rule1 (After MayTarget p) (Num n) (gives (Refers OfTarget (Numbered n) ∷ []) (After MayTarget p ∷ []))
    named_target : {p : Place} {w : Name}
        → Rule1 (After MayTarget p) (Id w) (gives (Refers OfTarget (Named w) ∷ []) (After MayTarget p ∷ []))
    -- plain instructions
    plain : {tail : Tail} {p : Place} {f : Form} → takes_plain p ≡ true → allowed ct (KOp f) ≡ true →
        Rule1 (After tail p) (Word (KOp f)) (gives (pieces_of f) (operands_of f (After (tail_of f) p ∷ [])))
    block : {tail : Tail} {p : Place} {shape : Shape} → takes_plain p ≡ true →
        Rule1 (After tail p) (Word (KShape shape))
        (gives (Opens shape ∷ []) (After MayLabel (place_of shape) ∷ After MayRepeat p ∷ []))
    else : {tail : Tail} → Rule1 (After tail InIf) (Word KElse) (gives (Else ∷ []) (After MayRepeat InBlock ∷ []))
    end_block : {tail : Tail} → Rule1 (After tail InBlock) (Word KEnd) (gives (End ∷ []) [])
    end_if : {tail : Tail} → Rule1 (After tail InIf) (Word KEnd) (gives (End ∷ []) [])
    -- what closes instructions
    end_body : {tail : Tail} → Rule1 (After tail Body) Close (gives [] [])
    end_folded : {tail : Tail} → Rule1 (After tail InFolded) Close (gives (End ∷ []) [])
    end_operands : {tail : Tail} → Rule1 (After tail InOperands) Close (gives (Unfold ∷ []) [])
    end_then : {tail : Tail} → Rule1 (After tail InThen) Close (gives [] (AfterThen ∷ []))
    end_else : {tail : Tail} → Rule1 (After tail InElse) Close (gives (End ∷ []) (Closing ∷ []))
    end_nothing : {tail : Tail} → Rule1 (After tail Nothing) Close (gives [] [])
    no_else : Rule1 AfterThen Close (gives (End ∷ []) [])

  -- Productions that begin with a `(`, at this offset, and a word.
  pub data Rule2 : Sort → (place : ℕ) → Key → Move → Type 0 where
    -- (module id? ct? field*)
    module_ : {at : ℕ} → Rule2 Module at KModule (gives [] (Head false ∷ []))
    plain_fields : {named : Bool} {at : ℕ} {k : Key} {m : Move} → ct ≡ false → Rule2 (Fields nothing_before) at k m
        → Rule2 (Head named) at k m
    -- (type id? ..)
    type : {b : Before} {at : ℕ}
        → Rule2 (Fields b) at KType (gives (Begin TypeField ∷ []) (TypeHead false ∷ Closing ∷ Fields b ∷ []))
    -- (import str str desc), before all that defines
    import : {b : Before} {at : ℕ} → b.defined ≡ false
        → Rule2 (Fields b) at KImport
        (gives (Begin ImportField ∷ [])
        (AString ModuleName ∷ AString ImportName ∷ ImportKind ∷ Closing ∷ Fields b ∷ []))
    -- (func ..), (table ..), (memory ..), (global ..)
    extern : {b : Before} {tag : ExternTag} {at : ℕ}
        → Rule2 (Fields b) at (KExtern tag) (gives (Begin (Defining tag) ∷ []) (ExternHead tag b false ∷ []))
    -- (export str (kind idx))
    export : {b : Before} {at : ℕ}
        → Rule2 (Fields b) at KExport
        (gives (Begin ExportField ∷ []) (AString ExportName ∷ ExportKind ∷ Closing ∷ Fields b ∷ []))
    -- (start idx), once
    start : {b : Before} {at : ℕ} → b.started ≡ false
        → Rule2 (Fields b) at KStart
        (gives (Begin StartField ∷ []) (AnIndex OfStart ∷ Closing ∷ Fields (starting b) ∷ []))
    -- (elem idx? offset idx*) and (data idx? offset str*)
    elem : {b : Before} {at : ℕ}
        → Rule2 (Fields b) at KElem (gives (Begin ElemField ∷ []) (SegmentHead OfTable filling.Functions ∷ Fields b ∷ []))
    data_ : {b : Before} {at : ℕ}
        → Rule2 (Fields b) at KData (gives (Begin DataField ∷ []) (SegmentHead OfMemory filling.Bytes ∷ Fields b ∷ []))
    -- (custom N str str)
    custom : {b : Before} {at : ℕ}
        → Rule2 (Fields b) at KCustom
        (gives (Begin CustomField ∷ []) (CustomPlace ∷ AString CustomName ∷ AString Bytes ∷ Closing ∷ Fields b ∷ []))
    -- types: (func trusted? param* result*), (variant idx (func ..))
    func_type : {named : Bool} {at : ℕ}
        → Rule2 (TypeHead named) at (KExtern Func) (gives [] (After (InUse false AtTrusted) Nothing ∷ []))
    variant : {named : Bool} {at : ℕ} → allowed ct KVariant ≡ true
        → Rule2 (TypeHead named) at KVariant (gives [] (AnIndex OfBase ∷ FuncType ∷ Closing ∷ []))
    variant_type : {at : ℕ} → Rule2 FuncType at (KExtern Func) (gives [] (After (InUse false AtTrusted) Nothing ∷ []))
    -- typeuses: (type idx), param*, result*; and local*
    entry : {locals : Bool} {stage : Stage} {p : Place} {at : ℕ} → within stage AtType ≡ true →
        Rule2 (After (InUse locals stage) p) at KType
        (gives (Entry at ∷ []) (AnIndex OfEntry ∷ Closing ∷ After (InUse locals AtParams) p ∷ []))
    param : {locals : Bool} {stage : Stage} {p : Place} {at : ℕ} → within stage AtParams ≡ true →
        Rule2 (After (InUse locals stage) p) at (KGroup Param)
        (gives [] (Group Param ∷ After (InUse locals AtParams) p ∷ []))
    result : {locals : Bool} {stage : Stage} {p : Place} {at : ℕ} → within stage AtResults ≡ true →
        Rule2 (After (InUse locals stage) p) at (KGroup Result)
        (gives [] (Group Result ∷ After (InUse locals AtResults) p ∷ []))
    local : {locals : Bool} {stage : Stage} {p : Place} {at : ℕ} → locals ≡ true →
        Rule2 (After (InUse locals stage) p) at (KGroup Local)
        (gives [] (Group Local ∷ After (InUse locals AtLocals) p ∷ []))
    -- (export str) and (import str str) of a field
    inline_export : {tag : ExternTag} {b : Before} {named : Bool} {at : ℕ} →
        Rule2 (ExternHead tag b named) at KExport
        (gives [] (AString InlineExport ∷ Closing ∷ ExternHead tag b true ∷ []))
    inline_import : {tag : ExternTag} {b : Before} {named : Bool} {at : ℕ} → b.defined ≡ false →
        Rule2 (ExternHead tag b named) at KImport
        (gives [] (AString ModuleName ∷ AString ImportName ∷ Closing ∷ type_of tag ∷ Fields b ∷ []))
    extern_body : {tag : ExternTag} {b : Before} {named : Bool} {at : ℕ} {k : Key} {m : Move}
        → Rule2 (body_of tag) at k m →
        Rule2 (ExternHead tag b named) at k (before_sort m (Fields (defining b)))
    -- (elem idx*) and (data str*) inline
    inline_elem : {at : ℕ} → Rule2 InlineElem at KElem (gives [] (Items ∷ []))
    memory_public : {inline : Bool} {at : ℕ} {k : Key} {m : Move} → Rule2 (Pages inline) at k m
        → Rule2 (MemoryBody inline) at k m
    inline_data : {at : ℕ} → Rule2 (Pages true) at KData (gives (Inline ∷ []) (Strings ∷ Closing ∷ []))
    -- (mut type)
    global_mutable : {at : ℕ}
        → Rule2 GlobalBody at KMut (gives (IsMutable ∷ []) (ValueType1 ∷ Closing ∷ Expr ∷ Closing ∷ []))
    type_mutable : {at : ℕ} → Rule2 GlobalType1 at KMut (gives (IsMutable ∷ []) (ValueType1 ∷ Closing ∷ Closing ∷ []))
    -- desc
    import_kind : {tag : ExternTag} {at : ℕ}
        → Rule2 ImportKind at (KExtern tag) (gives (KindIs tag ∷ []) (NamedType tag ∷ []))
    import_type : {tag : ExternTag} {at : ℕ} {k : Key} {m : Move} → Rule2 (type_of tag) at k m
        → Rule2 (NamedType tag) at k m
    export_kind : {tag : ExternTag} {at : ℕ}
        → Rule2 ExportKind at (KExtern tag) (gives [] (AnIndex (OfExport tag) ∷ Closing ∷ []))
    -- (const number), (global.get idx) and (offset expr)
    expr_const : {w : Width} {l : Label} {at : ℕ} → allowed ct (KOp (Const w l)) ≡ true
        → Rule2 Expr at (KOp (Const w l)) (gives [] (AConst w l ∷ Closing ∷ []))
    expr_global : {at : ℕ} → Rule2 Expr at (KOp (Uses GlobalGet)) (gives [] (AGlobal ∷ Closing ∷ []))
    offset : {at : ℕ} → Rule2 Offset at KOffset (gives [] (Expr ∷ Closing ∷ []))
    folded_offset : {at : ℕ} {f : Form} {m : Move} → Rule2 Expr at (KOp f) m → Rule2 Offset at (KOp f) m
    segment_offset : {role : Role} {rest : Filling} {at : ℕ} {k : Key} {m : Move} → Rule2 Offset at k m
        → Rule2 (SegmentHead role rest) at k (before_sort m (filled rest))
    -- (result t) of a block
    labelled_yield : {p : Place} {at : ℕ}
        → Rule2 (After MayLabel p) at (KGroup Result) (gives [] (YieldType ∷ Closing ∷ After NoTail p ∷ []))
    yield : {p : Place} {at : ℕ}
        → Rule2 (After MayYield p) at (KGroup Result) (gives [] (YieldType ∷ Closing ∷ After NoTail p ∷ []))
    -- folded instructions: (plain folded*), (block id? (result t)? instr*),
    -- (if id? (result t)? folded* (then instr*) (else instr*)?)
    folded : {tail : Tail} {p : Place} {f : Form} {at : ℕ} → takes_folded p ≡ true → allowed ct (KOp f) ≡ true →
        Rule2 (After tail p) at (KOp f)
        (gives (Fold ∷ pieces_of f) (operands_of f (After (tail_of f) InOperands ∷ After NoTail p ∷ [])))
    folded_block : {tail : Tail} {p : Place} {at : ℕ} → takes_folded p ≡ true →
        Rule2 (After tail p) at (KShape OfBlock)
        (gives (Opens OfBlock ∷ []) (After MayLabel InFolded ∷ After NoTail p ∷ []))
    folded_loop : {tail : Tail} {p : Place} {at : ℕ} → takes_folded p ≡ true →
        Rule2 (After tail p) at (KShape OfLoop)
        (gives (Opens OfLoop ∷ []) (After MayLabel InFolded ∷ After NoTail p ∷ []))
    folded_if : {tail : Tail} {p : Place} {at : ℕ} → takes_folded p ≡ true →
        Rule2 (After tail p) at (KShape OfIf)
        (gives (Fold ∷ Opens OfIf ∷ []) (After MayLabel InConditions ∷ After NoTail p ∷ []))
    then : {tail : Tail} {at : ℕ}
        → Rule2 (After tail InConditions) at KThen (gives (Unfold ∷ []) (After NoTail InThen ∷ []))
    else : {at : ℕ} → Rule2 AfterThen at KElse (gives (Else ∷ []) (After NoTail InElse ∷ []))

  -- These sorts, one after another, are these tokens and stand for these pieces.
  pub data Derives : List Sort → List Tok → List Piece → Type 0 where
    done : Derives [] [] []
    by_token : {s : Sort} {t : Tok} {m : Move} {st : List Sort} {ts : List Tok} {ps : List Piece} → Rule1 s t m →
        Derives (m.next ++ st) ts ps → Derives (s ∷ st) (t ∷ ts) (m.out ++ ps)
    by_open : {s : Sort} {at : ℕ} {k : Key} {m : Move} {st : List Sort} {ts : List Tok} {ps : List Piece}
        → Rule2 s at k m →
        Derives (m.next ++ st) ts ps → Derives (s ∷ st) (Open at ∷ Word k ∷ ts) (m.out ++ ps)

-- a module's tokens and pieces; `ct` tells a CT module
abbrev pub Spells : (ct : Bool) → List Tok → List Piece → Type 0
Spells ct ts ps = Derives ct (Module ∷ []) ts ps
