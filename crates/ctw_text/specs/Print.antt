-- The printed text of a module: one of the texts that denote it (W3C WebAssembly Core 1.0, chapter 6).
use Rattle.std.specs.Prelude.{ℕ, ◌+◌, ◌-◌, ◌^◌, ◌/◌, ◌%◌, ◌==◌, ◌&&◌, nat_lt, Bool, true, false, cond, List, [], ◌∷◌, ◌++◌, Option, Some, None, length, codes, decimal}
use Rattle.ctw_ops.specs.declared.types.Label.{Label}
use Rattle.ctw_ops.specs.declared.types.Label.TheVariants.{Public, Secret}
use Rattle.ctw_ops.specs.declared.types.Width.{Width}
use Rattle.ctw_ops.specs.declared.types.Trust.{Trust}
use Rattle.ctw_ops.specs.declared.types.Trust.TheVariants.{Untrusted, Trusted}
use Rattle.ctw_ops.specs.declared.types.Limits.{Limits}
use Rattle.ctw_ops.specs.declared.types.ExternTag.TheVariants.{Func, Table, Memory, Global}
use Rattle.ctw_ops.specs.ValueType.{ValueType}
use Rattle.ctw_ops.specs.Types.{FunctionType, VariableType, MemoryType}
use Rattle.ctw_ops.specs.Code as ops
use Rattle.ctw_ops.specs.Code.{Leaf, Code, OfBlock, OfLoop, OfIf}
use Rattle.ctw_ops.specs.Tree as tree
use Rattle.ctw_ops.specs.Tree.{TypeEntry, Extern, Import, Function, Constant, Export, Element, Segment, Custom, Module}
use Rattle.ctw_lex.specs.Chars.{is_string_byte}
use Rattle.ctw_text.specs.Keys as k
use Rattle.ctw_text.specs.Keys.{Part, Param, Local, Indexed, Form, Key, KModule, KCt, KType, KVariant, KTrusted, KImport, KExport, KStart, KElem, KData, KCustom, KMut, KSecret, KFuncref, KElse, KEnd, KExtern, KGroup, KShape, KTy, KOp}
use Rattle.ctw_text.specs.Toks.{Tok, Open, Close, Text, Num, Signed, OffsetIs, AlignIs, Word}
use Rattle.ctw_text.specs.Words.{word_of}
use Rattle.ctw_text.specs.Grammar.{bits_in}

-- What is laid out: blanks, and tokens without their places

pub data Sign : Type 0 where
  Left Right : Sign
  Quote : (bytes : List ℕ) → Sign
  Number : (n : ℕ) → Sign
  Negative : (n : ℕ) → Sign
  AtOffset : (n : ℕ) → Sign
  Aligned : (n : ℕ) → Sign
  Said : (key : Key) → Sign

pub data Ink : Type 0 where
  Gap : (bytes : List ℕ) → Ink
  Mark : (sign : Sign) → Ink

-- Its bytes

abbrev pub hex_char : ℕ → ℕ
hex_char d = cond (nat_lt d 10) (48 + d) (87 + d)

-- a byte in a printed string
abbrev pub quoted_byte : ℕ → List ℕ
quoted_byte b = cond (is_string_byte b && nat_lt b 127) (b ∷ []) (92 ∷ hex_char (b / 16) ∷ hex_char (b % 16) ∷ [])

abbrev pub quoted : List ℕ → List ℕ
quoted [] = []
quoted (b ∷ bs) = quoted_byte b ++ quoted bs

abbrev pub bytes_of : Sign → List ℕ
bytes_of Left = 40 ∷ []
bytes_of Right = 41 ∷ []
bytes_of (Quote bs) = 34 ∷ quoted bs ++ 34 ∷ []
bytes_of (Number n) = decimal n
bytes_of (Negative n) = 45 ∷ decimal n
bytes_of (AtOffset n) = codes "offset=" ++ decimal n
bytes_of (Aligned n) = codes "align=" ++ decimal n
bytes_of (Said key) = word_of key

abbrev pub text_of : List Ink → List ℕ
text_of [] = []
text_of (Gap g ∷ is) = g ++ text_of is
text_of (Mark s ∷ is) = bytes_of s ++ text_of is

-- Its tokens, from an offset on

abbrev pub tok_at : ℕ → Sign → Tok
tok_at at Left = Open at
tok_at at Right = Close
tok_at at (Quote bs) = Text bs
tok_at at (Number n) = Num n
tok_at at (Negative n) = Signed true n
tok_at at (AtOffset n) = OffsetIs n
tok_at at (Aligned n) = AlignIs n
tok_at at (Said key) = Word key

abbrev pub toks : ℕ → List Ink → List Tok
toks at [] = []
toks at (Gap g ∷ is) = toks (at + length g) is
toks at (Mark s ∷ is) = tok_at at s ∷ toks (at + length (bytes_of s)) is

abbrev pub blank : Ink
blank = Gap (32 ∷ [])

abbrev pub line : Ink
line = Gap (10 ∷ [])

abbrev pub line2 : Ink
line2 = Gap (10 ∷ 32 ∷ 32 ∷ [])

abbrev pub line4 : Ink
line4 = Gap (10 ∷ 32 ∷ 32 ∷ 32 ∷ 32 ∷ [])

abbrev pub key : Key → Ink
key k = Mark (Said k)

abbrev pub num : ℕ → Ink
num n = Mark (Number n)

abbrev pub open_ : Ink
open_ = Mark Left

abbrev pub close : Ink
close = Mark Right

abbrev pub ty : ValueType Label → Ink
ty t = key (KTy t)

-- Each of these stands before `rest`.

abbrev pub print_types : List (ValueType Label) → List Ink → List Ink
print_types [] rest = rest
print_types (t ∷ ts) rest = blank ∷ ty t ∷ print_types ts rest

-- (param ..), (local ..), left out where there are none
abbrev pub print_group : Part → List (ValueType Label) → List Ink → List Ink
print_group part [] rest = rest
print_group part (t ∷ ts) rest = blank ∷ open_ ∷ key (KGroup part) ∷ print_types (t ∷ ts) (close ∷ rest)

abbrev pub print_result : Option (ValueType Label) → List Ink → List Ink
print_result None rest = rest
print_result (Some t) rest = blank ∷ open_ ∷ key (KGroup k.Result) ∷ blank ∷ ty t ∷ close ∷ rest

-- a const's number is signed
abbrev pub print_bits : Width → ℕ → List Ink → List Ink
print_bits w bits rest =
    cond (nat_lt bits (2 ^ (bits_in w - 1))) (num bits) (Mark (Negative (2 ^ bits_in w - bits))) ∷ rest

abbrev pub natural : ℕ → ℕ
natural bytes = cond (bytes == 1) 0 (cond (bytes == 2) 1 (cond (bytes == 4) 2 3))

abbrev pub print_offset : ℕ → List Ink → List Ink
print_offset n rest = cond (n == 0) rest (blank ∷ Mark (AtOffset n) ∷ rest)

abbrev pub print_align : (natural exponent : ℕ) → List Ink → List Ink
print_align n e rest = cond (e == n) rest (blank ∷ Mark (Aligned (2 ^ e)) ∷ rest)

abbrev pub print_indexes : List ℕ → List Ink → List Ink
print_indexes [] rest = rest
print_indexes (n ∷ ns) rest = blank ∷ num n ∷ print_indexes ns rest

abbrev pub print_use : ℕ → List Ink → List Ink
print_use n rest = blank ∷ open_ ∷ key KType ∷ blank ∷ num n ∷ close ∷ rest

abbrev pub print_indexed : Indexed → ℕ → List Ink → List Ink
print_indexed op n rest = key (KOp (k.Uses op)) ∷ blank ∷ num n ∷ rest

abbrev pub print_leaf : Leaf Label → List Ink → List Ink
print_leaf (ops.Br n) rest = print_indexed k.Br n rest
print_leaf (ops.BrIf n) rest = print_indexed k.BrIf n rest
print_leaf (ops.BrTable ns n) rest = key (KOp k.BrTable) ∷ print_indexes ns (blank ∷ num n ∷ rest)
print_leaf (ops.Call n) rest = print_indexed k.Call n rest
print_leaf (ops.CallIndirect n) rest = key (KOp k.CallIndirect) ∷ print_use n rest
print_leaf (ops.LocalGet n) rest = print_indexed k.LocalGet n rest
print_leaf (ops.LocalSet n) rest = print_indexed k.LocalSet n rest
print_leaf (ops.LocalTee n) rest = print_indexed k.LocalTee n rest
print_leaf (ops.GlobalGet n) rest = print_indexed k.GlobalGet n rest
print_leaf (ops.GlobalSet n) rest = print_indexed k.GlobalSet n rest
print_leaf (ops.Load w l bytes signed align offset) rest =
    key (KOp (k.Access (ops.Load w l bytes signed (natural bytes) 0)))
    ∷ print_offset offset (print_align (natural bytes) align rest)
print_leaf (ops.Store w l bytes align offset) rest =
    key (KOp (k.Access (ops.Store w l bytes (natural bytes) 0)))
    ∷ print_offset offset (print_align (natural bytes) align rest)
print_leaf (ops.Const w l bits) rest = key (KOp (k.Const w l)) ∷ blank ∷ print_bits w bits rest
print_leaf leaf rest = key (KOp (k.Bare leaf)) ∷ rest

-- instructions, one per line
abbrev pub print_code : Code Label → List Ink → List Ink
print_code ops.Stop rest = rest
print_code (ops.Then leaf more) rest = line4 ∷ print_leaf leaf (print_code more rest)
print_code (ops.Block t body more) rest =
    line4 ∷ key (KShape OfBlock) ∷ print_result t (print_code body (line4 ∷ key KEnd ∷ print_code more rest))
print_code (ops.Loop t body more) rest =
    line4 ∷ key (KShape OfLoop) ∷ print_result t (print_code body (line4 ∷ key KEnd ∷ print_code more rest))
print_code (ops.If t arm more) rest =
    line4 ∷ key (KShape OfIf) ∷ print_result t (print_code arm (line4 ∷ key KEnd ∷ print_code more rest))
print_code (ops.IfElse t arm other more) rest =
    line4 ∷ key (KShape OfIf)
    ∷ print_result t
    (print_code arm (line4 ∷ key KElse ∷ print_code other (line4 ∷ key KEnd ∷ print_code more rest)))

abbrev pub print_trust : Trust → List Ink → List Ink
print_trust Untrusted rest = rest
print_trust Trusted rest = blank ∷ key KTrusted ∷ rest

abbrev pub print_type : FunctionType Label → List Ink → List Ink
print_type t rest =
    open_ ∷ key (KExtern Func) ∷ print_trust t.trust (print_group Param t.params (print_result t.result (close ∷ rest)))

abbrev pub print_entry : Option ℕ → FunctionType Label → List Ink → List Ink
print_entry None t rest = print_type t rest
print_entry (Some n) t rest = open_ ∷ key KVariant ∷ blank ∷ num n ∷ blank ∷ print_type t (close ∷ rest)

-- a field on a line of its own
abbrev pub field : Key → List Ink → List Ink
field k rest = line2 ∷ open_ ∷ key k ∷ blank ∷ rest

abbrev pub print_each : {X : Type 0} → (X → List Ink → List Ink) → List X → List Ink → List Ink
print_each print [] rest = rest
print_each print (x ∷ xs) rest = print x (print_each print xs rest)

abbrev pub print_type_field : TypeEntry Label → List Ink → List Ink
print_type_field e rest = field KType (print_entry e.base e.type (close ∷ rest))

abbrev pub print_max : Option ℕ → List Ink → List Ink
print_max None rest = rest
print_max (Some n) rest = blank ∷ num n ∷ rest

abbrev pub print_limits : Limits → List Ink → List Ink
print_limits l rest = num l.min ∷ print_max l.max rest

abbrev pub print_table : Limits → List Ink → List Ink
print_table l rest = print_limits l (blank ∷ key KFuncref ∷ rest)

abbrev pub print_memory : MemoryType Label → List Ink → List Ink
print_memory m rest = labelled m.tag
  where
    labelled : Label → List Ink
    labelled Public = print_limits m.limits rest
    labelled Secret = key KSecret ∷ blank ∷ print_limits m.limits rest

abbrev pub print_global_type : VariableType Label → List Ink → List Ink
print_global_type g rest = cond g.mutable (open_ ∷ key KMut ∷ blank ∷ ty g.value ∷ close ∷ rest) (ty g.value ∷ rest)

abbrev pub print_extern : Extern Label → List Ink → List Ink
print_extern (tree.ImportedFunction n) rest = open_ ∷ key (KExtern Func) ∷ print_use n (close ∷ rest)
print_extern (tree.ImportedTable l) rest = open_ ∷ key (KExtern Table) ∷ blank ∷ print_table l (close ∷ rest)
print_extern (tree.ImportedMemory m) rest = open_ ∷ key (KExtern Memory) ∷ blank ∷ print_memory m (close ∷ rest)
print_extern (tree.ImportedGlobal g) rest = open_ ∷ key (KExtern Global) ∷ blank ∷ print_global_type g (close ∷ rest)

abbrev pub print_string : List ℕ → List Ink → List Ink
print_string bs rest = Mark (Quote bs) ∷ rest

abbrev pub print_import : Import Label → List Ink → List Ink
print_import i rest =
    field KImport
    (print_string i.module_name (blank ∷ print_string i.name (blank ∷ print_extern i.kind (close ∷ rest))))

abbrev pub print_function : Function Label → List Ink → List Ink
print_function f rest =
    line2 ∷ open_ ∷ key (KExtern Func)
    ∷ print_use f.type (print_group Local f.locals (print_code f.body (line2 ∷ close ∷ rest)))

abbrev pub print_table_field : Limits → List Ink → List Ink
print_table_field l rest = field (KExtern Table) (print_table l (close ∷ rest))

abbrev pub print_memory_field : MemoryType Label → List Ink → List Ink
print_memory_field m rest = field (KExtern Memory) (print_memory m (close ∷ rest))

abbrev pub print_constant : Constant Label → List Ink → List Ink
print_constant (tree.Number t bits) rest =
    open_ ∷ key (KOp (k.Const t.width t.tag)) ∷ blank ∷ print_bits t.width bits (close ∷ rest)
print_constant (tree.ValueOf n) rest = open_ ∷ print_indexed k.GlobalGet n (close ∷ rest)

abbrev pub print_global : tree.Global Label → List Ink → List Ink
print_global g rest = field (KExtern Global) (print_global_type g.type (blank ∷ print_constant g.init (close ∷ rest)))

abbrev pub print_export : Export → List Ink → List Ink
print_export e rest =
    field KExport
    (print_string e.name (blank ∷ open_ ∷ key (KExtern e.kind) ∷ blank ∷ num e.index ∷ close ∷ close ∷ rest))

abbrev pub print_start : ℕ → List Ink → List Ink
print_start n rest = field KStart (num n ∷ close ∷ rest)

abbrev pub print_element : Element Label → List Ink → List Ink
print_element e rest = field KElem (print_constant e.offset (print_indexes e.functions (close ∷ rest)))

abbrev pub print_segment : Segment Label → List Ink → List Ink
print_segment s rest = field KData (print_constant s.offset (blank ∷ print_string s.bytes (close ∷ rest)))

abbrev pub print_custom : Custom → List Ink → List Ink
print_custom c rest =
    field KCustom (num c.place ∷ blank ∷ print_string c.name (blank ∷ print_string c.bytes (close ∷ rest)))

abbrev pub print_maybe : {X : Type 0} → (X → List Ink → List Ink) → Option X → List Ink → List Ink
print_maybe print None rest = rest
print_maybe print (Some x) rest = print x rest

abbrev pub print_ct : Bool → List Ink → List Ink
print_ct true rest = blank ∷ key KCt ∷ rest
print_ct false rest = rest

abbrev pub print_segments : Module Label → List Ink → List Ink
print_segments m rest =
    print_each print_element m.elements (print_each print_segment m.segments (print_each print_custom m.customs rest))

abbrev pub print_definitions : Module Label → List Ink → List Ink
print_definitions m rest =
    print_each print_function m.functions
    (print_maybe print_table_field m.table
    (print_maybe print_memory_field m.memory (print_each print_global m.globals
    (print_each print_export m.exports (print_maybe print_start m.start (print_segments m rest))))))

abbrev pub print_fields : Module Label → List Ink → List Ink
print_fields m rest = print_each print_type_field m.types (print_each print_import m.imports (print_definitions m rest))

-- what is printed for a module
abbrev pub print_module : Module Label → List Ink
print_module m = open_ ∷ key KModule ∷ print_ct m.ct (print_fields m (line ∷ close ∷ line ∷ []))

-- its text
abbrev pub printed : Module Label → List ℕ
printed m = text_of (print_module m)
