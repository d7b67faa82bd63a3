-- The table of words as it is stored: words of one length together.
use Rattle.std.specs.Prelude.{ℕ, take}
use Rattle.ctw_ops.specs.Types.{value_type}
use Rattle.ctw_text.specs.declared.words.Entry.{Entry as StoredEntry}
use Rattle.ctw_text.specs.declared.words.Meaning.{Meaning}
use Rattle.ctw_text.specs.declared.words.Meaning.TheVariants as m
use Rattle.ctw_text.specs.Leaves.{leaf_of, shape_of}
use Rattle.ctw_text.specs.Keys as k
use Rattle.ctw_text.specs.Keys.{Key, KOp}
use Rattle.ctw_text.specs.Words.{Entry, entry}

abbrev pub key_in : Meaning → Key
key_in m.Module = k.KModule
key_in m.Ct = k.KCt
key_in m.«Type» = k.KType
key_in m.Variant = k.KVariant
key_in m.Trusted = k.KTrusted
key_in m.Import = k.KImport
key_in m.Export = k.KExport
key_in m.Start = k.KStart
key_in m.Elem = k.KElem
key_in m.Data = k.KData
key_in m.Custom = k.KCustom
key_in m.Mut = k.KMut
key_in m.Secret = k.KSecret
key_in m.Funcref = k.KFuncref
key_in m.Offset = k.KOffset
key_in m.Then = k.KThen
key_in m.Else = k.KElse
key_in m.End = k.KEnd
key_in (m.Extern tag) = k.KExtern tag
key_in (m.Group part) = k.KGroup part
key_in (m.Shape opener) = k.KShape (shape_of opener)
key_in (m.Ty width label) = k.KTy (value_type width label)
key_in (m.Bare kind) = KOp (k.Bare (leaf_of kind))
key_in (m.Access kind) = KOp (k.Access (leaf_of kind))
key_in (m.Const width label) = KOp (k.Const width label)
key_in (m.Uses op) = KOp (k.Uses op)
key_in m.BrTable = KOp k.BrTable
key_in m.CallIndirect = KOp k.CallIndirect

-- an entry of the table of the words of this length
abbrev pub told : (size : ℕ) → StoredEntry → Entry
told size e = entry (take size e.word) (key_in e.meaning)
