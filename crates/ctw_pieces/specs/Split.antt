-- Parts of the grammar's machine, for which there are functions of their own.
use Rattle.std.specs.Prelude.{Bool, true, false, List, [], ◌∷◌, Option, Some, None}
use Rattle.ctw_text.specs.declared.toks.Tok.{Tok}
use Rattle.ctw_text.specs.declared.toks.Tok.TheVariants.{Id}
use Rattle.ctw_ops.specs.declared.types.ExternTag.{ExternTag}
use Rattle.ctw_text.specs.declared.keys.Key.{Key}
use Rattle.ctw_text.specs.declared.keys.Key.TheVariants.{Export as KExport, Import as KImport}
use Rattle.ctw_text.specs.declared.pieces.Piece.TheVariants.{NameIs}
use Rattle.ctw_text.specs.declared.pieces.Quoted.TheVariants.{InlineExport}
use Rattle.ctw_text.specs.declared.sorts.Sort.{Sort}
use Rattle.ctw_text.specs.declared.sorts.Before.{Before}
use Rattle.ctw_text.specs.declared.sorts.Sort.TheVariants.{Closing, ExternHead, After, AfterThen, Group, Types, OneType, YieldType, ValueType as ValueType1, AnIndex, AConst, AString, Expr}
use Rattle.ctw_text.specs.Grammar.{Move, gives}
use Rattle.ctw_text.specs.Machine.{move1, import_word}

abbrev pub own_name : List Sort → Tok → Option Move
own_name next (Id w) = Some (gives (NameIs w ∷ []) next)
own_name next _ = None

-- the moves of the nonterminals inside fields
abbrev pub inner_move : Bool → Sort → Tok → Option Move
inner_move ct (After tail p) t = move1 ct (After tail p) t
inner_move ct AfterThen t = move1 ct AfterThen t
inner_move ct (Group part) t = move1 ct (Group part) t
inner_move ct (Types part) t = move1 ct (Types part) t
inner_move ct (OneType part) t = move1 ct (OneType part) t
inner_move ct YieldType t = move1 ct YieldType t
inner_move ct ValueType1 t = move1 ct ValueType1 t
inner_move ct (AnIndex role) t = move1 ct (AnIndex role) t
inner_move ct (AConst w l) t = move1 ct (AConst w l) t
inner_move ct (AString what) t = move1 ct (AString what) t
inner_move ct Expr t = move1 ct Expr t
inner_move ct _ t = None

abbrev pub is_inline_word : Key → Bool
is_inline_word KExport = true
is_inline_word KImport = true
is_inline_word _ = false

-- an inline export or import
abbrev pub inline_word : ExternTag → Before → Key → Option Move
inline_word tag b KExport = Some (gives [] (AString InlineExport ∷ Closing ∷ ExternHead tag b true ∷ []))
inline_word tag b KImport = import_word tag b
inline_word tag b _ = None
