-- Numbers that are spelled fit their width.
use Rattle.std.proofs.Common.{ℕ, ◌<◌, ◌^◌, List, [], Bool, refl, subst, arith}
use Rattle.std.specs.Prelude.{ℤ, pos, negsuc}
use Rattle.std.specs.List.{All}
use Rattle.std.specs.Int.{w32, w64, cast_unsigned}
use Rattle.std.proofs.lemmas.List.Elements.{All-nil}
use Rattle.ctw_ops.specs.declared.types.Label.{Label}
use Rattle.ctw_ops.specs.declared.types.Label.TheVariants.{Public, Secret}
use Rattle.ctw_ops.specs.declared.types.Width.{Width}
use Rattle.ctw_ops.specs.declared.types.Width.TheVariants.{W32, W64}
use Rattle.ctw_ops.specs.Code as ops
use Rattle.ctw_ops.specs.Code.{Op, Leaf, Plain}
use Rattle.ctw_ops.specs.Tree.{Module, Constant, Global, Element, Segment}
use Rattle.ctw_leb.specs.Grammar.{state_after}
use Rattle.ctw_leb.proofs.Standard.{FitsHalf, number_from_signed}
use Rattle.ctw_flat.specs.declared.opcode.Bare.{Bare}
use Rattle.ctw_flat.specs.declared.opcode.Bare.TheVariants as bare
use Rattle.ctw_flat.specs.declared.opcode.Indexed.{Indexed}
use Rattle.ctw_flat.specs.declared.opcode.Indexed.TheVariants as indexed
use Rattle.ctw_flat.specs.declared.opcode.Access.TheVariants as access
use Rattle.ctw_flat.specs.declared.opcode.Form.{Form}
use Rattle.ctw_flat.specs.declared.opcode.Form.TheVariants as form
use Rattle.ctw_flat.specs.declared.opcode.First.{First}
use Rattle.ctw_flat.specs.declared.opcode.First.TheVariants.{Direct, Prefix}
use Rattle.ctw_flat.specs.Spelled.{bare_op, indexed_leaf, IsBits, Immediate, Behind, IsOp}
use Rattle.ctw_form.specs.declared.table.ConstantForm.{ConstantForm}
use Rattle.ctw_form.specs.declared.table.ConstantForm.TheVariants as constant
use Rattle.ctw_form.specs.declared.table.SectionKind.{SectionKind}
use Rattle.ctw_form.specs.declared.table.SectionKind.TheVariants as kind
use Rattle.ctw_form.specs.declared.sections.Seen.{Seen}
use Rattle.ctw_form.specs.Sections.{Section, Parts, nothing_seen, no_parts, with_section}
use Rattle.ctw_form.specs.Spelled.{ConstantBehind, IsConstant, IsGlobal, IsElement, IsSegment, Insides, File, IsFile, Spells}
use Rattle.ctw_form.proofs.SpelledParts.{all_vector, parts_kept}
use Rattle.ctw_ops.specs.Types.{FitsWidth}
use Rattle.ctw_ops.specs.Valid.{IsFitting, IsFormed}
use Rattle.ctw_form.proofs.OneOfEach.{at_most_one}
use Rattle.ctw_form.proofs.PlainForms.{module_plain}

-- ---- numbers

low : (z : ℤ) → FitsHalf (2 ^ 31) z → cast_unsigned w32 z < 2 ^ 32
low (pos k) h = omega arith
low (negsuc k) h = omega arith

high : (z : ℤ) → FitsHalf (2 ^ 63) z → cast_unsigned w64 z < 2 ^ 64
high (pos k) h = omega arith
high (negsuc k) h = omega arith

pub bits_fit : (width : Width) (text : List ℕ) (bits : ℕ) → IsBits width text bits → FitsWidth width bits
bits_fit W32 text bits m = subst (λ (n : ℕ). n < 2 ^ 32) m.2 (low m.0 (number_from_signed 31 (2 ^ 31) text m.0 refl m.1).1)
bits_fit W64 text bits m = subst (λ (n : ℕ). n < 2 ^ 64) m.2 (high m.0 (number_from_signed 63 (2 ^ 63) text m.0 refl m.1).1)

-- ---- opcodes

-- the number of a constant fits
abbrev FitsLeaf : Leaf Label → Type 0
FitsLeaf (ops.Const width label bits) = FitsWidth width bits
FitsLeaf _ = Unit {0}

abbrev FitsOp : Op Label → Type 0
FitsOp (Plain leaf) = FitsLeaf leaf
FitsOp _ = Unit {0}

bare_fits : (b : Bare) → FitsOp (bare_op b)
bare_fits bare.Unreachable = tt
bare_fits bare.Nop = tt
bare_fits bare.Else = tt
bare_fits bare.End = tt
bare_fits bare.Return = tt
bare_fits bare.Drop = tt
bare_fits (bare.Classify width) = tt
bare_fits (bare.Declassify width) = tt

indexed_fits : (x : Indexed) (n : ℕ) → FitsLeaf (indexed_leaf x n)
indexed_fits indexed.Br n = tt
indexed_fits indexed.BrIf n = tt
indexed_fits indexed.Call n = tt
indexed_fits indexed.LocalGet n = tt
indexed_fits indexed.LocalSet n = tt
indexed_fits indexed.LocalTee n = tt
indexed_fits indexed.GlobalGet n = tt
indexed_fits indexed.GlobalSet n = tt

immediate_fits : (label : Label) (f : Form) (text : List ℕ) (op : Op Label) → Immediate label f text op → FitsOp op
immediate_fits label (form.Bare b) text op m = subst FitsOp m.1 (bare_fits b)
immediate_fits label (form.Opens o) text op m = subst FitsOp m.4.1 tt
immediate_fits label (form.Indexed x) text op m = subst FitsOp m.4.1 (indexed_fits x m.0)
immediate_fits label form.BrTable text op m = subst FitsOp m.4.4.1 tt
immediate_fits label form.CallIndirect text op m = subst FitsOp m.4.4.1 tt
immediate_fits label form.MemorySize text op m = subst FitsOp m.4.1 tt
immediate_fits label form.MemoryGrow text op m = subst FitsOp m.4.1 tt
immediate_fits label form.Select text op m = subst FitsOp m.1 tt
immediate_fits label (form.Access (access.Load width bytes signed)) text op m = subst FitsOp m.4.4.1 tt
immediate_fits label (form.Access (access.Store width bytes)) text op m = subst FitsOp m.4.4.1 tt
immediate_fits label (form.Const width) text op m = subst FitsOp m.4.1 (bits_fit width m.1 m.0 m.3)
immediate_fits label (form.Numeric n) text op m = subst FitsOp m.1 tt

behind_fits : (first : First) (text : List ℕ) (op : Op Label) → Behind first text op → FitsOp op
behind_fits Prefix text op m = immediate_fits Secret m.0 m.2 op m.4
behind_fits (Direct f) text op m = immediate_fits Public f text op m

pub const_fits : (text : List ℕ) (width : Width) (label : Label) (bits : ℕ) → IsOp text (Plain (ops.Const width label bits)) → FitsWidth width bits
const_fits text width label bits m = behind_fits m.0 m.2 (Plain (ops.Const width label bits)) m.4

-- ---- constant expressions

open_fits : (f : ConstantForm) (text : List ℕ) (c : Constant Label) → ConstantBehind f text c → IsFitting c
open_fits (constant.Number width) text c m = subst IsFitting m.2 (bits_fit width text m.0 m.1)
open_fits constant.Global text c m = subst IsFitting m.2 tt
open_fits constant.Prefix text c m = subst IsFitting m.4.2 (bits_fit m.0 m.2 m.4.0 m.4.1)

constant_fits : (ct : Bool) (text : List ℕ) (c : Constant Label) → IsConstant ct text c → IsFitting c
constant_fits ct text c m =
    let behind = m.4 in
    subst IsFitting behind.4.4.1 (open_fits m.0 behind.1 behind.0 behind.3)

-- the constants of parts fit
pub record FittingParts (gs : List (Global Label)) (es : List (Element Label)) (ss : List (Segment Label)) : Type 0 where
  pub globals : All (λ g. IsFitting g.init) gs
  pub elements : All (λ e. IsFitting e.offset) es
  pub segments : All (λ s. IsFitting s.offset) ss

abbrev FittingBehind : Parts → Section → Type 0
FittingBehind p section = FittingParts (with_section p section).globals (with_section p section).elements (with_section p section).segments

global_fits : (ct : Bool) (text : List ℕ) (g : Global Label) → IsGlobal ct text g → IsFitting g.init
global_fits ct text g m = subst (λ (x : Global Label). IsFitting x.init) m.4.2 (constant_fits ct m.2 m.4.0 m.4.1)

element_fits : (ct : Bool) (text : List ℕ) (e : Element Label) → IsElement ct text e → IsFitting e.offset
element_fits ct text e m = subst (λ (x : Element Label). IsFitting x.offset) m.4.4.2 (constant_fits ct m.4.1 m.4.0 m.4.3)

segment_fits : (ct : Bool) (text : List ℕ) (s : Segment Label) → IsSegment ct text s → IsFitting s.offset
segment_fits ct text s m = subst (λ (x : Segment Label). IsFitting x.offset) m.4.4.2 (constant_fits ct m.4.1 m.4.0 m.4.3)

insides_fit : (ct : Bool) (seen : Seen) (p : Parts) (k : SectionKind) (text : List ℕ) (section : Section) → Insides ct seen k text section → FittingParts p.globals p.elements p.segments → FittingBehind p section
insides_fit ct seen p kind.Custom text section m h = subst (FittingBehind p) m.4.2 h
insides_fit ct seen p kind.Types text section m h = subst (FittingBehind p) m.2 h
insides_fit ct seen p kind.Imports text section m h = subst (FittingBehind p) m.2 h
insides_fit ct seen p kind.Functions text section m h = subst (FittingBehind p) m.2 h
insides_fit ct seen p kind.Tables text section m h = subst (FittingBehind p) m.2 h
insides_fit ct seen p kind.Memories text section m h = subst (FittingBehind p) m.2 h
insides_fit ct seen p kind.Globals text section m h =
    subst (FittingBehind p) m.2 (record { globals = all_vector (IsGlobal ct) (λ g. IsFitting g.init) (global_fits ct) text m.0 m.1; elements = h.elements; segments = h.segments })
insides_fit ct seen p kind.Exports text section m h = subst (FittingBehind p) m.2 h
insides_fit ct seen p kind.Start text section m h = subst (FittingBehind p) m.2 h
insides_fit ct seen p kind.Elements text section m h =
    subst (FittingBehind p) m.2 (record { globals = h.globals; elements = all_vector (IsElement ct) (λ e. IsFitting e.offset) (element_fits ct) text m.0 m.1; segments = h.segments })
insides_fit ct seen p kind.Codes text section m h = subst (FittingBehind p) m.2 h
insides_fit ct seen p kind.Segments text section m h =
    subst (FittingBehind p) m.2 (record { globals = h.globals; elements = h.elements; segments = all_vector (IsSegment ct) (λ s. IsFitting s.offset) (segment_fits ct) text m.0 m.1 })

file_fits : (bytes : List ℕ) (file : File) → IsFile bytes file
    → FittingParts (state_after with_section no_parts file.sections).globals (state_after with_section no_parts file.sections).elements (state_after with_section no_parts file.sections).segments
file_fits bytes file m =
    let inner = m.4.4 in
    let begun : FittingParts [] [] [] = record { globals = All-nil (λ (g : Global Label). IsFitting g.init); elements = All-nil (λ (e : Element Label). IsFitting e.offset); segments = All-nil (λ (s : Segment Label). IsFitting s.offset) } in
    let all = parts_kept m.4.0 (λ seen p. FittingParts p.globals p.elements p.segments) (λ seen p text section s h. insides_fit m.4.0 seen p s.0 s.4.2 section s.4.4.1 h) nothing_seen no_parts m.4.2 inner.0 inner.1 begun in
    subst (λ (f : File). FittingParts (state_after with_section no_parts f.sections).globals (state_after with_section no_parts f.sections).elements (state_after with_section no_parts f.sections).segments) inner.2 all

pub constants_fit : (bytes : List ℕ) (m : Module Label) → Spells bytes m → FittingParts m.globals m.elements m.segments
constants_fit bytes m s = subst (λ (x : Module Label). FittingParts x.globals x.elements x.segments) s.made (file_fits bytes s.file s.spelled)

pub module_formed : (bytes : List ℕ) (m : Module Label) → Spells bytes m → IsFormed m
module_formed bytes m s =
    let once = at_most_one bytes m s in
    let fit = constants_fit bytes m s in
    record {
      tables = once.0;
      memories = once.1;
      globals = fit.globals;
      elements = fit.elements;
      segments = fit.segments;
      plain = module_plain bytes m s;
    }
