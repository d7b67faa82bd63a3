-- What can be written: instructions that have an opcode, with numbers that fit their width.
use Rattle.std.specs.Prelude.{◌≡◌, true, All}
use Rattle.ctw_ops.specs.declared.types.Label.{Label}
use Rattle.ctw_ops.specs.Types.{FitsWidth}
use Rattle.ctw_ops.specs.Numeric.{is_numeric}
use Rattle.ctw_ops.specs.Forms.{is_load, is_store}
use Rattle.ctw_ops.specs.Code.{Leaf, Load, Store, Const, Numeric, Op, Plain}
use Rattle.ctw_ops.specs.Valid.{IsFitting}
use Rattle.ctw_text.specs.Names.{Wide}

abbrev pub IsWrittenLeaf : Leaf Label → Type 0
IsWrittenLeaf (Load w l bytes signed align offset) = is_load w bytes signed ≡ true
IsWrittenLeaf (Store w l bytes align offset) = is_store w bytes ≡ true
IsWrittenLeaf (Const w l bits) = FitsWidth w bits
IsWrittenLeaf (Numeric op l) = is_numeric op ≡ true
IsWrittenLeaf _ = Unit {0}

abbrev pub IsWritten : Op Label → Type 0
IsWritten (Plain leaf) = IsWrittenLeaf leaf
IsWritten _ = Unit {0}

-- a module whose instructions and constants can be written
pub record CanBeWritten (m : Wide) : Type 0 where
  pub code : All (λ f. All IsWritten f.code) m.functions
  pub globals : All (λ g. IsFitting g.init) m.globals
  pub elements : All (λ e. IsFitting e.offset) m.elements
  pub segments : All (λ s. IsFitting s.offset) m.segments
