-- Pieces are gathered from the last one on.
use Rattle.std.proofs.Common.{◌≡◌, ℕ, List, [], ◌∷◌, ◌++◌, refl, ap}
use Rattle.std.specs.Prelude.{Bool, true, false, Option}
use Rattle.ctw_text.specs.declared.fields.Raw.{Raw}
use Rattle.ctw_names.specs.Pending.{pending}
use Rattle.ctw_ops.specs.declared.types.Label.{Label}
use Rattle.ctw_ops.specs.declared.types.Width.{Width}
use Rattle.ctw_text.specs.declared.pieces.Piece.{Piece}
use Rattle.ctw_text.specs.Fields.{Gathered, at_place, empty, gathered, put}
use Rattle.ctw_text.specs.declared.keys.LeafKind.{LeafKind}
use Rattle.ctw_text.specs.declared.keys.LeafKind.TheVariants as kind
use Rattle.ctw_text.specs.Leaves.{leaf_of}

-- what is gathered with these pieces before it
abbrev pub onto : List Piece → Gathered → Gathered
onto [] g = g
onto (p ∷ ps) g = put p (onto ps g)

abbrev pub nothing_yet : Gathered
nothing_yet = record { draft = empty; fields = [] }

pub onto_start : (ps : List Piece) → onto ps nothing_yet ≡ gathered ps
onto_start [] = refl
onto_start (p ∷ ps) = ap (put p) (onto_start ps)

pub onto_more : (ps : List Piece) (p : Piece) (g : Gathered) → onto (ps ++ p ∷ []) g ≡ onto ps (put p g)
onto_more [] p g = refl
onto_more (q ∷ ps) p g = ap (put q) (onto_more ps p g)

-- what is no access stays as it is
pub other_leaf : (k : LeafKind) (offset : ℕ) (align : Option ℕ) → ((w : Width) (l : Label) (b : ℕ) (s : Bool) (a o : ℕ) → k ≡ kind.Load w l b s a o → ⊥) → ((w : Width) (l : Label) (b a o : ℕ) → k ≡ kind.Store w l b a o → ⊥)
    → leaf_of k ≡ at_place (leaf_of k) offset align
other_leaf kind.Unreachable offset align load store = refl
other_leaf kind.Nop offset align load store = refl
other_leaf kind.Return offset align load store = refl
other_leaf kind.Drop offset align load store = refl
other_leaf (kind.Select l) offset align load store = refl
other_leaf kind.MemorySize offset align load store = refl
other_leaf kind.MemoryGrow offset align load store = refl
other_leaf (kind.Load w l b s a o) offset align load store = absurd (load w l b s a o refl)
other_leaf (kind.Store w l b a o) offset align load store = absurd (store w l b a o refl)
other_leaf (kind.Const w l bits) offset align load store = refl
other_leaf (kind.Numeric op l) offset align load store = refl
other_leaf (kind.Classify w) offset align load store = refl
other_leaf (kind.Declassify w) offset align load store = refl

pub pending_end : (folds : Bool) (held : List Raw) → pending folds held [] ≡ []
pending_end true held = refl
pending_end false held = refl
