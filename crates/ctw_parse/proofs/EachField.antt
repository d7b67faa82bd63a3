-- What holds of each field of a module holds of what the fields stand for.
use Rattle.std.proofs.Common.{◌≡◌, ℕ, Bool, true, false, cond, List, [], ◌∷◌, Option, Some, None, map, refl}
use Rattle.std.specs.Prelude.{filter, flat_map}
use Rattle.std.specs.List.{All, list_all}
use Rattle.std.proofs.lemmas.List.Elements.{All-nil, All-cons, All-append}
use Rattle.ctw_ops.specs.declared.types.Label.{Label}
use Rattle.ctw_ops.specs.declared.types.Width.{Width}
use Rattle.ctw_ops.specs.declared.types.ExternTag.{ExternTag}
use Rattle.ctw_ops.specs.Types.{value_type}
use Rattle.ctw_ops.specs.Code as ops
use Rattle.ctw_ops.specs.Tree as tree
use Rattle.ctw_ops.specs.Tree.{Constant, Import}
use Rattle.ctw_text.specs.declared.pieces.FieldKind.{FieldKind}
use Rattle.ctw_text.specs.declared.pieces.FieldKind.TheVariants as field
use Rattle.ctw_text.specs.declared.fields.Raw.{Raw}
use Rattle.ctw_text.specs.declared.fields.Raw.TheVariants.{Single as RSingle, Uses as RUses, Targets as RTargets, Indirect as RIndirect, Opens as ROpens, Else as RElse, End as REnd}
use Rattle.ctw_text.specs.declared.fields.Item.{Item}
use Rattle.ctw_text.specs.declared.fields.Item.TheVariants.{Op, Folds, Unfolds}
use Rattle.ctw_text.specs.declared.fields.Draft.{Draft}
use Rattle.ctw_text.specs.declared.fields.Field.{Field}
use Rattle.ctw_text.specs.Fields.{unfolded}
use Rattle.ctw_text.specs.Names.{Space, Counts, tag_of, find, import_kind, import_of, constant_in, zero_offset, counted, in_order}
use Rattle.ctw_parse.proofs.Nested.{first_true, second_true, both_true}

-- ---- lists of at most one

pub all_one : {A : Type 0} (P : A → Type 0) (x : A) → P x → All P (x ∷ [])
all_one P x p = All-cons P x [] p (All-nil P)

pub all_maybe : {A : Type 0} (P : A → Type 0) (b : Bool) (x : A) → P x → All P (cond b (x ∷ []) [])
all_maybe P true x p = all_one P x p
all_maybe P false x p = All-nil P

-- ---- fields

-- where `q` holds of each field, `P` holds of what they give
module _ {B : Type 0} (P : B → Type 0) (q : Field → Bool) where
  pub filtered : (g : Field → B) (p : Field → Bool) → ((f : Field) → p f ≡ true → q f ≡ true → P (g f)) → (fs : List Field) → list_all q fs ≡ true → All P (map g (filter p fs))
  filtered g p h [] t = All-nil P
  filtered g p h (f ∷ fs) t = go (filtered g p h fs (second_true _ _ t)) (p f) refl
    where
      go : All P (map g (filter p fs)) → (b : Bool) → p f ≡ b → All P (map g (cond b (f ∷ filter p fs) (filter p fs)))
      go rest true e = All-cons P (g f) (map g (filter p fs)) (h f e (first_true _ _ t)) rest
      go rest false e = rest

  pub flattened : (g : Field → List B) → ((f : Field) → q f ≡ true → All P (g f)) → (fs : List Field) → list_all q fs ≡ true → All P (flat_map g fs)
  flattened g h [] t = All-nil P
  flattened g h (f ∷ fs) t = All-append P (g f) (flat_map g fs) (h f (first_true _ _ t)) (flattened g h fs (second_true _ _ t))

  pub ordered : (give : Counts → Field → List B) → ((c : Counts) (f : Field) → q f ≡ true → All P (give c f)) → (c : Counts) (fs : List Field) → list_all q fs ≡ true → All P (in_order give c fs)
  ordered give h c [] t = All-nil P
  ordered give h c (f ∷ fs) t = All-append P (give c f) (in_order give (counted (tag_of f) c) fs) (h c f (first_true _ _ t)) (ordered give h (counted (tag_of f) c) fs (second_true _ _ t))

-- what a field imports
pub imported_all : (P : Import Label → Type 0) (S : Space) (kind : FieldKind) (d : Draft) → ((from : List ℕ) (tag : ExternTag) → d.from ≡ Some from → P (record { module_name = from; name = d.imported; kind = import_kind S tag d })) → All P (import_of S (record { kind = kind; draft = d }))
imported_all P S field.TypeField d h = All-nil P
imported_all P S field.ImportField d h = go d.from refl
  where
    go : (o : Option (List ℕ)) → d.from ≡ o → All P (import_of S (record { kind = field.ImportField; draft = d }))
    go None e = rw e (All-nil P)
    go (Some from) e = rw e (all_one P _ (h from d.kind e))
imported_all P S field.ExportField d h = All-nil P
imported_all P S field.StartField d h = All-nil P
imported_all P S field.ElemField d h = All-nil P
imported_all P S field.DataField d h = All-nil P
imported_all P S field.CustomField d h = All-nil P
imported_all P S (field.Defining tag) d h = go d.from refl
  where
    go : (o : Option (List ℕ)) → d.from ≡ o → All P (import_of S (record { kind = field.Defining tag; draft = d }))
    go None e = rw e (All-nil P)
    go (Some from) e = rw e (all_one P _ (h from tag e))

-- ---- instructions

-- what holds of the items of a body holds of its instructions in order
pub unfolded_all : (q : Raw → Bool) (p : Item → Bool) → ((r : Raw) → p (Op r) ≡ true → q r ≡ true) → (held : List Raw) (is : List Item) → list_all q held ≡ true → list_all p is ≡ true → list_all q (unfolded held is) ≡ true
unfolded_all q p f held [] h t = refl
unfolded_all q p f held (Folds ∷ []) h t = refl
unfolded_all q p f held (Folds ∷ Op r ∷ is) h t =
    let u = second_true (p Folds) _ t in
    unfolded_all q p f (r ∷ held) is (both_true (f r (first_true (p (Op r)) _ u)) h) (second_true (p (Op r)) _ u)
unfolded_all q p f held (Folds ∷ Folds ∷ is) h t = unfolded_all q p f held (Folds ∷ is) h (second_true (p Folds) _ t)
unfolded_all q p f held (Folds ∷ Unfolds ∷ is) h t = unfolded_all q p f held (Unfolds ∷ is) h (second_true (p Folds) _ t)
unfolded_all q p f [] (Unfolds ∷ is) h t = unfolded_all q p f [] is h (second_true (p Unfolds) _ t)
unfolded_all q p f (r ∷ held) (Unfolds ∷ is) h t = both_true (first_true _ _ h) (unfolded_all q p f held is (second_true _ _ h) (second_true (p Unfolds) _ t))
unfolded_all q p f held (Op r ∷ is) h t = both_true (f r (first_true (p (Op r)) _ t)) (unfolded_all q p f held is h (second_true (p (Op r)) _ t))

-- a constant is the number zero, a number that is written, or a global's
pub constant_all : (S : Space) (P : Constant Label → Type 0) (q : Item → Bool) → P zero_offset → ((w : Width) (l : Label) (bits : ℕ) → q (Op (RSingle (ops.Const w l bits))) ≡ true → P (tree.Number (value_type w l) bits)) → ((n : ℕ) → P (tree.ValueOf n))
    → (is : List Item) → list_all q is ≡ true → P (constant_in S is)
constant_all S P q z f g [] h = z
constant_all S P q z f g (Folds ∷ is) h = z
constant_all S P q z f g (Unfolds ∷ is) h = z
constant_all S P q z f g (Op (RSingle ops.Unreachable) ∷ is) h = z
constant_all S P q z f g (Op (RSingle ops.Nop) ∷ is) h = z
constant_all S P q z f g (Op (RSingle (ops.Br n)) ∷ is) h = z
constant_all S P q z f g (Op (RSingle (ops.BrIf n)) ∷ is) h = z
constant_all S P q z f g (Op (RSingle (ops.BrTable ns n)) ∷ is) h = z
constant_all S P q z f g (Op (RSingle ops.Return) ∷ is) h = z
constant_all S P q z f g (Op (RSingle (ops.Call n)) ∷ is) h = z
constant_all S P q z f g (Op (RSingle (ops.CallIndirect n)) ∷ is) h = z
constant_all S P q z f g (Op (RSingle ops.Drop) ∷ is) h = z
constant_all S P q z f g (Op (RSingle (ops.Select l)) ∷ is) h = z
constant_all S P q z f g (Op (RSingle (ops.LocalGet n)) ∷ is) h = z
constant_all S P q z f g (Op (RSingle (ops.LocalSet n)) ∷ is) h = z
constant_all S P q z f g (Op (RSingle (ops.LocalTee n)) ∷ is) h = z
constant_all S P q z f g (Op (RSingle (ops.GlobalGet n)) ∷ is) h = z
constant_all S P q z f g (Op (RSingle (ops.GlobalSet n)) ∷ is) h = z
constant_all S P q z f g (Op (RSingle (ops.Load w l bytes signed align offset)) ∷ is) h = z
constant_all S P q z f g (Op (RSingle (ops.Store w l bytes align offset)) ∷ is) h = z
constant_all S P q z f g (Op (RSingle ops.MemorySize) ∷ is) h = z
constant_all S P q z f g (Op (RSingle ops.MemoryGrow) ∷ is) h = z
constant_all S P q z f g (Op (RSingle (ops.Const w l bits)) ∷ is) h = f w l bits (first_true _ _ h)
constant_all S P q z f g (Op (RSingle (ops.Numeric op l)) ∷ is) h = z
constant_all S P q z f g (Op (RSingle (ops.Classify w)) ∷ is) h = z
constant_all S P q z f g (Op (RSingle (ops.Declassify w)) ∷ is) h = z
constant_all S P q z f g (Op (RUses op x) ∷ is) h = g (find S.globals x)
constant_all S P q z f g (Op (RTargets xs) ∷ is) h = z
constant_all S P q z f g (Op (RIndirect u) ∷ is) h = z
constant_all S P q z f g (Op (ROpens shape n t) ∷ is) h = z
constant_all S P q z f g (Op (RElse n) ∷ is) h = z
constant_all S P q z f g (Op (REnd n) ∷ is) h = z
