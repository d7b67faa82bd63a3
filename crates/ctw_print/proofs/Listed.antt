-- Texts of the items of a list, printed one after another.
use Rattle.std.proofs.Common.{◌≡◌, ℕ, zero, suc, ◌+◌, ◌<◌, ◌≤◌, List, [], ◌∷◌, ◌++◌, length, take, drop, get_or, Option, Some, None, IsTrue, refl, sym, ap, subst, ◌∙◌, append_assoc, append-nil, arith, codes}
use Rattle.std.specs.Prelude.{slice_get}
use Rattle.std.specs.List.{All, list_all}
use Rattle.std.proofs.lemmas.List.{take_all, drop_all}
use Rattle.std.proofs.lemmas.List.Elements.{All-head, All-tail}
use Rattle.ctw_ops.specs.declared.types.Label.{Label}
use Rattle.ctw_ops.specs.Types.{ValueType, byte_type, byte_types, is_type_byte}
use Rattle.ctw_form.proofs.Params.{typed, types_at, types_length}
use Rattle.ctw_print.specs.Texts.{all_texts, spaced_type, params_text, locals_text}

abbrev some : {A : Type 0} → A → Option A
some x = Some x

pub some_is : {A : Type 0} (x y : A) → some x ≡ some y → x ≡ y
some_is x y e = cc

pub none_some : {A : Type 0} (x : A) → None ≡ some x → ⊥
none_some x e = cc

-- the first items of a list are printed behind a text
pub record Listed {A : Type 0} (w : A → List ℕ) (items : List A) (i : ℕ) (start written : List ℕ) : Type 0 where
  pub together : written ≡ start ++ all_texts w (take i items)

pub listed_begin : {A : Type 0} (w : A → List ℕ) (items : List A) (start written : List ℕ) → written ≡ start → Listed w items 0 start written
listed_begin w items start written e = record { together = e ∙ sym (append-nil start) }

texts_next : {A : Type 0} (w : A → List ℕ) (items : List A) (i : ℕ) (a : A) → slice_get items i ≡ Some a → all_texts w (take (suc i) items) ≡ all_texts w (take i items) ++ w a
texts_next w [] i a e = absurd (none_some a e)
texts_next w (b ∷ items) zero a e = append-nil (w b) ∙ ap w (some_is b a e)
texts_next w (b ∷ items) (suc i) a e = ap (λ (l : List ℕ). w b ++ l) (texts_next w items i a e) ∙ sym (append_assoc (w b) (all_texts w (take i items)) (w a))

pub listed_next : {A : Type 0} (w : A → List ℕ) (items : List A) (i : ℕ) (a : A) (start written then : List ℕ) → slice_get items i ≡ Some a → then ≡ written ++ w a → Listed w items i start written → Listed w items (i + 1) start then
listed_next w items i a start written then e q h =
    let next : suc i ≡ i + 1 = omega arith in
    record {
      together = q ∙ ap (λ (l : List ℕ). l ++ w a) h.together ∙ append_assoc start (all_texts w (take i items)) (w a)
          ∙ ap (λ (l : List ℕ). start ++ l) (sym (texts_next w items i a e)) ∙ ap (λ (k : ℕ). start ++ all_texts w (take k items)) next;
    }

pub listed_end : {A : Type 0} (w : A → List ℕ) (items : List A) (i : ℕ) (start written : List ℕ) → length items ≤ i → Listed w items i start written → written ≡ start ++ all_texts w items
listed_end w items i start written le h = h.together ∙ ap (λ l. start ++ all_texts w l) (take_all i items le)

-- an item below the count
pub item_there : {A : Type 0} (l : List A) (i : ℕ) → i < length l → (a : A) × (slice_get l i ≡ Some a)
item_there [] i lt = absurd (omega arith)
item_there (a ∷ l) zero lt = (a, refl)
item_there (a ∷ l) (suc i) lt = item_there l i (omega arith)

pub item_is : {A : Type 0} (l : List A) (i : ℕ) (d : A) → i < length l → slice_get l i ≡ Some (get_or l i d)
item_is [] i d lt = absurd (omega arith)
item_is (a ∷ l) zero d lt = refl
item_is (a ∷ l) (suc i) d lt = item_is l i d (omega arith)

-- what holds of all holds of one
pub one_of_all : {A : Type 0} (P : A → Type 0) (l : List A) (i : ℕ) (a : A) → All P l → slice_get l i ≡ Some a → P a
one_of_all P [] i a h e = absurd (none_some a e)
one_of_all P (b ∷ l) zero a h e = subst P (some_is b a e) (All-head P b l h)
one_of_all P (b ∷ l) (suc i) a h e = one_of_all P l i a (All-tail P b l h) e

-- ---- bytes that stand for types

pub byte_typed : (byte : ℕ) → IsTrue (is_type_byte byte) → (t : ValueType Label) × (byte_type byte ≡ Some t)
byte_typed byte h = let t = typed byte [] (rw h refl) in (t.type, t.first)

pub one_typed : (byte : ℕ) (t : ValueType Label) → byte_type byte ≡ Some t → all_texts spaced_type (byte_types (byte ∷ [])) ≡ spaced_type t
one_typed byte t e = rw e (append-nil (spaced_type t))

-- one byte more
pub typed_next : (bytes : List ℕ) (i d : ℕ) (start written then : List ℕ) → IsTrue (list_all is_type_byte bytes) → i < length bytes → then ≡ written ++ all_texts spaced_type (byte_types (get_or bytes i d ∷ []))
    → Listed spaced_type (byte_types bytes) i start written → Listed spaced_type (byte_types bytes) (i + 1) start then
typed_next bytes i d start written then h lt q l =
    let a = item_there (byte_types bytes) i (omega (arith, lt, types_length bytes h)) in
    let t : byte_type (get_or bytes i d) ≡ Some a.0 = sym (types_at bytes i d h lt) ∙ a.1 in
    listed_next spaced_type (byte_types bytes) i a.0 start written then a.1 (q ∙ ap (λ (x : List ℕ). written ++ x) (one_typed (get_or bytes i d) a.0 t)) l

pub typed_end : (bytes : List ℕ) (i : ℕ) (start written : List ℕ) → IsTrue (list_all is_type_byte bytes) → length bytes ≤ i → Listed spaced_type (byte_types bytes) i start written → written ≡ start ++ all_texts spaced_type (byte_types bytes)
typed_end bytes i start written h le l = listed_end spaced_type (byte_types bytes) i start written (omega (arith, le, types_length bytes h)) l

-- ---- groups that are left out where there are no types

pub params_none : (ts : List (ValueType Label)) → length ts ≡ 0 → params_text ts ≡ []
params_none [] e = refl
params_none (t ∷ ts) e = absurd (omega (arith, e))

pub params_some : (ts : List (ValueType Label)) → 0 < length ts → params_text ts ≡ codes " (param" ++ all_texts spaced_type ts ++ codes ")"
params_some [] lt = absurd (omega (arith, lt))
params_some (t ∷ ts) lt = refl

pub locals_none : (ts : List (ValueType Label)) → length ts ≡ 0 → locals_text ts ≡ []
locals_none [] e = refl
locals_none (t ∷ ts) e = absurd (omega (arith, e))

pub locals_some : (ts : List (ValueType Label)) → 0 < length ts → locals_text ts ≡ codes " (local" ++ all_texts spaced_type ts ++ codes ")"
locals_some [] lt = absurd (omega (arith, lt))
locals_some (t ∷ ts) lt = refl

-- ---- from an item on

drop_next : {A : Type 0} (l : List A) (i : ℕ) (a : A) → slice_get l i ≡ Some a → drop i l ≡ a ∷ drop (suc i) l
drop_next [] i a e = absurd (none_some a e)
drop_next (b ∷ l) zero a e = ap (λ x. x ∷ l) (some_is b a e)
drop_next (b ∷ l) (suc i) a e = drop_next l i a e

-- what is printed, with the texts of the items that are left, stays the same
pub left_next : {A : Type 0} (w : A → List ℕ) (items : List A) (i : ℕ) (a : A) (written then whole : List ℕ) → slice_get items i ≡ Some a → then ≡ written ++ w a → written ++ all_texts w (drop i items) ≡ whole
    → then ++ all_texts w (drop (i + 1) items) ≡ whole
left_next w items i a written then whole e q h =
    let next : suc i ≡ i + 1 = omega arith in
    ap (λ (l : List ℕ). l ++ all_texts w (drop (i + 1) items)) q ∙ append_assoc written (w a) (all_texts w (drop (i + 1) items))
    ∙ ap (λ (k : ℕ). written ++ (w a ++ all_texts w (drop k items))) (sym next) ∙ ap (λ l. written ++ all_texts w l) (sym (drop_next items i a e)) ∙ h

pub left_end : {A : Type 0} (w : A → List ℕ) (items : List A) (i : ℕ) (written whole : List ℕ) → length items ≤ i → written ++ all_texts w (drop i items) ≡ whole → written ≡ whole
left_end w items i written whole le h = sym (append-nil written) ∙ ap (λ l. written ++ all_texts w l) (sym (drop_all i items le)) ∙ h
