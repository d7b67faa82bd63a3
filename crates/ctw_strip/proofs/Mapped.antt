-- Texts of the items that a function gives, and of the type entries that are kept.
use Rattle.std.proofs.Common.{◌≡◌, ℕ, zero, suc, ◌+◌, ◌<◌, ◌≤◌, true, false, List, [], ◌∷◌, ◌++◌, length, take, map, slice_get, get_or, is_some, IsTrue, IfSome, Option, Some, None, option_map, refl, sym, ap, ◌∙◌, append_assoc, arith}
use Rattle.std.specs.List.{cons_option, list_all}
use Rattle.std.proofs.lemmas.Bool.{false≢true}
use Rattle.std.proofs.lemmas.List.{length-map}
use Rattle.std.proofs.lemmas.Option.{slice_get-map}
use Rattle.ctw_ops.specs.declared.types.Label.{Label}
use Rattle.ctw_ops.specs.ValueType.{ValueType}
use Rattle.ctw_ops.specs.Types.{FunctionType, type_byte, byte_type, byte_types, is_type_byte, erase_value_type}
use Rattle.ctw_ops.specs.Tree.{TypeEntry}
use Rattle.ctw_ops.specs.Erasure.{kept_entry, erase_entries}
use Rattle.ctw_leb.specs.Spelling.{u32_text}
use Rattle.ctw_write.specs.Canon.{all_texts, vector_text, type_text, type_entry_text}
use Rattle.ctw_form.proofs.Params.{types_at, type_byte_at, types_length}
use Rattle.ctw_write.proofs.Listed.{Listed, listed_next, listed_end}
use Rattle.ctw_strip.specs.Stripped.{kept_text}

-- ---- items that a function gives

pub texts_map : {A B : Type 0} (w : B → List ℕ) (f : A → B) (l : List A) → all_texts w (map f l) ≡ all_texts (λ a. w (f a)) l
texts_map w f [] = refl
texts_map w f (a ∷ l) = ap (λ (t : List ℕ). w (f a) ++ t) (texts_map w f l)

pub mapped_at : {A B : Type 0} (f : A → B) (l : List A) (i : ℕ) (a : A) → slice_get l i ≡ Some a → slice_get (map f l) i ≡ Some (f a)
mapped_at f l i a e = slice_get-map f l i ∙ ap (option_map f) e

-- all of them are written behind their count
counted_end : {A : Type 0} (w : A → List ℕ) (l : List A) (i n : ℕ) (out start written : List ℕ) → length l ≤ i → start ≡ out ++ u32_text n → Listed w l i start written → written ≡ out ++ (u32_text n ++ all_texts w l)
counted_end w l i n out start written le s h = listed_end w l i start written le h ∙ ap (λ (t : List ℕ). t ++ all_texts w l) s ∙ append_assoc out (u32_text n) (all_texts w l)

pub mapped_end : {A B : Type 0} (w : B → List ℕ) (f : A → B) (l : List A) (i n : ℕ) (out start written : List ℕ) → n ≡ length l → n ≤ i → start ≡ out ++ u32_text n → Listed (λ a. w (f a)) l i start written → written ≡ out ++ vector_text w (map f l)
mapped_end {A} w f l i n out start written e le s h =
    let size : n ≡ length (map f l) = e ∙ sym (length-map l f) in
    counted_end (λ (a : A). w (f a)) l i n out start written (omega (arith, e)) s h
    ∙ ap (λ (t : List ℕ). out ++ (u32_text n ++ t)) (sym (texts_map w f l))
    ∙ ap (λ (k : ℕ). out ++ (u32_text k ++ all_texts w (map f l))) size

-- ---- type entries that are kept

kept_texts : (l : List (TypeEntry Label)) → all_texts type_entry_text (erase_entries l) ≡ all_texts kept_text l
kept_texts [] = refl
kept_texts (d ∷ ds) = go d.base (kept_texts ds)
  where
    go : (b : Option ℕ) → all_texts type_entry_text (erase_entries ds) ≡ all_texts kept_text ds
        → all_texts type_entry_text (cons_option (kept_entry b d.type) (erase_entries ds)) ≡ kept_text (record { base = b; type = d.type }) ++ all_texts kept_text ds
    go None h = ap (λ (t : List ℕ). kept_text (record { base = None; type = d.type }) ++ t) h
    go (Some base) h = h

pub kept_end : (l : List (TypeEntry Label)) (i n : ℕ) (out start written : List ℕ) → n ≡ length (erase_entries l) → length l ≤ i → start ≡ out ++ u32_text n → Listed kept_text l i start written → written ≡ out ++ vector_text type_entry_text (erase_entries l)
kept_end l i n out start written e le s h =
    counted_end kept_text l i n out start written le s h ∙ ap (λ (t : List ℕ). out ++ (u32_text n ++ t)) (sym (kept_texts l)) ∙ ap (λ (k : ℕ). out ++ (u32_text k ++ all_texts type_entry_text (erase_entries l))) e

-- how many of the first ones are kept
abbrev pub kept_of : List (TypeEntry Label) → ℕ → ℕ
kept_of l i = length (erase_entries (take i l))

some_is : {A : Type 0} (x y : A) → Some x ≡ Some y → x ≡ y
some_is x y e = cc

both_more : (b : Option ℕ) (t : FunctionType Label) (xs ys : List (TypeEntry Label)) (n : ℕ) → length xs ≡ length ys + n → length (cons_option (kept_entry b t) xs) ≡ length (cons_option (kept_entry b t) ys) + n
both_more None t xs ys n e = omega (arith, e)
both_more (Some base) t xs ys n e = e

none_more : (b : Option ℕ) (t : FunctionType Label) → is_some b ≡ false → length (cons_option (kept_entry b t) []) ≡ 1
none_more None t e = refl
none_more (Some base) t e = absurd (false≢true (sym e))

some_more : (b : Option ℕ) (t : FunctionType Label) → is_some b ≡ true → length (cons_option (kept_entry b t) []) ≡ 0
some_more None t e = absurd (false≢true e)
some_more (Some base) t e = refl

one_kept : (l : List (TypeEntry Label)) (i : ℕ) (base : Option ℕ) → slice_get (map (λ entry. entry.base) l) i ≡ Some base → is_some base ≡ false → kept_of l (suc i) ≡ kept_of l i + 1
one_kept [] i base e h = absurd cc
one_kept (d ∷ ds) zero base e h = none_more d.base d.type (ap is_some (some_is d.base base e) ∙ h)
one_kept (d ∷ ds) (suc i) base e h = both_more d.base d.type (erase_entries (take (suc i) ds)) (erase_entries (take i ds)) 1 (one_kept ds i base e h)

none_kept : (l : List (TypeEntry Label)) (i : ℕ) (base : Option ℕ) → slice_get (map (λ entry. entry.base) l) i ≡ Some base → is_some base ≡ true → kept_of l (suc i) ≡ kept_of l i + 0
none_kept [] i base e h = absurd cc
none_kept (d ∷ ds) zero base e h = some_more d.base d.type (ap is_some (some_is d.base base e) ∙ h)
none_kept (d ∷ ds) (suc i) base e h = both_more d.base d.type (erase_entries (take (suc i) ds)) (erase_entries (take i ds)) 0 (none_kept ds i base e h)

-- one entry more, which is kept or not
pub counts_one : (l : List (TypeEntry Label)) (i : ℕ) (base : Option ℕ) → slice_get (map (λ entry. entry.base) l) i ≡ Some base → is_some base ≡ false → kept_of l (i + 1) ≡ kept_of l i + 1
counts_one l i base e h =
    let next : i + 1 ≡ suc i = omega arith in
    ap (kept_of l) next ∙ one_kept l i base e h

pub counts_none : (l : List (TypeEntry Label)) (i : ℕ) (base : Option ℕ) → slice_get (map (λ entry. entry.base) l) i ≡ Some base → is_some base ≡ true → kept_of l (i + 1) ≡ kept_of l i
counts_none l i base e h =
    let next : i + 1 ≡ suc i = omega arith in
    let same : kept_of l i + 0 ≡ kept_of l i = omega arith in
    ap (kept_of l) next ∙ none_kept l i base e h ∙ same

-- ---- types of bytes

abbrev public_text : ValueType Label → List ℕ
public_text t = type_text (erase_value_type t)

pub byte_next : (bytes : List ℕ) (i byte : ℕ) (start written then : List ℕ) → IsTrue (list_all is_type_byte bytes) → i < length bytes → IfSome (byte_type (get_or bytes i 0)) (λ t. byte ≡ type_byte (erase_value_type t)) → then ≡ written ++ byte ∷ []
    → Listed public_text (byte_types bytes) i start written → Listed public_text (byte_types bytes) (i + 1) start then
byte_next bytes i byte start written then h lt is e listed = go (byte_type (get_or bytes i 0)) (types_at bytes i 0 h lt) (type_byte_at bytes i 0 h lt) is
  where
    go : (o : Option (ValueType Label)) → slice_get (byte_types bytes) i ≡ o → IsTrue (is_some o) → IfSome o (λ t. byte ≡ type_byte (erase_value_type t)) → Listed public_text (byte_types bytes) (i + 1) start then
    go None q s w = absurd (false≢true s)
    go (Some t) q s w = listed_next public_text (byte_types bytes) i t start written then q (e ∙ ap (λ (n : ℕ). written ++ n ∷ []) w) listed

pub bytes_end : (bytes : List ℕ) (i : ℕ) (start written : List ℕ) → IsTrue (list_all is_type_byte bytes) → length bytes ≤ i → Listed public_text (byte_types bytes) i start written → written ≡ start ++ all_texts type_text (map erase_value_type (byte_types bytes))
bytes_end bytes i start written h le listed =
    listed_end public_text (byte_types bytes) i start written (omega (arith, types_length bytes h)) listed ∙ ap (λ (l : List ℕ). start ++ l) (sym (texts_map type_text erase_value_type (byte_types bytes)))
