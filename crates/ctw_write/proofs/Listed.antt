-- Texts of the items of a list, written one after another.
use Rattle.std.proofs.Common.{◌≡◌, ℕ, zero, suc, ◌+◌, ◌<◌, ◌≤◌, Bool, true, false, List, [], ◌∷◌, ◌++◌, length, take, Option, Some, None, refl, sym, ap, subst, ◌∙◌, append_assoc, append-nil, arith, length-append}
use Rattle.std.specs.Prelude.{slice_get, IsTrue, ◌==◌, cond, filter}
use Rattle.std.specs.List.{All, list_all}
use Rattle.std.proofs.lemmas.List.{take_all}
use Rattle.std.proofs.lemmas.List.Elements.{All-head, All-tail}
use Rattle.std.proofs.lemmas.Option.{slice_get_within}
use Rattle.ctw_ops.specs.Types.{type_byte, byte_types, is_type_byte}
use Rattle.ctw_ops.specs.Tree.{Custom}
use Rattle.ctw_write.proofs.Pieces.{one_more_custom}
use Rattle.ctw_leb.specs.Spelling.{u32_text}
use Rattle.ctw_flat.proofs.TypeBytes.{type_is}
use Rattle.ctw_form.proofs.Params.{typed, types_length}
use Rattle.ctw_write.specs.Canon.{all_texts, vector_text, sized_text, type_text, section_text, items_text, custom_text, customs_text}

-- ---- lists

abbrev some : {A : Type 0} → A → Option A
some x = Some x

some_is : {A : Type 0} (x y : A) → some x ≡ some y → x ≡ y
some_is x y e = cc

none_some : {A : Type 0} (x : A) → None ≡ some x → ⊥
none_some x e = cc

pub take_next : {A : Type 0} (l : List A) (i : ℕ) (a : A) → slice_get l i ≡ Some a → take (suc i) l ≡ take i l ++ a ∷ []
take_next [] i a e = absurd (none_some a e)
take_next (b ∷ l) zero a e = ap (λ x. x ∷ []) (some_is b a e)
take_next (b ∷ l) (suc i) a e = ap (λ x. b ∷ x) (take_next l i a e)

-- the first items of a list are written behind a text
pub record Listed {A : Type 0} (w : A → List ℕ) (items : List A) (i : ℕ) (start written : List ℕ) : Type 0 where
  pub together : written ≡ start ++ all_texts w (take i items)

pub listed_begin : {A : Type 0} (w : A → List ℕ) (items : List A) (start written : List ℕ) → written ≡ start → Listed w items 0 start written
listed_begin w items start written e = record { together = e ∙ sym (append-nil start) }

texts_next : {A : Type 0} (w : A → List ℕ) (items : List A) (i : ℕ) (a : A) → slice_get items i ≡ Some a → all_texts w (take (suc i) items) ≡ all_texts w (take i items) ++ w a
texts_next w [] i a e = absurd (none_some a e)
texts_next w (b ∷ items) zero a e = append-nil (w b) ∙ ap w (some_is b a e)
texts_next w (b ∷ items) (suc i) a e = ap (λ (l : List ℕ). w b ++ l) (texts_next w items i a e) ∙ sym (append_assoc (w b) (all_texts w (take i items)) (w a))

pub listed_next : {A : Type 0} (w : A → List ℕ) (items : List A) (i : ℕ) (a : A) (start written then : List ℕ) → slice_get items i ≡ Some a → then ≡ written ++ w a → Listed w items i start written → Listed w items (i + 1) start then
listed_next w items i a start written then e q h =
    let next : suc i ≡ i + 1 = omega arith in
    record {
      together = q ∙ ap (λ (l : List ℕ). l ++ w a) h.together ∙ append_assoc start (all_texts w (take i items)) (w a)
          ∙ ap (λ (l : List ℕ). start ++ l) (sym (texts_next w items i a e)) ∙ ap (λ (k : ℕ). start ++ all_texts w (take k items)) next;
    }

pub listed_end : {A : Type 0} (w : A → List ℕ) (items : List A) (i : ℕ) (start written : List ℕ) → length items ≤ i → Listed w items i start written → written ≡ start ++ all_texts w items
listed_end w items i start written le h = h.together ∙ ap (λ l. start ++ all_texts w l) (take_all i items le)

-- the text of one of the items is short where all are
pub one_short : {A : Type 0} (w : A → List ℕ) (items : List A) (i : ℕ) (a : A) → slice_get items i ≡ Some a → length (w a) ≤ length (all_texts w items)
one_short w [] i a e = absurd (none_some a e)
one_short w (b ∷ items) zero a e = omega (arith, ap (λ x. length (w x)) (some_is b a e), length-append (w b) (all_texts w items))
one_short w (b ∷ items) (suc i) a e = omega (arith, one_short w items i a e, length-append (w b) (all_texts w items))

-- a section of some items
pub items_some : {A : Type 0} (id : ℕ) (w : A → List ℕ) (items : List A) → 0 < length items → items_text id w items ≡ section_text id (vector_text w items)
items_some id w [] lt = absurd (omega arith)
items_some id w (a ∷ others) lt = refl

pub items_none : {A : Type 0} (id : ℕ) (w : A → List ℕ) (items : List A) → length items ≡ 0 → items_text id w items ≡ []
items_none id w [] e = refl
items_none id w (a ∷ others) e = absurd (omega (arith, e))

-- ---- bytes of types

params_text : (bytes : List ℕ) → IsTrue (list_all is_type_byte bytes) → all_texts type_text (byte_types bytes) ≡ bytes
params_text [] h = refl
params_text (b ∷ bytes) h =
    let t = typed b bytes h in
    rw t.first (ap (λ (l : List ℕ). type_byte t.type ∷ l) (params_text bytes t.others) ∙ ap (λ (n : ℕ). n ∷ bytes) (type_is b t.type t.first))

-- the bytes of types behind their count
pub params_sized : (bytes : List ℕ) → IsTrue (list_all is_type_byte bytes) → sized_text bytes ≡ vector_text type_text (byte_types bytes)
params_sized bytes h = ap (λ (l : List ℕ). u32_text (length bytes) ++ l) (sym (params_text bytes h)) ∙ ap (λ (n : ℕ). u32_text n ++ all_texts type_text (byte_types bytes)) (sym (types_length bytes h))

-- ---- custom sections of a place

-- those of the place among the first ones are written behind a text
pub record CustomsListed (customs : List Custom) (place i : ℕ) (start written : List ℕ) : Type 0 where
  pub together : written ≡ start ++ customs_text place (take i customs)
  pub within : i ≤ length customs

pub customs_begin : (customs : List Custom) (place : ℕ) (start : List ℕ) → CustomsListed customs place 0 start start
customs_begin customs place start = record { together = sym (append-nil start); within = omega arith }

customs_more : (customs : List Custom) (place i : ℕ) (c : Custom) → slice_get customs i ≡ Some c → customs_text place (take (suc i) customs) ≡ customs_text place (take i customs) ++ customs_text place (c ∷ [])
customs_more customs place i c e = ap (customs_text place) (take_next customs i c e) ∙ one_more_custom place (take i customs) c

pub customs_next : (customs : List Custom) (place i : ℕ) (c : Custom) (start written then : List ℕ) → slice_get customs i ≡ Some c → then ≡ written ++ customs_text place (c ∷ []) → CustomsListed customs place i start written → CustomsListed customs place (i + 1) start then
customs_next customs place i c start written then e q h =
    let next : suc i ≡ i + 1 = omega arith in
    let lt : i < length customs = slice_get_within customs i c e in
    record {
      together = q ∙ ap (λ (l : List ℕ). l ++ customs_text place (c ∷ [])) h.together ∙ append_assoc start (customs_text place (take i customs)) (customs_text place (c ∷ []))
          ∙ ap (λ (l : List ℕ). start ++ l) (sym (customs_more customs place i c e)) ∙ ap (λ (k : ℕ). start ++ customs_text place (take k customs)) next;
      within = omega arith;
    }

pub customs_end : (customs : List Custom) (place i : ℕ) (start written : List ℕ) → length customs ≤ i → CustomsListed customs place i start written → written ≡ start ++ customs_text place customs
customs_end customs place i start written le h = h.together ∙ ap (λ l. start ++ customs_text place l) (take_all i customs le)

front_text : (place : ℕ) (d : Custom) (customs : List Custom) → customs_text place (d ∷ customs) ≡ customs_text place (d ∷ []) ++ customs_text place customs
front_text place d customs = go (d.place == place)
  where
    go : (test : Bool) → all_texts custom_text (cond test (d ∷ filter (λ c. c.place == place) customs) (filter (λ c. c.place == place) customs)) ≡ all_texts custom_text (cond test (d ∷ []) []) ++ customs_text place customs
    go true = ap (λ (l : List ℕ). l ++ customs_text place customs) (sym (append-nil (custom_text d)))
    go false = refl

-- the text of one of them is short where all are
pub custom_short : (customs : List Custom) (place i : ℕ) (c : Custom) → slice_get customs i ≡ Some c → length (customs_text place (c ∷ [])) ≤ length (customs_text place customs)
custom_short [] place i c e = absurd (none_some c e)
custom_short (d ∷ customs) place zero c e =
    omega (arith, ap (λ (x : Custom). length (customs_text place (x ∷ []))) (some_is d c e), ap length (front_text place d customs), length-append (customs_text place (d ∷ [])) (customs_text place customs))
custom_short (d ∷ customs) place (suc i) c e = omega (arith, custom_short customs place i c e, ap length (front_text place d customs), length-append (customs_text place (d ∷ [])) (customs_text place customs))

-- an item below the count
pub item_there : {A : Type 0} (l : List A) (i : ℕ) → i < length l → (a : A) × (slice_get l i ≡ Some a)
item_there [] i lt = absurd (omega arith)
item_there (a ∷ l) zero lt = (a, refl)
item_there (a ∷ l) (suc i) lt = item_there l i (omega arith)

-- where there is no item
pub none_past : {A : Type 0} (l : List A) (i : ℕ) → slice_get l i ≡ None → length l ≤ i
none_past [] i e = omega arith
none_past (a ∷ l) zero e = absurd (none_some a (sym e))
none_past (a ∷ l) (suc i) e = omega (arith, none_past l i e)

-- what holds of all holds of one
pub one_of_all : {A : Type 0} (P : A → Type 0) (l : List A) (i : ℕ) (a : A) → All P l → slice_get l i ≡ Some a → P a
one_of_all P [] i a h e = absurd (none_some a e)
one_of_all P (b ∷ l) zero a h e = subst P (some_is b a e) (All-head P b l h)
one_of_all P (b ∷ l) (suc i) a h e = one_of_all P l i a (All-tail P b l h) e
