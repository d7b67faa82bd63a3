-- What is written of a section, one item after another, and that its numbers have 32 bits.
use Rattle.std.proofs.Common.{◌≡◌, ℕ, suc, ◌+◌, ◌<◌, ◌≤◌, List, [], ◌∷◌, ◌++◌, length, take, get_or, Some, sym, ap, subst, ◌∙◌, append-nil, arith}
use Rattle.std.specs.List.{All}
use Rattle.std.specs.Prelude.{slice_get, Result, Ok, Err, OnOk}
use Rattle.std.proofs.lemmas.List.{take_all}
use Rattle.std.proofs.lemmas.List.Elements.{All-nil, All-push, All-same}
use Rattle.std.proofs.lemmas.Option.{slice_get-get_or}
use Rattle.ctw_ops.specs.Tree.{Custom}
use Rattle.ctw_leb.specs.Spelling.{u32_text}
use Rattle.ctw_write.specs.Canon.{all_texts, vector_text, sized_text, customs_text}
use Rattle.ctw_write.specs.KeepsLimits.{IsShort}
use Rattle.ctw_write.proofs.Listed.{take_next, Listed, listed_next, listed_end, CustomsListed, customs_next}
use Rattle.ctw_write.proofs.FormedNumbers.{number_short}
use Rattle.ctw_parse.specs.Numbers.{AreNumbered, AreShortFrom}

-- one more of the first items
all_next : {A : Type 0} (P : A → Type 0) (items : List A) (i : ℕ) (a : A) → slice_get items i ≡ Some a → P a → All P (take i items) → All P (take (i + 1) items)
all_next P items i a e p h =
    let next : suc i ≡ i + 1 = omega arith in
    subst (λ (k : ℕ). All P (take k items)) next (All-same P (take (suc i) items) (take i items ++ a ∷ []) (take_next items i a e) (All-push P (take i items) a h p))

-- the first items of a list are written, and each has a property
abbrev pub ListedWith : {A : Type 0} → (A → Type 0) → (A → List ℕ) → List A → ℕ → (start written : List ℕ) → Type 0
ListedWith P w items i start written = Listed w items i start written × All P (take i items)

pub item_at : {A : Type 0} (items : List A) (i : ℕ) (a : A) → i < length items → a ≡ get_or items i a → slice_get items i ≡ Some a
item_at items i a lt e = slice_get-get_or items i a lt ∙ ap (λ x. Some x) (sym e)

pub section_next : {A : Type 0} (P : A → Type 0) (w : A → List ℕ) (items : List A) (i : ℕ) (a : A) (start written then : List ℕ) → slice_get items i ≡ Some a → then ≡ written ++ w a → P a → ListedWith P w items i start written → ListedWith P w items (i + 1) start then
section_next P w items i a start written then e q p h =
    (listed_next w items i a start written then e q h.0, all_next P items i a e p h.1)

-- all of them
pub all_taken : {A : Type 0} (P : A → Type 0) (items : List A) (i : ℕ) → length items ≤ i → All P (take i items) → All P items
all_taken P items i le h = All-same P items (take i items) (sym (take_all i items le)) h

pub section_end : {A : Type 0} (P : A → Type 0) (w : A → List ℕ) (items : List A) (i : ℕ) (fresh start written contents : List ℕ) → length items ≤ i → fresh ≡ [] → start ≡ fresh ++ u32_text (length items) → ListedWith P w items i start written → contents ≡ written → IsShort contents → AreNumbered P w items
section_end P w items i fresh start written contents le none e h same short =
    let text : contents ≡ vector_text w items =
    same ∙ listed_end w items i start written le h.0 ∙ ap (λ (l : List ℕ). l ++ all_texts w items) (e ∙ ap (λ (l : List ℕ). l ++ u32_text (length items)) none)
    in
    record { numbers = all_taken P items i le h.1; size = subst IsShort text short }

pub section_none : {A : Type 0} (P : A → Type 0) (w : A → List ℕ) (items : List A) → length items ≡ 0 → AreNumbered P w items
section_none P w [] e = record { numbers = All-nil P; size = subst IsShort (sym (append-nil (u32_text 0))) (number_short 0) }
section_none P w (a ∷ items) e = absurd (omega (arith, e))

-- ---- custom sections

abbrev IsShortAt : (from to : ℕ) → Custom → Type 0
IsShortAt from to c = from ≤ c.place → c.place ≤ to → IsShort (sized_text c.name ++ c.bytes)

-- those of a place among the first ones are written
abbrev pub CustomsWith : List Custom → (place i : ℕ) → (start written : List ℕ) → Type 0
CustomsWith customs place i start written = CustomsListed customs place i start written × AreShortFrom place place (take i customs)

pub customs_more : (customs : List Custom) (place i : ℕ) (c : Custom) (start written then : List ℕ) → slice_get customs i ≡ Some c → then ≡ written ++ customs_text place (c ∷ []) → (c.place ≡ place → IsShort (sized_text c.name ++ c.bytes)) → CustomsWith customs place i start written → CustomsWith customs place (i + 1) start then
customs_more customs place i c start written then e q short h = (customs_next customs place i c start written then e q h.0, all_next (IsShortAt place place) customs i c e (λ low high. short (omega (arith, low, high))) h.1)

pub customs_all : (customs : List Custom) (place i : ℕ) → length customs ≤ i → AreShortFrom place place (take i customs) → AreShortFrom place place customs
customs_all customs place i le h = all_taken (IsShortAt place place) customs i le h

-- ---- where a call answers

pub always_ok : {A E P : Type 0} (r : Result A E) → P → OnOk r P
always_ok (Ok a) p = p
always_ok (Err e) p = tt
