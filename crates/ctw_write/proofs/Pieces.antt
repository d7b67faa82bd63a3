-- The sections of a module's parts one after another: how a section or a custom section more lengthens their text.
use Rattle.std.proofs.Common.{◌≡◌, ℕ, zero, suc, ◌+◌, ◌<◌, ◌≤◌, true, false, List, [], ◌∷◌, ◌++◌, length, get_or, set, get_or-set_same, get_or-set_other, inl, inr, ne_eqb, eq-eqb, refl, sym, ap, ◌∙◌, append_assoc, append-nil, arith}
use Rattle.std.specs.Prelude.{◌==◌, filter}
use Rattle.std.specs.List.{All}
use Rattle.std.proofs.lemmas.Bool.{cases_eq}
use Rattle.std.proofs.lemmas.List.Elements.{filter-append, All-nil, All-cons, All-head, All-tail, All-append}
use Rattle.ctw_ops.specs.Tree.{Custom}
use Rattle.ctw_ops.specs.Typing.{optional}
use Rattle.ctw_leb.specs.Spelling.{u32_text}
use Rattle.ctw_form.specs.Sections.{Parts}
use Rattle.ctw_write.specs.Canon.{all_texts, type_entry_text, import_text, table_text, memory_text, global_text, export_text, start_text, element_text, segment_text, items_text, custom_text, customs_text, placed_text}
use Rattle.ctw_write.proofs.GroupTexts.{entry_text}

-- the texts of the sections of parts, by their ids
abbrev pub pieces : Parts → List (List ℕ)
pieces p =
    [] ∷ items_text 1 type_entry_text p.types ∷ items_text 2 import_text p.imports ∷ items_text 3 u32_text p.uses ∷ items_text 4 table_text (optional p.table) ∷ items_text 5 memory_text (optional p.memory)
    ∷ items_text 6 global_text p.globals ∷ items_text 7 export_text p.exports ∷ start_text p.start ∷ items_text 9 element_text p.elements ∷ items_text 10 entry_text p.entries ∷ items_text 11 segment_text p.segments ∷ []

-- texts of sections from an id on, each with the custom sections of its place
abbrev pub laid : ℕ → List (List ℕ) → List Custom → List ℕ
laid k [] customs = []
laid k (x ∷ xs) customs = placed_text k x customs ++ laid (suc k) xs customs

-- ---- custom sections of other places

abbrev pub Before : ℕ → Custom → Type 0
Before k c = c.place < k

pub all_texts-append : {A : Type 0} (w : A → List ℕ) (l r : List A) → all_texts w (l ++ r) ≡ all_texts w l ++ all_texts w r
all_texts-append w [] r = refl
all_texts-append w (a ∷ l) r = ap (λ (x : List ℕ). w a ++ x) (all_texts-append w l r) ∙ sym (append_assoc (w a) (all_texts w l) (all_texts w r))

none_placed : (k place : ℕ) (customs : List Custom) → All (Before k) customs → k ≤ place → customs_text place customs ≡ []
none_placed k place [] h le = refl
none_placed k place (c ∷ customs) h le =
    let lt : c.place < k = All-head (Before k) c customs h in
    let other : (c.place == place) ≡ false = ne_eqb c.place place (λ e. omega arith) in
    rw other (none_placed k place customs (All-tail (Before k) c customs h) le)

pub one_more_custom : (place : ℕ) (customs : List Custom) (c : Custom) → customs_text place (customs ++ c ∷ []) ≡ customs_text place customs ++ customs_text place (c ∷ [])
one_more_custom place customs c =
    ap (all_texts custom_text) (filter-append (λ d. d.place == place) customs (c ∷ [])) ∙ all_texts-append custom_text (filter (λ d. d.place == place) customs) (filter (λ d. d.place == place) (c ∷ []))

-- ---- nothing from an id on

abbrev pub EmptyFrom : ℕ → List (List ℕ) → Type 0
EmptyFrom j xs = (i : ℕ) → j ≤ i → get_or xs i [] ≡ []

pub wider : (k n : ℕ) (customs : List Custom) → k ≤ n → All (Before k) customs → All (Before n) customs
wider k n [] le h = All-nil (Before n)
wider k n (c ∷ customs) le h =
    let lt : c.place < k = All-head (Before k) c customs h in
    All-cons (Before n) c customs (omega arith) (wider k n customs le (All-tail (Before k) c customs h))

nothing_laid : (k : ℕ) (xs : List (List ℕ)) (customs : List Custom) → EmptyFrom 0 xs → All (Before k) customs → laid k xs customs ≡ []
nothing_laid k [] customs e h = refl
nothing_laid k (x ∷ xs) customs e h =
    let here : x ≡ [] = e 0 (omega arith) in
    let below = nothing_laid (suc k) xs customs (λ i le. e (suc i) (omega arith)) (wider k (suc k) customs (omega arith) h) in
    rw (here, none_placed k k customs h (omega arith), below) refl

-- ---- one more

-- a section behind all others
pub section_laid : (k j : ℕ) (xs : List (List ℕ)) (x : List ℕ) (customs : List Custom) → j < length xs → EmptyFrom j xs → All (Before (k + j)) customs → laid k (set xs j x) customs ≡ laid k xs customs ++ x
section_laid k j [] x customs lt e h = absurd (omega arith)
section_laid k zero (y ∷ ys) x customs lt e h =
    let before : All (Before k) customs = wider (k + 0) k customs (omega arith) h in
    let here : y ≡ [] = e 0 (omega arith) in
    let others = nothing_laid (suc k) ys customs (λ i le. e (suc i) (omega arith)) (wider k (suc k) customs (omega arith) before) in
    let none = none_placed k k customs before (omega arith) in
    rw (here, none, others) (append-nil (x ++ []) ∙ append-nil x)
section_laid k (suc j) (y ∷ ys) x customs lt e h =
    let before : All (Before (suc k + j)) customs = wider (k + suc j) (suc k + j) customs (omega arith) h in
    let others = section_laid (suc k) j ys x customs (omega arith) (λ i le. e (suc i) (omega arith)) before in
    ap (λ (l : List ℕ). placed_text k y customs ++ l) others ∙ sym (append_assoc (placed_text k y customs) (laid (suc k) ys customs) x)

here_text : (place : ℕ) (c : Custom) → c.place ≡ place → customs_text place (c ∷ []) ≡ custom_text c
here_text place c e =
    let same : (c.place == place) ≡ true = eq-eqb c.place place e in
    rw same (append-nil (custom_text c))

other_text : (place : ℕ) (c : Custom) → place < c.place → customs_text place (c ∷ []) ≡ []
other_text place c lt =
    let other : (c.place == place) ≡ false = ne_eqb c.place place (λ e. omega arith) in
    rw other refl

-- a custom section behind the section of its place
pub custom_laid : (k j : ℕ) (xs : List (List ℕ)) (customs : List Custom) (c : Custom) → c.place ≡ k + j → j < length xs → EmptyFrom (suc j) xs → All (Before (suc (k + j))) customs
    → laid k xs (customs ++ c ∷ []) ≡ laid k xs customs ++ custom_text c
custom_laid k j [] customs c p lt e h = absurd (omega arith)
custom_laid k zero (y ∷ ys) customs c p lt e h =
    let before : All (Before (suc k)) customs = wider (suc (k + 0)) (suc k) customs (omega arith) h in
    let both : All (Before (suc k)) (customs ++ c ∷ []) = All-append (Before (suc k)) customs (c ∷ []) before (All-cons (Before (suc k)) c [] (omega arith) (All-nil (Before (suc k)))) in
    let empty : EmptyFrom 0 ys = λ i le. e (suc i) (omega arith) in
    let here : customs_text k (customs ++ c ∷ []) ≡ customs_text k customs ++ custom_text c = one_more_custom k customs c ∙ ap (λ (l : List ℕ). customs_text k customs ++ l) (here_text k c (p ∙ omega arith)) in
    rw (nothing_laid (suc k) ys customs empty before, nothing_laid (suc k) ys (customs ++ c ∷ []) empty both)
    (append-nil (placed_text k y (customs ++ c ∷ [])) ∙ ap (λ (l : List ℕ). y ++ l) here ∙ sym (append_assoc y (customs_text k customs) (custom_text c)) ∙ ap (λ (l : List ℕ). l ++ custom_text c) (sym (append-nil (placed_text k y customs))))
custom_laid k (suc j) (y ∷ ys) customs c p lt e h =
    let before : All (Before (suc (suc k + j))) customs = wider (suc (k + suc j)) (suc (suc k + j)) customs (omega arith) h in
    let others = custom_laid (suc k) j ys customs c (omega arith) (omega arith) (λ i le. e (suc i) (omega arith)) before in
    let here : customs_text k (customs ++ c ∷ []) ≡ customs_text k customs = one_more_custom k customs c ∙ ap (λ (l : List ℕ). customs_text k customs ++ l) (other_text k c (omega arith)) ∙ append-nil (customs_text k customs) in
    ap (λ (l : List ℕ). (y ++ l) ++ laid (suc k) ys (customs ++ c ∷ [])) here ∙ ap (λ (l : List ℕ). placed_text k y customs ++ l) others ∙ sym (append_assoc (placed_text k y customs) (laid (suc k) ys customs) (custom_text c))

-- ---- which parts are empty

pub nil_cons : {A : Type 0} (a : A) (l : List A) → a ∷ l ≡ [] → ⊥
nil_cons a l e = cc

pub no_items : {A : Type 0} (id : ℕ) (w : A → List ℕ) (items : List A) → items_text id w items ≡ [] → items ≡ []
no_items id w [] e = refl
no_items id w (a ∷ others) e = absurd (nil_cons id _ e)

-- a section in its place leaves the others empty
pub set_empty : (j : ℕ) (xs : List (List ℕ)) (x : List ℕ) (place : ℕ) → EmptyFrom (suc place) xs → place ≤ j → EmptyFrom (suc j) (set xs j x)
set_empty j xs x place e le i more = get_or-set_other xs j i x [] (λ same. omega arith) ∙ e i (omega arith)

pub set_nothing : (j : ℕ) (xs : List (List ℕ)) (place : ℕ) → j < length xs → EmptyFrom (suc place) xs → EmptyFrom (suc place) (set xs j [])
set_nothing j xs place lt e i more =
    elim (cases_eq i j) [
      | inl same ↦ ap (λ (k : ℕ). get_or (set xs j []) k []) same ∙ get_or-set_same xs j [] [] lt
      | inr other ↦ get_or-set_other xs j i [] [] other ∙ e i more
    ]
