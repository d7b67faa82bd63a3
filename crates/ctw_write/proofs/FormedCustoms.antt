-- Custom sections in rising order are those of each place one after another.
use Rattle.std.proofs.Common.{◌≡◌, ◌≢◌, ℕ, suc, ◌<◌, ◌≤◌, List, [], ◌∷◌, ◌++◌, refl, sym, ap, ◌∙◌, inl, inr, ne_eqb, eq-eqb, le-leb, arith}
use Rattle.std.specs.Prelude.{◌==◌, nat_le, filter}
use Rattle.std.specs.List.{All}
use Rattle.std.specs.List.Sorted.{IsNonDecreasingBy}
use Rattle.std.proofs.lemmas.Bool.{lt-leb, cases_lt, cases_eq}
use Rattle.std.proofs.lemmas.List.Elements.{All-nil, All-cons, All-head, All-tail}
use Rattle.ctw_ops.specs.Tree.{Custom}

-- the custom sections of a place
abbrev pub at_place : ℕ → List Custom → List Custom
at_place place customs = filter (λ c. c.place == place) customs

-- those of the places up to one
abbrev pub upto_place : ℕ → List Custom → List Custom
upto_place place customs = filter (λ c. nat_le c.place place) customs

abbrev IsRising : List Custom → Type 0
IsRising customs = IsNonDecreasingBy (λ c. c.place) customs

rising_tail : (c : Custom) (customs : List Custom) → IsRising (c ∷ customs) → IsRising customs
rising_tail c customs h i j d le within = h (suc i) (suc j) d (omega arith) (omega (arith, within))

rising_head : (c : Custom) (customs : List Custom) → IsRising (c ∷ customs) → All (λ d. c.place ≤ d.place) customs
rising_head c customs h j d within = h 0 (suc j) d (omega arith) (omega (arith, within))

none_upto : (k place : ℕ) (customs : List Custom) → k < place → All (λ c. place ≤ c.place) customs → upto_place k customs ≡ []
none_upto k place [] lt h = refl
none_upto k place (c ∷ customs) lt h =
    let le : place ≤ c.place = All-head (λ d. place ≤ d.place) c customs h in
    rw (lt-leb c.place k (omega arith)) (none_upto k place customs lt (All-tail (λ d. place ≤ d.place) c customs h))

-- those of one place more
pub one_place_more : (k : ℕ) (customs : List Custom) → IsRising customs → upto_place k customs ++ at_place (suc k) customs ≡ upto_place (suc k) customs
one_place_more k [] h = refl
one_place_more k (c ∷ customs) h =
    let others = one_place_more k customs (rising_tail c customs h) in
    elim (cases_lt k c.place) [
      | inr le ↦ rw (le-leb c.place k le, ne_eqb c.place (suc k) (λ e. omega arith), le-leb c.place (suc k) (omega arith)) (ap (λ (l : List Custom). c ∷ l) others)
      | inl lt ↦ elim (cases_eq c.place (suc k)) [
        | inl e ↦
            let none : upto_place k customs ≡ [] = none_upto k c.place customs lt (rising_head c customs h) in
            let same : at_place (suc k) customs ≡ upto_place (suc k) customs = ap (λ (l : List Custom). l ++ at_place (suc k) customs) (sym none) ∙ others in
            rw (lt-leb c.place k lt, eq-eqb c.place (suc k) e, le-leb c.place (suc k) (omega arith), none) (ap (λ (l : List Custom). c ∷ l) same)
        | inr other ↦ rw (lt-leb c.place k lt, ne_eqb c.place (suc k) other, lt-leb c.place (suc k) (omega (arith, other))) others
      ]
    ]

-- those of the first place
pub first_place : (customs : List Custom) → at_place 0 customs ≡ upto_place 0 customs
first_place [] = refl
first_place (c ∷ customs) =
    elim (cases_eq c.place 0) [
      | inl e ↦ rw (eq-eqb c.place 0 e, le-leb c.place 0 (omega arith)) (ap (λ (l : List Custom). c ∷ l) (first_place customs))
      | inr other ↦ rw (ne_eqb c.place 0 other, lt-leb c.place 0 (omega (arith, other))) (first_place customs)
    ]

-- there are no others
pub all_upto : (k : ℕ) (customs : List Custom) → All (λ c. c.place ≤ k) customs → upto_place k customs ≡ customs
all_upto k [] h = refl
all_upto k (c ∷ customs) h =
    rw (le-leb c.place k (All-head (λ d. d.place ≤ k) c customs h)) (ap (λ (l : List Custom). c ∷ l) (all_upto k customs (All-tail (λ d. d.place ≤ k) c customs h)))

-- custom sections of a place stand there
pub placed_there : (place : ℕ) (customs : List Custom) → All (λ c. c.place ≡ place) (at_place place customs)
placed_there place [] = All-nil (λ c. c.place ≡ place)
placed_there place (c ∷ customs) =
    elim (cases_eq c.place place) [
      | inl e ↦ rw (eq-eqb c.place place e) (All-cons (λ d. d.place ≡ place) c (at_place place customs) e (placed_there place customs))
      | inr other ↦ rw (ne_eqb c.place place other) (placed_there place customs)
    ]

-- none stand at a place where none may
pub none_placed : (place : ℕ) (customs : List Custom) → All (λ c. c.place ≢ place) customs → at_place place customs ≡ []
none_placed place [] h = refl
none_placed place (c ∷ customs) h =
    rw (ne_eqb c.place place (All-head (λ d. d.place ≢ place) c customs h)) (none_placed place customs (All-tail (λ d. d.place ≢ place) c customs h))
