-- The custom sections of a module that fields stand for: each has its place, and the places rise.
use Rattle.std.proofs.Common.{◌≡◌, ◌⊎◌, inl, inr, ℕ, zero, suc, ◌+◌, ◌<◌, ◌≤◌, Bool, true, false, List, [], ◌∷◌, ◌++◌, length, get_or, refl, sym, subst, append_assoc, append-nil, ◌-◌, arith}
use Rattle.std.specs.Prelude.{◌==◌, not, filter}
use Rattle.std.specs.List.{All}
use Rattle.std.specs.List.Sorted.{IsNonDecreasingBy}
use Rattle.std.proofs.lemmas.Bool.{eqb-true}
use Rattle.std.proofs.lemmas.List.Elements.{All-nil, All-cons, All-head, All-tail, All-append, All-filter, All-weaker, filter_passes}
use Rattle.std.proofs.lemmas.List.Sorted.{IsNonDecreasingBy-short, IsNonDecreasingBy-push}
use Rattle.ctw_ops.specs.Tree.{Custom}
use Rattle.ctw_text.specs.Names.{is_empty, last_with, by_place}

-- ---- rising places

abbrev IsAt : ℕ → Custom → Type 0
IsAt n c = c.place ≡ n

abbrev IsUpto : ℕ → Custom → Type 0
IsUpto n c = c.place ≤ n

abbrev AreRising : List Custom → Type 0
AreRising cs = IsNonDecreasingBy (λ c. c.place) cs

-- those of one place behind those of the places up to it
rising_onto : (n : ℕ) (cs ds : List Custom) → All (IsUpto n) cs → AreRising cs → All (IsAt n) ds → AreRising (cs ++ ds)
rising_onto n cs [] upto h at = subst AreRising (sym (append-nil cs)) h
rising_onto n cs (d ∷ ds) upto h at =
    let here : d.place ≡ n = All-head (IsAt n) d ds at in
    let more : AreRising (cs ++ d ∷ []) = IsNonDecreasingBy-push (λ c. c.place) cs d h (λ x some. omega (arith, here, upto (length cs - 1) x (omega (arith, some)))) in
    let low : All (IsUpto n) (cs ++ d ∷ []) = All-append (IsUpto n) cs (d ∷ []) upto (All-cons (IsUpto n) d [] (omega (arith, here)) (All-nil (IsUpto n))) in
    subst AreRising (append_assoc cs (d ∷ []) ds) (rising_onto n (cs ++ d ∷ []) ds low more (All-tail (IsAt n) d ds at))

those_at : (n : ℕ) (cs : List Custom) → All (IsAt n) (filter (λ c. c.place == n) cs)
those_at n cs = All-weaker (λ c. (c.place == n) ≡ true) (IsAt n) (λ c e. eqb-true c.place n e) (filter (λ c. c.place == n) cs) (filter_passes (λ c. c.place == n) cs)

pub places_upto : (n : ℕ) (cs : List Custom) → All (IsUpto n) (by_place n cs)
places_upto zero cs = All-weaker (IsAt 0) (IsUpto 0) (λ c e. omega (arith, e)) (by_place zero cs) (those_at zero cs)
places_upto (suc n) cs =
    All-append (IsUpto (suc n)) (by_place n cs) (filter (λ c. c.place == suc n) cs) (All-weaker (IsUpto n) (IsUpto (suc n)) (λ c le. omega (arith, le)) (by_place n cs) (places_upto n cs))
    (All-weaker (IsAt (suc n)) (IsUpto (suc n)) (λ c e. omega (arith, e)) (filter (λ c. c.place == suc n) cs) (those_at (suc n) cs))

pub places_rise : (n : ℕ) (cs : List Custom) → AreRising (by_place n cs)
places_rise zero cs = rising_onto 0 [] (filter (λ c. c.place == 0) cs) (All-nil (IsUpto 0)) (IsNonDecreasingBy-short (λ (c : Custom). c.place) [] (omega arith)) (those_at 0 cs)
places_rise (suc n) cs =
    rising_onto (suc n) (by_place n cs) (filter (λ c. c.place == suc n) cs) (All-weaker (IsUpto n) (IsUpto (suc n)) (λ c le. omega (arith, le)) (by_place n cs) (places_upto n cs)) (places_rise n cs) (those_at (suc n) cs)

-- what holds of all holds of them by place
pub by_place_kept : (P : Custom → Type 0) (n : ℕ) (cs : List Custom) → All P cs → All P (by_place n cs)
by_place_kept P zero cs h = All-filter (λ c. c.place == 0) P cs h
by_place_kept P (suc n) cs h = All-append P (by_place n cs) (filter (λ c. c.place == suc n) cs) (by_place_kept P n cs h) (All-filter (λ c. c.place == suc n) P cs h)

-- ---- the place of each

-- a section that has items, counted from `at`
abbrev HasItems : ℕ → List Bool → ℕ → Type 0
HasItems at has place = (i : ℕ) × (place ≡ at + i) × (get_or has i false ≡ true)

last_has : (n at before : ℕ) (has : List Bool) → (last_with n at before has ≡ before) ⊎ HasItems at has (last_with n at before has)
last_has zero at before has = inl refl
last_has (suc n) at before [] = inl refl
last_has (suc n) at before (true ∷ has) = elim (last_has n (suc at) at has) [
  | inl e ↦ inr (0, omega (arith, e), refl)
  | inr h ↦ inr (suc h.0, omega (arith, h.1), h.2)
]
last_has (suc n) at before (false ∷ has) = elim (last_has n (suc at) before has) [
  | inl e ↦ inl e
  | inr h ↦ inr (suc h.0, omega (arith, h.1), h.2)
]

-- how many items each section has, where it has some
abbrev pub Agree : List Bool → List ℕ → Type 0
Agree [] ns = Unit {0}
Agree (h ∷ has) [] = ⊥
Agree (h ∷ has) (n ∷ ns) = (h ≡ true → 0 < n) × Agree has ns

some_there : (has : List Bool) (ns : List ℕ) (i : ℕ) → Agree has ns → get_or has i false ≡ true → 0 < get_or ns i 0
some_there [] ns i a e = absurd cc
some_there (h ∷ has) [] i a e = absurd a
some_there (h ∷ has) (n ∷ ns) zero a e = a.0 e
some_there (h ∷ has) (n ∷ ns) (suc i) a e = some_there has ns i a.1 e

later : (ns : List ℕ) (i : ℕ) → 0 < get_or ns i 0 → 0 < get_or (0 ∷ ns) (suc i) 0
later ns i h = h

-- the beginning of a file, or behind a section that has items
pub place_there : (n : ℕ) (has : List Bool) (ns : List ℕ) → Agree has ns → (last_with n 1 0 has ≡ 0) ⊎ (0 < get_or (0 ∷ ns) (last_with n 1 0 has) 0)
place_there n has ns a = elim (last_has n 1 0 has) [
  | inl e ↦ inl e
  | inr h ↦
      let same : suc h.0 ≡ last_with n 1 0 has = omega (arith, h.1) in
      inr (subst (λ (k : ℕ). 0 < get_or (0 ∷ ns) k 0) same (later ns h.0 (some_there has ns h.0 a h.2)))
]

pub some_items : {A : Type 0} (l : List A) → not (is_empty l) ≡ true → 0 < length l
some_items [] e = absurd cc
some_items (a ∷ l) e = omega arith
