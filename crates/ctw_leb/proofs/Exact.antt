-- What follows of any grammar from a reader that is exact for it.
use Rattle.std.proofs.Common.{◌≡◌, ℕ, Bool, true, false, cond, ◌⊎◌, inl, inr, List, [], ◌∷◌, ◌++◌, Result, Ok, Err, refl, sym, ap, ◌∙◌}
use Rattle.std.proofs.lemmas.List.{append_cancel_right}
use Rattle.ctw_leb.specs.Input.{Input, behind}
use Rattle.ctw_leb.specs.Grammar.{Grammar}
use Rattle.ctw_leb.specs.Reading.{Reader, WholeReader, Exact, Whole, chain}

-- an answer with a value and one with a fault, at a type that is known
abbrev done : {A F : Type 0} → A → Result A F
done x = Ok x

abbrev failed : {A F : Type 0} → F → Result A F
failed f = Err f

pub ok_is : {A F : Type 0} (x y : A) → done {F = F} x ≡ done y → x ≡ y
ok_is x y e = cc

pub err_is : {A F : Type 0} (d f : F) → failed {A = A} d ≡ failed f → d ≡ f
err_is d f e = cc

pub err_ok : {A F : Type 0} (d : F) (x : A) → failed d ≡ done x → ⊥
err_ok d x e = cc

pub ok_err : {A F : Type 0} (x : A) (d : F) → done x ≡ failed d → ⊥
ok_err x d e = cc

pub chain_ok : {X Y F : Type 0} (r : Result X F) (f : X → Result Y F) (y : Y) → chain r f ≡ Ok y → (x : X) × (r ≡ Ok x) × (f x ≡ Ok y)
chain_ok (Ok x) f y e = (x, refl, e)
chain_ok {Y = Y} (Err d) f y e = absurd (err_ok {A = Y} d y e)

-- which way a test went
pub chosen : {A : Type 0} (b : Bool) (x y z : A) → cond b x y ≡ z → ((b ≡ true) × (x ≡ z)) ⊎ ((b ≡ false) × (y ≡ z))
chosen true x y z e = inl (refl, e)
chosen false x y z e = inr (refl, e)

-- no spelling begins another, and each has one value
pub one_spelling : {A F : Type 0} (G : Grammar A) (r : Reader A F) → Exact G r
    → (s t x y : List ℕ) (a b : A) → G s a → G t b → s ++ x ≡ t ++ y → (s ≡ t) × (a ≡ b)
one_spelling {A} {F} G r exact s t x y a b p q e =
    let start : (l : List ℕ) → Input = λ l. record { at = 0; rest = l } in
    let first = exact.complete s x 0 a p in
    let second = exact.complete t y 0 b q in
    let both : done {F = F} (a, behind 0 s x) ≡ done (b, behind 0 t y) = sym first ∙ ap (λ (l : List ℕ). r (start l)) e ∙ second in
    let pairs : (a, behind 0 s x) ≡ (b, behind 0 t y) = ok_is {F = F} (a, behind 0 s x) (b, behind 0 t y) both in
    let rests : x ≡ y = ap (λ (z : A × Input). z.1.rest) pairs in
    (append_cancel_right s t x (e ∙ ap (λ (l : List ℕ). t ++ l) (sym rests)), ap (λ (z : A × Input). z.0) pairs)

-- a text of all the bytes has one value
pub one_whole : {A F : Type 0} (G : Grammar A) (r : WholeReader A F) → Whole G r → (text : List ℕ) (a b : A) → G text a → G text b → a ≡ b
one_whole {A} {F} G r whole text a b p q =
    let i : Input = record { at = 0; rest = text } in
    ok_is {F = F} a b (sym (whole.complete i a p) ∙ whole.complete i b q)

-- a reader is exact for each grammar with the same spellings
pub exact_same : {A F : Type 0} (G H : Grammar A) (r : Reader A F) → ((text : List ℕ) (a : A) → G text a → H text a) → ((text : List ℕ) (a : A) → H text a → G text a) → Exact G r → Exact H r
exact_same G H r to from exact = record {
  sound = λ i a o e.
      let s = exact.sound i a o e in
      (s.0, to s.0 a s.1, s.2, s.3);
  complete = λ text rest at a m. exact.complete text rest at a (from text a m);
}

-- of two texts with the same bytes behind one another, one begins the other
pub one_begins : (x y u v : List ℕ) → x ++ y ≡ u ++ v → ((w : List ℕ) × (x ≡ u ++ w)) ⊎ ((c : ℕ) × (w : List ℕ) × (u ≡ x ++ c ∷ w))
one_begins x y [] v e = inl (x, refl)
one_begins [] y (c ∷ u) v e = inr (c, u, refl)
one_begins (a ∷ x) y (b ∷ u) v e =
    let first : a ≡ b = cc in
    let others : x ++ y ≡ u ++ v = cc in
    elim (one_begins x y u v others) [
      | inl h ↦ inl (h.0, cc)
      | inr h ↦ inr (h.0, h.1, cc)
    ]
