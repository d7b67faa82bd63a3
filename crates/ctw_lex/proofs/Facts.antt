-- Facts on tests and options.
use Rattle.std.proofs.Common.{◌≡◌, ℕ, Bool, true, false, Option, Some, None, ◌⊎◌, inl, inr, refl, ap, sym, ◌∙◌}
use Rattle.std.specs.Prelude.{is_some, option_map, ◌&&◌, ◌||◌, ◌==◌}
use Rattle.std.proofs.lemmas.Bool.{false≢true, eqb-true}

pub either_true : (a b : Bool) → (a || b) ≡ true → (a ≡ true) ⊎ (b ≡ true)
either_true true b e = inl refl
either_true false b e = inr e

pub both_true : (a b : Bool) → (a && b) ≡ true → (a ≡ true) × (b ≡ true)
both_true true b e = (refl, e)
both_true false b e = absurd (false≢true e)

pub some_same : {X : Type 0} {x y : X} → Some x ≡ Some y → x ≡ y
some_same e = cc

pub none_some : {X : Type 0} {x : X} → None ≡ Some x → ⊥
none_some e = false≢true (ap is_some e)

pub mapped_some : {X Y : Type 0} {f : X → Y} {y : Y} (o : Option X) → option_map f o ≡ Some y → (x : X) × (o ≡ Some x) × (f x ≡ y)
mapped_some None e = absurd (none_some e)
mapped_some (Some x) e = (x, refl, some_same e)

-- a number that passes isn't one that doesn't
pub differs : (p : ℕ → Bool) (b k : ℕ) → p b ≡ true → p k ≡ false → (b == k) ≡ false
differs p b k e f = go (b == k) refl
  where
    go : (t : Bool) → (b == k) ≡ t → t ≡ false
    go false q = refl
    go true q = absurd (false≢true (sym f ∙ (ap p (sym (eqb-true b k q)) ∙ e)))

pub any_false : (a b c d e f : Bool) → a ≡ false → b ≡ false → c ≡ false → d ≡ false → e ≡ false → f ≡ false → (a || b || c || d || e || f) ≡ false
any_false a b c d e f p q r s t u = rw (p, q, r, s, t, u) refl

either_false : (a b : Bool) → (a || b) ≡ false → (a ≡ false) × (b ≡ false)
either_false true b e = absurd (false≢true (sym e))
either_false false b e = (refl, e)

pub all_false : (a b c d e f : Bool) → (a || b || c || d || e || f) ≡ false → (a ≡ false) × (b ≡ false) × (c ≡ false) × (d ≡ false) × (e ≡ false) × (f ≡ false)
all_false a b c d e f p =
    let g = either_false (a || b || c || d || e) f p in
    let h = either_false (a || b || c || d) e g.0 in
    let i = either_false (a || b || c) d h.0 in
    let j = either_false (a || b) c i.0 in
    let k = either_false a b j.0 in
    (k.0, k.1, j.1, i.1, h.1, g.1)
