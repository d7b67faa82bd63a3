-- What a reduction does to the store, and how many words it leaves.
use Rattle.std.proofs.Common.{◌≡◌, ◌⊎◌, inl, inr, ℕ, ◌<◌, ◌≤◌, Bool, true, false, nat_le, List, length, Result, Ok, Err, refl, sym, ap, subst, arith}
use Rattle.std.specs.Prelude.{if◌then◌else◌, IfOk}
use Rattle.std.specs.declared.alloc.AllocError.{AllocError}
use Rattle.std.proofs.lemmas.Bool.Decides.{nat_tests}
use Rattle.ctw_ops.specs.Limits.{most_weight}
use Rattle.ctw_semantics.specs.Stores.{Storage}
use Rattle.ctw_script.specs.declared.trap.TrapCode.TheVariants.{Exhausted}
use Rattle.ctw_step.specs.declared.running.Stepped.{Stepped}
use Rattle.ctw_step.specs.declared.running.Stepped.TheVariants as Steppeds
use Rattle.ctw_step.specs.Shown.{Shown}
use Rattle.ctw_step.specs.Told.{Settles, KeepsAtEnd, Weighs, words, with_operands}

pub fewer_words : (c c' : Shown) (front : List ℕ) (next : ℕ) → c' ≡ with_operands c front next → length front ≤ length c.operands → words c' ≤ words c
fewer_words c c' front next e h = let w = ap words e in omega (arith, w, h)

pub settled : (s s' : Storage) (c c' : Shown) (r : Stepped) → s' ≡ s → Settles s c s' c' r
settled s s' c c' (Steppeds.Went e) q = inl q
settled s s' c c' (Steppeds.Ended v e) q = q
settled s s' c c' (Steppeds.Trapped t e) q = q

pub all_settled : (s s' : Storage) (c c' : Shown) (r : Result Stepped AllocError) → s' ≡ s → IfOk r (Settles s c s' c')
all_settled s s' c c' (Ok r) q = settled s s' c c' r q
all_settled s s' c c' (Err e) q = tt

-- a weighed reduction of a call that isn't too heavy
pub kept_at_end : (s s' : Storage) (c c' : Shown) (r r' : Stepped) → Settles s c s' c' r → Weighs c' r r' → words c ≤ most_weight → KeepsAtEnd s s' r'
kept_at_end s s' c c' (Steppeds.Went e) r' t w l = go t (nat_le (words c') most_weight) refl w
  where
    go : (s' ≡ s) ⊎ (words c' ≤ words c) → (b : Bool) → nat_le (words c') most_weight ≡ b → r' ≡ (if b then Steppeds.Went e else Steppeds.Trapped Exhausted e) → KeepsAtEnd s s' r'
    go t true q w = subst (λ r. KeepsAtEnd s s' r) (sym w) tt
    go (inl t) false q w = subst (λ r. KeepsAtEnd s s' r) (sym w) t
    go (inr t) false q w = absurd (light q)
      where
        light : nat_le (words c') most_weight ≡ false → ⊥
        light q = let g : most_weight < words c' = grind (arith, nat_tests, q) in omega (arith, g, t, l)
kept_at_end s s' c c' (Steppeds.Ended v e) r' t w l = subst (λ r. KeepsAtEnd s s' r) (sym w) t
kept_at_end s s' c c' (Steppeds.Trapped k e) r' t w l = subst (λ r. KeepsAtEnd s s' r) (sym w) t
