-- The excess of locals, one local after another.
use Rattle.std.proofs.Common.{◌≡◌, ℕ, zero, suc, ◌+◌, ◌<◌, ◌≤◌, Bool, true, false, cond, not, List, [], ◌∷◌, ◌++◌, length, drop, get_or, Some, None, refl, sym, ap, ◌∙◌, arith}
use Rattle.std.specs.Prelude.{nat_lt, nat_eq}
use Rattle.std.proofs.lemmas.Bool.{lt-ltb, le-ltb}
use Rattle.std.proofs.lemmas.List.{drop_all}
use Rattle.ctw_ops.specs.declared.types.Label.TheVariants.{Public, Secret}
use Rattle.ctw_ops.specs.declared.types.Width.{Width}
use Rattle.ctw_ops.specs.declared.types.Width.TheVariants.{W32, W64}
use Rattle.ctw_ops.specs.Types.{type_byte, value_type}
use Rattle.ctw_ops.specs.ValueType.{ValueType}
use Rattle.ctw_ops.specs.Equal.{same_type}
use Rattle.ctw_ops.specs.declared.types.Label.{Label}
use Rattle.ctw_ops.specs.declared.fault.What.TheVariants.{Locals}
use Rattle.ctw_ops.specs.Limits.{most_locals, most_locals_of_all}
use Rattle.ctw_text.specs.Limits.{Excess, excess, over, first, locals_excess, runs}
use Rattle.ctw_parse.specs.Ends.{is_end, ends_excess}

true_false : true ≡ false → ⊥
true_false e = cc

-- by runs and by locals it is the same
abbrev both : (mine before : ℕ) → List Excess
both mine before = over (nat_lt most_locals mine) Locals most_locals ++ over (nat_lt most_locals_of_all (before + mine)) Locals most_locals_of_all

longer_run : (mine before n : ℕ) (ns : List ℕ) → locals_excess mine before (suc n ∷ ns) ≡ locals_excess (suc mine) before (n ∷ ns)
longer_run mine before n ns =
    let a : mine + suc n ≡ suc mine + n = omega arith in
    let b : before + mine + suc n ≡ before + suc mine + n = omega arith in
    ap (λ (k : ℕ). over (nat_lt most_locals k) Locals most_locals ++ over (nat_lt most_locals_of_all (before + mine + suc n)) Locals most_locals_of_all ++ locals_excess k before ns) a
    ∙ ap (λ (k : ℕ). over (nat_lt most_locals (suc mine + n)) Locals most_locals ++ over (nat_lt most_locals_of_all k) Locals most_locals_of_all ++ locals_excess (suc mine + n) before ns) b

one_run : (mine before : ℕ) (ns : List ℕ) → locals_excess mine before (1 ∷ ns) ≡ both (suc mine) before ++ locals_excess (suc mine) before ns
one_run mine before ns =
    let a : mine + 1 ≡ suc mine = omega arith in
    let b : before + mine + 1 ≡ before + suc mine = omega arith in
    ap (λ (k : ℕ). over (nat_lt most_locals k) Locals most_locals ++ over (nat_lt most_locals_of_all (before + mine + 1)) Locals most_locals_of_all ++ locals_excess k before ns) a
    ∙ ap (λ (k : ℕ). over (nat_lt most_locals (suc mine)) Locals most_locals ++ over (nat_lt most_locals_of_all k) Locals most_locals_of_all ++ locals_excess (suc mine) before ns) b

some_runs : (t : ValueType Label) (ts : List (ValueType Label)) → (n : ℕ) × (ns : List ℕ) × (runs (t ∷ ts) ≡ n ∷ ns)
some_runs t [] = (1, [], refl)
some_runs t (u ∷ us) =
    let r = some_runs u us in
    go (same_type t u) refl r
  where
    go : (b : Bool) → same_type t u ≡ b → (n : ℕ) × (ns : List ℕ) × (runs (u ∷ us) ≡ n ∷ ns) → (n : ℕ) × (ns : List ℕ) × (runs (t ∷ u ∷ us) ≡ n ∷ ns)
    go true e r = (suc r.0, r.1, rw (e, r.2) refl)
    go false e r = (1, runs (u ∷ us), rw e refl)

pub by_ends : (mine before : ℕ) (ts : List (ValueType Label)) → locals_excess mine before (runs ts) ≡ ends_excess mine before ts
by_ends mine before [] = refl
by_ends mine before (t ∷ []) = one_run mine before []
by_ends mine before (t ∷ u ∷ us) = go (by_ends (suc mine) before (u ∷ us)) (same_type t u) refl
  where
    go : locals_excess (suc mine) before (runs (u ∷ us)) ≡ ends_excess (suc mine) before (u ∷ us) → (b : Bool) → same_type t u ≡ b → locals_excess mine before (runs (t ∷ u ∷ us)) ≡ ends_excess mine before (t ∷ u ∷ us)
    go rest true e =
        let r = some_runs u us in
        let split : runs (t ∷ u ∷ us) ≡ suc r.0 ∷ r.1 = rw (e, r.2) refl in
        ap (locals_excess mine before) split ∙ longer_run mine before r.0 r.1 ∙ ap (locals_excess (suc mine) before) (sym r.2) ∙ rest
        ∙ ap (λ (b : Bool). cond (not b) (both (suc mine) before) [] ++ ends_excess (suc mine) before (u ∷ us)) (sym e)
    go rest false e =
        let split : runs (t ∷ u ∷ us) ≡ 1 ∷ runs (u ∷ us) = rw e refl in
        ap (locals_excess mine before) split ∙ one_run mine before (runs (u ∷ us)) ∙ ap (λ (l : List Excess). both (suc mine) before ++ l) rest
        ∙ ap (λ (b : Bool). cond (not b) (both (suc mine) before) [] ++ ends_excess (suc mine) before (u ∷ us)) (sym e)

-- ---- whether a run ends

pub end_last : (ts : List (ValueType Label)) (i : ℕ) → i + 1 ≡ length ts → is_end ts i ≡ true
end_last [] i e = refl
end_last (t ∷ []) zero e = refl
end_last (t ∷ u ∷ us) zero e = absurd (omega (arith, e))
end_last (t ∷ ts) (suc i) e = end_last ts i (omega (arith, e))

pub end_within : (ts : List (ValueType Label)) (i : ℕ) (a b : ValueType Label) → suc i < length ts → is_end ts i ≡ not (same_type (get_or ts i a) (get_or ts (suc i) b))
end_within [] i a b lt = absurd (omega (arith, lt))
end_within (t ∷ []) i a b lt = absurd (omega (arith, lt))
end_within (t ∷ u ∷ us) zero a b lt = refl
end_within (t ∷ u ∷ us) (suc i) a b lt = end_within (u ∷ us) i a b (omega (arith, lt))

-- bytes of types differ where types do
pub differ : (t u : ValueType Label) → not (nat_eq (type_byte t) (type_byte u)) ≡ not (same_type t u)
differ t u = go t.width t.tag u.width u.tag
  where
    go : (w : Width) (l : Label) (v : Width) (k : Label) → not (nat_eq (type_byte (value_type w l)) (type_byte (value_type v k))) ≡ not (same_type (value_type w l) (value_type v k))
    go W32 Public W32 Public = refl
    go W32 Public W32 Secret = refl
    go W32 Public W64 Public = refl
    go W32 Public W64 Secret = refl
    go W32 Secret W32 Public = refl
    go W32 Secret W32 Secret = refl
    go W32 Secret W64 Public = refl
    go W32 Secret W64 Secret = refl
    go W64 Public W32 Public = refl
    go W64 Public W32 Secret = refl
    go W64 Public W64 Public = refl
    go W64 Public W64 Secret = refl
    go W64 Secret W32 Public = refl
    go W64 Secret W32 Secret = refl
    go W64 Secret W64 Public = refl
    go W64 Secret W64 Secret = refl

-- ---- one local after another

-- none of the first ones ends a run that is too long
pub record EndsTo (before : ℕ) (locals : List (ValueType Label)) (i : ℕ) : Type 0 where
  pub same : first (ends_excess 0 before locals) ≡ first (ends_excess i before (drop i locals))
  -- all of them together are not too many
  pub few : i ≡ length locals → i ≤ 50000
  pub few_of_all : i ≡ length locals → before + i ≤ 1000000

-- the excess at one of them
abbrev pub at_end : (before i : ℕ) → Bool → List Excess
at_end before i b = cond b (both (suc i) before) []

pub one_end : (before i : ℕ) (locals : List (ValueType Label)) → i < length locals → ends_excess i before (drop i locals) ≡ at_end before i (is_end locals i) ++ ends_excess (suc i) before (drop (suc i) locals)
one_end before i locals lt = go i i locals lt
  where
    go : (n k : ℕ) (locals : List (ValueType Label)) → k < length locals → ends_excess n before (drop k locals) ≡ at_end before n (is_end locals k) ++ ends_excess (suc n) before (drop (suc k) locals)
    go n k [] lt = absurd (omega (arith, lt))
    go n zero (t ∷ ts) lt = refl
    go n (suc k) (t ∷ ts) lt = go n k ts (omega (arith, lt))

module _ (before i : ℕ) (locals : List (ValueType Label)) (h : EndsTo before locals i) where
  so_far : i < length locals → first (locals_excess 0 before (runs locals)) ≡ first (at_end before i (is_end locals i) ++ ends_excess (suc i) before (drop (suc i) locals))
  so_far lt = ap first (by_ends 0 before locals) ∙ h.same ∙ ap first (one_end before i locals lt)

  -- the function has too many
  pub end_own : i < length locals → is_end locals i ≡ true → 50000 < i + 1 → first (locals_excess 0 before (runs locals)) ≡ Some (excess Locals 50000)
  unfolding most_locals
  end_own lt e many =
      let t : nat_lt 50000 (suc i) ≡ true = lt-ltb 50000 (suc i) (omega (arith, many)) in
      so_far lt ∙ rw (e, t) refl

  -- all functions have too many
  pub end_all : i < length locals → is_end locals i ≡ true → i + 1 ≤ 50000 → 1000000 < before + i + 1 → first (locals_excess 0 before (runs locals)) ≡ Some (excess Locals 1000000)
  unfolding most_locals most_locals_of_all
  end_all lt e few many =
      let t : nat_lt 50000 (suc i) ≡ false = le-ltb 50000 (suc i) (omega (arith, few)) in
      let u : nat_lt 1000000 (before + suc i) ≡ true = lt-ltb 1000000 (before + suc i) (omega (arith, many)) in
      so_far lt ∙ rw (e, t, u) refl

  -- no run ends there
  pub end_not : i < length locals → is_end locals i ≡ false → EndsTo before locals (i + 1)
  end_not lt e =
      let next : suc i ≡ i + 1 = omega arith in
      let last : i + 1 ≡ length locals → ⊥ = λ q. true_false (sym (end_last locals i q) ∙ e) in
      record {
        same = h.same ∙ ap first (one_end before i locals lt) ∙ ap (λ (b : Bool). first (at_end before i b ++ ends_excess (suc i) before (drop (suc i) locals))) e
            ∙ ap (λ (k : ℕ). first (ends_excess k before (drop k locals))) next;
        few = λ q. absurd (last q);
        few_of_all = λ q. absurd (last q);
      }

  -- a run ends there, and is not too long
  pub end_small : i < length locals → is_end locals i ≡ true → i + 1 ≤ 50000 → before + i + 1 ≤ 1000000 → EndsTo before locals (i + 1)
  unfolding most_locals most_locals_of_all
  end_small lt e few few_all =
      let next : suc i ≡ i + 1 = omega arith in
      let t : nat_lt 50000 (suc i) ≡ false = le-ltb 50000 (suc i) (omega (arith, few)) in
      let u : nat_lt 1000000 (before + suc i) ≡ false = le-ltb 1000000 (before + suc i) (omega (arith, few_all)) in
      let none : at_end before i (is_end locals i) ≡ [] = rw (e, t, u) refl in
      record {
        same = h.same ∙ ap first (one_end before i locals lt) ∙ ap (λ (l : List Excess). first (l ++ ends_excess (suc i) before (drop (suc i) locals))) none
            ∙ ap (λ (k : ℕ). first (ends_excess k before (drop k locals))) next;
        few = λ q. few;
        few_of_all = λ q. omega (arith, few_all);
      }

  -- all are seen
  pub end_none : length locals ≤ i → None ≡ first (locals_excess 0 before (runs locals))
  end_none le = sym (ap first (by_ends 0 before locals) ∙ h.same ∙ ap (λ (l : List (ValueType Label)). first (ends_excess i before l)) (drop_all i locals le))
