-- The lines of the sites of a flow, one after another.
use Rattle.std.proofs.Common.{◌≡◌, ◌≤◌, ◌<◌, ℕ, zero, suc, ◌+◌, ◌-◌, List, [], ◌∷◌, ◌++◌, length, drop, Option, Some, slice_get, unwrap_or, refl, sym, ◌∙◌, ap, subst, arith, append_assoc}
use Rattle.std.specs.Prelude.{codes}
use Rattle.std.proofs.lemmas.List.{append-nil, drop_all}
use Rattle.ctw_lex.proofs.Facts.{some_same, none_some}
use Rattle.ctw_labels.specs.declared.name.SiteName.{SiteName}
use Rattle.ctw_labels.specs.declared.name.SiteName.TheVariants.{Memory}
use Rattle.ctw_labels.specs.Names.{Site}
use Rattle.ctw_labels.specs.Order.{name_at}
use Rattle.ctw_witness.specs.Lines.{rule_text, site_line, name_of, next_lines, first_line, flow_text}

drop_there : (xs : List ℕ) (k x : ℕ) → slice_get xs k ≡ Some x → drop k xs ≡ x ∷ drop (suc k) xs
drop_there [] k x e = absurd (none_some e)
drop_there (y ∷ xs) zero x e = ap (λ z. z ∷ xs) (some_same e)
drop_there (y ∷ xs) (suc k) x e = drop_there xs k x e

module _ (sites : List Site) (W R : List ℕ) where
  -- one more line
  pub next_on : (i x r : ℕ) (name : SiteName) (before all : List ℕ) (new : List ℕ) → 0 < i → slice_get W i ≡ Some x → slice_get R (i - 1) ≡ Some r → name_at sites x ≡ Some name
      → new ≡ before ++ site_line name (rule_text r) → before ++ next_lines sites (drop i W) (drop (i - 1) R) ≡ all
      → new ++ next_lines sites (drop (i + 1) W) (drop (i + 1 - 1) R) ≡ all
  next_on i x r name before all new some e f n w h =
      let a : i + 1 ≡ suc i = omega arith in
      let b : i + 1 - 1 ≡ suc (i - 1) = omega (arith, some) in
      let c : name_of sites x ≡ name = ap (λ o. unwrap_or o Memory) n in
      let rest : List ℕ = next_lines sites (drop (suc i) W) (drop (suc (i - 1)) R) in
      (λ j. w j ++ next_lines sites (drop (a j) W) (drop (b j) R))
      ∙ append_assoc before (site_line name (rule_text r)) rest
      ∙ ap (λ z. before ++ (site_line z (rule_text r) ++ rest)) (sym c)
      ∙ (λ j. before ++ next_lines sites (sym (drop_there W i x e) j) (sym (drop_there R (i - 1) r f) j))
      ∙ h

  none_left : (rs : List ℕ) → next_lines sites [] rs ≡ []
  none_left [] = refl
  none_left (r ∷ rs) = refl

  pub next_end : (i : ℕ) (before all : List ℕ) → length W ≤ i → before ++ next_lines sites (drop i W) (drop (i - 1) R) ≡ all → before ≡ all
  next_end i before all le h =
      sym (append-nil before) ∙ ap (λ z. before ++ z) (sym (none_left (drop (i - 1) R))) ∙ ap (λ z. before ++ next_lines sites z (drop (i - 1) R)) (sym (drop_all i W le)) ∙ h

pub first_is : (sites : List Site) (W : List ℕ) (x : ℕ) (name : SiteName) → slice_get W 0 ≡ Some x → name_at sites x ≡ Some name → first_line sites W ≡ site_line name (codes "marked")
first_is sites [] x name e n = absurd (none_some e)
first_is sites (y ∷ W) x name e n =
    ap (λ z. site_line (name_of sites z) (codes "marked")) (some_same e) ∙ ap (λ o. site_line (unwrap_or o Memory) (codes "marked")) n

pub joined : (A L N P T E : List ℕ) → (((((A ++ L) ++ N) ++ P) ++ T) ++ E) ≡ A ++ (L ++ (N ++ (P ++ (T ++ E))))
joined A L N P T E =
    append_assoc ((((A ++ L) ++ N) ++ P)) T E
    ∙ append_assoc ((A ++ L) ++ N) P (T ++ E)
    ∙ append_assoc (A ++ L) N (P ++ (T ++ E))
    ∙ append_assoc A L (N ++ (P ++ (T ++ E)))

-- the whole text, by what was added one after another
pub flow_told : (sites : List Site) (W R : List ℕ) (last x : ℕ) (name : SiteName) (z a b c d e f t : List ℕ) → slice_get W 0 ≡ Some x → name_at sites x ≡ Some name → t ≡ rule_text last → z ≡ []
    → a ≡ z ++ codes "no labelling\n" → b ≡ a ++ site_line name (codes "marked") → c ≡ b ++ next_lines sites (drop 1 W) R → d ≡ c ++ codes "public because " → e ≡ d ++ t → f ≡ e ++ codes "\n"
    → f ≡ flow_text sites (record { sites = W; rules = R; last = last })
flow_told sites W R last x name z a b c d e f t g n q ez ea eb ec ed ee ef =
    let L : List ℕ = site_line name (codes "marked") in
    let N : List ℕ = next_lines sites (drop 1 W) R in
    let A : List ℕ = codes "no labelling\n" in
    let P : List ℕ = codes "public because " in
    let T : List ℕ = rule_text last in
    let E : List ℕ = codes "\n" in
    let a' : a ≡ A = ea ∙ ap (λ k. k ++ A) ez in
    let b' : b ≡ A ++ L = eb ∙ ap (λ k. k ++ L) a' in
    let c' : c ≡ (A ++ L) ++ N = ec ∙ ap (λ k. k ++ N) b' in
    let d' : d ≡ ((A ++ L) ++ N) ++ P = ed ∙ ap (λ k. k ++ P) c' in
    let e' : e ≡ (((A ++ L) ++ N) ++ P) ++ T = ee ∙ (λ i. d' i ++ q i) in
    let f' : f ≡ ((((A ++ L) ++ N) ++ P) ++ T) ++ E = ef ∙ ap (λ k. k ++ E) e' in
    f' ∙ joined A L N P T E ∙ ap (λ k. A ++ (k ++ (N ++ (P ++ (T ++ E))))) (sym (first_is sites W x name g n))
