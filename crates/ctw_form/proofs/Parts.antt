-- The parts of lists that stand one after another.
use Rattle.std.proofs.Common.{◌≡◌, ℕ, zero, suc, ◌+◌, ◌-◌, ◌<◌, ◌≤◌, List, [], ◌∷◌, ◌++◌, length, take, drop, get_or, refl, ap, ◌∙◌, arith}
use Rattle.std.proofs.lemmas.List.{length-append, take_at}
use Rattle.std.proofs.Math.Seq.{drop-append-add}
use Rattle.ctw_ops.specs.declared.types.Label.{Label}
use Rattle.ctw_ops.specs.Tree.{Element}
use Rattle.ctw_form.specs.declared.slots.LocalRun.{LocalRun}
use Rattle.ctw_form.specs.Sections.{Entry}
use Rattle.ctw_form.specs.Slots.{runs_behind, runs_of, Coded, coded_behind, Headed, headed_behind, element_functions}
use Rattle.ctw_form.proofs.Runs.{runs_length}

pub flat : {A B : Type 0} → (A → List B) → List A → List B
flat f [] = []
flat f (a ∷ l) = f a ++ flat f l

abbrev pub flat_upto : {A B : Type 0} → (A → List B) → List A → ℕ → ℕ
flat_upto f l k = length (flat f (take k l))

pub record Part {A B : Type 0} (f : A → List B) (l : List A) (k : ℕ) (d : A) : Type 0 where
  pub behind : drop (flat_upto f l k) (flat f l) ≡ f (get_or l k d) ++ flat f (drop (suc k) l)
  pub next : flat_upto f l (suc k) ≡ flat_upto f l k + length (f (get_or l k d))
  pub within : flat_upto f l (suc k) ≤ length (flat f l)

pub part : {A B : Type 0} (f : A → List B) (l : List A) (k : ℕ) (d : A) → k < length l → Part f l k d
unfolding flat
part f [] k d lt = absurd (omega (arith, lt))
part f (a ∷ l) zero d lt = record { behind = refl; next = length-append (f a) [] ∙ omega arith; within = omega (arith, length-append (f a) [], length-append (f a) (flat f l)) }
part f (a ∷ l) (suc k) d lt =
    let h = part f l k d (omega (arith, lt)) in
    let here = length-append (f a) (flat f (take k l)) in
    let more = length-append (f a) (flat f (take (suc k) l)) in
    record {
      behind = ap (λ (n : ℕ). drop n (f a ++ flat f l)) here ∙ drop-append-add (f a) (flat f l) (flat_upto f l k) ∙ h.behind;
      next = omega (arith, here, more, h.next);
      within = omega (arith, more, h.within, length-append (f a) (flat f l));
    }

pub part_is : {A B : Type 0} (f : A → List B) (l : List A) (k : ℕ) (d : A) → Part f l k d → take (flat_upto f l (suc k) - flat_upto f l k) (drop (flat_upto f l k) (flat f l)) ≡ f (get_or l k d)
part_is {A} {B} f l k d h =
    ap (λ (z : List B). take (flat_upto f l (suc k) - flat_upto f l k) z) h.behind
    ∙ take_at (f (get_or l k d)) (flat f (drop (suc k) l)) (flat_upto f l (suc k) - flat_upto f l k) (omega (arith, h.next))

-- ---- runs

abbrev pub runs_in : Entry → List LocalRun
runs_in e = runs_behind 0 e.groups

pub runs_flat : (entries : List Entry) → runs_of entries ≡ flat runs_in entries
unfolding flat
runs_flat [] = refl
runs_flat (e ∷ entries) = ap (λ (l : List LocalRun). runs_in e ++ l) (runs_flat entries)

pub coded_runs : (before : ℕ) (entries : List Entry) (k : ℕ) (c : Coded) → k < length entries → (get_or (coded_behind before entries) k c).runs ≡ before + length (runs_of (take (suc k) entries))
coded_runs before [] k c lt = absurd (omega (arith, lt))
coded_runs before (e ∷ entries) zero c lt = omega (arith, length-append (runs_in e) [], runs_length 0 e.groups)
coded_runs before (e ∷ entries) (suc k) c lt =
    omega (arith, coded_runs (before + length e.groups) entries k c (omega (arith, lt)), length-append (runs_in e) (runs_of (take (suc k) entries)), runs_length 0 e.groups)

-- ---- elements

abbrev pub functions_in : Element Label → List ℕ
functions_in e = e.functions

pub functions_flat : (elements : List (Element Label)) → element_functions elements ≡ flat functions_in elements
unfolding flat
functions_flat [] = refl
functions_flat (e ∷ elements) = ap (λ (l : List ℕ). e.functions ++ l) (functions_flat elements)

pub headed_length : (before : ℕ) (elements : List (Element Label)) → length (headed_behind before elements) ≡ length elements
headed_length before [] = refl
headed_length before (e ∷ elements) = ap suc (headed_length (before + length e.functions) elements)

abbrev pub head_of : ℕ → Element Label → Headed
head_of end e = record { table = e.table; offset = e.offset; functions = end }

pub headed_at : (before : ℕ) (elements : List (Element Label)) (k : ℕ) (c : Headed) (d : Element Label) → k < length elements
    → get_or (headed_behind before elements) k c ≡ head_of (before + length (element_functions (take (suc k) elements))) (get_or elements k d)
headed_at before [] k c d lt = absurd (omega (arith, lt))
headed_at before (e ∷ elements) zero c d lt = ap (λ (n : ℕ). head_of (before + n) e) (omega (arith, length-append e.functions []))
headed_at before (e ∷ elements) (suc k) c d lt =
    headed_at (before + length e.functions) elements k c d (omega (arith, lt))
    ∙ ap (λ (n : ℕ). head_of n (get_or elements k d)) (omega (arith, length-append e.functions (element_functions (take (suc k) elements))))
