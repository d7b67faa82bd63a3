-- The locals of a function among its runs.
use Rattle.std.proofs.Common.{◌≡◌, ℕ, zero, suc, ◌+◌, ◌-◌, ◌<◌, ◌≤◌, List, [], ◌∷◌, ◌++◌, length, replicate, get_or, slice_get, drop, Option, Some, None, refl, sym, ap, subst, ◌∙◌, arith}
use Rattle.std.proofs.lemmas.List.{length-append, length-replicate, get_or-replicate, get_or_append_left, get_or-append-add}
use Rattle.std.proofs.lemmas.Option.{slice_get-get_or, slice_get_within, get_or_from_slice_get}
use Rattle.ctw_ops.specs.declared.types.Label.{Label}
use Rattle.ctw_ops.specs.Types.{ValueType}
use Rattle.ctw_form.specs.declared.slots.LocalRun.{LocalRun}
use Rattle.ctw_form.specs.Sections.{Group, locals_of}
use Rattle.ctw_form.specs.Spelled.{group_of}
use Rattle.ctw_form.specs.Slots.{runs_behind}

-- how many locals the first k groups have
abbrev pub upto : ℕ → List Group → ℕ
upto zero groups = 0
upto (suc k) [] = 0
upto (suc k) (g ∷ groups) = g.count + upto k groups

pub upto_all : (groups : List Group) → upto (length groups) groups ≡ length (locals_of groups)
upto_all [] = refl
upto_all (g ∷ groups) = omega (arith, upto_all groups, length-append (replicate g.count g.type) (locals_of groups), length-replicate g.count g.type)

pub upto_le : (k : ℕ) (groups : List Group) → upto k groups ≤ length (locals_of groups)
upto_le zero groups = omega arith
upto_le (suc k) [] = omega arith
upto_le (suc k) (g ∷ groups) = omega (arith, upto_le k groups, length-append (replicate g.count g.type) (locals_of groups), length-replicate g.count g.type)

pub runs_length : (before : ℕ) (groups : List Group) → length (runs_behind before groups) ≡ length groups
runs_length before [] = refl
runs_length before (g ∷ groups) = ap suc (runs_length (before + g.count) groups)

-- the end of a run
pub run_end : (before : ℕ) (groups : List Group) (k : ℕ) (d : LocalRun) → k < length groups → (get_or (runs_behind before groups) k d).end ≡ before + upto (suc k) groups
run_end before [] k d lt = absurd (omega (arith, lt))
run_end before (g ∷ groups) zero d lt = omega arith
run_end before (g ∷ groups) (suc k) d lt = omega (arith, run_end (before + g.count) groups k d (omega (arith, lt)))

-- a local that stands behind k groups, and inside one more, has that one's type
pub local_at : (before : ℕ) (groups : List Group) (k i : ℕ) (d : LocalRun) (t : ValueType Label) → k < length groups → upto k groups ≤ i → i < upto (suc k) groups
    → get_or (locals_of groups) i t ≡ (get_or (runs_behind before groups) k d).ty
local_at before [] k i d t lt low high = absurd (omega (arith, lt))
local_at before (g ∷ groups) zero i d t lt low high =
    let own = replicate g.count g.type in
    let inside : i < length own = omega (arith, length-replicate g.count g.type, high) in
    get_or_append_left own (locals_of groups) t i inside ∙ get_or-replicate g.count i g.type t (omega (arith, high))
local_at before (g ∷ groups) (suc k) i d t lt low high =
    let own = replicate g.count g.type in
    let n : ℕ = i - g.count in
    let place : i ≡ length own + n = omega (arith, length-replicate g.count g.type, low) in
    ap (λ (j : ℕ). get_or (own ++ locals_of groups) j t) place ∙ get_or-append-add own (locals_of groups) n t
    ∙ local_at (before + g.count) groups k n d t (omega (arith, lt)) (omega (arith, low)) (omega (arith, high))

same_group : (g h : Group) → g.count ≡ h.count → g.type ≡ h.type → g ≡ h
same_group g h c t = ap (λ (n : ℕ). group_of n g.type) c ∙ ap (λ (u : ValueType Label). group_of h.count u) t

head_of : (d : LocalRun) → List LocalRun → LocalRun
head_of d l = get_or l 0 d

-- runs are those of one list of groups
pub one_groups : (before : ℕ) (groups others : List Group) → runs_behind before groups ≡ runs_behind before others → groups ≡ others
one_groups before [] [] e = refl
one_groups before [] (h ∷ others) e = absurd (omega (arith, ap length e))
one_groups before (g ∷ groups) [] e = absurd (omega (arith, ap length e))
one_groups before (g ∷ groups) (h ∷ others) e =
    let d : LocalRun = record { end = before; ty = g.type } in
    let head = ap (λ (l : List LocalRun). get_or l 0 d) e in
    let count : g.count ≡ h.count = omega (arith, ap (λ (r : LocalRun). r.end) head) in
    let tail : runs_behind (before + g.count) groups ≡ runs_behind (before + h.count) others = ap (λ (l : List LocalRun). drop 1 l) e in
    let below = one_groups (before + g.count) groups others (tail ∙ ap (λ (n : ℕ). runs_behind (before + n) others) (sym count)) in
    ap (λ (x : Group). x ∷ groups) (same_group g h count (ap (λ (r : LocalRun). r.ty) head)) ∙ ap (λ (l : List Group). h ∷ l) below

-- ---- halving

pub record Halved (runs : List LocalRun) (i low high : ℕ) : Type 0 where
  pub groups : List Group
  pub same : runs ≡ runs_behind 0 groups
  pub behind : upto low groups ≤ i
  pub inside : i < upto high groups
  pub some : low < high
  pub within : high ≤ length groups
  pub room : high ≤ length runs

pub halved_start : (runs : List LocalRun) (i high : ℕ) → (groups : List Group) × (runs ≡ runs_behind 0 groups) × (i < length (locals_of groups)) → high ≡ length runs → Halved runs i 0 high
halved_start runs i high r n =
    let size : high ≡ length r.0 = omega (arith, n, ap length r.1, runs_length 0 r.0) in
    let all : upto high r.0 ≡ length (locals_of r.0) = ap (λ (k : ℕ). upto k r.0) size ∙ upto_all r.0 in
    record { groups = r.0; same = r.1; behind = omega arith; inside = omega (arith, all, r.2); some = nonempty high r.0 (omega (arith, all, r.2)); within = omega (arith, size); room = omega (arith, n) }
  where
    nonempty : (k : ℕ) (groups : List Group) → i < upto k groups → 0 < k
    nonempty zero groups h = absurd (omega (arith, h))
    nonempty (suc k) groups h = omega arith

run_end_at : (runs : List LocalRun) (groups : List Group) (k : ℕ) (d : LocalRun) → runs ≡ runs_behind 0 groups → 0 < k → k ≤ length groups → (get_or runs (k - 1) d).end ≡ upto k groups
run_end_at runs groups zero d e some le = absurd (omega (arith, some))
run_end_at runs groups (suc k) d e some le =
    let j : suc k - 1 ≡ k = omega arith in
    ap (λ (n : ℕ). (get_or runs n d).end) j ∙ ap (λ (l : List LocalRun). (get_or l k d).end) e ∙ run_end 0 groups k d (omega (arith, le)) ∙ omega arith

pub halved_up : (runs : List LocalRun) (i low high middle : ℕ) (d : LocalRun) → Halved runs i low high → low < middle → middle < high → (get_or runs (middle - 1) d).end ≤ i → Halved runs i middle high
halved_up runs i low high middle d h lt gt le =
    let e = run_end_at runs h.groups middle d h.same (omega (arith, lt)) (omega (arith, gt, h.within)) in
    record { groups = h.groups; same = h.same; behind = omega (arith, e, le); inside = h.inside; some = gt; within = h.within; room = h.room }

pub halved_down : (runs : List LocalRun) (i low high middle : ℕ) (d : LocalRun) → Halved runs i low high → low < middle → middle < high → i < (get_or runs (middle - 1) d).end → Halved runs i low middle
halved_down runs i low high middle d h lt gt le =
    let e = run_end_at runs h.groups middle d h.same (omega (arith, lt)) (omega (arith, gt, h.within)) in
    record { groups = h.groups; same = h.same; behind = h.behind; inside = omega (arith, e, le); some = lt; within = omega (arith, gt, h.within); room = omega (arith, gt, h.room) }

pub halved_end : (runs : List LocalRun) (i low high : ℕ) (d : LocalRun) → Halved runs i low high → high - low ≤ 1 → (groups : List Group) → runs ≡ runs_behind 0 groups → slice_get (locals_of groups) i ≡ Some (get_or runs low d).ty
halved_end runs i low high d h near groups e =
    let same : h.groups ≡ groups = one_groups 0 h.groups groups (sym h.same ∙ e) in
    let next : high ≡ suc low = omega (arith, near, h.some) in
    let above : i < upto (suc low) h.groups = subst (λ (n : ℕ). i < upto n h.groups) next h.inside in
    let inside : low < length h.groups = omega (arith, h.some, h.within) in
    let total : i < length (locals_of h.groups) = omega (arith, above, upto_le (suc low) h.groups) in
    let run : (get_or runs low d).ty ≡ (get_or (runs_behind 0 h.groups) low d).ty = ap (λ (l : List LocalRun). (get_or l low d).ty) h.same in
    subst (λ (l : List Group). slice_get (locals_of l) i ≡ Some (get_or runs low d).ty) same
    (slice_get-get_or (locals_of h.groups) i d.ty total ∙ ap (λ (t : ValueType Label). Some t) (local_at 0 h.groups low i d d.ty inside h.behind above ∙ sym run))

-- ---- how many there are

pub run_last : (runs : List LocalRun) (r : LocalRun) → slice_get runs (length runs - 1) ≡ Some r → (groups : List Group) → runs ≡ runs_behind 0 groups → r.end ≡ length (locals_of groups)
run_last runs r is groups e =
    let within = slice_get_within runs (length runs - 1) r is in
    let size : length runs ≡ length groups = ap length e ∙ runs_length 0 groups in
    let here = get_or_from_slice_get runs (length runs - 1) r r is in
    ap (λ (x : LocalRun). x.end) (sym here) ∙ ap (λ (n : ℕ). (get_or runs (n - 1) r).end) size
    ∙ run_end_at runs groups (length groups) r e (omega (arith, within, size)) (omega arith) ∙ upto_all groups

pub run_none : (runs : List LocalRun) → slice_get runs (length runs - 1) ≡ None → (groups : List Group) → runs ≡ runs_behind 0 groups → 0 ≡ length (locals_of groups)
run_none runs none [] e = refl
run_none [] none (g ∷ groups) e = absurd (omega (arith, ap length e))
run_none (r ∷ runs) none (g ∷ groups) e =
    let here = slice_get-get_or (r ∷ runs) (length (r ∷ runs) - 1) r (omega arith) in
    absurd (some_none _ (sym here ∙ none))
  where
    some_none : (x : LocalRun) → ◌≡◌ {A = Option LocalRun} (Some x) None → ⊥
    some_none x q = cc
