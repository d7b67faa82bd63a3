-- The loops over the code of functions.
use Rattle.std.proofs.Common.{◌≡◌, ℕ, ◌+◌, ◌-◌, ◌<◌, ◌≤◌, Bool, List, [], ◌∷◌, length, replicate, Result, Ok, Err, refl, sym, ap, subst, ◌∙◌, arith}
use Rattle.std.proofs.lemmas.Bool.{eq-eqb, ne_eqb}
use Rattle.std.proofs.lemmas.List.{length-append, length-replicate}
use Rattle.ctw_ops.specs.declared.types.Label.{Label}
use Rattle.ctw_ops.specs.Code.{Code, Op}
use Rattle.ctw_leb.specs.Input.{Input}
use Rattle.ctw_leb.specs.Grammar.{state_after}
use Rattle.ctw_leb.specs.Reading.{WholeReader, items}
use Rattle.ctw_leb.proofs.Loops.{LeftFrom, LeftItems, left_items, left_items_next, left_items_fault, left_items_end, left_from_step, left_from_none}
use Rattle.ctw_flat.specs.Bodies.{opened_by, own_body}
use Rattle.ctw_flat.proofs.Bodies.{allowed_steps}
use Rattle.ctw_flat.proofs.Balance.{open_after, closed_body, open_body}
use Rattle.ctw_form.specs.declared.fault.FormKind.TheVariants.{Unbalanced, CountMismatch}
use Rattle.ctw_form.specs.declared.fault.FormFault.{FormFault}
use Rattle.ctw_form.specs.Sections.{Group, Entry, locals_of}
use Rattle.ctw_form.specs.Spelled.{Count, count_after, all_after}
use Rattle.ctw_form.specs.Read.{fault, number_at, sized_at, form_step_at, form_body_at, group_at, groups_at, owed_at, code_entry_at, codes_at}
use Rattle.ctw_form.proofs.CodeForms.{IsFormStep, exact_form_step, form_step_filled, whole_form_steps, form_steps_are}
use Rattle.ctw_form.specs.Pieces.{window_at}
use Rattle.ctw_form.proofs.SectionForms.{form_step_sum}
use Rattle.ctw_form.proofs.SizedWindows.{sized_bad}
use Rattle.ctw_read.specs.declared.fault.ReadFault.{ReadFault}
use Rattle.ctw_read.specs.declared.fault.ReadFault.TheVariants.{Bad, NoMemory}
use Rattle.ctw_read.specs.Calls.{FailsWith, in_sized}

-- ---- bodies

abbrev pub all_steps : Bool → Input → Result (List (Op Label)) FormFault
all_steps ct start = items (form_step_at ct) opened_by own_body start

-- no fault so far, and so much is open
pub record Going (ct : Bool) (start : Input) (around : List Bool) (i : Input) : Type 0 where
  pub left : LeftItems (form_step_at ct) opened_by (all_steps ct start) own_body around i
  pub end : i.at + length i.rest ≡ start.at + length start.rest

pub body_begins : (ct : Bool) (start : Input) (around : List Bool) → around ≡ own_body → Going ct start around start
body_begins ct start around own = rw own (record { left = left_items (form_step_at ct) opened_by own_body start; end = refl })

pub body_goes : (ct : Bool) (start : Input) (around around₂ : List Bool) (i o : Input) (op : Op Label) → Going ct start around i → form_step_at ct around i ≡ Ok (op, o) → around₂ ≡ opened_by around op → Going ct start around₂ o
body_goes ct start around around₂ i o op h e a =
    rw a (record {
      left = left_items_next (IsFormStep ct) (form_step_at ct) opened_by (exact_form_step ct) (form_step_filled ct) (all_steps ct start) own_body around i o op h.left e;
      end = form_step_sum ct around i o op e ∙ h.end;
    })

pub body_fails : (ct : Bool) (start : Input) (around : List Bool) (i : Input) (e : ReadFault) → 0 < length i.rest → Going ct start around i → FailsWith e (form_step_at ct around i) → FailsWith e (form_body_at ct start)
unfolding form_body_at
body_fails ct start around i NoMemory some h f = tt
body_fails ct start around i (Bad kind place) some h f =
    let all = left_items_fault (form_step_at ct) opened_by (all_steps ct start) own_body around i (fault kind place) some h.left f in
    rw all refl

steps_end : (ct : Bool) (start : Input) (around : List Bool) (i : Input) → length i.rest ≡ 0 → Going ct start around i → (ops : List (Op Label)) × (all_steps ct start ≡ Ok ops) × (open_after own_body ops ≡ around)
steps_end ct start around i none h = left_items_end (form_step_at ct) opened_by (all_steps ct start) own_body around i none h.left

-- nothing is left and nothing is open: a body
pub body_done : (ct : Bool) (start : Input) (around : List Bool) (i : Input) → length i.rest ≡ 0 → length around ≡ 0 → Going ct start around i → (c : Code Label) × (form_body_at ct start ≡ Ok c)
unfolding form_body_at
body_done ct start (b ∷ bs) i none closed h = absurd (omega arith)
body_done ct start [] i none closed h =
    let s = steps_end ct start [] i none h in
    let steps = form_steps_are ct own_body start.rest s.0 ((whole_form_steps ct).sound start s.0 s.1) in
    let t = closed_body s.0 (allowed_steps own_body start.rest s.0 steps.0) s.2 in
    (t.0, rw (s.1, t.1) refl)

-- nothing is left and something is open
pub body_open : (ct : Bool) (start : Input) (around : List Bool) (i : Input) → length i.rest ≡ 0 → 0 < length around → Going ct start around i → form_body_at ct start ≡ Err (fault Unbalanced i.at)
unfolding form_body_at
body_open ct start [] i none some h = absurd (omega arith)
body_open ct start (b ∷ bs) i none some h =
    let s = steps_end ct start (b ∷ bs) i none h in
    let end : start.at + length start.rest ≡ i.at = omega (arith, h.end, none) in
    rw (s.1, open_body s.0 b bs s.2, end) refl

-- ---- locals

count_is : (c : Count) (groups : List Group) → (state_after count_after c groups).all ≡ c.all + length (locals_of groups)
count_is c [] = omega arith
count_is c (g ∷ groups) =
    let others = count_is (count_after c g) groups in
    let size : length (locals_of (g ∷ groups)) ≡ g.count + length (locals_of groups) = length-append (replicate g.count g.type) (locals_of groups) ∙ ap (λ (n : ℕ). n + length (locals_of groups)) (length-replicate g.count g.type) in
    omega (arith, others, size)

-- the groups so far, with those that are left, are all of them
abbrev pub Grouped : Bool → ℕ → ℕ → Input → ℕ → ℕ → ℕ → Input → Type 0
Grouped ct n all start left own now_all now = LeftFrom (group_at ct) count_after n (record { own = 0; all = all }) start left (record { own = own; all = now_all }) now

pub groups_done : (ct : Bool) (all : ℕ) (i mid : Input) (n k own now_all : ℕ) (now : Input) → number_at i ≡ Ok (n, mid) → n ≤ k → Grouped ct n all mid (n - k) own now_all now
    → (groups : List Group) × (groups_at ct all i ≡ Ok (groups, now)) × (now_all ≡ all + length (locals_of groups))
unfolding groups_at
groups_done ct all i mid n k own now_all now e le h =
    let d = left_from_none (group_at ct) count_after n (record { own = 0; all = all }) mid k (record { own = own; all = now_all }) now le h in
    (d.0, rw (e, d.1) refl, ap (λ (c : Count). c.all) (sym d.3) ∙ count_is (record { own = 0; all = all }) d.0)

-- ---- entries

abbrev pub Entered : Bool → ℕ → Input → ℕ → ℕ → Input → Type 0
Entered ct n start left all now = LeftFrom (code_entry_at ct) all_after n 0 start left all now

pub owed_same : (owed : ℕ) (i mid : Input) (n : ℕ) → number_at i ≡ Ok (n, mid) → n ≡ owed → owed_at owed i ≡ Ok (n, mid)
unfolding owed_at
owed_same owed i mid n e same = rw (e, eq-eqb n owed same) refl

pub owed_other : (owed : ℕ) (i mid : Input) (n : ℕ) → number_at i ≡ Ok (n, mid) → (n ≡ owed → ⊥) → owed_at owed i ≡ Err (fault CountMismatch i.at)
unfolding owed_at
owed_other owed i mid n e differs = rw (e, ne_eqb n owed differs) refl

pub sized_fails : {A : Type 0} (r : WholeReader A FormFault) (i w o : Input) (e : ReadFault) → window_at i ≡ Ok (w, o) → FailsWith e (r w) → FailsWith (in_sized e) (sized_at r i)
sized_fails r i w o NoMemory h f = tt
sized_fails r i w o (Bad kind place) h f = sized_bad r i w o (fault kind place) h f

pub owed_short : (owed : ℕ) (i : Input) (f : FormFault) → number_at i ≡ Err f → owed_at owed i ≡ Err f
unfolding owed_at
owed_short owed i f e = rw e refl

pub entries_go : (ct : Bool) (n : ℕ) (start : Input) (k all more : ℕ) (i o : Input) (e : Entry) → k < n → Entered ct n start (n - k) all i → code_entry_at ct all i ≡ Ok (e, o) → more ≡ all_after all e → Entered ct n start (n - (k + 1)) more o
entries_go ct n start k all more i o e lt h r is =
    subst (λ (m : ℕ). Entered ct n start (n - (k + 1)) m o) (sym is) (left_from_step (code_entry_at ct) all_after n 0 start k all i o e lt h r)

pub codes_done : (ct : Bool) (owed : ℕ) (i mid : Input) (n k all : ℕ) (now : Input) → number_at i ≡ Ok (n, mid) → n ≡ owed → n ≤ k → Entered ct n mid (n - k) all now
    → (entries : List Entry) × (codes_at ct owed i ≡ Ok (entries, now)) × Unit {0}
unfolding codes_at
codes_done ct owed i mid n k all now e same le h =
    let d = left_from_none (code_entry_at ct) all_after n 0 mid k all now le h in
    (d.0, rw (owed_same owed i mid n e same, d.1) refl, tt)
