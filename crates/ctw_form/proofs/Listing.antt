-- Loops that gather the items that they read.
use Rattle.std.proofs.Common.{◌≡◌, ℕ, suc, ◌+◌, ◌-◌, ◌<◌, ◌≤◌, List, [], ◌∷◌, ◌++◌, map, Result, Ok, Err, refl, sym, ap, subst, ◌∙◌, append_assoc, append-nil, arith}
use Rattle.ctw_leb.specs.Input.{Input}
use Rattle.ctw_leb.specs.Grammar.{state_after, stays}
use Rattle.ctw_leb.specs.Reading.{Reader, chain, times_from, times}
use Rattle.ctw_leb.proofs.Loops.{with_front}
use Rattle.ctw_form.specs.declared.fault.FormFault.{FormFault}
use Rattle.ctw_form.specs.Read.{number_at, vector_at}

-- these items are those before `now`; so many are left there, in the state s
pub record Listed {S A : Type 0} (r : S → Reader A FormFault) (next : S → A → S) (n : ℕ) (first : S) (start : Input) (left : ℕ) (s : S) (now : Input) (front : List A) : Type 0 where
  pub all : with_front front (times_from r next left s now) ≡ times_from r next n first start
  pub state : state_after next first front ≡ s

unchanged : {A : Type 0} (read : Result (List A × Input) FormFault) → with_front [] read ≡ read
unchanged (Ok x) = refl
unchanged (Err f) = refl

pub listed_all : {S A : Type 0} (r : S → Reader A FormFault) (next : S → A → S) (n : ℕ) (first : S) (start : Input) (front : List A) → front ≡ [] → Listed r next n first start n first start front
listed_all {S} {A} r next n first start front e =
    subst (λ (l : List A). Listed r next n first start n first start l) (sym e) (record { all = unchanged (times_from r next n first start); state = refl })

state_push : {S A : Type 0} (next : S → A → S) (s : S) (front : List A) (a : A) → state_after next s (front ++ a ∷ []) ≡ next (state_after next s front) a
state_push next s [] a = refl
state_push next s (b ∷ front) a = state_push next (next s b) front a

regroup : {A : Type 0} (front : List A) (a : A) (read : Result (List A × Input) FormFault) → with_front front (chain read (λ x. Ok (a ∷ x.0, x.1))) ≡ with_front (front ++ a ∷ []) read
regroup {A} front a (Ok x) = ap (λ (l : List A). Ok (l, x.1)) (sym (append_assoc front (a ∷ []) x.0))
regroup front a (Err e) = refl

listed_one : {S A : Type 0} (r : S → Reader A FormFault) (next : S → A → S) (n : ℕ) (first : S) (start : Input) (left : ℕ) (s : S) (now after : Input) (front : List A) (a : A)
    → Listed r next n first start (suc left) s now front → r s now ≡ Ok (a, after) → Listed r next n first start left (next s a) after (front ++ a ∷ [])
listed_one {S} r next n first start left s now after front a h e = record {
  all = sym (regroup front a (times_from r next left (next s a) after)) ∙ one ∙ h.all;
  state = state_push next first front a ∙ ap (λ (t : S). next t a) h.state;
}
  where
    one : with_front front (chain (times_from r next left (next s a) after) (λ x. Ok (a ∷ x.0, x.1))) ≡ with_front front (times_from r next (suc left) s now)
    one = rw e refl

pub listed_step : {S A : Type 0} (r : S → Reader A FormFault) (next : S → A → S) (n : ℕ) (first : S) (start : Input) (i : ℕ) (s t : S) (now after : Input) (front more : List A) (a : A)
    → i < n → Listed r next n first start (n - i) s now front → r s now ≡ Ok (a, after) → t ≡ next s a → more ≡ front ++ a ∷ [] → Listed r next n first start (n - (i + 1)) t after more
listed_step {S} {A} r next n first start i s t now after front more a lt h e f g =
    let k : n - i ≡ suc (n - (i + 1)) = omega arith in
    let one = listed_one r next n first start (n - (i + 1)) s now after front a (subst (λ (j : ℕ). Listed r next n first start j s now front) k h) e in
    subst (λ (u : S). Listed r next n first start (n - (i + 1)) u after more) (sym f)
    (subst (λ (l : List A). Listed r next n first start (n - (i + 1)) (next s a) after l) (sym g) one)

pub listed_fault : {S A : Type 0} (r : S → Reader A FormFault) (next : S → A → S) (n : ℕ) (first : S) (start : Input) (i : ℕ) (s : S) (now : Input) (front : List A) (f : FormFault)
    → i < n → Listed r next n first start (n - i) s now front → r s now ≡ Err f → times_from r next n first start ≡ Err f
listed_fault {S} {A} r next n first start i s now front f lt h e =
    let k : n - i ≡ suc (n - (i + 1)) = omega arith in
    let one : with_front front (times_from r next (suc (n - (i + 1))) s now) ≡ Err f = rw e refl in
    sym h.all ∙ ap (λ (j : ℕ). with_front front (times_from r next j s now)) k ∙ one

pub listed_done : {S A : Type 0} (r : S → Reader A FormFault) (next : S → A → S) (n : ℕ) (first : S) (start : Input) (k : ℕ) (s : S) (now : Input) (front : List A)
    → n ≤ k → Listed r next n first start (n - k) s now front → times_from r next n first start ≡ Ok (front, now)
listed_done {S} {A} r next n first start k s now front le h =
    let none : n - k ≡ 0 = omega arith in
    sym h.all ∙ ap (λ (j : ℕ). with_front front (times_from r next j s now)) none ∙ ap (λ (l : List A). Ok (l, now)) (append-nil front)

pub map_push : {A B : Type 0} (f : A → B) (l : List A) (a : A) → map f (l ++ a ∷ []) ≡ map f l ++ f a ∷ []
map_push f [] a = refl
map_push {A} {B} f (b ∷ l) a = ap (λ (z : List B). f b ∷ z) (map_push f l a)

-- ---- items without a state, behind their count

abbrev pub ListedItems : {A : Type 0} → Reader A FormFault → ℕ → Input → ℕ → Input → List A → Type 0
ListedItems r n start left now front = Listed (λ u. r) stays n tt start left tt now front

pub items_all : {A : Type 0} (r : Reader A FormFault) (n : ℕ) (start : Input) (front : List A) → front ≡ [] → ListedItems r n start n start front
items_all r n start front e = listed_all (λ u. r) stays n tt start front e

pub items_step : {A : Type 0} (r : Reader A FormFault) (n : ℕ) (start : Input) (i : ℕ) (now after : Input) (front more : List A) (a : A)
    → i < n → ListedItems r n start (n - i) now front → r now ≡ Ok (a, after) → more ≡ front ++ a ∷ [] → ListedItems r n start (n - (i + 1)) after more
items_step r n start i now after front more a lt h e g = listed_step (λ u. r) stays n tt start i tt tt now after front more a lt h e refl g

pub items_fault : {A : Type 0} (r : Reader A FormFault) (n : ℕ) (i : Input) (start : Input) (k : ℕ) (now : Input) (front : List A) (f : FormFault)
    → number_at i ≡ Ok (n, start) → k < n → ListedItems r n start (n - k) now front → r now ≡ Err f → vector_at r i ≡ Err f
items_fault r n i start k now front f c lt h e =
    let all : times r n start ≡ Err f = listed_fault (λ u. r) stays n tt start k tt now front f lt h e in
    rw c all

pub items_done : {A : Type 0} (r : Reader A FormFault) (n : ℕ) (i : Input) (start : Input) (k : ℕ) (now : Input) (front : List A)
    → number_at i ≡ Ok (n, start) → n ≤ k → ListedItems r n start (n - k) now front → vector_at r i ≡ Ok (front, now)
items_done r n i start k now front c le h =
    let all : times r n start ≡ Ok (front, now) = listed_done (λ u. r) stays n tt start k tt now front le h in
    rw c all

-- ---- indexes at the end of a list

pub record MoreIndexes (n : ℕ) (start : Input) (left : ℕ) (now : Input) (old all : List ℕ) : Type 0 where
  pub front : List ℕ
  pub listed : ListedItems number_at n start left now front
  pub behind : all ≡ old ++ front

pub indexes_all : (n : ℕ) (start : Input) (all : List ℕ) → MoreIndexes n start n start all all
indexes_all n start all = record { front = []; listed = items_all number_at n start [] refl; behind = sym (append-nil all) }

pub indexes_step : (n : ℕ) (start : Input) (i : ℕ) (now after : Input) (old all more : List ℕ) (a : ℕ) → i < n → MoreIndexes n start (n - i) now old all → number_at now ≡ Ok (a, after) → more ≡ all ++ a ∷ []
    → MoreIndexes n start (n - (i + 1)) after old more
indexes_step n start i now after old all more a lt h e g = record {
  front = h.front ++ a ∷ [];
  listed = items_step number_at n start i now after h.front (h.front ++ a ∷ []) a lt h.listed e refl;
  behind = g ∙ ap (λ (l : List ℕ). l ++ a ∷ []) h.behind ∙ append_assoc old h.front (a ∷ []);
}

pub indexes_done : (n : ℕ) (i start : Input) (k : ℕ) (now : Input) (old all : List ℕ) → number_at i ≡ Ok (n, start) → n ≤ k → MoreIndexes n start (n - k) now old all
    → (l : List ℕ) × (vector_at number_at i ≡ Ok (l, now)) × (all ≡ old ++ l)
indexes_done n i start k now old all c le h = (h.front, items_done number_at n i start k now h.front c le h.listed, h.behind)
