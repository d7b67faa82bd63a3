-- Loops that read items: what was met so far, with what is left, is all of them.
use Rattle.std.proofs.Common.{◌≡◌, ℕ, zero, suc, ◌+◌, ◌-◌, ◌<◌, ◌≤◌, List, [], ◌∷◌, ◌++◌, length, take, drop, Result, Ok, Err, refl, sym, ap, subst, ◌∙◌, append_assoc, arith}
use Rattle.std.proofs.lemmas.List.{length-append, take_at, drop_at, drop-drop, append-nil}
use Rattle.ctw_leb.specs.Input.{Input, behind, InFile}
use Rattle.ctw_leb.specs.Grammar.{Grammar, state_after, stays}
use Rattle.ctw_leb.specs.Reading.{Reader, Exact, chain, times_from, times, items_in, items}
use Rattle.ctw_leb.proofs.Exact.{ok_is, chain_ok}
use Rattle.ctw_leb.proofs.Combinators.{IsFilled}

-- values in front of what a reader gives
abbrev pub with_front : {A F : Type 0} → List A → Result (List A × Input) F → Result (List A × Input) F
with_front front read = chain read (λ x. Ok (front ++ x.0, x.1))

-- Of n items from `start` on so many are left at `now`, where the state is s.
abbrev pub LeftFrom : {S A F : Type 0} → (S → Reader A F) → (S → A → S) → ℕ → S → Input → ℕ → S → Input → Type 0
LeftFrom {S} {A} r next n first start left s now = (front : List A) × (with_front front (times_from r next left s now) ≡ times_from r next n first start) × (state_after next first front ≡ s)

-- the same of items without a state
abbrev pub Left : {A F : Type 0} → Reader A F → ℕ → Input → ℕ → Input → Type 0
Left r n start left now = LeftFrom (λ u. r) stays n tt start left tt now

-- Of the items to the end, read from the state `start` on with the answer `all`, those from `now` on are left, in the state s.
abbrev pub LeftItems : {S A F : Type 0} → (S → Reader A F) → (S → A → S) → Result (List A) F → S → S → Input → Type 0
LeftItems {S} {A} r next all start s now = (front : List A) × (chain (items r next s now) (λ l. Ok (front ++ l)) ≡ all) × (state_after next start front ≡ s)

-- ---- a loop over a count

state_push : {S A : Type 0} (next : S → A → S) (s : S) (front : List A) (a : A) → state_after next s (front ++ a ∷ []) ≡ next (state_after next s front) a
state_push next s [] a = refl
state_push next s (b ∷ front) a = state_push next (next s b) front a

pub left_from_all : {S A F : Type 0} (r : S → Reader A F) (next : S → A → S) (n : ℕ) (first : S) (start : Input) → LeftFrom r next n first start n first start
left_from_all {S} {A} {F} r next n first start = ([], whole (times_from r next n first start), refl)
  where
    whole : (read : Result (List A × Input) F) → with_front [] read ≡ read
    whole (Ok x) = refl
    whole (Err e) = refl

regroup : {A F : Type 0} (front : List A) (a : A) (read : Result (List A × Input) F) → with_front front (chain read (λ x. Ok (a ∷ x.0, x.1))) ≡ with_front (front ++ a ∷ []) read
regroup {A} front a (Ok x) = ap (λ (l : List A). Ok (l, x.1)) (sym (append_assoc front (a ∷ []) x.0))
regroup front a (Err e) = refl

pub left_from_one : {S A F : Type 0} (r : S → Reader A F) (next : S → A → S) (n : ℕ) (first : S) (start : Input) (left : ℕ) (s : S) (now after : Input) (a : A)
    → LeftFrom r next n first start (suc left) s now → r s now ≡ Ok (a, after) → LeftFrom r next n first start left (next s a) after
left_from_one {S} r next n first start left s now after a h e =
    (h.0 ++ a ∷ [], sym (regroup h.0 a (times_from r next left (next s a) after)) ∙ one ∙ h.1, state_push next first h.0 a ∙ ap (λ (t : S). next t a) h.2)
  where
    one : with_front h.0 (chain (times_from r next left (next s a) after) (λ x. Ok (a ∷ x.0, x.1))) ≡ with_front h.0 (times_from r next (suc left) s now)
    one = rw e refl

-- the same where a loop counts up
pub left_from_step : {S A F : Type 0} (r : S → Reader A F) (next : S → A → S) (n : ℕ) (first : S) (start : Input) (i : ℕ) (s : S) (now after : Input) (a : A)
    → i < n → LeftFrom r next n first start (n - i) s now → r s now ≡ Ok (a, after) → LeftFrom r next n first start (n - (i + 1)) (next s a) after
left_from_step r next n first start i s now after a lt h e =
    let k : n - i ≡ suc (n - (i + 1)) = omega arith in
    left_from_one r next n first start (n - (i + 1)) s now after a (rw k at h) e

pub left_from_fault : {S A F : Type 0} (r : S → Reader A F) (next : S → A → S) (n : ℕ) (first : S) (start : Input) (left : ℕ) (s : S) (now : Input) (f : F)
    → 0 < left → LeftFrom r next n first start left s now → r s now ≡ Err f → times_from r next n first start ≡ Err f
left_from_fault r next n first start zero s now f some h e = absurd (omega arith)
left_from_fault r next n first start (suc left) s now f some h e =
    let one : with_front h.0 (times_from r next (suc left) s now) ≡ Err f = rw e refl in
    sym h.1 ∙ one

pub times_from_length : {S A F : Type 0} (r : S → Reader A F) (next : S → A → S) (n : ℕ) (s : S) (i : Input) (l : List A) (o : Input) → times_from r next n s i ≡ Ok (l, o) → length l ≡ n
times_from_length {S} {A} {F} r next zero s i l o e = ap (λ (z : List A × Input). length z.0) (sym (ok_is {F = F} ([], i) (l, o) e))
times_from_length {S} {A} {F} r next (suc n) s i l o e =
    let c = chain_ok (r s i) (λ x. chain (times_from r next n (next s x.0) x.1) (λ y. Ok (x.0 ∷ y.0, y.1))) (l, o) e in
    let d = chain_ok (times_from r next n (next s c.0.0) c.0.1) (λ y. Ok (c.0.0 ∷ y.0, y.1)) (l, o) c.2 in
    let q : (c.0.0 ∷ d.0.0, d.0.1) ≡ (l, o) = ok_is {F = F} (c.0.0 ∷ d.0.0, d.0.1) (l, o) d.2 in
    let longer : length l ≡ suc (length d.0.0) = ap (λ (z : List A × Input). length z.0) (sym q) in
    let again : length d.0.0 ≡ n = times_from_length r next n (next s c.0.0) c.0.1 d.0.0 d.0.1 d.1 in
    longer ∙ ap suc again

-- where none are left, all were read
pub left_from_none : {S A F : Type 0} (r : S → Reader A F) (next : S → A → S) (n : ℕ) (first : S) (start : Input) (k : ℕ) (s : S) (now : Input)
    → n ≤ k → LeftFrom r next n first start (n - k) s now → (l : List A) × (times_from r next n first start ≡ Ok (l, now)) × (length l ≡ n) × (state_after next first l ≡ s)
left_from_none {S} {A} {F} r next n first start k s now le h =
    let none : n - k ≡ 0 = omega arith in
    let last : with_front h.0 (times_from r next 0 s now) ≡ times_from r next n first start = subst (λ (j : ℕ). with_front h.0 (times_from r next j s now) ≡ times_from r next n first start) none h.1 in
    let read : times_from r next n first start ≡ Ok (h.0, now) = sym last ∙ ap (λ (l : List A). Ok (l, now)) (append-nil h.0) in
    (h.0, read, times_from_length r next n first start h.0 now read, h.2)

-- the same without a state
pub left_all : {A F : Type 0} (r : Reader A F) (n : ℕ) (start : Input) → Left r n start n start
left_all r n start = left_from_all (λ u. r) stays n tt start

pub left_one : {A F : Type 0} (r : Reader A F) (n : ℕ) (start : Input) (left : ℕ) (now after : Input) (a : A) → Left r n start (suc left) now → r now ≡ Ok (a, after) → Left r n start left after
left_one r n start left now after a h e = left_from_one (λ u. r) stays n tt start left tt now after a h e

pub left_step : {A F : Type 0} (r : Reader A F) (n : ℕ) (start : Input) (i : ℕ) (now after : Input) (a : A) → i < n → Left r n start (n - i) now → r now ≡ Ok (a, after) → Left r n start (n - (i + 1)) after
left_step r n start i now after a lt h e = left_from_step (λ u. r) stays n tt start i tt now after a lt h e

pub left_fault : {A F : Type 0} (r : Reader A F) (n : ℕ) (start : Input) (left : ℕ) (now : Input) (f : F) → 0 < left → Left r n start left now → r now ≡ Err f → times r n start ≡ Err f
left_fault r n start left now f some h e = left_from_fault (λ u. r) stays n tt start left tt now f some h e

pub left_none : {A F : Type 0} (r : Reader A F) (n : ℕ) (start : Input) (k : ℕ) (now : Input) → n ≤ k → Left r n start (n - k) now → (l : List A) × (times r n start ≡ Ok (l, now)) × (length l ≡ n)
left_none r n start k now le h =
    let done = left_from_none (λ u. r) stays n tt start k tt now le h in
    (done.0, done.1, done.2)

pub times_length : {A F : Type 0} (r : Reader A F) (n : ℕ) (i : Input) (l : List A) (o : Input) → times r n i ≡ Ok (l, o) → length l ≡ n
times_length r n i l o e = times_from_length (λ u. r) stays n tt i l o e

-- ---- a loop to the end of the bytes
pub read_shorter : {A F : Type 0} (G : Grammar A) (r : Reader A F) → Exact G r → IsFilled G → (i : Input) (a : A) (o : Input) → r i ≡ Ok (a, o) → length o.rest < length i.rest
read_shorter {A} G r ex filled i a o e =
    let s = ex.sound i a o e in
    let some : 0 < length s.0 = not_empty s.0 s.1 in
    omega (arith, some, ap length s.2, length-append s.0 o.rest)
  where
    not_empty : (text : List ℕ) → G text a → 0 < length text
    not_empty [] m = absurd (filled a m)
    not_empty (t ∷ ts) m = omega arith

items_fuel : {S A F : Type 0} (G : S → Grammar A) (r : S → Reader A F) (next : S → A → S) → ((s : S) → Exact (G s) (r s)) → ((s : S) → IsFilled (G s))
    → (f g : ℕ) (s : S) (at : ℕ) (bytes : List ℕ) → length bytes ≤ f → length bytes ≤ g → items_in r next f s at bytes ≡ items_in r next g s at bytes
unfolding items_in
items_fuel G r next ex filled f g s at [] p q = refl
items_fuel G r next ex filled zero g s at (b ∷ rest) p q = absurd (omega arith)
items_fuel G r next ex filled (suc f) zero s at (b ∷ rest) p q = absurd (omega arith)
items_fuel {S} {A} {F} G r next ex filled (suc f) (suc g) s at (b ∷ rest) p q =
    go (λ t n l h k. items_fuel G r next ex filled f g t n l h k) (r s i) refl
  where
    i : Input
    i = record { at = at; rest = b ∷ rest }

    go : ((t : S) (n : ℕ) (l : List ℕ) → length l ≤ f → length l ≤ g → items_in r next f t n l ≡ items_in r next g t n l)
        → (read : Result (A × Input) F) → r s i ≡ read
        → chain read (λ x. chain (items_in r next f (next s x.0) x.1.at x.1.rest) (λ l. Ok (x.0 ∷ l))) ≡ chain read (λ x. chain (items_in r next g (next s x.0) x.1.at x.1.rest) (λ l. Ok (x.0 ∷ l)))
    go again (Err d) e = refl
    go again (Ok x) e =
        let shorter : length x.1.rest < length (b ∷ rest) = read_shorter (G s) (r s) (ex s) (filled s) i x.0 x.1 e in
        ap (λ (z : Result (List A) F). chain z (λ l. Ok (x.0 ∷ l))) (again (next s x.0) x.1.at x.1.rest (omega arith) (omega arith))

items_next_in : {S A F : Type 0} (G : S → Grammar A) (r : S → Reader A F) (next : S → A → S) → ((s : S) → Exact (G s) (r s)) → ((s : S) → IsFilled (G s))
    → (s : S) (at : ℕ) (bytes : List ℕ) (o : Input) (a : A) → r s (record { at = at; rest = bytes }) ≡ Ok (a, o)
    → items r next s (record { at = at; rest = bytes }) ≡ chain (items r next (next s a) o) (λ l. Ok (a ∷ l))
unfolding items_in
items_next_in G r next ex filled s at [] o a e =
    let shorter = read_shorter (G s) (r s) (ex s) (filled s) (record { at = at; rest = [] }) a o e in
    absurd (omega arith)
items_next_in {S} {A} {F} G r next ex filled s at (b ∷ rest) o a e =
    let shorter : length o.rest < length (b ∷ rest) = read_shorter (G s) (r s) (ex s) (filled s) (record { at = at; rest = b ∷ rest }) a o e in
    let again = items_fuel G r next ex filled (length rest) (length o.rest) (next s a) o.at o.rest (omega arith) (omega arith) in
    ap (λ (z : Result (A × Input) F). chain z (λ x. chain (items_in r next (length rest) (next s x.0) x.1.at x.1.rest) (λ l. Ok (x.0 ∷ l)))) e
    ∙ ap (λ (z : Result (List A) F). chain z (λ l. Ok (a ∷ l))) again

pub items_next : {S A F : Type 0} (G : S → Grammar A) (r : S → Reader A F) (next : S → A → S) → ((s : S) → Exact (G s) (r s)) → ((s : S) → IsFilled (G s))
    → (s : S) (i o : Input) (a : A) → r s i ≡ Ok (a, o) → items r next s i ≡ chain (items r next (next s a) o) (λ l. Ok (a ∷ l))
items_next G r next ex filled s i o a e = items_next_in G r next ex filled s i.at i.rest o a e

items_fault_in : {S A F : Type 0} (r : S → Reader A F) (next : S → A → S) (s : S) (at : ℕ) (bytes : List ℕ) (f : F) → 0 < length bytes → r s (record { at = at; rest = bytes }) ≡ Err f
    → items r next s (record { at = at; rest = bytes }) ≡ Err f
unfolding items_in
items_fault_in r next s at [] f lt e = absurd (omega arith)
items_fault_in r next s at (b ∷ rest) f lt e = rw e refl

items_end_in : {S A F : Type 0} (r : S → Reader A F) (next : S → A → S) (s : S) (at : ℕ) (bytes : List ℕ) → length bytes ≡ 0 → items r next s (record { at = at; rest = bytes }) ≡ Ok []
unfolding items_in
items_end_in r next s at [] e = refl
items_end_in r next s at (b ∷ rest) e = absurd (omega arith)

regroup_items : {A F : Type 0} (front : List A) (a : A) (read : Result (List A) F) → chain (chain read (λ l. Ok (a ∷ l))) (λ l. Ok (front ++ l)) ≡ chain read (λ l. Ok ((front ++ a ∷ []) ++ l))
regroup_items {A} front a (Ok x) = ap (λ (l : List A). Ok l) (sym (append_assoc front (a ∷ []) x))
regroup_items front a (Err e) = refl

pub left_items : {S A F : Type 0} (r : S → Reader A F) (next : S → A → S) (s : S) (i : Input) → LeftItems r next (items r next s i) s s i
left_items {S} {A} {F} r next s i = ([], whole (items r next s i), refl)
  where
    whole : (read : Result (List A) F) → chain read (λ l. Ok ([] ++ l)) ≡ read
    whole (Ok x) = refl
    whole (Err e) = refl

pub left_items_next : {S A F : Type 0} (G : S → Grammar A) (r : S → Reader A F) (next : S → A → S) → ((s : S) → Exact (G s) (r s)) → ((s : S) → IsFilled (G s))
    → (all : Result (List A) F) (start s : S) (i o : Input) (a : A) → LeftItems r next all start s i → r s i ≡ Ok (a, o) → LeftItems r next all start (next s a) o
left_items_next {S} {A} {F} G r next ex filled all start s i o a h e =
    (h.0 ++ a ∷ [], sym (regroup_items h.0 a (items r next (next s a) o)) ∙ ap (λ (z : Result (List A) F). chain z (λ l. Ok (h.0 ++ l))) (sym (items_next G r next ex filled s i o a e)) ∙ h.1, state_push next start h.0 a ∙ ap (λ (t : S). next t a) h.2)

pub left_items_fault : {S A F : Type 0} (r : S → Reader A F) (next : S → A → S) (all : Result (List A) F) (start s : S) (i : Input) (f : F) → 0 < length i.rest
    → LeftItems r next all start s i → r s i ≡ Err f → all ≡ Err f
left_items_fault r next all start s i f lt h e =
    let one : chain (items r next s i) (λ l. Ok (h.0 ++ l)) ≡ Err f = rw (items_fault_in r next s i.at i.rest f lt e) refl in
    sym h.1 ∙ one

pub left_items_end : {S A F : Type 0} (r : S → Reader A F) (next : S → A → S) (all : Result (List A) F) (start s : S) (i : Input) → length i.rest ≡ 0
    → LeftItems r next all start s i → (l : List A) × (all ≡ Ok l) × (state_after next start l ≡ s)
left_items_end r next all start s i none h =
    let one : chain (items r next s i) (λ l. Ok (h.0 ++ l)) ≡ Ok (h.0 ++ []) = rw (items_end_in r next s i.at i.rest none) refl in
    (h.0, sym h.1 ∙ one ∙ ap (λ l. Ok l) (append-nil h.0), h.2)

-- reading keeps the end of the bytes
pub read_sum : {A F : Type 0} (G : Grammar A) (r : Reader A F) → Exact G r → (i : Input) (a : A) (o : Input) → r i ≡ Ok (a, o) → o.at + length o.rest ≡ i.at + length i.rest
read_sum G r ex i a o e =
    let s = ex.sound i a o e in
    omega (arith, s.3, ap length s.2, length-append s.0 o.rest)

-- what is read in a window is read in the file at that place
pub in_file : {A F : Type 0} (G : Grammar A) (r : Reader A F) → Exact G r → (bytes : List ℕ) (i o : Input) (a : A) → InFile bytes i → r i ≡ Ok (a, o)
    → (p : Input) × (r (record { at = i.at; rest = drop i.at bytes }) ≡ Ok (a, p)) × InFile bytes o
in_file {A} {F} G r ex bytes i o a w e =
    let s = ex.sound i a o e in
    let whole : drop i.at bytes ≡ s.0 ++ (o.rest ++ w.0) = w.1 ∙ ap (λ (l : List ℕ). l ++ w.0) s.2 ∙ append_assoc s.0 o.rest w.0 in
    let there = ex.complete s.0 (o.rest ++ w.0) i.at a s.1 in
    let behind_it : drop o.at bytes ≡ o.rest ++ w.0 = ap (λ (n : ℕ). drop n bytes) s.3 ∙ sym (drop-drop (length s.0) i.at bytes) ∙ ap (drop (length s.0)) whole ∙ drop_at s.0 (o.rest ++ w.0) (length s.0) refl in
    (behind i.at s.0 (o.rest ++ w.0), ap (λ (l : List ℕ). r (record { at = i.at; rest = l })) whole ∙ there, (w.0, behind_it))

-- the bytes that a reader took, read by themselves
pub lent : {A F : Type 0} (G : Grammar A) (r : Reader A F) → Exact G r → (i o : Input) (a : A) → r i ≡ Ok (a, o)
    → r (record { at = 0; rest = take (o.at - i.at) i.rest }) ≡ Ok (a, record { at = o.at - i.at; rest = [] })
lent {A} {F} G r ex i o a e =
    let s = ex.sound i a o e in
    let size : length s.0 ≡ o.at - i.at = omega (arith, s.3) in
    let front : take (o.at - i.at) i.rest ≡ s.0 ++ [] = ap (take (o.at - i.at)) s.2 ∙ take_at s.0 o.rest (o.at - i.at) size ∙ sym (append-nil s.0) in
    let again = ex.complete s.0 [] 0 a s.1 in
    let place : 0 + length s.0 ≡ o.at - i.at = omega (arith, size) in
    ap (λ (l : List ℕ). r (record { at = 0; rest = l })) front ∙ again ∙ ap (λ (n : ℕ). Ok (a, record { at = n; rest = [] })) place
