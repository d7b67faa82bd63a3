-- The lent bytes of a branch table spell its targets.
use Rattle.std.proofs.Common.{◌≡◌, ℕ, zero, suc, ◌+◌, ◌-◌, ◌<◌, ◌≤◌, List, [], ◌∷◌, ◌++◌, length, take, drop, slice_get, None, Ok, Err, refl, sym, ap, subst, ◌∙◌, arith}
use Rattle.std.proofs.lemmas.List.{length-append, take_at, append-nil}
use Rattle.ctw_leb.specs.Input.{Input, behind}
use Rattle.ctw_leb.specs.Grammar.{Times}
use Rattle.ctw_leb.specs.Numbers.{IsU32}
use Rattle.ctw_leb.proofs.Loops.{Left, left_fault, left_none}
use Rattle.ctw_flat.specs.declared.fault.CodeFault.{CodeFault}
use Rattle.ctw_flat.specs.Read.{index_at, indexes_at}
use Rattle.ctw_flat.specs.Instructions.{values, targets_in}
use Rattle.ctw_flat.proofs.Ops.{exact_indexes}

-- the bytes between two places that a count of indexes was read from
pub record Taken (count : ℕ) (i o : Input) : Type 0 where
  pub targets : List ℕ
  pub read : indexes_at count i ≡ Ok (targets, o)
  pub shorter : length o.rest ≤ length i.rest
  pub same : targets_in count (take (length i.rest - length o.rest) i.rest) ≡ targets
  pub spelled : Times IsU32 count (take (length i.rest - length o.rest) i.rest) targets

pub taken : (count : ℕ) (i o : Input) (targets : List ℕ) → indexes_at count i ≡ Ok (targets, o) → Taken count i o
taken count i o targets e =
    let s = (exact_indexes count).sound i targets o e in
    let sizes : length i.rest ≡ length s.0 + length o.rest = ap length s.2 ∙ length-append s.0 o.rest in
    let front : take (length i.rest - length o.rest) i.rest ≡ s.0 = ap (take (length i.rest - length o.rest)) s.2 ∙ take_at s.0 o.rest (length i.rest - length o.rest) (omega (arith, sizes)) in
    let again : indexes_at count (record { at = 0; rest = s.0 ++ [] }) ≡ Ok (targets, behind 0 s.0 []) = (exact_indexes count).complete s.0 [] 0 targets s.1 in
    let alone : indexes_at count (record { at = 0; rest = s.0 }) ≡ Ok (targets, behind 0 s.0 []) = ap (λ (l : List ℕ). indexes_at count (record { at = 0; rest = l })) (sym (append-nil s.0)) ∙ again in
    record {
      targets = targets;
      read = e;
      shorter = omega (arith, sizes);
      same = ap (λ (l : List ℕ). targets_in count l) front ∙ ap values alone;
      spelled = subst (λ (l : List ℕ). Times IsU32 count l targets) (sym front) s.1;
    }

-- the loop over the targets ends behind them
pub all_taken : (count : ℕ) (start : Input) (k : ℕ) (now : Input) → count ≤ k → Left index_at count start (count - k) now → Taken count start now
unfolding indexes_at
all_taken count start k now le h =
    let done = left_none index_at count start k now le h in
    taken count start now done.0 done.1

pub targets_fault : (count : ℕ) (start : Input) (k : ℕ) (now : Input) (f : CodeFault) → k < count → Left index_at count start (count - k) now → index_at now ≡ Err f → indexes_at count start ≡ Err f
unfolding indexes_at
targets_fault count start k now f lt h e = left_fault index_at count start (count - k) now f (omega arith) h e

-- ---- targets one by one

-- the numbers that bytes spell are those that are read of them
pub spelled_targets : (count : ℕ) (text targets : List ℕ) → Times IsU32 count text targets → targets_in count text ≡ targets
spelled_targets count text targets m =
    let alone : indexes_at count (record { at = 0; rest = text }) ≡ Ok (targets, behind 0 text []) = ap (λ (l : List ℕ). indexes_at count (record { at = 0; rest = l })) (sym (append-nil text)) ∙ (exact_indexes count).complete text [] 0 targets m in
    ap values alone

pub count_of_targets : (count : ℕ) (text targets : List ℕ) → Times IsU32 count text targets → length targets ≡ count
count_of_targets zero text targets m = ap length (sym m.1)
count_of_targets (suc count) text targets m = ap length (sym m.4.4.1) ∙ ap suc (count_of_targets count m.4.1 m.4.0 m.4.3)

-- the first of the targets that are left, and the others
pub record FirstTarget (left next : ℕ) (rest : List ℕ) : Type 0 where
  pub target : ℕ
  pub text : List ℕ
  pub after : List ℕ
  pub number : IsU32 text target
  pub spelled : rest ≡ text ++ after
  pub all : targets_in left rest ≡ target ∷ targets_in next after
  pub behind : Times IsU32 next after (targets_in next after)

pub first_target : (left next : ℕ) (rest : List ℕ) → left ≡ suc next → Times IsU32 left rest (targets_in left rest) → FirstTarget left next rest
first_target left next rest k h =
    let m : Times IsU32 (suc next) rest (targets_in left rest) = subst (λ (n : ℕ). Times IsU32 n rest (targets_in left rest)) k h in
    let o = m.4 in
    let y : m.2 ≡ o.1 = o.5 ∙ ap (λ (l : List ℕ). o.1 ++ l) o.4.0 ∙ append-nil o.1 in
    let others : Times IsU32 next m.2 o.0 = subst (λ (l : List ℕ). Times IsU32 next l o.0) (sym y) o.3 in
    let same : targets_in next m.2 ≡ o.0 = spelled_targets next m.2 o.0 others in
    record {
      target = m.0;
      text = m.1;
      after = m.2;
      number = m.3;
      spelled = m.5;
      all = sym o.4.1 ∙ ap (λ (l : List ℕ). m.0 ∷ l) (sym same);
      behind = subst (λ (l : List ℕ). Times IsU32 next m.2 l) (sym same) others;
    }

pub get_behind : (targets : List ℕ) (k : ℕ) → slice_get (drop 1 targets) k ≡ slice_get targets (suc k)
get_behind [] k = refl
get_behind (target ∷ targets) k = refl

pub get_none : (targets : List ℕ) (k : ℕ) → slice_get targets 0 ≡ None → slice_get targets k ≡ None
get_none [] k e = refl
get_none (target ∷ targets) k e = absurd cc
