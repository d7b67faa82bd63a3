-- Operands for a label that is left.
use Rattle.std.specs.Prelude.{if◌then◌else◌, Result, Ok, Err, IsErr, IfErr, IfOk, MatchResult}
use Rattle.std.proofs.Common.{◌≡◌, Bool, true, false, ℕ, ◌+◌, ◌≤◌, List, [], ◌∷◌, ◌++◌, length, Option, Some, None, is_some, option_to_list, ◌<◌, refl, ap, arith, length-append}
use Rattle.ctw_step.specs.Shown.{Shown}
use Rattle.ctw_step.specs.Leaving.{Leaves}

pub leaves_room : (c : Shown) (index : ℕ) (l : Leaves c index) → l.label.height + (if l.label.has_result then 1 else 0) ≤ length c.operands
leaves_room c index l = go l.label.has_result l.carried l.some l.operands
  where
    go : (b : Bool) (v : Option ℕ) → is_some v ≡ b → c.operands ≡ l.below ++ option_to_list v → l.label.height + (if b then 1 else 0) ≤ length c.operands
    go true (Some x) e o = let g = l.high in omega (arith, ap length o, length-append l.below (x ∷ []))
    go true None e o = absurd cc
    go false (Some x) e o = absurd cc
    go false None e o = let g = l.high in omega (arith, ap length o, length-append l.below [])

-- a list that isn't empty has a last item
pub last_of : {A : Type 0} (l : List A) → 0 < length l → (front : List A) × (x : A) × (l ≡ front ++ x ∷ [])
last_of [] h = absurd (omega (arith, h))
last_of {A = A} (x ∷ l) h = go x l
  where
    go : (x : A) (l : List A) → (front : List A) × (y : A) × (x ∷ l ≡ front ++ y ∷ [])
    go x [] = ([], x, refl)
    go x (y ∷ l) = let r = go y l in (x ∷ r.0, r.1, ap (λ l. x ∷ l) r.2)

-- an error
pub on_err : {A E : Type 0} (r : Result A E) (P : A → Type 0) (Q : E → Type 0) → IsErr r → ((e : E) → Q e) → MatchResult r P Q
on_err (Ok x) P Q n h = absurd cc
on_err (Err e) P Q n h = h e

pub if_err : {A E : Type 0} (r : Result A E) (Q : E → Type 0) → ((e : E) → Q e) → IfErr r Q
if_err (Ok x) Q h = tt
if_err (Err e) Q h = h e

pub on_ok : {A E : Type 0} (r : Result A E) (P Q : A → Type 0) → IfOk r P → ((x : A) → P x → Q x) → IfOk r Q
on_ok (Ok x) P Q h f = f x h
on_ok (Err e) P Q h f = tt

pub on_both : {A E : Type 0} (r : Result A E) (P Q R : A → Type 0) → IfOk r P → IfOk r Q → ((x : A) → P x → Q x → R x) → IfOk r R
on_both (Ok x) P Q R h k f = f x h k
on_both (Err e) P Q R h k f = tt

pub on_match : {A E : Type 0} (r : Result A E) (P : A → Type 0) (Q : E → Type 0) (R : A → Type 0) → MatchResult r P Q → ((x : A) → P x → R x) → IfOk r R
on_match (Ok x) P Q R h f = f x h
on_match (Err e) P Q R h f = tt

pub on_each : {A E : Type 0} (r : Result A E) (P : A → Type 0) (Q : E → Type 0) (R : Type 0) → MatchResult r P Q → ((x : A) → P x → R) → ((e : E) → Q e → R) → R
on_each (Ok x) P Q R h f g = f x h
on_each (Err e) P Q R h f g = g e h
