-- Calls that go on at the place behind an instruction.
use Rattle.std.proofs.Common.{◌≡◌, ℕ, zero, suc, ◌+◌, ◌<◌, List, [], ◌∷◌, ◌++◌, map, length, Some, slice_get, slice_set, option_map, refl, sym, ap, ◌∙◌, arith, length-append}
use Rattle.std.proofs.lemmas.Option.{slice_get-map}
use Rattle.ctw_ops.specs.declared.types.Label.{Label}
use Rattle.ctw_ops.specs.Code.{Code}
use Rattle.ctw_semantics.specs.Values.{Value}
use Rattle.ctw_semantics.specs.Machine.{Here, put}
use Rattle.ctw_step.specs.Shown.{Shown}
use Rattle.ctw_step.specs.Stands.{Codes, number_of, numbers, all_frames, CodeStands, Stands}
use Rattle.ctw_step.specs.Told.{with_operands}
use Rattle.ctw_step.proofs.Inside.{Inner, inner, under, goes_on}

-- other operands at the place behind, and the same locals
pub moves : (codes : Codes) (c : Shown) (h : Here) (code rest : Code Label) (vs ws : List Value) (next : ℕ) → Inner codes c h code vs → CodeStands (codes h.func) next rest → (l : List ℕ) → l ≡ under h ++ numbers ws
    → Stands codes (with_operands c l next) (put h rest ws)
moves codes c h code rest vs ws next i sp l e = goes_on codes c (with_operands c l next) h code rest vs ws h.locals i sp e i.framed.locals refl refl

pub get_behind : {A : Type 0} (xs ys : List A) (n k : ℕ) → k ≡ length xs + n → slice_get (xs ++ ys) k ≡ slice_get ys n
get_behind [] ys n k e = ap (slice_get ys) (omega (arith, e))
get_behind (x ∷ xs) ys n zero e = absurd (omega (arith, e))
get_behind (x ∷ xs) ys n (suc k) e = get_behind xs ys n k (omega (arith, e))

-- the word of a local
pub local_word : (l below : List ℕ) (locals : List Value) (first x : ℕ) (v : Value) → l ≡ below ++ map number_of locals → first ≡ length below → slice_get locals x ≡ Some v → slice_get l (first + x) ≡ Some v.number
local_word l below locals first x v e f g =
    ap (λ l. slice_get l (first + x)) e ∙ get_behind below (map number_of locals) x (first + x) (omega (arith, f)) ∙ slice_get-map number_of locals x ∙ ap (option_map number_of) g

set_mapped : (xs : List Value) (k : ℕ) (v : Value) → map number_of (slice_set xs k v) ≡ slice_set (map number_of xs) k v.number
set_mapped [] k v = refl
set_mapped (x ∷ xs) zero v = refl
set_mapped (x ∷ xs) (suc k) v = ap (λ l. x.number ∷ l) (set_mapped xs k v)

set_at : {A : Type 0} (xs ys : List A) (n k : ℕ) (y : A) → k ≡ length xs + n → slice_set (xs ++ ys) k y ≡ xs ++ slice_set ys n y
set_at [] ys n k y e = ap (λ k. slice_set ys k y) (omega (arith, e))
set_at (x ∷ xs) ys n zero y e = absurd (omega (arith, e))
set_at (x ∷ xs) ys n (suc k) y e = ap (λ l. x ∷ l) (set_at xs ys n k y (omega (arith, e)))

-- a local's word is written
pub set_behind : (l below : List ℕ) (locals : List Value) (first x : ℕ) (v : Value) → l ≡ below ++ map number_of locals → first ≡ length below
    → slice_set l (first + x) v.number ≡ below ++ map number_of (slice_set locals x v)
set_behind l below locals first x v e f =
    ap (λ l. slice_set l (first + x) v.number) e ∙ set_at below (map number_of locals) x (first + x) v.number (omega (arith, f))
    ∙ ap (λ l. below ++ l) (sym (set_mapped locals x v))

pub last_same : {A : Type 0} (xs ys : List A) (x y : A) → xs ++ x ∷ [] ≡ ys ++ y ∷ [] → x ≡ y
last_same [] [] x y e = cc
last_same [] (b ∷ ys) x y e = absurd (not_nil ys y cc)
  where
    not_nil : {A : Type 0} (ys : List A) (y : A) → [] ≡ ys ++ y ∷ [] → ⊥
    not_nil [] y e = cc
    not_nil (b ∷ ys) y e = cc
last_same (a ∷ xs) [] x y e = absurd (not_nil xs x cc)
  where
    not_nil : {A : Type 0} (ys : List A) (y : A) → ys ++ y ∷ [] ≡ [] → ⊥
    not_nil [] y e = cc
    not_nil (b ∷ ys) y e = cc
last_same (a ∷ xs) (b ∷ ys) x y e = last_same xs ys x y cc

pub some_frame : (codes : Codes) (c : Shown) (h : Here) (code : Code Label) (vs : List Value) → Stands codes c (put h code vs) → 0 < length c.frames
some_frame codes c h code vs st =
    let f = (inner codes c h code vs st).framed in
    omega (arith, ap length f.frames, length-append (all_frames f.others) (f.frame ∷ []))
