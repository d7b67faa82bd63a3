-- Something of a known size is read in a window by itself.
use Rattle.std.proofs.Common.{◌≡◌, ℕ, Result, Ok, Err, refl, ◌∙◌}
use Rattle.ctw_leb.specs.Input.{Input}
use Rattle.ctw_leb.specs.Reading.{WholeReader, chain, refused, window_of, within}
use Rattle.ctw_form.specs.declared.fault.FormKind.TheVariants.{Truncated}
use Rattle.ctw_form.specs.declared.fault.FormFault.{FormFault}
use Rattle.ctw_form.specs.Read.{fault, inside, number_at, sized_at}
use Rattle.ctw_form.specs.Pieces.{window_at}

-- what is read in a window, and what is behind it
abbrev pub in_window : {A : Type 0} → WholeReader A FormFault → Input × Input → Result (A × Input) FormFault
in_window r x = chain (refused inside (r x.0)) (λ a. Ok (a, x.1))

pub sized_window : {A : Type 0} (r : WholeReader A FormFault) (i : Input) → sized_at r i ≡ chain (window_at i) (in_window r)
unfolding window_at
sized_window {A} r i = go (number_at i)
  where
    taken : (c : Result (Input × Input) FormFault) → chain c (λ x. chain (refused inside (r x.0)) (λ a. Ok (a, x.1))) ≡ chain c (in_window r)
    taken (Ok x) = refl
    taken (Err f) = refl

    go : (c : Result (ℕ × Input) FormFault) → chain c (λ x. within (fault Truncated) x.0 (λ j. refused inside (r j)) x.1) ≡ chain (chain c (λ x. window_of (fault Truncated) x.0 x.1)) (in_window r)
    go (Ok x) = taken (window_of (fault Truncated) x.0 x.1)
    go (Err f) = refl

pub sized_ok : {A : Type 0} (r : WholeReader A FormFault) (i w o : Input) (a : A) → window_at i ≡ Ok (w, o) → r w ≡ Ok a → sized_at r i ≡ Ok (a, o)
sized_ok {A} r i w o a e f =
    let one : chain (window_at i) (in_window r) ≡ in_window r (w, o) = rw e refl in
    sized_window r i ∙ one ∙ rw f refl

pub sized_bad : {A : Type 0} (r : WholeReader A FormFault) (i w o : Input) (d : FormFault) → window_at i ≡ Ok (w, o) → r w ≡ Err d → sized_at r i ≡ Err (inside d)
sized_bad {A} r i w o d e f =
    let one : chain (window_at i) (in_window r) ≡ in_window r (w, o) = rw e refl in
    sized_window r i ∙ one ∙ rw f refl

pub sized_short : {A : Type 0} (r : WholeReader A FormFault) (i : Input) (d : FormFault) → window_at i ≡ Err d → sized_at r i ≡ Err d
sized_short {A} r i d e =
    let one : chain (window_at i) (in_window r) ≡ Err d = rw e refl in
    sized_window r i ∙ one
