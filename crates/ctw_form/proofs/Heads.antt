-- What a segment is behind its index and its offset.
use Rattle.std.proofs.Common.{◌≡◌, ℕ, Bool, Result, Ok, Err, refl}
use Rattle.ctw_ops.specs.declared.types.Label.{Label}
use Rattle.ctw_ops.specs.Tree.{Constant}
use Rattle.ctw_leb.specs.Input.{Input}
use Rattle.ctw_leb.specs.Reading.{chain, seen_as}
use Rattle.ctw_form.specs.declared.fault.FormFault.{FormFault}
use Rattle.ctw_form.specs.Spelled.{element_of, segment_of}
use Rattle.ctw_form.specs.Read.{number_at, vector_at, byte_vector_at, constant_at, element_at, segment_at}
use Rattle.ctw_form.specs.Pieces.{segment_head_at}

abbrev headed : ℕ → Constant Label × Input → Result ((ℕ × Constant Label) × Input) FormFault
headed n y = Ok ((n, y.0), y.1)

pub segment_headed : (ct : Bool) (i : Input) → segment_at ct i ≡ chain (segment_head_at ct i) (λ x. seen_as (segment_of x.0.0 x.0.1) byte_vector_at x.1)
unfolding segment_at segment_head_at
segment_headed ct i = index (number_at i)
  where
    offset : (n : ℕ) (c : Result (Constant Label × Input) FormFault)
        → chain c (λ y. seen_as (segment_of n y.0) byte_vector_at y.1) ≡ chain (chain c (headed n)) (λ x. seen_as (segment_of x.0.0 x.0.1) byte_vector_at x.1)
    offset n (Ok y) = refl
    offset n (Err f) = refl

    index : (c : Result (ℕ × Input) FormFault)
        → chain c (λ x. chain (constant_at ct x.1) (λ y. seen_as (segment_of x.0 y.0) byte_vector_at y.1))
        ≡ chain (chain c (λ x. chain (constant_at ct x.1) (headed x.0))) (λ x. seen_as (segment_of x.0.0 x.0.1) byte_vector_at x.1)
    index (Ok x) = offset x.0 (constant_at ct x.1)
    index (Err f) = refl

pub element_headed : (ct : Bool) (i : Input) → element_at ct i ≡ chain (segment_head_at ct i) (λ x. seen_as (element_of x.0.0 x.0.1) (vector_at number_at) x.1)
unfolding element_at segment_head_at
element_headed ct i = index (number_at i)
  where
    offset : (n : ℕ) (c : Result (Constant Label × Input) FormFault)
        → chain c (λ y. seen_as (element_of n y.0) (vector_at number_at) y.1) ≡ chain (chain c (headed n)) (λ x. seen_as (element_of x.0.0 x.0.1) (vector_at number_at) x.1)
    offset n (Ok y) = refl
    offset n (Err f) = refl

    index : (c : Result (ℕ × Input) FormFault)
        → chain c (λ x. chain (constant_at ct x.1) (λ y. seen_as (element_of x.0 y.0) (vector_at number_at) y.1))
        ≡ chain (chain c (λ x. chain (constant_at ct x.1) (headed x.0))) (λ x. seen_as (element_of x.0.0 x.0.1) (vector_at number_at) x.1)
    index (Ok x) = offset x.0 (constant_at ct x.1)
    index (Err f) = refl
