-- Bytes that a sink takes piece by piece.
use Rattle.std.proofs.Common.{◌≡◌, ◌≤◌, ◌<◌, ℕ, ◌+◌, ◌-◌, List, [], ◌++◌, take, drop, length, Option, Some, None, refl, sym, ap, ◌∙◌, arith, append_assoc, append-nil, length-take, length-drop}
use Rattle.std.proofs.Math.Seq.{take-add, take-length}
use Rattle.ctw_io.specs.Taken.{grown, TookPrefix}

grown_more : (o : Option (List ℕ)) (at n : ℕ) (bytes : List ℕ) → grown (grown o (take at bytes)) (take n (drop at bytes)) ≡ grown o (take (at + n) bytes)
grown_more None at n bytes = refl
grown_more (Some t) at n bytes = ap Some (append_assoc t (take at bytes) (take n (drop at bytes)) ∙ ap (λ (l : List ℕ). t ++ l) (sym (take-add at n bytes)))

-- the bytes taken, with those of one more piece
pub piece_taken : (first now then' : Option (List ℕ)) (at n : ℕ) (bytes : List ℕ) → now ≡ grown first (take at bytes) → then' ≡ grown now (take n (take (length bytes - at) (drop at bytes))) → then' ≡ grown first (take (at + n) bytes)
piece_taken first now then' at n bytes e f =
    let rest : take (length bytes - at) (drop at bytes) ≡ drop at bytes = ap (λ k. take k (drop at bytes)) (sym (length-drop at bytes)) ∙ take-length (drop at bytes) in
    f ∙ (ap (λ (l : List ℕ). grown now (take n l)) rest ∙ (ap (λ (o : Option (List ℕ)). grown o (take n (drop at bytes))) e ∙ grown_more first at n bytes))

-- a piece of what is left doesn't pass the end
pub piece_within : (at n : ℕ) (bytes : List ℕ) → at ≤ length bytes → n ≤ length (take (length bytes - at) (drop at bytes)) → at + n ≤ length bytes
piece_within at n bytes h k =
    let a = length-take (length bytes - at) (drop at bytes) in
    let b = length-drop at bytes in
    omega (arith, a, b)

-- a piece of what is left has a byte, so that one is taken
pub piece_moves : (at n : ℕ) (bytes : List ℕ) → at < length bytes → (0 < length (take (length bytes - at) (drop at bytes)) → 0 < n) → 0 < at + n
piece_moves at n bytes h k =
    let a = length-take (length bytes - at) (drop at bytes) in
    let b = length-drop at bytes in
    let some : 0 < length (take (length bytes - at) (drop at bytes)) = omega (arith, a, b) in
    omega (arith, k some)

-- all bytes are a prefix
pub took_all : (before after : Option (List ℕ)) (bytes : List ℕ) → after ≡ grown before bytes → TookPrefix before after bytes
took_all before after bytes e = record { count = length bytes; within = omega arith; taken = e ∙ ap (grown before) (sym (take-length bytes)) }

grown_by_none : (o : Option (List ℕ)) → o ≡ grown o []
grown_by_none None = refl
grown_by_none (Some t) = ap Some (sym (append-nil t))

-- no byte is a prefix
pub took_none : (before : Option (List ℕ)) (bytes : List ℕ) → TookPrefix before before bytes
took_none before bytes = record { count = 0; within = omega arith; taken = grown_by_none before }
