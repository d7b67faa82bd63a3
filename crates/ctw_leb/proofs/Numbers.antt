-- The reader of numbers, and the grammar by `half` that it is exact for.
use Rattle.std.proofs.Common.{◌≡◌, ℕ, ◌+◌, ◌-◌, ◌*◌, ◌/◌, ◌<◌, ◌≤◌, ◌⊎◌, ltb, leb, inl, inr, List, [], ◌∷◌, ◌++◌, length, Option, Some, None, Result, Ok, Err, refl, sym, ap, subst, ◌∙◌, arith}
use Rattle.std.specs.Prelude.{◌&&◌, ◌↔◌}
use Rattle.std.proofs.lemmas.Bool.{ltb-true, ltb-false, leb-true, lt-ltb, le-ltb, le-leb, and_parts, and_from}
use Rattle.std.proofs.lemmas.List.{length-append}
use Rattle.ctw_leb.specs.declared.fault.Cause.{Cause}
use Rattle.ctw_leb.specs.declared.fault.Cause.TheVariants.{Short, Illegal}
use Rattle.ctw_leb.specs.declared.fault.LebFault.{LebFault}
use Rattle.ctw_leb.specs.declared.fault.LebFault.TheVariants.{Truncated, BadLeb}
use Rattle.ctw_leb.specs.Input.{Input}
use Rattle.ctw_leb.specs.Grammar.{EndsInside}
use Rattle.ctw_leb.specs.Reading.{Exact}
use Rattle.ctw_leb.specs.Readers.{unsigned_end, signed_end, prefixed, ended, number_at, placed}
use Rattle.ctw_leb.proofs.Exact.{ok_is, chosen}

-- what a last byte stands for, below twice a half
abbrev pub Last : Type 0
Last = ℕ → ℕ → Option ℕ

-- The spellings of a number below twice `half`.
abbrev pub IsNumber : Last → ℕ → List ℕ → ℕ → Type 0
IsNumber last half [] n = ⊥
IsNumber last half (b ∷ []) n = (b < 128) × (last half b ≡ Some n)
IsNumber last half (b ∷ c ∷ bs) n = (128 ≤ b) × (b < 256) × (128 ≤ half) × (high : ℕ) × (n ≡ b - 128 + 128 * high) × IsNumber last (half / 128) (c ∷ bs) high

ended_ok : (rest : List ℕ) (o : Option ℕ) (n : ℕ) (after : List ℕ) → ended rest o ≡ Ok (n, after) → (o ≡ Some n) × (rest ≡ after)
ended_ok rest None n after e = absurd cc
ended_ok rest (Some m) n after e =
    let p : (m, rest) ≡ (n, after) = ok_is {F = Cause} (m, rest) (n, after) e in
    (ap (λ (z : ℕ × List ℕ). Some z.0) p, ap (λ (z : ℕ × List ℕ). z.1) p)

prefixed_ok : (b : ℕ) (r : Result (ℕ × List ℕ) Cause) (n : ℕ) (rest : List ℕ) → prefixed b r ≡ Ok (n, rest)
    → (high : ℕ) × (r ≡ Ok (high, rest)) × (n ≡ b - 128 + 128 * high)
prefixed_ok b (Ok x) n rest e =
    let p : (b - 128 + 128 * x.0, x.1) ≡ (n, rest) = ok_is {F = Cause} (b - 128 + 128 * x.0, x.1) (n, rest) e in
    (x.0, ap (λ (z : ℕ × List ℕ). Ok (x.0, z.1)) p, ap (λ (z : ℕ × List ℕ). z.0) (sym p))
prefixed_ok b (Err d) n rest e = absurd cc

-- one more byte in front
pub more_bytes : (last : Last) (half b : ℕ) (text : List ℕ) (high : ℕ) → 128 ≤ b → b < 256 → 128 ≤ half → IsNumber last (half / 128) text high
    → IsNumber last half (b ∷ text) (b - 128 + 128 * high)
more_bytes last half b [] high p q r h = absurd h
more_bytes last half b (c ∷ bs) high p q r h = (p, q, r, high, refl, h)

number_reads : (last : Last) (half : ℕ) (text rest : List ℕ) (n : ℕ) → IsNumber last half text n → number_at last half (text ++ rest) ≡ Ok (n, rest)
unfolding number_at
number_reads last half [] rest n h = absurd h
number_reads last half (b ∷ []) rest n h = rw (lt-ltb b 128 h.0, h.1) refl
number_reads last half (b ∷ c ∷ bs) rest n h =
    let again = number_reads last (half / 128) (c ∷ bs) rest h.3 h.5 in
    rw (le-ltb b 128 h.0, and_from (leb 128 half) (ltb b 256) (le-leb 128 half h.2) (lt-ltb b 256 h.1), again, h.4) refl

number_spelled : (last : Last) (half : ℕ) (bytes : List ℕ) (n : ℕ) (rest : List ℕ) → number_at last half bytes ≡ Ok (n, rest)
    → (text : List ℕ) × IsNumber last half text n × (bytes ≡ text ++ rest)
unfolding number_at
number_spelled last half [] n rest e = absurd cc
number_spelled last half (b ∷ bs) n rest e =
    elim (chosen (ltb b 128) (ended bs (last half b)) _ _ e) [
      | inl p ↦
          let q = ended_ok bs (last half b) n rest p.1 in
          (b ∷ [], (ltb-true b 128 p.0, q.0), ap (λ (l : List ℕ). b ∷ l) q.1)
      | inr p ↦
          elim (chosen (leb 128 half && ltb b 256) (prefixed b (number_at last (half / 128) bs)) (Err Illegal) _ p.1) [
            | inl q ↦
                let parts = and_parts (leb 128 half) (ltb b 256) q.0 in
                let high = prefixed_ok b (number_at last (half / 128) bs) n rest q.1 in
                let below = number_spelled last (half / 128) bs high.0 rest high.1 in
                let made = more_bytes last half b below.0 high.0 (ltb-false b 128 p.0) (ltb-true b 256 parts.1) (leb-true 128 half parts.0) below.1 in
                (b ∷ below.0, subst (λ (k : ℕ). IsNumber last half (b ∷ below.0) k) (sym high.2) made, ap (λ (l : List ℕ). b ∷ l) below.2)
            | inr q ↦ absurd cc
          ]
    ]

placed_ok : (i : Input) (r : Result (ℕ × List ℕ) Cause) (n : ℕ) (o : Input) → placed i r ≡ Ok (n, o)
    → (r ≡ Ok (n, o.rest)) × (o.at ≡ i.at + (length i.rest - length o.rest))
placed_ok i (Ok x) n o e =
    let made : Input = record { at = i.at + (length i.rest - length x.1); rest = x.1 } in
    let p : (x.0, made) ≡ (n, o) = ok_is {F = LebFault} (x.0, made) (n, o) e in
    let rests : x.1 ≡ o.rest = ap (λ (z : ℕ × Input). z.1.rest) p in
    (ap (λ (z : ℕ × Input). Ok (z.0, z.1.rest)) p, ap (λ (z : ℕ × Input). z.1.at) (sym p) ∙ ap (λ (l : List ℕ). i.at + (length i.rest - length l)) rests)
placed_ok i (Err Short) n o e = absurd cc
placed_ok i (Err Illegal) n o e = absurd cc

-- the reader at a place in a file
abbrev pub placed_number : Last → ℕ → Input → Result (ℕ × Input) LebFault
placed_number last half i = placed i (number_at last half i.rest)

pub exact_number : (last : Last) (half : ℕ) → Exact (IsNumber last half) (placed_number last half)
exact_number last half = record {
  sound = λ i n o e.
      let p = placed_ok i (number_at last half i.rest) n o e in
      let s = number_spelled last half i.rest n o.rest p.0 in
      (s.0, s.1, s.2, omega (arith, p.1, ap length s.2, length-append s.0 o.rest));
  complete = λ text rest at n h.
      let d : length (text ++ rest) - length rest ≡ length text = omega (arith, length-append text rest) in
      rw (number_reads last half text rest n h, d) refl;
}

-- ---- where the bytes end inside a number

prefixed_short : (b : ℕ) (r : Result (ℕ × List ℕ) Cause) → prefixed b r ≡ Err Short → r ≡ Err Short
prefixed_short b (Ok x) e = absurd cc
prefixed_short b (Err d) e = cc

ended_short : (rest : List ℕ) (o : Option ℕ) → ended rest o ≡ Err Short → ⊥
ended_short rest (Some n) e = cc
ended_short rest None e = cc

-- the byte 0 ends a number at each half
abbrev pub EndsByZero : Last → Type 0
EndsByZero last = (h : ℕ) → 0 < h → last h 0 ≡ Some 0

short_inside : (last : Last) (half : ℕ) (bytes : List ℕ) → EndsByZero last → 0 < half → number_at last half bytes ≡ Err Short → EndsInside (IsNumber last half) bytes
unfolding number_at
short_inside last half [] zeros some e = (0, [], 0, (omega arith, zeros half some))
short_inside last half (b ∷ bs) zeros some e =
    elim (chosen (ltb b 128) (ended bs (last half b)) _ _ e) [
      | inl p ↦ absurd (ended_short bs (last half b) p.1)
      | inr p ↦
          elim (chosen (leb 128 half && ltb b 256) (prefixed b (number_at last (half / 128) bs)) (Err Illegal) _ p.1) [
            | inl q ↦
                let parts = and_parts (leb 128 half) (ltb b 256) q.0 in
                let large : 128 ≤ half = leb-true 128 half parts.0 in
                let h = short_inside last (half / 128) bs zeros (omega arith) (prefixed_short b (number_at last (half / 128) bs) q.1) in
                (h.0, h.1, b - 128 + 128 * h.2, more_bytes last half b (bs ++ h.0 ∷ h.1) h.2 (ltb-false b 128 p.0) (ltb-true b 256 parts.1) large h.3)
            | inr q ↦ absurd cc
          ]
    ]

inside_short : (last : Last) (half : ℕ) (bytes : List ℕ) (c : ℕ) (more : List ℕ) (n : ℕ) → IsNumber last half (bytes ++ c ∷ more) n → number_at last half bytes ≡ Err Short
unfolding number_at
inside_short last half [] c more n h = refl
inside_short last half (b ∷ []) c more n h =
    rw (le-ltb b 128 h.0, and_from (leb 128 half) (ltb b 256) (le-leb 128 half h.2) (lt-ltb b 256 h.1)) refl
inside_short last half (b ∷ d ∷ bs) c more n h =
    let again = inside_short last (half / 128) (d ∷ bs) c more h.3 h.5 in
    rw (le-ltb b 128 h.0, and_from (leb 128 half) (ltb b 256) (le-leb 128 half h.2) (lt-ltb b 256 h.1), again) refl

placed_short : (i : Input) (r : Result (ℕ × List ℕ) Cause) → placed i r ≡ Err Truncated → r ≡ Err Short
placed_short i (Ok x) e = absurd cc
placed_short i (Err Short) e = refl
placed_short i (Err Illegal) e = absurd cc

pub number_truncated : (last : Last) (half : ℕ) (i : Input) → EndsByZero last → 0 < half
    → (placed_number last half i ≡ Err Truncated) ↔ EndsInside (IsNumber last half) i.rest
number_truncated last half i zeros some = (
  λ e. short_inside last half i.rest zeros some (placed_short i (number_at last half i.rest) e),
  λ h. ap (placed i) (inside_short last half i.rest h.0 h.1 h.2 h.3),
)

pub unsigned_zero : EndsByZero unsigned_end
unsigned_zero h some = rw (lt-ltb 0 h some) refl

pub signed_zero : EndsByZero signed_end
signed_zero h some = rw (lt-ltb 0 h some) refl

placed_only : (i : Input) (r : Result (ℕ × List ℕ) Cause) (e : LebFault) → placed i r ≡ Err e → (e ≡ Truncated) ⊎ (e ≡ BadLeb i.at)
placed_only i (Ok x) e q = absurd cc
placed_only i (Err Short) e q = inl cc
placed_only i (Err Illegal) e q = inr cc

pub number_only : (last : Last) (half : ℕ) (i : Input) (e : LebFault) → placed_number last half i ≡ Err e → (e ≡ Truncated) ⊎ (e ≡ BadLeb i.at)
number_only last half i e q = placed_only i (number_at last half i.rest) e q
