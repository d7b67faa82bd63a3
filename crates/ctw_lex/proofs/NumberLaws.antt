-- What atoms spell as numbers, by the grammar and by functions.
use Rattle.std.proofs.Common.{◌≡◌, ℕ, zero, suc, ◌+◌, ◌*◌, ◌≤◌, ◌<◌, ◌==◌, ◌&&◌, Bool, true, false, List, [], ◌∷◌, ◌++◌, Option, Some, None, option_map, min, refl, sym, ap, subst, ◌∙◌, append_assoc, arith, inl, inr, suc-mul, length, get_or, drop, ◌^◌, nat_lt, MatchOption, take, slice_index, ◌-◌}
use Rattle.std.proofs.lemmas.List.{append-nil}
use Rattle.std.proofs.lemmas.Bool.{eqb-true, cases_lt}
use Rattle.std.proofs.lemmas.Bool.Decides.{nat_tests}
use Rattle.std.specs.Option.{option_or}
use Rattle.ctw_lex.proofs.Steps.{drop_first, slice_rest}
use Rattle.ctw_lex.proofs.Facts.{some_same, none_some, both_true, mapped_some}
use Rattle.ctw_lex.specs.Chars.{is_hex, hex_value}
use Rattle.ctw_lex.specs.NumberForms.{IsDigits, one, more, spaced, IsNumber, decimal, hexadecimal, IsSignedNumber, plain, plus, minus}
use Rattle.ctw_lex.specs.NumberValues.{digits_value, decimal_value, hexadecimal_value, number_value, number_of_value, signed_of_value, signed_number_value, NoNumber, NoSigned, IsTold, SpellsNumber, SpellsSigned}

-- digits at the front are read
pub digits_read : {base : ℕ} {p : ℕ → Bool} {bs : List ℕ} {n : ℕ} → IsDigits base p bs n → p 95 ≡ false → (rest : List ℕ) →
    digits_value base p false 0 (bs ++ rest) ≡ digits_value base p true n rest
digits_read {base} {p} (one {d} h) gapless rest = rw h (ap (λ m. digits_value base p true m rest) (omega arith))
digits_read {base} {p} (more {bs} {n} {d} inner h) gapless rest =
    let e = digits_read inner gapless (d ∷ rest) in
    let f : digits_value base p true n (d ∷ rest) ≡ digits_value base p true (base * n + hex_value d) rest = rw h refl in
    rw append_assoc (e ∙ f)
digits_read {base} {p} (spaced {bs} {n} {d} inner h) gapless rest =
    let e = digits_read inner gapless (95 ∷ d ∷ rest) in
    let f : digits_value base p true n (95 ∷ d ∷ rest) ≡ digits_value base p true (base * n + hex_value d) rest = rw (gapless, h) refl in
    rw append_assoc (e ∙ f)

-- what is read of digits: does it end with a digit?, its bytes and its number
pub data IsFront (base : ℕ) (p : ℕ → Bool) : Bool → List ℕ → ℕ → Type 0 where
  start : IsFront base p false [] 0
  digits : {front : List ℕ} {n : ℕ} → IsDigits base p front n → IsFront base p true front n
  gap : {front : List ℕ} {n : ℕ} → IsDigits base p front n → IsFront base p false (front ++ 95 ∷ []) n

one_more : {base : ℕ} {p : ℕ → Bool} {a : Bool} {front : List ℕ} {n : ℕ} → IsFront base p a front n → (d : ℕ) → p d ≡ true →
    IsDigits base p (front ++ d ∷ []) (base * n + hex_value d)
one_more {base} {p} start d h =
    let e : hex_value d ≡ base * 0 + hex_value d = omega arith in
    subst (λ m. IsDigits base p (d ∷ []) m) e (one h)
one_more (digits inner) d h = more inner h
one_more {base} {p} (gap {front} {n} inner) d h =
    subst (λ bs. IsDigits base p bs (base * n + hex_value d)) (sym (append_assoc front (95 ∷ []) (d ∷ []))) (spaced inner h)

behind : {base : ℕ} {p : ℕ → Bool} {m : ℕ} (front : List ℕ) (b : ℕ) (bs : List ℕ) → IsDigits base p ((front ++ b ∷ []) ++ bs) m → IsDigits base p (front ++ b ∷ bs) m
behind {base} {p} {m} front b bs h = subst (λ xs. IsDigits base p xs m) (append_assoc front (b ∷ []) bs) h

one_byte : {base : ℕ} {p : ℕ → Bool} (b : ℕ) (bs : List ℕ) (a : Bool) (front : List ℕ) (n m : ℕ) → IsFront base p a front n →
    (t : Bool) → p b ≡ t → (u : Bool) → (b == 95) ≡ u →
    ((a' : Bool) (front' : List ℕ) (n' : ℕ) → IsFront base p a' front' n' → digits_value base p a' n' bs ≡ Some m → IsDigits base p (front' ++ bs) m) →
    digits_value base p a n (b ∷ bs) ≡ Some m → IsDigits base p (front ++ b ∷ bs) m
one_byte {base} {p} b bs a front n m f true e u g rest h =
    let h' : digits_value base p true (base * n + hex_value b) bs ≡ Some m = rw e at h in
    behind front b bs (rest true (front ++ b ∷ []) (base * n + hex_value b) (digits (one_more f b e)) h')
one_byte {base} {p} b bs _ front n m (digits inner) false e true g rest h =
    let h' : digits_value base p false n bs ≡ Some m = rw (e, g) at h in
    let same : b ≡ 95 = eqb-true b 95 g in
    let k = rest false (front ++ 95 ∷ []) n (gap inner) h' in
    rw same (behind front 95 bs k)
one_byte b bs _ front n m (digits inner) false e false g rest h =
    let h' : None ≡ Some m = rw (e, g) at h in absurd (none_some h')
one_byte b bs _ _ _ m start false e u g rest h = let h' : None ≡ Some m = rw e at h in absurd (none_some h')
one_byte b bs _ _ n m (gap inner) false e u g rest h = let h' : None ≡ Some m = rw e at h in absurd (none_some h')

-- and so on to the end
digits_back : {base : ℕ} {p : ℕ → Bool} (bs : List ℕ) (a : Bool) (front : List ℕ) (n m : ℕ) → IsFront base p a front n →
    digits_value base p a n bs ≡ Some m → IsDigits base p (front ++ bs) m
digits_back {base} {p} [] _ front n m (digits inner) h =
    let same : n ≡ m = some_same h in
    subst (λ xs. IsDigits base p xs m) (sym (append-nil front)) (subst (λ k. IsDigits base p front k) same inner)
digits_back [] _ _ _ m start h = absurd (none_some h)
digits_back [] _ _ n m (gap inner) h = absurd (none_some h)
digits_back {base} {p} (b ∷ bs) a front n m f h =
    one_byte b bs a front n m f (p b) refl (b == 95) refl (λ a' front' n' f' h'. digits_back bs a' front' n' m f' h') h

-- just the digits that the grammar has are read
pub digits_spelled : {base : ℕ} {p : ℕ → Bool} (bs : List ℕ) (n : ℕ) → digits_value base p false 0 bs ≡ Some n → IsDigits base p bs n
digits_spelled bs n h = digits_back bs false [] 0 n start h

pub digits_told : {base : ℕ} {p : ℕ → Bool} {bs : List ℕ} {n : ℕ} → IsDigits base p bs n → p 95 ≡ false → digits_value base p false 0 bs ≡ Some n
digits_told {base} {p} {bs} {n} h gapless = subst (λ xs. digits_value base p false 0 xs ≡ Some n) (append-nil bs) (digits_read h gapless [])

-- ---- numbers

pub number_told : {bs : List ℕ} {n : ℕ} → IsNumber bs n → number_value bs ≡ Some n
number_told {bs} {n} (decimal h) = let e : decimal_value bs ≡ Some n = digits_told h refl in rw e refl
number_told (hexadecimal h) = digits_told h refl

either : (bs : List ℕ) (n : ℕ) (o : Option ℕ) → decimal_value bs ≡ o → option_or o (hexadecimal_value bs) ≡ Some n →
    (hexadecimal_value bs ≡ Some n → IsNumber bs n) → IsNumber bs n
either bs n (Some m) e h rest = let same : Some m ≡ Some n = h in decimal (digits_spelled bs n (e ∙ same))
either bs n None e h rest = rest h

prefixed : (b c n : ℕ) (bs : List ℕ) (t : Bool) → (b == 48 && c == 120) ≡ t → hexadecimal_value (b ∷ c ∷ bs) ≡ Some n → IsNumber (b ∷ c ∷ bs) n
prefixed b c n bs false e h = let h' : None ≡ Some n = rw e at h in absurd (none_some h')
prefixed b c n bs true e h =
    let two = both_true (b == 48) (c == 120) e in
    let is_b : b ≡ 48 = eqb-true b 48 two.0 in
    let is_c : c ≡ 120 = eqb-true c 120 two.1 in
    let h' : digits_value 16 is_hex false 0 bs ≡ Some n = rw e at h in
    rw (is_b, is_c) (hexadecimal (digits_spelled bs n h'))

short : (b n : ℕ) (t : Bool) → (b == 48) ≡ t → hexadecimal_value (b ∷ []) ≡ Some n → IsNumber (b ∷ []) n
short b n true e h = let h' : None ≡ Some n = rw e at h in absurd (none_some h')
short b n false e h = let h' : None ≡ Some n = rw e at h in absurd (none_some h')

hexadecimal_spelled : (bs : List ℕ) (n : ℕ) → hexadecimal_value bs ≡ Some n → IsNumber bs n
hexadecimal_spelled [] n h = absurd (none_some h)
hexadecimal_spelled (b ∷ []) n h = short b n (b == 48) refl h
hexadecimal_spelled (b ∷ c ∷ bs) n h = prefixed b c n bs (b == 48 && c == 120) refl h

pub number_spelled : (bs : List ℕ) (n : ℕ) → number_value bs ≡ Some n → IsNumber bs n
number_spelled bs n h = either bs n (decimal_value bs) refl h (hexadecimal_spelled bs n)

pub number_only : {bs : List ℕ} (m n : ℕ) → IsNumber bs m → IsNumber bs n → m ≡ n
number_only m n h k = some_same (sym (number_told h) ∙ number_told k)

-- ---- numbers with a sign

no_plus : (b n : ℕ) (bs : List ℕ) → IsNumber (b ∷ bs) n → (t : Bool) → (b == 43) ≡ t → t ≡ false
no_plus b n bs h false e = refl
no_plus b n bs h true e =
    let same : b ≡ 43 = eqb-true b 43 e in
    let k = number_told h in
    let f : number_value (43 ∷ bs) ≡ Some n = rw same at k in
    absurd (none_some f)

no_minus : (b n : ℕ) (bs : List ℕ) → IsNumber (b ∷ bs) n → (t : Bool) → (b == 45) ≡ t → t ≡ false
no_minus b n bs h false e = refl
no_minus b n bs h true e =
    let same : b ≡ 45 = eqb-true b 45 e in
    let k = number_told h in
    let f : number_value (45 ∷ bs) ≡ Some n = rw same at k in
    absurd (none_some f)

plain_told : (bs : List ℕ) (n : ℕ) → IsNumber bs n → signed_number_value bs ≡ Some (false, n)
plain_told [] n h = absurd (none_some (number_told h))
plain_told (b ∷ bs) n h =
    let x : (b == 43) ≡ false = no_plus b n bs h (b == 43) refl in
    let y : (b == 45) ≡ false = no_minus b n bs h (b == 45) refl in
    rw (x, y, number_told h) refl

pub signed_told : {bs : List ℕ} {negative : Bool} {n : ℕ} → IsSignedNumber bs negative n → signed_number_value bs ≡ Some (negative, n)
signed_told {bs} (plain {n = n} h) = plain_told bs n h
signed_told (plus h) = ap (option_map {U = Bool × ℕ} (λ n. (false, n))) (number_told h)
signed_told (minus h) = ap (option_map {U = Bool × ℕ} (λ n. (true, n))) (number_told h)

mapped_number : (a : Bool) (bs : List ℕ) (negative : Bool) (n : ℕ) → option_map {U = Bool × ℕ} (λ k. (a, k)) (number_value bs) ≡ Some (negative, n) →
    (a ≡ negative) × IsNumber bs n
mapped_number a bs negative n h =
    let f : ℕ → Bool × ℕ = λ k. (a, k) in
    let found = mapped_some {f = f} (number_value bs) h in
    let same_sign : a ≡ negative = ap (λ p. p.0) found.2 in
    let same : found.0 ≡ n = ap (λ p. p.1) found.2 in
    (same_sign, number_spelled bs n (found.1 ∙ ap Some same))

signed_byte : (b : ℕ) (bs : List ℕ) (negative : Bool) (n : ℕ) (t u : Bool) → (b == 43) ≡ t → (b == 45) ≡ u →
    signed_number_value (b ∷ bs) ≡ Some (negative, n) → IsSignedNumber (b ∷ bs) negative n
signed_byte b bs negative n true u e f h =
    let same : b ≡ 43 = eqb-true b 43 e in
    let h' : option_map {U = Bool × ℕ} (λ k. (false, k)) (number_value bs) ≡ Some (negative, n) = rw e at h in
    let k = mapped_number false bs negative n h' in
    subst (λ s. IsSignedNumber (b ∷ bs) s n) k.0 (rw same (plus k.1))
signed_byte b bs negative n false true e f h =
    let same : b ≡ 45 = eqb-true b 45 f in
    let h' : option_map {U = Bool × ℕ} (λ k. (true, k)) (number_value bs) ≡ Some (negative, n) = rw (e, f) at h in
    let k = mapped_number true bs negative n h' in
    subst (λ s. IsSignedNumber (b ∷ bs) s n) k.0 (rw same (minus k.1))
signed_byte b bs negative n false false e f h =
    let h' : option_map {U = Bool × ℕ} (λ k. (false, k)) (number_value (b ∷ bs)) ≡ Some (negative, n) = rw (e, f) at h in
    let k = mapped_number false (b ∷ bs) negative n h' in
    subst (λ s. IsSignedNumber (b ∷ bs) s n) k.0 (plain k.1)

pub signed_spelled : (bs : List ℕ) (negative : Bool) (n : ℕ) → signed_number_value bs ≡ Some (negative, n) → IsSignedNumber bs negative n
signed_spelled [] negative n h = absurd (none_some h)
signed_spelled (b ∷ bs) negative n h = signed_byte b bs negative n (b == 43) (b == 45) refl refl h

pub signed_only : {bs : List ℕ} (a b : Bool) (m n : ℕ) → IsSignedNumber bs a m → IsSignedNumber bs b n → (a ≡ b) × (m ≡ n)
signed_only a b m n h k =
    let same = some_same (sym (signed_told h) ∙ signed_told k) in
    (ap (λ p. p.0) same, ap (λ p. p.1) same)

-- ---- what is told of them

told_so : (n : ℕ) (t : Bool) → nat_lt n (2 ^ 64) ≡ t → IsTold (number_of_value n) n
told_so n true e = let h : n < 2 ^ 64 = grind (arith, nat_tests) in rw e (refl, h)
told_so n false e = let h : 2 ^ 64 ≤ n = grind (arith, nat_tests) in rw e h

number_told_so : (text : List ℕ) (o : Option ℕ) → number_value text ≡ o → MatchOption (option_map number_of_value o) (NoNumber text) (SpellsNumber text)
number_told_so text None e = λ n h. none_some (sym e ∙ number_told h)
number_told_so text (Some n) e = record { value = n; spelled = number_spelled text n e; as_told = told_so n (nat_lt n (2 ^ 64)) refl }

pub number_tells : (text : List ℕ) → MatchOption (option_map number_of_value (number_value text)) (NoNumber text) (SpellsNumber text)
number_tells text = number_told_so text (number_value text) refl

signed_told_so : (text : List ℕ) (o : Option (Bool × ℕ)) → signed_number_value text ≡ o → MatchOption (option_map signed_of_value o) (NoSigned text) (SpellsSigned text)
signed_told_so text None e = λ negative n h. none_some (sym e ∙ signed_told h)
signed_told_so text (Some (negative, n)) e = record { value = n; spelled = signed_spelled text negative n e; as_told = told_so n (nat_lt n (2 ^ 64)) refl }

pub signed_tells : (text : List ℕ) → MatchOption (option_map signed_of_value (signed_number_value text)) (NoSigned text) (SpellsSigned text)
signed_tells text = signed_told_so text (signed_number_value text) refl

-- ---- signs as the code reads them

composed : (negative : Bool) (o : Option ℕ) → option_map (λ n. signed_of_value (negative, n)) o ≡ option_map signed_of_value (option_map {U = Bool × ℕ} (λ n. (negative, n)) o)
composed negative None = refl
composed negative (Some n) = refl

pub signed_plus : (bs : List ℕ) → (slice_index bs 0 == 43) ≡ true →
    option_map (λ n. signed_of_value (false, n)) (number_value (take (length bs - 1) (drop 1 bs))) ≡ option_map signed_of_value (signed_number_value bs)
signed_plus bs e = rw (slice_rest 1 bs, e) (composed false (number_value (drop 1 bs)))

pub signed_minus : (bs : List ℕ) → (slice_index bs 0 == 43) ≡ false → (slice_index bs 0 == 45) ≡ true →
    option_map (λ n. signed_of_value (true, n)) (number_value (take (length bs - 1) (drop 1 bs))) ≡ option_map signed_of_value (signed_number_value bs)
signed_minus bs e f = rw (slice_rest 1 bs, e, f) (composed true (number_value (drop 1 bs)))

-- ---- digits read one by one, with a cap on the number

grows : (base n : ℕ) → 0 < base → n ≤ base * n
grows zero n h = elim h [ ]
grows (suc k) n h = rw suc-mul (omega arith)

-- numbers that are equal or both past the cap stay so
capped_more : (base m n d cap : ℕ) → 0 < base → min m cap ≡ min n cap → min (base * m + d) cap ≡ min (base * n + d) cap
capped_more base m n d cap pos e = elim (cases_lt m cap) [
  | inl h ↦ let same : m ≡ n = omega arith in ap (λ k. min (base * k + d) cap) same
  | inr h ↦ let a = grows base m pos in let b = grows base n pos in omega arith
]

capped_byte : (base : ℕ) (p : ℕ → Bool) (b : ℕ) (bs : List ℕ) (a : Bool) (m n cap : ℕ) → 0 < base → min m cap ≡ min n cap →
    ((a' : Bool) (m' n' : ℕ) → min m' cap ≡ min n' cap →
    option_map (λ k. min k cap) (digits_value base p a' m' bs) ≡ option_map (λ k. min k cap) (digits_value base p a' n' bs)) →
    (t : Bool) → p b ≡ t → (u : Bool) → (a && b == 95) ≡ u →
    option_map (λ k. min k cap) (digits_value base p a m (b ∷ bs)) ≡ option_map (λ k. min k cap) (digits_value base p a n (b ∷ bs))
capped_byte base p b bs a m n cap pos e rest true f u g =
    rw f (rest true (base * m + hex_value b) (base * n + hex_value b) (capped_more base m n (hex_value b) cap pos e))
capped_byte base p b bs a m n cap pos e rest false f true g = rw (f, g) (rest false m n e)
capped_byte base p b bs a m n cap pos e rest false f false g = rw (f, g) refl

pub capped : (base : ℕ) (p : ℕ → Bool) (bs : List ℕ) (a : Bool) (m n cap : ℕ) → 0 < base → min m cap ≡ min n cap →
    option_map (λ k. min k cap) (digits_value base p a m bs) ≡ option_map (λ k. min k cap) (digits_value base p a n bs)
capped base p [] true m n cap pos e = ap Some e
capped base p [] false m n cap pos e = refl
capped base p (b ∷ bs) a m n cap pos e =
    capped_byte base p b bs a m n cap pos e (λ a' m' n' e'. capped base p bs a' m' n' cap pos e') (p b) refl (a && b == 95) refl

capped_min : (n cap : ℕ) → min (min n cap) cap ≡ min n cap
capped_min n cap = omega arith

module _ (base : ℕ) (p : ℕ → Bool) (i n : ℕ) (bs : List ℕ) (inside : i < length bs) where
  pub digit_read : (a : Bool) → p (get_or bs i 0) ≡ true →
      digits_value base p a n (drop i bs) ≡ digits_value base p true (base * n + hex_value (get_or bs i 0)) (drop (i + 1) bs)
  digit_read a h = rw (drop_first i bs inside, h) refl

  pub gap_read : p (get_or bs i 0) ≡ false → get_or bs i 0 ≡ 95 →
      digits_value base p true n (drop i bs) ≡ digits_value base p false n (drop (i + 1) bs)
  gap_read h e = let f : (get_or bs i 0 == 95) ≡ true = rw e refl in rw (drop_first i bs inside, h, f) refl

  pub capped_digit : (a : Bool) (m cap : ℕ) → 0 < base → p (get_or bs i 0) ≡ true → m ≡ min (base * n + hex_value (get_or bs i 0)) cap →
      option_map (λ k. min k cap) (digits_value base p true m (drop (i + 1) bs)) ≡ option_map (λ k. min k cap) (digits_value base p a n (drop i bs))
  capped_digit a m cap pos h e =
      let more = base * n + hex_value (get_or bs i 0) in
      let f : min m cap ≡ min more cap = rw e (capped_min more cap) in
      capped base p (drop (i + 1) bs) true m more cap pos f ∙ ap (option_map (λ k. min k cap)) (sym (digit_read a h))
