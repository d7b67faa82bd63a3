-- Names.
use Rattle.std.proofs.Common.{◌≡◌, ℕ, ◌+◌, ◌-◌, ◌<◌, ◌≤◌, ◌⊎◌, inl, inr, Bool, true, false, List, ◌∷◌, ◌++◌, length, take, drop, Result, Ok, Err, refl, sym, ap, subst, ◌∙◌, append_assoc, arith, rules}
use Rattle.std.specs.Prelude.{◌↔◌, IsOk, IfOk, IfErr, OnErr, replicate}
use Rattle.std.specs.Str.{is_utf8, IsUtf8}
use Rattle.std.proofs.lemmas.Str.{is_utf8-from_IsUtf8, IsUtf8-from_is_utf8}
use Rattle.std.proofs.lemmas.Bool.{false_from_ne_true, cases_lt}
use Rattle.std.proofs.lemmas.List.{take-append-drop, length-append, length-take-le, length-replicate, append_cancel_left}
use Rattle.ctw_leb.specs.declared.fault.LebFault.{LebFault}
use Rattle.ctw_leb.specs.declared.fault.LebFault.TheVariants.{Truncated, BadLeb, BadUtf8}
use Rattle.ctw_leb.specs.Input.{Input, behind}
use Rattle.ctw_leb.specs.Grammar.{Bytes, Within, Passing, EndsInside, BeginsNone}
use Rattle.ctw_leb.specs.Grammar as grammar
use Rattle.ctw_leb.specs.Numbers.{IsU32}
use Rattle.ctw_leb.specs.Vectors.{IsByteVector, IsName}
use Rattle.ctw_leb.specs.Reading.{Exact}
use Rattle.ctw_leb.specs.Readers.{bytes_at, u32_at, text_at, name_at}
use Rattle.ctw_leb.specs.Calls.{ReadsAs, ReadsName, IsBadText}
use Rattle.ctw_leb.proofs.Exact.{ok_is, err_is, err_ok, ok_err, exact_same, one_begins}
use Rattle.ctw_leb.proofs.Combinators.{exact_then, exact_tested, exact_bytes, bytes_there, bytes_missing}
use Rattle.ctw_leb.proofs.Fronts.{spelled_read, bad_exactly}
use Rattle.ctw_leb.proofs.Widths.{u32_numbers}

-- ---- the rows of the reader

pub name_ok : (i mid o : Input) (n : ℕ) (t : List ℕ) → u32_at i ≡ Ok (n, mid) → bytes_at n mid ≡ Ok (t, o) → IsUtf8 t → name_at i ≡ Ok (t, o)
unfolding name_at
name_ok i mid o n t e f u = rw (e, f, is_utf8-from_IsUtf8 t u) refl

pub name_bad : (i mid o : Input) (n : ℕ) (t : List ℕ) → u32_at i ≡ Ok (n, mid) → bytes_at n mid ≡ Ok (t, o) → (IsUtf8 t → ⊥) → name_at i ≡ Err (BadUtf8 mid.at)
unfolding name_at
name_bad i mid o n t e f u =
    let no : is_utf8 t ≡ false = false_from_ne_true (is_utf8 t) (λ q. u (IsUtf8-from_is_utf8 t q)) in
    rw (e, f, no) refl

pub name_short : (i mid : Input) (n : ℕ) (d : LebFault) → u32_at i ≡ Ok (n, mid) → bytes_at n mid ≡ Err d → name_at i ≡ Err d
unfolding name_at
name_short i mid n d e f = rw (e, f) refl

pub name_no_size : (i : Input) (d : LebFault) → u32_at i ≡ Err d → name_at i ≡ Err d
unfolding name_at
name_no_size i d e = rw e refl

-- ---- the grammar

exact_tested_text : Exact (grammar.◌>>=◌ IsU32 (λ n. Passing is_utf8 (Within n Bytes))) name_at
unfolding name_at
exact_tested_text = exact_then IsU32 (λ n. Passing is_utf8 (Within n Bytes)) u32_at text_at u32_numbers.exact (λ n. exact_tested is_utf8 BadUtf8 (Within n Bytes) (bytes_at n) (exact_bytes n))

pub exact_name : Exact IsName name_at
exact_name = exact_same (grammar.◌>>=◌ IsU32 (λ n. Passing is_utf8 (Within n Bytes))) IsName name_at
    (λ text a m. ((m.0, m.1, m.2, m.3, m.4.0, m.5), m.4.1))
    (λ text a m. (m.0.0, m.0.1, m.0.2, m.0.3, (m.0.4, m.1), m.0.5)) exact_tested_text

-- what may stand at a place
data NameCase (i : Input) : Type 0 where
  no_size : (e : LebFault) → u32_at i ≡ Err e → name_at i ≡ Err e → NameCase i
  short : (n : ℕ) (mid : Input) → u32_at i ≡ Ok (n, mid) → length mid.rest < n → name_at i ≡ Err Truncated → NameCase i
  bad : (n : ℕ) (mid : Input) → u32_at i ≡ Ok (n, mid) → n ≤ length mid.rest → (IsUtf8 (take n mid.rest) → ⊥) → name_at i ≡ Err (BadUtf8 mid.at) → NameCase i
  good : (x : List ℕ × Input) → name_at i ≡ Ok x → NameCase i

name_case : (i : Input) → NameCase i
name_case i = by_size (u32_at i) refl
  where
    by_text : (n : ℕ) (mid : Input) → u32_at i ≡ Ok (n, mid) → n ≤ length mid.rest → (b : Bool) → is_utf8 (take n mid.rest) ≡ b → NameCase i
    by_text n mid e le true u = good (take n mid.rest, _) (name_ok i mid _ n (take n mid.rest) e (bytes_there n mid le) (IsUtf8-from_is_utf8 (take n mid.rest) u))
    by_text n mid e le false u =
        let no : IsUtf8 (take n mid.rest) → ⊥ = λ (h : IsUtf8 (take n mid.rest)). true_false (sym (is_utf8-from_IsUtf8 (take n mid.rest) h) ∙ u) in
        bad n mid e le no (name_bad i mid _ n (take n mid.rest) e (bytes_there n mid le) no)
      where
        true_false : true ≡ false → ⊥
        true_false q = cc

    by_size : (r : Result (ℕ × Input) LebFault) → u32_at i ≡ r → NameCase i
    by_size (Err e) q = no_size e q (name_no_size i e q)
    by_size (Ok x) q =
        elim (cases_lt (length x.1.rest) x.0) [
          | inl lt ↦ short x.0 x.1 q lt (name_short i x.1 x.0 Truncated q (bytes_missing x.0 x.1 lt))
          | inr le ↦ by_text x.0 x.1 q le (is_utf8 (take x.0 x.1.rest)) refl
        ]

-- ---- where the bytes end inside a name

-- bytes that end inside a size do so inside sized bytes
inside_size : (bytes : List ℕ) → EndsInside IsU32 bytes → EndsInside IsByteVector bytes
inside_size bytes h =
    let fill : List ℕ = replicate h.2 0 in
    (h.0, h.1 ++ fill, fill, (h.2, bytes ++ h.0 ∷ h.1, fill, h.3, (length-replicate h.2 0, refl), sym (append_assoc bytes (h.0 ∷ h.1) fill)))

-- bytes that end inside the text
inside_text : (i mid : Input) (n : ℕ) → u32_at i ≡ Ok (n, mid) → length mid.rest < n → EndsInside IsByteVector i.rest
inside_text i mid n e lt =
    let s = u32_numbers.exact.sound i n mid e in
    let fill : List ℕ = replicate (n - length mid.rest - 1) 0 in
    let text : List ℕ = mid.rest ++ 0 ∷ fill in
    let size : length text ≡ n = omega (arith, length-append mid.rest (0 ∷ fill), length-replicate {A = ℕ} (n - length mid.rest - 1) 0) in
    (0, fill, text, (n, s.0, text, s.1, (size, refl), ap (λ (l : List ℕ). l ++ 0 ∷ fill) s.2 ∙ append_assoc s.0 mid.rest (0 ∷ fill)))

inside_truncated : (i : Input) → EndsInside IsByteVector i.rest → name_at i ≡ Err Truncated
inside_truncated i h =
    let m = h.3 in
    elim (one_begins i.rest (h.0 ∷ h.1) m.1 m.2 m.5) [
      | inl p ↦
          let read = spelled_read IsU32 u32_at u32_numbers.exact i m.1 p.0 m.0 m.3 p.1 in
          let text : m.1 ++ (p.0 ++ h.0 ∷ h.1) ≡ m.1 ++ m.2 = sym (append_assoc m.1 p.0 (h.0 ∷ h.1)) ∙ ap (λ (l : List ℕ). l ++ h.0 ∷ h.1) (sym p.1) ∙ m.5 in
          let same : p.0 ++ h.0 ∷ h.1 ≡ m.2 = append_cancel_left m.1 (p.0 ++ h.0 ∷ h.1) m.2 text in
          let fewer : length p.0 < m.0 = omega (arith, m.4.0, ap length same, length-append p.0 (h.0 ∷ h.1)) in
          name_short i (behind i.at m.1 p.0) m.0 Truncated read (bytes_missing m.0 (behind i.at m.1 p.0) fewer)
      | inr p ↦
          let inside : EndsInside IsU32 i.rest = (p.0, p.1, m.0, subst (λ (l : List ℕ). IsU32 l m.0) p.2 m.3) in
          name_no_size i Truncated ((u32_numbers.truncated i).1 inside)
    ]

-- faults of readers of texts are told apart
told_apart : (d e : LebFault) → (d ≡ e → ⊥) → ◌≡◌ {A = Result (List ℕ × Input) LebFault} (Err d) (Err e) → ⊥
told_apart d e apart q = apart (err_is {A = List ℕ × Input} d e q)

bad_not_truncated : (p : ℕ) → BadUtf8 p ≡ Truncated → ⊥
bad_not_truncated p q = cc

bad_not_leb : (p q : ℕ) → BadUtf8 p ≡ BadLeb q → ⊥
bad_not_leb p q e = cc

truncated_not_leb : (p : ℕ) → Truncated ≡ BadLeb p → ⊥
truncated_not_leb p q = cc

pub name_truncated : (i : Input) → (name_at i ≡ Err Truncated) ↔ EndsInside IsByteVector i.rest
name_truncated i = (by_case (name_case i), inside_truncated i)
  where
    by_case : NameCase i → name_at i ≡ Err Truncated → EndsInside IsByteVector i.rest
    by_case (no_size d e f) q =
        let is : d ≡ Truncated = err_is {A = List ℕ × Input} d Truncated (sym f ∙ q) in
        inside_size i.rest ((u32_numbers.truncated i).0 (e ∙ ap (λ (x : LebFault). Err x) is))
    by_case (short n mid e lt f) q = inside_text i mid n e lt
    by_case (bad n mid e le not_text f) q = absurd (told_apart (BadUtf8 mid.at) Truncated (bad_not_truncated mid.at) (sym f ∙ q))
    by_case (good x f) q = absurd (ok_err x Truncated (sym f ∙ q))

pub name_bad_size : (i : Input) → (name_at i ≡ Err (BadLeb i.at)) ↔ BeginsNone IsU32 i.rest
name_bad_size i = (λ q. (bad_exactly IsU32 u32_at u32_numbers i).0 (by_case (name_case i) q), λ h. name_no_size i (BadLeb i.at) ((bad_exactly IsU32 u32_at u32_numbers i).1 h))
  where
    by_case : NameCase i → name_at i ≡ Err (BadLeb i.at) → u32_at i ≡ Err (BadLeb i.at)
    by_case (no_size d e f) q = e ∙ ap (λ (x : LebFault). Err x) (err_is {A = List ℕ × Input} d (BadLeb i.at) (sym f ∙ q))
    by_case (short n mid e lt f) q = absurd (told_apart Truncated (BadLeb i.at) (truncated_not_leb i.at) (sym f ∙ q))
    by_case (bad n mid e le not_text f) q = absurd (told_apart (BadUtf8 mid.at) (BadLeb i.at) (bad_not_leb mid.at i.at) (sym f ∙ q))
    by_case (good x f) q = absurd (ok_err x (BadLeb i.at) (sym f ∙ q))

-- ---- where the text isn't UTF-8

bad_text_read : (i : Input) (p : ℕ) → IsBadText i p → name_at i ≡ Err (BadUtf8 p)
bad_text_read i p h =
    let rest : i.rest ≡ h.1 ++ (h.2 ++ h.3) = h.6 ∙ append_assoc h.1 h.2 h.3 in
    let read = spelled_read IsU32 u32_at u32_numbers.exact i h.1 (h.2 ++ h.3) h.0 h.4 rest in
    let taken = (exact_bytes h.0).complete h.2 h.3 (i.at + length h.1) h.2 (h.5, refl) in
    name_bad i (behind i.at h.1 (h.2 ++ h.3)) (behind (i.at + length h.1) h.2 h.3) h.0 h.2 read taken h.8 ∙ ap (λ (k : ℕ). Err (BadUtf8 k)) (sym h.7)

pub name_bad_text : (i : Input) (p : ℕ) → (name_at i ≡ Err (BadUtf8 p)) ↔ IsBadText i p
name_bad_text i p = (by_case (name_case i), bad_text_read i p)
  where
    not_utf8 : (d : LebFault) → (d ≡ Truncated) ⊎ (d ≡ BadLeb i.at) → d ≡ BadUtf8 p → ⊥
    not_utf8 d (inl t) q = bad_not_truncated p (sym q ∙ t)
    not_utf8 d (inr t) q = bad_not_leb p i.at (sym q ∙ t)

    by_case : NameCase i → name_at i ≡ Err (BadUtf8 p) → IsBadText i p
    by_case (no_size d e f) q = absurd (not_utf8 d (u32_numbers.only i d e) (err_is {A = List ℕ × Input} d (BadUtf8 p) (sym f ∙ q)))
    by_case (short n mid e lt f) q = absurd (bad_not_truncated p (err_is {A = List ℕ × Input} (BadUtf8 p) Truncated (sym q ∙ f)))
    by_case (bad n mid e le not_text f) q =
        let s = u32_numbers.exact.sound i n mid e in
        let place : BadUtf8 mid.at ≡ BadUtf8 p = err_is {A = List ℕ × Input} (BadUtf8 mid.at) (BadUtf8 p) (sym f ∙ q) in
        let same : p ≡ mid.at = cc in
        let parts : i.rest ≡ (s.0 ++ take n mid.rest) ++ drop n mid.rest = s.2 ∙ ap (λ (l : List ℕ). s.0 ++ l) (sym (take-append-drop n mid.rest)) ∙ sym (append_assoc s.0 (take n mid.rest) (drop n mid.rest)) in
        (n, s.0, take n mid.rest, drop n mid.rest, s.1, length-take-le n mid.rest le, parts, same ∙ s.3, not_text)
    by_case (good x f) q = absurd (ok_err x (BadUtf8 p) (sym f ∙ q))

name_only : (i : Input) (d : LebFault) → name_at i ≡ Err d → (d ≡ Truncated) ⊎ ((d ≡ BadLeb i.at) ⊎ ((place : ℕ) × (d ≡ BadUtf8 place)))
name_only i d q = by_case (name_case i)
  where
    widen : (d ≡ Truncated) ⊎ (d ≡ BadLeb i.at) → (d ≡ Truncated) ⊎ ((d ≡ BadLeb i.at) ⊎ ((place : ℕ) × (d ≡ BadUtf8 place)))
    widen (inl h) = inl h
    widen (inr h) = inr (inl h)

    by_case : NameCase i → (d ≡ Truncated) ⊎ ((d ≡ BadLeb i.at) ⊎ ((place : ℕ) × (d ≡ BadUtf8 place)))
    by_case (no_size e f g) = widen (u32_numbers.only i d (f ∙ ap (λ (x : LebFault). Err x) (err_is {A = List ℕ × Input} e d (sym g ∙ q))))
    by_case (short n mid e lt f) = widen (inl (err_is {A = List ℕ × Input} d Truncated (sym q ∙ f)))
    by_case (bad n mid e le not_text f) = inr (inr (mid.at, err_is {A = List ℕ × Input} d (BadUtf8 mid.at) (sym q ∙ f)))
    by_case (good x f) = absurd (ok_err x d (sym f ∙ q))

-- ---- the call

name_answered : {X : Type 0} (bytes : X → List ℕ) (result : Result X LebFault) (old new : Input) (e : LebFault) → ReadsAs bytes result old new (name_at old) → (result ≡ Err e) ↔ (name_at old ≡ Err e)
name_answered {X} bytes (Ok x) old new e h = (λ q. absurd (ok_err x e q), λ q. absurd (ok_err (bytes x, new) e (sym h ∙ q)))
name_answered {X} bytes (Err d) old new e h =
    (λ q. h.0 ∙ ap (λ (f : LebFault). Err f) (err_is {A = X} d e q), λ q. ap (λ (f : LebFault). Err f) (err_is {A = List ℕ × Input} d e (sym h.0 ∙ q)))

pub reads_name : {X : Type 0} (bytes : X → List ℕ) (result : Result X LebFault) (old new : Input) → ReadsAs bytes result old new (name_at old) → ReadsName bytes result old new
reads_name {X} bytes result old new h = record {
  value = value result h;
  found = found result h;
  truncated = both (name_answered bytes result old new Truncated h) (name_truncated old);
  bad_size = both (name_answered bytes result old new (BadLeb old.at) h) (name_bad_size old);
  bad_text = λ p. both (name_answered bytes result old new (BadUtf8 p) h) (name_bad_text old p);
  only = only result h;
  kept = kept result h;
}
  where
    both : {P Q R : Type 0} → P ↔ Q → Q ↔ R → P ↔ R
    both f g = (λ p. g.0 (f.0 p), λ q. f.1 (g.1 q))

    value : (a : Result X LebFault) → ReadsAs bytes a old new (name_at old) → IfOk a (λ x. (text : List ℕ) × IsName text (bytes x) × (old.rest ≡ text ++ new.rest) × (new.at ≡ old.at + length text))
    value (Ok x) q = exact_name.sound old (bytes x) new q
    value (Err e) q = search rules

    ok : (x : X) → IsOk {E = LebFault} (Ok x)
    ok x = search rules

    found : (a : Result X LebFault) → ReadsAs bytes a old new (name_at old) → (text after name : List ℕ) → IsName text name → old.rest ≡ text ++ after → IfOk a (λ x. bytes x ≡ name) × IsOk a × (new ≡ behind old.at text after)
    found (Ok x) q text after name m e =
        let p : (bytes x, new) ≡ (name, behind old.at text after) = ok_is {F = LebFault} (bytes x, new) (name, behind old.at text after) (sym q ∙ spelled_read IsName name_at exact_name old text after name m e) in
        (ap (λ (z : List ℕ × Input). z.0) p, ok x, ap (λ (z : List ℕ × Input). z.1) p)
    found (Err d) q text after name m e = absurd (err_ok d (name, behind old.at text after) (sym q.0 ∙ spelled_read IsName name_at exact_name old text after name m e))

    only : (a : Result X LebFault) → ReadsAs bytes a old new (name_at old) → IfErr a (λ e. (e ≡ Truncated) ⊎ ((e ≡ BadLeb old.at) ⊎ ((place : ℕ) × (e ≡ BadUtf8 place))))
    only (Ok x) q = search rules
    only (Err e) q = name_only old e q.0

    kept : (a : Result X LebFault) → ReadsAs bytes a old new (name_at old) → OnErr a (new ≡ old)
    kept (Ok x) q = search rules
    kept (Err e) q = q.1
