-- Each combinator of readers is exact for that of grammars.
use Rattle.std.proofs.Common.{◌≡◌, ℕ, zero, suc, ◌+◌, ◌<◌, ◌≤◌, Bool, true, leb, inl, inr, List, [], ◌∷◌, ◌++◌, length, take, drop, Result, Ok, Err, refl, sym, ap, subst, ◌∙◌, append_assoc, arith}
use Rattle.std.proofs.lemmas.Bool.{leb-true, leb-false, le-leb, lt-leb}
use Rattle.std.proofs.lemmas.List.{length-append, take_at, drop_at, take-append-drop, length-take, length-take-le, append-nil, nil_from_length}
use Rattle.ctw_leb.specs.declared.fault.LebFault.{LebFault}
use Rattle.ctw_leb.specs.declared.fault.LebFault.TheVariants.{Truncated}
use Rattle.ctw_leb.specs.Input.{Input, behind}
use Rattle.ctw_leb.specs.Grammar.{Grammar, Just, Bytes, OneOf, Items, TimesFrom, Times, Within, Passing, Mapped, stays}
use Rattle.ctw_leb.specs.Grammar as grammar
use Rattle.ctw_leb.specs.Numbers.{IsU32}
use Rattle.ctw_leb.specs.Vectors.{Vector, Sized}
use Rattle.ctw_leb.specs.Reading.{Reader, WholeReader, Exact, Whole, chain, give, all_bytes, refused, faulted, known, one_of_bytes, one_of, tabled, times_from, times, items_in, items, ends, alone, window_of, within, then_all, seen_as, mapped, passed, tested}
use Rattle.ctw_leb.specs.Reading as reader
use Rattle.ctw_leb.specs.Readers.{byte_at, bytes_at}
use Rattle.ctw_leb.proofs.Exact.{ok_is, err_is, err_ok, ok_err, chain_ok, chosen}

refused_ok : {X F H : Type 0} (f : F → H) (r : Result X F) (x : X) → refused f r ≡ Ok x → r ≡ Ok x
refused_ok f (Ok y) x e = cc
refused_ok f (Err d) x e = absurd cc

pub exact_then : {A B F : Type 0} (G : Grammar A) (H : A → Grammar B) (r : Reader A F) (s : A → Reader B F) → Exact G r → ((a : A) → Exact (H a) (s a))
    → Exact (grammar.◌>>=◌ G H) (reader.◌>>=◌ r s)
exact_then {A} {B} {F} G H r s g h = record {
  sound = λ i b o e.
      let c = chain_ok (r i) (λ x. s x.0 x.1) (b, o) e in
      let first = g.sound i c.0.0 c.0.1 c.1 in
      let second = (h c.0.0).sound c.0.1 b o c.2 in
      let parts : i.rest ≡ (first.0 ++ second.0) ++ o.rest = first.2 ∙ ap (λ (l : List ℕ). first.0 ++ l) second.2 ∙ sym (append_assoc first.0 second.0 o.rest) in
      (first.0 ++ second.0, (c.0.0, first.0, second.0, first.1, second.1, refl), parts, omega (arith, first.3, second.3, length-append first.0 second.0));
  complete = λ text rest at b m.
      let first = g.complete m.1 (m.2 ++ rest) at m.0 m.3 in
      let second = (h m.0).complete m.2 rest (at + length m.1) b m.4 in
      let start : text ++ rest ≡ m.1 ++ (m.2 ++ rest) = ap (λ (l : List ℕ). l ++ rest) m.5 ∙ append_assoc m.1 m.2 rest in
      let place : at + length m.1 + length m.2 ≡ at + length text = omega (arith, ap length m.5, length-append m.1 m.2) in
      let input : List ℕ → Input = λ l. record { at = at; rest = l } in
      ap (λ (l : List ℕ). chain (r (input l)) (λ x. s x.0 x.1)) start
      ∙ ap (λ (z : Result (A × Input) F). chain z (λ x. s x.0 x.1)) first
      ∙ second ∙ ap (λ (n : ℕ). Ok (b, record { at = n; rest = rest })) place;
}

pub exact_give : {A F : Type 0} (a : A) → Exact (Just a) (give {F = F} a)
exact_give {A} {F} a = record {
  sound = λ i b o e.
      let p : (a, i) ≡ (b, o) = ok_is {F = F} (a, i) (b, o) e in
      ([], (refl, ap (λ (z : A × Input). z.0) p), ap (λ (z : A × Input). z.1.rest) p, ap (λ (z : A × Input). z.1.at) (sym p) ∙ omega arith);
  complete = λ text rest at b m.
      let n : at ≡ at + length text = rw m.0 (omega arith) in
      let l : text ++ rest ≡ rest = rw m.0 refl in
      rw (l, m.1) (ap (λ (k : ℕ). Ok (b, record { at = k; rest = rest })) n);
}

pub exact_faulted : {A F H : Type 0} (f : Input → F → H) (G : Grammar A) (r : Reader A F) → Exact G r → Exact G (faulted f r)
exact_faulted f G r g = record {
  sound = λ i a o e. g.sound i a o (refused_ok (f i) (r i) (a, o) e);
  complete = λ text rest at a m. rw (g.complete text rest at a m) refl;
}

pub exact_times_from : {S A F : Type 0} (G : S → Grammar A) (r : S → Reader A F) (next : S → A → S) (n : ℕ) (s : S) → ((t : S) → Exact (G t) (r t)) → Exact (TimesFrom G next n s) (times_from r next n s)
exact_times_from G r next zero s g = exact_give []
exact_times_from G r next (suc n) s g =
    exact_then (G s) (λ a. grammar.◌>>=◌ (TimesFrom G next n (next s a)) (λ others. Just (a ∷ others))) (r s) (λ a. reader.◌>>=◌ (times_from r next n (next s a)) (λ others. give (a ∷ others))) (g s)
    (λ a. exact_then (TimesFrom G next n (next s a)) (λ others. Just (a ∷ others)) (times_from r next n (next s a)) (λ others. give (a ∷ others)) (exact_times_from G r next n (next s a) g) (λ others. exact_give (a ∷ others)))

pub exact_times : {A F : Type 0} (G : Grammar A) (r : Reader A F) (n : ℕ) → Exact G r → Exact (Times G n) (times r n)
exact_times G r n g = exact_times_from (λ u. G) (λ u. r) stays n tt (λ u. g)

known_ok : {A K F : Type 0} (bad : K → F) (o : Input) (t : Result A K) (a : A) (p : Input) → known bad o t ≡ Ok (a, p) → (t ≡ Ok a) × (o ≡ p)
known_ok {A} {K} {F} bad o (Ok b) a p e =
    let q : (b, o) ≡ (a, p) = ok_is {F = F} (b, o) (a, p) e in
    (ap (λ (z : A × Input). Ok z.0) q, ap (λ (z : A × Input). z.1) q)
known_ok bad o (Err kind) a p e = absurd (err_ok (bad kind) (a, p) e)

one_of_sound : {A K F : Type 0} (short : ℕ → F) (bad : K → ℕ → F) (table : ℕ → Result A K) (at : ℕ) (bytes : List ℕ) (a : A) (o : Input) → one_of_bytes short bad table at bytes ≡ Ok (a, o)
    → (text : List ℕ) × OneOf table text a × (bytes ≡ text ++ o.rest) × (o.at ≡ at + length text)
one_of_sound short bad table at [] a o e = absurd (err_ok (short at) (a, o) e)
one_of_sound short bad table at (b ∷ rest) a o e =
    let k = known_ok (λ kind. bad kind at) (record { at = at + 1; rest = rest }) (table b) a o e in
    (b ∷ [], (b, refl, k.0), ap (λ (i : Input). b ∷ i.rest) k.1, ap (λ (i : Input). i.at) (sym k.1))

pub exact_one_of : {A K F : Type 0} (short : ℕ → F) (bad : K → ℕ → F) (table : ℕ → Result A K) → Exact (OneOf table) (one_of short bad table)
exact_one_of short bad table = record {
  sound = λ i a o e. one_of_sound short bad table i.at i.rest a o e;
  complete = λ text rest at a m. rw (m.1, m.2) refl;
}

-- no spelling of an item is empty
abbrev pub IsFilled : {A : Type 0} → Grammar A → Type 0
IsFilled {A} G = (a : A) → G [] a → ⊥

items_sound : {S A F : Type 0} (G : S → Grammar A) (r : S → Reader A F) (next : S → A → S) → ((s : S) → Exact (G s) (r s)) → ((s : S) → IsFilled (G s))
    → (fuel : ℕ) (s : S) (at : ℕ) (bytes : List ℕ) (others : List A) → length bytes ≤ fuel → items_in r next fuel s at bytes ≡ Ok others → Items G next s bytes others
unfolding items_in
items_sound {S} {A} {F} G r next g filled fuel s at [] others le e =
    subst (λ (l : List A). Items G next s [] l) (ok_is {F = F} [] others e) refl
items_sound G r next g filled zero s at (b ∷ rest) others le e = absurd (omega arith)
items_sound {S} {A} {F} G r next g filled (suc fuel) s at (b ∷ rest) others le e =
    let i : Input = record { at = at; rest = b ∷ rest } in
    let c = chain_ok (r s i) (λ x. chain (items_in r next fuel (next s x.0) x.1.at x.1.rest) (λ l. Ok (x.0 ∷ l))) others e in
    let d = chain_ok (items_in r next fuel (next s c.0.0) c.0.1.at c.0.1.rest) (λ l. Ok (c.0.0 ∷ l)) others c.2 in
    let first = (g s).sound i c.0.0 c.0.1 c.1 in
    let some : 0 < length first.0 = not_empty first.0 first.1 in
    let shorter : length c.0.1.rest ≤ fuel = omega (arith, ap length first.2, length-append first.0 c.0.1.rest) in
    let second = items_sound G r next g filled fuel (next s c.0.0) c.0.1.at c.0.1.rest d.0 shorter d.1 in
    subst (λ (l : List A). Items G next s (b ∷ rest) l) (ok_is {F = F} (c.0.0 ∷ d.0) others d.2) (first.0, c.0.1.rest, first.1, second, first.2)
  where
    not_empty : (text : List ℕ) {a : A} → G s text a → 0 < length text
    not_empty [] {a} m = absurd (filled s a m)
    not_empty (t ∷ ts) m = omega arith

items_first : {S A F : Type 0} (G : S → Grammar A) (r : S → Reader A F) (next : S → A → S) → ((s : S) → Exact (G s) (r s)) → ((s : S) → IsFilled (G s))
    → (fuel : ℕ) (s : S) (at : ℕ) (x y : List ℕ) (a : A) (others : List A) → length (x ++ y) ≤ fuel → G s x a
    → ((f at₂ : ℕ) → length y ≤ f → items_in r next f (next s a) at₂ y ≡ Ok others) → items_in r next fuel s at (x ++ y) ≡ Ok (a ∷ others)
unfolding items_in
items_first G r next g filled fuel s at [] y a others le m again = absurd (filled s a m)
items_first G r next g filled zero s at (c ∷ cs) y a others le m again = absurd (omega arith)
items_first G r next g filled (suc fuel) s at (c ∷ cs) y a others le m again =
    rw ((g s).complete (c ∷ cs) y at a m, again fuel (at + length (c ∷ cs)) (omega (arith, length-append cs y))) refl

items_complete : {S A F : Type 0} (G : S → Grammar A) (r : S → Reader A F) (next : S → A → S) → ((s : S) → Exact (G s) (r s)) → ((s : S) → IsFilled (G s))
    → (fuel : ℕ) (s : S) (at : ℕ) (bytes : List ℕ) (others : List A) → length bytes ≤ fuel → Items G next s bytes others → items_in r next fuel s at bytes ≡ Ok others
unfolding items_in
items_complete G r next g filled fuel s at bytes [] le m = rw m refl
items_complete G r next g filled fuel s at bytes (a ∷ others) le m =
    ap (items_in r next fuel s at) m.4
    ∙ items_first G r next g filled fuel s at m.0 m.1 a others (omega (arith, ap length m.4)) m.2 (λ f at₂ h. items_complete G r next g filled f (next s a) at₂ m.1 others h m.3)

pub whole_items : {S A F : Type 0} (G : S → Grammar A) (r : S → Reader A F) (next : S → A → S) → ((s : S) → Exact (G s) (r s)) → ((s : S) → IsFilled (G s))
    → (s : S) → Whole (Items G next s) (items r next s)
whole_items G r next g filled s = record {
  sound = λ i l e. items_sound G r next g filled (length i.rest) s i.at i.rest l (omega arith) e;
  complete = λ i l m. items_complete G r next g filled (length i.rest) s i.at i.rest l (omega arith) m;
}

ends_ok : {A F : Type 0} (more : ℕ → F) (x : A × Input) (a : A) → ends more x ≡ Ok a → (x.0 ≡ a) × (x.1.rest ≡ [])
ends_ok {A} {F} more x a e =
    elim (chosen (leb (length x.1.rest) 0) (Ok x.0) (Err (more x.1.at)) (Ok a) e) [
      | inl p ↦ (ok_is {F = F} x.0 a p.1, nil_from_length x.1.rest (omega (arith, leb-true _ _ p.0)))
      | inr p ↦ absurd (err_ok (more x.1.at) a p.1)
    ]

pub whole_alone : {A F : Type 0} (more : ℕ → F) (G : Grammar A) (r : Reader A F) → Exact G r → Whole G (alone more r)
whole_alone {A} {F} more G r g = record {
  sound = λ i a e.
      let c = chain_ok (r i) (ends more) a e in
      let f = ends_ok more c.0 a c.2 in
      let s = g.sound i c.0.0 c.0.1 c.1 in
      let whole : i.rest ≡ s.0 = s.2 ∙ ap (λ (l : List ℕ). s.0 ++ l) f.1 ∙ append-nil s.0 in
      subst (λ (l : List ℕ). G l a) (sym whole) (subst (λ (b : A). G s.0 b) f.0 s.1);
  complete = λ i a m.
      let again : r (record { at = i.at; rest = i.rest ++ [] }) ≡ Ok (a, behind i.at i.rest []) = g.complete i.rest [] i.at a m in
      let same : r i ≡ Ok (a, behind i.at i.rest []) = ap (λ (l : List ℕ). r (record { at = i.at; rest = l })) (sym (append-nil i.rest)) ∙ again in
      rw same refl;
}

-- a window that is there
pub window_ok : {F : Type 0} (short : ℕ → F) (n : ℕ) (i w o : Input) → window_of short n i ≡ Ok (w, o)
    → (n ≤ length i.rest) × (w ≡ record { at = i.at; rest = take n i.rest }) × (o ≡ record { at = i.at + n; rest = drop n i.rest })
window_ok {F} short n i w o e =
    let made : Input × Input = (record { at = i.at; rest = take n i.rest }, record { at = i.at + n; rest = drop n i.rest }) in
    elim (chosen (leb n (length i.rest)) (Ok made) (Err (short (i.at + length i.rest))) (Ok (w, o)) e) [
      | inl p ↦
          let q = ok_is {F = F} made (w, o) p.1 in
          (leb-true n (length i.rest) p.0, ap (λ (z : Input × Input). z.0) (sym q), ap (λ (z : Input × Input). z.1) (sym q))
      | inr p ↦ absurd (err_ok (short (i.at + length i.rest)) (w, o) p.1)
    ]

pub exact_within : {A F : Type 0} (short : ℕ → F) (n : ℕ) (G : Grammar A) (r : WholeReader A F) → Whole G r → Exact (Within n G) (within short n r)
exact_within {A} {F} short n G r g = record {
  sound = λ i a o e.
      let c = chain_ok (window_of short n i) (λ x. chain (r x.0) (λ b. Ok (b, x.1))) (a, o) e in
      let h = window_ok short n i c.0.0 c.0.1 c.1 in
      let d = chain_ok (r c.0.0) (λ b. Ok (b, c.0.1)) (a, o) c.2 in
      let q : (d.0, c.0.1) ≡ (a, o) = ok_is {F = F} (d.0, c.0.1) (a, o) d.2 in
      let len : length (take n i.rest) ≡ n = length-take-le n i.rest h.0 in
      let behind_it : o ≡ record { at = i.at + n; rest = drop n i.rest } = ap (λ (z : A × Input). z.1) (sym q) ∙ h.2 in
      let spelled : G (take n i.rest) d.0 = subst (λ (w : Input). G w.rest d.0) h.1 (g.sound c.0.0 d.0 d.1) in (
        take n i.rest,
        (len, subst (λ (b : A). G (take n i.rest) b) (ap (λ (z : A × Input). z.0) q) spelled),
        sym (take-append-drop n i.rest) ∙ ap (λ (z : Input). take n i.rest ++ z.rest) (sym behind_it),
        ap (λ (z : Input). z.at) behind_it ∙ ap (λ (k : ℕ). i.at + k) (sym len),
      );
  complete = λ text rest at a m.
      let le : leb n (length (text ++ rest)) ≡ true = le-leb n _ (omega (arith, m.0, length-append text rest)) in
      rw (le, take_at text rest n m.0, drop_at text rest n m.0, g.complete (record { at = at; rest = text }) a m.1, m.0) refl;
}

-- ---- bytes as they are

pub whole_bytes : {F : Type 0} → Whole Bytes (all_bytes {F = F})
whole_bytes {F} = record {
  sound = λ i a e. ok_is {F = F} i.rest a e;
  complete = λ i a m. ap (λ (l : List ℕ). Ok l) m;
}

pub bytes_ok : (n : ℕ) (i : Input) (t : List ℕ) (o : Input) → bytes_at n i ≡ Ok (t, o) → (n ≤ length i.rest) × (t ≡ take n i.rest) × (o ≡ record { at = i.at + n; rest = drop n i.rest })
unfolding bytes_at
bytes_ok n i t o e =
    let made : List ℕ × Input = (take n i.rest, record { at = i.at + n; rest = drop n i.rest }) in
    elim (chosen (leb n (length i.rest)) (Ok made) (Err Truncated) (Ok (t, o)) e) [
      | inl p ↦
          let q = ok_is {F = LebFault} made (t, o) p.1 in
          (leb-true n (length i.rest) p.0, ap (λ (z : List ℕ × Input). z.0) (sym q), ap (λ (z : List ℕ × Input). z.1) (sym q))
      | inr p ↦ absurd (err_ok Truncated (t, o) p.1)
    ]

pub bytes_err : (n : ℕ) (i : Input) (d : LebFault) → bytes_at n i ≡ Err d → (length i.rest < n) × (d ≡ Truncated)
unfolding bytes_at
bytes_err n i d e =
    let made : List ℕ × Input = (take n i.rest, record { at = i.at + n; rest = drop n i.rest }) in
    elim (chosen (leb n (length i.rest)) (Ok made) (Err Truncated) (Err d) e) [
      | inl p ↦ absurd (ok_err made d p.1)
      | inr p ↦ (leb-false n (length i.rest) p.0, err_is {A = List ℕ × Input} d Truncated (sym p.1))
    ]

pub bytes_there : (n : ℕ) (i : Input) → n ≤ length i.rest → bytes_at n i ≡ Ok (take n i.rest, record { at = i.at + n; rest = drop n i.rest })
unfolding bytes_at
bytes_there n i le = rw (le-leb n (length i.rest) le) refl

pub bytes_missing : (n : ℕ) (i : Input) → length i.rest < n → bytes_at n i ≡ Err Truncated
unfolding bytes_at
bytes_missing n i lt = rw (lt-leb n (length i.rest) lt) refl

pub exact_bytes : (n : ℕ) → Exact (Within n Bytes) (bytes_at n)
unfolding bytes_at
exact_bytes n = record {
  sound = λ i t o e.
      let h = bytes_ok n i t o e in
      let len : length (take n i.rest) ≡ n = length-take-le n i.rest h.0 in
      (take n i.rest, (len, sym h.1), sym (take-append-drop n i.rest) ∙ ap (λ (p : Input). take n i.rest ++ p.rest) (sym h.2), ap (λ (p : Input). p.at) h.2 ∙ ap (λ (k : ℕ). i.at + k) (sym len));
  complete = λ text rest at t m. rw (le-leb n (length (text ++ rest)) (omega (arith, m.0, length-append text rest)), take_at text rest n m.0, drop_at text rest n m.0, m.0, m.1) refl;
}

-- a window of bytes that were taken
pub window_taken : {F : Type 0} (short : ℕ → F) (n : ℕ) (i o : Input) (t : List ℕ) → bytes_at n i ≡ Ok (t, o) → window_of short n i ≡ Ok (record { at = i.at; rest = t }, o)
window_taken short n i o t e =
    let h = bytes_ok n i t o e in
    rw (le-leb n (length i.rest) h.0, h.1, h.2) refl

pub window_short : {F : Type 0} (short : ℕ → F) (n : ℕ) (i : Input) (d : LebFault) → bytes_at n i ≡ Err d → window_of short n i ≡ Err (short (i.at + length i.rest))
window_short short n i d e = rw (lt-leb n (length i.rest) (bytes_err n i d e).0) refl

-- what is taken is within the bytes
pub taken_within : (n : ℕ) (i : Input) (t : List ℕ) (o : Input) → bytes_at n i ≡ Ok (t, o) → length t ≤ length i.rest
taken_within n i t o e =
    let h = bytes_ok n i t o e in
    omega (arith, ap length h.1, length-take n i.rest)

pub exact_vector : {A F : Type 0} (G : Grammar A) (count : Reader ℕ F) (r : Reader A F) → Exact IsU32 count → Exact G r → Exact (Vector G) (reader.◌>>=◌ count (λ n. times r n))
exact_vector G count r c g = exact_then IsU32 (λ n. Times G n) count (λ n. times r n) c (λ n. exact_times G r n g)

pub exact_sized : {A F : Type 0} (G : Grammar A) (short : ℕ → F) (count : Reader ℕ F) (r : WholeReader A F) → Exact IsU32 count → Whole G r → Exact (Sized G) (reader.◌>>=◌ count (λ n. within short n r))
exact_sized G short count r c g = exact_then IsU32 (λ n. Within n G) count (λ n. within short n r) c (λ n. exact_within short n G r g)

-- a byte that was read, and what it stands for
one_byte : {A K F : Type 0} (short : ℕ → F) (bad : K → ℕ → F) (table : ℕ → Result A K) (at : ℕ) (bytes : List ℕ) (o : Input) (b : ℕ) → byte_at (record { at = at; rest = bytes }) ≡ Ok (b, o)
    → one_of short bad table (record { at = at; rest = bytes }) ≡ known (λ kind. bad kind at) o (table b)
unfolding byte_at
one_byte short bad table at [] o b e = absurd (err_ok Truncated (b, o) e)
one_byte short bad table at (c ∷ rest) o b e =
    let p = ok_is {F = LebFault} (c, record { at = at + 1; rest = rest }) (b, o) e in
    rw (ap (λ (z : ℕ × Input). z.0) p, ap (λ (z : ℕ × Input). z.1) p) refl

no_byte : {A K F : Type 0} (short : ℕ → F) (bad : K → ℕ → F) (table : ℕ → Result A K) (at : ℕ) (bytes : List ℕ) (d : LebFault) → byte_at (record { at = at; rest = bytes }) ≡ Err d
    → one_of short bad table (record { at = at; rest = bytes }) ≡ Err (short at)
unfolding byte_at
no_byte short bad table at [] d e = refl
no_byte short bad table at (c ∷ rest) d e = absurd (ok_err (c, record { at = at + 1; rest = rest }) d e)

-- a byte by a table whose fault is a kind and a place, and the same with a fault that is made of them
one_of_placed : {A K F : Type 0} (fault : K → ℕ → F) (short : K) (rows : ℕ → Result A K) (i : Input)
    → one_of (fault short) fault rows i ≡ refused (λ (f : K × ℕ). fault f.0 f.1) (tabled short rows i)
one_of_placed {A} {K} fault short rows i = bytes i.rest
  where
    row : (o : Input) (answer : Result A K) → known (λ kind. fault kind i.at) o answer ≡ refused (λ (f : K × ℕ). fault f.0 f.1) (known (λ kind. (kind, i.at)) o answer)
    row o (Ok a) = refl
    row o (Err kind) = refl

    bytes : (rest : List ℕ) → one_of_bytes (fault short) fault rows i.at rest ≡ refused (λ (f : K × ℕ). fault f.0 f.1) (one_of_bytes {F = K × ℕ} (λ at. (short, at)) (λ kind at. (kind, at)) rows i.at rest)
    bytes [] = refl
    bytes (b ∷ rest) = row (record { at = i.at + 1; rest = rest }) (rows b)

pub placed_ok : {A K F : Type 0} (fault : K → ℕ → F) (short : K) (rows : ℕ → Result A K) (i o : Input) (a : A)
    → tabled short rows i ≡ Ok (a, o) → one_of (fault short) fault rows i ≡ Ok (a, o)
placed_ok fault short rows i o a e = one_of_placed fault short rows i ∙ ap (refused (λ f. fault f.0 f.1)) e

pub placed_bad : {A K F : Type 0} (fault : K → ℕ → F) (short : K) (rows : ℕ → Result A K) (i : Input) (kind : K) (place : ℕ)
    → tabled short rows i ≡ Err (kind, place) → one_of (fault short) fault rows i ≡ Err (fault kind place)
placed_bad fault short rows i kind place e = one_of_placed fault short rows i ∙ ap (refused (λ f. fault f.0 f.1)) e

pub one_of_ok : {A K F : Type 0} (short : ℕ → F) (bad : K → ℕ → F) (table : ℕ → Result A K) (i o : Input) (b : ℕ) (a : A) → byte_at i ≡ Ok (b, o) → table b ≡ Ok a → one_of short bad table i ≡ Ok (a, o)
one_of_ok short bad table i o b a e s = rw (one_byte short bad table i.at i.rest o b e, s) refl

pub one_of_bad : {A K F : Type 0} (short : ℕ → F) (bad : K → ℕ → F) (table : ℕ → Result A K) (i o : Input) (b : ℕ) (kind : K) → byte_at i ≡ Ok (b, o) → table b ≡ Err kind → one_of short bad table i ≡ Err (bad kind i.at)
one_of_bad short bad table i o b kind e s = rw (one_byte short bad table i.at i.rest o b e, s) refl

pub one_of_short : {A K F : Type 0} (short : ℕ → F) (bad : K → ℕ → F) (table : ℕ → Result A K) (i : Input) (d : LebFault) → byte_at i ≡ Err d → one_of short bad table i ≡ Err (short i.at)
one_of_short short bad table i d e = no_byte short bad table i.at i.rest d e

pub whole_then : {A B F : Type 0} (G : Grammar A) (H : A → Grammar B) (r : Reader A F) (s : A → WholeReader B F) → Exact G r → ((a : A) → Whole (H a) (s a))
    → Whole (grammar.◌>>=◌ G H) (then_all r s)
whole_then {A} {B} {F} G H r s g h = record {
  sound = λ i b e.
      let c = chain_ok (r i) (λ x. s x.0 x.1) b e in
      let first = g.sound i c.0.0 c.0.1 c.1 in
      (c.0.0, first.0, c.0.1.rest, first.1, (h c.0.0).sound c.0.1 b c.2, first.2);
  complete = λ i b m.
      let first = g.complete m.1 m.2 i.at m.0 m.3 in
      let second = (h m.0).complete (behind i.at m.1 m.2) b m.4 in
      let input : List ℕ → Input = λ l. record { at = i.at; rest = l } in
      ap (λ (l : List ℕ). chain (r (input l)) (λ x. s x.0 x.1)) m.5 ∙ ap (λ (z : Result (A × Input) F). chain z (λ x. s x.0 x.1)) first ∙ second;
}

pub exact_seen_as : {A B F : Type 0} (f : A → B) (G : Grammar A) (r : Reader A F) → Exact G r → Exact (Mapped f G) (seen_as f r)
exact_seen_as {A} {B} {F} f G r g = record {
  sound = λ i b o e.
      let c = chain_ok (r i) (λ x. Ok (f x.0, x.1)) (b, o) e in
      let q : (f c.0.0, c.0.1) ≡ (b, o) = ok_is {F = F} (f c.0.0, c.0.1) (b, o) c.2 in
      let s = g.sound i c.0.0 c.0.1 c.1 in
      (s.0, (c.0.0, s.1, ap (λ (z : B × Input). z.0) q), s.2 ∙ ap (λ (z : B × Input). s.0 ++ z.1.rest) q, ap (λ (z : B × Input). z.1.at) (sym q) ∙ s.3);
  complete = λ text rest at b m. rw (g.complete text rest at m.0 m.1, m.2) refl;
}

pub whole_mapped : {A B F : Type 0} (f : A → B) (G : Grammar A) (r : WholeReader A F) → Whole G r → Whole (Mapped f G) (mapped f r)
whole_mapped {A} {B} {F} f G r g = record {
  sound = λ i b e.
      let c = chain_ok (r i) (λ a. Ok (f a)) b e in
      (c.0, g.sound i c.0 c.1, ok_is {F = F} (f c.0) b c.2);
  complete = λ i b m. rw (g.complete i m.0 m.1, m.2) refl;
}

passed_ok : {A F : Type 0} (test : A → Bool) (f : F) (x y : A × Input) → passed test f x ≡ Ok y → (test x.0 ≡ true) × (x ≡ y)
passed_ok {A} {F} test f x y e =
    elim (chosen (test x.0) (Ok x) (Err f) (Ok y) e) [
      | inl p ↦ (p.0, ok_is {F = F} x y p.1)
      | inr p ↦ absurd (err_ok f y p.1)
    ]

pub exact_tested : {A F : Type 0} (test : A → Bool) (fails : ℕ → F) (G : Grammar A) (r : Reader A F) → Exact G r → Exact (Passing test G) (tested test fails r)
exact_tested {A} {F} test fails G r g = record {
  sound = λ i a o e.
      let c = chain_ok (r i) (passed test (fails i.at)) (a, o) e in
      let k = passed_ok test (fails i.at) c.0 (a, o) c.2 in
      let s = g.sound i a o (c.1 ∙ ap (λ (x : A × Input). Ok x) k.1) in
      (s.0, (s.1, ap (λ (x : A × Input). test x.0) (sym k.1) ∙ k.0), s.2, s.3);
  complete = λ text rest at a m. rw (g.complete text rest at a m.0, m.1) refl;
}

pub whole_refused : {A F H : Type 0} (f : F → H) (G : Grammar A) (r : WholeReader A F) → Whole G r → Whole G (λ i. refused f (r i))
whole_refused f G r g = record {
  sound = λ i a e. g.sound i a (refused_ok f (r i) a e);
  complete = λ i a m. rw (g.complete i a m) refl;
}
