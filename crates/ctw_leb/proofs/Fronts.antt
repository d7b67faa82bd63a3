-- Readers whose faults are tied to the grammar: the bytes end inside a spelling, or begin none.
use Rattle.std.proofs.Common.{◌≡◌, ℕ, ◌+◌, ◌⊎◌, inl, inr, List, [], ◌∷◌, ◌++◌, length, Result, Ok, Err, refl, sym, ap, subst, ◌∙◌, rules}
use Rattle.std.specs.Prelude.{◌↔◌, IfOk, IfErr, OnErr}
use Rattle.std.proofs.lemmas.List.{append-nil}
use Rattle.ctw_leb.specs.declared.fault.LebFault.{LebFault}
use Rattle.ctw_leb.specs.declared.fault.LebFault.TheVariants.{Truncated, BadLeb}
use Rattle.ctw_leb.specs.Input.{Input, behind}
use Rattle.ctw_leb.specs.Grammar.{Grammar, EndsInside, BeginsNone}
use Rattle.ctw_leb.specs.Reading.{Reader, Exact}
use Rattle.ctw_leb.specs.Calls.{Reads, ReadsNumber}
use Rattle.ctw_leb.proofs.Exact.{ok_is, err_is, err_ok, ok_err, one_begins}

-- A reader is exact, and `Truncated` where the bytes end inside a spelling, else `BadLeb` where they begin none.
pub record ExactNumber {A : Type 0} (G : Grammar A) (r : Reader A LebFault) : Type 0 where
  pub exact : Exact G r
  pub truncated : (i : Input) → (r i ≡ Err Truncated) ↔ EndsInside G i.rest
  pub only : (i : Input) (e : LebFault) → r i ≡ Err e → (e ≡ Truncated) ⊎ (e ≡ BadLeb i.at)

-- a spelling at the front is read
pub spelled_read : {A F : Type 0} (G : Grammar A) (r : Reader A F) → Exact G r → (i : Input) (text after : List ℕ) (a : A) → G text a → i.rest ≡ text ++ after → r i ≡ Ok (a, behind i.at text after)
spelled_read G r exact i text after a m e = ap (λ (l : List ℕ). r (record { at = i.at; rest = l })) e ∙ exact.complete text after i.at a m

truncated_bad : {A : Type 0} (p : ℕ) → ◌≡◌ {A = Result A LebFault} (Err Truncated) (Err (BadLeb p)) → ⊥
truncated_bad p e = cc

-- a reader's fault where no spelling begins
bad_begins_none : {A : Type 0} (G : Grammar A) (r : Reader A LebFault) → ExactNumber G r → (i : Input) → r i ≡ Err (BadLeb i.at) → BeginsNone G i.rest
bad_begins_none {A} G r laws i e more text after a m q =
    elim (one_begins i.rest more text after q) [
      | inl h ↦ absurd (ok_err (a, behind i.at text h.0) (BadLeb i.at) (sym (spelled_read G r laws.exact i text h.0 a m h.1) ∙ e))
      | inr h ↦
          let inside : EndsInside G i.rest = (h.0, h.1, a, subst (λ (l : List ℕ). G l a) h.2 m) in
          absurd (truncated_bad {A = A × Input} i.at (sym ((laws.truncated i).1 inside) ∙ e))
    ]

begins_none_bad : {A : Type 0} (G : Grammar A) (r : Reader A LebFault) → ExactNumber G r → (i : Input) → BeginsNone G i.rest → r i ≡ Err (BadLeb i.at)
begins_none_bad {A} G r laws i none = go (r i) refl
  where
    go : (read : Result (A × Input) LebFault) → r i ≡ read → r i ≡ Err (BadLeb i.at)
    go (Ok x) e =
        let s = laws.exact.sound i x.0 x.1 e in
        absurd (none [] s.0 x.1.rest x.0 s.1 (append-nil i.rest ∙ s.2))
    go (Err d) e =
        elim (laws.only i d e) [
          | inl t ↦
              let h = (laws.truncated i).0 (e ∙ ap (λ (f : LebFault). Err f) t) in
              absurd (none (h.0 ∷ h.1) (i.rest ++ h.0 ∷ h.1) [] h.2 h.3 (sym (append-nil (i.rest ++ h.0 ∷ h.1))))
          | inr b ↦ e ∙ ap (λ (f : LebFault). Err f) b
        ]

pub bad_exactly : {A : Type 0} (G : Grammar A) (r : Reader A LebFault) → ExactNumber G r → (i : Input) → (r i ≡ Err (BadLeb i.at)) ↔ BeginsNone G i.rest
bad_exactly G r laws i = (bad_begins_none G r laws i, begins_none_bad G r laws i)

-- what the call says of its answer, as of the reader's
answered : {A : Type 0} (r : Reader A LebFault) (result : Result A LebFault) (old new : Input) (e : LebFault) → Reads result old new (r old) → (result ≡ Err e) ↔ (r old ≡ Err e)
answered {A} r (Ok x) old new e h = (λ q. absurd (ok_err x e q), λ q. absurd (ok_err (x, new) e (sym h ∙ q)))
answered {A} r (Err d) old new e h =
    (λ q. h.0 ∙ ap (λ (f : LebFault). Err f) (err_is {A = A} d e q), λ q. ap (λ (f : LebFault). Err f) (err_is {A = A × Input} d e (sym h.0 ∙ q)))

value_of : {A : Type 0} (G : Grammar A) (r : Reader A LebFault) → ExactNumber G r → (result : Result A LebFault) (old new : Input) → Reads result old new (r old)
    → IfOk result (λ a. (text : List ℕ) × G text a × (old.rest ≡ text ++ new.rest) × (new.at ≡ old.at + length text))
value_of G r laws (Ok x) old new h = laws.exact.sound old x new h
value_of G r laws (Err e) old new h = search rules

pub reads_number : {A : Type 0} (G : Grammar A) (r : Reader A LebFault) → ExactNumber G r → (result : Result A LebFault) (old new : Input) → Reads result old new (r old)
    → ReadsNumber G result old new
reads_number {A} G r laws result old new h = record {
  value = value_of G r laws result old new h;
  found = found result h;
  truncated = trans (answered r result old new Truncated h) (laws.truncated old);
  bad = trans (answered r result old new (BadLeb old.at) h) (bad_exactly G r laws old);
  only = only result h;
  kept = kept result h;
}
  where
    trans : {P Q R : Type 0} → P ↔ Q → Q ↔ R → P ↔ R
    trans f g = (λ p. g.0 (f.0 p), λ q. f.1 (g.1 q))

    found : (a : Result A LebFault) → Reads a old new (r old) → (text after : List ℕ) (n : A) → G text n → old.rest ≡ text ++ after → (a ≡ Ok n) × (new ≡ behind old.at text after)
    found (Ok x) q text after n m e =
        let p : (x, new) ≡ (n, behind old.at text after) = ok_is {F = LebFault} (x, new) (n, behind old.at text after) (sym q ∙ spelled_read G r laws.exact old text after n m e) in
        (ap (λ (z : A × Input). Ok z.0) p, ap (λ (z : A × Input). z.1) p)
    found (Err d) q text after n m e = absurd (err_ok d (n, behind old.at text after) (sym q.0 ∙ spelled_read G r laws.exact old text after n m e))

    only : (a : Result A LebFault) → Reads a old new (r old) → IfErr a (λ e. (e ≡ Truncated) ⊎ (e ≡ BadLeb old.at))
    only (Ok x) q = search rules
    only (Err e) q = laws.only old e q.0

    kept : (a : Result A LebFault) → Reads a old new (r old) → OnErr a (new ≡ old)
    kept (Ok x) q = search rules
    kept (Err e) q = q.1
