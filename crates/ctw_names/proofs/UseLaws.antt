-- Typeuses that name an entry.
use Rattle.std.proofs.Common.{◌≡◌, ℕ, ◌&&◌, ◌||◌, Bool, true, false, List, [], ◌∷◌, length, refl, ap, sym, ◌∙◌}
use Rattle.std.specs.Prelude.{Option, Some, None, ◌==◌, is_some, slice_get, unwrap_or}
use Rattle.std.specs.List.{list_any}
use Rattle.ctw_text.specs.declared.fields.Use.{Use}
use Rattle.ctw_text.specs.declared.fields.NamedEntry.{NamedEntry}
use Rattle.ctw_text.specs.declared.pieces.Index.{Index}
use Rattle.ctw_text.specs.declared.pieces.Index.TheVariants.{Numbered, Named}
use Rattle.ctw_text.specs.Names.{NameFault, Space, Spelled, agrees, double_faults, entry_at, entry_faults, is_named, names_in, no_type, same_lists, spelled_type, unless, use_all_faults, use_faults}
use Rattle.ctw_text.specs.Names as n
use Rattle.ctw_names.specs.Known.{number_of}
use Rattle.ctw_names.specs.Noted.{noted}
use Rattle.ctw_names.specs.Doubles.{doubles_onto}
use Rattle.ctw_names.proofs.Noting.{noted_append}
use Rattle.ctw_names.proofs.Positions.{any_position}
use Rattle.ctw_names.proofs.Walks.{doubles_whole}

-- what is spelled differs from no parameters and no results
bare : (u : Use) → (length u.params == 0 && length u.results == 0) ≡ false → agrees u no_type ≡ false
bare u spelled = go u.params u.results spelled
  where
    go : (ps : List _) (rs : List _) → (length ps == 0 && length rs == 0) ≡ false → agrees (record u { params = ps; results = rs }) no_type ≡ false
    go [] [] e = e
    go [] (r ∷ rs) e = ap (λ (b : Bool). b || same_lists (spelled_type (record u { params = []; results = r ∷ rs })) no_type) e
    go (p ∷ ps) rs e = ap (λ (b : Bool). b || same_lists (spelled_type (record u { params = p ∷ ps; results = rs })) no_type) e

pub no_accord : (u : Use) (es : List Spelled) (k : ℕ) → (length u.params == 0 && length u.results == 0) ≡ false → slice_get es k ≡ None → false ≡ agrees u (unwrap_or (slice_get es k) no_type)
no_accord u es k spelled none = sym (ap (λ (t : Option Spelled). agrees u (unwrap_or t no_type)) none ∙ bare u spelled)

abbrev pub mismatch : NamedEntry → NameFault
mismatch e = record { kind = n.Mismatch; place = e.place; extent = 1 }

-- the faults of a typeuse with an entry

pub unknown_faults : (S : Space) (e : NamedEntry) (u : Use) → number_of S.types e.index ≡ None → use_faults S.types e.index ≡ entry_faults S (Some e) u
unknown_faults S e u none = go e.index none
  where
    go : (x : Index) → number_of S.types x ≡ None → use_faults S.types x ≡ entry_faults S (Some (record e { index = x })) u
    go (Numbered m) gone = absurd (let never : ⊥ = cc in never)
    go (Named w) gone = let lost : list_any (is_named w) S.types ≡ false = any_position (is_named w) S.types ∙ ap (λ (o : Option ℕ). is_some o) gone in rw lost refl

pub known_faults : (S : Space) (e : NamedEntry) (u : Use) (k : ℕ) → number_of S.types e.index ≡ Some k → unless (agrees u (entry_at S k)) (mismatch e) ≡ entry_faults S (Some e) u
known_faults S e u k some = go e.index some
  where
    go : (x : Index) → number_of S.types x ≡ Some k → unless (agrees u (entry_at S k)) (mismatch e) ≡ entry_faults S (Some (record e { index = x })) u
    go (Numbered m) is = let same : m ≡ k = cc in rw same refl
    go (Named w) is =
        let found : list_any (is_named w) S.types ≡ true = any_position (is_named w) S.types ∙ ap (λ (o : Option ℕ). is_some o) is in
        rw (found, is) refl

pub agreed : (S : Space) (e : NamedEntry) (u : Use) (k : ℕ) (b : Option NameFault) → number_of S.types e.index ≡ Some k → agrees u (unwrap_or (slice_get S.entries k) no_type) ≡ true → b ≡ noted b (entry_faults S (Some e) u)
agreed S e u k b is same = ap (noted b) (sym (ap (λ (t : Bool). unless t (mismatch e)) same) ∙ known_faults S e u k is)

pub differs : (S : Space) (e : NamedEntry) (u : Use) (k : ℕ) (b : Option NameFault) → number_of S.types e.index ≡ Some k → agrees u (unwrap_or (slice_get S.entries k) no_type) ≡ false → noted b (record { kind = n.Mismatch; place = e.place; extent = 1 } ∷ []) ≡ noted b (entry_faults S (Some e) u)
differs S e u k b is other = ap (noted b) (sym (ap (λ (t : Bool). unless t (mismatch e)) other) ∙ known_faults S e u k is)

pub use_noted : (S : Space) (u : Use) (b : Option NameFault) → noted (noted b (entry_faults S u.entry u)) (doubles_onto [] (names_in u.params)) ≡ noted b (use_all_faults S u)
use_noted S u b = doubles_whole (names_in u.params) (noted b (entry_faults S u.entry u)) ∙ sym (noted_append (entry_faults S u.entry u) (double_faults [] (names_in u.params)) b)
