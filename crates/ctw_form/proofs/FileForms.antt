-- The reader of files answers exactly the file, and the module, that bytes spell.
use Rattle.std.proofs.Common.{◌≡◌, ℕ, ◌+◌, ◌≤◌, Bool, true, false, cond, leb, inl, inr, List, ◌++◌, length, take, drop, Result, Ok, Err, refl, sym, ap, subst, ◌∙◌, append_assoc, arith}
use Rattle.std.specs.Prelude.{◌==◌, ◌↔◌}
use Rattle.std.specs.Str.{bytes_eq}
use Rattle.std.proofs.lemmas.Bool.{le-leb, leb-true, eqb-true, eq-eqb}
use Rattle.std.proofs.lemmas.List.{take-append-drop, drop-drop, length-append}
use Rattle.std.proofs.lemmas.Slice.Eq.{bytes_eq-Decides}
use Rattle.ctw_ops.specs.declared.types.Label.{Label}
use Rattle.ctw_ops.specs.declared.fault.What.TheVariants as what
use Rattle.ctw_ops.specs.Tree.{Module}
use Rattle.ctw_leb.specs.Input.{Input, behind}
use Rattle.ctw_leb.specs.Grammar.{Grammar, Items, Mapped, state_after, ◌>>=◌}
use Rattle.ctw_leb.specs.Reading.{Exact, Whole, items, then_all, mapped}
use Rattle.ctw_leb.proofs.Exact.{ok_is, err_ok, chain_ok, chosen}
use Rattle.ctw_leb.proofs.Combinators.{whole_items, whole_then, whole_mapped}
use Rattle.ctw_leb.proofs.Loops.{read_sum}
use Rattle.ctw_form.specs.declared.fault.FormKind.{FormKind}
use Rattle.ctw_form.specs.declared.fault.FormKind.TheVariants.{BadMagic, BadVersion, Truncated, CountMismatch, TooMany}
use Rattle.ctw_form.specs.declared.fault.FormFault.{FormFault}
use Rattle.ctw_ops.specs.Limits.{most_plain_bytes}
use Rattle.ctw_form.specs.Sections.{Section, nothing_seen, seen_after}
use Rattle.ctw_form.specs.Spelled.{IsSection, magic, version, IsVersion, IsMagic, File, file_of, IsFile, IsFinished, module_in, Spells}
use Rattle.ctw_form.specs.Read.{fault, section_at, version_of, versioned, header_at, is_small, sections_at, finished, file_at, module_at}
use Rattle.ctw_form.proofs.SectionForms.{exact_section, section_filled}

-- ---- the header

abbrev pub IsHeader : Grammar Bool
IsHeader = IsMagic >>= λ u. IsVersion

same_bytes : (a b : List ℕ) → bytes_eq a b ≡ true → a ≡ b
same_bytes a b e = (bytes_eq-Decides a b).0 e

version_ok : (bytes : List ℕ) (ct : Bool) → version_of bytes ≡ Ok ct → bytes ≡ version ct
version_ok bytes ct e =
    elim (chosen (bytes_eq bytes (version false)) (Ok false) (cond (bytes_eq bytes (version true)) (Ok true) (Err BadVersion)) (Ok ct) e) [
      | inl p ↦ same_bytes bytes (version false) p.0 ∙ ap version (ok_is {F = FormKind} false ct p.1)
      | inr p ↦ elim (chosen (bytes_eq bytes (version true)) (Ok true) (Err BadVersion) (Ok ct) p.1) [
        | inl q ↦ same_bytes bytes (version true) q.0 ∙ ap version (ok_is {F = FormKind} true ct q.1)
        | inr q ↦ absurd (err_ok BadVersion ct q.1)
      ]
    ]

versioned_ok : (i : Input) (r : Result Bool FormKind) (ct : Bool) (o : Input) → versioned i r ≡ Ok (ct, o) → (r ≡ Ok ct) × (record { at = i.at + 8; rest = drop 8 i.rest } ≡ o)
versioned_ok i (Ok c) ct o e =
    let made : Input = record { at = i.at + 8; rest = drop 8 i.rest } in
    let q : (c, made) ≡ (ct, o) = ok_is {F = FormFault} (c, made) (ct, o) e in
    (ap (λ (z : Bool × Input). Ok z.0) q, ap (λ (z : Bool × Input). z.1) q)
versioned_ok i (Err kind) ct o e = absurd (err_ok (fault kind (i.at + 4)) (ct, o) e)

header_read : (i : Input) (ct : Bool) (o : Input) → header_at i ≡ Ok (ct, o) → (take 4 i.rest ≡ magic) × (take 4 (drop 4 i.rest) ≡ version ct) × (record { at = i.at + 8; rest = drop 8 i.rest } ≡ o)
unfolding header_at
header_read i ct o e =
    elim (chosen (leb 8 (length i.rest)) (cond (bytes_eq (take 4 i.rest) magic) (versioned i (version_of (take 4 (drop 4 i.rest)))) (Err (fault BadMagic i.at))) (Err (fault Truncated (i.at + length i.rest))) (Ok (ct, o)) e) [
      | inl p ↦ elim (chosen (bytes_eq (take 4 i.rest) magic) (versioned i (version_of (take 4 (drop 4 i.rest)))) (Err (fault BadMagic i.at)) (Ok (ct, o)) p.1) [
        | inl q ↦
            let v = versioned_ok i (version_of (take 4 (drop 4 i.rest))) ct o q.1 in
            (same_bytes (take 4 i.rest) magic q.0, version_ok (take 4 (drop 4 i.rest)) ct v.0, v.1)
        | inr q ↦ absurd (err_ok (fault BadMagic i.at) (ct, o) q.1)
      ]
      | inr p ↦ absurd (err_ok (fault Truncated (i.at + length i.rest)) (ct, o) p.1)
    ]

version_size : (ct : Bool) → length (version ct) ≡ 4
version_size false = refl
version_size true = refl

header_complete : (ct : Bool) (rest : List ℕ) (at : ℕ) → header_at (record { at = at; rest = (magic ++ version ct) ++ rest }) ≡ Ok (ct, record { at = at + 8; rest = rest })
unfolding header_at
header_complete false rest at =
    let le : leb 8 (length ((magic ++ version false) ++ rest)) ≡ true = le-leb 8 _ (omega (arith, length-append (magic ++ version false) rest)) in
    rw le refl
header_complete true rest at =
    let le : leb 8 (length ((magic ++ version true) ++ rest)) ≡ true = le-leb 8 _ (omega (arith, length-append (magic ++ version true) rest)) in
    rw le refl

pub exact_header : Exact IsHeader header_at
exact_header = record {
  sound = λ i ct o e.
      let h = header_read i ct o e in
      let last : drop 4 (drop 4 i.rest) ≡ o.rest = drop-drop 4 4 i.rest ∙ ap (λ (p : Input). p.rest) h.2 in
      let behind_magic : drop 4 i.rest ≡ version ct ++ o.rest = sym (take-append-drop 4 (drop 4 i.rest)) ∙ ap (λ (l : List ℕ). l ++ drop 4 (drop 4 i.rest)) h.1 ∙ ap (λ (l : List ℕ). version ct ++ l) last in
      let whole : i.rest ≡ magic ++ (version ct ++ o.rest) = sym (take-append-drop 4 i.rest) ∙ ap (λ (l : List ℕ). l ++ drop 4 i.rest) h.0 ∙ ap (λ (l : List ℕ). magic ++ l) behind_magic in
      let size : length (magic ++ version ct) ≡ 8 = omega (arith, length-append magic (version ct), version_size ct) in
      (magic ++ version ct, (tt, magic, version ct, refl, refl, refl), whole ∙ sym (append_assoc magic (version ct) o.rest), ap (λ (p : Input). p.at) (sym h.2) ∙ ap (λ (n : ℕ). i.at + n) (sym size));
  complete = λ text rest at ct m.
      let whole : text ≡ magic ++ version ct = m.5 ∙ ap (λ (l : List ℕ). l ++ m.2) m.3 ∙ ap (λ (l : List ℕ). magic ++ l) m.4 in
      let size : length (magic ++ version ct) ≡ 8 = omega (arith, length-append magic (version ct), version_size ct) in
      let here : header_at (record { at = at; rest = (magic ++ version ct) ++ rest }) ≡ Ok (ct, behind at (magic ++ version ct) rest) = header_complete ct rest at ∙ ap (λ (n : ℕ). Ok (ct, record { at = at + n; rest = rest })) (sym size) in
      subst (λ (l : List ℕ). header_at (record { at = at; rest = l ++ rest }) ≡ Ok (ct, behind at l rest)) (sym whole) here;
}

pub header_sum : (i o : Input) (ct : Bool) → header_at i ≡ Ok (ct, o) → o.at + length o.rest ≡ i.at + length i.rest
header_sum i o ct e = read_sum IsHeader header_at exact_header i ct o e

-- ---- the sections

-- the sections of a file of so many bytes
abbrev pub FileSections : ℕ → Bool → Grammar (List Section)
FileSections size ct text sections = Items (IsSection ct) seen_after nothing_seen text sections × (is_small ct size ≡ true)

pub whole_section_items : (ct : Bool) → Whole (Items (IsSection ct) seen_after nothing_seen) (items (section_at ct) seen_after nothing_seen)
whole_section_items ct = whole_items (IsSection ct) (section_at ct) seen_after (exact_section ct) (section_filled ct) nothing_seen

pub whole_sections : (size : ℕ) (ct : Bool) → Whole (FileSections size ct) (sections_at size ct)
unfolding sections_at
whole_sections size ct = record {
  sound = λ i sections e.
      elim (chosen (is_small ct size) (items (section_at ct) seen_after nothing_seen i) (Err (fault (TooMany what.Bytes most_plain_bytes) 0)) (Ok sections) e) [
        | inl p ↦ ((whole_section_items ct).sound i sections p.1, p.0)
        | inr p ↦ absurd (err_ok (fault (TooMany what.Bytes most_plain_bytes) 0) sections p.1)
      ];
  complete = λ i sections m. rw m.1 ((whole_section_items ct).complete i sections m.0);
}

-- a file of so many bytes
abbrev pub SizedFile : ℕ → Grammar File
SizedFile size = IsHeader >>= λ ct. Mapped (file_of ct) (FileSections size ct)

whole_file : (size : ℕ) → Whole (SizedFile size) (then_all header_at (λ ct. mapped (file_of ct) (sections_at size ct)))
whole_file size =
    whole_then IsHeader (λ ct. Mapped (file_of ct) (FileSections size ct)) header_at (λ ct. mapped (file_of ct) (sections_at size ct)) exact_header
    (λ ct. whole_mapped (file_of ct) (FileSections size ct) (sections_at size ct) (whole_sections size ct))

-- ---- files

small_is : (ct : Bool) (size : ℕ) → is_small ct size ≡ true → ct ≡ false → size ≤ most_plain_bytes
small_is true size e f = absurd cc
small_is false size e f = leb-true size most_plain_bytes e

is_small_from : (ct : Bool) (size : ℕ) → (ct ≡ false → size ≤ most_plain_bytes) → is_small ct size ≡ true
is_small_from true size h = refl
is_small_from false size h = le-leb size most_plain_bytes (h refl)

sized_is : (size : ℕ) (bytes : List ℕ) (file : File) → SizedFile size bytes file → IsFile bytes file × (file.ct ≡ false → size ≤ most_plain_bytes)
sized_is size bytes file m =
    let header = m.3 in
    let body = m.4 in
    let regrouped : bytes ≡ header.1 ++ (header.2 ++ m.2) = m.5 ∙ ap (λ (l : List ℕ). l ++ m.2) header.5 ∙ append_assoc header.1 header.2 m.2 in
    let same : m.0 ≡ file.ct = ap (λ (f : File). f.ct) body.2 in (
      (tt, header.1, header.2 ++ m.2, header.3, (m.0, header.2, m.2, header.4, (body.0, body.1.0, body.2), refl), regrouped),
      λ plain. small_is m.0 size body.1.1 (same ∙ plain),
    )

is_sized : (size : ℕ) (bytes : List ℕ) (file : File) → IsFile bytes file → (file.ct ≡ false → size ≤ most_plain_bytes) → SizedFile size bytes file
is_sized size bytes file m small =
    let inner = m.4 in
    let body = inner.4 in
    let regrouped : bytes ≡ (m.1 ++ inner.1) ++ inner.2 = m.5 ∙ ap (λ (l : List ℕ). m.1 ++ l) inner.5 ∙ sym (append_assoc m.1 inner.1 inner.2) in
    let same : inner.0 ≡ file.ct = ap (λ (f : File). f.ct) body.2 in
    let fits : is_small inner.0 size ≡ true = is_small_from inner.0 size (λ plain. small (sym same ∙ plain)) in
    (inner.0, m.1 ++ inner.1, inner.2, (tt, m.1, inner.1, m.3, inner.3, refl), (body.0, (body.1, fits), body.2), regrouped)

finished_ok : (size : ℕ) (f file : File) → finished size f ≡ Ok file → IsFinished f × (f ≡ file)
finished_ok size f file e =
    elim (chosen ((state_after seen_after nothing_seen f.sections).owed == 0) (Ok f) (Err (fault CountMismatch size)) (Ok file) e) [
      | inl p ↦ (eqb-true (state_after seen_after nothing_seen f.sections).owed 0 p.0, ok_is {F = FormFault} f file p.1)
      | inr p ↦ absurd (err_ok (fault CountMismatch size) file p.1)
    ]

abbrev start : List ℕ → Input
start bytes = record { at = 0; rest = bytes }

-- what the reader of files answers exactly
pub record FinishedFile (bytes : List ℕ) (file : File) : Type 0 where
  pub spelled : IsFile bytes file
  pub finished : IsFinished file
  pub small : file.ct ≡ false → length bytes ≤ most_plain_bytes

pub file_sound : (bytes : List ℕ) (file : File) → file_at bytes ≡ Ok file → FinishedFile bytes file
unfolding file_at
file_sound bytes file e =
    let size = length bytes in
    let c = chain_ok (then_all header_at (λ ct. mapped (file_of ct) (sections_at size ct)) (start bytes)) (finished size) file e in
    let f = finished_ok size c.0 file c.2 in
    let s = sized_is size bytes c.0 ((whole_file size).sound (start bytes) c.0 c.1) in
    subst (λ (g : File). FinishedFile bytes g) f.1 (record { spelled = s.0; finished = f.0; small = s.1 })

pub file_complete : (bytes : List ℕ) (file : File) → FinishedFile bytes file → file_at bytes ≡ Ok file
unfolding file_at
file_complete bytes file h =
    let size = length bytes in
    let read = (whole_file size).complete (start bytes) file (is_sized size bytes file h.spelled h.small) in
    rw (read, eq-eqb (state_after seen_after nothing_seen file.sections).owed 0 h.finished) refl

pub file_is : (bytes : List ℕ) (file : File) → (file_at bytes ≡ Ok file) ↔ (IsFile bytes file × IsFinished file × (file.ct ≡ false → length bytes ≤ most_plain_bytes))
file_is bytes file = (
  λ e.
      let h = file_sound bytes file e in
      (h.spelled, h.finished, h.small),
  λ m. file_complete bytes file (record { spelled = m.0; finished = m.1; small = m.2 }),
)

-- ---- modules

pub module_sound : (bytes : List ℕ) (m : Module Label) → module_at bytes ≡ Ok m → Spells bytes m
unfolding module_at
module_sound bytes m e =
    let c = chain_ok (file_at bytes) (λ file. Ok (module_in file)) m e in
    let h = file_sound bytes c.0 c.1 in
    record { file = c.0; spelled = h.spelled; finished = h.finished; small = h.small; made = ok_is {F = FormFault} (module_in c.0) m c.2 }

pub spelled_file : (bytes : List ℕ) (m : Module Label) (s : Spells bytes m) → file_at bytes ≡ Ok s.file
spelled_file bytes m s = file_complete bytes s.file (record { spelled = s.spelled; finished = s.finished; small = s.small })

pub module_complete : (bytes : List ℕ) (m : Module Label) → Spells bytes m → module_at bytes ≡ Ok m
unfolding module_at
module_complete bytes m s = rw (spelled_file bytes m s, s.made) refl

pub module_is : (bytes : List ℕ) (m : Module Label) → (module_at bytes ≡ Ok m) ↔ Spells bytes m
module_is bytes m = (module_sound bytes m, module_complete bytes m)

-- bytes spell at most one module
pub one_module : (bytes : List ℕ) (m n : Module Label) → Spells bytes m → Spells bytes n → m ≡ n
one_module bytes m n s t = ok_is {F = FormFault} m n (sym (module_complete bytes m s) ∙ module_complete bytes n t)
