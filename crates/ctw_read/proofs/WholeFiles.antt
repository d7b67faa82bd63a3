-- What the reader of files answers behind the header and the sections.
use Rattle.std.proofs.Common.{◌≡◌, ℕ, ◌≤◌, ◌<◌, Bool, true, false, List, length, Ok, Err, refl, sym, ap, ◌∙◌, arith}
use Rattle.std.proofs.lemmas.Bool.{eq-eqb, ne_eqb}
use Rattle.ctw_ops.specs.declared.fault.What.TheVariants.{Bytes}
use Rattle.ctw_leb.specs.Input.{Input}
use Rattle.ctw_leb.specs.Grammar.{state_after}
use Rattle.ctw_form.specs.declared.fault.FormKind.TheVariants.{TooMany, CountMismatch}
use Rattle.ctw_form.specs.declared.fault.FormFault.{FormFault}
use Rattle.ctw_form.specs.declared.sections.Seen.{Seen}
use Rattle.ctw_ops.specs.Limits.{most_plain_bytes}
use Rattle.ctw_form.specs.Sections.{Section, nothing_seen, seen_after}
use Rattle.ctw_form.specs.Spelled.{File, file_of}
use Rattle.ctw_form.specs.Read.{fault, header_at, is_small, sections_at, file_at}
use Rattle.ctw_read.specs.declared.fault.ReadFault.{ReadFault}
use Rattle.ctw_read.specs.declared.fault.ReadFault.TheVariants.{Bad, NoMemory}
use Rattle.ctw_read.specs.Calls.{FailsWith}
use Rattle.ctw_read.proofs.FileLoops.{all_sections}

abbrev pub start : List ℕ → Input
start bytes = record { at = 0; rest = bytes }

pub input_is : (i : Input) (bytes : List ℕ) → i.at ≡ 0 → i.rest ≡ bytes → i ≡ start bytes
input_is i bytes a r = ap (λ (n : ℕ). record { at = n; rest = i.rest }) a ∙ ap (λ (l : List ℕ). record { at = 0; rest = l }) r

pub file_header : (bytes : List ℕ) (f : FormFault) → header_at (start bytes) ≡ Err f → file_at bytes ≡ Err f
unfolding file_at
file_header bytes f e = rw e refl

pub file_big : (bytes : List ℕ) (ct : Bool) (mid : Input) → header_at (start bytes) ≡ Ok (ct, mid) → is_small ct (length bytes) ≡ false → file_at bytes ≡ Err (fault (TooMany Bytes most_plain_bytes) 0)
unfolding file_at sections_at
file_big bytes ct mid e big = rw (e, big) refl

pub file_fails : (bytes : List ℕ) (ct : Bool) (mid : Input) (e : ReadFault) → header_at (start bytes) ≡ Ok (ct, mid) → is_small ct (length bytes) ≡ true → FailsWith e (all_sections ct mid) → FailsWith e (file_at bytes)
unfolding file_at sections_at
file_fails bytes ct mid NoMemory h small f = tt
file_fails bytes ct mid (Bad kind place) h small f = rw (h, small, f) refl

-- the sections were read, and so much was seen
pub record Sectioned (bytes : List ℕ) (ct : Bool) (mid : Input) (behind : Seen) (sections : List Section) : Type 0 where
  pub header : header_at (start bytes) ≡ Ok (ct, mid)
  pub small : is_small ct (length bytes) ≡ true
  pub read : all_sections ct mid ≡ Ok sections
  pub seen : behind ≡ state_after seen_after nothing_seen sections

pub file_open : (bytes : List ℕ) (ct : Bool) (mid : Input) (seen : Seen) (sections : List Section) → Sectioned bytes ct mid seen sections → 0 < seen.owed → file_at bytes ≡ Err (fault CountMismatch (length bytes))
unfolding file_at sections_at
file_open bytes ct mid seen sections h some =
    let owed : (state_after seen_after nothing_seen sections).owed ≡ seen.owed = ap (λ (s : Seen). s.owed) (sym h.seen) in
    rw (h.header, h.small, h.read, ne_eqb (state_after seen_after nothing_seen sections).owed 0 (λ none. absurd (omega (arith, none, owed, some)))) refl

pub file_done : (bytes : List ℕ) (ct : Bool) (mid : Input) (seen : Seen) (sections : List Section) → Sectioned bytes ct mid seen sections → seen.owed ≤ 0 → (file : File) × (file_at bytes ≡ Ok file) × Unit {0}
unfolding file_at sections_at
file_done bytes ct mid seen sections h none =
    let owed : (state_after seen_after nothing_seen sections).owed ≡ 0 = ap (λ (s : Seen). s.owed) (sym h.seen) ∙ omega (arith, none) in
    (file_of ct sections, rw (h.header, h.small, h.read, eq-eqb (state_after seen_after nothing_seen sections).owed 0 owed) refl, tt)
