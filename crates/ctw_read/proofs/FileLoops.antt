-- The sections of a file.
use Rattle.std.proofs.Common.{◌≡◌, ℕ, ◌<◌, Bool, true, false, cond, List, length, Result, Ok, Err, refl, sym, subst}
use Rattle.std.specs.Prelude.{nat_le}
use Rattle.ctw_leb.specs.Input.{Input}
use Rattle.ctw_leb.specs.Grammar.{state_after}
use Rattle.ctw_leb.specs.Reading.{Reader, chain, ends, items}
use Rattle.ctw_leb.proofs.Loops.{LeftItems, left_items, left_items_next, left_items_fault, left_items_end}
use Rattle.ctw_form.specs.declared.fault.FormKind.TheVariants.{SizeMismatch}
use Rattle.ctw_form.specs.declared.fault.FormFault.{FormFault}
use Rattle.ctw_form.specs.declared.table.SectionKind.TheVariants as kind
use Rattle.ctw_form.specs.declared.sections.Seen.{Seen}
use Rattle.ctw_form.specs.Sections.{Section, CustomSection, nothing_seen, seen_after}
use Rattle.ctw_form.specs.Spelled.{IsSection}
use Rattle.ctw_form.specs.Read.{fault, name_at, only_at, insides_at, section_at}
use Rattle.ctw_form.proofs.SectionForms.{exact_section, section_filled}
use Rattle.ctw_read.specs.declared.fault.ReadFault.{ReadFault}
use Rattle.ctw_read.specs.declared.fault.ReadFault.TheVariants.{Bad, NoMemory}
use Rattle.ctw_read.specs.Calls.{FailsWith}

abbrev pub all_sections : Bool → Input → Result (List Section) FormFault
all_sections ct start = items (section_at ct) seen_after nothing_seen start

-- no fault so far, and so much was seen
abbrev pub Going : Bool → Input → Seen → Input → Type 0
Going ct start seen now = LeftItems (section_at ct) seen_after (all_sections ct start) nothing_seen seen now

pub sections_begin : (ct : Bool) (start : Input) → Going ct start nothing_seen start
sections_begin ct start = left_items (section_at ct) seen_after nothing_seen start

pub sections_go : (ct : Bool) (start : Input) (seen next : Seen) (i o : Input) (section : Section) → Going ct start seen i → section_at ct seen i ≡ Ok (section, o) → next ≡ seen_after seen section → Going ct start next o
sections_go ct start seen next i o section h e is =
    subst (λ (n : Seen). Going ct start n o) (sym is) (left_items_next (IsSection ct) (section_at ct) seen_after (exact_section ct) (section_filled ct) (all_sections ct start) nothing_seen seen i o section h e)

pub sections_fail : (ct : Bool) (start : Input) (seen : Seen) (i : Input) (e : ReadFault) → 0 < length i.rest → Going ct start seen i → FailsWith e (section_at ct seen i) → FailsWith e (all_sections ct start)
sections_fail ct start seen i NoMemory some h f = tt
sections_fail ct start seen i (Bad kind place) some h f = left_items_fault (section_at ct) seen_after (all_sections ct start) nothing_seen seen i (fault kind place) some h f

pub sections_done : (ct : Bool) (start : Input) (seen : Seen) (i : Input) → length i.rest ≡ 0 → Going ct start seen i → (sections : List Section) × (all_sections ct start ≡ Ok sections) × (seen ≡ state_after seen_after nothing_seen sections)
sections_done ct start seen i none h =
    let d = left_items_end (section_at ct) seen_after (all_sections ct start) nothing_seen seen i none h in
    (d.0, d.1, sym d.2)

-- ---- the items of one section

abbrev as_section : {A : Type 0} → (A → Section) → A → Result Section FormFault
as_section section a = Ok (section a)

pub only_read : {A : Type 0} (section : A → Section) (r : Reader A FormFault) (i o : Input) (a : A) → r i ≡ Ok (a, o) → only_at section r i ≡ ends (fault SizeMismatch) (section a, o)
only_read {A} section r i o a e = rw e (go (nat_le (length o.rest) 0))
  where
    go : (b : Bool) → chain (cond b (Ok a) (Err (fault SizeMismatch o.at))) (as_section section) ≡ cond b (Ok (section a)) (Err (fault SizeMismatch o.at))
    go true = refl
    go false = refl

pub custom_read : (ct : Bool) (seen : Seen) (i mid o : Input) (name : List ℕ) → name_at i ≡ Ok (name, mid) → length o.rest ≡ 0 → insides_at ct seen kind.Custom i ≡ ends (fault SizeMismatch) (CustomSection name mid.rest, o)
unfolding insides_at
custom_read ct seen i mid o name e none = rw (e, none) refl
