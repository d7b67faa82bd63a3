-- What sections that are spelled bring: as many code entries as uses, each with the code of its body.
use Rattle.std.proofs.Common.{◌≡◌, ℕ, zero, suc, ◌+◌, ◌<◌, Bool, true, false, cond, List, [], ◌∷◌, length, Result, Ok, Err, refl, sym, ap, subst, ◌∙◌, arith}
use Rattle.std.specs.Prelude.{◌==◌, nat_lt}
use Rattle.std.specs.List.{All}
use Rattle.std.proofs.lemmas.Bool.{ltb-true, eqb-true}
use Rattle.std.proofs.lemmas.List.Elements.{All-nil, All-cons}
use Rattle.ctw_ops.specs.declared.types.Label.{Label}
use Rattle.ctw_ops.specs.Tree.{Module}
use Rattle.ctw_leb.specs.Grammar.{Grammar, Items, TimesFrom, state_after}
use Rattle.ctw_leb.specs.Vectors.{Vector}
use Rattle.ctw_form.specs.declared.fault.FormKind.{FormKind}
use Rattle.ctw_form.specs.declared.fault.FormKind.TheVariants.{BadSection}
use Rattle.ctw_form.specs.declared.table.SectionKind.{SectionKind}
use Rattle.ctw_form.specs.declared.table.SectionKind.TheVariants.{Custom, Types, Imports, Functions, Tables, Memories, Globals, Exports, Start, Elements, Codes, Segments}
use Rattle.ctw_form.specs.declared.sections.Seen.{Seen}
use Rattle.ctw_form.specs.Tables.{rising, section_kind}
use Rattle.ctw_form.specs.Sections.{Entry, Section, Parts, FunctionSection, CodeSection, nothing_seen, seen_after, no_parts, with_section}
use Rattle.ctw_form.specs.Spelled.{VectorUpto, IsFormBody, IsEntry, all_after, IsCodes, Insides, IsSection, File, IsFile, Spells}

-- ---- lists that are spelled

-- what holds of each item that is spelled, in any state
pub all_times : {S A : Type 0} (G : S → Grammar A) (next : S → A → S) (P : A → Type 0) → ((s : S) (text : List ℕ) (a : A) → G s text a → P a)
    → (n : ℕ) (s : S) (text : List ℕ) (l : List A) → TimesFrom G next n s text l → All P l
all_times {S} {A} G next P each zero s text l m = subst (λ (k : List A). All P k) m.1 (All-nil P)
all_times {S} {A} G next P each (suc n) s text l m =
    let others = m.4 in
    let below = all_times G next P each n (next s m.0) others.1 others.0 others.3 in
    subst (λ (k : List A). All P k) others.4.1 (All-cons P m.0 others.0 (each s m.1 m.0 m.3) below)

pub all_vector : {A : Type 0} (G : Grammar A) (P : A → Type 0) → ((text : List ℕ) (a : A) → G text a → P a) → (text : List ℕ) (l : List A) → Vector G text l → All P l
all_vector G P each text l m = all_times (λ u. G) _ P (λ u. each) m.0 tt m.2 l m.4

pub all_vector_upto : {A : Type 0} (limit : ℕ) (G : Grammar A) (P : A → Type 0) → ((text : List ℕ) (a : A) → G text a → P a) → (text : List ℕ) (l : List A) → VectorUpto limit G text l → All P l
all_vector_upto limit G P each text l m = all_times (λ u. G) _ P (λ u. each) m.0 tt m.2 l m.4

pub times_count : {S A : Type 0} (G : S → Grammar A) (next : S → A → S) (n : ℕ) (s : S) (text : List ℕ) (l : List A) → TimesFrom G next n s text l → length l ≡ n
times_count G next zero s text l m = ap length (sym m.1)
times_count G next (suc n) s text l m =
    let others = m.4 in
    ap length (sym others.4.1) ∙ ap suc (times_count G next n (next s m.0) others.1 others.0 others.3)

-- ---- sections one after another

-- what each section keeps holds behind them all
pub parts_kept : (ct : Bool) (P : Seen → Parts → Type 0)
    → ((seen : Seen) (p : Parts) (text : List ℕ) (section : Section) → IsSection ct seen text section → P seen p → P (seen_after seen section) (with_section p section))
    → (seen : Seen) (p : Parts) (text : List ℕ) (sections : List Section) → Items (IsSection ct) seen_after seen text sections → P seen p → P (state_after seen_after seen sections) (state_after with_section p sections)
parts_kept ct P each seen p text [] m h = h
parts_kept ct P each seen p text (section ∷ sections) m h =
    parts_kept ct P each (seen_after seen section) (with_section p section) m.1 sections m.3 (each seen p m.0 section m.2 h)

-- the id of a section rises above those before it
abbrev Risen : ℕ → SectionKind → Type 0
Risen last Custom = Unit {0}
Risen last Types = last < 1
Risen last Imports = last < 2
Risen last Functions = last < 3
Risen last Tables = last < 4
Risen last Memories = last < 5
Risen last Globals = last < 6
Risen last Exports = last < 7
Risen last Start = last < 8
Risen last Elements = last < 9
Risen last Codes = last < 10
Risen last Segments = last < 11

abbrev RisenKind : ℕ → Result SectionKind FormKind → Type 0
RisenKind last (Ok kind) = Risen last kind
RisenKind last (Err fault) = Unit {0}

record Rises (last : ℕ) (r : Result SectionKind FormKind) : Type 0 where
  kept : RisenKind last r

row : (last : ℕ) (test : Bool) (a b : Result SectionKind FormKind) → Rises last a → Rises last b → Rises last (cond test a b)
row last true a b p q = p
row last false a b p q = q

rises : (last id : ℕ) (kind : SectionKind) → (last < id → Risen last kind) → Rises last (rising last id kind)
rises last id kind h = go (nat_lt last id) refl
  where
    go : (b : Bool) → nat_lt last id ≡ b → Rises last (cond b (Ok kind) (Err BadSection))
    go true e = record { kept = h (ltb-true last id e) }
    go false e = record { kept = tt }

anywhere : (last : ℕ) → Rises last (Ok Custom)
anywhere last = record { kept = tt }

nowhere : (last : ℕ) (kind : FormKind) → Rises last (Err kind)
nowhere last kind = record { kept = tt }

section_rises : (last id : ℕ) → Rises last (section_kind last id)
unfolding section_kind
section_rises last id =
    row last (id == 0) (Ok Custom) _ (anywhere last)
    (row last (id == 1) _ _ (rises last 1 Types (λ e. e))
    (row last (id == 2) _ _ (rises last 2 Imports (λ e. e))
    (row last (id == 3) _ _ (rises last 3 Functions (λ e. e))
    (row last (id == 4) _ _ (rises last 4 Tables (λ e. e))
    (row last (id == 5) _ _ (rises last 5 Memories (λ e. e))
    (row last (id == 6) _ _ (rises last 6 Globals (λ e. e))
    (row last (id == 7) _ _ (rises last 7 Exports (λ e. e))
    (row last (id == 8) _ _ (rises last 8 Start (λ e. e))
    (row last (id == 9) _ _ (rises last 9 Elements (λ e. e))
    (row last (id == 10) _ _ (rises last 10 Codes (λ e. e))
    (row last (id == 11) _ _ (rises last 11 Segments (λ e. e)) (nowhere last BadSection))))))))))))

kind_rises : (last id : ℕ) (kind : SectionKind) → section_kind last id ≡ Ok kind → Risen last kind
kind_rises last id kind e = (subst (Rises last) e (section_rises last id)).kept

-- ---- code entries

abbrev pub IsSpelledEntry : Bool → Entry → Type 0
IsSpelledEntry ct e = IsFormBody ct e.code e.body

entry_spelled : (ct : Bool) (all : ℕ) (text : List ℕ) (e : Entry) → IsEntry ct all text e → IsSpelledEntry ct e
entry_spelled ct all text e m =
    let insides = m.4.1 in
    let code = insides.4 in
    let spelled : IsFormBody ct code.0.0 code.0.1 = subst (λ (l : List ℕ). IsFormBody ct l code.0.1) code.1.0 code.1.1 in
    subst (λ (x : Entry). IsFormBody ct x.code x.body) code.2 spelled

codes_spelled : (ct : Bool) (owed : ℕ) (text : List ℕ) (entries : List Entry) → IsCodes ct owed text entries → All (IsSpelledEntry ct) entries × (length entries ≡ owed)
codes_spelled ct owed text entries m = (
  all_times (IsEntry ct) all_after (IsSpelledEntry ct) (entry_spelled ct) m.0 0 m.2 entries m.4,
  times_count (IsEntry ct) all_after m.0 0 m.2 entries m.4 ∙ eqb-true m.0 owed m.3.1,
)

-- what holds of uses and code entries behind any sections
record Steady (ct : Bool) (seen : Seen) (p : Parts) : Type 0 where
  no_uses : seen.last < 3 → p.uses ≡ []
  no_entries : seen.last < 10 → p.entries ≡ []
  counted : length p.uses ≡ length p.entries + seen.owed
  spelled : All (IsSpelledEntry ct) p.entries

-- a section that brings neither uses nor code
steady_other : (ct : Bool) (seen next : Seen) (p q : Parts) → (seen.last < next.last) → next.owed ≡ seen.owed → q.uses ≡ p.uses → q.entries ≡ p.entries → Steady ct seen p → Steady ct next q
steady_other ct seen next p q rise owed uses entries h = record {
  no_uses = λ lt. uses ∙ h.no_uses (omega arith);
  no_entries = λ lt. entries ∙ h.no_entries (omega arith);
  counted = omega (arith, h.counted, owed, ap length uses, ap length entries);
  spelled = subst (λ (l : List Entry). All (IsSpelledEntry ct) l) (sym entries) h.spelled;
}

steady_uses : (ct : Bool) (seen : Seen) (p : Parts) (uses : List ℕ) → seen.last < 3 → Steady ct seen p → Steady ct (seen_after seen (FunctionSection uses)) (with_section p (FunctionSection uses))
steady_uses ct seen p uses rise h =
    let none : p.entries ≡ [] = h.no_entries (omega arith) in record {
      no_uses = λ lt. absurd (omega (arith, lt));
      no_entries = λ lt. none;
      counted = omega (arith, ap length none);
      spelled = h.spelled;
    }

steady_codes : (ct : Bool) (seen : Seen) (p : Parts) (entries : List Entry) → seen.last < 10 → All (IsSpelledEntry ct) entries × (length entries ≡ seen.owed) → Steady ct seen p
    → Steady ct (seen_after seen (CodeSection entries)) (with_section p (CodeSection entries))
steady_codes ct seen p entries rise e h =
    let none : p.entries ≡ [] = h.no_entries rise in record {
      no_uses = λ lt. absurd (omega (arith, lt));
      no_entries = λ lt. absurd (omega (arith, lt));
      counted = omega (arith, h.counted, ap length none, e.1);
      spelled = e.0;
    }

abbrev SteadyBehind : Bool → Seen → Parts → Section → Type 0
SteadyBehind ct seen p section = Steady ct (seen_after seen section) (with_section p section)

steady_insides : (ct : Bool) (seen : Seen) (p : Parts) (kind : SectionKind) (text : List ℕ) (section : Section) → Risen seen.last kind → Insides ct seen kind text section → Steady ct seen p → SteadyBehind ct seen p section
steady_insides ct seen p Custom text section rise m h = subst (SteadyBehind ct seen p) m.4.2 (record { no_uses = h.no_uses; no_entries = h.no_entries; counted = h.counted; spelled = h.spelled })
steady_insides ct seen p Types text section rise m h = subst (SteadyBehind ct seen p) m.2 (steady_other ct seen _ p _ rise refl refl refl h)
steady_insides ct seen p Imports text section rise m h = subst (SteadyBehind ct seen p) m.2 (steady_other ct seen _ p _ rise refl refl refl h)
steady_insides ct seen p Functions text section rise m h = subst (SteadyBehind ct seen p) m.2 (steady_uses ct seen p m.0 rise h)
steady_insides ct seen p Tables text section rise m h = subst (SteadyBehind ct seen p) m.2 (steady_other ct seen _ p _ rise refl refl refl h)
steady_insides ct seen p Memories text section rise m h = subst (SteadyBehind ct seen p) m.2 (steady_other ct seen _ p _ rise refl refl refl h)
steady_insides ct seen p Globals text section rise m h = subst (SteadyBehind ct seen p) m.2 (steady_other ct seen _ p _ rise refl refl refl h)
steady_insides ct seen p Exports text section rise m h = subst (SteadyBehind ct seen p) m.2 (steady_other ct seen _ p _ rise refl refl refl h)
steady_insides ct seen p Start text section rise m h = subst (SteadyBehind ct seen p) m.2 (steady_other ct seen _ p _ rise refl refl refl h)
steady_insides ct seen p Elements text section rise m h = subst (SteadyBehind ct seen p) m.2 (steady_other ct seen _ p _ rise refl refl refl h)
steady_insides ct seen p Codes text section rise m h = subst (SteadyBehind ct seen p) m.2 (steady_codes ct seen p m.0 rise (codes_spelled ct seen.owed text m.0 m.1) h)
steady_insides ct seen p Segments text section rise m h = subst (SteadyBehind ct seen p) m.2 (steady_other ct seen _ p _ rise refl refl refl h)

steady_section : (ct : Bool) (seen : Seen) (p : Parts) (text : List ℕ) (section : Section) → IsSection ct seen text section → Steady ct seen p → SteadyBehind ct seen p section
steady_section ct seen p text section m h =
    steady_insides ct seen p m.0 m.4.2 section (kind_rises seen.last m.3.0 m.0 m.3.2) m.4.4.1 h

steady_file : (bytes : List ℕ) (file : File) → IsFile bytes file → Steady file.ct (state_after seen_after nothing_seen file.sections) (state_after with_section no_parts file.sections)
steady_file bytes file m =
    let inner = m.4.4 in
    let begun : Steady m.4.0 nothing_seen no_parts = record { no_uses = λ lt. refl; no_entries = λ lt. refl; counted = refl; spelled = All-nil (IsSpelledEntry m.4.0) } in
    let all = parts_kept m.4.0 (Steady m.4.0) (steady_section m.4.0) nothing_seen no_parts m.4.2 inner.0 inner.1 begun in
    subst (λ (f : File). Steady f.ct (state_after seen_after nothing_seen f.sections) (state_after with_section no_parts f.sections)) inner.2 all

-- as many code entries as uses, each with the code of its body
pub record Filled (ct : Bool) (p : Parts) : Type 0 where
  pub counted : length p.entries ≡ length p.uses
  pub spelled : All (IsSpelledEntry ct) p.entries

pub file_filled : (bytes : List ℕ) (m : Module Label) (s : Spells bytes m) → Filled m.ct (state_after with_section no_parts s.file.sections)
file_filled bytes m s =
    let h = steady_file bytes s.file s.spelled in
    let same : s.file.ct ≡ m.ct = ap (λ (n : Module Label). n.ct) s.made in record {
      counted = omega (arith, h.counted, s.finished);
      spelled = subst (λ (ct : Bool). All (IsSpelledEntry ct) (state_after with_section no_parts s.file.sections).entries) same h.spelled;
    }
