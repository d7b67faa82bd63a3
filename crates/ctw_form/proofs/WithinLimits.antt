-- The modules of files are within the limits on parameters and locals, and their data segments have bytes.
use Rattle.std.proofs.Common.{◌≡◌, ◌≤◌, ℕ, zero, suc, Bool, List, [], ◌∷◌, ◌++◌, length, All, subst}
use Rattle.std.proofs.lemmas.List.Elements.{All-nil, All-cons, All-head, All-tail}
use Rattle.ctw_ops.specs.declared.types.Label.{Label}
use Rattle.ctw_ops.specs.Tree.{Module, Function, Segment}
use Rattle.ctw_ops.specs.Limits.{most_locals}
use Rattle.ctw_ops.specs.WithinLimits.{IsOctet, IsWithinLimits}
use Rattle.ctw_leb.specs.Grammar.{Grammar, Items, TimesFrom, stays, state_after}
use Rattle.ctw_form.specs.declared.table.SectionKind.{SectionKind}
use Rattle.ctw_form.specs.declared.table.SectionKind.TheVariants as kind
use Rattle.ctw_form.specs.declared.sections.Seen.{Seen}
use Rattle.ctw_form.specs.Sections.{Entry, Section, Parts, locals_of, functions_of, nothing_seen, seen_after, no_parts, with_section}
use Rattle.ctw_form.specs.Spelled.{IsSegment, Insides, IsSection, File, IsFile, Spells}
use Rattle.ctw_form.proofs.Weights.{Every}
use Rattle.ctw_form.proofs.Brought.{HasFewParams, IsCoded, file_brings}

-- ---- parameters and locals

every_all : {A : Type 0} (P : A → Type 0) (l : List A) → Every P l → All P l
every_all P [] h = All-nil P
every_all P (a ∷ l) h = All-cons P a l h.0 (every_all P l h.1)

abbrev HasFewLocals : Function Label → Type 0
HasFewLocals f = length f.locals ≤ most_locals

few_locals : (uses : List ℕ) (entries : List Entry) → Every IsCoded entries → All HasFewLocals (functions_of uses entries)
few_locals [] entries h = All-nil HasFewLocals
few_locals (type ∷ uses) [] h = All-nil HasFewLocals
few_locals (type ∷ uses) (e ∷ entries) h =
    All-cons HasFewLocals (record { type = type; locals = locals_of e.groups; body = e.body }) (functions_of uses entries) h.0.few (few_locals uses entries h.1)

-- ---- the bytes of data segments

abbrev AreOctets : List ℕ → Type 0
AreOctets = All IsOctet

behind : (text x y : List ℕ) → text ≡ x ++ y → AreOctets text → AreOctets y
behind text x y e h = go x (subst AreOctets e h)
  where
    go : (x : List ℕ) → AreOctets (x ++ y) → AreOctets y
    go [] h = h
    go (b ∷ x) h = go x (All-tail IsOctet b (x ++ y) h)

front : (text x y : List ℕ) → text ≡ x ++ y → AreOctets text → AreOctets x
front text x y e h = go x (subst AreOctets e h)
  where
    go : (x : List ℕ) → AreOctets (x ++ y) → AreOctets x
    go [] h = All-nil IsOctet
    go (b ∷ x) h = All-cons IsOctet b x (All-head IsOctet b (x ++ y) h) (go x (All-tail IsOctet b (x ++ y) h))

abbrev HasOctets : Segment Label → Type 0
HasOctets segment = AreOctets segment.bytes

segment_octets : (ct : Bool) (text : List ℕ) (segment : Segment Label) → IsSegment ct text segment → AreOctets text → HasOctets segment
segment_octets ct text segment m h =
    let n = m.4 in
    let v = n.4.1 in
    let bytes = behind n.2 v.1 v.2 v.5 (behind m.2 n.1 n.2 n.5 (behind text m.1 m.2 m.5 h)) in
    subst HasOctets n.4.2 (subst AreOctets v.4.1 bytes)

times_octets : {S A : Type 0} (G : S → Grammar A) (next : S → A → S) (P : A → Type 0) → ((s : S) (text : List ℕ) (a : A) → G s text a → AreOctets text → P a)
    → (n : ℕ) (s : S) (text : List ℕ) (l : List A) → TimesFrom G next n s text l → AreOctets text → All P l
times_octets {S} {A} G next P each zero s text l m h = subst (λ (k : List A). All P k) m.1 (All-nil P)
times_octets {S} {A} G next P each (suc n) s text l m h =
    let r = m.4 in
    let others = times_octets G next P each n (next s m.0) r.1 r.0 r.3 (front m.2 r.1 r.2 r.5 (behind text m.1 m.2 m.5 h)) in
    subst (λ (k : List A). All P k) r.4.1 (All-cons P m.0 r.0 (each s m.1 m.0 m.3 (front text m.1 m.2 m.5 h)) others)

abbrev Octets : Parts → Section → Type 0
Octets p section = All HasOctets (with_section p section).segments

insides_octets : (ct : Bool) (seen : Seen) (p : Parts) (kind : SectionKind) (text : List ℕ) (section : Section) → Insides ct seen kind text section → AreOctets text → All HasOctets p.segments → Octets p section
insides_octets ct seen p kind.Custom text section m h s = subst (Octets p) m.4.2 s
insides_octets ct seen p kind.Types text section m h s = subst (Octets p) m.2 s
insides_octets ct seen p kind.Imports text section m h s = subst (Octets p) m.2 s
insides_octets ct seen p kind.Functions text section m h s = subst (Octets p) m.2 s
insides_octets ct seen p kind.Tables text section m h s = subst (Octets p) m.2 s
insides_octets ct seen p kind.Memories text section m h s = subst (Octets p) m.2 s
insides_octets ct seen p kind.Globals text section m h s = subst (Octets p) m.2 s
insides_octets ct seen p kind.Exports text section m h s = subst (Octets p) m.2 s
insides_octets ct seen p kind.Start text section m h s = subst (Octets p) m.2 s
insides_octets ct seen p kind.Elements text section m h s = subst (Octets p) m.2 s
insides_octets ct seen p kind.Codes text section m h s = subst (Octets p) m.2 s
insides_octets ct seen p kind.Segments text section m h s =
    let v = m.1 in
    subst (Octets p) m.2 (times_octets (λ u. IsSegment ct) stays HasOctets (λ u. segment_octets ct) v.0 tt v.2 m.0 v.4 (behind text v.1 v.2 v.5 h))

sections_octets : (ct : Bool) (seen : Seen) (p : Parts) (text : List ℕ) (sections : List Section) → Items (IsSection ct) seen_after seen text sections → AreOctets text → All HasOctets p.segments
    → All HasOctets (state_after with_section p sections).segments
sections_octets ct seen p text [] m h s = s
sections_octets ct seen p text (section ∷ sections) m h s =
    let i = m.2 in
    let z = i.4 in
    let inside = behind i.2 z.1 z.2 z.5 (behind m.0 i.1 i.2 i.5 (front text m.0 m.1 m.4 h)) in
    sections_octets ct (seen_after seen section) (with_section p section) m.1 sections m.3 (behind text m.0 m.1 m.4 h) (insides_octets ct seen p i.0 z.2 section z.4.1 inside s)

file_octets : (bytes : List ℕ) (file : File) → IsFile bytes file → AreOctets bytes → All HasOctets (state_after with_section no_parts file.sections).segments
file_octets bytes file m h =
    let v = m.4 in
    let w = v.4 in
    let all = sections_octets v.0 nothing_seen no_parts v.2 w.0 w.1 (behind m.2 v.1 v.2 v.5 (behind bytes m.1 m.2 m.5 h)) (All-nil HasOctets) in
    subst (λ (f : File). All HasOctets (state_after with_section no_parts f.sections).segments) w.2 all

pub within_limits : (bytes : List ℕ) (m : Module Label) → All IsOctet bytes → Spells bytes m → IsWithinLimits m
within_limits bytes m h s =
    let b = file_brings bytes s.file s.spelled in
    subst IsWithinLimits s.made (record { params = every_all HasFewParams _ b.params; locals = few_locals _ _ b.coded; bytes = file_octets bytes s.file s.spelled h })
