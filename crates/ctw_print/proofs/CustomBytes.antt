-- The custom sections of files have bytes.
use Rattle.std.proofs.Common.{◌≡◌, ℕ, Bool, List, [], ◌∷◌, ◌++◌, All, subst}
use Rattle.std.proofs.lemmas.List.Elements.{All-nil, All-cons, All-head, All-tail, All-append}
use Rattle.ctw_ops.specs.declared.types.Label.{Label}
use Rattle.ctw_ops.specs.Tree.{Module, Custom}
use Rattle.ctw_ops.specs.WithinLimits.{IsOctet}
use Rattle.ctw_leb.specs.Grammar.{Items, state_after}
use Rattle.ctw_form.specs.declared.table.SectionKind.{SectionKind}
use Rattle.ctw_form.specs.declared.table.SectionKind.TheVariants as kind
use Rattle.ctw_form.specs.declared.sections.Seen.{Seen}
use Rattle.ctw_form.specs.Sections.{Section, Parts, nothing_seen, seen_after, no_parts, with_section}
use Rattle.ctw_form.specs.Spelled.{Insides, IsSection, File, IsFile, Spells}

abbrev AreOctets : List ℕ → Type 0
AreOctets = All IsOctet

behind : (text x y : List ℕ) → text ≡ x ++ y → AreOctets text → AreOctets y
behind text x y e h = go x (subst AreOctets e h)
  where
    go : (x : List ℕ) → AreOctets (x ++ y) → AreOctets y
    go [] h = h
    go (b ∷ x) h = go x (All-tail IsOctet b (x ++ y) h)

front : (text x y : List ℕ) → text ≡ x ++ y → AreOctets text → AreOctets x
front text x y e h = go x (subst AreOctets e h)
  where
    go : (x : List ℕ) → AreOctets (x ++ y) → AreOctets x
    go [] h = All-nil IsOctet
    go (b ∷ x) h = All-cons IsOctet b x (All-head IsOctet b (x ++ y) h) (go x (All-tail IsOctet b (x ++ y) h))

abbrev HasOctets : Custom → Type 0
HasOctets c = AreOctets c.bytes

abbrev Octets : Parts → Section → Type 0
Octets p section = All HasOctets (with_section p section).customs

one_more : (p : Parts) (name bytes : List ℕ) → AreOctets bytes → All HasOctets p.customs → All HasOctets (p.customs ++ record { place = p.place; name = name; bytes = bytes } ∷ [])
one_more p name bytes b s = All-append HasOctets p.customs (record { place = p.place; name = name; bytes = bytes } ∷ []) s (All-cons HasOctets (record { place = p.place; name = name; bytes = bytes }) [] b (All-nil HasOctets))

insides_octets : (ct : Bool) (seen : Seen) (p : Parts) (kind : SectionKind) (text : List ℕ) (section : Section) → Insides ct seen kind text section → AreOctets text → All HasOctets p.customs → Octets p section
insides_octets ct seen p kind.Custom text section m h s =
    let v = m.4 in
    subst (Octets p) v.2 (one_more p m.0 v.0 (subst AreOctets v.1 (behind text m.1 m.2 m.5 h)) s)
insides_octets ct seen p kind.Types text section m h s = subst (Octets p) m.2 s
insides_octets ct seen p kind.Imports text section m h s = subst (Octets p) m.2 s
insides_octets ct seen p kind.Functions text section m h s = subst (Octets p) m.2 s
insides_octets ct seen p kind.Tables text section m h s = subst (Octets p) m.2 s
insides_octets ct seen p kind.Memories text section m h s = subst (Octets p) m.2 s
insides_octets ct seen p kind.Globals text section m h s = subst (Octets p) m.2 s
insides_octets ct seen p kind.Exports text section m h s = subst (Octets p) m.2 s
insides_octets ct seen p kind.Start text section m h s = subst (Octets p) m.2 s
insides_octets ct seen p kind.Elements text section m h s = subst (Octets p) m.2 s
insides_octets ct seen p kind.Codes text section m h s = subst (Octets p) m.2 s
insides_octets ct seen p kind.Segments text section m h s = subst (Octets p) m.2 s

sections_octets : (ct : Bool) (seen : Seen) (p : Parts) (text : List ℕ) (sections : List Section) → Items (IsSection ct) seen_after seen text sections → AreOctets text → All HasOctets p.customs
    → All HasOctets (state_after with_section p sections).customs
sections_octets ct seen p text [] m h s = s
sections_octets ct seen p text (section ∷ sections) m h s =
    let i = m.2 in
    let z = i.4 in
    let inside = behind i.2 z.1 z.2 z.5 (behind m.0 i.1 i.2 i.5 (front text m.0 m.1 m.4 h)) in
    sections_octets ct (seen_after seen section) (with_section p section) m.1 sections m.3 (behind text m.0 m.1 m.4 h) (insides_octets ct seen p i.0 z.2 section z.4.1 inside s)

file_octets : (bytes : List ℕ) (file : File) → IsFile bytes file → AreOctets bytes → All HasOctets (state_after with_section no_parts file.sections).customs
file_octets bytes file m h =
    let v = m.4 in
    let w = v.4 in
    let all = sections_octets v.0 nothing_seen no_parts v.2 w.0 w.1 (behind m.2 v.1 v.2 v.5 (behind bytes m.1 m.2 m.5 h)) (All-nil HasOctets) in
    subst (λ (f : File). All HasOctets (state_after with_section no_parts f.sections).customs) w.2 all

pub custom_octets : (bytes : List ℕ) (m : Module Label) → All IsOctet bytes → Spells bytes m → All HasOctets m.customs
custom_octets bytes m h s = subst (λ (m : Module Label). All HasOctets m.customs) s.made (file_octets bytes s.file s.spelled h)
