-- A module that bytes spell keeps the limits, and its custom sections stand where a file has places.
use Rattle.std.proofs.Common.{◌≡◌, ℕ, ◌+◌, ◌-◌, ◌<◌, ◌≤◌, ◌⊎◌, Bool, false, List, [], ◌∷◌, ◌++◌, length, get_or, set, get_or-set_same, get_or-set_other, Option, Some, None, refl, sym, ap, subst, ◌∙◌, inl, inr, arith}
use Rattle.std.specs.Prelude.{IfSome}
use Rattle.std.specs.List.{All, sum_by}
use Rattle.std.specs.List.Sorted.{IsNonDecreasingBy}
use Rattle.std.proofs.lemmas.List.Sums.{sum_by-cons}
use Rattle.std.proofs.lemmas.List.Sorted.{IsNonDecreasingBy-push}
use Rattle.std.proofs.lemmas.List.Elements.{All-from_recursion, All-nil, All-cons, All-head, All-tail, All-append}
use Rattle.ctw_ops.specs.declared.types.Label.{Label}
use Rattle.ctw_ops.specs.Types.{MemoryType}
use Rattle.ctw_ops.specs.Limits.{most_plain_bytes}
use Rattle.ctw_ops.specs.Tree.{Module, Function, Custom}
use Rattle.ctw_ops.specs.Typing.{optional}
use Rattle.ctw_leb.specs.Grammar.{state_after}
use Rattle.ctw_leb.specs.Spelling.{u32_text}
use Rattle.ctw_form.specs.declared.table.SectionKind.{SectionKind}
use Rattle.ctw_form.specs.declared.table.SectionKind.TheVariants as kind
use Rattle.ctw_form.specs.declared.sections.Seen.{Seen}
use Rattle.ctw_form.specs.Sections.{Entry, Section, Parts, nothing_seen, seen_after, no_parts, with_section, place_after, first, locals_of, functions_of, module_of}
use Rattle.ctw_form.specs.Spelled.{Insides, IsSection, File, IsFile, Spells}
use Rattle.ctw_form.proofs.SpelledParts.{parts_kept, file_filled}
use Rattle.ctw_write.specs.Canon.{all_texts, vector_text, code_text, canon}
use Rattle.ctw_write.specs.KeepsLimits.{Is32, IsShort, AreSizes, IsLimitedFunction, item_counts, contents, KeepsLimits}
use Rattle.ctw_write.proofs.GroupTexts.{entry_text}
use Rattle.ctw_write.proofs.SectionTexts.{id_of, section_risen}
use Rattle.ctw_write.proofs.CanonicalText.{uses_text, codes_text, counted, canonical_shortest}
use Rattle.ctw_write.proofs.KeptItems.{IsLimitedCode, locals_in}
use Rattle.ctw_write.proofs.KeptSections.{LimitedParts, file_limited}

-- ---- where custom sections stand

-- how many items the sections of each id have brought
abbrev counts : Parts → List ℕ
counts p =
    0 ∷ length p.types ∷ length p.imports ∷ length p.uses ∷ length (optional p.table) ∷ length (optional p.memory)
    ∷ length p.globals ∷ length p.exports ∷ length (optional p.start) ∷ length p.elements ∷ length p.entries
    ∷ length p.segments ∷ []

abbrev IsPlaceIn : List ℕ → ℕ → Type 0
IsPlaceIn ns place = (place ≡ 0) ⊎ (0 < get_or ns place 0)

-- what holds of custom sections behind any sections
record Standing (seen : Seen) (p : Parts) : Type 0 where
  few : p.place ≤ seen.last
  here : IsPlaceIn (counts p) p.place
  places : All (λ c. IsPlaceIn (counts p) c.place) p.customs
  before : All (λ c. c.place ≤ p.place) p.customs
  rising : IsNonDecreasingBy (λ c. c.place) p.customs

-- a place below the section of an id is one whatever that section brings
place_kept : (ns : List ℕ) (k n place : ℕ) → place < k → IsPlaceIn ns place → IsPlaceIn (set ns k n) place
place_kept ns k n place lt (inl first) = inl first
place_kept ns k n place lt (inr some) = inr (omega (arith, some, get_or-set_other ns k place n 0 (λ e. omega arith)))

place_made : {A : Type 0} (ns : List ℕ) (k : ℕ) (l : List A) (place : ℕ) → k < length ns → place < k → IsPlaceIn ns place → IsPlaceIn (set ns k (length l)) (place_after k l place)
place_made ns k [] place lt below h = place_kept ns k 0 place below h
place_made ns k (a ∷ l) place lt below h = inr (omega (arith, get_or-set_same ns k (length (a ∷ l)) 0 lt))

place_rises : {A : Type 0} (k : ℕ) (l : List A) (place : ℕ) → place < k → (place ≤ place_after k l place) × (place_after k l place ≤ k)
place_rises k [] place lt = (omega arith, omega arith)
place_rises k (a ∷ l) place lt = (omega arith, omega arith)

-- a section of items
standing_other : {A : Type 0} (seen next : Seen) (p q : Parts) (k : ℕ) (l : List A) → seen.last < k → k < 12 → next.last ≡ k → q.customs ≡ p.customs → counts q ≡ set (counts p) k (length l) → q.place ≡ place_after k l p.place
    → Standing seen p → Standing next q
standing_other seen next p q k l rise small last customs e place h =
    let few = h.few in
    let below : p.place < k = omega arith in
    let r = place_rises k l p.place below in
    let kept : (x : ℕ) → x ≤ p.place → IsPlaceIn (counts p) x → IsPlaceIn (counts q) x = λ x le there. subst (λ (ns : List ℕ). IsPlaceIn ns x) (sym e) (place_kept (counts p) k (length l) x (omega arith) there) in
    let made : IsPlaceIn (counts q) (place_after k l p.place) = subst (λ (ns : List ℕ). IsPlaceIn ns (place_after k l p.place)) (sym e) (place_made (counts p) k l p.place small below h.here) in
    record {
      few = omega (arith, place, last, r.1);
      here = subst (λ (x : ℕ). IsPlaceIn (counts q) x) (sym place) made;
      places = subst (λ (cs : List Custom). All (λ c. IsPlaceIn (counts q) c.place) cs) (sym customs) (λ i d within. kept _ (h.before i d within) (h.places i d within));
      before = subst (λ (cs : List Custom). All (λ c. c.place ≤ q.place) cs) (sym customs) (λ i d within. omega (arith, h.before i d within, place, r.0));
      rising = subst (λ (cs : List Custom). IsNonDecreasingBy (λ c. c.place) cs) (sym customs) h.rising;
    }

-- a custom section
standing_custom : (seen : Seen) (p : Parts) (c : Custom) → c.place ≡ p.place → Standing seen p → Standing seen (record p { customs = p.customs ++ c ∷ [] })
standing_custom seen p c e h =
    let there : IsPlaceIn (counts p) c.place = subst (λ (x : ℕ). IsPlaceIn (counts p) x) (sym e) h.here in
    record {
      few = h.few;
      here = h.here;
      places = All-append (λ d. IsPlaceIn (counts p) d.place) p.customs (c ∷ []) h.places (All-cons (λ d. IsPlaceIn (counts p) d.place) c [] there (All-nil (λ d. IsPlaceIn (counts p) d.place)));
      before = All-append (λ d. d.place ≤ p.place) p.customs (c ∷ []) h.before (All-cons (λ d. d.place ≤ p.place) c [] (omega arith) (All-nil (λ d. d.place ≤ p.place)));
      rising = IsNonDecreasingBy-push (λ d. d.place) p.customs c h.rising (λ d some. omega (arith, h.before (length p.customs - 1) d (omega arith)));
    }

place_of_first : {A : Type 0} (k : ℕ) (l : List A) (place : ℕ) → place_after k l place ≡ place_after k (optional (first l)) place
place_of_first k [] place = refl
place_of_first k (a ∷ l) place = refl

abbrev StandingBehind : Seen → Parts → Section → Type 0
StandingBehind seen p section = Standing (seen_after seen section) (with_section p section)

standing_insides : (ct : Bool) (seen : Seen) (p : Parts) (k : SectionKind) (text : List ℕ) (section : Section) → (0 < id_of k → seen.last < id_of k) → Insides ct seen k text section → Standing seen p → StandingBehind seen p section
standing_insides ct seen p kind.Custom text section rise m h = subst (StandingBehind seen p) m.4.2 (standing_custom seen p (record { place = p.place; name = m.0; bytes = m.4.0 }) refl h)
standing_insides ct seen p kind.Types text section rise m h = subst (StandingBehind seen p) m.2 (standing_other seen _ p _ 1 m.0 (rise (omega arith)) (omega arith) refl refl refl refl h)
standing_insides ct seen p kind.Imports text section rise m h = subst (StandingBehind seen p) m.2 (standing_other seen _ p _ 2 m.0 (rise (omega arith)) (omega arith) refl refl refl refl h)
standing_insides ct seen p kind.Functions text section rise m h = subst (StandingBehind seen p) m.2 (standing_other seen _ p _ 3 m.0 (rise (omega arith)) (omega arith) refl refl refl refl h)
standing_insides ct seen p kind.Tables text section rise m h = subst (StandingBehind seen p) m.2 (standing_other seen _ p _ 4 (optional (first m.0)) (rise (omega arith)) (omega arith) refl refl refl (place_of_first 4 m.0 p.place) h)
standing_insides ct seen p kind.Memories text section rise m h = subst (StandingBehind seen p) m.2 (standing_other seen _ p _ 5 (optional (first m.0)) (rise (omega arith)) (omega arith) refl refl refl (place_of_first 5 m.0 p.place) h)
standing_insides ct seen p kind.Globals text section rise m h = subst (StandingBehind seen p) m.2 (standing_other seen _ p _ 6 m.0 (rise (omega arith)) (omega arith) refl refl refl refl h)
standing_insides ct seen p kind.Exports text section rise m h = subst (StandingBehind seen p) m.2 (standing_other seen _ p _ 7 m.0 (rise (omega arith)) (omega arith) refl refl refl refl h)
standing_insides ct seen p kind.Start text section rise m h = subst (StandingBehind seen p) m.2 (standing_other seen _ p _ 8 (m.0 ∷ []) (rise (omega arith)) (omega arith) refl refl refl refl h)
standing_insides ct seen p kind.Elements text section rise m h = subst (StandingBehind seen p) m.2 (standing_other seen _ p _ 9 m.0 (rise (omega arith)) (omega arith) refl refl refl refl h)
standing_insides ct seen p kind.Codes text section rise m h = subst (StandingBehind seen p) m.2 (standing_other seen _ p _ 10 m.0 (rise (omega arith)) (omega arith) refl refl refl refl h)
standing_insides ct seen p kind.Segments text section rise m h = subst (StandingBehind seen p) m.2 (standing_other seen _ p _ 11 m.0 (rise (omega arith)) (omega arith) refl refl refl refl h)

standing_section : (ct : Bool) (seen : Seen) (p : Parts) (text : List ℕ) (section : Section) → IsSection ct seen text section → Standing seen p → StandingBehind seen p section
standing_section ct seen p text section m h =
    let risen = (section_risen seen.last m.3.0).is m.0 m.3.2 in
    standing_insides ct seen p m.0 m.4.2 section (λ some. omega (arith, risen.0, risen.1 (omega (arith, risen.0)))) m.4.4.1 h

nothing_standing : Standing nothing_seen no_parts
nothing_standing = record {
  few = omega arith;
  here = inl refl;
  places = All-nil (λ c. IsPlaceIn (counts no_parts) c.place);
  before = All-nil (λ c. c.place ≤ 0);
  rising = λ i j d le within. absurd (omega (arith, within));
}

file_standing : (bytes : List ℕ) (file : File) → IsFile bytes file → Standing (state_after seen_after nothing_seen file.sections) (state_after with_section no_parts file.sections)
file_standing bytes file m =
    let inner = m.4.4 in
    let all = parts_kept m.4.0 Standing (standing_section m.4.0) nothing_seen no_parts m.4.2 inner.0 inner.1 nothing_standing in
    subst (λ (f : File). Standing (state_after seen_after nothing_seen f.sections) (state_after with_section no_parts f.sections)) inner.2 all

-- ---- modules

functions_limited : (uses : List ℕ) (entries : List Entry) → All Is32 uses → All IsLimitedCode entries → All IsLimitedFunction (functions_of uses entries)
functions_limited [] entries u h = All-nil IsLimitedFunction
functions_limited (type ∷ uses) [] u h = All-nil IsLimitedFunction
functions_limited (type ∷ uses) (e ∷ entries) u h =
    let code = All-head IsLimitedCode e entries h in
    All-cons IsLimitedFunction (record { type = type; locals = locals_of e.groups; body = e.body }) (functions_of uses entries)
    (record { type = All-head Is32 type uses u; locals = code.locals; ops = code.ops; nesting = code.nesting })
    (functions_limited uses entries (All-tail Is32 type uses u) (All-tail IsLimitedCode e entries h))

locals_few : (uses : List ℕ) (entries : List Entry) → sum_by (λ f. length f.locals) (functions_of uses entries) ≤ locals_in entries
locals_few [] entries = omega arith
locals_few (type ∷ uses) [] = omega arith
locals_few (type ∷ uses) (e ∷ entries) =
    let f : Function Label = record { type = type; locals = locals_of e.groups; body = e.body } in
    let left : sum_by (λ (g : Function Label). length g.locals) (f ∷ functions_of uses entries) ≡ length (locals_of e.groups) + sum_by (λ (g : Function Label). length g.locals) (functions_of uses entries) = sum_by-cons (λ (g : Function Label). length g.locals) f (functions_of uses entries) in
    let right : locals_in (e ∷ entries) ≡ length (locals_of e.groups) + locals_in entries = sum_by-cons (λ (x : Entry). length (locals_of x.groups)) e entries in
    omega (arith, left, right, locals_few uses entries)

from_optional : {A : Type 0} (P : A → Type 0) (o : Option A) → All P (optional o) → IfSome o P
from_optional P None h = tt
from_optional P (Some a) h = All-head P a [] h

-- the counts of the module that parts make
counts_are : (ct : Bool) (p : Parts) → length p.entries ≡ length p.uses → item_counts (module_of ct p) ≡ counts p
counts_are ct p e =
    let f = counted p.uses p.entries e in
    rw (f, e) refl

same_vector : {A B : Type 0} (u : A → List ℕ) (w : B → List ℕ) (l : List A) (r : List B) → length l ≡ length r → all_texts u l ≡ all_texts w r → vector_text u l ≡ vector_text w r
same_vector u w l r n e = ap (λ (k : ℕ). u32_text k ++ all_texts u l) n ∙ ap (λ (t : List ℕ). u32_text (length r) ++ t) e

parts_limit : (ct : Bool) (seen : Seen) (p : Parts) → length p.entries ≡ length p.uses → LimitedParts p → Standing seen p → (ct ≡ false → length (canon (module_of ct p)) ≤ most_plain_bytes) → KeepsLimits (module_of ct p)
parts_limit ct seen p e h s small =
    let f = functions_of p.uses p.entries in
    let uses : vector_text (λ (g : Function Label). u32_text g.type) f ≡ vector_text u32_text p.uses = same_vector (λ g. u32_text g.type) u32_text f p.uses (counted p.uses p.entries e) (uses_text p.uses p.entries e) in
    let codes : vector_text code_text f ≡ vector_text entry_text p.entries = same_vector code_text entry_text f p.entries (counted p.uses p.entries e ∙ sym e) (codes_text p.uses p.entries e) in
    let places = subst (λ (ns : List ℕ). All (λ (c : Custom). IsPlaceIn ns c.place) p.customs) (sym (counts_are ct p e)) s.places in
    record {
      profile = refl;
      types = h.types.each;
      imports = h.imports.each;
      functions = functions_limited p.uses p.entries h.uses.each h.entries.each;
      locals = omega (arith, h.locals, locals_few p.uses p.entries);
      table = from_optional AreSizes p.table h.table.each;
      memory = from_optional (λ (t : MemoryType Label). AreSizes t.limits) p.memory h.memory.each;
      globals = h.globals.each;
      exports = h.exports.each;
      start = h.start;
      elements = h.elements.each;
      segments = h.segments.each;
      sections =
          All-from_recursion IsShort (contents (module_of ct p))
          (h.types.short, (h.imports.short, (subst IsShort (sym uses) h.uses.short, (h.table.short, (h.memory.short, (h.globals.short, (h.exports.short, (h.elements.short, (subst IsShort (sym codes) h.entries.short, (h.segments.short, tt))))))))));
      customs = λ i d within. record {
        place = places i d within;
        name = (h.customs i d within).0;
        size = (h.customs i d within).1;
      };
      rising = s.rising;
      plain_bytes = small;
    }

pub module_limited : (bytes : List ℕ) (m : Module Label) → Spells bytes m → KeepsLimits m
module_limited bytes m s =
    let p = state_after with_section no_parts s.file.sections in
    let filled = file_filled bytes m s in
    let spelled : Spells bytes (module_of s.file.ct p) = record { file = s.file; spelled = s.spelled; finished = s.finished; small = s.small; made = refl } in
    subst KeepsLimits s.made
    (parts_limit s.file.ct _ p filled.counted (file_limited bytes s.file s.spelled) (file_standing bytes s.file s.spelled) (λ plain. omega (arith, canonical_shortest bytes (module_of s.file.ct p) spelled, s.small plain)))
