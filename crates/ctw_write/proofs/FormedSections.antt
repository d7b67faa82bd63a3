-- The sections of a module one after another, with the custom sections of each place: what they spell, and what they make.
use Rattle.std.proofs.Common.{◌≡◌, ◌≢◌, ℕ, ◌<◌, ◌⊎◌, Bool, List, [], ◌∷◌, ◌++◌, length, get_or, Option, Some, None, refl, sym, ap, subst, subst₂, ◌∙◌, append_assoc, append-nil, inl, inr, arith}
use Rattle.std.specs.Prelude.{◌==◌}
use Rattle.std.specs.List.{All}
use Rattle.std.proofs.lemmas.List.Elements.{All-nil, All-head, All-tail, All-filter}
use Rattle.std.proofs.lemmas.List.{length-append}
use Rattle.ctw_ops.specs.declared.types.Label.{Label}
use Rattle.ctw_ops.specs.Tree.{Module, Custom}
use Rattle.ctw_leb.specs.Grammar.{Items, state_after}
use Rattle.ctw_leb.specs.Vectors.{Sized}
use Rattle.ctw_leb.specs.Spelling.{u32_text}
use Rattle.ctw_form.specs.declared.table.SectionKind.{SectionKind}
use Rattle.ctw_form.specs.declared.table.SectionKind.TheVariants as kind
use Rattle.ctw_form.specs.declared.sections.Seen.{Seen}
use Rattle.ctw_form.specs.Sections.{Section, CustomSection, StartSection, Parts, no_parts, nothing_seen, seen_after, with_section, place_after}
use Rattle.ctw_form.specs.Spelled.{Insides, IsSection}
use Rattle.ctw_write.specs.Canon.{all_texts, vector_text, sized_text, section_text, items_text, start_text, custom_text, customs_text, placed_text}
use Rattle.ctw_write.specs.KeepsLimits.{IsText, IsShort, item_counts, IsLimitedCustom}
use Rattle.ctw_write.proofs.SectionTexts.{id_of, one_item, items-append, state_after-append}
use Rattle.ctw_write.proofs.FormedNumbers.{sized_spelled, name_spelled, size_short}
use Rattle.ctw_write.proofs.FormedCustoms.{at_place, placed_there, none_placed}

-- ---- sections that a text spells

-- sections that a text spells, what has been seen behind them and what they bring
pub record Reached (ct : Bool) (seen : Seen) (p : Parts) (text : List ℕ) : Type 0 where
  pub added : List Section
  pub items : Items (IsSection ct) seen_after nothing_seen text added
  pub state : state_after seen_after nothing_seen added ≡ seen
  pub made : state_after with_section no_parts added ≡ p

pub nothing_reached : (ct : Bool) → Reached ct nothing_seen no_parts []
nothing_reached ct = record { added = []; items = refl; state = refl; made = refl }

-- one section more
section_reached : (ct : Bool) (seen : Seen) (p : Parts) (text : List ℕ) (k : SectionKind) (c : List ℕ) (section : Section) → Reached ct seen p text → (0 < id_of k → seen.last < id_of k)
    → Sized (Insides ct seen k) (sized_text c) section → Reached ct (seen_after seen section) (with_section p section) (text ++ section_text (id_of k) c)
section_reached ct seen p text k c section r rise m =
    let one = one_item ct seen k c section rise m in
    let x = section_text (id_of k) c in
    let behind = subst (λ (s : Seen). Items (IsSection ct) seen_after s x (section ∷ [])) (sym r.state) one in
    record {
      added = r.added ++ section ∷ [];
      items = items-append (IsSection ct) seen_after nothing_seen text x r.added (section ∷ []) r.items behind;
      state = state_after-append seen_after nothing_seen r.added (section ∷ []) ∙ ap (λ (s : Seen). seen_after s section) r.state;
      made = state_after-append with_section no_parts r.added (section ∷ []) ∙ ap (λ (q : Parts). with_section q section) r.made;
    }

-- ---- sections of items

-- a section of items, where there are any
pub items_reached : {A : Type 0} (ct : Bool) (seen : Seen) (p : Parts) (text : List ℕ) (k : SectionKind) (section : List A → Section) (w : A → List ℕ) (l : List A) (next : List A → Seen) (with : List A → Parts)
    → Reached ct seen p text → seen.last < id_of k → Sized (Insides ct seen k) (sized_text (vector_text w l)) (section l)
    → (l ≡ [] → seen ≡ next []) → p ≡ with [] → ((a : A) (others : List A) → seen_after seen (section (a ∷ others)) ≡ next (a ∷ others)) → ((a : A) (others : List A) → with_section p (section (a ∷ others)) ≡ with (a ∷ others))
    → Reached ct (next l) (with l) (text ++ items_text (id_of k) w l)
items_reached ct seen p text k section w [] next with r rise m same_seen same_parts some_seen some_parts =
    subst (λ (s : Seen). Reached ct s (with []) (text ++ [])) (same_seen refl) (subst₂ (λ (q : Parts) (t : List ℕ). Reached ct seen q t) same_parts (sym (append-nil text)) r)
items_reached ct seen p text k section w (a ∷ others) next with r rise m same_seen same_parts some_seen some_parts =
    subst₂ (λ (s : Seen) (q : Parts). Reached ct s q (text ++ items_text (id_of k) w (a ∷ others))) (some_seen a others) (some_parts a others)
    (section_reached ct seen p text k (vector_text w (a ∷ others)) (section (a ∷ others)) r (λ some. rise) m)

-- the start section, where there is one
pub start_reached : (ct : Bool) (seen : Seen) (p : Parts) (text : List ℕ) (o : Option ℕ) (next : Option ℕ → Seen) (with : Option ℕ → Parts)
    → Reached ct seen p text → seen.last < 8 → ((function : ℕ) → o ≡ Some function → Sized (Insides ct seen kind.Start) (sized_text (u32_text function)) (StartSection function))
    → seen ≡ next None → p ≡ with None → ((function : ℕ) → seen_after seen (StartSection function) ≡ next (Some function)) → ((function : ℕ) → with_section p (StartSection function) ≡ with (Some function))
    → Reached ct (next o) (with o) (text ++ start_text o)
start_reached ct seen p text None next with r rise m same_seen same_parts some_seen some_parts =
    subst (λ (s : Seen). Reached ct s (with None) (text ++ [])) same_seen (subst₂ (λ (q : Parts) (t : List ℕ). Reached ct seen q t) same_parts (sym (append-nil text)) r)
start_reached ct seen p text (Some function) next with r rise m same_seen same_parts some_seen some_parts =
    subst₂ (λ (s : Seen) (q : Parts). Reached ct s q (text ++ start_text (Some function))) (some_seen function) (some_parts function)
    (section_reached ct seen p text kind.Start (u32_text function) (StartSection function) r (λ some. rise) (m function refl))

-- ---- custom sections

-- parts with more custom sections
abbrev pub with_customs : Parts → List Custom → Parts
with_customs p customs = record p { customs = p.customs ++ customs }

custom_reached : (ct : Bool) (seen : Seen) (p : Parts) (text : List ℕ) (c : Custom) → Reached ct seen p text → c.place ≡ p.place → IsText c.name → IsShort (sized_text c.name ++ c.bytes)
    → Reached ct seen (with_customs p (c ∷ [])) (text ++ custom_text c)
custom_reached ct seen p text c r place name size =
    let x = sized_text c.name ++ c.bytes in
    let named = name_spelled c.name (omega (arith, size_short c.name, length-append (sized_text c.name) c.bytes)) name in
    let m : Sized (Insides ct seen kind.Custom) (sized_text x) (CustomSection c.name c.bytes) = sized_spelled (Insides ct seen kind.Custom) x (CustomSection c.name c.bytes) size (c.name, sized_text c.name, c.bytes, named, (c.bytes, refl, refl), refl) in
    let made = section_reached ct seen p text kind.Custom x (CustomSection c.name c.bytes) r (λ some. absurd (omega (arith, some))) m in
    let same : with_section p (CustomSection c.name c.bytes) ≡ with_customs p (c ∷ []) = ap (λ (n : ℕ). with_customs p (record { place = n; name = c.name; bytes = c.bytes } ∷ [])) (sym place) in
    subst (λ (q : Parts). Reached ct seen q (text ++ custom_text c)) same made

-- a custom section that may stand at a place
pub record IsGood (place : ℕ) (c : Custom) : Type 0 where
  pub there : c.place ≡ place
  pub name : IsText c.name
  pub size : IsShort (sized_text c.name ++ c.bytes)

pub customs_reached : (ct : Bool) (seen : Seen) (p : Parts) (text : List ℕ) (customs : List Custom) → Reached ct seen p text → All (IsGood p.place) customs → Reached ct seen (with_customs p customs) (text ++ all_texts custom_text customs)
customs_reached ct seen p text [] r h =
    let same : p ≡ with_customs p [] = ap (λ (l : List Custom). record p { customs = l }) (sym (append-nil p.customs)) in
    subst₂ (λ (q : Parts) (t : List ℕ). Reached ct seen q t) same (sym (append-nil text)) r
customs_reached ct seen p text (c ∷ customs) r h =
    let good = All-head (IsGood p.place) c customs h in
    let one = custom_reached ct seen p text c r good.there good.name good.size in
    let others = customs_reached ct seen (with_customs p (c ∷ [])) (text ++ custom_text c) customs one (All-tail (IsGood p.place) c customs h) in
    let same : with_customs (with_customs p (c ∷ [])) customs ≡ with_customs p (c ∷ customs) = ap (λ (l : List Custom). record p { customs = l }) (append_assoc p.customs (c ∷ []) customs) in
    subst₂ (λ (q : Parts) (t : List ℕ). Reached ct seen q t) same (append_assoc text (custom_text c) (all_texts custom_text customs)) others

-- the custom sections of a place, behind a section that may stand there or not
pub placed_reached : (ct : Bool) (seen : Seen) (p : Parts) (text x : List ℕ) (id : ℕ) (customs : List Custom) → Reached ct seen p (text ++ x) → (at_place id customs ≡ []) ⊎ (p.place ≡ id) → All (IsGood id) (at_place id customs)
    → Reached ct seen (with_customs p (at_place id customs)) (text ++ placed_text id x customs)
placed_reached ct seen p text x id customs r there h =
    subst (λ (t : List ℕ). Reached ct seen (with_customs p (at_place id customs)) t) (append_assoc text x (customs_text id customs)) (customs_reached ct seen p (text ++ x) (at_place id customs) r all)
  where
    all : All (IsGood p.place) (at_place id customs)
    all = elim there [
      | inl none ↦ subst (λ (l : List Custom). All (IsGood p.place) l) (sym none) (All-nil (IsGood p.place))
      | inr same ↦ subst (λ (n : ℕ). All (IsGood n) (at_place id customs)) (sym same) h
    ]

-- ---- the custom sections of a module

pub all_good : (m : Module Label) (place : ℕ) → All (IsLimitedCustom m) m.customs → All (IsGood place) (at_place place m.customs)
all_good m place h =
    let limited = All-filter (λ c. c.place == place) (IsLimitedCustom m) m.customs h in
    let there = placed_there place m.customs in
    λ i d within. record { there = there i d within; name = (limited i d within).name; size = (limited i d within).size }

elsewhere : (m : Module Label) (place : ℕ) (c : Custom) → 0 < place → get_or (item_counts m) place 0 ≡ 0 → IsLimitedCustom m c → c.place ≢ place
elsewhere m place c some none h e =
    elim h.place [
      | inl first ↦ omega arith
      | inr count ↦ omega (arith, count, none, ap (λ (n : ℕ). get_or (item_counts m) n 0) e)
    ]

-- they stand behind a section that has items, or there are none
pub stand_behind : {A : Type 0} (m : Module Label) (place : ℕ) (l : List A) (last : ℕ) → 0 < place → get_or (item_counts m) place 0 ≡ length l → All (IsLimitedCustom m) m.customs
    → (at_place place m.customs ≡ []) ⊎ (place_after place l last ≡ place)
stand_behind m place [] last some e h = inl (none_placed place m.customs (λ i d within. elsewhere m place _ some e (h i d within)))
stand_behind m place (a ∷ l) last some e h = inr refl

-- ---- one section and the custom sections of its place

pub step_reached : {A : Type 0} (m : Module Label) (seen : Seen) (p : Parts) (text : List ℕ) (k : SectionKind) (section : List A → Section) (w : A → List ℕ) (l : List A) (next : List A → Seen) (with : List A → Parts)
    → All (IsLimitedCustom m) m.customs → 0 < id_of k → get_or (item_counts m) (id_of k) 0 ≡ length l → (with l).place ≡ place_after (id_of k) l p.place
    → Reached m.ct seen p text → seen.last < id_of k → Sized (Insides m.ct seen k) (sized_text (vector_text w l)) (section l)
    → (l ≡ [] → seen ≡ next []) → p ≡ with [] → ((a : A) (others : List A) → seen_after seen (section (a ∷ others)) ≡ next (a ∷ others)) → ((a : A) (others : List A) → with_section p (section (a ∷ others)) ≡ with (a ∷ others))
    → Reached m.ct (next l) (with_customs (with l) (at_place (id_of k) m.customs)) (text ++ placed_text (id_of k) (items_text (id_of k) w l) m.customs)
step_reached m seen p text k section w l next with h some count place r rise c same_seen same_parts some_seen some_parts =
    let made = items_reached m.ct seen p text k section w l next with r rise c same_seen same_parts some_seen some_parts in
    let behind = subst (λ (n : ℕ). (at_place (id_of k) m.customs ≡ []) ⊎ (n ≡ id_of k)) (sym place) (stand_behind m (id_of k) l p.place some count h) in
    placed_reached m.ct (next l) (with l) text (items_text (id_of k) w l) (id_of k) m.customs made behind (all_good m (id_of k) h)
