-- What a section of a file brings.
use Rattle.std.proofs.Common.{◌≡◌, ℕ, ◌<◌, ◌≤◌, ◌==◌, Bool, true, false, nat_le, nat_lt, List, [], ◌∷◌, length, Result, Ok, Err, inl, inr, if◌then◌else◌, refl, sym, ap, subst, ◌∙◌, arith}
use Rattle.std.proofs.lemmas.Bool.{cases_Bool, leb-true, le-leb}
use Rattle.ctw_ops.specs.declared.fault.What.{What}
use Rattle.ctw_leb.specs.Input.{Input}
use Rattle.ctw_leb.specs.Grammar.{OneOf, state_after}
use Rattle.ctw_leb.specs.Reading.{Reader, chain, ends, alone, passed, times, refused, items, items_in}
use Rattle.ctw_leb.proofs.Exact.{ok_is, err_ok, chain_ok, chosen}
use Rattle.ctw_leb.proofs.Loops.{left_items, left_items_fault, items_next}
use Rattle.ctw_form.specs.declared.fault.FormKind.{FormKind}
use Rattle.ctw_form.specs.declared.fault.FormKind.TheVariants.{BadSection, SizeMismatch, TooMany}
use Rattle.ctw_form.specs.declared.fault.FormFault.{FormFault}
use Rattle.ctw_form.specs.declared.table.SectionKind.{SectionKind}
use Rattle.ctw_form.specs.declared.table.SectionKind.TheVariants as kind
use Rattle.ctw_form.specs.declared.sections.Seen.{Seen}
use Rattle.ctw_form.specs.declared.lists.ListFault.{ListFault}
use Rattle.ctw_module.specs.declared.found.Found.{Found}
use Rattle.ctw_form.specs.Tables.{section_kind, rising}
use Rattle.ctw_form.specs.Sections.{Section, Parts, no_parts, with_section, nothing_seen, seen_after}
use Rattle.ctw_form.specs.Spelled.{room, IsSection}
use Rattle.ctw_form.specs.Read.{fault, inside, number_at, upto_at, vector_upto_at, only_at, by_table, insides_at, contents_at, section_at}
use Rattle.ctw_form.specs.Pieces.{window_at, section_kind_at}
use Rattle.ctw_module.specs.Gathers.{Gathers, Fills, Takes}
use Rattle.ctw_form.proofs.TypeForms.{exact_by_table}
use Rattle.ctw_form.proofs.SectionForms.{exact_section, section_filled}
use Rattle.ctw_form.proofs.SizedWindows.{in_window, sized_window}
use Rattle.ctw_form.proofs.Gathering.{refused_ok, ok_pair}

-- ---- the items of a section

pub record Only {A : Type 0} (section : A → Section) (r : Reader A FormFault) (i : Input) (s : Section) : Type 0 where
  pub items : A
  pub end : Input
  pub read : r i ≡ Ok (items, end)
  pub made : section items ≡ s

ends_ok : {A : Type 0} (more : ℕ → FormFault) (x : A × Input) (a : A) → ends more x ≡ Ok a → x.0 ≡ a
ends_ok {A} more x a e = elim (chosen (nat_le (length x.1.rest) 0) (Ok x.0) (Err (more x.1.at)) (Ok a) e) [
  | inl t ↦ ok_is {F = FormFault} x.0 a t.1
  | inr t ↦ absurd (err_ok (more x.1.at) a t.1)
]

pub only_found : {A : Type 0} (section : A → Section) (r : Reader A FormFault) (i : Input) (s : Section) → only_at section r i ≡ Ok s → Only section r i s
only_found {A} section r i s e =
    let c = chain_ok (alone (fault SizeMismatch) r i) (λ a. Ok (section a)) s e in
    let d = chain_ok (r i) (ends (fault SizeMismatch)) c.0 c.1 in
    record {
      items = d.0.0;
      end = d.0.1;
      read = d.1;
      made = ap section (ends_ok (fault SizeMismatch) d.0 c.0 d.2) ∙ ok_is {F = FormFault} (section c.0) s c.2;
    }

upto_read : (what : What) (i : Input) (y z : ℕ × Input) → number_at i ≡ Ok y → nat_le y.0 1 ≡ true → y ≡ z → upto_at 1 what 1 i ≡ Ok z
upto_read what i y z e f g = rw (e, f) (ap (λ (x : ℕ × Input). Ok x) g)

-- what stands at most once, or not at all
pub upto_one : {A : Type 0} (b : Bool) (what : What) (r : Reader A FormFault) (i : Input) (x : List A × Input) → vector_upto_at (room b) what 1 r i ≡ Ok x → vector_upto_at 1 what 1 r i ≡ Ok x
upto_one {A} b what r i x e =
    let c = chain_ok (upto_at (room b) what 1 i) (λ y. times r y.0 y.1) x e in
    let d = chain_ok (number_at i) (passed (λ n. nat_le n (room b)) (fault (TooMany what 1) i.at)) c.0 c.1 in
    let t = passed_ok d.0 c.0 d.2 in
    let few : nat_le d.0.0 1 ≡ true = le-leb d.0.0 1 (under b (leb-true d.0.0 (room b) t.0)) in
    let one = upto_read what i d.0 c.0 d.1 few t.1 in
    ap (λ (z : Result (ℕ × Input) FormFault). chain z (λ y. times r y.0 y.1)) one ∙ c.2
  where
    under : (b : Bool) {n : ℕ} → n ≤ room b → n ≤ 1
    under true h = omega arith
    under false h = h

    passed_ok : (y z : ℕ × Input) → passed (λ n. nat_le n (room b)) (fault (TooMany what 1) i.at) y ≡ Ok z → (nat_le y.0 (room b) ≡ true) × (y ≡ z)
    passed_ok y z q = elim (chosen (nat_le y.0 (room b)) (Ok y) (Err (fault (TooMany what 1) i.at)) (Ok z) q) [
      | inl u ↦ (u.0, ok_is {F = FormFault} y z u.1)
      | inr u ↦ absurd (err_ok (fault (TooMany what 1) i.at) z u.1)
    ]

-- ---- the kind of a section, wherever it stands

pick_both : {A : Type 0} (b : Bool) (x x' y y' z : A) → (if b then x else y) ≡ z → (x ≡ z → x' ≡ z) → (y ≡ z → y' ≡ z) → (if b then x' else y') ≡ z
pick_both true x x' y y' z e f g = f e
pick_both false x x' y y' z e f g = g e

abbrev known_kind : SectionKind → Result SectionKind FormKind
known_kind k = Ok k

rises_anyway : (last id : ℕ) (k z : SectionKind) → rising last id k ≡ Ok z → known_kind k ≡ Ok z
rises_anyway last id k z e = elim (cases_Bool (nat_lt last id)) [
  | inl t ↦ rw t at e
  | inr f ↦ absurd (err_ok BadSection z (rw f at e))
]

kind_anyway : (last id : ℕ) (k : SectionKind) → section_kind last id ≡ Ok k → section_kind 0 id ≡ Ok k
unfolding section_kind
kind_anyway last id k e =
    pick_both (id == 0) _ _ _ _ (Ok k) e (λ q. q) (λ e1.
    pick_both (id == 1) _ _ _ _ (Ok k) e1 (rises_anyway last 1 kind.Types k) (λ e2.
    pick_both (id == 2) _ _ _ _ (Ok k) e2 (rises_anyway last 2 kind.Imports k) (λ e3.
    pick_both (id == 3) _ _ _ _ (Ok k) e3 (rises_anyway last 3 kind.Functions k) (λ e4.
    pick_both (id == 4) _ _ _ _ (Ok k) e4 (rises_anyway last 4 kind.Tables k) (λ e5.
    pick_both (id == 5) _ _ _ _ (Ok k) e5 (rises_anyway last 5 kind.Memories k) (λ e6.
    pick_both (id == 6) _ _ _ _ (Ok k) e6 (rises_anyway last 6 kind.Globals k) (λ e7.
    pick_both (id == 7) _ _ _ _ (Ok k) e7 (rises_anyway last 7 kind.Exports k) (λ e8.
    pick_both (id == 8) _ _ _ _ (Ok k) e8 (rises_anyway last 8 kind.Start k) (λ e9.
    pick_both (id == 9) _ _ _ _ (Ok k) e9 (rises_anyway last 9 kind.Elements k) (λ e10.
    pick_both (id == 10) _ _ _ _ (Ok k) e10 (rises_anyway last 10 kind.Codes k) (λ e11.
    pick_both (id == 11) _ _ _ _ (Ok k) e11 (rises_anyway last 11 kind.Segments k) (λ q. q))))))))))))

kind_read : (last : ℕ) (i b : Input) (k : SectionKind) → by_table (section_kind last) i ≡ Ok (k, b) → section_kind_at 0 i ≡ Ok (k, b)
unfolding section_kind_at
kind_read last i b k e =
    let s = (exact_by_table (section_kind last)).sound i k b e in
    let again : OneOf (section_kind 0) s.0 k = (s.1.0, s.1.1, kind_anyway last s.1.0 k s.1.2) in
    let c = (exact_by_table (section_kind 0)).complete s.0 b.rest i.at k again in
    ap (λ (l : List ℕ). by_table (section_kind 0) (record { at = i.at; rest = l })) s.2 ∙ c ∙ ap (λ (n : ℕ). Ok (k, record { at = n; rest = b.rest })) (sym s.3)

-- ---- a section

pub record InSection (ct : Bool) (seen : Seen) (i o : Input) (s : Section) : Type 0 where
  pub kind : SectionKind
  pub body : Input
  pub window : Input
  pub named : section_kind_at 0 i ≡ Ok (kind, body)
  pub cut : window_at body ≡ Ok (window, o)
  pub insides : insides_at ct seen kind window ≡ Ok s

pub in_section : (ct : Bool) (seen : Seen) (i o : Input) (s : Section) → section_at ct seen i ≡ Ok (s, o) → InSection ct seen i o s
unfolding section_at contents_at
in_section ct seen i o s e =
    let c = chain_ok (by_table (section_kind seen.last) i) (λ x. contents_at ct seen x.0 x.1) (s, o) e in
    let r = insides_at ct seen c.0.0 in
    let d = chain_ok (window_at c.0.1) (in_window r) (s, o) (sym (sized_window r c.0.1) ∙ c.2) in
    let f = chain_ok (refused inside (r d.0.0)) (λ a. Ok (a, d.0.1)) (s, o) d.2 in
    let p = ok_pair f.0 s d.0.1 o f.2 in
    record {
      kind = c.0.0;
      body = c.0.1;
      window = d.0.0;
      named = kind_read seen.last i c.0.1 c.0.0 c.1;
      cut = d.1 ∙ ap (λ (x : Input). Ok (d.0.0, x)) p.1;
      insides = refused_ok (r d.0.0) s (f.1 ∙ ap (λ (x : Section). Ok x) p.0);
    }

pub takes_window : {X : Type 0} (result : Result X ListFault) (new o w : Input) (found : Found) (p : Parts) → o ≡ new → Fills result found p → Takes result new o found p
takes_window (Ok x) new o w found p e h = (e, h)
takes_window (Err fault) new o w found p e h = h

-- ---- all sections

abbrev pub all_sections : Bool → Seen → Input → Result (List Section) FormFault
all_sections ct seen i = items (section_at ct) seen_after seen i

-- the sections from a place on are a first one and those behind it
pub record Next (ct : Bool) (seen : Seen) (i : Input) (left : List Section) : Type 0 where
  pub section : Section
  pub behind : Input
  pub others : List Section
  pub read : section_at ct seen i ≡ Ok (section, behind)
  pub rest : all_sections ct (seen_after seen section) behind ≡ Ok others
  pub are : section ∷ others ≡ left

pub next_section : (ct : Bool) (seen : Seen) (i : Input) (left : List Section) → 0 < length i.rest → all_sections ct seen i ≡ Ok left → Next ct seen i left
next_section ct seen i left some e = go (section_at ct seen i) refl
  where
    go : (read : Result (Section × Input) FormFault) → section_at ct seen i ≡ read → Next ct seen i left
    go (Err f) r =
        let bad = left_items_fault (section_at ct) seen_after (all_sections ct seen i) seen seen i f some (left_items (section_at ct) seen_after seen i) r in
        absurd (err_ok f left (sym bad ∙ e))
    go (Ok x) r =
        let one = items_next (IsSection ct) (section_at ct) seen_after (exact_section ct) (section_filled ct) seen i x.1 x.0 r in
        let c = chain_ok (all_sections ct (seen_after seen x.0) x.1) (λ l. Ok (x.0 ∷ l)) left (sym one ∙ e) in
        record { section = x.0; behind = x.1; others = c.0; read = r; rest = c.1; are = ok_is {F = FormFault} (x.0 ∷ c.0) left c.2 }

no_section_in : (ct : Bool) (seen : Seen) (at : ℕ) (bytes : List ℕ) (left : List Section) → length bytes ≡ 0 → all_sections ct seen (record { at = at; rest = bytes }) ≡ Ok left → [] ≡ left
unfolding items_in
no_section_in ct seen at [] left none e = ok_is {F = FormFault} [] left e
no_section_in ct seen at (b ∷ bytes) left none e = absurd (omega (arith, none))

-- what was found is what the sections up to here bring
pub record Going (ct : Bool) (start now : Input) (found : Found) : Type 0 where
  pub sections : List Section
  pub all : all_sections ct nothing_seen start ≡ Ok sections
  pub seen : Seen
  pub left : List Section
  pub rest : all_sections ct seen now ≡ Ok left
  pub brought : Parts
  pub gathers : Gathers found brought
  pub finish : state_after with_section brought left ≡ state_after with_section no_parts sections

pub going_start : (ct : Bool) (start : Input) (found : Found) → (sections : List Section) × (all_sections ct nothing_seen start ≡ Ok sections) → Gathers found no_parts → Going ct start start found
going_start ct start found s g = record { sections = s.0; all = s.1; seen = nothing_seen; left = s.0; rest = s.1; brought = no_parts; gathers = g; finish = refl }

pub going_next : (ct : Bool) (start now : Input) (found : Found) → 0 < length now.rest → (h : Going ct start now found) → Next ct h.seen now h.left
going_next ct start now found some h = next_section ct h.seen now h.left some h.rest

pub going_step : (ct : Bool) (start now after : Input) (found more : Found) → (h : Going ct start now found) → (n : Next ct h.seen now h.left) → (n.behind ≡ after) × Gathers more (with_section h.brought n.section) → Going ct start after more
going_step ct start now after found more h n t = record {
  sections = h.sections;
  all = h.all;
  seen = seen_after h.seen n.section;
  left = n.others;
  rest = ap (λ (i : Input). all_sections ct (seen_after h.seen n.section) i) (sym t.0) ∙ n.rest;
  brought = with_section h.brought n.section;
  gathers = t.1;
  finish = ap (λ (l : List Section). state_after with_section h.brought l) n.are ∙ h.finish;
}

pub going_end : (ct : Bool) (start now : Input) (found : Found) → length now.rest ≡ 0 → Going ct start now found → (sections : List Section) → all_sections ct nothing_seen start ≡ Ok sections → Gathers found (state_after with_section no_parts sections)
going_end ct start now found none h sections e =
    let same : h.sections ≡ sections = ok_is {F = FormFault} h.sections sections (sym h.all ∙ e) in
    let empty : [] ≡ h.left = no_section_in ct h.seen now.at now.rest h.left none h.rest in
    let brought : h.brought ≡ state_after with_section no_parts sections = ap (λ (l : List Section). state_after with_section h.brought l) empty ∙ h.finish ∙ ap (λ (l : List Section). state_after with_section no_parts l) same in
    subst (λ (p : Parts). Gathers found p) brought h.gathers

-- what was read is what is there
pub in_section_kind : (ct : Bool) (seen : Seen) (i o : Input) (s : Section) → (h : InSection ct seen i o s) → (k : SectionKind) (body : Input) → section_kind_at 0 i ≡ Ok (k, body)
    → (window_at body ≡ Ok (h.window, o)) × (insides_at ct seen k h.window ≡ Ok s)
in_section_kind ct seen i o s h k body e =
    let p : (h.kind, h.body) ≡ (k, body) = ok_is {F = FormFault} (h.kind, h.body) (k, body) (sym h.named ∙ e) in
    (ap (λ (x : SectionKind × Input). window_at x.1) (sym p) ∙ h.cut, ap (λ (x : SectionKind × Input). insides_at ct seen x.0 h.window) (sym p) ∙ h.insides)

pub in_section_window : (ct : Bool) (seen : Seen) (o : Input) (s : Section) (k : SectionKind) (body window : Input) → (window_at body ≡ Ok (window, o)) × (insides_at ct seen k window ≡ Ok s) → (w after : Input) → window_at body ≡ Ok (w, after)
    → (o ≡ after) × (insides_at ct seen k w ≡ Ok s)
in_section_window ct seen o s k body window h w after e =
    let p : (window, o) ≡ (w, after) = ok_is {F = FormFault} (window, o) (w, after) (sym h.0 ∙ e) in
    (ap (λ (x : Input × Input). x.1) p, ap (λ (x : Input × Input). insides_at ct seen k x.0) (sym p) ∙ h.1)
