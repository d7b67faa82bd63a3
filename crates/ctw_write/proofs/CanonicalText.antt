-- The canonical spelling of a module that is spelled is a spelling of it, and the shortest.
use Rattle.std.proofs.Common.{◌≡◌, ℕ, suc, ◌+◌, ◌≤◌, Bool, true, false, List, [], ◌∷◌, ◌++◌, length, map, refl, sym, ap, subst, subst₂, ◌∙◌, append_assoc, append-nil, arith}
use Rattle.std.proofs.lemmas.List.{length-append}
use Rattle.ctw_ops.specs.declared.types.Label.{Label}
use Rattle.ctw_ops.specs.ValueType.{ValueType}
use Rattle.ctw_ops.specs.Tree.{Module, Function, Custom}
use Rattle.ctw_leb.specs.Grammar.{Items, state_after}
use Rattle.ctw_leb.specs.Spelling.{u32_text}
use Rattle.ctw_ops.specs.Limits.{most_plain_bytes}
use Rattle.ctw_form.specs.declared.sections.Seen.{Seen}
use Rattle.ctw_form.specs.Sections.{Entry, Section, Parts, no_parts, nothing_seen, seen_after, with_section, locals_of, functions_of, module_of}
use Rattle.ctw_form.specs.Spelled.{IsSection, magic, version, File, file_of, IsFile, Spells}
use Rattle.ctw_form.proofs.FileForms.{one_module}
use Rattle.ctw_form.proofs.SpelledParts.{file_filled}
use Rattle.ctw_write.specs.Canon.{all_texts, vector_text, items_text, code_text, placed_text, sections_text, canon}
use Rattle.ctw_write.proofs.GroupTexts.{settled_entry, entry_text, groups_locals}
use Rattle.ctw_write.proofs.Pieces.{pieces, laid}
use Rattle.ctw_write.proofs.SectionTexts.{settled_parts, text_of, file_written}

-- ---- the text of a module by its parts

pub uses_text : (uses : List ℕ) (entries : List Entry) → length entries ≡ length uses → all_texts (λ (f : Function Label). u32_text f.type) (functions_of uses entries) ≡ all_texts u32_text uses
uses_text [] entries e = refl
uses_text (type ∷ uses) [] e = absurd (omega (arith, e))
uses_text (type ∷ uses) (entry ∷ entries) e = ap (λ (l : List ℕ). u32_text type ++ l) (uses_text uses entries (omega (arith, e)))

pub codes_text : (uses : List ℕ) (entries : List Entry) → length entries ≡ length uses → all_texts code_text (functions_of uses entries) ≡ all_texts entry_text entries
codes_text [] [] e = refl
codes_text [] (entry ∷ entries) e = absurd (omega (arith, e))
codes_text (type ∷ uses) [] e = absurd (omega (arith, e))
codes_text (type ∷ uses) (entry ∷ entries) e = ap (λ (l : List ℕ). entry_text entry ++ l) (codes_text uses entries (omega (arith, e)))

pub counted : (uses : List ℕ) (entries : List Entry) → length entries ≡ length uses → length (functions_of uses entries) ≡ length uses
counted [] entries e = refl
counted (type ∷ uses) [] e = absurd (omega (arith, e))
counted (type ∷ uses) (entry ∷ entries) e = ap suc (counted uses entries (omega (arith, e)))

-- sections of as many items with the same texts
same_section : {A B : Type 0} (id : ℕ) (u : A → List ℕ) (w : B → List ℕ) (l : List A) (r : List B) → length l ≡ length r → all_texts u l ≡ all_texts w r → items_text id u l ≡ items_text id w r
same_section id u w [] [] n e = refl
same_section id u w [] (b ∷ r) n e = absurd (omega (arith, n))
same_section id u w (a ∷ l) [] n e = absurd (omega (arith, n))
same_section id u w (a ∷ l) (b ∷ r) n e =
    let whole : vector_text u (a ∷ l) ≡ vector_text w (b ∷ r) = ap (λ (k : ℕ). u32_text k ++ all_texts u (a ∷ l)) n ∙ ap (λ (t : List ℕ). u32_text (length (b ∷ r)) ++ t) e in
    ap (λ (t : List ℕ). id ∷ (u32_text (length t) ++ t)) whole

-- the texts one after another, gathered from the left
abbrev pub gathered : List ℕ → ℕ → List (List ℕ) → List Custom → List ℕ
gathered out k [] customs = out
gathered out k (x ∷ xs) customs = gathered (out ++ placed_text k x customs) (suc k) xs customs

pub gathered_is : (out : List ℕ) (k : ℕ) (xs : List (List ℕ)) (customs : List Custom) → gathered out k xs customs ≡ out ++ laid k xs customs
gathered_is out k [] customs = sym (append-nil out)
gathered_is out k (x ∷ xs) customs = gathered_is (out ++ placed_text k x customs) (suc k) xs customs ∙ append_assoc out (placed_text k x customs) (laid (suc k) xs customs)

sections_are : (ct : Bool) (p : Parts) → length p.entries ≡ length p.uses → sections_text (module_of ct p) ≡ text_of p
unfolding sections_text
sections_are ct p e =
    let f = functions_of p.uses p.entries in
    let uses : items_text 3 (λ (g : Function Label). u32_text g.type) f ≡ items_text 3 u32_text p.uses = same_section 3 (λ g. u32_text g.type) u32_text f p.uses (counted p.uses p.entries e) (uses_text p.uses p.entries e) in
    let codes : items_text 10 code_text f ≡ items_text 10 entry_text p.entries = same_section 10 code_text entry_text f p.entries (counted p.uses p.entries e ∙ sym e) (codes_text p.uses p.entries e) in
    rw (uses, codes) (gathered_is [] 0 (pieces p) p.customs)

-- ---- the law of canonical spellings

-- functions are the same with their code entries in canonical spelling
settled_functions : (uses : List ℕ) (entries : List Entry) → functions_of uses (map settled_entry entries) ≡ functions_of uses entries
settled_functions [] entries = refl
settled_functions (type ∷ uses) [] = refl
settled_functions (type ∷ uses) (e ∷ entries) =
    ap (λ (l : List (ValueType Label)). record { type = type; locals = l; body = e.body } ∷ functions_of uses (map settled_entry entries)) (groups_locals (locals_of e.groups))
    ∙ ap (λ (l : List (Function Label)). record { type = type; locals = locals_of e.groups; body = e.body } ∷ l) (settled_functions uses entries)

settled_module : (ct : Bool) (p : Parts) → module_of ct (settled_parts p) ≡ module_of ct p
settled_module ct p = ap (λ (l : List (Function Label)). record (module_of ct p) { functions = l }) (settled_functions p.uses p.entries)

-- a spelling and no longer one
pub record Canonical (bytes : List ℕ) (m : Module Label) : Type 0 where
  pub spelled : Spells (canon m) m
  pub shorter : length (canon m) ≤ length bytes

pub eight : (ct : Bool) → length (magic ++ version ct) ≡ 8
eight false = refl
eight true = refl

sections_canonical : (ct : Bool) (bytes text : List ℕ) (sections : List Section) → Items (IsSection ct) seen_after nothing_seen text sections → length bytes ≡ 8 + length text → (state_after seen_after nothing_seen sections).owed ≡ 0
    → (ct ≡ false → length bytes ≤ most_plain_bytes) → length (state_after with_section no_parts sections).entries ≡ length (state_after with_section no_parts sections).uses
    → Canonical bytes (module_of ct (state_after with_section no_parts sections))
unfolding canon
sections_canonical ct bytes text sections m size finished small filled =
    let p : Parts = state_after with_section no_parts sections in
    let w = file_written ct text sections m in
    let e : sections_text (module_of ct p) ≡ w.short = sections_are ct p filled ∙ w.whole in
    let shorter : length (canon (module_of ct p)) ≤ length bytes = omega (arith, length-append (magic ++ version ct) (sections_text (module_of ct p)), eight ct, ap length e, w.size, size) in
    let items = subst (λ (l : List ℕ). Items (IsSection ct) seen_after nothing_seen l w.added) (sym e) w.items in record {
      spelled = record {
        file = file_of ct w.added;
        spelled = (tt, magic, version ct ++ sections_text (module_of ct p), refl, (ct, version ct, sections_text (module_of ct p), refl, (w.added, items, refl), refl), append_assoc magic (version ct) (sections_text (module_of ct p)));
        finished = ap (λ (s : Seen). s.owed) w.state ∙ finished;
        small = λ plain. omega (arith, shorter, small plain);
        made = ap (module_of ct) w.made ∙ settled_module ct p;
      };
      shorter = shorter;
    }

file_canonical : (bytes : List ℕ) (file : File) → IsFile bytes file → (state_after seen_after nothing_seen file.sections).owed ≡ 0 → (file.ct ≡ false → length bytes ≤ most_plain_bytes)
    → length (state_after with_section no_parts file.sections).entries ≡ length (state_after with_section no_parts file.sections).uses → Canonical bytes (module_of file.ct (state_after with_section no_parts file.sections))
file_canonical bytes file m finished small filled =
    let inner = m.4 in
    let same : file_of inner.0 inner.4.0 ≡ file = inner.4.2 in
    let ct : inner.0 ≡ file.ct = ap (λ (f : File). f.ct) same in
    let sections : inner.4.0 ≡ file.sections = ap (λ (f : File). f.sections) same in
    let items = subst₂ (λ (c : Bool) (l : List Section). Items (IsSection c) seen_after nothing_seen inner.2 l) ct sections inner.4.1 in
    let size : length bytes ≡ 8 + length inner.2 = omega (arith, ap length m.5, ap length inner.5, length-append m.1 m.2, length-append inner.1 inner.2, ap length m.3, ap length inner.3, length-append magic (version inner.0), eight inner.0) in
    sections_canonical file.ct bytes inner.2 file.sections items size finished small filled

pub canonical : (bytes : List ℕ) (m : Module Label) → Spells bytes m → Canonical bytes m
canonical bytes m s = subst (Canonical bytes) s.made (file_canonical bytes s.file s.spelled s.finished s.small (file_filled bytes m s).counted)

pub canonical_spelled : (bytes : List ℕ) (m : Module Label) → Spells bytes m → Spells (canon m) m
canonical_spelled bytes m s = (canonical bytes m s).spelled

pub canonical_shortest : (bytes : List ℕ) (m : Module Label) → Spells bytes m → length (canon m) ≤ length bytes
canonical_shortest bytes m s = (canonical bytes m s).shorter

-- what canonical bytes spell is canonically spelled by them
pub canonical_fixed : (bytes : List ℕ) (m n : Module Label) → Spells bytes m → Spells (canon m) n → canon n ≡ canon m
canonical_fixed bytes m n s t = ap canon (one_module (canon m) n m t (canonical_spelled bytes m s))
