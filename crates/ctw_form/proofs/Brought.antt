-- What the sections of a file bring: as many codes as functions, each with its bytes, and no more things than bytes.
use Rattle.std.proofs.Common.{Some, ◌≡◌, ℕ, zero, suc, ◌+◌, ◌<◌, ◌≤◌, ◌==◌, Bool, true, false, nat_lt, List, [], ◌∷◌, length, replicate, Option, None, Ok, inl, inr, if◌then◌else◌, refl, sym, ap, subst, ◌∙◌, arith}
use Rattle.std.proofs.lemmas.List.{length-append, length-replicate}
use Rattle.std.proofs.lemmas.Bool.{cases_Bool, leb-true, ltb-true, eqb-true}
use Rattle.ctw_ops.specs.Types.{FunctionType}
use Rattle.ctw_ops.specs.declared.types.Label.{Label}
use Rattle.ctw_ops.specs.declared.types.Trust.{Trust}
use Rattle.ctw_ops.specs.Tree.{TypeEntry, Element}
use Rattle.ctw_leb.specs.Grammar.{Grammar, Bytes, Items, TimesFrom, Passing, OneOf, Mapped, stays, state_after, ◌>>=◌}
use Rattle.ctw_leb.specs.Numbers.{IsU32}
use Rattle.ctw_leb.specs.Vectors.{Vector, IsName}
use Rattle.ctw_leb.proofs.Exact.{ok_is, err_ok}
use Rattle.ctw_flat.specs.Spelled.{IsLimitedBody}
use Rattle.ctw_form.specs.declared.fault.FormKind.{FormKind}
use Rattle.ctw_form.specs.declared.fault.FormKind.TheVariants.{BadSection}
use Rattle.ctw_form.specs.declared.table.EntryForm.{EntryForm}
use Rattle.ctw_form.specs.declared.table.EntryForm.TheVariants.{Direct, Variant}
use Rattle.ctw_form.specs.declared.table.SectionKind.{SectionKind}
use Rattle.ctw_form.specs.declared.table.SectionKind.TheVariants as kind
use Rattle.ctw_form.specs.declared.table.Held.{Held}
use Rattle.ctw_form.specs.declared.sections.Seen.{Seen}
use Rattle.ctw_ops.specs.Limits.{most_params, most_locals, most_locals_of_all}
use Rattle.ctw_form.specs.Tables.{section_kind, entry_form, rising}
use Rattle.ctw_form.specs.Sections.{Group, Entry, Section, CustomSection, TypeSection, ImportSection, FunctionSection, TableSection, MemorySection, GlobalSection, ExportSection, StartSection, ElementSection, CodeSection, DataSection, locals_of, held_after, nothing_seen, seen_after, Parts, no_parts, with_section}
use Rattle.ctw_form.specs.Spelled.{Count, count_after, IsTypeEntry, IsSignature, EntryBehind, entry_of, IsImport, IsGlobal, IsExport, IsElement, IsSegment, IsVariable, IsValueType, IsGroup, IsEntry, IsCodes, all_after, Insides, IsSection, IsFile, File}
use Rattle.ctw_form.proofs.Weights.{Every, weight, Carries, HasSome, then_some, one_of_some, u32_some, name_some, then_carry, vector_carry, mapped_carry, weight_ones, times_from_carry, times_from_every, times_from_count}

-- ---- items have bytes

entry_some : (ct : Bool) → HasSome (IsTypeEntry ct)
entry_some ct = then_some (OneOf (entry_form ct)) (EntryBehind ct) (one_of_some (entry_form ct))

import_some : (ct : Bool) (held : Held) → HasSome (IsImport ct held)
import_some ct held = then_some IsName _ name_some

export_some : HasSome IsExport
export_some = then_some IsName _ name_some

variable_some : (ct : Bool) → HasSome (IsVariable ct)
variable_some ct = then_some (IsValueType ct) _ (one_of_some _)

global_some : (ct : Bool) → HasSome (IsGlobal ct)
global_some ct = then_some (IsVariable ct) _ (variable_some ct)

segment_some : (ct : Bool) → HasSome (IsSegment ct)
segment_some ct = then_some IsU32 _ u32_some

-- an element with its functions
abbrev pub heft : Element Label → ℕ
heft e = 1 + length e.functions

element_carries : (ct : Bool) → Carries (IsElement ct) heft
element_carries ct text e m =
    let rest = m.4 in
    let tail : (fs : List ℕ) × Vector IsU32 rest.2 fs × (record { table = m.0; offset = rest.0; functions = fs } ≡ e) = rest.4 in
    let many : weight (λ n. 1) tail.0 ≤ length rest.2 = vector_carry IsU32 (λ n. 1) u32_some rest.2 tail.0 tail.1 in
    let some : 1 ≤ length m.1 = u32_some m.1 m.0 m.3 in
    let same : length tail.0 ≡ length e.functions = ap (λ (z : Element Label). length z.functions) tail.2 in
    omega (arith, many, weight_ones tail.0, some, same, ap length m.5, ap length rest.5, length-append m.1 m.2, length-append rest.1 rest.2)

-- the bytes of an entry's instructions
abbrev pub code_length : Entry → ℕ
code_length e = length e.code

entry_carries : (ct : Bool) (all : ℕ) → Carries (IsEntry ct all) code_length
entry_carries ct all text e m =
    let w = m.4.1 in
    let k = w.4 in
    let same : length w.2 ≡ length e.code = ap length k.1.0 ∙ ap code_length k.2 in
    omega (arith, same, ap length m.5, ap length w.5, length-append m.1 m.2, length-append w.1 w.2)

-- ---- how much a section brings

abbrev pub count_in : Section → ℕ
count_in (CustomSection name bytes) = 1
count_in (TypeSection types) = length types
count_in (ImportSection imports) = length imports
count_in (FunctionSection types) = length types
count_in (TableSection tables) = 0
count_in (MemorySection memories) = 0
count_in (GlobalSection globals) = length globals
count_in (ExportSection exports) = length exports
count_in (StartSection function) = 0
count_in (ElementSection elements) = weight heft elements
count_in (CodeSection entries) = weight code_length entries
count_in (DataSection segments) = length segments

ones : {A : Type 0} (section : List A → Section) (G : Grammar (List A)) → Carries G (weight (λ a. 1)) → ((l : List A) → count_in (section l) ≡ length l) → Carries (Mapped section G) count_in
ones section G carry same = mapped_carry section G (weight (λ a. 1)) count_in carry (λ l. same l ∙ sym (weight_ones l))

none : {A : Type 0} (section : A → Section) (G : Grammar A) → ((a : A) → count_in (section a) ≡ 0) → Carries (Mapped section G) count_in
none section G same text s m =
    let here : count_in (section m.0) ≤ length text = omega (arith, same m.0) in
    subst (λ (z : Section). count_in z ≤ length text) m.2 here

custom_carry : Carries (IsName >>= λ name. Mapped (CustomSection name) Bytes) count_in
custom_carry text s m =
    let c : count_in s ≡ 1 = ap count_in (sym m.4.2) in
    omega (arith, c, name_some m.1 m.0 m.3, ap length m.5, length-append m.1 m.2)

insides_carry : (ct : Bool) (seen : Seen) (k : SectionKind) → Carries (Insides ct seen k) count_in
insides_carry ct seen kind.Custom = custom_carry
insides_carry ct seen kind.Types = ones TypeSection (Vector (IsTypeEntry ct)) (vector_carry (IsTypeEntry ct) (λ a. 1) (entry_some ct)) (λ l. refl)
insides_carry ct seen kind.Imports =
    ones ImportSection (IsU32 >>= λ n. TimesFrom (IsImport ct) held_after n _) (then_carry IsU32 _ (weight (λ a. 1)) (λ n. times_from_carry (IsImport ct) held_after (λ a. 1) (import_some ct) n _)) (λ l. refl)
insides_carry ct seen kind.Functions = ones FunctionSection (Vector IsU32) (vector_carry IsU32 (λ a. 1) u32_some) (λ l. refl)
insides_carry ct seen kind.Tables = none TableSection _ (λ l. refl)
insides_carry ct seen kind.Memories = none MemorySection _ (λ l. refl)
insides_carry ct seen kind.Globals = ones GlobalSection (Vector (IsGlobal ct)) (vector_carry (IsGlobal ct) (λ a. 1) (global_some ct)) (λ l. refl)
insides_carry ct seen kind.Exports = ones ExportSection (Vector IsExport) (vector_carry IsExport (λ a. 1) export_some) (λ l. refl)
insides_carry ct seen kind.Start = none StartSection _ (λ l. refl)
insides_carry ct seen kind.Elements = mapped_carry ElementSection (Vector (IsElement ct)) (weight heft) count_in (vector_carry (IsElement ct) heft (element_carries ct)) (λ l. refl)
insides_carry ct seen kind.Codes =
    mapped_carry CodeSection (IsCodes ct seen.owed) (weight code_length) count_in (then_carry (Passing (λ n. n == seen.owed) IsU32) _ (weight code_length) (λ n. times_from_carry (IsEntry ct) all_after code_length (entry_carries ct) n 0)) (λ l. refl)
insides_carry ct seen kind.Segments = ones DataSection (Vector (IsSegment ct)) (vector_carry (IsSegment ct) (λ a. 1) (segment_some ct)) (λ l. refl)

-- ---- what each item is

abbrev pub HasFewParams : TypeEntry Label → Type 0
HasFewParams entry = length entry.type.params ≤ most_params

few_params : (ct : Bool) (trust : Trust) (text : List ℕ) (t : FunctionType Label) → IsSignature ct trust text t → length t.params ≤ most_params
few_params ct trust text t m =
    let v = m.3 in
    let n : length m.0 ≡ v.0 = times_from_count (λ u. IsValueType ct) stays v.0 tt v.2 m.0 v.4 in
    let few : v.0 ≤ most_params = leb-true v.0 most_params v.3.1 in
    let same : m.0 ≡ t.params = ap (λ (z : FunctionType Label). z.params) m.4.4.1 in
    omega (arith, n, few, ap length same)

entry_few : (ct : Bool) (text : List ℕ) (e : TypeEntry Label) → IsTypeEntry ct text e → HasFewParams e
entry_few ct text e m = behind m.0 m.4
  where
    mapped_few : (base : Option ℕ) (trust : Trust) (t : List ℕ) → Mapped (entry_of base) (IsSignature ct trust) t e → HasFewParams e
    mapped_few base trust t w = subst (λ (z : TypeEntry Label). HasFewParams z) w.2 (few_params ct trust t w.0 w.1)

    behind : (form : EntryForm) → EntryBehind ct form m.2 e → HasFewParams e
    behind (Direct trust) w = mapped_few None trust m.2 w
    behind Variant w = mapped_few (Some w.0) w.4.0 w.4.2 w.4.4

-- a function's code is spelled by its bytes, and its locals are within the limit
pub record IsCoded (e : Entry) : Type 0 where
  pub spelled : IsLimitedBody e.code e.body
  pub few : length (locals_of e.groups) ≤ most_locals

groups_few : (ct : Bool) (n : ℕ) (c : Count) (text : List ℕ) (l : List Group) → TimesFrom (IsGroup ct) count_after n c text l → c.own ≤ most_locals → c.own + length (locals_of l) ≤ most_locals
groups_few ct zero c text l m le = subst (λ (z : List Group). c.own + length (locals_of z) ≤ most_locals) m.1 (omega arith)
groups_few ct (suc n) c text l m le =
    let r = m.4 in
    let g : Group = m.0 in
    let room : c.own + m.3.0 ≤ most_locals = leb-true (c.own + m.3.0) most_locals m.3.3.0.1 in
    let same : m.3.0 ≡ g.count = ap (λ (z : Group). z.count) m.3.4.2 in
    let others = groups_few ct n (count_after c g) r.1 r.0 r.3 (omega (arith, room, same)) in
    let here : c.own + length (locals_of (g ∷ r.0)) ≤ most_locals = omega (arith, others, length-append (replicate g.count g.type) (locals_of r.0), length-replicate g.count g.type) in
    subst (λ (z : List Group). c.own + length (locals_of z) ≤ most_locals) r.4.1 here

entry_coded : (ct : Bool) (all : ℕ) (text : List ℕ) (e : Entry) → IsEntry ct all text e → IsCoded e
entry_coded ct all text e m =
    let w = m.4.1 in
    let g = w.3 in
    let sum : 0 + length (locals_of w.0) ≤ most_locals = groups_few ct g.0 (record { own = 0; all = all }) g.2 w.0 g.4 (omega arith) in
    let few : length (locals_of w.0) ≤ most_locals = omega arith in
    let k = w.4 in
    let body : IsLimitedBody w.2 k.0.1 = k.1.1.0 in
    subst IsCoded k.2 (record { spelled = subst (λ (t : List ℕ). IsLimitedBody t k.0.1) k.1.0 body; few = few })

-- the declared locals of an entry
abbrev pub local_count : Entry → ℕ
local_count e = length (locals_of e.groups)

groups_all : (ct : Bool) (n : ℕ) (c : Count) (text : List ℕ) (l : List Group) → TimesFrom (IsGroup ct) count_after n c text l → c.all ≤ most_locals_of_all → c.all + length (locals_of l) ≤ most_locals_of_all
groups_all ct zero c text l m le = subst (λ (z : List Group). c.all + length (locals_of z) ≤ most_locals_of_all) m.1 (omega arith)
groups_all ct (suc n) c text l m le =
    let r = m.4 in
    let g : Group = m.0 in
    let room : c.all + m.3.0 ≤ most_locals_of_all = leb-true (c.all + m.3.0) most_locals_of_all m.3.3.1 in
    let same : m.3.0 ≡ g.count = ap (λ (z : Group). z.count) m.3.4.2 in
    let others = groups_all ct n (count_after c g) r.1 r.0 r.3 (omega (arith, room, same)) in
    let here : c.all + length (locals_of (g ∷ r.0)) ≤ most_locals_of_all = omega (arith, others, length-append (replicate g.count g.type) (locals_of r.0), length-replicate g.count g.type) in
    subst (λ (z : List Group). c.all + length (locals_of z) ≤ most_locals_of_all) r.4.1 here

entry_all : (ct : Bool) (all : ℕ) (text : List ℕ) (e : Entry) → IsEntry ct all text e → all ≤ most_locals_of_all → all + local_count e ≤ most_locals_of_all
entry_all ct all text e m le =
    let w = m.4.1 in
    let g = w.3 in
    let sum : all + length (locals_of w.0) ≤ most_locals_of_all = groups_all ct g.0 (record { own = 0; all = all }) g.2 w.0 g.4 le in
    subst (λ (z : Entry). all + local_count z ≤ most_locals_of_all) w.4.2 sum

entries_all : (ct : Bool) (n all : ℕ) (text : List ℕ) (l : List Entry) → TimesFrom (IsEntry ct) all_after n all text l → all ≤ most_locals_of_all → all + weight local_count l ≤ most_locals_of_all
entries_all ct zero all text l m le = subst (λ (z : List Entry). all + weight local_count z ≤ most_locals_of_all) m.1 (omega arith)
entries_all ct (suc n) all text l m le =
    let r = m.4 in
    let others = entries_all ct n (all_after all m.0) r.1 r.0 r.3 (entry_all ct all m.1 m.0 m.3 le) in
    let here : all + weight local_count (m.0 ∷ r.0) ≤ most_locals_of_all = omega (arith, others) in
    subst (λ (z : List Entry). all + weight local_count z ≤ most_locals_of_all) r.4.1 here

-- ---- sections one after another

abbrev pub size_of : Parts → ℕ
size_of p = length p.types + length p.imports + length p.uses + length p.globals + length p.exports + weight heft p.elements + length p.segments + length p.customs + weight code_length p.entries

-- what sections of so many bytes have brought
pub record Brought (seen : Seen) (p : Parts) (n : ℕ) : Type 0 where
  pub size : size_of p ≤ n
  pub params : Every HasFewParams p.types
  pub coded : Every IsCoded p.entries
  pub locals : weight local_count p.entries ≤ most_locals_of_all
  pub fresh : seen.last < 10 → (p.entries ≡ []) × (seen.owed ≡ length p.uses)
  pub paired : length p.entries + seen.owed ≡ length p.uses

-- the id of a section
abbrev pub id_of : SectionKind → ℕ
id_of kind.Custom = 0
id_of kind.Types = 1
id_of kind.Imports = 2
id_of kind.Functions = 3
id_of kind.Tables = 4
id_of kind.Memories = 5
id_of kind.Globals = 6
id_of kind.Exports = 7
id_of kind.Start = 8
id_of kind.Elements = 9
id_of kind.Codes = 10
id_of kind.Segments = 11

abbrev pub Rises : ℕ → SectionKind → Type 0
Rises last kind.Custom = Unit {0}
Rises last k = last < id_of k

pick : {A : Type 0} (P : Type 0) (b : Bool) (x y z : A) → (if b then x else y) ≡ z → (x ≡ z → P) → (y ≡ z → P) → P
pick P true x y z e f g = f e
pick P false x y z e f g = g e

rises_from : (last id : ℕ) (kind k : SectionKind) → (last < id → Rises last kind) → rising last id kind ≡ Ok k → Rises last k
rises_from last id kind k h e = elim (cases_Bool (nat_lt last id)) [
  | inl t ↦ subst (λ (z : SectionKind). Rises last z) (ok_is {F = FormKind} kind k (rw t at e)) (h (ltb-true last id t))
  | inr f ↦ absurd (err_ok BadSection k (rw f at e))
]

pub rises : (last id : ℕ) (k : SectionKind) → section_kind last id ≡ Ok k → Rises last k
unfolding section_kind
rises last id k e =
    pick (Rises last k) (id == 0) _ _ (Ok k) e (λ q. subst (λ (z : SectionKind). Rises last z) (ok_is {F = FormKind} kind.Custom k q) tt) (λ e1.
    pick (Rises last k) (id == 1) _ _ (Ok k) e1 (rises_from last 1 kind.Types k (λ h. h)) (λ e2.
    pick (Rises last k) (id == 2) _ _ (Ok k) e2 (rises_from last 2 kind.Imports k (λ h. h)) (λ e3.
    pick (Rises last k) (id == 3) _ _ (Ok k) e3 (rises_from last 3 kind.Functions k (λ h. h)) (λ e4.
    pick (Rises last k) (id == 4) _ _ (Ok k) e4 (rises_from last 4 kind.Tables k (λ h. h)) (λ e5.
    pick (Rises last k) (id == 5) _ _ (Ok k) e5 (rises_from last 5 kind.Memories k (λ h. h)) (λ e6.
    pick (Rises last k) (id == 6) _ _ (Ok k) e6 (rises_from last 6 kind.Globals k (λ h. h)) (λ e7.
    pick (Rises last k) (id == 7) _ _ (Ok k) e7 (rises_from last 7 kind.Exports k (λ h. h)) (λ e8.
    pick (Rises last k) (id == 8) _ _ (Ok k) e8 (rises_from last 8 kind.Start k (λ h. h)) (λ e9.
    pick (Rises last k) (id == 9) _ _ (Ok k) e9 (rises_from last 9 kind.Elements k (λ h. h)) (λ e10.
    pick (Rises last k) (id == 10) _ _ (Ok k) e10 (rises_from last 10 kind.Codes k (λ h. h)) (λ e11.
    pick (Rises last k) (id == 11) _ _ (Ok k) e11 (rises_from last 11 kind.Segments k (λ h. h)) (λ e12. absurd (err_ok BadSection k e12)))))))))))))

-- a section more
brought_next : (ct : Bool) (seen : Seen) (p : Parts) (n : ℕ) (k : SectionKind) (text : List ℕ) (s : Section) → Rises seen.last k → Insides ct seen k text s → Brought seen p n
    → Brought (seen_after seen s) (with_section p s) (n + length text)
brought_next ct seen p n kind.Custom text s up m b =
    let c = insides_carry ct seen kind.Custom text s m in
    subst (λ (z : Section). count_in z ≤ length text → Brought (seen_after seen z) (with_section p z) (n + length text)) m.4.2 (λ c.
    record {
      size = omega (arith, c, b.size, length-append p.customs (record { place = p.place; name = m.0; bytes = m.4.0 } ∷ []));
      params = b.params;
      coded = b.coded;
      locals = b.locals;
      fresh = b.fresh;
      paired = b.paired;
    }) c
brought_next ct seen p n kind.Types text s up m b =
    let c = insides_carry ct seen kind.Types text s m in
    subst (λ (z : Section). count_in z ≤ length text → Brought (seen_after seen z) (with_section p z) (n + length text)) m.2 (λ c.
    record {
      size = omega (arith, c, b.size);
      params = times_from_every (λ u. IsTypeEntry ct) stays HasFewParams (λ u. entry_few ct) m.1.0 tt m.1.2 m.0 m.1.4;
      coded = b.coded;
      locals = b.locals;
      fresh = λ h. b.fresh (omega (arith, up));
      paired = b.paired;
    }) c
brought_next ct seen p n kind.Imports text s up m b =
    let c = insides_carry ct seen kind.Imports text s m in
    subst (λ (z : Section). count_in z ≤ length text → Brought (seen_after seen z) (with_section p z) (n + length text)) m.2 (λ c.
    record {
      size = omega (arith, c, b.size);
      params = b.params;
      coded = b.coded;
      locals = b.locals;
      fresh = λ h. b.fresh (omega (arith, up));
      paired = b.paired;
    }) c
brought_next ct seen p n kind.Functions text s up m b =
    let c = insides_carry ct seen kind.Functions text s m in
    subst (λ (z : Section). count_in z ≤ length text → Brought (seen_after seen z) (with_section p z) (n + length text)) m.2 (λ c.
    record {
      size = omega (arith, c, b.size);
      params = b.params;
      coded = b.coded;
      locals = b.locals;
      fresh = λ h. ((b.fresh (omega (arith, up))).0, refl);
      paired = omega (arith, ap length (b.fresh (omega (arith, up))).0);
    }) c
brought_next ct seen p n kind.Tables text s up m b =
    let c = insides_carry ct seen kind.Tables text s m in
    subst (λ (z : Section). count_in z ≤ length text → Brought (seen_after seen z) (with_section p z) (n + length text)) m.2 (λ c.
    record {
      size = omega (arith, c, b.size);
      params = b.params;
      coded = b.coded;
      locals = b.locals;
      fresh = λ h. b.fresh (omega (arith, up));
      paired = b.paired;
    }) c
brought_next ct seen p n kind.Memories text s up m b =
    let c = insides_carry ct seen kind.Memories text s m in
    subst (λ (z : Section). count_in z ≤ length text → Brought (seen_after seen z) (with_section p z) (n + length text)) m.2 (λ c.
    record {
      size = omega (arith, c, b.size);
      params = b.params;
      coded = b.coded;
      locals = b.locals;
      fresh = λ h. b.fresh (omega (arith, up));
      paired = b.paired;
    }) c
brought_next ct seen p n kind.Globals text s up m b =
    let c = insides_carry ct seen kind.Globals text s m in
    subst (λ (z : Section). count_in z ≤ length text → Brought (seen_after seen z) (with_section p z) (n + length text)) m.2 (λ c.
    record {
      size = omega (arith, c, b.size);
      params = b.params;
      coded = b.coded;
      locals = b.locals;
      fresh = λ h. b.fresh (omega (arith, up));
      paired = b.paired;
    }) c
brought_next ct seen p n kind.Exports text s up m b =
    let c = insides_carry ct seen kind.Exports text s m in
    subst (λ (z : Section). count_in z ≤ length text → Brought (seen_after seen z) (with_section p z) (n + length text)) m.2 (λ c.
    record {
      size = omega (arith, c, b.size);
      params = b.params;
      coded = b.coded;
      locals = b.locals;
      fresh = λ h. b.fresh (omega (arith, up));
      paired = b.paired;
    }) c
brought_next ct seen p n kind.Start text s up m b =
    let c = insides_carry ct seen kind.Start text s m in
    subst (λ (z : Section). count_in z ≤ length text → Brought (seen_after seen z) (with_section p z) (n + length text)) m.2 (λ c.
    record {
      size = omega (arith, c, b.size);
      params = b.params;
      coded = b.coded;
      locals = b.locals;
      fresh = λ h. b.fresh (omega (arith, up));
      paired = b.paired;
    }) c
brought_next ct seen p n kind.Elements text s up m b =
    let c = insides_carry ct seen kind.Elements text s m in
    subst (λ (z : Section). count_in z ≤ length text → Brought (seen_after seen z) (with_section p z) (n + length text)) m.2 (λ c.
    record {
      size = omega (arith, c, b.size);
      params = b.params;
      coded = b.coded;
      locals = b.locals;
      fresh = λ h. b.fresh (omega (arith, up));
      paired = b.paired;
    }) c
brought_next ct seen p n kind.Codes text s up m b =
    let c = insides_carry ct seen kind.Codes text s m in
    subst (λ (z : Section). count_in z ≤ length text → Brought (seen_after seen z) (with_section p z) (n + length text)) m.2 (λ c.
    record {
      size = omega (arith, c, b.size);
      params = b.params;
      coded = times_from_every (IsEntry ct) all_after IsCoded (entry_coded ct) m.1.0 0 m.1.2 m.0 m.1.4;
      locals = let all : 0 + weight local_count m.0 ≤ most_locals_of_all = entries_all ct m.1.0 0 m.1.2 m.0 m.1.4 (omega arith) in omega arith;
      fresh = λ h. absurd (omega (arith, h));
      paired = omega (arith, (b.fresh (omega (arith, up))).1, times_from_count (IsEntry ct) all_after m.1.0 0 m.1.2 m.0 m.1.4, eqb-true m.1.0 seen.owed m.1.3.1);
    }) c
brought_next ct seen p n kind.Segments text s up m b =
    let c = insides_carry ct seen kind.Segments text s m in
    subst (λ (z : Section). count_in z ≤ length text → Brought (seen_after seen z) (with_section p z) (n + length text)) m.2 (λ c.
    record {
      size = omega (arith, c, b.size);
      params = b.params;
      coded = b.coded;
      locals = b.locals;
      fresh = λ h. absurd (omega (arith, h));
      paired = b.paired;
    }) c

section_brings : (ct : Bool) (seen : Seen) (p : Parts) (n : ℕ) (text : List ℕ) (s : Section) → IsSection ct seen text s → Brought seen p n → Brought (seen_after seen s) (with_section p s) (n + length text)
section_brings ct seen p n text s m b =
    let w = m.4 in
    let more = brought_next ct seen p n m.0 w.2 s (rises seen.last m.3.0 m.0 m.3.2) w.4.1 b in
    record {
      size = omega (arith, more.size, ap length m.5, ap length w.5, length-append m.1 m.2, length-append w.1 w.2);
      params = more.params;
      coded = more.coded;
      locals = more.locals;
      fresh = more.fresh;
      paired = more.paired;
    }

sections_bring : (ct : Bool) (seen : Seen) (p : Parts) (n : ℕ) (text : List ℕ) (l : List Section) → Items (IsSection ct) seen_after seen text l → Brought seen p n
    → Brought (state_after seen_after seen l) (state_after with_section p l) (n + length text)
sections_bring ct seen p n text [] m b = record { size = omega (arith, b.size); params = b.params; coded = b.coded; locals = b.locals; fresh = b.fresh; paired = b.paired }
sections_bring ct seen p n text (s ∷ l) m b =
    let one = section_brings ct seen p n m.0 s m.2 b in
    let all = sections_bring ct (seen_after seen s) (with_section p s) (n + length m.0) m.1 l m.3 one in
    record {
      size = omega (arith, all.size, ap length m.4, length-append m.0 m.1);
      params = all.params;
      coded = all.coded;
      locals = all.locals;
      fresh = all.fresh;
      paired = all.paired;
    }

-- what the sections of a whole file bring
pub file_brings : (bytes : List ℕ) (file : File) → IsFile bytes file → Brought (state_after seen_after nothing_seen file.sections) (state_after with_section no_parts file.sections) (length bytes)
file_brings bytes file m =
    let v = m.4 in
    let w = v.4 in
    let sections : w.0 ≡ file.sections = ap (λ (f : File). f.sections) w.2 in
    let start : Brought nothing_seen no_parts 0 = record { size = omega arith; params = tt; coded = tt; locals = omega arith; fresh = λ h. (refl, refl); paired = omega arith } in
    let all = sections_bring v.0 nothing_seen no_parts 0 v.2 w.0 w.1 start in
    subst (λ (l : List Section). Brought (state_after seen_after nothing_seen l) (state_after with_section no_parts l) (length bytes)) sections
    (record {
      size = omega (arith, all.size, ap length m.5, ap length v.5, length-append m.1 m.2, length-append v.1 v.2);
      params = all.params;
      coded = all.coded;
      locals = all.locals;
      fresh = all.fresh;
      paired = all.paired;
    })
