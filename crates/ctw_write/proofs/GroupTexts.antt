-- The canonical texts of code entries are spellings, and no longer than any other: fewest groups have the same locals.
use Rattle.std.proofs.Common.{◌≡◌, ℕ, zero, suc, ◌+◌, ◌≤◌, ◌<◌, ◌^◌, Bool, true, false, cond, List, [], ◌∷◌, ◌++◌, length, map, replicate, Ok, refl, sym, ap, subst, ◌∙◌, append-nil, arith, leb-true, le-leb}
use Rattle.std.specs.Prelude.{◌==◌}
use Rattle.std.specs.List.{All}
use Rattle.std.proofs.lemmas.List.{length-append}
use Rattle.std.proofs.lemmas.List.Elements.{All-nil, All-cons, All-head, All-tail, All-append, All-replicate}
use Rattle.ctw_ops.specs.ValueType.{ValueType}
use Rattle.ctw_ops.specs.Types.{type_byte}
use Rattle.ctw_ops.specs.Equal.{same_type}
use Rattle.ctw_ops.proofs.EqualLaws.{same_type_is, same_type_refl}
use Rattle.ctw_ops.specs.declared.types.Label.{Label}
use Rattle.ctw_ops.specs.declared.types.Label.TheVariants.{Public, Secret}
use Rattle.ctw_ops.specs.declared.types.Width.{Width}
use Rattle.ctw_ops.specs.declared.types.Width.TheVariants.{W32, W64}
use Rattle.ctw_leb.specs.Grammar.{Passing, TimesFrom}
use Rattle.ctw_leb.specs.Numbers.{IsU32}
use Rattle.ctw_leb.specs.Spelling.{u32_text}
use Rattle.ctw_leb.proofs.Exact.{ok_is}
use Rattle.ctw_leb.proofs.Spelling.{u32_minimal}
use Rattle.ctw_form.specs.declared.fault.FormKind.{FormKind}
use Rattle.ctw_ops.specs.Limits.{most_locals, most_locals_of_all}
use Rattle.ctw_form.specs.Limits.{room_for}
use Rattle.ctw_form.specs.Tables.{value_type}
use Rattle.ctw_form.specs.Sections.{Group, Entry, locals_of}
use Rattle.ctw_form.specs.Spelled.{IsValueType, Count, count_after, group_of, IsGroup, IsGroups, code_entry, IsFormBody, IsEntry, all_after, IsCodes}
use Rattle.ctw_form.proofs.CodeForms.{EntryInsides}
use Rattle.ctw_form.proofs.SpelledParts.{all_times, times_count}
use Rattle.ctw_write.specs.Canon.{all_texts, vector_text, sized_text, type_text, local_before, groups_of, group_text, body_text}
use Rattle.ctw_write.proofs.Settling.{Settles, settles_then, settles_mapped, settles_passing, settles_times, settles_number, short_total, short_number, sized_short}
use Rattle.ctw_write.proofs.BytesOf.{value_type_byte}
use Rattle.ctw_write.proofs.ItemTexts.{settles_type}
use Rattle.ctw_write.proofs.OpTexts.{settles_body}

-- ---- types of locals

typed_byte : (t : ValueType Label) → value_type true (type_byte t) ≡ Ok t
unfolding value_type
typed_byte t = go t.width t.tag
  where
    go : (width : Width) (label : Label) → value_type true (type_byte (record { width = width; tag = label })) ≡ Ok (record { width = width; tag = label })
    go W32 Public = refl
    go W64 Public = refl
    go W32 Secret = refl
    go W64 Secret = refl

pub same_byte : (t u : ValueType Label) → type_byte t ≡ type_byte u → t ≡ u
same_byte t u e = ok_is {F = FormKind} t u (sym (typed_byte t) ∙ ap (value_type true) e ∙ typed_byte u)

-- ---- the fewest groups

-- so many locals and one more in front of groups
abbrev pub grown : ℕ → ValueType Label → List Group → List Group
grown n t [] = record { count = suc n; type = t } ∷ []
grown n t (g ∷ groups) = cond (same_type t g.type) (record { count = suc n + g.count; type = g.type } ∷ groups) (record { count = suc n; type = t } ∷ g ∷ groups)

grown_first : (t : ValueType Label) (groups : List Group) → local_before t groups ≡ grown 0 t groups
grown_first t [] = refl
grown_first t (g ∷ groups) =
    let e : suc g.count ≡ 1 + g.count = omega arith in
    ap (λ (n : ℕ). cond (same_type t g.type) (record { count = n; type = g.type } ∷ groups) (record { count = 1; type = t } ∷ g ∷ groups)) e

grown_more : (n : ℕ) (t : ValueType Label) (groups : List Group) → local_before t (grown n t groups) ≡ grown (suc n) t groups
grown_more n t [] = rw (same_type_refl t) refl
grown_more n t (g ∷ groups) = go (same_type t g.type) refl
  where
    go : (test : Bool) → same_type t g.type ≡ test
        → local_before t (cond test (record { count = suc n + g.count; type = g.type } ∷ groups) (record { count = suc n; type = t } ∷ g ∷ groups))
        ≡ cond test (record { count = suc (suc n) + g.count; type = g.type } ∷ groups) (record { count = suc (suc n); type = t } ∷ g ∷ groups)
    go true e =
        let sum : suc (suc n + g.count) ≡ suc (suc n) + g.count = omega arith in
        rw e (ap (λ (k : ℕ). record { count = k; type = g.type } ∷ groups) sum)
    go false e = rw (same_type_refl t) refl

-- equal locals in front of others
pub grown_is : (n : ℕ) (t : ValueType Label) (types : List (ValueType Label)) → groups_of (replicate (suc n) t ++ types) ≡ grown n t (groups_of types)
grown_is zero t types = grown_first t (groups_of types)
grown_is (suc n) t types = ap (local_before t) (grown_is n t types) ∙ grown_more n t (groups_of types)

pub locals_before : (t : ValueType Label) (groups : List Group) → locals_of (local_before t groups) ≡ t ∷ locals_of groups
locals_before t [] = refl
locals_before t (g ∷ groups) = go (same_type t g.type) refl
  where
    go : (test : Bool) → same_type t g.type ≡ test
        → locals_of (cond test (record { count = suc g.count; type = g.type } ∷ groups) (record { count = 1; type = t } ∷ g ∷ groups)) ≡ t ∷ locals_of (g ∷ groups)
    go true e = ap (λ (u : ValueType Label). u ∷ locals_of (g ∷ groups)) (sym (same_type_is t g.type e))
    go false e = refl

-- the groups are of these locals
pub groups_locals : (types : List (ValueType Label)) → locals_of (groups_of types) ≡ types
groups_locals [] = refl
groups_locals (t ∷ types) = locals_before t (groups_of types) ∙ ap (λ (l : List (ValueType Label)). t ∷ l) (groups_locals types)

abbrev pub fewest : List Group → List Group
fewest groups = groups_of (locals_of groups)

grown_length : (n : ℕ) (t : ValueType Label) (groups : List Group) → length (grown n t groups) ≤ suc (length groups)
grown_length n t [] = omega arith
grown_length n t (g ∷ groups) = go (same_type t g.type)
  where
    go : (test : Bool) → length (cond test (record { count = suc n + g.count; type = g.type } ∷ groups) (record { count = suc n; type = t } ∷ g ∷ groups)) ≤ suc (suc (length groups))
    go true = omega arith
    go false = omega arith

pub fewer : (groups : List Group) → length (fewest groups) ≤ length groups
fewer [] = omega arith
fewer (g ∷ groups) = go g.count g.type (fewer groups)
  where
    go : (n : ℕ) (t : ValueType Label) → length (fewest groups) ≤ length groups → length (groups_of (replicate n t ++ locals_of groups)) ≤ suc (length groups)
    go zero t le = omega arith
    go (suc n) t le = omega (arith, ap length (grown_is n t (locals_of groups)), grown_length n t (fewest groups))

abbrev pub cost : List Group → ℕ
cost groups = length (all_texts group_text groups)

grown_cost : (n : ℕ) (t : ValueType Label) (groups : List Group) → cost (grown n t groups) ≤ length (group_text (record { count = suc n; type = t })) + cost groups
grown_cost n t [] = omega (arith, ap length (append-nil (group_text (record { count = suc n; type = t }))))
grown_cost n t (g ∷ groups) = go (same_type t g.type)
  where
    go : (test : Bool) → cost (cond test (record { count = suc n + g.count; type = g.type } ∷ groups) (record { count = suc n; type = t } ∷ g ∷ groups))
        ≤ length (group_text (record { count = suc n; type = t })) + cost (g ∷ groups)
    go true = omega (
      arith,
      short_total (suc n) g.count,
      length-append (group_text (record { count = suc n + g.count; type = g.type })) (all_texts group_text groups),
      length-append (group_text g) (all_texts group_text groups),
      length-append (u32_text (suc n + g.count)) (type_text g.type),
      length-append (u32_text g.count) (type_text g.type),
      length-append (u32_text (suc n)) (type_text t),
    )
    go false = omega (arith, length-append (group_text (record { count = suc n; type = t })) (all_texts group_text (g ∷ groups)))

pub cheaper : (groups : List Group) → cost (fewest groups) ≤ cost groups
cheaper [] = omega arith
cheaper (g ∷ groups) = omega (arith, go g.count g.type (cheaper groups), length-append (group_text g) (all_texts group_text groups))
  where
    go : (n : ℕ) (t : ValueType Label) → cost (fewest groups) ≤ cost groups → cost (groups_of (replicate n t ++ locals_of groups)) ≤ length (group_text (record { count = n; type = t })) + cost groups
    go zero t le = omega arith
    go (suc n) t le = omega (arith, ap cost (grown_is n t (locals_of groups)), grown_cost n t (fewest groups))

-- ---- groups within the limits

abbrev IsWritten : Bool → ValueType Label → Type 0
IsWritten ct t = value_type ct (type_byte t) ≡ Ok t

type_written : (ct : Bool) (text : List ℕ) (t : ValueType Label) → IsValueType ct text t → IsWritten ct t
type_written ct text t m = ap (value_type ct) (value_type_byte ct m.0 t m.2) ∙ m.2

group_written : (ct : Bool) (c : Count) (text : List ℕ) (g : Group) → IsGroup ct c text g → IsWritten ct g.type
group_written ct c text g m = subst (λ (h : Group). IsWritten ct h.type) m.4.2 (type_written ct m.2 m.4.0 m.4.1)

all_locals : (ct : Bool) (groups : List Group) → All (λ g. IsWritten ct g.type) groups → All (IsWritten ct) (locals_of groups)
all_locals ct [] h = All-nil (IsWritten ct)
all_locals ct (g ∷ groups) h =
    All-append (IsWritten ct) (replicate g.count g.type) (locals_of groups) (All-replicate (IsWritten ct) g.count g.type (All-head (λ k. IsWritten ct k.type) g groups h)) (all_locals ct groups (All-tail (λ k. IsWritten ct k.type) g groups h))

all_before : (ct : Bool) (t : ValueType Label) (groups : List Group) → IsWritten ct t → All (λ g. IsWritten ct g.type) groups → All (λ g. IsWritten ct g.type) (local_before t groups)
all_before ct t [] w h = All-cons (λ g. IsWritten ct g.type) (record { count = 1; type = t }) [] w h
all_before ct t (g ∷ groups) w h = go (same_type t g.type)
  where
    go : (test : Bool) → All (λ k. IsWritten ct k.type) (cond test (record { count = suc g.count; type = g.type } ∷ groups) (record { count = 1; type = t } ∷ g ∷ groups))
    go true = All-cons (λ k. IsWritten ct k.type) (record { count = suc g.count; type = g.type }) groups (All-head (λ k. IsWritten ct k.type) g groups h) (All-tail (λ k. IsWritten ct k.type) g groups h)
    go false = All-cons (λ k. IsWritten ct k.type) (record { count = 1; type = t }) (g ∷ groups) w h

all_groups : (ct : Bool) (types : List (ValueType Label)) → All (IsWritten ct) types → All (λ g. IsWritten ct g.type) (groups_of types)
all_groups ct [] h = All-nil (λ (g : Group). IsWritten ct g.type)
all_groups ct (t ∷ types) h = all_before ct t (groups_of types) (All-head (IsWritten ct) t types h) (all_groups ct types (All-tail (IsWritten ct) t types h))

-- so many more locals are within the limits
record Fits (c : Count) (more : ℕ) : Type 0 where
  own : c.own + more ≤ most_locals
  all : c.all + more ≤ most_locals_of_all

-- the limits are looked at where there is a group
abbrev RoomFor : Count → List Group → Type 0
RoomFor c [] = Unit {0}
RoomFor c (g ∷ groups) = Fits c (length (locals_of (g ∷ groups)))

length-replicate_local : (n : ℕ) (t : ValueType Label) → length (replicate n t) ≡ n
length-replicate_local zero t = refl
length-replicate_local (suc n) t = ap suc (length-replicate_local n t)

locals_length : (g : Group) (groups : List Group) → length (locals_of (g ∷ groups)) ≡ g.count + length (locals_of groups)
locals_length g groups = omega (arith, length-append (replicate g.count g.type) (locals_of groups), length-replicate_local g.count g.type)

room_behind : (c : Count) (g : Group) (groups : List Group) → Fits c g.count → RoomFor (count_after c g) groups → Fits c (length (locals_of (g ∷ groups)))
room_behind c g [] f h =
    let e = locals_length g [] in
    record { own = omega (arith, f.own, e); all = omega (arith, f.all, e) }
room_behind c g (k ∷ groups) f h =
    let e = locals_length g (k ∷ groups) in
    record { own = omega (arith, h.own, e); all = omega (arith, h.all, e) }

times_room : (ct : Bool) (n : ℕ) (c : Count) (text : List ℕ) (groups : List Group) → TimesFrom (IsGroup ct) count_after n c text groups → RoomFor c groups
times_room ct zero c text groups m = subst (RoomFor c) m.1 tt
times_room ct (suc n) c text groups m =
    let g = m.0 in
    let first = m.3 in
    let others = m.4 in
    let same : first.0 ≡ g.count = ap (λ (k : Group). k.count) first.4.2 in
    let here : Fits c g.count = record {
      own = omega (arith, leb-true (c.own + first.0) most_locals first.3.0.1, same);
      all = omega (arith, leb-true (c.all + first.0) most_locals_of_all first.3.1, same);
    } in
    let below = times_room ct n (count_after c g) others.1 others.0 others.3 in
    subst (RoomFor c) others.4.1 (room_behind c g others.0 here below)

room_after : (c : Count) (g : Group) (groups : List Group) → Fits c (length (locals_of (g ∷ groups))) → RoomFor (count_after c g) groups
room_after c g [] f = tt
room_after c g (k ∷ groups) f =
    let e = locals_length g (k ∷ groups) in
    record { own = omega (arith, f.own, e); all = omega (arith, f.all, e) }

small_count : (n : ℕ) → n ≤ most_locals → n < 2 ^ 32
unfolding most_locals
small_count n le = omega arith

group_spelled : (ct : Bool) (c : Count) (g : Group) → IsWritten ct g.type → Fits c g.count → IsGroup ct c (group_text g) g
group_spelled ct c g w f =
    let number = (u32_minimal g.count (small_count g.count (omega (arith, f.own)))).spelled in
    (g.count, u32_text g.count, type_text g.type, ((number, le-leb (c.own + g.count) most_locals f.own), le-leb (c.all + g.count) most_locals_of_all f.all), (g.type, (type_byte g.type, refl, w), refl), refl)

times_groups : (ct : Bool) (groups : List Group) (c : Count) → All (λ g. IsWritten ct g.type) groups → RoomFor c groups → TimesFrom (IsGroup ct) count_after (length groups) c (all_texts group_text groups) groups
times_groups ct [] c h r = (refl, refl)
times_groups ct (g ∷ groups) c h r =
    let e = locals_length g groups in
    let here : Fits c g.count = record { own = omega (arith, r.own, e); all = omega (arith, r.all, e) } in
    let others = times_groups ct groups (count_after c g) (All-tail (λ k. IsWritten ct k.type) g groups h) (room_after c g groups r) in
    (g, group_text g, all_texts group_text groups, group_spelled ct c g (All-head (λ k. IsWritten ct k.type) g groups h) here, (groups, all_texts group_text groups, [], others, (refl, refl), sym (append-nil (all_texts group_text groups))), refl)

room_same : (c : Count) (groups others : List Group) → locals_of others ≡ locals_of groups → length others ≤ length groups → RoomFor c groups → RoomFor c others
room_same c groups [] e le r = tt
room_same c [] (k ∷ others) e le r = absurd (omega arith)
room_same c (g ∷ groups) (k ∷ others) e le r = subst (Fits c) (ap length (sym e)) r

settles_group : (ct : Bool) (c : Count) → Settles [] (IsGroup ct c) group_text
settles_group ct c =
    settles_then [] (Passing (room_for most_locals_of_all c.all) (Passing (room_for most_locals c.own) IsU32)) _ u32_text group_text
    (settles_passing [] (room_for most_locals_of_all c.all) (Passing (room_for most_locals c.own) IsU32) u32_text (settles_passing [] (room_for most_locals c.own) IsU32 u32_text settles_number)) (λ count.
    settles_mapped (u32_text count) (group_of count) (IsValueType ct) type_text group_text (settles_type ct) (λ type. refl))

-- the fewest groups are spelled where any groups are
pub groups_settled : (ct : Bool) (all : ℕ) (text : List ℕ) (groups : List Group) → IsGroups ct all text groups
    → IsGroups ct all (vector_text group_text (fewest groups)) (fewest groups) × (length (vector_text group_text (fewest groups)) ≤ length text)
groups_settled ct all text groups m =
    let c : Count = record { own = 0; all = all } in
    let written : All (λ g. IsWritten ct g.type) groups = all_times (IsGroup ct) count_after (λ g. IsWritten ct g.type) (group_written ct) m.0 c m.2 groups m.4 in
    let counted : length groups ≡ m.0 = times_count (IsGroup ct) count_after m.0 c m.2 groups m.4 in
    let room = room_same c groups (fewest groups) (groups_locals (locals_of groups)) (fewer groups) (times_room ct m.0 c m.2 groups m.4) in
    let others = times_groups ct (fewest groups) c (all_groups ct (locals_of groups) (all_locals ct groups written)) room in
    let short = (settles_times (IsGroup ct) count_after group_text (settles_group ct) m.0 c).settled m.2 groups m.4 in
    let number = short_number m.1 m.0 (length (fewest groups)) m.3 (omega (arith, fewer groups, counted)) in
    let texts = all_texts group_text (fewest groups) in (
      (length (fewest groups), u32_text (length (fewest groups)), texts, number.0, others, refl),
      omega (arith, length-append (u32_text (length (fewest groups))) texts, ap length m.5, length-append m.1 m.2, number.1, cheaper groups, ap length short.3, short.2),
    )

-- ---- code entries

-- the same code entry in its canonical spelling
abbrev pub settled_entry : Entry → Entry
settled_entry e = record { groups = fewest e.groups; code = body_text e.body; body = e.body }

abbrev pub entry_text : Entry → List ℕ
entry_text e = sized_text (vector_text group_text (fewest e.groups) ++ body_text e.body)

pub entry_settled : (ct : Bool) (all : ℕ) (text : List ℕ) (e : Entry) → IsEntry ct all text e → IsEntry ct all (entry_text e) (settled_entry e) × (length (entry_text e) ≤ length text)
entry_settled ct all text e m =
    let inside = m.4.1 in
    let code = inside.4 in
    let g = groups_settled ct all inside.1 inside.0 inside.3 in
    let b = (settles_body ct).settled inside.2 code.0.1 code.1.1 in
    let body : IsFormBody ct (body_text code.0.1) code.0.1 = subst (λ (l : List ℕ). IsFormBody ct l code.0.1) (sym b.3) b.1 in
    let groups_short = vector_text group_text (fewest inside.0) in
    let short = groups_short ++ body_text code.0.1 in
    let read : Entry = code_entry inside.0 code.0 in
    let made : EntryInsides ct all short (settled_entry read) = (fewest inside.0, groups_short, body_text code.0.1, g.0, ((body_text code.0.1, code.0.1), (refl, body), refl), refl) in
    let size : length short ≤ length m.2 = omega (arith, length-append groups_short (body_text code.0.1), ap length inside.5, length-append inside.1 inside.2, g.1, b.2, ap length b.3) in
    let s = sized_short (EntryInsides ct all) (EntryInsides ct all) text short e (settled_entry read) m made size in
    subst (λ (x : Entry). IsEntry ct all (entry_text x) (settled_entry x) × (length (entry_text x) ≤ length text)) code.2 s

pub entries_settled : (ct : Bool) (n all : ℕ) (text : List ℕ) (entries : List Entry) → TimesFrom (IsEntry ct) all_after n all text entries
    → TimesFrom (IsEntry ct) all_after n all (all_texts entry_text entries) (map settled_entry entries) × (length (all_texts entry_text entries) ≤ length text)
entries_settled ct zero all text entries m =
    subst (λ (l : List Entry). TimesFrom (IsEntry ct) all_after zero all (all_texts entry_text l) (map settled_entry l) × (length (all_texts entry_text l) ≤ length text)) m.1 ((refl, refl), omega arith)
entries_settled ct (suc n) all text entries m =
    let e = m.0 in
    let others = m.4 in
    let f = entry_settled ct all m.1 e m.3 in
    let same : all_after all (settled_entry e) ≡ all_after all e = ap (λ (l : List (ValueType Label)). all + length l) (groups_locals (locals_of e.groups)) in
    let r = entries_settled ct n (all_after all e) others.1 others.0 others.3 in
    let texts = all_texts entry_text others.0 in
    let below = subst (λ (k : ℕ). TimesFrom (IsEntry ct) all_after n k texts (map settled_entry others.0)) (sym same) r.0 in
    let size : length (entry_text e ++ texts) ≤ length text = omega (arith, length-append (entry_text e) texts, ap length m.5, length-append m.1 m.2, ap length others.5, length-append others.1 others.2, f.1, r.1) in
    subst (λ (l : List Entry). TimesFrom (IsEntry ct) all_after (suc n) all (all_texts entry_text l) (map settled_entry l) × (length (all_texts entry_text l) ≤ length text)) others.4.1
    ((settled_entry e, entry_text e, texts, f.0, (map settled_entry others.0, texts, [], below, (refl, refl), sym (append-nil texts)), refl), size)

pub codes_settled : (ct : Bool) (owed : ℕ) (text : List ℕ) (entries : List Entry) → IsCodes ct owed text entries
    → IsCodes ct owed (vector_text entry_text entries) (map settled_entry entries) × (length (vector_text entry_text entries) ≤ length text)
codes_settled ct owed text entries m =
    let counted : length entries ≡ m.0 = times_count (IsEntry ct) all_after m.0 0 m.2 entries m.4 in
    let number = short_number m.1 m.0 (length entries) m.3.0 (omega (arith, counted)) in
    let test : (length entries == owed) ≡ true = subst (λ (k : ℕ). (k == owed) ≡ true) (sym counted) m.3.1 in
    let r = entries_settled ct m.0 0 m.2 entries m.4 in
    let texts = all_texts entry_text entries in
    let items = subst (λ (k : ℕ). TimesFrom (IsEntry ct) all_after k 0 texts (map settled_entry entries)) (sym counted) r.0 in (
      (length entries, u32_text (length entries), texts, (number.0, test), items, refl),
      omega (arith, length-append (u32_text (length entries)) texts, ap length m.5, length-append m.1 m.2, number.1, r.1),
    )

-- ---- locals within the limits

before_few : (t : ValueType Label) (groups : List Group) → length (local_before t groups) ≤ suc (length groups)
before_few t [] = omega arith
before_few t (g ∷ groups) = go (same_type t g.type)
  where
    go : (test : Bool) → length (cond test (record { count = suc g.count; type = g.type } ∷ groups) (record { count = 1; type = t } ∷ g ∷ groups)) ≤ suc (suc (length groups))
    go true = omega arith
    go false = omega arith

groups_few : (types : List (ValueType Label)) → length (groups_of types) ≤ length types
groups_few [] = omega arith
groups_few (t ∷ types) = omega (arith, before_few t (groups_of types), groups_few types)

room_of : (c : Count) (groups : List Group) → Fits c (length (locals_of groups)) → RoomFor c groups
room_of c [] f = tt
room_of c (g ∷ groups) f = f

-- the fewest groups of locals are spelled where these are within the limits
pub groups_spelled : (ct : Bool) (all : ℕ) (types : List (ValueType Label)) → All (λ t. value_type ct (type_byte t) ≡ Ok t) types → length types ≤ most_locals → all + length types ≤ most_locals_of_all
    → IsGroups ct all (vector_text group_text (groups_of types)) (groups_of types)
groups_spelled ct all types w own total =
    let c : Count = record { own = 0; all = all } in
    let groups = groups_of types in
    let number = (u32_minimal (length groups) (small_count (length groups) (omega (arith, groups_few types)))).spelled in
    let fits : Fits c (length (locals_of groups)) = subst (λ (l : List (ValueType Label)). Fits c (length l)) (sym (groups_locals types)) (record { own = omega arith; all = total }) in
    (length groups, u32_text (length groups), all_texts group_text groups, number, times_groups ct groups c (all_groups ct types w) (room_of c groups fits), refl)

-- the locals of groups that are spelled are within the limits
pub groups_limited : (ct : Bool) (all : ℕ) (text : List ℕ) (groups : List Group) → IsGroups ct all text groups → (length (locals_of groups) ≤ most_locals) × (all ≤ most_locals_of_all → all + length (locals_of groups) ≤ most_locals_of_all)
groups_limited ct all text groups m =
    let c : Count = record { own = 0; all = all } in
    go c groups (times_room ct m.0 c m.2 groups m.4)
  where
    go : (c : Count) (groups : List Group) → RoomFor c groups → (length (locals_of groups) ≤ most_locals) × (c.all ≤ most_locals_of_all → c.all + length (locals_of groups) ≤ most_locals_of_all)
    go c [] r = (omega arith, λ le. omega arith)
    go c (g ∷ groups) r = (omega (arith, r.own), λ le. r.all)
