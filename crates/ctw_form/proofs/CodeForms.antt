-- The readers of instructions, locals and code entries are exact.
use Rattle.std.proofs.Common.{◌≡◌, ℕ, ◌+◌, Bool, true, false, inl, inr, List, [], ◌∷◌, ◌++◌, length, Option, Some, None, Result, Ok, refl, sym, ap, subst, ◌∙◌}
use Rattle.std.specs.Prelude.{◌==◌}
use Rattle.std.specs.List.{list_all}
use Rattle.std.proofs.lemmas.Bool.{and_parts}
use Rattle.ctw_ops.specs.declared.types.Label.{Label}
use Rattle.ctw_ops.specs.declared.fault.What.TheVariants as what
use Rattle.ctw_ops.specs.Code.{Code, Op, opcodes}
use Rattle.ctw_ops.specs.Segments.{nested}
use Rattle.ctw_ops.proofs.Segments.{nested_opcodes, opcodes_nested}
use Rattle.ctw_leb.specs.Grammar.{Grammar, Items, TimesFrom, Passing, Mapped, ◌>>=◌}
use Rattle.ctw_leb.specs.Input.{Input}
use Rattle.ctw_leb.specs.Numbers.{IsU32}
use Rattle.ctw_leb.specs.Reading.{WholeReader, Exact, Whole, items, faulted, refused, times_from, mapped}
use Rattle.ctw_leb.proofs.Exact.{ok_is, err_ok, chain_ok}
use Rattle.ctw_leb.proofs.Combinators.{IsFilled, exact_then, exact_times_from, exact_tested, exact_seen_as, exact_faulted, whole_items, whole_then, whole_mapped}
use Rattle.ctw_flat.specs.Spelled.{IsOps}
use Rattle.ctw_flat.specs.Bodies.{opened_by, own_body, IsStep, step_at}
use Rattle.ctw_flat.proofs.Bodies.{not_deep, exact_step, step_filled, steps_are, are_steps, Allowed, allowed_steps, allowed_body, body_limited}
use Rattle.ctw_form.specs.declared.fault.FormKind.TheVariants.{CountMismatch, Unbalanced, LabelsInPlain}
use Rattle.ctw_form.specs.declared.fault.FormFault.{FormFault}
use Rattle.ctw_ops.specs.Limits.{most_locals, most_locals_of_all}
use Rattle.ctw_form.specs.Limits.{room_for}
use Rattle.ctw_form.specs.Sections.{Entry}
use Rattle.ctw_ops.specs.Plain.{is_plain_op, fits}
use Rattle.ctw_form.specs.Spelled.{Count, count_after, group_of, IsGroup, IsGroups, IsFormBody, Kept, code_entry, IsEntry, all_after, IsCodes, IsValueType}
use Rattle.ctw_form.specs.Read.{fault, of_code, number_at, limited, value_type_at, label_place, label_at, unless_label, form_step_at, settled, form_body_at, kept, group_count_at, group_at, groups_at, entry_insides_at, code_entry_at, owed_at, codes_at}
use Rattle.ctw_form.proofs.TypeForms.{exact_number, exact_limited, exact_sized_at, exact_value_type}
use Rattle.ctw_form.proofs.PlainCodes.{op_marked}

-- ---- one step

-- an opcode that may stand where so much is open, in a CT module or in a plain one
abbrev pub IsFormStep : Bool → List Bool → Grammar (Op Label)
IsFormStep ct around text op = IsStep around text op × (fits ct op ≡ true)

exact_any_step : (around : List Bool) → Exact (IsStep around) (faulted (λ i. of_code) (step_at around))
exact_any_step around = exact_faulted (λ i. of_code) (IsStep around) (step_at around) (exact_step around)

unlabelled : {X : Type 0} (l : Option ℕ) (r : Result X FormFault) (x : X) → unless_label l r ≡ Ok x → (l ≡ None) × (r ≡ Ok x)
unlabelled None r x e = (refl, e)
unlabelled (Some place) r x e = absurd (err_ok (fault LabelsInPlain place) x e)

no_more : {A : Type 0} (x : A) → Some x ≡ None → ⊥
no_more x e = cc

-- in a plain module, the place of a label where an opcode may stand
label_there : (b : Bool) (outer : List Bool) (at : ℕ) (text rest : List ℕ) (op : Op Label) → IsStep (b ∷ outer) text op → label_at false (b ∷ outer) (record { at = at; rest = text ++ rest }) ≡ label_place at (text ++ rest)
label_there b outer at text rest op m = rw (not_deep b outer text rest op m.0 m.1) refl

plain_step : (b : Bool) (outer : List Bool) (at : ℕ) (text rest : List ℕ) (op : Op Label) → IsStep (b ∷ outer) text op → label_at false (b ∷ outer) (record { at = at; rest = text ++ rest }) ≡ None → is_plain_op op ≡ true
plain_step b outer at text rest op m e =
    elim (op_marked at text rest op m.0) [
      | inl h ↦ h.0
      | inr h ↦ absurd (no_more h.1 (sym h.2 ∙ sym (label_there b outer at text rest op m) ∙ e))
    ]

no_label : (b : Bool) (outer : List Bool) (at : ℕ) (text rest : List ℕ) (op : Op Label) → IsStep (b ∷ outer) text op → is_plain_op op ≡ true → label_at false (b ∷ outer) (record { at = at; rest = text ++ rest }) ≡ None
no_label b outer at text rest op m e =
    elim (op_marked at text rest op m.0) [
      | inl h ↦ label_there b outer at text rest op m ∙ h.1
      | inr h ↦ absurd (not_both (sym e ∙ h.0))
    ]
  where
    not_both : true ≡ false → ⊥
    not_both q = cc

pub exact_form_step : (ct : Bool) (around : List Bool) → Exact (IsFormStep ct around) (form_step_at ct around)
unfolding form_step_at
exact_form_step true around = record {
  sound = λ i op o e.
      let s = (exact_any_step around).sound i op o e in
      (s.0, (s.1, refl), s.2, s.3);
  complete = λ text rest at op m. (exact_any_step around).complete text rest at op m.0;
}
exact_form_step false [] = record {
  sound = λ i op o e.
      let s = (exact_any_step []).sound i op o e in
      absurd (not_both s.1.1);
  complete = λ text rest at op m. absurd (not_both m.0.1);
}
  where
    not_both : false ≡ true → ⊥
    not_both q = cc
exact_form_step false (b ∷ outer) = record {
  sound = λ i op o e.
      let u = unlabelled (label_at false (b ∷ outer) i) (refused of_code (step_at (b ∷ outer) i)) (op, o) e in
      let s = (exact_any_step (b ∷ outer)).sound i op o u.1 in
      let here : label_at false (b ∷ outer) (record { at = i.at; rest = s.0 ++ o.rest }) ≡ None = ap (λ (l : List ℕ). label_at false (b ∷ outer) (record { at = i.at; rest = l })) (sym s.2) ∙ u.0 in
      (s.0, (s.1, plain_step b outer i.at s.0 o.rest op s.1 here), s.2, s.3);
  complete = λ text rest at op m.
      ap (λ (l : Option ℕ). unless_label l (refused of_code (step_at (b ∷ outer) (record { at = at; rest = text ++ rest })))) (no_label b outer at text rest op m.0 m.1)
      ∙ (exact_any_step (b ∷ outer)).complete text rest at op m.0;
}

-- an opcode that fits is read as one of any module is
pub step_fits : (ct : Bool) (around : List Bool) (i o : Input) (op : Op Label) → step_at around i ≡ Ok (op, o) → fits ct op ≡ true → form_step_at ct around i ≡ Ok (op, o)
unfolding form_step_at
step_fits true around i o op e h = rw e refl
step_fits false [] i o op e h = let s = (exact_step []).sound i op o e in absurd (not_both s.1.1)
  where
    not_both : false ≡ true → ⊥
    not_both q = cc
step_fits false (b ∷ outer) i o op e h =
    let s = (exact_step (b ∷ outer)).sound i op o e in
    let none : label_at false (b ∷ outer) i ≡ None =
    ap (λ (l : List ℕ). label_at false (b ∷ outer) (record { at = i.at; rest = l })) s.2 ∙ no_label b outer i.at s.0 o.rest op s.1 h in
    rw none (ap (refused of_code) e)

-- an opcode that isn't a plain module's has a label in front
pub step_labelled : (around : List Bool) (i o : Input) (op : Op Label) → step_at around i ≡ Ok (op, o) → is_plain_op op ≡ false → (place : ℕ) × (label_place i.at i.rest ≡ Some place)
step_labelled around i o op e h =
    let s = (exact_step around).sound i op o e in
    elim (op_marked i.at s.0 o.rest op s.1.0) [
      | inl m ↦ absurd (not_both (sym h ∙ m.0))
      | inr m ↦ (m.1, ap (label_place i.at) s.2 ∙ m.2)
    ]
  where
    not_both : false ≡ true → ⊥
    not_both q = cc

pub form_step_filled : (ct : Bool) (around : List Bool) → IsFilled (IsFormStep ct around)
form_step_filled ct around op m = step_filled around op m.0

pub whole_form_steps : (ct : Bool) → Whole (Items (IsFormStep ct) opened_by own_body) (items (form_step_at ct) opened_by own_body)
whole_form_steps ct = whole_items (IsFormStep ct) (form_step_at ct) opened_by (exact_form_step ct) (form_step_filled ct) own_body

-- steps are steps of any module, each of which fits
pub form_steps_are : (ct : Bool) (around : List Bool) (text : List ℕ) (ops : List (Op Label)) → Items (IsFormStep ct) opened_by around text ops → Items IsStep opened_by around text ops × (list_all (fits ct) ops ≡ true)
form_steps_are ct around text [] m = (m, refl)
form_steps_are ct around text (op ∷ ops) m =
    let others = form_steps_are ct (opened_by around op) m.1 ops m.3 in
    ((m.0, m.1, m.2.0, others.0, m.4), rw (m.2.1, others.1) refl)

pub are_form_steps : (ct : Bool) (around : List Bool) (text : List ℕ) (ops : List (Op Label)) → Items IsStep opened_by around text ops → list_all (fits ct) ops ≡ true → Items (IsFormStep ct) opened_by around text ops
are_form_steps ct around text [] m e = m
are_form_steps ct around text (op ∷ ops) m e =
    let p = and_parts (fits ct op) (list_all (fits ct) ops) e in
    (m.0, m.1, (m.2, p.0), are_form_steps ct (opened_by around op) m.1 ops m.3 p.1, m.4)

-- ---- bodies

settled_ok : (at : ℕ) (o : Option (Code Label)) (c : Code Label) → settled at o ≡ Ok c → o ≡ Some c
settled_ok at (Some d) c e = ap (λ (x : Code Label). Some x) (ok_is {F = FormFault} d c e)
settled_ok at None c e = absurd (err_ok (fault Unbalanced at) c e)

pub whole_form_body : (ct : Bool) → Whole (IsFormBody ct) (form_body_at ct)
unfolding form_body_at
whole_form_body ct = record {
  sound = λ i c e.
      let h = chain_ok (items (form_step_at ct) opened_by own_body i) (λ ops. settled (i.at + length i.rest) (nested ops)) c e in
      let n = settled_ok (i.at + length i.rest) (nested h.0) c h.2 in
      let same = opcodes_nested h.0 c n in
      let read = form_steps_are ct own_body i.rest h.0 ((whole_form_steps ct).sound i h.0 h.1) in
      let m = subst (λ (ops : List (Op Label)). IsOps i.rest ops) same (steps_are own_body i.rest h.0 read.0) in
      let a = subst (λ (ops : List (Op Label)). Allowed own_body ops) same (allowed_steps own_body i.rest h.0 read.0) in
      ((m, body_limited c a), ap (list_all (fits ct)) (sym same) ∙ read.1);
  complete = λ i c m.
      let steps = are_steps own_body i.rest (opcodes c) m.0.0 (allowed_body c m.0.1) in
      let h = (whole_form_steps ct).complete i (opcodes c) (are_form_steps ct own_body i.rest (opcodes c) steps m.1) in
      rw (h, nested_opcodes c) refl;
}

pub whole_kept : {A : Type 0} (G : Grammar A) (r : WholeReader A FormFault) → Whole G r → Whole (Kept G) (kept r)
whole_kept {A} G r g = record {
  sound = λ i x e.
      let c = chain_ok (r i) (λ a. Ok (i.rest, a)) x e in
      let q : (i.rest, c.0) ≡ x = ok_is {F = FormFault} (i.rest, c.0) x c.2 in
      (ap (λ (z : List ℕ × A). z.0) q, subst (λ (a : A). G i.rest a) (ap (λ (z : List ℕ × A). z.1) q) (g.sound i c.0 c.1));
  complete = λ i x m. rw (g.complete i x.1 m.1, m.0) refl;
}

-- ---- locals and entries

pub exact_group_count : (c : Count) → Exact (Passing (room_for most_locals_of_all c.all) (Passing (room_for most_locals c.own) IsU32)) (group_count_at c)
unfolding group_count_at
exact_group_count c =
    exact_limited (room_for most_locals_of_all c.all) what.Locals most_locals_of_all (Passing (room_for most_locals c.own) IsU32) (limited (room_for most_locals c.own) what.Locals most_locals number_at)
    (exact_limited (room_for most_locals c.own) what.Locals most_locals IsU32 number_at exact_number)

pub exact_group : (ct : Bool) (c : Count) → Exact (IsGroup ct c) (group_at ct c)
unfolding group_at
exact_group ct c =
    exact_then (Passing (room_for most_locals_of_all c.all) (Passing (room_for most_locals c.own) IsU32)) _ (group_count_at c) _ (exact_group_count c)
    (λ count. exact_seen_as (group_of count) (IsValueType ct) (value_type_at ct) (exact_value_type ct))

pub exact_groups : (ct : Bool) (all : ℕ) → Exact (IsGroups ct all) (groups_at ct all)
unfolding groups_at
exact_groups ct all = exact_then IsU32 _ number_at _ exact_number (λ n. exact_times_from (IsGroup ct) (group_at ct) count_after n (record { own = 0; all = all }) (exact_group ct))

-- the locals of an entry, and its instructions with their bytes
abbrev pub EntryInsides : Bool → ℕ → Grammar Entry
EntryInsides ct all = IsGroups ct all >>= λ groups. Mapped (code_entry groups) (Kept (IsFormBody ct))

pub whole_entry_insides : (ct : Bool) (all : ℕ) → Whole (EntryInsides ct all) (entry_insides_at ct all)
unfolding entry_insides_at
whole_entry_insides ct all =
    whole_then (IsGroups ct all) (λ groups. Mapped (code_entry groups) (Kept (IsFormBody ct))) (groups_at ct all) (λ groups. mapped (code_entry groups) (kept (form_body_at ct))) (exact_groups ct all)
    (λ groups. whole_mapped (code_entry groups) (Kept (IsFormBody ct)) (kept (form_body_at ct)) (whole_kept (IsFormBody ct) (form_body_at ct) (whole_form_body ct)))

pub exact_code_entry : (ct : Bool) (all : ℕ) → Exact (IsEntry ct all) (code_entry_at ct all)
unfolding code_entry_at
exact_code_entry ct all = exact_sized_at (EntryInsides ct all) (entry_insides_at ct all) (whole_entry_insides ct all)

pub exact_owed : (owed : ℕ) → Exact (Passing (λ n. n == owed) IsU32) (owed_at owed)
unfolding owed_at
exact_owed owed = exact_tested (λ n. n == owed) (fault CountMismatch) IsU32 number_at exact_number

pub exact_codes : (ct : Bool) (owed : ℕ) → Exact (IsCodes ct owed) (codes_at ct owed)
unfolding codes_at
exact_codes ct owed =
    exact_then (Passing (λ n. n == owed) IsU32) (λ n. TimesFrom (IsEntry ct) all_after n 0) (owed_at owed) (λ n. times_from (code_entry_at ct) all_after n 0) (exact_owed owed)
    (λ n. exact_times_from (IsEntry ct) (code_entry_at ct) all_after n 0 (exact_code_entry ct))
