-- A labelling obeys a module's links just where it is orderly, the placed module is valid, and the table users are alike; over any naming of labelled types.
use Rattle.std.proofs.Common.{◌≡◌, ℕ, true, List, ◌++◌, sym, ◌∙◌}
use Rattle.std.specs.Prelude.{◌↔◌}
use Rattle.std.specs.List.{AllByRecursion}
use Rattle.std.proofs.lemmas.List.Elements.{recursion_from_All, All-from_recursion}
use Rattle.ctw_ops.specs.declared.types.Label.{Label}
use Rattle.ctw_ops.specs.declared.types.Label.TheVariants.{Secret}
use Rattle.ctw_ops.specs.Types.{FunctionType}
use Rattle.ctw_ops.specs.Tree.{TypeEntry, Module}
use Rattle.ctw_ops.specs.Bodies.{HasItsType}
use Rattle.ctw_ops.specs.Valid.{AreTypes, IsGlobal, IsOffset, IsElement, IsSegment, IsValid}
use Rattle.ctw_labels.specs.Names.{Tag}
use Rattle.ctw_labels.specs.Points.{Points, AreReleases}
use Rattle.ctw_labels.specs.Kept.{IsKept}
use Rattle.ctw_labels.specs.Links.{Fact, Link, Must, links_of, links_up, at_tag, Obeys}
use Rattle.ctw_ops.specs.Plain.{IsPlainModule}
use Rattle.ctw_labels.specs.SitedModule.{sited_globals, first_defined_global, bodies}
use Rattle.ctw_labels.specs.ModuleLinks.{users, user_facts, init_facts, offset_facts, facts_within, lifts_within, offsets, module_facts, links, musts}
use Rattle.ctw_labels.specs.Placed.{placed_module, IsOrderly, AreUsersAlike}
use Rattle.ctw_labels.proofs.FactLaws.{all_hold, hold_append}
use Rattle.ctw_labels.proofs.NumberLaws.{all_append_to, all_append_from}
use Rattle.ctw_labels.proofs.ObeyLaws.{and_parts, and_both, like, facts_to, facts_from, lifts_to, lifts_from}
use Rattle.ctw_labels.proofs.UserLaws.{users_hold, users_alike}
use Rattle.ctw_labels.proofs.BodyLaws.{IsNaming, own_types, IsGood, good, bodies_to, bodies_from_facts, all_allow, lifts_rise, orderly_bodies, lifts_go}
use Rattle.ctw_labels.proofs.GlobalLaws.{IsGoodInit, IsGoodOffset, inits_good, offsets_good, inits_from, inits_to, offsets_from, offsets_to}
use Rattle.ctw_labels.proofs.AroundLaws.{around_valid, offsets_of}
use Rattle.ctw_labels.proofs.FormedLaws.{formed_placed}
use Rattle.ctw_labels.proofs.Trusts.{users_untrusted}

split_obeys : (l : ℕ → Label) (ks bs : List Link) (ms : List Must) → Obeys l (ks ++ bs) ms → AllByRecursion (λ k. l k.from ≡ Secret → l k.to ≡ Secret) ks × Obeys l bs ms
split_obeys l ks bs ms o = let p = all_append_from (λ k. l k.from ≡ Secret → l k.to ≡ Secret) ks bs o.0 in (p.0, (p.1, o.1))

module _ (m : Module Label) (plain : IsPlainModule m) (valid : IsValid m) (p : Points) (releases : AreReleases p) (kept : IsKept m p) (l : ℕ → Label) (T : List (TypeEntry Label)) (name : ℕ → FunctionType Label → ℕ) (types : AreTypes T) (naming : IsNaming (at_tag l) T name m p) where
  abbrev M : Module Label
  M = placed_module (at_tag l) name m p T

  abbrev F1 : List (Fact Tag)
  F1 = facts_within m p (bodies m p)

  abbrev F2 : List (Fact Tag)
  F2 = user_facts (users m p) (users m p)

  abbrev F3 : List (Fact Tag)
  F3 = init_facts (sited_globals m) (first_defined_global m) m.globals

  abbrev F4 : List (Fact Tag)
  F4 = offset_facts (sited_globals m) (offsets m)

  good_bodies : AllByRecursion (IsGood m plain valid p) (bodies m p)
  good_bodies = good m plain valid p releases

  good_inits : AllByRecursion (λ g. IsGoodInit m g.type.value g.init) m.globals
  good_inits = inits_good m m.globals (recursion_from_All (IsGlobal m) m.globals valid.around.globals)

  plain_offsets : AllByRecursion (IsOffset m) (offsets m)
  plain_offsets = offsets_of (at_tag l) T name m p naming m (recursion_from_All (IsElement m) m.elements valid.around.elements) (recursion_from_All (IsSegment m) m.segments valid.around.segments)

  good_offsets : AllByRecursion (IsGoodOffset m) (offsets m)
  good_offsets = offsets_good m (offsets m) plain_offsets

  pub table_to : Obeys l (links m p) (musts m p) → IsOrderly (at_tag l) m p × IsValid M × AreUsersAlike (at_tag l) m p
  table_to o =
      let s = split_obeys l (links_up (lifts_within (bodies m p))) (links_of (module_facts m p)) (musts m p) o in
      let h : all_hold (like l) (F1 ++ (F2 ++ (F3 ++ F4))) ≡ true = facts_from l (module_facts m p) s.1 in
      let a = and_parts (all_hold (like l) F1) (all_hold (like l) (F2 ++ (F3 ++ F4))) (sym (hold_append (like l) F1 (F2 ++ (F3 ++ F4))) ∙ h) in
      let b = and_parts (all_hold (like l) F2) (all_hold (like l) (F3 ++ F4)) (sym (hold_append (like l) F2 (F3 ++ F4)) ∙ a.1) in
      let c = and_parts (all_hold (like l) F3) (all_hold (like l) F4) (sym (hold_append (like l) F3 F4) ∙ b.1) in
      let ord : IsOrderly (at_tag l) m p = orderly_bodies l (bodies m p) (lifts_from l (lifts_within (bodies m p)) (lifts_go l T name m p naming plain valid (bodies m p) good_bodies) s.0) in
      let inits : AllByRecursion (IsGlobal M) M.globals = inits_from l T name m p (first_defined_global m) m.globals good_inits c.0 in
      let offs : AllByRecursion (IsOffset M) (offsets m) = offsets_from l T name m p (offsets m) good_offsets c.1 in
      let typed : AllByRecursion (HasItsType M) M.functions = bodies_from_facts l T name m p naming plain valid (bodies m p) good_bodies (own_types (at_tag l) T name m p naming) (all_allow l T name m p naming kept) naming.codes ord a.0 in (
        ord,
        record { formed = formed_placed (at_tag l) name m p T valid.formed; around = around_valid (at_tag l) T name m p naming types valid.around inits offs; bodies = All-from_recursion (HasItsType M) M.functions typed },
        users_alike (at_tag l) (users m p) (users_untrusted m p) b.0,
      )

  pub table_from : IsOrderly (at_tag l) m p × IsValid M × AreUsersAlike (at_tag l) m p → Obeys l (links m p) (musts m p)
  table_from (ord, v, u) =
      let a : all_hold (like l) F1 ≡ true = bodies_to l T name m p naming plain valid (bodies m p) good_bodies (own_types (at_tag l) T name m p naming) (all_allow l T name m p naming kept) naming.codes ord (recursion_from_All (HasItsType M) M.functions v.bodies) in
      let b : all_hold (like l) F2 ≡ true = users_hold (at_tag l) (users m p) u in
      let c : all_hold (like l) F3 ≡ true = inits_to l T name m p (first_defined_global m) m.globals good_inits (recursion_from_All (IsGlobal M) M.globals v.around.globals) in
      let offs : AllByRecursion (IsOffset M) (offsets m) = offsets_of (at_tag l) T name m p naming M (recursion_from_All (IsElement M) m.elements v.around.elements) (recursion_from_All (IsSegment M) m.segments v.around.segments) in
      let d : all_hold (like l) F4 ≡ true = offsets_to l T name m p (offsets m) good_offsets offs in
      let h : all_hold (like l) (F1 ++ (F2 ++ (F3 ++ F4))) ≡ true =
      hold_append (like l) F1 (F2 ++ (F3 ++ F4)) ∙ and_both (all_hold (like l) F1) (all_hold (like l) (F2 ++ (F3 ++ F4))) a (hold_append (like l) F2 (F3 ++ F4) ∙ and_both (all_hold (like l) F2) (all_hold (like l) (F3 ++ F4)) b (hold_append (like l) F3 F4 ∙ and_both (all_hold (like l) F3) (all_hold (like l) F4) c d)) in
      let r = facts_to l (module_facts m p) h in
      (all_append_to _ (links_up (lifts_within (bodies m p))) (links_of (module_facts m p)) (lifts_to l (lifts_within (bodies m p)) (lifts_rise l (bodies m p) ord)) r.0, r.1)

  pub table_right : Obeys l (links m p) (musts m p) ↔ (IsOrderly (at_tag l) m p × IsValid M × AreUsersAlike (at_tag l) m p)
  table_right = (table_to, table_from)
