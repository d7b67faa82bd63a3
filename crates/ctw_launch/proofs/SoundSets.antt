-- A matching set of valid modules gives a sound set of function instances, over each shape that is its own.
use Rattle.std.proofs.Common.{◌≡◌, ◌<◌, ℕ, Bool, true, cond, List, [], filter_map, slice_get, Option, Some, None, is_some, option_map, unwrap_or, All, Contains, refl, sym, ap, subst, ◌∙◌}
use Rattle.std.proofs.lemmas.Bool.{eq-eqb}
use Rattle.std.proofs.lemmas.List.Elements.{All-map, All-weaker, All-contains_itself, All-contains}
use Rattle.std.proofs.lemmas.Option.{slice_get-map, same_Some}
use Rattle.ctw_ops.specs.declared.types.Label.{Label}
use Rattle.ctw_ops.specs.declared.types.ExternTag.TheVariants as tag
use Rattle.ctw_ops.specs.Types.{FunctionType, MemoryType, EraseAlike}
use Rattle.ctw_ops.specs.Tree.{Module, Function, Element, TypeEntry, memory_among, table_among, function_entries, global_types, no_function_type, type_named}
use Rattle.ctw_ops.specs.Bodies.{HasItsType}
use Rattle.ctw_ops.specs.IndirectCalls.{indirect_calls}
use Rattle.ctw_ops.specs.Valid.{IsValid}
use Rattle.ctw_semantics.specs.Instances.{FunctionInstance, Functions}
use Rattle.ctw_semantics.specs.Sound.{Shape, IndexesLead, FunctionTyped, UsersAlike, SoundSet}
use Rattle.ctw_semantics.specs.Modules.{instance_of, index_types}
use Rattle.ctw_ops.proofs.Lists.{all_get, map_get}
use Rattle.ctw_semantics.proofs.Modules.{typed_as_instance}
use Rattle.ctw_link.specs.Sets.{ModuleSet, defined}
use Rattle.ctw_ops.specs.ExternType.{ExternType}
use Rattle.ctw_link.specs.Externals.{offered}
use Rattle.ctw_link.specs.Numbers.{LinkedModule, exported_number, linked}
use Rattle.ctw_link.specs.Users.{element_entries, call_entries, user_entries, users_in, has_table, users_of}
use Rattle.ctw_link.specs.Matching.{AreMatching}
use Rattle.ctw_link.specs.SetInstances.{module_instance, instances_in, set_instances, IsPut, IsShapeOf, AllValid, LeadsToGlobal, LeadsTo}
use Rattle.ctw_link.proofs.LinkedParts.{Counted, all_counted}
use Rattle.ctw_link.proofs.Below.{mapped_some, part_below}
use Rattle.ctw_launch.proofs.Pairs.{paired_get, paired_back}
use Rattle.ctw_launch.proofs.Leading.{HasNamed, Leads, offer_leads}
use Rattle.ctw_launch.proofs.Parts.{valid_linked, all_lead}
use Rattle.ctw_launch.proofs.Within.{In, in_from, in_left, in_right, in_map, in_flat, in_filter, any_two, all_flat}

-- ---- bodies

some_of : {A B : Type 0} (o : Option A) (p : Option B) (b : B) → is_some p ≡ is_some o → p ≡ Some b → (a : A) × (o ≡ Some a)
some_of None p b e q = let f = sym e ∙ ap is_some q in absurd cc
some_of (Some a) p b e q = (a, refl)

indexes_lead : (fns : Functions) (shape : Shape) (q : LinkedModule) → Leads fns shape q → Counted q → IndexesLead fns shape (module_instance q) (index_types q.tree)
indexes_lead fns shape q h c = record {
  functions = λ f t e.
      let s = map_get (type_named m) (function_entries m) f t e in
      let at = paired_get (HasNamed fns m) (function_entries m) q.numbers.functions f s.0 h.functions s.1 in
      (at.0, at.2.0, at.1, at.2.1, at.2.2 ∙ s.2);
  globals = λ x t e. paired_get (LeadsToGlobal shape) (global_types m) q.numbers.globals x t h.globals e;
  memory = λ l e.
      let s = mapped_some (λ (t : MemoryType Label). t.tag) (memory_among m.imports m.memory) l e in
      let at = h.memory s.0 s.1 in
      (at.0, at.2.0, at.1, at.2.1, at.2.2 ∙ s.2);
  table = λ t e.
      let s = some_of (table_among m.imports m.table) (slice_get q.numbers.tables 0) t c.tables e in
      let at = h.table s.0 s.1 in
      (at.2.0, ap (slice_get shape.tables) (same_Some t at.0 (sym e ∙ at.1)) ∙ at.2.1);
}
  where
    m : Module Label
    m = q.tree

function_typed : (fns : Functions) (shape : Shape) (q : LinkedModule) → Leads fns shape q → Counted q → IsValid q.tree → (f : Function Label) → HasItsType q.tree f → FunctionTyped fns shape (instance_of (module_instance q) q.tree f)
function_typed fns shape q h c v f t = record {
  names = index_types q.tree;
  leads = indexes_lead fns shape q h c;
  variants = v.around.types;
  body = typed_as_instance (module_instance q) q.tree f c.tables t;
}

part_typed : (fns : Functions) (shape : Shape) (q : LinkedModule) → Leads fns shape q → Counted q → IsValid q.tree → All (FunctionTyped fns shape) (instances_in q)
part_typed fns shape q h c v =
    All-map (FunctionTyped fns shape) (instance_of (module_instance q) q.tree) q.tree.functions
    (All-weaker (HasItsType q.tree) (λ f. FunctionTyped fns shape (instance_of (module_instance q) q.tree f)) (function_typed fns shape q h c v) q.tree.functions v.bodies)

-- ---- users of tables

type_at : (m : Module Label) (y : ℕ) (entry : TypeEntry Label) → slice_get m.types y ≡ Some entry → type_named m y ≡ entry.type
type_at m y entry e =
    ap (λ (o : Option (FunctionType Label)). unwrap_or o no_function_type) (slice_get-map (λ (entry : TypeEntry Label). entry.type) m.types y ∙ ap (option_map (λ (entry : TypeEntry Label). entry.type)) e)

-- a user of a part whose table this is, among all users of the table
user_among : (set : List LinkedModule) (t : ℕ) (q : LinkedModule) (u : FunctionType Label) → In set q → slice_get q.numbers.tables 0 ≡ Some t → In (users_in q.tree) u → In (users_of set t) u
user_among set t q u there e h =
    let has : has_table t q ≡ true = rw e (eq-eqb t t refl) in
    let here : In (cond (has_table t q) (users_in q.tree) []) u = subst (λ (b : Bool). In (cond b (users_in q.tree) []) u) (sym has) h in
    in_flat (λ (p : LinkedModule). cond (has_table t p) (users_in p.tree) []) set q u there here

call_user : (q : LinkedModule) (f : Function Label) (y : ℕ) → In q.tree.functions f → In (indirect_calls f.body) y → In (users_in q.tree) (type_named q.tree y)
call_user q f y there h =
    in_map (type_named q.tree) (user_entries q.tree) y (in_right (element_entries q.tree) (call_entries q.tree) y (in_flat (λ (f : Function Label). indirect_calls f.body) q.tree.functions f y there h))

put_user : (q : LinkedModule) (e : Element Label) (x entry : ℕ) → In q.tree.elements e → In e.functions x → slice_get (function_entries q.tree) x ≡ Some entry → In (users_in q.tree) (type_named q.tree entry)
put_user q e x entry there h named =
    let inside = in_filter (slice_get (function_entries q.tree)) e.functions x entry h named in
    in_map (type_named q.tree) (user_entries q.tree) entry (in_left (element_entries q.tree) (call_entries q.tree) entry (in_flat (λ (e : Element Label). filter_map (slice_get (function_entries q.tree)) e.functions) q.tree.elements e entry there inside))

abbrev Alike : FunctionType Label → FunctionType Label → Type 0
Alike a b = EraseAlike a b → a ≡ b

module _ (set : ModuleSet) (shape : Shape) (m : AreMatching set) (v : AllValid set) (s : IsShapeOf set shape) where
  fns : Functions
  fns = set_instances set

  lead_at : (q : LinkedModule) → In (linked set) q → Leads (set_instances set) shape q
  lead_at q i = all_get (Leads (set_instances set) shape) (linked set) i.0 q (all_lead set shape m.imports v s) i.1

  pub offers_lead : (p : LinkedModule) → Contains (linked set) p → (name : List ℕ) (got : ExternType Label) → offered p.tree name ≡ Some got → (n : ℕ) × (exported_number name p ≡ Some n) × LeadsTo (set_instances set) shape got n
  offers_lead p c name got e = offer_leads (set_instances set) shape p (lead_at p (in_from (linked set) p c)) (All-contains (λ (q : LinkedModule). IsValid q.tree) (linked set) p (valid_linked set v) c) name got e

  -- a function that is put into a table
  put_there : (p : LinkedModule) (t f : ℕ) → In (linked set) p → IsPut p t f
      → (callee : FunctionInstance) × (slice_get (set_instances set) f ≡ Some callee) × In (users_of (linked set) t) callee.type
  put_there p t f i put =
      let h = lead_at p i in
      let at = paired_back (HasNamed (set_instances set) p.tree) (function_entries p.tree) p.numbers.functions put.index f h.functions put.number in
      let user = put_user p put.element put.index at.0 (in_from p.tree.elements put.element put.among) (in_from put.element.functions put.index put.inside) at.1 in
      (at.2.0, at.2.1, subst (In (users_of (linked set) t)) (sym at.2.2) (user_among (linked set) t p (type_named p.tree at.0) i put.table user))

  users_alike : (q : LinkedModule) → In (linked set) q → (f : Function Label) → In q.tree.functions f → UsersAlike (set_instances set) shape (instance_of (module_instance q) q.tree f)
  users_alike q i f j t y n table entry callee et tab c ec cy ee same =
      let put = s.entries t n table tab c in
      let there = put_there put.0 t n (in_from (linked set) put.0 put.1) put.2 in
      let is : there.0 ≡ callee = same_Some there.0 callee (sym there.1 ∙ ec) in
      let one : In (users_of (linked set) t) callee.type = subst (λ (g : FunctionInstance). In (users_of (linked set) t) g.type) is there.2 in
      let other : In (users_of (linked set) t) entry.type =
      subst (In (users_of (linked set) t)) (type_at q.tree y entry ee) (user_among (linked set) t q (type_named q.tree y) i et (call_user q f y j (in_from (indirect_calls f.body) y cy))) in
      let below : t < defined tag.Table set = all_get (λ n. n < defined tag.Table set) q.numbers.tables 0 t (part_below tag.Table set i.0 q m i.1) et in
      any_two Alike (users_of (linked set) t) callee.type entry.type (λ x e. refl) (λ x y h e. sym (h (sym e))) (m.tables t below) one other same

  pub sound_set : SoundSet (set_instances set) shape
  sound_set = record {
    bodies = all_flat (FunctionTyped (set_instances set) shape) instances_in (linked set)
        (λ k d lt. part_typed (set_instances set) shape _ (all_lead set shape m.imports v s k d lt) (all_counted set k d lt) (valid_linked set v k d lt));
    users = all_flat (UsersAlike (set_instances set) shape) instances_in (linked set)
        (All-weaker (Contains (linked set)) (λ q. All (UsersAlike (set_instances set) shape) (instances_in q)) (λ q c. All-map (UsersAlike (set_instances set) shape) (instance_of (module_instance q) q.tree) q.tree.functions
        (All-weaker (Contains q.tree.functions) (λ f. UsersAlike (set_instances set) shape (instance_of (module_instance q) q.tree f)) (λ f d. users_alike q (in_from (linked set) q c) f (in_from q.tree.functions f d)) q.tree.functions (All-contains_itself q.tree.functions)))
        (linked set) (All-contains_itself (linked set)));
    entries = λ t f table e c.
        let put = s.entries t f table e c in
        let there = put_there put.0 t f (in_from (linked set) put.0 put.1) put.2 in
        (there.0, there.1);
  }
