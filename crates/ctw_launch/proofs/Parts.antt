-- All parts of a matching set of valid modules lead where they say.
use Rattle.std.proofs.Common.{◌≡◌, ℕ, ◌+◌, List, [], ◌∷◌, ◌++◌, length, map, flat_map, fold, slice_get, Option, Some, None, option_map, All, refl, sym, ap, subst, ◌∙◌, append_assoc, append-nil, arith}
use Rattle.std.proofs.lemmas.List.{length-map}
use Rattle.std.proofs.lemmas.List.Elements.{All-nil, All-cons, All-head, All-tail, All-push, All-weaker}
use Rattle.std.proofs.lemmas.List.Sums.{fold-append}
use Rattle.std.proofs.lemmas.Option.{slice_get-map}
use Rattle.ctw_ops.specs.declared.types.Label.{Label}
use Rattle.ctw_ops.specs.declared.types.Limits.{Limits}
use Rattle.ctw_ops.specs.declared.types.ExternTag.TheVariants as tag
use Rattle.ctw_ops.specs.Types.{MemoryType}
use Rattle.ctw_ops.specs.Tree.{Global}
use Rattle.ctw_ops.specs.Typing.{optional}
use Rattle.ctw_ops.specs.Valid.{IsValid}
use Rattle.ctw_semantics.specs.Stores.{Table}
use Rattle.ctw_semantics.specs.Sound.{Shape}
use Rattle.ctw_semantics.specs.Modules.{instance_of}
use Rattle.ctw_ops.proofs.Lists.{map_get}
use Rattle.ctw_link.specs.Sets.{NamedModule, ModuleSet, one_or_none}
use Rattle.ctw_link.specs.Externals.{IsMet}
use Rattle.ctw_link.specs.Numbers.{LinkedModule, defined_before, linked_module, with_linked, linked}
use Rattle.ctw_link.specs.SetInstances.{module_instance, instances_in, set_instances, memories_in, globals_in, tables_in, IsShapeOf, AllValid}
use Rattle.ctw_link.proofs.LinkedFronts.{bare, bare_linked, linked_more}
use Rattle.ctw_launch.proofs.Pairs.{piece_at, pieces_length}
use Rattle.ctw_launch.proofs.Within.{all_unmap}
use Rattle.ctw_launch.proofs.Leading.{Served, DefinesHere, Leads, import_leads, module_leads}

-- ---- what stands behind a part

linked_rest : (l : List LinkedModule) (set : ModuleSet) → (more : List LinkedModule) × (fold with_linked l set ≡ l ++ more)
linked_rest l [] = ([], sym (append-nil l))
linked_rest l (p ∷ set) = let r = linked_rest (with_linked l p) set in (linked_module l p ∷ r.0, r.1 ∙ append_assoc l (linked_module l p ∷ []) r.0)

pub split_linked : (done rest : ModuleSet) (p : NamedModule) → (more : List LinkedModule) × (linked (done ++ p ∷ rest) ≡ linked done ++ linked_module (linked done) p ∷ more)
split_linked done rest p =
    let r = linked_rest (with_linked (linked done) p) rest in
    (r.0, fold-append with_linked [] done (p ∷ rest) ∙ r.1 ∙ append_assoc (linked done) (linked_module (linked done) p ∷ []) r.0)

-- ---- what a part defines

mapped_at : {A B : Type 0} (f : A → B) (xs : List A) (i : ℕ) (x : A) → slice_get xs i ≡ Some x → slice_get (map f xs) i ≡ Some (f x)
mapped_at f xs i x e = slice_get-map f xs i ∙ ap (option_map f) e

one : {A : Type 0} (o : Option A) → length (optional o) ≡ one_or_none o
one None = refl
one (Some a) = refl

module _ (set : ModuleSet) (shape : Shape) (s : IsShapeOf set shape) (before more : List LinkedModule) (p : NamedModule) (split : linked set ≡ before ++ linked_module before p ∷ more) where
  here : LinkedModule
  here = linked_module before p

  -- a thing of a part, among those of all parts
  among : {B : Type 0} (f : LinkedModule → List B) (j n : ℕ) (b : B) → n ≡ j + length (flat_map f before) → slice_get (f (linked_module before p)) j ≡ Some b → slice_get (flat_map f (linked set)) n ≡ Some b
  among f j n b q e = ap (λ (l : List LinkedModule). slice_get (flat_map f l) n) split ∙ piece_at f before (linked_module before p) more j n b q e

  pub defines_here : DefinesHere (set_instances set) shape before p.tree
  defines_here = record {
    functions = λ j f e. let q = linked_module before p in (
      instance_of (module_instance q) p.tree f,
      among instances_in j (j + defined_before tag.Func before) (instance_of (module_instance q) p.tree f)
          (omega (arith, pieces_length instances_in (λ r. length r.tree.functions) (λ r. length-map r.tree.functions (instance_of (module_instance r) r.tree)) before))
          (mapped_at (instance_of (module_instance q) p.tree) p.tree.functions j f e),
      refl,
    );
    globals = λ j g e.
        ap (λ l. slice_get l (j + defined_before tag.Global before)) s.globals
        ∙ among globals_in j (j + defined_before tag.Global before) g.type
        (omega (arith, pieces_length globals_in (λ r. length r.tree.globals) (λ r. length-map r.tree.globals (λ g. g.type)) before))
        (mapped_at (λ (g : Global Label). g.type) p.tree.globals j g e);
    memory = λ t e. (
      t,
      ap (λ l. slice_get l (defined_before tag.Memory before)) s.memories
          ∙ among memories_in 0 (defined_before tag.Memory before) t
          (omega (arith, pieces_length memories_in (λ r. one_or_none r.tree.memory) (λ r. one r.tree.memory) before))
          (ap (λ (o : Option (MemoryType Label)). slice_get (optional o) 0) e),
      refl,
    );
    table = λ l e.
        let there = among tables_in 0 (defined_before tag.Table before) l
        (omega (arith, pieces_length tables_in (λ r. one_or_none r.tree.table) (λ r. one r.tree.table) before))
        (ap (λ (o : Option Limits). slice_get (optional o) 0) e) in
        let at = map_get (λ (t : Table). t.limits) shape.tables (defined_before tag.Table before) l
        (ap (λ l. slice_get l (defined_before tag.Table before)) s.tables ∙ there) in
        (at.0, at.1);
  }

-- ---- part by part

pub all_front : {A : Type 0} (P : A → Type 0) (front back : List A) → All P (front ++ back) → All P front
all_front P [] back h = All-nil P
all_front P (a ∷ front) back h = All-cons P a front (All-head P a (front ++ back) h) (all_front P front back (All-tail P a (front ++ back) h))

pub valid_linked : (set : ModuleSet) → AllValid set → All (λ q. IsValid q.tree) (linked set)
valid_linked set h = all_unmap (λ (p : NamedModule). IsValid p.tree) bare (linked set) (subst AllValid (sym (bare_linked set)) h)

-- each part's imports are met by the parts before
abbrev pub AllMet : ModuleSet → Type 0
AllMet set = (before behind : ModuleSet) (p : NamedModule) → set ≡ before ++ p ∷ behind → All (IsMet before p.tree) p.tree.imports

pub met_front : (front rest : ModuleSet) → AllMet (front ++ rest) → AllMet front
met_front front rest m before behind p e = m before (behind ++ rest) p (ap (λ (l : ModuleSet). l ++ rest) e ∙ append_assoc before (p ∷ behind) rest)

module _ (set : ModuleSet) (shape : Shape) (m : AllMet set) (v : AllValid set) (s : IsShapeOf set shape) where
  leads_behind : (done rest : ModuleSet) → set ≡ done ++ rest → All (Leads (set_instances set) shape) (linked done) → All (Leads (set_instances set) shape) (linked set)
  leads_behind done [] e h = subst (λ (x : ModuleSet). All (Leads (set_instances set) shape) (linked x)) (sym (e ∙ append-nil done)) h
  leads_behind done (p ∷ rest) e h =
      let before = linked done in
      let fns = set_instances set in
      let split = split_linked done rest p in
      let served = All-weaker (IsMet done p.tree) (Served fns shape before p.tree) (λ i met. import_leads fns shape before done p.tree i (bare_linked done) h (valid_linked done (all_front (λ (p : NamedModule). IsValid p.tree) done (p ∷ rest) (subst AllValid e v))) met) p.tree.imports (m done rest p e) in
      let q = module_leads fns shape before p served (defines_here set shape s before split.0 p (ap linked e ∙ split.1)) in
      leads_behind (done ++ p ∷ []) rest (e ∙ sym (append_assoc done (p ∷ []) rest)) (subst (All (Leads fns shape)) (sym (linked_more done p)) (All-push (Leads fns shape) before (linked_module before p) h q))

  pub all_lead : All (Leads (set_instances set) shape) (linked set)
  all_lead = leads_behind [] set refl (All-nil (Leads (set_instances set) shape))
