-- What a part before offers under the names of an import, and its number.
use Rattle.std.proofs.Common.{◌≡◌, ◌<◌, ℕ, zero, suc, List, [], ◌∷◌, length, take, get_or, slice_get, Option, Some, None, option_map, refl, sym, ap, ◌∙◌, arith}
use Rattle.std.specs.Prelude.{find, option_and_then, unwrap_or}
use Rattle.std.specs.List.{position_from}
use Rattle.std.proofs.lemmas.List.{length-map}
use Rattle.std.proofs.lemmas.Option.{slice_get-get_or, slice_get-map}
use Rattle.std.proofs.lemmas.List.Elements.{All-get_or}
use denote.Ref.{Bor}
use Rattle.std.specs.Ordering.{nat_cmp}
use Rattle.std.specs.Cmp.Lexicographic.{slice_cmp}
use Rattle.std.specs.BTreeMap.{BTreeMap, get_by}
use Rattle.ctw_ops.specs.declared.types.Label.{Label}
use Rattle.ctw_ops.specs.declared.types.Limits.{Limits}
use Rattle.ctw_ops.specs.declared.types.ExternTag.{ExternTag}
use Rattle.ctw_ops.specs.declared.types.ExternTag.TheVariants.{Func, Table, Memory, Global}
use Rattle.ctw_ops.specs.Types.{MemoryType, VariableType}
use Rattle.ctw_ops.specs.Tree.{Module, Import, function_entries, global_types, memory_among, table_among, type_named}
use Rattle.ctw_ops.specs.Valid.{IsExported, IsValid}
use Rattle.ctw_module.specs.declared.types.ExternKind.{ExternKind}
use Rattle.ctw_ops.specs.ExternType.{ExternType}
use Rattle.ctw_ops.specs.ExternType as external
use Rattle.ctw_module.specs.declared.types.ExternKind.TheVariants as kind
use Rattle.ctw_module.specs.Lookup.{export_in}
use Rattle.ctw_module.specs.Given.{extern_given, extern_type}
use Rattle.ctw_module.specs.Trees.{view_module}
use Rattle.ctw_link.specs.declared.set.Part.{Part}
use Rattle.ctw_link.specs.Sets.{NamedModule, ModuleSet, part_in, set_of}
use Rattle.ctw_link.specs.Linked.{CanBeLinked, IsValidPart}
use Rattle.ctw_link.specs.Told.{TellsParts}
use Rattle.ctw_link.specs.Externals.{declared_type, offered, offered_by, has_name}
use Rattle.ctw_link.specs.Numbers.{LinkedModule, numbers_of, exported_number, import_number, is_named, tag_of, linked_module, linked}
use Rattle.ctw_link.specs.Resolving.{below, IsOffer}
use Rattle.ctw_link.proofs.Lists.{position_front, find_place, position_there, below_there}
use Rattle.ctw_link.proofs.LinkedFronts.{linked_at, find_linked}
use Rattle.ctw_link.proofs.Counts.{numbers_count, export_there}
use Rattle.ctw_link.proofs.ValidParts.{exported}

-- for each name its first place in a set
abbrev pub Tells : ModuleSet → (List ℕ → Option ℕ) → Type 0
Tells set g = (name : List ℕ) → g name ≡ position_from (has_name name) 0 set

place_before : (set : ModuleSet) (g : List ℕ → Option ℕ) (n : ℕ) (name : List ℕ) (o : Option ℕ) → Tells set g → o ≡ below n (g name) → position_from (has_name name) 0 (take n set) ≡ o
place_before set g n name o h e = position_front (has_name name) set n ∙ ap (below n) (sym (h name)) ∙ sym e

find_before : (set : ModuleSet) (g : List ℕ → Option ℕ) (n : ℕ) (name : List ℕ) (o : Option ℕ) → Tells set g → o ≡ below n (g name) → find (has_name name) (take n set) ≡ option_and_then (slice_get (take n set)) o
find_before set g n name o h e = find_place (has_name name) (take n set) ∙ ap (option_and_then (slice_get (take n set))) (place_before set g n name o h e)

-- a place that is told is one of the set's
pub place_there : (set : ModuleSet) (g : List ℕ → Option ℕ) (n : ℕ) (name : List ℕ) (j : ℕ) → Tells set g → Some j ≡ below n (g name) → j < length set
place_there set g n name j h e = position_there (has_name name) set j (sym (h name) ∙ (below_there n (g name) j (sym e)).0)

-- no part before has the name
pub none_offered : (set : ModuleSet) (g : List ℕ → Option ℕ) (n : ℕ) (i : Import Label) → Tells set g → None ≡ below n (g i.module_name) → offered_by (take n set) i ≡ None
none_offered set g n i h e = ap (option_and_then (λ (p : NamedModule). offered p.tree i.name)) (find_before set g n i.module_name None h e)

-- the part of a name among those before
pub record Found (front : ModuleSet) (i : Import Label) (j : ℕ) (p : NamedModule) : Type 0 where
  pub found : find (has_name i.module_name) front ≡ Some p
  pub linked_found : find (is_named i.module_name) (linked front) ≡ Some (linked_module (linked (take j front)) p)
  pub linked_there : slice_get (linked front) j ≡ Some (linked_module (linked (take j front)) p)

kept_front : {A : Type 0} (xs : List A) (n j : ℕ) → j < n → slice_get (take n xs) j ≡ slice_get xs j
kept_front xs zero j lt = absurd (omega (arith, lt))
kept_front [] (suc n) j lt = refl
kept_front (x ∷ xs) (suc n) zero lt = refl
kept_front (x ∷ xs) (suc n) (suc j) lt = kept_front xs n j (omega (arith, lt))

pub found_before : (set : ModuleSet) (g : List ℕ → Option ℕ) (n : ℕ) (i : Import Label) (j : ℕ) (p : NamedModule) → Tells set g → Some j ≡ below n (g i.module_name) → slice_get set j ≡ Some p → Found (take n set) i j p
found_before set g n i j p h e is =
    let name = i.module_name in
    let at : slice_get (take n set) j ≡ Some p = kept_front set n j (below_there n (g name) j (sym e)).1 ∙ is in
    let there = linked_at (take n set) j p at in
    record {
      found = find_before set g n name (Some j) h e ∙ at;
      linked_found = find_linked (take n set) name ∙ ap (option_and_then (slice_get (linked (take n set)))) (place_before set g n name (Some j) h e) ∙ there;
      linked_there = there;
    }

abbrev type_of_thing : Module Label → ExternTag × ℕ → Option (ExternType Label)
type_of_thing m thing = declared_type m thing.0 thing.1

pub thing_offered : (front : ModuleSet) (i : Import Label) (j : ℕ) (p : NamedModule) (e : Option (ExternTag × ℕ)) → Found front i j p → e ≡ export_in i.name p.tree.exports → offered_by front i ≡ option_and_then (type_of_thing p.tree) e
thing_offered front i j p e h x = ap (option_and_then (λ (p : NamedModule). offered p.tree i.name)) h.found ∙ ap (option_and_then (type_of_thing p.tree)) (sym x)

-- the kind of a declared type
abbrev tag_in : ExternType Label → ExternTag
tag_in (external.Func index type) = Func
tag_in (external.Table limits) = Table
tag_in (external.Memory type) = Memory
tag_in (external.Global type) = Global

tag_given : (ty : ExternKind) → tag_in (extern_type ty) ≡ tag_of (extern_given ty)
tag_given (kind.Func index type) = refl
tag_given (kind.Table limits) = refl
tag_given (kind.Memory type) = refl
tag_given (kind.Global type) = refl

tag_declared : (m : Module Label) (tag : ExternTag) (index : ℕ) (ty : ExternType Label) → Some ty ≡ declared_type m tag index → tag ≡ tag_in ty
tag_declared m Func index ty e = go (slice_get (function_entries m) index) e
  where
    go : (o : Option ℕ) → Some ty ≡ option_map (λ type. external.Func type (type_named m type)) o → Func ≡ tag_in ty
    go None e = absurd cc
    go (Some x) e = let q : external.Func x (type_named m x) ≡ ty = cc in ap tag_in q
tag_declared m Table index ty e = go (table_among m.imports m.table) e
  where
    go : (o : Option Limits) → Some ty ≡ option_map (λ limits. external.Table limits) o → Table ≡ tag_in ty
    go None e = absurd cc
    go (Some x) e = let q : external.Table x ≡ ty = cc in ap tag_in q
tag_declared m Memory index ty e = go (memory_among m.imports m.memory) e
  where
    go : (o : Option (MemoryType Label)) → Some ty ≡ option_map (λ type. external.Memory type) o → Memory ≡ tag_in ty
    go None e = absurd cc
    go (Some x) e = let q : external.Memory x ≡ ty = cc in ap tag_in q
tag_declared m Global index ty e = go (slice_get (global_types m) index) e
  where
    go : (o : Option (VariableType Label)) → Some ty ≡ option_map (λ type. external.Global type) o → Global ≡ tag_in ty
    go None e = absurd cc
    go (Some x) e = let q : external.Global x ≡ ty = cc in ap tag_in q

kind_of_type : (m : Module Label) (tag : ExternTag) (index : ℕ) (ty : ExternKind) → Some (extern_type ty) ≡ declared_type m tag index → tag ≡ tag_of (extern_given ty)
kind_of_type m tag index ty e = tag_declared m tag index (extern_type ty) e ∙ tag_given ty

-- a linked part has a number for each thing that it may export
linked_count : (tag : ExternTag) (before : List LinkedModule) (p : NamedModule) (index : ℕ) → IsExported p.tree tag index → index < length (numbers_of tag (linked_module before p).numbers)
linked_count Func before p index h = omega (arith, numbers_count Func before p.tree, export_there p.tree Func index h)
linked_count Table before p index h = omega (arith, numbers_count Table before p.tree, export_there p.tree Table index h)
linked_count Memory before p index h = omega (arith, numbers_count Memory before p.tree, export_there p.tree Memory index h)
linked_count Global before p index h = omega (arith, numbers_count Global before p.tree, export_there p.tree Global index h)

-- what is offered, with its number
pub offer : (front : ModuleSet) (i : Import Label) (j : ℕ) (p : NamedModule) (tag : ExternTag) (index : ℕ) (ty : ExternKind) → IsValid p.tree → Found front i j p → Some (tag, index) ≡ export_in i.name p.tree.exports → Some (extern_type ty) ≡ declared_type p.tree tag index
    → IsOffer front i (record { part = j; tag = tag; index = index; ty = ty })
offer front i j p tag index ty v h x t =
    let q = linked_module (linked (take j front)) p in
    let numbers = numbers_of tag q.numbers in
    let lt : index < length numbers = linked_count tag (linked (take j front)) p index (exported p.tree i.name tag index v (sym x)) in
    let is = slice_get-get_or numbers index 0 lt in
    let same : import_number (linked front) i ≡ unwrap_or (slice_get numbers index) 0 =
    ap (λ o. unwrap_or (option_and_then (exported_number i.name) o) 0) h.linked_found ∙ ap (λ (o : Option (ExternTag × ℕ)). unwrap_or (option_and_then (λ (thing : ExternTag × ℕ). slice_get (numbers_of thing.0 q.numbers) thing.1) o) 0) (sym x) in
    record {
      tag = kind_of_type p.tree tag index ty t;
      number = ap (option_and_then (λ (p : LinkedModule). slice_get (numbers_of tag p.numbers) index)) h.linked_there ∙ is ∙ ap Some (sym (same ∙ ap (λ o. unwrap_or o 0) is));
    }

-- ---- over parts

abbrev pub known_names : BTreeMap (Bor (List ℕ)) ℕ → List ℕ → Option ℕ
known_names names name = get_by (λ key. slice_cmp nat_cmp name key.now) names

-- what is known of a part whose index was told
pub record At (parts : List Part) (before : ℕ) (i : Import Label) (j : ℕ) (d : Part) : Type 0 where
  pub within : j < length parts
  pub valid : IsValid (view_module (get_or parts j d).«module»)
  pub found : Found (take before (set_of parts)) i j (part_in (get_or parts j d))

pub within_parts : (parts : List Part) (names : BTreeMap (Bor (List ℕ)) ℕ) (before : ℕ) (name : List ℕ) (j : ℕ) → TellsParts parts names → Some j ≡ below before (known_names names name) → j < length parts
within_parts parts names before name j h e = omega (arith, place_there (set_of parts) (known_names names) before name j h e, length-map parts part_in)

pub at_part : (parts : List Part) (names : BTreeMap (Bor (List ℕ)) ℕ) (before : ℕ) (i : Import Label) (j : ℕ) (d : Part) → CanBeLinked parts → TellsParts parts names → Some j ≡ below before (known_names names i.module_name) → At parts before i j d
at_part parts names before i j d can h e =
    let lt = within_parts parts names before i.module_name j h e in
    record {
      within = lt;
      valid = All-get_or IsValidPart parts j d lt can.valid;
      found = found_before (set_of parts) (known_names names) before i j (part_in (get_or parts j d)) h e (slice_get-map part_in parts j ∙ ap (option_map part_in) (slice_get-get_or parts j d lt));
    }
