-- What the first part of a name exports.
use Rattle.std.proofs.Common.{◌≡◌, ◌<◌, ◌≤◌, ℕ, zero, suc, ◌+◌, Bool, true, false, cond, List, [], ◌∷◌, length, take, get_or, slice_get, Option, Some, None, refl, sym, ap, subst, ◌∙◌, arith}
use Rattle.std.specs.Prelude.{find, option_and_then, if◌then◌else◌}
use Rattle.std.specs.List.{position_from}
use Rattle.std.specs.Str.{bytes_eq}
use Rattle.std.proofs.lemmas.List.{length-map, take_all}
use Rattle.std.proofs.lemmas.List.Elements.{All-map}
use Rattle.std.proofs.lemmas.Option.{slice_get-get_or, slice_get_within, same_Some}
use Rattle.ctw_ops.specs.declared.types.ExternTag.{ExternTag}
use Rattle.ctw_ops.specs.declared.types.ExternTag.TheVariants.{Func, Memory}
use Rattle.ctw_ops.specs.declared.types.Label.{Label}
use Rattle.ctw_ops.specs.Types.{MemoryType}
use Rattle.ctw_ops.specs.Tree.{function_entries, memory_among, type_named}
use Rattle.ctw_semantics.specs.Sound.{Shape}
use Rattle.ctw_link.specs.Matching.{AreMatching}
use Rattle.ctw_link.specs.SetInstances.{set_instances, IsShapeOf, LeadsToFunction, LeadsToMemory, AllValid}
use Rattle.ctw_launch.proofs.Leading.{HasNamed, Leads}
use Rattle.ctw_launch.proofs.Parts.{all_lead}
use Rattle.ctw_launch.proofs.Pairs.{paired_get}
use Rattle.ctw_ops.specs.Valid.{Names, IsExported, IsValid}
use Rattle.ctw_module.specs.Lookup.{export_in}
use Rattle.ctw_module.specs.Trees.{tree, view_module}
use Rattle.ctw_link.specs.declared.set.Part.{Part}
use Rattle.ctw_link.specs.Sets.{NamedModule, part_in, set_of}
use Rattle.ctw_link.specs.Externals.{has_name}
use Rattle.ctw_link.specs.Numbers.{LinkedModule, numbers_of, is_named, same_tag, linked, linked_module, number_in}
use Rattle.ctw_link.specs.Exports.{exported_as, exported}
use Rattle.ctw_link.specs.Users.{or_later}
use Rattle.ctw_link.specs.Linked.{CanBeLinked, IsValidPart, IsPart, HasFunction}
use Rattle.ctw_link.proofs.LinkedParts.{all_at}
use Rattle.ctw_link.proofs.ValidParts as ValidParts
use Rattle.ctw_session.specs.Exporting.{IsExport, HasMemory}
use Rattle.ctw_session.specs.declared.exports.Export.{Export}
use Rattle.ctw_link.proofs.Lists.{take_next, position_more, mapped_at, position_there}
use Rattle.ctw_link.proofs.LinkedFronts.{linked_at, find_linked}

-- ---- the first part of a name

-- none of the first parts has the name
abbrev pub NoneBefore : List Part → List ℕ → ℕ → Type 0
NoneBefore parts name i = position_from (has_name name) 0 (take i (set_of parts)) ≡ None

first_from : {A : Type 0} (t : A → Bool) (k : ℕ) (xs : List A) (i : ℕ) (x : A) → position_from t k (take i xs) ≡ None → slice_get xs i ≡ Some x → t x ≡ true → position_from t k xs ≡ Some (k + i)
first_from t k [] i x none e is = absurd cc
first_from t k (y ∷ xs) zero x none e is =
    let q : y ≡ x = cc in
    let z : k ≡ k + 0 = omega arith in
    ap (λ (b : Bool). cond b (Some k) (position_from t (k + 1) xs)) (ap t q ∙ is) ∙ ap Some z
first_from {A = A} t k (y ∷ xs) (suc i) x none e is = go (t y) none (λ h. first_from t (k + 1) xs i x h e is)
  where
    go : (b : Bool) → cond b (Some k) (position_from t (k + 1) (take i xs)) ≡ None → (position_from t (k + 1) (take i xs) ≡ None → position_from t (k + 1) xs ≡ Some (k + 1 + i))
        → cond b (Some k) (position_from t (k + 1) xs) ≡ Some (k + suc i)
    go true h f = absurd cc
    go false h f = let z : k + 1 + i ≡ k + suc i = omega arith in f h ∙ ap Some z

module _ (parts : List Part) (name : List ℕ) (i : ℕ) (p : Part) (at : slice_get parts i ≡ Some p) where
  pub first_named : NoneBefore parts name i → bytes_eq p.name name ≡ true → position_from (has_name name) 0 (set_of parts) ≡ Some i
  first_named none is =
      let z : 0 + i ≡ i = omega arith in
      first_from (has_name name) 0 (set_of parts) i (part_in p) none (mapped_at part_in parts i p at) is ∙ ap Some z

  pub none_more : NoneBefore parts name i → bytes_eq p.name name ≡ false → NoneBefore parts name (i + 1)
  none_more none is =
      ap (position_from (has_name name) 0) (take_next (set_of parts) i (part_in p) (mapped_at part_in parts i p at))
      ∙ position_more (has_name name) 0 (take i (set_of parts)) (part_in p)
      ∙ ap (λ (o : Option ℕ). or_later o (cond (bytes_eq p.name name) (Some (0 + length (take i (set_of parts)))) None)) none
      ∙ ap (λ (b : Bool). cond b (Some (0 + length (take i (set_of parts)))) None) is

pub none_named : (parts : List Part) (name : List ℕ) (i : ℕ) → length parts ≤ i → NoneBefore parts name i → position_from (has_name name) 0 (set_of parts) ≡ None
none_named parts name i le none =
    ap (position_from (has_name name) 0) (sym (take_all i (set_of parts) (omega (arith, le, length-map parts part_in)))) ∙ none

-- ---- what it exports

module _ (parts : List Part) (part name : List ℕ) where
  place : (o : Option ℕ) → o ≡ position_from (has_name part) 0 (set_of parts) → find (is_named part) (linked (set_of parts)) ≡ option_and_then (slice_get (linked (set_of parts))) o
  place o e = find_linked (set_of parts) part ∙ ap (option_and_then (slice_get (linked (set_of parts)))) (sym e)

  pub no_part : None ≡ position_from (has_name part) 0 (set_of parts) → (tag : ExternTag) → exported tag (set_of parts) part name ≡ None
  unfolding exported
  no_part e tag = ap (option_and_then (exported_as tag name)) (place None e)

  pub part_there : (k : ℕ) → Some k ≡ position_from (has_name part) 0 (set_of parts) → k < length parts
  part_there k e = omega (arith, position_there (has_name part) (set_of parts) k (sym e), length-map parts part_in)

  module _ (k : ℕ) (p : Part) (first : Some k ≡ position_from (has_name part) 0 (set_of parts)) (at : slice_get parts k ≡ Some p) where
    pub numbers : (o : Option (ExternTag × ℕ)) → o ≡ export_in name (tree p.«module»).exports → (tag : ExternTag)
        → exported tag (set_of parts) part name ≡ option_and_then (λ thing. if same_tag tag thing.0 then number_in (set_of parts) tag k thing.1 else None) o
    unfolding exported
    numbers o e tag =
        let q = linked_module (linked (take k (set_of parts))) (part_in p) in
        let there : slice_get (linked (set_of parts)) k ≡ Some q = linked_at (set_of parts) k (part_in p) (mapped_at part_in parts k p at) in
        ap (option_and_then (exported_as tag name)) (place (Some k) first ∙ there)
        ∙ ap (option_and_then (λ thing. if same_tag tag thing.0 then slice_get (numbers_of tag q.numbers) thing.1 else None)) (sym e)
        ∙ go q there o
      where
        go : (q : LinkedModule) → slice_get (linked (set_of parts)) k ≡ Some q → (o : Option (ExternTag × ℕ))
            → option_and_then (λ thing. if same_tag tag thing.0 then slice_get (numbers_of tag q.numbers) thing.1 else None) o
            ≡ option_and_then (λ thing. if same_tag tag thing.0 then number_in (set_of parts) tag k thing.1 else None) o
        go q there None = refl
        go q there (Some thing) = ap (λ (n : Option ℕ). if same_tag tag thing.0 then n else None) (ap (option_and_then (λ (r : LinkedModule). slice_get (numbers_of tag r.numbers) thing.1)) (sym there))

    pub is_export : CanBeLinked parts → (tag : ExternTag) (index : ℕ) → Some (tag, index) ≡ export_in name (tree p.«module»).exports → IsExport parts part name (record { part = k; tag = tag; index = index })
    is_export can tag index e = record {
      there = part_there k first;
      valid = λ r is.
          let q : p ≡ r = same_Some p r (sym at ∙ is) in
          subst (λ (r : Part). IsExported (view_module r.«module») tag index) q (ValidParts.exported (view_module p.«module») name tag index valid_here (sym e));
      numbers = numbers (Some (tag, index)) e;
    }
      where
        valid_here : IsValid (view_module p.«module»)
        valid_here = all_at IsValidPart parts k p can.valid at

-- ---- functions and memories

names_there : (xs : List ℕ) (i : ℕ) → Names xs i → i < length xs
names_there xs i h = ValidParts.there xs i h

some_part : (parts : List Part) (k : ℕ) → k < length parts → (p : Part) × IsPart parts k p
some_part [] k lt = absurd (omega (arith, lt))
some_part (p ∷ parts) zero lt = (p, refl)
some_part (p ∷ parts) (suc k) lt = some_part parts k (omega (arith, lt))

module _ (parts : List Part) (part name : List ℕ) (e : Export) where
  pub function_has : e.tag ≡ Func → IsExport parts part name e → HasFunction parts e.part e.index
  function_has is h =
      let p = some_part parts e.part h.there in
      let v : IsExported (view_module p.0.«module») Func e.index = subst (λ (t : ExternTag). IsExported (view_module p.0.«module») t e.index) is (h.valid p.0 p.1) in
      (p.0, p.1, names_there (function_entries (tree p.0.«module»)) e.index v)

  pub memory_has : e.tag ≡ Memory → IsExport parts part name e → HasMemory parts e.part
  memory_has is h =
      let p = some_part parts e.part h.there in
      let v : IsExported (view_module p.0.«module») Memory e.index = subst (λ (t : ExternTag). IsExported (view_module p.0.«module») t e.index) is (h.valid p.0 p.1) in
      (p.0, p.1, v.1)

  pub other_kind : (t : ExternTag) → same_tag t e.tag ≡ false → IsExport parts part name e → exported t (set_of parts) part name ≡ None
  other_kind t is h = h.numbers t ∙ ap (λ (b : Bool). if b then number_in (set_of parts) t e.part e.index else None) is

  pub function_number : e.tag ≡ Func → IsExport parts part name e → exported Func (set_of parts) part name ≡ number_in (set_of parts) Func e.part e.index
  function_number is h = h.numbers Func ∙ ap (λ (t : ExternTag). if same_tag Func t then number_in (set_of parts) Func e.part e.index else None) is

  pub memory_number : e.tag ≡ Memory → IsExport parts part name e → exported Memory (set_of parts) part name ≡ number_in (set_of parts) Memory e.part 0
  memory_number is h =
      let p = some_part parts e.part h.there in
      let v : IsExported (view_module p.0.«module») Memory e.index = subst (λ (t : ExternTag). IsExported (view_module p.0.«module») t e.index) is (h.valid p.0 p.1) in
      h.numbers Memory ∙ ap (λ (t : ExternTag). if same_tag Memory t then number_in (set_of parts) Memory e.part e.index else None) is ∙ ap (number_in (set_of parts) Memory e.part) v.0

-- a part that is read is the one of its index
pub part_read : (seen parts : List Part) (k : ℕ) (d : Part) → seen ≡ parts → (p : Part) → slice_get parts k ≡ Some p → slice_get parts k ≡ Some (get_or seen k d)
part_read seen parts k d e p at =
    let lt : k < length seen = omega (arith, slice_get_within parts k p at, ap length e) in
    ap (λ (l : List Part). slice_get l k) (sym e) ∙ slice_get-get_or seen k d lt

-- ---- what the numbers lead to

pub linkable_valid : (parts : List Part) → CanBeLinked parts → AllValid (set_of parts)
linkable_valid parts can = All-map (λ (p : NamedModule). IsValid p.tree) part_in parts can.valid

module _ (parts : List Part) (can : CanBeLinked parts) (matching : AreMatching (set_of parts)) (shape : Shape) (s : IsShapeOf (set_of parts) shape) (k : ℕ) (p : Part) (at : slice_get parts k ≡ Some p) where
  abbrev here : LinkedModule
  here = linked_module (linked (take k (set_of parts))) (part_in p)

  there : slice_get (linked (set_of parts)) k ≡ Some here
  there = linked_at (set_of parts) k (part_in p) (mapped_at part_in parts k p at)

  leads : Leads (set_instances (set_of parts)) shape here
  leads = all_at (Leads (set_instances (set_of parts)) shape) (linked (set_of parts)) k here (all_lead (set_of parts) shape matching.imports (linkable_valid parts can) s) there

  pub function_leads : (index entry n : ℕ) → slice_get (function_entries (tree p.«module»)) index ≡ Some entry → number_in (set_of parts) Func k index ≡ Some n → LeadsToFunction (set_instances (set_of parts)) (type_named (tree p.«module») entry) n
  function_leads index entry n e number =
      let at = paired_get (HasNamed (set_instances (set_of parts)) here.tree) (function_entries here.tree) here.numbers.functions index entry leads.functions e in
      let same : at.0 ≡ n = same_Some at.0 n (sym at.1 ∙ (sym (ap (option_and_then (λ (q : LinkedModule). slice_get q.numbers.functions index)) there) ∙ number)) in
      subst (LeadsToFunction (set_instances (set_of parts)) (type_named (tree p.«module») entry)) same at.2

  pub memory_leads : (t : MemoryType Label) (n : ℕ) → memory_among (tree p.«module»).imports (tree p.«module»).memory ≡ Some t → number_in (set_of parts) Memory k 0 ≡ Some n → LeadsToMemory shape t.tag n
  memory_leads t n e number =
      let at = leads.memory t e in
      let same : at.0 ≡ n = same_Some at.0 n (sym at.1 ∙ (sym (ap (option_and_then (λ (q : LinkedModule). slice_get q.numbers.memories 0)) there) ∙ number)) in
      subst (LeadsToMemory shape t.tag) same at.2
