-- What a view keeps of locals and elements, by index.
use Rattle.std.proofs.Common.{◌≡◌, ℕ, zero, suc, ◌+◌, ◌-◌, ◌<◌, ◌≤◌, ◌^◌, List, [], ◌∷◌, length, map, take, drop, get_or, slice_get, Option, Some, refl, sym, ap, ◌∙◌, arith}
use Rattle.std.proofs.lemmas.List.{length-map}
use Rattle.std.proofs.lemmas.Option.{slice_get-get_or}
use Rattle.ctw_ops.specs.declared.types.Label.{Label}
use Rattle.ctw_ops.specs.Tree.{Element, Function, type_named}
use Rattle.ctw_form.specs.declared.slots.LocalRun.{LocalRun}
use Rattle.ctw_form.specs.declared.slots.ElementSlot.{ElementSlot}
use Rattle.ctw_module.specs.declared.«module».Module.TheInside.{Inside}
use Rattle.ctw_ops.specs.Limits.{most_params}
use Rattle.ctw_form.specs.Sections.{Entry}
use Rattle.ctw_form.specs.Spelled.{Spells}
use Rattle.ctw_module.specs.Trees.{Lent, tree, parts}
use Rattle.ctw_form.specs.Slots.{runs_of, Coded, coded_behind, Headed, headed, element_functions}
use Rattle.ctw_module.specs.Runs.{IsRunsOf}
use Rattle.ctw_module.specs.View.{IsView}
use Rattle.ctw_form.proofs.Brought.{heft}
use Rattle.ctw_module.proofs.Known.{few, known}
use Rattle.ctw_module.proofs.Functions.{Defined, coded_length, weight_at}
use Rattle.ctw_form.proofs.Params.{named_few}
use Rattle.ctw_form.proofs.Parts.{flat, flat_upto, part, part_is, runs_in, runs_flat, coded_runs, functions_in, functions_flat, headed_length, headed_at, head_of}

-- ---- runs

pub codes_size : (v : Inside) (lent : Lent) → IsView v lent → length v.codes.items ≡ length (parts lent).entries
codes_size v lent h = ap length h.codes ∙ coded_length 0 (parts lent).entries

pub slot_runs : (v : Inside) (lent : Lent) (k : ℕ) (slot : Coded) → IsView v lent → (k ≡ 0 → ⊥) → k ≤ length (parts lent).entries → slot ≡ get_or v.codes.items (k - 1) slot → slot.runs ≡ length (runs_of (take k (parts lent).entries))
slot_runs v lent zero slot h some le is = absurd (some refl)
slot_runs v lent (suc k) slot h some le is =
    ap (λ (c : Coded). c.runs) is ∙ ap (λ (l : List Coded). (get_or l (suc k - 1) slot).runs) h.codes
    ∙ ap (λ (n : ℕ). (get_or (coded_behind 0 (parts lent).entries) n slot).runs) (omega arith)
    ∙ coded_runs 0 (parts lent).entries k slot (omega (arith, le)) ∙ omega arith

-- the runs of an entry among all
pub record RunsAt (entries : List Entry) (k start end : ℕ) (d : Entry) : Type 0 where
  pub below : start ≤ end
  pub within : end ≤ length (runs_of entries)
  pub are : take (end - start) (drop start (runs_of entries)) ≡ runs_in (get_or entries k d)

pub runs_at : (entries : List Entry) (k start end : ℕ) (d : Entry) → k < length entries → start ≡ length (runs_of (take k entries)) → end ≡ length (runs_of (take (k + 1) entries)) → RunsAt entries k start end d
runs_at entries k start end d lt s e =
    let p = part runs_in entries k d lt in
    let from : start ≡ flat_upto runs_in entries k = s ∙ ap length (runs_flat (take k entries)) in
    let next : k + 1 ≡ suc k = omega arith in
    let to : end ≡ flat_upto runs_in entries (suc k) = e ∙ ap (λ (n : ℕ). length (runs_of (take n entries))) next ∙ ap length (runs_flat (take (suc k) entries)) in
    record {
      below = omega (arith, from, to, p.next);
      within = omega (arith, to, p.within, ap length (runs_flat entries));
      are = ap (λ (l : List LocalRun). take (end - start) (drop start l)) (runs_flat entries) ∙ ap (λ (n : ℕ). take (end - n) (drop n (flat runs_in entries))) from
          ∙ ap (λ (n : ℕ). take (n - flat_upto runs_in entries k) (drop (flat_upto runs_in entries k) (flat runs_in entries))) to ∙ part_is runs_in entries k d p;
    }

some_is : (f g : Function Label) → ◌≡◌ {A = Option (Function Label)} (Some f) (Some g) → f ≡ g
some_is f g e = cc

pub runs_are : (lent : Lent) (f : ℕ) (d : Defined lent f) (runs : List LocalRun) → runs ≡ runs_in d.entry → IsRunsOf (tree lent) f runs
runs_are lent f d runs e = record {
  groups = d.entry.groups;
  same = e;
  locals = λ function is. sym d.locals ∙ ap (λ (g : Function Label). g.locals) (some_is d.function function (sym d.named ∙ is));
  few = d.coded.few;
}

-- ---- parameters

pub type_few : (lent : Lent) (index : ℕ) → Spells lent.bytes (tree lent) → length (type_named (tree lent) index).params ≤ most_params
unfolding tree parts
type_few lent index s = named_few (parts lent).types index (known lent (tree lent) s).params

-- ---- elements

pub elements_size : (v : Inside) (lent : Lent) → IsView v lent → length v.elements.items ≡ length (tree lent).elements
elements_size v lent h = sym (length-map v.elements.items headed) ∙ ap length h.elements ∙ headed_length 0 (tree lent).elements

map_at : (l : List ElementSlot) (k : ℕ) (d : ElementSlot) → get_or (map headed l) k (headed d) ≡ headed (get_or l k d)
map_at [] k d = refl
map_at (a ∷ l) zero d = refl
map_at (a ∷ l) (suc k) d = map_at l k d

pub head_at : (v : Inside) (lent : Lent) (k : ℕ) (slot : ElementSlot) (d : Element Label) → IsView v lent → k < length (tree lent).elements → slot ≡ get_or v.elements.items k slot
    → headed slot ≡ head_of (length (element_functions (take (suc k) (tree lent).elements))) (get_or (tree lent).elements k d)
head_at v lent k slot d h lt is =
    ap headed is ∙ sym (map_at v.elements.items k slot) ∙ ap (λ (l : List Headed). get_or l k (headed slot)) h.elements
    ∙ headed_at 0 (tree lent).elements k (headed slot) d lt ∙ ap (λ (n : ℕ). head_of n (get_or (tree lent).elements k d)) (omega arith)

pub slot_functions : (v : Inside) (lent : Lent) (k : ℕ) (slot : ElementSlot) → IsView v lent → (k ≡ 0 → ⊥) → k ≤ length (tree lent).elements → slot ≡ get_or v.elements.items (k - 1) slot
    → slot.functions ≡ length (element_functions (take k (tree lent).elements))
slot_functions v lent zero slot h some le is = absurd (some refl)
slot_functions v lent (suc k) slot h some le is =
    let here : slot ≡ get_or v.elements.items k slot = is ∙ ap (λ (n : ℕ). get_or v.elements.items n slot) (omega arith) in
    ap (λ (x : Headed). x.functions) (head_at v lent k slot (some_element slot) h (omega (arith, le)) here)
  where
    some_element : ElementSlot → Element Label
    some_element s = record { table = 0; offset = (headed s).offset; functions = [] }

-- the element of an index
pub record ElementAt (lent : Lent) (k start : ℕ) (slot : ElementSlot) (all : List ℕ) : Type 0 where
  pub element : Element Label
  pub stands : slice_get (tree lent).elements k ≡ Some element
  pub table : slot.table ≡ element.table
  pub offset : (headed slot).offset ≡ element.offset
  pub below : start ≤ slot.functions
  pub within : slot.functions ≤ length all
  pub are : take (slot.functions - start) (drop start all) ≡ element.functions
  pub short : length element.functions < 2 ^ 32

element_any : (l : List (Element Label)) (k : ℕ) → k < length l → Element Label
element_any [] k lt = absurd (omega (arith, lt))
element_any (e ∷ l) k lt = e

pub element_at : (v : Inside) (lent : Lent) (k start : ℕ) (slot : ElementSlot) (all : List ℕ) → IsView v lent → k < length (tree lent).elements → slot ≡ get_or v.elements.items k slot → all ≡ v.element_functions.items
    → start ≡ length (element_functions (take k (tree lent).elements)) → ElementAt lent k start slot all
element_at v lent k start slot all h lt is e s =
    let l = (tree lent).elements in
    let d = element_any l k lt in
    let p = part functions_in l k d lt in
    let head = head_at v lent k slot d h lt is in
    let whole : all ≡ flat functions_in l = e ∙ h.element_functions ∙ functions_flat l in
    let from : start ≡ flat_upto functions_in l k = s ∙ ap length (functions_flat (take k l)) in
    let to : slot.functions ≡ flat_upto functions_in l (suc k) = ap (λ (x : Headed). x.functions) head ∙ ap length (functions_flat (take (suc k) l)) in
    record {
      element = get_or l k d;
      stands = slice_get-get_or l k d lt;
      table = ap (λ (x : Headed). x.table) head;
      offset = ap (λ (x : Headed). x.offset) head;
      below = omega (arith, from, to, p.next);
      within = omega (arith, to, p.within, ap length whole);
      are = ap (λ (z : List ℕ). take (slot.functions - start) (drop start z)) whole ∙ ap (λ (n : ℕ). take (slot.functions - n) (drop n (flat functions_in l))) from
          ∙ ap (λ (n : ℕ). take (n - flat_upto functions_in l k) (drop (flat_upto functions_in l k) (flat functions_in l))) to ∙ part_is functions_in l k d p;
      short = omega (arith, (few lent h.short h.spelled).elements, weight_at heft l k d lt);
    }
