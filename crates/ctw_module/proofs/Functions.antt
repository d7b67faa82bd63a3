-- The functions of a view, by index.
use Rattle.std.proofs.Common.{◌≡◌, ℕ, zero, suc, ◌+◌, ◌-◌, ◌<◌, ◌≤◌, nat_lt, List, [], ◌∷◌, length, map, get_or, slice_get, Option, Some, None, inl, inr, refl, ap, subst, ◌∙◌, arith}
use Rattle.std.proofs.lemmas.Bool.{cases_Bool, ltb-false, le-ltb}
use Rattle.std.proofs.lemmas.List.{length-append, length-map}
use Rattle.std.proofs.lemmas.Option.{slice_get_within}
use Rattle.ctw_ops.specs.declared.types.Label.{Label}
use Rattle.ctw_ops.specs.Tree.{Module, Function, imported_functions, function_entries}
use Rattle.ctw_form.specs.Sections.{Entry, Parts, locals_of, functions_of}
use Rattle.ctw_form.specs.Spelled.{Spells}
use Rattle.ctw_module.specs.Trees.{Lent, tree, parts, code_of}
use Rattle.ctw_module.specs.Lookup.{imported_count, function_named}
use Rattle.ctw_form.specs.Slots.{Coded, coded_behind}
use Rattle.ctw_module.specs.declared.«module».Module.TheInside.{Inside}
use Rattle.ctw_module.specs.View.{IsView, lent_by}
use Rattle.ctw_form.proofs.Weights.{Every, weight}
use Rattle.ctw_form.proofs.Brought.{IsCoded, code_length}
use Rattle.ctw_module.proofs.Known.{Known, known, functions_length}

pub every_at : {A : Type 0} (P : A → Type 0) (l : List A) (k : ℕ) (d : A) → Every P l → k < length l → P (get_or l k d)
every_at P [] k d h lt = absurd (omega (arith, lt))
every_at P (a ∷ l) zero d h lt = h.0
every_at P (a ∷ l) (suc k) d h lt = every_at P l k d h.1 (omega (arith, lt))

pub weight_at : {A : Type 0} (w : A → ℕ) (l : List A) (k : ℕ) (d : A) → k < length l → w (get_or l k d) ≤ weight w l
weight_at w [] k d lt = absurd (omega (arith, lt))
weight_at w (a ∷ l) zero d lt = omega arith
weight_at w (a ∷ l) (suc k) d lt = omega (arith, weight_at w l k d (omega (arith, lt)))

abbrev function_of : ℕ → Entry → Function Label
function_of type e = record { type = type; locals = locals_of e.groups; body = e.body }

functions_at : (uses : List ℕ) (entries : List Entry) (k : ℕ) (d : Entry) → k < length uses → k < length entries → (type : ℕ) × (slice_get (functions_of uses entries) k ≡ Some (function_of type (get_or entries k d)))
functions_at [] entries k d lt le = absurd (omega (arith, lt))
functions_at (u ∷ uses) [] k d lt le = absurd (omega (arith, le))
functions_at (u ∷ uses) (e ∷ entries) zero d lt le = (u, refl)
functions_at (u ∷ uses) (e ∷ entries) (suc k) d lt le = functions_at uses entries k d (omega (arith, lt)) (omega (arith, le))

codes_at : (entries : List Entry) (k : ℕ) (d : Entry) → k < length entries → get_or (map (λ e. e.code) entries) k [] ≡ (get_or entries k d).code
codes_at [] k d lt = absurd (omega (arith, lt))
codes_at (e ∷ entries) zero d lt = refl
codes_at (e ∷ entries) (suc k) d lt = codes_at entries k d (omega (arith, lt))

pub coded_length : (before : ℕ) (entries : List Entry) → length (coded_behind before entries) ≡ length entries
coded_length before [] = refl
coded_length before (e ∷ entries) = ap suc (coded_length (before + length e.groups) entries)

pub coded_at : (before : ℕ) (entries : List Entry) (k : ℕ) (c : Coded) (d : Entry) → k < length entries → (get_or (coded_behind before entries) k c).code ≡ (get_or entries k d).code
coded_at before [] k c d lt = absurd (omega (arith, lt))
coded_at before (e ∷ entries) zero c d lt = refl
coded_at before (e ∷ entries) (suc k) c d lt = coded_at (before + length e.groups) entries k c d (omega (arith, lt))

-- the defined function of an index
pub record Defined (lent : Lent) (f : ℕ) : Type 0 where
  pub entry : Entry
  pub function : Function Label
  pub some : f - imported_count (tree lent) < length (parts lent).entries
  pub stands : (d : Entry) → get_or (parts lent).entries (f - imported_count (tree lent)) d ≡ entry
  pub named : function_named (tree lent) f ≡ Some function
  pub body : function.body ≡ entry.body
  pub locals : function.locals ≡ locals_of entry.groups
  pub coded : IsCoded entry
  pub code : code_of lent (f - imported_count (tree lent)) ≡ entry.code
  pub short : length entry.code ≤ length lent.bytes

get_or_any : {A : Type 0} (l : List A) (k : ℕ) (c d : A) → k < length l → get_or l k c ≡ get_or l k d
get_or_any [] k c d lt = absurd (omega (arith, lt))
get_or_any (a ∷ l) zero c d lt = refl
get_or_any (a ∷ l) (suc k) c d lt = get_or_any l k c d (omega (arith, lt))

entries_length : (lent : Lent) → Spells lent.bytes (tree lent) → length (function_entries (tree lent)) ≡ imported_count (tree lent) + length (parts lent).entries
unfolding tree parts
entries_length lent s =
    let k = known lent (tree lent) s in
    let p = parts lent in
    let fs = functions_of p.uses p.entries in
    omega (arith, k.paired, functions_length p.uses p.entries k.paired, length-map fs (λ f. f.type), length-append (imported_functions p.imports) (map (λ f. f.type) fs))

defined_in : (bytes : List ℕ) (m : Module Label) (p : Parts) (f : ℕ) → Known bytes p → m.functions ≡ functions_of p.uses p.entries → imported_count m ≤ f → f - imported_count m < length p.entries → (d : Entry)
    → (type : ℕ) × (function_named m f ≡ Some (function_of type (get_or p.entries (f - imported_count m) d)))
defined_in bytes m p f k same low lt d =
    let n = f - imported_count m in
    let here = functions_at p.uses p.entries n d (omega (arith, lt, k.paired)) lt in
    (here.0, rw (le-ltb f (imported_count m) low) (ap (λ (l : List (Function Label)). slice_get l n) same ∙ here.1))

some_entry : (l : List Entry) (k : ℕ) → k < length l → Entry
some_entry [] k lt = absurd (omega (arith, lt))
some_entry (e ∷ l) k lt = e

tree_functions : (lent : Lent) → (tree lent).functions ≡ functions_of (parts lent).uses (parts lent).entries
unfolding tree parts
tree_functions lent = refl

pub defined : (lent : Lent) (f : ℕ) → Spells lent.bytes (tree lent) → imported_count (tree lent) ≤ f → f < length (function_entries (tree lent)) → Defined lent f
unfolding code_of
defined lent f s low high =
    let k = known lent (tree lent) s in
    let es = (parts lent).entries in
    let n = f - imported_count (tree lent) in
    let lt : n < length es = omega (arith, entries_length lent s, low, high) in
    let d = some_entry es n lt in
    let named = defined_in lent.bytes (tree lent) (parts lent) f k (tree_functions lent) low lt d in
    record {
      entry = get_or es n d;
      function = function_of named.0 (get_or es n d);
      some = lt;
      stands = λ c. get_or_any es n c d lt;
      named = named.1;
      body = refl;
      locals = refl;
      coded = every_at IsCoded es n d k.coded lt;
      code = codes_at es n d lt;
      short = omega (arith, k.size, weight_at code_length es n d lt);
    }

-- an index that names a defined function
pub named_low : (m : Module Label) (f : ℕ) (function : Function Label) → function_named m f ≡ Some function → imported_count m ≤ f
named_low m f function e = elim (cases_Bool (nat_lt f (imported_count m))) [
  | inl t ↦ absurd (none_some function (rw t at e))
  | inr n ↦ ltb-false f (imported_count m) n
]
  where
    none_some : (g : Function Label) → ◌≡◌ {A = Option (Function Label)} None (Some g) → ⊥
    none_some g q = cc

pub named_high : (lent : Lent) (f : ℕ) (function : Function Label) → Spells lent.bytes (tree lent) → function_named (tree lent) f ≡ Some function → f < length (function_entries (tree lent))
named_high lent f function s e =
    let low = named_low (tree lent) f function e in
    let here : slice_get (tree lent).functions (f - imported_count (tree lent)) ≡ Some function = rw (le-ltb f (imported_count (tree lent)) low) at e in
    let lt = slice_get_within (tree lent).functions (f - imported_count (tree lent)) function here in
    let k = known lent (tree lent) s in
    let size : length (tree lent).functions ≡ length (parts lent).uses = ap length (tree_functions lent) ∙ functions_length (parts lent).uses (parts lent).entries k.paired in
    omega (arith, entries_length lent s, low, lt, size, k.paired)

-- ---- what a view keeps of them

pub view_at : (v : Inside) (lent : Lent) → IsView v (lent_by v) → lent_by v ≡ lent → IsView v lent
view_at v lent h e = subst (λ (l : Lent). IsView v l) e h

pub slot_there : (v : Inside) (lent : Lent) (f : ℕ) → IsView v lent → Defined lent f → f - v.imported < length v.codes.items
slot_there v lent f h d = omega (arith, d.some, ap length h.codes, coded_length 0 (parts lent).entries, h.imported)

pub slot_code : (v : Inside) (lent : Lent) (f : ℕ) (slot : Coded) → IsView v lent → (d : Defined lent f) → slot ≡ get_or v.codes.items (f - v.imported) slot → slot.code ≡ d.entry.code
slot_code v lent f slot h d is =
    ap (λ (c : Coded). c.code) is ∙ ap (λ (l : List Coded). (get_or l (f - v.imported) slot).code) h.codes
    ∙ ap (λ (n : ℕ). (get_or (coded_behind 0 (parts lent).entries) (f - n) slot).code) h.imported
    ∙ coded_at 0 (parts lent).entries (f - imported_count (tree lent)) slot d.entry d.some
    ∙ ap (λ (e : Entry). e.code) (d.stands d.entry)
