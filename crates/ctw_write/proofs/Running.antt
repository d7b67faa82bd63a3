-- Runs of equal locals, one local more.
use Rattle.std.proofs.Common.{◌≡◌, ℕ, zero, suc, ◌+◌, ◌<◌, ◌≤◌, Bool, true, false, cond, List, [], ◌∷◌, ◌++◌, length, replicate, drop, map, ◌-◌, ◌^◌, Option, Some, None, inl, inr, le-ltb, refl, sym, ap, subst, ◌∙◌, append_assoc, append-nil, arith}
use Rattle.ctw_ops.specs.ValueType.{ValueType}
use Rattle.std.specs.Prelude.{slice_get, unwrap_or, nat_lt}
use Rattle.std.proofs.lemmas.Option.{slice_get_within, slice_get_past}
use Rattle.std.proofs.lemmas.List.{drop_all, length-append, length-map}
use Rattle.ctw_ops.specs.declared.types.Label.{Label}
use Rattle.ctw_ops.specs.Tree.{Module, TypeEntry, Function, type_named, no_function_type, function_entries, imported_functions}
use Rattle.ctw_ops.specs.Types.{FunctionType}
use Rattle.ctw_leb.proofs.Exact.{chosen}
use Rattle.ctw_module.specs.Lookup.{imported_count, function_named, locals_named}
use Rattle.ctw_module.proofs.Functions.{named_low}
use Rattle.ctw_write.proofs.Listed.{item_there}
use Rattle.ctw_write.proofs.Shorter.{section_short, item_short}
use Rattle.ctw_module.proofs.LocalTypes.{locals_are}
use Rattle.ctw_form.proofs.Params.{slice_get_right}
use Rattle.ctw_write.proofs.Shown.{some_is, none_some, entry_short}
use Rattle.ctw_ops.specs.Types.{type_byte}
use Rattle.ctw_ops.specs.Equal.{same_type}
use Rattle.ctw_ops.proofs.EqualLaws.{same_type_is, same_type_differs}
use Rattle.ctw_form.specs.Sections.{Group}
use Rattle.ctw_form.specs.Spelled.{group_of}
use Rattle.ctw_write.specs.declared.entry.Run.{Run}
use Rattle.ctw_write.specs.Canon.{all_texts, local_before, groups_of, group_text, type_entry_text, canon}
use Rattle.ctw_write.specs.Runs.{Ahead}
use Rattle.ctw_write.proofs.GroupTexts.{grown, grown_is, same_byte}

-- the same type again
replicate_more : (n : ℕ) (t : ValueType Label) (types : List (ValueType Label)) → replicate n t ++ t ∷ types ≡ replicate (suc n) t ++ types
replicate_more zero t types = refl
replicate_more (suc n) t types = ap (λ (l : List (ValueType Label)). t ∷ l) (replicate_more n t types)

pub same_next : (whole : List Group) (written : List ℕ) (run : Run) (t : ValueType Label) (types : List (ValueType Label)) → type_byte t ≡ type_byte run.ty → Ahead whole written run (t ∷ types) → Ahead whole written (record run { count = run.count + 1 }) types
same_next whole written run t types e h =
    let u = same_byte t run.ty e in
    let next : suc run.count ≡ run.count + 1 = omega arith in
    let list : replicate run.count run.ty ++ t ∷ types ≡ replicate (run.count + 1) run.ty ++ types =
    ap (λ (s : ValueType Label). replicate run.count run.ty ++ s ∷ types) u ∙ replicate_more run.count run.ty types ∙ ap (λ (n : ℕ). replicate n run.ty ++ types) next in
    record {
      texts = ap (λ l. written ++ all_texts group_text (groups_of l)) (sym list) ∙ h.texts;
      counted = ap (λ l. run.groups + length (groups_of l)) (sym list) ∙ h.counted;
    }

-- groups in front of which another type stands
grown_other : (n : ℕ) (t u : ValueType Label) (groups : List Group) → same_type t u ≡ false → grown n t (local_before u groups) ≡ group_of (suc n) t ∷ local_before u groups
grown_other n t u [] e = rw e refl
grown_other n t u (g ∷ groups) e = go (same_type u g.type) refl
  where
    go : (test : Bool) → same_type u g.type ≡ test
        → grown n t (cond test (record { count = suc g.count; type = g.type } ∷ groups) (record { count = 1; type = u } ∷ g ∷ groups))
        ≡ group_of (suc n) t ∷ cond test (record { count = suc g.count; type = g.type } ∷ groups) (record { count = 1; type = u } ∷ g ∷ groups)
    go true q =
        let other : same_type t g.type ≡ false = subst (λ (v : ValueType Label). same_type t v ≡ false) (same_type_is u g.type q) e in
        rw other refl
    go false q = rw e refl

other_groups : (n : ℕ) (t u : ValueType Label) (types : List (ValueType Label)) → 0 < n → same_type t u ≡ false → groups_of (replicate n t ++ u ∷ types) ≡ group_of n t ∷ groups_of (replicate 1 u ++ types)
other_groups zero t u types some e = absurd (omega arith)
other_groups (suc n) t u types some e = grown_is n t (u ∷ types) ∙ grown_other n t u (groups_of types) e

pub other_next : (whole : List Group) (written then : List ℕ) (run : Run) (t : ValueType Label) (types : List (ValueType Label)) → 0 < run.count → (type_byte t ≡ type_byte run.ty → ⊥) → then ≡ written ++ group_text (group_of run.count run.ty) → Ahead whole written run (t ∷ types)
    → Ahead whole then (record { groups = run.groups + 1; count = 1; ty = t }) types
other_next whole written then run t types some e w h =
    let other : same_type run.ty t ≡ false = same_type_differs run.ty t (λ q. e (ap type_byte (sym q))) in
    let list = other_groups run.count run.ty t types some other in
    let later = groups_of (replicate 1 t ++ types) in
    record {
      texts = ap (λ (l : List ℕ). l ++ all_texts group_text later) w ∙ append_assoc written (group_text (group_of run.count run.ty)) (all_texts group_text later)
          ∙ ap (λ l. written ++ all_texts group_text l) (sym list) ∙ h.texts;
      counted = omega (arith, ap length list, h.counted);
    }

-- ---- the locals of a function

-- the first locals are in groups and a run
pub record RunsAt (m : Module Label) (f i : ℕ) (written : List ℕ) (run : Run) : Type 0 where
  pub function : Function Label
  pub named : function_named m f ≡ Some function
  pub ahead : Ahead (groups_of function.locals) written run (drop i function.locals)
  pub some : 0 < run.count
  pub room : run.groups + run.count ≤ i

drop_next : {A : Type 0} (l : List A) (i : ℕ) (a : A) → slice_get l i ≡ Some a → drop i l ≡ a ∷ drop (suc i) l
drop_next [] i a e = absurd (none_some a e)
drop_next (b ∷ l) zero a e = ap (λ x. x ∷ l) (some_is b a e)
drop_next (b ∷ l) (suc i) a e = drop_next l i a e

-- a local of a function
pub local_at : (m : Module Label) (f first i : ℕ) (function : Function Label) (t : ValueType Label) → function_named m f ≡ Some function → first ≡ length (type_named m function.type).params → slice_get (locals_named m f) (first + i) ≡ Some t → slice_get function.locals i ≡ Some t
local_at m f first i function t n e s =
    let params = (type_named m function.type).params in
    let place : first + i - length params ≡ i = omega (arith, e) in
    let all : slice_get (params ++ function.locals) (first + i) ≡ Some t = ap (λ l. slice_get l (first + i)) (sym (locals_are m f function n)) ∙ s in
    ap (slice_get function.locals) (sym place) ∙ sym (slice_get_right params function.locals (first + i) (omega (arith, e))) ∙ all

pub locals_count : (m : Module Label) (f first : ℕ) (function : Function Label) → function_named m f ≡ Some function → first ≡ length (type_named m function.type).params → length (locals_named m f) ≡ first + length function.locals
locals_count m f first function n e = omega (arith, ap length (locals_are m f function n), length-append (type_named m function.type).params function.locals, e)

pub runs_begin : (m : Module Label) (f : ℕ) (function : Function Label) (written : List ℕ) (t : ValueType Label) → function_named m f ≡ Some function → written ≡ [] → slice_get function.locals 0 ≡ Some t
    → RunsAt m f 1 written (record { groups = 0; count = 1; ty = t })
runs_begin m f function written t n w e =
    let list : t ∷ drop 1 function.locals ≡ function.locals = sym (drop_next function.locals 0 t e) in
    record {
      function = function;
      named = n;
      ahead = record {
        texts = ap (λ (l : List ℕ). l ++ all_texts group_text (groups_of (t ∷ drop 1 function.locals))) w ∙ ap (λ l. all_texts group_text (groups_of l)) list;
        counted = omega (arith, ap (λ l. length (groups_of l)) list);
      };
      some = omega arith;
      room = omega arith;
    }

pub runs_next : (m : Module Label) (f i : ℕ) (function : Function Label) (written then : List ℕ) (run next : Run) (t : ValueType Label) → slice_get function.locals i ≡ Some t → (h : RunsAt m f i written run) → function ≡ h.function
    → ((whole : List Group) (types : List (ValueType Label)) → Ahead whole written run (t ∷ types) → Ahead whole then next types) → 0 < next.count → next.groups + next.count ≤ run.groups + run.count + 1 → RunsAt m f (i + 1) then next
runs_next m f i function written then run next t e h same step some room =
    let more : suc i ≡ i + 1 = omega arith in
    let list : drop i h.function.locals ≡ t ∷ drop (i + 1) h.function.locals =
    drop_next h.function.locals i t (ap (λ (g : Function Label). slice_get g.locals i) (sym same) ∙ e) ∙ ap (λ (k : ℕ). t ∷ drop k h.function.locals) more in
    record {
      function = h.function;
      named = h.named;
      ahead = step (groups_of h.function.locals) (drop (i + 1) h.function.locals) (subst (λ l. Ahead (groups_of h.function.locals) written run l) list h.ahead);
      some = some;
      room = omega (arith, h.room, room);
    }

-- the last run makes the last group
pub record RunsEnd (function : Function Label) (written : List ℕ) (count : ℕ) : Type 0 where
  pub texts : written ≡ all_texts group_text (groups_of function.locals)
  pub counted : count ≡ length (groups_of function.locals)

last_group : (n : ℕ) (t : ValueType Label) (types : List (ValueType Label)) → 0 < n → types ≡ [] → groups_of (replicate n t ++ types) ≡ group_of n t ∷ []
last_group zero t types some e = absurd (omega arith)
last_group (suc n) t types some e = ap (λ l. groups_of (replicate (suc n) t ++ l)) e ∙ grown_is n t []

pub runs_end : (m : Module Label) (f i : ℕ) (function : Function Label) (written then : List ℕ) (run : Run) → length function.locals ≤ i → (h : RunsAt m f i written run) → function ≡ h.function → then ≡ written ++ group_text (group_of run.count run.ty)
    → RunsEnd function then (run.groups + 1)
runs_end m f i function written then run le h same w =
    let past : length h.function.locals ≤ i = omega (arith, ap (λ (g : Function Label). length g.locals) same, le) in
    let none : drop i h.function.locals ≡ [] = drop_all i h.function.locals past in
    let last = last_group run.count run.ty (drop i h.function.locals) h.some none in
    let text = group_text (group_of run.count run.ty) in
    record {
      texts = w ∙ ap (λ (l : List ℕ). written ++ l) (sym (append-nil text)) ∙ ap (λ l. written ++ all_texts group_text l) (sym last) ∙ h.ahead.texts ∙ ap (λ (g : Function Label). all_texts group_text (groups_of g.locals)) (sym same);
      counted = omega (arith, ap length last, h.ahead.counted, ap (λ (g : Function Label). length (groups_of g.locals)) same);
    }

-- ---- defined functions by their index

pub named_there : (m : Module Label) (f : ℕ) (function : Function Label) → function_named m f ≡ Some function → slice_get m.functions (f - imported_count m) ≡ Some function
named_there m f function e =
    elim (chosen (nat_lt f (imported_count m)) None (slice_get m.functions (f - imported_count m)) (Some function) e) [
      | inl p ↦ absurd (none_some function p.1)
      | inr p ↦ p.1
    ]

pub named_within : (m : Module Label) (f : ℕ) (function : Function Label) → function_named m f ≡ Some function → f < length (function_entries m)
named_within m f function e =
    omega (arith, slice_get_within m.functions (f - imported_count m) function (named_there m f function e), named_low m f function e, length-append (imported_functions m.imports) (map (λ g. g.type) m.functions), length-map m.functions (λ g. g.type))

map_there : (functions : List (Function Label)) (i : ℕ) (function : Function Label) → slice_get functions i ≡ Some function → slice_get (map (λ g. g.type) functions) i ≡ Some function.type
map_there [] i function e = absurd (none_some function e)
map_there (g ∷ functions) zero function e = ap (λ (x : Function Label). Some x.type) (some_is g function e)
map_there (g ∷ functions) (suc i) function e = map_there functions i function e

pub use_named : (m : Module Label) (f index : ℕ) (function : Function Label) → function_named m f ≡ Some function → slice_get (function_entries m) f ≡ Some index → function.type ≡ index
use_named m f index function e s =
    let imported = imported_functions m.imports in
    let right = slice_get_right imported (map (λ g. g.type) m.functions) f (named_low m f function e) in
    some_is function.type index (sym (map_there m.functions (f - imported_count m) function (named_there m f function e)) ∙ sym right ∙ s)

-- the name of a function of the code section
pub named_at : (m : Module Label) (first i : ℕ) (function : Function Label) → first ≡ imported_count m → slice_get m.functions i ≡ Some function → function_named m (first + i) ≡ Some function
named_at m first i function h e =
    let past : nat_lt (first + i) (imported_count m) ≡ false = le-ltb (first + i) (imported_count m) (omega (arith, h)) in
    let place : first + i - imported_count m ≡ i = omega (arith, h) in
    rw past (ap (slice_get m.functions) place ∙ e)

map_type : (types : List (TypeEntry Label)) (i : ℕ) (entry : TypeEntry Label) → slice_get types i ≡ Some entry → slice_get (map (λ e. e.type) types) i ≡ Some entry.type
map_type [] i entry e = absurd (none_some entry e)
map_type (t ∷ types) zero entry e = ap (λ (x : TypeEntry Label). Some x.type) (some_is t entry e)
map_type (t ∷ types) (suc i) entry e = map_type types i entry e

-- a type that isn't there has no parameters
pub none_named : (m : Module Label) (index : ℕ) → length m.types ≤ index → length (type_named m index).params ≡ 0
none_named m index le =
    let none : slice_get (map (λ entry. entry.type) m.types) index ≡ None = slice_get_past (map (λ entry. entry.type) m.types) index (omega (arith, length-map m.types (λ entry. entry.type))) in
    ap (λ (o : Option (FunctionType Label)). length (unwrap_or o no_function_type).params) none

-- the parameters of a type that is there are few
pub named_short : (m : Module Label) (index : ℕ) → index < length m.types → length (canon m) < 2 ^ 32 → length (type_named m index).params < 2 ^ 32
named_short m index lt short =
    let a = item_there m.types index lt in
    let e : type_named m index ≡ a.0.type = ap (λ (o : Option (FunctionType Label)). unwrap_or o no_function_type) (map_type m.types index a.0 a.1) in
    omega (arith, ap (λ (f : FunctionType Label). length f.params) e, entry_short a.0 (item_short 1 type_entry_text m.types index a.0 (section_short m 1 short) a.1))
