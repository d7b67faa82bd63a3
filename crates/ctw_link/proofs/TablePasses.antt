-- Loops over tables, and over the parts that use one.
use Rattle.std.proofs.Common.{◌≡◌, ◌≤◌, ℕ, zero, suc, ◌<◌, ◌+◌, ◌-◌, Bool, true, false, List, [], ◌∷◌, ◌++◌, length, map, drop, fold, get_or, slice_get, Some, None, option_map, Ok, Err, if◌then◌else◌, inl, inr, ◌⊎◌, refl, sym, ap, ◌∙◌, arith}
use Rattle.std.proofs.lemmas.List.{append_assoc, append-nil, length-map, map-append}
use Rattle.std.proofs.lemmas.Option.{slice_get-map, get_or_from_slice_get, same_Some}
use Rattle.ctw_ops.specs.declared.types.Label.{Label}
use Rattle.ctw_ops.specs.Types.{FunctionType}
use Rattle.ctw_module.specs.Trees.{tree, view_module}
use Rattle.ctw_link.specs.declared.fault.LinkFault.{LinkFault}
use Rattle.ctw_link.specs.declared.fault.LinkFault.TheVariants.{NoMemory}
use Rattle.ctw_link.specs.declared.set.Part.{Part}
use Rattle.ctw_link.specs.Sets.{ModuleSet, part_in, set_of}
use Rattle.ctw_link.specs.Numbers.{StoreNumbers, LinkedModule, linked_module, with_linked, linked}
use Rattle.ctw_link.specs.Users.{has_table, users_in, users_of, or_later, mix_behind, mix_among}
use Rattle.ctw_link.specs.Faults.{mixed, table_fault, tables_fault}
use Rattle.ctw_link.specs.Linked.{IsPart}
use Rattle.ctw_link.specs.Firsts.{TellsFirsts, TellsSome, Passes}
use Rattle.ctw_link.proofs.FirstUsers.{Firsts}
use Rattle.ctw_link.proofs.LinkedParts.{some_there}
use Rattle.ctw_link.proofs.Folding.{drop_there, drop_past}

-- ---- the parts with their numbers

linked_trees : (before : List LinkedModule) (set : ModuleSet) → map (λ p. p.tree) (fold with_linked before set) ≡ map (λ p. p.tree) before ++ map (λ p. p.tree) set
linked_trees before [] = sym (append-nil (map (λ p. p.tree) before))
linked_trees before (p ∷ set) =
    linked_trees (with_linked before p) set
    ∙ ap (λ l. l ++ map (λ p. p.tree) set) (map-append (λ p. p.tree) before (linked_module before p ∷ []))
    ∙ append_assoc (map (λ p. p.tree) before) (p.tree ∷ []) (map (λ p. p.tree) set)

pub linked_length : (parts : List Part) → length (linked (set_of parts)) ≡ length parts
linked_length parts =
    let set = set_of parts in
    sym (length-map (linked set) (λ p. p.tree)) ∙ ap length (linked_trees [] set) ∙ length-map set (λ p. p.tree) ∙ length-map parts part_in

-- what is linked for a part
pub record LinkedAt (parts : List Part) (i : ℕ) (numbers : StoreNumbers) : Type 0 where
  pub part : Part
  pub is_part : IsPart parts i part
  pub linked_as : LinkedModule
  pub is : slice_get (linked (set_of parts)) i ≡ Some linked_as
  pub same_tree : linked_as.tree ≡ view_module part.«module»
  pub same_numbers : linked_as.numbers ≡ numbers

pub linked_at : (parts : List Part) (numbers : List StoreNumbers) (i : ℕ) (d : StoreNumbers) → numbers ≡ map (λ p. p.numbers) (linked (set_of parts)) → i < length parts → LinkedAt parts i (get_or numbers i d)
linked_at parts numbers i d e lt =
    let set = set_of parts in
    let p = some_there parts i lt in
    let m = some_there (linked set) i (omega (arith, lt, linked_length parts)) in
    let trees : Some m.0.tree ≡ Some (view_module p.0.«module») =
    ap (option_map (λ q. q.tree)) (sym m.1) ∙ sym (slice_get-map (λ q. q.tree) (linked set) i) ∙ ap (λ l. slice_get l i) (linked_trees [] set) ∙ slice_get-map (λ q. q.tree) set i
    ∙ ap (option_map (λ q. q.tree)) (slice_get-map part_in parts i ∙ ap (option_map part_in) p.1) in
    let there : slice_get numbers i ≡ Some m.0.numbers = ap (λ l. slice_get l i) e ∙ slice_get-map (λ q. q.numbers) (linked set) i ∙ ap (option_map (λ q. q.numbers)) m.1 in
    record {
      part = p.0;
      is_part = p.1;
      linked_as = m.0;
      is = m.1;
      same_tree = same_Some _ _ trees;
      same_numbers = sym (get_or_from_slice_get numbers i m.0.numbers d there);
    }

-- ---- part by part

-- the users of a table in the parts before a place are passed
pub record PartsPassed (parts : List Part) (table : ℕ) (firsts : Firsts) (i : ℕ) : Type 0 where
  pub before : List (FunctionType Label)
  pub told : TellsFirsts parts before firsts
  pub left : mix_among (users_of (linked (set_of parts)) table) ≡ mix_behind before (users_of (drop i (linked (set_of parts))) table)

pub some_told : (parts : List Part) (table : ℕ) (firsts : Firsts) (i : ℕ) → PartsPassed parts table firsts i → TellsSome parts firsts
some_told parts table firsts i h = (h.before, h.told)

pub parts_none : (parts : List Part) (table : ℕ) (firsts : Firsts) → firsts.entries ≡ [] → PartsPassed parts table firsts 0
parts_none parts table firsts e = record { before = []; told = λ key. rw e tt; left = refl }

-- the users of the part at a place are in front of those of others
here : (parts : List Part) (table i : ℕ) (numbers : StoreNumbers) (at : LinkedAt parts i numbers) (b : Bool) → has_table table at.linked_as ≡ b
    → users_of (drop i (linked (set_of parts))) table ≡ (if b then users_in (tree at.part.«module») else []) ++ users_of (drop (i + 1) (linked (set_of parts))) table
here parts table i numbers at b e =
    let others = users_of (drop (i + 1) (linked (set_of parts))) table in
    ap (λ l. users_of l table) (drop_there (linked (set_of parts)) i at.linked_as at.is)
    ∙ ap (λ c. (if c then users_in at.linked_as.tree else []) ++ others) e
    ∙ ap (λ t. (if b then users_in t else []) ++ others) at.same_tree

pub parts_skip : (parts : List Part) (table : ℕ) (firsts : Firsts) (i : ℕ) (numbers : StoreNumbers) (at : LinkedAt parts i numbers) → has_table table at.linked_as ≡ false → PartsPassed parts table firsts i → PartsPassed parts table firsts (i + 1)
parts_skip parts table firsts i numbers at e h = record { before = h.before; told = h.told; left = h.left ∙ ap (mix_behind h.before) (here parts table i numbers at false e) }

pub parts_more : (parts : List Part) (table : ℕ) (firsts next : Firsts) (i : ℕ) (numbers : StoreNumbers) (at : LinkedAt parts i numbers) → has_table table at.linked_as ≡ true
    → ((p : Part) (before : List (FunctionType Label)) → IsPart parts i p → TellsFirsts parts before firsts → Passes parts table before (users_in (tree p.«module»)) next (Ok tt))
    → PartsPassed parts table firsts i → PartsPassed parts table next (i + 1)
parts_more parts table firsts next i numbers at e pass h =
    let p = pass at.part h.before at.is_part h.told in
    record {
      before = p.0;
      told = p.1;
      left = h.left ∙ ap (mix_behind h.before) (here parts table i numbers at true e) ∙ p.2 (users_of (drop (i + 1) (linked (set_of parts))) table);
    }

pub parts_stop : (parts : List Part) (table : ℕ) (firsts next : Firsts) (i : ℕ) (numbers : StoreNumbers) (f : LinkFault) (at : LinkedAt parts i numbers) → has_table table at.linked_as ≡ true
    → ((p : Part) (before : List (FunctionType Label)) → IsPart parts i p → TellsFirsts parts before firsts → Passes parts table before (users_in (tree p.«module»)) next (Err f))
    → PartsPassed parts table firsts i → (f ≡ NoMemory) ⊎ (table_fault (linked (set_of parts)) table ≡ Some f)
parts_stop parts table firsts next i numbers f at e pass h = go (pass at.part h.before at.is_part h.told)
  where
    go : Passes parts table h.before (users_in (tree at.part.«module»)) next (Err f) → (f ≡ NoMemory) ⊎ (table_fault (linked (set_of parts)) table ≡ Some f)
    go (inl short) = inl short
    go (inr m) =
        let whole = h.left ∙ ap (mix_behind h.before) (here parts table i numbers at true e) ∙ m.3 (users_of (drop (i + 1) (linked (set_of parts))) table) in
        inr (ap (mixed table) whole ∙ ap Some (sym m.2))

pub parts_all : (parts : List Part) (table : ℕ) (firsts : Firsts) (i : ℕ) → length parts ≤ i → PartsPassed parts table firsts i → table_fault (linked (set_of parts)) table ≡ None
parts_all parts table firsts i le h =
    ap (mixed table) (h.left ∙ ap (λ l. mix_behind h.before (users_of l table)) (drop_past (linked (set_of parts)) i (omega (arith, le, linked_length parts))))

-- ---- table by table

pub tables_more : (set : List LinkedModule) (table : ℕ) → table_fault set table ≡ None → tables_fault set table ≡ None → tables_fault set (table + 1) ≡ None
tables_more set table e f =
    let next : table + 1 ≡ suc table = omega arith in
    ap (tables_fault set) next ∙ ap (λ o. or_later o (table_fault set table)) f ∙ e

kept : (set : List LinkedModule) (f : LinkFault) (count more : ℕ) → tables_fault set count ≡ Some f → tables_fault set (more + count) ≡ Some f
kept set f count zero e =
    let none : 0 + count ≡ count = omega arith in
    ap (tables_fault set) none ∙ e
kept set f count (suc more) e =
    let next : suc more + count ≡ suc (more + count) = omega arith in
    ap (tables_fault set) next ∙ ap (λ o. or_later o (table_fault set (more + count))) (kept set f count more e)

pub tables_stop : (set : List LinkedModule) (table tables : ℕ) (f : LinkFault) → table < tables → tables_fault set table ≡ None → (f ≡ NoMemory) ⊎ (table_fault set table ≡ Some f) → (f ≡ NoMemory) ⊎ (tables_fault set tables ≡ Some f)
tables_stop set table tables f lt e (inl short) = inl short
tables_stop set table tables f lt e (inr here) =
    let first : tables_fault set (suc table) ≡ Some f = ap (λ o. or_later o (table_fault set table)) e ∙ here in
    let whole : (tables - suc table) + suc table ≡ tables = omega arith in
    inr (ap (tables_fault set) (sym whole) ∙ kept set f (suc table) (tables - suc table) first)
