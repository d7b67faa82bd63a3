-- In a valid module functions and indirect calls name type entries that are there.
use Rattle.std.proofs.Common.{◌≡◌, ◌≤◌, ◌<◌, ℕ, ◌+◌, List, [], ◌∷◌, ◌++◌, length, map, slice_get, filter_map, flat_map, All, Option, Some, None, IsSome, refl, arith, Bool, true, false, nat_lt, ◌-◌, if◌then◌else◌}
use Rattle.std.proofs.lemmas.List.{length-map}
use Rattle.std.proofs.lemmas.List.Elements.{All-nil, All-cons, All-head, All-tail, All-append, All-map, All-weaker}
use Rattle.std.proofs.lemmas.Option.{slice_get_within, none-some}
use Rattle.std.proofs.lemmas.Bool.{ltb-false}
use Rattle.ctw_ops.specs.declared.types.Label.{Label}
use Rattle.ctw_ops.specs.Types.{ValueType}
use Rattle.ctw_ops.specs.Code.{Leaf, CallIndirect, Code, Stop, Then, Block, Loop, If, IfElse}
use Rattle.ctw_ops.specs.IndirectCalls.{call_of, indirect_calls}
use Rattle.ctw_ops.specs.Typing.{Context, Row, Typed, inside}
use Rattle.ctw_ops.specs.Tree.{Module, Extern, ImportedFunction, ImportedTable, ImportedMemory, ImportedGlobal, Import, Function, Element, with_function, imported_functions, function_entries, function_types}
use Rattle.ctw_ops.specs.Bodies.{HasItsType, context_of}
use Rattle.ctw_ops.specs.Valid.{Names, IsImported, IsElement, IsValid}
use Rattle.ctw_form.specs.Spelled.{Spells}
use Rattle.ctw_module.specs.Trees.{Lent, tree, parts}
use Rattle.ctw_form.proofs.Weights.{weight}
use Rattle.ctw_form.proofs.Brought.{heft}
use Rattle.ctw_module.proofs.Known.{known}
use Rattle.ctw_module.specs.Lookup.{imported_count, function_named}
use Rattle.std.specs.List.{cons_option}
use Rattle.ctw_link.specs.Users.{element_entries, call_entries, user_entries}
use Rattle.ctw_link.specs.Marks.{AllBelow}
use Rattle.ctw_link.proofs.Folding.{all_there}

named_within : {A : Type 0} (l : List A) (i : ℕ) → Names l i → i < length l
named_within l i s = go (slice_get l i) refl s
  where
    go : (o : Option _) → slice_get l i ≡ o → IsSome o → i < length l
    go None e s = absurd cc
    go (Some a) e s = slice_get_within l i a e

-- ---- functions

imported_below : (m : Module Label) (l : List (Import Label)) → All (λ i. IsImported m i.kind) l → AllBelow (length m.types) (imported_functions l)
imported_below m [] all = All-nil (λ entry. entry < length m.types)
imported_below m (i ∷ l) all = go i.kind (All-head (λ i. IsImported m i.kind) i l all) (imported_below m l (All-tail (λ i. IsImported m i.kind) i l all))
  where
    go : (e : Extern Label) → IsImported m e → AllBelow (length m.types) (imported_functions l) → AllBelow (length m.types) (with_function e (imported_functions l))
    go (ImportedFunction type) named rest = All-cons (λ entry. entry < length m.types) type (imported_functions l) (named_within m.types type named) rest
    go (ImportedTable limits) named rest = rest
    go (ImportedMemory type) named rest = rest
    go (ImportedGlobal type) named rest = rest

entries_below : (m : Module Label) → IsValid m → AllBelow (length m.types) (function_entries m)
entries_below m v =
    let defined = All-map (λ entry. entry < length m.types) (λ (f : Function Label). f.type) m.functions (All-weaker (λ f. Names m.types f.type) (λ f. f.type < length m.types) (λ f. named_within m.types f.type) m.functions v.around.functions) in
    All-append (λ entry. entry < length m.types) (imported_functions m.imports) (map (λ f. f.type) m.functions) (imported_below m m.imports v.around.imports) defined

pub entry_below : (m : Module Label) (f entry : ℕ) → IsValid m → slice_get (function_entries m) f ≡ Some entry → entry < length m.types
entry_below m f entry v e = all_there (λ entry. entry < length m.types) (function_entries m) f entry e (entries_below m v)

pub functions_below : (m : Module Label) (i : ℕ) (e : Element Label) → IsValid m → slice_get m.elements i ≡ Some e → AllBelow (length (function_entries m)) e.functions
functions_below m i e v is =
    let element = all_there (IsElement m) m.elements i e is v.around.elements in
    All-weaker (Names (function_entries m)) (λ f. f < length (function_entries m)) (named_within (function_entries m)) e.functions element.3

-- ---- indirect calls

leaf_below : (C : Context Label) (leaf : Leaf Label) (a b : List (ValueType Label)) (others : List ℕ) → Row C leaf a b → AllBelow (length C.types) others → AllBelow (length C.types) (call_of leaf others)
leaf_below C (CallIndirect index) a b others row all = All-cons (λ entry. entry < length C.types) index others (slice_get_within C.types index row.1 row.2) all
leaf_below C leaf a b others row all = all

joined : (C : Context Label) (xs ys : List ℕ) → AllBelow (length C.types) xs → AllBelow (length C.types) ys → AllBelow (length C.types) (xs ++ ys)
joined C xs ys = All-append (λ entry. entry < length C.types) xs ys

calls_below : (C : Context Label) (code : Code Label) (a b : List (ValueType Label)) → Typed C code a b → AllBelow (length C.types) (indirect_calls code)
calls_below C Stop a b t = All-nil (λ entry. entry < length C.types)
calls_below C (Then leaf rest) a b t = leaf_below C leaf a t.0 (indirect_calls rest) t.1 (calls_below C rest t.0 b t.2)
calls_below C (Block r body rest) a b t = joined C (indirect_calls body) (indirect_calls rest) (calls_below (inside r C) body _ _ t.0) (calls_below C rest _ b t.1)
calls_below C (Loop r body rest) a b t = joined C (indirect_calls body) (indirect_calls rest) (calls_below (inside None C) body _ _ t.0) (calls_below C rest _ b t.1)
calls_below C (If r arm rest) a b t = joined C (indirect_calls arm) (indirect_calls rest) (calls_below (inside r C) arm _ _ t.1) (calls_below C rest _ b t.4)
calls_below C (IfElse r arm other rest) a b t =
    joined C (indirect_calls arm) (indirect_calls other ++ indirect_calls rest) (calls_below (inside r C) arm _ _ t.0)
    (joined C (indirect_calls other) (indirect_calls rest) (calls_below (inside r C) other _ _ t.1) (calls_below C rest _ b t.4))

typed_below : (m : Module Label) (f : Function Label) → HasItsType m f → AllBelow (length m.types) (indirect_calls f.body)
typed_below m f typed =
    All-weaker (λ entry. entry < length (function_types m)) (λ entry. entry < length m.types) (λ entry lt. omega (arith, lt, length-map m.types (λ entry. entry.type))) (indirect_calls f.body)
    (calls_below (context_of m f) f.body _ _ typed)

pub body_below : (m : Module Label) (i : ℕ) (f : Function Label) → IsValid m → slice_get m.functions i ≡ Some f → AllBelow (length m.types) (indirect_calls f.body)
body_below m i f v is = typed_below m f (all_there (HasItsType m) m.functions i f is v.bodies)

-- ---- all users

element_below : (m : Module Label) → IsValid m → (functions : List ℕ) → AllBelow (length m.types) (filter_map (slice_get (function_entries m)) functions)
element_below m v [] = All-nil (λ entry. entry < length m.types)
element_below m v (f ∷ functions) = go (slice_get (function_entries m) f) refl (element_below m v functions)
  where
    go : (o : Option ℕ) → slice_get (function_entries m) f ≡ o → AllBelow (length m.types) (filter_map (slice_get (function_entries m)) functions) → AllBelow (length m.types) (cons_option o (filter_map (slice_get (function_entries m)) functions))
    go None e rest = rest
    go (Some entry) e rest = All-cons (λ entry. entry < length m.types) entry _ (entry_below m f entry v e) rest

elements_below : (m : Module Label) → IsValid m → (elements : List (Element Label)) → AllBelow (length m.types) (flat_map (λ e. filter_map (slice_get (function_entries m)) e.functions) elements)
elements_below m v [] = All-nil (λ entry. entry < length m.types)
elements_below m v (e ∷ elements) = All-append (λ entry. entry < length m.types) _ _ (element_below m v e.functions) (elements_below m v elements)

bodies_below : (m : Module Label) (functions : List (Function Label)) → All (HasItsType m) functions → AllBelow (length m.types) (flat_map (λ f. indirect_calls f.body) functions)
bodies_below m [] all = All-nil (λ entry. entry < length m.types)
bodies_below m (f ∷ functions) all =
    All-append (λ entry. entry < length m.types) _ _ (typed_below m f (All-head (HasItsType m) f functions all)) (bodies_below m functions (All-tail (HasItsType m) f functions all))

pub users_below : (m : Module Label) → IsValid m → AllBelow (length m.types) (user_entries m)
users_below m v = All-append (λ entry. entry < length m.types) (element_entries m) (call_entries m) (elements_below m v m.elements) (bodies_below m m.functions v.bodies)

-- ---- elements are no more than bytes

heavy : (l : List (Element Label)) → length l ≤ weight heft l
heavy [] = omega arith
heavy (e ∷ l) = omega (arith, heavy l)

pub few_elements : (lent : Lent) → Spells lent.bytes (tree lent) → length (tree lent).elements ≤ length lent.bytes
unfolding tree parts
few_elements lent s = let k = known lent (tree lent) s in omega (arith, k.size, heavy (parts lent).elements)

-- ---- defined functions behind imported ones

pub named_at : (m : Module Label) (index : ℕ) (f : Function Label) → function_named m index ≡ Some f → (imported_count m ≤ index) × (slice_get m.functions (index - imported_count m) ≡ Some f)
named_at m index f e = go (nat_lt index (imported_count m)) refl e
  where
    go : (b : Bool) → nat_lt index (imported_count m) ≡ b → (if b then None else slice_get m.functions (index - imported_count m)) ≡ Some f → (imported_count m ≤ index) × (slice_get m.functions (index - imported_count m) ≡ Some f)
    go true t q = absurd (none-some f q)
    go false t q = (ltb-false index (imported_count m) t, q)
