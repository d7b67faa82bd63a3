-- The placed module is formed and keeps the limits of files.
use Rattle.std.proofs.Common.{◌≡◌, ◌≤◌, ◌<◌, ◌^◌, ℕ, zero, suc, ◌+◌, Bool, true, false, List, [], ◌∷◌, ◌++◌, length, map, slice_get, get_or, inl, inr, Option, Some, None, option_map, if◌then◌else◌, refl, sym, ap, ap₂, subst, ◌∙◌, arith, length-append}
use Rattle.std.specs.Prelude.{max, IfSome, unwrap_or}
use Rattle.std.specs.List.{AllByRecursion, sum_by}
use Rattle.std.proofs.lemmas.List.{length-map}
use Rattle.std.proofs.lemmas.List.Sums.{sum_by-cons}
use Rattle.std.proofs.lemmas.List.Elements.{All-weaker, All-from_recursion, recursion_from_All}
use Rattle.ctw_ops.specs.declared.types.Label.{Label}
use Rattle.ctw_ops.specs.declared.types.Label.TheVariants.{Public, Secret}
use Rattle.ctw_ops.specs.declared.types.Width.{Width}
use Rattle.ctw_ops.specs.Types.{FunctionType, MemoryType, erase_value_type, erase_function_type}
use Rattle.ctw_ops.specs.Limits.{most_params}
use Rattle.ctw_ops.specs.Code.{Leaf, CallIndirect, Code, Stop, Then, Block, Loop, If, IfElse, Op, Closes, ByEnd, ByElse, onto, opcodes}
use Rattle.ctw_ops.specs.Once.{imported_tables, with_table, imported_memories, with_memory}
use Rattle.ctw_ops.specs.TagMaps.{type_to, function_type_to}
use Rattle.ctw_ops.specs.Tree.{Module, TypeEntry, Extern, ImportedFunction, ImportedTable, ImportedMemory, ImportedGlobal, Import, Function, Constant, Number, ValueOf, Global, imported_functions, type_named}
use Rattle.ctw_ops.specs.Typing.{Context, optional, i32, inside}
use Rattle.ctw_ops.specs.Valid.{IsFitting, IsFormed}
use Rattle.ctw_flat.specs.Spelled.{height}
use Rattle.ctw_stack.specs.Operands.{Operands, fresh}
use Rattle.ctw_stack.specs.Steps.{expect}
use Rattle.ctw_labels.specs.declared.tag.Tag.{Tag}
use Rattle.ctw_labels.specs.declared.tag.Tag.TheVariants.{At}
use Rattle.ctw_labels.specs.Names.{Site}
use Rattle.ctw_labels.specs.Points.{Points, trust_at}
use Rattle.ctw_labels.specs.Sited.{yes, Lift, Sited, raised, raised_from, placed_code}
use Rattle.ctw_labels.specs.SitedModule.{site_context, place_of, site_count, first_global, first_defined, first_defined_global, head_sites, body_from, bodies_from}
use Rattle.ctw_labels.specs.Numbering.{BodyPlace, Numbered, number, opcode_count, params_from, type_from, named_in, result_from, leaf_sites, leaf_lift, leaf_node, after_lift, stepped, block_sites, block_lift, behind_block}
use Rattle.ctw_labels.specs.Placed.{TypeUse, use_of, use_to, is_all_public, place_of_use, with_use, with_uses, with_trust, type_uses, variants, variant_name, variant_entry, placed_constant, placed_globals, placed_memory, placed_extern, placed_imports, next_number, next_function, next_global, placed_function, placed_types, placed}
use Rattle.ctw_labels.proofs.BodyLaws.{IsBase}
use Rattle.ctw_labels.proofs.NumberLaws.{all_append_to}
use Rattle.ctw_write.specs.Canon.{type_entry_text, import_text, table_text, memory_text, global_text, export_text, element_text, segment_text, code_text, canon}
use Rattle.ctw_leb.specs.Spelling.{u32_text}
use Rattle.ctw_write.specs.KeepsLimits.{Is32, IsLimitedLeaf, IsLimitedOp, IsLimitedFunction, IsLimitedEntry, AreSizes, IsLimitedExtern, IsLimitedImport, IsLimitedConstant, contents, IsShort, item_counts, IsPlace, IsLimitedCustom, KeepsLimits}
use Rattle.ctw_write.proofs.Shorter.{section_short, vector_short}
use Rattle.ctw_sites.proofs.ScopeLaws.{params_length}
use Rattle.ctw_place.specs.Variants.{IsSmallUse}
use Rattle.ctw_place.proofs.UseLaws.{place_most, all_one}
use Rattle.ctw_place.proofs.SizeLaws.{imports_length, globals_length, functions_length}

-- ---- code

abbrev AreLimited : List (Op Label) → Type 0
AreLimited ops = AllByRecursion IsLimitedOp ops

module _ (L : Tag → Label) (name : ℕ → FunctionType Label → ℕ) (small : (y : ℕ) (g : FunctionType Label) → Is32 y → Is32 (name y g)) where
  raise_limited : (a b : Label) (free : Bool) (w : Width) (c : Code Label) (X : List (Op Label)) → AreLimited (onto c X) → AreLimited (onto (raised_from a b free w c) X)
  raise_limited Public Secret free w c X h = (tt, h)
  raise_limited Public Public free w c X h = h
  raise_limited Secret Secret free w c X h = h
  raise_limited Secret Public true w c X h = (tt, h)
  raise_limited Secret Public false w c X h = h

  raised_limited : (l : Option (Lift Tag)) (c : Code Label) (X : List (Op Label)) → AreLimited (onto c X) → AreLimited (onto (raised L l c) X)
  raised_limited None c X h = h
  raised_limited (Some l) c X h = raise_limited (L l.source) (L l.target) l.free l.width c X h

  raise_height : (a b : Label) (free : Bool) (w : Width) (c : Code Label) → height (raised_from a b free w c) ≡ height c
  raise_height Public Secret free w c = refl
  raise_height Public Public free w c = refl
  raise_height Secret Secret free w c = refl
  raise_height Secret Public true w c = refl
  raise_height Secret Public false w c = refl

  raised_height : (l : Option (Lift Tag)) (c : Code Label) → height (raised L l c) ≡ height c
  raised_height None c = refl
  raised_height (Some l) c = raise_height (L l.source) (L l.target) l.free l.width c

  module _ (P : BodyPlace Label) where
    leaf_limited : (C : Context Tag) (n : ℕ) (i : Leaf Label) (l : Option (Lift Tag)) (rest : Sited Tag) (X : List (Op Label)) → IsLimitedLeaf i → AreLimited (onto (placed_code L name rest) X) → AreLimited (onto (placed_code L name (leaf_node P C n i l rest)) X)
    leaf_limited C n (CallIndirect y) l rest X h k = (small y (function_type_to L (type_from n (named_in P.types y))) h, raised_limited l (placed_code L name rest) X k)
    leaf_limited C n i l rest X h k = (h, raised_limited l (placed_code L name rest) X k)

    leaf_height : (C : Context Tag) (n : ℕ) (i : Leaf Label) (l : Option (Lift Tag)) (rest : Sited Tag) → height (placed_code L name (leaf_node P C n i l rest)) ≡ height (placed_code L name rest)
    leaf_height C n (CallIndirect y) l rest = raised_height l (placed_code L name rest)
    leaf_height C n i l rest = raised_height l (placed_code L name rest)

    code_limited : (C : Context Tag) (c : Code Label) (n at : ℕ) (o : Operands Tag) (X Y : List (Op Label)) → AreLimited (onto c Y) → (AreLimited Y → AreLimited X) → AreLimited (onto (placed_code L name (number P C c n at o).code) X)
    code_limited C Stop n at o X Y h f = f h
    code_limited C (Then i rest) n at o X Y h f =
        let own : List Site = leaf_sites P C n at i o in
        let l : Option (Lift Tag) = leaf_lift P C n at i o in
        leaf_limited C n i l (number P C rest (n + length own) (at + 1) (after_lift l (stepped P C n i o))).code X h.0 (code_limited C rest (n + length own) (at + 1) (after_lift l (stepped P C n i o)) X Y h.1 f)
    code_limited C (Block t body rest) n at o X Y h f =
        let own : List Site = block_sites P.func at n t in
        let b : Numbered = number P (inside (result_from n t) C) body (n + length own) (at + 1) fresh in
        let r : Numbered = number P C rest (n + length own + length b.sites) (at + opcode_count body + 2) (behind_block (P.free at) n t o) in (
          tt,
          code_limited (inside (result_from n t) C) body (n + length own) (at + 1) fresh (Closes ByEnd ∷ onto (raised L (block_lift (P.free at) n t) (placed_code L name r.code)) X) (Closes ByEnd ∷ onto rest Y) h.1
              (λ k. (tt, raised_limited (block_lift (P.free at) n t) (placed_code L name r.code) X (code_limited C rest (n + length own + length b.sites) (at + opcode_count body + 2) (behind_block (P.free at) n t o) X Y k.1 f))),
        )
    code_limited C (Loop t body rest) n at o X Y h f =
        let own : List Site = block_sites P.func at n t in
        let b : Numbered = number P (inside None C) body (n + length own) (at + 1) fresh in
        let r : Numbered = number P C rest (n + length own + length b.sites) (at + opcode_count body + 2) (behind_block (P.free at) n t o) in (
          tt,
          code_limited (inside None C) body (n + length own) (at + 1) fresh (Closes ByEnd ∷ onto (raised L (block_lift (P.free at) n t) (placed_code L name r.code)) X) (Closes ByEnd ∷ onto rest Y) h.1
              (λ k. (tt, raised_limited (block_lift (P.free at) n t) (placed_code L name r.code) X (code_limited C rest (n + length own + length b.sites) (at + opcode_count body + 2) (behind_block (P.free at) n t o) X Y k.1 f))),
        )
    code_limited C (If t arm rest) n at o X Y h f =
        let own : List Site = block_sites P.func at n t in
        let m : Operands Tag = unwrap_or (expect yes (i32 C) o) fresh in
        let b : Numbered = number P (inside (result_from n t) C) arm (n + length own) (at + 1) fresh in
        let r : Numbered = number P C rest (n + length own + length b.sites) (at + opcode_count arm + 2) (behind_block (P.free at) n t m) in (
          tt,
          code_limited (inside (result_from n t) C) arm (n + length own) (at + 1) fresh (Closes ByEnd ∷ onto (raised L (block_lift (P.free at) n t) (placed_code L name r.code)) X) (Closes ByEnd ∷ onto rest Y) h.1
              (λ k. (tt, raised_limited (block_lift (P.free at) n t) (placed_code L name r.code) X (code_limited C rest (n + length own + length b.sites) (at + opcode_count arm + 2) (behind_block (P.free at) n t m) X Y k.1 f))),
        )
    code_limited C (IfElse t arm other rest) n at o X Y h f =
        let own : List Site = block_sites P.func at n t in
        let m : Operands Tag = unwrap_or (expect yes (i32 C) o) fresh in
        let I : Context Tag = inside (result_from n t) C in
        let b : Numbered = number P I arm (n + length own) (at + 1) fresh in
        let c : Numbered = number P I other (n + length own + length b.sites) (at + opcode_count arm + 2) fresh in
        let r : Numbered = number P C rest (n + length own + length b.sites + length c.sites) (at + opcode_count arm + opcode_count other + 3) (behind_block (P.free at) n t m) in
        let Z : List (Op Label) = Closes ByEnd ∷ onto (raised L (block_lift (P.free at) n t) (placed_code L name r.code)) X in (
          tt,
          code_limited I arm (n + length own) (at + 1) fresh (Closes ByElse ∷ onto (placed_code L name c.code) Z) (Closes ByElse ∷ onto other (Closes ByEnd ∷ onto rest Y)) h.1
              (λ k. (
                tt,
                code_limited I other (n + length own + length b.sites) (at + opcode_count arm + 2) fresh Z (Closes ByEnd ∷ onto rest Y) k.1
                    (λ j. (tt, raised_limited (block_lift (P.free at) n t) (placed_code L name r.code) X (code_limited C rest (n + length own + length b.sites + length c.sites) (at + opcode_count arm + opcode_count other + 3) (behind_block (P.free at) n t m) X Y j.1 f))),
              )),
        )

    code_height : (C : Context Tag) (c : Code Label) (n at : ℕ) (o : Operands Tag) → height (placed_code L name (number P C c n at o).code) ≡ height c
    code_height C Stop n at o = refl
    code_height C (Then i rest) n at o =
        let own : List Site = leaf_sites P C n at i o in
        let l : Option (Lift Tag) = leaf_lift P C n at i o in
        leaf_height C n i l (number P C rest (n + length own) (at + 1) (after_lift l (stepped P C n i o))).code ∙ code_height C rest (n + length own) (at + 1) (after_lift l (stepped P C n i o))
    code_height C (Block t body rest) n at o =
        let own : List Site = block_sites P.func at n t in
        let b : Numbered = number P (inside (result_from n t) C) body (n + length own) (at + 1) fresh in
        let r : Numbered = number P C rest (n + length own + length b.sites) (at + opcode_count body + 2) (behind_block (P.free at) n t o) in
        ap₂ (λ (x y : ℕ). max (suc x) y) (code_height (inside (result_from n t) C) body (n + length own) (at + 1) fresh)
        (raised_height (block_lift (P.free at) n t) (placed_code L name r.code) ∙ code_height C rest (n + length own + length b.sites) (at + opcode_count body + 2) (behind_block (P.free at) n t o))
    code_height C (Loop t body rest) n at o =
        let own : List Site = block_sites P.func at n t in
        let b : Numbered = number P (inside None C) body (n + length own) (at + 1) fresh in
        let r : Numbered = number P C rest (n + length own + length b.sites) (at + opcode_count body + 2) (behind_block (P.free at) n t o) in
        ap₂ (λ (x y : ℕ). max (suc x) y) (code_height (inside None C) body (n + length own) (at + 1) fresh)
        (raised_height (block_lift (P.free at) n t) (placed_code L name r.code) ∙ code_height C rest (n + length own + length b.sites) (at + opcode_count body + 2) (behind_block (P.free at) n t o))
    code_height C (If t arm rest) n at o =
        let own : List Site = block_sites P.func at n t in
        let m : Operands Tag = unwrap_or (expect yes (i32 C) o) fresh in
        let b : Numbered = number P (inside (result_from n t) C) arm (n + length own) (at + 1) fresh in
        let r : Numbered = number P C rest (n + length own + length b.sites) (at + opcode_count arm + 2) (behind_block (P.free at) n t m) in
        ap₂ (λ (x y : ℕ). max (suc x) y) (code_height (inside (result_from n t) C) arm (n + length own) (at + 1) fresh)
        (raised_height (block_lift (P.free at) n t) (placed_code L name r.code) ∙ code_height C rest (n + length own + length b.sites) (at + opcode_count arm + 2) (behind_block (P.free at) n t m))
    code_height C (IfElse t arm other rest) n at o =
        let own : List Site = block_sites P.func at n t in
        let m : Operands Tag = unwrap_or (expect yes (i32 C) o) fresh in
        let I : Context Tag = inside (result_from n t) C in
        let b : Numbered = number P I arm (n + length own) (at + 1) fresh in
        let c : Numbered = number P I other (n + length own + length b.sites) (at + opcode_count arm + 2) fresh in
        let r : Numbered = number P C rest (n + length own + length b.sites + length c.sites) (at + opcode_count arm + opcode_count other + 3) (behind_block (P.free at) n t m) in
        ap₂ (λ (x y : ℕ). max (suc x) y)
        (ap₂ (λ (x y : ℕ). max x y) (code_height I arm (n + length own) (at + 1) fresh) (code_height I other (n + length own + length b.sites) (at + opcode_count arm + 2) fresh))
        (raised_height (block_lift (P.free at) n t) (placed_code L name r.code) ∙ code_height C rest (n + length own + length b.sites + length c.sites) (at + opcode_count arm + opcode_count other + 3) (behind_block (P.free at) n t m))

-- ---- items

constant_limited : (l : Label) (c : Constant Label) → IsLimitedConstant c → IsLimitedConstant (placed_constant l c)
constant_limited l (Number t bits) h = tt
constant_limited l (ValueOf k) h = h

constant_fits : (l : Label) (c : Constant Label) → IsFitting c → IsFitting (placed_constant l c)
constant_fits l (Number t bits) h = h
constant_fits l (ValueOf k) h = h

-- the plain type that an index names is small, and so is the index
named_small : (es : List (TypeEntry Label)) → AllByRecursion IsLimitedEntry es → (y : ℕ) (g : FunctionType Label) → slice_get (map (λ e. e.type) es) y ≡ Some g → (y < length es) × (length g.params ≤ most_params)
named_small [] h y g q = absurd cc
named_small (e ∷ es) h zero g q = let k : e.type ≡ g = cc in (omega arith, subst (λ (t : FunctionType Label). length t.params ≤ most_params) k h.0.1)
named_small (e ∷ es) h (suc y) g q = let r = named_small es h.1 y g q in (omega (arith, r.0), r.1)

with_all : (P : TypeUse Label → Type 0) (vs us : List (TypeUse Label)) → AllByRecursion P vs → AllByRecursion P us → AllByRecursion P (with_uses vs us)
with_all P vs [] h k = h
with_all P vs (u ∷ us) h k = with_all P (with_use vs u) us (all_one P vs u h k.0) k.1

entries_of : (vs : List (TypeUse Label)) → AllByRecursion IsSmallUse vs → AllByRecursion IsLimitedEntry (map variant_entry vs)
entries_of [] h = tt
entries_of (v ∷ vs) h = (h.0, entries_of vs h.1)

memory_limited : (L : Tag → Label) (m : Module Label) (t : Option (MemoryType Label)) → IfSome t (λ type. AreSizes type.limits) → IfSome (option_map (placed_memory L m) t) (λ type. AreSizes type.limits)
memory_limited L m None h = tt
memory_limited L m (Some t) h = h

memory_stays : (L : Tag → Label) (m : Module Label) (t : Option (MemoryType Label)) → length (optional (option_map (placed_memory L m) t)) ≡ length (optional t)
memory_stays L m None = refl
memory_stays L m (Some t) = refl

-- where a count isn't nought, its neighbour isn't
abbrev StaySome : List ℕ → List ℕ → Type 0
StaySome [] ys = Unit {0}
StaySome (x ∷ xs) [] = ⊥
StaySome (x ∷ xs) (y ∷ ys) = (x ≤ y) × StaySome xs ys

stays_some : (xs ys : List ℕ) → StaySome xs ys → (k : ℕ) → get_or xs k 0 ≤ get_or ys k 0
stays_some [] ys h k = omega arith
stays_some (x ∷ xs) [] h k = absurd h
stays_some (x ∷ xs) (y ∷ ys) h zero = h.0
stays_some (x ∷ xs) (y ∷ ys) h (suc k) = stays_some xs ys h.1 k

module _ (L : Tag → Label) (m : Module Label) (p : Points) where
  abbrev own_name : ℕ → FunctionType Label → ℕ
  own_name = variant_name L m p

  -- ---- formed

  tables_stay : (k q n : ℕ) (is : List (Import Label)) → imported_tables (placed_imports L own_name m p k q n is) ≡ imported_tables is
  tables_stay k q n [] = refl
  tables_stay k q n (i ∷ is) = by i.kind (tables_stay (next_number L own_name m p i.kind k) (next_function L own_name m p i.kind q) (next_global L own_name m p i.kind n) is)
    where
      by : (e : Extern Label) {xs ys : List _} → xs ≡ ys → with_table (placed_extern L own_name m p k q n e) xs ≡ with_table e ys
      by (ImportedFunction y) h = h
      by (ImportedTable limits) h = ap (λ z. limits ∷ z) h
      by (ImportedMemory t) h = h
      by (ImportedGlobal g) h = h

  memories_stay : (k q n : ℕ) (is : List (Import Label)) → length (imported_memories (placed_imports L own_name m p k q n is)) ≡ length (imported_memories is)
  memories_stay k q n [] = refl
  memories_stay k q n (i ∷ is) = by i.kind (imported_memories (placed_imports L own_name m p (next_number L own_name m p i.kind k) (next_function L own_name m p i.kind q) (next_global L own_name m p i.kind n) is)) (imported_memories is) (memories_stay (next_number L own_name m p i.kind k) (next_function L own_name m p i.kind q) (next_global L own_name m p i.kind n) is)
    where
      by : (e : Extern Label) (xs ys : List (MemoryType Label)) → length xs ≡ length ys → length (with_memory (placed_extern L own_name m p k q n e) xs) ≡ length (with_memory e ys)
      by (ImportedFunction y) xs ys h = h
      by (ImportedTable limits) xs ys h = h
      by (ImportedMemory t) xs ys h = ap suc h
      by (ImportedGlobal g) xs ys h = h

  globals_fit : (n : ℕ) (gs : List (Global Label)) → AllByRecursion (λ g. IsFitting g.init) gs → AllByRecursion (λ g. IsFitting g.init) (placed_globals L n gs)
  globals_fit n [] h = tt
  globals_fit n (g ∷ gs) h = (constant_fits (L (At n)) g.init h.0, globals_fit (n + 1) gs h.1)

  pub placed_formed : IsFormed m → IsFormed (placed L m p)
  placed_formed f = record {
    tables = subst (λ z. length (z ++ optional m.table) ≤ 1) (sym (tables_stay 0 0 (first_global m) m.imports)) f.tables;
    memories =
        let a = memories_stay 0 0 (first_global m) m.imports in
        let b = length-append (imported_memories (placed L m p).imports) (optional (placed L m p).memory) in
        let c = length-append (imported_memories m.imports) (optional m.memory) in
        omega (arith, f.memories, a, b, c, memory_stays L m m.memory);
    globals = All-from_recursion (λ g. IsFitting g.init) (placed L m p).globals (globals_fit (first_defined_global m) m.globals (recursion_from_All (λ (g : Global Label). IsFitting g.init) m.globals f.globals));
    elements = f.elements;
    segments = f.segments;
    plain = λ e. absurd cc;
  }

  -- ---- within the limits

  module _ (k : KeepsLimits m) (few : length m.types + length (variants L m p) < 2 ^ 32) where
    name_small : (y : ℕ) (g : FunctionType Label) → Is32 y → Is32 (variant_name L m p y g)
    name_small y g lt = by (is_all_public g)
      where
        by : (b : Bool) → (if b then y else length m.types + place_of_use (variants L m p) (use_of y g)) < 2 ^ 32
        by true = lt
        by false = omega (arith, few, place_most (variants L m p) (use_of y g))

    function_limited : (q f n : ℕ) (g : Function Label) → IsLimitedFunction g → IsLimitedFunction (placed_function L (variant_name L m p) m p (body_from m p q f n g))
    function_limited q f n g h = record {
      type = name_small g.type (function_type_to L (with_trust (trust_at p f) (type_from q (type_named m g.type)))) h.type;
      locals = omega (arith, h.locals, length-map (params_from n g.locals) (type_to L), params_length n g.locals);
      ops =
          All-from_recursion IsLimitedOp (opcodes (placed_function L (variant_name L m p) m p (body_from m p q f n g)).body)
          (code_limited L (variant_name L m p) name_small (place_of m p f) (site_context m (trust_at p f) (type_from q (type_named m g.type)) (params_from n g.locals)) g.body (n + length g.locals) 0 fresh (Closes ByEnd ∷ []) (Closes ByEnd ∷ [])
          (recursion_from_All IsLimitedOp (opcodes g.body) h.ops) (λ k. k));
      nesting =
          let e = code_height L (variant_name L m p) name_small (place_of m p f) (site_context m (trust_at p f) (type_from q (type_named m g.type)) (params_from n g.locals)) g.body (n + length g.locals) 0 fresh in
          omega (arith, e, h.nesting);
    }

    functions_limited : (q f n : ℕ) (gs : List (Function Label)) → AllByRecursion IsLimitedFunction gs → AllByRecursion IsLimitedFunction (map (placed_function L (variant_name L m p) m p) (bodies_from m p q f n gs))
    functions_limited q f n [] h = tt
    functions_limited q f n (g ∷ gs) h =
        (function_limited q f n g h.0, functions_limited (q + site_count (type_named m g.type)) (f + 1) (n + length (body_from m p q f n g).sites) gs h.1)

    same_locals : (q f n : ℕ) (gs : List (Function Label)) → sum_by (λ (g : Function Label). length g.locals) (map (placed_function L (variant_name L m p) m p) (bodies_from m p q f n gs)) ≡ sum_by (λ (g : Function Label). length g.locals) gs
    same_locals q f n [] = refl
    same_locals q f n (g ∷ gs) =
        let q' = q + site_count (type_named m g.type) in
        let n' = n + length (body_from m p q f n g).sites in
        let h = same_locals q' (f + 1) n' gs in
        let a = sum_by-cons (λ (g : Function Label). length g.locals) (placed_function L (variant_name L m p) m p (body_from m p q f n g)) (map (placed_function L (variant_name L m p) m p) (bodies_from m p q' (f + 1) n' gs)) in
        let b = sum_by-cons (λ (g : Function Label). length g.locals) g gs in
        omega (arith, h, a, b, length-map (params_from n g.locals) (type_to L), params_length n g.locals)

    extern_limited : (f q n : ℕ) (e : Extern Label) → IsLimitedExtern e → IsLimitedExtern (placed_extern L (variant_name L m p) m p f q n e)
    extern_limited f q n (ImportedFunction y) h = name_small y (function_type_to L (with_trust (trust_at p f) (type_from q (type_named m y)))) h
    extern_limited f q n (ImportedTable limits) h = h
    extern_limited f q n (ImportedMemory t) h = h
    extern_limited f q n (ImportedGlobal g) h = tt

    imports_limited : (f q n : ℕ) (is : List (Import Label)) → AllByRecursion IsLimitedImport is → AllByRecursion IsLimitedImport (placed_imports L (variant_name L m p) m p f q n is)
    imports_limited f q n [] h = tt
    imports_limited f q n (i ∷ is) h = (
      (h.0.0, h.0.1, extern_limited f q n i.kind h.0.2),
      imports_limited (next_number L (variant_name L m p) m p i.kind f) (next_function L (variant_name L m p) m p i.kind q) (next_global L (variant_name L m p) m p i.kind n) is h.1,
    )

    globals_limited : (n : ℕ) (gs : List (Global Label)) → AllByRecursion (λ g. IsLimitedConstant g.init) gs → AllByRecursion (λ g. IsLimitedConstant g.init) (placed_globals L n gs)
    globals_limited n [] h = tt
    globals_limited n (g ∷ gs) h = (constant_limited (L (At n)) g.init h.0, globals_limited (n + 1) gs h.1)

    use_small : (u : TypeUse Tag) → IsBase m u → IsSmallUse (use_to L u)
    use_small u b =
        let g = erase_function_type (function_type_to (λ t. Public) u.type) in
        let r = named_small m.types (recursion_from_All IsLimitedEntry m.types k.types) u.base g b in
        let a = length-map u.type.params (type_to (λ (t : Tag). Public)) in
        let c = length-map (map (type_to (λ (t : Tag). Public)) u.type.params) erase_value_type in
        (omega (arith, r.0, few), omega (arith, r.1, a, c, length-map u.type.params (type_to L)))

    uses_small : (us : List (TypeUse Tag)) → AllByRecursion (IsBase m) us → AllByRecursion IsSmallUse (map (use_to L) us)
    uses_small [] h = tt
    uses_small (u ∷ us) h = (use_small u h.0, uses_small us h.1)

    types_limited : AllByRecursion (IsBase m) (type_uses m p) → AllByRecursion IsLimitedEntry (placed_types L m p)
    types_limited b =
        all_append_to IsLimitedEntry m.types (map variant_entry (variants L m p)) (recursion_from_All IsLimitedEntry m.types k.types)
        (entries_of (variants L m p) (with_all IsSmallUse [] (map (use_to L) (type_uses m p)) tt (uses_small (type_uses m p) b)))

    counts_stay : StaySome (item_counts m) (item_counts (placed L m p))
    counts_stay =
        let t = length-append m.types (map variant_entry (variants L m p)) in
        let i = imports_length L m p 0 0 (first_global m) m.imports in
        let f = functions_length L m p (first_defined m) (length (imported_functions m.imports)) (length (head_sites m)) m.functions in
        let y = memory_stays L m m.memory in
        let g = globals_length L m p (first_defined_global m) m.globals in (
          omega arith,
          (
            omega (arith, t),
            (omega (arith, i), (omega (arith, f), (omega arith, (omega (arith, y), (omega (arith, g), (omega arith, (omega arith, (omega arith, (omega (arith, f), (omega arith, tt)))))))))),
          ),
        )

    place_stays : (place : ℕ) → IsPlace m place → IsPlace (placed L m p) place
    place_stays place (inl first) = inl first
    place_stays place (inr some) = inr (omega (arith, some, stays_some (item_counts m) (item_counts (placed L m p)) counts_stay place))

    pub limits_placed : AllByRecursion (IsBase m) (type_uses m p) → length (canon (placed L m p)) < 2 ^ 32 → KeepsLimits (placed L m p)
    limits_placed b lt =
        let M = placed L m p in
        record {
          profile = k.profile;
          types = All-from_recursion IsLimitedEntry (placed L m p).types (types_limited b);
          imports = All-from_recursion IsLimitedImport (placed L m p).imports (imports_limited 0 0 (first_global m) m.imports (recursion_from_All IsLimitedImport m.imports k.imports));
          functions = All-from_recursion IsLimitedFunction (placed L m p).functions (functions_limited (first_defined m) (length (imported_functions m.imports)) (length (head_sites m)) m.functions (recursion_from_All IsLimitedFunction m.functions k.functions));
          locals = let e = same_locals (first_defined m) (length (imported_functions m.imports)) (length (head_sites m)) m.functions in omega (arith, e, k.locals);
          table = k.table;
          memory = memory_limited L m m.memory k.memory;
          globals = All-from_recursion (λ (g : Global Label). IsLimitedConstant g.init) (placed L m p).globals (globals_limited (first_defined_global m) m.globals (recursion_from_All (λ (g : Global Label). IsLimitedConstant g.init) m.globals k.globals));
          exports = k.exports;
          start = k.start;
          elements = k.elements;
          segments = k.segments;
          sections =
              All-from_recursion IsShort (contents (placed L m p)) (
                vector_short 1 type_entry_text M.types (section_short M 1 lt),
                (
                  vector_short 2 import_text M.imports (section_short M 2 lt),
                  (
                    vector_short 3 (λ (f : Function Label). u32_text f.type) M.functions (section_short M 3 lt),
                    (
                      vector_short 4 table_text (optional M.table) (section_short M 4 lt),
                      (
                        vector_short 5 memory_text (optional M.memory) (section_short M 5 lt),
                        (
                          vector_short 6 global_text M.globals (section_short M 6 lt),
                          (
                            vector_short 7 export_text M.exports (section_short M 7 lt),
                            (vector_short 9 element_text M.elements (section_short M 9 lt), (vector_short 10 code_text M.functions (section_short M 10 lt), (vector_short 11 segment_text M.segments (section_short M 11 lt), tt))),
                          ),
                        ),
                      ),
                    ),
                  ),
                ),
              );
          customs = All-weaker (IsLimitedCustom m) (IsLimitedCustom (placed L m p)) (λ c h. record { place = place_stays c.place h.place; name = h.name; size = h.size }) m.customs k.customs;
          rising = k.rising;
          plain_bytes = λ e. absurd cc;
        }
