-- The erased module keeps the limits of files, where its canonical spelling is no longer than a plain file may be.
use Rattle.std.proofs.Common.{◌≡◌, ℕ, zero, suc, ◌<◌, ◌≤◌, List, [], ◌∷◌, length, map, slice_get, get_or, flat_map, inl, inr, Option, Some, None, option_map, All, refl, sym, ap, ap₂, subst, ◌∙◌, arith}
use Rattle.std.specs.Prelude.{max, IfSome}
use Rattle.std.specs.List.{cons_option, sum_by}
use Rattle.std.proofs.lemmas.List.{length-map}
use Rattle.std.proofs.lemmas.List.Sums.{sum_by-cons}
use Rattle.std.proofs.lemmas.List.Elements.{All-nil, All-cons, All-head, All-tail, All-append, All-map, All-weaker, All-from_recursion, recursion_from_All}
use Rattle.ctw_ops.specs.declared.types.Label.{Label}
use Rattle.ctw_ops.specs.Types.{MemoryType, erase_value_type, erase_function_type}
use Rattle.ctw_ops.specs.Limits.{most_params, most_plain_bytes}
use Rattle.ctw_ops.specs.Code.{Leaf, CallIndirect, Classify, Declassify, Code, Stop, Then, Block, Loop, If, IfElse, Op, Plain, Opens, Closes, opcodes}
use Rattle.ctw_ops.specs.TagMaps.{in_front_of, op_to}
use Rattle.ctw_ops.specs.Tree.{Module, TypeEntry, Extern, ImportedFunction, ImportedTable, ImportedMemory, ImportedGlobal, Import, Function, Constant, Number, ValueOf, Global}
use Rattle.ctw_ops.specs.Typing.{optional}
use Rattle.ctw_ops.specs.Valid.{AreTypes, IsFormed}
use Rattle.ctw_ops.specs.Erasure.{kept_entry, erase_entries, base_of, erase_label, erase_leaf, erase_code, erase_memory_type, erase_extern, erase_import, erase_function, erase_constant, erase_global, erase_element, erase_segment, erase_module}
use Rattle.ctw_ops.proofs.TagMaps.{opcodes_to}
use Rattle.ctw_ops.proofs.Variants.{VariantsFit, variants_fit}
use Rattle.ctw_flat.specs.Spelled.{height}
use Rattle.ctw_form.specs.Spelled.{Spells}
use Rattle.ctw_write.specs.Canon.{canon}
use Rattle.ctw_write.specs.KeepsLimits.{Is32, IsLimitedOp, IsLimitedFunction, IsLimitedEntry, AreSizes, IsLimitedExtern, IsLimitedImport, IsLimitedConstant, IsLimitedElement, IsLimitedSegment, contents, IsShort, item_counts, IsPlace, IsLimitedCustom, KeepsLimits}
use Rattle.ctw_write.proofs.KeptModules.{module_limited}
use Rattle.ctw_write.proofs.FormedModules.{formed_spelled, only_formed}
use Rattle.ctw_strip.proofs.Bases.{base_below}
use Rattle.ctw_strip.proofs.Shorter.{shorter_contents}

-- ---- code

module _ (entries : List (TypeEntry Label)) (a : AreTypes entries) where
  base_small : (i : ℕ) → Is32 i → Is32 (base_of entries i)
  base_small i lt = omega (arith, base_below entries a i)

  leaf_limited : (leaf : Leaf Label) → IsLimitedOp (Plain leaf) → All IsLimitedOp (map Plain (erase_leaf entries leaf))
  leaf_limited (CallIndirect index) h = All-cons IsLimitedOp (Plain (CallIndirect (base_of entries index))) [] (base_small index h) (All-nil IsLimitedOp)
  leaf_limited (Classify w) h = All-nil IsLimitedOp
  leaf_limited (Declassify w) h = All-nil IsLimitedOp
  leaf_limited leaf h = All-cons IsLimitedOp _ [] h (All-nil IsLimitedOp)

  op_limited : (op : Op Label) → IsLimitedOp op → All IsLimitedOp (op_to erase_label (erase_leaf entries) op)
  op_limited (Plain leaf) h = leaf_limited leaf h
  op_limited (Opens shape t) h = All-cons IsLimitedOp _ [] tt (All-nil IsLimitedOp)
  op_limited (Closes closer) h = All-cons IsLimitedOp _ [] tt (All-nil IsLimitedOp)

  ops_limited : (ops : List (Op Label)) → All IsLimitedOp ops → All IsLimitedOp (flat_map (op_to erase_label (erase_leaf entries)) ops)
  ops_limited [] h = All-nil IsLimitedOp
  ops_limited (op ∷ ops) h =
      All-append IsLimitedOp (op_to erase_label (erase_leaf entries) op) (flat_map (op_to erase_label (erase_leaf entries)) ops)
      (op_limited op (All-head IsLimitedOp op ops h)) (ops_limited ops (All-tail IsLimitedOp op ops h))

  front_height : (leaves : List (Leaf Label)) (rest : Code Label) → height (in_front_of leaves rest) ≡ height rest
  front_height [] rest = refl
  front_height (leaf ∷ leaves) rest = front_height leaves rest

  height_erased : (code : Code Label) → height (erase_code entries code) ≡ height code
  height_erased Stop = refl
  height_erased (Then leaf rest) = front_height (erase_leaf entries leaf) (erase_code entries rest) ∙ height_erased rest
  height_erased (Block t body rest) = ap₂ (λ (m n : ℕ). max (suc m) n) (height_erased body) (height_erased rest)
  height_erased (Loop t body rest) = ap₂ (λ (m n : ℕ). max (suc m) n) (height_erased body) (height_erased rest)
  height_erased (If t arm rest) = ap₂ (λ (m n : ℕ). max (suc m) n) (height_erased arm) (height_erased rest)
  height_erased (IfElse t arm other rest) = ap₂ (λ (m n : ℕ). max (suc m) n) (ap₂ (λ (m n : ℕ). max m n) (height_erased arm) (height_erased other)) (height_erased rest)

  function_limited : (f : Function Label) → IsLimitedFunction f → IsLimitedFunction (erase_function entries f)
  function_limited f h = record {
    type = base_small f.type h.type;
    locals = omega (arith, length-map f.locals erase_value_type, h.locals);
    ops = subst (All IsLimitedOp) (sym (opcodes_to erase_label (erase_leaf entries) f.body)) (ops_limited (opcodes f.body) h.ops);
    nesting = omega (arith, height_erased f.body, h.nesting);
  }

  -- ---- items

  extern_limited : (e : Extern Label) → IsLimitedExtern e → IsLimitedExtern (erase_extern entries e)
  extern_limited (ImportedFunction type) h = base_small type h
  extern_limited (ImportedTable limits) h = h
  extern_limited (ImportedMemory type) h = h
  extern_limited (ImportedGlobal type) h = tt

  import_limited : (i : Import Label) → IsLimitedImport i → IsLimitedImport (erase_import entries i)
  import_limited i h = (h.0, h.1, extern_limited i.kind h.2)

  -- as many locals
  same_locals : (fs : List (Function Label)) → sum_by (λ f. length f.locals) (map (erase_function entries) fs) ≡ sum_by (λ f. length f.locals) fs
  same_locals [] = refl
  same_locals (f ∷ fs) = omega (
    arith,
    sum_by-cons (λ (g : Function Label). length g.locals) (erase_function entries f) (map (erase_function entries) fs),
    sum_by-cons (λ (g : Function Label). length g.locals) f fs,
    length-map f.locals erase_value_type,
    same_locals fs,
  )

  -- some entry is kept where there is one
  some_kept : 0 < length entries → 0 < length (erase_entries entries)
  some_kept some = go entries refl some
    where
      fit : VariantsFit entries
      fit = variants_fit entries a

      first : (d : TypeEntry Label) (ds : List (TypeEntry Label)) → slice_get entries 0 ≡ Some d → (b : Option ℕ) → d.base ≡ b → 0 < length (cons_option (kept_entry b d.type) (erase_entries ds))
      first d ds e None q = omega arith
      first d ds e (Some base) q =
          let b = fit.bases 0 d base e q in
          absurd (omega (arith, fit.order base 0 b.0 d base b.1 b.2 e q))

      go : (l : List (TypeEntry Label)) → entries ≡ l → 0 < length l → 0 < length (erase_entries l)
      go [] e lt = absurd (omega arith)
      go (d ∷ ds) e lt = first d ds (ap (λ (l : List (TypeEntry Label)). slice_get l 0) e) d.base refl

entries_limited : (l : List (TypeEntry Label)) → All IsLimitedEntry l → All IsLimitedEntry (erase_entries l)
entries_limited [] h = All-nil IsLimitedEntry
entries_limited (d ∷ ds) h = go d.base (All-head IsLimitedEntry d ds h).1 (entries_limited ds (All-tail IsLimitedEntry d ds h))
  where
    go : (b : Option ℕ) → length d.type.params ≤ most_params → All IsLimitedEntry (erase_entries ds) → All IsLimitedEntry (cons_option (kept_entry b d.type) (erase_entries ds))
    go None few k = All-cons IsLimitedEntry (record { base = None; type = erase_function_type d.type }) (erase_entries ds) (tt, omega (arith, few, length-map d.type.params erase_value_type)) k
    go (Some base) few k = k

constant_limited : (c : Constant Label) → IsLimitedConstant c → IsLimitedConstant (erase_constant c)
constant_limited (Number type bits) h = tt
constant_limited (ValueOf x) h = h

memory_limited : (t : Option (MemoryType Label)) → IfSome t (λ type. AreSizes type.limits) → IfSome (option_map erase_memory_type t) (λ type. AreSizes type.limits)
memory_limited None h = tt
memory_limited (Some t) h = h

-- what holds of all that a function gives
all_given : {A B : Type 0} (P : A → Type 0) (Q : B → Type 0) (f : A → B) → ((a : A) → P a → Q (f a)) → (l : List A) → All P l → All Q (map f l)
all_given {A} P Q f h l all = All-map Q f l (All-weaker P (λ (a : A). Q (f a)) h l all)

-- ---- sections

sections_limited : (m : Module Label) → AreTypes m.types → All IsShort (contents m) → All IsShort (contents (erase_module m))
sections_limited m a h =
    let s = shorter_contents m a in
    let c = recursion_from_All IsShort (contents m) h in
    All-from_recursion IsShort (contents (erase_module m)) (
      omega (arith, s.types, c.0),
      (
        omega (arith, s.imports, c.1.0),
        (
          omega (arith, s.uses, c.1.1.0),
          (
            c.1.1.1.0,
            (
              omega (arith, s.memory, c.1.1.1.1.0),
              (
                omega (arith, s.globals, c.1.1.1.1.1.0),
                (
                  c.1.1.1.1.1.1.0,
                  (omega (arith, s.elements, c.1.1.1.1.1.1.1.0), (omega (arith, s.codes, c.1.1.1.1.1.1.1.1.0), (omega (arith, s.segments, c.1.1.1.1.1.1.1.1.1.0), tt))),
                ),
              ),
            ),
          ),
        ),
      ),
    )

-- where a count isn't nought, its neighbour isn't
abbrev StaySome : List ℕ → List ℕ → Type 0
StaySome [] ys = Unit {0}
StaySome (x ∷ xs) [] = ⊥
StaySome (x ∷ xs) (y ∷ ys) = (0 < x → 0 < y) × StaySome xs ys

stays_some : (xs ys : List ℕ) → StaySome xs ys → (k : ℕ) → 0 < get_or xs k 0 → 0 < get_or ys k 0
stays_some [] ys h k lt = absurd (omega arith)
stays_some (x ∷ xs) [] h k lt = absurd h
stays_some (x ∷ xs) (y ∷ ys) h zero lt = h.0 lt
stays_some (x ∷ xs) (y ∷ ys) h (suc k) lt = stays_some xs ys h.1 k lt

memory_stays : (t : Option (MemoryType Label)) → 0 < length (optional t) → 0 < length (optional (option_map erase_memory_type t))
memory_stays None lt = lt
memory_stays (Some t) lt = omega arith

counts_stay : (m : Module Label) → AreTypes m.types → StaySome (item_counts m) (item_counts (erase_module m))
counts_stay m a = (
  λ lt. lt,
  (
    some_kept m.types a,
    (
      λ lt. omega (arith, length-map m.imports (erase_import m.types)),
      (
        λ lt. omega (arith, length-map m.functions (erase_function m.types)),
        (
          λ lt. lt,
          (
            memory_stays m.memory,
            (
              λ lt. omega (arith, length-map m.globals erase_global),
              (
                λ lt. lt,
                (
                  λ lt. lt,
                  (λ lt. omega (arith, length-map m.elements erase_element), (λ lt. omega (arith, length-map m.functions (erase_function m.types)), (λ lt. omega (arith, length-map m.segments erase_segment), tt))),
                ),
              ),
            ),
          ),
        ),
      ),
    ),
  ),
)

place_stays : (m : Module Label) → AreTypes m.types → (place : ℕ) → IsPlace m place → IsPlace (erase_module m) place
place_stays m a place (inl first) = inl first
place_stays m a place (inr some) = inr (stays_some (item_counts m) (item_counts (erase_module m)) (counts_stay m a) place some)

-- ---- modules

pub limits_erased : (m : Module Label) → AreTypes m.types → KeepsLimits m → length (canon (erase_module m)) ≤ most_plain_bytes → KeepsLimits (erase_module m)
limits_erased m a k small = record {
  profile = k.profile;
  types = entries_limited m.types k.types;
  imports = all_given IsLimitedImport IsLimitedImport (erase_import m.types) (import_limited m.types a) m.imports k.imports;
  functions = all_given IsLimitedFunction IsLimitedFunction (erase_function m.types) (function_limited m.types a) m.functions k.functions;
  locals = omega (arith, same_locals m.types a m.functions, k.locals);
  table = k.table;
  memory = memory_limited m.memory k.memory;
  globals = all_given (λ (g : Global Label). IsLimitedConstant g.init) (λ (g : Global Label). IsLimitedConstant g.init) erase_global (λ g h. constant_limited g.init h) m.globals k.globals;
  exports = k.exports;
  start = k.start;
  elements = all_given IsLimitedElement IsLimitedElement erase_element (λ e h. (h.0, constant_limited e.offset h.1, h.2)) m.elements k.elements;
  segments = all_given IsLimitedSegment IsLimitedSegment erase_segment (λ s h. (h.0, constant_limited s.offset h.1)) m.segments k.segments;
  sections = sections_limited m a k.sections;
  customs = All-weaker (IsLimitedCustom m) (IsLimitedCustom (erase_module m)) (λ c h. record { place = place_stays m a c.place h.place; name = h.name; size = h.size }) m.customs k.customs;
  rising = k.rising;
  plain_bytes = λ e. small;
}

pub erased_spelled : (bytes : List ℕ) (m : Module Label) → Spells bytes m → AreTypes m.types → IsFormed (erase_module m) → length (canon (erase_module m)) ≤ most_plain_bytes → Spells (canon (erase_module m)) (erase_module m)
erased_spelled bytes m s a f small = formed_spelled (erase_module m) f (limits_erased m a (module_limited bytes m s) small)

pub erased_only : (bytes : List ℕ) (m n : Module Label) → Spells bytes m → AreTypes m.types → IsFormed (erase_module m) → length (canon (erase_module m)) ≤ most_plain_bytes → Spells (canon (erase_module m)) n → n ≡ erase_module m
erased_only bytes m n s a f small t = only_formed (erase_module m) n f (limits_erased m a (module_limited bytes m s) small) t
