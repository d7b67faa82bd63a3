-- What the numbers that are kept of a part say of it.
use Rattle.std.proofs.Common.{◌≡◌, ◌<◌, ◌↔◌, ℕ, List, length, get_or, slice_get, Option, Some, None, is_some, option_and_then, IsSome, IfSome, All, refl, sym, ap, subst, ◌∙◌, arith}
use Rattle.std.proofs.lemmas.Option.{slice_get_read}
use Rattle.ctw_ops.specs.declared.types.Label.{Label}
use Rattle.ctw_ops.specs.declared.types.ExternTag.{ExternTag}
use Rattle.ctw_ops.specs.Tree.{Module, function_entries, global_types, memory_among, table_among}
use Rattle.ctw_flat.specs.declared.blocks.Block.{Block}
use Rattle.ctw_module.specs.Trees.{tree}
use Rattle.ctw_link.specs.declared.set.Part.{Part}
use Rattle.ctw_link.specs.Sets.{set_of, defined}
use Rattle.ctw_link.specs.Numbers.{StoreNumbers, LinkedModule, numbers_of, number_in}
use Rattle.ctw_link.specs.Matching.{AreMatching}
use Rattle.ctw_link.specs.Linked.{IsPart, HasFunction, HasGlobal, AreLinked}
use Rattle.ctw_link.proofs.LinkedParts.{all_at, parts_numbered, LinkedAt, linked_at}
use Rattle.ctw_link.proofs.Below.{part_below}

pub seen_linked : (inside parts : List Part) (numbers : List StoreNumbers) (owned : List (ℕ × ℕ)) (blocks : List (List Block)) → inside ≡ parts → AreLinked inside numbers owned blocks → AreLinked parts numbers owned blocks
seen_linked inside parts numbers owned blocks e h = subst (λ (l : List Part). AreLinked l numbers owned blocks) e h

module _ (parts : List Part) (numbers : List StoreNumbers) (owned : List (ℕ × ℕ)) (blocks : List (List Block)) (h : AreLinked parts numbers owned blocks) where
  pub numbers_there : (k : ℕ) → k < length parts → k < length numbers
  numbers_there k lt = omega (arith, lt, parts_numbered parts numbers h.numbered)

  pub numbers_at : (k : ℕ) (n : StoreNumbers) → k < length parts → n ≡ get_or numbers k n → LinkedAt parts k n
  numbers_at k n lt is = linked_at parts numbers k n h.numbered lt is

module _ (parts : List Part) (k : ℕ) (n : StoreNumbers) (l : LinkedAt parts k n) where
  pub function_within : (i : ℕ) → HasFunction parts k i → i < length n.functions
  function_within i h =
      let size = ap (λ (m : Module Label). length (function_entries m)) (l.same h.0 h.1) in
      omega (arith, h.2, l.counted.functions, ap (λ (x : StoreNumbers). length x.functions) l.has, size)

  -- what is read of the list that is kept
  pub function_read : (items : List ℕ) (i f : ℕ) → items ≡ n.functions → HasFunction parts k i → f ≡ get_or items i f → slice_get n.functions i ≡ Some f
  function_read items i f e h read =
      let lt : i < length items = omega (arith, ap length e, function_within i h) in
      ap (λ (x : List ℕ). slice_get x i) (sym e) ∙ slice_get_read items (length items) i f refl lt read

  pub global_within : (i : ℕ) → HasGlobal parts k i → i < length n.globals
  global_within i h =
      let size = ap (λ (m : Module Label). length (global_types m)) (l.same h.0 h.1) in
      omega (arith, h.2, l.counted.globals, ap (λ (x : StoreNumbers). length x.globals) l.has, size)

  pub global_read : (items : List ℕ) (i f : ℕ) → items ≡ n.globals → HasGlobal parts k i → f ≡ get_or items i f → slice_get n.globals i ≡ Some f
  global_read items i f e h read =
      let lt : i < length items = omega (arith, ap length e, global_within i h) in
      ap (λ (x : List ℕ). slice_get x i) (sym e) ∙ slice_get_read items (length items) i f refl lt read

  pub number_is : (t : ExternTag) (i : ℕ) → number_in (set_of parts) t k i ≡ slice_get (numbers_of t n) i
  number_is t i =
      ap (option_and_then (λ (q : LinkedModule). slice_get (numbers_of t q.numbers) i)) l.is ∙ ap (λ (x : StoreNumbers). slice_get (numbers_of t x) i) l.has

  pub number_below : (t : ExternTag) (i f : ℕ) → AreMatching (set_of parts) → slice_get (numbers_of t n) i ≡ Some f → f < defined t (set_of parts)
  number_below t i f m e =
      let high = defined t (set_of parts) in
      let below = subst (λ (x : StoreNumbers). All (λ j. j < high) (numbers_of t x)) l.has (part_below t (set_of parts) k l.found m l.is) in
      all_at (λ j. j < high) (numbers_of t n) i f below e

  pub first_below : (t : ExternTag) → AreMatching (set_of parts) → IfSome (slice_get (numbers_of t n) 0) (λ f. f < defined t (set_of parts))
  first_below t m = go (slice_get (numbers_of t n) 0) (λ f e. number_below t 0 f m e)
    where
      go : (o : Option ℕ) → ((f : ℕ) → o ≡ Some f → f < defined t (set_of parts)) → IfSome o (λ f. f < defined t (set_of parts))
      go None each = tt
      go (Some f) each = each f refl

  pub memory_known : (p : Part) → IsPart parts k p → IsSome (slice_get n.memories 0) ↔ IsSome (memory_among (tree p.«module»).imports (tree p.«module»).memory)
  memory_known p is =
      let same : is_some (slice_get n.memories 0) ≡ is_some (memory_among (tree p.«module»).imports (tree p.«module»).memory) =
      ap (λ (x : StoreNumbers). is_some (slice_get x.memories 0)) (sym l.has) ∙ l.counted.memories ∙ ap (λ (m : Module Label). is_some (memory_among m.imports m.memory)) (l.same p is) in
      ((λ e. sym same ∙ e), (λ e. same ∙ e))

  pub table_known : (p : Part) → IsPart parts k p → IsSome (slice_get n.tables 0) ↔ IsSome (table_among (tree p.«module»).imports (tree p.«module»).table)
  table_known p is =
      let same : is_some (slice_get n.tables 0) ≡ is_some (table_among (tree p.«module»).imports (tree p.«module»).table) =
      ap (λ (x : StoreNumbers). is_some (slice_get x.tables 0)) (sym l.has) ∙ l.counted.tables ∙ ap (λ (m : Module Label). is_some (table_among m.imports m.table)) (l.same p is) in
      ((λ e. sym same ∙ e), (λ e. same ∙ e))
