-- How long the texts of numbers, uses and opcodes are under labels.
use Rattle.std.proofs.Common.{◌≡◌, ◌≤◌, ◌<◌, ◌*◌, ◌/◌, ℕ, zero, suc, ◌+◌, Bool, true, false, List, [], ◌∷◌, ◌++◌, length, map, Option, Some, None, if◌then◌else◌, refl, sym, ap, inl, inr, arith, length-append}
use Rattle.std.specs.Prelude.{◌||◌, option_map, unwrap_or}
use Rattle.std.proofs.lemmas.Bool.{cases_lt}
use Rattle.std.proofs.lemmas.List.{length-map}
use Rattle.ctw_ops.specs.declared.types.Label.{Label}
use Rattle.ctw_ops.specs.declared.types.Label.TheVariants.{Public, Secret}
use Rattle.ctw_ops.specs.declared.types.Width.{Width}
use Rattle.ctw_ops.specs.Types.{ValueType, FunctionType}
use Rattle.ctw_ops.specs.TagMaps.{type_to, function_type_to, leaf_to}
use Rattle.ctw_ops.specs.Typing.{Context, optional, inside, i32}
use Rattle.ctw_ops.specs.Code.{Leaf, Unreachable, Nop, Br, BrIf, BrTable, Return, Call, CallIndirect, Drop, Select, LocalGet, LocalSet, LocalTee, GlobalGet, GlobalSet, Load, Store, MemorySize, MemoryGrow, Const, Numeric, Classify, Declassify, Code, Stop, Then, Block, Loop, If, IfElse, Shape, OfBlock, OfLoop, OfIf, Op, Plain, Opens, Closes, ByEnd, ByElse, onto}
use Rattle.ctw_stack.specs.Operands.{Operands, fresh}
use Rattle.ctw_stack.specs.Steps.{expect}
use Rattle.ctw_leb.specs.Spelling.{u32_text, shortest}
use Rattle.ctw_leb.proofs.Spelling.{one_more, last_one}
use Rattle.ctw_labels.specs.declared.tag.Tag.{Tag}
use Rattle.ctw_labels.specs.declared.name.SiteName.TheVariants.{IParam, IResult, Push}
use Rattle.ctw_labels.specs.Names.{Site}
use Rattle.ctw_labels.specs.Sited.{yes, Lift, Sited, Does, raised, placed_code}
use Rattle.ctw_labels.specs.Numbering.{BodyPlace, type_from, named_in, result_from, sited_leaf, own_sites, leaf_lift, leaf_sites, leaf_node, push_if, after_lift, stepped, block_sites, block_lift, behind_block, Numbered, number, opcode_count}
use Rattle.ctw_labels.specs.Placed.{TypeUse, use_to, code_uses, is_all_public, has_use, with_use, with_uses}
use Rattle.ctw_labels.proofs.Contexts.{type_length}
use Rattle.ctw_write.specs.Canon.{all_texts, vector_text, type_text, trust_byte, signature_text, in_form, leaf_text, op_text}
use Rattle.ctw_write.proofs.FormedNumbers.{number_some}
use Rattle.ctw_write.proofs.Pieces.{all_texts-append}
use Rattle.ctw_sites.proofs.ScopeLaws.{params_length}
use Rattle.ctw_place.specs.Flat.{raise_ops, lift_ops}
use Rattle.ctw_place.specs.Variants.{use_text}
use Rattle.ctw_place.proofs.FlatLaws.{lift_onto}

-- ---- numbers

shortest_most : (k n : ℕ) → length (shortest 128 false k n) ≤ k
unfolding shortest
shortest_most zero n = omega arith
shortest_most (suc k) n =
    elim (cases_lt n 128) [
      | inl lt ↦ rw (last_one 128 false k n lt) (omega arith)
      | inr le ↦ rw (one_more 128 false k n le) (omega (arith, shortest_most k (n / 128)))
    ]

pub number_most : (n : ℕ) → length (u32_text n) ≤ 10
unfolding u32_text
number_most n = shortest_most 10 n

-- a count takes no more bytes than it counts
pub count_most : (n : ℕ) → 0 < n → length (u32_text n) ≤ n
unfolding u32_text
count_most n some =
    elim (cases_lt n 128) [
      | inl lt ↦ rw (last_one 128 false 9 n lt) (omega arith)
      | inr le ↦ omega (arith, shortest_most 10 n)
    ]

-- ---- uses

pub types_text : (ts : List (ValueType Label)) → length (all_texts type_text ts) ≡ length ts
types_text [] = refl
types_text (t ∷ ts) = ap suc (types_text ts)

optional_few : {S : Type 0} (t : Option (ValueType S)) → length (optional t) ≤ 1
optional_few None = omega arith
optional_few (Some t) = omega arith

vector_most : (ts : List (ValueType Label)) → length (vector_text type_text ts) ≤ 10 + length ts
vector_most ts = omega (arith, length-append (u32_text (length ts)) (all_texts type_text ts), number_most (length ts), types_text ts)

use_most : (u : TypeUse Label) → length (use_text u) ≤ 33 + length u.type.params
use_most u =
    let a = length-append (u32_text u.base) (trust_byte u.type.trust ∷ signature_text u.type) in
    let b = length-append (vector_text type_text u.type.params) (vector_text type_text (optional u.type.result)) in
    omega (arith, a, b, number_most u.base, vector_most u.type.params, vector_most (optional u.type.result), optional_few u.type.result)

-- how much uses take at most
abbrev pub uses_weight : {S : Type 0} → List (TypeUse S) → ℕ
uses_weight [] = 0
uses_weight (u ∷ us) = 33 + length u.type.params + uses_weight us

pub weight_append : {S : Type 0} (us vs : List (TypeUse S)) → uses_weight (us ++ vs) ≡ uses_weight us + uses_weight vs
weight_append [] vs = omega arith
weight_append (u ∷ us) vs = let h = weight_append us vs in omega (arith, h)

pub weight_to : (L : Tag → Label) (us : List (TypeUse Tag)) → uses_weight (map (use_to L) us) ≡ uses_weight us
weight_to L [] = refl
weight_to L (u ∷ us) = let h = weight_to L us in let l = length-map u.type.params (type_to L) in omega (arith, h, l)

one_weight : (vs : List (TypeUse Label)) (u : TypeUse Label) → length (all_texts use_text (with_use vs u)) ≤ length (all_texts use_text vs) + (33 + length u.type.params)
one_weight vs u = by (is_all_public u.type || has_use vs u)
  where
    by : (b : Bool) → length (all_texts use_text (if b then vs else vs ++ u ∷ [])) ≤ length (all_texts use_text vs) + (33 + length u.type.params)
    by true = omega arith
    by false =
        let a = ap length (all_texts-append use_text vs (u ∷ [])) in
        let b = length-append (all_texts use_text vs) (all_texts use_text (u ∷ [])) in
        let c = length-append (use_text u) [] in
        omega (arith, a, b, c, use_most u)

pub variants_weight : (vs us : List (TypeUse Label)) → length (all_texts use_text (with_uses vs us)) ≤ length (all_texts use_text vs) + uses_weight us
variants_weight vs [] = omega arith
variants_weight vs (u ∷ us) = let h = variants_weight (with_use vs u) us in omega (arith, h, one_weight vs u)

-- ---- indirect calls

abbrev pub leaf_calls : {A : Type 0} → Leaf A → ℕ
leaf_calls (CallIndirect y) = 1
leaf_calls i = 0

abbrev pub calls_in : {A : Type 0} → Code A → ℕ
calls_in Stop = 0
calls_in (Then i rest) = leaf_calls i + calls_in rest
calls_in (Block t body rest) = calls_in body + calls_in rest
calls_in (Loop t body rest) = calls_in body + calls_in rest
calls_in (If t arm rest) = calls_in arm + calls_in rest
calls_in (IfElse t arm other rest) = calls_in arm + calls_in other + calls_in rest

module _ {A : Type 0} (P : BodyPlace A) where
  node_weight : (C : Context Tag) (n at : ℕ) (i : Leaf A) (l : Option (Lift Tag)) (rest : Sited Tag) → uses_weight (code_uses (leaf_node P C n i l rest)) ≤ 33 * leaf_calls i + length (own_sites P at i) + uses_weight (code_uses rest)
  node_weight C n at (CallIndirect y) l rest =
      let a = type_length (IParam P.func at) (IResult P.func at) (named_in P.types y) in
      let b = params_length n (named_in P.types y).params in
      omega (arith, a, b)
  node_weight C n at i l rest = omega arith

  own_within : (C : Context Tag) (n at : ℕ) (i : Leaf A) (o : Operands Tag) → length (own_sites P at i) ≤ length (leaf_sites P C n at i o)
  own_within C n at i o = let a = length-append (own_sites P at i) (push_if (Push P.func at) (leaf_lift P C n at i o)) in omega (arith, a)

  pub code_weight : (C : Context Tag) (c : Code A) (n at : ℕ) (o : Operands Tag) → uses_weight (code_uses (number P C c n at o).code) ≤ 33 * calls_in c + length (number P C c n at o).sites
  code_weight C Stop n at o = omega arith
  code_weight C (Then i rest) n at o =
      let own : List Site = leaf_sites P C n at i o in
      let l : Option (Lift Tag) = leaf_lift P C n at i o in
      let r : Numbered = number P C rest (n + length own) (at + 1) (after_lift l (stepped P C n i o)) in
      let h = code_weight C rest (n + length own) (at + 1) (after_lift l (stepped P C n i o)) in
      omega (arith, h, node_weight C n at i l r.code, own_within C n at i o, length-append own r.sites)
  code_weight C (Block t body rest) n at o =
      let own : List Site = block_sites P.func at n t in
      let b : Numbered = number P (inside (result_from n t) C) body (n + length own) (at + 1) fresh in
      let r : Numbered = number P C rest (n + length own + length b.sites) (at + opcode_count body + 2) (behind_block (P.free at) n t o) in
      let h = code_weight (inside (result_from n t) C) body (n + length own) (at + 1) fresh in
      let k = code_weight C rest (n + length own + length b.sites) (at + opcode_count body + 2) (behind_block (P.free at) n t o) in
      omega (arith, h, k, weight_append (code_uses b.code) (code_uses r.code), length-append (own ++ b.sites) r.sites, length-append own b.sites)
  code_weight C (Loop t body rest) n at o =
      let own : List Site = block_sites P.func at n t in
      let b : Numbered = number P (inside None C) body (n + length own) (at + 1) fresh in
      let r : Numbered = number P C rest (n + length own + length b.sites) (at + opcode_count body + 2) (behind_block (P.free at) n t o) in
      let h = code_weight (inside None C) body (n + length own) (at + 1) fresh in
      let k = code_weight C rest (n + length own + length b.sites) (at + opcode_count body + 2) (behind_block (P.free at) n t o) in
      omega (arith, h, k, weight_append (code_uses b.code) (code_uses r.code), length-append (own ++ b.sites) r.sites, length-append own b.sites)
  code_weight C (If t arm rest) n at o =
      let own : List Site = block_sites P.func at n t in
      let m : Operands Tag = unwrap_or (expect yes (i32 C) o) fresh in
      let b : Numbered = number P (inside (result_from n t) C) arm (n + length own) (at + 1) fresh in
      let r : Numbered = number P C rest (n + length own + length b.sites) (at + opcode_count arm + 2) (behind_block (P.free at) n t m) in
      let h = code_weight (inside (result_from n t) C) arm (n + length own) (at + 1) fresh in
      let k = code_weight C rest (n + length own + length b.sites) (at + opcode_count arm + 2) (behind_block (P.free at) n t m) in
      omega (arith, h, k, weight_append (code_uses b.code) (code_uses r.code), length-append (own ++ b.sites) r.sites, length-append own b.sites)
  code_weight C (IfElse t arm other rest) n at o =
      let own : List Site = block_sites P.func at n t in
      let m : Operands Tag = unwrap_or (expect yes (i32 C) o) fresh in
      let I : Context Tag = inside (result_from n t) C in
      let b : Numbered = number P I arm (n + length own) (at + 1) fresh in
      let c : Numbered = number P I other (n + length own + length b.sites) (at + opcode_count arm + 2) fresh in
      let r : Numbered = number P C rest (n + length own + length b.sites + length c.sites) (at + opcode_count arm + opcode_count other + 3) (behind_block (P.free at) n t m) in
      let h = code_weight I arm (n + length own) (at + 1) fresh in
      let g = code_weight I other (n + length own + length b.sites) (at + opcode_count arm + 2) fresh in
      let k = code_weight C rest (n + length own + length b.sites + length c.sites) (at + opcode_count arm + opcode_count other + 3) (behind_block (P.free at) n t m) in
      omega (
        arith,
        h,
        g,
        k,
        weight_append (code_uses b.code) (code_uses c.code ++ code_uses r.code),
        weight_append (code_uses c.code) (code_uses r.code),
        length-append (own ++ b.sites ++ c.sites) r.sites,
        length-append (own ++ b.sites) c.sites,
        length-append own b.sites,
      )

-- ---- opcodes

form_most : (l : Label) (text : List ℕ) → length (in_form l text) ≤ 1 + length text
form_most Public text = omega arith
form_most Secret text = omega arith

form_least : (l : Label) (text : List ℕ) → length text ≤ length (in_form l text)
form_least Public text = omega arith
form_least Secret text = omega arith

forms : (l k : Label) (a : ℕ) (text : List ℕ) → length (in_form l (a ∷ text)) + 1 ≤ 23 * length (in_form k (a ∷ text))
forms l k a text = let h = form_most l (a ∷ text) in let g = form_least k (a ∷ text) in omega (arith, h, g)

raise_most : (a b : Label) (free : Bool) (w : Width) → length (all_texts op_text (raise_ops a b free w)) ≤ 1
raise_most Public Secret free w = omega arith
raise_most Public Public free w = omega arith
raise_most Secret Secret free w = omega arith
raise_most Secret Public true w = omega arith
raise_most Secret Public false w = omega arith

module _ (L : Tag → Label) (name : ℕ → FunctionType Label → ℕ) where
  lift_most : (l : Option (Lift Tag)) → length (all_texts op_text (lift_ops L l)) ≤ 1
  lift_most None = omega arith
  lift_most (Some l) = raise_most (L l.source) (L l.target) l.free l.width

  abbrev size : List (Op Label) → ℕ
  size ops = length (all_texts op_text ops)

  -- what stands behind a lift
  raised_size : (l : Option (Lift Tag)) (c : Code Label) (ops : List (Op Label)) → size (onto (raised L l c) ops) ≤ 1 + size (onto c ops)
  raised_size l c ops =
      let a = ap size (sym (lift_onto L name l c ops)) in
      let b = ap length (all_texts-append op_text (lift_ops L l) (onto c ops)) in
      omega (arith, a, b, length-append (all_texts op_text (lift_ops L l)) (all_texts op_text (onto c ops)), lift_most l)

  -- a leaf that is no indirect call
  leaf_most : (C : Context Tag) (n : ℕ) (i : Leaf Label) → leaf_calls i ≡ 0 → length (leaf_text (leaf_to L (sited_leaf C n i))) + 1 ≤ 23 * length (leaf_text i)
  leaf_most C n (CallIndirect y) e = absurd (omega (arith, e))
  leaf_most C n (Select l) e = forms _ l _ []
  leaf_most C n (Load w l bytes signed align offset) e = forms _ l _ _
  leaf_most C n (Store w l bytes align offset) e = forms _ l _ _
  leaf_most C n (Const w l bits) e = forms _ l _ _
  leaf_most C n (Numeric op l) e = forms _ l _ []
  leaf_most C n Unreachable e = omega arith
  leaf_most C n Nop e = omega arith
  leaf_most C n (Br k) e = omega arith
  leaf_most C n (BrIf k) e = omega arith
  leaf_most C n (BrTable ks k) e = omega arith
  leaf_most C n Return e = omega arith
  leaf_most C n (Call f) e = omega arith
  leaf_most C n Drop e = omega arith
  leaf_most C n (LocalGet x) e = omega arith
  leaf_most C n (LocalSet x) e = omega arith
  leaf_most C n (LocalTee x) e = omega arith
  leaf_most C n (GlobalGet x) e = omega arith
  leaf_most C n (GlobalSet x) e = omega arith
  leaf_most C n MemorySize e = omega arith
  leaf_most C n MemoryGrow e = omega arith
  leaf_most C n (Classify w) e = omega arith
  leaf_most C n (Declassify w) e = omega arith

  does_size : (j : Leaf Tag) (i : Leaf Label) (l : Option (Lift Tag)) (rest : Sited Tag) (X Y : List (Op Label)) (k : ℕ) → length (leaf_text (leaf_to L j)) + 1 ≤ 23 * length (leaf_text i) → size (onto (placed_code L name rest) X) + k ≤ 23 * size Y
      → size (onto (placed_code L name (Does j l rest)) X) + k ≤ 23 * size (Plain i ∷ Y)
  does_size j i l rest X Y k m h =
      let a = raised_size l (placed_code L name rest) X in
      let b = length-append (leaf_text (leaf_to L j)) (all_texts op_text (onto (raised L l (placed_code L name rest)) X)) in
      let e = length-append (leaf_text i) (all_texts op_text Y) in
      omega (arith, m, h, a, b, e)

  module _ (P : BodyPlace Label) where
    leaf_size : (C : Context Tag) (n : ℕ) (i : Leaf Label) (l : Option (Lift Tag)) (rest : Sited Tag) (X Y : List (Op Label)) (k : ℕ) → size (onto (placed_code L name rest) X) + k ≤ 23 * size Y
        → size (onto (placed_code L name (leaf_node P C n i l rest)) X) + (k + 33 * leaf_calls i) ≤ 23 * size (Plain i ∷ Y)
    leaf_size C n (CallIndirect y) l rest X Y k h =
        let a = raised_size l (placed_code L name rest) X in
        let nm : ℕ = name y (function_type_to L (type_from n (named_in P.types y))) in
        let b = length-append (leaf_text (CallIndirect nm)) (all_texts op_text (onto (raised L l (placed_code L name rest)) X)) in
        let c = length-append (u32_text nm) (0 ∷ []) in
        let d = length-append (u32_text y) (0 ∷ []) in
        let e = length-append (leaf_text (CallIndirect y)) (all_texts op_text Y) in
        omega (arith, h, a, b, c, d, e, number_most nm, number_some y)
    leaf_size C n i l rest X Y k h = let d = does_size (sited_leaf C n i) i l rest X Y k (leaf_most C n i refl) h in omega (arith, d)

    -- a block
    block_size : (shape : Shape) (t : Option (ValueType Label)) (u : Option (ValueType Label)) (l : Option (Lift Tag)) (body rest : Code Label) (b r : Sited Tag) (X Y : List (Op Label)) (e : ℕ)
        → ((X Y : List (Op Label)) (e : ℕ) → size X + e ≤ 23 * size Y → size (onto (placed_code L name b) X) + (e + 33 * calls_in body) ≤ 23 * size (onto body Y))
        → size (onto (placed_code L name r) X) + (e + 33 * calls_in rest) ≤ 23 * size (onto rest Y)
        → size (Opens shape u ∷ onto (placed_code L name b) (Closes ByEnd ∷ onto (raised L l (placed_code L name r)) X)) + (e + 33 * (calls_in body + calls_in rest)) ≤ 23 * size (Opens shape t ∷ onto body (Closes ByEnd ∷ onto rest Y))
    block_size shape t u l body rest b r X Y e hb hr =
        let a = raised_size l (placed_code L name r) X in
        let h = hb (Closes ByEnd ∷ onto (raised L l (placed_code L name r)) X) (Closes ByEnd ∷ onto rest Y) (e + 33 * calls_in rest) (omega (arith, a, hr)) in
        omega (arith, h)

    pub code_size : (C : Context Tag) (c : Code Label) (n at : ℕ) (o : Operands Tag) (X Y : List (Op Label)) (e : ℕ) → size X + e ≤ 23 * size Y → size (onto (placed_code L name (number P C c n at o).code) X) + (e + 33 * calls_in c) ≤ 23 * size (onto c Y)
    code_size C Stop n at o X Y e h = omega (arith, h)
    code_size C (Then i rest) n at o X Y e h =
        let own : List Site = leaf_sites P C n at i o in
        let l : Option (Lift Tag) = leaf_lift P C n at i o in
        let r : Numbered = number P C rest (n + length own) (at + 1) (after_lift l (stepped P C n i o)) in
        let q = code_size C rest (n + length own) (at + 1) (after_lift l (stepped P C n i o)) X Y e h in
        let k = leaf_size C n i l r.code X (onto rest Y) (e + 33 * calls_in rest) q in
        omega (arith, k)
    code_size C (Block t body rest) n at o X Y e h =
        let own : List Site = block_sites P.func at n t in
        let b : Numbered = number P (inside (result_from n t) C) body (n + length own) (at + 1) fresh in
        let r : Numbered = number P C rest (n + length own + length b.sites) (at + opcode_count body + 2) (behind_block (P.free at) n t o) in
        block_size OfBlock t (option_map (type_to L) (result_from n t)) (block_lift (P.free at) n t) body rest b.code r.code X Y e (λ X Y e h. code_size (inside (result_from n t) C) body (n + length own) (at + 1) fresh X Y e h)
        (code_size C rest (n + length own + length b.sites) (at + opcode_count body + 2) (behind_block (P.free at) n t o) X Y e h)
    code_size C (Loop t body rest) n at o X Y e h =
        let own : List Site = block_sites P.func at n t in
        let b : Numbered = number P (inside None C) body (n + length own) (at + 1) fresh in
        let r : Numbered = number P C rest (n + length own + length b.sites) (at + opcode_count body + 2) (behind_block (P.free at) n t o) in
        block_size OfLoop t (option_map (type_to L) (result_from n t)) (block_lift (P.free at) n t) body rest b.code r.code X Y e (λ X Y e h. code_size (inside None C) body (n + length own) (at + 1) fresh X Y e h)
        (code_size C rest (n + length own + length b.sites) (at + opcode_count body + 2) (behind_block (P.free at) n t o) X Y e h)
    code_size C (If t arm rest) n at o X Y e h =
        let own : List Site = block_sites P.func at n t in
        let m : Operands Tag = unwrap_or (expect yes (i32 C) o) fresh in
        let b : Numbered = number P (inside (result_from n t) C) arm (n + length own) (at + 1) fresh in
        let r : Numbered = number P C rest (n + length own + length b.sites) (at + opcode_count arm + 2) (behind_block (P.free at) n t m) in
        block_size OfIf t (option_map (type_to L) (result_from n t)) (block_lift (P.free at) n t) arm rest b.code r.code X Y e (λ X Y e h. code_size (inside (result_from n t) C) arm (n + length own) (at + 1) fresh X Y e h)
        (code_size C rest (n + length own + length b.sites) (at + opcode_count arm + 2) (behind_block (P.free at) n t m) X Y e h)
    code_size C (IfElse t arm other rest) n at o X Y e h =
        let own : List Site = block_sites P.func at n t in
        let m : Operands Tag = unwrap_or (expect yes (i32 C) o) fresh in
        let I : Context Tag = inside (result_from n t) C in
        let l : Option (Lift Tag) = block_lift (P.free at) n t in
        let b : Numbered = number P I arm (n + length own) (at + 1) fresh in
        let c : Numbered = number P I other (n + length own + length b.sites) (at + opcode_count arm + 2) fresh in
        let r : Numbered = number P C rest (n + length own + length b.sites + length c.sites) (at + opcode_count arm + opcode_count other + 3) (behind_block (P.free at) n t m) in
        let hr = code_size C rest (n + length own + length b.sites + length c.sites) (at + opcode_count arm + opcode_count other + 3) (behind_block (P.free at) n t m) X Y e h in
        let a = raised_size l (placed_code L name r.code) X in
        let hc = code_size I other (n + length own + length b.sites) (at + opcode_count arm + 2) fresh (Closes ByEnd ∷ onto (raised L l (placed_code L name r.code)) X) (Closes ByEnd ∷ onto rest Y) (e + 33 * calls_in rest) (omega (arith, a, hr)) in
        let hb = code_size I arm (n + length own) (at + 1) fresh (Closes ByElse ∷ onto (placed_code L name c.code) (Closes ByEnd ∷ onto (raised L l (placed_code L name r.code)) X)) (Closes ByElse ∷ onto other (Closes ByEnd ∷ onto rest Y)) (e + 33 * calls_in rest + 33 * calls_in other) (omega (arith, hc)) in
        omega (arith, hb)
