-- Where nothing is too much, the canonical bytes of the module without limits are those of the module.
use Rattle.std.proofs.Common.{◌≡◌, ℕ, suc, ◌+◌, Bool, true, false, cond, List, [], ◌∷◌, ◌++◌, Option, Some, None, length, map, refl, sym, ap, ◌∙◌, arith}
use Rattle.std.specs.Prelude.{nat_lt, flat_map, filter}
use Rattle.std.specs.List.{list_all}
use Rattle.std.proofs.lemmas.Bool.{ltb-false, le-ltb}
use Rattle.ctw_ops.specs.declared.types.Label.{Label}
use Rattle.ctw_ops.specs.Code.{Code}
use Rattle.ctw_ops.specs.Segments.{nested}
use Rattle.ctw_ops.proofs.Segments.{opcodes_nested}
use Rattle.ctw_ops.specs.Tree.{Function, TypeEntry}
use Rattle.ctw_ops.specs.Typing.{optional}
use Rattle.ctw_leb.specs.Spelling.{u32_text}
use Rattle.ctw_text.specs.declared.fields.Field.{Field}
use Rattle.ctw_text.specs.Names.{Space, WideEntry, WideFunction, function_of, local_names, space_of, wide_of}
use Rattle.ctw_ops.specs.declared.fault.What.TheVariants.{Params, Results, Tables, Memories}
use Rattle.ctw_ops.specs.Limits.{most_params}
use Rattle.ctw_text.specs.Limits.{Excess, excess, over, import_excess, is_table, is_memory, count_if, first, entry_excess, locals_excess, runs as groups, nesting_excess, function_excess, excess_of, narrow, narrow_type, body_of}
use Rattle.ctw_write.specs.Canon.{all_texts, vector_text, sized_text, type_entry_text, op_text, body_text, code_text, groups_of, group_text, items_text, sections_text, canon}
use Rattle.ctw_parse.specs.WideCanon.{wide_entry_text, wide_code_text, wide_sections_text, wide_canon}
use Rattle.ctw_parse.proofs.Nested.{nests, first_true, second_true}
use Rattle.ctw_parse.proofs.Bodies.{body_nested}

pub nil_left : {A : Type 0} (xs ys : List A) → xs ++ ys ≡ [] → xs ≡ []
nil_left [] ys e = refl
nil_left (x ∷ xs) ys e = absurd cc

pub nil_right : {A : Type 0} (xs ys : List A) → xs ++ ys ≡ [] → ys ≡ []
nil_right [] ys e = e
nil_right (x ∷ xs) ys e = absurd cc

not_over : (b : Bool) (e : Excess) → cond b (e ∷ []) [] ≡ [] → b ≡ false
not_over true e h = absurd cc
not_over false e h = refl

-- a list of at most one
only_first : {A : Type 0} (l : List A) → nat_lt 1 (length l) ≡ false → optional (first l) ≡ l
only_first [] e = refl
only_first (a ∷ []) e = refl
only_first (a ∷ b ∷ l) e = absurd (omega (arith, ltb-false 1 (length (a ∷ b ∷ l)) e))

-- ---- types

abbrev pub narrow_entry : WideEntry → TypeEntry Label
narrow_entry e = record { base = e.base; type = narrow_type e.type }

entry_same : (e : WideEntry) → entry_excess e ≡ [] → wide_entry_text e ≡ type_entry_text (record { base = e.base; type = narrow_type e.type })
entry_same e h = go e.base
  where
    few : optional (first e.type.results) ≡ e.type.results
    few = only_first e.type.results (not_over (nat_lt 1 (length e.type.results)) (excess Results 1) (nil_right (over (nat_lt most_params (length e.type.params)) Params most_params) (over (nat_lt 1 (length e.type.results)) Results 1) h))

    go : (o : Option ℕ) → wide_entry_text (record e { base = o }) ≡ type_entry_text (record { base = o; type = narrow_type e.type })
    go None = rw few refl
    go (Some base) = rw few refl

pub entries_same : (es : List WideEntry) → flat_map entry_excess es ≡ [] → all_texts wide_entry_text es ≡ all_texts type_entry_text (map narrow_entry es)
entries_same [] h = refl
entries_same (e ∷ es) h =
    ap (λ (l : List ℕ). l ++ all_texts wide_entry_text es) (entry_same e (nil_left (entry_excess e) (flat_map entry_excess es) h))
    ∙ ap (λ (l : List ℕ). type_entry_text (narrow_entry e) ++ l) (entries_same es (nil_right (entry_excess e) (flat_map entry_excess es) h))

-- ---- sections

pub mapped_texts : {A B : Type 0} (u : A → List ℕ) (w : B → List ℕ) (f : A → B) → ((a : A) → u a ≡ w (f a)) → (l : List A) → all_texts u l ≡ all_texts w (map f l)
mapped_texts u w f h [] = refl
mapped_texts u w f h (a ∷ l) = ap (λ (t : List ℕ). t ++ all_texts u l) (h a) ∙ ap (λ (t : List ℕ). w (f a) ++ t) (mapped_texts u w f h l)

mapped_count : {A B : Type 0} (f : A → B) (l : List A) → length l ≡ length (map f l)
mapped_count f [] = refl
mapped_count f (a ∷ l) = ap suc (mapped_count f l)

-- behind their count
pub mapped_vector : {A B : Type 0} (u : A → List ℕ) (w : B → List ℕ) (f : A → B) (l : List A) → all_texts u l ≡ all_texts w (map f l) → vector_text u l ≡ vector_text w (map f l)
mapped_vector u w f l e = ap (λ (n : ℕ). u32_text n ++ all_texts u l) (mapped_count f l) ∙ ap (λ (t : List ℕ). u32_text (length (map f l)) ++ t) e

mapped_items : {A B : Type 0} (id : ℕ) (u : A → List ℕ) (w : B → List ℕ) (f : A → B) (l : List A) → all_texts u l ≡ all_texts w (map f l) → items_text id u l ≡ items_text id w (map f l)
mapped_items id u w f [] e = refl
mapped_items id u w f (a ∷ l) e = ap (λ (t : List ℕ). id ∷ (u32_text (length t) ++ t)) (mapped_vector u w f (a ∷ l) e)

-- ---- functions

abbrev pub narrow_function : WideFunction → Function Label
narrow_function f = record { type = f.type; locals = f.locals; body = body_of (nested f.code) }

body_same : (f : WideFunction) (c : Code Label) → nested f.code ≡ Some c → all_texts op_text f.code ≡ body_text (body_of (nested f.code))
body_same f c e = ap (all_texts op_text) (opcodes_nested f.code c e) ∙ ap (λ (o : Option (Code Label)). body_text (body_of o)) (sym e)

code_same : (f : WideFunction) (c : Code Label) → nested f.code ≡ Some c → wide_code_text f ≡ code_text (narrow_function f)
code_same f c e = ap (λ (l : List ℕ). sized_text (vector_text group_text (groups_of f.locals) ++ l)) (body_same f c e)

pub codes_same : (S : Space) (p : Field → Bool) (fs : List Field) → list_all nests fs ≡ true → (before : ℕ) → function_excess before (map (function_of S) (filter p fs)) ≡ [] → all_texts wide_code_text (map (function_of S) (filter p fs)) ≡ all_texts code_text (map narrow_function (map (function_of S) (filter p fs)))
codes_same S p [] h before e = refl
codes_same S p (f ∷ fs) h before e = go (codes_same S p fs (second_true _ _ h)) (p f) before e
  where
    go : ((before : ℕ) → function_excess before (map (function_of S) (filter p fs)) ≡ [] → all_texts wide_code_text (map (function_of S) (filter p fs)) ≡ all_texts code_text (map narrow_function (map (function_of S) (filter p fs))))
        → (b : Bool) → (before : ℕ) → function_excess before (map (function_of S) (cond b (f ∷ filter p fs) (filter p fs))) ≡ []
        → all_texts wide_code_text (map (function_of S) (cond b (f ∷ filter p fs) (filter p fs))) ≡ all_texts code_text (map narrow_function (map (function_of S) (cond b (f ∷ filter p fs) (filter p fs))))
    go rest true before e =
        let g = function_of S f in
        let others = map (function_of S) (filter p fs) in
        let own = locals_excess 0 before (groups g.locals) in
        let deep = nesting_excess 0 g.code in
        let more = function_excess (before + length g.locals) others in
        let b = body_nested (record { space = S; locals = local_names S f.draft }) f.draft.code (first_true _ _ (first_true _ _ h)) (nil_right own deep (nil_left (own ++ deep) more e)) in
        ap (λ (l : List ℕ). l ++ all_texts wide_code_text others) (code_same g b.0 b.1)
        ∙ ap (λ (l : List ℕ). code_text (narrow_function g) ++ l) (rest (before + length g.locals) (nil_right (own ++ deep) more e))
    go rest false before e = rest before e

-- ---- the module

at_most : (n : ℕ) {A : Type 0} (l : List A) → nat_lt 1 (n + length l) ≡ false → nat_lt 1 (length l) ≡ false
at_most n l e = le-ltb 1 (length l) (omega (arith, ltb-false 1 (n + length l) e))

module _ (ct : Bool) (fs : List Field) (h : list_all nests fs ≡ true) where
  pub narrow_text : excess_of (wide_of ct fs) ≡ [] → wide_canon (wide_of ct fs) ≡ canon (narrow (wide_of ct fs))
  unfolding wide_canon canon wide_sections_text sections_text
  narrow_text e =
      let m = wide_of ct fs in
      let a = flat_map entry_excess m.types in
      let b = import_excess false false m.imports in
      let t = over (nat_lt 1 (count_if is_table m.imports + length m.tables)) Tables 1 in
      let u = over (nat_lt 1 (count_if is_memory m.imports + length m.memories)) Memories 1 in
      let x = function_excess 0 m.functions in
      let abtu = nil_left (a ++ b ++ t ++ u) x e in
      let abt = nil_left (a ++ b ++ t) u abtu in
      let types = mapped_items 1 wide_entry_text type_entry_text narrow_entry m.types (entries_same m.types (nil_left a b (nil_left (a ++ b) t abt))) in
      let uses = mapped_items 3 (λ (f : WideFunction). u32_text f.type) (λ (f : Function Label). u32_text f.type) narrow_function m.functions (mapped_texts (λ (f : WideFunction). u32_text f.type) (λ (f : Function Label). u32_text f.type) narrow_function (λ f. refl) m.functions) in
      let tables : optional (first m.tables) ≡ m.tables = only_first m.tables (at_most (count_if is_table m.imports) m.tables (not_over (nat_lt 1 (count_if is_table m.imports + length m.tables)) (excess Tables 1) (nil_right (a ++ b) t abt))) in
      let memories : optional (first m.memories) ≡ m.memories = only_first m.memories (at_most (count_if is_memory m.imports) m.memories (not_over (nat_lt 1 (count_if is_memory m.imports + length m.memories)) (excess Memories 1) (nil_right (a ++ b ++ t) u abtu))) in
      let codes = mapped_items 10 wide_code_text code_text narrow_function m.functions (codes_same (space_of fs) _ fs h 0 (nil_right (a ++ b ++ t ++ u) x e)) in
      rw (types, uses, tables, memories, codes) refl
