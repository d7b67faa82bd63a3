-- The module that fields stand for is formed and keeps the limits of files, where nothing is too much and it is written.
use Rattle.std.proofs.Common.{◌≡◌, ℕ, ◌+◌, ◌<◌, ◌≤◌, Bool, true, false, cond, not, List, [], ◌∷◌, ◌++◌, Option, Some, length, map, get_or, refl, sym, ap, subst, ◌∙◌, arith}
use Rattle.std.specs.Prelude.{nat_lt, flat_map, filter}
use Rattle.std.specs.List.{All, list_all, sum_by}
use Rattle.std.proofs.lemmas.List.Elements.{All-nil, All-cons, All-map, All-from_recursion}
use Rattle.std.proofs.lemmas.List.Sums.{sum_by-cons}
use Rattle.ctw_ops.specs.declared.types.Label.{Label}
use Rattle.ctw_ops.specs.declared.types.Limits.{Limits}
use Rattle.ctw_ops.specs.declared.fault.What.TheVariants.{Tables, Memories}
use Rattle.ctw_ops.specs.Types.{MemoryType}
use Rattle.ctw_ops.specs.Limits.{most_locals, most_nesting, most_plain_bytes}
use Rattle.ctw_ops.specs.Code.{Code, Op, opcodes}
use Rattle.ctw_ops.specs.Segments.{nested}
use Rattle.ctw_ops.proofs.Segments.{opcodes_nested}
use Rattle.ctw_ops.specs.Tree.{Custom, Function}
use Rattle.ctw_ops.specs.Typing.{optional}
use Rattle.ctw_ops.specs.Valid.{IsFormed}
use Rattle.ctw_ops.specs.Plain.{IsPlainModule}
use Rattle.ctw_flat.specs.Spelled.{height}
use Rattle.ctw_leb.specs.Spelling.{u32_text}
use Rattle.ctw_text.specs.declared.fields.Field.{Field}
use Rattle.ctw_text.specs.declared.pieces.FieldKind.TheVariants.{CustomField}
use Rattle.ctw_text.specs.Names.{Space, Scope, WideFunction, Wide, function_of, local_names, space_of, is_kind, is_empty, sections_with, custom_of, without_customs, wide_of}
use Rattle.ctw_text.specs.Limits.{entry_excess, import_excess, over, count_if, is_table, is_memory, locals_excess, nesting_excess, function_excess, runs as groups, excess_of, first, body_of, narrow}
use Rattle.ctw_write.specs.Canon.{vector_text, type_entry_text, table_text, memory_text, code_text, canon}
use Rattle.ctw_form.specs.Spelled.{Spells}
use Rattle.ctw_write.proofs.FormedModules.{formed_spelled}
use Rattle.ctw_write.specs.KeepsLimits.{Is32, AreSizes, IsText, IsShort, IsPlace, IsLimitedEntry, IsLimitedFunction, IsLimitedOp, IsLimitedCustom, contents, KeepsLimits}
use Rattle.ctw_parse.specs.WideCanon.{wide_entry_text, wide_code_text}
use Rattle.ctw_parse.specs.Written.{CanBeWritten}
use Rattle.ctw_parse.specs.Numbers.{HasNumbers}
use Rattle.ctw_parse.proofs.Nested.{nests, first_true, second_true}
use Rattle.ctw_parse.proofs.Bodies.{body_nested, body_low}
use Rattle.ctw_parse.proofs.Fitted.{fields_written}
use Rattle.ctw_parse.proofs.Bounded.{not_over, types_bounded, functions_bounded, count, one_table, one_memory, first_of_all}
use Rattle.ctw_parse.proofs.NarrowTexts.{nil_left, nil_right, narrow_entry, narrow_function, entries_same, mapped_texts, mapped_vector, codes_same}
use Rattle.ctw_parse.proofs.Places.{Agree, places_upto, places_rise, by_place_kept, place_there, some_items}
use Rattle.ctw_parse.proofs.PlainTexts.{told}
use Rattle.ctw_parse.proofs.PlainModules.{imports_text, exports_text, customs_text}

-- ---- where nothing is too much

abbrev table_count : Wide → ℕ
table_count m = count_if is_table m.imports + length m.tables

abbrev memory_count : Wide → ℕ
memory_count m = count_if is_memory m.imports + length m.memories

pub record IsWithin (m : Wide) : Type 0 where
  pub types : flat_map entry_excess m.types ≡ []
  pub tables : over (nat_lt 1 (table_count m)) Tables 1 ≡ []
  pub memories : over (nat_lt 1 (memory_count m)) Memories 1 ≡ []
  pub functions : function_excess 0 m.functions ≡ []

within : (m : Wide) → excess_of m ≡ [] → IsWithin m
within m e =
    let a = flat_map entry_excess m.types in
    let b = import_excess false false m.imports in
    let t = over (nat_lt 1 (table_count m)) Tables 1 in
    let u = over (nat_lt 1 (memory_count m)) Memories 1 in
    let x = function_excess 0 m.functions in
    let abtu = nil_left (a ++ b ++ t ++ u) x e in
    let abt = nil_left (a ++ b ++ t) u abtu in
    record {
      types = nil_left a b (nil_left (a ++ b) t abt);
      tables = nil_right (a ++ b) t abt;
      memories = nil_right (a ++ b ++ t) u abtu;
      functions = nil_right (a ++ b ++ t ++ u) x e;
    }

-- ---- names are text

pub record HasTexts (m : Wide) : Type 0 where
  pub imports : All (λ i. IsText i.module_name × IsText i.name) m.imports
  pub exports : All (λ e. IsText e.name) m.exports
  pub customs : All (λ c. IsText c.name) m.customs

-- ---- formed

pub formed : (m : Wide) → excess_of m ≡ [] → CanBeWritten m → (m.ct ≡ false → IsPlainModule (narrow m)) → IsFormed (narrow m)
formed m e c plain =
    let w = within m e in
    record {
      tables = one_table m.imports m.tables w.tables;
      memories = one_memory m.imports m.memories w.memories;
      globals = c.globals;
      elements = c.elements;
      segments = c.segments;
      plain = plain;
    }

-- ---- tables and memories

one_left : {A : Type 0} (n : ℕ) (l : List A) → n + length l ≤ 1 → optional (first l) ≡ l
one_left n [] le = refl
one_left n (a ∷ []) le = refl
one_left n (a ∷ b ∷ l) le = absurd (omega (arith, le))

-- ---- functions

-- its instructions nest, no deeper than they may
abbrev IsNested : WideFunction → Type 0
IsNested f = (c : Code Label) × (nested f.code ≡ Some c) × (height c ≤ most_nesting)

functions_nest : (S : Space) (p : Field → Bool) (fs : List Field) → list_all nests fs ≡ true → (before : ℕ) → function_excess before (map (function_of S) (filter p fs)) ≡ [] → All IsNested (map (function_of S) (filter p fs))
functions_nest S p [] h before e = All-nil IsNested
functions_nest S p (f ∷ fs) h before e = go (functions_nest S p fs (second_true _ _ h)) (p f) before e
  where
    go : ((before : ℕ) → function_excess before (map (function_of S) (filter p fs)) ≡ [] → All IsNested (map (function_of S) (filter p fs)))
        → (b : Bool) → (before : ℕ) → function_excess before (map (function_of S) (cond b (f ∷ filter p fs) (filter p fs))) ≡ []
        → All IsNested (map (function_of S) (cond b (f ∷ filter p fs) (filter p fs)))
    go rest true before e =
        let g = function_of S f in
        let others = map (function_of S) (filter p fs) in
        let own = locals_excess 0 before (groups g.locals) in
        let deep = nesting_excess 0 g.code in
        let more = function_excess (before + length g.locals) others in
        let s : Scope = record { space = S; locals = local_names S f.draft } in
        let runs = first_true _ _ (first_true _ _ h) in
        let none = nil_right own deep (nil_left (own ++ deep) more e) in
        let b = body_nested s f.draft.code runs none in
        All-cons IsNested g others (b.0, b.1, body_low s f.draft.code b.0 runs none b.1) (rest (before + length g.locals) (nil_right (own ++ deep) more e))
    go rest false before e = rest before e

function_kept : (f : WideFunction) → Is32 f.type → length f.locals ≤ most_locals → IsNested f → All IsLimitedOp f.code → IsLimitedFunction (narrow_function f)
function_kept f type few (c, n, low) ops = record {
  type = type;
  locals = few;
  ops = subst (λ (o : Option (Code Label)). All IsLimitedOp (opcodes (body_of o))) (sym n) (subst (λ (os : List (Op Label)). All IsLimitedOp os) (opcodes_nested f.code c n) ops);
  nesting = subst (λ (o : Option (Code Label)). height (body_of o) ≤ most_nesting) (sym n) low;
}

locals_kept : (fs : List WideFunction) → sum_by (λ (f : Function Label). length f.locals) (map narrow_function fs) ≡ sum_by count fs
locals_kept [] = refl
locals_kept (f ∷ fs) =
    sum_by-cons (λ (f : Function Label). length f.locals) (narrow_function f) (map narrow_function fs) ∙ ap (λ (n : ℕ). length f.locals + n) (locals_kept fs) ∙ sym (sum_by-cons count f fs)

-- ---- custom sections

some_first : {A : Type 0} (l : List A) → not (is_empty l) ≡ true → 0 < length (optional (first l))
some_first [] e = absurd cc
some_first (a ∷ l) e = omega arith

some_mapped : {A B : Type 0} (g : A → B) (l : List A) → not (is_empty l) ≡ true → 0 < length (map g l)
some_mapped g [] e = absurd cc
some_mapped g (a ∷ l) e = omega arith

-- how many items the sections from 1 on have
abbrev counts : Wide → List ℕ
counts m =
    length (map narrow_entry m.types) ∷ length m.imports ∷ length (map narrow_function m.functions) ∷ length (optional (first m.tables)) ∷ length (optional (first m.memories))
    ∷ length m.globals ∷ length m.exports ∷ length (optional (first m.start)) ∷ length m.elements ∷ length (map narrow_function m.functions) ∷ length m.segments ∷ []

counts_agree : (m : Wide) → Agree (sections_with m) (counts m)
counts_agree m = (some_mapped narrow_entry m.types, (some_items m.imports, (some_mapped narrow_function m.functions, (some_first m.tables, (some_first m.memories, (some_items m.globals, (some_items m.exports, (some_first m.start, (some_items m.elements, (some_mapped narrow_function m.functions, (some_items m.segments, tt)))))))))))

-- each stands at the beginning or behind a section that has items
custom_placed : (m : Wide) (f : Field) → IsPlace (narrow m) (custom_of (sections_with m) f).place
custom_placed m f = place_there _ (sections_with m) (counts m) (counts_agree m)

module _ (ct : Bool) (fs : List Field) where
  abbrev whole : Wide
  whole = wide_of ct fs

  abbrev bare : Wide
  bare = without_customs ct (space_of fs) fs

  abbrev written_customs : List Custom
  written_customs = map (custom_of (sections_with bare)) (filter (is_kind CustomField) fs)

  customs_placed : All (λ c. IsPlace (narrow whole) c.place) whole.customs
  customs_placed =
      by_place_kept (λ c. IsPlace (narrow whole) c.place) 11 written_customs
      (All-map (λ (c : Custom). IsPlace (narrow whole) c.place) (custom_of (sections_with bare)) (filter (is_kind CustomField) fs) (λ k d lt. custom_placed whole (get_or (filter (is_kind CustomField) fs) k d)))

  customs_kept : HasTexts whole → HasNumbers whole → All (IsLimitedCustom (narrow whole)) whole.customs
  customs_kept t n k d lt = record {
    place = customs_placed k d lt;
    name = t.customs k d lt;
    size = n.customs k d lt (omega arith) (places_upto 11 written_customs k d lt);
  }

  -- ---- sections

  sections_kept : list_all nests fs ≡ true → IsWithin whole → HasNumbers whole → All IsShort (contents (narrow whole))
  sections_kept h w n =
      let types = mapped_vector wide_entry_text type_entry_text narrow_entry whole.types (entries_same whole.types w.types) in
      let use_text : WideFunction → List ℕ = λ f. u32_text f.type in
      let uses = mapped_vector use_text (λ (f : Function Label). u32_text f.type) narrow_function whole.functions (mapped_texts use_text (λ (f : Function Label). u32_text f.type) narrow_function (λ f. refl) whole.functions) in
      let tables : optional (first whole.tables) ≡ whole.tables = one_left (count_if is_table whole.imports) whole.tables (not_over 1 (table_count whole) Tables w.tables) in
      let memories : optional (first whole.memories) ≡ whole.memories = one_left (count_if is_memory whole.imports) whole.memories (not_over 1 (memory_count whole) Memories w.memories) in
      let codes = mapped_vector wide_code_text code_text narrow_function whole.functions (codes_same (space_of fs) _ fs h 0 w.functions) in
      All-from_recursion IsShort (contents (narrow whole))
      (subst IsShort types n.types.size, (n.imports.size, (subst IsShort uses n.uses.size, (subst (λ (l : List Limits). IsShort (vector_text table_text l)) (sym tables) n.tables.size, (subst (λ (l : List (MemoryType Label)). IsShort (vector_text memory_text l)) (sym memories) n.memories.size, (n.globals.size, (n.exports.size, (n.elements.size, (subst IsShort codes n.codes.size, (n.segments.size, tt))))))))))

  -- ---- the module

  pub keeps : list_all nests fs ≡ true → excess_of whole ≡ [] → HasTexts whole → HasNumbers whole → (whole.ct ≡ false → length (canon (narrow whole)) ≤ most_plain_bytes) → KeepsLimits (narrow whole)
  keeps h e t n few =
      let w = within whole e in
      let functions = functions_bounded 0 whole.functions (omega arith) w.functions in
      let nest = functions_nest (space_of fs) _ fs h 0 w.functions in
      let params = types_bounded whole.types w.types in
      record {
        profile = refl;
        types = All-map IsLimitedEntry narrow_entry whole.types (λ k d lt. (n.types.numbers k d lt, params k d lt));
        imports = λ k d lt. ((t.imports k d lt).0, (t.imports k d lt).1, n.imports.numbers k d lt);
        functions = All-map IsLimitedFunction narrow_function whole.functions (λ k d lt. function_kept (get_or whole.functions k d) (n.uses.numbers k d lt) (functions.0 k d lt) (nest k d lt) (n.codes.numbers k d lt));
        locals = omega (arith, locals_kept whole.functions, functions.1);
        table = first_of_all AreSizes whole.tables n.tables.numbers;
        memory = first_of_all (λ (type : MemoryType Label). AreSizes type.limits) whole.memories n.memories.numbers;
        globals = n.globals.numbers;
        exports = λ k d lt. (t.exports k d lt, n.exports.numbers k d lt);
        start = n.start;
        elements = n.elements.numbers;
        segments = n.segments.numbers;
        sections = sections_kept h w n;
        customs = customs_kept t n;
        rising = places_rise 11 written_customs;
        plain_bytes = few;
      }

  -- so its bytes spell it
  pub spelled_whole : list_all nests fs ≡ true → excess_of whole ≡ [] → HasTexts whole → (whole.ct ≡ false → IsPlainModule (narrow whole)) → HasNumbers whole → (whole.ct ≡ false → length (canon (narrow whole)) ≤ most_plain_bytes) → Spells (canon (narrow whole)) (narrow whole)
  spelled_whole h e t plain n few = formed_spelled (narrow whole) (formed whole e (fields_written ct fs h) plain) (keeps h e t n few)

-- names are text in what is spelled
pub texts_told : (ct : Bool) (fs : List Field) → list_all (told ct) fs ≡ true → HasTexts (wide_of ct fs)
texts_told ct fs t = record { imports = imports_text ct fs t; exports = exports_text ct fs t; customs = customs_text ct fs t }
