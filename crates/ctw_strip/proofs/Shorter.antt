-- The canonical spelling of the erased module is never longer than that of the module.
use Rattle.std.proofs.Common.{◌≡◌, ℕ, zero, suc, ◌+◌, ◌<◌, ◌≤◌, ◌^◌, List, [], ◌∷◌, ◌++◌, length, map, replicate, Option, Some, None, option_map, refl, sym, ap, ◌∙◌, arith}
use Rattle.std.specs.List.{cons_option}
use Rattle.std.proofs.lemmas.List.{length-append, length-map, map-append}
use Rattle.ctw_ops.specs.ValueType.{ValueType}
use Rattle.ctw_ops.specs.declared.types.Label.{Label}
use Rattle.ctw_ops.specs.declared.types.Label.TheVariants.{Public, Secret}
use Rattle.ctw_ops.specs.Types.{FunctionType, MemoryType, erase_value_type, erase_function_type}
use Rattle.ctw_ops.specs.Code.{Leaf, CallIndirect, Select, Load, Store, Const, Numeric, Classify, Declassify, Code, Op, Plain, Opens, Closes, opcodes}
use Rattle.ctw_ops.specs.Tree.{Module, TypeEntry, Extern, ImportedFunction, ImportedTable, ImportedMemory, ImportedGlobal, Import, Function, Constant, Number, ValueOf, Global, Element, Segment, Custom}
use Rattle.ctw_ops.specs.Typing.{optional}
use Rattle.ctw_ops.specs.Valid.{AreTypes}
use Rattle.ctw_ops.specs.Erasure.{kept_entry, erase_entries, base_of, erase_code, erase_memory_type, erase_extern, erase_import, erase_function, erase_constant, erase_global, erase_element, erase_segment, erase_module}
use Rattle.ctw_leb.specs.Spelling.{u32_text}
use Rattle.ctw_form.specs.Sections.{Group, locals_of}
use Rattle.ctw_form.specs.Spelled.{magic, version, group_of, Spells}
use Rattle.ctw_module.specs.Trees.{Lent, tree}
use Rattle.ctw_write.specs.Canon.{all_texts, vector_text, sized_text, type_text, signature_text, type_entry_text, memory_text, extern_text, import_text, in_form, leaf_text, op_text, body_text, constant_text, global_text, element_text, segment_text, groups_of, group_text, code_text, items_text, customs_text, placed_text, sections_text, canon}
use Rattle.ctw_write.proofs.Settling.{short_rises}
use Rattle.ctw_write.proofs.GroupTexts.{groups_locals, fewest, fewer, cheaper}
use Rattle.ctw_write.proofs.Pieces.{laid}
use Rattle.ctw_write.proofs.CanonicalText.{eight, gathered_is}
use Rattle.ctw_write.proofs.Shorter.{module_pieces, view_short}
use Rattle.ctw_strip.specs.Stripped.{erased_text, HasShortTexts}
use Rattle.ctw_strip.proofs.Bases.{base_below}
use Rattle.ctw_strip.proofs.Erasing.{body_erased}

-- ---- numbers, lists and sections

abbrev pub AtMost : List ℕ → List ℕ → Type 0
AtMost short long = length short ≤ length long

pub number_rises : (a b : ℕ) → a ≤ b → AtMost (u32_text a) (u32_text b)
unfolding u32_text
number_rises a b le = short_rises 10 a b le

both : (a b c d : List ℕ) → AtMost a c → AtMost b d → AtMost (a ++ b) (c ++ d)
both a b c d h k = omega (arith, length-append a b, length-append c d)

texts_shorter : {A B : Type 0} (u : A → List ℕ) (w : B → List ℕ) (f : A → B) → ((a : A) → AtMost (w (f a)) (u a)) → (l : List A) → AtMost (all_texts w (map f l)) (all_texts u l)
texts_shorter u w f h [] = omega arith
texts_shorter u w f h (a ∷ l) = both (w (f a)) (all_texts w (map f l)) (u a) (all_texts u l) (h a) (texts_shorter u w f h l)

sized_shorter : (short long : List ℕ) → AtMost short long → AtMost (sized_text short) (sized_text long)
sized_shorter short long h = both (u32_text (length short)) short (u32_text (length long)) long (number_rises (length short) (length long) h) h

-- a vector of no more items with no longer texts
pub vector_shorter : {A B : Type 0} (u : A → List ℕ) (w : B → List ℕ) (l : List A) (r : List B) → length r ≤ length l → AtMost (all_texts w r) (all_texts u l) → AtMost (vector_text w r) (vector_text u l)
vector_shorter u w l r n h = both (u32_text (length r)) (all_texts w r) (u32_text (length l)) (all_texts u l) (number_rises (length r) (length l) n) h

mapped_shorter : {A B : Type 0} (u : A → List ℕ) (w : B → List ℕ) (f : A → B) → ((a : A) → AtMost (w (f a)) (u a)) → (l : List A) → AtMost (vector_text w (map f l)) (vector_text u l)
mapped_shorter u w f h l = vector_shorter u w l (map f l) (omega (arith, length-map l f)) (texts_shorter u w f h l)

section_shorter : {A B : Type 0} (id : ℕ) (u : A → List ℕ) (w : B → List ℕ) (l : List A) (r : List B) → length r ≤ length l → AtMost (vector_text w r) (vector_text u l) → AtMost (items_text id w r) (items_text id u l)
section_shorter id u w l [] n h = omega arith
section_shorter id u w [] (b ∷ r) n h = absurd (omega arith)
section_shorter id u w (a ∷ l) (b ∷ r) n h = omega (arith, sized_shorter (vector_text w (b ∷ r)) (vector_text u (a ∷ l)) h)

mapped_section : {A B : Type 0} (id : ℕ) (u : A → List ℕ) (w : B → List ℕ) (f : A → B) → ((a : A) → AtMost (w (f a)) (u a)) → (l : List A) → AtMost (items_text id w (map f l)) (items_text id u l)
mapped_section id u w f h l = section_shorter id u w l (map f l) (omega (arith, length-map l f)) (mapped_shorter u w f h l)

-- ---- types

type_shorter : (t : ValueType Label) → AtMost (type_text (erase_value_type t)) (type_text t)
type_shorter t = omega arith

result_shorter : (t : Option (ValueType Label)) → AtMost (vector_text type_text (optional (option_map erase_value_type t))) (vector_text type_text (optional t))
result_shorter None = omega arith
result_shorter (Some t) = both (u32_text 1) (type_text (erase_value_type t) ++ []) (u32_text 1) (type_text t ++ []) (omega arith) (omega arith)

signature_shorter : (f : FunctionType Label) → AtMost (signature_text (erase_function_type f)) (signature_text f)
signature_shorter f = both
    (vector_text type_text (map erase_value_type f.params)) (vector_text type_text (optional (option_map erase_value_type f.result))) (vector_text type_text f.params) (vector_text type_text (optional f.result))
    (mapped_shorter type_text type_text erase_value_type type_shorter f.params) (result_shorter f.result)

entries_fewer : (l : List (TypeEntry Label)) → length (erase_entries l) ≤ length l
entries_fewer [] = omega arith
entries_fewer (d ∷ ds) = go d.base (entries_fewer ds)
  where
    go : (b : Option ℕ) → length (erase_entries ds) ≤ length ds → length (cons_option (kept_entry b d.type) (erase_entries ds)) ≤ suc (length ds)
    go None h = omega arith
    go (Some base) h = omega arith

entries_texts : (l : List (TypeEntry Label)) → AtMost (all_texts type_entry_text (erase_entries l)) (all_texts type_entry_text l)
entries_texts [] = omega arith
entries_texts (d ∷ ds) = go d.base (entries_texts ds)
  where
    go : (b : Option ℕ) → AtMost (all_texts type_entry_text (erase_entries ds)) (all_texts type_entry_text ds)
        → AtMost (all_texts type_entry_text (cons_option (kept_entry b d.type) (erase_entries ds))) (type_entry_text (record { base = b; type = d.type }) ++ all_texts type_entry_text ds)
    go None h = omega (arith, both (signature_text (erase_function_type d.type)) (all_texts type_entry_text (erase_entries ds)) (signature_text d.type) (all_texts type_entry_text ds) (signature_shorter d.type) h)
    go (Some base) h = omega (arith, h, length-append (type_entry_text (record { base = Some base; type = d.type })) (all_texts type_entry_text ds))

pub types_shorter : (l : List (TypeEntry Label)) → AtMost (vector_text type_entry_text (erase_entries l)) (vector_text type_entry_text l)
types_shorter l = vector_shorter type_entry_text type_entry_text l (erase_entries l) (entries_fewer l) (entries_texts l)

memory_shorter : (t : MemoryType Label) → AtMost (memory_text (erase_memory_type t)) (memory_text t)
memory_shorter t = go t.tag t.limits.max
  where
    go : (l : Label) (max : Option ℕ) → AtMost (memory_text (record { tag = Public; limits = record { min = t.limits.min; max = max } })) (memory_text (record { tag = l; limits = record { min = t.limits.min; max = max } }))
    go Public max = omega arith
    go Secret None = omega arith
    go Secret (Some max) = omega arith

-- ---- instructions

form_longer : (l : Label) (text : List ℕ) → AtMost text (in_form l text)
form_longer Public text = omega arith
form_longer Secret text = omega arith

module _ (entries : List (TypeEntry Label)) (a : AreTypes entries) where
  leaf_shorter : (leaf : Leaf Label) → AtMost (erased_text entries (Plain leaf)) (leaf_text leaf)
  leaf_shorter (CallIndirect index) =
      let n = base_of entries index in
      omega (arith, both (u32_text n) (0x00 ∷ []) (u32_text index) (0x00 ∷ []) (number_rises n index (base_below entries a index)) (omega arith))
  leaf_shorter (Classify w) = omega arith
  leaf_shorter (Declassify w) = omega arith
  leaf_shorter (Select l) = form_longer l _
  leaf_shorter (Load w l bytes signed align offset) = form_longer l _
  leaf_shorter (Store w l bytes align offset) = form_longer l _
  leaf_shorter (Const w l bits) = form_longer l _
  leaf_shorter (Numeric op l) = form_longer l _
  leaf_shorter leaf = omega arith

  op_shorter : (op : Op Label) → AtMost (erased_text entries op) (op_text op)
  op_shorter (Plain leaf) = leaf_shorter leaf
  op_shorter (Opens shape t) = omega arith
  op_shorter (Closes closer) = omega arith

  ops_shorter : (ops : List (Op Label)) → AtMost (all_texts (erased_text entries) ops) (all_texts op_text ops)
  ops_shorter [] = omega arith
  ops_shorter (op ∷ ops) = both (erased_text entries op) (all_texts (erased_text entries) ops) (op_text op) (all_texts op_text ops) (op_shorter op) (ops_shorter ops)

  body_shorter : (code : Code Label) → AtMost (body_text (erase_code entries code)) (body_text code)
  body_shorter code = omega (arith, ap length (body_erased entries code), ops_shorter (opcodes code))

-- ---- locals

abbrev erase_group : Group → Group
erase_group g = group_of g.count (erase_value_type g.type)

map-replicate : (n : ℕ) (t : ValueType Label) → map erase_value_type (replicate n t) ≡ replicate n (erase_value_type t)
map-replicate zero t = refl
map-replicate (suc n) t = ap (λ (l : List (ValueType Label)). erase_value_type t ∷ l) (map-replicate n t)

locals_erased : (groups : List Group) → locals_of (map erase_group groups) ≡ map erase_value_type (locals_of groups)
locals_erased [] = refl
locals_erased (g ∷ groups) =
    ap (λ (l : List (ValueType Label)). replicate g.count (erase_value_type g.type) ++ l) (locals_erased groups)
    ∙ ap (λ (l : List (ValueType Label)). l ++ map erase_value_type (locals_of groups)) (sym (map-replicate g.count g.type))
    ∙ sym (map-append erase_value_type (replicate g.count g.type) (locals_of groups))

-- the fewest groups of the erased locals
group_shorter : (g : Group) → AtMost (group_text (erase_group g)) (group_text g)
group_shorter g = both (u32_text g.count) (type_text (erase_value_type g.type)) (u32_text g.count) (type_text g.type) (omega arith) (omega arith)

groups_shorter : (types : List (ValueType Label)) → AtMost (vector_text group_text (groups_of (map erase_value_type types))) (vector_text group_text (groups_of types))
groups_shorter types =
    let groups = groups_of types in
    let erased = map erase_group groups in
    let same : fewest erased ≡ groups_of (map erase_value_type types) = ap groups_of (locals_erased groups ∙ ap (map erase_value_type) (groups_locals types)) in
    let few : length (fewest erased) ≤ length groups = omega (arith, fewer erased, length-map groups erase_group) in
    let cheap : AtMost (all_texts group_text (fewest erased)) (all_texts group_text groups) = omega (arith, cheaper erased, texts_shorter group_text group_text erase_group group_shorter groups) in
    omega (arith, ap (λ gs. length (vector_text group_text gs)) same, vector_shorter group_text group_text groups (fewest erased) few cheap)

-- ---- items

constant_shorter : (c : Constant Label) → AtMost (constant_text (erase_constant c)) (constant_text c)
constant_shorter (Number type bits) = both (leaf_text (Const type.width Public bits)) _ (leaf_text (Const type.width type.tag bits)) _ (form_longer type.tag _) (omega arith)
constant_shorter (ValueOf x) = omega arith

global_shorter : (g : Global Label) → AtMost (global_text (erase_global g)) (global_text g)
global_shorter g = omega (arith, constant_shorter g.init)

element_shorter : (e : Element Label) → AtMost (element_text (erase_element e)) (element_text e)
element_shorter e =
    let functions = vector_text u32_text e.functions in
    both (u32_text e.table ++ constant_text (erase_constant e.offset)) functions (u32_text e.table ++ constant_text e.offset) functions
    (both (u32_text e.table) (constant_text (erase_constant e.offset)) (u32_text e.table) (constant_text e.offset) (omega arith) (constant_shorter e.offset)) (omega arith)

segment_shorter : (s : Segment Label) → AtMost (segment_text (erase_segment s)) (segment_text s)
segment_shorter s =
    let bytes = sized_text s.bytes in
    both (u32_text s.memory ++ constant_text (erase_constant s.offset)) bytes (u32_text s.memory ++ constant_text s.offset) bytes
    (both (u32_text s.memory) (constant_text (erase_constant s.offset)) (u32_text s.memory) (constant_text s.offset) (omega arith) (constant_shorter s.offset)) (omega arith)

module _ (entries : List (TypeEntry Label)) (a : AreTypes entries) where
  extern_shorter : (e : Extern Label) → AtMost (extern_text (erase_extern entries e)) (extern_text e)
  extern_shorter (ImportedFunction type) = omega (arith, number_rises (base_of entries type) type (base_below entries a type))
  extern_shorter (ImportedTable limits) = omega arith
  extern_shorter (ImportedMemory type) = omega (arith, memory_shorter type)
  extern_shorter (ImportedGlobal type) = omega arith

  import_shorter : (i : Import Label) → AtMost (import_text (erase_import entries i)) (import_text i)
  import_shorter i =
      let names = sized_text i.module_name ++ sized_text i.name in
      both names (extern_text (erase_extern entries i.kind)) names (extern_text i.kind) (omega arith) (extern_shorter i.kind)

  use_shorter : (f : Function Label) → AtMost (u32_text (base_of entries f.type)) (u32_text f.type)
  use_shorter f = number_rises (base_of entries f.type) f.type (base_below entries a f.type)

  code_shorter : (f : Function Label) → AtMost (code_text (erase_function entries f)) (code_text f)
  code_shorter f =
      let groups = vector_text group_text (groups_of (map erase_value_type f.locals)) in
      let body = body_text (erase_code entries f.body) in
      sized_shorter (groups ++ body) (vector_text group_text (groups_of f.locals) ++ body_text f.body)
      (both groups body (vector_text group_text (groups_of f.locals)) (body_text f.body) (groups_shorter f.locals) (body_shorter entries a f.body))

-- ---- sections

memory_section : (t : Option (MemoryType Label)) → AtMost (vector_text memory_text (optional (option_map erase_memory_type t))) (vector_text memory_text (optional t))
memory_section None = omega arith
memory_section (Some t) = mapped_shorter memory_text memory_text erase_memory_type memory_shorter (t ∷ [])

-- what stands in each section that erasing changes isn't longer
pub record ShorterContents (m : Module Label) : Type 0 where
  pub types : AtMost (vector_text type_entry_text (erase_module m).types) (vector_text type_entry_text m.types)
  pub imports : AtMost (vector_text import_text (erase_module m).imports) (vector_text import_text m.imports)
  pub uses : AtMost (vector_text (λ f. u32_text f.type) (erase_module m).functions) (vector_text (λ f. u32_text f.type) m.functions)
  pub memory : AtMost (vector_text memory_text (optional (erase_module m).memory)) (vector_text memory_text (optional m.memory))
  pub globals : AtMost (vector_text global_text (erase_module m).globals) (vector_text global_text m.globals)
  pub elements : AtMost (vector_text element_text (erase_module m).elements) (vector_text element_text m.elements)
  pub codes : AtMost (vector_text code_text (erase_module m).functions) (vector_text code_text m.functions)
  pub segments : AtMost (vector_text segment_text (erase_module m).segments) (vector_text segment_text m.segments)

pub shorter_contents : (m : Module Label) → AreTypes m.types → ShorterContents m
shorter_contents m a = record {
  types = types_shorter m.types;
  imports = mapped_shorter import_text import_text (erase_import m.types) (import_shorter m.types a) m.imports;
  uses = mapped_shorter (λ (f : Function Label). u32_text f.type) (λ (f : Function Label). u32_text f.type) (erase_function m.types) (use_shorter m.types a) m.functions;
  memory = memory_section m.memory;
  globals = mapped_shorter global_text global_text erase_global global_shorter m.globals;
  elements = mapped_shorter element_text element_text erase_element element_shorter m.elements;
  codes = mapped_shorter code_text code_text (erase_function m.types) (code_shorter m.types a) m.functions;
  segments = mapped_shorter segment_text segment_text erase_segment segment_shorter m.segments;
}

-- each text is no longer than its neighbour
abbrev AllAtMost : List (List ℕ) → List (List ℕ) → Type 0
AllAtMost [] ys = Unit {0}
AllAtMost (x ∷ xs) [] = ⊥
AllAtMost (x ∷ xs) (y ∷ ys) = AtMost x y × AllAtMost xs ys

laid_shorter : (k : ℕ) (xs ys : List (List ℕ)) (customs : List Custom) → AllAtMost xs ys → AtMost (laid k xs customs) (laid k ys customs)
laid_shorter k [] ys customs h = omega arith
laid_shorter k (x ∷ xs) [] customs h = absurd h
laid_shorter k (x ∷ xs) (y ∷ ys) customs h =
    both (placed_text k x customs) (laid (suc k) xs customs) (placed_text k y customs) (laid (suc k) ys customs)
    (both x (customs_text k customs) y (customs_text k customs) h.0 (omega arith)) (laid_shorter (suc k) xs ys customs h.1)

memories_fewer : (t : Option (MemoryType Label)) → length (optional (option_map erase_memory_type t)) ≤ length (optional t)
memories_fewer None = omega arith
memories_fewer (Some t) = omega arith

pieces_shorter : (m : Module Label) → AreTypes m.types → AllAtMost (module_pieces (erase_module m)) (module_pieces m)
pieces_shorter m a =
    let c = shorter_contents m a in
    let same : (text : List ℕ) → AtMost text text = λ text. omega arith in (
      omega arith,
      (
        section_shorter 1 type_entry_text type_entry_text m.types (erase_entries m.types) (entries_fewer m.types) c.types,
        (
          section_shorter 2 import_text import_text m.imports (erase_module m).imports (omega (arith, length-map m.imports (erase_import m.types))) c.imports,
          (
            section_shorter 3 (λ (f : Function Label). u32_text f.type) (λ (f : Function Label). u32_text f.type) m.functions (erase_module m).functions (omega (arith, length-map m.functions (erase_function m.types))) c.uses,
            (
              same _,
              (
                section_shorter 5 memory_text memory_text (optional m.memory) (optional (erase_module m).memory) (memories_fewer m.memory) c.memory,
                (
                  section_shorter 6 global_text global_text m.globals (erase_module m).globals (omega (arith, length-map m.globals erase_global)) c.globals,
                  (
                    same _,
                    (
                      same _,
                      (
                        section_shorter 9 element_text element_text m.elements (erase_module m).elements (omega (arith, length-map m.elements erase_element)) c.elements,
                        (
                          section_shorter 10 code_text code_text m.functions (erase_module m).functions (omega (arith, length-map m.functions (erase_function m.types))) c.codes,
                          (
                            section_shorter 11 segment_text segment_text m.segments (erase_module m).segments (omega (arith, length-map m.segments erase_segment)) c.segments,
                            tt,
                          ),
                        ),
                      ),
                    ),
                  ),
                ),
              ),
            ),
          ),
        ),
      ),
    )

laid_size : (m : Module Label) → length (canon m) ≡ 8 + length (laid 0 (module_pieces m) m.customs)
unfolding canon sections_text
laid_size m = omega (arith, length-append (magic ++ version m.ct) (sections_text m), eight m.ct, ap length (gathered_is [] 0 (module_pieces m) m.customs))

pub canon_shorter : (m : Module Label) → AreTypes m.types → AtMost (canon (erase_module m)) (canon m)
canon_shorter m a = omega (arith, laid_size m, laid_size (erase_module m), laid_shorter 0 (module_pieces (erase_module m)) (module_pieces m) m.customs (pieces_shorter m a))

-- where the bytes of a view aren't longer than they may be
pub short : (lent : Lent) → Spells lent.bytes (tree lent) → length lent.bytes < 2 ^ 32 → AreTypes (tree lent).types → HasShortTexts (tree lent)
short lent s lt a =
    let own = view_short lent.bytes (tree lent) s lt in
    record { own = own; erased = omega (arith, canon_shorter (tree lent) a, own) }
