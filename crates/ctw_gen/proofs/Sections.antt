-- The sections of a workload's module.
use Rattle.std.proofs.Common.{◌≡◌, ℕ, suc, ◌+◌, ◌*◌, ◌<◌, ◌≤◌, ◌^◌, List, [], ◌∷◌, ◌++◌, length, map, refl, sym, ap, ◌∙◌, append_assoc, append-nil, arith, length-append, codes, false}
use Rattle.std.specs.Prelude.{IsTrue}
use Rattle.std.specs.List.{list_all, range_with_len}
use Rattle.std.proofs.lemmas.List.FromFn.{length-range_with_len, length-map-range_with_len}
use Rattle.ctw_ops.specs.declared.types.Label.{Label}
use Rattle.ctw_ops.specs.declared.types.ExternTag.TheVariants.{Func, Memory}
use Rattle.ctw_ops.specs.Types.{byte_types, is_type_byte}
use Rattle.ctw_ops.specs.Code.{LocalGet}
use Rattle.ctw_ops.specs.Tree.{Function}
use Rattle.ctw_ops.specs.Typing.{optional}
use Rattle.ctw_leb.specs.Spelling.{shortest, u32_text}
use Rattle.ctw_form.specs.Spelled.{magic, version, export_of}
use Rattle.ctw_write.specs.Canon.{all_texts, vector_text, sized_text, section_text, type_text, type_entry_text, memory_text, export_text, code_text, items_text, sections_text, canon}
use Rattle.ctw_write.proofs.Pieces.{all_texts-append}
use Rattle.ctw_write.proofs.Listed.{params_sized, items_some}
use Rattle.ctw_gen.specs.Draws.{draw}
use Rattle.ctw_gen.specs.Workload.{integer, type_entry, leaves, calls, numbered, main, functions, one_page, workload_module}
use Rattle.ctw_gen.proofs.Few.{number_few}
use Rattle.ctw_gen.proofs.Texts.{entry_text, code_is, made_few, main_few}
use Rattle.ctw_gen.proofs.Steps.{draw_small}

-- ---- types

pub typed_text : (params start one two three : List ℕ) → IsTrue (list_all is_type_byte params) → one ≡ start ++ 0x60 ∷ [] → two ≡ one ++ sized_text params → three ≡ two ++ vector_text type_text (integer ∷ [])
    → three ≡ start ++ type_entry_text (type_entry (byte_types params))
typed_text params start one two three h e f g =
    let given = vector_text type_text (integer ∷ []) in
    g ∙ ap (λ (l : List ℕ). l ++ given) (f ∙ ap (λ (l : List ℕ). one ++ l) (params_sized params h) ∙ ap (λ (l : List ℕ). l ++ vector_text type_text (byte_types params)) e)
    ∙ ap (λ (l : List ℕ). l ++ given) (append_assoc start (0x60 ∷ []) (vector_text type_text (byte_types params)))
    ∙ append_assoc start (0x60 ∷ vector_text type_text (byte_types params)) given

pub regroup : (a b c d : List ℕ) → ((a ++ b) ++ c) ++ d ≡ a ++ (b ++ (c ++ d))
regroup a b c d = simp append_assoc

-- three texts one after another
pub joined : (x y z start one two three seen : List ℕ) → start ≡ [] → one ≡ start ++ x → two ≡ one ++ y → three ≡ two ++ z → seen ≡ three → seen ≡ x ++ (y ++ z)
joined x y z start one two three seen e f g h s =
    s ∙ h ∙ ap (λ (l : List ℕ). l ++ z) (g ∙ ap (λ (l : List ℕ). l ++ y) (f ∙ ap (λ (l : List ℕ). l ++ x) e)) ∙ append_assoc x y z

pub types_short : (seen : List ℕ) → seen ≡ u32_text 2 ++ (type_entry_text (type_entry (integer ∷ integer ∷ [])) ++ type_entry_text (type_entry (integer ∷ []))) → length seen < 2 ^ 32
unfolding u32_text shortest
types_short seen e =
    let long : length (u32_text 2 ++ (type_entry_text (type_entry (integer ∷ integer ∷ [])) ++ type_entry_text (type_entry (integer ∷ [])))) ≡ 12 = refl in
    omega (arith, ap length e, long)

-- ---- memory and exports

pub memory_short : (start one two seen : List ℕ) → start ≡ [] → one ≡ start ++ u32_text 1 → two ≡ one ++ memory_text one_page → seen ≡ two → length seen < 2 ^ 32
unfolding u32_text shortest
memory_short start one two seen e f g s =
    let whole : seen ≡ u32_text 1 ++ memory_text one_page = s ∙ g ∙ ap (λ (l : List ℕ). l ++ memory_text one_page) (f ∙ ap (λ (l : List ℕ). l ++ u32_text 1) e) in
    let long : length (u32_text 1 ++ memory_text one_page) ≡ 3 = refl in
    omega (arith, long, ap length whole)

abbrev pub exports_text : ℕ → List ℕ
exports_text size = u32_text 2 ++ (export_text (export_of (codes "main") Func size) ++ export_text (export_of (codes "mem") Memory 0))

pub exports_are : (seed size : ℕ) → exports_text size ≡ vector_text export_text (workload_module seed size).exports
exports_are seed size = ap (λ (l : List ℕ). u32_text 2 ++ (export_text (export_of (codes "main") Func size) ++ l)) (sym (append-nil (export_text (export_of (codes "mem") Memory 0))))

pub exports_few : (size : ℕ) → size ≤ 20000 → length (exports_text size) ≤ 16
unfolding u32_text shortest
exports_few size le =
    let one = export_text (export_of (codes "main") Func size) in
    let two = export_text (export_of (codes "mem") Memory 0) in
    let long : length one ≡ suc (suc (suc (suc (suc (suc (length (u32_text size))))))) = refl in
    let other : length two ≡ 6 = refl in
    omega (arith, long, other, number_few size (omega arith), length-append (u32_text 2) (one ++ two), length-append one two)

pub exports_short : (size : ℕ) (seen : List ℕ) → size ≤ 20000 → seen ≡ exports_text size → length seen < 2 ^ 32
exports_short size seen le e = omega (arith, ap length e, exports_few size le)

-- ---- functions

pub functions_long : (seed size : ℕ) → length (functions seed size) ≡ size + 1
unfolding functions
functions_long seed size = omega (arith, length-append (map (numbered seed) (range_with_len 0 size)) (main size ∷ []), length-map-range_with_len (numbered seed) 0 size)

pub functions_section : (id : ℕ) (w : Function Label → List ℕ) (seed size : ℕ) → items_text id w (functions seed size) ≡ section_text id (vector_text w (functions seed size))
functions_section id w seed size = items_some id w (functions seed size) (omega (arith, functions_long seed size))

-- behind their count stand the texts of those that draws make, and that of `main`
pub functions_text : (w : Function Label → List ℕ) (seed size : ℕ) → vector_text w (functions seed size) ≡ u32_text (size + 1) ++ (all_texts w (map (numbered seed) (range_with_len 0 size)) ++ w (main size))
unfolding functions
functions_text w seed size =
    ap (λ (n : ℕ). u32_text n ++ all_texts w (functions seed size)) (functions_long seed size)
    ∙ ap (λ (l : List ℕ). u32_text (size + 1) ++ l)
    (all_texts-append w (map (numbered seed) (range_with_len 0 size)) (main size ∷ [])
    ∙ ap (λ (l : List ℕ). all_texts w (map (numbered seed) (range_with_len 0 size)) ++ l) (append-nil (w (main size))))

-- ---- their types

abbrev pub use_text : Function Label → List ℕ
use_text f = u32_text f.type

pub uses_text : (seed : ℕ) (l : List ℕ) → all_texts (λ (f : Function Label). u32_text f.type) (map (numbered seed) l) ≡ all_texts (λ (k : ℕ). u32_text 0) l
uses_text seed [] = refl
uses_text seed (k ∷ l) = ap (λ (t : List ℕ). u32_text 0 ++ t) (uses_text seed l)

uses_few : (l : List ℕ) → length (all_texts (λ (k : ℕ). u32_text 0) l) ≡ length l
unfolding u32_text shortest
uses_few [] = refl
uses_few (k ∷ l) = ap suc (uses_few l)

pub uses_short : (seed size : ℕ) → size ≤ 20000 → length (vector_text (λ (f : Function Label). u32_text f.type) (functions seed size)) ≤ 20010
unfolding u32_text shortest
uses_short seed size le =
    let counted = range_with_len 0 size in
    let some = all_texts (λ (f : Function Label). u32_text f.type) (map (numbered seed) counted) in
    let last : length (u32_text 1) ≡ 1 = refl in
    omega (
      arith,
      last,
      ap length (functions_text (λ (f : Function Label). u32_text f.type) seed size),
      length-append (u32_text (size + 1)) (some ++ u32_text 1),
      length-append some (u32_text 1),
      ap length (uses_text seed counted),
      uses_few counted,
      length-range_with_len 0 size,
      number_few (size + 1) (omega arith),
    )

-- ---- their code

code_few : (f : Function Label) (entry : List ℕ) (most : ℕ) → code_text f ≡ sized_text entry → length entry ≤ most → most < 2097152 → length (code_text f) ≤ most + 3
code_few f entry most e le few = omega (arith, ap length e, length-append (u32_text (length entry)) entry, number_few (length entry) (omega arith))

numbered_few : (seed : ℕ) (l : List ℕ) → length (all_texts code_text (map (numbered seed) l)) ≤ 33 * length l
numbered_few seed [] = omega arith
numbered_few seed (k ∷ l) =
    let a = draw seed (3 * k) in
    let c = draw seed (3 * k + 1) in
    let b = draw seed (3 * k + 2) in
    let one = code_few (numbered seed k) (entry_text (leaves a c b)) 30 (code_is 0 (leaves a c b)) (made_few a c b (draw_small seed (3 * k + 1))) (omega arith) in
    omega (arith, one, numbered_few seed l, length-append (code_text (numbered seed k)) (all_texts code_text (map (numbered seed) l)))

pub codes_short : (seed size : ℕ) → size ≤ 20000 → length (vector_text code_text (functions seed size)) ≤ 820100
codes_short seed size le =
    let counted = range_with_len 0 size in
    let some = all_texts code_text (map (numbered seed) counted) in
    let last = code_few (main size) (entry_text (LocalGet 0 ∷ calls size)) 160004 (code_is 1 (LocalGet 0 ∷ calls size)) (main_few size le) (omega arith) in
    omega (
      arith,
      last,
      ap length (functions_text code_text seed size),
      length-append (u32_text (size + 1)) (some ++ code_text (main size)),
      length-append some (code_text (main size)),
      numbered_few seed counted,
      length-range_with_len 0 size,
      number_few (size + 1) (omega arith),
    )

-- ---- the module

laid : (g v t u m e k : List ℕ) → (((((([] ++ g) ++ v) ++ t) ++ u) ++ m) ++ e) ++ k ≡ (g ++ v) ++ ((((((((((([] ++ (t ++ [])) ++ []) ++ (u ++ [])) ++ []) ++ (m ++ [])) ++ []) ++ (e ++ [])) ++ []) ++ []) ++ (k ++ [])) ++ [])
laid g v t u m e k = simp (append_assoc, append-nil)

-- the canonical spelling
pub canon_is : (seed size : ℕ) → (((((([] ++ magic) ++ version false) ++ items_text 1 type_entry_text (workload_module seed size).types) ++ items_text 3 (λ (f : Function Label). u32_text f.type) (functions seed size)) ++ items_text 5 memory_text (optional (workload_module seed size).memory))
    ++ items_text 7 export_text (workload_module seed size).exports)
    ++ items_text 10 code_text (functions seed size) ≡ canon (workload_module seed size)
unfolding canon sections_text
canon_is seed size =
    let w = workload_module seed size in
    laid magic (version false) (items_text 1 type_entry_text w.types) (items_text 3 (λ (f : Function Label). u32_text f.type) (functions seed size)) (items_text 5 memory_text (optional w.memory)) (items_text 7 export_text w.exports)
    (items_text 10 code_text (functions seed size))

-- the header and the sections that have items are the canonical spelling
pub module_joined : (seed size : ℕ) (start header typed used held shown coded : List ℕ) → start ≡ [] → header ≡ start ++ magic ++ version false → typed ≡ header ++ items_text 1 type_entry_text (workload_module seed size).types
    → used ≡ typed ++ items_text 3 (λ (f : Function Label). u32_text f.type) (functions seed size) → held ≡ used ++ items_text 5 memory_text (optional (workload_module seed size).memory)
    → shown ≡ held ++ items_text 7 export_text (workload_module seed size).exports → coded ≡ shown ++ items_text 10 code_text (functions seed size) → coded ≡ canon (workload_module seed size)
module_joined seed size start header typed used held shown coded e h t u m x k =
    let w = workload_module seed size in
    let t1 = items_text 1 type_entry_text w.types in
    let t3 = items_text 3 (λ (f : Function Label). u32_text f.type) (functions seed size) in
    let t5 = items_text 5 memory_text (optional w.memory) in
    let t7 = items_text 7 export_text w.exports in
    let t10 = items_text 10 code_text (functions seed size) in
    k
    ∙ ap (λ (l : List ℕ). l ++ t10)
    (x
    ∙ ap (λ (l : List ℕ). l ++ t7)
    (m
    ∙ ap (λ (l : List ℕ). l ++ t5)
    (u ∙ ap (λ (l : List ℕ). l ++ t3) (t ∙ ap (λ (l : List ℕ). l ++ t1) (h ∙ ap (λ (l : List ℕ). l ++ magic ++ version false) e)))))
    ∙ canon_is seed size
