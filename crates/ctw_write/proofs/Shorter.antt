-- Parts of a text that is short are short.
use Rattle.std.proofs.Common.{◌≡◌, ℕ, zero, suc, ◌+◌, ◌<◌, ◌^◌, ◌≤◌, List, [], ◌∷◌, ◌++◌, length, get_or, Option, Some, ap, arith}
use Rattle.std.specs.Prelude.{slice_get}
use Rattle.std.proofs.lemmas.List.{length-append}
use Rattle.ctw_ops.specs.declared.types.Label.{Label}
use Rattle.ctw_ops.specs.Tree.{Module, Import, Export, Segment, Custom}
use Rattle.ctw_ops.specs.Typing.{optional}
use Rattle.ctw_leb.specs.Spelling.{shortest, u32_text}
use Rattle.ctw_form.specs.Spelled.{magic, version, Spells}
use Rattle.ctw_write.specs.Canon.{all_texts, vector_text, sized_text, type_entry_text, table_text, memory_text, extern_text, import_text, kind_byte, export_text, constant_text, global_text, element_text, segment_text, code_text, section_text, items_text, start_text, customs_text, placed_text, sections_text, canon}
use Rattle.ctw_write.proofs.Pieces.{laid}
use Rattle.ctw_write.proofs.CanonicalText.{gathered_is, canonical_shortest}
use Rattle.ctw_write.proofs.Listed.{one_short}

pub import_short : (i : Import Label) → length (import_text i) < 2 ^ 32 → (length i.module_name < 2 ^ 32) × (length i.name < 2 ^ 32)
import_short i lt =
    let a = length-append (sized_text i.module_name ++ sized_text i.name) (extern_text i.kind) in
    let b = length-append (sized_text i.module_name) (sized_text i.name) in
    let c = length-append (u32_text (length i.module_name)) i.module_name in
    let d = length-append (u32_text (length i.name)) i.name in
    (omega (arith, a, b, c, d), omega (arith, a, b, c, d))

pub export_short : (e : Export) → length (export_text e) < 2 ^ 32 → length e.name < 2 ^ 32
export_short e lt = omega (arith, length-append (sized_text e.name) (kind_byte e.kind ∷ u32_text e.index), length-append (u32_text (length e.name)) e.name)

pub segment_short : (s : Segment Label) → length (segment_text s) < 2 ^ 32 → length s.bytes < 2 ^ 32
segment_short s lt = omega (arith, length-append (u32_text s.memory ++ constant_text s.offset) (sized_text s.bytes), length-append (u32_text (length s.bytes)) s.bytes)

-- ---- parts of the canonical spelling

-- the texts of a module's sections, by their ids
abbrev pub module_pieces : Module Label → List (List ℕ)
module_pieces m =
    [] ∷ items_text 1 type_entry_text m.types ∷ items_text 2 import_text m.imports ∷ items_text 3 (λ f. u32_text f.type) m.functions ∷ items_text 4 table_text (optional m.table) ∷ items_text 5 memory_text (optional m.memory)
    ∷ items_text 6 global_text m.globals ∷ items_text 7 export_text m.exports ∷ start_text m.start ∷ items_text 9 element_text m.elements ∷ items_text 10 code_text m.functions ∷ items_text 11 segment_text m.segments ∷ []

piece_short : (k : ℕ) (xs : List (List ℕ)) (customs : List Custom) (i : ℕ) → length (get_or xs i []) ≤ length (laid k xs customs)
piece_short k [] customs i = omega arith
piece_short k (x ∷ xs) customs zero = omega (arith, length-append (placed_text k x customs) (laid (suc k) xs customs), length-append x (customs_text k customs))
piece_short k (x ∷ xs) customs (suc i) = omega (arith, piece_short (suc k) xs customs i, length-append (placed_text k x customs) (laid (suc k) xs customs))

place_short : (k : ℕ) (xs : List (List ℕ)) (customs : List Custom) (i : ℕ) → i < length xs → length (customs_text (k + i) customs) ≤ length (laid k xs customs)
place_short k [] customs i lt = absurd (omega arith)
place_short k (x ∷ xs) customs zero lt =
    let same : k + 0 ≡ k = omega arith in
    omega (arith, ap (λ (n : ℕ). length (customs_text n customs)) same, length-append (placed_text k x customs) (laid (suc k) xs customs), length-append x (customs_text k customs))
place_short k (x ∷ xs) customs (suc i) lt =
    let same : k + suc i ≡ suc k + i = omega arith in
    omega (arith, ap (λ (n : ℕ). length (customs_text n customs)) same, place_short (suc k) xs customs i (omega arith), length-append (placed_text k x customs) (laid (suc k) xs customs))

laid_short : (m : Module Label) → length (laid 0 (module_pieces m) m.customs) ≤ length (canon m)
unfolding canon sections_text
laid_short m = omega (arith, ap length (gathered_is [] 0 (module_pieces m) m.customs), length-append (magic ++ version m.ct) (sections_text m))

-- the canonical spelling is short, and so is each section and each text of custom sections
pub section_short : (m : Module Label) (i : ℕ) → length (canon m) < 2 ^ 32 → length (get_or (module_pieces m) i []) < 2 ^ 32
section_short m i lt = omega (arith, piece_short 0 (module_pieces m) m.customs i, laid_short m)

pub customs_short : (m : Module Label) (place : ℕ) → place < 12 → length (canon m) < 2 ^ 32 → length (customs_text place m.customs) < 2 ^ 32
customs_short m place few lt =
    let same : 0 + place ≡ place = omega arith in
    omega (arith, ap (λ (n : ℕ). length (customs_text n m.customs)) same, place_short 0 (module_pieces m) m.customs place few, laid_short m)

pub vector_short : {A : Type 0} (id : ℕ) (w : A → List ℕ) (items : List A) → length (items_text id w items) < 2 ^ 32 → length (vector_text w items) < 2 ^ 32
unfolding u32_text shortest
vector_short id w [] lt = omega arith
vector_short id w (a ∷ others) lt = omega (arith, length-append (u32_text (length (vector_text w (a ∷ others)))) (vector_text w (a ∷ others)))

-- each item of a section is short
pub item_short : {A : Type 0} (id : ℕ) (w : A → List ℕ) (items : List A) (i : ℕ) (a : A) → length (items_text id w items) < 2 ^ 32 → slice_get items i ≡ Some a → length (w a) < 2 ^ 32
item_short id w items i a lt e = omega (arith, vector_short id w items lt, length-append (u32_text (length items)) (all_texts w items), one_short w items i a e)

-- where the canonical spelling isn't longer than the bytes of a view
pub view_short : (bytes : List ℕ) (m : Module Label) → Spells bytes m → length bytes < 2 ^ 32 → length (canon m) < 2 ^ 32
view_short bytes m s lt = omega (arith, canonical_shortest bytes m s)

-- contents that are a vector
pub contents_short : (seen made start vector : List ℕ) → seen ≡ made → made ≡ start ++ vector → start ≡ [] → length vector < 2 ^ 32 → length seen < 2 ^ 32
contents_short seen made start vector e f g lt = omega (arith, ap length e, ap length f, length-append start vector, ap length g)

-- contents with the one thing that is there
pub one_thing_short : {A : Type 0} (id : ℕ) (w : A → List ℕ) (o : Option A) (a : A) → o ≡ Some a → length (items_text id w (optional o)) < 2 ^ 32 → length (u32_text 1 ++ w a) < 2 ^ 32
one_thing_short id w o a e lt =
    let whole : length (items_text id w (optional o)) ≡ length (section_text id (u32_text 1 ++ (w a ++ []))) = ap (λ x. length (items_text id w (optional x))) e in
    let vector = u32_text 1 ++ (w a ++ []) in
    omega (arith, whole, length-append (u32_text (length vector)) vector, length-append (u32_text 1) (w a ++ []), length-append (w a) [], length-append (u32_text 1) (w a))
