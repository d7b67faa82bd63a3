-- The inks of a module are laid out field by field, each on a line of its own.
use Rattle.std.proofs.Common.{◌≡◌, ℕ, suc, Bool, true, false, List, [], ◌∷◌, ◌++◌, Option, Some, None, decimal, codes, refl, sym, ap, ◌∙◌, append_assoc}
use Rattle.std.specs.Prelude.{slice_get}
use Rattle.ctw_ops.specs.declared.types.Label.{Label}
use Rattle.ctw_ops.specs.declared.types.Limits.{Limits}
use Rattle.ctw_ops.specs.declared.types.ExternTag.TheVariants.{Table, Memory}
use Rattle.ctw_ops.specs.Types.{MemoryType}
use Rattle.ctw_ops.specs.Code.{opcodes}
use Rattle.ctw_ops.specs.Tree as tree
use Rattle.ctw_ops.specs.Tree.{TypeEntry, Extern, Import, Function, Constant, Export, Element, Segment, Custom, Module}
use Rattle.ctw_ops.specs.Valid.{IsValid}
use Rattle.ctw_text.specs.declared.keys.Key.TheVariants.{Extern as KExtern, Module as KModule}
use Rattle.ctw_text.specs.declared.keys.Part.TheVariants as parts
use Rattle.ctw_text.specs.declared.keys.Indexed.TheVariants as uses
use Rattle.ctw_text.specs.Print.{Ink, blank, line, line2, num, open_, close, key, text_of, print_type_field, print_extern, print_memory, print_string, print_import, print_function, print_group, print_code, print_table, print_table_field, print_memory_field, print_constant, print_global, print_export, print_start, print_indexes, print_element, print_segment, print_custom, print_maybe, print_ct, print_each, print_segments, print_definitions, print_fields, print_module}
use Rattle.ctw_print.specs.Words.{value_word}
use Rattle.ctw_print.specs.Texts.{all_texts, spaced_number, string_text, locals_text, lines_text, bits_text, use_text, limits_text, table_text, memory_label, memory_text, variable_text, extern_text, entry_text, type_line, import_line, function_lines, table_line, memory_line, constant_text, global_line, kind_word, export_line, start_line, element_line, segment_line, custom_line, maybe_text, ct_text, declarations_text, spaces_text, contents_text, module_text}
use Rattle.ctw_print.proofs.Joined.{join2, join3, join4, join5, join6, join7}
use Rattle.ctw_print.proofs.Keywords.{module_word, ct_word, type_word, import_word, export_word, start_word, elem_word, data_word, custom_word, func_word, table_word, memory_word, global_word, extern_word}
use Rattle.ctw_print.proofs.Fitting.{CodeFits, function_fits}
use Rattle.ctw_print.proofs.Inked.{locals_inked, indexes_inked, use_inked, string_inked, entry_inked, table_inked, memory_inked, variable_inked}
use Rattle.ctw_print.proofs.InkedCode.{code_inked, const_inked, indexed_inked}

-- ---- fields

type_inked : (e : TypeEntry Label) (rest : List Ink) → text_of (print_type_field e rest) ≡ type_line e ++ text_of rest
type_inked e rest =
    rw type_word
    (ap (λ (t : List ℕ). codes "\n  (type " ++ t) (entry_inked e.base e.type (close ∷ rest)) ∙ join3 (codes "\n  (type ") (entry_text e.base e.type) (codes ")") (text_of rest))

table_whole : (l : Limits) (rest : List Ink) → text_of (open_ ∷ key (KExtern Table) ∷ blank ∷ print_table l (close ∷ rest)) ≡ table_text l ++ text_of rest
table_whole l rest = rw table_word (ap (λ (t : List ℕ). codes "(table " ++ t) (table_inked l rest) ∙ join3 (codes "(table ") (limits_text l) (codes " funcref)") (text_of rest))

memory_whole : (m : MemoryType Label) (rest : List Ink) → text_of (open_ ∷ key (KExtern Memory) ∷ blank ∷ print_memory m (close ∷ rest)) ≡ memory_text m ++ text_of rest
memory_whole m rest =
    rw memory_word
    (ap (λ (t : List ℕ). codes "(memory " ++ t) (memory_inked m (close ∷ rest)) ∙ join4 (codes "(memory ") (memory_label m.tag) (limits_text m.limits) (codes ")") (text_of rest))

extern_inked : (e : Extern Label) (rest : List Ink) → text_of (print_extern e rest) ≡ extern_text e ++ text_of rest
extern_inked (tree.ImportedFunction n) rest = rw func_word (ap (λ (t : List ℕ). codes "(func" ++ t) (use_inked n (close ∷ rest)) ∙ join3 (codes "(func") (use_text n) (codes ")") (text_of rest))
extern_inked (tree.ImportedTable l) rest = table_whole l rest
extern_inked (tree.ImportedMemory m) rest = memory_whole m rest
extern_inked (tree.ImportedGlobal g) rest =
    rw global_word (ap (λ (t : List ℕ). codes "(global " ++ t) (variable_inked g (close ∷ rest)) ∙ join3 (codes "(global ") (variable_text g) (codes ")") (text_of rest))

import_inked : (i : Import Label) (rest : List Ink) → text_of (print_import i rest) ≡ import_line i ++ text_of rest
import_inked i rest =
    let c = extern_inked i.kind (close ∷ rest) in
    let b = string_inked i.name (blank ∷ print_extern i.kind (close ∷ rest)) ∙ ap (λ (t : List ℕ). string_text i.name ++ (codes " " ++ t)) c in
    let a = string_inked i.module_name (blank ∷ print_string i.name (blank ∷ print_extern i.kind (close ∷ rest))) ∙ ap (λ (t : List ℕ). string_text i.module_name ++ (codes " " ++ t)) b in
    rw import_word
    (ap (λ (t : List ℕ). codes "\n  (import " ++ t) a
    ∙ join7 (codes "\n  (import ") (string_text i.module_name) (codes " ") (string_text i.name) (codes " ") (extern_text i.kind) (codes ")") (text_of rest))

function_inked : (f : Function Label) (rest : List Ink) → CodeFits f.body → text_of (print_function f rest) ≡ function_lines f ++ text_of rest
function_inked f rest h =
    let c = code_inked f.body (line2 ∷ close ∷ rest) h in
    let b = locals_inked f.locals (print_code f.body (line2 ∷ close ∷ rest)) ∙ ap (λ (t : List ℕ). locals_text f.locals ++ t) c in
    let a = use_inked f.type (print_group parts.Local f.locals (print_code f.body (line2 ∷ close ∷ rest))) ∙ ap (λ (t : List ℕ). use_text f.type ++ t) b in
    rw func_word
    (ap (λ (t : List ℕ). codes "\n  (func" ++ t) a ∙ join5 (codes "\n  (func") (use_text f.type) (locals_text f.locals) (lines_text (opcodes f.body)) (codes "\n  )") (text_of rest))

table_field : (l : Limits) (rest : List Ink) → text_of (print_table_field l rest) ≡ table_line l ++ text_of rest
table_field l rest = ap (λ (t : List ℕ). codes "\n  " ++ t) (table_whole l rest) ∙ join2 (codes "\n  ") (table_text l) (text_of rest)

memory_field : (m : MemoryType Label) (rest : List Ink) → text_of (print_memory_field m rest) ≡ memory_line m ++ text_of rest
memory_field m rest = ap (λ (t : List ℕ). codes "\n  " ++ t) (memory_whole m rest) ∙ join2 (codes "\n  ") (memory_text m) (text_of rest)

constant_inked : (c : Constant Label) (rest : List Ink) → text_of (print_constant c rest) ≡ constant_text c ++ text_of rest
constant_inked (tree.Number t bits) rest =
    let word = value_word t in
    let number = bits_text t.width bits in
    ap (λ (l : List ℕ). codes "(" ++ l) (const_inked t.width t.tag bits (close ∷ rest)) ∙ ap (λ (l : List ℕ). codes "(" ++ l) (sym (join3 word (codes ".const ") number (codes ")" ++ text_of rest)))
    ∙ join5 (codes "(") word (codes ".const ") number (codes ")") (text_of rest)
constant_inked (tree.ValueOf n) rest = ap (λ (l : List ℕ). codes "(" ++ l) (indexed_inked uses.GlobalGet n (close ∷ rest)) ∙ join3 (codes "(global.get ") (decimal n) (codes ")") (text_of rest)

global_inked : (g : tree.Global Label) (rest : List Ink) → text_of (print_global g rest) ≡ global_line g ++ text_of rest
global_inked g rest =
    let b = constant_inked g.init (close ∷ rest) in
    let a = variable_inked g.type (blank ∷ print_constant g.init (close ∷ rest)) ∙ ap (λ (t : List ℕ). variable_text g.type ++ (codes " " ++ t)) b in
    rw global_word
    (ap (λ (t : List ℕ). codes "\n  (global " ++ t) a ∙ join5 (codes "\n  (global ") (variable_text g.type) (codes " ") (constant_text g.init) (codes ")") (text_of rest))

export_inked : (e : Export) (rest : List Ink) → text_of (print_export e rest) ≡ export_line e ++ text_of rest
export_inked e rest =
    let tail : List Ink = blank ∷ open_ ∷ key (KExtern e.kind) ∷ blank ∷ num e.index ∷ close ∷ close ∷ rest in
    let b : text_of tail ≡ codes " (" ++ (kind_word e.kind ++ (spaced_number e.index ++ (codes "))" ++ text_of rest))) =
    ap (λ (w : List ℕ). codes " (" ++ (w ++ (32 ∷ (decimal e.index ++ (41 ∷ 41 ∷ text_of rest))))) (extern_word e.kind) in
    let a = string_inked e.name tail ∙ ap (λ (t : List ℕ). string_text e.name ++ t) b in
    rw export_word
    (ap (λ (t : List ℕ). codes "\n  (export " ++ t) a ∙ join6 (codes "\n  (export ") (string_text e.name) (codes " (") (kind_word e.kind) (spaced_number e.index) (codes "))") (text_of rest))

start_inked : (n : ℕ) (rest : List Ink) → text_of (print_start n rest) ≡ start_line n ++ text_of rest
start_inked n rest = rw start_word (join3 (codes "\n  (start ") (decimal n) (codes ")") (text_of rest))

element_inked : (e : Element Label) (rest : List Ink) → text_of (print_element e rest) ≡ element_line e ++ text_of rest
element_inked e rest =
    let b = indexes_inked e.functions (close ∷ rest) in
    let a = constant_inked e.offset (print_indexes e.functions (close ∷ rest)) ∙ ap (λ (t : List ℕ). constant_text e.offset ++ t) b in
    rw elem_word
    (ap (λ (t : List ℕ). codes "\n  (elem " ++ t) a ∙ join4 (codes "\n  (elem ") (constant_text e.offset) (all_texts spaced_number e.functions) (codes ")") (text_of rest))

segment_inked : (s : Segment Label) (rest : List Ink) → text_of (print_segment s rest) ≡ segment_line s ++ text_of rest
segment_inked s rest =
    let b = string_inked s.bytes (close ∷ rest) in
    let a = constant_inked s.offset (blank ∷ print_string s.bytes (close ∷ rest)) ∙ ap (λ (t : List ℕ). constant_text s.offset ++ (codes " " ++ t)) b in
    rw data_word
    (ap (λ (t : List ℕ). codes "\n  (data " ++ t) a ∙ join5 (codes "\n  (data ") (constant_text s.offset) (codes " ") (string_text s.bytes) (codes ")") (text_of rest))

custom_inked : (c : Custom) (rest : List Ink) → text_of (print_custom c rest) ≡ custom_line c ++ text_of rest
custom_inked c rest =
    let b = string_inked c.bytes (close ∷ rest) in
    let a = string_inked c.name (blank ∷ print_string c.bytes (close ∷ rest)) ∙ ap (λ (t : List ℕ). string_text c.name ++ (codes " " ++ t)) b in
    rw custom_word
    (ap (λ (t : List ℕ). codes "\n  (custom " ++ (decimal c.place ++ (codes " " ++ t))) a
    ∙ join7 (codes "\n  (custom ") (decimal c.place) (codes " ") (string_text c.name) (codes " ") (string_text c.bytes) (codes ")") (text_of rest))

-- ---- all of a kind

each_inked : {X : Type 0} (print : X → List Ink → List Ink) (text : X → List ℕ) → ((x : X) (rest : List Ink) → text_of (print x rest) ≡ text x ++ text_of rest)
    → (xs : List X) (rest : List Ink) → text_of (print_each print xs rest) ≡ all_texts text xs ++ text_of rest
each_inked print text h [] rest = refl
each_inked print text h (x ∷ xs) rest =
    h x (print_each print xs rest) ∙ ap (λ (t : List ℕ). text x ++ t) (each_inked print text h xs rest) ∙ sym (append_assoc (text x) (all_texts text xs) (text_of rest))

maybe_inked : {X : Type 0} (print : X → List Ink → List Ink) (text : X → List ℕ) → ((x : X) (rest : List Ink) → text_of (print x rest) ≡ text x ++ text_of rest)
    → (o : Option X) (rest : List Ink) → text_of (print_maybe print o rest) ≡ maybe_text text o ++ text_of rest
maybe_inked print text h None rest = refl
maybe_inked print text h (Some x) rest = h x rest

functions_inked : (fs : List (Function Label)) (rest : List Ink) → ((i : ℕ) (f : Function Label) → slice_get fs i ≡ Some f → CodeFits f.body)
    → text_of (print_each print_function fs rest) ≡ all_texts function_lines fs ++ text_of rest
functions_inked [] rest h = refl
functions_inked (f ∷ fs) rest h =
    function_inked f (print_each print_function fs rest) (h 0 f refl) ∙ ap (λ (t : List ℕ). function_lines f ++ t) (functions_inked fs rest (λ i g e. h (suc i) g e))
    ∙ sym (append_assoc (function_lines f) (all_texts function_lines fs) (text_of rest))

-- ---- the module

contents_inked : (m : Module Label) (rest : List Ink) → text_of (print_maybe print_start m.start (print_segments m rest)) ≡ contents_text m ++ text_of rest
contents_inked m rest =
    let customs = print_each print_custom m.customs rest in
    let segments = print_each print_segment m.segments customs in
    let d = each_inked print_custom custom_line custom_inked m.customs rest in
    let c = each_inked print_segment segment_line segment_inked m.segments customs ∙ ap (λ (t : List ℕ). all_texts segment_line m.segments ++ t) d in
    let b = each_inked print_element element_line element_inked m.elements segments ∙ ap (λ (t : List ℕ). all_texts element_line m.elements ++ t) c in
    maybe_inked print_start start_line start_inked m.start (print_segments m rest) ∙ ap (λ (t : List ℕ). maybe_text start_line m.start ++ t) b
    ∙ join4 (maybe_text start_line m.start) (all_texts element_line m.elements) (all_texts segment_line m.segments) (all_texts custom_line m.customs) (text_of rest)

spaces_inked : (m : Module Label) (rest : List Ink)
    → text_of (print_maybe print_table_field m.table (print_maybe print_memory_field m.memory (print_each print_global m.globals (print_each print_export m.exports rest)))) ≡ spaces_text m ++ text_of rest
spaces_inked m rest =
    let exports = print_each print_export m.exports rest in
    let globals = print_each print_global m.globals exports in
    let d = each_inked print_export export_line export_inked m.exports rest in
    let c = each_inked print_global global_line global_inked m.globals exports ∙ ap (λ (t : List ℕ). all_texts global_line m.globals ++ t) d in
    let b = maybe_inked print_memory_field memory_line memory_field m.memory globals ∙ ap (λ (t : List ℕ). maybe_text memory_line m.memory ++ t) c in
    maybe_inked print_table_field table_line table_field m.table (print_maybe print_memory_field m.memory globals) ∙ ap (λ (t : List ℕ). maybe_text table_line m.table ++ t) b
    ∙ join4 (maybe_text table_line m.table) (maybe_text memory_line m.memory) (all_texts global_line m.globals) (all_texts export_line m.exports) (text_of rest)

fields_inked : (m : Module Label) (rest : List Ink) → IsValid m → text_of (print_fields m rest) ≡ declarations_text m ++ (spaces_text m ++ (contents_text m ++ text_of rest))
fields_inked m rest v =
    let contents = print_maybe print_start m.start (print_segments m rest) in
    let definitions = print_definitions m rest in
    let e = spaces_inked m contents ∙ ap (λ (t : List ℕ). spaces_text m ++ t) (contents_inked m rest) in
    let spaces = print_maybe print_table_field m.table (print_maybe print_memory_field m.memory (print_each print_global m.globals (print_each print_export m.exports contents))) in
    let c = functions_inked m.functions spaces (λ i f e. (function_fits m i f v e).code) ∙ ap (λ (t : List ℕ). all_texts function_lines m.functions ++ t) e in
    let b = each_inked print_import import_line import_inked m.imports definitions ∙ ap (λ (t : List ℕ). all_texts import_line m.imports ++ t) c in
    each_inked print_type_field type_line type_inked m.types (print_each print_import m.imports definitions) ∙ ap (λ (t : List ℕ). all_texts type_line m.types ++ t) b
    ∙ join3 (all_texts type_line m.types) (all_texts import_line m.imports) (all_texts function_lines m.functions) (spaces_text m ++ (contents_text m ++ text_of rest))

kind_inked : (ct : Bool) (rest : List Ink) → text_of (print_ct ct rest) ≡ ct_text ct ++ text_of rest
kind_inked true rest = rw ct_word refl
kind_inked false rest = refl

-- the bytes of a printed module
pub module_inked : (m : Module Label) → IsValid m → text_of (print_module m) ≡ module_text m
module_inked m v =
    let end : List Ink = line ∷ close ∷ line ∷ [] in
    rw module_word (ap (λ (t : List ℕ). codes "(module" ++ t) (kind_inked m.ct (print_fields m end) ∙ ap (λ (t : List ℕ). ct_text m.ct ++ t) (fields_inked m end v))
    ∙ join5 (codes "(module") (ct_text m.ct) (declarations_text m) (spaces_text m) (contents_text m) (codes "\n)\n"))
