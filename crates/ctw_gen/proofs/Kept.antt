-- A workload's module keeps the limits of files, and so its canonical bytes spell it.
use Rattle.std.proofs.Common.{◌≡◌, ℕ, ◌+◌, ◌<◌, ◌≤◌, List, [], ◌∷◌, ◌++◌, length, refl, ap, arith, length-append, codes, true, false, All}
use Rattle.std.specs.List.{sum_by}
use Rattle.std.specs.Str.{is_utf8}
use Rattle.std.proofs.lemmas.List.Sums.{sum_by-cons}
use Rattle.std.proofs.lemmas.List.Sorted.{IsNonDecreasingBy-short}
use Rattle.std.proofs.lemmas.List.Elements.{All-nil, All-head, All-tail, All-from_recursion}
use Rattle.std.proofs.lemmas.Str.{IsUtf8-from_ascii, is_utf8-from_IsUtf8}
use Rattle.std.proofs.lemmas.Str.Ascii.{IsAscii-from_all}
use Rattle.ctw_ops.specs.declared.types.Label.{Label}
use Rattle.ctw_ops.specs.Tree.{Module, Function, Global, Custom}
use Rattle.ctw_ops.specs.Typing.{optional}
use Rattle.ctw_ops.specs.Limits.{most_params, most_locals_of_all, most_plain_bytes}
use Rattle.ctw_leb.specs.Spelling.{shortest, u32_text}
use Rattle.ctw_form.specs.Spelled.{magic, version, Spells}
use Rattle.ctw_write.specs.Canon.{vector_text, section_text, type_entry_text, memory_text, export_text, code_text, items_text, canon}
use Rattle.ctw_write.specs.KeepsLimits.{IsLimitedEntry, IsLimitedImport, IsLimitedConstant, IsLimitedExport, IsLimitedElement, IsLimitedSegment, IsLimitedCustom, contents, IsShort, KeepsLimits}
use Rattle.ctw_write.proofs.FormedModules.{formed_spelled, only_formed}
use Rattle.ctw_gen.specs.Workload.{functions, workload_module}
use Rattle.ctw_gen.proofs.Few.{number_few}
use Rattle.ctw_gen.proofs.Sections.{exports_are, exports_few, functions_section, uses_short, codes_short, canon_is}
use Rattle.ctw_gen.proofs.Formed.{IsGood, functions_good, good_limited, module_formed}

no_locals : (l : List (Function Label)) → All IsGood l → sum_by (λ f. length f.locals) l ≡ 0
no_locals [] h = refl
no_locals (f ∷ l) h = omega (arith, sum_by-cons (λ (g : Function Label). length g.locals) f l, (All-head IsGood f l h).no_locals, no_locals l (All-tail IsGood f l h))

main_text : is_utf8 (codes "main") ≡ true
main_text = is_utf8-from_IsUtf8 (codes "main") (IsUtf8-from_ascii (codes "main") (IsAscii-from_all (codes "main") (All-from_recursion (λ b. b < 128) (codes "main") (omega arith, (omega arith, (omega arith, (omega arith, tt)))))))

mem_text : is_utf8 (codes "mem") ≡ true
mem_text = is_utf8-from_IsUtf8 (codes "mem") (IsUtf8-from_ascii (codes "mem") (IsAscii-from_all (codes "mem") (All-from_recursion (λ b. b < 128) (codes "mem") (omega arith, (omega arith, (omega arith, tt))))))

exports_long : (seed size : ℕ) → size ≤ 20000 → length (vector_text export_text (workload_module seed size).exports) ≤ 20
exports_long seed size le = omega (arith, ap length (exports_are seed size), exports_few size le)

contents_short : (seed size : ℕ) → size ≤ 20000 → All IsShort (contents (workload_module seed size))
unfolding u32_text shortest
contents_short seed size le =
    All-from_recursion IsShort (contents (workload_module seed size)) (
      omega arith,
      (
        omega arith,
        (
          omega (arith, uses_short seed size le),
          (omega arith, (omega arith, (omega arith, (omega (arith, exports_long seed size le), (omega arith, (omega (arith, codes_short seed size le), (omega arith, tt))))))),
        ),
      ),
    )

section_few : (id : ℕ) (text : List ℕ) (most : ℕ) → length text ≤ most → most < 2097152 → length (section_text id text) ≤ most + 4
section_few id text most le few = omega (arith, length-append (u32_text (length text)) text, number_few (length text) (omega arith))

canon_short : (seed size : ℕ) → size ≤ 20000 → length (canon (workload_module seed size)) ≤ most_plain_bytes
unfolding most_plain_bytes u32_text shortest
canon_short seed size le =
    let w = workload_module seed size in
    let use_text = λ (f : Function Label). u32_text f.type in
    let header = magic ++ version false in
    let types = items_text 1 type_entry_text w.types in
    let uses = items_text 3 use_text (functions seed size) in
    let memory = items_text 5 memory_text (optional w.memory) in
    let exports = items_text 7 export_text w.exports in
    let coded = items_text 10 code_text (functions seed size) in
    let types_long : length types ≡ 14 = refl in
    let uses_most : length uses ≤ 20014 = omega (arith, ap length (functions_section 3 use_text seed size), section_few 3 (vector_text use_text (functions seed size)) 20010 (uses_short seed size le) (omega arith)) in
    let memory_long : length memory ≡ 5 = refl in
    let exports_most : length exports ≤ 24 = section_few 7 (vector_text export_text w.exports) 20 (exports_long seed size le) (omega arith) in
    let codes_most : length coded ≤ 820104 =
    omega (arith, ap length (functions_section 10 code_text seed size), section_few 10 (vector_text code_text (functions seed size)) 820100 (codes_short seed size le) (omega arith)) in
    let header_long : length header ≡ 8 = refl in
    omega (
      arith,
      ap length (canon_is seed size),
      length-append header types,
      length-append (header ++ types) uses,
      length-append ((header ++ types) ++ uses) memory,
      length-append (((header ++ types) ++ uses) ++ memory) exports,
      length-append ((((header ++ types) ++ uses) ++ memory) ++ exports) coded,
    )

module_kept : (seed size : ℕ) → size ≤ 20000 → KeepsLimits (workload_module seed size)
unfolding most_params most_locals_of_all
module_kept seed size le = record {
  profile = refl;
  types = All-from_recursion IsLimitedEntry (workload_module seed size).types ((tt, omega arith), ((tt, omega arith), tt));
  imports = All-nil IsLimitedImport;
  functions = good_limited (functions seed size) (functions_good seed size le);
  locals = omega (arith, no_locals (functions seed size) (functions_good seed size le));
  table = tt;
  memory = (omega arith, tt);
  globals = All-nil (λ (g : Global Label). IsLimitedConstant g.init);
  exports = All-from_recursion IsLimitedExport (workload_module seed size).exports ((main_text, omega arith), ((mem_text, omega arith), tt));
  start = tt;
  elements = All-nil IsLimitedElement;
  segments = All-nil IsLimitedSegment;
  sections = contents_short seed size le;
  customs = All-nil (IsLimitedCustom (workload_module seed size));
  rising = IsNonDecreasingBy-short (λ (c : Custom). c.place) [] (omega arith);
  plain_bytes = λ e. canon_short seed size le;
}

pub module_spelled : (seed size : ℕ) → size ≤ 20000 → Spells (canon (workload_module seed size)) (workload_module seed size)
module_spelled seed size le = formed_spelled (workload_module seed size) (module_formed seed size le) (module_kept seed size le)

pub module_only : (seed size : ℕ) (m : Module Label) → size ≤ 20000 → Spells (canon (workload_module seed size)) m → m ≡ workload_module seed size
module_only seed size m le s = only_formed (workload_module seed size) m (module_formed seed size le) (module_kept seed size le) s
