-- The sections of a module without limits together are its canonical bytes.
use Rattle.std.proofs.Common.{◌≡◌, ℕ, Bool, List, [], ◌++◌, ap, ◌∙◌, append_assoc}
use Rattle.ctw_leb.specs.Spelling.{u32_text}
use Rattle.ctw_form.specs.Spelled.{magic, version}
use Rattle.ctw_text.specs.Names.{Wide, WideFunction}
use Rattle.ctw_text.specs.Limits.{first}
use Rattle.ctw_write.specs.Canon.{table_text, memory_text, import_text, export_text, global_text, element_text, segment_text, items_text, start_text, customs_text, placed_text}
use Rattle.ctw_parse.specs.WideCanon.{wide_entry_text, wide_code_text, wide_sections_text, wide_canon}

regrouped : (o a b c d e f g h i j k l : List ℕ) → o ++ a ++ b ++ c ++ d ++ e ++ f ++ g ++ h ++ i ++ j ++ k ++ l ≡ o ++ (a ++ b ++ c ++ d ++ e ++ f ++ g ++ h ++ i ++ j ++ k ++ l)
regrouped o a b c d e f g h i j k l = simp append_assoc

-- the sections one after another
pub sections_joined : (m : Wide) (start one two three four : List ℕ)
    → one ≡ start ++ customs_text 0 m.customs ++ placed_text 1 (items_text 1 wide_entry_text m.types) m.customs ++ placed_text 2 (items_text 2 import_text m.imports) m.customs ++ placed_text 3 (items_text 3 (λ f. u32_text f.type) m.functions) m.customs
    → two ≡ one ++ placed_text 4 (items_text 4 table_text m.tables) m.customs ++ placed_text 5 (items_text 5 memory_text m.memories) m.customs ++ placed_text 6 (items_text 6 global_text m.globals) m.customs
    → three ≡ two ++ placed_text 7 (items_text 7 export_text m.exports) m.customs ++ placed_text 8 (start_text (first m.start)) m.customs ++ placed_text 9 (items_text 9 element_text m.elements) m.customs
    → four ≡ three ++ placed_text 10 (items_text 10 wide_code_text m.functions) m.customs ++ placed_text 11 (items_text 11 segment_text m.segments) m.customs
    → four ≡ start ++ wide_sections_text m
unfolding wide_sections_text
sections_joined m start one two three four p q r s =
    let p4 = placed_text 4 (items_text 4 table_text m.tables) m.customs in
    let p5 = placed_text 5 (items_text 5 memory_text m.memories) m.customs in
    let p6 = placed_text 6 (items_text 6 global_text m.globals) m.customs in
    let p7 = placed_text 7 (items_text 7 export_text m.exports) m.customs in
    let p8 = placed_text 8 (start_text (first m.start)) m.customs in
    let p9 = placed_text 9 (items_text 9 element_text m.elements) m.customs in
    let p10 = placed_text 10 (items_text 10 wide_code_text m.functions) m.customs in
    let p11 = placed_text 11 (items_text 11 segment_text m.segments) m.customs in
    s ∙ ap (λ (l : List ℕ). l ++ p10 ++ p11) (r ∙ ap (λ (l : List ℕ). l ++ p7 ++ p8 ++ p9) (q ∙ ap (λ (l : List ℕ). l ++ p4 ++ p5 ++ p6) p))
    ∙ regrouped start (customs_text 0 m.customs) (placed_text 1 (items_text 1 wide_entry_text m.types) m.customs) (placed_text 2 (items_text 2 import_text m.imports) m.customs) (placed_text 3 (items_text 3 (λ (f : WideFunction). u32_text f.type) m.functions) m.customs) p4 p5 p6 p7 p8 p9 p10 p11

-- the whole file
pub canon_joined : (m : Wide) (ct : Bool) (start header whole : List ℕ) → start ≡ [] → ct ≡ m.ct → header ≡ start ++ magic ++ version ct → whole ≡ header ++ wide_sections_text m → whole ≡ wide_canon m
unfolding wide_canon
canon_joined m ct start header whole s c h w =
    w ∙ ap (λ (l : List ℕ). l ++ wide_sections_text m) (h ∙ ap (λ (l : List ℕ). l ++ magic ++ version ct) s) ∙ ap (λ (b : Bool). magic ++ version b ++ wide_sections_text m) c
